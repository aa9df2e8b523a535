-- What the reader of a stored question promises to those who use it. Assumes nothing.
use Rattle.std.specs.Prelude.{ℕ, ◌≡◌, ◌+◌, ◌<◌, ◌≤◌, length}
use Rattle.stored_questions.specs.declared.question.Question.{Question}

-- the answer behind the question has this width, and the next record stands right behind it: behind the question's place,
-- its first 9 bytes, its text and its answer, and not behind a file of this length
pub record Asks (p width len : ℕ) (q : Question) : Type 0 where
  pub answer : length q.answer.now ≡ width
  pub next : p + 9 + length q.text.now + width ≡ q.next
  pub behind : p < q.next
  pub within : q.next ≤ len
