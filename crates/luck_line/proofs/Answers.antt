-- The number, the offset and the count of a line's answer, and that its fields are those of its number.
-- Assumes nothing.
use Rattle.std.specs.Prelude.{Option, None, Some}
use Prim.Native.Nat.{ℕ, ◌-◌, ◌≤◌}
use native.Mathlib.Omega.{arith}
use mathlib.Core.Path.{◌≡◌, refl}
use mathlib.Core.Bool.{true, false}
use mathlib.Core.List.{List, [], ◌∷◌}
use lib.ListN.{length, drop, length-drop}
use lib.Dec.{ltb}
use borrow.Author.Tests.{ltb-false}
use Rattle.luck_text.specs.Bytes.{when◌then◌else◌, byte_at, among}
use Rattle.luck_text.proofs.Cases.{by_test}
use Rattle.luck_answer.specs.Answer.{Answer, refused}
use Rattle.luck_answer.proofs.Answers.{Whole, whole}
use Rattle.luck_replacement.specs.Replacement.{allows_digit}
use Rattle.luck_linter.specs.Checks.{Check, pattern, format, date, replacement, pack, answer, numbers}
use Rattle.luck_text.proofs.Among.{Every, every_among}
use Rattle.luck_linter.proofs.Refusals.{refusals, counts, wholes}
use Rattle.luck_line.specs.Line.{longest, head_check, body_answer, line_answer, line_numbers}

abbrev Fits : ℕ → Answer → Type 0
Fits len a = (a.offset ≤ len) × (among a.number line_numbers ≡ true) × (a.count ≤ len)

-- the numbers of each check are among those of a line
all : (check : Check) → Every (λ n. among n line_numbers ≡ true) (numbers check)
unfolding among when◌then◌else◌ allows_digit
all (pattern false) = (refl, (refl, (refl, (refl, (refl, (refl, (refl, (refl, (refl, (refl, tt))))))))))
all (pattern true) = (refl, (refl, (refl, (refl, (refl, (refl, (refl, (refl, (refl, (refl, (refl, tt)))))))))))
all format = (refl, (refl, (refl, (refl, (refl, (refl, (refl, (refl, (refl, (refl, tt))))))))))
all date = (refl, (refl, (refl, (refl, (refl, tt)))))
all (replacement captures) = (refl, (refl, (refl, (refl, (refl, by_test (Every (λ n. among n line_numbers ≡ true)) (allows_digit captures 9) [] (21 ∷ []) (λ _. tt) (λ _. (refl, tt)))))))
all (pack false) = (refl, (refl, (refl, (refl, (refl, (refl, (refl, tt)))))))
all (pack true) = (refl, (refl, (refl, (refl, (refl, (refl, (refl, (refl, tt))))))))

body_fits : (check : Option Check) (version : ℕ) (body : List ℕ) → Fits (length body) (body_answer check version body)
unfolding body_answer among
body_fits None version body = (omega arith, refl, omega arith)
body_fits (Some check) version body =
    let r = refusals check version body in
    (r.0, every_among (λ n. among n line_numbers ≡ true) (numbers check) (all check) (answer check version body).number r.1, counts check version body)

body_whole : (check : Option Check) (version : ℕ) (body : List ℕ) → Whole (body_answer check version body)
unfolding body_answer
body_whole None version body = whole (refused 30 0) refl
body_whole (Some check) version body = wholes check version body

too_long_fits : (len : ℕ) → Fits len (refused 31 0)
unfolding among
too_long_fits len = (omega arith, refl, omega arith)

module _ (line : List ℕ) where
  body_length : (len : ℕ) (a : Answer) → length line - 5 ≤ len → Fits (length (drop 5 line)) a → Fits len a
  body_length len a h f = (omega (arith, f.0, length-drop 5 line), f.1, omega (arith, f.2, length-drop 5 line))

  fits : (len : ℕ) → (ltb longest (length line) ≡ false → length line - 5 ≤ len) → Fits len (line_answer line)
  unfolding line_answer
  fits len h =
      by_test (Fits len) (ltb longest (length line)) _ _ (λ _. too_long_fits len)
      (λ e. body_length len (body_answer (head_check line) (byte_at line 1 - 48) (drop 5 line)) (h e) (body_fits (head_check line) (byte_at line 1 - 48) (drop 5 line)))

  -- offset and count are at most the length of the body, and in no line more than 4,000, since a longer body is 31
  pub line_fits : Fits (length line - 5) (line_answer line)
  line_fits = fits (length line - 5) (λ _. omega arith)

  pub row_fits : Fits 4000 (line_answer line)
  row_fits = fits 4000 (λ e. omega (arith, ltb-false longest (length line) e))

  -- accepted it has no offset, refused no count
  pub line_whole : Whole (line_answer line)
  unfolding line_answer
  line_whole =
      by_test Whole (ltb longest (length line)) _ _ (λ _. whole (refused 31 0) refl)
      (λ _. body_whole (head_check line) (byte_at line 1 - 48) (drop 5 line))
