-- For every check, version and text: the answer's number is 0 or one of the check's refusals, its offset and its count are at most the text's length, and its fields
-- are those of its number. The same for the check of a literal, by the check that its kind letter names, or 30.
-- Assumes nothing.
use Rattle.std.specs.Prelude.{Option}
use Prim.Native.Nat.{ℕ, ◌-◌, ◌≤◌}
use mathlib.Core.Path.{◌≡◌}
use mathlib.Core.Bool.{true}
use mathlib.Core.List.{List}
use lib.ListN.{length}
use Rattle.luck_text.specs.Bytes.{among}
use Rattle.luck_answer.proofs.Answers.{Whole, fits_whole, fits_numbered}
use Rattle.luck_linter.specs.Checks.{Check, check_of, answer, numbers, named_numbers}
use Rattle.luck_linter.specs.StringLiteral.{check_literal}
use Rattle.luck_linter.proofs.Checked.{bounded}
use Rattle.luck_linter.proofs.LiteralAnswers.{literal_bounded}

module _ (check : Check) (version : ℕ) (text : List ℕ) where
  pub refusals : ((answer check version text).offset ≤ length text) × (among (answer check version text).number (numbers check) ≡ true)
  refusals = let b = bounded check version text in (b.0, fits_numbered (numbers check) (answer check version text) b.1)

  pub wholes : Whole (answer check version text)
  wholes = fits_whole (numbers check) (answer check version text) (bounded check version text).1

  pub counts : (answer check version text).count ≤ length text
  counts = (bounded check version text).2

module _ (kind : ℕ) (captures : Option ℕ) (start version : ℕ) (text : List ℕ) where
  pub literal_refusals : ((check_literal kind version captures start text).answer.offset ≤ length text)
      × (among (check_literal kind version captures start text).answer.number (named_numbers (check_of kind captures)) ≡ true)
  literal_refusals =
      let b = (literal_bounded start text kind captures version).0 in
      (b.0, fits_numbered (named_numbers (check_of kind captures)) (check_literal kind version captures start text).answer b.1)

  pub literal_wholes : Whole (check_literal kind version captures start text).answer
  literal_wholes =
      fits_whole (named_numbers (check_of kind captures)) (check_literal kind version captures start text).answer (literal_bounded start text kind captures version).0.1

  pub literal_counts : (check_literal kind version captures start text).answer.count ≤ length text
  literal_counts = (literal_bounded start text kind captures version).0.2

  -- a refusal of a literal's body, which alone has a span, counts its offset in the body: the text without its two quotes
  pub body_refusals : (check_literal kind version captures start text).spanned ≡ true → (check_literal kind version captures start text).answer.offset ≤ length text - 2
  body_refusals = (literal_bounded start text kind captures version).1
