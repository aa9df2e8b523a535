-- What is tested before a walk: the version, then UTF-8. The laws are those of every text; `checks` is for the checks of
-- the code, which walk by the rules that `read_text` gives.
-- Assumes nothing.
use Rattle.std.specs.Prelude.{ℕ, List, None, Some, Ok, Err}
use Prim.Native.Nat.{◌<◌}
use mathlib.Core.Path.{◌≡◌, sym}
use mathlib.Core.Bool.{true, false}
use lib.ListN.{length}
use Rattle.luck_token.specs.Version.{is_version, rules_of}
use Rattle.luck_token.specs.Text.{read_text}
use Rattle.luck_token.specs.declared.version.Rules.{Rules}
use Rattle.luck_token.specs.declared.text.TextError.{TextError}
use Rattle.luck_token.proofs.Texts as every
use Rattle.luck_utf8.specs.Utf8.{ill_formed}
use Rattle.luck_answer.specs.Answer.{Answer, refused, text_refused, check_text}

module _ (version : ℕ) (text : List ℕ) (walked : Answer) where
  pub text_fine : is_version version ≡ true → None ≡ ill_formed text → walked ≡ check_text version text walked
  unfolding check_text
  text_fine = every.text_fine refused version text walked

  pub text_ill_formed : is_version version ≡ true → (place : ℕ) → Some place ≡ ill_formed text → refused 23 place ≡ check_text version text walked
  unfolding check_text
  text_ill_formed = every.text_ill_formed refused version text walked

  pub text_unknown_version : is_version version ≡ false → refused 25 0 ≡ check_text version text walked
  unfolding check_text
  text_unknown_version = every.text_unknown_version refused version text walked

  pub in_any_case : (P : Answer → Type 0) → P (refused 25 0) → ((place : ℕ) → place < length text → P (refused 23 place)) → P walked
      → P (check_text version text walked)
  unfolding check_text
  in_any_case P of_25 of_23 of_walk = every.in_any_case P refused text walked of_25 of_23 of_walk version

-- what `read_text` gives, then the walk: a refusal is the check's answer, and rules are those of the version
module _ (version : ℕ) (text : List ℕ) where
  pub by_error : (e : TextError) → read_text version text ≡ Err e → (walked : Answer) → text_refused e ≡ check_text version text walked
  unfolding check_text
  by_error e read walked = every.by_error version text refused e read walked

  pub by_rules : (rules : Rules) → read_text version text ≡ Ok rules → rules_of version ≡ rules
  by_rules rules read = let (e, fine) = every.by_rules version text refused rules read in sym e

  pub by_walk : (walked : Answer) (rules : Rules) → read_text version text ≡ Ok rules → check_text version text walked ≡ walked
  unfolding check_text
  by_walk walked rules read = let (e, fine) = every.by_rules version text refused rules read in sym (fine walked)

-- for a function that reads a text, walks over it by the rules and answers what the walk found
pub ruleset checks = (by_error, by_rules, by_walk)
