-- A trial of an accepted pattern and an accepted replacement raises nothing.
-- Assumes nothing.
use Rattle.std.specs.Prelude.{Some}
use Prim.Native.Nat.{ℕ}
use native.Mathlib.Omega.{arith}
use mathlib.Core.Path.{◌≡◌}
use mathlib.Core.Bool.{Bool, false}
use mathlib.Core.List.{List, []}
use Rattle.luck_answer.specs.Answer.{accepted}
use Rattle.luck_pattern.specs.Pattern.{check_pattern_as}
use Rattle.luck_pattern.specs.Items.{items}
use Rattle.luck_token.specs.Version.{rules_of}
use Rattle.luck_replacement.specs.Replacement.{is_strict, pieces, pieces_walk}
use Rattle.lstr_class.specs.Class.{class_of}
use Rattle.lstr_gsub.specs.Gsub.{writer_of, gsub}
use Rattle.lstr_gsub.proofs.Runs.{gsub_fine}
use Rattle.lstr_item.specs.Match.{flags_of}
use Rattle.lstr_laws.proofs.Sound.{AllClosed, NotRaised, match_sound}
use Rattle.lstr_laws.proofs.Accepted.{well_formed, anchored_well_formed}
use Rattle.lstr_gsub.proofs.Writings.{pieces_quiet}

-- the replacement's walk is accepted, strict where the trial's version is
pub quiet : (ranges : Bool) (v version n k : ℕ) (strict : Bool) (pat rep sub : List ℕ) (budget room : ℕ) → check_pattern_as ranges v pat ≡ accepted n
    → pieces_walk strict (Some n) (pieces rep) 0 ≡ accepted k → (strict ≡ false → is_strict (rules_of version) ≡ false) → (gsub version pat rep sub budget room).number ≡ 29 → ⊥
unfolding writer_of
quiet ranges v version n k strict pat rep sub budget room ok walk old =
    (gsub_fine (λ u. Unit {0}) NotRaised (λ cs. AllClosed n (flags_of cs)) version pat rep sub budget room tt
    (λ u h e. omega arith) (λ e. omega arith) (λ u h e. omega arith)
    (λ s e cs all u h out. pieces_quiet sub room s e cs n all strict (is_strict (rules_of version)) old k (pieces rep) 0 walk out)
    (λ s u h. (match_sound (class_of version) sub budget n (items pat 0) [] (well_formed ranges v pat n ok) s 1 u tt).holds)
    (λ t s u h. (match_sound (class_of version) sub budget n (items pat 1) [] (anchored_well_formed ranges v pat n ok t) s 1 u tt).holds)).ending
