-- Where nothing can be refused (F-6 of document 02, and document 03 on it): a replacement of 5.1 with captures unknown, or known to be 9 or more, is accepted once it is
-- known to be UTF-8; under 5.1 with every lower count, and under every other version, some text is refused.
-- Assumes nothing.
use Rattle.std.specs.Prelude.{Option, None, Some}
use Prim.Native.Nat.{ℕ, ◌≤◌, ◌<◌}
use native.Mathlib.Omega.{arith}
use mathlib.Core.Path.{◌≡◌}
use mathlib.Core.Logic.{◌⊎◌, inl, inr, ⊎_elim}
use mathlib.Core.Bool.{true, false}
use mathlib.Core.List.{List}
use Rattle.luck_text.specs.Bytes.{ascii}
use Rattle.luck_text.proofs.Cases.{order}
use Rattle.luck_token.specs.Version.{is_version}
use Rattle.luck_utf8.specs.Utf8.{ill_formed}
use Rattle.luck_answer.specs.Answer.{accepted, refused, check_text}
use Rattle.luck_replacement.specs.Replacement.{pieces, pieces_walk, check_replacement}
use Rattle.luck_replacement.proofs.Unread.{unknown_allows, from_nine_allows, unread, no_more_tested, accepts_utf8, nine_refused, lone_refused}

abbrev pub UnknownOrFromNine : Option ℕ → Type 0
UnknownOrFromNine None = Unit {0}
UnknownOrFromNine (Some count) = 9 ≤ count

abbrev pub BelowNine : Option ℕ → Type 0
BelowNine None = ⊥
BelowNine (Some count) = count < 9

-- without strict rules the walk accepts, whatever the pieces of the text
pub walk_accepts : (captures : Option ℕ) (text : List ℕ) → UnknownOrFromNine captures → pieces_walk false captures (pieces text) 0 ≡ accepted 0
walk_accepts None text h = unread None text unknown_allows
walk_accepts (Some count) text h = unread (Some count) text (from_nine_allows count (omega (arith, h)))

-- so under 5.1 no more is tested than the version and UTF-8
pub only_utf8 : (captures : Option ℕ) (text : List ℕ) → UnknownOrFromNine captures → check_replacement 1 captures text ≡ check_text 1 text (accepted 0)
only_utf8 None text h = no_more_tested None text unknown_allows
only_utf8 (Some count) text h = no_more_tested (Some count) text (from_nine_allows count (omega (arith, h)))

pub accepted_once_utf8 : (captures : Option ℕ) (text : List ℕ) → UnknownOrFromNine captures → ill_formed text ≡ None
    → check_replacement 1 captures text ≡ accepted 0
accepted_once_utf8 None text h utf8 = accepts_utf8 None text unknown_allows utf8
accepted_once_utf8 (Some count) text h utf8 = accepts_utf8 (Some count) text (from_nine_allows count (omega (arith, h))) utf8

-- with every other count 5.1 refuses some text
pub refused_below_nine : (captures : Option ℕ) → BelowNine captures → check_replacement 1 captures (ascii "%9") ≡ refused 21 1
refused_below_nine None h = absurd h
refused_below_nine (Some count) h = nine_refused count h

pub no_count_left_out : (captures : Option ℕ) → UnknownOrFromNine captures ⊎ BelowNine captures
no_count_left_out None = inl tt
no_count_left_out (Some count) = ⊎_elim inr inl (order count 9)

-- every other version refuses some text, whatever the captures
pub refused_in_other_versions : (version : ℕ) (captures : Option ℕ) → is_version version ≡ true → (version ≡ 1 → ⊥)
    → check_replacement version captures (ascii "%") ≡ refused 19 0
refused_in_other_versions = lone_refused
