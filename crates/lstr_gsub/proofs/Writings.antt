-- Writing an accepted replacement for a match whose captures are all closed raises nothing, and one that is accepted under a version with strict
-- replacements is written alike under all versions.
-- Assumes nothing.
use Rattle.std.specs.Prelude.{Option, Some}
use Prim.Native.Nat.{ℕ, zero, suc, ◌+◌, ◌-◌, ◌≤◌, ◌<◌, max}
use native.Mathlib.Omega.{arith}
use mathlib.Core.Path.{◌≡◌, refl, sym, ap, subst, ◌∙◌, fun_ext}
use mathlib.Core.Bool.{Bool, true, false, true≢false}
use mathlib.Core.List.{List, [], ◌∷◌}
use lib.ListN.{length, get_or}
use lib.Dec.{eqb, leb}
use borrow.Author.Tests.{eqb-false, leb-true, leb-false}
use Rattle.luck_text.specs.Bytes.{when◌then◌else◌, part, among}
use Rattle.luck_token.specs.Version.{is_version, versions, has, rules_of}
use Rattle.luck_text.proofs.Cases.{by_test, and_left, and_right}
use Rattle.luck_token.specs.Text.{after_version, after_text}
use Rattle.luck_answer.specs.Answer.{Answer, accepted, refused, check_text}
use Rattle.luck_pattern.specs.Captures.{all_closed}
use Rattle.luck_replacement.specs.Replacement.{
  is_strict,
  Piece,
  literal,
  digit,
  percent,
  other,
  lone,
  pieces,
  allows_digit,
  pieces_walk,
  check_replacement,
}
use Rattle.lstr_item.specs.Match.{Capture, opened, position, closed, is_finished, flags_of}
use Rattle.lstr_write.specs.Replace.{and_then, append, decimal, add_capture, add_digit, add_piece, add_pieces}
use Rattle.lstr_gsub.specs.Gsub.{writer_of}
use Rattle.lstr_gsub.proofs.Runs.{WroteFine, append_fine, then_fine}
use Rattle.lstr_laws.proofs.Sound.{AllClosed, length_flags, flags_get_or}
use Rattle.lstr_laws.proofs.Accepted.{refused_accepted, if_passed, text_accepted}

-- ---- The version

-- a replacement that is accepted under a version other than 5.1 is accepted by the strict walk
strict_of : (version : ℕ) → is_version version ≡ true → (version ≡ 1 → ⊥) → is_strict (rules_of version) ≡ true
unfolding rules_of has is_version versions among
strict_of zero v n = absurd (true≢false (sym v))
strict_of (suc zero) v n = absurd (n refl)
strict_of (suc (suc zero)) v n = refl
strict_of (suc (suc (suc zero))) v n = refl
strict_of (suc (suc (suc (suc zero)))) v n = refl
strict_of (suc (suc (suc (suc (suc zero))))) v n = refl
strict_of (suc (suc (suc (suc (suc (suc zero)))))) v n = refl
strict_of (suc (suc (suc (suc (suc (suc (suc k))))))) v n = absurd (omega (arith, leb-true (suc (suc (suc (suc (suc (suc (suc k))))))) 6 (and_right (leb 1 (suc (suc (suc (suc (suc (suc (suc k)))))))) _ v)))

version_accepted : (version : ℕ) (text : List ℕ) (walked : Answer) (k : ℕ) → check_text version text walked ≡ accepted k → is_version version ≡ true
unfolding check_text after_text after_version
version_accepted version text walked k e = (if_passed (is_version version) _ 25 0 k (omega arith) e).0

module _ (version : ℕ) (count : Option ℕ) (rep : List ℕ) (k : ℕ) (ok : check_replacement version count rep ≡ accepted k) where
  pub walk_accepted : pieces_walk (is_strict (rules_of version)) count (pieces rep) 0 ≡ accepted k
  unfolding check_replacement
  walk_accepted = text_accepted version rep _ k ok

  pub strict_accepted : (version ≡ 1 → ⊥) → pieces_walk true count (pieces rep) 0 ≡ accepted k
  unfolding check_replacement
  strict_accepted n =
      subst (λ (strict : Bool). pieces_walk strict count (pieces rep) 0 ≡ accepted k) (strict_of version (version_accepted version rep _ k ok) n) walk_accepted

-- ---- What an accepted walk says of each piece

module _ (k : ℕ) where
  if_refused : (b : Bool) (x : Answer) (number offset : ℕ) → 0 < number → (when b then refused number offset else x) ≡ accepted k → (b ≡ false) × (x ≡ accepted k)
  unfolding when◌then◌else◌
  if_refused true x number offset h e = refused_accepted (refused number offset) k e h
  if_refused false x number offset h e = (refl, e)

-- ---- Nothing is raised

abbrev Quiet : ℕ → ℕ → Type 0
Quiet number kind = number ≡ 29 → ⊥

pub all_closed_lem : (flags : List Bool) → all_closed flags ≡ true → (i : ℕ) → i < length flags → get_or flags i false ≡ true
unfolding all_closed
all_closed_lem [] e i h = absurd (omega arith)
all_closed_lem (b ∷ flags) e zero h = and_left b (all_closed flags) e
all_closed_lem (b ∷ flags) e (suc i) h = all_closed_lem flags (and_right b (all_closed flags) e) i (omega arith)

capture_quiet : (sub : List ℕ) (room : ℕ) (c : Capture) → is_finished c ≡ true → (out : List ℕ) → WroteFine Quiet (add_capture sub room c out)
unfolding add_capture
capture_quiet sub room (opened s) e out = absurd (true≢false (sym e))
capture_quiet sub room (position s) e out = append_fine Quiet (λ z. omega arith) room (decimal (s + 1)) out
capture_quiet sub room (closed s n) e out = append_fine Quiet (λ z. omega arith) room (part sub s (s + n)) out

module _ (sub : List ℕ) (room s e : ℕ) (cs : List Capture) (n : ℕ) (all : AllClosed n (flags_of cs)) where
  digit_quiet : (d : ℕ) → d ≤ max n 1 → (out : List ℕ) → WroteFine Quiet (add_digit sub room s e cs d out)
  unfolding add_digit
  digit_quiet d h out =
      let len : length cs ≡ n = sym (length_flags cs) ∙ all.count in
      let whole = append_fine Quiet (λ z. omega arith) room (part sub s e) out in
      by_test (WroteFine Quiet) (eqb d 0) _ _ (λ t. whole)
      (λ t0.
      by_test (WroteFine Quiet) (leb d (length cs)) _ _
      (λ t.
      capture_quiet sub room (get_or cs (d - 1) (opened 0))
      (sym (flags_get_or cs (d - 1)) ∙ all_closed_lem (flags_of cs) all.closed (d - 1) (omega (arith, eqb-false d 0 t0, leb-true d (length cs) t, length_flags cs))) out)
      (λ t.
      by_test (WroteFine Quiet) (eqb d 1) _ _ (λ t1. whole)
      (λ t1. absurd (omega (arith, eqb-false d 0 t0, eqb-false d 1 t1, leb-false d (length cs) t)))))

  -- accepted by the walk, and written as strictly or less
  pub pieces_quiet : (strict writes : Bool) → (strict ≡ false → writes ≡ false) → (k : ℕ) (ps : List Piece) (p : ℕ) → pieces_walk strict (Some n) ps p ≡ accepted k
      → (out : List ℕ) → WroteFine Quiet (add_pieces sub room s e cs writes ps out)
  unfolding pieces_walk add_pieces add_piece allows_digit
  pieces_quiet strict writes old k [] p ok out = tt
  pieces_quiet strict writes old k (literal b ∷ ps) p ok out =
      then_fine Quiet _ _ (append_fine Quiet (λ z. omega arith) room (b ∷ []) out) (λ now. pieces_quiet strict writes old k ps (p + 1) ok now)
  pieces_quiet strict writes old k (digit d ∷ ps) p ok out =
      let y = if_passed (leb d (max n 1)) (pieces_walk strict (Some n) ps (p + 2)) 21 (p + 1) k (omega arith) ok in
      then_fine Quiet _ _ (digit_quiet d (leb-true d (max n 1) y.0) out) (λ now. pieces_quiet strict writes old k ps (p + 2) y.1 now)
  pieces_quiet strict writes old k (percent ∷ ps) p ok out =
      then_fine Quiet _ _ (append_fine Quiet (λ z. omega arith) room (37 ∷ []) out) (λ now. pieces_quiet strict writes old k ps (p + 2) ok now)
  pieces_quiet strict writes old k (other b ∷ ps) p ok out =
      let y = if_refused k strict (pieces_walk strict (Some n) ps (p + 2)) 20 (p + 1) (omega arith) ok in
      then_fine Quiet _ _
      (by_test (WroteFine Quiet) writes _ _ (λ t. absurd (true≢false (sym t ∙ old y.0))) (λ t. append_fine Quiet (λ z. omega arith) room (b ∷ []) out))
      (λ now. pieces_quiet strict writes old k ps (p + 2) y.1 now)
  pieces_quiet strict writes old k (lone ∷ ps) p ok out =
      let y = if_refused k strict (pieces_walk strict (Some n) ps (p + 1)) 19 p (omega arith) ok in
      then_fine Quiet _ _
      (by_test (WroteFine Quiet) writes _ _ (λ t. absurd (true≢false (sym t ∙ old y.0))) (λ t. append_fine Quiet (λ z. omega arith) room (0 ∷ []) out))
      (λ now. pieces_quiet strict writes old k ps (p + 1) y.1 now)

-- ---- Alike under all versions

module _ (sub : List ℕ) (room s e : ℕ) (cs : List Capture) (count : Option ℕ) (k : ℕ) where
  pieces_alike : (a b : Bool) (ps : List Piece) (p : ℕ) → pieces_walk true count ps p ≡ accepted k → (out : List ℕ)
      → add_pieces sub room s e cs a ps out ≡ add_pieces sub room s e cs b ps out
  unfolding pieces_walk add_pieces add_piece when◌then◌else◌
  pieces_alike a b [] p ok out = refl
  pieces_alike a b (literal x ∷ ps) p ok out = ap (and_then (append room (x ∷ []) out)) (fun_ext (pieces_alike a b ps (p + 1) ok))
  pieces_alike a b (digit d ∷ ps) p ok out =
      let y = if_passed (allows_digit count d) (pieces_walk true count ps (p + 2)) 21 (p + 1) k (omega arith) ok in
      ap (and_then (add_digit sub room s e cs d out)) (fun_ext (pieces_alike a b ps (p + 2) y.1))
  pieces_alike a b (percent ∷ ps) p ok out = ap (and_then (append room (37 ∷ []) out)) (fun_ext (pieces_alike a b ps (p + 2) ok))
  pieces_alike a b (other c ∷ ps) p ok out = refused_accepted (refused 20 (p + 1)) k ok (omega arith)
  pieces_alike a b (lone ∷ ps) p ok out = refused_accepted (refused 19 p) k ok (omega arith)

pub writers_alike : (count : Option ℕ) (k : ℕ) (rep sub : List ℕ) (room a b : ℕ) → pieces_walk true count (pieces rep) 0 ≡ accepted k
    → writer_of a rep sub room ≡ writer_of b rep sub room
unfolding writer_of
writers_alike count k rep sub room a b ok =
    fun_ext (λ s. fun_ext (λ e. fun_ext (λ cs. fun_ext (λ out. pieces_alike sub room s e cs count k (is_strict (rules_of a)) (is_strict (rules_of b)) (pieces rep) 0 ok out))))
