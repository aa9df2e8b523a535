-- What the run over the subject keeps: K of the steps and of what is written, and E of the number, the kind, the steps and what was written that it ends with,
-- from the same of each attempt and of each writing. `gsub_fine` is the law for those who do not look at what is written.
-- Assumes nothing.
use Rattle.std.specs.Prelude.{Option, None, Some}
use Prim.Native.Nat.{ℕ, zero, suc, ◌+◌, ◌-◌, ◌≤◌, ◌<◌}
use mathlib.Core.Path.{◌≡◌}
use mathlib.Core.Bool.{Bool, true}
use mathlib.Core.List.{List, [], ◌∷◌, ◌++◌}
use lib.ListN.{length, drop, get_or}
use lib.Dec.{eqb, leb, ltb}
use borrow.Author.Tests.{ltb-true, ltb-false}
use Rattle.luck_text.specs.Bytes.{byte_at, part}
use Rattle.luck_text.proofs.Cases.{by_test}
use Rattle.luck_pattern.specs.Items.{Item, items}
use Rattle.luck_replacement.specs.Replacement.{Piece, literal, digit, percent, other, lone}
use Rattle.lstr_class.specs.Class.{class_of}
use Rattle.lstr_item.specs.Match.{Capture, opened, position, closed, Outcome, matched, failed, stopped, match}
use Rattle.lstr_laws.proofs.Attempts.{AttemptFine}
use Rattle.lstr_write.specs.Replace.{Wrote, wrote, ended, and_then, append, decimal, add_capture, add_digit, add_piece, add_pieces}
use Rattle.lstr_gsub.specs.Gsub.{
  TrialResult,
  and_wrote,
  Rounds,
  Writer,
  copy_byte,
  copy_rest,
  round,
  anchored_round,
  rounds_from,
  rounds,
  str_gsub,
  writer_of,
  gsub,
}

-- ---- Writings

-- O is said of what is written, W of the number, the kind and what was written where a writing ends the trial
abbrev pub WroteWith : (List ℕ → Type 0) → (ℕ → ℕ → List ℕ → Type 0) → Wrote → Type 0
WroteWith O W (wrote out) = O out
WroteWith O W (ended number kind out) = W number kind out

module _ (O : List ℕ → Type 0) (W : ℕ → ℕ → List ℕ → Type 0) where
  then_keeps : (w : Wrote) (k : List ℕ → Wrote) → WroteWith O W w → ((out : List ℕ) → O out → WroteWith O W (k out)) → WroteWith O W (and_then w k)
  unfolding and_then
  then_keeps (wrote out) k h f = f out h
  then_keeps (ended number kind out) k h f = h

  -- a byte is written where there is room, and 26 ends a writing where there is none
  module _ (room : ℕ) (grows : (out : List ℕ) (b : ℕ) → length out < room → O out → O (out ++ (b ∷ [])))
      (full : (out : List ℕ) → room ≤ length out → O out → W 26 0 out) where
    append_keeps : (bytes out : List ℕ) → O out → WroteWith O W (append room bytes out)
    unfolding append
    append_keeps [] out h = h
    append_keeps (b ∷ more) out h =
        by_test (WroteWith O W) (ltb (length out) room) _ _
        (λ t. append_keeps more (out ++ (b ∷ [])) (grows out b (ltb-true (length out) room t) h))
        (λ t. full out (ltb-false (length out) room t) h)

    -- any writing ends by 26, or raises 6, 9 or 10
    module _ (six : (out : List ℕ) → O out → W 29 6 out) (nine : (out : List ℕ) → O out → W 29 9 out) (ten : (out : List ℕ) → O out → W 29 10 out)
        (sub : List ℕ) where
      capture_keeps : (c : Capture) (out : List ℕ) → O out → WroteWith O W (add_capture sub room c out)
      unfolding add_capture
      capture_keeps (opened s) out h = six out h
      capture_keeps (position s) out h = append_keeps (decimal (s + 1)) out h
      capture_keeps (closed s n) out h = append_keeps (part sub s (s + n)) out h

      module _ (s e : ℕ) (cs : List Capture) where
        digit_keeps : (d : ℕ) (out : List ℕ) → O out → WroteWith O W (add_digit sub room s e cs d out)
        unfolding add_digit
        digit_keeps d out h =
            by_test (WroteWith O W) (eqb d 0) _ _ (λ t. append_keeps (part sub s e) out h)
            (λ t.
            by_test (WroteWith O W) (leb d (length cs)) _ _ (λ t. capture_keeps (get_or cs (d - 1) (opened 0)) out h)
            (λ t. by_test (WroteWith O W) (eqb d 1) _ _ (λ t. append_keeps (part sub s e) out h) (λ t. ten out h)))

        piece_keeps : (strict : Bool) (p : Piece) (out : List ℕ) → O out → WroteWith O W (add_piece sub room s e cs strict p out)
        unfolding add_piece
        piece_keeps strict (literal b) out h = append_keeps (b ∷ []) out h
        piece_keeps strict (digit d) out h = digit_keeps d out h
        piece_keeps strict percent out h = append_keeps (37 ∷ []) out h
        piece_keeps strict (other b) out h = by_test (WroteWith O W) strict _ _ (λ t. nine out h) (λ t. append_keeps (b ∷ []) out h)
        piece_keeps strict lone out h = by_test (WroteWith O W) strict _ _ (λ t. nine out h) (λ t. append_keeps (0 ∷ []) out h)

        pub pieces_keep : (strict : Bool) (ps : List Piece) (out : List ℕ) → O out → WroteWith O W (add_pieces sub room s e cs strict ps out)
        unfolding add_pieces
        pieces_keep strict [] out h = h
        pieces_keep strict (p ∷ ps) out h = then_keeps _ _ (piece_keeps strict p out h) (λ now g. pieces_keep strict ps now g)

-- ---- The run

pub record Kept (K : ℕ → List ℕ → Type 0) (E : ℕ → ℕ → ℕ → List ℕ → Type 0) (a : TrialResult) : Type 0 where
  pub kept : K a.steps a.written
  pub ending : E a.number a.kind a.steps a.written

module _ (K : ℕ → List ℕ → Type 0) (E : ℕ → ℕ → ℕ → List ℕ → Type 0) (C : List Capture → Type 0) (room : ℕ)
    (grows : (u : ℕ) (out : List ℕ) (b : ℕ) → length out < room → K u out → K u (out ++ (b ∷ [])))
    (done : (u : ℕ) (out : List ℕ) → K u out → E 0 0 u out)
    (full : (u : ℕ) (out : List ℕ) → room ≤ length out → K u out → E 26 0 u out) where
  -- of a writing after u steps: where it ends the trial, what is kept and the ending
  abbrev pub Writes : ℕ → Wrote → Type 0
  Writes u = WroteWith (K u) (λ number kind out. K u out × E number kind u out)

  append_writes : (u : ℕ) (bytes out : List ℕ) → K u out → Writes u (append room bytes out)
  append_writes u = append_keeps (K u) (λ number kind out. K u out × E number kind u out) room (grows u) (λ out r h. (h, full u out r h))

  wrote_keeps : (w : Wrote) (n u : ℕ) (k : List ℕ → TrialResult) → Writes u w → ((out : List ℕ) → K u out → Kept K E (k out)) → Kept K E (and_wrote w n u k)
  unfolding and_wrote
  wrote_keeps (wrote out) n u k w f = f out w
  wrote_keeps (ended number kind out) n u k w f = record { kept = w.0; ending = w.1 }

  abbrev AttemptKeeps : List ℕ → Outcome → Type 0
  AttemptKeeps out = AttemptFine (λ u. K u out) (λ number kind u. E number kind u out) C

  module _ (sub : List ℕ) (write : Writer)
      (writes : (s e : ℕ) (cs : List Capture) → C cs → (u : ℕ) (out : List ℕ) → K u out → Writes u (write s e cs out)) where
    abbrev RoundsKeep : Rounds → Type 0
    RoundsKeep next = (s : ℕ) (last : Option ℕ) (out : List ℕ) (n u : ℕ) → K u out → Kept K E (next s last out n u)

    copy_keeps : (next : Rounds) → RoundsKeep next → RoundsKeep (copy_byte sub room next)
    unfolding copy_byte
    copy_keeps next ok s last out n u h =
        by_test (Kept K E) _ _ _
        (λ t. wrote_keeps _ n u _ (append_writes u (byte_at sub s ∷ []) out h) (λ now g. ok (s + 1) last now n u g))
        (λ t. record { kept = h; ending = done u out h })

    rest_keeps : (s : ℕ) (out : List ℕ) (n u : ℕ) → K u out → Kept K E (copy_rest sub room s out n u)
    unfolding copy_rest
    rest_keeps s out n u h =
        wrote_keeps _ n u _ (append_writes u (drop s sub) out h) (λ now g. record { kept = g; ending = done u now g })

    round_keeps : (next : Rounds) → RoundsKeep next → (o : Outcome) (s : ℕ) (last : Option ℕ) (out : List ℕ) (n : ℕ) → AttemptKeeps out o
        → Kept K E (round sub room write next o s last out n)
    unfolding round
    round_keeps next ok (stopped number kind u) s last out n p = record { kept = p.0; ending = p.1 }
    round_keeps next ok (failed u) s last out n p = copy_keeps next ok s last out n u p
    round_keeps next ok (matched e cs u) s last out n p =
        by_test (Kept K E) _ _ _ (λ t. copy_keeps next ok s last out n u p.0)
        (λ t. wrote_keeps _ (n + 1) u _ (writes s e cs p.1 u out p.0) (λ now g. ok e (Some e) now (n + 1) u g))

    anchored_keeps : (o : Outcome) → AttemptKeeps [] o → Kept K E (anchored_round sub room write o)
    unfolding anchored_round
    anchored_keeps (stopped number kind u) p = record { kept = p.0; ending = p.1 }
    anchored_keeps (failed u) p = rest_keeps 0 [] 0 u p
    anchored_keeps (matched e cs u) p = wrote_keeps _ 1 u _ (writes 0 e cs p.1 u [] p.0) (λ now g. rest_keeps e now 1 u g)

    module _ (in_class : ℕ → ℕ → Bool) (budget : ℕ) where
      abbrev AttemptsKeep : List Item → Type 0
      AttemptsKeep is = (s u : ℕ) (out : List ℕ) → K u out → AttemptKeeps out (match in_class sub budget is s 1 [] u)

      rounds_from_keep : (is : List Item) → AttemptsKeep is → (fuel : ℕ) → RoundsKeep (rounds_from in_class sub budget room write is fuel)
      unfolding rounds_from
      rounds_from_keep is ok zero s last out n u h = record { kept = h; ending = done u out h }
      rounds_from_keep is ok (suc fuel) s last out n u h = round_keeps _ (λ a b c d e. rounds_from_keep is ok fuel a b c d e) _ s last out n (ok s u out h)

      pub run_keeps : (pat : List ℕ) → K 0 [] → AttemptsKeep (items pat 0) → (eqb (byte_at pat 0) 94 ≡ true → AttemptsKeep (items pat 1))
          → Kept K E (str_gsub in_class sub budget room write pat)
      unfolding str_gsub rounds
      run_keeps pat h free held =
          by_test (Kept K E) _ _ _
          (λ t. anchored_keeps _ (held t 0 0 [] h))
          (λ t. rounds_from_keep (items pat 0) free (suc (budget - 0)) 0 None [] 0 0 h)

  -- the whole trial, by what holds of each attempt from the pattern's start (anchored: from its second byte) and of each writing
  pub gsub_keeps : (version : ℕ) (pat rep sub : List ℕ) (budget : ℕ)
      → K 0 []
      → E 25 0 0 []
      → ((s e : ℕ) (cs : List Capture) → C cs → (u : ℕ) (out : List ℕ) → K u out → Writes u (writer_of version rep sub room s e cs out))
      → ((s u : ℕ) (out : List ℕ) → K u out → AttemptKeeps out (match (class_of version) sub budget (items pat 0) s 1 [] u))
      → (eqb (byte_at pat 0) 94 ≡ true → (s u : ℕ) (out : List ℕ) → K u out → AttemptKeeps out (match (class_of version) sub budget (items pat 1) s 1 [] u))
      → Kept K E (gsub version pat rep sub budget room)
  unfolding gsub
  gsub_keeps version pat rep sub budget first unknown writes free held =
      by_test (Kept K E) _ _ _
      (λ t. run_keeps sub (writer_of version rep sub room) writes (class_of version) budget pat first free held)
      (λ t. record { kept = first; ending = unknown })

-- ---- Where nothing is said of what is written: U of the steps, E of the number, the kind and the steps

-- of an answer
pub record Fine (U : ℕ → Type 0) (E : ℕ → ℕ → ℕ → Type 0) (a : TrialResult) : Type 0 where
  pub steps : U a.steps
  pub ending : E a.number a.kind a.steps

-- of a writing: W is said of the number and the kind
abbrev pub WroteFine : (ℕ → ℕ → Type 0) → Wrote → Type 0
WroteFine W = WroteWith (λ out. Unit {0}) (λ number kind out. W number kind)

module _ (W : ℕ → ℕ → Type 0) where
  pub append_fine : W 26 0 → (room : ℕ) (bytes out : List ℕ) → WroteFine W (append room bytes out)
  append_fine full room bytes out =
      append_keeps (λ out. Unit {0}) (λ number kind out. W number kind) room (λ out b r h. tt) (λ out r h. full) bytes out tt

  pub then_fine : (w : Wrote) (k : List ℕ → Wrote) → WroteFine W w → ((out : List ℕ) → WroteFine W (k out)) → WroteFine W (and_then w k)
  then_fine w k h f = then_keeps (λ out. Unit {0}) (λ number kind out. W number kind) w k h (λ out g. f out)

  -- any writing ends by 26, or raises 6, 9 or 10
  pub pieces_end : W 26 0 → W 29 6 → W 29 9 → W 29 10 → (sub : List ℕ) (room s e : ℕ) (cs : List Capture) (strict : Bool) (ps : List Piece) (out : List ℕ)
      → WroteFine W (add_pieces sub room s e cs strict ps out)
  pieces_end full six nine ten sub room s e cs strict ps out =
      pieces_keep (λ out. Unit {0}) (λ number kind out. W number kind) room (λ out b r h. tt) (λ out r h. full)
      (λ out h. six) (λ out h. nine) (λ out h. ten) sub s e cs strict ps out tt

-- what is known of the steps besides
with_steps : (T : Type 0) (W : ℕ → ℕ → Type 0) (w : Wrote) → T → WroteFine W w → WroteWith (λ out. T) (λ number kind out. T × W number kind) w
with_steps T W (wrote out) t h = t
with_steps T W (ended number kind out) t h = (t, h)

pub gsub_fine : (U : ℕ → Type 0) (E : ℕ → ℕ → ℕ → Type 0) (C : List Capture → Type 0) (version : ℕ) (pat rep sub : List ℕ) (budget room : ℕ)
    → U 0
    → ((u : ℕ) → U u → E 0 0 u)
    → E 25 0 0
    → ((u : ℕ) → U u → E 26 0 u)
    → ((s e : ℕ) (cs : List Capture) → C cs → (u : ℕ) → U u → (out : List ℕ) → WroteFine (λ number kind. E number kind u) (writer_of version rep sub room s e cs out))
    → ((s u : ℕ) → U u → AttemptFine U E C (match (class_of version) sub budget (items pat 0) s 1 [] u))
    → (eqb (byte_at pat 0) 94 ≡ true → (s u : ℕ) → U u → AttemptFine U E C (match (class_of version) sub budget (items pat 1) s 1 [] u))
    → Fine U E (gsub version pat rep sub budget room)
gsub_fine U E C version pat rep sub budget room first done unknown full writes free held =
    let k =
    gsub_keeps (λ u out. U u) (λ number kind u out. E number kind u) C room (λ u out b r h. h) (λ u out h. done u h) (λ u out r h. full u h)
    version pat rep sub budget first unknown
    (λ s e cs c u out h. with_steps (U u) (λ number kind. E number kind u) (writer_of version rep sub room s e cs out) h (writes s e cs c u h out))
    (λ s u out h. free s u h) (λ t s u out h. held t s u h) in
    record { steps = k.kept; ending = k.ending }
