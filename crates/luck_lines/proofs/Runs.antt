-- What a run writes, and that there is one.
-- Assumes nothing.
use Prim.Native.Nat.{ℕ, ◌+◌, ◌*◌, ◌≤◌}
use native.Mathlib.Omega.{arith}
use mathlib.Core.Path.{◌≡◌, refl, sym, ap, subst, ◌∙◌}
use mathlib.Core.Logic.{◌⊎◌, inl, inr}
use mathlib.Core.Bool.{Bool, true, false, true≢false}
use mathlib.Core.List.{List, [], ◌++◌, append-nil, append_assoc}
use lib.ListN.{length, drop}
use Rattle.luck_lines.specs.Lines.{is_empty}
use Rattle.luck_lines.specs.Stream.{row_length, totals_length, line_length, start, feed, finish, listing_after, Run, reads, takes, ends, stops, fails}
use Rattle.luck_lines.specs.declared.stream.State.{State}
use Rattle.luck_text.proofs.Cases.{same}
use Rattle.luck_lines.proofs.Cuts.{cut, all_taken}
use Rattle.luck_lines.proofs.Streams.{finish_long, finish_empty, finish_row}
use Rattle.luck_lines.proofs.Listings.{last_row, last_none, some_due}

module _ (s : State) (held : List ℕ) (room : ℕ) (e : line_length held ≡ length held) (h : row_length + totals_length ≤ room) where
  by_length : s.long ≡ false → (length held ≡ 0) ⊎ (length held ≡ 0 → ⊥) → finish s held room ≡ listing_after s held
  by_length f (inl z) = finish_empty s held room h f z ∙ last_none s held f z
  by_length f (inr n) = finish_row s held room h f n ∙ last_row s held e (λ _. n)

  by_long : (long : Bool) → s.long ≡ long → finish s held room ≡ listing_after s held
  by_long true f = finish_long s held room h f ∙ last_row s held e (λ g. absurd (true≢false (sym f ∙ g)))
  by_long false f = by_length f (same (length held) 0)

  last_written : finish s held room ≡ listing_after s held
  last_written = by_long s.long refl

-- what a run gives: all that is due, or, where it stops, a beginning of it and not all
abbrev pub Gives : Bool → State → List ℕ → List ℕ → Type 0
Gives true s input written = written ≡ listing_after s input
Gives false s input written = (more : List ℕ) × ((written ++ more ≡ listing_after s input) × (is_empty more ≡ false))

lines_taken : (whole : Bool) (s : State) (held input written : List ℕ) (room : ℕ)
    → Gives whole (feed held room s).state (drop (feed held room s).used held ++ input) written → Gives whole s (held ++ input) ((feed held room s).written ++ written)
lines_taken true s held input written room e = ap (λ (x : List ℕ). (feed held room s).written ++ x) e ∙ sym (cut held input room s)
lines_taken false s held input written room (more, (e, n)) = (
  more,
  (append_assoc (feed held room s).written written more ∙ ap (λ (x : List ℕ). (feed held room s).written ++ x) e ∙ sym (cut held input room s), n),
)

pub run_gives : (whole : Bool) (s : State) (held input written : List ℕ) → Run whole s held input written → Gives whole s (held ++ input) written
run_gives _ _ _ _ _ (reads whole s held piece input written run) =
    subst (λ (x : List ℕ). Gives whole s x written) (append_assoc held piece input) (run_gives whole s (held ++ piece) input written run)
run_gives _ _ _ _ _ (takes whole s held input written room run) = lines_taken whole s held input written room (run_gives _ _ _ _ _ run)
run_gives _ _ _ _ _ (ends s held room e h) = last_written s held room e h ∙ ap (listing_after s) (sym (append-nil held))
run_gives _ _ _ _ _ (stops s held input) = (listing_after s (held ++ input), (refl, some_due s (held ++ input)))
run_gives _ _ _ _ _ (fails s held room written rest e h f n) = (rest, (f ∙ last_written s held room e h ∙ ap (listing_after s) (sym (append-nil held)), n))

-- all of the input at once
pub one_run : (input : List ℕ) → Run true start [] input (listing_after start input)
one_run input =
    let room = 19 * length input in
    let f = feed input room start in
    let written = f.written ++ finish f.state (drop f.used input) 34 in
    let last = ends f.state (drop f.used input) 34 (all_taken input room start (omega arith)) (omega arith) in
    let all : Run true start [] (input ++ []) written = reads true start [] input [] written (takes true start input [] _ room last) in
    let run : Run true start [] input written = subst (λ (x : List ℕ). Run true start [] x written) (append-nil input) all in
    subst (Run true start [] input) (run_gives true start [] input written run) run
