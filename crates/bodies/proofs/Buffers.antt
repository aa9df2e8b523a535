-- What is known of the buffers when more is read, and at the end of the input.
-- Assumes nothing.
use mathlib.Core.Path.{◌≡◌, refl, sym, ap, subst, ◌∙◌}
use Prim.Native.Nat.{ℕ, ◌+◌, ◌-◌, ◌<◌, ◌≤◌}
use native.Mathlib.Nat.{sub-zero}
use native.Mathlib.Omega.{arith}
use Rattle.std.specs.Prelude.{Option, Some, None, Result, Ok, Err, IfOk, IfSome}
use mathlib.Core.List.{List, [], ◌∷◌}
use lib.ListN.{length, take, drop, length-drop}
use lib.Seq.{take_at, take-take, take-length}
use borrow.Rule.Slice.PartMut.{put_mid, take_put}
use Rattle.luck_text.specs.Bytes.{part, in_front}
use Rattle.luck_lines.specs.Stream.{feed, fed_of}
use Rattle.luck_lines.specs.declared.stream.State.{State}
use Rattle.luck_lines.specs.declared.stream.Fed.{Fed}
use Rattle.luck_lines.proofs.Buffers.{part_left}
use Rattle.luck_lines.proofs.Promises.{leaves}
use Rattle.bodies.specs.declared.Held.{Held}
use Rattle.bodies.specs.declared.Failure.{Failure}
use Rattle.bodies.specs.Held.{Unended, held_in, HeldGoesOn}

empty : (l : List ℕ) → length l ≤ 0 → l ≡ []
empty [] h = refl
empty (b ∷ l) h = absurd (omega arith)

-- what was kept stays at the front when more is read after it
pub kept_in_front : (first buffer read held : List ℕ) (kept : ℕ) → kept ≡ length held → buffer ≡ in_front held first → kept ≤ length buffer
    → take (kept - 0) (drop 0 (put_mid kept (length buffer - kept) buffer read)) ≡ held
kept_in_front first buffer read held kept e f h =
    let k : kept - 0 ≡ kept = omega arith in
    ap (λ (n : ℕ). take n (put_mid kept (length buffer - kept) buffer read)) k
    ∙ take_put kept (length buffer - kept) buffer read h ∙ ap (take kept) f ∙ take_at held (drop (length held) first) kept (sym e)

-- a call that wrote nothing leaves what more may be read after
pub may_read : (input : List ℕ) (at end room : ℕ) (s : State) (fed : Fed) → fed ≡ fed_of (feed (part input at end) room s) → fed.wrote ≤ 0 → 19 ≤ room → 4005 < length input
    → Unended (part input (at + fed.used) end) (length input)
may_read input at end room s fed e w h g =
    let t = feed (part input at end) room s in
    let nothing = empty t.written (subst (λ (x : Fed). x.wrote ≤ 0) e w) in
    let left = leaves (part input at end) room s h nothing in
    let used : fed.used ≡ t.used = ap (λ (x : Fed). x.used) e in
    let rest : drop t.used (part input at end) ≡ part input (at + fed.used) end = part_left input at end t.used ∙ ap (λ (u : ℕ). part input (at + u) end) (sym used) in
    subst (λ (x : List ℕ). Unended x (length input)) rest (left.1, omega (arith, left.0, length-drop t.used (part input at end)))

pub read_on : (first buffer read held : List ℕ) (kept n : ℕ) → kept ≡ length held → buffer ≡ in_front held first → kept ≤ length buffer
    → take (length held) (part (put_mid kept (length buffer - kept) buffer read) 0 (kept + n)) ≡ held
read_on first buffer read held kept n e f h =
    take-take (length held) (kept + n - 0) (put_mid kept (length buffer - kept) buffer read) (omega arith)
    ∙ ap (λ (k : ℕ). take k (put_mid kept (length buffer - kept) buffer read)) (sym e ∙ sym (sub-zero kept))
    ∙ kept_in_front first buffer read held kept e f h

-- after a call: what it left is held
module _ (input : List ℕ) (at end room : ℕ) (s : State) (fed : Fed) (e : fed ≡ fed_of (feed (part input at end) room s)) where
  left_part : part input (at + fed.used) end ≡ drop (feed (part input at end) room s).used (part input at end)
  left_part = ap (λ (x : Fed). part input (at + x.used) end) e ∙ sym (part_left input at end (feed (part input at end) room s).used)

  pub rows_on : (fed.state ≡ (feed (part input at end) room s).state)
      × (take (length (drop (feed (part input at end) room s).used (part input at end))) (part input (at + fed.used) end) ≡ drop (feed (part input at end) room s).used (part input at end))
  rows_on = (ap (λ (x : Fed). x.state) e, ap (take (length (drop (feed (part input at end) room s).used (part input at end)))) left_part ∙ take-length (drop (feed (part input at end) room s).used (part input at end)))

  read_after : (held : Held) (buffer : List ℕ) → HeldGoesOn (part input (at + fed.used) end) fed.state held buffer
      → HeldGoesOn (drop (feed (part input at end) room s).used (part input at end)) (feed (part input at end) room s).state held buffer
  read_after held buffer g = (g.0 ∙ ap (λ (x : Fed). x.state) e, subst (λ (x : List ℕ). take (length x) (held_in held buffer) ≡ x) left_part g.1)

  pub more_after : (next : Result (Option Held) Failure) (buffer : List ℕ)
      → IfOk next (λ o. IfSome o (λ held. HeldGoesOn (part input (at + fed.used) end) fed.state held buffer))
      → IfOk next (λ o. IfSome o (λ held. HeldGoesOn (drop (feed (part input at end) room s).used (part input at end)) (feed (part input at end) room s).state held buffer))
  more_after (Ok (Some held)) buffer g = read_after held buffer g
  more_after (Ok None) buffer g = g
  more_after (Err failure) buffer g = g
