-- Laws of bytes that are written to an output: where they fit, and one by one.
-- Assumes nothing.
use Prim.Native.Nat.{ℕ, zero, suc, ◌+◌, ◌-◌, ◌≤◌, ◌<◌}
use native.Mathlib.Nat.{add-zero}
use native.Mathlib.Omega.{arith}
use mathlib.Core.Path.{◌≡◌, sym, ap, ◌∙◌}
use mathlib.Core.List.{List, [], ◌∷◌, ◌++◌}
use lib.ListN.{length, take, drop, set, get_or, length-drop}
use lib.Seq.{length-take-le, sets}
use borrow.Author.Tests.{le-leb, lt-leb}
use Rattle.luck_text.specs.Bytes.{part}
use Rattle.luck_output.specs.Output.{stores}
use Rattle.luck_text.proofs.Cases.{if_true, if_false}

module _ (output : List ℕ) (p : ℕ) (bytes : List ℕ) where
  pub stores_fit : p + length bytes ≤ length output → sets output p bytes ≡ stores output p bytes
  unfolding stores
  stores_fit h = sym (if_true _ _ _ (le-leb (p + length bytes) (length output) h))

  pub stores_none : length output < p + length bytes → output ≡ stores output p bytes
  unfolding stores
  stores_none h = sym (if_false _ _ _ (lt-leb (p + length bytes) (length output) h))

-- bytes of a text, copied one by one
pub sets_last : (bytes output : List ℕ) (p b : ℕ) → set (sets output p bytes) (p + length bytes) b ≡ sets output p (bytes ++ (b ∷ []))
sets_last [] output p b = rw (add-zero p)
sets_last (x ∷ bytes) output p b =
    let e : p + suc (length bytes) ≡ suc p + length bytes = omega arith in
    ap (λ (q : ℕ). set (sets output p (x ∷ bytes)) q b) e ∙ sets_last bytes (set output p x) (suc p) b

pub copied : (bytes output : List ℕ) (p i : ℕ) → i < length bytes → set (sets output p (take i bytes)) (p + i) (get_or bytes i 0) ≡ sets output p (take (suc i) bytes)
copied [] output p i h = absurd (omega arith)
copied (x ∷ bytes) output p zero h = rw (add-zero p)
copied (x ∷ bytes) output p (suc i) h =
    let e : p + suc i ≡ suc p + i = omega arith in
    ap (λ (q : ℕ). set (sets output p (x ∷ take i bytes)) q (get_or bytes i 0)) e ∙ copied bytes (set output p x) (suc p) i (omega arith)

module _ (text : List ℕ) (from i : ℕ) (l : from ≤ i) where
  pub part_length : i ≤ length text → length (part text from i) ≡ i - from
  part_length h = length-take-le (i - from) (drop from text) (omega (arith, length-drop from text))
