-- Laws of a literal's value and of decoding it: a turn of the walk, what is written so far, and the outcomes.
-- Assumes nothing.
use Rattle.std.specs.Prelude.{Option, None, Some, Ok, Err}
use Prim.Native.Nat.{ℕ, zero, suc, ◌+◌, ◌-◌, ◌≤◌, ◌<◌}
use native.Mathlib.Nat.{le_refl, add-zero}
use native.Mathlib.Numerals.{add-one}
use native.Mathlib.Omega.{arith}
use mathlib.Core.Path.{◌≡◌, refl, sym, ap, ap₂, subst, ◌∙◌}
use mathlib.Core.Bool.{Bool, true, false, ◌&&◌}
use mathlib.Core.List.{List, [], ◌∷◌, ◌++◌, append_assoc, append-nil}
use lib.ListN.{length, take, drop, set, length-append}
use lib.Seq.{take_all, drop-cons, take_at, set-append_seam, sets, length-sets}
use lib.Dec.{eqb, leb}
use borrow.Author.Tests.{lt-ltb, le-ltb, le-leb, lt-leb, leb-true}
use Rattle.luck_text.specs.Bytes.{when◌then◌else◌, byte_at, part}
use Rattle.luck_text.specs.Walk.{Turn, walk_from}
use Rattle.luck_text.specs.Walk.Turn.{stop}
use Rattle.luck_token.specs.Version.{is_version, rules_of}
use Rattle.luck_utf8.specs.Utf8.{ill_formed}
use Rattle.luck_token.specs.Whitespace.{line_break, strip_line_break}
use Rattle.luck_token.specs.Literal.{
  LiteralPiece,
  piece,
  malformed,
  is_short,
  bracket_at,
  bracket_width,
  equals,
  long_string_body,
  long_piece,
  piece_at,
  piece_turn,
  whole_value,
  value_of,
  literal_value,
}
use Rattle.luck_token.specs.Decode.{refused, with_room, decode_string, decoding_of, numbered, output_of}
use Rattle.luck_token.specs.Text.{text_refusal, read_text}
use Rattle.luck_token.specs.declared.text.TextError.{TextError}
use Rattle.luck_token.specs.declared.text.TextError.TheVariants.{UnknownVersion, NotUtf8}
use Rattle.luck_token.proofs.Texts.{text_fine, by_error, by_rules}
use Rattle.luck_token.specs.Inner.{IsPiece, LiesInText, size_of, plain, SizeWithin, Written}
use Rattle.luck_output.specs.Output.{stores}
use Rattle.luck_token.specs.declared.version.Rules.{Rules}
use Rattle.luck_token.specs.declared.string.Piece.{Piece as Found}
use Rattle.luck_token.specs.declared.string.DecodeError.TheVariants as error
use Rattle.luck_text.proofs.Cases.{by_test, if_true, if_false, and_left}
use Rattle.luck_output.proofs.Outputs.{stores_fit, part_length}
use Rattle.luck_token.proofs.Literals.{plain_is, quoted}
use Rattle.luck_text.proofs.Walk.{walk_end, walk_stop, walk_goes, walk_related}

-- ---- The walk over the pieces

module _ (long : Bool) (rules : Rules) (body : List ℕ) where
  abbrev pub item : ℕ → List ℕ → Turn (List ℕ) (Option (List ℕ))
  item p before = piece_turn before (piece_at long rules body p)

  abbrev pub on : ℕ → List ℕ → Option (List ℕ)
  on p before = walk_from item whole_value (length body) p before

  pub start : on 0 [] ≡ value_of long rules body
  unfolding value_of
  start = refl

  module _ (p : ℕ) (before : List ℕ) (whole : Option (List ℕ)) (h : on p before ≡ whole) where
    pub turn : (bytes : List ℕ) (width : ℕ) → piece bytes width ≡ piece_at long rules body p → 1 ≤ width → p + width ≤ length body → on (p + width) (before ++ bytes) ≡ whole
    unfolding piece_turn
    turn bytes width e l i = sym (walk_goes item whole_value (length body) p before width (before ++ bytes) l i (sym (ap (piece_turn before) e))) ∙ h

    pub bad : malformed ≡ piece_at long rules body p → p < length body → None ≡ whole
    unfolding piece_turn
    bad e l = sym (walk_stop item whole_value (length body) p before None l (sym (ap (piece_turn before) e))) ∙ h

    pub done : length body ≤ p → Some before ≡ whole
    unfolding whole_value
    done l = sym (walk_end item whole_value (length body) p before l) ∙ h

  -- a plain byte is a piece
  pub plain_piece : (p : ℕ) → plain long body p ≡ true → piece (byte_at body p ∷ []) 1 ≡ piece_at long rules body p
  plain_piece p e = plain_is long rules body p e

  module _ (whole : Option (List ℕ)) where
    passed : (k p : ℕ) (before : List ℕ) → on p before ≡ whole → p + k ≤ length body → ((j : ℕ) → p ≤ j → j < p + k → plain long body j ≡ true)
        → on (p + k) (before ++ take k (drop p body)) ≡ whole
    passed zero p before h i f = rw (add-zero p, append-nil before) h
    passed (suc k) p before h i f =
        let one = turn p before whole h (byte_at body p ∷ []) 1 (plain_piece p (f p (le_refl p) (omega arith))) (omega arith) (omega arith) in
        let e : p + 1 + k ≡ p + suc k = omega arith in
        let more : on (p + 1 + k) ((before ++ (byte_at body p ∷ [])) ++ take k (drop (p + 1) body)) ≡ whole = passed k (p + 1) (before ++ (byte_at body p ∷ [])) one (omega arith) (λ j l m. f j (omega arith) (omega arith)) in
        let split : (before ++ (byte_at body p ∷ [])) ++ take k (drop (p + 1) body) ≡ before ++ take (suc k) (drop p body) =
        rw (append_assoc, drop-cons body p 0 (omega arith), add-one p) in
        ap₂ on (sym e) (sym split) ∙ more

    -- plain bytes stand for themselves
    pub plain_part : (p end : ℕ) (before : List ℕ) → on p before ≡ whole → p ≤ end → end ≤ length body → ((j : ℕ) → p ≤ j → j < end → plain long body j ≡ true)
        → on end (before ++ part body p end) ≡ whole
    plain_part p end before h l i f =
        let e : p + (end - p) ≡ end = omega arith in
        subst (λ (q : ℕ). on q (before ++ part body p end) ≡ whole) e (passed (end - p) p before h (omega arith) (λ j m n. f j m (omega arith)))

  -- what is known of a piece that was found, once its shape is
  pub seen : {p : ℕ} {found : Option Found} (shape : Option Found) → found ≡ shape → IsPiece (piece_at long rules body p) body p found → IsPiece (piece_at long rules body p) body p shape
  seen {p} shape e t = subst (λ (x : Option Found). IsPiece (piece_at long rules body p) body p x) e t

  -- a body of plain bytes is its value
  pub plain_value : ((k : ℕ) → k < length body → plain long body k ≡ true) → Some body ≡ value_of long rules body
  plain_value f =
      let all = plain_part (value_of long rules body) 0 (length body) [] start (omega arith) (le_refl (length body)) (λ j l m. f j m) in
      let e : part body 0 (length body) ≡ body = take_all (length body - 0) body (omega arith) in
      ap Some (sym e) ∙ done (length body) (part body 0 (length body)) (value_of long rules body) all (le_refl (length body))

-- a long string is never malformed
module _ (rules : Rules) (body : List ℕ) where
  abbrev There : List ℕ → Option (List ℕ) → Type 0
  There before o = o ≡ None → ⊥

  no_stop : (p : ℕ) (before : List ℕ) (a : Option (List ℕ)) → piece_turn before (piece_at true rules body p) ≡ stop a → There before a
  unfolding piece_turn piece_at long_piece
  no_stop p before a =
      by_test (λ (q : LiteralPiece). piece_turn before q ≡ stop a → There before a) (eqb (line_break rules.lfcr_line_break body p) 0) _ _
      (λ _ e _. let z : ◌≡◌ {A = ℕ} 0 1 = cc in omega arith) (λ _ e _. let z : ◌≡◌ {A = ℕ} 0 1 = cc in omega arith)

  value_there : (p : ℕ) (before : List ℕ) → There before (whole_value p before)
  unfolding whole_value
  value_there p before e = let z : ◌≡◌ {A = ℕ} 0 1 = cc in omega arith

  pub long_value : (long : Bool) → long ≡ true → value_of long rules body ≡ None → ⊥
  unfolding value_of
  long_value long t = rw t (walk_related (item true rules body) whole_value There no_stop (λ p s w s' a e r. r) value_there (length body) 0 [])

-- ---- The output

-- bytes stored after the bytes so far
pub stored : (bytes before output output₀ : List ℕ) (at : ℕ) → at ≡ length before → output ≡ before ++ drop (length before) output₀
    → length before + length bytes ≤ length output₀ → sets output at bytes ≡ (before ++ bytes) ++ drop (length (before ++ bytes)) output₀
stored [] before output output₀ at e q h = rw (append-nil before) q
stored (b ∷ bytes) before output output₀ at e q h =
    let longer : length (before ++ (b ∷ [])) ≡ suc (length before) = length-append before (b ∷ []) ∙ add-one (length before) in
    let one : set output at b ≡ (before ++ (b ∷ [])) ++ drop (length (before ++ (b ∷ []))) output₀ =
    rw (e, q, drop-cons output₀ (length before) 0 (omega arith), set-append_seam, longer, append_assoc) in
    stored bytes (before ++ (b ∷ [])) (set output at b) output₀ (suc at) (omega arith) one (omega arith)
    ∙ ap (λ (l : List ℕ). l ++ drop (length l) output₀) (append_assoc before (b ∷ []) bytes)

-- bytes that are stored where they fit, in an output that holds the bytes so far, if they fit
pub record Holds (before output₀ output : List ℕ) : Type 0 where
  pub same : length output ≡ length output₀
  pub front : length before ≤ length output₀ → output ≡ before ++ drop (length before) output₀

module _ (output : List ℕ) (p : ℕ) (bytes : List ℕ) where
  pub length_stores : length (stores output p bytes) ≡ length output
  unfolding stores
  length_stores = by_test (λ (l : List ℕ). length l ≡ length output) (leb (p + length bytes) (length output)) _ _ (λ _. length-sets output p bytes) (λ _. refl)

  pub holds_more : (before output₀ new : List ℕ) → p ≡ length before → new ≡ stores output p bytes → Holds before output₀ output → Holds (before ++ bytes) output₀ new
  holds_more before output₀ new e n h =
      record {
        same = ap length n ∙ length_stores ∙ h.same;
        front =
            λ m. let s = length-append before bytes in
            n ∙ sym (stores_fit output p bytes (omega (arith, h.same))) ∙ stored bytes before output output₀ p e (h.front (omega arith)) (omega arith);
      }

  pub stores_nothing : bytes ≡ [] → output ≡ stores output p bytes
  unfolding stores
  stores_nothing e = rw e (by_test (λ (l : List ℕ). output ≡ l) (leb (p + 0) (length output)) output output (λ _. refl) (λ _. refl))

-- ---- The loop: the bytes so far, from which the walk on gives the whole value, and of which the output holds all if they fit

pub record Read (long : Bool) (rules : Rules) (body : List ℕ) (at n : ℕ) (before : List ℕ) : Type 0 where
  pub number : n ≡ length before
  pub no_more : n ≤ at
  pub inside : at ≤ length body
  pub rest : on long rules body at before ≡ value_of long rules body

module _ (long : Bool) (rules : Rules) (body : List ℕ) where
  pub read_none : Read long rules body 0 0 []
  read_none = record { number = refl; no_more = omega arith; inside = omega arith; rest = start long rules body }

  module _ (at n : ℕ) (before : List ℕ) (read : Read long rules body at n before) where
    pub read_piece : (bytes : List ℕ) (width m : ℕ) → m ≡ length bytes → piece bytes width ≡ piece_at long rules body at → LiesInText 1 width at (length body) → m ≤ width
        → Read long rules body (at + width) (n + m) (before ++ bytes)
    read_piece bytes width m q e l s =
        record {
          number = omega (arith, length-append before bytes, read.number);
          no_more = omega (arith, read.no_more);
          inside = l.1;
          rest = turn long rules body at before (value_of long rules body) read.rest bytes width e l.0 l.1;
        }

    pub read_part : (end : ℕ) → at ≤ end → end ≤ length body → ((j : ℕ) → at ≤ j → j < end → plain long body j ≡ true)
        → Read long rules body end (n + (end - at)) (before ++ part body at end)
    read_part end l i f =
        record {
          number = omega (arith, length-append before (part body at end), read.number, part_length body at end l i);
          no_more = omega (arith, read.no_more);
          inside = i;
          rest = plain_part long rules body (value_of long rules body) at end before read.rest l i f;
        }

    pub read_end : length body ≤ at → Some n ≡ size_of (value_of long rules body)
    read_end l = ap Some read.number ∙ ap size_of (done long rules body at before (value_of long rules body) read.rest l)

    pub read_bad : malformed ≡ piece_at long rules body at → at < length body → None ≡ value_of long rules body
    read_bad q l = bad long rules body at before (value_of long rules body) read.rest q l

  abbrev pub Kept : List ℕ → List ℕ → ℕ → ℕ → Type 0
  Kept output₀ output at n = (before : List ℕ) × Read long rules body at n before × Holds before output₀ output

  module _ (output₀ output : List ℕ) (at n : ℕ) (kept : Kept output₀ output at n) where
    pub kept_piece : (bytes new : List ℕ) (width m : ℕ) → m ≡ length bytes → piece bytes width ≡ piece_at long rules body at → LiesInText 1 width at (length body) → m ≤ width
        → new ≡ stores output n bytes → Kept output₀ new (at + width) (n + m)
    kept_piece bytes new width m q e l s w =
        (kept.0 ++ bytes, read_piece at n kept.0 kept.1 bytes width m q e l s, holds_more output n bytes kept.0 output₀ new kept.1.number w kept.2)

    pub kept_part : (new : List ℕ) (end : ℕ) → at ≤ end → end ≤ length body → ((j : ℕ) → at ≤ j → j < end → plain long body j ≡ true)
        → new ≡ stores output n (part body at end) → Kept output₀ new end (n + (end - at))
    kept_part new end l i f w =
        (kept.0 ++ part body at end, read_part at n kept.0 kept.1 end l i f, holds_more output n (part body at end) kept.0 output₀ new kept.1.number w kept.2)

    pub kept_end : length body ≤ at
        → (Some n ≡ size_of (value_of long rules body)) × (SizeWithin (Some n) (length body) × Written (value_of long rules body) output₀ output)
    kept_end l =
        let e = done long rules body at kept.0 (value_of long rules body) kept.1.rest l in
        (read_end at n kept.0 kept.1 l, (omega (arith, kept.1.no_more, kept.1.inside), subst (λ (o : Option (List ℕ)). Written o output₀ output) e kept.2.front))

    pub kept_bad : malformed ≡ piece_at long rules body at → at < length body
        → (None ≡ size_of (value_of long rules body)) × (SizeWithin None (length body) × Written (value_of long rules body) output₀ output)
    kept_bad q l =
        let e = read_bad at n kept.0 kept.1 q l in
        (ap size_of e, (tt, subst (λ (o : Option (List ℕ)). Written o output₀ output) e tt))

pub written : (o : Option (List ℕ)) (before output₀ : List ℕ) → Some before ≡ o → length before ≤ length output₀
    → before ++ drop (length before) output₀ ≡ output_of (with_room (length output₀) o) output₀
unfolding with_room output_of when◌then◌else◌
written o before output₀ e h = rw (← e, le-leb (length before) (length output₀) h)

-- ---- The outcomes

pub no_size : (o : Option (List ℕ)) → None ≡ size_of o → o ≡ None
no_size None e = refl
no_size (Some v) e = let z : ◌≡◌ {A = ℕ} 0 1 = cc in absurd (omega arith)

pub has_size : (o : Option (List ℕ)) (n : ℕ) → Some n ≡ size_of o → (v : List ℕ) × (o ≡ Some v) × (n ≡ length v)
has_size None n e = let z : ◌≡◌ {A = ℕ} 0 1 = cc in absurd (omega arith)
has_size (Some v) n e = (v, refl, cc)

-- a value that is no longer than its body has room where the body has
pub in_room : (n : ℕ) (found : Option ℕ) → found ≡ Some n → {len room : ℕ} → SizeWithin found len → len ≤ room → n ≤ room
in_room n found e {len} w l = let h : SizeWithin (Some n) len = subst (λ (x : Option ℕ). SizeWithin x len) e w in omega arith

pub refused_answer : (e : TextError) → numbered (Err (error.Text e)) ≡ decoding_of (text_refusal refused e)
unfolding numbered decoding_of
refused_answer UnknownVersion = refl
refused_answer (NotUtf8 place) = refl

pub refused_output : (e : TextError) (output : List ℕ) → output ≡ output_of (text_refusal refused e) output
unfolding output_of
refused_output UnknownVersion output = refl
refused_output (NotUtf8 place) output = refl

module _ (o : Option (List ℕ)) (output : List ℕ) where
  pub undecodable : o ≡ None → (numbered (Err error.Undecodable) ≡ decoding_of (with_room (length output) o)) × (output ≡ output_of (with_room (length output) o) output)
  unfolding numbered decoding_of with_room output_of
  undecodable e = (rw e, rw e)

  module _ (n : ℕ) (h : (v : List ℕ) × (o ≡ Some v) × (n ≡ length v)) where
    pub too_short : length output < n → (numbered (Err error.OutputTooShort) ≡ decoding_of (with_room (length output) o)) × (output ≡ output_of (with_room (length output) o) output)
    unfolding numbered decoding_of with_room output_of when◌then◌else◌
    too_short l =
        let t = lt-leb (length h.0) (length output) (omega (arith, h.2)) in
        (rw (h.1, t), rw (h.1, t))

    pub stored_value : n ≤ length output → sets output 0 h.0 ≡ output_of (with_room (length output) o) output
    stored_value m = stored h.0 [] output output 0 refl refl (omega (arith, h.2)) ∙ written o h.0 output (sym h.1) (omega (arith, h.2))

    pub copied_value : (buffer₀ buffer : List ℕ) → Written o buffer₀ buffer → n ≤ length buffer₀ → n ≤ length output
        → sets output 0 (take n buffer) ≡ output_of (with_room (length output) o) output
    copied_value buffer₀ buffer w l m =
        let v = h.0 in
        let f : Written (Some v) buffer₀ buffer = subst (λ (x : Option (List ℕ)). Written x buffer₀ buffer) h.1 w in
        let e : take n buffer ≡ v = rw (f (omega (arith, h.2))) (take_at v (drop (length v) buffer₀) n (omega (arith, h.2))) in
        ap (sets output 0) e ∙ stored_value m

    pub written_value : (new : List ℕ) → Written o output new → n ≤ length output → new ≡ output_of (with_room (length output) o) output
    written_value new w m =
        let f : Written (Some h.0) output new = subst (λ (x : Option (List ℕ)). Written x output new) h.1 w in
        f (omega (arith, h.2)) ∙ written o h.0 output (sym h.1) (omega (arith, h.2))

    pub fits : n ≤ length output → numbered (Ok n) ≡ decoding_of (with_room (length output) o)
    unfolding numbered decoding_of with_room when◌then◌else◌
    fits l =
        let t = le-leb (length h.0) (length output) (omega (arith, h.2)) in
        rw (h.1, t, h.2)

-- ---- The literal's text

module _ (rules : Rules) (raw : List ℕ) where
  pub twice_in : 0 < bracket_width raw → bracket_width raw + bracket_width raw ≤ length raw
  unfolding bracket_width
  twice_in =
      let level = equals raw 1 in
      let wide = leb (level + 2 + (level + 2)) (length raw) in
      let opens = bracket_at 91 level raw 0 in
      let closes = bracket_at 93 level raw (length raw - (level + 2)) in
      by_test (λ w. 0 < w → w + w ≤ length raw) (wide && opens && closes) _ _
      (λ e _. leb-true _ _ (and_left wide opens (and_left (wide && opens) closes e))) (λ _ h. absurd (omega arith))

  pub long_literal : (width : ℕ) → width ≡ bracket_width raw → 0 < width
      → value_of true rules (strip_line_break rules.lfcr_line_break (part raw width (length raw - width))) ≡ literal_value rules raw
  unfolding literal_value long_string_body
  long_literal width e h =
      ap (λ (w : ℕ). value_of true rules (strip_line_break rules.lfcr_line_break (part raw w (length raw - w)))) e
      ∙ sym (if_true _ _ _ (lt-ltb 0 (bracket_width raw) (omega arith)))

  pub short_literal : is_short raw ≡ true → value_of false rules (part raw 1 (length raw - 1)) ≡ literal_value rules raw
  unfolding literal_value
  short_literal e = sym (if_false _ _ _ (le-ltb 0 (bracket_width raw) (omega (arith, quoted raw e))) ∙ if_true _ _ _ e)

  pub no_literal : bracket_width raw ≤ 0 → is_short raw ≡ false → literal_value rules raw ≡ None
  unfolding literal_value
  no_literal h e = if_false _ _ _ (le-ltb 0 (bracket_width raw) h) ∙ if_false _ _ _ e

module _ (version : ℕ) (raw : List ℕ) (room : ℕ) where
  pub refused_text : (e : TextError) → read_text version raw ≡ Err e → text_refusal refused e ≡ decode_string version raw room
  unfolding decode_string
  refused_text e h = by_error version raw refused e h _

  pub read_literal : (rules : Rules) → read_text version raw ≡ Ok rules → with_room room (literal_value rules raw) ≡ decode_string version raw room
  unfolding decode_string
  read_literal rules h =
      let r = by_rules version raw refused rules h in
      ap (λ (x : Rules). with_room room (literal_value x raw)) r.0 ∙ r.1 (with_room room (literal_value (rules_of version) raw))

  pub literal : is_version version ≡ true → None ≡ ill_formed raw → with_room room (literal_value (rules_of version) raw) ≡ decode_string version raw room
  unfolding decode_string
  literal = text_fine refused version raw _
