-- What no answer of the check shows of an option, computed: the kind of each letter, the number that a `c` keeps, and
-- which letters have no size.
-- Assumes nothing.
use Rattle.std.specs.Prelude.{ℕ, ◌≡◌, refl, List, [], ◌∷◌, Some}
use Prim.Native.Char.{code}
use Rattle.luck_text.specs.Bytes.{ascii}
use Rattle.luck_pack.specs.Pack.{
  KOption,
  Kint,
  Kuint,
  Kfloat,
  Knumber,
  Kdouble,
  Kchar,
  Kstring,
  Kzstr,
  Kpadding,
  Kpaddalign,
  Knop,
}
use Rattle.luck_pack.specs.Pack.{pack_option, option, getoption, kind_of, luck_sizeof}
use Rattle.luck_pack.specs.Computed.{computed}

abbrev pub kinds : List ℕ → List KOption
kinds [] = []
kinds (letter ∷ letters) = kind_of letter ∷ kinds letters

abbrev pub sizes : List ℕ → List ℕ
sizes [] = []
sizes (letter ∷ letters) = luck_sizeof letter ∷ sizes letters

pub whole_numbers : kinds (ascii "bhljiBHLJTI")
    ≡ Kint ∷ Kint ∷ Kint ∷ Kint ∷ Kint ∷ Kuint ∷ Kuint ∷ Kuint ∷ Kuint ∷ Kuint ∷ Kuint ∷ []
unfolding computed
whole_numbers = refl

pub others : kinds (ascii "fndscz") ≡ Kfloat ∷ Knumber ∷ Kdouble ∷ Kstring ∷ Kchar ∷ Kzstr ∷ []
unfolding computed
others = refl

pub without_value : kinds (ascii "xX !<>=") ≡ Kpadding ∷ Kpaddalign ∷ Knop ∷ Knop ∷ Knop ∷ Knop ∷ Knop ∷ []
unfolding computed
without_value = refl

pub unsized : sizes (ascii "czxX !<>=") ≡ 0 ∷ 0 ∷ 0 ∷ 0 ∷ 0 ∷ 0 ∷ 0 ∷ 0 ∷ 0 ∷ []
unfolding computed
unsized = refl

pub fixed_string_lem : getoption (ascii "c10") 0 ≡ option (pack_option (code "c") (Some 10)) 3
unfolding computed
fixed_string_lem = refl
