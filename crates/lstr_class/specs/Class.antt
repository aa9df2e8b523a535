-- The classes of a pattern: match_class of lstrlib.c 5.4 (document 01, "The trial"), its tests in ASCII.
-- Assumes nothing.
use Rattle.std.specs.Prelude.{ℕ, ◌+◌, ◌-◌, Bool, not, ◌&&◌, ◌||◌, eqb, leb, Option, None, Some}
use Prim.Native.Char.{code}
use Rattle.luck_text.specs.Bytes.{when◌then◌else◌, between, is_digit, is_xdigit, is_lua_whitespace}

-- isalpha and its kin of the C locale; isspace is is_lua_whitespace
unfoldable pub is_lower : ℕ → Bool
is_lower c = between (code "a") (code "z") c

unfoldable pub is_upper : ℕ → Bool
is_upper c = between (code "A") (code "Z") c

unfoldable pub is_alpha : ℕ → Bool
is_alpha c = is_lower c || is_upper c

unfoldable pub is_alnum : ℕ → Bool
is_alnum c = is_alpha c || is_digit c

unfoldable pub is_cntrl : ℕ → Bool
is_cntrl c = leb c 0x1F || eqb c 0x7F

unfoldable pub is_graph : ℕ → Bool
is_graph c = between (code "!") (code "~") c

unfoldable pub is_punct : ℕ → Bool
is_punct c = is_graph c && not (is_alnum c)

unfoldable pub to_lower : ℕ → ℕ
to_lower c = when is_upper c then c + (code "a" - code "A") else c

-- whether the byte c is in the class of this small letter; none where the letter names no class
unfoldable pub class_test : ℕ → ℕ → Option Bool
class_test letter c =
    when eqb letter (code "a") then Some (is_alpha c)
    else when eqb letter (code "c") then Some (is_cntrl c)
    else when eqb letter (code "d") then Some (is_digit c)
    else when eqb letter (code "g") then Some (is_graph c)
    else when eqb letter (code "l") then Some (is_lower c)
    else when eqb letter (code "p") then Some (is_punct c)
    else when eqb letter (code "s") then Some (is_lua_whitespace c)
    else when eqb letter (code "u") then Some (is_upper c)
    else when eqb letter (code "w") then Some (is_alnum c)
    else when eqb letter (code "x") then Some (is_xdigit c)
    else when eqb letter (code "z") then Some (eqb c 0) else None

-- a capital is the complement; a byte that names no class is itself
unfoldable pub class_by : Option Bool → ℕ → ℕ → Bool
class_by None cl c = eqb cl c
class_by (Some inside) cl c = when is_upper cl then not inside else inside

-- match_class: the byte c fits `%` and the byte cl
unfoldable pub match_class : ℕ → ℕ → Bool
match_class cl c = class_by (class_test (to_lower cl) c) cl c

-- the class test of a version's trials: document 01 has the matching rules of 5.4 in every version
unfoldable pub class_of : ℕ → ℕ → ℕ → Bool
class_of version = match_class
