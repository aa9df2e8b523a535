-- The starred cases of document 01, as a list, and one lemma for all of it, by computation. A case that document 01
-- gives without a version is computed under all six.
-- Assumes nothing.
use Rattle.std.specs.Prelude.{ℕ, ◌≡◌, refl, List, [], ◌∷◌, Some}
use Prim.Native.Char.{code}
use Rattle.luck_text.specs.Bytes.{ascii}
use Rattle.luck_linter.specs.Computed.{computed as checks_computed}
use Rattle.lstr_gsub.specs.Computed.{computed as trial_computed}
use Rattle.starred.specs.Cases.{format, pattern, pack, replacement, trial}
use Rattle.starred.specs.Cases.{Case, case, checked, tried, told, wanted}

abbrev every : List ℕ
every = 1 ∷ 2 ∷ 3 ∷ 4 ∷ 5 ∷ 6 ∷ []

abbrev pub starred : List Case
starred =
    case every (format (ascii "a%")) (checked (record { number = 1; offset = 1; first = 0; second = 0; count = 0 }))
    ∷ case (1 ∷ []) (format (ascii "%------d"))
    (checked (record { number = 3; offset = 6; first = code "-"; second = 0; count = 0 }))
    ∷ case (4 ∷ []) (format (ascii "%#d"))
    (checked (record { number = 6; offset = 1; first = code "#"; second = code "d"; count = 0 }))
    ∷ case every (pattern (ascii "[]a")) (checked (record { number = 8; offset = 0; first = 0; second = 0; count = 0 }))
    ∷ case every (pattern (ascii "[^]")) (checked (record { number = 9; offset = 0; first = 0; second = 0; count = 0 }))
    ∷ case every (pattern (ascii "(a")) (checked (record { number = 11; offset = 2; first = 0; second = 0; count = 0 }))
    ∷ case every (pattern (ascii "(a%1)"))
    (checked (record { number = 13; offset = 3; first = 0; second = 0; count = 0 }))
    ∷ case every (pattern (ascii "[]]")) (checked (record { number = 0; offset = 0; first = 0; second = 0; count = 0 }))
    ∷ case every (pattern (ascii "()%1"))
    (checked (record { number = 0; offset = 0; first = 0; second = 0; count = 1 }))
    ∷ case every (pack (ascii "!8i3")) (checked (record { number = 17; offset = 2; first = 0; second = 0; count = 0 }))
    ∷ case every (replacement (Some 1) (ascii "%2"))
    (checked (record { number = 21; offset = 1; first = 0; second = 0; count = 0 }))
    ∷ case every (replacement (Some 0) (ascii "%1"))
    (checked (record { number = 0; offset = 0; first = 0; second = 0; count = 0 }))
    ∷ case every (trial (ascii "a") (ascii "a") (ascii "x") 2 (ascii "....."))
    (tried (record { number = 27; kind = 0; written = 1; replacements = 1; steps = 2 }) (ascii "x...."))
    ∷ case every (trial (ascii "a") (ascii "a") (ascii "x") 1000 (ascii "....."))
    (tried (record { number = 0; kind = 0; written = 1; replacements = 1; steps = 3 }) (ascii "x...."))
    ∷ case every (trial (ascii "abc") (ascii "%w*") (ascii "x") 1000 (ascii "....."))
    (tried (record { number = 0; kind = 0; written = 1; replacements = 1; steps = 7 }) (ascii "x...."))
    ∷ []

pub starred_hold : told starred ≡ wanted starred
unfolding checks_computed trial_computed
starred_hold = refl
