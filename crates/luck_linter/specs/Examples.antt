-- A text for every number in the list of each check, with the counts below, most of them from document 01's table of
-- refusals: the lists name no number that their check never answers.
-- Assumes nothing.
use Rattle.std.specs.Prelude.{ℕ, ◌≡◌, refl, true, false, List, [], ◌∷◌, ◌++◌, Option, None, Some}
use Prim.Native.Char.{code}
use Rattle.luck_text.specs.Bytes.{ascii}
use Rattle.luck_answer.specs.Answer.{Answer}
use Rattle.luck_linter.specs.Checks.{
  Check,
  pattern,
  format,
  date,
  replacement,
  pack,
  check_of,
  answer,
  numbers,
  named_numbers,
}
use Rattle.luck_linter.specs.StringLiteral.{check_literal}
use Rattle.luck_linter.specs.Computed.{computed}

-- ---- Texts

-- under a version, a text gives a number
pub data Example : Type 0 where
  gives : ℕ → List ℕ → ℕ → Example

-- byte FF, and version 7
abbrev unread : List Example
unread = gives 1 (0xFF ∷ []) 23 ∷ gives 7 [] 25 ∷ []

-- `untested` has a text for each number of the check without the test of ranges, `patterns` one for 39 too
abbrev untested : List Example
untested =
    gives 1 (ascii "()%1") 0
    ∷ gives 1 (ascii "[%") 1
    ∷ gives 1 (ascii "[]a") 8
    ∷ gives 1 (ascii "[^]") 9
    ∷ gives 1 (ascii "a%f") 10
    ∷ gives 1 (ascii "(a") 11
    ∷ gives 1 (ascii "(((((((((((((((((((((((((((((((((") 12
    ∷ gives 1 (ascii "(a%1)") 13
    ∷ unread

abbrev patterns : List Example
patterns = untested ++ (gives 1 (ascii "[z-a]") 39 ∷ [])

abbrev formats : List Example
formats =
    gives 1 (ascii "%d%s") 0
    ∷ gives 1 (ascii "a%") 1
    ∷ gives 1 (ascii "%y") 2
    ∷ gives 1 (ascii "%------d") 3
    ∷ gives 1 (ascii "%123d") 4
    ∷ gives 1 (ascii "%.123d") 5
    ∷ gives 4 (ascii "%#d") 6
    ∷ gives 4 (ascii "%000000000000000000000d") 7
    ∷ unread

abbrev dates : List Example
dates = gives 2 (ascii "%Y") 0 ∷ gives 2 (ascii "%") 19 ∷ gives 2 (ascii "%Q") 22 ∷ unread

-- with any count of captures, and with one
abbrev replacements : List Example
replacements = gives 2 (ascii "%1") 0 ∷ gives 2 (ascii "a%") 19 ∷ gives 2 (ascii "%x") 20 ∷ unread

abbrev one_capture : List Example
one_capture = replacements ++ (gives 2 (ascii "%2") 21 ∷ [])

abbrev packs : List Example → List Example
packs more =
    gives 1 (ascii "!5j") 0 ∷ gives 1 (ascii "b1") 14 ∷ gives 1 (ascii "c") 15 ∷ gives 1 (ascii "i17") 16
    ∷ gives 1 (ascii "!8i3") 17 ∷ more

abbrev packsizes : List Example
packsizes = packs (gives 1 (ascii "bz") 18 ∷ unread)

-- as literals
abbrev quoted : List Example → List Example
quoted [] = []
quoted (gives version text number ∷ more) = gives version (code "\"" ∷ (text ++ (code "\"" ∷ []))) number ∷ quoted more

abbrev pub examples : List (Check × List Example)
examples =
    (pattern true, patterns)
    ∷ (pattern false, untested)
    ∷ (format, formats)
    ∷ (date, dates)
    ∷ (replacement None, replacements)
    ∷ (replacement (Some 9), replacements)
    ∷ (replacement (Some 1), one_capture)
    ∷ (pack false, packs unread)
    ∷ (pack true, packsizes)
    ∷ []

-- the same texts as literals, by their kind letters and counts of captures; and a byte that is no kind letter
abbrev pub literals : List ((ℕ × Option ℕ) × List Example)
literals =
    ((code "P", None), quoted patterns)
    ∷ ((code "F", None), quoted formats)
    ∷ ((code "D", None), quoted dates)
    ∷ ((code "G", None), quoted replacements)
    ∷ ((code "G", Some 1), quoted one_capture)
    ∷ ((code "K", None), quoted (packs unread))
    ∷ ((code "S", None), quoted packsizes)
    ∷ ((code "Q", None), gives 1 [] 30 ∷ [])
    ∷ []

-- ---- What is said of them

-- the numbers that are answered to examples
abbrev pub answers : (ℕ → List ℕ → Answer) → List Example → List ℕ
answers ask [] = []
answers ask (gives version text number ∷ more) = (ask version text).number ∷ answers ask more

-- the check of a literal at the start of its source
abbrev literal_of : ℕ → Option ℕ → ℕ → List ℕ → Answer
literal_of kind captures version text = (check_literal kind version captures 0 text).answer

-- and those that they name
abbrev pub named : List Example → List ℕ
named [] = []
named (gives version text number ∷ more) = number ∷ named more

abbrev pub Each : {A : Type 0} → (A → List Example → Type 0) → List (A × List Example) → Type 0
Each P [] = Unit {0}
Each P (of ∷ more) = P of.0 of.1 × Each P more

-- each text gives its number
pub examples_hold : Each (λ check list. answers (answer check) list ≡ named list) examples
unfolding computed
examples_hold = (refl, (refl, (refl, (refl, (refl, (refl, (refl, (refl, (refl, tt)))))))))

pub literals_hold : Each (λ of list. answers (literal_of of.0 of.1) list ≡ named list) literals
unfolding computed
literals_hold = (refl, (refl, (refl, (refl, (refl, (refl, (refl, (refl, tt))))))))

-- the numbers of a check's list are those of its examples: one that is added there needs a text here
pub examples_whole : Each (λ check list. numbers check ≡ named list) examples
unfolding computed
examples_whole = (refl, (refl, (refl, (refl, (refl, (refl, (refl, (refl, (refl, tt)))))))))

pub literals_whole : Each (λ of list. named_numbers (check_of of.0 of.1) ≡ named list) literals
unfolding computed
literals_whole = (refl, (refl, (refl, (refl, (refl, (refl, (refl, (refl, tt))))))))
