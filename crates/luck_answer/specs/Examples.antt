-- Answers with all their fields, computed: which character comes first, and that a refusal has no count and an
-- acceptance nothing else.
-- Assumes nothing.
use Prim.Native.Char.{code}
use Rattle.std.specs.Prelude.{◌≡◌, refl, List, [], ◌∷◌, Ok, Err}
use Rattle.luck_token.specs.declared.text.TextError.TheVariants.{UnknownVersion, NotUtf8}
use Rattle.luck_answer.specs.Answer.{Answer, refusal, answer_of}
use Rattle.luck_answer.specs.declared.format_pattern.PatternError.TheVariants as error
use Rattle.luck_answer.specs.declared.format_pattern.CheckError.TheVariants.{Text}

-- in `%#d` at offset 1 the modifier `#` is the first character, the conversion `d` the second
pub answers : ◌≡◌ {A = List Answer}
    (refusal (error.BadModifier 1 (code "#") (code "d"))
    ∷ refusal (error.BadFlag 6 (code "-"))
    ∷ refusal (error.UnmatchedCapture 2)
    ∷ answer_of (Err (Text (NotUtf8 3)))
    ∷ answer_of (Err (Text UnknownVersion))
    ∷ answer_of (Ok 4)
    ∷ [])
    (record { number = 6; offset = 1; first = code "#"; second = code "d"; count = 0 }
    ∷ record { number = 3; offset = 6; first = code "-"; second = 0; count = 0 }
    ∷ record { number = 11; offset = 2; first = 0; second = 0; count = 0 }
    ∷ record { number = 23; offset = 3; first = 0; second = 0; count = 0 }
    ∷ record { number = 25; offset = 0; first = 0; second = 0; count = 0 }
    ∷ record { number = 0; offset = 0; first = 0; second = 0; count = 4 }
    ∷ [])
answers = refl
