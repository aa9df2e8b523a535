-- What is tested of a text before it is read: 25, then 23 (document 01, of checks under "Records", of decoding under
-- the refusals). `refusal` makes an answer of a refusal's number and its offset.
-- Assumes nothing.
use Rattle.std.specs.Prelude.{ℕ, List, Option, None, Some, Result, Ok, Err, eqb}
use Rattle.luck_text.specs.Bytes.{when◌then◌else◌}
use Rattle.luck_utf8.specs.Utf8.{ill_formed}
use Rattle.luck_token.specs.Version.{is_version, rules_of}
use Rattle.luck_token.specs.declared.version.Rules.{Rules}
use Rattle.luck_token.specs.declared.text.TextError.{TextError}
use Rattle.luck_token.specs.declared.text.TextError.TheVariants.{UnknownVersion, NotUtf8}

-- 25 where the version is none of the six
unfoldable pub after_version : {A : Type 0} → (ℕ → ℕ → A) → ℕ → A → A
after_version refusal version answer = when is_version version then answer else refusal 25 0

-- 23 at the first ill-formed sequence, if there is one
unfoldable pub after_utf8 : {A : Type 0} → (ℕ → ℕ → A) → Option ℕ → A → A
after_utf8 refusal None answer = answer
after_utf8 refusal (Some place) answer = refusal 23 place

-- 25, then 23, then the answer of what is read
unfoldable pub after_text : {A : Type 0} → (ℕ → ℕ → A) → ℕ → List ℕ → A → A
after_text refusal version text answer = after_version refusal version (after_utf8 refusal (ill_formed text) answer)

-- the code's error for a refusal's number and offset, and the refusal that it stands for
abbrev pub text_error : ℕ → ℕ → TextError
text_error number place = when eqb number 25 then UnknownVersion else NotUtf8 place

abbrev pub text_refusal : {A : Type 0} → (ℕ → ℕ → A) → TextError → A
text_refusal refusal UnknownVersion = refusal 25 0
text_refusal refusal (NotUtf8 place) = refusal 23 place

-- what the code reads of a text before it is walked over: the rules of its version
unfoldable pub read_text : ℕ → List ℕ → Result Rules TextError
read_text version text = after_text (λ number place. Err (text_error number place)) version text (Ok (rules_of version))
