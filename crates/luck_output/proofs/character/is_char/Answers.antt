-- `luck_output::character::is_char` meets its contract. Assumes nothing.
use native.Mathlib.Omega.{arith}
use borrow.Author.Tests.{lt-ltb, le-ltb, le-leb, lt-leb}
use Rattle.luck_utf8.specs.Utf8.{is_char}
use Rattle.luck_output.proofs.character.is_char.Goals as goal

pub returns-then-code-lt55296 : goal.returns-then-code-lt55296
unfolding is_char
returns-then-code-lt55296 c = rw (lt-ltb c.args.code 0xD800 c.if-code-lt55296.true)

pub returns-then-code-lt57344 : goal.returns-then-code-lt57344
unfolding is_char
returns-then-code-lt57344 c = let code = c.args.code in rw (le-ltb code 0xD800 c.if-code-lt55296.false, lt-leb 0xE000 code c.if-code-lt57344.true)

pub returns : goal.returns
unfolding is_char
returns c = let code = c.args.code in rw (le-ltb code 0xD800 (omega arith), le-leb 0xE000 code (omega arith))
