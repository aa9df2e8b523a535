-- Line breaks, as the lexers read them (whitespace.rs of luck; point 5 of document 03).
-- Assumes nothing.
use Rattle.std.specs.Prelude.{ℕ, ◌+◌, Bool, ◌&&◌, List, drop, eqb}
use Prim.Native.Char.{code}
use Rattle.luck_text.specs.Bytes.{when◌then◌else◌, byte_at}

-- how many bytes the line break at place p has, 0 where there is none. inclinenumber of llex.c: LF, CR, CR LF and LF CR
-- are one break each. Luau's lexer (no `lfcr`): LF, and CR LF.
unfoldable pub line_break : Bool → List ℕ → ℕ → ℕ
line_break lfcr text p =
    let here = byte_at text p in
    let next = byte_at text (p + 1) in
    when eqb here (code "\r") && eqb next (code "\n") then 2
    else when lfcr && eqb here (code "\n") && eqb next (code "\r") then 2
    else when lfcr && eqb here (code "\r") then 1
    else when eqb here (code "\n") then 1 else 0

-- a text without the line break that it starts with
unfoldable pub strip_line_break : Bool → List ℕ → List ℕ
strip_line_break lfcr text = drop (line_break lfcr text 0) text
