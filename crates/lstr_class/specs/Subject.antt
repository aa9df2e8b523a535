-- Tests of the subject's bytes that need no pattern: equal parts, balanced pairs and the byte before a place
-- (match_capture, matchbalance and `%f` of lstrlib.c 5.4; document 01, "The trial").
-- In what follows s is a place of the subject.
-- Assumes nothing.
use Rattle.std.specs.Prelude.{ℕ, zero, suc, ◌+◌, ◌-◌, Bool, true, ◌&&◌, List, length, eqb, ltb, Option, None, Some}
use Rattle.luck_text.specs.Bytes.{when◌then◌else◌, byte_at}

-- n bytes of the subject from place a and from place b on are the same
unfoldable pub same_bytes : List ℕ → ℕ → ℕ → ℕ → Bool
same_bytes sub zero a b = true
same_bytes sub (suc n) a b = eqb (byte_at sub a) (byte_at sub b) && same_bytes sub n (a + 1) (b + 1)

-- matchbalance, inside `depth` of x: the place after the y that closes the first. n bytes are left
unfoldable pub balance_end : List ℕ → ℕ → ℕ → ℕ → ℕ → ℕ → Option ℕ
balance_end sub x y zero depth s = None
balance_end sub x y (suc n) depth s =
    let closes = balance_end sub x y n (depth - 1) (s + 1) in
    let opens = balance_end sub x y n (depth + 1) (s + 1) in
    let passes = balance_end sub x y n depth (s + 1) in
    when eqb (byte_at sub s) y then (when eqb depth 1 then Some (s + 1) else closes)
    else when eqb (byte_at sub s) x then opens else passes

-- the x stands at s
unfoldable pub match_balance : List ℕ → ℕ → ℕ → ℕ → Option ℕ
match_balance sub x y s =
    when ltb s (length sub) && eqb (byte_at sub s) x then balance_end sub x y (length sub - (s + 1)) 1 (s + 1) else None

-- the byte before s. A zero byte stands before the subject's first byte; after its last one byte_at gives a zero byte
unfoldable pub byte_before : List ℕ → ℕ → ℕ
byte_before sub zero = 0
byte_before sub (suc s) = byte_at sub s
