-- The captures of a pattern so far: an entry for each, true once its `)` has been read (the Vec<bool> of luck's
-- validate_lua_pattern).
-- Assumes nothing.
use Rattle.std.specs.Prelude.{ℕ, suc, ◌-◌, Bool, true, false, ◌&&◌, List, [], ◌∷◌, ltb, get_or, set, Option, None, Some}

-- LUA_MAXCAPTURES of lstrlib.c
abbrev pub max_captures : ℕ
max_captures = 32

-- by the first capture, and the latest open one of those behind it
abbrev pub open_by : Bool → Option ℕ → Option ℕ
open_by closed (Some i) = Some (suc i)
open_by true None = None
open_by false None = Some 0

-- capture_to_close of lstrlib.c: the latest open capture, counted from 0, none where no capture is open
unfoldable pub latest_open : List Bool → Option ℕ
latest_open [] = None
latest_open (closed ∷ later) = open_by closed (latest_open later)

-- the captures with this one closed
abbrev pub close_at : List Bool → Option ℕ → Option (List Bool)
close_at captures None = None
close_at captures (Some i) = Some (set captures i true)

unfoldable pub close_latest : List Bool → Option (List Bool)
close_latest captures = close_at captures (latest_open captures)

-- capture d, counted from 1, was seen and is closed
unfoldable pub is_closed : List Bool → ℕ → Bool
is_closed captures d = ltb 0 d && get_or captures (d - 1) false

unfoldable pub all_closed : List Bool → Bool
all_closed [] = true
all_closed (closed ∷ later) = closed && all_closed later
