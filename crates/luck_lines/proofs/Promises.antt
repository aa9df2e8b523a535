-- What is promised of the stream of lines: however an input is cut into pieces, and whenever its lines are taken, what is written is the listing of the
-- whole input, its totals included; a listing that is cut off is told from a whole one (document 02, F-9); and of every line: its number is 0 or a
-- refusal of document 01, and its offset and its count are at most the body's length.
-- Assumes nothing.
use Prim.Native.Nat.{ℕ, ◌+◌, ◌*◌, ◌-◌, ◌≤◌}
use mathlib.Core.Path.{◌≡◌, subst, ◌∙◌}
use mathlib.Core.Bool.{true, false}
use mathlib.Core.List.{List, [], ◌++◌}
use lib.ListN.{length, drop}
use Rattle.luck_text.specs.Bytes.{among}
use Rattle.luck_line.specs.Line.{longest, line_answer, line_numbers}
use Rattle.luck_lines.specs.Lines.{lines, listing, is_empty, is_whole}
use Rattle.luck_lines.specs.Stream.{row_length, totals_length, line_length, start, feed, finish, listing_after, Run, stops, fails}
use Rattle.luck_lines.specs.declared.stream.State.{State}
use Rattle.luck_line.proofs.Answers.{line_fits}
use Rattle.luck_lines.proofs.Listings.{from_start}
use Rattle.luck_lines.proofs.Cuts.{cut, left_short}
use Rattle.luck_lines.proofs.Runs.{run_gives, one_run}
use Rattle.luck_lines.proofs.Ends.{listing_bytes, whole_or_cut, cut_off}

-- every run over an input that does not fail writes its listing,
pub whole_listing : (input written : List ℕ) → Run true start [] input written → written ≡ listing input
whole_listing input written run = run_gives true start [] input written run ∙ from_start input

-- and there is one
pub some_run : (input : List ℕ) → Run true start [] input (listing input)
some_run input = subst (Run true start [] input) (from_start input) (one_run input)

-- 19 bytes for each line, and 15
pub listing_length : (input : List ℕ) → length (listing input) ≡ row_length * length (lines input) + totals_length
listing_length input = listing_bytes input

-- of all beginnings of a listing only the whole one ends in a line of 14 columns and its newline
pub whole_told : (input out rest : List ℕ) → out ++ rest ≡ listing input → is_whole out ≡ is_empty rest
whole_told input out rest e = whole_or_cut input out rest e

-- a run may fail at any time before its last write, and at each byte of it;
pub some_stop : (s : State) (held input : List ℕ) → Run false s held input []
some_stop s held input = stops s held input

pub some_failure : (s : State) (held : List ℕ) (room : ℕ) (written rest : List ℕ) → line_length held ≡ length held → row_length + totals_length ≤ room
    → written ++ rest ≡ finish s held room → is_empty rest ≡ false → Run false s held [] written
some_failure s held room written rest e h f n = fails s held room written rest e h f n

-- what a run wrote that failed begins the listing, and is not all of it;
pub failed_begins : (input written : List ℕ) → Run false start [] input written → (more : List ℕ) × ((written ++ more ≡ listing input) × (is_empty more ≡ false))
failed_begins input written run = let (more, (e, n)) = run_gives false start [] input written run in (more, (e ∙ from_start input, n))

-- so it does not end so, nor does any beginning of it, where rows were written in part
pub failed_told : (input written out rest : List ℕ) → Run false start [] input written → out ++ rest ≡ written → is_whole out ≡ false
failed_told input written out rest run o = let (more, (e, n)) = failed_begins input written run in cut_off input written more out rest e n o

-- in a run that is not at its end: the rows that a call writes, and then what is due for what it leaves and for all that follows
pub listing_due : (input rest : List ℕ) (room : ℕ) (s : State)
    → listing_after s (input ++ rest) ≡ (feed input room s).written ++ listing_after (feed input room s).state (drop (feed input room s).used input ++ rest)
listing_due input rest room s = cut input rest room s

-- a call with room for a row that writes none leaves no newline, so that `finish` may follow at the end of the input, and at most 4,005 bytes, so that
-- a larger buffer has room for more
pub leaves : (input : List ℕ) (room : ℕ) (s : State) → row_length ≤ room → (feed input room s).written ≡ []
    → (length input - (feed input room s).used ≤ longest)
    × (line_length (drop (feed input room s).used input) ≡ length (drop (feed input room s).used input))
leaves input room s h e = left_short input room s h e

-- every line
pub line_refusals : (line : List ℕ)
    → ((line_answer line).offset ≤ length line - 5) × (among (line_answer line).number line_numbers ≡ true) × ((line_answer line).count ≤ length line - 5)
line_refusals line = line_fits line
