-- What the functions that write promise each other and the trial. No contract of `gsub` rests on these.
-- Assumes nothing.
use Rattle.std.specs.Prelude.{ℕ, ◌≤◌, ◌≡◌, List, ◌++◌, length, take, drop, Result, Ok, Err}
use Rattle.lstr_write.specs.Replace.{Wrote, wrote, ended}
use Rattle.lstr_write.specs.Stops.{number_of, kind_of_stop}
use Rattle.lstr_write.specs.declared.stop.Stopped.{Stopped}

-- what was written, into these bytes
abbrev pub wrote_of : Result ℕ Stopped → List ℕ → Wrote
wrote_of (Ok at) out = wrote out
wrote_of (Err e) out = ended (number_of e.stop) (kind_of_stop e.stop) out

-- up to where the output is written
abbrev pub end_of : Result ℕ Stopped → ℕ
end_of (Ok at) = at
end_of (Err e) = e.at

-- from `at` on the output holds what was written, and then what it held before
pub record WroteAs (r : Result ℕ Stopped) (at : ℕ) (entry exit : List ℕ) (w : Wrote) : Type 0 where
  pub is : wrote_of r (take (end_of r) exit) ≡ w
  pub untouched : exit ≡ take (end_of r) exit ++ drop (end_of r) entry
  pub further : at ≤ end_of r
  pub inside : end_of r ≤ length entry
