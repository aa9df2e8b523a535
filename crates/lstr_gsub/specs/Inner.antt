-- What the inner functions of the trial promise each other. No public contract rests on these.
-- Assumes nothing.
use Rattle.std.specs.Prelude.{ℕ, ◌≡◌, Bool, List, Result, Ok, Err}
use Rattle.luck_replacement.specs.Replacement.{pieces}
use Rattle.lstr_match.specs.Inner as attempts
use Rattle.lstr_match.specs.declared.outcome.Stop.{Stop}
use Rattle.lstr_write.specs.Replace.{add_pieces}
use Rattle.lstr_write.specs.Stops as writings
use Rattle.lstr_write.specs.declared.stop.Stopped.{Stopped}
use Rattle.lstr_gsub.specs.Gsub.{TrialResult, Writer, report, report_of, output_after}
use Rattle.lstr_gsub.specs.declared.gsub.Trial.{Trial}

-- the code's answer is this one, and the output holds what it has written, and then what it held before
pub record Reported (r : Trial) (entry exit : List ℕ) (a : TrialResult) : Type 0 where
  pub is : report_of r ≡ report a
  pub output : exit ≡ output_after entry a

-- what the code answers where an attempt stops the trial
abbrev pub stopped_as : Stop → ℕ → ℕ → ℕ → Trial
stopped_as s at n u =
    record {
      number = attempts.number_of s;
      kind = attempts.kind_of_stop s;
      written = at;
      replacements = n;
      steps = u;
    }

-- and where it ends with a writing
abbrev pub wrote_as : Result ℕ Stopped → ℕ → ℕ → Trial
wrote_as (Ok at) n u = record { number = 0; kind = 0; written = at; replacements = n; steps = u }
wrote_as (Err e) n u =
    record {
      number = writings.number_of e.stop;
      kind = writings.kind_of_stop e.stop;
      written = e.at;
      replacements = n;
      steps = u;
    }

-- the writer of a replacement, strict or not
unfoldable pub writer_by : Bool → List ℕ → List ℕ → ℕ → Writer
writer_by strict rep sub room s e cs out = add_pieces sub room s e cs strict (pieces rep) out
