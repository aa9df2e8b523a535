-- What ended the writing, by number and kind in include/luck.h.
-- Assumes nothing.
use Rattle.std.specs.Prelude.{ℕ}
use Rattle.lstr_item.specs.Errors.{kind_of}
use Rattle.lstr_write.specs.declared.stop.Stop.{Stop}
use Rattle.lstr_write.specs.declared.stop.Stop.TheVariants as stop

abbrev pub number_of : Stop → ℕ
number_of stop.OutputFull = 26
number_of (stop.Raised error) = 29

abbrev pub kind_of_stop : Stop → ℕ
kind_of_stop stop.OutputFull = 0
kind_of_stop (stop.Raised error) = kind_of error
