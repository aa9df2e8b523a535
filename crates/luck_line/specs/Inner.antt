-- What a line is answered that is refused before its body is read. No public contract but that of the conversion rests
-- on it.
-- Assumes nothing.
use Rattle.luck_answer.specs.Answer.{Answer, refused}
use Rattle.luck_line.specs.declared.line.LineError.{LineError}
use Rattle.luck_line.specs.declared.line.LineError.TheVariants.{TooLong, NoHead}

abbrev pub line_refused : LineError → Answer
line_refused TooLong = refused 31 0
line_refused NoHead = refused 30 0
