-- `lstr_class::class::classes` meets its contract. Assumes nothing.
use mathlib.Core.Path.{refl}
use Rattle.luck_text.specs.Bytes.{when◌then◌else◌, is_digit, is_xdigit, is_lua_whitespace}
use Rattle.lstr_class.specs.Class.{is_lower, is_upper, is_alpha, is_alnum, is_cntrl, is_graph, is_punct, to_lower}
use Rattle.lstr_class.specs.Inner.{bit, mask_of, class_bits, bits_of}
use Rattle.lstr_class.proofs.Classes.{class_of_lem}
use Rattle.lstr_class.proofs.class.classes.Goals as goal

pub returns : goal.returns
unfolding
    when◌then◌else◌ mask_of bit class_bits bits_of to_lower is_lower is_upper is_alpha is_alnum is_cntrl is_graph is_punct is_lua_whitespace is_digit is_xdigit
returns c = class_of_lem _ refl c.args.version
