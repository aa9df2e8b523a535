-- `luck_token::string::simple_escape` meets its contract.
use native.Mathlib.Omega.{arith}
use borrow.Author.Tests.{ne_eqb}
use Rattle.luck_text.specs.Bytes.{when◌then◌else◌}
use Rattle.luck_token.specs.Literal.{simple_escape}
use Rattle.luck_token.proofs.string.simple_escape.Goals as goal

pub returns-in-97 : goal.returns-in-97
unfolding simple_escape when◌then◌else◌
returns-in-97 c = rw c.in-97.is

pub returns-in-98 : goal.returns-in-98
unfolding simple_escape when◌then◌else◌
returns-in-98 c = rw c.in-98.is

pub returns-in-102 : goal.returns-in-102
unfolding simple_escape when◌then◌else◌
returns-in-102 c = rw c.in-102.is

pub returns-in-110 : goal.returns-in-110
unfolding simple_escape when◌then◌else◌
returns-in-110 c = rw c.in-110.is

pub returns-in-114 : goal.returns-in-114
unfolding simple_escape when◌then◌else◌
returns-in-114 c = rw c.in-114.is

pub returns-in-116 : goal.returns-in-116
unfolding simple_escape when◌then◌else◌
returns-in-116 c = rw c.in-116.is

pub returns-in-118 : goal.returns-in-118
unfolding simple_escape when◌then◌else◌
returns-in-118 c = rw c.in-118.is

-- none of the letters
pub returns-in_default : goal.returns-in_default
unfolding simple_escape when◌then◌else◌
returns-in_default c =
    let x = c.args.byte in
    rw (
      ne_eqb x 97 (λ e. absurd (omega arith)),
      ne_eqb x 98 (λ e. absurd (omega arith)),
      ne_eqb x 102 (λ e. absurd (omega arith)),
      ne_eqb x 110 (λ e. absurd (omega arith)),
      ne_eqb x 114 (λ e. absurd (omega arith)),
      ne_eqb x 116 (λ e. absurd (omega arith)),
      ne_eqb x 118 (λ e. absurd (omega arith)),
    )
