-- A word that comes to no arm is of no row.
use Rattle.std.proofs.Common.{rules}
use Rattle.xv_isa.specs.Rows.{rows}
use Rattle.xv_isa.proofs.Misses.{misses_group, misses_opcodes}
use Rattle.xv_isa.proofs.decoder.find.Goals as goal

pub returns-in_default-5 : goal.returns-in_default-5
unfolding rows
returns-in_default-5 c = misses_group 103 c.args.word c.in-103.is (search rules)

pub returns-in_default-6 : goal.returns-in_default-6
unfolding rows
returns-in_default-6 c = misses_group 99 c.args.word c.in-99.is (search rules)

pub returns-in_default-7 : goal.returns-in_default-7
unfolding rows
returns-in_default-7 c = misses_group 3 c.args.word c.in-3.is (search rules)

pub returns-in_default-8 : goal.returns-in_default-8
unfolding rows
returns-in_default-8 c = misses_group 35 c.args.word c.in-35.is (search rules)

pub returns-in_default-10 : goal.returns-in_default-10
unfolding rows
returns-in_default-10 c = misses_group 19 c.args.word c.in-19.is (search rules)

pub returns-in_default-12 : goal.returns-in_default-12
unfolding rows
returns-in_default-12 c = misses_group 27 c.args.word c.in-27.is (search rules)

pub returns-in_default-13 : goal.returns-in_default-13
unfolding rows
returns-in_default-13 c = misses_group 51 c.args.word c.in-51.is (search rules)

pub returns-in_default-14 : goal.returns-in_default-14
unfolding rows
returns-in_default-14 c = misses_group 59 c.args.word c.in-59.is (search rules)

pub returns-in_default-15 : goal.returns-in_default-15
unfolding rows
returns-in_default-15 c = misses_group 15 c.args.word c.in-15.is (search rules)

pub returns-in_default-18 : goal.returns-in_default-18
unfolding rows
returns-in_default-18 c = misses_group 115 c.args.word c.in-115.is (search rules)

pub returns-in_default-20 : goal.returns-in_default-20
unfolding rows
returns-in_default-20 c = misses_group 47 c.args.word c.in-47.is (search rules)

pub returns-in_default : goal.returns-in_default
returns-in_default c = misses_opcodes c.args.word (search rules)
