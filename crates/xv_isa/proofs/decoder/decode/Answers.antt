-- What the two readable clauses say follows from the row that was found, or from its absence.
use Rattle.xv_isa.proofs.OneRow.{all_miss, decoded_one}
use Rattle.xv_isa.proofs.RoundTrip.{decoded_range}
use Rattle.xv_isa.proofs.decoder.decode.Goals as goal

pub returns-in_default-clause-none : goal.returns-in_default-clause-none
returns-in_default-clause-none c = all_miss c.args.word c.in_default.ensures

pub returns-clause-one : goal.returns-clause-one
returns-clause-one c =
    decoded_one c.args.word c.in-Some.found.place c.in-Some.found.form c.operands.result
    c.in-Some.ensures c.operands.ensures

pub returns-clause-range : goal.returns-clause-range
returns-clause-range c =
    decoded_range c.args.word c.in-Some.found.place c.in-Some.found.form c.operands.result
    c.in-Some.ensures c.operands.ensures
