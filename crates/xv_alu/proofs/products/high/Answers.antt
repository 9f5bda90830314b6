-- The product of two 64-bit numbers fits 128 bits, and its high half 64.
use Rattle.std.proofs.Common.{◌∙◌}
use Rattle.xv_alu.proofs.Readings.{high_is}
use Rattle.xv_alu.proofs.products.high.Goals as goal

pub returns : goal.returns
returns c = c.register_of.ensures ∙ high_is c.args.x c.args.y c.ranges.x c.ranges.y
