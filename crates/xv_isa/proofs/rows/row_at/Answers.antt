-- The place is inside the table.
use Rattle.std.proofs.lemmas.Option.{slice_get-get_or}
use Rattle.xv_isa.specs.Rows.{rows}
use Rattle.xv_isa.proofs.rows.row_at.Goals as goal

pub returns : goal.returns
unfolding rows
returns c = slice_get-get_or rows c.args.place _ c.requires
