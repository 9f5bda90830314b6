use Rattle.xv_guest.proofs.CellLemmas.{page_range}
use Rattle.std.proofs.Common.{◌∙◌}
use Rattle.xv_guest.proofs.held.Held.piece.Goals as goal

pub returns : goal.returns
returns c =
    c.lend.ensures
    ∙ page_range c.args.mem.now c.args.self.now c.requires.held.memory c.args.region
    c.args.offset c.host_at.result c.requires.inside c.host_at.ensures.frame
    c.host_at.ensures.place c.args.len c.requires.fits
