use Rattle.std.proofs.Common.{ap, List, ℕ, sym, subst, ◌∙◌}
use Rattle.xv_guest.specs.Held.{WithinMemory, memory_of}
use Rattle.xv_guest.proofs.CellLemmas.{page_put, page_under}
use Rattle.xv_guest.proofs.held.Held.put_piece.Goals as goal

pub returns-clause-memory : goal.returns-clause-memory
returns-clause-memory c =
    let g = c.args.self.now in
    ap (λ (bytes : List ℕ). memory_of bytes g) c.copy_in.ensures.bytes
    ∙ page_put c.args.mem.now g c.requires.held.memory c.args.region c.args.offset
    c.host_at-at.result c.args.piece.now c.host_at-at.ensures.frame c.host_at-at.ensures.place
    c.requires.fits

pub returns-clause-within : goal.returns-clause-within
returns-clause-within c =
    let g = c.args.self.now in
    subst (λ (bytes : List ℕ). WithinMemory g c.args.mem.now bytes) (sym c.copy_in.ensures.bytes)
    (page_under c.args.mem.now g c.requires.held.memory c.args.region c.args.offset
    c.host_at-at.result c.args.piece.now c.host_at-at.ensures.frame c.host_at-at.ensures.place
    c.requires.fits)
