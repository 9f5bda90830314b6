use Rattle.std.proofs.Common.{sym, subst, ◌∷◌, []}
use Rattle.xv_guest.specs.Frames.{AreCleared}
use Rattle.xv_guest.proofs.ClearLemmas.{cleared_one}
use Rattle.xv_guest.proofs.clear.clear_one.Goals as goal

pub returns : goal.returns
returns c =
    subst (λ bytes. AreCleared c.args.mem.now bytes (c.args.frame ∷ []))
    (sym c.zero_frame.ensures.bytes) (cleared_one c.args.mem.now c.args.frame c.requires)
