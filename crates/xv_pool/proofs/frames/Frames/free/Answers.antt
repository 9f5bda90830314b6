use Rattle.std.proofs.Common.{subst}
use Rattle.xv_pool.specs.FrameList.{FrameList, AreFree}
use Rattle.xv_pool.proofs.MarkLemmas.{are_free}
use Rattle.xv_pool.proofs.frames.Frames.free.Goals as goal

pub returns-clause-facts : goal.returns-clause-facts
returns-clause-facts c =
    let P : FrameList → Type 0 = λ frames. AreFree frames in
    subst P c.self.view_is (are_free c.self.inside.first c.self.inside.marks.items)
