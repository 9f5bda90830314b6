use Rattle.std.proofs.Common.{arith}
use Rattle.xv_pool.proofs.SoundLemmas.{all_out-true}
use Rattle.xv_pool.proofs.roots.least_root.Goals as goal

pub returns-clause-none : goal.returns-clause-none
returns-clause-none c =
    all_out-true c.args.roots.now (λ k within. c.loop-root.invariant k (omega arith))
