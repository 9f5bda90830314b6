use Rattle.std.proofs.Common.{◌≡◌, ◌+◌, ◌-◌, ◌≤◌, List, ℕ, length}
use Rattle.xv_fdt.specs.Token as spec
use Rattle.xv_fdt.proofs.token.next_token.Given as goal

abbrev pub invariant-loop-at : goal.invariant-loop-at
invariant-loop-at l = record {
  near : l.at ≤ length l.block + 3;
  forward : l.from ≤ l.at;
  same : (strings : List ℕ) → spec.tokens l.block strings l.at ≡ spec.tokens l.block strings l.from;
}

abbrev pub decreases-loop-at : goal.decreases-loop-at
decreases-loop-at l = length l.block - l.at
