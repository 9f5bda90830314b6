use Rattle.std.proofs.Common.{◌≡◌, ◌<◌, ℕ, true, None, get_or, is_some}
use Rattle.xv_host.proofs.table.Table.least_key.Given as goal

-- each key before has a value
abbrev pub invariant-loop-place : goal.invariant-loop-place
invariant-loop-place g l =
    (k : ℕ) → k < l.place → is_some (get_or l.self k None) ≡ true
