-- The trail: what the steps began with.
use Rattle.std.specs.Prelude.{ℕ, List, [], Option, Some, None, Vec, vec_capacity}
use Rattle.xv_hart.specs.declared.regs.Regs.{Regs}

pub record TrailState : Type 0 where
  pub entries : List Regs
  -- how many entries there is room for
  pub room : ℕ

abbrev pub no_trail : TrailState
no_trail = record { entries = []; room = 0 }

abbrev pub entries_of : {A : Type 0} → Option (Vec Regs A) → List Regs
entries_of None = []
entries_of (Some v) = v.items

abbrev pub capacity_of : {A : Type 0} → Option (Vec Regs A) → ℕ
capacity_of None = 0
capacity_of (Some v) = vec_capacity v
