-- Words of the program's own contracts: what was kept so far, and the fault that is answered.
use Rattle.std.specs.Prelude.{ℕ, List, get_or}
use Rattle.xv_region.specs.declared.fault.RegionFault.{RegionFault}
use Rattle.xv_region.specs.declared.fault.RegionFault.TheVariants as regions
use Rattle.xv_tree.specs.declared.fault.PlanKind.TheVariants.{BadAlias, BadHost}
use Rattle.xv_tree.specs.declared.fault.PlanFault.{PlanFault}
use Rattle.xv_tree.specs.declared.fault.PlanFault.TheVariants as faults
use Rattle.xv_tree.specs.declared.regions.Kept.{Kept}
use Rattle.xv_tree.specs.Regions as spec

abbrev pub seen : Kept → spec.Kept
seen kept = record { regions = kept.regions.items; nodes = kept.nodes.items }

abbrev pub plan_fault : List ℕ → RegionFault → PlanFault
plan_fault nodes (regions.Overlap i j) = faults.Overlap i j
plan_fault nodes (regions.BadAlias j) = faults.At BadAlias (get_or nodes j 0)
plan_fault nodes (regions.BadHost j) = faults.At BadHost (get_or nodes j 0)
plan_fault nodes regions.NoMemory = faults.NoMemory
