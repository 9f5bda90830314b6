-- The plan of a guest that a tree describes, over the reserved area of the host, or the first rule
-- that it breaks.
use Rattle.std.specs.Prelude.{ℕ, List, get_or, codes, Option, Some, None, Result, Ok, Err}
use Rattle.xv_base.specs.declared.keys.Span.{Span}
use Rattle.xv_fdt.specs.Fault.{◌>>=◌}
use Rattle.xv_fdt.specs.Tree.{Entry}
use Rattle.xv_region.specs.declared.fault.RegionFault.{RegionFault}
use Rattle.xv_region.specs.declared.fault.RegionFault.TheVariants as regions
use Rattle.xv_region.specs.declared.plan.Region.{Region}
use Rattle.xv_region.specs.Plan.{Plan}
use Rattle.xv_region.specs.Rules.{first_fault}
use Rattle.xv_tree.specs.declared.fault.PlanKind.{PlanKind}
use Rattle.xv_tree.specs.declared.fault.PlanKind.TheVariants.{NoAspace, NoVcpus, BadAlias, BadHost}
use Rattle.xv_tree.specs.declared.fault.PlanFault.{PlanFault}
use Rattle.xv_tree.specs.declared.fault.PlanFault.TheVariants as faults
use Rattle.xv_tree.specs.Children.{Numbered, children, root_child}
use Rattle.xv_tree.specs.Fault.{in_turn}
use Rattle.xv_tree.specs.Regions.{Kept, nothing_kept, with_node}
use Rattle.xv_tree.specs.Vcpus.{vcpus_of}

-- the number of a child of the root, which must be there
abbrev pub number_needed : PlanKind → Option Numbered → Result ℕ PlanFault
number_needed kind None = Err (faults.At kind 0)
number_needed kind (Some n) = Ok n.0

-- a fault of the regions together, at the node of the region that breaks its rule
abbrev pub judged : Kept → Option RegionFault → Result (List Region) PlanFault
judged kept None = Ok kept.regions
judged kept (Some (regions.Overlap i j)) = Err (faults.Overlap i j)
judged kept (Some (regions.BadAlias j)) = Err (faults.At BadAlias (get_or kept.nodes j 0))
judged kept (Some (regions.BadHost j)) = Err (faults.At BadHost (get_or kept.nodes j 0))
judged kept (Some regions.NoMemory) = Ok kept.regions

abbrev pub regions_of : Span → List Numbered → Result (List Region) PlanFault
regions_of area nodes =
    in_turn with_node nothing_kept nodes >>= λ kept. judged kept (first_fault area kept.regions)

unfoldable pub plan : List Entry → Span → Result Plan PlanFault
plan entries area = do
  aspace ← number_needed NoAspace (root_child (codes "aspace") entries)
  vcpus ← number_needed NoVcpus (root_child (codes "vcpus") entries)
  described ← vcpus_of (children vcpus entries)
  found ← regions_of area (children aspace entries)
  Ok (record { regions = found; vcpus = described })
