-- What a guest is made of, as contracts see it.
use Rattle.std.specs.Prelude.{ℕ, ◌*◌, List, [], ◌∷◌, codes}
use Rattle.xv_region.specs.declared.plan.Region.{Region}
use Rattle.xv_region.specs.declared.plan.VcpuPlan.{VcpuPlan}
use Rattle.xv_region.specs.declared.plan.Kind.TheVariants.{Ram}

-- the regions and the VCPUs, both in order
pub record Plan : Type 0 where
  pub regions : List Region
  pub vcpus : List VcpuPlan

-- where the memory of a flat guest begins, and its one VCPU starts
abbrev pub flat_base : ℕ
flat_base = 0x8000_0000

-- the priority of a VCPU that gives none
abbrev pub usual_priority : ℕ
usual_priority = 3

-- a flat guest: one region of so many pages of 4,096 bytes, and one VCPU
abbrev pub flat : ℕ → Plan
flat pages = record {
  regions = record { name = codes "ram"; base = flat_base; size = 4096 * pages; kind = Ram } ∷ [];
  vcpus = record { start = flat_base; priority = usual_priority } ∷ [];
}
