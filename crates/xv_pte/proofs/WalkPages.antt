-- The walk of an address is the walk of its page, and the offset.
use Rattle.std.proofs.Common.{◌≡◌, ℕ, ◌+◌, ◌*◌, ◌/◌, ◌%◌, ◌<◌, List, Option, Some, None, refl, ap}
use Rattle.std.proofs.Common.{◌∙◌, sym, arith}
use Rattle.xv_pte.specs.declared.g_entry.Mapping.{Mapping}
use Rattle.xv_pte.specs.declared.g_stage.Leaf.{Leaf}
use Rattle.xv_pte.specs.GStage.{led, leaf_at, walked, offset_by}

abbrev leaf : ℕ → Mapping → Option Leaf
leaf at mapping = Some (record { host = at; writable = mapping.writable })

module _ (page offset : ℕ) (low : offset < 4096) where
  leaf_in_page : (to : Option Mapping)
      → leaf_at (4096 * page + offset) to ≡ offset_by offset (leaf_at (4096 * page) to)
  leaf_in_page None = refl
  leaf_in_page (Some mapping) =
      let at : 4096 * mapping.frame + (4096 * page + offset) % 4096
      ≡ 4096 * mapping.frame + 4096 * page % 4096 + offset = omega arith in
      ap (λ at. leaf at mapping) at

  pub walked_in_page : (bytes : List ℕ) (root : ℕ) → walked bytes root (4096 * page + offset)
      ≡ offset_by offset (walked bytes root (4096 * page))
  walked_in_page bytes root =
      let at : (4096 * page + offset) / 4096 ≡ 4096 * page / 4096 = omega arith in
      ap (λ at. leaf_at (4096 * page + offset) (led bytes root at)) at
      ∙ leaf_in_page (led bytes root (4096 * page / 4096))

-- where an address leads, as where its page does
pub record IsIn (gpa : ℕ) (leaf : Leaf) (mapping : Mapping) : Type 0 where
  pub frame : leaf.host / 4096 ≡ mapping.frame
  pub offset : leaf.host % 4096 ≡ gpa % 4096
  pub writable : leaf.writable ≡ mapping.writable

pub page_of_leaf : (gpa : ℕ) (to : Option Mapping) (leaf : Leaf) → leaf_at gpa to ≡ Some leaf
    → (mapping : Mapping) × (to ≡ Some mapping) × IsIn gpa leaf mapping
page_of_leaf gpa None leaf e = cc
page_of_leaf gpa (Some mapping) leaf e =
    let host : 4096 * mapping.frame + gpa % 4096 ≡ leaf.host = cc in
    let writable : mapping.writable ≡ leaf.writable = cc in (
      mapping,
      refl,
      record {
        frame = omega arith;
        offset = omega arith;
        writable = sym writable;
      },
    )
