use Rattle.std.proofs.Common.{◌∙◌, sym}
use Rattle.xv_region.specs.Cell.{nowhere}
use Rattle.xv_region.proofs.CellLemmas.{cell-nothing, cell-direct, cell-hop}
use Rattle.xv_region.proofs.RuleLemmas.{sound-length}
use Rattle.xv_region.proofs.map.RegionMap.cell.Goals as goal

pub place_of-requires : goal.place_of-requires
place_of-requires c =
    record { few = rw c.deref.ensures.value (sound-length _ c.self.invariant.sound) }

pub returns-in_default : goal.returns-in_default
returns-in_default c =
    record {
      cell = rw (← c.self.view_is, ← c.deref.ensures.value)
          (cell-nothing c.deref.result.now c.args.gpa c.args.len c.in_default.ensures.none);
    }

pub returns-in_default-kind : goal.returns-in_default-kind
returns-in_default-kind c = record {
  cell =
      c.cell_at.ensures
      ∙ rw (← c.self.view_is, ← c.deref.ensures.value)
      (cell-direct c.deref.result.now c.args.gpa c.args.len c.in-Some.place.region
      c.in-Some.place.offset c.in-Some.place.kind c.in-Some.ensures.found
      c.in_default-kind.not-Alias);
}

pub place_of-requires-2 : goal.place_of-requires-2
place_of-requires-2 c =
    record { few = rw c.deref-2.ensures.value (sound-length _ c.self.invariant.sound) }

pub returns-in_default-place_of : goal.returns-in_default-place_of
returns-in_default-place_of c = record {
  cell = rw (← c.self.view_is, ← c.deref.ensures.value) (
      sym (
      cell-hop c.deref.result.now c.args.gpa c.args.len c.in-Some.place.region
      c.in-Some.place.offset c.in-Some.place.kind c.in-Alias.target
      c.in-Some.ensures.found c.in-Alias.is
      ∙ rw (c.deref.ensures.value, ← c.deref-2.ensures.value)
      (c.in_default-place_of.ensures.none nowhere)
      )
      );
}

pub returns : goal.returns
returns c = record {
  cell =
      c.cell_at-2.ensures
      ∙ rw (← c.self.view_is, ← c.deref.ensures.value) (
      sym (
      cell-hop c.deref.result.now c.args.gpa c.args.len c.in-Some.place.region
      c.in-Some.place.offset c.in-Some.place.kind c.in-Alias.target
      c.in-Some.ensures.found c.in-Alias.is
      ∙ rw (c.deref.ensures.value, ← c.deref-2.ensures.value)
      (c.in-Some-place_of.ensures.found nowhere)
      )
      );
}
