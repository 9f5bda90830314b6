use Rattle.std.proofs.Common.{ℕ, ◌<◌, List, subst, sym}
use Rattle.xv_region.specs.declared.plan.Region.{Region}
use Rattle.xv_gstage.specs.Own.{reserved_frames}
use Rattle.xv_guest.specs.Frames.{hits, IsInside, AreCleared}
use Rattle.xv_guest.proofs.GiveLemmas.{all_inside, reserved_inside, all_zero, all_within}
use Rattle.xv_guest.proofs.give.clear_all.Goals as goal

pub unmap_all-requires : goal.unmap_all-requires
unmap_all-requires c = record {
  inside = all_inside c.args.mem.now
      (record { root = c.args.root; regions = c.args.map.now; frames = c.args.frames.now })
      c.requires;
}

pub clear_reserved-requires : goal.clear_reserved-requires
clear_reserved-requires c =
    let P : List Region → Type 0 =
    λ regions. (frame : ℕ) → 0 < hits frame (reserved_frames regions)
    → IsInside c.unmap_all.new.mem frame in
    subst P (sym c.regions.ensures.value)
    (reserved_inside c.args.mem.now
    (record { root = c.args.root; regions = c.args.map.now; frames = c.args.frames.now })
    c.requires c.unmap_all.new.mem c.unmap_all.ensures.outside)

pub returns-clause-zeros : goal.returns-clause-zeros
returns-clause-zeros c =
    let P : List Region → Type 0 =
    λ regions. AreCleared c.unmap_all.new.mem c.clear_reserved.new.mem (reserved_frames regions) in
    all_zero c.args.mem.now
    (record { root = c.args.root; regions = c.args.map.now; frames = c.args.frames.now })
    c.requires c.unmap_all.new.mem c.unmap_all.ensures.outside c.clear_reserved.new.mem
    c.unmap_all.ensures.root c.unmap_all.ensures.frames
    (subst P c.regions.ensures.value c.clear_reserved.ensures)

pub returns-clause-within : goal.returns-clause-within
returns-clause-within c =
    let P : List Region → Type 0 =
    λ regions. AreCleared c.unmap_all.new.mem c.clear_reserved.new.mem (reserved_frames regions) in
    all_within c.args.mem.now
    (record { root = c.args.root; regions = c.args.map.now; frames = c.args.frames.now })
    c.requires c.unmap_all.new.mem c.unmap_all.ensures.outside c.clear_reserved.new.mem
    c.unmap_all.ensures.root c.unmap_all.ensures.frames
    (subst P c.regions.ensures.value c.clear_reserved.ensures)
