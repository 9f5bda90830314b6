use Rattle.std.proofs.Common.{◌≡◌, ◌*◌, ◌++◌, ℕ, List, length, take, refl, sym}
use Rattle.std.proofs.Common.{ap}
use Rattle.std.proofs.Common.{◌∙◌, subst, arith}
use Rattle.xv_pool.specs.FrameList.{up_from}
use Rattle.xv_pool.specs.Resources.{Resources}
use Rattle.xv_region.specs.declared.plan.Region.{Region}
use Rattle.xv_region.specs.Need.{need}
use Rattle.xv_gstage.specs.Memory.{AreApart, AreInside, AreZero, HasFrames, IsZeroRoot}
use Rattle.xv_gstage.specs.Own.{pages_of, table_frames}
use Rattle.xv_gstage.proofs.Lists.{drop-contains}
use Rattle.xv_gstage.proofs.TestMemory.{test-apart, test-frames, test-inside, test-length}
use Rattle.xv_gstage.proofs.TestMemory.{test-root}
use Rattle.xv_gstage.proofs.TestMemory.{test-zeros, zero-tables}
use Rattle.xv_gstage.proofs.tests.mapped.Goals as goal

pub map-requires-clause-frames : goal.map-requires-clause-frames
map-requires-clause-frames g c =
    let free : c.in_ok-pool.pool.free ≡ up_from 64 4032 =
    ap (λ (p : Resources). p.free) c.in_ok-pool.ensures.fresh in
    let is : c.deref.result.now ≡ take c.need-need.result (up_from 64 4032) =
    c.deref.ensures.value ∙ c.in_ok-take_n.ensures.frames
    ∙ ap (λ (xs : List ℕ). xs ++ take c.need-need.result c.in_ok-pool.pool.free)
    c.in_ok-list.ensures.items
    ∙ ap (take c.need-need.result) free in
    let made = c.in_ok-memory.ensures in
    let whole : length c.in_ok-memory.memory ≡ 4096 * 4112 =
    ap length made ∙ test-length c.args.frames c.requires.frames in
    let same = c.in_ok-guest.ensures.map in
    let count = c.need-need.ensures.count in
    let long = c.deref.ensures.len in
    let counted = c.len.ensures in
    let found = c.if-len-need.false in
    let needs : need c.in_ok-guest.guest ≡ need c.args.regions.now = ap need same in
    let enough : length c.deref.result.now ≡ need c.args.regions.now = omega arith in
    subst (λ (rs : List Region). HasFrames (length c.in_ok-memory.memory) 3 rs c.deref.result.now)
    (sym same)
    (test-frames c.deref.result.now c.need-need.result 4032 is (omega arith) c.in_ok-memory.memory
    whole c.args.regions.now enough (record { start = 0x100_0000; len = 0x1_0000 }) refl refl
    c.requires.sound c.in_ok-guest.ensures.faultless)

pub map-requires-clause-apart : goal.map-requires-clause-apart
map-requires-clause-apart g c =
    let free : c.in_ok-pool.pool.free ≡ up_from 64 4032 =
    ap (λ (p : Resources). p.free) c.in_ok-pool.ensures.fresh in
    let is : c.deref.result.now ≡ take c.need-need.result (up_from 64 4032) =
    c.deref.ensures.value ∙ c.in_ok-take_n.ensures.frames
    ∙ ap (λ (xs : List ℕ). xs ++ take c.need-need.result c.in_ok-pool.pool.free)
    c.in_ok-list.ensures.items
    ∙ ap (take c.need-need.result) free in
    let made = c.in_ok-memory.ensures in
    let whole : length c.in_ok-memory.memory ≡ 4096 * 4112 =
    ap length made ∙ test-length c.args.frames c.requires.frames in
    let same = c.in_ok-guest.ensures.map in
    let count = c.need-need.ensures.count in
    let long = c.deref.ensures.len in
    let counted = c.len.ensures in
    let found = c.if-len-need.false in
    let needs : need c.in_ok-guest.guest ≡ need c.args.regions.now = ap need same in
    let enough : length c.deref.result.now ≡ need c.args.regions.now = omega arith in
    subst (λ (rs : List Region). AreApart 3 rs c.deref.result.now) (sym same)
    (test-apart c.deref.result.now c.need-need.result 4032 is (omega arith) c.in_ok-memory.memory
    whole c.args.regions.now enough (record { start = 0x100_0000; len = 0x1_0000 }) refl refl
    c.requires.sound c.in_ok-guest.ensures.faultless)

pub map-requires-clause-root : goal.map-requires-clause-root
map-requires-clause-root g c =
    subst (λ (bytes : List ℕ). IsZeroRoot bytes 3) (sym c.in_ok-memory.ensures)
    (test-root c.args.frames c.requires.frames)

pub map-requires-clause-zeros : goal.map-requires-clause-zeros
map-requires-clause-zeros g c =
    let free : c.in_ok-pool.pool.free ≡ up_from 64 4032 =
    ap (λ (p : Resources). p.free) c.in_ok-pool.ensures.fresh in
    let is : c.deref.result.now ≡ take c.need-need.result (up_from 64 4032) =
    c.deref.ensures.value ∙ c.in_ok-take_n.ensures.frames
    ∙ ap (λ (xs : List ℕ). xs ++ take c.need-need.result c.in_ok-pool.pool.free)
    c.in_ok-list.ensures.items
    ∙ ap (take c.need-need.result) free in
    let tables = table_frames c.in_ok-guest.guest c.deref.result.now in
    subst (λ (bytes : List ℕ). AreZero bytes
    (table_frames c.in_ok-guest.guest c.deref.result.now)) (sym c.in_ok-memory.ensures)
    (test-zeros c.args.frames c.requires.frames c.deref.result.now c.need-need.result 4032 is
    (omega arith) (table_frames c.in_ok-guest.guest c.deref.result.now)
    (λ f has. drop-contains (pages_of c.in_ok-guest.guest) c.deref.result.now f has))

pub unmap_all-requires : goal.unmap_all-requires
unmap_all-requires g c =
    let free : c.in_ok-pool.pool.free ≡ up_from 64 4032 =
    ap (λ (p : Resources). p.free) c.in_ok-pool.ensures.fresh in
    let is : c.deref-3.result.now ≡ take c.need-need.result (up_from 64 4032) =
    c.deref-3.ensures.value ∙ c.in_ok-take_n.ensures.frames
    ∙ ap (λ (xs : List ℕ). xs ++ take c.need-need.result c.in_ok-pool.pool.free)
    c.in_ok-list.ensures.items
    ∙ ap (take c.need-need.result) free in
    let made = c.in_ok-memory.ensures in
    let whole : length c.in_ok-memory.memory ≡ 4096 * 4112 =
    ap length made ∙ test-length c.args.frames c.requires.frames in
    let same = c.in_ok-guest.ensures.map in
    let count = c.need-need.ensures.count in
    let long = c.deref-3.ensures.len in
    let counted = c.len.ensures in
    let found = c.if-len-need.false in
    let needs : need c.in_ok-guest.guest ≡ need c.args.regions.now = ap need same in
    let enough : length c.deref-3.result.now ≡ need c.args.regions.now = omega arith in
    record {
      inside = subst (λ (n : ℕ). AreInside n 3 c.deref-3.result.now)
          (sym c.map.ensures.outside.whole)
          (test-inside c.deref-3.result.now c.need-need.result 4032 is (omega arith)
          c.in_ok-memory.memory
          whole c.args.regions.now enough (record { start = 0x100_0000; len = 0x1_0000 }) refl refl
          c.requires.sound c.in_ok-guest.ensures.faultless);
    }

pub audit-led-requires-clause-tables : goal.audit-led-requires-clause-tables
audit-led-requires-clause-tables g c =
    let made = c.in_ok-memory.ensures in
    let whole : length c.in_ok-memory.memory ≡ 4096 * 4112 =
    ap length made ∙ test-length c.args.frames c.requires.frames in
    let first = c.map.ensures.outside.whole in
    let last = c.unmap_all.ensures.outside.whole in
    zero-tables c.unmap_all.new.mem 3 (omega arith) c.unmap_all.ensures.root
