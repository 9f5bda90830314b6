-- What stands where every page of memory is led to its own frame, and no other anywhere.
use Rattle.std.proofs.Common.{◌≡◌, ◌≢◌, ℕ, zero, suc, ◌+◌, ◌*◌, ◌/◌, ◌%◌, ◌<◌, ◌≤◌, ◌==◌}
use Rattle.std.proofs.Common.{Bool, true, false, cond, List, [], ◌∷◌, length, get_or}
use Rattle.std.proofs.Common.{sum_by, Option, Some, refl, sym, ap, ◌∙◌, subst, arith, inl, inr}
use Rattle.std.proofs.Common.{◌⊎◌}
use Rattle.std.specs.List.{Contains}
use Rattle.std.proofs.lemmas.Bool.Decides.{nat_tests}
use Rattle.std.proofs.lemmas.List.Sums.{sum_by-cons}
use Rattle.xv_mem.proofs.Puts.{range_same}
use Rattle.xv_pte.specs.declared.g_entry.Mapping.{Mapping}
use Rattle.xv_pte.specs.declared.g_stage.Leaf.{Leaf}
use Rattle.xv_pte.specs.GStage.{HasTables, frame_bytes, leaf_at, led, walked}
use Rattle.xv_pte.proofs.WalkLocal.{byte_words, same_by_words, walked_local}
use Rattle.xv_pte.proofs.WalkPages.{IsIn, page_of_leaf}
use Rattle.xv_region.specs.declared.cell.Cell.TheVariants as cells
use Rattle.xv_region.specs.declared.plan.Region.{Region}
use Rattle.xv_region.specs.Cell.{cell}
use Rattle.xv_region.specs.Need.{count_below, is_mapped}
use Rattle.xv_region.specs.Rules.{Accepted}
use Rattle.xv_gstage.specs.Audit.{audited, is_led_to, is_right, mapped_pages, right_from}
use Rattle.xv_gstage.specs.Audit.{right_pages}
use Rattle.xv_gstage.specs.Audit.{same_permission}
use Rattle.xv_gstage.specs.Memory.{AreApart, HasFrames, IsElsewhere, SameOutside, SameWalks}
use Rattle.xv_gstage.specs.Own.{is_memory_page, own, page_frames, pages, pages_of, reserved_frames}
use Rattle.xv_gstage.specs.Own.{table_frames}
use Rattle.xv_gstage.specs.Stands.{Filled, IsOffGround, RightCell}
use Rattle.xv_gstage.specs.Tidy.{IsTidy, Tidy}
use Rattle.xv_gstage.proofs.CellsOf.{whole-at}
use Rattle.xv_gstage.proofs.EagerLemmas.{memory-of, page-in}
use Rattle.xv_gstage.proofs.Lists.{drop-contains, split, take-contains}
use Rattle.xv_gstage.proofs.OwnPages.{memory-cell, own-is, own-none, own-page, own-where}
use Rattle.xv_gstage.proofs.Room.{need-pages}

-- ---- from the outside

module _ (old new : List ℕ) (root : ℕ) (frames : List ℕ)
    (outside : SameOutside old new root frames) where
  byte_same : (frame i : ℕ) → frame / 4 ≢ root → (Contains frames frame → ⊥) → i < 4096
      → get_or new (4096 * frame + i) 0 ≡ get_or old (4096 * frame + i) 0
  byte_same frame i off apart lt =
      let place : (4096 * frame + i) / 4096 ≡ frame = omega arith in
      outside.bytes (4096 * frame + i) (λ e. off (omega arith))
      (λ has. apart (subst (Contains frames) place has))

  pub frame-same : (frame : ℕ) → frame / 4 ≢ root → (Contains frames frame → ⊥)
      → 4096 * frame + 4096 ≤ length old → frame_bytes new frame ≡ frame_bytes old frame
  frame-same frame off apart inside =
      let whole = outside.whole in
      range_same new old (4096 * frame) (4096 * frame) 4096 (omega arith) inside
      (λ i lt. byte_same frame i off apart lt)

  pub other-walks : (other : ℕ) → IsElsewhere old root frames other → SameWalks old new other
  other-walks other e gpa =
      walked_local old new other (same_by_words old new other
      (λ frame is. byte_words old new frame
      (λ i lt. byte_same frame i (λ same. e.differs (sym is ∙ same)) (e.root_apart frame is) lt))
      (λ table is. byte_words old new table
      (λ i lt. byte_same table i (e.tables_off table is) (e.tables_apart table is) lt))) gpa

-- ---- counts

count_all : (test : ℕ → Bool) (n : ℕ) → ((k : ℕ) → k < n → test k ≡ true)
    → count_below test n ≡ n
unfolding count_below
count_all test zero all = refl
count_all test (suc n) all =
    let before = count_all test n (λ k lt. all k (omega arith)) in
    ap (λ b. cond b (count_below test n + 1) (count_below test n)) (all n (omega arith))
    ∙ more before
  where
    more : count_below test n ≡ n → count_below test n + 1 ≡ suc n
    more e = omega arith

sums_same : (f g : Region → ℕ) (rs : List Region)
    → ((k : ℕ) (r : Region) → k < length rs → r ≡ get_or rs k r → f r ≡ g r)
    → sum_by f rs ≡ sum_by g rs
sums_same f g [] same = refl
sums_same f g (r ∷ rs) same =
    let here = same 0 r (omega arith) refl in
    let rest = sums_same f g rs (λ k s lt read. same (suc k) s (omega arith) read) in
    let a = sum_by-cons f r rs in
    let b = sum_by-cons g r rs in
    omega arith

permission_itself : (b : Bool) → same_permission b b ≡ true
permission_itself true = refl
permission_itself false = refl

led_to_itself : (m : Mapping) → is_led_to (Some m) (Some m) ≡ true
led_to_itself m =
    let frame : (m.frame == m.frame) ≡ true = grind (arith, nat_tests) in
    rw (frame, permission_itself m.writable) refl

module _ (regions : List Region) (accepted : Accepted regions) (frames : List ℕ) (bytes : List ℕ)
    (root : ℕ) (has : HasFrames (length bytes) root regions frames)
    (leads : (page : ℕ) → led bytes root page ≡ own regions frames page) where
  room : pages_of regions ≤ length frames
  room =
      let enough = has.enough in
      let le = need-pages regions in
      omega arith

  -- a page that has an own frame is one of memory
  memory_of : (page : ℕ) (mapping : Mapping) → own regions frames page ≡ Some mapping
      → is_memory_page regions page ≡ true
  memory_of page mapping e = by (is_memory_page regions page) refl
    where
      by : (b : Bool) → is_memory_page regions page ≡ b → is_memory_page regions page ≡ true
      by true is = is
      by false is = let none = own-none regions accepted frames page is in cc

  -- what is led, by its page
  record IsLed (gpa : ℕ) (leaf : Leaf) : Type 0 where
    mapping : Mapping
    own_is : own regions frames (gpa / 4096) ≡ Some mapping
    in_it : IsIn gpa leaf mapping

  led-own : (gpa : ℕ) (leaf : Leaf) → walked bytes root gpa ≡ Some leaf → IsLed gpa leaf
  led-own gpa leaf e =
      let at = page_of_leaf gpa (led bytes root (gpa / 4096)) leaf e in
      record {
        mapping = at.0;
        own_is = sym (leads (gpa / 4096)) ∙ at.1;
        in_it = at.2;
      }

  pub right-cell : RightCell bytes root regions
  right-cell gpa leaf e =
      let l = led-own gpa leaf e in
      let memory = memory_of (gpa / 4096) l.mapping l.own_is in
      let o = own-page regions accepted frames room (gpa / 4096) memory in
      let is = own-is regions accepted frames room (gpa / 4096) memory in
      let same : o.mapping ≡ l.mapping = one (sym is ∙ l.own_is) in
      let frames_same : o.mapping.frame ≡ l.mapping.frame = ap (λ (m : Mapping). m.frame) same in
      let place : 4096 * (gpa / 4096) + gpa % 4096 ≡ gpa = omega arith in
      let writable : o.mapping.writable ≡ leaf.writable =
      ap (λ (m : Mapping). m.writable) same ∙ sym l.in_it.writable in (
        o.region,
        o.offset + gpa % 4096,
        record {
          cell =
              ap (λ (a : ℕ). cell regions a 1) (sym place)
              ∙ o.own.cells (gpa % 4096) (omega arith)
              ∙ ap (λ (w : Bool). cells.Memory o.region (o.offset + gpa % 4096) w) writable;
          reserved = λ r host at kind.
              let host_is = o.own.under.reserved r host at kind in
              let frame = l.in_it.frame in
              let offset = l.in_it.offset in
              omega arith;
        },
      )
    where
      one : {a b : Mapping} → Some a ≡ Some b → a ≡ b
      one e = cc

  pub all-filled : Filled bytes root regions
  all-filled gpa region offset writable e =
      let memory = memory-cell regions accepted gpa region offset writable e in
      let o = own-page regions accepted frames room (gpa / 4096) memory in
      let is = own-is regions accepted frames room (gpa / 4096) memory in (
        record {
          host = 4096 * o.mapping.frame + gpa % 4096;
          writable = o.mapping.writable;
        },
        ap (leaf_at gpa) (leads (gpa / 4096) ∙ is),
      )

  -- where a led address stands
  led-where : (gpa : ℕ) (leaf : Leaf) → walked bytes root gpa ≡ Some leaf
      → Contains (page_frames regions frames) (leaf.host / 4096)
      ⊎ Contains (reserved_frames regions) (leaf.host / 4096)
  led-where gpa leaf e =
      let l = led-own gpa leaf e in
      elim (own-where regions accepted frames room (gpa / 4096) l.mapping l.own_is) [
        | inl at ↦ inl (subst (Contains (page_frames regions frames)) (sym l.in_it.frame) at)
        | inr at ↦ inr (subst (Contains (reserved_frames regions)) (sym l.in_it.frame) at)
      ]

  pub off-ground : AreApart root regions frames → (used : ℕ)
      → Tidy bytes root regions frames used → IsOffGround bytes root root
  off-ground apart used tidy = record {
    root_frames = λ frame is gpa leaf e same. elim (led-where gpa leaf e) [
      | inl at ↦
          has.off_root (leaf.host / 4096)
          (take-contains (pages_of regions) frames (leaf.host / 4096) at)
          (ap (λ (f : ℕ). f / 4) same ∙ is)
      | inr at ↦
          apart.from_root (leaf.host / 4096) at (ap (λ (f : ℕ). f / 4) same ∙ is)
    ];
    table_frames = λ table is gpa leaf e same.
        let used_in = take-contains used (table_frames regions frames) table
        ((tidy.tables table).0 is) in
        let back = subst (Contains (table_frames regions frames)) (sym same) used_in in
        elim (led-where gpa leaf e) [
          | inl at ↦ split frames has.once (pages_of regions) (leaf.host / 4096) at back
          | inr at ↦
              apart.from_list (leaf.host / 4096) at
              (drop-contains (pages_of regions) frames (leaf.host / 4096) back)
        ];
  }

  page_right : (page : ℕ) → is_memory_page regions page ≡ true
      → is_right bytes root regions frames page ≡ true
  unfolding is_right
  page_right page memory =
      let o = own-page regions accepted frames room page memory in
      let is = own-is regions accepted frames room page memory in
      ap (λ (m : Option Mapping). is_led_to m (led bytes root page)) is
      ∙ ap (is_led_to (Some o.mapping)) (leads page ∙ is)
      ∙ led_to_itself o.mapping

  all_of : (first n : ℕ) → ((k : ℕ) → k < n → is_memory_page regions (first + k) ≡ true)
      → right_from bytes root regions frames first n ≡ n
  unfolding right_from
  all_of first n memory =
      count_all (λ k. is_right bytes root regions frames (first + k)) n
      (λ k lt. page_right (first + k) (memory k lt))

  of_region : (n : ℕ) (r : Region) → n < length regions → r ≡ get_or regions n r
      → (b : Bool) → is_mapped r.kind ≡ b
      → right_pages bytes root regions frames r ≡ mapped_pages r
  of_region n r lt read true is =
      all_of (r.base / 4096) (mapped_pages r) (λ k less.
      let here : mapped_pages r ≡ pages r = ap (λ b. cond b (pages r) 0) is in
      memory-of bytes root regions frames accepted n r lt read (r.base / 4096 + k)
      (page-in bytes root regions frames r (whole-at regions accepted n r lt read)
      (r.base / 4096 + k) is (omega arith) (omega arith)))
  of_region n r lt read false is =
      all_of (r.base / 4096) (mapped_pages r) (λ k less.
      let here : mapped_pages r ≡ 0 = ap (λ b. cond b (pages r) 0) is in
      absurd (omega arith))

  pub all-right : audited bytes root regions frames ≡ sum_by mapped_pages regions
  unfolding audited
  all-right =
      sums_same (right_pages bytes root regions frames) mapped_pages regions
      (λ n r lt read. of_region n r lt read (is_mapped r.kind) refl)

-- ---- tables

module _ (bytes : List ℕ) (root : ℕ) (regions : List Region) (frames : List ℕ)
    (has : HasFrames (length bytes) root regions frames) where
  pub tidy-tables : IsTidy bytes root regions frames → HasTables bytes root
  tidy-tables (used, tidy) = record {
    root_inside = has.lie.root_inside;
    tables_inside = λ table is.
        has.lie.inside table (drop-contains (pages_of regions) frames table
        (take-contains used (table_frames regions frames) table ((tidy.tables table).0 is)));
  }

-- frames of pages are no tables
pub pages-same : (old new : List ℕ) (root : ℕ) (regions : List Region) (frames : List ℕ)
    → HasFrames (length old) root regions frames
    → SameOutside old new root (table_frames regions frames) → (frame : ℕ)
    → Contains (page_frames regions frames) frame
    → frame_bytes new frame ≡ frame_bytes old frame
pages-same old new root regions frames has outside frame at =
    let in_list = take-contains (pages_of regions) frames frame at in
    frame-same old new root (table_frames regions frames) outside frame
    (has.off_root frame in_list) (λ back. split frames has.once (pages_of regions) frame at back)
    (has.lie.inside frame in_list)
