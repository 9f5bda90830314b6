-- The memory of the tests: frames of a pool from the 64th on, and a reserved area behind them.
use Rattle.std.proofs.Common.{◌≡◌, ◌≢◌, ℕ, ◌+◌, ◌*◌, ◌<◌, ◌≤◌, List, length, get_or, take}
use Rattle.std.proofs.Common.{None}
use Rattle.std.proofs.Common.{ap, ◌∙◌, arith, replicate, length-take}
use Rattle.std.specs.Prelude.{IsTrue}
use Rattle.std.specs.List.{AllPairs, Contains}
use Rattle.std.proofs.lemmas.List.{get_or-take, length-replicate}
use Rattle.std.proofs.lemmas.Grind.{get_or_default_zero}
use Rattle.std.proofs.lemmas.Option.{get_or_from_slice_get}
use Rattle.xv_mem.proofs.Puts.{range-replicate}
use Rattle.xv_base.specs.declared.keys.Span.{Span}
use Rattle.xv_pool.specs.FrameList.{up_from}
use Rattle.xv_pte.specs.GStage.{HasTables}
use Rattle.xv_pte.proofs.WalkEmpty.{no_table, zero_root}
use Rattle.xv_region.specs.declared.plan.Region.{Region}
use Rattle.xv_region.specs.Need.{need}
use Rattle.xv_region.specs.Rules.{are_sound, first_fault}
use Rattle.xv_gstage.specs.Memory.{AreApart, AreInside, AreZero, HasFrames, IsZero, IsZeroRoot}
use Rattle.xv_gstage.proofs.Lists.{at-place}
use Rattle.xv_gstage.proofs.OwnLemmas.{length-up, up-get}
use Rattle.xv_gstage.proofs.ReservedLemmas.{reserved-in}

module _ (list : List ℕ) (n m : ℕ) (is : list ≡ take n (up_from 64 m)) (few : m ≤ 4032) where
  value : (i : ℕ) → i < length list → (get_or list i 0 ≡ 64 + i) × (i < 4032)
  value i lt =
      let long : length list ≡ length (take n (up_from 64 m)) = ap length is in
      let short = length-take n (up_from 64 m) in
      let all = length-up 64 m in
      let low : i < n = omega arith in
      let less : i < m = omega arith in (
        ap (λ (xs : List ℕ). get_or xs i 0) is
            ∙ get_or-take n (up_from 64 m) i 0 low
            ∙ get_or_from_slice_get (up_from 64 m) i (64 + i) 0 (up-get 64 m i less),
        omega arith,
      )

  bounds : (f : ℕ) → Contains list f → (64 ≤ f) × (f < 4096)
  bounds f has =
      let at = at-place list f has in
      let v = value at.0 at.1.within in
      let same = at.1.is in
      let e = v.0 in
      let low = v.1 in
      (omega arith, omega arith)

  once : AllPairs (λ a b. a ≢ b) list
  once i j d lt within e =
      let a = value i (omega arith) in
      let b = value j within in
      let x = get_or_default_zero list i d (omega arith) in
      let y = get_or_default_zero list j d within in
      let av = a.0 in
      let bv = b.0 in
      omega arith

  module _ (bytes : List ℕ) (whole : length bytes ≡ 4096 * 4112) (regions : List Region)
      (enough : length list ≡ need regions) (area : Span) (start : area.start ≡ 0x100_0000)
      (len : area.len ≡ 0x1_0000) (sound : IsTrue (are_sound regions))
      (faultless : first_fault area regions ≡ None) where
    pub test-inside : AreInside (length bytes) 3 list
    test-inside = record {
      root_inside = omega arith;
      inside = λ f has. let b = bounds f has in let high = b.1 in omega arith;
    }

    pub test-frames : HasFrames (length bytes) 3 regions list
    test-frames = record {
      lie = test-inside;
      enough = enough;
      once = once;
      off_root = λ f has e. let b = bounds f has in let low = b.0 in omega arith;
      reserved = λ f has.
          let r = reserved-in area regions sound faultless f has in
          let high = r.1 in
          omega arith;
    }

    pub test-apart : AreApart 3 regions list
    test-apart = record {
      from_root = λ f has e.
          let r = reserved-in area regions sound faultless f has in
          let low = r.0 in
          omega arith;
      from_list = λ f has in_it.
          let r = reserved-in area regions sound faultless f has in
          let low = r.0 in
          let b = bounds f in_it in
          let high = b.1 in
          omega arith;
    }

-- a memory of zeros, whose number of frames is a variable, so that nothing computes
module _ (frames : ℕ) (is : frames ≡ 4112) where
  zero_frame : (frame : ℕ) → frame < 4112 → IsZero (replicate (4096 * frames) 0) frame
  zero_frame frame lt = range-replicate (4096 * frames) (4096 * frame) 4096 (omega arith)

  pub test-root : IsZeroRoot (replicate (4096 * frames) 0) 3
  test-root frame at = zero_frame frame (omega arith)

  pub test-zeros : (list : List ℕ) (n m : ℕ) → list ≡ take n (up_from 64 m) → m ≤ 4032
      → (part : List ℕ) → ((f : ℕ) → Contains part f → Contains list f)
      → AreZero (replicate (4096 * frames) 0) part
  test-zeros list n m is few part inside f has =
      let b = bounds list n m is few f (inside f has) in
      let high = b.1 in
      zero_frame f (omega arith)

  pub test-length : length (replicate {A = ℕ} (4096 * frames) 0) ≡ 4096 * 4112
  test-length = length-replicate {A = ℕ} (4096 * frames) 0 ∙ ap (λ (n : ℕ). 4096 * n) is

-- a root of zeros has no tables
pub zero-tables : (bytes : List ℕ) (root : ℕ) → 16384 * root + 16384 ≤ length bytes
    → IsZeroRoot bytes root → HasTables bytes root
zero-tables bytes root inside zeros = record {
  root_inside = inside;
  tables_inside = λ table is. absurd (no_table bytes root (zero_root bytes root zeros) table is);
}
