-- The plans of the tests keep the rules, and a guest of one may take of a host in which nobody has
-- anything, and give it back.
use Rattle.std.proofs.Common.{◌≡◌, ℕ, ◌+◌, ◌*◌, ◌<◌, ◌≤◌, List, [], ◌∷◌, length, replicate}
use Rattle.std.proofs.Common.{None, Ok, IsTrue, refl, sym, subst, arith}
use Rattle.std.specs.List.{All, sum_by}
use Rattle.std.proofs.lemmas.List.Elements.{All-nil}
use Rattle.xv_base.specs.declared.keys.Span.{Span}
use Rattle.xv_base.specs.Range.{LiesIn}
use Rattle.xv_mem.proofs.Puts.{range-replicate}
use Rattle.xv_pool.specs.FrameList.{up_from}
use Rattle.xv_pool.specs.Resources.{Resources, fresh, tested}
use Rattle.xv_region.specs.declared.plan.DeviceKind.TheVariants as devices
use Rattle.xv_region.specs.declared.plan.Kind.{Kind}
use Rattle.xv_region.specs.declared.plan.Kind.TheVariants.{Ram, Rom, Alias, Device}
use Rattle.xv_region.specs.declared.plan.Region.{Region}
use Rattle.xv_region.specs.Need.{need}
use Rattle.xv_region.specs.Plan.{flat}
use Rattle.xv_region.specs.Rules.{are_sound, first_fault, fault_from}
use Rattle.xv_gstage.specs.Memory.{IsZero}
use Rattle.xv_gstage.specs.Own.{reserved_frames}
use Rattle.xv_guest.specs.Frames.{hits, reserved_ranges}
use Rattle.xv_guest.specs.Guest.{Guest, held_of, new_guest}
use Rattle.xv_guest.specs.Held.{IsHeld}
use Rattle.xv_guest.specs.Take.{MayTake, MayGive, pool_after, taken_guest}
use Rattle.xv_guest.proofs.FrameLemmas.{hits-take-drop}
use Rattle.xv_guest.proofs.HeldLemmas.{take-hits, up_from-bounds, up_from-once}

abbrev pub area : Span
area = record { start = 294912; len = 0 }

pub sound : IsTrue (are_sound (flat 2).regions)
unfolding are_sound
sound = refl

pub faultless : first_fault area (flat 2).regions ≡ None
unfolding first_fault fault_from
faultless = refl

-- ---- RAM of two pages, a ROM of one, an alias of the second page of RAM, and three devices

region : (name : List ℕ) (base size : ℕ) → Kind → Region
region name base size kind = record { name = name; base = base; size = size; kind = kind }

pub mixed : (name : List ℕ) → List Region
mixed name =
    region name 0x8000_0000 0x2000 Ram
    ∷ region name 0x9000_0000 0x1000 Rom
    ∷ region name 0xA000_0000 0x1000 (Alias 0x8000_1000)
    ∷ region name 0x1000_0000 0x8 (Device (devices.Uart 0 10))
    ∷ region name 0xC00_0000 0x400_0000 (Device devices.Plic)
    ∷ region name 0x10_0000 0x1000 (Device devices.Finisher)
    ∷ []

pub mixed_is : (name : List ℕ) (ram rom alias uart plic finisher : Region)
    → ram ≡ record { name = name; base = 0x8000_0000; size = 0x2000; kind = Ram }
    → rom ≡ record { name = name; base = 0x9000_0000; size = 0x1000; kind = Rom }
    → alias ≡ record { name = name; base = 0xA000_0000; size = 0x1000; kind = Alias 0x8000_1000 }
    → uart ≡ record {
      name = name;
      base = 0x1000_0000;
      size = 0x8;
      kind = Device (devices.Uart 0 10);
    }
    → plic ≡ record {
      name = name;
      base = 0xC00_0000;
      size = 0x400_0000;
      kind = Device devices.Plic;
    }
    → finisher ≡ record {
      name = name;
      base = 0x10_0000;
      size = 0x1000;
      kind = Device devices.Finisher;
    }
    → mixed name ≡ ram ∷ rom ∷ alias ∷ uart ∷ plic ∷ finisher ∷ []
unfolding mixed region
mixed_is name ram rom alias uart plic finisher one two three four five six = cc

pub mixed_sound : (name : List ℕ) → IsTrue (are_sound (mixed name))
unfolding are_sound mixed region
mixed_sound name = refl

pub mixed_faultless : (name : List ℕ) → first_fault area (mixed name) ≡ None
unfolding first_fault fault_from mixed region
mixed_faultless name = refl

pub mixed_ranges : (name : List ℕ) → reserved_ranges (mixed name) ≡ []
unfolding reserved_ranges mixed region
mixed_ranges name = refl

pub mixed_frames : (name : List ℕ) → reserved_frames (mixed name) ≡ []
unfolding reserved_frames mixed region
mixed_frames name = refl

-- ---- frames 64 to 71, and no reserved area

abbrev pub host : Resources
host = fresh 64 8 area

abbrev pub bare : Guest
bare = new_guest (flat 2) 0

pub no_ranges : reserved_ranges (flat 2).regions ≡ []
unfolding reserved_ranges
no_ranges = refl

pub no_frames : reserved_frames (flat 2).regions ≡ []
unfolding reserved_frames
no_frames = refl

zero_at : (frames frame : ℕ) → frame < frames → IsZero (replicate (4096 * frames) 0) frame
zero_at frames frame low = range-replicate (4096 * frames) (4096 * frame) 4096 (omega arith)

-- regions of which none is reserved
module _ (regions : List Region) (ranges_none : reserved_ranges regions ≡ [])
    (frames_none : reserved_frames regions ≡ []) where
  pub may_take : (frames n : ℕ) → 72 ≤ frames → Ok tt ≡ tested host n [] → n ≡ need regions
      → MayTake (replicate (4096 * frames) 0) host regions
  may_take frames n enough passes is = record {
    tested =
        let P : List Span → Type 0 = λ ranges. tested host (need regions) ranges ≡ Ok tt in
        subst P (sym ranges_none)
        (subst (λ (m : ℕ). tested host m [] ≡ Ok tt) is (sym passes));
    room =
        let P : List Span → Type 0 = λ ranges. length host.held + length ranges ≤ 512 in
        subst P (sym ranges_none) (omega arith);
    area =
        let P : List Span → Type 0 = λ ranges. All (λ range. LiesIn range area) ranges in
        subst P (sym ranges_none) (All-nil _);
    root = λ frame is_root. zero_at frames frame (omega arith);
    free = λ frame some.
        let bounds = up_from-bounds frame 64 8 some in
        (bounds.0, zero_at frames frame (omega arith));
    reserved = λ frame some.
        let P : List ℕ → Type 0 = λ xs. 0 < hits frame xs in
        absurd (let none = subst P frames_none some in omega arith);
  }

pub may_give : (bytes : List ℕ) → IsHeld bytes (held_of (taken_guest host bare))
    → MayGive bytes (pool_after (flat 2).regions host) (taken_guest host bare)
may_give bytes held = record {
  taken = refl;
  root = refl;
  frames = λ frame some.
      let all = take-hits frame (need (flat 2).regions) (up_from 64 8) in
      up_from-bounds frame 64 8 (omega arith);
  out = λ frame.
      let parts = hits-take-drop frame (need (flat 2).regions) (up_from 64 8) in
      let once = up_from-once frame 64 8 in
      omega arith;
  ranges = λ weight.
      let P : List Span → Type 0 =
      λ ranges. sum_by weight ranges
      ≤ sum_by weight (pool_after (flat 2).regions host).held in
      subst P (sym no_ranges) (omega arith);
  inside = held.memory.inside;
}
