-- The devices of a guest: changes of each, the sources that are up, and which device stands where.
use Rattle.std.proofs.Common.{◌≡◌, ℕ, zero, suc, ◌+◌, ◌<◌, Bool, true, false, List, []}
use Rattle.std.proofs.Common.{◌∷◌, ◌++◌, length, get_or, map, take, drop, Option, Some, None}
use Rattle.std.proofs.Common.{refl, sym, subst, ap, ◌∙◌, arith, cond, inl, inr, rules}
use Rattle.std.specs.Prelude.{IfSome, IsTrue}
use Rattle.std.specs.List.{position, position_from}
use Rattle.std.proofs.Math.ListN.{set}
use Rattle.std.proofs.Math.Seq.{drop-cons, drop-length, map-set_same}
use Rattle.std.proofs.lemmas.Bool.{cases_lt, ne_eqb}
use Rattle.std.proofs.lemmas.List.{get_or_past}
use Rattle.std.proofs.lemmas.Iterator.Adapters.{position_from-zero}
use Rattle.xv_region.specs.declared.plan.DeviceKind.TheVariants as devices
use Rattle.xv_region.specs.declared.plan.Kind.{Kind}
use Rattle.xv_region.specs.declared.plan.Kind.TheVariants as kinds
use Rattle.xv_region.specs.declared.plan.Region.{Region}
use Rattle.xv_region.specs.Rules.{are_sound, is_sound, is_sound_kind}
use Rattle.xv_region.proofs.RuleLemmas.{all-at, both, sound-each}
use Rattle.xv_base.specs.Bits.{has_bit}
use Rattle.xv_plic.proofs.HoldsLemmas.{with_bit-clear}
use Rattle.xv_bus.specs.declared.access.Access.{Access}
use Rattle.xv_bus.specs.Memory.{Flat}
use Rattle.xv_lone.specs.Device.{DeviceState, Devices, Absent, Uart, Plic, Finisher, controller}
use Rattle.xv_lone.specs.Device.{device_reset, lifted_by, line_of, new_device, source_of}
use Rattle.xv_lone.specs.Device.{after_gateways, after_input, device_accessed, device_input}
use Rattle.xv_lone.specs.Device.{sources_up, with_source}
use Rattle.xv_guest.specs.Devices.{Shape, NoDevice, UartShape, PlicShape, FinisherShape}
use Rattle.xv_guest.specs.Devices.{IsController, IsUart, has_plic, is_plic, shape_of, shape_of_kind}
use Rattle.xv_guest.specs.State.{plic_of}

-- ---- a change of each

-- one more
pub each_more : (f : DeviceState → DeviceState) (ds : Devices) (k : ℕ) (d : DeviceState)
    → k < length ds
    → set (map f (take k ds) ++ drop k ds) k (f (get_or (map f (take k ds) ++ drop k ds) k d))
    ≡ map f (take (suc k) ds) ++ drop (suc k) ds
each_more f [] k d within = absurd (omega arith)
each_more f (x ∷ xs) zero d within = refl
each_more f (x ∷ xs) (suc k) d within =
    ap (λ (ys : Devices). f x ∷ ys) (each_more f xs k d (omega arith))

-- the same, of a list that has changed so far
pub changed_more : (f : DeviceState → DeviceState) (ds all : Devices) (k : ℕ)
    (was now : DeviceState) → all ≡ map f (take k ds) ++ drop k ds → k < length ds
    → was ≡ get_or all k was → now ≡ f was
    → set all k now ≡ map f (take (k + 1) ds) ++ drop (k + 1) ds
changed_more f ds all k was now so_far within at changed =
    let next : suc k ≡ k + 1 = omega arith in
    ap (set all k) (changed ∙ ap f at)
    ∙ ap (λ (xs : Devices). set xs k (f (get_or xs k was))) so_far
    ∙ each_more f ds k was within
    ∙ ap (λ (n : ℕ). map f (take n ds) ++ drop n ds) next

-- ---- regions that are sound

is_true : (b : Bool) → b ≡ true → IsTrue b
is_true true is = refl
is_true false is = absurd cc

kind_sound : (r : Region) → is_sound r ≡ true → IsTrue (is_sound_kind r.kind)
kind_sound r sound = is_true (is_sound_kind r.kind) (both _ (is_sound_kind r.kind) sound).1

pub kind_at : (rs : List Region) (k : ℕ) (d : Region) → IsTrue (are_sound rs) → k < length rs
    → IsTrue (is_sound_kind (get_or rs k d).kind)
kind_at rs k d sound within =
    kind_sound (get_or rs k d) (all-at is_sound rs k d (sound-each rs sound) within)

-- ---- sources

pub no_sources : (rs : List Region) (ds : Devices) → 0 ≡ sources_up (drop (length rs) rs) ds
unfolding sources_up
no_sources rs ds = sym (ap (λ (xs : List Region). sources_up xs ds) (drop-length rs))

-- there is no source 0
pub source_clear : (source : ℕ) (up : Bool) (lines : ℕ) → has_bit 0 lines ≡ false
    → has_bit 0 (with_source source up lines) ≡ false
source_clear source false lines clear = clear
source_clear zero true lines clear = clear
source_clear (suc source) true lines clear =
    rw (ne_eqb (suc source) 0 (λ same. omega arith))
    (with_bit-clear (suc source) true lines (omega arith) clear)

-- one more, from the back
pub sources_more : (rs : List Region) (ds : Devices) (k : ℕ) (r : Region) (d : DeviceState)
    → k < length rs → length ds ≡ length rs
    → with_source (source_of (get_or rs k r).kind) (line_of (get_or ds k d))
    (sources_up (drop (suc k) rs) (drop (suc k) ds))
    ≡ sources_up (drop k rs) (drop k ds)
unfolding sources_up
sources_more rs ds k r d within each =
    sym (ap (λ (xs : List Region). sources_up xs (drop k ds)) (drop-cons rs k r within)
    ∙ ap (λ (xs : Devices). sources_up (get_or rs k r ∷ drop (suc k) rs) xs)
    (drop-cons ds k d (omega arith)))

-- ---- shapes

pub new_shape : (contexts : ℕ) (kind : Kind)
    → shape_of (new_device contexts kind) ≡ shape_of_kind kind
new_shape contexts kinds.Ram = refl
new_shape contexts kinds.Rom = refl
new_shape contexts (kinds.Reserved host) = refl
new_shape contexts (kinds.Alias target) = refl
new_shape contexts (kinds.Device (devices.Uart shift irq)) = refl
new_shape contexts (kinds.Device devices.Plic) = refl
new_shape contexts (kinds.Device devices.Finisher) = refl

pub new_shapes : (contexts : ℕ) (rs : List Region)
    → map shape_of (map (λ (r : Region). new_device contexts r.kind) rs)
    ≡ map (λ (r : Region). shape_of_kind r.kind) rs
new_shapes contexts [] = refl
new_shapes contexts (r ∷ rs) =
    ap (λ (s : Shape). s ∷ map shape_of (map (λ (x : Region). new_device contexts x.kind) rs))
    (new_shape contexts r.kind)
    ∙ ap (λ (ss : List Shape). shape_of_kind r.kind ∷ ss) (new_shapes contexts rs)

-- a change that leaves each what it is
pub shapes_stay : (f : DeviceState → DeviceState) → ((d : DeviceState)
    → shape_of (f d) ≡ shape_of d) → (ds : Devices) → map shape_of (map f ds) ≡ map shape_of ds
shapes_stay f stays [] = refl
shapes_stay f stays (d ∷ ds) =
    ap (λ (s : Shape). s ∷ map shape_of (map f ds)) (stays d)
    ∙ ap (λ (ss : List Shape). shape_of d ∷ ss) (shapes_stay f stays ds)

pub reset_shape : (d : DeviceState) → shape_of (device_reset d) ≡ shape_of d
reset_shape Absent = refl
reset_shape (Uart port) = refl
reset_shape (Plic plic) = refl
reset_shape Finisher = refl

pub lifted_shape : (sources : ℕ) (d : DeviceState)
    → shape_of (lifted_by sources d) ≡ shape_of d
lifted_shape sources Absent = refl
lifted_shape sources (Uart port) = refl
lifted_shape sources (Plic plic) = refl
lifted_shape sources Finisher = refl

pub input_shape : (bytes : List ℕ) (d : DeviceState)
    → shape_of (device_input bytes d) ≡ shape_of d
input_shape bytes Absent = refl
input_shape bytes (Uart port) = refl
input_shape bytes (Plic plic) = refl
input_shape bytes Finisher = refl

pub accessed_shape : (flat : Flat) (d : DeviceState) (at : ℕ) (access : Access)
    → shape_of (device_accessed flat d at access).device ≡ shape_of d
accessed_shape flat Absent at access = refl
accessed_shape flat (Uart port) at access = refl
accessed_shape flat (Plic plic) at access = refl
accessed_shape flat Finisher at access = refl

-- so one device may change, and then the gateways make their step
pub step_shapes : (rs : List Region) (ds all : Devices) (k : ℕ) (was now : DeviceState)
    → all ≡ after_gateways rs (set ds k now) → was ≡ get_or ds k was → shape_of now ≡ shape_of was
    → map shape_of all ≡ map shape_of ds
unfolding after_gateways
step_shapes rs ds all k was now step at stays =
    ap (map shape_of) step
    ∙ shapes_stay (lifted_by (sources_up rs (set ds k now)))
    (lifted_shape (sources_up rs (set ds k now))) (set ds k now)
    ∙ map-set_same shape_of ds k now was (stays ∙ ap shape_of at)

pub device_there : (ds : Devices) (k : ℕ) (d : DeviceState) → d ≡ get_or ds k d → k < length ds
    → d ≡ get_or ds k Absent
device_there [] k d is within = absurd (omega arith)
device_there (x ∷ xs) zero d is within = is
device_there (x ∷ xs) (suc k) d is within = device_there xs k d is (omega arith)

-- where a UART is, there is a region
pub uart_within : (ds : Devices) (k : ℕ) → IsUart ds k → k < length ds
uart_within ds k is =
    elim (cases_lt k (length ds)) [
      | inl within ↦ within
      | inr past ↦
          absurd (let none = ap shape_of (get_or_past ds k Absent past) in cc)
    ]

pub input_step : (rs : List Region) (ds all : Devices) (k : ℕ) (bytes : List ℕ)
    (was now : DeviceState) → IsUart ds k → all ≡ after_gateways rs (set ds k now)
    → was ≡ get_or ds k was → now ≡ device_input bytes was → all ≡ after_input rs k bytes ds
unfolding after_input
input_step rs ds all k bytes was now uart step at changed =
    step
    ∙ ap (λ (d : DeviceState). after_gateways rs (set ds k d))
    (changed ∙ ap (device_input bytes) (device_there ds k was at (uart_within ds k uart)))

-- ---- the interrupt controller

abbrev is_plic_shape : Shape → Bool
is_plic_shape NoDevice = false
is_plic_shape UartShape = false
is_plic_shape PlicShape = true
is_plic_shape FinisherShape = false

kind_test : (kind : Kind) → is_plic_shape (shape_of_kind kind) ≡ is_plic kind
kind_test kinds.Ram = refl
kind_test kinds.Rom = refl
kind_test (kinds.Reserved host) = refl
kind_test (kinds.Alias target) = refl
kind_test (kinds.Device (devices.Uart shift irq)) = refl
kind_test (kinds.Device devices.Plic) = refl
kind_test (kinds.Device devices.Finisher) = refl

here_is : (d : DeviceState) (ds : Devices) → is_plic_shape (shape_of d) ≡ true
    → controller (d ∷ ds) ≡ plic_of d
here_is Absent ds is = absurd cc
here_is (Uart port) ds is = absurd cc
here_is (Plic plic) ds is = refl
here_is Finisher ds is = absurd cc

plic_shape : (d : DeviceState) → is_plic_shape (shape_of d) ≡ true → shape_of d ≡ PlicShape
plic_shape Absent is = absurd cc
plic_shape (Uart port) is = absurd cc
plic_shape (Plic plic) is = refl
plic_shape Finisher is = absurd cc

later_is : (d : DeviceState) (ds : Devices) → is_plic_shape (shape_of d) ≡ false
    → controller (d ∷ ds) ≡ controller ds
later_is Absent ds is = refl
later_is (Uart port) ds is = refl
later_is (Plic plic) ds is = absurd cc
later_is Finisher ds is = refl

-- the shapes of devices are those of the regions
abbrev pub Fit : List Region → Devices → Type 0
Fit rs ds = map shape_of ds ≡ map (λ (r : Region). shape_of_kind r.kind) rs

test_is : (r : Region) (rs : List Region) (d : DeviceState) (ds : Devices) → Fit (r ∷ rs) (d ∷ ds)
    → has_plic r ≡ is_plic_shape (shape_of d)
test_is r rs d ds fit =
    let first : shape_of d ≡ shape_of_kind r.kind = cc in
    sym (ap is_plic_shape first ∙ kind_test r.kind)

pub uart_at : (rs : List Region) (ds : Devices) (k : ℕ) (d : Region) → Fit rs ds → k < length rs
    → shape_of_kind (get_or rs k d).kind ≡ UartShape → IsUart ds k
uart_at [] ds k d fit within uart = absurd (omega arith)
uart_at (r ∷ rs) [] k d fit within uart = absurd cc
uart_at (r ∷ rs) (x ∷ ds) zero d fit within uart =
    let first : shape_of x ≡ shape_of_kind r.kind = cc in first ∙ uart
uart_at (r ∷ rs) (x ∷ ds) (suc k) d fit within uart =
    let rest : Fit rs ds = cc in uart_at rs ds k d rest (omega arith) uart

-- it is the device of the first region that has one
record IsFirst (ds : Devices) (i k : ℕ) : Type 0 where
  place : ℕ
  number : k ≡ i + place
  within : place < length ds
  is : controller ds ≡ plic_of (get_or ds place Absent)
  shape : IsController ds place

controller_from : (rs : List Region) (ds : Devices) (i k : ℕ) → Fit rs ds
    → position_from has_plic i rs ≡ Some k → IsFirst ds i k
controller_from [] ds i k fit found = absurd cc
controller_from (r ∷ rs) [] i k fit found = absurd cc
controller_from (r ∷ rs) (d ∷ ds) i k fit found =
    either (has_plic r) (sym (test_is r rs d ds fit)) found
    (λ at. let rest : Fit rs ds = cc in controller_from rs ds (i + 1) k rest at)
  where
    either : (b : Bool) → is_plic_shape (shape_of d) ≡ b
        → cond b (Some i) (position_from has_plic (i + 1) rs) ≡ Some k
        → (position_from has_plic (i + 1) rs ≡ Some k → IsFirst ds (i + 1) k)
        → IsFirst (d ∷ ds) i k
    either true is at rest = record {
      place = 0;
      number = let same : i ≡ k = cc in omega arith;
      within = omega arith;
      is = here_is d ds is;
      shape = plic_shape d is;
    }
    either false is at rest =
        let later = rest at in
        record {
          place = suc later.place;
          number = let number = later.number in omega arith;
          within = let within = later.within in omega arith;
          is = later_is d ds is ∙ later.is;
          shape = later.shape;
        }

none_from : (rs : List Region) (ds : Devices) (i : ℕ) → Fit rs ds
    → position_from has_plic i rs ≡ None → controller ds ≡ None
none_from [] [] i fit none = refl
none_from [] (d ∷ ds) i fit none = absurd cc
none_from (r ∷ rs) [] i fit none = refl
none_from (r ∷ rs) (d ∷ ds) i fit none =
    either (has_plic r) (sym (test_is r rs d ds fit)) none
    (λ at. let rest : Fit rs ds = cc in none_from rs ds (i + 1) rest at)
  where
    either : (b : Bool) → is_plic_shape (shape_of d) ≡ b
        → cond b (Some i) (position_from has_plic (i + 1) rs) ≡ None
        → (position_from has_plic (i + 1) rs ≡ None → controller ds ≡ None)
        → controller (d ∷ ds) ≡ None
    either true is at rest = absurd cc
    either false is at rest = later_is d ds is ∙ rest at

module _ (rs : List Region) (ds : Devices) (fit : Fit rs ds) where
  pub controller_at : (k : ℕ) → position has_plic rs ≡ Some k
      → (k < length ds) × (controller ds ≡ plic_of (get_or ds k Absent))
  controller_at k found =
      let at = controller_from rs ds 0 k fit (sym (position_from-zero has_plic rs) ∙ found) in
      let number : at.place ≡ k = let is = at.number in omega arith in
      let P : ℕ → Type 0 =
      λ n. (n < length ds) × (controller ds ≡ plic_of (get_or ds n Absent)) in
      subst P number (at.within, at.is)

  pub controller_is : (k : ℕ) → position has_plic rs ≡ Some k → IsController ds k
  controller_is k found =
      let at = controller_from rs ds 0 k fit (sym (position_from-zero has_plic rs) ∙ found) in
      let number : at.place ≡ k = let is = at.number in omega arith in
      subst (IsController ds) number at.shape

  pub controller_if : (number : Option ℕ) → number ≡ position has_plic rs
      → IfSome number (λ region. IsController ds region)
  controller_if None is = search rules
  controller_if (Some k) is = let here = controller_is k (sym is) in search rules

  pub no_controller : position has_plic rs ≡ None → controller ds ≡ None
  no_controller none = none_from rs ds 0 fit (sym (position_from-zero has_plic rs) ∙ none)
