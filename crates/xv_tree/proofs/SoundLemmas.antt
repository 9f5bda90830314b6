-- The regions that are kept are sound by themselves.
use Rattle.std.proofs.Common.{◌≡◌, ℕ, ◌+◌, ◌%◌, ◌==◌, Bool, true, false, ◌&&◌, not, cond}
use Rattle.std.proofs.Common.{leb, ltb}
use Rattle.std.proofs.Common.{List, [], ◌∷◌, ◌++◌, length, take, codes, Option, Some, None, Result}
use Rattle.std.proofs.Common.{Ok, Err}
use Rattle.std.proofs.Common.{refl, subst, arith}
use Rattle.std.specs.Prelude.{IsTrue}
use Rattle.std.specs.Int.{w32, from_be_bytes}
use Rattle.std.specs.List.{list_all}
use Rattle.std.proofs.lemmas.Bool.Decides.{nat_tests}
use Rattle.std.proofs.lemmas.List.{length_push}
use Rattle.xv_region.specs.declared.plan.Kind.{Kind}
use Rattle.xv_region.specs.declared.plan.Kind.TheVariants as kinds
use Rattle.xv_region.specs.declared.plan.DeviceKind.TheVariants as devices
use Rattle.xv_region.specs.declared.plan.Region.{Region}
use Rattle.xv_region.specs.Rules as rules
use Rattle.xv_fdt.specs.Fault.{◌>>=◌}
use Rattle.xv_fdt.specs.Tree.{Entry, Property}
use Rattle.xv_tree.specs.declared.fault.PlanKind.{PlanKind}
use Rattle.xv_tree.specs.declared.fault.PlanKind.TheVariants.{BadKind, BadAddress, BadSize, BadIrq}
use Rattle.xv_tree.specs.declared.fault.PlanFault.{PlanFault}
use Rattle.xv_tree.specs.declared.sort.Sort.{Sort}
use Rattle.xv_tree.specs.declared.sort.Sort.TheVariants.{Ram, Rom, Reserved, Alias, Uart, Plic}
use Rattle.xv_tree.specs.declared.sort.Sort.TheVariants.{Finisher}
use Rattle.xv_tree.specs.Children.{Numbered}
use Rattle.xv_tree.specs.Fault.{fault_at, given, in_turn, needed}
use Rattle.xv_tree.specs.Regions.{Kept, also_kept, base_in, irq_at, irq_in, kept_if, kind_of}
use Rattle.xv_tree.specs.Regions.{region_at}
use Rattle.xv_tree.specs.Regions.{region_of, shift_at, shift_in, size_in, sort_of, unit_of}
use Rattle.xv_tree.specs.Regions.{with_node}
use Rattle.xv_tree.specs.Regions.{is_second, nothing_kept, region_from}
use Rattle.xv_tree.specs.Values.{number_of, value_of, word}

-- ---- steps that went well

bind_ok : {A B E : Type 0} (r : Result A E) (f : A → Result B E) (y : B) → (r >>= f) ≡ Ok y
    → (x : A) × (r ≡ Ok x) × (f x ≡ Ok y)
bind_ok (Ok x) f y e = (x, refl, e)
bind_ok (Err d) f y e = absurd cc

given_ok : {A : Type 0} (b : Bool) (kind : PlanKind) (r : Result A PlanKind) (y : A)
    → given b kind r ≡ Ok y → (b ≡ true) × (r ≡ Ok y)
given_ok true kind r y e = (refl, e)
given_ok false kind r y e = absurd cc

needed_ok : {A : Type 0} (kind : PlanKind) (o : Option A) (y : A)
    → needed kind o ≡ Ok y → o ≡ Some y
needed_ok kind None y e = absurd cc
needed_ok kind (Some x) y e = cc

at_ok : {A : Type 0} (node : ℕ) (r : Result A PlanKind) (y : A) → fault_at node r ≡ Ok y → r ≡ Ok y
at_ok node (Ok x) y e = cc
at_ok node (Err kind) y e = absurd cc

both : (a b : Bool) → (a && b) ≡ true → (a ≡ true) × (b ≡ true)
both true b is = (refl, is)
both false b is = absurd cc

-- where a test was passed, the number is the one that was asked
passed : (b : Bool) (x y : ℕ) → cond b (Some x) None ≡ Some y → (b ≡ true) × (x ≡ y)
passed true x y e = (refl, cc)
passed false x y e = absurd cc

-- ---- its parts

base-ok : (unit : ℕ) (o : Option ℕ) (base : ℕ) → base_in unit o ≡ Some base
    → (base % unit == 0) ≡ true
base-ok unit None base e = absurd cc
base-ok unit (Some x) base e =
    let at = passed (x % unit == 0 && ltb x rules.address_end) x base e in
    let first = (both (x % unit == 0) (ltb x rules.address_end) at.0).0 in
    subst (λ n. (n % unit == 0) ≡ true) at.1 first

abbrev SizeOk : (unit base size : ℕ) → Type 0
SizeOk unit base size =
    ((size % unit == 0) ≡ true) × ((ltb 0 size && leb (base + size) rules.address_end) ≡ true)

size-ok : (unit base : ℕ) (o : Option ℕ) (size : ℕ) → size_in unit base o ≡ Some size
    → SizeOk unit base size
size-ok unit base None size e = absurd cc
size-ok unit base (Some x) size e =
    let fits = ltb 0 x && leb (base + x) rules.address_end in
    let at = passed (x % unit == 0 && fits) x size e in
    subst (SizeOk unit base) at.1 (both (x % unit == 0) fits at.0)

shift-ok : (o : Option ℕ) (shift : ℕ) → shift_at o ≡ Some shift → leb shift 2 ≡ true
shift-ok None shift e = absurd cc
shift-ok (Some x) shift e =
    let at = passed (leb x 2) x shift e in
    subst (λ n. leb n 2 ≡ true) at.1 at.0

shifted-ok : (o : Option (List ℕ)) (shift : ℕ) → shift_in o ≡ Some shift → leb shift 2 ≡ true
shifted-ok None shift e =
    let same : 0 ≡ shift = cc in
    subst (λ n. leb n 2 ≡ true) same refl
shifted-ok (Some value) shift e = shift-ok (word value) shift e

irq-ok : (earlier : List Region) (x irq : ℕ) → irq_at earlier x ≡ Some irq → leb irq 63 ≡ true
irq-ok earlier x irq e =
    let range = leb 1 x && leb x 63 in
    let at = passed (range && _) x irq e in
    let bounds = both (leb 1 x) (leb x 63) (both range _ at.0).0 in
    subst (λ n. leb n 63 ≡ true) at.1 bounds.1

word-ok : (earlier : List Region) (b : Bool) (x irq : ℕ) → cond b (irq_at earlier x) None ≡ Some irq
    → leb irq 63 ≡ true
word-ok earlier true x irq e = irq-ok earlier x irq e
word-ok earlier false x irq e = absurd cc

irq_in-ok : (earlier : List Region) (o : Option (List ℕ)) (irq : ℕ) → irq_in earlier o ≡ Some irq
    → leb irq 63 ≡ true
irq_in-ok earlier None irq e =
    let same : 0 ≡ irq = cc in
    subst (λ n. leb n 63 ≡ true) same refl
irq_in-ok earlier (Some value) irq e =
    word-ok earlier (leb 4 (length value) && length value % 4 == 0)
    (from_be_bytes w32 (take 4 value)) irq e

abbrev KindOk : ℕ → Kind → Type 0
KindOk unit kind = (rules.unit_of kind ≡ unit) × (rules.is_sound_kind kind ≡ true)

abbrev kind_ok_of : Kind → Result Kind PlanKind
kind_ok_of kind = Ok kind

kind_is : (a b : Kind) → kind_ok_of a ≡ kind_ok_of b → a ≡ b
kind_is a b e = cc

kind-ok : (earlier : List Region) (props : List Property) (sort : Sort) (kind : Kind)
    → kind_of earlier props sort ≡ Ok kind → KindOk (unit_of sort) kind
kind-ok earlier props Ram kind e = subst (KindOk 4096) (kind_is _ kind e) (refl, refl)
kind-ok earlier props Rom kind e = subst (KindOk 4096) (kind_is _ kind e) (refl, refl)
kind-ok earlier props Reserved kind e = subst (KindOk 4096) (kind_is _ kind e) (refl, refl)
kind-ok earlier props Alias kind e = subst (KindOk 4096) (kind_is _ kind e) (refl, refl)
kind-ok earlier props Plic kind e = subst (KindOk 8) (kind_is _ kind e) (refl, refl)
kind-ok earlier props Finisher kind e = subst (KindOk 8) (kind_is _ kind e) (refl, refl)
kind-ok earlier props Uart kind e =
    let shifts = shift_in (value_of (codes "reg-shift") props) in
    let irqs = irq_in earlier (value_of (codes "interrupts") props) in
    let shift = bind_ok (needed BadKind shifts)
    (λ (n : ℕ). needed BadIrq irqs >>= λ i. Ok (kinds.Device (devices.Uart n i))) kind e in
    let irq = bind_ok (needed BadIrq irqs)
    (λ (i : ℕ). kind_ok_of (kinds.Device (devices.Uart shift.0 i))) kind shift.2 in
    let small = shifted-ok (value_of (codes "reg-shift") props) shift.0
    (needed_ok BadKind shifts shift.0 shift.1) in
    let source =
    irq_in-ok earlier (value_of (codes "interrupts") props) irq.0
    (needed_ok BadIrq irqs irq.0 irq.1) in
    let sound : rules.is_sound_kind (kinds.Device (devices.Uart shift.0 irq.0)) ≡ true =
    rw (small, source) refl in
    subst (KindOk 8) (kind_is (kinds.Device (devices.Uart shift.0 irq.0)) kind irq.2) (refl, sound)

-- ---- the region

abbrev region_ok_of : Region → Result Region PlanKind
region_ok_of r = Ok r

region_is : (a b : Region) → region_ok_of a ≡ region_ok_of b → a ≡ b
region_is a b e = cc

at-ok : (earlier : List Region) (e : Entry) (sort : Sort) (r : Region)
    → region_at earlier e sort ≡ Ok r
    → rules.is_sound r ≡ true
at-ok earlier e sort r is =
    let bases = base_in (unit_of sort) (number_of (codes "guest_physical_addr") e.props) in
    let base = bind_ok (needed BadAddress bases) (region_from earlier e sort) r is in
    let sizes = size_in (unit_of sort) base.0 (number_of (codes "physical_size") e.props) in
    let size = bind_ok (needed BadSize sizes)
    (λ (n : ℕ). kind_of earlier e.props sort
    >>= λ k. region_ok_of (record { name = e.name; base = base.0; size = n; kind = k })) r
    base.2 in
    let kind = bind_ok (kind_of earlier e.props sort)
    (λ (k : Kind). region_ok_of (record { name = e.name; base = base.0; size = size.0; kind = k }))
    r size.2 in
    let at = base-ok (unit_of sort) (number_of (codes "guest_physical_addr") e.props) base.0
    (needed_ok BadAddress bases base.0 base.1) in
    let fits = size-ok (unit_of sort) base.0 (number_of (codes "physical_size") e.props) size.0
    (needed_ok BadSize sizes size.0 size.1) in
    let behind = kind-ok earlier e.props sort kind.0 kind.1 in
    let found : Region =
    record { name = e.name; base = base.0; size = size.0; kind = kind.0 } in
    subst (λ (x : Region). rules.is_sound x ≡ true) (region_is found r kind.2)
    (rw (behind.0, at, fits.0, fits.1, behind.1) refl)

-- ---- one more

all-push : (xs : List Region) (r : Region) → list_all rules.is_sound xs ≡ true
    → rules.is_sound r ≡ true → list_all rules.is_sound (xs ++ r ∷ []) ≡ true
all-push [] r all is = rw is refl
all-push (x ∷ xs) r all is =
    let parts = both (rules.is_sound x) (list_all rules.is_sound xs) all in
    rw (parts.0, all-push xs r parts.1 is) refl

abbrev Sound : List Region → Type 0
Sound regions = rules.are_sound regions ≡ true

sound-push : (xs : List Region) (r : Region) → ltb (length xs) 32 ≡ true → Sound xs
    → rules.is_sound r ≡ true → Sound (xs ++ r ∷ [])
unfolding rules.are_sound
sound-push xs r few sound is =
    let parts = both (leb (length xs) 32) (list_all rules.is_sound xs) sound in
    let one = length_push xs r in
    let short : leb (length (xs ++ r ∷ [])) 32 ≡ true = grind (arith, nat_tests) in
    rw (short, all-push xs r parts.1 is) refl

region-ok : (earlier : List Region) (e : Entry) (sort : Sort) (r : Region)
    → region_of earlier e sort ≡ Ok r → Sound earlier → Sound (earlier ++ r ∷ [])
unfolding region_of
region-ok earlier e sort r is sound =
    let first = given_ok (not (is_second earlier sort)) BadKind _ r is in
    let few = given_ok (ltb (length earlier) 32) _ (region_at earlier e sort) r first.1 in
    sound-push earlier r few.0 sound (at-ok earlier e sort r few.1)

abbrev kept_of : Kept → Result Kept PlanFault
kept_of kept = Ok kept

kept_is : (a b : Kept) → kept_of a ≡ kept_of b → a ≡ b
kept_is a b e = cc

node-ok : (kept : Kept) (n : Numbered) (more : Kept) → with_node kept n ≡ Ok more
    → Sound kept.regions → Sound more.regions
node-ok kept n more e sound =
    let sort = bind_ok (fault_at n.0 (sort_of n.1.props)) (kept_if kept n) more e in
    by sort.0 sort.2
  where
    by : (sort : Option Sort) → kept_if kept n sort ≡ Ok more → Sound more.regions
    by None e = subst (λ (k : Kept). Sound k.regions) (kept_is kept more e) sound
    by (Some sort) e =
        let r = bind_ok (fault_at n.0 (region_of kept.regions n.1 sort)) _ more e in
        let found = at_ok n.0 (region_of kept.regions n.1 sort) r.0 r.1 in
        subst (λ (k : Kept). Sound k.regions) (kept_is (also_kept kept n.0 r.0) more r.2)
        (region-ok kept.regions n.1 sort r.0 found sound)

turns-ok : (ns : List Numbered) (kept more : Kept) → in_turn with_node kept ns ≡ Ok more
    → Sound kept.regions → Sound more.regions
turns-ok [] kept more e sound =
    subst (λ (k : Kept). Sound k.regions) (kept_is kept more e) sound
turns-ok (n ∷ ns) kept more e sound =
    let step = bind_ok (with_node kept n) (λ next. in_turn with_node next ns) more e in
    turns-ok ns step.0 more step.2 (node-ok kept n step.0 step.1 sound)

pub kept-sound : (ns : List Numbered) (more : Kept) → in_turn with_node nothing_kept ns ≡ Ok more
    → IsTrue (rules.are_sound more.regions)
unfolding rules.are_sound
kept-sound ns more e = turns-ok ns nothing_kept more e refl
