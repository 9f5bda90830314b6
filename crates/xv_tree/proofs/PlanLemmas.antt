-- The steps of a plan, one after another, and the names of the nodes.
use Rattle.std.proofs.Common.{◌≡◌, ℕ, zero, suc, ◌+◌, ◌-◌, ◌<◌, ◌≤◌, List, [], ◌∷◌, length, get_or}
use Rattle.std.proofs.Common.{drop, codes}
use Rattle.std.proofs.Common.{Option, Some, None, Result, Ok, Err, refl, sym, ap, subst, ◌∙◌, arith}
use Rattle.std.proofs.Common.{slice_get}
use Rattle.std.specs.Prelude.{IsTrue}
use Rattle.std.specs.Option.{option_map}
use Rattle.std.proofs.lemmas.List.{get_or-drop, length-drop}
use Rattle.xv_base.specs.declared.keys.Span.{Span}
use Rattle.xv_base.specs.Name.{is_dev_name}
use Rattle.xv_fdt.specs.Fault.{◌>>=◌}
use Rattle.xv_fdt.specs.Shape.{AreInner, IsShaped}
use Rattle.xv_fdt.specs.Tree.{Entry}
use Rattle.xv_region.specs.declared.plan.Region.{Region}
use Rattle.xv_region.specs.declared.plan.VcpuPlan.{VcpuPlan}
use Rattle.xv_region.specs.Plan.{Plan}
use Rattle.xv_tree.specs.declared.fault.PlanKind.{PlanKind}
use Rattle.xv_tree.specs.declared.fault.PlanKind.TheVariants.{NoAspace, NoVcpus, TooManyVcpus}
use Rattle.xv_tree.specs.declared.fault.PlanFault.{PlanFault}
use Rattle.xv_tree.specs.declared.fault.PlanFault.TheVariants as faults
use Rattle.xv_tree.specs.Children.{Numbered, children, root_child}
use Rattle.xv_tree.specs.Fault.{Fails, in_turn}
use Rattle.xv_tree.specs.Plan.{number_needed, plan, regions_of}
use Rattle.xv_tree.specs.Vcpus.{counted, vcpus_of, with_vcpu}

abbrev pub numbers : Option Numbered → Option ℕ
numbers o = option_map (λ n. n.0) o

-- ---- the number of VCPUs

pub vcpus-none : (ns : List Numbered) → None ≡ numbers (slice_get ns 0)
    → vcpus_of ns ≡ Err (faults.At NoVcpus 0)
unfolding vcpus_of
vcpus-none ns none = by (slice_get ns 0) none
  where
    by : (first : Option Numbered) → None ≡ numbers first
        → counted first (slice_get ns 8) (in_turn with_vcpu [] ns) ≡ Err (faults.At NoVcpus 0)
    by None is = refl
    by (Some n) is = absurd cc

pub vcpus-ninth : (ns : List Numbered) (first ninth : ℕ) → Some first ≡ numbers (slice_get ns 0)
    → Some ninth ≡ numbers (slice_get ns 8) → vcpus_of ns ≡ Err (faults.At TooManyVcpus ninth)
unfolding vcpus_of
vcpus-ninth ns first ninth some more = by (slice_get ns 0) (slice_get ns 8) some more
  where
    by : (a b : Option Numbered) → Some first ≡ numbers a → Some ninth ≡ numbers b
        → counted a b (in_turn with_vcpu [] ns) ≡ Err (faults.At TooManyVcpus ninth)
    by None b is more = absurd cc
    by (Some n) None is more = absurd cc
    by (Some n) (Some m) is more =
        let same : ninth ≡ m.0 = cc in
        rw same refl

pub vcpus-all : (ns : List Numbered) (first : ℕ) → Some first ≡ numbers (slice_get ns 0)
    → None ≡ numbers (slice_get ns 8) → vcpus_of ns ≡ in_turn with_vcpu [] ns
unfolding vcpus_of
vcpus-all ns first some none = by (slice_get ns 0) (slice_get ns 8) some none
  where
    by : (a b : Option Numbered) → Some first ≡ numbers a → None ≡ numbers b
        → counted a b (in_turn with_vcpu [] ns) ≡ in_turn with_vcpu [] ns
    by None b is none = absurd cc
    by (Some n) None is none = refl
    by (Some n) (Some m) is none = absurd cc

-- ---- the whole

needed-none : (kind : PlanKind) (o : Option Numbered) → None ≡ numbers o
    → number_needed kind o ≡ Err (faults.At kind 0)
needed-none kind None is = refl
needed-none kind (Some n) is = absurd cc

needed-some : (kind : PlanKind) (o : Option Numbered) (number : ℕ) → Some number ≡ numbers o
    → number_needed kind o ≡ Ok number
needed-some kind None number is = absurd cc
needed-some kind (Some n) number is =
    let same : number ≡ n.0 = cc in
    rw same refl

fails-on : {A B : Type 0} (fault : PlanFault) (r : Result A PlanFault) (f : A → Result B PlanFault)
    → Fails fault r → Fails fault (r >>= f)
fails-on {A} {B} (faults.At kind node) r f is = ap (λ (t : Result A PlanFault). t >>= f) is
fails-on {A} {B} (faults.Overlap i j) r f is = ap (λ (t : Result A PlanFault). t >>= f) is
fails-on faults.NoMemory r f is = tt

module _ (es : List Entry) (area : Span) where
  pub plan-no_aspace : None ≡ numbers (root_child (codes "aspace") es)
      → plan es area ≡ Err (faults.At NoAspace 0)
  unfolding plan
  plan-no_aspace none = rw (needed-none NoAspace (root_child (codes "aspace") es) none) refl

  module _ (aspace : ℕ) (has_aspace : Some aspace ≡ numbers (root_child (codes "aspace") es)) where
    pub plan-no_vcpus : None ≡ numbers (root_child (codes "vcpus") es)
        → plan es area ≡ Err (faults.At NoVcpus 0)
    unfolding plan
    plan-no_vcpus none =
        rw (
          needed-some NoAspace (root_child (codes "aspace") es) aspace has_aspace,
          needed-none NoVcpus (root_child (codes "vcpus") es) none,
        ) refl

    module _ (parent : ℕ) (has_vcpus : Some parent ≡ numbers (root_child (codes "vcpus") es)) where
      abbrev pub described : Result Plan PlanFault
      described =
          vcpus_of (children parent es)
          >>= λ vcpus. (regions_of area (children aspace es)
          >>= λ regions. Ok (record { regions = regions; vcpus = vcpus }))

      plan-is : plan es area ≡ described
      unfolding plan
      plan-is =
          rw (
            needed-some NoAspace (root_child (codes "aspace") es) aspace has_aspace,
            needed-some NoVcpus (root_child (codes "vcpus") es) parent has_vcpus,
          ) refl

      pub plan-vcpus_fail : (fault : PlanFault) → Fails fault (vcpus_of (children parent es))
          → Fails fault (plan es area)
      plan-vcpus_fail fault fails =
          subst (Fails fault) (sym plan-is) (fails-on fault (vcpus_of (children parent es)) _ fails)

      module _ (vcpus : List VcpuPlan) (vcpus_are : vcpus_of (children parent es) ≡ Ok vcpus) where
        abbrev with_regions : Result Plan PlanFault
        with_regions =
            regions_of area (children aspace es)
            >>= λ regions. Ok (record { regions = regions; vcpus = vcpus })

        after_vcpus : plan es area ≡ with_regions
        after_vcpus = plan-is ∙ rw vcpus_are refl

        pub plan-regions_fail : (fault : PlanFault)
            → Fails fault (regions_of area (children aspace es)) → Fails fault (plan es area)
        plan-regions_fail fault fails =
            subst (Fails fault) (sym after_vcpus)
            (fails-on fault (regions_of area (children aspace es)) _ fails)

        pub plan-whole : (regions : List Region)
            → regions_of area (children aspace es) ≡ Ok regions
            → plan es area ≡ Ok (record { regions = regions; vcpus = vcpus })
        plan-whole regions are = after_vcpus ∙ rw are refl

-- ---- each node but the root has a device's name

named-in : (number : ℕ) (es : List Entry) (k : ℕ) (d : Entry) → AreInner number es → k < length es
    → IsTrue (is_dev_name (get_or es k d).name)
named-in number [] k d inner within = absurd (omega arith)
named-in number (e ∷ es) zero d inner within = (inner.0).named
named-in number (e ∷ es) (suc k) d inner within =
    named-in (number + 1) es k d inner.1 (omega arith)

pub named-at : (nodes : List Entry) (i : ℕ) (node : Entry) → AreInner 1 (drop 1 nodes) → 1 ≤ i
    → i < length nodes → node ≡ get_or nodes i node → IsTrue (is_dev_name node.name)
named-at nodes i node inner from within read =
    let k = i - 1 in
    let size = length-drop 1 nodes in
    let here = named-in 1 (drop 1 nodes) k node inner (omega (arith, size)) in
    let place : 1 + k ≡ i = omega arith in
    let same = get_or-drop 1 nodes k node ∙ ap (λ (n : ℕ). get_or nodes n node) place ∙ sym read in
    subst (λ (e : Entry). IsTrue (is_dev_name e.name)) same here

pub shaped-inner : (es : List Entry) → IsShaped es → AreInner 1 (drop 1 es)
shaped-inner [] shaped = absurd shaped
shaped-inner (root ∷ others) shaped = shaped.1
