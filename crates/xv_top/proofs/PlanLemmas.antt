-- The plans of flat guests and of trees keep the rules over the reserved area of the host.
use Rattle.std.proofs.Common.{◌≡◌, ℕ, zero, suc, ◌+◌, ◌*◌, ◌%◌, ◌^◌, ◌≤◌, Bool, true, false}
use Rattle.std.proofs.Common.{eqb, leb, ltb, IsTrue, List, [], ◌∷◌, ◌++◌, length, take, slice_get}
use Rattle.std.proofs.Common.{Option, Some, None}
use Rattle.std.proofs.lemmas.List.{length-append}
use Rattle.std.proofs.Common.{Result}
use Rattle.std.proofs.Common.{Ok, Err, refl}
use Rattle.std.proofs.Common.{sym, ap, ◌∙◌, arith, codes, subst, position}
use Rattle.std.proofs.lemmas.Bool.Decides.{nat_tests}
use Rattle.std.specs.List.{All}
use Rattle.xv_csr.specs.Fields.{IsInstructionAddress}
use Rattle.xv_base.specs.declared.keys.Span.{Span}
use Rattle.xv_fdt.specs.Fault.{◌>>=◌}
use Rattle.xv_fdt.specs.Tree.{Entry}
use Rattle.xv_region.specs.declared.fault.RegionFault.{RegionFault}
use Rattle.xv_region.specs.declared.fault.RegionFault.TheVariants.{Overlap, BadAlias, BadHost}
use Rattle.xv_region.specs.declared.fault.RegionFault.TheVariants.{NoMemory}
use Rattle.xv_region.specs.declared.plan.Kind.{Kind}
use Rattle.xv_region.specs.declared.plan.Kind.TheVariants.{Ram, Rom, Reserved, Alias, Device}
use Rattle.xv_region.specs.declared.plan.Region.{Region}
use Rattle.xv_region.specs.Plan.{Plan, flat, flat_base}
use Rattle.xv_region.specs.Rules.{are_sound, first_fault, fault_from, fault_of, kind_fault, unless}
use Rattle.xv_region.specs.Rules.{is_good_alias, is_good_host, or_later, overlap_or, shares}
use Rattle.xv_tree.specs.declared.fault.PlanFault.{PlanFault}
use Rattle.xv_tree.specs.declared.fault.PlanKind.TheVariants.{NoAspace, NoVcpus}
use Rattle.xv_region.specs.declared.plan.VcpuPlan.{VcpuPlan}
use Rattle.xv_tree.specs.Children.{Numbered, children, root_child}
use Rattle.xv_tree.specs.Fault.{fault_at, in_turn}
use Rattle.xv_tree.specs.Plan.{judged, number_needed, plan, regions_of}
use Rattle.xv_tree.specs.Regions.{Kept, nothing_kept, with_node}
use Rattle.xv_tree.specs.Vcpus.{counted, vcpu_of, vcpus_of, with_vcpu}

pub flat_sound : (pages : ℕ) → 1 ≤ pages → pages ≤ 131072 → IsTrue (are_sound (flat pages).regions)
unfolding are_sound
flat_sound pages some most =
    let size : eqb (4096 * pages % 4096) 0 ≡ true = grind (arith, nat_tests) in
    let held : ltb 0 (4096 * pages) ≡ true = grind (arith, nat_tests) in
    let end : leb (flat_base + 4096 * pages) (2 ^ 41) ≡ true = grind (arith, nat_tests) in
    rw size (rw held (rw end refl))

pub flat_faultless : (area : Span) (pages : ℕ) → first_fault area (flat pages).regions ≡ None
unfolding first_fault fault_from
flat_faultless area pages = refl

pub flat_starts : (pages : ℕ) → All (λ vcpu. IsInstructionAddress vcpu.start) (flat pages).vcpus
flat_starts pages zero d within = refl
flat_starts pages (suc k) d within = absurd (omega arith)

pub flat_few : (pages : ℕ) → length (flat pages).vcpus ≤ 8
flat_few pages = omega arith

-- ---- a tree's plan

unless_wants : (b : Bool) (fault : RegionFault) → (fault ≡ NoMemory → ⊥)
    → unless b fault ≡ Some NoMemory → ⊥
unless_wants true fault other is = cc
unless_wants false fault other is = other (cc)

-- no rule gives want of memory
kind_wants : (area : Span) (regions earlier : List Region) (j size : ℕ) (kind : Kind)
    → kind_fault area regions earlier j size kind ≡ Some NoMemory → ⊥
kind_wants area regions earlier j size Ram is = cc
kind_wants area regions earlier j size Rom is = cc
kind_wants area regions earlier j size (Reserved host) is =
    unless_wants (is_good_host area earlier host size) (BadHost j) (λ same. cc) is
kind_wants area regions earlier j size (Alias target) is =
    unless_wants (is_good_alias regions target size) (BadAlias j) (λ same. cc) is
kind_wants area regions earlier j size (Device kind) is = cc

overlap_wants : (j : ℕ) (i : Option ℕ) (later : Option RegionFault)
    → (later ≡ Some NoMemory → ⊥) → overlap_or j i later ≡ Some NoMemory → ⊥
overlap_wants j None later other is = other is
overlap_wants j (Some i) later other is = cc

later_wants : (first later : Option RegionFault) → (first ≡ Some NoMemory → ⊥)
    → (later ≡ Some NoMemory → ⊥) → or_later first later ≡ Some NoMemory → ⊥
later_wants None later first_not later_not is = later_not is
later_wants (Some fault) later first_not later_not is = first_not is

fault_wants : (area : Span) (regions : List Region) (j : ℕ) (rs : List Region)
    → fault_from area regions j rs ≡ Some NoMemory → ⊥
unfolding fault_from
fault_wants area regions j [] is = cc
fault_wants area regions j (r ∷ rs) is =
    later_wants (fault_of area regions (take j regions) j r) (fault_from area regions (suc j) rs)
    (overlap_wants j (position (shares r) (take j regions)) _
    (kind_wants area regions (take j regions) j r.size r.kind))
    (fault_wants area regions (suc j) rs) is

first_wants : (area : Span) (regions : List Region) → first_fault area regions ≡ Some NoMemory → ⊥
unfolding first_fault
first_wants area regions is = fault_wants area regions 0 regions is

judged_faultless : (kept : Kept) (o : Option RegionFault) (regions : List Region)
    → (o ≡ Some NoMemory → ⊥) → judged kept o ≡ Ok regions → (o ≡ None) × (kept.regions ≡ regions)
judged_faultless kept None regions other is = (refl, cc)
judged_faultless kept (Some (Overlap i j)) regions other is = cc
judged_faultless kept (Some (BadAlias j)) regions other is = cc
judged_faultless kept (Some (BadHost j)) regions other is = cc
judged_faultless kept (Some NoMemory) regions other is = absurd (other refl)

-- what a step gave, where all went well
record WentOn {A B E : Type 0} (r : Result A E) (f : A → Result B E) (y : B) : Type 0 where
  pub value : A
  pub first : r ≡ Ok value
  pub rest : f value ≡ Ok y

went_on : {A B E : Type 0} (r : Result A E) (f : A → Result B E) (y : B) → (r >>= f) ≡ Ok y
    → WentOn r f y
went_on (Ok x) f y is = record { value = x; first = refl; rest = is }
went_on (Err e) f y is = absurd cc

regions_faultless : (area : Span) (r : Result Kept PlanFault) (regions : List Region)
    → (r >>= λ kept. judged kept (first_fault area kept.regions)) ≡ Ok regions
    → first_fault area regions ≡ None
regions_faultless area (Err e) regions is = cc
regions_faultless area (Ok kept) regions is =
    let judged = judged_faultless kept (first_fault area kept.regions) regions
    (first_wants area kept.regions) is in
    ap (first_fault area) (sym judged.1) ∙ judged.0

-- the plan that a tree describes has no fault over the area
pub tree_faultless : (entries : List Entry) (area : Span) (p : Plan) → plan entries area ≡ Ok p
    → first_fault area p.regions ≡ None
unfolding plan
tree_faultless entries area p is =
    let aspace = went_on (number_needed NoAspace (root_child (codes "aspace") entries)) _ p is in
    let vcpus = went_on (number_needed NoVcpus (root_child (codes "vcpus") entries)) _ p aspace.rest
    in
    let described = went_on (vcpus_of (children vcpus.value entries)) _ p vcpus.rest in
    let found = went_on (regions_of area (children aspace.value entries)) _ p described.rest in
    let same : found.value ≡ p.regions =
    let end : record { regions = found.value; vcpus = described.value } ≡ p = cc in
    ap (λ (x : Plan). x.regions) end in
    subst (λ (rs : List Region). first_fault area rs ≡ None) same
    (regions_faultless area (in_turn with_node nothing_kept (children aspace.value entries))
    found.value found.first)

-- ---- a tree's VCPUs are few

with_more : (vcpus next : List VcpuPlan) (r : Result VcpuPlan PlanFault)
    → (r >>= λ vcpu. Ok (vcpus ++ vcpu ∷ [])) ≡ Ok next → length next ≡ length vcpus + 1
with_more vcpus next (Err e) is = absurd cc
with_more vcpus next (Ok vcpu) is =
    let same : vcpus ++ vcpu ∷ [] ≡ next = cc in
    sym (ap length same) ∙ length-append vcpus (vcpu ∷ [])

-- as many as nodes
each_more : (vcpus all : List VcpuPlan) (nodes : List Numbered)
    → in_turn with_vcpu vcpus nodes ≡ Ok all → length all ≡ length vcpus + length nodes
each_more vcpus all [] is =
    let same : vcpus ≡ all = cc in
    sym (ap length same) ∙ (let e : length vcpus ≡ length vcpus + 0 = omega arith in e)
each_more vcpus all (n ∷ ns) is =
    let step = went_on (with_vcpu vcpus n) (λ next. in_turn with_vcpu next ns) all is in
    let one = with_more vcpus step.value (fault_at n.0 (vcpu_of n.1.props)) step.first in
    let rest = each_more step.value all ns step.rest in
    omega (arith, one, rest)

counted_few : (first ninth : Option Numbered) (r : Result (List VcpuPlan) PlanFault)
    (all : List VcpuPlan) → counted first ninth r ≡ Ok all → (r ≡ Ok all) × (ninth ≡ None)
counted_few None ninth r all is = cc
counted_few (Some first) None r all is = (is, refl)
counted_few (Some first) (Some ninth) r all is = cc

none_past : {X : Type 0} (xs : List X) (k : ℕ) → slice_get xs k ≡ None → length xs ≤ k
none_past [] k is = omega arith
none_past (x ∷ xs) zero is = absurd cc
none_past (x ∷ xs) (suc k) is = let rest = none_past xs k is in omega (arith, rest)

vcpus_few : (nodes : List Numbered) (all : List VcpuPlan) → vcpus_of nodes ≡ Ok all
    → length all ≤ 8
unfolding vcpus_of
vcpus_few nodes all is =
    let parts = counted_few (slice_get nodes 0) (slice_get nodes 8) (in_turn with_vcpu [] nodes) all
    is in
    omega (arith, each_more [] all nodes parts.0, none_past nodes 8 parts.1)

pub tree_few : (entries : List Entry) (area : Span) (p : Plan) → plan entries area ≡ Ok p
    → length p.vcpus ≤ 8
unfolding plan
tree_few entries area p is =
    let aspace = went_on (number_needed NoAspace (root_child (codes "aspace") entries)) _ p is in
    let vcpus = went_on (number_needed NoVcpus (root_child (codes "vcpus") entries)) _ p aspace.rest
    in
    let described = went_on (vcpus_of (children vcpus.value entries)) _ p vcpus.rest in
    let found = went_on (regions_of area (children aspace.value entries)) _ p described.rest in
    let same : described.value ≡ p.vcpus =
    let end : record { regions = found.value; vcpus = described.value } ≡ p = cc in
    ap (λ (x : Plan). x.vcpus) end in
    subst (λ (vs : List VcpuPlan). length vs ≤ 8) same
    (vcpus_few (children vcpus.value entries) described.value described.first)
