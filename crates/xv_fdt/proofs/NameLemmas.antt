-- Names, and the set of those that are taken.
use Rattle.std.proofs.Common.{◌≡◌, ℕ, Bool, true, false, not, ◌&&◌, ◌||◌, cond, leb, nat_eq, List}
use Rattle.std.proofs.Common.{[], length, Some, None, refl, sym, ap, ◌∙◌, arith}
use Rattle.std.proofs.Math.Path.{fun_ext}
use Rattle.std.specs.Ordering.{nat_cmp, is_eq}
use Rattle.std.specs.Cmp.Lexicographic.{pointwise, slice_cmp, texts_ties}
use Rattle.std.specs.BTreeSet.{contains}
use Rattle.std.proofs.lemmas.Bool.Decides.{nat_tests}
use Rattle.xv_base.specs.Name.{is_dev_name}
use Rattle.xv_fdt.specs.declared.names.NameSet.{NameSet}
use Rattle.xv_fdt.specs.Grammar.{Names, nobody, with_name, is_new}
use Rattle.xv_fdt.specs.Progress.{taken_in}

-- a name of a node is short
pub length-dev_name : (bytes : List ℕ) → is_dev_name bytes ≡ true → leb (length bytes) 63 ≡ true
unfolding is_dev_name
length-dev_name bytes named = grind (arith, nat_tests)

-- what `name_of` answers
pub named : (well : Bool) (bytes name : List ℕ) → (well ≡ true → leb (length bytes) 63 ≡ true)
    → Some name ≡ cond well (Some bytes) None
    → cond (leb (length name) 63) (Some name) None ≡ cond well (Some bytes) None
named true bytes name short e = let same : name ≡ bytes = cc in rw (same, short refl) refl
named false bytes name short e = absurd cc

-- ---- a new name

new_of : (well : Bool) (taken : Names) (bytes name : List ℕ)
    → Some name ≡ cond well (Some bytes) None
    → cond (taken name) None (Some name) ≡ cond (well && not (taken bytes)) (Some bytes) None
new_of true taken bytes name e = let same : name ≡ bytes = cc in
    rw same (chosen (taken bytes) bytes)
  where
    chosen : (is_taken : Bool) (bytes : List ℕ)
        → cond is_taken None (Some bytes) ≡ cond (not is_taken) (Some bytes) None
    chosen true bytes = refl
    chosen false bytes = refl
new_of false taken bytes name e = absurd cc

pub new-free : (taken : Names) (bytes name : List ℕ)
    → Some name ≡ cond (is_dev_name bytes) (Some bytes) None → taken name ≡ false
    → Some name ≡ cond (is_new taken bytes) (Some bytes) None
new-free taken bytes name e free =
    ap (λ b. cond b None (Some name)) (sym free) ∙ new_of (is_dev_name bytes) taken bytes name e

pub new-taken : (taken : Names) (bytes name : List ℕ)
    → Some name ≡ cond (is_dev_name bytes) (Some bytes) None → taken name ≡ true
    → None ≡ cond (is_new taken bytes) (Some bytes) None
new-taken taken bytes name e used =
    ap (λ b. cond b None (Some name)) (sym used) ∙ new_of (is_dev_name bytes) taken bytes name e

pub new-none : (taken : Names) (bytes : List ℕ) → None ≡ cond (is_dev_name bytes) (Some bytes) None
    → None ≡ cond (is_new taken bytes) (Some bytes) None
new-none taken bytes e = none_of (is_dev_name bytes) taken bytes e
  where
    none_of : (well : Bool) (taken : Names) (bytes : List ℕ) → None ≡ cond well (Some bytes) None
        → None ≡ cond (well && not (taken bytes)) (Some bytes) None
    none_of true taken bytes e = absurd cc
    none_of false taken bytes e = refl

-- ---- the set

pub none_taken : (names : NameSet) → names.set.keys ≡ [] → taken_in names ≡ nobody
unfolding taken_in
none_taken names empty = fun_ext (λ name. rw empty refl)

chosen_or : (same taken : Bool) → cond same true taken ≡ (same || taken)
chosen_or true taken = refl
chosen_or false taken = refl

pub one_more : (old new : NameSet) (name : List ℕ)
    → ((q : List ℕ) → contains (slice_cmp nat_cmp) new.set q
    ≡ cond (is_eq (slice_cmp nat_cmp name q)) true (contains (slice_cmp nat_cmp) old.set q))
    → taken_in new ≡ with_name (taken_in old) name
unfolding taken_in
one_more old new name updates =
    fun_ext (λ q. updates q
    ∙ ap (λ b. cond b true (contains (slice_cmp nat_cmp) old.set q)) (sym (texts_ties name q))
    ∙ chosen_or (pointwise nat_eq name q) (contains (slice_cmp nat_cmp) old.set q))
