-- A page that is led right, as two reads show it; and counts of such pages.
use Rattle.std.proofs.Common.{◌≡◌, ◌≢◌, ℕ, suc, ◌+◌, ◌*◌, ◌/◌, ◌==◌}
use Rattle.std.proofs.Common.{Bool, true, false, ◌&&◌, cond, List, sum_by}
use Rattle.std.proofs.Common.{Option, Some, None, refl, sym, ap, ◌∙◌, arith}
use Rattle.std.proofs.Math.Bool.{beq}
use Rattle.std.proofs.lemmas.Bool.Decides.{nat_tests}
use Rattle.xv_pte.specs.declared.g_entry.Mapping.{Mapping}
use Rattle.xv_pte.specs.declared.g_stage.Leaf.{Leaf}
use Rattle.xv_pte.specs.GStage.{leaf_at, led, walked}
use Rattle.xv_pte.proofs.WalkPages.{IsIn, page_of_leaf}
use Rattle.xv_region.specs.declared.plan.Region.{Region}
use Rattle.xv_region.specs.Need.{count_below}
use Rattle.xv_gstage.specs.Audit.{audited, is_led_to, is_right, right_from}
use Rattle.xv_gstage.specs.Audit.{right_pages, same_permission}
use Rattle.xv_gstage.specs.Own.{own}

same_is : (a b : Bool) → beq a b ≡ same_permission a b
same_is true true = refl
same_is true false = refl
same_is false true = refl
same_is false false = refl

module _ (bytes : List ℕ) (root : ℕ) (regions : List Region) (frames : List ℕ) (page : ℕ) where
  pub right-unowned : own regions frames page ≡ None
      → false ≡ is_right bytes root regions frames page
  unfolding is_right
  right-unowned e = sym (ap (λ (o : Option Mapping). is_led_to o (led bytes root page)) e)

  place : 4096 * page / 4096 ≡ page
  place = omega arith

  module _ (own_mapping : Mapping) (is : own regions frames page ≡ Some own_mapping) where
    right_by : (to : Option Mapping) → led bytes root page ≡ to
        → is_right bytes root regions frames page ≡ is_led_to (Some own_mapping) to
    unfolding is_right
    right_by to e =
        ap (λ (o : Option Mapping). is_led_to o (led bytes root page)) is
        ∙ ap (is_led_to (Some own_mapping)) e

    pub right-unled : walked bytes root (4096 * page) ≡ None
        → false ≡ is_right bytes root regions frames page
    right-unled e =
        sym (right_by None
        (ap (led bytes root) (sym place) ∙ none (led bytes root (4096 * page / 4096)) e))
      where
        none : (to : Option Mapping) → leaf_at (4096 * page) to ≡ None → to ≡ None
        none None e = refl
        none (Some mapping) e = cc

    module _ (leaf : Leaf) (e : walked bytes root (4096 * page) ≡ Some leaf) where
      found : (mapping : Mapping) × (led bytes root (4096 * page / 4096) ≡ Some mapping)
          × IsIn (4096 * page) leaf mapping
      found = page_of_leaf (4096 * page) (led bytes root (4096 * page / 4096)) leaf e

      right_is : is_right bytes root regions frames page
          ≡ (own_mapping.frame == leaf.host / 4096
          && same_permission own_mapping.writable leaf.writable)
      right_is =
          right_by (Some found.0) (ap (led bytes root) (sym place) ∙ found.1)
          ∙ ap (λ (f : ℕ). own_mapping.frame == f
          && same_permission own_mapping.writable found.0.writable) (sym found.2.frame)
          ∙ ap (λ (w : Bool). own_mapping.frame == leaf.host / 4096
          && same_permission own_mapping.writable w) (sym found.2.writable)

      pub right-there : own_mapping.frame ≡ leaf.host / 4096
          → beq own_mapping.writable leaf.writable ≡ is_right bytes root regions frames page
      right-there same =
          let test : (own_mapping.frame == leaf.host / 4096) ≡ true = grind (arith, nat_tests) in
          same_is own_mapping.writable leaf.writable
          ∙ sym (right_is
          ∙ ap (λ b. b && same_permission own_mapping.writable leaf.writable) test)

      pub right-elsewhere : own_mapping.frame ≢ leaf.host / 4096
          → (own_mapping.frame == leaf.host / 4096) ≡ is_right bytes root regions frames page
      right-elsewhere differ =
          let test : (own_mapping.frame == leaf.host / 4096) ≡ false = grind (arith, nat_tests) in
          test ∙ sym (right_is
          ∙ ap (λ b. b && same_permission own_mapping.writable leaf.writable) test)

module _ (bytes : List ℕ) (root : ℕ) (regions : List Region) (frames : List ℕ) (first : ℕ) where
  pub right-zero : right_from bytes root regions frames first 0 ≡ 0
  unfolding right_from count_below
  right-zero = refl

  pub right-more : (n : ℕ) (b : Bool) → b ≡ is_right bytes root regions frames (first + n)
      → right_from bytes root regions frames first (n + 1)
      ≡ right_from bytes root regions frames first n + cond b 1 0
  unfolding right_from count_below
  right-more n b e =
      let next : n + 1 ≡ suc n = omega arith in
      let test = λ (i : ℕ). is_right bytes root regions frames (first + i) in
      ap (count_below (λ i. is_right bytes root regions frames (first + i))) next
      ∙ ap (λ b. cond b
      (count_below (λ i. is_right bytes root regions frames (first + i)) n + 1)
      (count_below (λ i. is_right bytes root regions frames (first + i)) n)) (sym e)
      ∙ by b (count_below (λ i. is_right bytes root regions frames (first + i)) n)
    where
      by : (b : Bool) (n : ℕ) → cond b (n + 1) n ≡ n + cond b 1 0
      by true n = refl
      by false n = omega arith

pub audited-is : (bytes : List ℕ) (root : ℕ) (regions : List Region) (frames : List ℕ)
    → audited bytes root regions frames ≡ sum_by (right_pages bytes root regions frames) regions
unfolding audited
audited-is bytes root regions frames = refl
