-- Two readers of which the second may lack words of the first: they give one verdict, or the second
-- lacks an entry. And what a verdict's address keeps of the virtual one.
use Rattle.std.proofs.Common.{◌≡◌, ◌⊎◌, inl, inr, ℕ, zero, suc, ◌+◌, ◌*◌, ◌%◌, ◌^◌, ◌&&◌, Bool}
use Rattle.std.proofs.Common.{true, false, cond, Option, Some, None, refl, sym, ap, ◌∙◌, subst}
use Rattle.std.proofs.Common.{arith}
use Rattle.std.proofs.Math.Nat.{mul-add-mod_self_right}
use Rattle.std.proofs.Math.Pow.{mod-mod-pow}
use Rattle.xv_pte.specs.declared.access.Kind3.{Kind3}
use Rattle.xv_pte.specs.declared.access.View.{View}
use Rattle.xv_pte.specs.declared.entry.Kind.{Kind}
use Rattle.xv_pte.specs.declared.entry.Kind.TheVariants.{Broken, Pointer, Leaf}
use Rattle.xv_pte.specs.Entry.{kind_of, page_number}
use Rattle.xv_pte.specs.Sv39.{Reader, Verdict, Address, PageFault, NoEntry, WalkEnd, Found, Fault}
use Rattle.xv_pte.specs.Sv39.{Absent, Path, verdict, end_verdict, root_page, is_bare, is_canonical}
use Rattle.xv_pte.specs.Sv39.{is_aligned, is_marked, is_permitted, path, through, read_entry}
use Rattle.xv_pte.specs.Sv39.{entry_address, leaf_address, page_bits}

-- where an entry may stand, both read one word, or the second reads none and lacks it
abbrev pub AgreeButFor : (Lacks : ℕ → Type 0) → (read other : Reader) → Type 0
AgreeButFor Lacks read other =
    (gpa : ℕ) → gpa % 8 ≡ 0 → (read gpa ≡ other gpa) ⊎ ((other gpa ≡ None) × Lacks gpa)

pub data VerdictIsOne (Lacks : ℕ → Type 0) (of_read of_other : Verdict) : Type 0 where
  Same : of_read ≡ of_other → VerdictIsOne Lacks of_read of_other
  Lacking : (gpa : ℕ) → of_other ≡ NoEntry gpa → Lacks gpa → VerdictIsOne Lacks of_read of_other

data WalkIsOne (Lacks : ℕ → Type 0) (of_read of_other : WalkEnd) : Type 0 where
  SameWalk : of_read ≡ of_other → WalkIsOne Lacks of_read of_other
  LackingEntry : (gpa : ℕ) → of_other ≡ Absent gpa → Lacks gpa → WalkIsOne Lacks of_read of_other

entry_aligned : (page level va : ℕ) → entry_address page level va % 8 ≡ 0
entry_aligned page level va = omega arith

module _ (Lacks : ℕ → Type 0) (next_read next_other : ℕ → Path) (next : (page : ℕ)
    → WalkIsOne Lacks (next_read page).end (next_other page).end) (level gpa : ℕ) where
  through_is_one : (entry : ℕ) (kind : Kind)
      → WalkIsOne Lacks (through next_read level gpa entry kind).end
      (through next_other level gpa entry kind).end
  through_is_one entry Broken = SameWalk refl
  through_is_one entry (Pointer page) = next page
  through_is_one entry Leaf = SameWalk refl

  entry_is_one : (word : Option ℕ) → WalkIsOne Lacks (read_entry next_read level gpa word).end
      (read_entry next_other level gpa word).end
  entry_is_one None = SameWalk refl
  entry_is_one (Some entry) = through_is_one entry (kind_of entry)

  words_are_one : (word other : Option ℕ) → (word ≡ other) ⊎ ((other ≡ None) × Lacks gpa)
      → WalkIsOne Lacks (read_entry next_read level gpa word).end
      (read_entry next_other level gpa other).end
  words_are_one word other (inl same) =
      subst (λ w. WalkIsOne Lacks (read_entry next_read level gpa w).end
      (read_entry next_other level gpa other).end) (sym same) (entry_is_one other)
  words_are_one word other (inr lacking) =
      LackingEntry gpa (ap (λ w. (read_entry next_other level gpa w).end) lacking.0) lacking.1

module _ (Lacks : ℕ → Type 0) (read other : Reader) (agree : AgreeButFor Lacks read other) where
  walk_is_one : (va levels page : ℕ)
      → WalkIsOne Lacks (path read va levels page).end (path other va levels page).end
  unfolding path
  walk_is_one va zero page = SameWalk refl
  walk_is_one va (suc level) page =
      let here = entry_address page level va in
      words_are_one Lacks (path read va level) (path other va level) (walk_is_one va level) level
      here (read here) (other here) (agree here (entry_aligned page level va))

  module _ (v : View) (va : ℕ) (access : Kind3) where
    end_is_one : (of_read of_other : WalkEnd) → WalkIsOne Lacks of_read of_other
        → VerdictIsOne Lacks (end_verdict v va access of_read) (end_verdict v va access of_other)
    end_is_one of_read of_other (SameWalk same) = Same (ap (end_verdict v va access) same)
    end_is_one of_read of_other (LackingEntry gpa absent lacks) =
        Lacking gpa (ap (end_verdict v va access) absent) lacks

    canonical_is_one : (canonical : Bool)
        → VerdictIsOne Lacks
        (cond canonical (end_verdict v va access (path read va 3 (root_page v)).end) PageFault)
        (cond canonical (end_verdict v va access (path other va 3 (root_page v)).end) PageFault)
    canonical_is_one true =
        end_is_one (path read va 3 (root_page v)).end (path other va 3 (root_page v)).end
        (walk_is_one va 3 (root_page v))
    canonical_is_one false = Same refl

    bare_is_one : (bare : Bool)
        → VerdictIsOne Lacks
        (cond bare (Address va)
        (cond (is_canonical va)
        (end_verdict v va access (path read va 3 (root_page v)).end) PageFault))
        (cond bare (Address va)
        (cond (is_canonical va)
        (end_verdict v va access (path other va 3 (root_page v)).end) PageFault))
    bare_is_one true = Same refl
    bare_is_one false = canonical_is_one (is_canonical va)

    pub verdict_is_one : VerdictIsOne Lacks (verdict read v va access) (verdict other v va access)
    unfolding verdict
    verdict_is_one = bare_is_one (is_bare v)

-- ---- an address has the offset of the virtual one in its page of 4,096 bytes

leaf_offset : (level entry va : ℕ) → leaf_address level entry va % 4096 ≡ va % 4096
leaf_offset level entry va =
    mul-add-mod_self_right (page_number entry) 4096 (va % 2 ^ page_bits level)
    ∙ (ap (λ n. va % 2 ^ n % 4096) (let e : 12 + 9 * level ≡ 9 * level + 12 = omega arith in e)
    ∙ mod-mod-pow va (9 * level) 12)

one_address : (a b : ℕ) → Address a ≡ Address b → a ≡ b
one_address a b e = cc

module _ (read : Reader) (v : View) (va : ℕ) (access : Kind3) (gpa : ℕ) where
  permitted_offset : (permitted : Bool) (level entry : ℕ)
      → cond permitted (Address (leaf_address level entry va)) PageFault ≡ Address gpa
      → gpa % 4096 ≡ va % 4096
  permitted_offset true level entry e =
      ap (λ n. n % 4096) (sym (one_address (leaf_address level entry va) gpa e))
      ∙ leaf_offset level entry va
  permitted_offset false level entry e = cc

  end_offset : (end : WalkEnd) → end_verdict v va access end ≡ Address gpa → gpa % 4096 ≡ va % 4096
  end_offset (Found level entry) e =
      permitted_offset (is_aligned level entry && is_marked access entry
      && is_permitted access v.user v entry) level entry e
  end_offset Fault e = cc
  end_offset (Absent at) e = cc

  canonical_offset : (canonical : Bool)
      → cond canonical (end_verdict v va access (path read va 3 (root_page v)).end) PageFault
      ≡ Address gpa → gpa % 4096 ≡ va % 4096
  canonical_offset true e = end_offset (path read va 3 (root_page v)).end e
  canonical_offset false e = cc

  bare_offset : (bare : Bool) → cond bare (Address va)
      (cond (is_canonical va) (end_verdict v va access (path read va 3 (root_page v)).end)
      PageFault) ≡ Address gpa → gpa % 4096 ≡ va % 4096
  bare_offset true e = ap (λ n. n % 4096) (sym (one_address va gpa e))
  bare_offset false e = canonical_offset (is_canonical va) e

  pub verdict_offset : verdict read v va access ≡ Address gpa → gpa % 4096 ≡ va % 4096
  unfolding verdict
  verdict_offset e = bare_offset (is_bare v) e
