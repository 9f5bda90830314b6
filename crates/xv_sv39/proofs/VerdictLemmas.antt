-- The three ways of a verdict: Bare, no canonical address, and a walk.
use Rattle.std.proofs.Common.{◌≡◌, ℕ, zero, suc, ◌≤◌, Bool, true, false, cond, List, [], length}
use Rattle.std.proofs.Common.{Option}
use Rattle.std.proofs.Common.{Some, None, Err, refl, ap, ◌∙◌, arith}
use Rattle.xv_pte.specs.declared.access.Kind3.{Kind3}
use Rattle.xv_pte.specs.declared.access.View.{View}
use Rattle.xv_pte.specs.declared.entry.Kind.{Kind}
use Rattle.xv_pte.specs.declared.entry.Kind.TheVariants.{Broken, Pointer, Leaf}
use Rattle.xv_pte.specs.Entry.{kind_of}
use Rattle.xv_pte.specs.Sv39.{Reader, Address, PageFault, Path, verdict, end_verdict, path}
use Rattle.xv_pte.specs.Sv39.{through, read_entry, entry_address}
use Rattle.xv_pte.specs.Sv39.{entry_addresses, is_bare, is_canonical, root_page}
use Rattle.xv_sv39.specs.declared.tables.WalkFault.{WalkFault}
use Rattle.xv_sv39.specs.declared.tables.WalkFault.TheVariants.{Page, Entry}
use Rattle.xv_sv39.specs.Translate.{verdict_of, end_of}

-- a walk reads at most one entry a level
through_few : (on : ℕ → Path) (level below gpa entry : ℕ) (kind : Kind)
    → ((page : ℕ) → length (on page).addresses ≤ below)
    → length (through on level gpa entry kind).addresses ≤ suc below
through_few on level below gpa entry Broken few = omega arith
through_few on level below gpa entry (Pointer page) few = omega (arith, few page)
through_few on level below gpa entry Leaf few = omega arith

entry_few : (on : ℕ → Path) (level below gpa : ℕ) (entry : Option ℕ)
    → ((page : ℕ) → length (on page).addresses ≤ below)
    → length (read_entry on level gpa entry).addresses ≤ suc below
entry_few on level below gpa None few = omega arith
entry_few on level below gpa (Some entry) few =
    through_few on level below gpa entry (kind_of entry) few

path_few : (table : Reader) (va levels page : ℕ)
    → length (path table va levels page).addresses ≤ levels
unfolding path
path_few table va zero page = omega arith
path_few table va (suc level) page =
    entry_few (path table va level) level level (entry_address page level va)
    (table (entry_address page level va)) (path_few table va level)

module _ (table : Reader) (v : View) (va : ℕ) where
  few_by : (bare canonical : Bool)
      → length (cond bare [] (cond canonical (path table va 3 (root_page v)).addresses [])) ≤ 3
  few_by true canonical = omega arith
  few_by false true = path_few table va 3 (root_page v)
  few_by false false = omega arith

  addresses_few : length (entry_addresses table v va) ≤ 3
  unfolding entry_addresses
  addresses_few = few_by (is_bare v) (is_canonical va)

  pub few_at : (addresses : List ℕ) → addresses ≡ entry_addresses table v va
      → length addresses ≤ 3
  few_at addresses is = omega (arith, ap length is, addresses_few)

  pub bare_addresses : is_bare v ≡ true → entry_addresses table v va ≡ []
  unfolding entry_addresses
  bare_addresses bare =
      ap (λ b. cond b [] (cond (is_canonical va) (path table va 3 (root_page v)).addresses [])) bare

  pub faulty_addresses : is_bare v ≡ false → is_canonical va ≡ false
      → entry_addresses table v va ≡ []
  unfolding entry_addresses
  faulty_addresses bare canonical =
      ap (λ b. cond b [] (cond (is_canonical va) (path table va 3 (root_page v)).addresses [])) bare
      ∙ ap (λ b. cond b (path table va 3 (root_page v)).addresses []) canonical

  pub walk_addresses : is_bare v ≡ false → is_canonical va ≡ true
      → entry_addresses table v va ≡ (path table va 3 (root_page v)).addresses
  unfolding entry_addresses
  walk_addresses bare canonical =
      ap (λ b. cond b [] (cond (is_canonical va) (path table va 3 (root_page v)).addresses [])) bare
      ∙ ap (λ b. cond b (path table va 3 (root_page v)).addresses []) canonical

  module _ (access : Kind3) where
    pub bare_verdict : is_bare v ≡ true → verdict table v va access ≡ Address va
    unfolding verdict
    bare_verdict bare =
        ap (λ b. cond b (Address va)
        (cond (is_canonical va) (end_verdict v va access (path table va 3 (root_page v)).end)
        PageFault)) bare

    pub faulty_verdict : is_bare v ≡ false → is_canonical va ≡ false
        → verdict table v va access ≡ PageFault
    unfolding verdict
    faulty_verdict bare canonical =
        ap (λ b. cond b (Address va)
        (cond (is_canonical va) (end_verdict v va access (path table va 3 (root_page v)).end)
        PageFault)) bare
        ∙ ap (λ b. cond b (end_verdict v va access (path table va 3 (root_page v)).end) PageFault)
        canonical

    pub walk_verdict : is_bare v ≡ false → is_canonical va ≡ true
        → verdict table v va access ≡ end_verdict v va access (path table va 3 (root_page v)).end
    unfolding verdict
    walk_verdict bare canonical =
        ap (λ b. cond b (Address va)
        (cond (is_canonical va) (end_verdict v va access (path table va 3 (root_page v)).end)
        PageFault)) bare
        ∙ ap (λ b. cond b (end_verdict v va access (path table va 3 (root_page v)).end) PageFault)
        canonical

-- a walk that ends without a leaf has the verdict of its fault
pub fault_verdict : (v : View) (va : ℕ) (access : Kind3) (fault : WalkFault)
    → verdict_of (Err fault) ≡ end_verdict v va access (end_of (Err fault))
fault_verdict v va access Page = refl
fault_verdict v va access (Entry gpa) = refl
