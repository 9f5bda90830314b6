-- Readers that give one word at each address that is read give one path, and so one verdict.
use Rattle.std.proofs.Common.{◌≡◌, ℕ, zero, suc, Bool, true, false, cond, List, [], ◌∷◌, Option}
use Rattle.std.proofs.Common.{Some, None, refl, sym, ap, ◌∙◌, subst}
use Rattle.xv_pte.specs.Sv39.{Address, PageFault}
use Rattle.xv_pte.specs.declared.entry.Kind.{Kind}
use Rattle.xv_pte.specs.declared.entry.Kind.TheVariants.{Broken, Pointer, Leaf}
use Rattle.xv_pte.specs.Entry.{kind_of}
use Rattle.xv_pte.specs.declared.access.Kind3.{Kind3}
use Rattle.xv_pte.specs.declared.access.View.{View}
use Rattle.xv_pte.specs.Sv39.{Reader, Path, verdict, entry_addresses, end_verdict, root_page}
use Rattle.xv_pte.specs.Sv39.{is_bare, is_canonical, path, through, read_entry, entry_address}

-- the readers give one word at each of the addresses
abbrev pub Agree : Reader → Reader → List ℕ → Type 0
Agree read other [] = Unit {0}
Agree read other (gpa ∷ others) = (read gpa ≡ other gpa) × Agree read other others

-- one level more
pub path_suc : (read : Reader) (va level page : ℕ)
    → path read va (suc level) page ≡ read_entry (path read va level) level
    (entry_address page level va) (read (entry_address page level va))
unfolding path
path_suc read va level page = refl

-- the path from the table that a pointer names, behind the pointer's own address
abbrev behind : ℕ → Path → Path
behind gpa p = record { addresses = gpa ∷ p.addresses; end = p.end }

module _ (read other : Reader) (va : ℕ) where
  through_same : (level gpa entry : ℕ) (kind : Kind)
      → ((page : ℕ) → Agree read other (path read va level page).addresses
      → path read va level page ≡ path other va level page)
      → Agree read other (through (path read va level) level gpa entry kind).addresses
      → through (path read va level) level gpa entry kind
      ≡ through (path other va level) level gpa entry kind
  through_same level gpa entry Broken below agree = refl
  through_same level gpa entry (Pointer page) below agree = ap (behind gpa) (below page agree.1)
  through_same level gpa entry Leaf below agree = refl

  entry_same : (level gpa : ℕ) (word : Option ℕ)
      → ((page : ℕ) → Agree read other (path read va level page).addresses
      → path read va level page ≡ path other va level page)
      → Agree read other (read_entry (path read va level) level gpa word).addresses
      → read_entry (path read va level) level gpa word
      ≡ read_entry (path other va level) level gpa word
  entry_same level gpa None below agree = refl
  entry_same level gpa (Some entry) below agree =
      through_same level gpa entry (kind_of entry) below agree

  -- each entry is read at its own address first
  first_agrees : (level gpa : ℕ) (word : Option ℕ)
      → Agree read other (read_entry (path read va level) level gpa word).addresses
      → read gpa ≡ other gpa
  first_agrees level gpa None agree = agree.0
  first_agrees level gpa (Some entry) agree = first_of_kind (kind_of entry) agree
    where
      first_of_kind : (kind : Kind)
          → Agree read other (through (path read va level) level gpa entry kind).addresses
          → read gpa ≡ other gpa
      first_of_kind Broken agree = agree.0
      first_of_kind (Pointer page) agree = agree.0
      first_of_kind Leaf agree = agree.0

  path_same : (levels page : ℕ) → Agree read other (path read va levels page).addresses
      → path read va levels page ≡ path other va levels page
  unfolding path
  path_same zero page agree = refl
  path_same (suc level) page agree =
      let here = entry_address page level va in
      let both : Agree read other
      (read_entry (path read va level) level here (read here)).addresses =
      subst (λ p. Agree read other p.addresses) (path_suc read va level page) agree in
      path_suc read va level page
      ∙ (entry_same level here (read here) (path_same level) both
      ∙ (ap (read_entry (path other va level) level here) (first_agrees level here (read here) both)
      ∙ sym (path_suc other va level page)))

module _ (read other : Reader) (v : View) (va : ℕ) (access : Kind3) where
  canonical_same : (canonical : Bool)
      → Agree read other (cond canonical (path read va 3 (root_page v)).addresses [])
      → cond canonical (end_verdict v va access (path read va 3 (root_page v)).end) PageFault
      ≡ cond canonical (end_verdict v va access (path other va 3 (root_page v)).end) PageFault
  canonical_same true agree =
      ap (λ p. end_verdict v va access p.end) (path_same read other va 3 (root_page v) agree)
  canonical_same false agree = refl

  bare_same : (bare : Bool) → Agree read other
      (cond bare [] (cond (is_canonical va) (path read va 3 (root_page v)).addresses []))
      → cond bare (Address va)
      (cond (is_canonical va)
      (end_verdict v va access (path read va 3 (root_page v)).end) PageFault)
      ≡ cond bare (Address va)
      (cond (is_canonical va)
      (end_verdict v va access (path other va 3 (root_page v)).end) PageFault)
  bare_same true agree = refl
  bare_same false agree = canonical_same (is_canonical va) agree

  pub verdict_same : Agree read other (entry_addresses read v va)
      → verdict read v va access ≡ verdict other v va access
  unfolding verdict entry_addresses
  verdict_same agree = bare_same (is_bare v) agree
