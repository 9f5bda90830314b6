-- A walk, level by level: what was read so far, continued by what is left, is the whole path.
use Rattle.std.proofs.Common.{◌≡◌, ℕ, suc, ◌+◌, ◌-◌, ◌<◌, ◌≤◌, List, [], ◌∷◌, ◌++◌, length, Option}
use Rattle.std.proofs.Common.{Some, sym, ap, ◌∙◌, arith}
use Rattle.std.proofs.lemmas.List.{append_assoc, append-nil, length-append}
use Rattle.xv_pte.specs.declared.entry.Kind.{Kind}
use Rattle.xv_pte.specs.declared.entry.Kind.TheVariants.{Pointer}
use Rattle.xv_pte.specs.Entry.{kind_of}
use Rattle.xv_pte.specs.Sv39.{Reader, Path, WalkEnd, Fault, path, through, read_entry}
use Rattle.xv_pte.specs.Sv39.{entry_address}
use Rattle.xv_pte.proofs.ReadersAgree.{path_suc}

abbrev with_addresses : List ℕ → WalkEnd → Path
with_addresses addresses end = record { addresses = addresses; end = end }

-- a path, continued from addresses that were read before
abbrev pub behind : List ℕ → Path → Path
behind so_far p = record { addresses = so_far ++ p.addresses; end = p.end }

-- the path from the root is that from a page, with so many levels left, behind these addresses
pub record IsOnTheWay (table : Reader) (va root level page : ℕ) (so_far : List ℕ) : Type 0 where
  pub whole : behind so_far (path table va level page) ≡ path table va 3 root
  pub count : length so_far + level ≡ 3

pub way_starts : (table : Reader) (va root : ℕ) (so_far : List ℕ) → so_far ≡ []
    → IsOnTheWay table va root 3 root so_far
way_starts table va root so_far none = record {
  whole = ap (λ list. behind list (path table va 3 root)) none;
  count = ap (λ list. length list + 3) none;
}

module _ (table : Reader) (va root level page gpa : ℕ) (so_far : List ℕ) (some : 0 < level)
    (at : gpa ≡ entry_address page (level - 1) va)
    (way : IsOnTheWay table va root level page so_far) where
  level_is : level ≡ suc (level - 1)
  level_is = omega (arith, some)

  -- what the word there makes of the path
  pub reads : (word : Option ℕ) → word ≡ table gpa
      → behind so_far (read_entry (path table va (level - 1)) (level - 1) gpa word)
      ≡ path table va 3 root
  reads word is =
      ap (λ w. behind so_far (read_entry (path table va (level - 1)) (level - 1) gpa w)) is
      ∙ (ap (λ a. behind so_far (read_entry (path table va (level - 1)) (level - 1) a (table a))) at
      ∙ (ap (behind so_far) (sym (path_suc table va (level - 1) page))
      ∙ (ap (λ n. behind so_far (path table va n page)) (sym level_is)
      ∙ way.whole)))

  -- and what the entry's kind makes of it
  pub reads_kind : (entry : ℕ) (kind : Kind) → Some entry ≡ table gpa → kind ≡ kind_of entry
      → behind so_far (through (path table va (level - 1)) (level - 1) gpa entry kind)
      ≡ path table va 3 root
  reads_kind entry kind is is_kind =
      ap (λ k. behind so_far (through (path table va (level - 1)) (level - 1) gpa entry k)) is_kind
      ∙ reads (Some entry) is

  -- a pointer leads on
  pub way_goes_on : (entry next : ℕ) → Some entry ≡ table gpa → Pointer next ≡ kind_of entry
      → IsOnTheWay table va root (level - 1) next (so_far ++ gpa ∷ [])
  way_goes_on entry next is is_kind = record {
    whole =
        ap (λ list. with_addresses list (path table va (level - 1) next).end)
        (append_assoc so_far (gpa ∷ []) (path table va (level - 1) next).addresses)
        ∙ reads_kind entry (Pointer next) is is_kind;
    count = omega (arith, length-append so_far (gpa ∷ []), way.count, some);
  }

-- no level is left
module _ (table : Reader) (va root level page : ℕ) (so_far : List ℕ) (none : level ≤ 0)
    (way : IsOnTheWay table va root level page so_far) where
  level_none : level ≡ 0
  level_none = omega (arith, none)

  -- a pointer at level 0 is a fault
  whole_at_zero : behind so_far (path table va 0 page) ≡ path table va 3 root
  whole_at_zero = ap (λ n. behind so_far (path table va n page)) (sym level_none) ∙ way.whole

  pub ends_in_fault : (path table va 3 root).end ≡ Fault
  unfolding path
  ends_in_fault = sym (ap (λ p. p.end) whole_at_zero)

  pub ends_addresses : so_far ≡ (path table va 3 root).addresses
  unfolding path
  ends_addresses = sym (append-nil so_far) ∙ ap (λ p. p.addresses) whole_at_zero
