-- Sv39: what becomes of a virtual address (Privileged Architecture 20211203, sections 4.3.2 and
-- 4.4). A reader gives the little-endian word of 8 bytes at a guest physical address, or none where
-- there is no memory.
use Rattle.std.specs.Prelude.{ℕ, zero, suc, ◌+◌, ◌-◌, ◌*◌, ◌/◌, ◌%◌, ◌^◌, ◌==◌, Bool, true, false}
use Rattle.std.specs.Prelude.{not, ◌&&◌, ◌||◌, if◌then◌else◌, List, [], ◌∷◌, Option, Some, None}
use Rattle.xv_pte.specs.declared.access.Kind3.{Kind3}
use Rattle.xv_pte.specs.declared.access.Kind3.TheVariants.{Fetch, Load, Store}
use Rattle.xv_pte.specs.declared.access.View.{View}
use Rattle.xv_pte.specs.declared.entry.Kind.{Kind}
use Rattle.xv_pte.specs.declared.entry.Kind.TheVariants.{Broken, Pointer, Leaf}
use Rattle.xv_pte.specs.Entry.{kind_of, page_number, is_readable, is_writable, is_executable}
use Rattle.xv_pte.specs.Entry.{is_users, is_accessed, is_dirty}

abbrev pub Reader : Type 0
Reader = ℕ → Option ℕ

pub data Verdict : Type 0 where
  -- the guest physical address
  Address : (gpa : ℕ) → Verdict
  PageFault : Verdict
  -- the entry that is needed there has no memory
  NoEntry : (gpa : ℕ) → Verdict

-- ---- the walk, from level 2 down to level 0

-- the bytes of a page that stand in a leaf of this level are 2^(12 + 9 * level)
abbrev pub page_bits : ℕ → ℕ
page_bits level = 12 + 9 * level

-- where the entry for a virtual address stands in the table of this page number and level
abbrev pub entry_address : ℕ → ℕ → ℕ → ℕ
entry_address page level va = page * 4096 + 8 * (va / 2 ^ page_bits level % 2 ^ 9)

-- where a walk ends
pub data WalkEnd : Type 0 where
  Found : (level : ℕ) → (entry : ℕ) → WalkEnd
  Fault : WalkEnd
  Absent : (gpa : ℕ) → WalkEnd

-- a walk: the addresses of the entries that it reads, in order, and its end
pub record Path : Type 0 where
  pub addresses : List ℕ
  pub end : WalkEnd

-- what an entry makes of the path; on is the path from the table that a pointer names
abbrev pub through : (ℕ → Path) → ℕ → ℕ → ℕ → Kind → Path
through on level gpa entry Broken = record { addresses = gpa ∷ []; end = Fault }
through on level gpa entry (Pointer page) =
    record { addresses = gpa ∷ (on page).addresses; end = (on page).end }
through on level gpa entry Leaf = record { addresses = gpa ∷ []; end = Found level entry }

abbrev pub read_entry : (ℕ → Path) → ℕ → ℕ → Option ℕ → Path
read_entry on level gpa None = record { addresses = gpa ∷ []; end = Absent gpa }
read_entry on level gpa (Some entry) = through on level gpa entry (kind_of entry)

-- the walk of a virtual address over so many levels, from the table of this page number on. No
-- level is below level 0: a pointer there is a fault
unfoldable pub path : Reader → ℕ → ℕ → ℕ → Path
path read va zero page = record { addresses = []; end = Fault }
path read va (suc level) page =
    read_entry (path read va level) level (entry_address page level va)
    (read (entry_address page level va))

-- ---- permission

-- what an access in U (true) or S needs of a leaf (4.3.1, 4.4.1)
abbrev pub is_permitted : Kind3 → Bool → View → ℕ → Bool
is_permitted Fetch true v entry = is_executable entry && is_users entry
is_permitted Fetch false v entry = is_executable entry && not (is_users entry)
is_permitted Load true v entry =
    (is_readable entry || (v.mxr && is_executable entry)) && is_users entry
is_permitted Load false v entry =
    (is_readable entry || (v.mxr && is_executable entry)) && (not (is_users entry) || v.sum)
is_permitted Store true v entry = is_writable entry && is_users entry
is_permitted Store false v entry = is_writable entry && (not (is_users entry) || v.sum)

-- the bits that the hart would set, and doesn't
abbrev pub is_marked : Kind3 → ℕ → Bool
is_marked Fetch entry = is_accessed entry
is_marked Load entry = is_accessed entry
is_marked Store entry = is_accessed entry && is_dirty entry

-- the page number of a leaf is a multiple of the pages that it maps
abbrev pub is_aligned : ℕ → ℕ → Bool
is_aligned level entry = page_number entry % 2 ^ (9 * level) == 0

-- ---- the verdict

-- the page of the leaf, and the offset in it
abbrev pub leaf_address : ℕ → ℕ → ℕ → ℕ
leaf_address level entry va = page_number entry * 4096 + va % 2 ^ page_bits level

-- at a walk's end
abbrev pub end_verdict : View → ℕ → Kind3 → WalkEnd → Verdict
end_verdict v va access Fault = PageFault
end_verdict v va access (Absent gpa) = NoEntry gpa
end_verdict v va access (Found level entry) =
    if is_aligned level entry && is_marked access entry && is_permitted access v.user v entry
    then Address (leaf_address level entry va)
    else PageFault

-- satp: MODE 63:60, of which 0 is Bare and else is Sv39, and the page number of the root table,
-- 43:0
abbrev pub is_bare : View → Bool
is_bare v = v.satp / 2 ^ 60 == 0

abbrev pub root_page : View → ℕ
root_page v = v.satp % 2 ^ 44

-- bits 63:39 equal bit 38
abbrev pub is_canonical : ℕ → Bool
is_canonical va = va / 2 ^ 38 == 0 || va / 2 ^ 38 == 2 ^ 26 - 1

unfoldable pub verdict : Reader → View → ℕ → Kind3 → Verdict
verdict read v va access =
    if is_bare v then Address va
    else if is_canonical va then end_verdict v va access (path read va 3 (root_page v)).end
    else PageFault

-- the addresses of the entries that are read, in order
unfoldable pub entry_addresses : Reader → View → ℕ → List ℕ
entry_addresses read v va =
    if is_bare v then [] else if is_canonical va
    then (path read va 3 (root_page v)).addresses else []
