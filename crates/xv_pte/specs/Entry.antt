-- The fields of an entry of a page table (Privileged Architecture 20211203, section 4.4.1).
-- An entry is a number below 2^64.
use Rattle.std.specs.Prelude.{ℕ, ◌<◌, ◌/◌, ◌%◌, ◌^◌, ◌==◌, Bool, not, ◌&&◌, ◌||◌, if◌then◌else◌}
use Rattle.xv_base.specs.Bits.{has_bit}
use Rattle.xv_pte.specs.declared.entry.Kind.{Kind}
use Rattle.xv_pte.specs.declared.entry.Kind.TheVariants.{Broken, Pointer, Leaf}

abbrev pub is_valid : ℕ → Bool
is_valid entry = has_bit 0 entry

abbrev pub is_readable : ℕ → Bool
is_readable entry = has_bit 1 entry

abbrev pub is_writable : ℕ → Bool
is_writable entry = has_bit 2 entry

abbrev pub is_executable : ℕ → Bool
is_executable entry = has_bit 3 entry

abbrev pub is_users : ℕ → Bool
is_users entry = has_bit 4 entry

abbrev pub is_accessed : ℕ → Bool
is_accessed entry = has_bit 6 entry

abbrev pub is_dirty : ℕ → Bool
is_dirty entry = has_bit 7 entry

-- the physical page number, bits 53:10
abbrev pub page_number : ℕ → ℕ
page_number entry = entry / 2 ^ 10 % 2 ^ 44

-- bits 63:54, which must be 0
abbrev pub reserved_bits : ℕ → ℕ
reserved_bits entry = entry / 2 ^ 54

-- an entry without V, with a reserved bit, or that may be written and not read
abbrev pub is_broken : ℕ → Bool
is_broken entry = not (is_valid entry) || not (reserved_bits entry == 0)
    || (is_writable entry && not (is_readable entry))

-- R, W and X all 0
abbrev pub is_pointer : ℕ → Bool
is_pointer entry = not (is_readable entry) && not (is_writable entry) && not (is_executable entry)

-- a pointer whose A, D and U, which are reserved there, are 0
abbrev pub pointer : ℕ → Kind
pointer entry = if is_accessed entry || is_dirty entry
    || is_users entry then Broken else Pointer (page_number entry)

unfoldable pub kind_of : ℕ → Kind
kind_of entry = if is_broken entry then Broken else if is_pointer entry then pointer entry else Leaf

-- the page number that a pointer names
abbrev pub NamesPage : Kind → Type 0
NamesPage Broken = Unit {0}
NamesPage (Pointer page) = page < 2 ^ 44
NamesPage Leaf = Unit {0}
