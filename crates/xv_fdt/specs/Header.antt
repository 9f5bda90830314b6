-- The header of a flattened tree and its memory reservation block (Devicetree Specification v0.4,
-- sections 5.2 and 5.3).
use Rattle.std.specs.Prelude.{ℕ, zero, suc, ◌+◌, ◌-◌, ◌/◌, ◌%◌, ◌==◌, nat_le, Bool, false, ◌&&◌}
use Rattle.std.specs.Prelude.{◌||◌, if◌then◌else◌, List, [], ◌∷◌, length, take, drop, Result, Ok}
use Rattle.std.specs.Prelude.{Err}
use Rattle.byteorder.specs.Endian.{big_number}
use Rattle.xv_fdt.specs.declared.fault.FdtKind.{FdtKind}
use Rattle.xv_fdt.specs.declared.fault.FdtKind.TheVariants.{TooBig, Short, BadMagic, BadVersion}
use Rattle.xv_fdt.specs.declared.fault.FdtKind.TheVariants.{BadOffset}
use Rattle.xv_fdt.specs.declared.header.Layout.{Layout}
use Rattle.xv_fdt.specs.Fault.{Fault, ◌>>=◌}

-- the big-endian number in the 4 bytes from a place on
abbrev pub word : List ℕ → ℕ → ℕ
word bytes at = big_number 4 (drop at bytes)

-- the fields of the header (5.2)

abbrev pub magic : List ℕ → ℕ
magic bytes = word bytes 0

abbrev pub totalsize : List ℕ → ℕ
totalsize bytes = word bytes 4

abbrev pub off_dt_struct : List ℕ → ℕ
off_dt_struct bytes = word bytes 8

abbrev pub off_dt_strings : List ℕ → ℕ
off_dt_strings bytes = word bytes 12

abbrev pub off_mem_rsvmap : List ℕ → ℕ
off_mem_rsvmap bytes = word bytes 16

abbrev pub version : List ℕ → ℕ
version bytes = word bytes 20

abbrev pub last_comp_version : List ℕ → ℕ
last_comp_version bytes = word bytes 24

abbrev pub size_dt_strings : List ℕ → ℕ
size_dt_strings bytes = word bytes 32

abbrev pub size_dt_struct : List ℕ → ℕ
size_dt_struct bytes = word bytes 36

-- the memory reservation block (5.3): pairs of 8-byte numbers, of which the last is a pair of zeros

abbrev pub is_zero_pair : List ℕ → ℕ → Bool
is_zero_pair bytes at = big_number 8 (drop at bytes) == 0 && big_number 8 (drop (at + 8) bytes) == 0

-- one of so many pairs from a place on is a pair of zeros
unfoldable pub has_zero_pair : ℕ → List ℕ → ℕ → Bool
has_zero_pair zero bytes at = false
has_zero_pair (suc count) bytes at = is_zero_pair bytes at || has_zero_pair count bytes (at + 16)

-- how many whole pairs stand from a place on up to the end of the tree
abbrev pub pairs_from : List ℕ → ℕ → ℕ
pairs_from bytes at = (totalsize bytes - at) / 16

abbrev pub reservations_end : List ℕ → Bool
reservations_end bytes =
    has_zero_pair (pairs_from bytes (off_mem_rsvmap bytes)) bytes (off_mem_rsvmap bytes)

-- the blocks end before the tree does

abbrev pub structure_fits : List ℕ → Bool
structure_fits bytes = nat_le (off_dt_struct bytes + size_dt_struct bytes) (totalsize bytes)

abbrev pub strings_fit : List ℕ → Bool
strings_fit bytes = nat_le (off_dt_strings bytes + size_dt_strings bytes) (totalsize bytes)

-- what the header must say, in the order in which it is looked at
pub record Rule : Type 0 where
  pub holds : Bool
  pub kind : FdtKind
  pub offset : ℕ

abbrev pub rule : Bool → FdtKind → ℕ → Rule
rule holds kind offset = record { holds = holds; kind = kind; offset = offset }

-- of the file as a whole
abbrev pub file_rules : List ℕ → List Rule
file_rules bytes =
    rule (nat_le (length bytes) 1048576) TooBig 0
    ∷ rule (nat_le 40 (length bytes)) Short (length bytes)
    ∷ rule (magic bytes == 0xd00dfeed) BadMagic 0
    ∷ rule (nat_le 40 (totalsize bytes) && nat_le (totalsize bytes) (length bytes)) Short 4
    ∷ rule (nat_le 17 (version bytes)) BadVersion 20
    ∷ rule (nat_le (last_comp_version bytes) 17) BadVersion 24
    ∷ []

-- of its blocks
abbrev pub block_rules : List ℕ → List Rule
block_rules bytes =
    rule (off_dt_struct bytes % 4 == 0 && nat_le 40 (off_dt_struct bytes)
    && structure_fits bytes) BadOffset 8
    ∷ rule (size_dt_struct bytes % 4 == 0) BadOffset 36
    ∷ rule (strings_fit bytes) BadOffset 12
    ∷ rule (off_mem_rsvmap bytes % 8 == 0 && reservations_end bytes) BadOffset 16
    ∷ []

-- all of the rules are kept, or the fault of the first that isn't
unfoldable pub keeps : List Rule → Result (Unit {0}) Fault
keeps [] = Ok tt
keeps (r ∷ rs) = if r.holds then keeps rs else Err (r.kind, r.offset)

-- where the structure block and the strings block lie
abbrev pub layout_of : List ℕ → Layout
layout_of bytes = record {
  structure = off_dt_struct bytes;
  structure_size = size_dt_struct bytes;
  strings = off_dt_strings bytes;
  strings_size = size_dt_strings bytes;
}

unfoldable pub header : List ℕ → Result Layout Fault
header bytes =
    keeps (file_rules bytes) >>= λ _. (keeps (block_rules bytes) >>= λ _. Ok (layout_of bytes))

-- the bytes of the file up to the end of the structure block, so that a place in them is an offset
-- in the file
abbrev pub structure_block : List ℕ → Layout → List ℕ
structure_block bytes layout = take (layout.structure + layout.structure_size) bytes

abbrev pub strings_block : List ℕ → Layout → List ℕ
strings_block bytes layout = take layout.strings_size (drop layout.strings bytes)
