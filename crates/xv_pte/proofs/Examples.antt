-- Worked rows of the definitions, computed by the checker.
use Rattle.std.proofs.Common.{◌≡◌, ℕ, ◌+◌, ◌*◌, ◌^◌, ◌==◌, Bool, true, false, if◌then◌else◌, List}
use Rattle.std.proofs.Common.{[], ◌∷◌, Some, None, refl}
use Rattle.xv_pte.specs.Entry.{kind_of}
use Rattle.xv_pte.specs.declared.access.Kind3.{Kind3}
use Rattle.xv_pte.specs.declared.access.Kind3.TheVariants.{Fetch, Load, Store}
use Rattle.xv_pte.specs.declared.access.View.{View}
use Rattle.xv_pte.specs.Sv39.{Reader, Verdict, Address, PageFault, NoEntry, path, verdict}
use Rattle.xv_pte.specs.Sv39.{entry_addresses}

-- a reader of so many words, each with its address
reader_of : List (ℕ × ℕ) → Reader
reader_of [] gpa = None
reader_of (word ∷ words) gpa = if word.0 == gpa then Some word.1 else reader_of words gpa

entry : ℕ → ℕ → ℕ
entry page flags = page * 2 ^ 10 + flags

sv39 : Bool → Bool → Bool → View
sv39 user sum mxr = record { satp = 8 * 2 ^ 60 + 0x80000; user = user; sum = sum; mxr = mxr }

supervisor : View
supervisor = sv39 false false false

-- entry 1 of the root, entry 1 of the next table, entry 3 of the last, and the offset 0x456
va : ℕ
va = 0x4020_3456

-- three levels, at whose end stands a leaf or whatever these flags are
over_pages : ℕ → Reader
over_pages flags =
    reader_of ((0x8000_0008, entry 0x80001 0x01) ∷ (0x8000_1008, entry 0x80002 0x01)
    ∷ (0x8000_2018, entry 0x80123 flags) ∷ [])

-- the root's entry alone
over_root : ℕ → ℕ → Reader
over_root page flags = reader_of ((0x8000_0008, entry page flags) ∷ [])

-- the root's pointer, and this entry of the next table
over_middle : ℕ → ℕ → Reader
over_middle page flags =
    reader_of ((0x8000_0008, entry 0x80001 0x01) ∷ (0x8000_1008, entry page flags) ∷ [])

-- LR is a load; SC and an AMO are stores
load_reserved : Kind3
load_reserved = Load

store_conditional : Kind3
store_conditional = Store

amo : Kind3
amo = Store

-- a row: a reader, a view, an address, an access, and what it gives
record Row : Type 0 where
  read : Reader
  view : View
  at : ℕ
  access : Kind3
  gives : Verdict

verdicts : List Row → List Verdict
verdicts [] = []
verdicts (r ∷ rs) = verdict r.read r.view r.at r.access ∷ verdicts rs

given : List Row → List Verdict
given [] = []
given (r ∷ rs) = r.gives ∷ given rs

row : Reader → View → Kind3 → Verdict → Row
row read view access gives =
    record { read = read; view = view; at = va; access = access; gives = gives }

-- with no entry at all
row_at : ℕ → Kind3 → Verdict → Row
row_at at access gives =
    record { read = reader_of []; view = supervisor; at = at; access = access; gives = gives }

rows : List Row
rows =
    -- Bare
    row (reader_of []) (record { satp = 0; user = false; sum = false; mxr = false })
    Store (Address va)
    -- pages of S: R W X by access, and the bits A and D
    ∷ row (over_pages 0x43) supervisor Load (Address 0x8012_3456)
    ∷ row (over_pages 0x43) supervisor Store PageFault
    ∷ row (over_pages 0x43) supervisor Fetch PageFault
    ∷ row (over_pages 0xC7) supervisor Store (Address 0x8012_3456)
    ∷ row (over_pages 0x47) supervisor Store PageFault
    ∷ row (over_pages 0x47) supervisor Load (Address 0x8012_3456)
    ∷ row (over_pages 0x87) supervisor Load PageFault
    ∷ row (over_pages 0x49) supervisor Fetch (Address 0x8012_3456)
    ∷ row (over_pages 0x49) supervisor Load PageFault
    ∷ row (over_pages 0x49) (sv39 false false true) Load (Address 0x8012_3456)
    ∷ row (over_pages 0xCF) (sv39 true false false) Load PageFault
    -- pages of U
    ∷ row (over_pages 0xDF) (sv39 true false false) Fetch (Address 0x8012_3456)
    ∷ row (over_pages 0xDF) (sv39 true false false) Store (Address 0x8012_3456)
    ∷ row (over_pages 0xDF) supervisor Load PageFault
    ∷ row (over_pages 0xDF) (sv39 false true false) Load (Address 0x8012_3456)
    ∷ row (over_pages 0xDF) (sv39 false true false) Store (Address 0x8012_3456)
    ∷ row (over_pages 0xDF) (sv39 false true false) Fetch PageFault
    -- entries over which no translation goes: without V, W without R, a reserved bit, a pointer at
    -- level 0, a pointer with A
    ∷ row (over_pages 0xCE) supervisor Load PageFault
    ∷ row (over_pages 0xC5) supervisor Load PageFault
    ∷ row (over_pages (0xCF + 2 ^ 54)) supervisor Load PageFault
    ∷ row (over_pages 0x01) supervisor Load PageFault
    ∷ row (over_root 0x80001 0x41) supervisor Load PageFault
    -- a leaf of 1 GiB, and one whose page number isn't a multiple of its pages
    ∷ row (over_root 0xC0000 0xCF) supervisor Load (Address 0xC020_3456)
    ∷ row (over_root 0xC0001 0xCF) supervisor Load PageFault
    -- an entry that has no memory; G of a pointer doesn't count
    ∷ row (reader_of []) supervisor Load (NoEntry 0x8000_0008)
    ∷ row (over_root 0x80001 0x01) supervisor Load (NoEntry 0x8000_1008)
    ∷ row (over_root 0x80001 0x21) supervisor Load (NoEntry 0x8000_1008)
    ∷ []

-- entries (4.3.1, 4.4.1)
rows_of_entries : List Row
rows_of_entries =
    -- a pointer with D, with U, and with both of the bits that are left to software
    row (over_root 0x80001 0x81) supervisor Load PageFault
    ∷ row (over_root 0x80001 0x11) supervisor Load PageFault
    ∷ row (over_root 0x80001 0x301) supervisor Load (NoEntry 0x8000_1008)
    ∷ row (over_middle 0x80002 0x11) supervisor Load PageFault
    -- a leaf with those bits, and with each bit from 54 on that no extension gives a meaning here:
    -- 63 is N, and 62:61 are PBMT
    ∷ row (over_pages 0x343) supervisor Load (Address 0x8012_3456)
    ∷ row (over_pages (0xCF + 2 ^ 60)) supervisor Load PageFault
    ∷ row (over_pages (0xCF + 2 ^ 61)) supervisor Load PageFault
    ∷ row (over_pages (0xCF + 2 ^ 62)) supervisor Load PageFault
    ∷ row (over_pages (0xCF + 2 ^ 63)) supervisor Load PageFault
    -- W without R, with X and without
    ∷ row (over_pages 0xC5) supervisor Store PageFault
    ∷ row (over_pages 0xCD) supervisor Store PageFault
    ∷ row (over_pages 0xCD) supervisor Fetch PageFault
    ∷ row (over_pages 0xCD) (sv39 false false true) Load PageFault
    -- leaves of 2 MiB and of 1 GiB, and where the page number isn't a multiple of their pages
    ∷ row (over_middle 0x80200 0xCF) supervisor Load (Address 0x8020_3456)
    ∷ row (over_middle 0x80200 0x8F) supervisor Load PageFault
    ∷ row (over_middle 0x80201 0xCF) supervisor Load PageFault
    ∷ row (over_middle 0x80300 0xCF) supervisor Store PageFault
    ∷ row (over_root 0x80000 0xCF) supervisor Fetch (Address 0x8020_3456)
    ∷ row (over_root 0x80200 0xCF) supervisor Fetch PageFault
    -- a leaf into a hole has an address; a table in a hole has no entry; the greatest page number
    ∷ row (over_pages 0xCF) supervisor Store (Address 0x8012_3456)
    ∷ row (over_middle 0x12345 0x01) supervisor Store (NoEntry 0x1234_5018)
    ∷ row (over_root 0xFFF_FFFF_FFFF 0x01) supervisor Fetch (NoEntry 0xFF_FFFF_FFFF_F008)
    ∷ row (over_root 0xFFF_FFFC_0000 0xCF) supervisor Load (Address 0xFF_FFFF_C020_3456)
    ∷ []

-- accesses (4.1.1, 4.3.1)
rows_of_accesses : List Row
rows_of_accesses =
    -- LR, SC and an AMO
    row (over_pages 0x43) supervisor load_reserved (Address 0x8012_3456)
    ∷ row (over_pages 0x49) supervisor load_reserved PageFault
    ∷ row (over_pages 0x49) (sv39 false false true) load_reserved (Address 0x8012_3456)
    ∷ row (over_pages 0xC3) supervisor store_conditional PageFault
    ∷ row (over_pages 0x47) supervisor store_conditional PageFault
    ∷ row (over_pages 0xC7) supervisor store_conditional (Address 0x8012_3456)
    ∷ row (over_pages 0xC3) supervisor amo PageFault
    ∷ row (over_pages 0x47) supervisor amo PageFault
    ∷ row (over_pages 0xC7) supervisor amo (Address 0x8012_3456)
    ∷ row (over_pages 0xD7) supervisor amo PageFault
    ∷ row (over_pages 0xC7) (sv39 true false false) amo PageFault
    -- a fetch in U: from a page of S, without X, without A
    ∷ row (over_pages 0xCF) (sv39 true false false) Fetch PageFault
    ∷ row (over_pages 0xD7) (sv39 true false false) Fetch PageFault
    ∷ row (over_pages 0x9F) (sv39 true false false) Fetch PageFault
    ∷ row (over_pages 0x59) (sv39 true false false) Fetch (Address 0x8012_3456)
    -- SUM in U gives and takes nothing
    ∷ row (over_pages 0xCF) (sv39 true true false) Load PageFault
    ∷ row (over_pages 0xCF) (sv39 true true false) Store PageFault
    ∷ row (over_pages 0xDF) (sv39 true true false) Store (Address 0x8012_3456)
    -- MXR is for loads alone, in U too
    ∷ row (over_pages 0xC9) (sv39 false false true) Store PageFault
    ∷ row (over_pages 0x59) (sv39 true false true) Load (Address 0x8012_3456)
    ∷ row (over_pages 0x59) (sv39 true false false) Load PageFault
    ∷ row (over_pages 0x43) (sv39 false false true) Fetch PageFault
    ∷ []

-- addresses: bits 63:39 equal bit 38, and an access is asked for an entry or is a page fault
rows_of_addresses : List Row
rows_of_addresses =
    row_at 0x3F_FFFF_FFFF Load (NoEntry 0x8000_07F8)
    ∷ row_at 0x40_0000_0000 Load PageFault
    ∷ row_at 0x40_0000_0000 Fetch PageFault
    ∷ row_at 0x40_0000_0000 Store PageFault
    ∷ row_at 0x7F_FFFF_FFFF Load PageFault
    ∷ row_at 0x8000_0000_0000_0000 Load PageFault
    ∷ row_at 0xFFFF_FF80_0000_0000 Load PageFault
    ∷ row_at 0xFFFF_FFBF_FFFF_FFFF Load PageFault
    ∷ row_at 0xFFFF_FFC0_0000_0000 Load (NoEntry 0x8000_0800)
    ∷ row_at 0xFFFF_FFFF_FFFF_FFFF Store (NoEntry 0x8000_0FF8)
    ∷ []

the_rows : verdicts rows ≡ given rows
unfolding verdict path kind_of verdicts given rows row supervisor sv39 va over_pages over_root
    reader_of entry
the_rows = refl

the_entries : verdicts rows_of_entries ≡ given rows_of_entries
unfolding verdict path kind_of verdicts given rows_of_entries row supervisor sv39 va over_pages
    over_root over_middle reader_of entry
the_entries = refl

the_accesses : verdicts rows_of_accesses ≡ given rows_of_accesses
unfolding verdict path kind_of verdicts given rows_of_accesses row load_reserved store_conditional
    amo supervisor sv39 va over_pages reader_of entry
the_accesses = refl

the_addresses : verdicts rows_of_addresses ≡ given rows_of_addresses
unfolding verdict path kind_of verdicts given rows_of_addresses row_at supervisor sv39 reader_of
the_addresses = refl

-- what is read, and no more: down to the leaf, to a leaf above, and to an entry that has no memory
all_levels_are_read : entry_addresses (over_pages 0x43) supervisor va
    ≡ (0x8000_0008 ∷ 0x8000_1008 ∷ 0x8000_2018 ∷ [])
unfolding entry_addresses path kind_of supervisor sv39 va over_pages reader_of entry
all_levels_are_read = refl

two_levels_are_read : entry_addresses (over_middle 0x80200 0xCF) supervisor va
    ≡ (0x8000_0008 ∷ 0x8000_1008 ∷ [])
unfolding entry_addresses path kind_of supervisor sv39 va over_middle reader_of entry
two_levels_are_read = refl

an_absent_entry_is_read : entry_addresses (over_root 0x80001 0x01) supervisor va
    ≡ (0x8000_0008 ∷ 0x8000_1008 ∷ [])
unfolding entry_addresses path kind_of supervisor sv39 va over_root reader_of entry
an_absent_entry_is_read = refl

nothing_is_read : entry_addresses (reader_of []) supervisor 0x40_0000_0000 ≡ []
unfolding entry_addresses supervisor sv39
nothing_is_read = refl
