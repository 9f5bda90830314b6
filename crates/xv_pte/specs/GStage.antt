-- The G stage: what becomes of a guest physical address (Privileged Architecture 20211203, sections
-- 8.5.1, Sv39x4, and 4.4.1). A frame and a page are 4,096 bytes, and go by their numbers. A root
-- table is the four frames from frame 4 * root on; every other table is one frame. A slot is the
-- place of an entry: slot s of host memory is its 8 bytes from address 8 * s on.
use Rattle.std.specs.Prelude.{◌≡◌, ℕ, ◌+◌, ◌*◌, ◌/◌, ◌%◌, ◌^◌, ◌<◌, ◌≤◌, ◌==◌, nat_lt, true, false}
use Rattle.std.specs.Prelude.{if◌then◌else◌, List, length, Option, Some, None}
use Rattle.xv_mem.specs.Bytes.{word_at, range}
use Rattle.xv_pte.specs.declared.g_entry.GEntry.{GEntry}
use Rattle.xv_pte.specs.declared.g_entry.GEntry.TheVariants.{Pointer, Page, Nothing}
use Rattle.xv_pte.specs.declared.g_entry.Mapping.{Mapping}
use Rattle.xv_pte.specs.declared.g_stage.Leaf.{Leaf}
use Rattle.xv_pte.specs.Entry.{page_number}

-- ---- entries

-- by the low byte: V is a pointer; V R W X U A D a leaf; V R X U A a leaf that isn't writable.
-- Whatever else it is, it leads nowhere
unfoldable pub entry_of : ℕ → GEntry
entry_of word =
    if word % 256 == 0x01 then Pointer (page_number word)
    else if word % 256 == 0xDF then
    Page (record { frame = page_number word; writable = true })
    else if word % 256 == 0x5B then
    Page (record { frame = page_number word; writable = false })
    else Nothing

-- the number of the frame that an entry names, bits 53:10
abbrev pub NamesFrame : GEntry → Type 0
NamesFrame (Pointer table) = table < 2 ^ 44
NamesFrame (Page mapping) = mapping.frame < 2 ^ 44
NamesFrame Nothing = Unit {0}

-- the words that such entries are written as
abbrev pub pointer_word : ℕ → ℕ
pointer_word table = 1024 * table + 0x01

abbrev pub leaf_word : Mapping → ℕ
leaf_word mapping = 1024 * mapping.frame + (if mapping.writable then 0xDF else 0x5B)

-- the little-endian word in a slot of host memory
unfoldable pub word_in : List ℕ → ℕ → ℕ
word_in bytes slot = word_at 8 bytes (8 * slot)

abbrev pub entry_in : List ℕ → ℕ → GEntry
entry_in bytes slot = entry_of (word_in bytes slot)

-- ---- the slots that the walk of a page reads. Bits 40:30, 29:21 and 20:12 of an address are bits
-- 28:18, 17:9 and 8:0 of the number of its page

abbrev pub root_slot : ℕ → ℕ → ℕ
root_slot root page = 2048 * root + page / 2 ^ 18

abbrev pub middle_slot : ℕ → ℕ → ℕ
middle_slot table page = 512 * table + page / 2 ^ 9 % 512

abbrev pub last_slot : ℕ → ℕ → ℕ
last_slot table page = 512 * table + page % 512

-- ---- the walk

-- at an entry of a last table
abbrev pub at_last : GEntry → Option Mapping
at_last (Pointer table) = None
at_last (Page mapping) = Some mapping
at_last Nothing = None

-- at a leaf of 512 pages: its frame number is a multiple of 512
abbrev pub in_block : ℕ → Mapping → Option Mapping
in_block page mapping =
    if mapping.frame % 512 == 0
    then Some (record { frame = mapping.frame + page % 512; writable = mapping.writable })
    else None

-- at an entry of a middle table
abbrev pub at_middle : List ℕ → ℕ → GEntry → Option Mapping
at_middle bytes page (Pointer table) = at_last (entry_in bytes (last_slot table page))
at_middle bytes page (Page mapping) = in_block page mapping
at_middle bytes page Nothing = None

-- at an entry of the root table, where no leaf leads anywhere
abbrev pub at_root : List ℕ → ℕ → GEntry → Option Mapping
at_root bytes page (Pointer table) =
    at_middle bytes page (entry_in bytes (middle_slot table page))
at_root bytes page (Page mapping) = None
at_root bytes page Nothing = None

-- the frame that a root leads a page to, of the 2^29 pages below address 2^41
unfoldable pub led : List ℕ → ℕ → ℕ → Option Mapping
led bytes root page =
    if nat_lt page (2 ^ 29) then at_root bytes page (entry_in bytes (root_slot root page))
    else None

-- the byte of the frame that is the address's in its page
abbrev pub leaf_at : ℕ → Option Mapping → Option Leaf
leaf_at gpa None = None
leaf_at gpa (Some mapping) =
    Some (record { host = 4096 * mapping.frame + gpa % 4096; writable = mapping.writable })

-- the host address that a root leads a guest physical address to, and whether it is writable
abbrev pub walked : List ℕ → ℕ → ℕ → Option Leaf
walked bytes root gpa = leaf_at gpa (led bytes root (gpa / 4096))

-- a leaf, so many bytes on
abbrev pub offset_by : ℕ → Option Leaf → Option Leaf
offset_by offset None = None
offset_by offset (Some leaf) =
    Some (record { host = leaf.host + offset; writable = leaf.writable })

-- ---- the tables

-- the tables below a root: those that its pointers name, and those that the pointers there name
pub data IsTableOf (bytes : List ℕ) (root : ℕ) : ℕ → Type 0 where
  Middle : (i table : ℕ) → i < 2048 → entry_in bytes (2048 * root + i) ≡ Pointer table
      → IsTableOf bytes root table
  Last : (i middle j table : ℕ) → i < 2048 → entry_in bytes (2048 * root + i) ≡ Pointer middle
      → j < 512 → entry_in bytes (512 * middle + j) ≡ Pointer table → IsTableOf bytes root table

-- the root and its tables lie in the memory
pub record HasTables (bytes : List ℕ) (root : ℕ) : Type 0 where
  pub root_inside : 16384 * root + 16384 ≤ length bytes
  pub tables_inside : (table : ℕ) → IsTableOf bytes root table → 4096 * table + 4096 ≤ length bytes

-- ---- memories that agree

-- on the words of a frame
abbrev pub SameWords : (old new : List ℕ) → ℕ → Type 0
SameWords old new frame =
    (i : ℕ) → i < 512 → word_in new (512 * frame + i) ≡ word_in old (512 * frame + i)

-- on the words of a root and of its tables
pub record SameTables (old new : List ℕ) (root : ℕ) : Type 0 where
  pub root_same : (i : ℕ) → i < 2048
      → word_in new (2048 * root + i) ≡ word_in old (2048 * root + i)
  pub tables_same : (table : ℕ) → IsTableOf old root table → SameWords old new table

-- the bytes of a frame
abbrev pub frame_bytes : List ℕ → ℕ → List ℕ
frame_bytes bytes frame = range bytes (4096 * frame) 4096

-- on the frames of a root and of its tables
pub record SameFrames (old new : List ℕ) (root : ℕ) : Type 0 where
  pub root_frames : (frame : ℕ) → frame / 4 ≡ root → frame_bytes new frame ≡ frame_bytes old frame
  pub table_frames : (frame : ℕ) → IsTableOf old root frame
      → frame_bytes new frame ≡ frame_bytes old frame
