-- What the words of entries are read as.
use Rattle.std.proofs.Common.{◌≡◌, ℕ, ◌+◌, ◌*◌, ◌%◌, ◌^◌, ◌<◌, ◌==◌, Bool, true, false}
use Rattle.std.proofs.Common.{if◌then◌else◌, refl, arith}
use Rattle.xv_pte.specs.declared.g_entry.GEntry.{GEntry}
use Rattle.xv_pte.specs.declared.g_entry.GEntry.TheVariants.{Pointer, Page, Nothing}
use Rattle.xv_pte.specs.declared.g_entry.Mapping.{Mapping}
use Rattle.xv_pte.specs.Entry.{page_number}
use Rattle.xv_pte.specs.GStage.{entry_of, pointer_word, leaf_word}

-- an entry by its low byte and its frame
entry_by : ℕ → ℕ → GEntry
entry_by low frame =
    if low == 0x01 then Pointer frame
    else if low == 0xDF then Page (record { frame = frame; writable = true })
    else if low == 0x5B then Page (record { frame = frame; writable = false })
    else Nothing

by_fields : (word low frame : ℕ) → word % 256 ≡ low → page_number word ≡ frame
    → entry_of word ≡ entry_by low frame
unfolding entry_of entry_by
by_fields word low frame e f = rw (e, f) refl

pub pointer_read : (table : ℕ) → table < 2 ^ 44 → entry_of (pointer_word table) ≡ Pointer table
unfolding entry_by
pointer_read table lt = by_fields (pointer_word table) 0x01 table (omega arith) (omega arith)

leaf_word_read : (frame : ℕ) (writable : Bool) → frame < 2 ^ 44
    → entry_of (1024 * frame + (if writable then 0xDF else 0x5B))
    ≡ Page (record { frame = frame; writable = writable })
unfolding entry_by
leaf_word_read frame true lt =
    by_fields (1024 * frame + 0xDF) 0xDF frame (omega arith) (omega arith)
leaf_word_read frame false lt =
    by_fields (1024 * frame + 0x5B) 0x5B frame (omega arith) (omega arith)

pub leaf_read : (mapping : Mapping) → mapping.frame < 2 ^ 44
    → entry_of (leaf_word mapping) ≡ Page mapping
leaf_read mapping lt = leaf_word_read mapping.frame mapping.writable lt
