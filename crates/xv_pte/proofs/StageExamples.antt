-- Worked rows of the walk of a guest physical address, computed by the checker.
use Rattle.std.proofs.Common.{◌≡◌, ℕ, zero, suc, ◌+◌, ◌*◌, ◌/◌, ◌%◌, ◌^◌, Bool, true, false}
use Rattle.std.proofs.Common.{List, [], ◌∷◌, ◌++◌, replicate, Option, Some, None, refl}
use Rattle.xv_pte.specs.declared.g_stage.Leaf.{Leaf}
use Rattle.xv_pte.specs.GStage.{entry_of, word_in, led, walked}
use Rattle.xv_mem.specs.Bytes.{word_at}

-- the lowest bytes of a number, the lowest first
low_bytes : ℕ → ℕ → List ℕ
low_bytes zero number = []
low_bytes (suc n) number = number % 256 ∷ low_bytes n (number / 256)

-- words, each after so many words of zeros
memory_of : List (ℕ × ℕ) → List ℕ
memory_of [] = []
memory_of (word ∷ words) =
    replicate (8 * word.0) 0 ++ low_bytes 8 word.1 ++ memory_of words

entry : ℕ → ℕ → ℕ
entry frame flags = frame * 2 ^ 10 + flags

-- the root table 0 in frames 0 to 3, with a middle table in frame 4 and a last one in frame 5
memory : List ℕ
memory =
    -- entries 1 to 4 of the root, and its last
    memory_of ((1, entry 4 0x01) ∷ (0, entry 512 0xDF) ∷ (0, entry 4 0x21) ∷ (0, entry 4 0x301)
    ∷ (2042, entry 4 0x01)
    -- entries 0 to 3 of the middle table
    ∷ (0, entry 5 0x01) ∷ (0, entry 0x200 0xDF) ∷ (0, entry 0x201 0xDF) ∷ (0, entry 0x400 0x5B)
    -- entries 0 to 5 of the last table
    ∷ (508, entry 0x80 0xDF) ∷ (0, entry 0x81 0x5B) ∷ (0, entry 0x82 0x01) ∷ (0, entry 0x83 0xCF)
    ∷ (0, entry 0x84 0x9F) ∷ (0, entry 0xFFF_FFFF_FFFF 0xDF) ∷ [])

-- a row: an address, and where it leads
record Row : Type 0 where
  gpa : ℕ
  leads : Option Leaf

walks : List Row → List (Option Leaf)
walks [] = []
walks (r ∷ rs) = walked memory 0 r.gpa ∷ walks rs

given : List Row → List (Option Leaf)
given [] = []
given (r ∷ rs) = r.leads ∷ given rs

leads_to : ℕ → ℕ → Bool → Row
leads_to gpa host writable = record {
  gpa = gpa;
  leads = Some (record { host = host; writable = writable });
}

leads_nowhere : ℕ → Row
leads_nowhere gpa = record { gpa = gpa; leads = None }

rows : List Row
rows =
    -- leaves of a page: R W X, and R X
    leads_to 0x4000_0456 0x8_0456 true
    ∷ leads_to 0x4000_1FFF 0x8_1FFF false
    ∷ leads_to 0x4000_5008 0xFF_FFFF_FFFF_F008 true
    -- in a last table a pointer, a leaf without U, one without A; no entry
    ∷ leads_nowhere 0x4000_2000
    ∷ leads_nowhere 0x4000_3000
    ∷ leads_nowhere 0x4000_4000
    ∷ leads_nowhere 0x4000_6000
    -- leaves of 512 pages, and one whose frame number isn't a multiple of 512
    ∷ leads_to 0x4020_3456 0x20_3456 true
    ∷ leads_to 0x407F_FFFF 0x5F_FFFF false
    ∷ leads_nowhere 0x4040_0000
    ∷ leads_nowhere 0x4080_0000
    -- in the root no entry, a leaf, a pointer with G, one with the bits that software may use
    ∷ leads_nowhere 0x0000_0000
    ∷ leads_nowhere 0x8000_0000
    ∷ leads_nowhere 0xC000_0000
    ∷ leads_to 0x1_0000_0456 0x8_0456 true
    -- the last entry of the root, and addresses that have more than 41 bits
    ∷ leads_to 0x1FF_C000_1008 0x8_1008 false
    ∷ leads_nowhere 0x200_4000_0456
    ∷ leads_nowhere 0x8000_0000_4000_0456
    ∷ []

walks_of_rows : walks rows ≡ given rows
unfolding walks rows given led entry_of word_in word_at memory memory_of low_bytes entry leads_to
    leads_nowhere
walks_of_rows = refl
