-- Host memory as a guest reaches it: through the tables of a root table in that memory.
use Rattle.std.specs.Prelude.{ℕ, ◌≡◌, ◌≢◌, ◌+◌, ◌*◌, ◌/◌, ◌≤◌, ◌==◌, List, length, get_or}
use Rattle.std.specs.Prelude.{Some, option_map}
use Rattle.xv_mem.specs.Bytes.{word_at, put_word}
use Rattle.xv_pte.specs.declared.g_stage.Leaf.{Leaf}
use Rattle.xv_pte.specs.GStage.{walked, HasTables, IsTableOf}
use Rattle.xv_pte.specs.Sv39.{Reader}
use Rattle.xv_step.specs.Bus.{Bus, Spot, reader}

abbrev pub spot_of : Leaf → Spot ℕ
spot_of leaf = record { place = leaf.host; writable = leaf.writable }

-- a place is a host address: where the tables of the root, as they stand in these bytes, lead the
-- guest physical address. The leaf says whether it may be written
abbrev pub stage_bus : (bytes : List ℕ) → (root : ℕ) → Bus (List ℕ) ℕ
stage_bus bytes root = record {
  find = λ width gpa. option_map spot_of (walked bytes root gpa);
  get = λ memory width at. word_at width memory at;
  put = λ memory width at value. put_word width memory at value;
  same = λ at other. at == other;
}

-- the words that the walks of the guest's own page tables read
abbrev pub words_of : (bytes : List ℕ) → (root : ℕ) → Reader
words_of bytes root = reader (stage_bus bytes root) bytes

-- the root, its tables and every frame that they lead to lie in the memory
pub record HasStage (bytes : List ℕ) (root : ℕ) : Type 0 where
  pub tables : HasTables bytes root
  pub leaves : (gpa : ℕ) (leaf : Leaf) → walked bytes root gpa ≡ Some leaf
      → 4096 * (leaf.host / 4096) + 4096 ≤ length bytes

-- the root leads the guest physical address to the host address
abbrev pub IsLedTo : (bytes : List ℕ) → (root gpa at : ℕ) → Type 0
IsLedTo bytes root gpa at = option_map (λ leaf. leaf.host) (walked bytes root gpa) ≡ Some at

-- ---- what a guest may write

-- the root leads no address to the frame
abbrev pub IsUnled : (bytes : List ℕ) → (root frame : ℕ) → Type 0
IsUnled bytes root frame =
    (gpa : ℕ) (leaf : Leaf) → walked bytes root gpa ≡ Some leaf → leaf.host / 4096 ≢ frame

-- each byte of a frame to which the root leads no address is as before
abbrev pub SameUnled : (old new : List ℕ) → (root : ℕ) → Type 0
SameUnled old new root =
    (i : ℕ) → IsUnled old root (i / 4096) → get_or new i 0 ≡ get_or old i 0

-- the root leads no address to its own frames and tables
pub record OwnGround (bytes : List ℕ) (root : ℕ) : Type 0 where
  pub root_frames : (frame : ℕ) → frame / 4 ≡ root → IsUnled bytes root frame
  pub table_frames : (table : ℕ) → IsTableOf bytes root table → IsUnled bytes root table
