-- The serial queues of a UART: input that it hasn't taken yet, and output that it sent.
use Rattle.std.specs.Prelude.{ℕ, ◌+◌, ◌-◌, ◌^◌, ◌==◌, if◌then◌else◌, List, [], ◌∷◌, ◌++◌, length}
use Rattle.std.specs.Prelude.{drop, min}

-- both in the order of their bytes, the oldest first; `lost` counts the sent bytes that were
-- dropped
pub record Serial : Type 0 where
  pub queue : List ℕ
  pub kept : List ℕ
  pub lost : ℕ

-- the most bytes of input that wait
abbrev pub queue_size : ℕ
queue_size = 4096

-- the most bytes of output that are kept
abbrev pub kept_size : ℕ
kept_size = 65536

abbrev pub empty_serial : Serial
empty_serial = record { queue = []; kept = []; lost = 0 }

-- how many bytes of input may come
abbrev pub queue_room : Serial → ℕ
queue_room serial = queue_size - length serial.queue

-- input that has come
abbrev pub received : List ℕ → Serial → Serial
received bytes serial = record serial { queue = serial.queue ++ bytes }

-- one more, but that a count of 64 bits stands at its greatest value
abbrev pub one_more : ℕ → ℕ
one_more count = min (count + 1) (2 ^ 64 - 1)

-- output of one byte more: of more than fit the oldest is dropped, and counted
unfoldable pub sent : ℕ → Serial → Serial
sent byte serial =
    let all = serial.kept ++ byte ∷ [] in
    record serial {
      kept = drop (length all - kept_size) all;
      lost = if length serial.kept == kept_size then one_more serial.lost else serial.lost;
    }
