-- The live guests of a host: sixteen places, each of which has the guest of that key or none.
use Rattle.std.specs.Prelude.{◌≡◌, ℕ, ◌<◌, true, List, get_or, sum_by, Option, Some, None, is_some}
use Rattle.xv_guest.specs.Guest.{Guest, held_of}
use Rattle.xv_guest.specs.Held.{Held}

abbrev pub Places : Type 0
Places = List (Option Guest)

abbrev pub guest_at : Places → ℕ → Option Guest
guest_at places key = get_or places key None

-- an amount of what a guest holds; where no guest is, there is none
abbrev pub amount_at : (Held → ℕ) → Option Guest → ℕ
amount_at amount None = 0
amount_at amount (Some g) = amount (held_of g)

-- the amount of all guests together
abbrev pub amount_of : (Held → ℕ) → Places → ℕ
amount_of amount places = sum_by (amount_at amount) places

-- the least key that nothing has
pub record IsLeast {T : Type 0} (places : List (Option T)) (key : ℕ) : Type 0 where
  pub inside : key < 16
  pub free : get_or places key None ≡ None
  pub least : (k : ℕ) → k < key → is_some (get_or places k None) ≡ true
