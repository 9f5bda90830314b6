-- Tests and values over the numbers below a bound.
use Rattle.std.specs.Prelude.{ℕ, zero, suc, Bool, false, ◌||◌, Option, Some, None, if◌then◌else◌}
use Rattle.std.specs.Prelude.{max}

-- whether some number passes
unfoldable pub some_below : (ℕ → Bool) → ℕ → Bool
some_below test zero = false
some_below test (suc n) = some_below test n || test n

abbrev pub or_else : Option ℕ → Option ℕ → Option ℕ
or_else None second = second
or_else (Some first) second = Some first

-- the least number that passes
unfoldable pub least_below : (ℕ → Bool) → ℕ → Option ℕ
least_below test zero = None
least_below test (suc n) = or_else (least_below test n) (if test n then Some n else None)

-- the greatest value of a number that passes, 0 where none does
unfoldable pub greatest_below : (ℕ → Bool) → (ℕ → ℕ) → ℕ → ℕ
greatest_below test value zero = 0
greatest_below test value (suc n) =
    max (greatest_below test value n) (if test n then value n else 0)
