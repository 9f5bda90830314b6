-- The numbers that a script may give.
use Rattle.std.specs.Prelude.{ℕ, ◌^◌, Bool, ◌&&◌, Option, Some, None, if◌then◌else◌, List, drop}
use Rattle.std.specs.Prelude.{nat_lt, nat_eq, codes}
use Rattle.std.specs.List.{list_all, starts_with}
use Rattle.std.specs.Char.{is_digit}
use Rattle.std.specs.Str.Parse.{digits_value}
use Rattle.xv_base.specs.Name.{has_length}

-- 1 to `most` digits in the radix, of either case
abbrev pub is_numeral : ℕ → ℕ → List ℕ → Bool
is_numeral radix most digits =
    has_length most digits && list_all (λ digit. is_digit digit radix) digits

-- a number, where it is below 2^64
abbrev pub below_limit : ℕ → Option ℕ
below_limit value = if nat_lt value (2 ^ 64) then Some value else None

-- the number that such digits write
unfoldable pub numeral_value : ℕ → ℕ → List ℕ → Option ℕ
numeral_value radix most digits =
    if is_numeral radix most digits then below_limit (digits_value radix digits) else None

-- a number is `0x` and 1 to 16 hexadecimal digits, or 1 to 20 decimal digits
unfoldable pub number_value : List ℕ → Option ℕ
number_value bytes =
    if starts_with nat_eq bytes (codes "0x") then numeral_value 16 16 (drop 2 bytes)
    else numeral_value 10 20 bytes
