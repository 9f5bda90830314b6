-- The integer results of the rows of I, M and A, over whole numbers. Registers are unsigned numbers
-- of 64 bits; a result is taken modulo 2^64. a is the value of rs1, or the pc for AUIPC, or the
-- sign extension of the old bytes for an AMO; b is the value of rs2, the immediate or the shift
-- amount, modulo 2^64. Unprivileged ISA 20191213, sections 2.4, 5.2, 7.1, 7.2 and 8.4. An operation
-- without a result gives 0.
use Rattle.std.specs.Prelude.{ℕ, suc, ◌+◌, ◌-◌, ◌*◌, ◌/◌, ◌%◌, ◌^◌, ◌==◌, nat_lt, if◌then◌else◌, ℤ}
use Rattle.std.specs.Prelude.{pos, negsuc, ◌-ℤ◌, ◌*ℤ◌}
use Rattle.std.specs.Int.Bits.{bit_and, bit_or, bit_xor}
use Rattle.std.specs.Int.RustNames.{int_lt, int_div, int_rem}
use Rattle.xv_isa.specs.declared.rows.Op.{Op}
use Rattle.xv_isa.specs.Operands.{sign_extended}
use Rattle.xv_isa.specs.declared.rows.Op.TheVariants.{Lui, Auipc, Addi, Slti, Sltiu, Xori, Ori}
use Rattle.xv_isa.specs.declared.rows.Op.TheVariants.{Andi, Slli, Srli, Srai, Addiw, Slliw, Srliw}
use Rattle.xv_isa.specs.declared.rows.Op.TheVariants.{Sraiw, Add, Sll, Slt, Sltu, Xor, Srl, Or, And}
use Rattle.xv_isa.specs.declared.rows.Op.TheVariants.{Sub, Sra, Mul, Mulh, Mulhsu, Mulhu, Div, Divu}
use Rattle.xv_isa.specs.declared.rows.Op.TheVariants.{Rem, Remu, Addw, Sllw, Srlw, Subw, Sraw, Mulw}
use Rattle.xv_isa.specs.declared.rows.Op.TheVariants.{Divw, Divuw, Remw, Remuw, AmoswapW, AmoswapD}
use Rattle.xv_isa.specs.declared.rows.Op.TheVariants.{AmoaddW, AmoaddD, AmoxorW, AmoxorD, AmoandW}
use Rattle.xv_isa.specs.declared.rows.Op.TheVariants.{AmoandD, AmoorW, AmoorD, AmominW, AmominD}
use Rattle.xv_isa.specs.declared.rows.Op.TheVariants.{AmomaxW, AmomaxD, AmominuW, AmominuD}
use Rattle.xv_isa.specs.declared.rows.Op.TheVariants.{AmomaxuW, AmomaxuD}

-- ---- readings

-- the low w bits of n, as an unsigned and as a signed number
abbrev pub unsigned_at : ℕ → ℕ → ℕ
unsigned_at w n = n % 2 ^ w

abbrev pub signed_at : ℕ → ℕ → ℤ
signed_at w n = sign_extended w (n % 2 ^ w)

-- the number below 2^w that differs from z by a multiple of 2^w
abbrev pub residue : ℕ → ℤ → ℕ
residue w (pos n) = n % 2 ^ w
residue w (negsuc n) = 2 ^ w - suc (n % 2 ^ w)

-- the low 32 bits of n, their sign extended to 64
abbrev pub word_extended : ℕ → ℕ
word_extended n = residue 64 (signed_at 32 n)

-- z / m, rounded down
abbrev pub floor_div : ℤ → ℕ → ℤ
floor_div (pos n) m = pos (n / m)
floor_div (negsuc n) m = negsuc (n / m)

-- ---- additions and comparisons

abbrev pub sum_of : ℕ → ℕ → ℕ
sum_of a b = (a + b) % 2 ^ 64

abbrev pub difference_of : ℕ → ℕ → ℕ
difference_of a b = residue 64 (pos a -ℤ pos b)

abbrev pub less_signed : ℕ → ℕ → ℕ
less_signed a b = if int_lt (signed_at 64 a) (signed_at 64 b) then 1 else 0

abbrev pub less_unsigned : ℕ → ℕ → ℕ
less_unsigned a b = if nat_lt a b then 1 else 0

-- ---- shifts, by the low 6 bits of b, or 5 on words

abbrev pub shift_left : ℕ → ℕ → ℕ
shift_left a b = a * 2 ^ (b % 64) % 2 ^ 64

abbrev pub shift_right : ℕ → ℕ → ℕ
shift_right a b = a / 2 ^ (b % 64)

abbrev pub shift_right_signed : ℕ → ℕ → ℕ
shift_right_signed a b = residue 64 (floor_div (signed_at 64 a) (2 ^ (b % 64)))

abbrev pub shift_left_word : ℕ → ℕ → ℕ
shift_left_word a b = word_extended (a * 2 ^ (b % 32))

abbrev pub shift_right_word : ℕ → ℕ → ℕ
shift_right_word a b = word_extended (unsigned_at 32 a / 2 ^ (b % 32))

abbrev pub shift_right_word_signed : ℕ → ℕ → ℕ
shift_right_word_signed a b = residue 64 (floor_div (signed_at 32 a) (2 ^ (b % 32)))

-- ---- products

abbrev pub product_of : ℕ → ℕ → ℕ
product_of a b = a * b % 2 ^ 64

-- the high half of a signed product of 128 bits
abbrev pub high_half : ℤ → ℕ
high_half z = residue 64 (floor_div z (2 ^ 64))

-- ---- quotients, rounded towards zero: by zero all ones, and the dividend remains. The least
-- number by -1 gives a quotient of its size, which is the least number again modulo 2^64, and
-- nothing remains

abbrev pub quotient_signed : ℕ → ℕ → ℕ
quotient_signed a b =
    if b == 0 then 2 ^ 64 - 1 else residue 64 (int_div (signed_at 64 a) (signed_at 64 b))

abbrev pub quotient_unsigned : ℕ → ℕ → ℕ
quotient_unsigned a b = if b == 0 then 2 ^ 64 - 1 else a / b

abbrev pub remainder_signed : ℕ → ℕ → ℕ
remainder_signed a b =
    if b == 0 then a else residue 64 (int_rem (signed_at 64 a) (signed_at 64 b))

abbrev pub remainder_unsigned : ℕ → ℕ → ℕ
remainder_unsigned a b = if b == 0 then a else a % b

abbrev pub quotient_word_signed : ℕ → ℕ → ℕ
quotient_word_signed a b =
    if unsigned_at 32 b == 0 then 2 ^ 64 - 1
    else word_extended (residue 64 (int_div (signed_at 32 a) (signed_at 32 b)))

abbrev pub quotient_word_unsigned : ℕ → ℕ → ℕ
quotient_word_unsigned a b =
    if unsigned_at 32 b == 0 then 2 ^ 64 - 1
    else word_extended (unsigned_at 32 a / unsigned_at 32 b)

abbrev pub remainder_word_signed : ℕ → ℕ → ℕ
remainder_word_signed a b =
    if unsigned_at 32 b == 0 then word_extended a
    else residue 64 (int_rem (signed_at 32 a) (signed_at 32 b))

abbrev pub remainder_word_unsigned : ℕ → ℕ → ℕ
remainder_word_unsigned a b =
    if unsigned_at 32 b == 0 then word_extended a
    else word_extended (unsigned_at 32 a % unsigned_at 32 b)

-- ---- the lesser and the greater, by the signed and the unsigned reading of w bits

abbrev pub least_signed : ℕ → ℕ → ℕ → ℕ
least_signed w a b = if int_lt (signed_at w b) (signed_at w a) then b else a

abbrev pub greatest_signed : ℕ → ℕ → ℕ → ℕ
greatest_signed w a b = if int_lt (signed_at w a) (signed_at w b) then b else a

abbrev pub least_unsigned : ℕ → ℕ → ℕ → ℕ
least_unsigned w a b = if nat_lt (unsigned_at w b) (unsigned_at w a) then b else a

abbrev pub greatest_unsigned : ℕ → ℕ → ℕ → ℕ
greatest_unsigned w a b = if nat_lt (unsigned_at w a) (unsigned_at w b) then b else a

-- ---- the result of an operation; of an AMO the number that is stored, sign-extended in a W row

abbrev pub result_of : Op → ℕ → ℕ → ℕ
result_of Lui a b = b
result_of Auipc a b = sum_of a b
result_of Addi a b = sum_of a b
result_of Slti a b = less_signed a b
result_of Sltiu a b = less_unsigned a b
result_of Xori a b = bit_xor a b
result_of Ori a b = bit_or a b
result_of Andi a b = bit_and a b
result_of Slli a b = shift_left a b
result_of Srli a b = shift_right a b
result_of Srai a b = shift_right_signed a b
result_of Addiw a b = word_extended (a + b)
result_of Slliw a b = shift_left_word a b
result_of Srliw a b = shift_right_word a b
result_of Sraiw a b = shift_right_word_signed a b
result_of Add a b = sum_of a b
result_of Sll a b = shift_left a b
result_of Slt a b = less_signed a b
result_of Sltu a b = less_unsigned a b
result_of Xor a b = bit_xor a b
result_of Srl a b = shift_right a b
result_of Or a b = bit_or a b
result_of And a b = bit_and a b
result_of Sub a b = difference_of a b
result_of Sra a b = shift_right_signed a b
result_of Mul a b = product_of a b
result_of Mulh a b = high_half (signed_at 64 a *ℤ signed_at 64 b)
result_of Mulhsu a b = high_half (signed_at 64 a *ℤ pos b)
result_of Mulhu a b = a * b / 2 ^ 64
result_of Div a b = quotient_signed a b
result_of Divu a b = quotient_unsigned a b
result_of Rem a b = remainder_signed a b
result_of Remu a b = remainder_unsigned a b
result_of Addw a b = word_extended (a + b)
result_of Sllw a b = shift_left_word a b
result_of Srlw a b = shift_right_word a b
result_of Subw a b = word_extended (difference_of a b)
result_of Sraw a b = shift_right_word_signed a b
result_of Mulw a b = word_extended (a * b)
result_of Divw a b = quotient_word_signed a b
result_of Divuw a b = quotient_word_unsigned a b
result_of Remw a b = remainder_word_signed a b
result_of Remuw a b = remainder_word_unsigned a b
result_of AmoswapW a b = word_extended b
result_of AmoswapD a b = b
result_of AmoaddW a b = word_extended (a + b)
result_of AmoaddD a b = sum_of a b
result_of AmoxorW a b = word_extended (bit_xor a b)
result_of AmoxorD a b = bit_xor a b
result_of AmoandW a b = word_extended (bit_and a b)
result_of AmoandD a b = bit_and a b
result_of AmoorW a b = word_extended (bit_or a b)
result_of AmoorD a b = bit_or a b
result_of AmominW a b = word_extended (least_signed 32 a b)
result_of AmominD a b = least_signed 64 a b
result_of AmomaxW a b = word_extended (greatest_signed 32 a b)
result_of AmomaxD a b = greatest_signed 64 a b
result_of AmominuW a b = word_extended (least_unsigned 32 a b)
result_of AmominuD a b = least_unsigned 64 a b
result_of AmomaxuW a b = word_extended (greatest_unsigned 32 a b)
result_of AmomaxuD a b = greatest_unsigned 64 a b
result_of o a b = 0
