-- The ranges of an instruction's fields, and the word of an instruction: the row's fixed bits and
-- each operand at its place. Unprivileged ISA 20191213, figures 2.2 to 2.4. No form has a bit that
-- is neither fixed nor part of a field, so a word and its instruction determine each other.
use Rattle.std.specs.Prelude.{ℕ, suc, ◌+◌, ◌-◌, ◌*◌, ◌^◌, ◌<◌, ◌≡◌, ℤ, pos, negsuc, neg_ℤ, ◌≤ℤ◌}
use Rattle.std.specs.Prelude.{◌<ℤ◌, Bool, true, false}
use Rattle.std.specs.Int.RustNames.{int_rem}
use Rattle.xv_isa.specs.declared.instruction.Insn.{Insn}
use Rattle.xv_isa.specs.declared.rows.Form.{Form}
use Rattle.xv_isa.specs.declared.rows.Form.TheVariants.{R, I, S, B, U, J, Shift, Csr, Fence, Whole}
use Rattle.xv_isa.specs.declared.rows.Form.TheVariants.{Sfence, Lr, Amo}
use Rattle.xv_isa.specs.declared.rows.Op.{Op}
use Rattle.xv_isa.specs.declared.rows.Op.TheVariants.{Slliw, Srliw, Sraiw}
use Rattle.xv_isa.specs.Rows.{rows, bits_at, form_of, operation_at}
use Rattle.xv_isa.specs.Operands.{inst, inst_bit}

-- ---- ranges

-- z is a two's complement number of w bits
abbrev pub HasBits : ℕ → ℤ → Type 0
HasBits w z = (neg_ℤ (pos (2 ^ (w - 1))) ≤ℤ z) × (z <ℤ pos (2 ^ (w - 1)))

-- z lies from 0 up to n
abbrev pub IsBelow : ℕ → ℤ → Type 0
IsBelow n z = (pos 0 ≤ℤ z) × (z <ℤ pos n)

abbrev pub IsMultiple : ℕ → ℤ → Type 0
IsMultiple n z = int_rem z (pos n) ≡ pos 0

-- a shift of 32 bits, which has a 5-bit amount
abbrev pub is_word_shift : Op → Bool
is_word_shift Slliw = true
is_word_shift Srliw = true
is_word_shift Sraiw = true
is_word_shift o = false

abbrev pub amount_bound : Bool → ℕ
amount_bound true = 32
amount_bound false = 64

-- the operands fit the form, and the fields that it doesn't fill are 0
abbrev pub FitsForm : Form → Op → Insn → Type 0
FitsForm R o i = (i.rd < 32) × (i.rs1 < 32) × (i.rs2 < 32) × (i.imm ≡ pos 0) × (i.extra ≡ 0)
FitsForm I o i = (i.rd < 32) × (i.rs1 < 32) × (i.rs2 ≡ 0) × HasBits 12 i.imm × (i.extra ≡ 0)
FitsForm S o i = (i.rd ≡ 0) × (i.rs1 < 32) × (i.rs2 < 32) × HasBits 12 i.imm × (i.extra ≡ 0)
FitsForm B o i =
    (i.rd ≡ 0) × (i.rs1 < 32) × (i.rs2 < 32) × HasBits 13 i.imm × IsMultiple 2 i.imm × (i.extra ≡ 0)
FitsForm U o i = (i.rd < 32) × (i.rs1 ≡ 0) × (i.rs2 ≡ 0) × HasBits 32 i.imm × IsMultiple 4096 i.imm
    × (i.extra ≡ 0)
FitsForm J o i =
    (i.rd < 32) × (i.rs1 ≡ 0) × (i.rs2 ≡ 0) × HasBits 21 i.imm × IsMultiple 2 i.imm × (i.extra ≡ 0)
FitsForm Shift o i =
    (i.rd < 32) × (i.rs1 < 32) × (i.rs2 ≡ 0) × IsBelow (amount_bound (is_word_shift o)) i.imm
    × (i.extra ≡ 0)
FitsForm Csr o i = (i.rd < 32) × (i.rs1 < 32) × (i.rs2 ≡ 0) × IsBelow 4096 i.imm × (i.extra ≡ 0)
FitsForm Fence o i = (i.rd < 32) × (i.rs1 < 32) × (i.rs2 ≡ 0) × IsBelow 4096 i.imm × (i.extra ≡ 0)
FitsForm Whole o i = (i.rd ≡ 0) × (i.rs1 ≡ 0) × (i.rs2 ≡ 0) × (i.imm ≡ pos 0) × (i.extra ≡ 0)
FitsForm Sfence o i = (i.rd ≡ 0) × (i.rs1 < 32) × (i.rs2 < 32) × (i.imm ≡ pos 0) × (i.extra ≡ 0)
FitsForm Lr o i = (i.rd < 32) × (i.rs1 < 32) × (i.rs2 ≡ 0) × (i.imm ≡ pos 0) × (i.extra < 4)
FitsForm Amo o i = (i.rd < 32) × (i.rs1 < 32) × (i.rs2 < 32) × (i.imm ≡ pos 0) × (i.extra < 4)

-- the instruction names a row, and its fields are in that row's range
abbrev pub InRange : Insn → Type 0
InRange i = (i.row < 97) × FitsForm (form_of i.row) (operation_at i.row) i

-- ---- the word

-- z as w bits in two's complement
abbrev pub in_bits : ℕ → ℤ → ℕ
in_bits w (pos n) = n
in_bits w (negsuc n) = 2 ^ w - suc n

abbrev rd_place : ℕ → ℕ
rd_place n = n * 2 ^ 7

abbrev rs1_place : ℕ → ℕ
rs1_place n = n * 2 ^ 15

abbrev rs2_place : ℕ → ℕ
rs2_place n = n * 2 ^ 20

-- the pieces of an immediate where figures 2.3 and 2.4 draw them
abbrev pub s_places : ℕ → ℕ
s_places n = inst n 4 0 * 2 ^ 7 + inst n 11 5 * 2 ^ 25

abbrev pub b_places : ℕ → ℕ
b_places n =
    inst_bit n 11 * 2 ^ 7 + inst n 4 1 * 2 ^ 8 + inst n 10 5 * 2 ^ 25 + inst_bit n 12 * 2 ^ 31

abbrev pub u_places : ℕ → ℕ
u_places n = inst n 31 12 * 2 ^ 12

abbrev pub j_places : ℕ → ℕ
j_places n =
    inst n 19 12 * 2 ^ 12 + inst_bit n 11 * 2 ^ 20 + inst n 10 1 * 2 ^ 21 + inst_bit n 20 * 2 ^ 31

-- the operands at their places
abbrev pub placed : Form → Insn → ℕ
placed R i = rd_place i.rd + rs1_place i.rs1 + rs2_place i.rs2
placed I i = rd_place i.rd + rs1_place i.rs1 + in_bits 12 i.imm * 2 ^ 20
placed S i = rs1_place i.rs1 + rs2_place i.rs2 + s_places (in_bits 12 i.imm)
placed B i = rs1_place i.rs1 + rs2_place i.rs2 + b_places (in_bits 13 i.imm)
placed U i = rd_place i.rd + u_places (in_bits 32 i.imm)
placed J i = rd_place i.rd + j_places (in_bits 21 i.imm)
placed Shift i = rd_place i.rd + rs1_place i.rs1 + in_bits 6 i.imm * 2 ^ 20
placed Csr i = rd_place i.rd + rs1_place i.rs1 + in_bits 12 i.imm * 2 ^ 20
placed Fence i = rd_place i.rd + rs1_place i.rs1 + in_bits 12 i.imm * 2 ^ 20
placed Whole i = 0
placed Sfence i = rs1_place i.rs1 + rs2_place i.rs2
placed Lr i = rd_place i.rd + rs1_place i.rs1 + i.extra * 2 ^ 25
placed Amo i = rd_place i.rd + rs1_place i.rs1 + rs2_place i.rs2 + i.extra * 2 ^ 25

unfoldable pub encode_of : Insn → ℕ
encode_of i = bits_at rows i.row + placed (form_of i.row) i
