-- The operands of a word and the decoded instruction. Unprivileged ISA 20191213, sections 2.2 and
-- 2.3 (figures 2.2 to 2.4), 5.2, 7.3, 8.2 to 8.4 and 9.1.
use Rattle.std.specs.Prelude.{ℕ, ◌+◌, ◌-◌, ◌*◌, ◌/◌, ◌%◌, ◌^◌, nat_lt, if◌then◌else◌, ℤ, pos, ◌-ℤ◌}
use Rattle.std.specs.Prelude.{Option, option_map}
use Rattle.xv_isa.specs.declared.instruction.Insn.{Insn}
use Rattle.xv_isa.specs.declared.rows.Form.{Form}
use Rattle.xv_isa.specs.declared.rows.Form.TheVariants.{R, I, S, B, U, J, Shift, Csr, Fence, Whole}
use Rattle.xv_isa.specs.declared.rows.Form.TheVariants.{Sfence, Lr, Amo}
use Rattle.xv_isa.specs.Rows.{row_of, form_of}

-- bits high to low of a word, which the standard writes inst[high:low]
abbrev pub inst : ℕ → ℕ → ℕ → ℕ
inst word high low = word / 2 ^ low % 2 ^ (high + 1 - low)

-- bit k of a word
abbrev pub inst_bit : ℕ → ℕ → ℕ
inst_bit word k = inst word k k

-- n of w bits, read as a two's complement number
abbrev pub sign_extended : ℕ → ℕ → ℤ
sign_extended w n = if nat_lt n (2 ^ (w - 1)) then pos n else pos n -ℤ pos (2 ^ w)

-- ---- registers

abbrev pub rd_of : ℕ → ℕ
rd_of word = inst word 11 7

abbrev pub rs1_of : ℕ → ℕ
rs1_of word = inst word 19 15

abbrev pub rs2_of : ℕ → ℕ
rs2_of word = inst word 24 20

-- ---- immediates (figure 2.4): the pieces of the word with the places that they take

abbrev pub i_immediate : ℕ → ℤ
i_immediate word = sign_extended 12 (inst word 31 20)

abbrev pub s_immediate : ℕ → ℤ
s_immediate word = sign_extended 12 (inst word 31 25 * 2 ^ 5 + inst word 11 7)

abbrev pub b_immediate : ℕ → ℤ
b_immediate word =
    sign_extended 13
    (inst_bit word 31 * 2 ^ 12 + inst_bit word 7 * 2 ^ 11 + inst word 30 25 * 2 ^ 5
    + inst word 11 8 * 2 ^ 1)

abbrev pub u_immediate : ℕ → ℤ
u_immediate word = sign_extended 32 (inst word 31 12 * 2 ^ 12)

abbrev pub j_immediate : ℕ → ℤ
j_immediate word =
    sign_extended 21
    (inst_bit word 31 * 2 ^ 20 + inst word 19 12 * 2 ^ 12 + inst_bit word 20 * 2 ^ 11
    + inst word 30 21 * 2 ^ 1)

-- the amount of a shift; bit 25 is 0 in the rows that shift 32 bits
abbrev pub shift_amount : ℕ → ℤ
shift_amount word = pos (inst word 25 20)

-- bits 31:20 as they are: the number of a CSR, the sets of a fence
abbrev pub upper_twelve : ℕ → ℤ
upper_twelve word = pos (inst word 31 20)

-- the ordering bits of an atomic, aq and rl
abbrev pub ordering_of : ℕ → ℕ
ordering_of word = inst word 26 25

-- ---- the decoded instruction

-- the operands that a form reads; every other field is 0
abbrev pub operands_of : Form → ℕ → ℕ → Insn
operands_of R k w =
    record { row = k; rd = rd_of w; rs1 = rs1_of w; rs2 = rs2_of w; imm = pos 0; extra = 0 }
operands_of I k w =
    record { row = k; rd = rd_of w; rs1 = rs1_of w; rs2 = 0; imm = i_immediate w; extra = 0 }
operands_of S k w =
    record { row = k; rd = 0; rs1 = rs1_of w; rs2 = rs2_of w; imm = s_immediate w; extra = 0 }
operands_of B k w =
    record { row = k; rd = 0; rs1 = rs1_of w; rs2 = rs2_of w; imm = b_immediate w; extra = 0 }
operands_of U k w =
    record { row = k; rd = rd_of w; rs1 = 0; rs2 = 0; imm = u_immediate w; extra = 0 }
operands_of J k w =
    record { row = k; rd = rd_of w; rs1 = 0; rs2 = 0; imm = j_immediate w; extra = 0 }
operands_of Shift k w =
    record { row = k; rd = rd_of w; rs1 = rs1_of w; rs2 = 0; imm = shift_amount w; extra = 0 }
operands_of Csr k w =
    record { row = k; rd = rd_of w; rs1 = rs1_of w; rs2 = 0; imm = upper_twelve w; extra = 0 }
operands_of Fence k w =
    record { row = k; rd = rd_of w; rs1 = rs1_of w; rs2 = 0; imm = upper_twelve w; extra = 0 }
operands_of Whole k w = record { row = k; rd = 0; rs1 = 0; rs2 = 0; imm = pos 0; extra = 0 }
operands_of Sfence k w =
    record { row = k; rd = 0; rs1 = rs1_of w; rs2 = rs2_of w; imm = pos 0; extra = 0 }
operands_of Lr k w =
    record { row = k; rd = rd_of w; rs1 = rs1_of w; rs2 = 0; imm = pos 0; extra = ordering_of w }
operands_of Amo k w =
    record {
      row = k;
      rd = rd_of w;
      rs1 = rs1_of w;
      rs2 = rs2_of w;
      imm = pos 0;
      extra = ordering_of w;
    }

-- the instruction of a word, or none where no row matches: the word is illegal
unfoldable pub decode_of : ℕ → Option Insn
decode_of word = option_map (λ k. operands_of (form_of k) k word) (row_of word)
