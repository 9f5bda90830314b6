-- The instruction table as data, in the words of the standard, and the row of a word. Unprivileged
-- ISA 20191213, chapter 24; Privileged Architecture 20211203, sections 3.3.2, 3.3.3 and 4.2.1.
use Rattle.std.specs.Prelude.{ℕ, zero, suc, ◌+◌, ◌-◌, ◌*◌, ◌^◌, ◌==◌, ◌≡◌, ◌<◌, if◌then◌else◌, List}
use Rattle.std.specs.Prelude.{[], ◌∷◌, Option, None, Some}
use Rattle.std.specs.Int.Bits.{bit_and}
use Rattle.xv_isa.specs.declared.rows.Row.{Row}
use Rattle.xv_isa.specs.declared.rows.Form.{Form}
use Rattle.xv_isa.specs.declared.rows.Form.TheVariants.{R, I, S, B, U, J, Shift, Csr}
use Rattle.xv_isa.specs.declared.rows.Form.TheVariants.{Fence as FenceForm, Whole, Sfence, Lr, Amo}
use Rattle.xv_isa.specs.declared.rows.Op.{Op}
use Rattle.xv_isa.specs.declared.rows.Op.TheVariants.{Lui, Auipc, Jal, Jalr, Beq, Bne, Blt, Bge}
use Rattle.xv_isa.specs.declared.rows.Op.TheVariants.{Bltu, Bgeu, Lb, Lh, Lw, Ld, Lbu, Lhu, Lwu, Sb}
use Rattle.xv_isa.specs.declared.rows.Op.TheVariants.{Sh, Sw, Sd, Addi, Slti, Sltiu, Xori, Ori}
use Rattle.xv_isa.specs.declared.rows.Op.TheVariants.{Andi, Slli, Srli, Srai, Addiw, Slliw, Srliw}
use Rattle.xv_isa.specs.declared.rows.Op.TheVariants.{Sraiw, Add, Sll, Slt, Sltu, Xor, Srl, Or, And}
use Rattle.xv_isa.specs.declared.rows.Op.TheVariants.{Sub, Sra, Mul, Mulh, Mulhsu, Mulhu, Div, Divu}
use Rattle.xv_isa.specs.declared.rows.Op.TheVariants.{Rem, Remu, Addw, Sllw, Srlw, Subw, Sraw, Mulw}
use Rattle.xv_isa.specs.declared.rows.Op.TheVariants.{Divw, Divuw, Remw, Remuw, Fence, FenceI}
use Rattle.xv_isa.specs.declared.rows.Op.TheVariants.{Ecall, Ebreak, Sret, Wfi, SfenceVma, Csrrw}
use Rattle.xv_isa.specs.declared.rows.Op.TheVariants.{Csrrs, Csrrc, Csrrwi, Csrrsi, Csrrci, LrW}
use Rattle.xv_isa.specs.declared.rows.Op.TheVariants.{LrD, ScW, ScD, AmoswapW, AmoswapD, AmoaddW}
use Rattle.xv_isa.specs.declared.rows.Op.TheVariants.{AmoaddD, AmoxorW, AmoxorD, AmoandW, AmoandD}
use Rattle.xv_isa.specs.declared.rows.Op.TheVariants.{AmoorW, AmoorD, AmominW, AmominD, AmomaxW}
use Rattle.xv_isa.specs.declared.rows.Op.TheVariants.{AmomaxD, AmominuW, AmominuD, AmomaxuW}
use Rattle.xv_isa.specs.declared.rows.Op.TheVariants.{AmomaxuD}

-- ---- the fixed fields: a field's number at its place

abbrev opcode : ℕ → ℕ
opcode n = n

abbrev rd_field : ℕ → ℕ
rd_field n = n * 2 ^ 7

abbrev funct3 : ℕ → ℕ
funct3 n = n * 2 ^ 12

abbrev rs2_field : ℕ → ℕ
rs2_field n = n * 2 ^ 20

abbrev funct7 : ℕ → ℕ
funct7 n = n * 2 ^ 25

-- bits 31:26, which a shift of 64 bits has in place of funct7
abbrev funct6 : ℕ → ℕ
funct6 n = n * 2 ^ 26

-- bits 31:27 of the atomics
abbrev funct5 : ℕ → ℕ
funct5 n = n * 2 ^ 27

-- ---- the major opcodes (table 24.1)

abbrev opcode_load : ℕ
opcode_load = 0x03

abbrev opcode_misc_mem : ℕ
opcode_misc_mem = 0x0f

abbrev opcode_op_imm : ℕ
opcode_op_imm = 0x13

abbrev opcode_auipc : ℕ
opcode_auipc = 0x17

abbrev opcode_op_imm_32 : ℕ
opcode_op_imm_32 = 0x1b

abbrev opcode_store : ℕ
opcode_store = 0x23

abbrev opcode_amo : ℕ
opcode_amo = 0x2f

abbrev opcode_op : ℕ
opcode_op = 0x33

abbrev opcode_lui : ℕ
opcode_lui = 0x37

abbrev opcode_op_32 : ℕ
opcode_op_32 = 0x3b

abbrev opcode_branch : ℕ
opcode_branch = 0x63

abbrev opcode_jalr : ℕ
opcode_jalr = 0x67

abbrev opcode_jal : ℕ
opcode_jal = 0x6f

abbrev opcode_system : ℕ
opcode_system = 0x73

-- ---- a row by its fixed fields, for each form of operands

abbrev u_row : ℕ → Op → Row
u_row c o = record { mask = opcode 0x7f; bits = opcode c; form = U; op = o }

abbrev j_row : ℕ → Op → Row
j_row c o = record { mask = opcode 0x7f; bits = opcode c; form = J; op = o }

abbrev i_row : ℕ → ℕ → Op → Row
i_row c f o = record { mask = opcode 0x7f + funct3 7; bits = opcode c + funct3 f; form = I; op = o }

abbrev s_row : ℕ → ℕ → Op → Row
s_row c f o = record { mask = opcode 0x7f + funct3 7; bits = opcode c + funct3 f; form = S; op = o }

abbrev b_row : ℕ → ℕ → Op → Row
b_row c f o = record { mask = opcode 0x7f + funct3 7; bits = opcode c + funct3 f; form = B; op = o }

abbrev csr_row : ℕ → ℕ → Op → Row
csr_row c f o =
    record { mask = opcode 0x7f + funct3 7; bits = opcode c + funct3 f; form = Csr; op = o }

abbrev fence_row : ℕ → ℕ → Op → Row
fence_row c f o =
    record { mask = opcode 0x7f + funct3 7; bits = opcode c + funct3 f; form = FenceForm; op = o }

abbrev r_row : ℕ → ℕ → ℕ → Op → Row
r_row c f g o =
    record {
      mask = opcode 0x7f + funct3 7 + funct7 0x7f;
      bits = opcode c + funct3 f + funct7 g;
      form = R;
      op = o;
    }

abbrev shift_row : ℕ → ℕ → ℕ → Op → Row
shift_row c f g o =
    record {
      mask = opcode 0x7f + funct3 7 + funct6 0x3f;
      bits = opcode c + funct3 f + funct6 g;
      form = Shift;
      op = o;
    }

-- a shift of 32 bits, by a 5-bit amount
abbrev word_shift_row : ℕ → ℕ → ℕ → Op → Row
word_shift_row c f g o =
    record {
      mask = opcode 0x7f + funct3 7 + funct7 0x7f;
      bits = opcode c + funct3 f + funct7 g;
      form = Shift;
      op = o;
    }

-- a word with no operand
abbrev whole_row : ℕ → Op → Row
whole_row word o = record { mask = 2 ^ 32 - 1; bits = word; form = Whole; op = o }

-- rd is 0
abbrev sfence_row : ℕ → ℕ → ℕ → Op → Row
sfence_row c f g o =
    record {
      mask = opcode 0x7f + rd_field 0x1f + funct3 7 + funct7 0x7f;
      bits = opcode c + funct3 f + funct7 g;
      form = Sfence;
      op = o;
    }

-- rs2 is 0
abbrev lr_row : ℕ → ℕ → ℕ → Op → Row
lr_row c f g o =
    record {
      mask = opcode 0x7f + funct3 7 + rs2_field 0x1f + funct5 0x1f;
      bits = opcode c + funct3 f + funct5 g;
      form = Lr;
      op = o;
    }

abbrev amo_row : ℕ → ℕ → ℕ → Op → Row
amo_row c f g o =
    record {
      mask = opcode 0x7f + funct3 7 + funct5 0x1f;
      bits = opcode c + funct3 f + funct5 g;
      form = Amo;
      op = o;
    }

-- ---- the table

unfoldable pub rows : List Row
rows =
    u_row opcode_lui Lui ∷
    u_row opcode_auipc Auipc ∷
    j_row opcode_jal Jal ∷
    i_row opcode_jalr 0 Jalr ∷
    b_row opcode_branch 0 Beq ∷
    b_row opcode_branch 1 Bne ∷
    b_row opcode_branch 4 Blt ∷
    b_row opcode_branch 5 Bge ∷
    b_row opcode_branch 6 Bltu ∷
    b_row opcode_branch 7 Bgeu ∷
    i_row opcode_load 0 Lb ∷
    i_row opcode_load 1 Lh ∷
    i_row opcode_load 2 Lw ∷
    i_row opcode_load 3 Ld ∷
    i_row opcode_load 4 Lbu ∷
    i_row opcode_load 5 Lhu ∷
    i_row opcode_load 6 Lwu ∷
    s_row opcode_store 0 Sb ∷
    s_row opcode_store 1 Sh ∷
    s_row opcode_store 2 Sw ∷
    s_row opcode_store 3 Sd ∷
    i_row opcode_op_imm 0 Addi ∷
    i_row opcode_op_imm 2 Slti ∷
    i_row opcode_op_imm 3 Sltiu ∷
    i_row opcode_op_imm 4 Xori ∷
    i_row opcode_op_imm 6 Ori ∷
    i_row opcode_op_imm 7 Andi ∷
    shift_row opcode_op_imm 1 0x00 Slli ∷
    shift_row opcode_op_imm 5 0x00 Srli ∷
    shift_row opcode_op_imm 5 0x10 Srai ∷
    i_row opcode_op_imm_32 0 Addiw ∷
    word_shift_row opcode_op_imm_32 1 0x00 Slliw ∷
    word_shift_row opcode_op_imm_32 5 0x00 Srliw ∷
    word_shift_row opcode_op_imm_32 5 0x20 Sraiw ∷
    r_row opcode_op 0 0x00 Add ∷
    r_row opcode_op 1 0x00 Sll ∷
    r_row opcode_op 2 0x00 Slt ∷
    r_row opcode_op 3 0x00 Sltu ∷
    r_row opcode_op 4 0x00 Xor ∷
    r_row opcode_op 5 0x00 Srl ∷
    r_row opcode_op 6 0x00 Or ∷
    r_row opcode_op 7 0x00 And ∷
    r_row opcode_op 0 0x20 Sub ∷
    r_row opcode_op 5 0x20 Sra ∷
    r_row opcode_op 0 0x01 Mul ∷
    r_row opcode_op 1 0x01 Mulh ∷
    r_row opcode_op 2 0x01 Mulhsu ∷
    r_row opcode_op 3 0x01 Mulhu ∷
    r_row opcode_op 4 0x01 Div ∷
    r_row opcode_op 5 0x01 Divu ∷
    r_row opcode_op 6 0x01 Rem ∷
    r_row opcode_op 7 0x01 Remu ∷
    r_row opcode_op_32 0 0x00 Addw ∷
    r_row opcode_op_32 1 0x00 Sllw ∷
    r_row opcode_op_32 5 0x00 Srlw ∷
    r_row opcode_op_32 0 0x20 Subw ∷
    r_row opcode_op_32 5 0x20 Sraw ∷
    r_row opcode_op_32 0 0x01 Mulw ∷
    r_row opcode_op_32 4 0x01 Divw ∷
    r_row opcode_op_32 5 0x01 Divuw ∷
    r_row opcode_op_32 6 0x01 Remw ∷
    r_row opcode_op_32 7 0x01 Remuw ∷
    fence_row opcode_misc_mem 0 Fence ∷
    fence_row opcode_misc_mem 1 FenceI ∷
    whole_row 0x00000073 Ecall ∷
    whole_row 0x00100073 Ebreak ∷
    whole_row 0x10200073 Sret ∷
    whole_row 0x10500073 Wfi ∷
    sfence_row opcode_system 0 0x09 SfenceVma ∷
    csr_row opcode_system 1 Csrrw ∷
    csr_row opcode_system 2 Csrrs ∷
    csr_row opcode_system 3 Csrrc ∷
    csr_row opcode_system 5 Csrrwi ∷
    csr_row opcode_system 6 Csrrsi ∷
    csr_row opcode_system 7 Csrrci ∷
    lr_row opcode_amo 2 0x02 LrW ∷
    lr_row opcode_amo 3 0x02 LrD ∷
    amo_row opcode_amo 2 0x03 ScW ∷
    amo_row opcode_amo 3 0x03 ScD ∷
    amo_row opcode_amo 2 0x01 AmoswapW ∷
    amo_row opcode_amo 3 0x01 AmoswapD ∷
    amo_row opcode_amo 2 0x00 AmoaddW ∷
    amo_row opcode_amo 3 0x00 AmoaddD ∷
    amo_row opcode_amo 2 0x04 AmoxorW ∷
    amo_row opcode_amo 3 0x04 AmoxorD ∷
    amo_row opcode_amo 2 0x0c AmoandW ∷
    amo_row opcode_amo 3 0x0c AmoandD ∷
    amo_row opcode_amo 2 0x08 AmoorW ∷
    amo_row opcode_amo 3 0x08 AmoorD ∷
    amo_row opcode_amo 2 0x10 AmominW ∷
    amo_row opcode_amo 3 0x10 AmominD ∷
    amo_row opcode_amo 2 0x14 AmomaxW ∷
    amo_row opcode_amo 3 0x14 AmomaxD ∷
    amo_row opcode_amo 2 0x18 AmominuW ∷
    amo_row opcode_amo 3 0x18 AmominuD ∷
    amo_row opcode_amo 2 0x1c AmomaxuW ∷
    amo_row opcode_amo 3 0x1c AmomaxuD ∷
    []

-- ---- the row of a word

-- the word has the row's fixed bits
abbrev pub Matches : ℕ → Row → Type 0
Matches word row = bit_and word row.mask ≡ row.bits

-- the place of the first row that the word matches, where the list's first row has the place k
abbrev pub place_from : ℕ → List Row → ℕ → Option ℕ
place_from word [] k = None
place_from word (row ∷ rest) k =
    if bit_and word row.mask == row.bits then Some k else place_from word rest (suc k)

-- the place of the row that a word matches: each row is tried in turn
unfoldable pub row_of : ℕ → Option ℕ
row_of word = place_from word rows 0

-- ---- what stands in a row, by its place; past the end of the table the values mean nothing

abbrev pub mask_at : List Row → ℕ → ℕ
mask_at [] k = 0
mask_at (row ∷ rest) zero = row.mask
mask_at (row ∷ rest) (suc k) = mask_at rest k

abbrev pub bits_at : List Row → ℕ → ℕ
bits_at [] k = 0
bits_at (row ∷ rest) zero = row.bits
bits_at (row ∷ rest) (suc k) = bits_at rest k

abbrev pub form_at : List Row → ℕ → Form
form_at [] k = Whole
form_at (row ∷ rest) zero = row.form
form_at (row ∷ rest) (suc k) = form_at rest k

abbrev pub op_at : List Row → ℕ → Op
op_at [] k = Ecall
op_at (row ∷ rest) zero = row.op
op_at (row ∷ rest) (suc k) = op_at rest k

-- the form and the operation of the row at a place
unfoldable pub form_of : ℕ → Form
form_of place = form_at rows place

unfoldable pub operation_at : ℕ → Op
operation_at place = op_at rows place

-- the word matches the row at a place, which has that form
abbrev pub IsRowAt : ℕ → ℕ → Form → Type 0
IsRowAt word k form =
    (k < 97) × (bit_and word (mask_at rows k) ≡ bits_at rows k) × (form_at rows k ≡ form)
