-- The effect of each row: what the instruction asks of the hart, as a function of its fields, the
-- registers, the pc, and where the next instruction stands, which is no matter of the fields: it
-- depends on the length of the word. Registers are a list of 32 numbers below 2^64, of which x0
-- reads 0; the pc is a number below 2^64. What an asked thing does (translation, faults, traps, the
-- CSRs) is the hart's. Unprivileged ISA 20191213, chapters 2, 5, 7, 8 and 9; Privileged
-- Architecture 20211203, sections 3.3 and 4.2.
use Rattle.std.specs.Prelude.{ℕ, ◌+◌, ◌*◌, ◌/◌, ◌%◌, ◌^◌, ◌==◌, Bool, true, false, not, nat_lt}
use Rattle.std.specs.Prelude.{if◌then◌else◌, List, ℤ, slice_index}
use Rattle.std.specs.Int.RustNames.{int_lt}
use Rattle.xv_isa.specs.declared.instruction.Insn.{Insn}
use Rattle.xv_isa.specs.declared.rows.Op.{Op}
use Rattle.xv_isa.specs.declared.rows.Op.TheVariants.{Lui, Auipc, Jal, Jalr, Beq, Bne, Blt, Bge}
use Rattle.xv_isa.specs.declared.rows.Op.TheVariants.{Bltu, Bgeu, Lb, Lh, Lw, Ld, Lbu, Lhu, Lwu, Sb}
use Rattle.xv_isa.specs.declared.rows.Op.TheVariants.{Sh, Sw, Sd, Addi, Slti, Sltiu, Xori, Ori}
use Rattle.xv_isa.specs.declared.rows.Op.TheVariants.{Andi, Slli, Srli, Srai, Addiw, Slliw, Srliw}
use Rattle.xv_isa.specs.declared.rows.Op.TheVariants.{Sraiw, Add, Sll, Slt, Sltu, Xor, Srl, Or, And}
use Rattle.xv_isa.specs.declared.rows.Op.TheVariants.{Sub, Sra, Mul, Mulh, Mulhsu, Mulhu, Div, Divu}
use Rattle.xv_isa.specs.declared.rows.Op.TheVariants.{Rem, Remu, Addw, Sllw, Srlw, Subw, Sraw, Mulw}
use Rattle.xv_isa.specs.declared.rows.Op.TheVariants.{Divw, Divuw, Remw, Remuw, Fence, FenceI}
use Rattle.xv_isa.specs.declared.rows.Op.TheVariants.{Ecall, Ebreak, Sret, Wfi, SfenceVma, Csrrw}
use Rattle.xv_isa.specs.declared.rows.Op.TheVariants.{Csrrs, Csrrc, Csrrwi, Csrrsi, Csrrci, LrW}
use Rattle.xv_isa.specs.declared.rows.Op.TheVariants.{LrD, ScW, ScD, AmoswapW, AmoswapD, AmoaddW}
use Rattle.xv_isa.specs.declared.rows.Op.TheVariants.{AmoaddD, AmoxorW, AmoxorD, AmoandW, AmoandD}
use Rattle.xv_isa.specs.declared.rows.Op.TheVariants.{AmoorW, AmoorD, AmominW, AmominD, AmomaxW}
use Rattle.xv_isa.specs.declared.rows.Op.TheVariants.{AmomaxD, AmominuW, AmominuD, AmomaxuW}
use Rattle.xv_isa.specs.declared.rows.Op.TheVariants.{AmomaxuD}
use Rattle.xv_isa.specs.Operands.{sign_extended}
use Rattle.xv_isa.specs.Results.{result_of, residue, signed_at}
use Rattle.xv_isa.specs.Rows.{operation_at}

-- a plain access to memory: `width` bytes at a virtual address. A load extends them with their sign
-- or with zeros into rd
pub data Access : Type 0 where
  Load : (width : ℕ) → (signed : Bool) → (address : ℕ) → (rd : ℕ) → Access
  Store : (width : ℕ) → (address : ℕ) → (value : ℕ) → Access

-- what becomes of a CSR: a number written, bits set, bits cleared, or nothing
pub data CsrChange : Type 0 where
  Written : (value : ℕ) → CsrChange
  BitsSet : (value : ℕ) → CsrChange
  BitsCleared : (value : ℕ) → CsrChange
  Unwritten : CsrChange

-- what an instruction asks. Where it isn't said otherwise the hart goes on at the next instruction.
-- Where rd is 0 no register is written
pub data Action : Type 0 where
  -- rd becomes the value
  Set : (rd : ℕ) → (value : ℕ) → Action
  -- the hart goes on at the target, and rd becomes the link. A taken branch links x0
  Jump : (target : ℕ) → (rd : ℕ) → (link : ℕ) → Action
  -- a load or a store
  Plain : Access → Action
  -- LR: rd becomes the sign extension of the bytes, and they are reserved
  LoadReserved : (width : ℕ) → (address : ℕ) → (rd : ℕ) → Action
  -- SC: the low bytes of the value are stored where the reservation is held, and rd becomes 0, else
  -- 1
  StoreConditional : (width : ℕ) → (address : ℕ) → (value : ℕ) → (rd : ℕ) → Action
  -- an AMO: rd becomes the sign extension of the old bytes, and the low bytes of the operation's
  -- result on it and the value are stored
  Modify : (op : Op) → (width : ℕ) → (address : ℕ) → (value : ℕ) → (rd : ℕ) → Action
  -- rd becomes the CSR's old value, and the CSR changes
  AccessCsr : (number : ℕ) → (change : CsrChange) → (rd : ℕ) → Action
  -- SFENCE.VMA
  FenceTranslations : Action
  -- a fence of memory or instructions, or a branch that isn't taken: nothing
  Continue : Action
  -- ECALL, EBREAK, SRET, WFI
  EnvironmentCall : Action
  Breakpoint : Action
  SupervisorReturn : Action
  WaitForInterrupt : Action

-- ---- parts

-- the value of a register
abbrev pub register : List ℕ → ℕ → ℕ
register registers k = if k == 0 then 0 else slice_index registers k

-- a number moved by an immediate, modulo 2^64
abbrev pub moved : ℕ → ℤ → ℕ
moved n z = (n + residue 64 z) % 2 ^ 64

-- n bytes, extended to 64 bits with their sign or with zeros
abbrev pub extended : Bool → ℕ → ℕ → ℕ
extended true width n = residue 64 (sign_extended (8 * width) n)
extended false width n = n

-- the low bytes of a number
abbrev pub low_bytes : ℕ → ℕ → ℕ
low_bytes width n = n % 2 ^ (8 * width)

-- ---- kinds of rows

-- rs1 with rs2
abbrev pub of_registers : Op → Insn → List ℕ → Action
of_registers o i rs = Set i.rd (result_of o (register rs i.rs1) (register rs i.rs2))

-- rs1 with the immediate or the shift amount
abbrev pub of_immediate : Op → Insn → List ℕ → Action
of_immediate o i rs = Set i.rd (result_of o (register rs i.rs1) (residue 64 i.imm))

abbrev pub branch_if : Bool → Insn → (pc next : ℕ) → Action
branch_if taken i pc next = if taken then Jump (moved pc i.imm) 0 next else Continue

abbrev pub load_at : ℕ → Bool → Insn → List ℕ → Action
load_at width signed i rs = Plain (Load width signed (moved (register rs i.rs1) i.imm) i.rd)

abbrev pub store_at : ℕ → Insn → List ℕ → Action
store_at width i rs =
    Plain (Store width (moved (register rs i.rs1) i.imm) (low_bytes width (register rs i.rs2)))

abbrev pub modify_at : Op → ℕ → Insn → List ℕ → Action
modify_at o width i rs = Modify o width (register rs i.rs1) (register rs i.rs2) i.rd

-- a register's number that clears or sets is 0: nothing is written
abbrev pub unless_zero : ℕ → CsrChange → CsrChange
unless_zero field change = if field == 0 then Unwritten else change

-- the CSR that the immediate names
abbrev pub access_csr : CsrChange → Insn → Action
access_csr change i = AccessCsr (residue 64 i.imm) change i.rd

abbrev pub equal : ℕ → ℕ → Bool
equal a b = a == b

abbrev pub below_signed : ℕ → ℕ → Bool
below_signed a b = int_lt (signed_at 64 a) (signed_at 64 b)

-- ---- the effect of an operation, row by row

abbrev pub effect : Op → Insn → List ℕ → (pc next : ℕ) → Action
effect Lui i rs pc next = Set i.rd (result_of Lui 0 (residue 64 i.imm))
effect Auipc i rs pc next = Set i.rd (result_of Auipc pc (residue 64 i.imm))
effect Jal i rs pc next = Jump (moved pc i.imm) i.rd next
effect Jalr i rs pc next = Jump (moved (register rs i.rs1) i.imm / 2 * 2) i.rd next
effect Beq i rs pc next = branch_if (equal (register rs i.rs1) (register rs i.rs2)) i pc next
effect Bne i rs pc next = branch_if (not (equal (register rs i.rs1) (register rs i.rs2))) i pc next
effect Blt i rs pc next = branch_if (below_signed (register rs i.rs1) (register rs i.rs2)) i pc next
effect Bge i rs pc next =
    branch_if (not (below_signed (register rs i.rs1) (register rs i.rs2))) i pc next
effect Bltu i rs pc next = branch_if (nat_lt (register rs i.rs1) (register rs i.rs2)) i pc next
effect Bgeu i rs pc next =
    branch_if (not (nat_lt (register rs i.rs1) (register rs i.rs2))) i pc next
effect Lb i rs pc next = load_at 1 true i rs
effect Lh i rs pc next = load_at 2 true i rs
effect Lw i rs pc next = load_at 4 true i rs
effect Ld i rs pc next = load_at 8 true i rs
effect Lbu i rs pc next = load_at 1 false i rs
effect Lhu i rs pc next = load_at 2 false i rs
effect Lwu i rs pc next = load_at 4 false i rs
effect Sb i rs pc next = store_at 1 i rs
effect Sh i rs pc next = store_at 2 i rs
effect Sw i rs pc next = store_at 4 i rs
effect Sd i rs pc next = store_at 8 i rs
effect Addi i rs pc next = of_immediate Addi i rs
effect Slti i rs pc next = of_immediate Slti i rs
effect Sltiu i rs pc next = of_immediate Sltiu i rs
effect Xori i rs pc next = of_immediate Xori i rs
effect Ori i rs pc next = of_immediate Ori i rs
effect Andi i rs pc next = of_immediate Andi i rs
effect Slli i rs pc next = of_immediate Slli i rs
effect Srli i rs pc next = of_immediate Srli i rs
effect Srai i rs pc next = of_immediate Srai i rs
effect Addiw i rs pc next = of_immediate Addiw i rs
effect Slliw i rs pc next = of_immediate Slliw i rs
effect Srliw i rs pc next = of_immediate Srliw i rs
effect Sraiw i rs pc next = of_immediate Sraiw i rs
effect Add i rs pc next = of_registers Add i rs
effect Sll i rs pc next = of_registers Sll i rs
effect Slt i rs pc next = of_registers Slt i rs
effect Sltu i rs pc next = of_registers Sltu i rs
effect Xor i rs pc next = of_registers Xor i rs
effect Srl i rs pc next = of_registers Srl i rs
effect Or i rs pc next = of_registers Or i rs
effect And i rs pc next = of_registers And i rs
effect Sub i rs pc next = of_registers Sub i rs
effect Sra i rs pc next = of_registers Sra i rs
effect Mul i rs pc next = of_registers Mul i rs
effect Mulh i rs pc next = of_registers Mulh i rs
effect Mulhsu i rs pc next = of_registers Mulhsu i rs
effect Mulhu i rs pc next = of_registers Mulhu i rs
effect Div i rs pc next = of_registers Div i rs
effect Divu i rs pc next = of_registers Divu i rs
effect Rem i rs pc next = of_registers Rem i rs
effect Remu i rs pc next = of_registers Remu i rs
effect Addw i rs pc next = of_registers Addw i rs
effect Sllw i rs pc next = of_registers Sllw i rs
effect Srlw i rs pc next = of_registers Srlw i rs
effect Subw i rs pc next = of_registers Subw i rs
effect Sraw i rs pc next = of_registers Sraw i rs
effect Mulw i rs pc next = of_registers Mulw i rs
effect Divw i rs pc next = of_registers Divw i rs
effect Divuw i rs pc next = of_registers Divuw i rs
effect Remw i rs pc next = of_registers Remw i rs
effect Remuw i rs pc next = of_registers Remuw i rs
effect Fence i rs pc next = Continue
effect FenceI i rs pc next = Continue
effect Ecall i rs pc next = EnvironmentCall
effect Ebreak i rs pc next = Breakpoint
effect Sret i rs pc next = SupervisorReturn
effect Wfi i rs pc next = WaitForInterrupt
effect SfenceVma i rs pc next = FenceTranslations
effect Csrrw i rs pc next = access_csr (Written (register rs i.rs1)) i
effect Csrrs i rs pc next = access_csr (unless_zero i.rs1 (BitsSet (register rs i.rs1))) i
effect Csrrc i rs pc next = access_csr (unless_zero i.rs1 (BitsCleared (register rs i.rs1))) i
effect Csrrwi i rs pc next = access_csr (Written i.rs1) i
effect Csrrsi i rs pc next = access_csr (unless_zero i.rs1 (BitsSet i.rs1)) i
effect Csrrci i rs pc next = access_csr (unless_zero i.rs1 (BitsCleared i.rs1)) i
effect LrW i rs pc next = LoadReserved 4 (register rs i.rs1) i.rd
effect LrD i rs pc next = LoadReserved 8 (register rs i.rs1) i.rd
effect ScW i rs pc next =
    StoreConditional 4 (register rs i.rs1) (low_bytes 4 (register rs i.rs2)) i.rd
effect ScD i rs pc next =
    StoreConditional 8 (register rs i.rs1) (low_bytes 8 (register rs i.rs2)) i.rd
effect AmoswapW i rs pc next = modify_at AmoswapW 4 i rs
effect AmoswapD i rs pc next = modify_at AmoswapD 8 i rs
effect AmoaddW i rs pc next = modify_at AmoaddW 4 i rs
effect AmoaddD i rs pc next = modify_at AmoaddD 8 i rs
effect AmoxorW i rs pc next = modify_at AmoxorW 4 i rs
effect AmoxorD i rs pc next = modify_at AmoxorD 8 i rs
effect AmoandW i rs pc next = modify_at AmoandW 4 i rs
effect AmoandD i rs pc next = modify_at AmoandD 8 i rs
effect AmoorW i rs pc next = modify_at AmoorW 4 i rs
effect AmoorD i rs pc next = modify_at AmoorD 8 i rs
effect AmominW i rs pc next = modify_at AmominW 4 i rs
effect AmominD i rs pc next = modify_at AmominD 8 i rs
effect AmomaxW i rs pc next = modify_at AmomaxW 4 i rs
effect AmomaxD i rs pc next = modify_at AmomaxD 8 i rs
effect AmominuW i rs pc next = modify_at AmominuW 4 i rs
effect AmominuD i rs pc next = modify_at AmominuD 8 i rs
effect AmomaxuW i rs pc next = modify_at AmomaxuW 4 i rs
effect AmomaxuD i rs pc next = modify_at AmomaxuD 8 i rs

-- the effect of an instruction
unfoldable pub effect_of : Insn → List ℕ → (pc next : ℕ) → Action
effect_of i registers pc next = effect (operation_at i.row) i registers pc next
