-- Accesses of 1, 2, 4 or 8 bytes at a multiple of them, which are all that an instruction makes.
use Rattle.std.proofs.Common.{◌≡◌, ℕ, ◌%◌, Bool, true, false, not, ltb, List, arith}
use Rattle.xv_isa.specs.declared.instruction.Insn.{Insn}
use Rattle.xv_isa.specs.declared.rows.Op.{Op}
use Rattle.xv_isa.specs.declared.rows.Op.TheVariants.{Lui, Auipc, Jal, Jalr, Beq, Bne, Blt, Bge}
use Rattle.xv_isa.specs.declared.rows.Op.TheVariants.{Bltu, Bgeu, Lb, Lh, Lw, Ld, Lbu, Lhu, Lwu, Sb}
use Rattle.xv_isa.specs.declared.rows.Op.TheVariants.{Sh, Sw, Sd, Addi, Slti, Sltiu, Xori, Ori}
use Rattle.xv_isa.specs.declared.rows.Op.TheVariants.{Andi, Slli, Srli, Srai, Addiw, Slliw, Srliw}
use Rattle.xv_isa.specs.declared.rows.Op.TheVariants.{Sraiw, Add, Sll, Slt, Sltu, Xor, Srl, Or, And}
use Rattle.xv_isa.specs.declared.rows.Op.TheVariants.{Sub, Sra, Mul, Mulh, Mulhsu, Mulhu, Div, Divu}
use Rattle.xv_isa.specs.declared.rows.Op.TheVariants.{Rem, Remu, Addw, Sllw, Srlw, Subw, Sraw, Mulw}
use Rattle.xv_isa.specs.declared.rows.Op.TheVariants.{Divw, Divuw, Remw, Remuw, Fence, FenceI}
use Rattle.xv_isa.specs.declared.rows.Op.TheVariants.{Ecall, Ebreak, Sret, Wfi, SfenceVma, Csrrw}
use Rattle.xv_isa.specs.declared.rows.Op.TheVariants.{Csrrs, Csrrc, Csrrwi, Csrrsi, Csrrci, LrW}
use Rattle.xv_isa.specs.declared.rows.Op.TheVariants.{LrD, ScW, ScD, AmoswapW, AmoswapD, AmoaddW}
use Rattle.xv_isa.specs.declared.rows.Op.TheVariants.{AmoaddD, AmoxorW, AmoxorD, AmoandW, AmoandD}
use Rattle.xv_isa.specs.declared.rows.Op.TheVariants.{AmoorW, AmoorD, AmominW, AmominD, AmomaxW}
use Rattle.xv_isa.specs.declared.rows.Op.TheVariants.{AmomaxD, AmominuW, AmominuD, AmomaxuW}
use Rattle.xv_isa.specs.declared.rows.Op.TheVariants.{AmomaxuD}
use Rattle.xv_isa.specs.Effects as effects
use Rattle.xv_isa.specs.Effects.{Action, branch_if, effect, effect_of, equal, below_signed}
use Rattle.xv_isa.specs.Effects.{register}
use Rattle.xv_isa.specs.Rows.{operation_at}

pub data IsWidth : ℕ → Type 0 where
  One : IsWidth 1
  Two : IsWidth 2
  Four : IsWidth 4
  Eight : IsWidth 8

-- so many bytes at an address that is a multiple of them
pub record IsAccess (width gpa : ℕ) : Type 0 where
  pub bytes : IsWidth width
  pub aligned : gpa % width ≡ 0

aligned_offset : (width va gpa : ℕ) → IsWidth width → va % width ≡ 0 → gpa % 4096 ≡ va % 4096
    → gpa % width ≡ 0
aligned_offset _ va gpa One aligned offset = omega arith
aligned_offset _ va gpa Two aligned offset = omega arith
aligned_offset _ va gpa Four aligned offset = omega arith
aligned_offset _ va gpa Eight aligned offset = omega arith

-- what is aligned is so at every address of the same offset in a page
pub access_at : (width va gpa : ℕ) → IsWidth width → va % width ≡ 0 → gpa % 4096 ≡ va % 4096
    → IsAccess width gpa
access_at width va gpa bytes aligned offset =
    record { bytes = bytes; aligned = aligned_offset width va gpa bytes aligned offset }

-- ---- the accesses of an instruction

abbrev pub HasWidth : Action → Type 0
HasWidth (effects.Plain (effects.Load width signed va rd)) = IsWidth width
HasWidth (effects.Plain (effects.Store width va value)) = IsWidth width
HasWidth (effects.LoadReserved width va rd) = IsWidth width
HasWidth (effects.StoreConditional width va value rd) = IsWidth width
HasWidth (effects.Modify op width va value rd) = IsWidth width
HasWidth (effects.Set rd value) = Unit {0}
HasWidth (effects.Jump target rd link) = Unit {0}
HasWidth (effects.AccessCsr number change rd) = Unit {0}
HasWidth effects.FenceTranslations = Unit {0}
HasWidth effects.Continue = Unit {0}
HasWidth effects.EnvironmentCall = Unit {0}
HasWidth effects.Breakpoint = Unit {0}
HasWidth effects.SupervisorReturn = Unit {0}
HasWidth effects.WaitForInterrupt = Unit {0}

branch_width : (taken : Bool) (i : Insn) (pc next : ℕ) → HasWidth (branch_if taken i pc next)
branch_width true i pc next = tt {0}
branch_width false i pc next = tt {0}

width_by : (o : Op) (i : Insn) (rs : List ℕ) (pc next : ℕ) → HasWidth (effect o i rs pc next)
width_by Lui i rs pc next = tt {0}
width_by Auipc i rs pc next = tt {0}
width_by Jal i rs pc next = tt {0}
width_by Jalr i rs pc next = tt {0}
width_by Beq i rs pc next = branch_width (equal (register rs i.rs1) (register rs i.rs2)) i pc next
width_by Bne i rs pc next =
    branch_width (not (equal (register rs i.rs1) (register rs i.rs2))) i pc next
width_by Blt i rs pc next =
    branch_width (below_signed (register rs i.rs1) (register rs i.rs2)) i pc next
width_by Bge i rs pc next =
    branch_width (not (below_signed (register rs i.rs1) (register rs i.rs2))) i pc next
width_by Bltu i rs pc next = branch_width (ltb (register rs i.rs1) (register rs i.rs2)) i pc next
width_by Bgeu i rs pc next =
    branch_width (not (ltb (register rs i.rs1) (register rs i.rs2))) i pc next
width_by Lb i rs pc next = One
width_by Lh i rs pc next = Two
width_by Lw i rs pc next = Four
width_by Ld i rs pc next = Eight
width_by Lbu i rs pc next = One
width_by Lhu i rs pc next = Two
width_by Lwu i rs pc next = Four
width_by Sb i rs pc next = One
width_by Sh i rs pc next = Two
width_by Sw i rs pc next = Four
width_by Sd i rs pc next = Eight
width_by Addi i rs pc next = tt {0}
width_by Slti i rs pc next = tt {0}
width_by Sltiu i rs pc next = tt {0}
width_by Xori i rs pc next = tt {0}
width_by Ori i rs pc next = tt {0}
width_by Andi i rs pc next = tt {0}
width_by Slli i rs pc next = tt {0}
width_by Srli i rs pc next = tt {0}
width_by Srai i rs pc next = tt {0}
width_by Addiw i rs pc next = tt {0}
width_by Slliw i rs pc next = tt {0}
width_by Srliw i rs pc next = tt {0}
width_by Sraiw i rs pc next = tt {0}
width_by Add i rs pc next = tt {0}
width_by Sll i rs pc next = tt {0}
width_by Slt i rs pc next = tt {0}
width_by Sltu i rs pc next = tt {0}
width_by Xor i rs pc next = tt {0}
width_by Srl i rs pc next = tt {0}
width_by Or i rs pc next = tt {0}
width_by And i rs pc next = tt {0}
width_by Sub i rs pc next = tt {0}
width_by Sra i rs pc next = tt {0}
width_by Mul i rs pc next = tt {0}
width_by Mulh i rs pc next = tt {0}
width_by Mulhsu i rs pc next = tt {0}
width_by Mulhu i rs pc next = tt {0}
width_by Div i rs pc next = tt {0}
width_by Divu i rs pc next = tt {0}
width_by Rem i rs pc next = tt {0}
width_by Remu i rs pc next = tt {0}
width_by Addw i rs pc next = tt {0}
width_by Sllw i rs pc next = tt {0}
width_by Srlw i rs pc next = tt {0}
width_by Subw i rs pc next = tt {0}
width_by Sraw i rs pc next = tt {0}
width_by Mulw i rs pc next = tt {0}
width_by Divw i rs pc next = tt {0}
width_by Divuw i rs pc next = tt {0}
width_by Remw i rs pc next = tt {0}
width_by Remuw i rs pc next = tt {0}
width_by Fence i rs pc next = tt {0}
width_by FenceI i rs pc next = tt {0}
width_by Ecall i rs pc next = tt {0}
width_by Ebreak i rs pc next = tt {0}
width_by Sret i rs pc next = tt {0}
width_by Wfi i rs pc next = tt {0}
width_by SfenceVma i rs pc next = tt {0}
width_by Csrrw i rs pc next = tt {0}
width_by Csrrs i rs pc next = tt {0}
width_by Csrrc i rs pc next = tt {0}
width_by Csrrwi i rs pc next = tt {0}
width_by Csrrsi i rs pc next = tt {0}
width_by Csrrci i rs pc next = tt {0}
width_by LrW i rs pc next = Four
width_by LrD i rs pc next = Eight
width_by ScW i rs pc next = Four
width_by ScD i rs pc next = Eight
width_by AmoswapW i rs pc next = Four
width_by AmoswapD i rs pc next = Eight
width_by AmoaddW i rs pc next = Four
width_by AmoaddD i rs pc next = Eight
width_by AmoxorW i rs pc next = Four
width_by AmoxorD i rs pc next = Eight
width_by AmoandW i rs pc next = Four
width_by AmoandD i rs pc next = Eight
width_by AmoorW i rs pc next = Four
width_by AmoorD i rs pc next = Eight
width_by AmominW i rs pc next = Four
width_by AmominD i rs pc next = Eight
width_by AmomaxW i rs pc next = Four
width_by AmomaxD i rs pc next = Eight
width_by AmominuW i rs pc next = Four
width_by AmominuD i rs pc next = Eight
width_by AmomaxuW i rs pc next = Four
width_by AmomaxuD i rs pc next = Eight

pub effect_width : (i : Insn) (rs : List ℕ) (pc next : ℕ) → HasWidth (effect_of i rs pc next)
unfolding effect_of
effect_width i rs pc next = width_by (operation_at i.row) i rs pc next
