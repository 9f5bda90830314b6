-- Which plain access an instruction makes isn't said by its own address, nor by the next one's; an
-- atomic makes none.
use Rattle.std.proofs.Common.{◌≡◌, ℕ, Bool, true, false, not, ltb, List, None, refl, sym, ap, ◌∙◌}
use Rattle.xv_isa.specs.declared.instruction.Insn.{Insn}
use Rattle.xv_isa.specs.declared.rows.Op.{Op}
use Rattle.xv_isa.specs.declared.rows.Op.TheVariants.{Lui, Auipc, Jal, Jalr, Beq, Bne, Blt, Bge}
use Rattle.xv_isa.specs.declared.rows.Op.TheVariants.{Bltu, Bgeu, Lb, Lh, Lw, Ld, Lbu, Lhu, Lwu, Sb}
use Rattle.xv_isa.specs.declared.rows.Op.TheVariants.{Sh, Sw, Sd, Addi, Slti, Sltiu, Xori, Ori}
use Rattle.xv_isa.specs.declared.rows.Op.TheVariants.{Andi, Slli, Srli, Srai, Addiw, Slliw, Srliw}
use Rattle.xv_isa.specs.declared.rows.Op.TheVariants.{Sraiw, Add, Sll, Slt, Sltu, Xor, Srl, Or, And}
use Rattle.xv_isa.specs.declared.rows.Op.TheVariants.{Sub, Sra, Mul, Mulh, Mulhsu, Mulhu, Div, Divu}
use Rattle.xv_isa.specs.declared.rows.Op.TheVariants.{Rem, Remu, Addw, Sllw, Srlw, Subw, Sraw, Mulw}
use Rattle.xv_isa.specs.declared.rows.Op.TheVariants.{Divw, Divuw, Remw, Remuw, Fence, FenceI}
use Rattle.xv_isa.specs.declared.rows.Op.TheVariants.{Ecall, Ebreak, Sret, Wfi, SfenceVma, Csrrw}
use Rattle.xv_isa.specs.declared.rows.Op.TheVariants.{Csrrs, Csrrc, Csrrwi, Csrrsi, Csrrci, LrW}
use Rattle.xv_isa.specs.declared.rows.Op.TheVariants.{LrD, ScW, ScD, AmoswapW, AmoswapD, AmoaddW}
use Rattle.xv_isa.specs.declared.rows.Op.TheVariants.{AmoaddD, AmoxorW, AmoxorD, AmoandW, AmoandD}
use Rattle.xv_isa.specs.declared.rows.Op.TheVariants.{AmoorW, AmoorD, AmominW, AmominD, AmomaxW}
use Rattle.xv_isa.specs.declared.rows.Op.TheVariants.{AmomaxD, AmominuW, AmominuD, AmomaxuW}
use Rattle.xv_isa.specs.declared.rows.Op.TheVariants.{AmomaxuD}
use Rattle.xv_isa.specs.Effects.{Action, branch_if, effect, effect_of, equal, below_signed}
use Rattle.xv_isa.specs.Effects.{register}
use Rattle.xv_isa.specs.Rows.{operation_at}
use Rattle.xv_step.proofs.AskLemmas.{IsAtomic, LoadReserved, StoreConditional, Modify}
use Rattle.xv_emul.specs.Emulation.{access_of, plain_of}

branch_anywhere : (taken : Bool) (i : Insn) (pc next : ℕ)
    → plain_of (branch_if taken i pc next) ≡ plain_of (branch_if taken i 0 0)
branch_anywhere true i pc next = refl
branch_anywhere false i pc next = refl

by_operation : (o : Op) (i : Insn) (rs : List ℕ) (pc next : ℕ)
    → plain_of (effect o i rs pc next) ≡ plain_of (effect o i rs 0 0)
by_operation Lui i rs pc next = refl
by_operation Auipc i rs pc next = refl
by_operation Jal i rs pc next = refl
by_operation Jalr i rs pc next = refl
by_operation Beq i rs pc next =
    branch_anywhere (equal (register rs i.rs1) (register rs i.rs2)) i pc next
by_operation Bne i rs pc next =
    branch_anywhere (not (equal (register rs i.rs1) (register rs i.rs2))) i pc next
by_operation Blt i rs pc next =
    branch_anywhere (below_signed (register rs i.rs1) (register rs i.rs2)) i pc next
by_operation Bge i rs pc next =
    branch_anywhere (not (below_signed (register rs i.rs1) (register rs i.rs2))) i pc next
by_operation Bltu i rs pc next =
    branch_anywhere (ltb (register rs i.rs1) (register rs i.rs2)) i pc next
by_operation Bgeu i rs pc next =
    branch_anywhere (not (ltb (register rs i.rs1) (register rs i.rs2))) i pc next
by_operation Lb i rs pc next = refl
by_operation Lh i rs pc next = refl
by_operation Lw i rs pc next = refl
by_operation Ld i rs pc next = refl
by_operation Lbu i rs pc next = refl
by_operation Lhu i rs pc next = refl
by_operation Lwu i rs pc next = refl
by_operation Sb i rs pc next = refl
by_operation Sh i rs pc next = refl
by_operation Sw i rs pc next = refl
by_operation Sd i rs pc next = refl
by_operation Addi i rs pc next = refl
by_operation Slti i rs pc next = refl
by_operation Sltiu i rs pc next = refl
by_operation Xori i rs pc next = refl
by_operation Ori i rs pc next = refl
by_operation Andi i rs pc next = refl
by_operation Slli i rs pc next = refl
by_operation Srli i rs pc next = refl
by_operation Srai i rs pc next = refl
by_operation Addiw i rs pc next = refl
by_operation Slliw i rs pc next = refl
by_operation Srliw i rs pc next = refl
by_operation Sraiw i rs pc next = refl
by_operation Add i rs pc next = refl
by_operation Sll i rs pc next = refl
by_operation Slt i rs pc next = refl
by_operation Sltu i rs pc next = refl
by_operation Xor i rs pc next = refl
by_operation Srl i rs pc next = refl
by_operation Or i rs pc next = refl
by_operation And i rs pc next = refl
by_operation Sub i rs pc next = refl
by_operation Sra i rs pc next = refl
by_operation Mul i rs pc next = refl
by_operation Mulh i rs pc next = refl
by_operation Mulhsu i rs pc next = refl
by_operation Mulhu i rs pc next = refl
by_operation Div i rs pc next = refl
by_operation Divu i rs pc next = refl
by_operation Rem i rs pc next = refl
by_operation Remu i rs pc next = refl
by_operation Addw i rs pc next = refl
by_operation Sllw i rs pc next = refl
by_operation Srlw i rs pc next = refl
by_operation Subw i rs pc next = refl
by_operation Sraw i rs pc next = refl
by_operation Mulw i rs pc next = refl
by_operation Divw i rs pc next = refl
by_operation Divuw i rs pc next = refl
by_operation Remw i rs pc next = refl
by_operation Remuw i rs pc next = refl
by_operation Fence i rs pc next = refl
by_operation FenceI i rs pc next = refl
by_operation Ecall i rs pc next = refl
by_operation Ebreak i rs pc next = refl
by_operation Sret i rs pc next = refl
by_operation Wfi i rs pc next = refl
by_operation SfenceVma i rs pc next = refl
by_operation Csrrw i rs pc next = refl
by_operation Csrrs i rs pc next = refl
by_operation Csrrc i rs pc next = refl
by_operation Csrrwi i rs pc next = refl
by_operation Csrrsi i rs pc next = refl
by_operation Csrrci i rs pc next = refl
by_operation LrW i rs pc next = refl
by_operation LrD i rs pc next = refl
by_operation ScW i rs pc next = refl
by_operation ScD i rs pc next = refl
by_operation AmoswapW i rs pc next = refl
by_operation AmoswapD i rs pc next = refl
by_operation AmoaddW i rs pc next = refl
by_operation AmoaddD i rs pc next = refl
by_operation AmoxorW i rs pc next = refl
by_operation AmoxorD i rs pc next = refl
by_operation AmoandW i rs pc next = refl
by_operation AmoandD i rs pc next = refl
by_operation AmoorW i rs pc next = refl
by_operation AmoorD i rs pc next = refl
by_operation AmominW i rs pc next = refl
by_operation AmominD i rs pc next = refl
by_operation AmomaxW i rs pc next = refl
by_operation AmomaxD i rs pc next = refl
by_operation AmominuW i rs pc next = refl
by_operation AmominuD i rs pc next = refl
by_operation AmomaxuW i rs pc next = refl
by_operation AmomaxuD i rs pc next = refl

pub access_anywhere : (i : Insn) (x : List ℕ) (pc next : ℕ)
    → plain_of (effect_of i x pc next) ≡ access_of i x
unfolding access_of effect_of
access_anywhere i x pc next = by_operation (operation_at i.row) i x pc next

plain_of_atomic : (action : Action) → IsAtomic action → plain_of action ≡ None
plain_of_atomic _ (LoadReserved width va rd) = refl
plain_of_atomic _ (StoreConditional width va value rd) = refl
plain_of_atomic _ (Modify op width va value rd) = refl

pub atomic_access : (i : Insn) (x : List ℕ) (pc next : ℕ) (action : Action)
    → effect_of i x pc next ≡ action → IsAtomic action → access_of i x ≡ None
atomic_access i x pc next action is atomic =
    sym (access_anywhere i x pc next) ∙ (ap plain_of is ∙ plain_of_atomic action atomic)
