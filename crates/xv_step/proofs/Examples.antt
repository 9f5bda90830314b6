-- Worked rows of the definitions, computed by the checker: short programs over 64 bytes of memory.
use Rattle.std.proofs.Common.{◌≡◌, ℕ, ◌+◌, ◌-◌, ◌*◌, ◌^◌, true, List, [], ◌∷◌, map, Some, refl}
use Rattle.std.specs.Prelude.{Option, ℤ, pos, negsuc, option_map}
use Rattle.xv_isa.specs.declared.instruction.Insn.{Insn}
use Rattle.xv_isa.specs.declared.rows.Op.{Op}
use Rattle.xv_isa.specs.declared.rows.Op.TheVariants.{Add, Addi, Auipc, Csrrw, Jal, Ld, LrD, Lui}
use Rattle.xv_isa.specs.declared.rows.Op.TheVariants.{Sb, Sd, Slli, Sw}
use Rattle.xv_isa.specs.Effects.{effect_of}
use Rattle.xv_isa.specs.Operands.{decode_of}
use Rattle.xv_isa.specs.Rows.{row_of, rows, form_of, operation_at}
use Rattle.xv_csr.specs.Reset.{reset_csrs}
use Rattle.xv_csr.specs.Kept.{kept_stvec}
use Rattle.xv_csr.specs.Pending.{chosen_interrupt, pending, sip_of}
use Rattle.xv_csr.specs.Table.{csr_read, csr_written, register_of}
use Rattle.xv_csr.specs.Trap.{trap_csrs, handler, return_csrs, returns_to_user}
use Rattle.xv_csr.specs.declared.SCsrs.{SCsrs}
use Rattle.xv_step.specs.Outcome.{Wait, Left}
use Rattle.xv_step.specs.Step.{step}
use Rattle.xv_pte.specs.Entry.{kind_of}
use Rattle.xv_pte.specs.Sv39 as sv39
use Rattle.xv_step.proofs.ExampleMachine.{base, bytes_of, number_at, stored_at, bus, inputs, answer}
use Rattle.xv_step.proofs.ExampleMachine.{answered, steps, memory_of, start, in_user, with_csrs}
use Rattle.xv_step.proofs.ExampleMachine.{mapped, trap_of, registers, mode_of, mode, word, ran}
use Rattle.xv_step.proofs.ExampleMachine.{ran_in_user, at_x5, ones}

table : List (List ℕ × List ℕ)
table =
    -- a load where there is no memory, with stvec set: the handler runs on
    (
      trap_of (ran 8 (0x00000297 ∷ 0x01828293 ∷ 0x10529073 ∷ 0x00100313 ∷ 0x02931313 ∷ 0x00033383
          ∷ 0x0000006f ∷ [])),
      5 ∷ 0x8000_0014 ∷ 0x200_0000_0000 ∷ 0x8000_0018 ∷ [],
    )
    -- LUI, DIVW by zero, REMW by zero, DIVW of the least by -1
    ∷ (
      registers (5 ∷ 6 ∷ 7 ∷ 8 ∷ 9 ∷ [])
          (ran 8
          (0x800002b7 ∷ 0x0202c33b ∷ 0xfff00393 ∷ 0x0202e43b ∷ 0x0272c4bb ∷ 0x0000006f ∷ [])),
      0xffff_ffff_8000_0000 ∷ ones ∷ ones ∷ 0xffff_ffff_8000_0000 ∷ 0xffff_ffff_8000_0000 ∷ [],
    )
    -- a word that is no row, and then a fetch at 0
    ∷ (trap_of (ran 1 (0 ∷ [])), 2 ∷ base ∷ 0 ∷ 0 ∷ [])
    ∷ (trap_of (ran 2 (0 ∷ [])), 1 ∷ 0 ∷ 0 ∷ 0 ∷ [])
    ∷ (trap_of (ran 1 (0xffff_ffff ∷ [])), 2 ∷ base ∷ 0xffff_ffff ∷ 0 ∷ [])
    -- LR.D, SD, SC.D: a store leaves the reservation
    ∷ (registers (7 ∷ []) (ran 5 (at_x5 (0x1002b32f ∷ 0x0052b023 ∷ 0x1852b3af ∷ []))), 0 ∷ [])
    ∷ (word (ran 5 (at_x5 (0x1002b32f ∷ 0x0052b023 ∷ 0x1852b3af ∷ []))), 0x8000_0020 ∷ [])
    -- LR.W, SC.D: another width
    ∷ (registers (7 ∷ []) (ran 4 (at_x5 (0x1002a32f ∷ 0x1852b3af ∷ []))), 1 ∷ [])
    -- LR.D, ECALL, SC.D: a call leaves the reservation
    ∷ (
      registers (7 ∷ 10 ∷ 11 ∷ []) (ran 5 (at_x5 (0x1002b32f ∷ 0x00000073 ∷ 0x1852b3af ∷ []))),
      0 ∷ (2 ^ 64 - 2) ∷ 0 ∷ [],
    )
    -- SC.D without a reservation stores nothing, and so does the second SC.D of two
    ∷ (registers (7 ∷ []) (ran 3 (at_x5 (0x1852b3af ∷ []))), 1 ∷ [])
    ∷ (word (ran 3 (at_x5 (0x1852b3af ∷ []))), 0 ∷ [])
    ∷ (registers (7 ∷ []) (ran 5 (at_x5 (0x1002b32f ∷ 0x1852b3af ∷ 0x1852b3af ∷ []))), 1 ∷ [])
    -- AMOADD.W of 2 to -1: the old bytes with their sign, and 4 bytes stored
    ∷ (
      registers (8 ∷ []) (ran 6 (at_x5 (0xfff00313 ∷ 0x0062b023 ∷ 0x00200393 ∷ 0x0072a42f ∷ []))),
      ones ∷ [],
    )
    ∷ (
      word (ran 6 (at_x5 (0xfff00313 ∷ 0x0062b023 ∷ 0x00200393 ∷ 0x0072a42f ∷ []))),
      0xffff_ffff_0000_0001 ∷ [],
    )
    -- LB extends with the sign, LBU with zeros
    ∷ (registers (9 ∷ []) (ran 5 (at_x5 (0xfff00313 ∷ 0x0062b023 ∷ 0x00028483 ∷ []))), ones ∷ [])
    ∷ (registers (9 ∷ []) (ran 5 (at_x5 (0xfff00313 ∷ 0x0062b023 ∷ 0x0002c483 ∷ []))), 255 ∷ [])
    -- misaligned: LD, SD, and a jump, which writes no link
    ∷ (trap_of (ran 2 (0x00000297 ∷ 0x0012b303 ∷ [])), 4 ∷ 0x8000_0004 ∷ 0x8000_0001 ∷ 0 ∷ [])
    ∷ (trap_of (ran 2 (0x00000297 ∷ 0x0052b223 ∷ [])), 6 ∷ 0x8000_0004 ∷ 0x8000_0004 ∷ 0 ∷ [])
    ∷ (trap_of (ran 1 (0x006000ef ∷ [])), 0 ∷ base ∷ 0x8000_0006 ∷ 0 ∷ [])
    ∷ (registers (1 ∷ []) (ran 1 (0x006000ef ∷ [])), 0 ∷ [])
    -- no memory at 0: SD, SC.D without a reservation, LR.D, AMOADD.D
    ∷ (trap_of (ran 1 (0x00003023 ∷ [])), 7 ∷ base ∷ 0 ∷ 0 ∷ [])
    ∷ (trap_of (ran 1 (0x180033af ∷ [])), 7 ∷ base ∷ 0 ∷ 0 ∷ [])
    ∷ (trap_of (ran 1 (0x1000332f ∷ [])), 5 ∷ base ∷ 0 ∷ 0 ∷ [])
    ∷ (trap_of (ran 1 (0x0050332f ∷ [])), 7 ∷ base ∷ 0 ∷ 0 ∷ [])
    -- EBREAK; in U: ECALL, SRET, WFI, SFENCE.VMA, a read of sstatus, and one of time with
    -- scounteren 0
    ∷ (trap_of (ran 1 (0x00100073 ∷ [])), 3 ∷ base ∷ base ∷ 0 ∷ [])
    ∷ (trap_of (ran_in_user (0x00000073 ∷ [])), 8 ∷ base ∷ 0 ∷ 0 ∷ [])
    ∷ (trap_of (ran_in_user (0x10200073 ∷ [])), 2 ∷ base ∷ 0x10200073 ∷ 0 ∷ [])
    ∷ (trap_of (ran_in_user (0x10500073 ∷ [])), 2 ∷ base ∷ 0x10500073 ∷ 0 ∷ [])
    ∷ (trap_of (ran_in_user (0x12000073 ∷ [])), 2 ∷ base ∷ 0x12000073 ∷ 0 ∷ [])
    ∷ (trap_of (ran_in_user (0x100020f3 ∷ [])), 2 ∷ base ∷ 0x100020f3 ∷ 0 ∷ [])
    ∷ (trap_of (ran_in_user (0xc01020f3 ∷ [])), 2 ∷ base ∷ 0xc01020f3 ∷ 0 ∷ [])
    -- in S: a read of time, a write of it, and a number that no CSR has
    ∷ (registers (1 ∷ []) (ran 1 (0xc01020f3 ∷ [])), 7 ∷ [])
    ∷ (trap_of (ran 1 (0xc0101073 ∷ [])), 2 ∷ base ∷ 0xc0101073 ∷ 0 ∷ [])
    ∷ (trap_of (ran 1 (0x7c001073 ∷ [])), 2 ∷ base ∷ 0x7c001073 ∷ 0 ∷ [])
    -- a trap from S and one from U: SPP, SPIE and SIE
    ∷ (mode (ran 1 (0x00100073 ∷ [])), 0 ∷ 1 ∷ 256 ∷ [])
    ∷ (mode (ran_in_user (0x00100073 ∷ [])), 0 ∷ 1 ∷ 0 ∷ [])
    -- SRET to U, where SPP is 0 and SPIE 1
    ∷ (
      mode (steps 1
          (with_csrs (record reset_csrs { sepc = 0x8000_0008; sstatus = reset_csrs.sstatus + 32 })
          (start (0x10200073 ∷ [])))),
      0x8000_0008 ∷ 0 ∷ 34 ∷ [],
    )
    -- the software interrupt, vectored: taken in S where SIE is 1 and in U always
    ∷ (
      trap_of (steps 1 (with_csrs (software (reset_csrs.sstatus + 2)) (start (0x00000013 ∷ [])))),
      (2 ^ 63 + 1) ∷ base ∷ 0 ∷ 0x8000_0024 ∷ [],
    )
    ∷ (
      trap_of (steps 1 (with_csrs (software reset_csrs.sstatus) (start (0x00000013 ∷ [])))),
      0 ∷ 0 ∷ 0 ∷ 0x8000_0004 ∷ [],
    )
    ∷ (
      trap_of (steps 1
          (in_user (with_csrs (software reset_csrs.sstatus) (start (0x00000013 ∷ []))))),
      (2 ^ 63 + 1) ∷ base ∷ 0 ∷ 0x8000_0024 ∷ [],
    )
    -- SD, SC.D and AMOADD.D where nothing may be written: x5 is the address of offset 56; LD reads
    -- there
    ∷ (
      trap_of (ran 3 (0x00000297 ∷ 0x03828293 ∷ 0x0052b023 ∷ [])),
      7 ∷ 0x8000_0008 ∷ 0x8000_0038 ∷ 0 ∷ [],
    )
    ∷ (
      trap_of (ran 3 (0x00000297 ∷ 0x03828293 ∷ 0x1852b3af ∷ [])),
      7 ∷ 0x8000_0008 ∷ 0x8000_0038 ∷ 0 ∷ [],
    )
    ∷ (
      trap_of (ran 3 (0x00000297 ∷ 0x03828293 ∷ 0x0052b32f ∷ [])),
      7 ∷ 0x8000_0008 ∷ 0x8000_0038 ∷ 0 ∷ [],
    )
    ∷ (trap_of (ran 3 (0x00000297 ∷ 0x03828293 ∷ 0x0002b303 ∷ [])), 0 ∷ 0 ∷ 0 ∷ 0x8000_000c ∷ [])
    -- page faults: LD, SD and a fetch at 0xC0000000, whose entry is 0 but for its page
    ∷ (
      trap_of (steps 3 (mapped 0 0 (at_entry 3 0x0002b303))),
      13 ∷ 0x8000_0008 ∷ 0xc000_0000 ∷ 0 ∷ [],
    )
    ∷ (
      trap_of (steps 3 (mapped 0 0 (at_entry 3 0x0002b023))),
      15 ∷ 0x8000_0008 ∷ 0xc000_0000 ∷ 0 ∷ [],
    )
    ∷ (
      trap_of (steps 4 (mapped 0 0 (at_entry 3 0x00028067))),
      12 ∷ 0xc000_0000 ∷ 0xc000_0000 ∷ 0 ∷ [],
    )
    -- an entry without memory is an access fault of the access's kind
    ∷ (trap_of (steps 3 (mapped 0 0 (at_entry 8 0x0002b303))), 5 ∷ 0x8000_0008 ∷ 2 ^ 33 ∷ 0 ∷ [])
    ∷ (trap_of (steps 3 (mapped 0 0 (at_entry 8 0x0002b023))), 7 ∷ 0x8000_0008 ∷ 2 ^ 33 ∷ 0 ∷ [])
    ∷ (trap_of (steps 4 (mapped 0 0 (at_entry 8 0x00028067))), 1 ∷ 2 ^ 33 ∷ 2 ^ 33 ∷ 0 ∷ [])
    -- LW of a page of U without SUM (18) and with it, and of one to be executed alone without MXR
    -- (19) and with it
    ∷ (
      trap_of (steps 3 (mapped 0 0xdf (at_entry 3 0x0002a303))),
      13 ∷ 0x8000_0008 ∷ 0xc000_0000 ∷ 0 ∷ [],
    )
    ∷ (registers (6 ∷ []) (steps 3 (mapped (2 ^ 18) 0xdf (at_entry 3 0x0002a303))), 0x00300293 ∷ [])
    ∷ (
      trap_of (steps 3 (mapped (2 ^ 18) 0x49 (at_entry 3 0x0002a303))),
      13 ∷ 0x8000_0008 ∷ 0xc000_0000 ∷ 0 ∷ [],
    )
    ∷ (registers (6 ∷ []) (steps 3 (mapped (2 ^ 19) 0x49 (at_entry 3 0x0002a303))), 0x00300293 ∷ [])
    ∷ []
  where
    -- x5 is the first address of an entry's GiB, the entry being below 16, and the next word uses
    -- it
    at_entry : ℕ → ℕ → List ℕ
    at_entry entry word = (0x00000293 + entry * 2 ^ 20) ∷ 0x01e29293 ∷ word ∷ 0x0000006f ∷ []

    software : ℕ → SCsrs
    software status =
        record reset_csrs { ssip = true; sie = 2; stvec = 0x8000_0021; sstatus = status }

the_rows : map (λ r. r.0) table ≡ map (λ r. r.1) table
unfolding start mapped sv39.path kind_of ran ran_in_user at_x5 ones table in_user with_csrs trap_of
    registers mode mode_of word steps memory_of bytes_of number_at stored_at bus inputs base
    answered answer step decode_of row_of rows form_of operation_at effect_of chosen_interrupt
    pending sip_of csr_read csr_written register_of trap_csrs handler return_csrs returns_to_user
    kept_stvec reset_csrs sv39.verdict
the_rows = refl

-- WFI in S is left to who asks for the step
wait : step bus inputs (start (0x10500073 ∷ [])) ≡ Left (Wait 0x8000_0004)
unfolding start memory_of bytes_of number_at bus inputs base step decode_of row_of rows form_of
    operation_at effect_of chosen_interrupt pending sip_of reset_csrs sv39.verdict
wait = refl

-- ---- words as they read: the operation, rd, rs1, rs2 and the immediate

record Reading : Type 0 where
  op : Op
  rd : ℕ
  rs1 : ℕ
  rs2 : ℕ
  imm : ℤ

reading_of : Insn → Reading
reading_of i = record { op = operation_at i.row; rd = i.rd; rs1 = i.rs1; rs2 = i.rs2; imm = i.imm }

reads : Op → ℕ → ℕ → ℕ → ℤ → Option Reading
reads op rd rs1 rs2 imm = Some (record { op = op; rd = rd; rs1 = rs1; rs2 = rs2; imm = imm })

words : List (ℕ × Option Reading)
words =
    (0x00000297, reads Auipc 5 0 0 (pos 0))
    ∷ (0x00003023, reads Sd 0 0 0 (pos 0))
    ∷ (0x000053b7, reads Lui 7 0 0 (pos 0x5000))
    ∷ (0x00033383, reads Ld 7 6 0 (pos 0))
    ∷ (0x000803b7, reads Lui 7 0 0 (pos 0x80000))
    ∷ (0x00100313, reads Addi 6 0 0 (pos 1))
    ∷ (0x00100337, reads Lui 6 0 0 (pos 0x100000))
    ∷ (0x00128293, reads Addi 5 5 0 (pos 1))
    ∷ (0x00138393, reads Addi 7 7 0 (pos 1))
    ∷ (0x00730023, reads Sb 0 6 7 (pos 0))
    ∷ (0x00730333, reads Add 6 6 7 (pos 0))
    ∷ (0x00732023, reads Sw 0 6 7 (pos 0))
    ∷ (0x01028293, reads Addi 5 5 0 (pos 0x10))
    ∷ (0x01828293, reads Addi 5 5 0 (pos 0x18))
    ∷ (0x02828293, reads Addi 5 5 0 (pos 0x28))
    ∷ (0x02931313, reads Slli 6 6 0 (pos 0x29))
    ∷ (0x03f31313, reads Slli 6 6 0 (pos 0x3f))
    ∷ (0x04800393, reads Addi 7 0 0 (pos 0x48))
    ∷ (0x10000337, reads Lui 6 0 0 (pos 0x10000000))
    ∷ (0x100033af, reads LrD 7 0 0 (pos 0))
    ∷ (0x10529073, reads Csrrw 0 5 0 (pos 0x105))
    ∷ (0x18031073, reads Csrrw 0 6 0 (pos 0x180))
    ∷ (0x55538393, reads Addi 7 7 0 (pos 0x555))
    ∷ (0xffdff06f, reads Jal 0 0 0 (negsuc 3))
    ∷ []

words_read : map (λ w. option_map reading_of (decode_of w.0)) words ≡ map (λ w. w.1) words
unfolding words reads reading_of decode_of row_of rows form_of operation_at
words_read = refl
