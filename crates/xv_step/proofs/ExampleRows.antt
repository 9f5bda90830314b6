-- More worked rows, computed by the checker: branches, jumps, atomics, CSRs, interrupts, and
-- accesses under Sv39.
use Rattle.std.proofs.Common.{◌≡◌, ℕ, ◌+◌, ◌^◌, List, [], ◌∷◌, map, refl}
use Rattle.xv_isa.specs.Effects.{effect_of}
use Rattle.xv_isa.specs.Operands.{decode_of}
use Rattle.xv_isa.specs.Rows.{row_of, rows, form_of, operation_at}
use Rattle.xv_csr.specs.Reset.{reset_csrs}
use Rattle.xv_csr.specs.Kept.{kept_stvec}
use Rattle.xv_csr.specs.Pending.{chosen_interrupt, pending, sip_of}
use Rattle.xv_csr.specs.Table.{csr_read, csr_written, register_of}
use Rattle.xv_csr.specs.Trap.{trap_csrs, handler, return_csrs, returns_to_user}
use Rattle.xv_step.specs.Step.{step}
use Rattle.xv_pte.specs.Entry.{kind_of}
use Rattle.xv_pte.specs.Sv39 as sv39
use Rattle.xv_step.proofs.ExampleMachine.{base, bytes_of, number_at, stored_at, bus, inputs, answer}
use Rattle.xv_step.proofs.ExampleMachine.{answered, steps, memory_of, start, in_user, with_csrs}
use Rattle.xv_step.proofs.ExampleMachine.{trap_of, registers, mode_of, mode, ran, at_x5, pc_of}
use Rattle.xv_step.proofs.ExampleMachine.{scratch, enabled, raised, tables, at_va, at_pc}

rows_of : List (List ℕ × List ℕ)
rows_of =
    -- branches of -1 and 1: signed and unsigned
    (pc_of (ran 3 (0xfff00293 ∷ 0x00100313 ∷ 0x00628463 ∷ [])), 0x8000000c ∷ [])
    ∷ (pc_of (ran 3 (0xfff00293 ∷ 0x00100313 ∷ 0x00629463 ∷ [])), 0x80000010 ∷ [])
    ∷ (pc_of (ran 3 (0xfff00293 ∷ 0x00100313 ∷ 0x0062c463 ∷ [])), 0x80000010 ∷ [])
    ∷ (pc_of (ran 3 (0xfff00293 ∷ 0x00100313 ∷ 0x0062d463 ∷ [])), 0x8000000c ∷ [])
    ∷ (pc_of (ran 3 (0xfff00293 ∷ 0x00100313 ∷ 0x0062e463 ∷ [])), 0x8000000c ∷ [])
    ∷ (pc_of (ran 3 (0xfff00293 ∷ 0x00100313 ∷ 0x0062f463 ∷ [])), 0x80000010 ∷ [])
    -- and of a number with itself
    ∷ (pc_of (ran 2 (0xfff00293 ∷ 0x00528463 ∷ [])), 0x8000000c ∷ [])
    ∷ (pc_of (ran 2 (0xfff00293 ∷ 0x00529463 ∷ [])), 0x80000008 ∷ [])
    ∷ (pc_of (ran 2 (0xfff00293 ∷ 0x0052c463 ∷ [])), 0x80000008 ∷ [])
    ∷ (pc_of (ran 2 (0xfff00293 ∷ 0x0052d463 ∷ [])), 0x8000000c ∷ [])
    ∷ (pc_of (ran 2 (0xfff00293 ∷ 0x0052e463 ∷ [])), 0x80000008 ∷ [])
    ∷ (pc_of (ran 2 (0xfff00293 ∷ 0x0052f463 ∷ [])), 0x8000000c ∷ [])
    -- JALR clears bit 0 of its target, and links; with rd its own rs1
    ∷ (pc_of (ran 3 (at_x5 (0x001280e7 ∷ []))), 0x80000020 ∷ [])
    ∷ (registers (1 ∷ []) (ran 3 (at_x5 (0x001280e7 ∷ []))), 0x8000000c ∷ [])
    ∷ (pc_of (ran 3 (at_x5 (0x004282e7 ∷ []))), 0x80000024 ∷ [])
    ∷ (registers (5 ∷ []) (ran 3 (at_x5 (0x004282e7 ∷ []))), 0x8000000c ∷ [])
    -- x0 stays 0: ADDI, a load and a link
    ∷ (registers (0 ∷ []) (ran 1 (0x00500013 ∷ [])), 0 ∷ [])
    ∷ (registers (0 ∷ []) (ran 3 (at_x5 (0xfe02b003 ∷ []))), 0 ∷ [])
    ∷ (registers (0 ∷ []) (ran 1 (0x0080006f ∷ [])), 0 ∷ [])
    -- each AMO in D: 2^63, the least, in memory, and 2^63 - 1, the greatest, in the register
    ∷ (
      registers (8 ∷ 9 ∷ [])
          (ran 8 (at_x5 (0x00100313 ∷ 0x03f31313 ∷ 0xfff30393 ∷ 0x0062b023 ∷ 0x0872b42f ∷ 0x0002b483
          ∷ []))),
      0x8000000000000000 ∷ 0x7fffffffffffffff ∷ [],
    )
    ∷ (
      registers (8 ∷ 9 ∷ [])
          (ran 8 (at_x5 (0x00100313 ∷ 0x03f31313 ∷ 0xfff30393 ∷ 0x0062b023 ∷ 0x0072b42f ∷ 0x0002b483
          ∷ []))),
      0x8000000000000000 ∷ 0xffffffffffffffff ∷ [],
    )
    ∷ (
      registers (8 ∷ 9 ∷ [])
          (ran 8 (at_x5 (0x00100313 ∷ 0x03f31313 ∷ 0xfff30393 ∷ 0x0062b023 ∷ 0x2072b42f ∷ 0x0002b483
          ∷ []))),
      0x8000000000000000 ∷ 0xffffffffffffffff ∷ [],
    )
    ∷ (
      registers (8 ∷ 9 ∷ [])
          (ran 8 (at_x5 (0x00100313 ∷ 0x03f31313 ∷ 0xfff30393 ∷ 0x0062b023 ∷ 0x6072b42f ∷ 0x0002b483
          ∷ []))),
      0x8000000000000000 ∷ 0 ∷ [],
    )
    ∷ (
      registers (8 ∷ 9 ∷ [])
          (ran 8 (at_x5 (0x00100313 ∷ 0x03f31313 ∷ 0xfff30393 ∷ 0x0062b023 ∷ 0x4072b42f ∷ 0x0002b483
          ∷ []))),
      0x8000000000000000 ∷ 0xffffffffffffffff ∷ [],
    )
    ∷ (
      registers (8 ∷ 9 ∷ [])
          (ran 8 (at_x5 (0x00100313 ∷ 0x03f31313 ∷ 0xfff30393 ∷ 0x0062b023 ∷ 0x8072b42f ∷ 0x0002b483
          ∷ []))),
      0x8000000000000000 ∷ 0x8000000000000000 ∷ [],
    )
    ∷ (
      registers (8 ∷ 9 ∷ [])
          (ran 8 (at_x5 (0x00100313 ∷ 0x03f31313 ∷ 0xfff30393 ∷ 0x0062b023 ∷ 0xa072b42f ∷ 0x0002b483
          ∷ []))),
      0x8000000000000000 ∷ 0x7fffffffffffffff ∷ [],
    )
    ∷ (
      registers (8 ∷ 9 ∷ [])
          (ran 8 (at_x5 (0x00100313 ∷ 0x03f31313 ∷ 0xfff30393 ∷ 0x0062b023 ∷ 0xc072b42f ∷ 0x0002b483
          ∷ []))),
      0x8000000000000000 ∷ 0x7fffffffffffffff ∷ [],
    )
    ∷ (
      registers (8 ∷ 9 ∷ [])
          (ran 8 (at_x5 (0x00100313 ∷ 0x03f31313 ∷ 0xfff30393 ∷ 0x0062b023 ∷ 0xe072b42f ∷ 0x0002b483
          ∷ []))),
      0x8000000000000000 ∷ 0x8000000000000000 ∷ [],
    )
    -- and in W: 2^31 and 2^31 - 1, in the low half
    ∷ (
      registers (8 ∷ 9 ∷ [])
          (ran 7 (at_x5 (0x80000337 ∷ 0xfff30393 ∷ 0x0062b023 ∷ 0x0872a42f ∷ 0x0002b483 ∷ []))),
      0xffffffff80000000 ∷ 0xffffffff7fffffff ∷ [],
    )
    ∷ (
      registers (8 ∷ 9 ∷ [])
          (ran 7 (at_x5 (0x80000337 ∷ 0xfff30393 ∷ 0x0062b023 ∷ 0x0072a42f ∷ 0x0002b483 ∷ []))),
      0xffffffff80000000 ∷ 0xffffffffffffffff ∷ [],
    )
    ∷ (
      registers (8 ∷ 9 ∷ [])
          (ran 7 (at_x5 (0x80000337 ∷ 0xfff30393 ∷ 0x0062b023 ∷ 0x2072a42f ∷ 0x0002b483 ∷ []))),
      0xffffffff80000000 ∷ 0xffffffffffffffff ∷ [],
    )
    ∷ (
      registers (8 ∷ 9 ∷ [])
          (ran 7 (at_x5 (0x80000337 ∷ 0xfff30393 ∷ 0x0062b023 ∷ 0x6072a42f ∷ 0x0002b483 ∷ []))),
      0xffffffff80000000 ∷ 0xffffffff00000000 ∷ [],
    )
    ∷ (
      registers (8 ∷ 9 ∷ [])
          (ran 7 (at_x5 (0x80000337 ∷ 0xfff30393 ∷ 0x0062b023 ∷ 0x4072a42f ∷ 0x0002b483 ∷ []))),
      0xffffffff80000000 ∷ 0xffffffffffffffff ∷ [],
    )
    ∷ (
      registers (8 ∷ 9 ∷ [])
          (ran 7 (at_x5 (0x80000337 ∷ 0xfff30393 ∷ 0x0062b023 ∷ 0x8072a42f ∷ 0x0002b483 ∷ []))),
      0xffffffff80000000 ∷ 0xffffffff80000000 ∷ [],
    )
    ∷ (
      registers (8 ∷ 9 ∷ [])
          (ran 7 (at_x5 (0x80000337 ∷ 0xfff30393 ∷ 0x0062b023 ∷ 0xa072a42f ∷ 0x0002b483 ∷ []))),
      0xffffffff80000000 ∷ 0xffffffff7fffffff ∷ [],
    )
    ∷ (
      registers (8 ∷ 9 ∷ [])
          (ran 7 (at_x5 (0x80000337 ∷ 0xfff30393 ∷ 0x0062b023 ∷ 0xc072a42f ∷ 0x0002b483 ∷ []))),
      0xffffffff80000000 ∷ 0xffffffff7fffffff ∷ [],
    )
    ∷ (
      registers (8 ∷ 9 ∷ [])
          (ran 7 (at_x5 (0x80000337 ∷ 0xfff30393 ∷ 0x0062b023 ∷ 0xe072a42f ∷ 0x0002b483 ∷ []))),
      0xffffffff80000000 ∷ 0xffffffff80000000 ∷ [],
    )
    -- CSRRC clears bits; with x0 or the immediate 0 it writes nothing, nor does CSRRSI; CSRRWI with
    -- 0 writes it
    ∷ (
      scratch (steps 2
          (with_csrs (record reset_csrs { sscratch = 0xff })
          (start (0x00f00313 ∷ 0x140330f3 ∷ [])))),
      0xff ∷ 0xf0 ∷ [],
    )
    ∷ (
      scratch (steps 1
          (with_csrs (record reset_csrs { sscratch = 0xff }) (start (0x140030f3 ∷ [])))),
      0xff ∷ 0xff ∷ [],
    )
    ∷ (
      scratch (steps 1
          (with_csrs (record reset_csrs { sscratch = 0xff }) (start (0x140070f3 ∷ [])))),
      0xff ∷ 0xff ∷ [],
    )
    ∷ (
      scratch (steps 1
          (with_csrs (record reset_csrs { sscratch = 0xff }) (start (0x140060f3 ∷ [])))),
      0xff ∷ 0xff ∷ [],
    )
    ∷ (
      scratch (steps 1
          (with_csrs (record reset_csrs { sscratch = 0xff }) (start (0x140050f3 ∷ [])))),
      0xff ∷ 0 ∷ [],
    )
    ∷ (
      scratch (steps 1
          (with_csrs (record reset_csrs { sscratch = 0xff }) (start (0x1408f0f3 ∷ [])))),
      0xff ∷ 0xee ∷ [],
    )
    -- time is read by CSRRC with x0 and by the immediate rows with 0, which write nothing
    ∷ (registers (1 ∷ []) (ran 1 (0xc01030f3 ∷ [])), 7 ∷ [])
    ∷ (registers (1 ∷ []) (ran 1 (0xc01060f3 ∷ [])), 7 ∷ [])
    ∷ (registers (1 ∷ []) (ran 1 (0xc01070f3 ∷ [])), 7 ∷ [])
    -- in U where TM is set
    ∷ (
      registers (1 ∷ [])
          (steps 1 (in_user
          (with_csrs (record reset_csrs { scounteren = 2 }) (start (0xc01020f3 ∷ []))))),
      7 ∷ [],
    )
    -- of three interrupts the external is first, then the software, then the timer; direct
    ∷ (
      trap_of (raised (enabled 0x222 0x8000_0020) (start (0x00000013 ∷ []))),
      (2 ^ 63 + 9) ∷ 0x80000000 ∷ 0 ∷ 0x80000020 ∷ [],
    )
    ∷ (
      trap_of (raised (enabled 0x22 0x8000_0020) (start (0x00000013 ∷ []))),
      (2 ^ 63 + 1) ∷ 0x80000000 ∷ 0 ∷ 0x80000020 ∷ [],
    )
    ∷ (
      trap_of (raised (enabled 0x20 0x8000_0020) (start (0x00000013 ∷ []))),
      (2 ^ 63 + 5) ∷ 0x80000000 ∷ 0 ∷ 0x80000020 ∷ [],
    )
    -- vectored, by their numbers; an exception goes to BASE
    ∷ (
      trap_of (raised (enabled 0x222 0x8000_0001) (start (0x00000013 ∷ []))),
      (2 ^ 63 + 9) ∷ 0x80000000 ∷ 0 ∷ 0x80000024 ∷ [],
    )
    ∷ (
      trap_of (raised (enabled 0x20 0x8000_0001) (start (0x00000013 ∷ []))),
      (2 ^ 63 + 5) ∷ 0x80000000 ∷ 0 ∷ 0x80000014 ∷ [],
    )
    ∷ (
      trap_of (steps 1 (with_csrs (enabled 0 0x8000_0021) (start (0x00100073 ∷ [])))),
      3 ∷ 0x80000000 ∷ 0x80000000 ∷ 0x80000020 ∷ [],
    )
    -- SRET to S, with SPIE and without
    ∷ (
      mode (steps 1
          (with_csrs
          (record reset_csrs { sepc = 0x8000_0008; sstatus = reset_csrs.sstatus + 0x120 })
          (start (0x10200073 ∷ [])))),
      0x80000008 ∷ 1 ∷ 0x22 ∷ [],
    )
    ∷ (
      mode (steps 1
          (with_csrs
          (record reset_csrs { sepc = 0x8000_0008; sstatus = reset_csrs.sstatus + 0x100 })
          (start (0x10200073 ∷ [])))),
      0x80000008 ∷ 1 ∷ 0x20 ∷ [],
    )
    -- page faults of LR, SC and AMOADD, and of a read-only page
    ∷ (
      trap_of (steps 1 (at_va 0xc0000000 (tables 0 0x2000_00cf 0x2000_0000 0 (0x1002b32f ∷ [])))),
      0xd ∷ 0x80000000 ∷ 0xc0000000 ∷ 0 ∷ [],
    )
    ∷ (
      trap_of (steps 1 (at_va 0xc0000000 (tables 0 0x2000_00cf 0x2000_0000 0 (0x1872b32f ∷ [])))),
      0xf ∷ 0x80000000 ∷ 0xc0000000 ∷ 0 ∷ [],
    )
    ∷ (
      trap_of (steps 1 (at_va 0xc0000000 (tables 0 0x2000_00cf 0x2000_0000 0 (0x0072b32f ∷ [])))),
      0xf ∷ 0x80000000 ∷ 0xc0000000 ∷ 0 ∷ [],
    )
    ∷ (
      registers (6 ∷ [])
          (steps 1 (at_va 0xc0000000 (tables 0 0x2000_00cf 0x2000_0043 0 (0x1002a32f ∷ [])))),
      0x1002a32f ∷ [],
    )
    ∷ (
      trap_of (steps 1 (at_va 0xc0000000 (tables 0 0x2000_00cf 0x2000_0043 0 (0x1872a32f ∷ [])))),
      0xf ∷ 0x80000000 ∷ 0xc0000000 ∷ 0 ∷ [],
    )
    ∷ (
      trap_of (steps 1 (at_va 0xc0000000 (tables 0 0x2000_00cf 0x2000_0043 0 (0x0072a32f ∷ [])))),
      0xf ∷ 0x80000000 ∷ 0xc0000000 ∷ 0 ∷ [],
    )
    -- a leaf into a hole, and a table in a hole: access faults
    ∷ (
      trap_of (steps 1 (at_va 0xc0000000 (tables 0 0x2000_00cf 0x1000_00cf 0 (0x0002a303 ∷ [])))),
      5 ∷ 0x80000000 ∷ 0xc0000000 ∷ 0 ∷ [],
    )
    ∷ (
      trap_of (steps 1 (at_va 0xc0000000 (tables 0 0x2000_00cf 0x1000_00cf 0 (0x0062a023 ∷ [])))),
      7 ∷ 0x80000000 ∷ 0xc0000000 ∷ 0 ∷ [],
    )
    ∷ (
      trap_of (steps 1 (at_va 0xc0000000 (tables 0 0x2000_00cf 0x1000_0001 0 (0x0002a303 ∷ [])))),
      5 ∷ 0x80000000 ∷ 0xc0000000 ∷ 0 ∷ [],
    )
    ∷ (
      trap_of (steps 1 (at_va 0xc0000000 (tables 0 0x2000_00cf 0x1000_0001 0 (0x0072a32f ∷ [])))),
      7 ∷ 0x80000000 ∷ 0xc0000000 ∷ 0 ∷ [],
    )
    -- a fetch in U from a page that isn't U's, and in S from one that is, also with SUM
    ∷ (
      trap_of (steps 1 (in_user (tables 0 0x2000_00cf 0x2000_00cf 0 (0x00100313 ∷ [])))),
      0xc ∷ 0x80000000 ∷ 0x80000000 ∷ 0 ∷ [],
    )
    ∷ (
      trap_of (steps 1 (at_pc 0xc000_0000 (tables 0 0x2000_00cf 0x2000_00df 0 (0x00100313 ∷ [])))),
      0xc ∷ 0xc0000000 ∷ 0xc0000000 ∷ 0 ∷ [],
    )
    ∷ (
      trap_of (steps 1
          (at_pc 0xc000_0000 (tables (2 ^ 18) 0x2000_00cf 0x2000_00df 0 (0x00100313 ∷ [])))),
      0xc ∷ 0xc0000000 ∷ 0xc0000000 ∷ 0 ∷ [],
    )
    -- a fetch in U from a page of U goes on
    ∷ (
      registers (6 ∷ [])
          (steps 1 (in_user (tables 0 0x2000_00df 0x2000_00cf 0 (0x00100313 ∷ [])))),
      1 ∷ [],
    )
    -- misaligned before the page fault
    ∷ (
      trap_of (steps 1 (at_va 0xc0000000 (tables 0 0x2000_00cf 0x2000_0000 0 (0x0012b303 ∷ [])))),
      4 ∷ 0x80000000 ∷ 0xc0000001 ∷ 0 ∷ [],
    )
    ∷ (
      trap_of (steps 1 (at_va 0xc0000000 (tables 0 0x2000_00cf 0x2000_0000 0 (0x0062a123 ∷ [])))),
      6 ∷ 0x80000000 ∷ 0xc0000002 ∷ 0 ∷ [],
    )
    ∷ (
      trap_of (steps 1 (at_va 0xc0000004 (tables 0 0x2000_00cf 0x2000_0000 0 (0x0072b32f ∷ [])))),
      6 ∷ 0x80000000 ∷ 0xc0000004 ∷ 0 ∷ [],
    )
    -- addresses whose bits 63:39 aren't bit 38; where they are, the entry past memory is an access
    -- fault
    ∷ (
      trap_of (steps 1
          (at_va 0x4000000000000000 (tables 0 0x2000_00cf 0x2000_00cf 0 (0x0002b303 ∷ [])))),
      0xd ∷ 0x80000000 ∷ 0x4000000000000000 ∷ 0 ∷ [],
    )
    ∷ (
      trap_of (steps 1
          (at_va 0x4000000000 (tables 0 0x2000_00cf 0x2000_00cf 0 (0x0002b303 ∷ [])))),
      0xd ∷ 0x80000000 ∷ 0x4000000000 ∷ 0 ∷ [],
    )
    ∷ (
      trap_of (steps 1
          (at_va 0x8000000000 (tables 0 0x2000_00cf 0x2000_00cf 0 (0x0062b023 ∷ [])))),
      0xf ∷ 0x80000000 ∷ 0x8000000000 ∷ 0 ∷ [],
    )
    ∷ (
      trap_of (steps 1
          (at_va 0xffffffffc0000000 (tables 0 0x2000_00cf 0x2000_00cf 0 (0x0002b303 ∷ [])))),
      5 ∷ 0x80000000 ∷ 0xffffffffc0000000 ∷ 0 ∷ [],
    )
    -- a leaf of level 1: entry 3 names the root as the next table, whose entry 2 maps 2 MiB
    ∷ (
      registers (6 ∷ [])
          (steps 1 (at_va 0xc0400000 (tables 0 0x2000_00cf 0x2000_0001 0 (0x0002a303 ∷ [])))),
      0x2a303 ∷ [],
    )
    -- a leaf of level 2 or of level 1 whose page number is no multiple of its pages
    ∷ (
      trap_of (steps 1 (at_va 0xc0000000 (tables 0 0x2000_00cf 0x2000_04cf 0 (0x0002a303 ∷ [])))),
      0xd ∷ 0x80000000 ∷ 0xc0000000 ∷ 0 ∷ [],
    )
    -- the bits for software, 9:8, may be set; bits 63:54 may not
    ∷ (
      registers (6 ∷ [])
          (steps 1 (at_va 0xc0000000 (tables 0 0x2000_00cf 0x2000_03cf 0 (0x0002a303 ∷ [])))),
      0x2a303 ∷ [],
    )
    ∷ (
      trap_of (steps 1
          (at_va 0xc0000000 (tables 0 0x2000_00cf 0x2000_00cf 0x40_0000 (0x0002a303 ∷ [])))),
      0xd ∷ 0x80000000 ∷ 0xc0000000 ∷ 0 ∷ [],
    )
    ∷ (
      trap_of (steps 1
          (at_va 0xc0000000 (tables 0 0x2000_00cf 0x2000_00cf 0x8000_0000 (0x0002a303 ∷ [])))),
      0xd ∷ 0x80000000 ∷ 0xc0000000 ∷ 0 ∷ [],
    )
    -- a pointer with D, U or A
    ∷ (
      trap_of (steps 1 (at_va 0xc0000000 (tables 0 0x2000_00cf 0x2000_0081 0 (0x0002a303 ∷ [])))),
      0xd ∷ 0x80000000 ∷ 0xc0000000 ∷ 0 ∷ [],
    )
    ∷ (
      trap_of (steps 1 (at_va 0xc0000000 (tables 0 0x2000_00cf 0x2000_0011 0 (0x0002a303 ∷ [])))),
      0xd ∷ 0x80000000 ∷ 0xc0000000 ∷ 0 ∷ [],
    )
    ∷ (
      trap_of (steps 1 (at_va 0xc0000000 (tables 0 0x2000_00cf 0x2000_0041 0 (0x0002a303 ∷ [])))),
      0xd ∷ 0x80000000 ∷ 0xc0000000 ∷ 0 ∷ [],
    )
    -- W without R, and W and X without R
    ∷ (
      trap_of (steps 1 (at_va 0xc0000000 (tables 0 0x2000_00cf 0x2000_00c5 0 (0x0062a023 ∷ [])))),
      0xf ∷ 0x80000000 ∷ 0xc0000000 ∷ 0 ∷ [],
    )
    ∷ (
      trap_of (steps 1 (at_va 0xc0000000 (tables 0 0x2000_00cf 0x2000_00cd 0 (0x0062a023 ∷ [])))),
      0xf ∷ 0x80000000 ∷ 0xc0000000 ∷ 0 ∷ [],
    )
    ∷ (
      trap_of (steps 1 (at_va 0xc0000000 (tables 0 0x2000_00cf 0x2000_00cd 0 (0x0002a303 ∷ [])))),
      0xd ∷ 0x80000000 ∷ 0xc0000000 ∷ 0 ∷ [],
    )
    -- SUM is S's alone: in U a page that isn't U's faults
    ∷ (
      trap_of (steps 1
          (in_user
          (at_va 0xc0000000 (tables (2 ^ 18) 0x2000_00df 0x2000_00cf 0 (0x0002a303 ∷ []))))),
      0xd ∷ 0x80000000 ∷ 0xc0000000 ∷ 0 ∷ [],
    )
    -- and a page of U is read in U
    ∷ (
      registers (6 ∷ [])
          (steps 1
          (in_user (at_va 0xc0000000 (tables 0 0x2000_00df 0x2000_00df 0 (0x0002a303 ∷ []))))),
      0x2a303 ∷ [],
    )
    -- MXR is of loads alone: a store to a page to be executed faults
    ∷ (
      trap_of (steps 1
          (at_va 0xc0000000 (tables (2 ^ 19) 0x2000_00cf 0x2000_00c9 0 (0x0062a023 ∷ [])))),
      0xf ∷ 0x80000000 ∷ 0xc0000000 ∷ 0 ∷ [],
    )
    -- A must be set, and D for a store
    ∷ (
      trap_of (steps 1 (at_va 0xc0000000 (tables 0 0x2000_00cf 0x2000_008f 0 (0x0002a303 ∷ [])))),
      0xd ∷ 0x80000000 ∷ 0xc0000000 ∷ 0 ∷ [],
    )
    ∷ (
      trap_of (steps 1 (at_va 0xc0000000 (tables 0 0x2000_00cf 0x2000_004f 0 (0x0062a023 ∷ [])))),
      0xf ∷ 0x80000000 ∷ 0xc0000000 ∷ 0 ∷ [],
    )
    ∷ (
      registers (6 ∷ [])
          (steps 1 (at_va 0xc0000000 (tables 0 0x2000_00cf 0x2000_004f 0 (0x0002a303 ∷ [])))),
      0x2a303 ∷ [],
    )
    ∷ []

the_rows : map (λ r. r.0) rows_of ≡ map (λ r. r.1) rows_of
unfolding start tables at_va at_pc enabled raised scratch pc_of sv39.path kind_of ran at_x5 rows_of
    in_user with_csrs trap_of registers mode mode_of steps memory_of bytes_of number_at stored_at
    bus inputs base answered answer step decode_of row_of rows form_of operation_at effect_of
    chosen_interrupt pending sip_of csr_read csr_written register_of trap_csrs handler return_csrs
    returns_to_user kept_stvec reset_csrs sv39.verdict
the_rows = refl
