-- Fields of the supervisor CSRs by their places (Privileged Architecture 20211203, section 4.1).
use Rattle.std.specs.Prelude.{◌≡◌, ℕ, ◌*◌, ◌%◌, ◌^◌}

-- ---- sstatus (4.1.1)

-- interrupts are enabled in S
abbrev pub sie_bit : ℕ
sie_bit = 1

-- SIE before the last trap
abbrev pub spie_bit : ℕ
spie_bit = 5

-- the mode before the last trap: S where it is set, else U
abbrev pub spp_bit : ℕ
spp_bit = 8

-- S may access pages of U
abbrev pub sum_bit : ℕ
sum_bit = 18

-- loads may read pages that can be executed
abbrev pub mxr_bit : ℕ
mxr_bit = 19

-- UXL, bits 33:32, read-only: 2, for 64 bits
abbrev pub uxl : ℕ
uxl = 2 * 2 ^ 32

-- ---- stvec (4.1.2), scounteren (4.1.5), senvcfg (4.1.10)

-- the mode of stvec in which interrupts have handlers of their own
abbrev pub vectored : ℕ
vectored = 1

-- U may read time
abbrev pub tm_bit : ℕ
tm_bit = 1

-- fences of I/O imply fences of memory
abbrev pub fiom_bit : ℕ
fiom_bit = 0

-- ---- pc and sepc (4.1.7)

-- an instruction's address is a multiple of so many bytes: IALIGN (Unprivileged ISA 20191213,
-- section 1.5) is 32 bits, since there are no compressed instructions
abbrev pub instruction_alignment : ℕ
instruction_alignment = 4

abbrev pub IsInstructionAddress : ℕ → Type 0
IsInstructionAddress pc = pc % instruction_alignment ≡ 0
