-- The length of an instruction, and where the next one stands (Unprivileged ISA 20191213, section
-- 1.5).
use Rattle.std.specs.Prelude.{ℕ, ◌+◌, ◌%◌, ◌^◌}

-- the bytes that a fetch reads
abbrev pub fetch_width : ℕ
fetch_width = 4

-- the bytes of the instruction that begins with this word: each has as many as a fetch reads
abbrev pub insn_length : (word : ℕ) → ℕ
insn_length word = fetch_width

-- the address of the instruction behind it
abbrev pub next_pc : (pc word : ℕ) → ℕ
next_pc pc word = (pc + insn_length word) % 2 ^ 64
