-- The calls of the Supervisor Binary Interface 1.0 that there are, by extension and function
-- (chapters 4 and 6 to 10).
use Rattle.std.specs.Prelude.{ℕ, ◌%◌, ◌^◌, ◌==◌, ◌&&◌, if◌then◌else◌, List, [], ◌∷◌, slice_index}
use Rattle.xv_sbi.specs.declared.call.Call.{Call}
use Rattle.xv_sbi.specs.declared.call.Call.TheVariants.{SpecVersion, ImplId, ImplVersion, Probe}
use Rattle.xv_sbi.specs.declared.call.Call.TheVariants.{VendorId, ArchId, MachineId, SetTimer, Ipi}
use Rattle.xv_sbi.specs.declared.call.Call.TheVariants.{Fence, HartStart, HartStop, HartStatus}
use Rattle.xv_sbi.specs.declared.call.Call.TheVariants.{HartSuspend, SystemReset, Unknown}

-- a call by the extension in a7 and the function in a6, and what it keeps of the arguments a0 to a5
pub record Row : Type 0 where
  pub extension : ℕ
  pub function : ℕ
  pub call : List ℕ → Call

abbrev pub row : ℕ → ℕ → (List ℕ → Call) → Row
row extension function call = record { extension = extension; function = function; call = call }

-- argument a0, a1 and so on
abbrev pub argument : ℕ → List ℕ → ℕ
argument number args = slice_index args number

-- the low 32 bits
abbrev pub low : ℕ → ℕ
low value = value % 2 ^ 32

abbrev pub rows : List Row
rows =
    -- base (chapter 4)
    row 0x10 0 (λ args. SpecVersion)
    ∷ row 0x10 1 (λ args. ImplId)
    ∷ row 0x10 2 (λ args. ImplVersion)
    ∷ row 0x10 3 (λ args. Probe (argument 0 args))
    ∷ row 0x10 4 (λ args. VendorId)
    ∷ row 0x10 5 (λ args. ArchId)
    ∷ row 0x10 6 (λ args. MachineId)
    -- timer (6)
    ∷ row 0x54494D45 0 (λ args. SetTimer (argument 0 args))
    -- inter-processor interrupt (7)
    ∷ row 0x735049 0 (λ args. Ipi (argument 0 args) (argument 1 args))
    -- remote fences: FENCE.I, SFENCE.VMA, and that with an ASID (8). Those of a hypervisor, 3 to 6,
    -- aren't there
    ∷ row 0x52464E43 0 (λ args. Fence (argument 0 args) (argument 1 args))
    ∷ row 0x52464E43 1 (λ args. Fence (argument 0 args) (argument 1 args))
    ∷ row 0x52464E43 2 (λ args. Fence (argument 0 args) (argument 1 args))
    -- hart state (9)
    ∷ row 0x48534D 0 (λ args. HartStart (argument 0 args) (argument 1 args) (argument 2 args))
    ∷ row 0x48534D 1 (λ args. HartStop)
    ∷ row 0x48534D 2 (λ args. HartStatus (argument 0 args))
    ∷ row 0x48534D 3 (λ args. HartSuspend (low (argument 0 args)))
    -- system reset (10)
    ∷ row 0x53525354 0 (λ args. SystemReset (low (argument 0 args)) (low (argument 1 args)))
    ∷ []

abbrev pub call_among : List Row → ℕ → ℕ → List ℕ → Call
call_among [] extension function args = Unknown
call_among (r ∷ others) extension function args =
    if r.extension == extension && r.function == function then r.call args
    else call_among others extension function args

unfoldable pub call_of : ℕ → ℕ → List ℕ → Call
call_of extension function args = call_among rows extension function args
