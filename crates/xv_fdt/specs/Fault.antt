-- The first rule that a file breaks, and steps of reading of which each may fail.
use Rattle.std.specs.Prelude.{◌≡◌, ℕ, Bool, if◌then◌else◌, Result, Ok, Err}
use Rattle.xv_fdt.specs.declared.fault.FdtKind.{FdtKind}
use Rattle.xv_fdt.specs.declared.fault.FdtFault.{FdtFault}
use Rattle.xv_fdt.specs.declared.fault.FdtFault.TheVariants.{At, NoMemory}

-- which rule, and the offset in the file
abbrev pub Fault : Type 0
Fault = FdtKind × ℕ

infixl 10 ◌>>=◌
abbrev pub ◌>>=◌ : {A B E : Type 0} → Result A E → (A → Result B E) → Result B E
(Ok x) >>= f = f x
(Err e) >>= f = Err e

-- what follows, if the rule is kept
abbrev pub given : {A : Type 0} → Bool → FdtKind → ℕ → Result A Fault → Result A Fault
given holds kind offset follows = if holds then follows else Err (kind, offset)

-- a token's fault has the token's offset
abbrev pub fault_at : {A : Type 0} → ℕ → Result A FdtKind → Result A Fault
fault_at offset (Ok x) = Ok x
fault_at offset (Err kind) = Err (kind, offset)

-- an answer of the program, seen by view, is what reading gives, unless it is want of memory
abbrev pub Fails : {Y : Type 0} → FdtFault → Result Y Fault → Type 0
Fails (At kind offset) reading = reading ≡ Err (kind, offset)
Fails NoMemory reading = Unit {0}

abbrev pub Gives : {X Y : Type 0} → (X → Y) → Result X FdtFault → Result Y Fault → Type 0
Gives view (Ok x) reading = reading ≡ Ok (view x)
Gives view (Err e) reading = Fails e reading
