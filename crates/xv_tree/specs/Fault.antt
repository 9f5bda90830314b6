-- The first rule that a tree breaks, and steps of which each may fail.
use Rattle.std.specs.Prelude.{◌≡◌, ℕ, Bool, if◌then◌else◌, List, [], ◌∷◌, Option, Some, None}
use Rattle.std.specs.Prelude.{Result, Ok, Err}
use Rattle.xv_fdt.specs.Fault.{◌>>=◌}
use Rattle.xv_tree.specs.declared.fault.PlanKind.{PlanKind}
use Rattle.xv_tree.specs.declared.fault.PlanFault.{PlanFault}
use Rattle.xv_tree.specs.declared.fault.PlanFault.TheVariants.{At, Overlap, NoMemory}

-- what follows, if the rule is kept
abbrev pub given : {A : Type 0} → Bool → PlanKind → Result A PlanKind → Result A PlanKind
given holds kind follows = if holds then follows else Err kind

-- what is there, which must be
abbrev pub needed : {A : Type 0} → PlanKind → Option A → Result A PlanKind
needed kind None = Err kind
needed kind (Some x) = Ok x

-- a rule's fault, at a node
abbrev pub fault_at : {A : Type 0} → ℕ → Result A PlanKind → Result A PlanFault
fault_at node (Ok x) = Ok x
fault_at node (Err kind) = Err (At kind node)

-- one step for each of them, in order
abbrev pub in_turn : {S X : Type 0} → (S → X → Result S PlanFault) → S → List X
    → Result S PlanFault
in_turn step state [] = Ok state
in_turn step state (x ∷ xs) = step state x >>= λ next. in_turn step next xs

-- the program answers this fault, unless it wants memory
abbrev pub Fails : {A : Type 0} → PlanFault → Result A PlanFault → Type 0
Fails (At kind node) reading = reading ≡ Err (At kind node)
Fails (Overlap i j) reading = reading ≡ Err (Overlap i j)
Fails NoMemory reading = Unit {0}

-- the program's answer, seen by view, is what the rules give
abbrev pub Gives : {X A : Type 0} → (X → A) → Result X PlanFault → Result A PlanFault → Type 0
Gives view (Ok x) reading = reading ≡ Ok (view x)
Gives view (Err fault) reading = Fails fault reading
