-- Steps of reading of which each may fail.
use Rattle.std.specs.Prelude.{ℕ, Option, Some, None, Result, Ok, Err}
use Rattle.xv_script.specs.declared.fault.ScriptKind.{ScriptKind}

infixl 10 ◌>>=◌
abbrev pub ◌>>=◌ : {A B E : Type 0} → Result A E → (A → Result B E) → Result B E
(Ok x) >>= f = f x
(Err e) >>= f = Err e

-- what is made of what was read
abbrev pub made_of : {A B E : Type 0} → (A → B) → Result A E → Result B E
made_of make (Ok x) = Ok (make x)
made_of make (Err e) = Err e

-- what is there, or a kind of fault
abbrev pub or_kind : {A : Type 0} → ScriptKind → Option A → Result A ScriptKind
or_kind kind None = Err kind
or_kind kind (Some x) = Ok x

-- a script's fault: the number of the line, and which rule it breaks
abbrev pub Fault : Type 0
Fault = ℕ × ScriptKind

-- a line's fault has the line's number
abbrev pub fault_at : {A : Type 0} → ℕ → Result A ScriptKind → Result A Fault
fault_at number (Ok x) = Ok x
fault_at number (Err kind) = Err (number, kind)
