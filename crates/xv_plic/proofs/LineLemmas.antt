-- The lines of eight contexts, each at its place, and those of contexts that aren't there.
use Rattle.std.proofs.Common.{◌≡◌, ℕ, zero, suc, ◌<◌, ◌≤◌, ◌&&◌, ◌==◌, Bool, true, false, get_or}
use Rattle.std.proofs.Common.{refl, sym, subst, arith}
use Rattle.std.specs.Prelude.{nat_lt}
use Rattle.std.specs.Int.{bit_at}
use Rattle.std.proofs.lemmas.Nat.Bits.{bit_at-zero}
use Rattle.xv_base.specs.Bits.{has_bit}
use Rattle.xv_bus.specs.Plic.{PlicUnit, IsPlic, context_line, enables_of, is_above_threshold}
use Rattle.xv_bus.specs.Plic.{priority_of, threshold_of}
use Rattle.xv_plic.proofs.BelowLemmas.{some_below-none}
use Rattle.xv_plic.specs.Registers.{lines_of}

pub line_at : (plic : PlicUnit) (context : ℕ) → context < 8
    → get_or (lines_of plic) context false ≡ context_line plic context
line_at plic zero few = refl
line_at plic (suc zero) few = refl
line_at plic (suc (suc zero)) few = refl
line_at plic (suc (suc (suc zero))) few = refl
line_at plic (suc (suc (suc (suc zero)))) few = refl
line_at plic (suc (suc (suc (suc (suc zero))))) few = refl
line_at plic (suc (suc (suc (suc (suc (suc zero)))))) few = refl
line_at plic (suc (suc (suc (suc (suc (suc (suc zero))))))) few = refl
line_at plic (suc (suc (suc (suc (suc (suc (suc (suc k)))))))) few = absurd (omega arith)

-- nothing waits for a context that has no source enabled
none_above : (pending : Bool) (above : Bool) → (pending && false && above) ≡ false
none_above true above = refl
none_above false above = refl

-- a context that isn't there
pub absent_line : (plic : PlicUnit) (context : ℕ) → IsPlic plic → plic.contexts ≤ context
    → context_line plic context ≡ false
unfolding context_line
absent_line plic context held absent =
    some_below-none (is_above_threshold plic context) 64 (λ id below. none id)
  where
    none : (id : ℕ) → is_above_threshold plic context id ≡ false
    none id =
        let P : ℕ → Type 0 =
        λ enables. (has_bit id plic.pending && has_bit id enables
        && nat_lt (threshold_of plic context) (priority_of plic id)) ≡ false in
        let has_none : has_bit id 0 ≡ false = rw (bit_at-zero id) refl in
        subst P (sym (held.absent context absent).0)
        (rw has_none (none_above (has_bit id plic.pending)
        (nat_lt (threshold_of plic context) (priority_of plic id))))
