-- What the controller can hold stays so.
use Rattle.std.proofs.Common.{◌≡◌, ℕ, zero, suc, ◌-◌, ◌^◌, ◌<◌, ◌≤◌, ◌==◌, Bool, true, false, List}
use Rattle.std.proofs.Common.{[], ◌∷◌, replicate, refl, arith, get_or-set_other, ◌∙◌}
use Rattle.std.specs.Prelude.{slice_index, slice_set}
use Rattle.std.specs.Int.RustNames.{bit_and, bit_or}
use Rattle.std.specs.Int.{bit_at}
use Rattle.std.proofs.Math.ListN.{length-set}
use Rattle.std.proofs.lemmas.Nat.Bits.{bit_at_and, bit_at_or, bit_at-pow_other, bit_at-lt}
use Rattle.xv_base.specs.Bits.{has_bit, with_bit}
use Rattle.xv_bus.specs.Plic.{PlicUnit, IsPlic, claimed, new_plic}

-- ---- bit 0

clear_bit : (bit : ℕ) → (bit == 1) ≡ false → bit < 2 → bit ≡ 0
clear_bit zero clear small = refl
clear_bit (suc zero) clear small = cc
clear_bit (suc (suc bit)) clear small = absurd (omega arith)

-- bit 0 of a mask without it
lowest : (mask : ℕ) → has_bit 0 mask ≡ false → bit_at mask 0 ≡ 0
lowest mask clear = clear_bit (bit_at mask 0) clear (bit_at-lt mask 0)

is_clear : (bit : ℕ) → bit ≡ 0 → (bit == 1) ≡ false
is_clear bit zero_bit = rw zero_bit refl

and-clear : (mask other : ℕ) → has_bit 0 mask ≡ false → has_bit 0 (bit_and mask other) ≡ false
and-clear mask other clear =
    is_clear (bit_at (bit_and mask other) 0)
    (omega (arith, bit_at_and mask other 0, lowest mask clear))

or-clear : (mask other : ℕ) → has_bit 0 mask ≡ false → has_bit 0 other ≡ false
    → has_bit 0 (bit_or mask other) ≡ false
or-clear mask other clear clear_other =
    is_clear (bit_at (bit_or mask other) 0)
    (omega (arith, bit_at_or mask other 0, lowest mask clear, lowest other clear_other))

-- another bit leaves it
pub with_bit-clear : (id : ℕ) (value : Bool) (mask : ℕ) → 0 < id → has_bit 0 mask ≡ false
    → has_bit 0 (with_bit id value mask) ≡ false
with_bit-clear id true mask source clear =
    or-clear mask (2 ^ id) clear
    (is_clear (bit_at (2 ^ id) 0) (bit_at-pow_other id 0 (λ same. omega arith)))
with_bit-clear id false mask source clear = and-clear mask (2 ^ 64 - 1 - 2 ^ id) clear

pub cleared-clear : (id mask : ℕ) → has_bit 0 mask ≡ false
    → has_bit 0 (with_bit id false mask) ≡ false
cleared-clear id mask clear = and-clear mask (2 ^ 64 - 1 - 2 ^ id) clear

-- bit 0 cleared
pub without_0-clear : (mask : ℕ) → has_bit 0 (with_bit 0 false mask) ≡ false
without_0-clear mask =
    is_clear (bit_at (bit_and mask (2 ^ 64 - 1 - 2 ^ 0)) 0)
    (omega (arith, bit_at_and mask (2 ^ 64 - 1 - 2 ^ 0) 0, even))
  where
    even : bit_at (2 ^ 64 - 1 - 2 ^ 0) 0 ≡ 0
    even = refl

-- ---- lists

-- what holds of each number of a list holds after one is set of which it holds
pub each-set : (P : ℕ → Type 0) (xs : List ℕ) (i value : ℕ) → ((k : ℕ) → P (slice_index xs k))
    → P value → (k : ℕ) → P (slice_index (slice_set xs i value) k)
each-set P [] i value each holds k = each k
each-set P (x ∷ xs) zero value each holds zero = holds
each-set P (x ∷ xs) zero value each holds (suc k) = each (suc k)
each-set P (x ∷ xs) (suc i) value each holds zero = each zero
each-set P (x ∷ xs) (suc i) value each holds (suc k) =
    each-set P xs i value (λ j. each (suc j)) holds k

-- ---- the controller

pub pending-holds : (plic : PlicUnit) (mask : ℕ) → IsPlic plic → has_bit 0 mask ≡ false
    → IsPlic (record plic { pending = mask })
pending-holds plic mask held clear =
    record {
      contexts = held.contexts;
      lengths = held.lengths;
      no_source = held.no_source;
      priority = held.priority;
      pending = clear;
      in_service = held.in_service;
      enables = held.enables;
      threshold = held.threshold;
      absent = held.absent;
    }

pub in_service-holds : (plic : PlicUnit) (mask : ℕ) → IsPlic plic → has_bit 0 mask ≡ false
    → IsPlic (record plic { in_service = mask })
in_service-holds plic mask held clear =
    record {
      contexts = held.contexts;
      lengths = held.lengths;
      no_source = held.no_source;
      priority = held.priority;
      pending = held.pending;
      in_service = clear;
      enables = held.enables;
      threshold = held.threshold;
      absent = held.absent;
    }

pub lifted-clear : (pending lines in_service : ℕ) → has_bit 0 pending ≡ false → has_bit 0 lines
    ≡ false → has_bit 0 (bit_or pending (bit_and lines (2 ^ 64 - 1 - in_service))) ≡ false
lifted-clear pending lines in_service clear clear_lines =
    or-clear pending (bit_and lines (2 ^ 64 - 1 - in_service)) clear
    (and-clear lines (2 ^ 64 - 1 - in_service) clear_lines)

pub priority-holds : (plic : PlicUnit) (id value : ℕ) → IsPlic plic → 0 < id → value < 2 ^ 3
    → IsPlic (record plic { priority = slice_set plic.priority id value })
priority-holds plic id value held source small =
    record {
      contexts = held.contexts;
      lengths = (
        length-set plic.priority id value ∙ held.lengths.0,
        held.lengths.1,
        held.lengths.2,
      );
      no_source = get_or-set_other plic.priority id 0 value 0 (λ same. omega arith)
          ∙ held.no_source;
      priority = each-set (λ p. p < 2 ^ 3) plic.priority id value held.priority small;
      pending = held.pending;
      in_service = held.in_service;
      enables = held.enables;
      threshold = held.threshold;
      absent = held.absent;
    }

pub threshold-holds : (plic : PlicUnit) (context value : ℕ) → IsPlic plic → context < plic.contexts
    → value < 2 ^ 3 → IsPlic (record plic { threshold = slice_set plic.threshold context value })
threshold-holds plic context value held there small =
    record {
      contexts = held.contexts;
      lengths = (
        held.lengths.0,
        held.lengths.1,
        length-set plic.threshold context value ∙ held.lengths.2,
      );
      no_source = held.no_source;
      priority = held.priority;
      pending = held.pending;
      in_service = held.in_service;
      enables = held.enables;
      threshold = each-set (λ t. t < 2 ^ 3) plic.threshold context value held.threshold small;
      absent = λ k absent. (
        (held.absent k absent).0,
        get_or-set_other plic.threshold context k value 0
            (λ same. omega arith) ∙ (held.absent k absent).1,
      );
    }

pub enables-holds : (plic : PlicUnit) (context mask : ℕ) → IsPlic plic → context < plic.contexts
    → has_bit 0 mask ≡ false
    → IsPlic (record plic { enables = slice_set plic.enables context mask })
enables-holds plic context mask held there clear =
    record {
      contexts = held.contexts;
      lengths = (
        held.lengths.0,
        length-set plic.enables context mask ∙ held.lengths.1,
        held.lengths.2,
      );
      no_source = held.no_source;
      priority = held.priority;
      pending = held.pending;
      in_service = held.in_service;
      enables = each-set (λ m. has_bit 0 m ≡ false) plic.enables context mask held.enables clear;
      threshold = held.threshold;
      absent = λ k absent. (
        get_or-set_other plic.enables context k mask 0 (λ same. omega arith)
            ∙ (held.absent k absent).0,
        (held.absent k absent).1,
      );
    }

index-replicate : (n k : ℕ) → slice_index (replicate n 0) k ≡ 0
index-replicate zero k = refl
index-replicate (suc n) zero = refl
index-replicate (suc n) (suc k) = index-replicate n k

pub new_plic-holds : (contexts : ℕ) → contexts ≤ 8 → IsPlic (new_plic contexts)
unfolding new_plic
new_plic-holds contexts few =
    record {
      contexts = few;
      lengths = (refl, refl, refl);
      no_source = refl;
      priority = λ id. small (index-replicate 64 id);
      pending = refl;
      in_service = refl;
      enables = λ context. rw (index-replicate 8 context) refl;
      threshold = λ context. small (index-replicate 8 context);
      absent = λ context absent. (index-replicate 8 context, index-replicate 8 context);
    }
  where
    small : {n : ℕ} → n ≡ 0 → n < 2 ^ 3
    small same = omega (arith, same)

-- a source that is claimed
pub claimed-holds : (plic : PlicUnit) (id : ℕ) → IsPlic plic → 0 < id → IsPlic (claimed plic id)
claimed-holds plic id held source =
    in_service-holds (record plic { pending = with_bit id false plic.pending })
    (with_bit id true plic.in_service)
    (pending-holds plic (with_bit id false plic.pending) held
    (cleared-clear id plic.pending held.pending))
    (with_bit-clear id true plic.in_service source held.in_service)
