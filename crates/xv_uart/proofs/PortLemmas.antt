-- The registers' ranges, and the movement of bytes one at a time.
use Rattle.std.proofs.Common.{◌≡◌, ℕ, zero, suc, ◌+◌, ◌-◌, ◌^◌, ◌<◌, ◌≤◌, Bool, true, false, IsTrue}
use Rattle.std.proofs.Common.{Some, None, List, [], ◌∷◌, ◌++◌, length, take, drop, refl, ap, ◌∙◌}
use Rattle.std.proofs.Common.{arith, append_assoc, length-append, replicate, zero-add}
use Rattle.std.proofs.Math.Seq.{take-append_seam, drop-append-add}
use Rattle.std.proofs.lemmas.List.{drop-replicate}
use Rattle.std.specs.Prelude.{slice_get, slice_index}
use Rattle.std.specs.Int.RustNames.{bit_or}
use Rattle.std.proofs.lemmas.Nat.{or_lt}
use Rattle.circular_buffer.specs.Buffer.{keep_last}
use Rattle.xv_base.specs.Padded.{padded}
use Rattle.xv_bus.specs.Memory.{overwritten}
use Rattle.xv_bus.specs.Uart.{UartPort, fifo_size, is_loop, is_trigger, trigger_levels, moved}

pub or_of_4 : (a b : ℕ) → a < 2 ^ 4 → b < 2 ^ 4 → bit_or a b < 2 ^ 4
or_of_4 a b small small_too = or_lt 4 a b small small_too

-- each level is known
pub level-known : (k : ℕ) → k < 4 → IsTrue (is_trigger (slice_index trigger_levels k))
level-known zero few = refl
level-known (suc zero) few = refl
level-known (suc (suc zero)) few = refl
level-known (suc (suc (suc zero))) few = refl
level-known (suc (suc (suc (suc k)))) few = absurd (omega arith)

-- nothing falls out of a ring with room
keep-all : (xs : List ℕ) → length xs ≤ 16 → keep_last 16 xs ≡ xs
keep-all xs fits = let none : length xs - 16 ≡ 0 = omega arith in rw none refl

append-none : (xs : List ℕ) → xs ++ [] ≡ xs
append-none [] = refl
append-none (x ∷ xs) = ap (λ l. x ∷ l) (append-none xs)

-- where the FIFO is full, or nothing waits, nothing moves
pub moved-full : (port : UartPort) → is_loop port ≡ false
    → fifo_size port.fifo_on ≤ length port.fifo → moved port ≡ port
unfolding moved
moved-full port direct full =
    let none : fifo_size port.fifo_on - length port.fifo ≡ 0 = omega arith in
    rw (direct, none, append-none port.fifo) refl

take-empty : (n : ℕ) (xs : List ℕ) → xs ≡ [] → take n xs ≡ []
take-empty zero xs empty = refl
take-empty (suc n) [] empty = refl
take-empty (suc n) (x ∷ xs) empty = cc

drop-empty : (n : ℕ) (xs : List ℕ) → xs ≡ [] → drop n xs ≡ []
drop-empty zero xs empty = empty
drop-empty (suc n) [] empty = refl
drop-empty (suc n) (x ∷ xs) empty = cc

pub nothing-first : (xs : List ℕ) → slice_get xs 0 ≡ None → drop 1 xs ≡ []
nothing-first [] none = refl
nothing-first (x ∷ xs) none = cc

pub moved-empty : (port : UartPort) (queue : List ℕ) → is_loop port ≡ false → queue ≡ []
    → moved (record port { serial = record port.serial { queue = queue } })
    ≡ record port { serial = record port.serial { queue = queue } }
unfolding moved
moved-empty port queue direct empty =
    let room = fifo_size port.fifo_on - length port.fifo in
    rw (
      direct,
      take-empty room queue empty,
      drop-empty room queue empty,
      append-none port.fifo,
      empty,
    ) refl

pub size-small : (on : Bool) → fifo_size on ≤ 16
size-small true = omega arith
size-small false = omega arith

pub moved-loop : (port : UartPort) → is_loop port ≡ true → moved port ≡ port
unfolding moved
moved-loop port looped = rw looped refl

-- the first of what waits
pub fill-next : (xs queue : List ℕ) (byte size : ℕ) → slice_get queue 0 ≡ Some byte
    → length xs < size → size ≤ 16
    → (keep_last 16 (xs ++ byte ∷ []) ++ take (size - length (keep_last 16 (xs ++ byte ∷ [])))
    (drop 1 queue) ≡ xs ++ take (size - length xs) queue)
    × (drop (size - length (keep_last 16 (xs ++ byte ∷ []))) (drop 1 queue)
    ≡ drop (size - length xs) queue)
fill-next xs [] byte size first room small = cc
fill-next xs (y ∷ queue) byte size first room small =
    let same : y ≡ byte = cc in
    let long : length (xs ++ byte ∷ []) ≡ length xs + 1 = length-append xs (byte ∷ []) in
    let all : keep_last 16 (xs ++ byte ∷ []) ≡ xs ++ byte ∷ [] =
    keep-all (xs ++ byte ∷ []) (omega (arith, long)) in
    let left : size - length xs ≡ suc (size - (length xs + 1)) = omega arith in
    rw (all, long, left, same)
    (append_assoc xs (byte ∷ []) (take (size - (length xs + 1)) queue), refl)

pub moved-next : (port : UartPort) (byte : ℕ) → is_loop port ≡ false → slice_get port.serial.queue 0
    ≡ Some byte → length port.fifo < fifo_size port.fifo_on → fifo_size port.fifo_on ≤ 16
    → moved (record port {
      fifo = keep_last 16 (port.fifo ++ byte ∷ []);
      serial = record port.serial { queue = drop 1 port.serial.queue };
    }) ≡ moved port
unfolding moved
moved-next port byte direct first room small =
    let parts = fill-next port.fifo port.serial.queue byte (fifo_size port.fifo_on)
    first room small in
    rw (direct, parts.0, parts.1) refl

-- two pieces, one behind the other, over zeros
pub padded-pieces : (front back : List ℕ) → length front + length back ≤ 16
    → overwritten (overwritten (replicate 16 0) 0 front) (length front) back
    ≡ padded 16 (front ++ back)
padded-pieces front back fits =
    let rest : List ℕ = replicate (16 - length front) 0 in
    let first : overwritten (replicate 16 0) 0 front ≡ front ++ rest =
    ap (λ l. front ++ l) (ap (λ n. drop n (replicate 16 0)) (zero-add (length front))
    ∙ drop-replicate (length front) 16 0) in
    let second : drop (length front + length back) (front ++ rest)
    ≡ replicate (16 - length front - length back) 0 = drop-append-add front rest (length back)
    ∙ drop-replicate (length back) (16 - length front) 0 in
    let left : 16 - length (front ++ back) ≡ 16 - length front - length back =
    omega (arith, length-append front back) in
    rw (first, take-append_seam front rest, second, left) refl
