-- An array of zeros whose front was written.
use Rattle.std.proofs.Common.{◌≡◌, ℕ, ◌≤◌, List, ◌++◌, length, take, drop, replicate, refl, arith}
use Rattle.std.proofs.Common.{length-append}
use Rattle.std.proofs.lemmas.List.{take_at, drop-replicate, length-replicate}
use Rattle.xv_base.specs.Padded.{IsPadded}

pub take-written : (size : ℕ) (bytes front : List ℕ) → front ≡ bytes
    → take (length bytes) (front ++ drop (length bytes) (replicate size 0)) ≡ bytes
take-written size bytes front same =
    rw same (take_at bytes (drop (length bytes) (replicate size 0)) (length bytes) refl)

pub IsPadded-written : (size : ℕ) (bytes front : List ℕ) → length bytes ≤ size → front ≡ bytes
    → IsPadded size (front ++ drop (length bytes) (replicate size 0)) (length bytes)
IsPadded-written size bytes front fits same =
    let rest = drop-replicate {X = ℕ} (length bytes) size 0 in
    let written = take-written size bytes front same in
    record {
      fits = fits;
      whole = rw (same, rest, length-append, length-replicate) (omega arith);
      zeros = rw written (rw (same, rest) refl);
    }
