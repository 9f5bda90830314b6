-- A short list of bytes in an array of a fixed length.
use Rattle.std.specs.Prelude.{◌≡◌, ℕ, ◌-◌, ◌≤◌, List, ◌++◌, length, take, replicate}
use Rattle.std.proofs.Common.{arith}
use Rattle.std.proofs.lemmas.List.{length-take-le}

-- the bytes, and zeros up to the array's length
abbrev pub padded : ℕ → List ℕ → List ℕ
padded size bytes = bytes ++ replicate (size - length bytes) 0

-- the first `len` places of the array hold a list, and the others 0
pub record IsPadded (size : ℕ) (array : List ℕ) (len : ℕ) : Type 0 where
  pub fits : len ≤ size
  pub whole : length array ≡ size
  pub zeros : padded size (take len array) ≡ array

-- the list that such an array holds has that length
pub length-take_padded : (size : ℕ) (array : List ℕ) (len : ℕ) → IsPadded size array len
    → length (take len array) ≡ len
length-take_padded size array len padding =
    let fits : len ≤ length array = omega (arith, padding.fits, padding.whole) in
    length-take-le len array fits
