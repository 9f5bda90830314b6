-- A library for the crates above: what a word of a list of bytes is after a put, in a range, among
-- zeros, and as a number. It is whole in itself, and not all of it is cited today.
use Rattle.std.proofs.Common.{◌≡◌, ℕ, zero, suc, ◌+◌, ◌^◌, ◌-◌, ◌<◌, ◌≤◌, List, ◌++◌, length, take}
use Rattle.std.proofs.Common.{drop, get_or, replicate, refl, sym, ap, ◌∙◌, subst, arith, inl, inr}
use Rattle.std.proofs.Common.{◌⊎◌}
use Rattle.std.proofs.lemmas.List.{append_assoc, length-take-le, get_or-drop, get_or-replicate}
use Rattle.std.proofs.lemmas.List.{get_or_past, drop_at, length-replicate}
use Rattle.std.proofs.lemmas.Bool.{cases_lt}
use Rattle.byteorder.specs.Endian.{little_from, little_number, little_bytes}
use Rattle.byteorder.specs.Numbers.{length-bytes_low_first, little_number-reads_back}
use Rattle.byteorder.specs.Numbers.{little_from-lt}
use Rattle.xv_mem.specs.Bytes.{word_at, put, put_word, cleared, range}
use Rattle.xv_mem.proofs.Puts.{length-put, get_or-range, get_or-put_before, get_or-put_after}
use Rattle.xv_mem.proofs.Puts.{get_or-put_inside, get_or-cleared_inside, get_or-cleared_outside}
use Rattle.xv_mem.proofs.Puts.{range-put_inside, range-put_outside}

-- a number has as many bytes as are asked for
pub length-little_bytes : (n value : ℕ) → length (little_bytes n value) ≡ n
length-little_bytes n value = length-bytes_low_first 0 n value

-- a word is put as its bytes are
pub put_word_is : (n : ℕ) (bytes : List ℕ) (at value : ℕ)
    → put_word n bytes at value ≡ put bytes at (little_bytes n value)
unfolding put_word
put_word_is n bytes at value = refl

-- a word is the number in its bytes
pub word_at_is : (n : ℕ) (bytes : List ℕ) (at : ℕ)
    → word_at n bytes at ≡ little_number n (drop at bytes)
unfolding word_at
word_at_is n bytes at = refl

-- numbers of equal bytes are equal
little_from-same : (n i j : ℕ) (xs ys : List ℕ)
    → ((k : ℕ) → k < n → get_or xs (i + k) 0 ≡ get_or ys (j + k) 0)
    → little_from i n xs ≡ little_from j n ys
little_from-same zero i j xs ys same = refl
little_from-same (suc n) i j xs ys same =
    let here_i : i ≡ i + 0 = omega arith in
    let here_j : j + 0 ≡ j = omega arith in
    let first : get_or xs i 0 ≡ get_or ys j 0 =
    ap (λ (k : ℕ). get_or xs k 0) here_i ∙ same 0 (omega arith)
    ∙ ap (λ (k : ℕ). get_or ys k 0) here_j in
    let rest : little_from (suc i) n xs ≡ little_from (suc j) n ys =
    little_from-same n (suc i) (suc j) xs ys (λ k lt.
    let on_i : suc i + k ≡ i + suc k = omega arith in
    let on_j : j + suc k ≡ suc j + k = omega arith in
    ap (λ (m : ℕ). get_or xs m 0) on_i ∙ same (suc k) (omega arith)
    ∙ ap (λ (m : ℕ). get_or ys m 0) on_j) in
    rw (first, rest) refl

-- equal bytes give equal words
pub word_at_same : (n : ℕ) (xs : List ℕ) (from : ℕ) (ys : List ℕ) (to : ℕ)
    → ((k : ℕ) → k < n → get_or xs (from + k) 0 ≡ get_or ys (to + k) 0)
    → word_at n xs from ≡ word_at n ys to
unfolding word_at
word_at_same n xs from ys to same =
    little_from-same n 0 0 (drop from xs) (drop to ys) (λ k lt.
    let here : 0 + k ≡ k = omega arith in
    let there : k ≡ 0 + k = omega arith in
    ap (λ (m : ℕ). get_or (drop from xs) m 0) here
    ∙ get_or-drop from xs k 0
    ∙ same k lt
    ∙ sym (get_or-drop to ys k 0)
    ∙ ap (λ (m : ℕ). get_or (drop to ys) m 0) there)

-- a number of zeros is 0
little_from-zeros : (n i : ℕ) (xs : List ℕ) → ((k : ℕ) → k < n → get_or xs (i + k) 0 ≡ 0)
    → little_from i n xs ≡ 0
little_from-zeros zero i xs zeros = refl
little_from-zeros (suc n) i xs zeros =
    let here : i ≡ i + 0 = omega arith in
    let first : get_or xs i 0 ≡ 0 = ap (λ (k : ℕ). get_or xs k 0) here ∙ zeros 0 (omega arith) in
    let rest : little_from (suc i) n xs ≡ 0 = little_from-zeros n (suc i) xs (λ k lt.
    let on : suc i + k ≡ i + suc k = omega arith in
    ap (λ (m : ℕ). get_or xs m 0) on ∙ zeros (suc k) (omega arith)) in
    omega arith

-- a word of zeros is 0
pub word_at_zeros : (n : ℕ) (bytes : List ℕ) (at : ℕ)
    → ((k : ℕ) → k < n → get_or bytes (at + k) 0 ≡ 0) → word_at n bytes at ≡ 0
unfolding word_at
word_at_zeros n bytes at zeros =
    little_from-zeros n 0 (drop at bytes) (λ k lt.
    let here : 0 + k ≡ k = omega arith in
    ap (λ (m : ℕ). get_or (drop at bytes) m 0) here ∙ get_or-drop at bytes k 0 ∙ zeros k lt)

-- a word of a list of zeros is 0
pub word_at-replicate : (n m at : ℕ) → word_at n (replicate m 0) at ≡ 0
word_at-replicate n m at =
    let whole : length (replicate {A = ℕ} m 0) ≡ m = length-replicate m 0 in
    word_at_zeros n (replicate m 0) at (λ k lt.
    elim (cases_lt (at + k) m) [
      | inl below ↦ get_or-replicate m (at + k) 0 0 below
      | inr le ↦ get_or_past (replicate m 0) (at + k) 0 (omega arith)
    ])

-- a word of n bytes is below 256 ^ n
pub word_at_bound : (n : ℕ) (bytes : List ℕ) (at : ℕ) → ((k : ℕ) → get_or bytes k 0 < 256)
    → word_at n bytes at < 256 ^ n
unfolding word_at
word_at_bound n bytes at small =
    little_from-lt 0 n (drop at bytes) (λ k.
    let P : ℕ → Type 0 = λ x. x < 256 in
    subst P (sym (get_or-drop at bytes k 0)) (small (at + k)))

-- a word of one byte is that byte
pub word_at_one : (bytes : List ℕ) (at : ℕ) → word_at 1 bytes at ≡ get_or bytes at 0
unfolding word_at
word_at_one bytes at =
    let e = get_or-drop at bytes 0 0 in
    let here : at + 0 ≡ at = omega arith in
    let f : get_or bytes (at + 0) 0 ≡ get_or bytes at 0 = ap (λ (k : ℕ). get_or bytes k 0) here in
    omega arith

-- a word that was put reads back
pub word_at-put_word : (n : ℕ) (bytes : List ℕ) (at value : ℕ) → at + n ≤ length bytes
    → value < 256 ^ n → word_at n (put_word n bytes at value) at ≡ value
unfolding word_at put put_word
word_at-put_word n bytes at value h lt =
    let front : length (take at bytes) ≡ at = length-take-le at bytes (omega arith) in
    let rest = drop (at + length (little_bytes n value)) bytes in
    ap (λ (xs : List ℕ). little_from 0 n (drop at xs))
    (append_assoc (take at bytes) (little_bytes n value) rest)
    ∙ ap (little_from 0 n) (drop_at (take at bytes) (little_bytes n value ++ rest) at front)
    ∙ little_number-reads_back n value rest lt

-- a put leaves the length
pub length-put_word : (n : ℕ) (bytes : List ℕ) (at value : ℕ) → at + n ≤ length bytes
    → length (put_word n bytes at value) ≡ length bytes
length-put_word n bytes at value h =
    let m = length-little_bytes n value in
    ap length (put_word_is n bytes at value)
    ∙ length-put bytes at (little_bytes n value) (omega arith)

-- a word before the piece, or after it, stays
pub word_at-put : (n : ℕ) (bytes : List ℕ) (at : ℕ) (piece : List ℕ) (from : ℕ)
    → at + length piece ≤ length bytes → (from + n ≤ at) ⊎ (at + length piece ≤ from)
    → word_at n (put bytes at piece) from ≡ word_at n bytes from
word_at-put n bytes at piece from h out =
    word_at_same n (put bytes at piece) from bytes from (λ k lt.
    elim out [
      | inl le ↦ get_or-put_before bytes at piece (from + k) 0 h (omega arith)
      | inr le ↦ get_or-put_after bytes at piece (from + k) 0 h (omega arith)
    ])

-- a word of n bytes away from a word of m bytes that is put stays
pub word_at-put_word_apart : (n m : ℕ) (bytes : List ℕ) (at value from : ℕ) → at + m ≤ length bytes
    → (from + n ≤ at) ⊎ (at + m ≤ from)
    → word_at n (put_word m bytes at value) from ≡ word_at n bytes from
word_at-put_word_apart n m bytes at value from h out =
    let size : length (little_bytes m value) ≡ m = length-little_bytes m value in
    let P : ℕ → Type 0 = λ k. (from + n ≤ at) ⊎ (at + k ≤ from) in
    ap (λ (xs : List ℕ). word_at n xs from) (put_word_is m bytes at value)
    ∙ word_at-put n bytes at (little_bytes m value) from (omega arith) (subst P (sym size) out)

-- another byte away from a word that is put stays
pub get_or-put_word_apart : (m : ℕ) (bytes : List ℕ) (at value i d : ℕ) → at + m ≤ length bytes
    → (i < at) ⊎ (at + m ≤ i) → get_or (put_word m bytes at value) i d ≡ get_or bytes i d
get_or-put_word_apart m bytes at value i d h out =
    let size : length (little_bytes m value) ≡ m = length-little_bytes m value in
    ap (λ (xs : List ℕ). get_or xs i d) (put_word_is m bytes at value)
    ∙ elim out [
      | inl lt ↦ get_or-put_before bytes at (little_bytes m value) i d (omega arith) lt
      | inr le ↦ get_or-put_after bytes at (little_bytes m value) i d (omega arith) (omega arith)
    ]

-- a word inside a range is the word of the whole at the shifted place
pub word_at-range : (n : ℕ) (bytes : List ℕ) (from len at : ℕ) → at + n ≤ len
    → word_at n (range bytes from len) at ≡ word_at n bytes (from + at)
word_at-range n bytes from len at h =
    word_at_same n (range bytes from len) at bytes (from + at) (λ k lt.
    let place : from + (at + k) ≡ from + at + k = omega arith in
    get_or-range bytes from len (at + k) 0 (omega arith) ∙ ap (λ (m : ℕ). get_or bytes m 0) place)

-- a range round a word that is put has the word put in
pub range-put_word_inside : (n : ℕ) (bytes : List ℕ) (from len at value : ℕ) → at + n ≤ len
    → from + len ≤ length bytes → range (put_word n bytes (from + at) value) from len
    ≡ put_word n (range bytes from len) at value
range-put_word_inside n bytes from len at value h hr =
    let size : length (little_bytes n value) ≡ n = length-little_bytes n value in
    ap (λ (xs : List ℕ). range xs from len) (put_word_is n bytes (from + at) value)
    ∙ range-put_inside bytes from len at (little_bytes n value) (omega arith) hr
    ∙ sym (put_word_is n (range bytes from len) at value)

-- a range away from a word that is put stays
pub range-put_word_outside : (n : ℕ) (bytes : List ℕ) (at value from len : ℕ)
    → at + n ≤ length bytes → from + len ≤ length bytes → (from + len ≤ at) ⊎ (at + n ≤ from)
    → range (put_word n bytes at value) from len ≡ range bytes from len
range-put_word_outside n bytes at value from len h hr out =
    let size : length (little_bytes n value) ≡ n = length-little_bytes n value in
    let P : ℕ → Type 0 = λ k. (from + len ≤ at) ⊎ (at + k ≤ from) in
    ap (λ (xs : List ℕ). range xs from len) (put_word_is n bytes at value)
    ∙ range-put_outside bytes at (little_bytes n value) from len (omega arith) hr
    (subst P (sym size) out)

-- words of equal ranges are equal
pub word_at_same_range : (n : ℕ) (xs ys : List ℕ) (from to len at : ℕ) → range xs from len
    ≡ range ys to len → at + n ≤ len → word_at n xs (from + at) ≡ word_at n ys (to + at)
word_at_same_range n xs ys from to len at same h =
    sym (word_at-range n xs from len at h)
    ∙ ap (λ (zs : List ℕ). word_at n zs at) same
    ∙ word_at-range n ys to len at h

-- a word inside of bytes that were made zeros is 0
pub word_at-cleared_inside : (n : ℕ) (bytes : List ℕ) (at len from : ℕ) → at + len ≤ length bytes
    → at ≤ from → from + n ≤ at + len → word_at n (cleared bytes at len) from ≡ 0
word_at-cleared_inside n bytes at len from h le hr =
    word_at_zeros n (cleared bytes at len) from (λ k lt.
    get_or-cleared_inside bytes at len (from + k) 0 h (omega arith) (omega arith))

-- a word away from bytes that were made zeros stays
pub word_at-cleared_outside : (n : ℕ) (bytes : List ℕ) (at len from : ℕ) → at + len ≤ length bytes
    → (from + n ≤ at) ⊎ (at + len ≤ from)
    → word_at n (cleared bytes at len) from ≡ word_at n bytes from
word_at-cleared_outside n bytes at len from h out =
    word_at_same n (cleared bytes at len) from bytes from (λ k lt.
    get_or-cleared_outside bytes at len (from + k) 0 h
    (elim out [ inl le ↦ inl (omega arith) | inr le ↦ inr (omega arith) ]))

-- a word inside of the piece is the piece's
pub word_at-put_inside : (n : ℕ) (bytes : List ℕ) (at : ℕ) (piece : List ℕ) (from : ℕ)
    → at + length piece ≤ length bytes → from + n ≤ length piece
    → word_at n (put bytes at piece) (at + from) ≡ word_at n piece from
word_at-put_inside n bytes at piece from h hr =
    word_at_same n (put bytes at piece) (at + from) piece from (λ k lt.
    let place : at + from + k - at ≡ from + k = omega arith in
    get_or-put_inside bytes at piece (at + from + k) 0 h (omega arith) (omega arith)
    ∙ ap (λ (m : ℕ). get_or piece m 0) place)
