-- A library for the crates above: what a piece that is put into a list of bytes changes, what it
-- leaves, and what a range shows of it. It is whole in itself, and not all of it is cited today.
use Rattle.std.proofs.Common.{◌≡◌, ℕ, ◌+◌, ◌*◌, ◌/◌, ◌-◌, ◌<◌, ◌≤◌, ◌≢◌, List, ◌++◌, length, take}
use Rattle.std.proofs.Common.{drop, get_or, replicate, refl, sym, ap, ◌∙◌, subst, arith, inl, inr}
use Rattle.std.proofs.Common.{◌⊎◌}
use Rattle.std.proofs.lemmas.List.{append_assoc, length-append, length-take, length-take-le}
use Rattle.std.proofs.lemmas.List.{length-drop, length-replicate, get_or-take, get_or-drop}
use Rattle.std.proofs.lemmas.List.{get_or-replicate, get_or_append_left, get_or-append_right}
use Rattle.std.proofs.lemmas.List.{take-append-le, drop_at, take_at, drop-drop, take-take}
use Rattle.std.proofs.lemmas.List.{ext_get_or, take_all}
use Rattle.std.proofs.lemmas.Bool.{cases_lt}
use Rattle.xv_mem.specs.Bytes.{put, cleared, range}

-- a put in parts
put_parts : (bytes : List ℕ) (at : ℕ) (piece : List ℕ) → put bytes at piece ≡ take at bytes
    ++ (piece ++ drop (at + length piece) bytes)
unfolding put
put_parts bytes at piece = append_assoc (take at bytes) piece (drop (at + length piece) bytes)

-- zeros are put as a piece is
pub cleared_is : (bytes : List ℕ) (at len : ℕ)
    → cleared bytes at len ≡ put bytes at (replicate len 0)
unfolding cleared
cleared_is bytes at len = refl

-- a range is what its name says
pub range_is : (bytes : List ℕ) (at len : ℕ) → range bytes at len ≡ take len (drop at bytes)
unfolding range
range_is bytes at len = refl

-- a put leaves the length
pub length-put : (bytes : List ℕ) (at : ℕ) (piece : List ℕ) → at + length piece ≤ length bytes
    → length (put bytes at piece) ≡ length bytes
unfolding put
length-put bytes at piece h = simp (length-append, length-take, length-drop) (omega arith)

pub length-cleared : (bytes : List ℕ) (at len : ℕ) → at + len ≤ length bytes
    → length (cleared bytes at len) ≡ length bytes
length-cleared bytes at len h =
    let zeros : length (replicate {A = ℕ} len 0) ≡ len = length-replicate len 0 in
    ap length (cleared_is bytes at len) ∙ length-put bytes at (replicate len 0) (omega arith)

pub length-range : (bytes : List ℕ) (at len : ℕ) → at + len ≤ length bytes
    → length (range bytes at len) ≡ len
unfolding range
length-range bytes at len h = simp (length-take, length-drop) (omega arith)

-- a byte before the piece
pub get_or-put_before : (bytes : List ℕ) (at : ℕ) (piece : List ℕ) (i d : ℕ)
    → at + length piece ≤ length bytes → i < at → get_or (put bytes at piece) i d ≡ get_or bytes i d
get_or-put_before bytes at piece i d h lt =
    let front : length (take at bytes) ≡ at = length-take-le at bytes (omega arith) in
    ap (λ (xs : List ℕ). get_or xs i d) (put_parts bytes at piece)
    ∙ get_or_append_left (take at bytes) (piece ++ drop (at + length piece) bytes) d i (omega arith)
    ∙ get_or-take at bytes i d lt

-- a byte of the piece
pub get_or-put_inside : (bytes : List ℕ) (at : ℕ) (piece : List ℕ) (i d : ℕ)
    → at + length piece ≤ length bytes → at ≤ i → i < at + length piece
    → get_or (put bytes at piece) i d ≡ get_or piece (i - at) d
get_or-put_inside bytes at piece i d h le lt =
    let front : length (take at bytes) ≡ at = length-take-le at bytes (omega arith) in
    ap (λ (xs : List ℕ). get_or xs i d) (put_parts bytes at piece)
    ∙ get_or-append_right (take at bytes) (piece ++ drop (at + length piece) bytes) at i d front le
    ∙ get_or_append_left piece (drop (at + length piece) bytes) d (i - at) (omega arith)

-- a byte after the piece
pub get_or-put_after : (bytes : List ℕ) (at : ℕ) (piece : List ℕ) (i d : ℕ)
    → at + length piece ≤ length bytes → at + length piece ≤ i
    → get_or (put bytes at piece) i d ≡ get_or bytes i d
get_or-put_after bytes at piece i d h le =
    let front : length (take at bytes) ≡ at = length-take-le at bytes (omega arith) in
    let place : at + length piece + (i - at - length piece) ≡ i = omega arith in
    ap (λ (xs : List ℕ). get_or xs i d) (put_parts bytes at piece)
    ∙ get_or-append_right (take at bytes) (piece ++ drop (at + length piece) bytes) at i d
    front (omega arith)
    ∙ get_or-append_right piece (drop (at + length piece) bytes) (length piece)
    (i - at) d refl (omega arith)
    ∙ get_or-drop (at + length piece) bytes (i - at - length piece) d
    ∙ ap (λ (k : ℕ). get_or bytes k d) place

-- a byte outside the piece
pub get_or-put_outside : (bytes : List ℕ) (at : ℕ) (piece : List ℕ) (i d : ℕ)
    → at + length piece ≤ length bytes → (i < at) ⊎ (at + length piece ≤ i)
    → get_or (put bytes at piece) i d ≡ get_or bytes i d
get_or-put_outside bytes at piece i d h (inl lt) = get_or-put_before bytes at piece i d h lt
get_or-put_outside bytes at piece i d h (inr le) = get_or-put_after bytes at piece i d h le

-- a byte of a range
pub get_or-range : (bytes : List ℕ) (at len i d : ℕ) → i < len
    → get_or (range bytes at len) i d ≡ get_or bytes (at + i) d
unfolding range
get_or-range bytes at len i d lt = get_or-take len (drop at bytes) i d lt ∙ get_or-drop at bytes i d

-- a byte of zeros
pub get_or-cleared_inside : (bytes : List ℕ) (at len i d : ℕ) → at + len ≤ length bytes → at ≤ i
    → i < at + len → get_or (cleared bytes at len) i d ≡ 0
get_or-cleared_inside bytes at len i d h le lt =
    let zeros : length (replicate {A = ℕ} len 0) ≡ len = length-replicate len 0 in
    ap (λ (xs : List ℕ). get_or xs i d) (cleared_is bytes at len)
    ∙ get_or-put_inside bytes at (replicate len 0) i d (omega arith) le (omega arith)
    ∙ get_or-replicate len (i - at) 0 d (omega arith)

-- a byte outside of zeros
pub get_or-cleared_outside : (bytes : List ℕ) (at len i d : ℕ) → at + len ≤ length bytes
    → (i < at) ⊎ (at + len ≤ i) → get_or (cleared bytes at len) i d ≡ get_or bytes i d
get_or-cleared_outside bytes at len i d h out =
    let zeros : length (replicate {A = ℕ} len 0) ≡ len = length-replicate len 0 in
    ap (λ (xs : List ℕ). get_or xs i d) (cleared_is bytes at len)
    ∙ get_or-put_outside bytes at (replicate len 0) i d (omega arith) (let P : ℕ
    → Type 0 = λ k. (i < at) ⊎ (at + k ≤ i) in subst P (sym zeros) out)

-- a byte of the frame that was made zeros
pub get_or-cleared_frame : (bytes : List ℕ) (frame i d : ℕ) → 4096 * frame + 4096 ≤ length bytes
    → i / 4096 ≡ frame → get_or (cleared bytes (4096 * frame) 4096) i d ≡ 0
get_or-cleared_frame bytes frame i d h e =
    get_or-cleared_inside bytes (4096 * frame) 4096 i d h (omega arith) (omega arith)

-- a byte of another frame
pub get_or-cleared_other_frame : (bytes : List ℕ) (frame i d : ℕ)
    → 4096 * frame + 4096 ≤ length bytes → i / 4096 ≢ frame
    → get_or (cleared bytes (4096 * frame) 4096) i d ≡ get_or bytes i d
get_or-cleared_other_frame bytes frame i d h ne =
    elim (cases_lt i (4096 * frame)) [
      | inl lt ↦ get_or-cleared_outside bytes (4096 * frame) 4096 i d h (inl lt)
      | inr le ↦ get_or-cleared_outside bytes (4096 * frame) 4096 i d h (inr (omega arith))
    ]

-- the front of the bytes stays
pub take-put : (bytes : List ℕ) (at : ℕ) (piece : List ℕ) (n : ℕ) → n ≤ at
    → at + length piece ≤ length bytes → take n (put bytes at piece) ≡ take n bytes
take-put bytes at piece n le h =
    let front : length (take at bytes) ≡ at = length-take-le at bytes (omega arith) in
    ap (take n) (put_parts bytes at piece)
    ∙ take-append-le n (take at bytes) (piece ++ drop (at + length piece) bytes) (omega arith)
    ∙ take-take n at bytes le

-- the back of the bytes stays
pub drop-put : (bytes : List ℕ) (at : ℕ) (piece : List ℕ) (n : ℕ) → at + length piece ≤ n
    → at + length piece ≤ length bytes → drop n (put bytes at piece) ≡ drop n bytes
unfolding put
drop-put bytes at piece n le h =
    let front : length (take at bytes ++ piece) ≡ at + length piece =
    simp (length-append, length-take) (omega arith) in
    let split : at + length piece + (n - (at + length piece)) ≡ n = omega arith in
    ap (λ (k : ℕ). drop k (take at bytes ++ piece ++ drop (at + length piece) bytes)) (sym split)
    ∙ sym (drop-drop (n - (at + length piece)) (at + length piece) (take at bytes ++ piece
    ++ drop (at + length piece) bytes))
    ∙ ap (drop (n - (at + length piece)))
    (drop_at (take at bytes ++ piece) (drop (at + length piece) bytes) (at + length piece) front)
    ∙ drop-drop (n - (at + length piece)) (at + length piece) bytes
    ∙ ap (λ (k : ℕ). drop k bytes) split

-- the range that was written is the piece
pub range-put_same : (bytes : List ℕ) (at : ℕ) (piece : List ℕ) (len : ℕ) → length piece ≡ len
    → at + len ≤ length bytes → range (put bytes at piece) at len ≡ piece
unfolding range
range-put_same bytes at piece len n h =
    let front : length (take at bytes) ≡ at = length-take-le at bytes (omega arith) in
    ap (λ (xs : List ℕ). take len (drop at xs)) (put_parts bytes at piece)
    ∙ ap (take len) (drop_at (take at bytes) (piece ++ drop (at + length piece) bytes) at front)
    ∙ take_at piece (drop (at + length piece) bytes) len n

-- ranges with the same bytes at each place
pub range_same : (xs ys : List ℕ) (from to len : ℕ) → from + len ≤ length xs → to + len ≤ length ys
    → ((i : ℕ) → i < len → get_or xs (from + i) 0 ≡ get_or ys (to + i) 0)
    → range xs from len ≡ range ys to len
range_same xs ys from to len hx hy same =
    let nx : length (range xs from len) ≡ len = length-range xs from len hx in
    let ny : length (range ys to len) ≡ len = length-range ys to len hy in
    ext_get_or 0 (range xs from len) (range ys to len) (nx ∙ sym ny) (λ i lt.
    let below : i < len = omega arith in
    get_or-range xs from len i 0 below ∙ same i below ∙ sym (get_or-range ys to len i 0 below))

-- the whole range
pub range_all : (bytes : List ℕ) (len : ℕ) → length bytes ≤ len → range bytes 0 len ≡ bytes
unfolding range
range_all bytes len h = take_all len bytes h

-- a range away from the piece stays
pub range-put_outside : (bytes : List ℕ) (at : ℕ) (piece : List ℕ) (from len : ℕ)
    → at + length piece ≤ length bytes → from + len ≤ length bytes → (from + len ≤ at)
    ⊎ (at + length piece ≤ from) → range (put bytes at piece) from len ≡ range bytes from len
range-put_outside bytes at piece from len h hr out =
    let n : length (put bytes at piece) ≡ length bytes = length-put bytes at piece h in
    range_same (put bytes at piece) bytes from from len (omega arith) hr (λ i lt.
    elim out [
      | inl le ↦ get_or-put_before bytes at piece (from + i) 0 h (omega arith)
      | inr le ↦ get_or-put_after bytes at piece (from + i) 0 h (omega arith)
    ])

-- a byte of a range round the piece
get_or-range-put : (bytes : List ℕ) (from len at : ℕ) (piece : List ℕ) (i : ℕ)
    → at + length piece ≤ len → from + len ≤ length bytes → i < len
    → get_or (put bytes (from + at) piece) (from + i) 0
    ≡ get_or (put (range bytes from len) at piece) i 0
get_or-range-put bytes from len at piece i h hr lt =
    let n : length (range bytes from len) ≡ len = length-range bytes from len hr in
    elim (cases_lt i at) [
      | inl before ↦
          get_or-put_before bytes (from + at) piece (from + i) 0 (omega arith) (omega arith)
          ∙ sym (get_or-range bytes from len i 0 lt)
          ∙ sym (get_or-put_before (range bytes from len) at piece i 0 (omega arith) before)
      | inr le ↦ elim (cases_lt i (at + length piece)) [
        | inl inside ↦
            let place : from + i - (from + at) ≡ i - at = omega arith in
            get_or-put_inside bytes (from + at) piece (from + i) 0 (omega arith)
            (omega arith) (omega arith)
            ∙ ap (λ (k : ℕ). get_or piece k 0) place
            ∙ sym (get_or-put_inside (range bytes from len) at piece i 0 (omega arith) le inside)
        | inr after ↦
            get_or-put_after bytes (from + at) piece (from + i) 0 (omega arith) (omega arith)
            ∙ sym (get_or-range bytes from len i 0 lt)
            ∙ sym (get_or-put_after (range bytes from len) at piece i 0 (omega arith) after)
      ]
    ]

-- a range round the piece has the piece put in
pub range-put_inside : (bytes : List ℕ) (from len at : ℕ) (piece : List ℕ) → at + length piece ≤ len
    → from + len ≤ length bytes
    → range (put bytes (from + at) piece) from len ≡ put (range bytes from len) at piece
range-put_inside bytes from len at piece h hr =
    let whole : length (put bytes (from + at) piece) ≡ length bytes =
    length-put bytes (from + at) piece (omega arith) in
    let n : length (range bytes from len) ≡ len = length-range bytes from len hr in
    let left : length (range (put bytes (from + at) piece) from len) ≡ len =
    length-range (put bytes (from + at) piece) from len (omega arith) in
    let right : length (put (range bytes from len) at piece) ≡ len =
    length-put (range bytes from len) at piece (omega arith) ∙ n in
    ext_get_or 0 (range (put bytes (from + at) piece) from len)
    (put (range bytes from len) at piece) (left ∙ sym right) (λ i lt.
    let below : i < len = omega arith in
    get_or-range (put bytes (from + at) piece) from len i 0 below
    ∙ get_or-range-put bytes from len at piece i h hr below)

-- a range away from the zeros stays
pub range-cleared_outside : (bytes : List ℕ) (at n from len : ℕ) → at + n ≤ length bytes
    → from + len ≤ length bytes → (from + len ≤ at) ⊎ (at + n ≤ from)
    → range (cleared bytes at n) from len ≡ range bytes from len
range-cleared_outside bytes at n from len h hr out =
    let m : length (cleared bytes at n) ≡ length bytes = length-cleared bytes at n h in
    range_same (cleared bytes at n) bytes from from len (omega arith) hr (λ i lt.
    get_or-cleared_outside bytes at n (from + i) 0 h
    (elim out [ inl le ↦ inl (omega arith) | inr le ↦ inr (omega arith) ]))

-- a range of a range
pub range-range : (bytes : List ℕ) (from len at n : ℕ) → at + n ≤ len → from + len ≤ length bytes
    → range (range bytes from len) at n ≡ range bytes (from + at) n
range-range bytes from len at n h hr =
    let m : length (range bytes from len) ≡ len = length-range bytes from len hr in
    range_same (range bytes from len) bytes at (from + at) n (omega arith) (omega arith) (λ i lt.
    let place : from + (at + i) ≡ from + at + i = omega arith in
    get_or-range bytes from len (at + i) 0 (omega arith) ∙ ap (λ (k : ℕ). get_or bytes k 0) place)

-- a range of zeros is zeros
pub range-replicate : (n at len : ℕ) → at + len ≤ n → range (replicate n 0) at len ≡ replicate len 0
range-replicate n at len h =
    let whole : length (replicate {A = ℕ} n 0) ≡ n = length-replicate n 0 in
    let left : length (range (replicate n 0) at len) ≡ len =
    length-range (replicate n 0) at len (omega arith) in
    let right : length (replicate {A = ℕ} len 0) ≡ len = length-replicate len 0 in
    ext_get_or 0 (range (replicate n 0) at len) (replicate len 0) (left ∙ sym right) (λ i lt.
    let below : i < len = omega arith in
    get_or-range (replicate n 0) at len i 0 below
    ∙ get_or-replicate n (at + i) 0 0 (omega arith)
    ∙ sym (get_or-replicate len i 0 0 below))

-- the range that was made zeros, or a part of it
pub range-cleared_inside : (bytes : List ℕ) (at n from len : ℕ) → at + n ≤ length bytes → at ≤ from
    → from + len ≤ at + n → range (cleared bytes at n) from len ≡ replicate len 0
range-cleared_inside bytes at n from len h le hr =
    let m : length (cleared bytes at n) ≡ length bytes = length-cleared bytes at n h in
    let left : length (range (cleared bytes at n) from len) ≡ len =
    length-range (cleared bytes at n) from len (omega arith) in
    let right : length (replicate {A = ℕ} len 0) ≡ len = length-replicate len 0 in
    ext_get_or 0 (range (cleared bytes at n) from len) (replicate len 0) (left ∙ sym right) (λ i lt.
    let below : i < len = omega arith in
    get_or-range (cleared bytes at n) from len i 0 below
    ∙ get_or-cleared_inside bytes at n (from + i) 0 h (omega arith) (omega arith)
    ∙ sym (get_or-replicate len i 0 0 below))

-- what stood there is put back
pub put-range_same : (bytes : List ℕ) (at len : ℕ) → at + len ≤ length bytes
    → put bytes at (range bytes at len) ≡ bytes
put-range_same bytes at len h =
    let n : length (range bytes at len) ≡ len = length-range bytes at len h in
    let m : length (put bytes at (range bytes at len)) ≡ length bytes =
    length-put bytes at (range bytes at len) (omega arith) in
    ext_get_or 0 (put bytes at (range bytes at len)) bytes m (λ i lt.
    elim (cases_lt i at) [
      | inl before ↦ get_or-put_before bytes at (range bytes at len) i 0 (omega arith) before
      | inr le ↦ elim (cases_lt i (at + len)) [
        | inl inside ↦
            let place : at + (i - at) ≡ i = omega arith in
            get_or-put_inside bytes at (range bytes at len) i 0 (omega arith) le (omega arith)
            ∙ get_or-range bytes at len (i - at) 0 (omega arith)
            ∙ ap (λ (k : ℕ). get_or bytes k 0) place
        | inr after ↦ get_or-put_after bytes at (range bytes at len) i 0 (omega arith) (omega arith)
      ]
    ])
