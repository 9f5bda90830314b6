-- A piece that is put into two lists joined end to end, or behind another piece; and their ranges.
use Rattle.std.proofs.Common.{◌≡◌, ℕ, suc, ◌+◌, ◌≤◌, List, [], ◌∷◌, ◌++◌, length, take}
use Rattle.std.proofs.Common.{drop, sym, ap, ◌∙◌, arith, append_assoc}
use Rattle.std.proofs.Math.Seq.{drop-append-add, take-add}
use Rattle.std.proofs.lemmas.List.{take-append-le, drop-append-le, drop-drop, length-append}
use Rattle.std.proofs.lemmas.List.{append-nil, length-drop, length-take-le, take_at}
use Rattle.std.proofs.lemmas.List.{take-append-drop}
use Rattle.xv_mem.specs.Bytes.{put, range}
use Rattle.xv_mem.proofs.Puts.{drop-put}

-- in the first
pub put-append_left : (xs ys : List ℕ) (at : ℕ) (piece : List ℕ) → at + length piece ≤ length xs
    → put (xs ++ ys) at piece ≡ put xs at piece ++ ys
unfolding put
put-append_left xs ys at piece fits =
    let front = take-append-le at xs ys (omega arith) in
    let back = drop-append-le (at + length piece) xs ys fits in
    ap (λ (zs : List ℕ). zs ++ piece ++ drop (at + length piece) (xs ++ ys)) front
    ∙ ap (λ (zs : List ℕ). take at xs ++ piece ++ zs) back
    ∙ sym (append_assoc (take at xs ++ piece) (drop (at + length piece) xs) ys)

-- in the second
pub put-append_right : (xs ys : List ℕ) (at : ℕ) (piece : List ℕ)
    → put (xs ++ ys) (length xs + at) piece ≡ xs ++ put ys at piece
unfolding put
put-append_right [] ys at piece =
    let zero_is : 0 + at ≡ at = omega arith in
    ap (λ (n : ℕ). take n ys ++ piece ++ drop (n + length piece) ys) zero_is
put-append_right (x ∷ xs) ys at piece =
    let first : suc (length xs) + at ≡ suc (length xs + at) = omega arith in
    let behind : suc (length xs + at) + length piece ≡ suc (length xs + at + length piece) =
    omega arith in
    ap (λ (n : ℕ). take n (x ∷ (xs ++ ys)) ++ piece
    ++ drop (n + length piece) (x ∷ (xs ++ ys))) first
    ∙ ap (λ (n : ℕ). take (suc (length xs + at)) (x ∷ (xs ++ ys)) ++ piece
    ++ drop n (x ∷ (xs ++ ys))) behind
    ∙ ap (λ (zs : List ℕ). x ∷ zs) (put-append_right xs ys at piece)

-- a piece right behind another is one with it
pub put-joined : (bytes : List ℕ) (at : ℕ) (xs ys : List ℕ)
    → at + length xs + length ys ≤ length bytes
    → put (put bytes at xs) (at + length xs) ys ≡ put bytes at (xs ++ ys)
unfolding put
put-joined bytes at xs ys fits =
    let both = length-append xs ys in
    let front : length (take at bytes ++ xs) ≡ at + length xs =
    length-append (take at bytes) xs
    ∙ ap (λ (n : ℕ). n + length xs) (length-take-le at bytes (omega arith)) in
    let behind : at + length xs + length ys ≡ at + length (xs ++ ys) = omega arith in
    ap (λ (zs : List ℕ). zs ++ ys ++ drop (at + length xs + length ys) (put bytes at xs))
    (take_at (take at bytes ++ xs) (drop (at + length xs) bytes) (at + length xs) front)
    ∙ ap (λ (zs : List ℕ). take at bytes ++ xs ++ ys ++ zs)
    (drop-put bytes at xs (at + length xs + length ys) (omega arith) (omega arith))
    ∙ ap (λ (zs : List ℕ). zs ++ drop (at + length xs + length ys) bytes)
    (append_assoc (take at bytes) xs ys)
    ∙ ap (λ (n : ℕ). take at bytes ++ (xs ++ ys) ++ drop n bytes) behind

-- no bytes change nothing
pub put-none : (bytes : List ℕ) (at : ℕ) → put bytes at [] ≡ bytes
unfolding put
put-none bytes at =
    let here : at + 0 ≡ at = omega arith in
    ap (λ (zs : List ℕ). zs ++ drop (at + 0) bytes) (append-nil (take at bytes))
    ∙ ap (λ (n : ℕ). take at bytes ++ drop n bytes) here
    ∙ take-append-drop at bytes

-- ---- ranges

pub range-append_left : (xs ys : List ℕ) (at len : ℕ) → at + len ≤ length xs
    → range (xs ++ ys) at len ≡ range xs at len
unfolding range
range-append_left xs ys at len fits =
    let rest = length-drop at xs in
    ap (take len) (drop-append-le at xs ys (omega arith))
    ∙ take-append-le len (drop at xs) ys (omega arith)

pub range-append_right : (xs ys : List ℕ) (at len : ℕ)
    → range (xs ++ ys) (length xs + at) len ≡ range ys at len
unfolding range
range-append_right xs ys at len = ap (take len) (drop-append-add xs ys at)

pub range-joined : (bytes : List ℕ) (at m n : ℕ)
    → range bytes at m ++ range bytes (at + m) n ≡ range bytes at (m + n)
unfolding range
range-joined bytes at m n =
    ap (λ (xs : List ℕ). take m (drop at bytes) ++ take n xs) (sym (drop-drop m at bytes))
    ∙ sym (take-add m n (drop at bytes))
