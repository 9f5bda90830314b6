-- A store into a guest's memory, and a read of it, piece by piece.
use Rattle.std.proofs.Common.{◌≡◌, ℕ, ◌+◌, ◌-◌, ◌<◌, ◌≤◌, List, [], ◌++◌, length, get_or}
use Rattle.std.proofs.Common.{take, drop, refl, sym, ap, ◌∙◌, arith, inl, inr}
use Rattle.std.proofs.Math.ListN.{set}
use Rattle.std.proofs.Math.Seq.{take-add}
use Rattle.std.proofs.lemmas.Bool.{cases_lt}
use Rattle.std.proofs.lemmas.List.{get_or-set_same, get_or_past, length-drop, length-set}
use Rattle.std.proofs.lemmas.List.{length-take-le, set-get_or, set-set}
use Rattle.xv_mem.specs.Bytes.{put, range}
use Rattle.xv_mem.proofs.Puts.{length-put}
use Rattle.xv_lone.specs.Memory.{Memory, Place, store_place}
use Rattle.xv_guest.proofs.PutLemmas.{put-joined, put-none, range-joined}

abbrev pub place : (region offset : ℕ) → Place
place region offset = record { region = region; offset = offset }

-- ---- stores

module _ (memory : Memory) (region offset : ℕ) where
  -- no bytes change nothing
  pub store_none : memory ≡ store_place memory (place region offset) []
  store_none =
      sym (ap (set memory region) (put-none (get_or memory region []) offset)
      ∙ set-get_or memory region [])

  -- a region keeps its size
  pub store_size : (piece : List ℕ) → offset + length piece ≤ length (get_or memory region [])
      → length (get_or (store_place memory (place region offset) piece) region [])
      ≡ length (get_or memory region [])
  store_size piece fits =
      let bytes = get_or memory region [] in
      let longer = length-set memory region (put bytes offset piece) in
      elim (cases_lt region (length memory)) [
        | inl within ↦
            ap length (get_or-set_same memory region (put bytes offset piece) [] within)
            ∙ length-put bytes offset piece fits
        | inr past ↦
            ap length (get_or_past (set memory region (put bytes offset piece)) region []
            (omega arith))
            ∙ sym (ap length (get_or_past memory region [] past))
      ]

  -- one right behind another is one with it
  pub store_joined : (xs ys : List ℕ)
      → offset + length xs + length ys ≤ length (get_or memory region []) → 0 < length ys
      → store_place (store_place memory (place region offset) xs)
      (place region (offset + length xs)) ys
      ≡ store_place memory (place region offset) (xs ++ ys)
  store_joined xs ys fits some =
      let bytes = get_or memory region [] in
      let first = put bytes offset xs in
      elim (cases_lt region (length memory)) [
        | inl within ↦
            set-set memory region first
            (put (get_or (set memory region first) region []) (offset + length xs) ys)
            ∙ ap (λ (zs : List ℕ). set memory region (put zs (offset + length xs) ys))
            (get_or-set_same memory region first [] within)
            ∙ ap (set memory region) (put-joined bytes offset xs ys fits)
        | inr past ↦
            (let none = ap length (get_or_past memory region [] past) in absurd (omega arith))
      ]

  -- so the first bytes are stored with the next ones
  pub store_more : (bytes : List ℕ) (done count : ℕ) → 0 < count → done + count ≤ length bytes
      → offset + length bytes ≤ length (get_or memory region [])
      → store_place (store_place memory (place region offset) (take done bytes))
      (place region (offset + done)) (take (done + count - done) (drop done bytes))
      ≡ store_place memory (place region offset) (take (done + count) bytes)
  store_more bytes done count some within fits =
      let xs = take done bytes in
      let ys = take count (drop done bytes) in
      let front : length (take done bytes) ≡ done = length-take-le done bytes (omega arith) in
      let rest = length-drop done bytes in
      let next : length (take count (drop done bytes)) ≡ count =
      length-take-le count (drop done bytes) (omega arith) in
      let left : done + count - done ≡ count = omega arith in
      ap (λ (n : ℕ). store_place (store_place memory (place region offset) xs)
      (place region (offset + done)) (take n (drop done bytes))) left
      ∙ ap (λ (n : ℕ). store_place (store_place memory (place region offset) xs)
      (place region (offset + n)) ys) (sym front)
      ∙ store_joined xs ys (omega arith) (omega arith)
      ∙ ap (store_place memory (place region offset)) (sym (take-add done count bytes))

-- ---- reads

pub range_none : (bytes : List ℕ) (at : ℕ) → [] ≡ range bytes at 0
unfolding range
range_none bytes at = refl

pub read_more : (bytes : List ℕ) (at done count : ℕ) (first next : List ℕ)
    → first ≡ range bytes at done → next ≡ range bytes (at + done) count
    → first ++ next ≡ range bytes at (done + count)
read_more bytes at done count first next before here =
    ap (λ (xs : List ℕ). xs ++ next) before
    ∙ ap (λ (xs : List ℕ). range bytes at done ++ xs) here
    ∙ range-joined bytes at done count
