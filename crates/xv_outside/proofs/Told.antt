-- What a caller of a source, a sink or files knows where the bytes are told, over one call and over
-- several.
use Rattle.std.proofs.Common.{◌≡◌, ◌↔◌, ℕ, ◌+◌, ◌≤◌, List, [], ◌++◌, length, take, drop, Option}
use Rattle.std.proofs.Common.{Some, None, refl, sym, ap, ◌∙◌, subst, arith}
use Rattle.std.proofs.lemmas.List.{append_assoc, append-nil, drop-drop, length-append}
use Rattle.std.proofs.lemmas.List.{length-take-le, take-append-drop}
use Rattle.xv_base.specs.Fault.{Rose}
use Rattle.xv_outside.specs.Outside.{GivesFront, EndsWithTheBytes, left_after, taken_with}
use Rattle.xv_outside.specs.Outside.{TookFront}
use Rattle.xv_outside.specs.Fetch.{FileMap, Tells, TellsOf}
use Rattle.xv_outside.specs.declared.outside.Fetched.{Fetched}
use Rattle.std.specs.FinMap.{get}

-- a read of told bytes gave their front
pub front_told : (left : Option (List ℕ)) (bytes buf : List ℕ) (n : ℕ) → left ≡ Some bytes
    → GivesFront left buf n → (n ≤ length bytes) × (take n buf ≡ take n bytes)
front_told left bytes buf n e h = let P : Option (List ℕ) → Type 0 = λ o. GivesFront o buf n in
    subst P e h

-- the end of told bytes
pub end_told : (left : Option (List ℕ)) (bytes : List ℕ) (n : ℕ) → left ≡ Some bytes
    → EndsWithTheBytes left n → (n ≡ 0) ↔ (bytes ≡ [])
end_told left bytes n e h = let P : Option (List ℕ) → Type 0 = λ o. EndsWithTheBytes o n in
    subst P e h

-- told bytes lose their front
pub left_told : (left : Option (List ℕ)) (bytes : List ℕ) (n : ℕ) → left ≡ Some bytes
    → left_after left n ≡ Some (drop n bytes)
left_told left bytes n e = ap (λ o. left_after o n) e

-- bytes that aren't told aren't told after a read
pub left_untold : (left : Option (List ℕ)) (n : ℕ) → left ≡ None → left_after left n ≡ None
left_untold left n e = ap (λ o. left_after o n) e

-- one more read: what was read so far is a front of all, and goes on by what the read gave
pub read_more : (all done buf : List ℕ) (left new : Option (List ℕ)) (n : ℕ)
    → done ++ drop (length done) all ≡ all → left ≡ Some (drop (length done) all)
    → GivesFront left buf n → new ≡ left_after left n
    → ((done ++ take n buf) ++ drop (length (done ++ take n buf)) all ≡ all)
    × (new ≡ Some (drop (length (done ++ take n buf)) all))
read_more all done buf left new n whole e front moved =
    let rest : List ℕ = drop (length done) all in
    let told : (n ≤ length rest) × (take n buf ≡ take n rest) =
    front_told left rest buf n e front in
    let size : length (take n buf) ≡ n = ap length told.1 ∙ length-take-le n rest told.0 in
    let count : length (done ++ take n buf) ≡ length done + n =
    length-append done (take n buf) ∙ ap (λ (k : ℕ). length done + k) size in
    let after : drop (length (done ++ take n buf)) all ≡ drop n rest =
    ap (λ (k : ℕ). drop k all) count ∙ sym (drop-drop n (length done) all) in
    let joined : take n buf ++ drop n rest ≡ rest =
    ap (λ (xs : List ℕ). xs ++ drop n rest) told.1 ∙ take-append-drop n rest in (
      ap (λ (xs : List ℕ). (done ++ take n buf) ++ xs) after
          ∙ append_assoc done (take n buf) (drop n rest)
          ∙ ap (λ (xs : List ℕ). done ++ xs) joined
          ∙ whole,
      moved ∙ left_told left rest n e ∙ ap Some (sym after),
    )

-- a read that told the end: what was read so far is all, and nothing is left
pub read_end : (all done : List ℕ) (left new : Option (List ℕ)) (n : ℕ)
    → done ++ drop (length done) all ≡ all → left ≡ Some (drop (length done) all)
    → EndsWithTheBytes left n → n ≡ 0 → new ≡ left_after left n → (done ≡ all) × (new ≡ Some [])
read_end all done left new n whole e end none moved =
    let rest : List ℕ = drop (length done) all in
    let nothing : rest ≡ [] = (end_told left rest n e end).0 none in (
      sym (append-nil done) ∙ ap (λ (xs : List ℕ). done ++ xs) (sym nothing) ∙ whole,
      moved ∙ left_told left rest n e ∙ ap (λ (k : ℕ). Some (drop k rest)) none ∙ ap Some nothing,
    )

-- told bytes get the piece behind them
pub taken_told : (taken : Option (List ℕ)) (bytes piece : List ℕ) → taken ≡ Some bytes
    → taken_with taken piece ≡ Some (bytes ++ piece)
taken_told taken bytes piece e = ap (λ o. taken_with o piece) e

-- nothing behind them
pub taken_with_none : (taken : Option (List ℕ)) → taken_with taken [] ≡ taken
taken_with_none None = refl
taken_with_none (Some bytes) = ap Some (append-nil bytes)

-- a piece and then another are one piece
pub taken_with_both : (taken : Option (List ℕ)) (first second : List ℕ)
    → taken_with (taken_with taken first) second ≡ taken_with taken (first ++ second)
taken_with_both None first second = refl
taken_with_both (Some bytes) first second = ap Some (append_assoc bytes first second)

-- a put that failed after a whole piece took a front of both
pub took_front_after : (old mid new : Option (List ℕ)) (first second : List ℕ)
    → mid ≡ taken_with old first → TookFront mid new second → TookFront old new (first ++ second)
took_front_after old mid new first second e t = record {
  front = first ++ t.front;
  rest = t.rest;
  whole = append_assoc first t.front t.rest ∙ ap (λ xs. first ++ xs) t.whole;
  taken = t.taken ∙ ap (λ o. taken_with o t.front) e ∙ taken_with_both old first t.front;
}

-- a front of a piece is a front of that piece and what was to follow
pub took_front_before : (old new : Option (List ℕ)) (piece later : List ℕ) → TookFront old new piece
    → TookFront old new (piece ++ later)
took_front_before old new piece later t = record {
  front = t.front;
  rest = t.rest ++ later;
  whole = sym (append_assoc t.front t.rest later) ∙ ap (λ xs. xs ++ later) t.whole;
  taken = t.taken;
}

-- a fetch of told files answers by the map
pub fetch_told : (files : Option FileMap) (map : FileMap) (name : List ℕ) (limit : ℕ)
    (fetched : Fetched) → files ≡ Some map → TellsOf files name limit fetched
    → Tells (get map name) limit fetched
fetch_told files map name limit fetched e h = let P : Option FileMap → Type 0 =
    λ o. TellsOf o name limit fetched in subst P e h

-- a rise in one call is a rise over the calls before and after it
pub rose_over : (first before after last : ℕ) → first ≤ before → Rose before after → after ≤ last
    → Rose first last
rose_over first before after last h rose k = omega arith
