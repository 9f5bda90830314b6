-- A source read piece by piece.
use Rattle.std.proofs.Common.{◌≡◌, ℕ, ◌+◌, ◌≤◌, List, [], ◌++◌, length, take, drop, Option, Some}
use Rattle.std.proofs.Common.{None, subst, refl, sym, ap, ◌∙◌, arith}
use Rattle.std.proofs.lemmas.List.{length-append, length-take-le, length-drop, drop-drop, take_all}
use Rattle.std.proofs.lemmas.List.{drop_all}
use Rattle.std.proofs.Math.Seq.{take-add}
use Rattle.xv_outside.specs.Outside.{GivesFront, EndsWithTheBytes, left_after}
use Rattle.xv_top.specs.Boot.{IsTextOf, ReadsAtMost, most_read}

-- the text so far is a front of what the source had, and the rest is left
abbrev pub IsFront : Option (List ℕ) → Option (List ℕ) → List ℕ → Type 0
IsFront None now text = now ≡ None
IsFront (Some all) now text =
    (text ≡ take (length text) all) × (now ≡ Some (drop (length text) all))

pub front_start : (first : Option (List ℕ)) → IsFront first first []
front_start None = refl
front_start (Some all) = (refl, refl)

pub front_within : (first now : Option (List ℕ)) (text : List ℕ) → IsFront first now text
    → length text ≤ most_read → ReadsAtMost most_read first now
front_within None now text h few = record { count = 0; within = omega arith; left = h }
front_within (Some all) now text h few = record { count = length text; within = few; left = h.1 }

pub front_more : (first now next : Option (List ℕ)) (text buf : List ℕ) (n : ℕ)
    → IsFront first now text → GivesFront now buf n → n ≤ length buf → next ≡ left_after now n
    → IsFront first next (text ++ take n buf)
front_more None now next text buf n h given within e = e ∙ ap (λ o. left_after o n) h
front_more (Some all) now next text buf n h given within e =
    let front : List ℕ = take (length text) all in
    let rest : List ℕ = drop (length text) all in
    let gave = subst (λ o. GivesFront o buf n) h.1 given in
    let longer : length (text ++ take n buf) ≡ length text + n = length-append text (take n buf)
    ∙ ap (λ k. length text + k) (length-take-le n buf within) in (
      ap (λ t. t ++ take n buf) h.0 ∙ (ap (λ t. front ++ t) gave.1
          ∙ (sym (take-add (length text) n all) ∙ ap (λ k. take k all) (sym longer))),
      e ∙ (ap (λ o. left_after o n) h.1
          ∙ (ap Some (drop-drop n (length text) all) ∙ ap (λ k. Some (drop k all)) (sym longer))),
    )

-- at the end of what the source had, the text is all of it
pub front_all : (first now : Option (List ℕ)) (text : List ℕ) → IsFront first now text
    → EndsWithTheBytes now 0 → length text ≤ most_read → IsTextOf first text
    × (now ≡ left_after first most_read)
front_all None now text h end few = (tt, h)
front_all (Some all) now text h end few =
    let rest : drop (length text) all ≡ [] = (subst (λ o. EndsWithTheBytes o 0) h.1 end).0 refl in
    let short : length all ≤ length text =
    omega (arith, ap length rest, length-drop (length text) all) in (
      h.0 ∙ (take_all (length text) all short ∙ sym (take_all most_read all (omega arith))),
      h.1 ∙ ap Some (rest ∙ sym (drop_all most_read all (omega arith))),
    )

-- at the limit, the text is that much of it
pub front_limit : (first now : Option (List ℕ)) (text : List ℕ) → IsFront first now text
    → most_read ≡ length text → IsTextOf first text × (now ≡ left_after first most_read)
front_limit None now text h e = (tt, h)
front_limit (Some all) now text h e =
    (h.0 ∙ ap (λ n. take n all) (sym e), h.1 ∙ ap (λ n. Some (drop n all)) (sym e))

pub nothing_taken : (now : Option (List ℕ)) → left_after now 0 ≡ now
nothing_taken None = refl
nothing_taken (Some rest) = refl
