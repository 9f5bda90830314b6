-- Tries of a reader and of a writer, whose bytes may be known.
use Rattle.std.proofs.Common.{◌≡◌, ℕ, ◌+◌, ◌-◌, List, [], ◌++◌, length, take, drop, Option, None}
use Rattle.std.proofs.Common.{Some, refl, ◌∙◌, sym, ap, subst}
use Rattle.std.proofs.lemmas.List.{append_assoc, append-nil, take-append-drop, take_rest}
use Rattle.std.proofs.Math.Seq.{take-add}
use Rattle.std.specs.Io.KnownBytes.{Keeps, Consumes, Appends}
use Rattle.xv_outside.specs.Stream.{AppendsFront}

-- what stays, stays
pub keeps_same : (a : Option (List ℕ)) → Keeps a a
keeps_same None = tt
keeps_same (Some xs) = refl

pub keeps_more : (a b c : Option (List ℕ)) → Keeps a b → Keeps b c → Keeps a c
keeps_more None b c p q = tt
keeps_more (Some xs) None c p q = absurd p
keeps_more (Some xs) (Some ys) None p q = absurd q
keeps_more (Some xs) (Some ys) (Some zs) p q = q ∙ p

-- bytes that stayed and were then consumed
pub keeps_consumes : (a b c : Option (List ℕ)) (bytes : List ℕ) → Keeps a b → Consumes b c bytes
    → Consumes a c bytes
keeps_consumes None b c bytes p q = tt
keeps_consumes (Some xs) None c bytes p q = absurd p
keeps_consumes (Some xs) (Some ys) None bytes p q = absurd q
keeps_consumes (Some xs) (Some ys) (Some zs) bytes p q = sym p ∙ q

-- bytes that stayed and then grew
pub keeps_appends : (a b c : Option (List ℕ)) (bytes : List ℕ) → Keeps a b → Appends b c bytes
    → Appends a c bytes
keeps_appends None b c bytes p q = tt
keeps_appends (Some xs) None c bytes p q = absurd p
keeps_appends (Some xs) (Some ys) None bytes p q = absurd q
keeps_appends (Some xs) (Some ys) (Some zs) bytes p q = q ∙ ap (λ (list : List ℕ). list ++ bytes) p

-- bytes that grew and then stayed
pub appends_keeps : (a b c : Option (List ℕ)) (bytes : List ℕ) → Appends a b bytes → Keeps b c
    → Appends a c bytes
appends_keeps None b c bytes p q = tt
appends_keeps (Some xs) None c bytes p q = absurd p
appends_keeps (Some xs) (Some ys) None bytes p q = absurd q
appends_keeps (Some xs) (Some ys) (Some zs) bytes p q = q ∙ p

-- no bytes yet
pub appends_nothing : (a : Option (List ℕ)) → Appends a a []
appends_nothing None = tt
appends_nothing (Some xs) = sym (append-nil xs)

appends_both : (a b c : Option (List ℕ)) (first second : List ℕ) → Appends a b first
    → Appends b c second → Appends a c (first ++ second)
appends_both None b c first second p q = tt
appends_both (Some xs) None c first second p q = absurd p
appends_both (Some xs) (Some ys) None first second p q = absurd q
appends_both (Some xs) (Some ys) (Some zs) first second p q =
    q ∙ ap (λ (list : List ℕ). list ++ second) p ∙ append_assoc xs first second

-- a piece up to a place, and a front of what is left of it
pub appends_more : (a b c : Option (List ℕ)) (piece : List ℕ) (at n : ℕ)
    → Appends a b (take at piece) → Appends b c (take n (take (length piece - at) (drop at piece)))
    → Appends a c (take (at + n) piece)
appends_more a b c piece at n p q =
    let left : take n (take (length piece - at) (drop at piece)) ≡ take n (drop at piece) =
    ap (λ (list : List ℕ). take n list) (take_rest piece at) in
    let grown : Appends b c (take n (drop at piece)) = let P : List ℕ → Type 0 =
    λ list. Appends b c list in subst P left q in
    let P : List ℕ → Type 0 = λ list. Appends a c list in
    subst P (sym (take-add at n piece))
    (appends_both a b c (take at piece) (take n (drop at piece)) p grown)

-- a piece up to a place is a front of it
pub appends_front : (a b : Option (List ℕ)) (piece : List ℕ) (at : ℕ) → Appends a b (take at piece)
    → AppendsFront a b piece
appends_front a b piece at p = record {
  front = take at piece;
  rest = drop at piece;
  whole = take-append-drop at piece;
  appended = p;
}

pub ruleset of_reads = (keeps_same, keeps_more, keeps_consumes)

pub ruleset of_writes = (keeps_same, keeps_more, keeps_appends)
