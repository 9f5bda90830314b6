-- Texts, and the tokens from a place on: the first, and those behind it.
use Rattle.std.proofs.Common.{◌≡◌, ◌≢◌, ℕ, zero, suc, ◌+◌, ◌-◌, ◌<◌, ◌≤◌, ◌==◌, Bool, true, false}
use Rattle.std.proofs.Common.{not, cond, ltb, List, [], ◌∷◌, length, take, Option, Some, None}
use Rattle.std.proofs.Common.{Result, Ok, Err, refl, sym, ◌∙◌, ap, inl, inr, arith}
use Rattle.std.specs.List.{position, position_or_len}
use Rattle.std.specs.Option.{option_map}
use Rattle.std.proofs.lemmas.Bool.{cases_lt, lt-ltb}
use Rattle.std.proofs.lemmas.Bool.Decides.{nat_tests}
use Rattle.xv_fdt.specs.declared.fault.FdtKind.{FdtKind}
use Rattle.xv_fdt.specs.declared.token.Mark.{Mark}
use Rattle.xv_fdt.specs.declared.token.Mark.TheVariants as marks
use Rattle.xv_fdt.specs.Token.{text, Begin, Prop, mark_at, name_at, property_at, token_of, token_at}
use Rattle.xv_fdt.specs.Token.{padded_len, next_of, before, tokens_up_to, tokens}
use Rattle.xv_fdt.specs.Tree.{Property}
use Rattle.xv_fdt.specs.Progress.{tokens_after}

-- ---- texts

inner : (t : Bool) (x : ℕ) (xs : List ℕ) (n : ℕ)
    → option_map (λ others. x ∷ others) (option_map (λ len. take len xs) (cond t (Some n) None))
    ≡ option_map (λ len. take len (x ∷ xs)) (cond t (Some (suc n)) None)
inner true x xs n = refl
inner false x xs n = refl

less : (n m : ℕ) → ltb (suc n) (suc m) ≡ ltb n m
less n m = grind (arith, nat_tests)

text_step : (is_zero : Bool) (x : ℕ) (xs : List ℕ) (n : ℕ) (found : Option (List ℕ))
    → found ≡ option_map (λ len. take len xs) (cond (ltb n (length xs)) (Some n) None)
    → cond is_zero (Some []) (option_map (λ others. x ∷ others) found)
    ≡ option_map (λ len. take len (x ∷ xs))
    (cond (ltb (cond (not is_zero) (1 + n) 0) (suc (length xs)))
    (Some (cond (not is_zero) (1 + n) 0)) None)
text_step true x xs n found e =
    let some : ltb 0 (suc (length xs)) ≡ true = lt-ltb 0 (suc (length xs)) (omega arith) in
    rw some refl
text_step false x xs n found e =
    let one : 1 + n ≡ suc n = omega arith in
    rw (e, one, less n (length xs)) (inner (ltb n (length xs)) x xs n)

-- the text is the front up to the first 0
pub text-position : (bytes : List ℕ)
    → text bytes ≡ option_map (λ len. take len bytes) (position (λ byte. byte == 0) bytes)
unfolding text
text-position [] = refl
text-position (byte ∷ bytes) =
    text_step (byte == 0) byte bytes (position_or_len (λ b. b == 0) bytes) (text bytes)
    (text-position bytes)

pub text-none : (bytes : List ℕ) → position (λ byte. byte == 0) bytes ≡ None → text bytes ≡ None
text-none bytes e = text-position bytes ∙ ap (option_map (λ len. take len bytes)) e

pub text-some : (bytes : List ℕ) (len : ℕ) → position (λ byte. byte == 0) bytes ≡ Some len
    → text bytes ≡ Some (take len bytes)
text-some bytes len e = text-position bytes ∙ ap (option_map (λ n. take n bytes)) e

pub text-nil : text [] ≡ None
unfolding text
text-nil = refl

-- ---- enough tokens

pub cut : (block : List ℕ) (at : ℕ) → length block < at + 4 → mark_at block at ≡ marks.Cut
unfolding mark_at
cut block at short = rw (lt-ltb (length block) (at + 4) short) refl

-- a mark is whole
pub whole : (block : List ℕ) (at : ℕ) → mark_at block at ≢ marks.Cut → at + 4 ≤ length block
whole block at found =
    elim (cases_lt (length block) (at + 4)) [
      | inl short ↦
          absurd (found (cut block at short))
      | inr long ↦ long
    ]

abbrev Further : List ℕ → ℕ → ℕ → Type 0
Further block at next = (at + 4 ≤ length block) × (at + 4 ≤ next)

-- what is next lies further on
further_name : (at next : ℕ) (name : Result (List ℕ) FdtKind) → next_of (Begin at name) ≡ Some next
    → at + 4 ≤ next
further_name at next (Ok name) e = let there : at + 4 + padded_len (length name + 1) ≡ next =
    cc in omega arith
further_name at next (Err kind) e = absurd cc

further_property : (at next : ℕ) (property : Result Property FdtKind)
    → next_of (Prop at property) ≡ Some next → at + 4 ≤ next
further_property at next (Ok p) e = let there : at + 12 + padded_len (length p.value) ≡ next =
    cc in omega arith
further_property at next (Err kind) e = absurd cc

further_of : (block strings : List ℕ) (at next : ℕ) (mark : Mark) → mark_at block at ≡ mark
    → next_of (token_of block strings at mark) ≡ Some next → Further block at next
further_of block strings at next marks.Begin is e =
    (whole block at (λ other. absurd cc), further_name at next (name_at block at) e)
further_of block strings at next marks.EndNode is e =
    (whole block at (λ other. absurd cc), (let there : at + 4 ≡ next = cc in omega arith))
further_of block strings at next marks.Prop is e =
    (whole block at (λ other. absurd cc), further_property at next (property_at block strings at) e)
further_of block strings at next marks.Nop is e =
    (whole block at (λ other. absurd cc), (let there : at + 4 ≡ next = cc in omega arith))
further_of block strings at next marks.End is e = absurd cc
further_of block strings at next marks.Strange is e = absurd cc
further_of block strings at next marks.Cut is e = absurd cc

further : (block strings : List ℕ) (at next : ℕ) → next_of (token_at block strings at) ≡ Some next
    → Further block at next
unfolding token_at
further block strings at next e = further_of block strings at next (mark_at block at) refl e

none_left : (count : ℕ) (block strings : List ℕ) → tokens_up_to count block strings None ≡ []
unfolding tokens_up_to
none_left zero block strings = refl
none_left (suc count) block strings = refl

-- so many tokens are enough from a place on
abbrev Enough : ℕ → List ℕ → Option ℕ → Type 0
Enough count block None = Unit {0}
Enough count block (Some at) = length block - at < count

enough_next : (count : ℕ) (block strings : List ℕ) (at : ℕ) (place : Option ℕ)
    → next_of (token_at block strings at) ≡ place → length block - at < suc count
    → Enough count block place
enough_next count block strings at None e p = tt
enough_next count block strings at (Some next) e p =
    let far = further block strings at next e in omega (arith, far)

-- more than enough tokens are the same
enough : (n m : ℕ) (block strings : List ℕ) (place : Option ℕ) → Enough n block place
    → Enough m block place
    → tokens_up_to n block strings place ≡ tokens_up_to m block strings place
unfolding tokens_up_to
enough n m block strings None p q = none_left n block strings ∙ sym (none_left m block strings)
enough zero m block strings (Some at) p q = absurd (omega (arith, p))
enough (suc n) zero block strings (Some at) p q = absurd (omega (arith, q))
enough (suc n) (suc m) block strings (Some at) p q =
    ap (before (token_at block strings at))
    (enough n m block strings (next_of (token_at block strings at))
    (enough_next n block strings at (next_of (token_at block strings at)) refl p)
    (enough_next m block strings at (next_of (token_at block strings at)) refl q))

-- ---- the first token, and those behind it

after_is : (count : ℕ) (block strings : List ℕ) (place : Option ℕ) → Enough count block place
    → tokens_up_to count block strings place ≡ tokens_after block strings place
unfolding tokens
after_is count block strings None p = none_left count block strings
after_is count block strings (Some next) p =
    enough count (suc (length block - next)) block strings (Some next) p (omega arith)

tokens-first : (block strings : List ℕ) (at : ℕ)
    → tokens block strings at ≡ before (token_at block strings at)
    (tokens_after block strings (next_of (token_at block strings at)))
unfolding tokens tokens_up_to
tokens-first block strings at =
    let next = next_of (token_at block strings at) in
    ap (before (token_at block strings at))
    (after_is (length block - at) block strings next
    (enough_next (length block - at) block strings at next refl (omega arith)))

pub tokens-at : (block strings : List ℕ) (at : ℕ) (mark : Mark) → mark_at block at ≡ mark
    → tokens block strings at ≡ before (token_of block strings at mark)
    (tokens_after block strings (next_of (token_of block strings at mark)))
unfolding token_at
tokens-at block strings at mark is =
    tokens-first block strings at
    ∙ ap (λ m. before (token_of block strings at m)
    (tokens_after block strings (next_of (token_of block strings at m)))) is

pub tokens-nop : (block strings : List ℕ) (at : ℕ) → mark_at block at ≡ marks.Nop
    → tokens block strings at ≡ tokens block strings (at + 4)
tokens-nop block strings at is = tokens-at block strings at marks.Nop is

-- a property, and the tokens behind it
pub tokens-property : (block strings : List ℕ) (at : ℕ) (p : Property)
    → mark_at block at ≡ marks.Prop → property_at block strings at ≡ Ok p
    → tokens block strings at ≡ Prop at (property_at block strings at)
    ∷ tokens block strings (at + 12 + padded_len (length p.value))
tokens-property block strings at p is found =
    tokens-at block strings at marks.Prop is
    ∙ ap (λ r. Prop at (property_at block strings at)
    ∷ tokens_after block strings (next_of (Prop at r))) found

-- a begin token, and the tokens behind its name
pub tokens-begin : (block strings : List ℕ) (at : ℕ) (name : List ℕ)
    → mark_at block at ≡ marks.Begin → name_at block at ≡ Ok name
    → tokens block strings at ≡ Begin at (name_at block at)
    ∷ tokens block strings (at + 4 + padded_len (length name + 1))
tokens-begin block strings at name is found =
    tokens-at block strings at marks.Begin is
    ∙ ap (λ r. Begin at (name_at block at)
    ∷ tokens_after block strings (next_of (Begin at r))) found
