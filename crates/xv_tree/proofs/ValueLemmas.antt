-- Values of properties.
use Rattle.std.proofs.Common.{◌≡◌, ℕ, ◌≤◌, Bool, true, false, cond, ltb}
use Rattle.std.proofs.Common.{List, length, take, Some, None, refl, sym, arith}
use Rattle.std.specs.List.{position, position_or_len}
use Rattle.std.proofs.lemmas.List.{take_all}
use Rattle.std.proofs.lemmas.Bool.Decides.{nat_tests}
use Rattle.xv_tree.specs.Values.{is_zero, text}

some-at : (b : Bool) (at len : ℕ) (value : List ℕ) → cond b (Some at) None ≡ Some len
    → take len value ≡ take at value
some-at true at len value is =
    let same : at ≡ len = cc in
    rw same refl
some-at false at len value is = absurd cc

pub text-some : (value : List ℕ) (len : ℕ) → position is_zero value ≡ Some len
    → take len value ≡ text value
text-some value len is =
    some-at (ltb (position_or_len is_zero value) (length value))
    (position_or_len is_zero value) len value is

none-past : (b : Bool) (at : ℕ) (value : List ℕ) → ltb at (length value) ≡ b
    → cond b (Some at) None ≡ None → take at value ≡ value
none-past true at value test is = absurd cc
none-past false at value test is =
    let past : length value ≤ at = grind (arith, nat_tests) in
    take_all at value past

pub text-none : (value : List ℕ) → position is_zero value ≡ None → value ≡ text value
text-none value is =
    sym (none-past (ltb (position_or_len is_zero value) (length value))
    (position_or_len is_zero value) value refl is)
