-- The rule that no word matches two rows, and what follows for the row of a word.
use Rattle.std.proofs.Common.{◌≡◌, ℕ, zero, suc, ◌+◌, ◌<◌, Bool, true, false, not, ◌&&◌, cond, List}
use Rattle.std.proofs.Common.{[], ◌∷◌, length, Option, None, Some, refl, sym, ap, ◌∙◌, subst, arith}
use Rattle.std.proofs.Common.{◌==◌, slice_get, ◌≢◌, ◌⊎◌, inl, inr}
use Rattle.std.specs.Int.Bits.{bit_and}
use Rattle.std.specs.List.{list_all}
use Rattle.std.proofs.lemmas.Option.{slice_get_within}
use Rattle.std.proofs.lemmas.Nat.{and_assoc, and_comm}
use Rattle.std.proofs.lemmas.Bool.{eqb-true, eqb-false, eq-eqb, ne_eqb, and_parts, not-true}
use Rattle.xv_isa.specs.declared.rows.Row.{Row}
use Rattle.std.specs.Option.{IfSome, IsSomeAnd, option_map}
use Rattle.xv_isa.specs.declared.instruction.Insn.{Insn}
use Rattle.xv_isa.specs.declared.rows.Form.{Form}
use Rattle.xv_isa.specs.declared.rows.Form.TheVariants.{R, I, S, B, U, J, Shift, Csr, Fence, Whole}
use Rattle.xv_isa.specs.declared.rows.Form.TheVariants.{Sfence, Lr, Amo}
use Rattle.xv_isa.specs.Operands.{decode_of, operands_of}
use Rattle.xv_isa.specs.Rows.{rows, Matches, place_from, row_of, mask_at, bits_at, form_at, op_at}
use Rattle.xv_isa.specs.Rows.{operation_at, form_of, IsRowAt}

-- ---- a row read by its place

pub operation_from_row : (k : ℕ) (r : Row) → slice_get rows k ≡ Some r → r.op ≡ operation_at k
unfolding operation_at
operation_from_row k r e = go rows k e
  where
    go : (xs : List Row) (k : ℕ) → slice_get xs k ≡ Some r → r.op ≡ op_at xs k
    go [] k e = cc
    go (x ∷ xs) zero e = cc
    go (x ∷ xs) (suc k) e = go xs k e

-- ---- apart

-- the fixed bits of the two rows disagree somewhere
abbrev apart : Row → Row → Bool
apart r s = not (bit_and r.bits s.mask == bit_and s.bits r.mask)

abbrev all_apart : List Row → Bool
all_apart [] = true
all_apart (r ∷ rs) = list_all (apart r) rs && all_apart rs

rows_apart : all_apart rows ≡ true
unfolding rows
rows_apart = refl

-- a word of both rows has the bits that both fix
meet : (word m n a b : ℕ) → bit_and word m ≡ a → bit_and word n ≡ b → bit_and a n ≡ bit_and b m
meet word m n a b p q =
    ap (λ x. bit_and x n) (sym p) ∙ and_assoc n word m ∙ ap (bit_and word) (and_comm m n)
    ∙ sym (and_assoc m word n) ∙ ap (λ x. bit_and x m) q

not_both : (word : ℕ) (r s : Row) → apart r s ≡ true → Matches word r → bit_and word s.mask ≢ s.bits
not_both word r s t p q =
    eqb-false _ _ (not-true _ t) (meet word r.mask s.mask r.bits s.bits p q)

apart_at : (r : Row) (xs : List Row) (k : ℕ) (s : Row) → list_all (apart r) xs ≡ true
    → slice_get xs k ≡ Some s → apart r s ≡ true
apart_at r [] k s t e = cc
apart_at r (x ∷ xs) zero s t e =
    let f : x ≡ s = cc in subst (λ (y : Row). apart r y ≡ true) f (and_parts _ _ t).0
apart_at r (x ∷ xs) (suc k) s t e = apart_at r xs k s (and_parts (apart r x) _ t).1 e

one_of : (word : ℕ) (xs : List Row) (j k : ℕ) (r s : Row) → all_apart xs ≡ true
    → slice_get xs j ≡ Some r → slice_get xs k ≡ Some s → Matches word r → Matches word s → j ≡ k
one_of word [] j k r s t e f p q = cc
one_of word (x ∷ xs) zero zero r s t e f p q = refl
one_of word (x ∷ xs) zero (suc k) r s t e f p q =
    let same : x ≡ r = cc in
    let here : Matches word x = subst (λ (y : Row). Matches word y) (sym same) p in
    absurd (not_both word x s
    (apart_at x xs k s (and_parts (list_all (apart x) xs) _ t).0 f) here q)
one_of word (x ∷ xs) (suc j) zero r s t e f p q =
    let same : x ≡ s = cc in
    let here : Matches word x = subst (λ (y : Row). Matches word y) (sym same) q in
    absurd (not_both word x r
    (apart_at x xs j r (and_parts (list_all (apart x) xs) _ t).0 e) here p)
one_of word (x ∷ xs) (suc j) (suc k) r s t e f p q =
    ap suc (one_of word xs j k r s (and_parts (list_all (apart x) xs) _ t).1 e f p q)

pub one_row : (word j k : ℕ) (r s : Row) → slice_get rows j ≡ Some r → slice_get rows k ≡ Some s
    → Matches word r → Matches word s → j ≡ k
one_row word j k r s = one_of word rows j k r s rows_apart

-- ---- the row of a word

-- the row at a place, with what the readings by place give
get_at : (xs : List Row) (k : ℕ) → k < length xs → (r : Row) × (slice_get xs k ≡ Some r)
    × (r.mask ≡ mask_at xs k) × (r.bits ≡ bits_at xs k) × (r.form ≡ form_at xs k)
    × (r.op ≡ op_at xs k)
get_at [] k h = absurd (omega arith)
get_at (x ∷ xs) zero h = (x, refl, refl, refl, refl, refl)
get_at (x ∷ xs) (suc k) h = get_at xs k (omega arith)

pub row_get : (k : ℕ) → k < 97 → (r : Row) × (slice_get rows k ≡ Some r) × (r.mask ≡ mask_at rows k)
    × (r.bits ≡ bits_at rows k) × (r.form ≡ form_of k) × (r.op ≡ operation_at k)
unfolding rows form_of operation_at
row_get k h = get_at rows k h

pub row_is : (k : ℕ) (r : Row) → slice_get rows k ≡ Some r → (r.bits ≡ bits_at rows k)
    × (r.form ≡ form_of k) × (r.op ≡ operation_at k)
unfolding form_of operation_at
row_is k r e = go rows k e
  where
    go : (xs : List Row) (k : ℕ) → slice_get xs k ≡ Some r → (r.bits ≡ bits_at xs k)
        × (r.form ≡ form_at xs k) × (r.op ≡ op_at xs k)
    go [] k e = cc
    go (x ∷ xs) zero e = let same : r ≡ x = cc in
        (ap (λ (y : Row). y.bits) same, ap (λ (y : Row). y.form) same, ap (λ (y : Row). y.op) same)
    go (x ∷ xs) (suc k) e = go xs k e

place_from-at : (word s k : ℕ) (xs : List Row) (r : Row) → all_apart xs ≡ true
    → slice_get xs k ≡ Some r → Matches word r → place_from word xs s ≡ Some (s + k)
place_from-at word s k [] r t e p = cc
place_from-at word s zero (x ∷ xs) r t e p =
    let same : x ≡ r = cc in
    let here : Matches word x = subst (λ (y : Row). Matches word y) (sym same) p in
    let n : s ≡ s + 0 = omega arith in
    ap (λ b. cond b (Some s) (place_from word xs (suc s))) (eq-eqb _ _ here) ∙ ap Some n
place_from-at word s (suc k) (x ∷ xs) r t e p =
    let parts = and_parts (list_all (apart x) xs) _ t in
    let no : bit_and word x.mask ≢ x.bits =
    λ q. not_both word x r (apart_at x xs k r parts.0 e) q p in
    let n : suc s + k ≡ s + suc k = omega arith in
    ap (λ b. cond b (Some s) (place_from word xs (suc s))) (ne_eqb _ _ no)
    ∙ place_from-at word (suc s) k xs r parts.1 e p ∙ ap Some n

pub row_of-at : (word k : ℕ) (r : Row) → slice_get rows k ≡ Some r → Matches word r
    → row_of word ≡ Some k
unfolding row_of
row_of-at word k r e p =
    let n : 0 + k ≡ k = omega arith in
    place_from-at word 0 k rows r rows_apart e p ∙ ap Some n

-- where no place is found, each row misses
cond_none : (b : Bool) (k : ℕ) (o : Option ℕ) → cond b (Some k) o ≡ None → (b ≡ false) × (o ≡ None)
cond_none true k o e = cc
cond_none false k o e = (refl, e)

none_all : (word s j : ℕ) (xs : List Row) (r : Row) → place_from word xs s ≡ None
    → slice_get xs j ≡ Some r → bit_and word r.mask ≢ r.bits
none_all word s j [] r e f = cc
none_all word s zero (x ∷ xs) r e f =
    let same : x ≡ r = cc in
    let no = eqb-false _ _
    (cond_none (bit_and word x.mask == x.bits) s (place_from word xs (suc s)) e).0 in
    subst (λ (y : Row). bit_and word y.mask ≢ y.bits) same no
none_all word s (suc j) (x ∷ xs) r e f =
    none_all word (suc s) j xs r
    (cond_none (bit_and word x.mask == x.bits) s (place_from word xs (suc s)) e).1 f

if_none : (word : ℕ) (o : Option Row) → ((r : Row) → o ≡ Some r → bit_and word r.mask ≢ r.bits)
    → IfSome o (λ r. bit_and word r.mask ≢ r.bits)
if_none word None h = tt
if_none word (Some r) h = h r refl

pub all_miss : (word : ℕ) → row_of word ≡ None → (j : ℕ)
    → IfSome (slice_get rows j) (λ r. bit_and word r.mask ≢ r.bits)
unfolding row_of
all_miss word e j = if_none word (slice_get rows j) (λ r f. none_all word 0 j rows r e f)

-- where a place is found, its row is matched
cond_some : (b : Bool) (k m : ℕ) (o : Option ℕ) → cond b (Some k) o ≡ Some m
    → ((b ≡ true) × (k ≡ m)) ⊎ (o ≡ Some m)
cond_some true k m o e = inl (refl, cc)
cond_some false k m o e = inr e

IsFound : ℕ → ℕ → ℕ → List Row → Type 0
IsFound word s m xs = (k : ℕ) × (r : Row) × (m ≡ s + k) × (slice_get xs k ≡ Some r) × Matches word r

place_some : (word s m : ℕ) (xs : List Row) → place_from word xs s ≡ Some m → IsFound word s m xs
unfolding IsFound
place_some word s m [] e = cc
place_some word s m (x ∷ xs) e =
    elim (cond_some (bit_and word x.mask == x.bits) s m (place_from word xs (suc s)) e) [
      | inl h ↦ (0, x, omega (arith, h.1), refl, eqb-true _ _ h.0)
      | inr h ↦ let f = place_some word (suc s) m xs h in
          (suc f.0, f.1, omega (arith, f.2), f.3, f.4)
    ]

pub row_found : (word k : ℕ) → row_of word ≡ Some k → (r : Row) × (slice_get rows k ≡ Some r)
    × Matches word r
unfolding row_of IsFound
row_found word k e =
    let f = place_some word 0 k rows e in
    let n : f.0 ≡ k = omega (arith, f.2) in
    (f.1, ap (slice_get rows) (sym n) ∙ f.3, f.4)

pub found_small : (word k : ℕ) → row_of word ≡ Some k → k < 97
unfolding rows
found_small word k e = slice_get_within rows k _ (row_found word k e).1

-- ---- the decoded instruction

pub decode_none : (word : ℕ) → row_of word ≡ None → decode_of word ≡ None
unfolding decode_of
decode_none word e = ap (option_map (λ k. operands_of (form_of k) k word)) e

pub decode_row : (word k : ℕ) → row_of word ≡ Some k
    → decode_of word ≡ Some (operands_of (form_of k) k word)
unfolding decode_of
decode_row word k e = ap (option_map (λ k. operands_of (form_of k) k word)) e

pub placed_row : (word k : ℕ) (f : Form) → IsRowAt word k f → (row_of word ≡ Some k)
    × (form_of k ≡ f)
unfolding form_of
placed_row word k f h =
    let r = row_get k h.0 in
    let p : Matches word r.0 = ap (bit_and word) r.2 ∙ h.1 ∙ sym r.3 in
    (row_of-at word k r.0 r.1 p, h.2)

pub decode_some : (word k : ℕ) (f : Form) → IsRowAt word k f
    → decode_of word ≡ Some (operands_of f k word)
decode_some word k f h =
    let p = placed_row word k f h in
    decode_row word k p.0 ∙ ap (λ (g : Form). Some (operands_of g k word)) p.1

-- the row of the decoded instruction, as a reader of the table finds it
abbrev pub IsOfRow : ℕ → Insn → Row → Type 0
IsOfRow word i r = Matches word r × (i ≡ operands_of r.form i.row word)

pub row_place : (f : Form) (k word : ℕ) → (operands_of f k word).row ≡ k
row_place R k w = refl
row_place I k w = refl
row_place S k w = refl
row_place B k w = refl
row_place U k w = refl
row_place J k w = refl
row_place Shift k w = refl
row_place Csr k w = refl
row_place Fence k w = refl
row_place Whole k w = refl
row_place Sfence k w = refl
row_place Lr k w = refl
row_place Amo k w = refl

some_and : (word : ℕ) (i : Insn) (o : Option Row) (r : Row) → o ≡ Some r → IsOfRow word i r
    → IsSomeAnd o (IsOfRow word i)
some_and word i o r e h = subst (λ (x : Option Row). IsSomeAnd x (IsOfRow word i)) (sym e) h

pub decoded_one : (word k : ℕ) (f : Form) (i : Insn) → IsRowAt word k f → i ≡ operands_of f k word
    → IsSomeAnd (slice_get rows i.row) (IsOfRow word i)
unfolding form_of
decoded_one word k f i h e =
    let r = row_get k h.0 in
    let p : Matches word r.0 = ap (bit_and word) r.2 ∙ h.1 ∙ sym r.3 in
    let place : i.row ≡ k = ap (λ (x : Insn). x.row) e ∙ row_place f k word in
    let form : r.0.form ≡ f = r.4 ∙ h.2 in
    let there : slice_get rows i.row ≡ Some r.0 = ap (slice_get rows) place ∙ r.1 in
    let same : i ≡ operands_of r.0.form i.row word =
    e ∙ ap (λ (g : Form). operands_of g k word) (sym form)
    ∙ ap (λ j. operands_of r.0.form j word) (sym place) in
    some_and word i (slice_get rows i.row) r.0 there (p, same)
