-- The fixed bits of each form as fields of the word: `x & mask` is the sum of the fields that the
-- mask covers.
use Rattle.std.proofs.Common.{◌≡◌, ℕ, zero, suc, ◌+◌, ◌*◌, ◌/◌, ◌%◌, ◌^◌, ◌<◌, Bool, true, false}
use Rattle.std.proofs.Common.{◌&&◌, List, [], ◌∷◌, Some, refl, sym, ap, ◌∙◌, subst, arith, ◌==◌}
use Rattle.std.proofs.Common.{slice_get}
use Rattle.std.specs.Int.Bits.{bit_and, bit_or}
use Rattle.std.specs.List.{list_all}
use Rattle.std.proofs.lemmas.Nat.{and_mask, or_disjoint, and_comm, and_assoc}
use Rattle.std.proofs.lemmas.Nat.Bits.{and_high, same_from_bits, bit_at_and, bit_at_or}
use Rattle.std.proofs.lemmas.Bool.{eqb-true, and_parts}
use Rattle.xv_isa.specs.declared.rows.Row.{Row}
use Rattle.xv_isa.specs.declared.rows.Op.{Op}
use Rattle.xv_isa.specs.declared.rows.Form.{Form}
use Rattle.xv_isa.specs.declared.rows.Form.TheVariants.{R, I, S, B, U, J, Shift, Csr, Fence, Whole}
use Rattle.xv_isa.specs.declared.rows.Form.TheVariants.{Sfence, Lr, Amo}
use Rattle.xv_isa.specs.Rows.{rows, mask_at, bits_at, form_of, operation_at}
use Rattle.xv_isa.specs.Encoding.{is_word_shift}
use Rattle.xv_isa.proofs.OneRow.{row_get}

-- ---- masks as sums of runs

and_or : (w m n : ℕ) → bit_and w (bit_or m n) ≡ bit_or (bit_and w m) (bit_and w n)
and_or w m n =
    same_from_bits _ _ (λ i.
    let a = bit_at_and w (bit_or m n) i in
    let b = bit_at_or m n i in
    let c = bit_at_or (bit_and w m) (bit_and w n) i in
    let d = bit_at_and w m i in
    let e = bit_at_and w n i in
    omega (arith, a, b, c, d, e))

and_apart : (w m n : ℕ) → bit_and m n ≡ 0 → bit_and (bit_and w m) (bit_and w n) ≡ 0
and_apart w m n e =
    and_assoc (bit_and w n) w m
    ∙ ap (bit_and w) (and_comm m (bit_and w n) ∙ and_assoc m w n
    ∙ ap (bit_and w) (and_comm n m ∙ e) ∙ and_comm w 0) ∙ and_comm w 0

-- a mask of two parts
pub and_add : (w m n : ℕ) → bit_and m n ≡ 0 → bit_and w (m + n) ≡ bit_and w m + bit_and w n
and_add w m n e =
    ap (bit_and w) (sym (or_disjoint m n e)) ∙ and_or w m n
    ∙ or_disjoint (bit_and w m) (bit_and w n) (and_apart w m n e)

-- the fields that are fixed
abbrev pub opcode_part : ℕ → ℕ
opcode_part w = w % 2 ^ 7

abbrev pub part : ℕ → ℕ → ℕ → ℕ
part j k w = (w / 2 ^ k % 2 ^ j) * 2 ^ k

and_opcode : (w : ℕ) → bit_and w 0x7f ≡ w % 2 ^ 7
and_opcode w = and_mask w 7

and_funct3 : (w : ℕ) → bit_and w 0x707f ≡ w % 2 ^ 7 + part 3 12 w
and_funct3 w = and_add w 0x7f 0x7000 refl ∙ ap (λ x. x + bit_and w 0x7000) (and_opcode w)
    ∙ ap (λ x. w % 2 ^ 7 + x) (and_high w 3 12)

-- one run more
more : (w m n x y : ℕ) → bit_and m n ≡ 0 → bit_and w m ≡ x → bit_and w n ≡ y
    → bit_and w (m + n) ≡ x + y
more w m n x y e p q = and_add w m n e ∙ ap (λ z. z + bit_and w n) p ∙ ap (λ z. x + z) q

and_funct7 : (w : ℕ) → bit_and w 0xfe00707f ≡ w % 2 ^ 7 + part 3 12 w + part 7 25 w
and_funct7 w = more w 0x707f 0xfe000000 _ _ refl (and_funct3 w) (and_high w 7 25)

and_funct6 : (w : ℕ) → bit_and w 0xfc00707f ≡ w % 2 ^ 7 + part 3 12 w + part 6 26 w
and_funct6 w = more w 0x707f 0xfc000000 _ _ refl (and_funct3 w) (and_high w 6 26)

and_funct5 : (w : ℕ) → bit_and w 0xf800707f ≡ w % 2 ^ 7 + part 3 12 w + part 5 27 w
and_funct5 w = more w 0x707f 0xf8000000 _ _ refl (and_funct3 w) (and_high w 5 27)

and_lr : (w : ℕ) → bit_and w 0xf9f0707f ≡ w % 2 ^ 7 + part 3 12 w + part 5 27 w + part 5 20 w
and_lr w = more w 0xf800707f 0x01f00000 _ _ refl (and_funct5 w) (and_high w 5 20)

and_sfence : (w : ℕ) → bit_and w 0xfe007fff ≡ w % 2 ^ 7 + part 3 12 w + part 7 25 w + part 5 7 w
and_sfence w = more w 0xfe00707f 0x00000f80 _ _ refl (and_funct7 w) (and_high w 5 7)

and_whole : (w : ℕ) → bit_and w 0xffffffff ≡ w % 2 ^ 32
and_whole w = and_mask w 32

-- ---- by form: the mask, and what it keeps of a word

abbrev pub mask_of : Form → Bool → ℕ
mask_of R narrow = 0xfe00707f
mask_of I narrow = 0x707f
mask_of S narrow = 0x707f
mask_of B narrow = 0x707f
mask_of U narrow = 0x7f
mask_of J narrow = 0x7f
mask_of Shift true = 0xfe00707f
mask_of Shift false = 0xfc00707f
mask_of Csr narrow = 0x707f
mask_of Fence narrow = 0x707f
mask_of Whole narrow = 0xffffffff
mask_of Sfence narrow = 0xfe007fff
mask_of Lr narrow = 0xf9f0707f
mask_of Amo narrow = 0xf800707f

abbrev pub fixed_of : Form → Bool → ℕ → ℕ
fixed_of R narrow w = w % 2 ^ 7 + part 3 12 w + part 7 25 w
fixed_of I narrow w = w % 2 ^ 7 + part 3 12 w
fixed_of S narrow w = w % 2 ^ 7 + part 3 12 w
fixed_of B narrow w = w % 2 ^ 7 + part 3 12 w
fixed_of U narrow w = w % 2 ^ 7
fixed_of J narrow w = w % 2 ^ 7
fixed_of Shift true w = w % 2 ^ 7 + part 3 12 w + part 7 25 w
fixed_of Shift false w = w % 2 ^ 7 + part 3 12 w + part 6 26 w
fixed_of Csr narrow w = w % 2 ^ 7 + part 3 12 w
fixed_of Fence narrow w = w % 2 ^ 7 + part 3 12 w
fixed_of Whole narrow w = w % 2 ^ 32
fixed_of Sfence narrow w = w % 2 ^ 7 + part 3 12 w + part 7 25 w + part 5 7 w
fixed_of Lr narrow w = w % 2 ^ 7 + part 3 12 w + part 5 27 w + part 5 20 w
fixed_of Amo narrow w = w % 2 ^ 7 + part 3 12 w + part 5 27 w

pub masked : (f : Form) (narrow : Bool) (w : ℕ) → bit_and w (mask_of f narrow) ≡ fixed_of f narrow w
masked R n w = and_funct7 w
masked I n w = and_funct3 w
masked S n w = and_funct3 w
masked B n w = and_funct3 w
masked U n w = and_opcode w
masked J n w = and_opcode w
masked Shift true w = and_funct7 w
masked Shift false w = and_funct6 w
masked Csr n w = and_funct3 w
masked Fence n w = and_funct3 w
masked Whole n w = and_whole w
masked Sfence n w = and_sfence w
masked Lr n w = and_lr w
masked Amo n w = and_funct5 w

-- ---- the table has these shapes

-- where a row's own fields lie, its fixed bits are 0 outside of its mask: only these are not read
-- from the mask
abbrev pub clear_of : Form → Bool → ℕ → Bool
clear_of Shift true b = b / 2 ^ 25 % 2 == 0
clear_of f narrow b = true

abbrev shaped : Form → Bool → ℕ → ℕ → Bool
shaped f narrow mask bits =
    (mask == mask_of f narrow) && ((bits == fixed_of f narrow bits) && clear_of f narrow bits)

row_shaped : Row → Bool
row_shaped r = shaped r.form (is_word_shift r.op) r.mask r.bits

rows_shaped : list_all row_shaped rows ≡ true
unfolding rows row_shaped
rows_shaped = refl

shaped_at : (xs : List Row) (k : ℕ) (r : Row) → list_all row_shaped xs ≡ true
    → slice_get xs k ≡ Some r → row_shaped r ≡ true
shaped_at [] k r t e = cc
shaped_at (x ∷ xs) zero r t e =
    let same : x ≡ r = cc in
    subst (λ (y : Row). row_shaped y ≡ true) same (and_parts (row_shaped x) _ t).0
shaped_at (x ∷ xs) (suc k) r t e = shaped_at xs k r (and_parts (row_shaped x) _ t).1 e

pub record Shaped (f : Form) (narrow : Bool) (mask bits : ℕ) : Type 0 where
  pub mask_is : mask ≡ mask_of f narrow
  pub bits_are : bits ≡ fixed_of f narrow bits
  pub clear : clear_of f narrow bits ≡ true

from_test : (f : Form) (narrow : Bool) (mask bits : ℕ) → shaped f narrow mask bits ≡ true
    → Shaped f narrow mask bits
from_test f narrow mask bits t =
    let p = and_parts (mask == mask_of f narrow) ((bits == fixed_of f narrow bits)
    && clear_of f narrow bits) t in
    let q = and_parts (bits == fixed_of f narrow bits) (clear_of f narrow bits) p.1 in
    record { mask_is = eqb-true _ _ p.0; bits_are = eqb-true _ _ q.0; clear = q.1 }

pub row_shape : (k : ℕ) (r : Row) → slice_get rows k ≡ Some r
    → Shaped r.form (is_word_shift r.op) r.mask r.bits
unfolding row_shaped
row_shape k r e =
    from_test r.form (is_word_shift r.op) r.mask r.bits (shaped_at rows k r rows_shaped e)

-- the same at a place
pub place_shape : (k : ℕ) → k < 97
    → Shaped (form_of k) (is_word_shift (operation_at k)) (mask_at rows k) (bits_at rows k)
place_shape k h =
    let r = row_get k h in
    let a = row_shape k r.0 r.1 in
    let b = subst (λ (f : Form). Shaped f (is_word_shift r.0.op) r.0.mask r.0.bits) r.4 a in
    let c = subst (λ (o : Op). Shaped (form_of k) (is_word_shift o) r.0.mask r.0.bits) r.5 b in
    let d = subst (λ m. Shaped (form_of k) (is_word_shift (operation_at k)) m r.0.bits) r.2 c in
    subst (λ b. Shaped (form_of k) (is_word_shift (operation_at k)) (mask_at rows k) b) r.3 d
