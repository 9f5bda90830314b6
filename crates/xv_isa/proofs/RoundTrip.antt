-- Encoding and decoding are inverse: by the form, over the word's fields.
use Rattle.std.proofs.Common.{◌≡◌, ℕ, zero, suc, ◌+◌, ◌-◌, ◌*◌, ◌/◌, ◌%◌, ◌^◌, ◌<◌, ◌≤◌, Bool, true}
use Rattle.std.proofs.Common.{false, cond, Option, None, Some, refl, sym, ap, ◌∙◌, subst, arith}
use Rattle.std.proofs.Common.{inl, inr, nat_lt, slice_get, ℤ, pos, negsuc, neg_ℤ, ◌-ℤ◌, ◌≤ℤ◌, ◌<ℤ◌}
use Rattle.std.specs.Int.Bits.{bit_and}
use Rattle.std.specs.Int.RustNames.{int_rem}
use Rattle.std.proofs.lemmas.Int.{ints}
use Rattle.std.proofs.lemmas.Bool.{eqb-true, lt-ltb, le-ltb, cases_lt}
use Rattle.xv_isa.specs.declared.instruction.Insn.{Insn}
use Rattle.xv_isa.specs.declared.rows.Row.{Row}
use Rattle.xv_isa.specs.declared.rows.Op.{Op}
use Rattle.xv_isa.specs.declared.rows.Form.{Form}
use Rattle.xv_isa.specs.declared.rows.Form.TheVariants.{R, I, S, B, U, J, Shift, Csr, Fence, Whole}
use Rattle.xv_isa.specs.declared.rows.Form.TheVariants.{Sfence, Lr, Amo}
use Rattle.xv_isa.specs.Rows.{rows, Matches, row_of, mask_at, bits_at, form_of, operation_at}
use Rattle.xv_isa.specs.Rows.{IsRowAt}
use Rattle.xv_isa.specs.Operands.{inst, decode_of, operands_of}
use Rattle.xv_isa.specs.Encoding.{in_bits, placed, encode_of, InRange, FitsForm, amount_bound}
use Rattle.xv_isa.specs.Encoding.{is_word_shift}
use Rattle.xv_isa.proofs.OneRow.{row_get, row_of-at, row_found, decode_row, decode_none, placed_row}
use Rattle.xv_isa.proofs.OneRow.{row_place, found_small, row_is}
use Rattle.xv_isa.proofs.Shapes.{place_shape, masked, fixed_of, clear_of}

-- ---- two's complement, at h = 2^(w - 1) and m = 2^w

abbrev pub read_at : ℕ → ℕ → ℕ → ℤ
read_at h m n = cond (nat_lt n h) (pos n) (pos n -ℤ pos m)

abbrev pub bits_in : ℕ → ℤ → ℕ
bits_in m (pos n) = n
bits_in m (negsuc n) = m - suc n

below_half : (h m n : ℕ) → n < h → read_at h m n ≡ pos n
below_half h m n p = ap (λ b. cond b (pos n) (pos n -ℤ pos m)) (lt-ltb n h p)

above_half : (h m n : ℕ) → h ≤ n → read_at h m n ≡ pos n -ℤ pos m
above_half h m n p = ap (λ b. cond b (pos n) (pos n -ℤ pos m)) (le-ltb n h p)

wrapped : (m n : ℕ) → n < m → pos (m - suc n) -ℤ pos m ≡ negsuc n
wrapped m n p = omega (arith, ints)

unwrapped : (m n : ℕ) → n < m → pos n -ℤ pos m ≡ negsuc (m - suc n)
unwrapped m n p = omega (arith, ints)

pub bits_small : (h m : ℕ) → m ≡ h + h → (z : ℤ) → neg_ℤ (pos h) ≤ℤ z → z <ℤ pos h → bits_in m z < m
bits_small h m e (pos n) p q = omega (arith, ints)
bits_small h m e (negsuc n) p q = omega (arith, ints)

pub read_bits : (h m : ℕ) → m ≡ h + h → (z : ℤ) → neg_ℤ (pos h) ≤ℤ z → z <ℤ pos h
    → read_at h m (bits_in m z) ≡ z
read_bits h m e (pos n) p q = below_half h m n (omega (arith, ints))
read_bits h m e (negsuc n) p q =
    let small : n < h = omega (arith, ints) in
    above_half h m (m - suc n) (omega arith) ∙ wrapped m n (omega arith)

pub bits_read : (h m n : ℕ) → m ≡ h + h → n < m → bits_in m (read_at h m n) ≡ n
bits_read h m n e p =
    elim (cases_lt n h) [
      | inl q ↦ ap (bits_in m) (below_half h m n q)
      | inr q ↦ ap (bits_in m) (above_half h m n q ∙ unwrapped m n p) ∙ omega arith
    ]

pub read_low : (h m n : ℕ) → m ≡ h + h → n < m → neg_ℤ (pos h) ≤ℤ read_at h m n
read_low h m n e p =
    elim (cases_lt n h) [
      | inl q ↦ subst (λ z. neg_ℤ (pos h) ≤ℤ z) (sym (below_half h m n q)) (omega (arith, ints))
      | inr q ↦ subst (λ z. neg_ℤ (pos h) ≤ℤ z) (sym (above_half h m n q)) (omega (arith, ints))
    ]

pub read_high : (h m n : ℕ) → m ≡ h + h → n < m → read_at h m n <ℤ pos h
read_high h m n e p =
    elim (cases_lt n h) [
      | inl q ↦ subst (λ z. z <ℤ pos h) (sym (below_half h m n q)) (omega (arith, ints))
      | inr q ↦ subst (λ z. z <ℤ pos h) (sym (above_half h m n q)) (omega (arith, ints))
    ]

zero_pos : (n : ℕ) → pos n ≡ pos 0 → n ≡ 0
zero_pos n e = cc

zero_neg : (n : ℕ) → neg_ℤ (pos n) ≡ pos 0 → n ≡ 0
zero_neg zero e = refl
zero_neg (suc n) e = cc

-- a multiple of 2 or 4096 has such bits, and such bits are read as a multiple
pub even_bits : (m : ℕ) → m % 2 ≡ 0 → (z : ℤ) → bits_in m z < m → int_rem z (pos 2) ≡ pos 0
    → bits_in m z % 2 ≡ 0
even_bits m d (pos n) p e = zero_pos (n % 2) e
even_bits m d (negsuc n) p e = let h = zero_neg (suc n % 2) e in omega arith

pub upper_bits : (m : ℕ) → m % 4096 ≡ 0 → (z : ℤ) → bits_in m z < m → int_rem z (pos 4096) ≡ pos 0
    → bits_in m z % 4096 ≡ 0
upper_bits m d (pos n) p e = zero_pos (n % 4096) e
upper_bits m d (negsuc n) p e = let h = zero_neg (suc n % 4096) e in omega arith

read_even : (h m n : ℕ) → m % 2 ≡ 0 → n < m → n % 2 ≡ 0 → int_rem (read_at h m n) (pos 2) ≡ pos 0
read_even h m n d p e =
    elim (cases_lt n h) [
      | inl q ↦ ap (λ z. int_rem z (pos 2)) (below_half h m n q) ∙ ap pos e
      | inr q ↦ ap (λ z. int_rem z (pos 2)) (above_half h m n q ∙ unwrapped m n p)
          ∙ ap (λ k. neg_ℤ (pos k)) (let k : suc (m - suc n) % 2 ≡ 0 = omega arith in k)
    ]

read_upper : (h m n : ℕ) → m % 4096 ≡ 0 → n < m → n % 4096 ≡ 0
    → int_rem (read_at h m n) (pos 4096) ≡ pos 0
read_upper h m n d p e =
    elim (cases_lt n h) [
      | inl q ↦ ap (λ z. int_rem z (pos 4096)) (below_half h m n q) ∙ ap pos e
      | inr q ↦ ap (λ z. int_rem z (pos 4096)) (above_half h m n q ∙ unwrapped m n p)
          ∙ ap (λ k. neg_ℤ (pos k)) (let k : suc (m - suc n) % 4096 ≡ 0 = omega arith in k)
    ]

-- ---- an instruction by its fields

make : ℕ → ℕ → ℕ → ℕ → ℤ → ℕ → Insn
make k d s t z x = record { row = k; rd = d; rs1 = s; rs2 = t; imm = z; extra = x }

same_insn : (i j : Insn) → i.row ≡ j.row → i.rd ≡ j.rd → i.rs1 ≡ j.rs1 → i.rs2 ≡ j.rs2
    → i.imm ≡ j.imm → i.extra ≡ j.extra → i ≡ j
unfolding make
same_insn i j a b c d e f =
    ap (λ x. make x i.rd i.rs1 i.rs2 i.imm i.extra) a
    ∙ ap (λ x. make j.row x i.rs1 i.rs2 i.imm i.extra) b
    ∙ ap (λ x. make j.row j.rd x i.rs2 i.imm i.extra) c
    ∙ ap (λ x. make j.row j.rd j.rs1 x i.imm i.extra) d
    ∙ ap (λ x. make j.row j.rd j.rs1 j.rs2 x i.extra) e
    ∙ ap (λ x. make j.row j.rd j.rs1 j.rs2 j.imm x) f

-- a number from 0 on is its bits
pos_bits : (k m : ℕ) (z : ℤ) → pos 0 ≤ℤ z → z <ℤ pos k → (pos (bits_in m z) ≡ z) × (bits_in m z < k)
pos_bits k m (pos n) p q = (refl, omega (arith, ints))
pos_bits k m (negsuc n) p q = absurd (omega (arith, ints))

-- ---- fields placed and read back, over plain numbers

abbrev IsPlain3 : ℕ → ℕ → Type 0
IsPlain3 w b = w % 2 ^ 7 + (w / 2 ^ 12 % 2 ^ 3) * 2 ^ 12 ≡ b

i_placed : (b d s n : ℕ) → d < 32 → s < 32 → n < 2 ^ 12
    → b ≡ b % 2 ^ 7 + (b / 2 ^ 12 % 2 ^ 3) * 2 ^ 12 → let w =
    b + (d * 2 ^ 7 + s * 2 ^ 15 + n * 2 ^ 20) in
    IsPlain3 w b × (w / 2 ^ 7 % 2 ^ 5 ≡ d) × (w / 2 ^ 15 % 2 ^ 5 ≡ s) × (w / 2 ^ 20 % 2 ^ 12 ≡ n)
i_placed b d s n p q r e = (omega arith, omega arith, omega arith, omega arith)

s_placed : (b s t n : ℕ) → s < 32 → t < 32 → n < 2 ^ 12
    → b ≡ b % 2 ^ 7 + (b / 2 ^ 12 % 2 ^ 3) * 2 ^ 12 → let w =
    b + (s * 2 ^ 15 + t * 2 ^ 20 + (inst n 4 0 * 2 ^ 7 + inst n 11 5 * 2 ^ 25)) in
    IsPlain3 w b × (w / 2 ^ 15 % 2 ^ 5 ≡ s) × (w / 2 ^ 20 % 2 ^ 5 ≡ t)
    × (inst w 31 25 * 2 ^ 5 + inst w 11 7 ≡ n)
s_placed b s t n p q r e = (omega arith, omega arith, omega arith, omega arith)

b_placed : (b s t n : ℕ) → s < 32 → t < 32 → n < 2 ^ 13 → n % 2 ≡ 0
    → b ≡ b % 2 ^ 7 + (b / 2 ^ 12 % 2 ^ 3) * 2 ^ 12 → let w =
    b + (s * 2 ^ 15 + t * 2 ^ 20
    + (inst n 11 11 * 2 ^ 7 + inst n 4 1 * 2 ^ 8 + inst n 10 5 * 2 ^ 25 + inst n 12 12 * 2 ^ 31)) in
    IsPlain3 w b × (w / 2 ^ 15 % 2 ^ 5 ≡ s) × (w / 2 ^ 20 % 2 ^ 5 ≡ t)
    × (inst w 31 31 * 2 ^ 12 + inst w 7 7 * 2 ^ 11 + inst w 30 25 * 2 ^ 5 + inst w 11 8 * 2 ^ 1 ≡ n)
b_placed b s t n p q r v e = (omega arith, omega arith, omega arith, omega arith)

u_placed : (b d n : ℕ) → d < 32 → n < 2 ^ 32 → n % 4096 ≡ 0 → b ≡ b % 2 ^ 7 → let w =
    b + (d * 2 ^ 7 + inst n 31 12 * 2 ^ 12) in
    (w % 2 ^ 7 ≡ b) × (w / 2 ^ 7 % 2 ^ 5 ≡ d) × (inst w 31 12 * 2 ^ 12 ≡ n)
u_placed b d n p q v e = (omega arith, omega arith, omega arith)

j_placed : (b d n : ℕ) → d < 32 → n < 2 ^ 21 → n % 2 ≡ 0 → b ≡ b % 2 ^ 7 → let w =
    b + (d * 2 ^ 7
    + (inst n 19 12 * 2 ^ 12 + inst n 11 11 * 2 ^ 20 + inst n 10 1 * 2 ^ 21 + inst n 20
    20 * 2 ^ 31)) in (w % 2 ^ 7 ≡ b) × (w / 2 ^ 7 % 2 ^ 5 ≡ d)
    × (inst w 31 31 * 2 ^ 20 + inst w 19 12 * 2 ^ 12 + inst w 20 20 * 2 ^ 11 + inst w 30 21 * 2 ^ 1
    ≡ n)
j_placed b d n p q v e = (omega arith, omega arith, omega arith)

shift_placed : (narrow : Bool) (b d s n : ℕ) → d < 32 → s < 32 → n < amount_bound narrow
    → b ≡ fixed_of Shift narrow b → clear_of Shift narrow b ≡ true → let w =
    b + (d * 2 ^ 7 + s * 2 ^ 15 + n * 2 ^ 20) in
    (fixed_of Shift narrow w ≡ b) × (w / 2 ^ 7 % 2 ^ 5 ≡ d) × (w / 2 ^ 15 % 2 ^ 5 ≡ s)
    × (w / 2 ^ 20 % 2 ^ 6 ≡ n)
shift_placed true b d s n p q r e c =
    let z : b / 2 ^ 25 % 2 ≡ 0 = eqb-true _ _ c in
    (omega arith, omega arith, omega arith, omega arith)
shift_placed false b d s n p q r e c = (omega arith, omega arith, omega arith, omega arith)

-- ---- and the word has 32 bits

i_small : (b d s n : ℕ) → d < 32 → s < 32 → n < 2 ^ 12 → b
    ≡ b % 2 ^ 7 + (b / 2 ^ 12 % 2 ^ 3) * 2 ^ 12 → b + (d * 2 ^ 7 + s * 2 ^ 15 + n * 2 ^ 20) < 2 ^ 32
i_small b d s n p q r e = omega arith

s_small : (b s t n : ℕ) → s < 32 → t < 32 → b ≡ b % 2 ^ 7 + (b / 2 ^ 12 % 2 ^ 3) * 2 ^ 12
    → b + (s * 2 ^ 15 + t * 2 ^ 20 + (inst n 4 0 * 2 ^ 7 + inst n 11 5 * 2 ^ 25)) < 2 ^ 32
s_small b s t n p q e = omega arith

b_small : (b s t n : ℕ) → s < 32 → t < 32 → b ≡ b % 2 ^ 7 + (b / 2 ^ 12 % 2 ^ 3) * 2 ^ 12
    → b + (s * 2 ^ 15 + t * 2 ^ 20 + (inst n 11 11 * 2 ^ 7 + inst n 4 1 * 2 ^ 8 + inst n 10
    5 * 2 ^ 25 + inst n 12 12 * 2 ^ 31)) < 2 ^ 32
b_small b s t n p q e = omega arith

u_small : (b d n : ℕ) → d < 32 → b ≡ b % 2 ^ 7 → b + (d * 2 ^ 7 + inst n 31 12 * 2 ^ 12) < 2 ^ 32
u_small b d n p e = omega arith

j_small : (b d n : ℕ) → d < 32 → b ≡ b % 2 ^ 7
    → b + (d * 2 ^ 7 + (inst n 19 12 * 2 ^ 12 + inst n 11 11 * 2 ^ 20 + inst n 10 1 * 2 ^ 21 + inst
    n 20 20 * 2 ^ 31)) < 2 ^ 32
j_small b d n p e = omega arith

shift_small : (narrow : Bool) (b d s n : ℕ) → d < 32 → s < 32 → n < amount_bound narrow
    → b ≡ fixed_of Shift narrow b → clear_of Shift narrow b ≡ true
    → b + (d * 2 ^ 7 + s * 2 ^ 15 + n * 2 ^ 20) < 2 ^ 32
shift_small true b d s n p q r e c = let z : b / 2 ^ 25 % 2 ≡ 0 = eqb-true _ _ c in omega arith
shift_small false b d s n p q r e c = omega arith

-- ---- what is encoded is decoded, form by form

encode_form : (f : Form) (o : Op) (b : ℕ) → b ≡ fixed_of f (is_word_shift o) b
    → clear_of f (is_word_shift o) b ≡ true → (i : Insn) → FitsForm f o i
    → (fixed_of f (is_word_shift o) (b + placed f i) ≡ b)
    × (operands_of f i.row (b + placed f i) ≡ i)
encode_form R o b e c i h =
    (omega arith, same_insn _ i refl (omega arith) (omega arith) (omega arith) (sym h.3) (sym h.4))
encode_form I o b e c i h =
    let p = i_placed b i.rd i.rs1 (in_bits 12 i.imm) h.0 h.1
    (bits_small (2 ^ 11) (2 ^ 12) refl i.imm h.3.0 h.3.1) e in (
      p.0,
      same_insn _ i refl p.1 p.2 (sym h.2) (ap (read_at (2 ^ 11) (2 ^ 12)) p.3
          ∙ read_bits (2 ^ 11) (2 ^ 12) refl i.imm h.3.0 h.3.1) (sym h.4),
    )
encode_form S o b e c i h =
    let p = s_placed b i.rs1 i.rs2 (in_bits 12 i.imm) h.1 h.2
    (bits_small (2 ^ 11) (2 ^ 12) refl i.imm h.3.0 h.3.1) e in (
      p.0,
      same_insn _ i refl (sym h.0) p.1 p.2 (ap (read_at (2 ^ 11) (2 ^ 12)) p.3
          ∙ read_bits (2 ^ 11) (2 ^ 12) refl i.imm h.3.0 h.3.1) (sym h.4),
    )
encode_form B o b e c i h =
    let n = bits_small (2 ^ 12) (2 ^ 13) refl i.imm h.3.0 h.3.1 in
    let p = b_placed b i.rs1 i.rs2 (in_bits 13 i.imm) h.1 h.2 n
    (even_bits (2 ^ 13) refl i.imm n h.4) e in (
      p.0,
      same_insn _ i refl (sym h.0) p.1 p.2 (ap (read_at (2 ^ 12) (2 ^ 13)) p.3
          ∙ read_bits (2 ^ 12) (2 ^ 13) refl i.imm h.3.0 h.3.1) (sym h.5),
    )
encode_form U o b e c i h =
    let n = bits_small (2 ^ 31) (2 ^ 32) refl i.imm h.3.0 h.3.1 in
    let p = u_placed b i.rd (in_bits 32 i.imm) h.0 n (upper_bits (2 ^ 32) refl i.imm n h.4) e in (
      p.0,
      same_insn _ i refl p.1 (sym h.1) (sym h.2) (ap (read_at (2 ^ 31) (2 ^ 32)) p.2
          ∙ read_bits (2 ^ 31) (2 ^ 32) refl i.imm h.3.0 h.3.1) (sym h.5),
    )
encode_form J o b e c i h =
    let n = bits_small (2 ^ 20) (2 ^ 21) refl i.imm h.3.0 h.3.1 in
    let p = j_placed b i.rd (in_bits 21 i.imm) h.0 n (even_bits (2 ^ 21) refl i.imm n h.4) e in (
      p.0,
      same_insn _ i refl p.1 (sym h.1) (sym h.2) (ap (read_at (2 ^ 20) (2 ^ 21)) p.2
          ∙ read_bits (2 ^ 20) (2 ^ 21) refl i.imm h.3.0 h.3.1) (sym h.5),
    )
encode_form Shift o b e c i h =
    let n = pos_bits (amount_bound (is_word_shift o)) (2 ^ 6) i.imm h.3.0 h.3.1 in
    let p = shift_placed (is_word_shift o) b i.rd i.rs1 (in_bits 6 i.imm) h.0 h.1 n.1 e c in
    (p.0, same_insn _ i refl p.1 p.2 (sym h.2) (ap pos p.3 ∙ n.0) (sym h.4))
encode_form Csr o b e c i h =
    let n = pos_bits 4096 (2 ^ 12) i.imm h.3.0 h.3.1 in
    let p = i_placed b i.rd i.rs1 (in_bits 12 i.imm) h.0 h.1 n.1 e in
    (p.0, same_insn _ i refl p.1 p.2 (sym h.2) (ap pos p.3 ∙ n.0) (sym h.4))
encode_form Fence o b e c i h =
    let n = pos_bits 4096 (2 ^ 12) i.imm h.3.0 h.3.1 in
    let p = i_placed b i.rd i.rs1 (in_bits 12 i.imm) h.0 h.1 n.1 e in
    (p.0, same_insn _ i refl p.1 p.2 (sym h.2) (ap pos p.3 ∙ n.0) (sym h.4))
encode_form Whole o b e c i h =
    (omega arith, same_insn _ i refl (sym h.0) (sym h.1) (sym h.2) (sym h.3) (sym h.4))
encode_form Sfence o b e c i h =
    (omega arith, same_insn _ i refl (sym h.0) (omega arith) (omega arith) (sym h.3) (sym h.4))
encode_form Lr o b e c i h =
    (omega arith, same_insn _ i refl (omega arith) (omega arith) (sym h.2) (sym h.3) (omega arith))
encode_form Amo o b e c i h = (
  omega arith,
  same_insn _ i refl (omega arith) (omega arith) (omega arith) (sym h.3)
      (omega arith),
)

pub encode_decodes : (i : Insn) → InRange i → decode_of (encode_of i) ≡ Some i
unfolding encode_of
encode_decodes i h =
    let k = i.row in
    let w = encode_of i in
    let s = place_shape k h.0 in
    let back = encode_form (form_of k) (operation_at k) (bits_at rows k) s.bits_are s.clear i h.1 in
    let r = row_get k h.0 in
    let fixed : bit_and w r.0.mask ≡ r.0.bits =
    ap (bit_and w) (r.2 ∙ s.mask_is) ∙ masked (form_of k) (is_word_shift (operation_at k)) w
    ∙ back.0 ∙ sym r.3 in
    decode_row w k (row_of-at w k r.0 r.1 fixed) ∙ ap Some back.1

-- ---- a word's own fields, placed again, are the word

i_back : (w b x : ℕ) → w < 2 ^ 32 → IsPlain3 w b → x ≡ inst w 31 20
    → w ≡ b + ((w / 2 ^ 7 % 2 ^ 5) * 2 ^ 7 + (w / 2 ^ 15 % 2 ^ 5) * 2 ^ 15 + x * 2 ^ 20)
i_back w b x p q r = omega arith

s_back : (w b x : ℕ) → w < 2 ^ 32 → IsPlain3 w b → x ≡ inst w 31 25 * 2 ^ 5 + inst w 11 7
    → w ≡ b + ((w / 2 ^ 15 % 2 ^ 5) * 2 ^ 15 + (w / 2 ^ 20 % 2 ^ 5) * 2 ^ 20
    + (inst x 4 0 * 2 ^ 7 + inst x 11 5 * 2 ^ 25))
s_back w b x p q r = omega arith

b_back : (w b x : ℕ) → w < 2 ^ 32 → IsPlain3 w b
    → x ≡ inst w 31 31 * 2 ^ 12 + inst w 7 7 * 2 ^ 11 + inst w 30 25 * 2 ^ 5 + inst w 11 8 * 2 ^ 1
    → w ≡ b + ((w / 2 ^ 15 % 2 ^ 5) * 2 ^ 15 + (w / 2 ^ 20 % 2 ^ 5) * 2 ^ 20
    + (inst x 11 11 * 2 ^ 7 + inst x 4 1 * 2 ^ 8 + inst x 10 5 * 2 ^ 25 + inst x 12 12 * 2 ^ 31))
b_back w b x p q r = omega arith

u_back : (w b x : ℕ) → w < 2 ^ 32 → w % 2 ^ 7 ≡ b → x ≡ inst w 31 12 * 2 ^ 12
    → w ≡ b + ((w / 2 ^ 7 % 2 ^ 5) * 2 ^ 7 + inst x 31 12 * 2 ^ 12)
u_back w b x p q r = omega arith

j_back : (w b x : ℕ) → w < 2 ^ 32 → w % 2 ^ 7 ≡ b
    → x ≡ inst w 31 31 * 2 ^ 20 + inst w 19 12 * 2 ^ 12 + inst w 20 20 * 2 ^ 11 + inst w 30
    21 * 2 ^ 1 → w
    ≡ b + ((w / 2 ^ 7 % 2 ^ 5) * 2 ^ 7 + (inst x 19 12 * 2 ^ 12 + inst x 11 11 * 2 ^ 20 + inst x 10
    1 * 2 ^ 21 + inst x 20 20 * 2 ^ 31))
j_back w b x p q r = omega arith

shift_back : (narrow : Bool) (w b : ℕ) → w < 2 ^ 32 → fixed_of Shift narrow w ≡ b
    → clear_of Shift narrow b ≡ true
    → w ≡ b + ((w / 2 ^ 7 % 2 ^ 5) * 2 ^ 7 + (w / 2 ^ 15 % 2 ^ 5) * 2 ^ 15
    + (w / 2 ^ 20 % 2 ^ 6) * 2 ^ 20)
shift_back true w b p q c = let z : b / 2 ^ 25 % 2 ≡ 0 = eqb-true _ _ c in omega arith
shift_back false w b p q c = omega arith

decode_form : (f : Form) (o : Op) (k b w : ℕ) → w < 2 ^ 32 → fixed_of f (is_word_shift o) w ≡ b
    → clear_of f (is_word_shift o) b ≡ true → w ≡ b + placed f (operands_of f k w)
decode_form R o k b w p q c = omega arith
decode_form I o k b w p q c =
    i_back w b _ p q (bits_read (2 ^ 11) (2 ^ 12) (inst w 31 20) refl (omega arith))
decode_form S o k b w p q c =
    s_back w b _ p q
    (bits_read (2 ^ 11) (2 ^ 12) (inst w 31 25 * 2 ^ 5 + inst w 11 7) refl (omega arith))
decode_form B o k b w p q c =
    b_back w b _ p q
    (bits_read (2 ^ 12) (2 ^ 13)
    (inst w 31 31 * 2 ^ 12 + inst w 7 7 * 2 ^ 11 + inst w 30 25 * 2 ^ 5 + inst w 11 8 * 2 ^ 1) refl
    (omega arith))
decode_form U o k b w p q c =
    u_back w b _ p q (bits_read (2 ^ 31) (2 ^ 32) (inst w 31 12 * 2 ^ 12) refl (omega arith))
decode_form J o k b w p q c =
    j_back w b _ p q
    (bits_read (2 ^ 20) (2 ^ 21)
    (inst w 31 31 * 2 ^ 20 + inst w 19 12 * 2 ^ 12 + inst w 20 20 * 2 ^ 11 + inst w 30 21 * 2 ^ 1)
    refl (omega arith))
decode_form Shift o k b w p q c = shift_back (is_word_shift o) w b p q c
decode_form Csr o k b w p q c = omega arith
decode_form Fence o k b w p q c = omega arith
decode_form Whole o k b w p q c = omega arith
decode_form Sfence o k b w p q c = omega arith
decode_form Lr o k b w p q c = omega arith
decode_form Amo o k b w p q c = omega arith

-- ---- what is decoded is in range

amount_small : (narrow : Bool) (w b : ℕ) → fixed_of Shift narrow w ≡ b
    → clear_of Shift narrow b ≡ true → w / 2 ^ 20 % 2 ^ 6 < amount_bound narrow
amount_small true w b q c = let z : b / 2 ^ 25 % 2 ≡ 0 = eqb-true _ _ c in omega arith
amount_small false w b q c = omega arith

signed_fits : (h m n : ℕ) → m ≡ h + h → n < m → (neg_ℤ (pos h) ≤ℤ read_at h m n)
    × (read_at h m n <ℤ pos h)
signed_fits h m n e p = (read_low h m n e p, read_high h m n e p)

pos_fits : (k n : ℕ) → n < k → (pos 0 ≤ℤ pos n) × (pos n <ℤ pos k)
pos_fits k n p = (omega (arith, ints), omega (arith, ints))

range_form : (f : Form) (o : Op) (k b w : ℕ) → fixed_of f (is_word_shift o) w ≡ b
    → clear_of f (is_word_shift o) b ≡ true → FitsForm f o (operands_of f k w)
range_form R o k b w q c = (omega arith, omega arith, omega arith, refl, refl)
range_form I o k b w q c = (
  omega arith,
  omega arith,
  refl,
  signed_fits (2 ^ 11) (2 ^ 12) (inst w 31 20) refl (omega arith),
  refl,
)
range_form S o k b w q c = (
  refl,
  omega arith,
  omega arith,
  signed_fits (2 ^ 11) (2 ^ 12) (inst w 31 25 * 2 ^ 5 + inst w 11 7) refl (omega arith),
  refl,
)
range_form B o k b w q c =
    let n = inst w 31 31 * 2 ^ 12 + inst w 7 7 * 2 ^ 11 + inst w 30 25 * 2 ^ 5 + inst w
    11 8 * 2 ^ 1 in (
      refl,
      omega arith,
      omega arith,
      signed_fits (2 ^ 12) (2 ^ 13) n refl (omega arith),
      read_even (2 ^ 12) (2 ^ 13) n refl (omega arith) (omega arith),
      refl,
    )
range_form U o k b w q c =
    let n = inst w 31 12 * 2 ^ 12 in (
      omega arith,
      refl,
      refl,
      signed_fits (2 ^ 31) (2 ^ 32) n refl (omega arith),
      read_upper (2 ^ 31) (2 ^ 32) n refl (omega arith) (omega arith),
      refl,
    )
range_form J o k b w q c =
    let n = inst w 31 31 * 2 ^ 20 + inst w 19 12 * 2 ^ 12 + inst w 20 20 * 2 ^ 11 + inst w
    30 21 * 2 ^ 1 in (
      omega arith,
      refl,
      refl,
      signed_fits (2 ^ 20) (2 ^ 21) n refl (omega arith),
      read_even (2 ^ 20) (2 ^ 21) n refl (omega arith) (omega arith),
      refl,
    )
range_form Shift o k b w q c = (
  omega arith,
  omega arith,
  refl,
  pos_fits (amount_bound (is_word_shift o)) (inst w 25 20)
      (amount_small (is_word_shift o) w b q c),
  refl,
)
range_form Csr o k b w q c =
    (omega arith, omega arith, refl, pos_fits 4096 (inst w 31 20) (omega arith), refl)
range_form Fence o k b w q c =
    (omega arith, omega arith, refl, pos_fits 4096 (inst w 31 20) (omega arith), refl)
range_form Whole o k b w q c = (refl, refl, refl, refl, refl)
range_form Sfence o k b w q c = (refl, omega arith, omega arith, refl, refl)
range_form Lr o k b w q c = (omega arith, omega arith, refl, refl, omega arith)
range_form Amo o k b w q c = (omega arith, omega arith, omega arith, refl, omega arith)

-- ---- by the row of the word

-- the fixed bits of a word of the row at a place
fixed_bits : (w k : ℕ) → k < 97 → bit_and w (mask_at rows k) ≡ bits_at rows k
    → fixed_of (form_of k) (is_word_shift (operation_at k)) w ≡ bits_at rows k
fixed_bits w k h e =
    sym (masked (form_of k) (is_word_shift (operation_at k)) w)
    ∙ ap (bit_and w) (sym (place_shape k h).mask_is) ∙ e

word_again : (w k : ℕ) → w < 2 ^ 32 → k < 97 → bit_and w (mask_at rows k) ≡ bits_at rows k
    → w ≡ bits_at rows k + placed (form_of k) (operands_of (form_of k) k w)
word_again w k p h e =
    decode_form (form_of k) (operation_at k) k (bits_at rows k) w p (fixed_bits w k h e)
    (place_shape k h).clear

range_again : (w k : ℕ) (f : Form) → IsRowAt w k f → InRange (operands_of f k w)
range_again w k f h =
    let e = (placed_row w k f h).1 in
    let fits = range_form (form_of k) (operation_at k) k (bits_at rows k) w (fixed_bits w k h.0 h.1)
    (place_shape k h.0).clear in
    let at : FitsForm f (operation_at k) (operands_of f k w) =
    subst (λ (g : Form). FitsForm g (operation_at k) (operands_of g k w)) e fits in
    let mine : FitsForm (form_of k) (operation_at k) (operands_of f k w) =
    subst (λ (g : Form). FitsForm g (operation_at k) (operands_of f k w)) (sym e) at in
    subst (λ j. (j < 97) × FitsForm (form_of j) (operation_at j) (operands_of f k w))
    (sym (row_place f k w)) (h.0, mine)

pub decoded_range : (word k : ℕ) (f : Form) (i : Insn) → IsRowAt word k f
    → i ≡ operands_of f k word → InRange i
decoded_range word k f i h e = subst (λ (x : Insn). InRange x) (sym e) (range_again word k f h)

some_row : (word : ℕ) (i : Insn) (o : Option ℕ) → row_of word ≡ o → decode_of word ≡ Some i
    → (k : ℕ) × (row_of word ≡ Some k)
some_row word i None e d = let n = decode_none word e in cc
some_row word i (Some k) e d = (k, e)

pub word_decodes : (word : ℕ) (i : Insn) → word < 2 ^ 32 → decode_of word ≡ Some i
    → word ≡ encode_of i
unfolding encode_of
word_decodes word i p d =
    let k = some_row word i (row_of word) refl d in
    let r = row_found word k.0 k.1 in
    let small : k.0 < 97 = found_small word k.0 k.1 in
    let g = row_get k.0 small in
    let same : g.0 ≡ r.0 = let a = g.1 in let b = r.1 in cc in
    let fixed : bit_and word (mask_at rows k.0) ≡ bits_at rows k.0 =
    ap (bit_and word) (sym g.2) ∙ subst (λ (x : Row). Matches word x) (sym same) r.2 ∙ g.3 in
    let here : operands_of (form_of k.0) k.0 word ≡ i = let a = decode_row word k.0 k.1 in cc in
    let place : i.row ≡ k.0 =
    ap (λ (x : Insn). x.row) (sym here) ∙ row_place (form_of k.0) k.0 word in
    word_again word k.0 p small fixed
    ∙ ap (λ (x : Insn). bits_at rows k.0 + placed (form_of k.0) x) here
    ∙ ap (λ j. bits_at rows j + placed (form_of j) i) (sym place)

-- ---- the encoder's steps

small_form : (f : Form) (o : Op) (b : ℕ) → b ≡ fixed_of f (is_word_shift o) b
    → clear_of f (is_word_shift o) b ≡ true → (i : Insn) → FitsForm f o i → b + placed f i < 2 ^ 32
small_form R o b e c i h = omega arith
small_form I o b e c i h =
    i_small b i.rd i.rs1 (in_bits 12 i.imm) h.0 h.1
    (bits_small (2 ^ 11) (2 ^ 12) refl i.imm h.3.0 h.3.1) e
small_form S o b e c i h = s_small b i.rs1 i.rs2 (in_bits 12 i.imm) h.1 h.2 e
small_form B o b e c i h = b_small b i.rs1 i.rs2 (in_bits 13 i.imm) h.1 h.2 e
small_form U o b e c i h = u_small b i.rd (in_bits 32 i.imm) h.0 e
small_form J o b e c i h = j_small b i.rd (in_bits 21 i.imm) h.0 e
small_form Shift o b e c i h =
    shift_small (is_word_shift o) b i.rd i.rs1 (in_bits 6 i.imm) h.0 h.1
    (pos_bits (amount_bound (is_word_shift o)) (2 ^ 6) i.imm h.3.0 h.3.1).1 e c
small_form Csr o b e c i h =
    i_small b i.rd i.rs1 (in_bits 12 i.imm) h.0 h.1 (pos_bits 4096 (2 ^ 12) i.imm h.3.0 h.3.1).1 e
small_form Fence o b e c i h =
    i_small b i.rd i.rs1 (in_bits 12 i.imm) h.0 h.1 (pos_bits 4096 (2 ^ 12) i.imm h.3.0 h.3.1).1 e
small_form Whole o b e c i h = omega arith
small_form Sfence o b e c i h = omega arith
small_form Lr o b e c i h = omega arith
small_form Amo o b e c i h = omega arith

pub fits_row : (i : Insn) (r : Row) → InRange i → slice_get rows i.row ≡ Some r
    → FitsForm r.form r.op i
fits_row i r h e =
    let is = row_is i.row r e in
    let a = subst (λ (f : Form). FitsForm f (operation_at i.row) i) (sym is.1) h.1 in
    subst (λ (o : Op). FitsForm r.form o i) (sym is.2) a

pub row_encodes : (i : Insn) (r : Row) (n : ℕ) → slice_get rows i.row ≡ Some r → n ≡ placed r.form i
    → r.bits + n ≡ encode_of i
unfolding encode_of
row_encodes i r n e p =
    let is = row_is i.row r e in
    ap (λ m. r.bits + m) (p ∙ ap (λ (f : Form). placed f i) is.1)
    ∙ ap (λ b. b + placed (form_of i.row) i) is.0

pub encode_small : (i : Insn) → InRange i → encode_of i < 2 ^ 32
unfolding encode_of
encode_small i h =
    let s = place_shape i.row h.0 in
    small_form (form_of i.row) (operation_at i.row) (bits_at rows i.row) s.bits_are s.clear i h.1
