-- The fields of an instruction.
use Rattle.std.proofs.Common.{◌≡◌, ◌⊎◌, inl, inr, ◌<◌, ◌≤◌, ℕ, zero, suc, Bool, true, false, not}
use Rattle.std.proofs.Common.{◌&&◌, ◌||◌, ℤ, pos, negsuc, ◌≤ℤ◌, refl, sym, ap, ◌∙◌, arith}
use Rattle.std.proofs.lemmas.Bool.{and_parts, cases_lt}
use Rattle.xv_isa.specs.declared.instruction.Insn.{Insn}
use Rattle.xv_isa.specs.declared.rows.Form.{Form}
use Rattle.xv_isa.specs.declared.rows.Form.TheVariants.{R, I, S, B, U, J, Shift, Csr, Fence, Whole}
use Rattle.xv_isa.specs.declared.rows.Form.TheVariants.{Sfence, Lr, Amo}
use Rattle.xv_isa.specs.declared.rows.Op.{Op}
use Rattle.xv_isa.specs.declared.rows.Op.TheVariants.{Csrrw, Csrrs, Csrrc, Csrrwi, Csrrsi, Csrrci}
use Rattle.xv_isa.specs.Rows.{rows, form_of, operation_at}
use Rattle.xv_isa.specs.Encoding.{FitsForm, InRange, IsBelow}
use Rattle.xv_isa.specs.Results.{residue}

abbrev RegistersFit : Insn → Type 0
RegistersFit i = (i.rd < 32) × (i.rs1 < 32) × (i.rs2 < 32)

registers_of : (f : Form) (o : Op) (i : Insn) → FitsForm f o i → RegistersFit i
registers_of R o i h = (omega arith, omega arith, omega arith)
registers_of I o i h = (omega arith, omega arith, omega arith)
registers_of S o i h = (omega arith, omega arith, omega arith)
registers_of B o i h = (omega arith, omega arith, omega arith)
registers_of U o i h = (omega arith, omega arith, omega arith)
registers_of J o i h = (omega arith, omega arith, omega arith)
registers_of Shift o i h = (omega arith, omega arith, omega arith)
registers_of Csr o i h = (omega arith, omega arith, omega arith)
registers_of Fence o i h = (omega arith, omega arith, omega arith)
registers_of Whole o i h = (omega arith, omega arith, omega arith)
registers_of Sfence o i h = (omega arith, omega arith, omega arith)
registers_of Lr o i h = (omega arith, omega arith, omega arith)
registers_of Amo o i h = (omega arith, omega arith, omega arith)

pub registers_fit : (i : Insn) → InRange i → RegistersFit i
registers_fit i h = registers_of (form_of i.row) (operation_at i.row) i h.1

-- ---- a CSR's number has 12 bits

abbrev is_csr : Op → Bool
is_csr Csrrw = true
is_csr Csrrs = true
is_csr Csrrc = true
is_csr Csrrwi = true
is_csr Csrrsi = true
is_csr Csrrci = true
is_csr other = false

abbrev is_csr_form : Form → Bool
is_csr_form Csr = true
is_csr_form other = false

abbrev row_passes : ℕ → Bool
row_passes k = not (is_csr (operation_at k)) || is_csr_form (form_of k)

abbrev all_below : (ℕ → Bool) → ℕ → Bool
all_below test zero = true
all_below test (suc n) = test n && all_below test n

-- the last number, or one before it
at_or_below : (test : ℕ → Bool) (n k : ℕ) → test n ≡ true → (k < n → test k ≡ true) → k < suc n
    → test k ≡ true
at_or_below test n k last earlier few = by_place (cases_lt k n)
  where
    by_place : (k < n) ⊎ (n ≤ k) → test k ≡ true
    by_place (inl less) = earlier less
    by_place (inr more) = ap test (let e : k ≡ n = omega (arith, more, few) in e) ∙ last

below_at : (test : ℕ → Bool) (n k : ℕ) → all_below test n ≡ true → k < n → test k ≡ true
below_at test zero k all few = absurd (omega (arith, few))
below_at test (suc n) k all few =
    let parts = and_parts (test n) (all_below test n) all in
    at_or_below test n k parts.0 (below_at test n k parts.1) few

rows_pass : all_below row_passes 97 ≡ true
unfolding operation_at form_of rows
rows_pass = refl

negative : (n : ℕ) → pos 0 ≤ℤ negsuc n → ⊥
negative n h = grind (arith, h)

below_4096 : (z : ℤ) → IsBelow 4096 z → residue 64 z < 4096
below_4096 (pos n) h = grind (arith, h.1)
below_4096 (negsuc n) h = absurd (negative n h.0)

number_of : (f : Form) (o : Op) (i : Insn) → (not (is_csr o) || is_csr_form f) ≡ true
    → is_csr o ≡ true → FitsForm f o i → residue 64 i.imm < 4096
number_of Csr o i passes csr fits = below_4096 i.imm fits.3
number_of f o i passes csr fits = cc

-- the number of the CSR that a CSR row names
pub number_fits : (i : Insn) (o : Op) → InRange i → o ≡ operation_at i.row → is_csr o ≡ true
    → residue 64 i.imm < 4096
number_fits i o h e csr =
    number_of (form_of i.row) (operation_at i.row) i (below_at row_passes 97 i.row rows_pass h.0)
    (ap is_csr (sym e) ∙ csr) h.1

pub ruleset fit = (registers_fit, number_fits)
