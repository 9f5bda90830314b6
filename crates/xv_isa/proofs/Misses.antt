-- A word that misses each row of its opcode, or whose opcode is none of the table's, is of no row.
use Rattle.std.proofs.Common.{◌≡◌, ℕ, suc, Bool, true, false, cond, List, [], ◌∷◌, None, Some, refl}
use Rattle.std.proofs.Common.{sym, ap, ◌∙◌, ◌==◌, ◌≢◌, inl, inr}
use Rattle.std.specs.Int.Bits.{bit_and}
use Rattle.std.specs.List.{list_all, list_any}
use Rattle.std.proofs.lemmas.Nat.{and_assoc}
use Rattle.std.proofs.lemmas.Bool.{eqb-true, eq-eqb, ne_eqb, and_parts, or_cases}
use Rattle.xv_isa.specs.declared.rows.Row.{Row}
use Rattle.xv_isa.specs.Rows.{rows, Matches, place_from, row_of}

-- each row of the list misses the word
abbrev AllMiss : ℕ → List Row → Type 0
AllMiss word [] = Unit {0}
AllMiss word (r ∷ rs) = (bit_and word r.mask ≢ r.bits) × AllMiss word rs

none_from : (word : ℕ) (xs : List Row) (k : ℕ) → AllMiss word xs → place_from word xs k ≡ None
none_from word [] k h = refl
none_from word (r ∷ rs) k h =
    ap (λ b. cond b (Some k) (place_from word rs (suc k))) (ne_eqb _ _ h.0)
    ∙ none_from word rs (suc k) h.1

-- a row fixes the opcode
fixes_opcode : Row → Bool
fixes_opcode r = bit_and r.mask 0x7f == 0x7f

-- the opcode of a row's words
abbrev pub opcode_of : Row → ℕ
opcode_of r = bit_and r.bits 0x7f

rows_fix : list_all fixes_opcode rows ≡ true
unfolding rows fixes_opcode
rows_fix = refl

same_opcode : (word : ℕ) (r : Row) → fixes_opcode r ≡ true → Matches word r
    → bit_and word 0x7f ≡ opcode_of r
unfolding fixes_opcode
same_opcode word r t p =
    ap (bit_and word) (sym (eqb-true _ _ t)) ∙ sym (and_assoc 0x7f word r.mask)
    ∙ ap (λ x. bit_and x 0x7f) p

-- each row of an opcode misses the word
abbrev pub MissesGroup : ℕ → ℕ → List Row → Type 0
MissesGroup code word [] = Unit {0}
MissesGroup code word (r ∷ rs) =
    cond (opcode_of r == code) ((bit_and word r.mask ≢ r.bits) × MissesGroup code word rs)
    (MissesGroup code word rs)

-- one row more: of that opcode it misses by assumption, of another by its opcode
miss_step : (code word : ℕ) (r : Row) (Some_miss All_miss : Type 0) → (Some_miss → All_miss)
    → fixes_opcode r ≡ true → bit_and word 0x7f ≡ code → (b : Bool) → (opcode_of r == code) ≡ b
    → cond b ((bit_and word r.mask ≢ r.bits) × Some_miss) Some_miss
    → (bit_and word r.mask ≢ r.bits) × All_miss
miss_step code word r P Q rest t e true q h = (h.0, rest h.1)
miss_step code word r P Q rest t e false q h = (
  λ p. let o : bit_and word 0x7f ≡ opcode_of r = same_opcode word r t p in
      let s : (opcode_of r == code) ≡ true = eq-eqb _ _ (sym o ∙ e) in cc,
  rest h,
)

group_misses : (code word : ℕ) (xs : List Row) → list_all fixes_opcode xs ≡ true
    → bit_and word 0x7f ≡ code → MissesGroup code word xs → AllMiss word xs
group_misses code word [] t e h = tt
group_misses code word (r ∷ rs) t e h =
    let fixed = and_parts (fixes_opcode r) (list_all fixes_opcode rs) t in
    miss_step code word r (MissesGroup code word rs) (AllMiss word rs)
    (group_misses code word rs fixed.1 e) fixed.0 e (opcode_of r == code) refl h

pub misses_group : (code word : ℕ) → bit_and word 0x7f ≡ code → MissesGroup code word rows
    → row_of word ≡ None
unfolding row_of
misses_group code word e h = none_from word rows 0 (group_misses code word rows rows_fix e h)

-- the word's opcode is none of these
abbrev pub NoneOf : ℕ → List ℕ → Type 0
NoneOf word [] = Unit {0}
NoneOf word (c ∷ cs) = (bit_and word 0x7f ≢ c) × NoneOf word cs

-- the table's opcodes
abbrev pub opcodes : List ℕ
opcodes = 0x37 ∷ 0x17 ∷ 0x6f ∷ 0x67 ∷ 0x63 ∷ 0x03 ∷ 0x23 ∷ 0x13 ∷ 0x1b ∷ 0x33 ∷ 0x3b ∷ 0x0f
    ∷ 0x73 ∷ 0x2f ∷ []

listed : Row → Bool
listed r = list_any (λ c. opcode_of r == c) opcodes

rows_listed : list_all listed rows ≡ true
unfolding rows listed
rows_listed = refl

not_listed : (word : ℕ) (x : ℕ) (cs : List ℕ) → bit_and word 0x7f ≡ x
    → list_any (λ c. x == c) cs ≡ true → NoneOf word cs → ⊥
not_listed word x [] e t h = cc
not_listed word x (c ∷ cs) e t h =
    elim (or_cases (x == c) (list_any (λ c. x == c) cs) t) [
      | inl p ↦
          h.0 (e ∙ eqb-true _ _ p)
      | inr p ↦ not_listed word x cs e p h.1
    ]

opcode_misses : (word : ℕ) (xs : List Row) → list_all fixes_opcode xs ≡ true
    → list_all listed xs ≡ true → NoneOf word opcodes → AllMiss word xs
unfolding listed
opcode_misses word [] t u h = tt
opcode_misses word (r ∷ rs) t u h =
    let f = and_parts (fixes_opcode r) (list_all fixes_opcode rs) t in
    let g = and_parts (listed r) (list_all listed rs) u in (
      λ p. not_listed word (opcode_of r) opcodes (same_opcode word r f.0 p) g.0 h,
      opcode_misses word rs f.1 g.1 h,
    )

pub misses_opcodes : (word : ℕ) → NoneOf word opcodes → row_of word ≡ None
unfolding row_of
misses_opcodes word h = none_from word rows 0 (opcode_misses word rows rows_fix rows_listed h)
