-- What is written is read again, token by token: a piece that stands at a place of a block, and
-- what stands behind it.
use Rattle.std.proofs.Common.{◌≡◌, ℕ, ◌+◌, ◌-◌, ◌^◌, ◌<◌, ◌≤◌, ◌==◌, Bool, true, false, ◌&&◌, ltb}
use Rattle.std.proofs.Common.{List, [], ◌∷◌, ◌++◌, length, take, drop, replicate, Some, Ok, refl}
use Rattle.std.proofs.Common.{sym, ap, ◌∙◌, append_assoc, length-append, arith}
use Rattle.std.specs.List.{list_all}
use Rattle.std.proofs.lemmas.Bool.{le-ltb}
use Rattle.std.proofs.lemmas.Bool.Decides.{nat_tests}
use Rattle.std.proofs.lemmas.List.{drop-drop, drop_at, take_at, length-drop, length-replicate}
use Rattle.byteorder.specs.Endian.{big_number}
use Rattle.byteorder.specs.Numbers.{big_number-reads_back, length-bytes_high_first}
use Rattle.xv_base.specs.Name.{is_dev_name, is_dev_byte}
use Rattle.xv_fdt.specs.declared.token.Mark.TheVariants as marks
use Rattle.xv_fdt.specs.Header.{word}
use Rattle.xv_fdt.specs.Token.{text, name_read, Begin, EndNode, Prop, End, mark_of, mark_at}
use Rattle.xv_fdt.specs.Token.{name_at, property_at, padded_len, tokens}
use Rattle.xv_fdt.specs.Tree.{Property}
use Rattle.xv_fdt.specs.Written.{big_word, with_padding, begin_bytes, property_bytes}
use Rattle.xv_fdt.proofs.TokenLemmas.{tokens-at, tokens-begin, tokens-property}

-- ---- pieces

pub behind : (block piece rest : List ℕ) (at : ℕ) → drop at block ≡ piece ++ rest
    → drop (at + length piece) block ≡ rest
behind block piece rest at stands =
    sym (drop-drop (length piece) at block) ∙ ap (drop (length piece)) stands
    ∙ drop_at piece rest (length piece) refl

pub inside : (block piece rest : List ℕ) (at : ℕ) → drop at block ≡ piece ++ rest → 0 < length piece
    → at + length piece ≤ length block
inside block piece rest at stands some =
    omega (arith, length-drop at block, ap length stands, length-append piece rest)

pub length-big_word : (n : ℕ) → length (big_word n) ≡ 4
unfolding big_word
length-big_word n = length-bytes_high_first 4 n

pub word_is : (block rest : List ℕ) (at n : ℕ) → drop at block ≡ big_word n ++ rest → n < 2 ^ 32
    → word block at ≡ n
unfolding big_word
word_is block rest at n stands small =
    ap (big_number 4) stands ∙ big_number-reads_back 4 n rest small

pub behind_word : (block rest : List ℕ) (at n : ℕ) → drop at block ≡ big_word n ++ rest
    → drop (at + 4) block ≡ rest
behind_word block rest at n stands =
    ap (λ len. drop (at + len) block) (sym (length-big_word n))
    ∙ behind block (big_word n) rest at stands

pub inside_word : (block rest : List ℕ) (at n : ℕ) → drop at block ≡ big_word n ++ rest
    → at + 4 ≤ length block
inside_word block rest at n stands =
    omega (
      arith,
      length-big_word n,
      inside block (big_word n) rest at stands (omega (arith, length-big_word n)),
    )

pub length-with_padding : (bytes : List ℕ) → length (with_padding bytes) ≡ padded_len (length bytes)
unfolding with_padding
length-with_padding bytes =
    omega (
      arith,
      length-append bytes (replicate (padded_len (length bytes) - length bytes) 0),
      length-replicate {A = ℕ} (padded_len (length bytes) - length bytes) 0,
    )

pub padding : List ℕ → List ℕ
padding bytes = replicate (padded_len (length bytes) - length bytes) 0

with_padding-append : (bytes rest : List ℕ) → with_padding bytes ++ rest ≡ bytes
    ++ (padding bytes ++ rest)
unfolding with_padding padding
with_padding-append bytes rest =
    append_assoc bytes (replicate (padded_len (length bytes) - length bytes) 0) rest

-- ---- marks

pub mark_is : (block rest : List ℕ) (at n : ℕ) → drop at block ≡ big_word n ++ rest → n < 2 ^ 32
    → mark_at block at ≡ mark_of n
unfolding mark_at
mark_is block rest at n stands small =
    let long : ltb (length block) (at + 4) ≡ false =
    le-ltb _ _ (inside_word block rest at n stands) in
    rw long (ap mark_of (word_is block rest at n stands small))

-- an end-node token
pub end_node-again : (block strings rest : List ℕ) (at : ℕ) → drop at block ≡ big_word 2 ++ rest
    → tokens block strings at ≡ EndNode at ∷ tokens block strings (at + 4)
end_node-again block strings rest at stands =
    tokens-at block strings at marks.EndNode (mark_is block rest at 2 stands (omega arith))

-- the end
pub end-again : (block strings rest : List ℕ) (at : ℕ) → drop at block ≡ big_word 9 ++ rest
    → tokens block strings at ≡ End at ∷ []
end-again block strings rest at stands =
    tokens-at block strings at marks.End (mark_is block rest at 9 stands (omega arith))

-- ---- names

-- a text that holds no 0: what is read of it and a 0 is itself
abbrev pub IsText : List ℕ → Type 0
IsText name = (rest : List ℕ) → text (name ++ (0 ∷ rest)) ≡ Some name

pub nothing_text : IsText []
unfolding text
nothing_text rest = refl

dev_bytes_text : (name : List ℕ) → list_all is_dev_byte name ≡ true → IsText name
unfolding text
dev_bytes_text [] all rest = refl
dev_bytes_text (byte ∷ bytes) all rest =
    let parts = both (is_dev_byte byte) (list_all is_dev_byte bytes) all in
    let other : (byte == 0) ≡ false = nonzero byte parts.0 in
    rw (other, dev_bytes_text bytes parts.1 rest) refl
  where
    both : (a b : Bool) → (a && b) ≡ true → (a ≡ true) × (b ≡ true)
    both true b h = (refl, h)
    both false b h = absurd cc

    nonzero : (byte : ℕ) → is_dev_byte byte ≡ true → (byte == 0) ≡ false
    nonzero byte is = grind (arith, nat_tests)

pub dev_name-text : (name : List ℕ) → is_dev_name name ≡ true → IsText name
unfolding is_dev_name
dev_name-text name named = dev_bytes_text name (grind (arith, nat_tests))

-- ---- a begin token

pub record Begins (block strings : List ℕ) (at : ℕ) (name rest : List ℕ) : Type 0 where
  pub next : ℕ
  pub tokens_are : tokens block strings at ≡ Begin at (Ok name) ∷ tokens block strings next
  pub rest_is : drop next block ≡ rest

pub begin-again : (block strings : List ℕ) (at : ℕ) (name rest : List ℕ) → IsText name
    → drop at block ≡ begin_bytes name ++ rest → Begins block strings at name rest
unfolding begin_bytes name_at
begin-again block strings at name rest is_text stands =
    let bytes = name ++ (0 ∷ []) in
    let words : drop at block ≡ big_word 1 ++ (with_padding bytes ++ rest) =
    stands ∙ append_assoc (big_word 1) (with_padding bytes) rest in
    let inner : drop (at + 4) block ≡ with_padding bytes ++ rest =
    behind_word block (with_padding bytes ++ rest) at 1 words in
    let named : drop (at + 4) block ≡ name ++ (0 ∷ (padding bytes ++ rest)) =
    inner ∙ with_padding-append bytes rest ∙ append_assoc name (0 ∷ []) (padding bytes ++ rest) in
    let read : name_at block at ≡ Ok name =
    ap name_read (ap text named ∙ is_text (padding bytes ++ rest)) in
    let len : length (with_padding bytes) ≡ padded_len (length name + 1) =
    length-with_padding bytes ∙ ap padded_len (length-append name (0 ∷ [])) in
    let is_begin : mark_at block at ≡ marks.Begin =
    mark_is block (with_padding bytes ++ rest) at 1 words (omega arith) in
    record {
      next = at + 4 + padded_len (length name + 1);
      tokens_are =
          tokens-begin block strings at name is_begin read
          ∙ ap (λ r. Begin at r
          ∷ tokens block strings (at + 4 + padded_len (length name + 1))) read;
      rest_is = ap (λ n. drop (at + 4 + n) block) (sym len)
          ∙ behind block (with_padding bytes) rest (at + 4) inner;
    }

-- ---- a property

pub record HasProperty (block strings : List ℕ) (at : ℕ) (p : Property)
    (rest : List ℕ) : Type 0 where
  pub next : ℕ
  pub tokens_are : tokens block strings at ≡ Prop at (Ok p) ∷ tokens block strings next
  pub rest_is : drop next block ≡ rest

pub property-again : (block strings : List ℕ) (at offset : ℕ) (p : Property) (rest more : List ℕ)
    → length block ≤ 2 ^ 20 → length strings ≤ 2 ^ 20 → IsText p.name
    → drop at block ≡ property_bytes offset p ++ rest → drop offset strings ≡ p.name ++ (0 ∷ more)
    → HasProperty block strings at p rest
unfolding property_bytes property_at
property-again block strings at offset p rest more small few is_text stands named =
    let value = with_padding p.value in
    let r0 : drop at block ≡ big_word 3
    ++ (big_word (length p.value) ++ (big_word offset ++ (value ++ rest))) =
    stands
    ∙ append_assoc (big_word 3) (big_word (length p.value) ++ (big_word offset ++ value)) rest
    ∙ ap (λ o. big_word 3 ++ o)
    (append_assoc (big_word (length p.value)) (big_word offset ++ value) rest)
    ∙ ap (λ o. big_word 3 ++ (big_word (length p.value) ++ o))
    (append_assoc (big_word offset) value rest) in
    let r1 : drop (at + 4) block ≡ big_word (length p.value)
    ++ (big_word offset ++ (value ++ rest)) = behind_word block _ at 3 r0 in
    let r2' : drop (at + 4 + 4) block ≡ big_word offset ++ (value ++ rest) =
    behind_word block _ (at + 4) (length p.value) r1 in
    let eight : at + 4 + 4 ≡ at + 8 = omega arith in
    let r2 : drop (at + 8) block ≡ big_word offset ++ (value ++ rest) =
    ap (λ n. drop n block) (sym eight) ∙ r2' in
    let r3' : drop (at + 8 + 4) block ≡ value ++ rest = behind_word block _ (at + 8) offset r2 in
    let twelve : at + 8 + 4 ≡ at + 12 = omega arith in
    let r3 : drop (at + 12) block ≡ value ++ rest = ap (λ n. drop n block) (sym twelve) ∙ r3' in
    let r3v : drop (at + 12) block ≡ p.value ++ (padding p.value ++ rest) =
    r3 ∙ with_padding-append p.value rest in
    let twelve_in : at + 12 ≤ length block =
    omega (arith, inside_word block _ (at + 8) offset r2) in
    let value_in : at + 12 + length p.value ≤ length block =
    omega (
      arith,
      twelve_in,
      length-drop (at + 12) block,
      ap length r3v,
      length-append p.value (padding p.value ++ rest),
    ) in
    let offset_in : offset < length strings =
    omega (arith, length-drop offset strings, ap length named, length-append p.name (0 ∷ more)) in
    let len_is : word block (at + 4) ≡ length p.value =
    word_is block _ (at + 4) (length p.value) r1 (omega (arith, value_in, small)) in
    let offset_is : word block (at + 8) ≡ offset =
    word_is block _ (at + 8) offset r2 (omega (arith, offset_in, few)) in
    let t1 : ltb (length block) (at + 12) ≡ false = le-ltb _ _ twelve_in in
    let t2 : ltb (length block) (at + 12 + length p.value) ≡ false = le-ltb _ _ value_in in
    let name_is : text (drop offset strings) ≡ Some p.name = ap text named ∙ is_text more in
    let value_is : take (length p.value) (drop (at + 12) block) ≡ p.value =
    ap (take (length p.value)) r3v
    ∙ take_at p.value (padding p.value ++ rest) (length p.value) refl in
    let read : property_at block strings at ≡ Ok p =
    rw (t1, len_is, t2, offset_is, name_is, value_is) refl in
    let is_prop : mark_at block at ≡ marks.Prop = mark_is block _ at 3 r0 (omega arith) in
    record {
      next = at + 12 + padded_len (length p.value);
      tokens_are =
          tokens-property block strings at p is_prop read
          ∙ ap (λ r. Prop at r ∷ tokens block strings (at + 12 + padded_len (length p.value))) read;
      rest_is = ap (λ n. drop (at + 12 + n) block) (sym (length-with_padding p.value))
          ∙ behind block value rest (at + 12) r3;
    }
