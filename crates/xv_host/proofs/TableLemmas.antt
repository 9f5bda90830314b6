-- A table of which one place changes.
use Rattle.std.proofs.Common.{◌≡◌, ◌≢◌, ℕ, ◌+◌, ◌<◌, ◌≤◌, List, length, get_or, set, refl, sym}
use Rattle.std.proofs.Common.{ap, ◌∙◌, subst, arith, inl, inr, Option, Some, None, is_some, IsSome}
use Rattle.std.proofs.Common.{count_by, cond, zero, suc, [], ◌∷◌, replicate, true, false}
use Rattle.std.proofs.lemmas.Bool.{cases_eq}
use Rattle.std.proofs.lemmas.List.{ext_get_or, get_or-map, get_or-set_same, get_or-set_other}
use Rattle.std.proofs.lemmas.List.{length-set, length-map}
use Rattle.std.proofs.lemmas.List.Sums.{sum_by-set, count_by-le-length}
use Rattle.slab.specs.Slab.{Slab, ContainsKey, HasRoomFor, Updates, get, slab_len, with_value}
use Rattle.xv_host.specs.Table.{IsTable, value_at, values_at}

place_within : {X : Type 0} (xs : List (Option X)) (k : ℕ) → IsSome (get_or xs k None)
    → k < length xs
place_within [] k some = cc
place_within (x ∷ xs) zero some = omega arith
place_within (x ∷ xs) (suc k) some = let rest = place_within xs k some in omega arith

abbrev no_key : Option ℕ
no_key = None

abbrev one_if : Option ℕ → ℕ
one_if place = cond (is_some place) 1 0

vacant_counts : (place : Option ℕ) → place ≡ None → one_if place ≡ 0
vacant_counts place is = rw is refl

named_counts : (place : Option ℕ) (at : ℕ) → place ≡ Some at → one_if place ≡ 1
named_counts place at is = rw is refl

module _ {T : Type 0} where
  -- ---- one place

  pub place_value : (values : Slab T) (places : List (Option ℕ)) (key : ℕ) → key < length places
      → get_or (values_at values places) key None ≡ value_at values (get_or places key None)
  place_value values places key within = get_or-map (value_at values) places key None None within

  pub values_set : (old new : Slab T) (places places' : List (Option ℕ)) (key : ℕ)
      (slot : Option T) → key < length places → length places' ≡ length places
      → value_at new (get_or places' key None) ≡ slot
      → ((j : ℕ) → j ≢ key
      → value_at new (get_or places' j None) ≡ value_at old (get_or places j None))
      → values_at new places' ≡ set (values_at old places) key slot
  values_set old new places places' key slot within same here others =
      ext_get_or None (values_at new places') (set (values_at old places) key slot)
      (length-map places' (value_at new) ∙ (same ∙ sym (length-set (values_at old places) key slot
      ∙ length-map places (value_at old)))) at
    where
      at : (i : ℕ) → i < length (values_at new places')
          → get_or (values_at new places') i None ≡ get_or (set (values_at old places) key slot) i
          None
      at i inside =
          let count = length-map places' (value_at new) in
          let mapped = place_value new places' i (omega arith) in
          elim (cases_eq i key) [
            | inl is ↦
                (let there : value_at new (get_or places' i None) ≡ slot =
                subst (λ (k : ℕ). value_at new (get_or places' k None) ≡ slot) (sym is) here in
                let room : key < length (values_at old places) =
                rw (length-map places (value_at old)) within in
                let set_there = get_or-set_same (values_at old places) key slot None room in
                mapped ∙ (there ∙ (sym set_there
                ∙ ap (λ (k : ℕ). get_or (set (values_at old places) key slot) k None) (sym is))))
            | inr other ↦
                (let stays = get_or-set_other (values_at old places) key i slot None other in
                let was = place_value old places i (omega arith) in
                mapped ∙ (others i other ∙ (sym was ∙ sym stays)))
          ]

  not_there : {Y : Type 0} (value : Option T) → value ≡ None → IsSome value → Y
  not_there None none some = cc
  not_there (Some value) none some = cc

  -- a place without a value names none
  pub vacant_place : (values : Slab T) (places : List (Option ℕ)) (key : ℕ)
      → IsTable values places → value_at values (get_or places key None) ≡ None
      → get_or places key None ≡ None
  vacant_place values places key table none = go (get_or places key None) refl none
    where
      go : (place : Option ℕ) → get_or places key None ≡ place → value_at values place ≡ None
          → get_or places key None ≡ None
      go None is empty = is
      go (Some at) is empty = not_there (get values at) empty (table.found key at is)

  -- the same, as a table shows it
  pub vacant_key : (values : Slab T) (places : List (Option ℕ)) (key : ℕ)
      → IsTable values places → key < 16 → {shown : List (Option T)}
      → values_at values places ≡ shown → get_or shown key None ≡ None
      → get_or places key None ≡ None
  vacant_key values places key table low {shown} is free =
      vacant_place values places key table
      (sym (place_value values places key (omega (arith, table.sixteen)))
      ∙ (ap (λ v. get_or v key None) is ∙ free))

  pub named_value : (values : Slab T) (places : List (Option ℕ)) (key at : ℕ)
      → IsTable values places → key < 16 → get_or places key None ≡ Some at
      → get_or (values_at values places) key None ≡ get values at
  named_value values places key at table low named =
      place_value values places key (omega (arith, table.sixteen)) ∙ ap (value_at values) named

  pub room_for : (values : Slab T) (places : List (Option ℕ)) (key : ℕ) → IsTable values places
      → key < 16 → get_or places key None ≡ None → HasRoomFor values 1
  room_for values places key table low none =
      let more = sum_by-set one_if places key (Some 0) None
      (omega (arith, table.sixteen)) in
      let most = count_by-le-length is_some (set places key (Some 0)) in
      let whole = length-set places key (Some 0) in
      let here = vacant_counts (get_or places key None) none in
      omega (arith, table.counted, table.room, table.sixteen)

  -- ---- a value is put

  module _ (old new : Slab T) (places : List (Option ℕ)) (key at : ℕ) (value : T)
      (table : IsTable old places) (low : key < 16) (free : get_or places key None ≡ None)
      (vacant : get old at ≡ None) (updates : Updates old new at (Some value))
      (len : slab_len new ≡ slab_len old + 1) (capacity : new.capacity ≡ old.capacity) where
    within : key < length places
    within = omega (arith, table.sixteen)

    -- no other place names the new value's key in the slab
    distinct : (j a : ℕ) → get_or places j None ≡ Some a → a ≢ at
    distinct j a is same = not_there (get old at) vacant
        (subst (λ (k : ℕ). ContainsKey old k) same (table.found j a is))

    here : get_or (set places key (Some at)) key None ≡ Some at
    here = get_or-set_same places key (Some at) None within

    there : (j : ℕ) → j ≢ key → get_or (set places key (Some at)) j None ≡ get_or places j None
    there j other = get_or-set_other places key j (Some at) None other

    same_value : (j : ℕ) → (place : Option ℕ) → get_or places j None ≡ place
        → value_at new place ≡ value_at old place
    same_value j None is = refl
    same_value j (Some a) is = updates.others a (distinct j a is)

    pub put_values : values_at new (set places key (Some at)) ≡ set (values_at old places) key
        (Some value)
    put_values = values_set old new places (set places key (Some at)) key (Some value) within
        (length-set places key (Some at)) (rw (here) updates.changed)
        (λ j other. rw (there j other) (same_value j (get_or places j None) refl))

    put_found : (i a : ℕ) → get_or (set places key (Some at)) i None ≡ Some a → ContainsKey new a
    put_found i a is = elim (cases_eq i key) [
      | inl same ↦
          (let named : Some at ≡ Some a =
          sym here ∙ (ap (λ (k : ℕ). get_or (set places key (Some at)) k None) (sym same) ∙ is) in
          subst (λ (k : ℕ). ContainsKey new k) (some_same named)
          (subst IsSome (sym updates.changed) refl))
      | inr other ↦
          (let was : get_or places i None ≡ Some a = sym (there i other) ∙ is in
          subst IsSome (sym (updates.others a (distinct i a was))) (table.found i a was))
    ]
      where
        some_same : {X : Type 0} {x y : X} → Some x ≡ Some y → x ≡ y
        some_same e = cc

    put_once : (i j a : ℕ) → get_or (set places key (Some at)) i None ≡ Some a
        → get_or (set places key (Some at)) j None ≡ Some a → i ≡ j
    put_once i j a one two = elim (cases_eq i key) [
      | inl x ↦ elim (cases_eq j key) [
        | inl y ↦ x ∙ sym y
        | inr y ↦ absurd (clash i j a x y one two)
      ]
      | inr x ↦ elim (cases_eq j key) [
        | inl y ↦ absurd (clash j i a y x two one)
        | inr y ↦ table.once i j a (sym (there i x) ∙ one) (sym (there j y) ∙ two)
      ]
    ]
      where
        clash : (i j a : ℕ) → i ≡ key → j ≢ key → get_or (set places key (Some at)) i None ≡ Some a
            → get_or (set places key (Some at)) j None ≡ Some a → ⊥
        clash i j a same other one two =
            let named : Some at ≡ Some a =
            sym here ∙ (ap (λ (k : ℕ). get_or (set places key (Some at)) k None) (sym same) ∙ one)
            in
            let is : a ≡ at = cc in
            distinct j a (sym (there j other) ∙ two) is

    pub put_table : IsTable new (set places key (Some at))
    put_table = record {
      sixteen = length-set places key (Some at) ∙ table.sixteen;
      found = put_found;
      once = put_once;
      counted =
          let more = sum_by-set one_if places key (Some at) None
          within in
          let was = vacant_counts (get_or places key None) free in
          omega (arith, len, table.counted);
      room = omega (arith, capacity, table.room);
    }

  -- ---- a value is taken away

  module _ (old new : Slab T) (places : List (Option ℕ)) (key at : ℕ)
      (table : IsTable old places) (low : key < 16) (named : get_or places key None ≡ Some at)
      (updates : Updates old new at None) (len : slab_len new + 1 ≡ slab_len old)
      (capacity : new.capacity ≡ old.capacity) where
    inside : key < length places
    inside = omega (arith, table.sixteen)

    emptied : get_or (set places key None) key None ≡ None
    emptied = get_or-set_same places key None None inside

    stays : (j : ℕ) → j ≢ key → get_or (set places key None) j None ≡ get_or places j None
    stays j other = get_or-set_other places key j None None other

    -- no other place names the value that is taken
    others : (j a : ℕ) → j ≢ key → get_or places j None ≡ Some a → a ≢ at
    others j a other is same =
        other (table.once j key a is (subst (λ (k : ℕ). get_or places key None ≡ Some k) (sym same)
        named))

    left : (j : ℕ) → j ≢ key → (place : Option ℕ) → get_or places j None ≡ place
        → value_at new place ≡ value_at old place
    left j other None is = refl
    left j other (Some a) is = updates.others a (others j a other is)

    pub take_values : values_at new (set places key None) ≡ set (values_at old places) key None
    take_values = values_set old new places (set places key None) key None inside
        (length-set places key None) (rw emptied refl)
        (λ j other. rw (stays j other) (left j other (get_or places j None) refl))

    pub take_table : IsTable new (set places key None)
    take_table = record {
      sixteen = length-set places key None ∙ table.sixteen;
      found = found_left;
      once = λ i j a one two. elim (cases_eq i key) [
        | inl x ↦ no_name i a x one
        | inr x ↦ elim (cases_eq j key) [
          | inl y ↦ no_name j a y two
          | inr y ↦ table.once i j a (sym (stays i x) ∙ one) (sym (stays j y) ∙ two)
        ]
      ];
      counted =
          let less = sum_by-set one_if places key None None
          inside in
          let was = named_counts (get_or places key None) at named in
          omega (arith, len, table.counted);
      room = omega (arith, capacity, table.room);
    }
      where
        no_name : {X : Type 0} (i a : ℕ) → i ≡ key → get_or (set places key None) i None ≡ Some a
            → X
        no_name i a same is =
            let none : None ≡ Some a = sym emptied
            ∙ (ap (λ (k : ℕ). get_or (set places key None) k None) (sym same) ∙ is) in
            cc

        found_left : (i a : ℕ) → get_or (set places key None) i None ≡ Some a → ContainsKey new a
        found_left i a is = elim (cases_eq i key) [
          | inl same ↦ no_name i a same is
          | inr other ↦
              (let was : get_or places i None ≡ Some a = sym (stays i other) ∙ is in
              subst IsSome (sym (updates.others a (others i a other was))) (table.found i a was))
        ]

  -- ---- a value is lent

  pub lend_values : (old : Slab T) (places : List (Option ℕ)) (key at : ℕ) (value : T)
      → IsTable old places → key < 16 → get_or places key None ≡ Some at
      → values_at (with_value old at value) places ≡ set (values_at old places) key (Some value)
  lend_values old places key at value table low named =
      values_set old (with_value old at value) places places key (Some value)
      (omega (arith, table.sixteen)) refl (rw named written)
      (λ j other. left_alone j other (get_or places j None) refl)
    where
      written : get (with_value old at value) at ≡ Some value
      written = get_or-set_same old.slots at (Some value) None
          (place_within old.slots at (table.found key at named))

      left_alone : (j : ℕ) → j ≢ key → (place : Option ℕ) → get_or places j None ≡ place
          → value_at (with_value old at value) place ≡ value_at old place
      left_alone j other None is = refl
      left_alone j other (Some a) is = get_or-set_other old.slots at a (Some value) None
          (λ (same : a ≡ at). other (table.once j key a is
          (subst (λ (k : ℕ). get_or places key None ≡ Some k) (sym same) named)))

  -- ---- a table without values

  pub empty_table : (values : Slab T) → values.slots ≡ [] → 16 ≤ values.capacity
      → IsTable values (replicate 16 None)
  empty_table values empty room = record {
    sixteen = refl;
    found = λ i at is. no_name i at is;
    once = λ i j at is other. no_name i at is;
    counted = ap (λ slots. count_by is_some slots) empty;
    room = room;
  }
    where
      all_none : (n i : ℕ) → get_or (replicate n no_key) i None ≡ None
      all_none zero i = refl
      all_none (suc n) zero = refl
      all_none (suc n) (suc i) = all_none n i

      no_name : {X : Type 0} (i at : ℕ) → get_or (replicate 16 None) i None ≡ Some at → X
      no_name i at is = let nothing = all_none 16 i in cc

  -- ---- whether a place has a value

  pub named_some : (values : Slab T) (places : List (Option ℕ)) (key : ℕ) {shown : List (Option T)}
      → IsTable values places → key < 16 → values_at values places ≡ shown
      → is_some (get_or places key None) ≡ true → is_some (get_or shown key None) ≡ true
  named_some values places key {shown} table low is some =
      ap (λ v. is_some (get_or v key None)) (sym is)
      ∙ (ap is_some (place_value values places key (omega (arith, table.sixteen)))
      ∙ go (get_or places key None) refl some)
    where
      go : (place : Option ℕ) → get_or places key None ≡ place → is_some place ≡ true
          → is_some (value_at values place) ≡ true
      go None named some = cc
      go (Some at) named some = table.found key at named

  pub unnamed_none : (values : Slab T) (places : List (Option ℕ)) (key : ℕ)
      {shown : List (Option T)} → IsTable values places → key < 16
      → values_at values places ≡ shown → is_some (get_or places key None) ≡ false
      → get_or shown key None ≡ None
  unnamed_none values places key {shown} table low is none =
      ap (λ v. get_or v key None) (sym is)
      ∙ (place_value values places key (omega (arith, table.sixteen))
      ∙ go (get_or places key None) none)
    where
      go : (place : Option ℕ) → is_some place ≡ false → value_at values place ≡ None
      go None none = refl
      go (Some at) none = cc
