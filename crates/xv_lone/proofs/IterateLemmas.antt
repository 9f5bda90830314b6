-- What a bounded iteration gives, turn by turn.
use Rattle.std.proofs.Common.{◌≡◌, ℕ, zero, suc, Option, Some, None, option_map, refl, sym, ap, ◌∙◌}
use Rattle.xv_lone.specs.Turn.{iterate, or_on}

iterate_suc : {S : Type 0} (f : S → Option S) (n : ℕ) (s : S)
    → iterate f (suc n) s ≡ or_on (iterate f n) s (f s)
unfolding iterate
iterate_suc f n s = refl

-- where f gives none, nothing more is done
pub iterate_over : {S : Type 0} (f : S → Option S) (n : ℕ) (s : S) → f s ≡ None → iterate f n s ≡ s
unfolding iterate
iterate_over f zero s none = refl
iterate_over f (suc n) s none = iterate_suc f n s ∙ ap (or_on (iterate f n) s) none

-- one turn, and the others
pub iterate_more : {S : Type 0} (f : S → Option S) (n m : ℕ) (s t : S) → f s ≡ Some t → m ≡ suc n
    → iterate f m s ≡ iterate f n t
iterate_more f n m s t some e =
    ap (λ k. iterate f k s) e ∙ (iterate_suc f n s ∙ ap (or_on (iterate f n) s) some)

-- no turn is left
pub iterate_none : {S : Type 0} (f : S → Option S) (s : S) → iterate f 0 s ≡ s
unfolding iterate
iterate_none f s = refl

or_on-map : {S T : Type 0} (h : S → T) (a : S → S) (b : T → T) → ((s : S) → b (h s) ≡ h (a s))
    → (s : S) (o : Option S) → or_on b (h s) (option_map h o) ≡ h (or_on a s o)
or_on-map h a b e s None = refl
or_on-map h a b e s (Some t) = e t

-- an iteration seen through a map that each turn respects
pub iterate-map : {S T : Type 0} (f : S → Option S) (g : T → Option T) (h : S → T)
    → ((s : S) → g (h s) ≡ option_map h (f s)) → (n : ℕ) (s : S)
    → iterate g n (h s) ≡ h (iterate f n s)
iterate-map f g h e zero s = iterate_none g (h s) ∙ ap h (sym (iterate_none f s))
iterate-map f g h e (suc n) s =
    iterate_suc g n (h s)
    ∙ (ap (or_on (iterate g n) (h s)) (e s)
    ∙ (or_on-map h (iterate f n) (iterate g n) (iterate-map f g h e n) s (f s)
    ∙ ap h (sym (iterate_suc f n s))))
