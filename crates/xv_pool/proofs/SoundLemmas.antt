-- What stands in a pool of which something was taken or given back.
use Rattle.std.proofs.Common.{◌≡◌, ℕ, suc, ◌<◌, Bool, true, false, ◌&&◌, List, [], ◌∷◌, ◌++◌}
use Rattle.std.proofs.Common.{length, get_or, take, drop, refl, arith}
use Rattle.std.specs.List.{remove}
use Rattle.std.proofs.lemmas.List.Elements.{All-push, All-append, All-take, All-drop}
use Rattle.std.proofs.lemmas.List.Sums.{sum_by-remove}
use Rattle.xv_base.specs.declared.keys.Span.{Span}
use Rattle.xv_base.specs.Range.{meets_one, LiesIn}
use Rattle.xv_pool.specs.Resources.{Resources, IsSound, all_out}
use Rattle.xv_pool.proofs.RangeLemmas.{count_by-push, weight}

-- all roots are out
pub all_out-true : (roots : List Bool) → ((k : ℕ) → k < length roots → get_or roots k false ≡ true)
    → true ≡ all_out roots
all_out-true [] out = refl
all_out-true (root ∷ roots) out =
    first root (out 0 (omega arith)) (all_out-true roots (λ k within. out (suc k) (omega arith)))
  where
    first : (root : Bool) → root ≡ true → true ≡ all_out roots → true ≡ (root && all_out roots)
    first true is others = others
    first false is others = cc

pub IsSound-taken : (pool : Resources) (range : Span) → IsSound pool → LiesIn range pool.area
    → meets_one pool.held range ≡ false → IsSound (record pool { held = pool.held ++ range ∷ [] })
IsSound-taken pool range sound inside apart = record {
  inside = sound.inside;
  rising = sound.rising;
  sixteen = sound.sixteen;
  reserved = All-push (λ held. LiesIn held pool.area) pool.held range sound.reserved inside;
  apart = λ address. count_by-push address range pool.held apart (sound.apart address);
}

pub IsSound-given : (pool : Resources) (place : ℕ) → place < length pool.held → IsSound pool
    → IsSound (record pool { held = remove pool.held place })
IsSound-given pool place within sound = record {
  inside = sound.inside;
  rising = sound.rising;
  sixteen = sound.sixteen;
  reserved =
      let P : Span → Type 0 = λ held. LiesIn held pool.area in
      All-append P (take place pool.held) (drop (suc place) pool.held)
      (All-take P place pool.held sound.reserved)
      (All-drop P (suc place) pool.held sound.reserved);
  apart = λ address.
      let none : Span = record { start = 0; len = 0 } in
      let removed = sum_by-remove (weight address) pool.held place none within in
      let once = sound.apart address in
      omega arith;
}
