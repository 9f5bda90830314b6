use Rattle.std.proofs.Common.{◌≡◌, false, sym, subst, ap, arith}
use Rattle.xv_base.specs.declared.keys.Span.{Span}
use Rattle.xv_base.specs.Range.{LiesIn, meets_one}
use Rattle.xv_pool.specs.Kept.{resources_of}
use Rattle.xv_pool.proofs.SoundLemmas.{IsSound-taken}
use Rattle.xv_pool.proofs.Pool.take_reserved.Goals as goal

pub invariant_of-self : goal.invariant_of-self
invariant_of-self c =
    let area_is : c.self.inside.area ≡ c.args.self.now.area =
    ap (λ pool. pool.area) c.self.view_is in
    let P : Span → Type 0 = λ area. LiesIn c.args.range area in
    let apart : meets_one c.self.inside.held.items c.args.range ≡ false =
    sym (rw c.deref.ensures.value at c.if-is_held.ensures) in
    record {
      sound = rw c.in-Ok.ensures.items
          (IsSound-taken (resources_of c.self.inside) c.args.range c.self.invariant.sound
          (subst P (sym area_is) c.requires.area) apart);
      room = omega (arith, c.self.invariant.room, c.push.ensures.capacity);
    }

pub returns-clause-sound : goal.returns-clause-sound
returns-clause-sound c =
    let area_is : c.self.inside.area ≡ c.args.self.now.area =
    ap (λ pool. pool.area) c.self.view_is in
    let P : Span → Type 0 = λ area. LiesIn c.args.range area in
    let apart : meets_one c.self.inside.held.items c.args.range ≡ false =
    sym (rw c.deref.ensures.value at c.if-is_held.ensures) in
    rw c.in-Ok.ensures.items
    (IsSound-taken (resources_of c.self.inside) c.args.range c.self.invariant.sound
    (subst P (sym area_is) c.requires.area) apart)
