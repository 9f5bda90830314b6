use Rattle.std.proofs.Common.{◌≡◌, ◌∙◌, ◌+◌, ◌-◌, ◌<◌, ℕ, true, false, Option, Some}
use Rattle.std.proofs.Common.{option_map}
use Rattle.std.proofs.Common.{IfSome, subst, sym, ap, inl, inr}
use Rattle.xv_host.specs.Change.{OfGuest, may_turn}
use Rattle.xv_top.specs.Manager.{live_guest, world_of}
use Rattle.xv_top.specs.World.{Candidate, candidate, first_of, is_ready}
use Rattle.xv_top.proofs.ManagerLemmas.{some_at}
use Rattle.xv_top.proofs.TurnLemmas.{all_looked_at, from, looked_at}
use Rattle.xv_top.proofs.manager.Manager.next_vcpu.Goals as goal
use Rattle.xv_top.proofs.manager.Manager.next_vcpu.Goals.{then-ready, else-ready}

pub loop-number-preserved : goal.loop-number-preserved
loop-number-preserved c =
    let m = c.args.self.now in
    let key = c.args.key in
    let n = c.vcpu_count-count.result in
    let i = c.loop-number.number in
    let more = c.loop-number-test.true in
    let inv = c.loop-number.invariant in
    let Ready : ℕ → Type 0 = λ v. OfGuest m.host.guests key (λ g. may_turn g v m.clock ≡ true) in
    let Within : ℕ → Type 0 = λ v. v < n in
    elim c.if-ready.branch [
      | then-ready w ↦
          let one = w.first_of_two.result in
          let now : Ready i = λ g at. sym (c.ready.ensures.ready g at) ∙ w.if-ready.true in
          record {
            first = λ g at name bytes.
                let live = live_guest name m.last g bytes in
                let ready = is_ready (world_of m bytes) live in
                let rest = from ready (candidate live) (i + 1) (n - (i + 1)) in
                ap (λ (o : Option ℕ). first_of (option_map (candidate live) o) rest) w.best-is
                ∙ (ap (λ (x : Candidate). first_of (Some x) rest)
                (w.first_of_two.ensures.first g at name bytes)
                ∙ (sym (looked_at ready (candidate live)
                (option_map (candidate live) c.loop-number.best) i n true more (now g at))
                ∙ inv.first g at name bytes));
            ready = subst (λ (o : Option ℕ). IfSome o Ready) (sym w.best-is)
                (elim w.first_of_two.ensures.one [
                  | inl same ↦ subst Ready (sym same) now
                  | inr earlier ↦ some_at Ready c.loop-number.best one earlier inv.ready
                ]);
            within = subst (λ (o : Option ℕ). IfSome o Within) (sym w.best-is)
                (elim w.first_of_two.ensures.one [
                  | inl same ↦ subst Within (sym same) more
                  | inr earlier ↦ some_at Within c.loop-number.best one earlier inv.within
                ]);
          }
      | else-ready w ↦ record {
        first = λ g at name bytes.
            let live = live_guest name m.last g bytes in
            let ready = is_ready (world_of m bytes) live in
            ap (λ (o : Option ℕ). first_of (option_map (candidate live) o)
            (from ready (candidate live) (i + 1) (n - (i + 1)))) w.best-is
            ∙ (sym (looked_at ready (candidate live)
            (option_map (candidate live) c.loop-number.best) i n false more
            (sym (c.ready.ensures.ready g at) ∙ w.if-ready.false))
            ∙ inv.first g at name bytes);
        ready = subst (λ (o : Option ℕ). IfSome o Ready) (sym w.best-is) inv.ready;
        within = subst (λ (o : Option ℕ). IfSome o Within) (sym w.best-is) inv.within;
      }
    ]

pub returns-clause-first : goal.returns-clause-first
returns-clause-first c g at name bytes =
    let live = live_guest name c.args.self.now.last g bytes in
    sym (all_looked_at (is_ready (world_of c.args.self.now bytes) live) (candidate live)
    (option_map (candidate live) c.loop-number.best) c.loop-number.number
    c.vcpu_count-count.result c.loop-number-test.false)
    ∙ c.loop-number.invariant.first g at name bytes
