use Rattle.std.proofs.Common.{◌≡◌, ℕ, ◌<◌, true, is_some, sym, subst, refl}
use Rattle.xv_region.specs.Need.{need}
use Rattle.xv_guest.specs.Frames.{reserved_ranges}
use Rattle.xv_guest.specs.Guest.{Guest}
use Rattle.xv_guest.specs.Take.{MayTake}
use Rattle.xv_host.specs.Holdings.{OthersStay}
use Rattle.xv_host.specs.Host.{Host, IsHosted}
use Rattle.xv_host.specs.Places.{IsLeast, guest_at}
use Rattle.xv_host.proofs.AdmitLemmas.{admit_end, admit_may, some_key}
use Rattle.xv_host.proofs.host.Host.admit.Goals as goal

pub unreachable-requires : goal.unreachable-requires
unreachable-requires c =
    some_key c.args.machine.now.mem c.args.self.now c.requires.hosted (need c.args.plan.regions)
    (reserved_ranges c.args.plan.regions) c.in_ok-test.ensures.had
    (subst (λ (h : Host). (k : ℕ) → k < 16 → is_some (guest_at h.guests k) ≡ true) c.self.view_is
    (c.in_default.ensures.full refl))

pub take-requires-clause-may : goal.take-requires-clause-may
take-requires-clause-may c =
    let least = subst (λ (h : Host). IsLeast h.guests c.in-Some.key) c.self.view_is
    c.in-Some.ensures.least in
    let may = admit_may c.args.machine.now.mem c.args.self.now c.args.machine.now.area
    c.args.plan.regions c.in-Some.key c.requires.hosted c.requires.area c.requires.sound
    c.requires.faultless c.in_ok-test.ensures.had least in
    subst (λ (g : Guest). MayTake c.args.machine.now.mem c.self.inside.pool g.plan.regions)
    (sym c.in-Ok.ensures)
    (subst (λ (h : Host). MayTake c.args.machine.now.mem h.pool c.args.plan.regions)
    (sym c.self.view_is) may)

pub returns-clause-others : goal.returns-clause-others
returns-clause-others c =
    let old = c.args.machine.now.mem in
    let new = c.take.new.mem in
    let key = c.in-Some.key in
    let places = c.self.inside.guests in
    let host = subst (λ (h : Host). IsHosted h old) (sym c.self.view_is) c.requires.hosted in
    let here : Host = record { pool = c.self.inside.pool; guests = c.self.inside.guests } in
    let end = admit_end old new here c.take.new.pool c.put-2.new.self c.args.plan key c.args.clock
    host c.in-Some.ensures.least
    (record {
      area = c.args.machine.now.area;
      sound = c.requires.sound;
      faultless =
          c.requires.faultless;
    })
    c.in-Ok.guest c.take.new.self c.put.new.self c.in-Ok.ensures c.take.ensures.pool
    c.take.ensures.sound c.take.ensures.guest c.take.ensures.held c.take.ensures.outside
    c.put.ensures c.put-2.ensures.put in
    subst (λ (h : Host). OthersStay key old new h.guests c.put-2.new.self) c.self.view_is end.1

pub returns-clause-hosted : goal.returns-clause-hosted
returns-clause-hosted c =
    let old = c.args.machine.now.mem in
    let new = c.take.new.mem in
    let host = subst (λ (h : Host). IsHosted h old) (sym c.self.view_is) c.requires.hosted in
    let here : Host = record { pool = c.self.inside.pool; guests = c.self.inside.guests } in
    (admit_end old new here c.take.new.pool c.put-2.new.self c.args.plan c.in-Some.key c.args.clock
    host c.in-Some.ensures.least
    (record {
      area = c.args.machine.now.area;
      sound = c.requires.sound;
      faultless =
          c.requires.faultless;
    })
    c.in-Ok.guest c.take.new.self c.put.new.self c.in-Ok.ensures c.take.ensures.pool
    c.take.ensures.sound c.take.ensures.guest c.take.ensures.held c.take.ensures.outside
    c.put.ensures c.put-2.ensures.put).0
