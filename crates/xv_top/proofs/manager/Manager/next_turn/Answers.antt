use Rattle.std.proofs.Common.{◌∙◌, Some, None, option_map, sym, ap}
use Rattle.xv_guest.specs.Guest.{Guest}
use Rattle.xv_top.specs.Manager.{live_guest}
use Rattle.xv_top.specs.World.{candidate}
use Rattle.xv_top.proofs.HostLemmas.{alone_named, guest_there}
use Rattle.xv_top.proofs.TurnLemmas.{picks, picks_none}
use Rattle.xv_top.proofs.manager.Manager.next_turn.Goals as goal

pub returns-in_err-guest-clause-none : goal.returns-in_err-guest-clause-none
returns-in_err-guest-clause-none c _ bytes =
    picks_none c.args.self.now bytes c.in_err-guest.was

pub returns-in_err-vcpu-clause-none : goal.returns-in_err-vcpu-clause-none
returns-in_err-vcpu-clause-none c _ bytes =
    let m = c.args.self.now in
    let one = c.in_ok-guest.guest in
    let alone = alone_named m.guest m.host.guests one.name one.key c.requires c.in_ok-guest.was in
    let at = guest_there m.host.guests one.key alone in
    picks m one.name one.key c.in_ok-guest.was alone.guest at bytes None
    (ap (option_map (candidate (live_guest one.name m.last alone.guest bytes)))
    (sym c.in_err-vcpu.was) ∙ c.next_vcpu.ensures.first alone.guest at one.name bytes)

pub returns-clause-picked : goal.returns-clause-picked
returns-clause-picked c =
    let m = c.args.self.now in
    let one = c.in_ok-guest.guest in
    let vcpu = c.in_ok-vcpu.vcpu in
    let alone = alone_named m.guest m.host.guests one.name one.key c.requires c.in_ok-guest.was in
    let at = guest_there m.host.guests one.key alone in
    record {
      name = one.name;
      guest = c.in_ok-guest.was;
      picked = λ bytes.
          picks m one.name one.key c.in_ok-guest.was alone.guest at bytes (Some vcpu)
          (c.in_ok-vcpu.ensures.first alone.guest at one.name bytes)
          ∙ sym (ap (option_map (λ (g : Guest). candidate (live_guest one.name m.last g bytes)
          vcpu))
          at);
    }
