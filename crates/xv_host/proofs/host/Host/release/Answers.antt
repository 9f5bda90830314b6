use Rattle.std.proofs.Common.{◌<◌, None, Some, sym, subst, arith}
use Rattle.xv_host.specs.Holdings.{Holdings, OthersStay}
use Rattle.xv_host.specs.Host.{Host, IsHosted}
use Rattle.xv_host.proofs.HoldingLemmas.{holdings_step, others_stay, within}
use Rattle.xv_host.proofs.ReleaseLemmas.{may_give, release_step}
use Rattle.xv_host.proofs.host.Host.release.Goals as goal

pub give-requires : goal.give-requires
give-requires c =
    may_give c.args.machine.now.mem c.self.inside.pool c.self.inside.guests
    (subst (λ (h : Host). IsHosted h c.args.machine.now.mem) (sym c.self.view_is) c.requires.hosted)
    c.args.key c.take-guest.result c.take-guest.ensures.value

pub returns-clause-others : goal.returns-clause-others
returns-clause-others c =
    let old = c.args.machine.now.mem in
    let places = c.self.inside.guests in
    let holdings = subst (λ (h : Host). IsHosted h old) (sym c.self.view_is) c.requires.hosted in
    let at = c.take-guest.ensures.value in
    let step = release_step old c.self.inside.pool places holdings c.args.key c.take-guest.result at
    c.give.new.mem c.give.new.pool c.give.ensures.pool c.give.ensures.sound c.give.ensures.zeros
    c.give.ensures.within in
    let low : c.args.key < 16 =
    omega (arith, within places c.args.key c.take-guest.result at, holdings.parted.sixteen) in
    let stay = others_stay old c.give.new.mem c.self.inside.pool c.give.new.pool places c.args.key
    (Some c.take-guest.result) None low at holdings step in
    subst (λ (h : Host). OthersStay c.args.key old c.give.new.mem h.guests c.take-guest.new.self)
    c.self.view_is
    (subst (OthersStay c.args.key old c.give.new.mem places) (sym c.take-guest.ensures.taken) stay)

pub returns-clause-hosted : goal.returns-clause-hosted
returns-clause-hosted c =
    let old = c.args.machine.now.mem in
    let places = c.self.inside.guests in
    let holdings = subst (λ (h : Host). IsHosted h old) (sym c.self.view_is) c.requires.hosted in
    let at = c.take-guest.ensures.value in
    let step = release_step old c.self.inside.pool places holdings c.args.key c.take-guest.result at
    c.give.new.mem c.give.new.pool c.give.ensures.pool c.give.ensures.sound c.give.ensures.zeros
    c.give.ensures.within in
    let low : c.args.key < 16 =
    omega (arith, within places c.args.key c.take-guest.result at, holdings.parted.sixteen) in
    subst (Holdings c.give.new.mem c.give.new.pool) (sym c.take-guest.ensures.taken)
    (holdings_step old c.give.new.mem c.self.inside.pool c.give.new.pool places c.args.key
    (Some c.take-guest.result) None low at holdings step)
