use Rattle.std.proofs.Common.{◌∙◌, ap}
use Rattle.xv_hart.specs.Hart.{regs_of, trail_of}
use Rattle.xv_guest.specs.Guest.{Guest, lone_of, with_machine}
use Rattle.xv_host.specs.Change.{time_of}
use Rattle.xv_host.proofs.TurnLemmas.{guest_back, pieces_are, turned_is, trail_is, ending_is}
use Rattle.xv_host.proofs.turn.turn_of.Goals as goal

pub returns-clause-guest : goal.returns-clause-guest
returns-clause-guest g c =
    let guest = c.args.guest.now in
    let h = c.args.vcpu in
    let v = c.run-progress.new.view in
    let run = c.run-progress.new in
    let now = run.machine in
    let progress = c.run-progress.result in
    let t = time_of guest c.args.clock in
    c.finish.ensures
    ∙ guest_back guest h t v c.args.machine.now.mem run.guest (regs_of now.hart) now.mem
    (trail_of now.hart) progress c.run-progress.ensures.leaves
    ∙ ap (with_machine guest) (turned_is guest h t v c.args.machine.now.mem run.guest
    (regs_of now.hart) now.mem (trail_of now.hart) progress
    c.run-progress.ensures.turn)

pub returns-clause-machine : goal.returns-clause-machine
returns-clause-machine g c =
    let guest = c.args.guest.now in
    let h = c.args.vcpu in
    let v = c.run-progress.new.view in
    let run = c.run-progress.new in
    let now = run.machine in
    ap (λ (x : Guest). lone_of x now.mem) c.finish.ensures
    ∙ turned_is guest h (time_of guest c.args.clock) v c.args.machine.now.mem run.guest
    (regs_of now.hart) now.mem (trail_of now.hart)
    c.run-progress.result c.run-progress.ensures.turn

pub returns-clause-ending : goal.returns-clause-ending
returns-clause-ending g c =
    let guest = c.args.guest.now in
    let run = c.run-progress.new in
    let now = run.machine in
    c.end_of.ensures
    ∙ ending_is guest c.args.vcpu (time_of guest c.args.clock) c.run-progress.new.view
    c.args.machine.now.mem run.guest (regs_of now.hart) now.mem (trail_of now.hart)
    c.run-progress.result c.run-progress.ensures.turn
    c.run-progress.ensures.view

pub returns-clause-trail : goal.returns-clause-trail
returns-clause-trail g c =
    let guest = c.args.guest.now in
    let run = c.run-progress.new in
    let now = run.machine in
    trail_is guest c.args.vcpu (time_of guest c.args.clock) c.run-progress.new.view
    c.args.machine.now.mem run.guest (regs_of now.hart) now.mem (trail_of now.hart)
    c.run-progress.result c.run-progress.ensures.turn

pub returns-clause-pieces : goal.returns-clause-pieces
returns-clause-pieces g c =
    let guest = c.args.guest.now in
    let run = c.run-progress.new in
    let now = run.machine in
    pieces_are guest.plan c.args.vcpu (time_of guest c.args.clock)
    (lone_of guest c.args.machine.now.mem) (trail_of now.hart)
    (trail_is guest c.args.vcpu (time_of guest c.args.clock) c.run-progress.new.view
    c.args.machine.now.mem run.guest (regs_of now.hart) now.mem (trail_of now.hart)
    c.run-progress.result c.run-progress.ensures.turn)
