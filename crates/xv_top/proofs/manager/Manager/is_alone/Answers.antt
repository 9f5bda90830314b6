use Rattle.std.proofs.Common.{◌≡◌, ◌∙◌, true, false, is_some, sym, ap}
use Rattle.std.proofs.lemmas.Bool.{cond-true, cond-false}
use Rattle.xv_top.specs.Answer.{says}
use Rattle.xv_top.specs.Manager.{world_of}
use Rattle.xv_top.specs.World.{guest_named}
use Rattle.xv_top.proofs.HostLemmas.{live_some, live_none, some_guests}
use Rattle.xv_top.proofs.manager.Manager.is_alone.Goals as goal

pub returns-then-is_some-clause-refused : goal.returns-then-is_some-clause-refused
returns-then-is_some-clause-refused c _ bytes next =
    let m = c.args.self.now in
    let name = c.args.name.now in
    let w = world_of m bytes in
    let used : is_some (guest_named name w) ≡ true =
    ap is_some (c.key_of.ensures.guest bytes)
    ∙ live_some m name c.key_of.result bytes c.requires.guests c.key_of.ensures.named
    (sym c.is_some.ensures ∙ c.if-is_some.true) in
    cond-true (is_some (guest_named name w)) _ _ used ∙ ap (says w) (sym c.refused.ensures)

pub returns-then-is_some-2-clause-refused : goal.returns-then-is_some-2-clause-refused
returns-then-is_some-2-clause-refused c _ bytes next =
    let m = c.args.self.now in
    let name = c.args.name.now in
    let w = world_of m bytes in
    let new : is_some (guest_named name w) ≡ false =
    ap is_some (c.key_of.ensures.guest bytes)
    ∙ live_none name m.last c.key_of.result m.host.guests bytes
    (sym c.is_some.ensures ∙ c.if-is_some.false) in
    cond-false (is_some (guest_named name w)) _ _ new
    ∙ (cond-true _ _ _ (some_guests m.guest m.last m.host.guests bytes c.requires.guests
    (sym c.is_some-2.ensures ∙ c.if-is_some-2.true))
    ∙ ap (says w) (sym c.refused-then-is_some-2.ensures))
