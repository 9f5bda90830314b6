use Rattle.std.proofs.Common.{sym, subst, ap, ◌∙◌}
use Rattle.std.proofs.Math.Seq.{map-set_same}
use Rattle.xv_lone.specs.Device.{Absent, Devices, Uart}
use Rattle.xv_guest.specs.Devices.{IsUart, shape_of}
use Rattle.xv_guest.specs.Guest.{Guest}
use Rattle.xv_guest.proofs.guest.Guest.uart_mut.Goals as goal

-- a UART that is lent stays one
pub invariant_of-self-lent : goal.invariant_of-self-lent
invariant_of-self-lent c = λ last.
    let ds = c.self.inside.devices.items in
    let P : Devices → Type 0 = λ xs. IsUart xs c.args.region in
    let uart = subst P (sym (ap (λ (g : Guest). g.devices) c.self.view_is)) c.requires.uart in
    record {
      map = c.self.invariant.map;
      starts = c.self.invariant.starts;
      count = c.self.invariant.count;
      few = c.self.invariant.few;
      views = c.self.invariant.views;
      nothing = c.self.invariant.nothing;
      devices = map-set_same shape_of ds c.args.region (Uart last) Absent (sym uart)
          ∙ c.self.invariant.devices;
      controller = c.self.invariant.controller;
      room = c.self.invariant.room;
    }
