use Rattle.std.proofs.Common.{◌+◌, ◌<◌, List, length, get_or, set, slice_get, sym, ap, ◌∙◌, arith}
use Rattle.std.proofs.Common.{refl, cond}
use Rattle.std.proofs.lemmas.Option.{slice_get-get_or}
use Rattle.xv_lone.specs.Calls.{signalled}
use Rattle.xv_lone.specs.Vcpu.{reset_vcpu}
use Rattle.xv_lone.specs.declared.vcpu.VcpuView.{VcpuView}
use Rattle.xv_sbi.specs.Mask.{names}
use Rattle.xv_guest.specs.Guest.{Guest}
use Rattle.xv_firmware.proofs.CallLemmas.{signals_all, signals_length, signals_none, signals_one}
use Rattle.xv_firmware.proofs.reply.signal_each.Goals as goal

pub loop-number-init : goal.loop-number-init
loop-number-init c = record {
  signalled = ap (λ (vs : List VcpuView). record c.args.guest.now { vcpus = vs })
      (sym (signals_none c.args.mask c.args.base 0 c.args.guest.now.vcpus));
}

pub signal_one-requires : goal.signal_one-requires
signal_one-requires c = record {
  number = omega (
    arith,
    c.loop-number-test.true,
    ap (λ (g : Guest). length g.vcpus) c.loop-number.invariant.signalled,
    signals_length c.args.mask c.args.base 0 c.loop-number.number c.args.guest.now.vcpus,
    c.vcpu_count-number-end.ensures.count,
  );
}

pub loop-number-preserved : goal.loop-number-preserved
loop-number-preserved c =
    let g = c.args.guest.now in
    let mask = c.args.mask in
    let base = c.args.base in
    let i = c.loop-number.number in
    let xs = c.loop-number.guest.vcpus in
    let same = c.loop-number.invariant.signalled in
    let within : i < length xs = omega (
      arith,
      c.loop-number-test.true,
      ap (λ (x : Guest). length x.vcpus) same,
      signals_length mask base 0 i g.vcpus,
      c.vcpu_count-number-end.ensures.count,
    ) in
    let v = get_or xs i (reset_vcpu 0) in
    let at = slice_get-get_or xs i (reset_vcpu 0) within in
    let w = cond (names mask base i) (signalled v) v in
    record {
      signalled = c.signal_one.ensures v at
          ∙ (ap (λ (x : Guest). record x { vcpus = set x.vcpus i w }) same
          ∙ ap (λ (vs : List VcpuView). record g { vcpus = vs })
          (signals_one mask base i (i + 1) g.vcpus v refl
          (sym (ap (λ (x : Guest). slice_get x.vcpus i) same) ∙ at)));
    }

pub returns-clause-signalled : goal.returns-clause-signalled
returns-clause-signalled c =
    let g = c.args.guest.now in
    c.loop-number.invariant.signalled
    ∙ ap (λ (vs : List VcpuView). record g { vcpus = vs })
    (signals_all c.args.mask c.args.base 0 c.loop-number.number g.vcpus
    (omega (
      arith,
      c.loop-number-test.false,
      c.loop-number.auto.number-end,
      c.vcpu_count-number-end.ensures.count,
    )))

pub returns-clause-count : goal.returns-clause-count
returns-clause-count c =
    ap (λ (x : Guest). length x.vcpus) c.loop-number.invariant.signalled
    ∙ signals_length c.args.mask c.args.base 0 c.loop-number.number c.args.guest.now.vcpus
