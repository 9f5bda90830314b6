use Rattle.std.proofs.Common.{◌≡◌, ℕ, ◌-◌, suc, Bool, false, length, get_or, drop, refl, sym}
use Rattle.std.proofs.Common.{ap, ◌∙◌, subst, arith}
use Rattle.xv_base.specs.Bits.{has_bit}
use Rattle.xv_lone.specs.Device.{line_of, source_of, sources_up, with_source}
use Rattle.xv_guest.proofs.DeviceLemmas.{kind_at, no_sources, source_clear, sources_more}
use Rattle.xv_guest.proofs.device_list.sources_up.Goals as goal

pub loop-left-init : goal.loop-left-init
loop-left-init c = record {
  most = omega arith;
  sources = no_sources c.args.regions.now (drop (length c.args.regions.now) c.args.devices.now);
  no_source = refl;
}

pub source_of-source-requires : goal.source_of-source-requires
source_of-source-requires c =
    kind_at c.args.regions.now (c.loop-left.left - 1) c.index-regions-left.result
    c.requires.sound (omega (arith, c.loop-left-test.true, c.loop-left.invariant.most))

pub loop-left-preserved : goal.loop-left-preserved
loop-left-preserved c =
    let rs = c.args.regions.now in
    let ds = c.args.devices.now in
    let k = c.loop-left.left - 1 in
    let r = c.index-regions-left.result in
    let d = c.index-devices-left.result in
    let source = c.source_of-source.result in
    let next : c.loop-left.left ≡ suc (c.loop-left.left - 1) =
    omega (arith, c.loop-left-test.true) in
    let P : ℕ → Type 0 = λ sources. has_bit 0 sources ≡ false in
    record {
      most = omega (arith, c.loop-left.invariant.most);
      sources =
          c.with_source-sources.ensures
          ∙ ap (λ (n : ℕ). with_source n c.line.result c.loop-left.sources)
          c.source_of-source.ensures.source
          ∙ ap (λ (up : Bool). with_source (source_of (get_or rs k r).kind) up c.loop-left.sources)
          (c.line.ensures ∙ ap line_of c.index-devices-left.is)
          ∙ ap (with_source (source_of (get_or rs k r).kind) (line_of (get_or ds k d)))
          (c.loop-left.invariant.sources
          ∙ ap (λ (n : ℕ). sources_up (drop n rs) (drop n ds)) next)
          ∙ sources_more rs ds k r d
          (omega (arith, c.loop-left-test.true, c.loop-left.invariant.most)) c.requires.each;
      no_source = subst P (sym c.with_source-sources.ensures)
          (source_clear source c.line.result c.loop-left.sources c.loop-left.invariant.no_source);
    }
