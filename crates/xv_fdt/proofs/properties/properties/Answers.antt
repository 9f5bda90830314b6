use Rattle.std.proofs.Common.{ap, ◌∙◌, arith}
use Rattle.std.proofs.lemmas.Result.{err_from_is_err_and}
use Rattle.xv_fdt.specs.Grammar as grammar
use Rattle.xv_fdt.specs.Token as spec
use Rattle.xv_fdt.specs.Progress.{taken_in, with_front}
use Rattle.xv_fdt.proofs.PropertyLemmas.{properties-more, properties-end, properties-done}
use Rattle.xv_fdt.proofs.TokenLemmas.{tokens-at}
use Rattle.xv_fdt.proofs.properties.properties.Goals as goal

pub returns-in_err-prop-in-Prop-clause-exact : goal.returns-in_err-prop-in-Prop-clause-exact
returns-in_err-prop-in-Prop-clause-exact c =
    let p = err_from_is_err_and c.from_residual.result c.from_residual.ensures.1 in
    let structure = c.args.blocks.now.structure.now in
    let strings = c.args.blocks.now.strings.now in
    let place = c.next_token-mark.result.1 in
    rw (p.1, p.2)
    (properties-end c.in_err-prop-in-Prop.field-0.0 c.loop-names.props.items
    (taken_in c.loop-names.names) place (spec.property_at structure strings place)
    (spec.tokens structure strings c.loop-names.at) (spec.tokens structure strings place) _ _
    (c.next_token-mark.ensures.same strings)
    (tokens-at structure strings place _ (c.next_token-mark.ensures.mark ∙ c.in-Prop.is))
    c.in_err-prop-in-Prop.ensures.exact c.loop-names.invariant.so_far)

pub loop-names-preserved : goal.loop-names-preserved
loop-names-preserved c =
    let structure = c.args.blocks.now.structure.now in
    let strings = c.args.blocks.now.strings.now in
    let place = c.next_token-mark.result.1 in
    let next = c.in_ok-prop-in-Prop.next in
    let found = c.in_ok-prop-in-Prop.ensures in
    record {
      near = found.near;
      forward = omega
          (arith, found.forward, c.next_token-mark.ensures.forward, c.loop-names.invariant.forward);
      so_far =
          ap (λ items. with_front items
          (grammar.properties (taken_in c.property.new.names)
          (spec.tokens structure strings next))) c.in_ok-push-in-Prop.ensures.items
          ∙ properties-more c.loop-names.props.items (taken_in c.loop-names.names)
          (taken_in c.property.new.names) place (spec.property_at structure strings place)
          c.in_ok-prop-in-Prop.prop
          (spec.tokens structure strings c.loop-names.at) (spec.tokens structure strings place)
          (spec.tokens structure strings next) _
          (c.next_token-mark.ensures.same strings) found.behind found.exact found.taken
          c.loop-names.invariant.so_far;
    }

pub returns-in_default : goal.returns-in_default
returns-in_default c =
    let structure = c.args.blocks.now.structure.now in
    let strings = c.args.blocks.now.strings.now in
    let place = c.next_token-mark.result.1 in
    record {
      exact =
          properties-done c.loop-names.props.items (taken_in c.loop-names.names) structure strings
          place c.next_token-mark.result.0 (spec.tokens structure strings c.loop-names.at) _
          c.next_token-mark.ensures.mark c.in_default.not-Prop c.next_token-mark.ensures.solid
          (c.next_token-mark.ensures.same strings) c.loop-names.invariant.so_far;
      forward = omega arith;
      near = omega arith;
    }
