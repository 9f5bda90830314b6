use Rattle.std.proofs.Common.{◌≡◌, ◌+◌, ◌∷◌, [], ◌++◌, length, Ok, subst, ◌∙◌, arith}
use Rattle.std.proofs.lemmas.Result.{err_from_is_err_and}
use Rattle.xv_fdt.specs.Fault.{Fails}
use Rattle.xv_fdt.specs.Grammar as grammar
use Rattle.xv_fdt.specs.Token as spec
use Rattle.xv_fdt.specs.Progress.{taken_in, with_front, tokens_inside}
use Rattle.xv_fdt.proofs.NodeLemmas.{children-more, children-child_end, children-below_end}
use Rattle.xv_fdt.proofs.NodeLemmas.{children-done, children-stray_end}
use Rattle.xv_fdt.proofs.TokenLemmas.{tokens-at}
use Rattle.xv_fdt.proofs.nodes.+children.Goals as goal

pub returns-in_err-node-in-Begin-clause-exact : goal.returns-in_err-node-in-Begin-clause-exact
returns-in_err-node-in-Begin-clause-exact t c =
    let p = err_from_is_err_and c.from_residual.result c.from_residual.ensures.1 in
    let structure = c.args.blocks.now.structure.now in
    let strings = c.args.blocks.now.strings.now in
    let place = c.next_token-mark.result.1 in
    rw (p.1, p.2)
    (children-child_end c.in_err-node-in-Begin.field-0.0 c.loop-nodes.nodes.items c.args.parent
    c.args.depth (taken_in c.loop-nodes.names) place (spec.name_at structure place)
    (spec.tokens structure strings c.loop-nodes.at) (spec.tokens structure strings place)
    (tokens_inside c.args.blocks.now place) _
    (c.next_token-mark.ensures.same strings)
    (tokens-at structure strings place _ (c.next_token-mark.ensures.mark ∙ c.in-Begin.is))
    c.in_err-node-in-Begin.ensures.exact c.loop-nodes.invariant.so_far)

pub returns-in_err-at-in-Begin-clause-exact : goal.returns-in_err-at-in-Begin-clause-exact
returns-in_err-at-in-Begin-clause-exact t c =
    let p = err_from_is_err_and c.from_residual-in_err-at-in-Begin.result
    c.from_residual-in_err-at-in-Begin.ensures.1 in
    let structure = c.args.blocks.now.structure.now in
    let strings = c.args.blocks.now.strings.now in
    let place = c.next_token-mark.result.1 in
    let e = c.in_err-at-in-Begin.field-0.0 in
    let inside = spec.tokens structure strings c.in_ok-node-in-Begin.inside in
    let below = c.in_err-at-in-Begin.ensures.exact in
    rw (p.1, p.2)
    (children-below_end e c.loop-nodes.nodes.items c.args.parent c.args.depth
    (taken_in c.loop-nodes.names) place (spec.name_at structure place)
    c.in_ok-node-in-Begin.node
    (spec.tokens structure strings c.loop-nodes.at) (spec.tokens structure strings place)
    (tokens_inside c.args.blocks.now place) inside _
    (c.next_token-mark.ensures.same strings)
    (tokens-at structure strings place _ (c.next_token-mark.ensures.mark ∙ c.in-Begin.is))
    c.in_ok-node-in-Begin.ensures.exact
    (subst (λ number. Fails e
    (with_front (c.loop-nodes.nodes.items ++ c.in_ok-node-in-Begin.node ∷ [])
    (grammar.children (length (c.loop-nodes.nodes.items ++ c.in_ok-node-in-Begin.node ∷ []))
    number (c.args.depth + 1) grammar.nobody inside)))
    (c.len-number.ensures ∙ c.loop-nodes.nodes.ok.0)
    (subst (λ items. Fails e
    (with_front items
    (grammar.children (length items) c.len-number.result (c.args.depth + 1)
    grammar.nobody inside)))
    c.in_ok-push-in-Begin.ensures.items below))
    c.loop-nodes.invariant.so_far)

pub loop-nodes-preserved : goal.loop-nodes-preserved
loop-nodes-preserved t c =
    let structure = c.args.blocks.now.structure.now in
    let strings = c.args.blocks.now.strings.now in
    let place = c.next_token-mark.result.1 in
    let now = c.children.new.nodes.items in
    let inside = spec.tokens structure strings c.in_ok-node-in-Begin.inside in
    let next = spec.tokens structure strings c.in_ok-at-in-Begin.at in
    let below = c.in_ok-at-in-Begin.ensures.exact in
    record {
      near = c.in_ok-at-in-Begin.ensures.near;
      forward = omega (
        arith,
        c.in_ok-at-in-Begin.ensures.forward,
        c.in_ok-node-in-Begin.ensures.forward,
        c.next_token-mark.ensures.forward,
        c.loop-nodes.invariant.forward,
      );
      few = c.in_ok-at-in-Begin.ensures.few;
      so_far =
          children-more c.loop-nodes.nodes.items now c.args.parent c.args.depth
          (taken_in c.loop-nodes.names) (taken_in c.child.new.names) place
          (spec.name_at structure place) c.in_ok-node-in-Begin.node
          (spec.tokens structure strings c.loop-nodes.at) (spec.tokens structure strings place)
          (tokens_inside c.args.blocks.now place) inside next _
          (c.next_token-mark.ensures.same strings)
          (tokens-at structure strings place _ (c.next_token-mark.ensures.mark ∙ c.in-Begin.is))
          c.in_ok-node-in-Begin.ensures.exact c.in_ok-node-in-Begin.ensures.taken
          (subst (λ number. with_front (c.loop-nodes.nodes.items ++ c.in_ok-node-in-Begin.node ∷ [])
          (grammar.children
          (length (c.loop-nodes.nodes.items ++ c.in_ok-node-in-Begin.node ∷ [])) number
          (c.args.depth + 1) grammar.nobody inside) ≡ Ok (now, next))
          (c.len-number.ensures ∙ c.loop-nodes.nodes.ok.0)
          (subst (λ items. with_front items
          (grammar.children (length items) c.len-number.result (c.args.depth + 1) grammar.nobody
          inside) ≡ Ok (now, next))
          c.in_ok-push-in-Begin.ensures.items below))
          c.loop-nodes.invariant.so_far;
    }

pub returns-in-EndNode-clause-exact : goal.returns-in-EndNode-clause-exact
returns-in-EndNode-clause-exact t c =
    let structure = c.args.blocks.now.structure.now in
    let strings = c.args.blocks.now.strings.now in
    let place = c.next_token-mark.result.1 in
    children-done c.loop-nodes.nodes.items _ _ _ _ place
    (spec.tokens structure strings c.loop-nodes.at) (spec.tokens structure strings place)
    (spec.tokens structure strings (place + 4)) _
    (c.next_token-mark.ensures.same strings)
    (tokens-at structure strings place _ (c.next_token-mark.ensures.mark ∙ c.in-EndNode.is))
    c.loop-nodes.invariant.so_far

pub returns-in_default : goal.returns-in_default
returns-in_default t c =
    let structure = c.args.blocks.now.structure.now in
    let strings = c.args.blocks.now.strings.now in
    let place = c.next_token-mark.result.1 in
    let stray =
    children-stray_end c.loop-nodes.nodes.items _ _ _ _ structure strings place
    c.next_token-mark.result.0 (spec.tokens structure strings c.loop-nodes.at) _
    c.next_token-mark.ensures.mark c.in_default.not-Begin c.in_default.not-EndNode
    c.next_token-mark.ensures.solid
    (c.next_token-mark.ensures.same strings) c.loop-nodes.invariant.so_far in
    record {
      exact = rw (c.fault.ensures, c.stray_child_kind.ensures) stray;
      few = tt;
      forward = tt;
      near = tt;
    }
