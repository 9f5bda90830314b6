use Rattle.std.proofs.Common.{◌≡◌, List, ◌∷◌, ◌++◌, [], length, Ok, subst, ap, ◌∙◌}
use Rattle.std.proofs.lemmas.Result.{err_from_is_err_and}
use Rattle.xv_fdt.specs.Fault.{Fails}
use Rattle.xv_fdt.specs.Grammar as grammar
use Rattle.xv_fdt.specs.Token as spec
use Rattle.xv_fdt.specs.Tree.{Entry}
use Rattle.xv_fdt.specs.Progress.{with_front, tokens_inside}
use Rattle.xv_fdt.proofs.RootLemmas.{nodes_of-stray, nodes_of-whole, nodes_of-end}
use Rattle.xv_fdt.proofs.RootLemmas.{nodes_of-below_end, before_end-end, before_end-stray}
use Rattle.xv_fdt.proofs.TokenLemmas.{tokens-at}
use Rattle.xv_fdt.proofs.nodes.nodes_of.Goals as goal

-- the list of the first node alone
one : (none items : List Entry) (first : Entry) → none ≡ [] → items ≡ none ++ first ∷ []
    → items ≡ first ∷ []
one none items first empty pushed = pushed ∙ ap (λ es. es ++ first ∷ []) empty

pub returns-in_default : goal.returns-in_default
returns-in_default c =
    let structure = c.args.blocks.now.structure.now in
    let strings = c.args.blocks.now.strings.now in
    let place = c.next_token-mark.result.1 in
    rw (c.fault.ensures, c.stray_kind.ensures)
    (nodes_of-stray structure strings place c.next_token-mark.result.0
    (spec.tokens structure strings c.args.from)
    c.next_token-mark.ensures.mark c.in_default.not-Begin c.next_token-mark.ensures.solid
    (c.next_token-mark.ensures.same strings))

pub returns-in_err-first : goal.returns-in_err-first
returns-in_err-first c =
    let p = err_from_is_err_and c.from_residual.result c.from_residual.ensures.1 in
    let structure = c.args.blocks.now.structure.now in
    let strings = c.args.blocks.now.strings.now in
    let place = c.next_token-mark.result.1 in
    rw (p.1, p.2)
    (nodes_of-end c.in_err-first.field-0.0 place (spec.name_at structure place)
    (spec.tokens structure strings c.args.from) (spec.tokens structure strings place)
    (tokens_inside c.args.blocks.now place)
    (c.next_token-mark.ensures.same strings)
    (tokens-at structure strings place _ (c.next_token-mark.ensures.mark ∙ c.in-Begin.is))
    c.in_err-first.ensures.exact)

pub returns-in_err-next : goal.returns-in_err-next
returns-in_err-next c =
    let p = err_from_is_err_and c.from_residual-in_err-next.result
    c.from_residual-in_err-next.ensures.1 in
    let structure = c.args.blocks.now.structure.now in
    let strings = c.args.blocks.now.strings.now in
    let place = c.next_token-mark.result.1 in
    let e = c.in_err-next.field-0.0 in
    let inside = spec.tokens structure strings c.in_ok-first.inside in
    rw (p.1, p.2)
    (nodes_of-below_end e place (spec.name_at structure place) c.in_ok-first.first
    (spec.tokens structure strings c.args.from) (spec.tokens structure strings place)
    (tokens_inside c.args.blocks.now place) inside
    (c.next_token-mark.ensures.same strings)
    (tokens-at structure strings place _ (c.next_token-mark.ensures.mark ∙ c.in-Begin.is))
    c.in_ok-first.ensures.exact
    (subst (λ items. Fails e
    (with_front items (grammar.children (length items) 0 2 grammar.nobody inside)))
    (one c.new-nodes.result.items c.push.new.self.items c.in_ok-first.first
    c.new-nodes.ensures.items c.in_ok-push.ensures.items) c.in_err-next.ensures.exact))

pub returns-in_default-mark : goal.returns-in_default-mark
returns-in_default-mark c =
    let structure = c.args.blocks.now.structure.now in
    let strings = c.args.blocks.now.strings.now in
    let place = c.next_token-mark.result.1 in
    let now = c.children.new.nodes.items in
    let inside = spec.tokens structure strings c.in_ok-first.inside in
    let next = spec.tokens structure strings c.in_ok-next.next in
    rw (c.fault-in_default-mark.ensures, c.stray_kind-in_default-mark.ensures)
    (nodes_of-whole place (spec.name_at structure place) c.in_ok-first.first now
    (spec.tokens structure strings c.args.from) (spec.tokens structure strings place)
    (tokens_inside c.args.blocks.now place) inside next
    (c.next_token-mark.ensures.same strings)
    (tokens-at structure strings place _ (c.next_token-mark.ensures.mark ∙ c.in-Begin.is))
    c.in_ok-first.ensures.exact
    (subst (λ items. with_front items (grammar.children (length items) 0 2 grammar.nobody inside)
    ≡ Ok (now, next))
    (one c.new-nodes.result.items c.push.new.self.items c.in_ok-first.first
    c.new-nodes.ensures.items c.in_ok-push.ensures.items) c.in_ok-next.ensures.exact)
    ∙ before_end-stray now structure strings c.next_token-mark-2.result.1
    c.next_token-mark-2.result.0 next
    c.next_token-mark-2.ensures.mark c.in_default-mark.not-End c.next_token-mark-2.ensures.solid
    (c.next_token-mark-2.ensures.same strings))

pub returns : goal.returns
returns c =
    let structure = c.args.blocks.now.structure.now in
    let strings = c.args.blocks.now.strings.now in
    let place = c.next_token-mark.result.1 in
    let now = c.children.new.nodes.items in
    let inside = spec.tokens structure strings c.in_ok-first.inside in
    let next = spec.tokens structure strings c.in_ok-next.next in
    nodes_of-whole place (spec.name_at structure place) c.in_ok-first.first now
    (spec.tokens structure strings c.args.from) (spec.tokens structure strings place)
    (tokens_inside c.args.blocks.now place) inside next
    (c.next_token-mark.ensures.same strings)
    (tokens-at structure strings place _ (c.next_token-mark.ensures.mark ∙ c.in-Begin.is))
    c.in_ok-first.ensures.exact
    (subst (λ items. with_front items (grammar.children (length items) 0 2 grammar.nobody inside)
    ≡ Ok (now, next))
    (one c.new-nodes.result.items c.push.new.self.items c.in_ok-first.first
    c.new-nodes.ensures.items c.in_ok-push.ensures.items) c.in_ok-next.ensures.exact)
    ∙ before_end-end now structure strings c.next_token-mark-2.result.1 next
    (c.next_token-mark-2.ensures.mark ∙ c.in-End.is) (c.next_token-mark-2.ensures.same strings)
