use Rattle.std.proofs.Common.{sym, ◌∙◌}
use Rattle.xv_tree.specs.Children.{children}
use Rattle.xv_tree.proofs.PlanLemmas.{vcpus-all, vcpus-ninth, vcpus-none}
use Rattle.xv_tree.proofs.StartLemmas.{gives_starts}
use Rattle.xv_tree.proofs.vcpus.vcpus_of.Goals as goal

pub returns-in_default-clause-exact : goal.returns-in_default-clause-exact
returns-in_default-clause-exact c =
    vcpus-none (children c.args.parent c.args.nodes.now)
    (sym c.in_default.is ∙ c.child_at.ensures.number)

pub returns-in-Some-child_at-clause-exact : goal.returns-in-Some-child_at-clause-exact
returns-in-Some-child_at-clause-exact c =
    vcpus-ninth (children c.args.parent c.args.nodes.now) c.in-Some.field-0
    c.in-Some-child_at.ninth
    (sym c.in-Some.is ∙ c.child_at.ensures.number)
    (sym c.in-Some-child_at.is ∙ c.child_at-2.ensures.number)

pub returns-clause-exact : goal.returns-clause-exact
returns-clause-exact c =
    rw (
    vcpus-all (children c.args.parent c.args.nodes.now) c.in-Some.field-0
    (sym c.in-Some.is ∙ c.child_at.ensures.number)
    (sym c.in_default-child_at.is ∙ c.child_at-2.ensures.number)
    ) c.all_vcpus.ensures.exact

pub returns-clause-starts : goal.returns-clause-starts
returns-clause-starts c =
    gives_starts (λ vcpus. vcpus.items) c.all_vcpus.result
    (children c.args.parent c.args.nodes.now) c.all_vcpus.ensures.exact
