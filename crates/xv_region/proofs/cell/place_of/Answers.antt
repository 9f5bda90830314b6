use Rattle.std.proofs.Common.{◌≡◌, ℕ, ◌≤◌, ◌-◌, true, sym, ◌∙◌, arith}
use Rattle.std.proofs.lemmas.Bool.Decides.{nat_tests}
use Rattle.xv_region.specs.declared.plan.Region.{Region}
use Rattle.xv_region.specs.Cell.{bytes_at, holds}
use Rattle.xv_region.proofs.CellLemmas.{cell-found, cell-none, found-base, found-holds}
use Rattle.xv_region.proofs.CellLemmas.{found-within}
use Rattle.xv_region.proofs.RuleLemmas.{accepted-reached}
use Rattle.xv_region.proofs.cell.place_of.Goals as goal

pub returns-in_default-clause-none : goal.returns-in_default-clause-none
returns-in_default-clause-none c =
    λ hop. cell-none hop c.args.gpa c.args.len c.args.regions.now (sym c.holder_of.ensures
    ∙ c.in_default.is)

pub overflow_sub-result : goal.overflow_sub-result
overflow_sub-result c =
    found-base c.args.gpa c.args.len c.args.regions.now c.in-Some.number
    c.index-regions-number.result (sym c.holder_of.ensures ∙ c.in-Some.is) c.index-regions-number.is

pub returns-clause-found : goal.returns-clause-found
returns-clause-found c =
    λ hop. cell-found hop c.args.gpa c.args.len c.args.regions.now c.in-Some.number
    c.index-regions-number.result (sym c.holder_of.ensures ∙ c.in-Some.is) c.index-regions-number.is

inside : (a n : ℕ) (r : Region) → holds (bytes_at a n) r ≡ true → a - r.base ≤ r.size
inside a n r is = grind (arith, nat_tests)

pub returns-clause-reached : goal.returns-clause-reached
returns-clause-reached c = λ accepted.
    let found = sym c.holder_of.ensures ∙ c.in-Some.is in
    let region = c.index-regions-number.result in
    let here = found-holds c.args.gpa c.args.len c.args.regions.now c.in-Some.number region found
    c.index-regions-number.is in
    accepted-reached c.args.regions.now c.in-Some.number (c.args.gpa - region.base) region accepted
    (found-within c.args.gpa c.args.len c.args.regions.now c.in-Some.number region found)
    c.index-regions-number.is (inside c.args.gpa c.args.len region here)
