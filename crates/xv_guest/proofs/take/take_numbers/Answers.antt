use Rattle.std.proofs.Common.{◌≡◌, ℕ, ◌++◌, true, List, drop, slice_set, sym, ap, ◌∙◌}
use Rattle.xv_base.specs.declared.keys.Span.{Span}
use Rattle.xv_pool.specs.Resources.{Resources}
use Rattle.xv_region.specs.Need.{need}
use Rattle.xv_guest.specs.Frames.{reserved_ranges}
use Rattle.xv_guest.specs.Take.{least_root}
use Rattle.xv_guest.proofs.TakeLemmas.{least_is}
use Rattle.xv_guest.proofs.take.take_numbers.Goals as goal

with_ranges : Resources → List Span → Resources
with_ranges pool ranges = record pool { held = pool.held ++ ranges }

without : Resources → ℕ → Resources
without pool n = record pool { free = drop n pool.free }

with_root : Resources → ℕ → Resources
with_root pool root = record pool { roots = slice_set pool.roots root true }

pub returns-clause-root : goal.returns-clause-root
returns-clause-root c =
    sym (least_is c.args.pool.now.roots c.in-Ok.root c.in-Ok.ensures.root.1 c.in-Ok.ensures.least)

pub returns-clause-pool : goal.returns-clause-pool
unfolding with_ranges without with_root
returns-clause-pool c =
    let ranges = reserved_ranges c.regions-regions.result.now in
    let first = c.args.pool.now in
    let least = least_root first.roots in
    let root = least_is first.roots c.in-Ok.root c.in-Ok.ensures.root.1 c.in-Ok.ensures.least in
    let taken : c.take_root.new.self ≡ with_root first c.in-Ok.root = c.in-Ok.ensures.taken in
    let left : c.take_n.new.self ≡ without c.take_root.new.self c.need.result =
    c.in-Ok-take_n.ensures.others in
    c.take_ranges.ensures
    ∙ ap (λ (pool : Resources). with_ranges pool ranges) left
    ∙ ap (λ (pool : Resources). with_ranges (without pool c.need.result) ranges) taken
    ∙ ap (λ (n : ℕ). with_ranges (without (with_root first n) c.need.result) ranges) (sym root)
    ∙ ap (λ (n : ℕ). with_ranges (without (with_root first least) n) ranges) c.need.ensures.count
    ∙ ap (λ regions. with_ranges (without (with_root first least) (need c.args.map.now))
    (reserved_ranges regions)) c.regions-regions.ensures.value
