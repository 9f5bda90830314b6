use Rattle.std.proofs.Common.{refl, ◌∙◌}
use Rattle.xv_host.proofs.TableLemmas.{lend_values, named_value}
use Rattle.xv_host.proofs.table.Table.value_mut.Goals as goal

pub returns : goal.returns
returns g c = (
  (
    refl,
    λ w. rw (← c.self.view_is, ← c.key.view_is)
        (lend_values c.self.inside.values c.self.inside.places c.key.inside.0 c.in-Some.at w
        c.self.invariant c.key.invariant c.in-Some.is),
  ),
  record {
    lends = tt;
    value = rw (← c.self.view_is, ← c.key.view_is) (named_value c.self.inside.values
        c.self.inside.places c.key.inside.0 c.in-Some.at c.self.invariant c.key.invariant
        c.in-Some.is ∙ c.index_mut.ensures.value);
  },
)
