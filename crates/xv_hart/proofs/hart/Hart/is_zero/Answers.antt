use Rattle.std.proofs.Common.{◌∙◌, sym, ap}
use Rattle.std.proofs.lemmas.Bool.Decides.{Decides-eqb}
use Rattle.xv_hart.proofs.ZeroLemmas.{hart_zero}
use Rattle.xv_hart.proofs.hart.Hart.is_zero.Goals as goal
use Rattle.xv_hart.proofs.hart.Hart.is_zero.Goals.{then-is_zero, else-is_zero}

pub returns-then-self-eq0 : goal.returns-then-self-eq0
returns-then-self-eq0 c =
    let h = c.args.self.now in
    let room = Decides-eqb c.room.result 0 in
    elim c.if-is_zero.branch [
      | then-is_zero w ↦ (
        λ none. hart_zero h (c.is_zero.ensures.0 w.if-is_zero.true)
            ((Decides-eqb h.steps_taken 0).0 (sym w.value-is ∙ c.if-self-eq0.true))
            c.room.ensures.within (sym c.room.ensures.room ∙ room.0 none),
        λ zero. room.1 (c.room.ensures.room ∙ ap (λ h. h.trail.room) zero),
      )
      | else-is_zero w ↦ (λ none. cc, λ zero. cc)
    ]
