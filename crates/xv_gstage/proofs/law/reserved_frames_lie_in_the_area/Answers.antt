use Rattle.xv_gstage.proofs.ReservedLemmas.{reserved-in}
use Rattle.xv_gstage.proofs.law.reserved_frames_lie_in_the_area.Goals as goal

pub returns : goal.returns
returns c = λ area regions frame sound faultless. reserved-in area regions sound faultless frame
