-- What an answer unfolds to compute the values under which a guest runs, whose flags the tables
-- write out.
use Rattle.std.specs.Prelude.{⊤}
use Rattle.bitflags.proofs.OnLiterals.{bitflags_on_literals}
use Rattle.xv_hcsr.specs.Guest.{guest_hcsrs}

unfoldable pub guest_values : ⊤
unfolding guest_hcsrs bitflags_on_literals
guest_values = tt
