-- What an answer unfolds to show a register as a read does.
use Rattle.std.specs.Prelude.{⊤}
use Rattle.xv_bus.specs.Plic.{plic_shown, plic_after_read}

unfoldable pub read : ⊤
unfolding plic_shown plic_after_read
read = tt
