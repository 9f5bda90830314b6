-- The values that an access may have.
use Rattle.std.specs.Prelude.{ℕ, ◌*◌, ◌^◌, ◌<◌}
use Rattle.xv_bus.specs.declared.access.Access.{Access}
use Rattle.xv_bus.specs.declared.access.Access.TheVariants.{Load, Store}
use Rattle.xv_bus.specs.declared.access.Width.{Width}
use Rattle.xv_bus.specs.declared.access.Width.TheVariants.{W1, W2, W4, W8}

abbrev pub width_bytes : Width → ℕ
width_bytes W1 = 1
width_bytes W2 = 2
width_bytes W4 = 4
width_bytes W8 = 8

-- what is stored has no more bytes than the access
abbrev pub Fits : Access → Type 0
Fits (Load width) = Unit {0}
Fits (Store width value) = value < 2 ^ (8 * width_bytes width)
