-- Bytes as a line of text shows them, computed.
use Rattle.std.proofs.Common.{◌≡◌, refl, [], ◌∷◌}
use Rattle.std.specs.Prelude.{codes, map}
use Rattle.xv_base.specs.Text as X
use Rattle.xv_print.specs.Escape.{escaped}

-- the least and the greatest byte that stands for itself
plain : map escaped (0x20 ∷ 0x41 ∷ 0x7E ∷ []) ≡ codes " " ∷ codes "A" ∷ codes "~" ∷ []
unfolding escaped X.hex_digits
plain = refl

-- a line feed, a backslash, all bits, and the neighbours of the bytes that stand for themselves
others : map escaped (0x0A ∷ 0x5C ∷ 0xFF ∷ 0x1F ∷ 0x7F ∷ [])
    ≡ map (λ digits. 0x5C ∷ digits) (codes "x0a" ∷ codes "x5c" ∷ codes "xff" ∷ codes "x1f"
    ∷ codes "x7f" ∷ [])
unfolding escaped X.hex_digits
others = refl
