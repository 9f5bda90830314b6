-- Host memory, as the steps of one guest change it.
use Rattle.std.specs.Prelude.{◌≡◌, ℕ, ◌+◌, ◌*◌, ◌<◌, ◌≤◌, List, Some}
use Rattle.xv_gstage.specs.Own.{frame_of}
use Rattle.xv_guest.specs.Held.{Held, IsHeld, Within}

-- so many bytes, of which there are some, from a host address on stand in one frame under a region
-- of the guest
pub record StandsIn (g : Held) (width at : ℕ) : Type 0 where
  pub some : 0 < width
  pub region : ℕ
  pub index : ℕ
  pub frame : ℕ
  pub offset : ℕ
  pub under : frame_of g.regions g.frames region index ≡ Some frame
  pub place : at ≡ 4096 * frame + offset
  pub fits : offset + width ≤ 4096

-- the guest is held, and nothing else has changed
pub record IsGoodFor (g : Held) (first bytes : List ℕ) : Type 0 where
  pub held : IsHeld bytes g
  pub within : Within g first bytes
