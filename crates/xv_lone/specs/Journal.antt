-- What happens to a guest from outside, entry by entry. Nothing else changes its machine.
use Rattle.std.specs.Prelude.{ℕ, List, [], ◌∷◌, ◌++◌, length, Option, Some, None, option_map}
use Rattle.xv_step.specs.Bus.{Spot}
use Rattle.xv_region.specs.Plan.{Plan}
use Rattle.xv_lone.specs.Device.{after_input, device_dumped, on_device}
use Rattle.xv_lone.specs.Memory.{Place, spot_at, store_place}
use Rattle.xv_bus.specs.declared.access.Ending.TheVariants.{Command}
use Rattle.xv_lone.specs.Machine.{Machine, new_machine, guest_time, kicked, paused, resumed, halted}
use Rattle.xv_lone.specs.Machine.{reset_at}
use Rattle.xv_lone.specs.Turn.{turn}

-- what changes a guest's machine
pub data Change : Type 0 where
  -- these bytes put into its memory at a guest physical address
  Load : (gpa : ℕ) (bytes : List ℕ) → Change
  -- the start of its first VCPU
  Kick : Change
  Pause : Change
  Resume : Change
  -- reset values, at a clock
  Reset : (clock : ℕ) → Change
  -- the end by a command
  Halt : Change
  -- bytes that come in at the UART of a region
  Input : (region : ℕ) (bytes : List ℕ) → Change
  -- the output that the UART of a region keeps is shown, and kept no more
  Dump : (region : ℕ) → Change
  -- a turn of a VCPU, at a clock
  Turn : (vcpu clock : ℕ) → Change

-- an entry is the guest's birth, at a clock, or a change of its machine
pub data Entry : Type 0 where
  Born : (clock : ℕ) → Entry
  Changed : Change → Entry

-- bytes at a spot, also one that the guest can't write, or nowhere
abbrev pub stored_at : List ℕ → Machine → Option (Spot Place) → Machine
stored_at bytes m None = m
stored_at bytes m (Some spot) = record m { memory = store_place m.memory spot.place bytes }

-- bytes that don't lie wholly in the memory of one region change nothing
abbrev pub after_load : Plan → ℕ → List ℕ → Machine → Machine
after_load plan gpa bytes m = stored_at bytes m (spot_at plan (length bytes) gpa)

-- the machine that a change makes of one
abbrev pub after_change : Plan → Change → Machine → Machine
after_change plan (Load gpa bytes) m = after_load plan gpa bytes m
after_change plan Kick m = kicked m
after_change plan Pause m = paused m
after_change plan Resume m = resumed m
after_change plan (Reset clock) m = reset_at plan clock m
after_change plan Halt m = halted Command m
after_change plan (Input region bytes) m =
    record m { devices = after_input plan.regions region bytes m.devices }
after_change plan (Dump region) m =
    record m { devices = on_device region device_dumped m.devices }
after_change plan (Turn vcpu clock) m = turn plan vcpu (guest_time clock m) m

-- ---- births: the machine begins with its birth, and so does the journal

-- before a guest is born there is none, and only its birth makes one
abbrev pub after_entry : Plan → Option Machine → Entry → Option Machine
after_entry plan m (Born clock) = Some (new_machine plan clock)
after_entry plan m (Changed change) = option_map (after_change plan change) m

-- a journal with one more entry
abbrev pub extended : List Entry → Entry → List Entry
extended journal (Born clock) = Born clock ∷ []
extended journal (Changed change) = journal ++ Changed change ∷ []

-- ---- replay

abbrev pub replay_from : Plan → Option Machine → List Entry → Option Machine
replay_from plan m [] = m
replay_from plan m (e ∷ es) = replay_from plan (after_entry plan m e) es

-- the machine that a journal makes, from no machine at all
unfoldable pub replay : Plan → List Entry → Option Machine
replay plan journal = replay_from plan None journal
