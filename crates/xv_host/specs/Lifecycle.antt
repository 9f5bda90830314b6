-- Which command a guest may get in which state, and the entry that it makes in its journal.
use Rattle.std.specs.Prelude.{Bool, true, false}
use Rattle.xv_lone.specs.declared.vcpu.GuestState.{GuestState}
use Rattle.xv_lone.specs.declared.vcpu.GuestState.TheVariants as states
use Rattle.xv_lone.specs.Journal as journal
use Rattle.xv_host.specs.declared.lifecycle.Change.{Change}
use Rattle.xv_host.specs.declared.lifecycle.Change.TheVariants.{Kick, Pause, Resume, Halt}

abbrev pub is_allowed : Change → GuestState → Bool
is_allowed Kick states.Reset = true
is_allowed Kick states.Running = false
is_allowed Kick states.Paused = false
is_allowed Kick (states.Halted ending) = false
is_allowed Pause states.Reset = false
is_allowed Pause states.Running = true
is_allowed Pause states.Paused = false
is_allowed Pause (states.Halted ending) = false
is_allowed Resume states.Reset = false
is_allowed Resume states.Running = false
is_allowed Resume states.Paused = true
is_allowed Resume (states.Halted ending) = false
is_allowed Halt states.Reset = false
is_allowed Halt states.Running = true
is_allowed Halt states.Paused = true
is_allowed Halt (states.Halted ending) = false

abbrev pub entry_of : Change → journal.Change
entry_of Kick = journal.Kick
entry_of Pause = journal.Pause
entry_of Resume = journal.Resume
entry_of Halt = journal.Halt
