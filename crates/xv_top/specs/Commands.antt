-- What each command answers.
use Rattle.std.specs.Prelude.{ℕ, ◌+◌, nat_lt, Bool, false, not, ◌&&◌, if◌then◌else◌, List}
use Rattle.std.specs.Prelude.{length, Option, Some, None, is_some, slice_get, codes}
use Rattle.std.specs.List.{flat_map}
use Rattle.xv_outside.specs.Fetch.{FileMap}
use Rattle.xv_lone.specs.declared.vcpu.VcpuView.{VcpuView}
use Rattle.xv_lone.specs.Ready.{is_reset}
use Rattle.xv_lone.specs.Journal as change
use Rattle.xv_script.specs.declared.command.Command.{Command}
use Rattle.xv_script.specs.declared.command.Command.TheVariants as command
use Rattle.xv_top.specs.Answer.{Answer, says, refused, changes, where_there, where_reset}
use Rattle.xv_top.specs.Births.{create_answer, flat_answer}
use Rattle.xv_top.specs.Contents.{load_guest, poke_guest, mem_guest, digest_guest, audit_guest}
use Rattle.xv_base.specs.Serial.{queue_room}
use Rattle.xv_lone.specs.Device.{device_at, serial_of}
use Rattle.xv_top.specs.Lists.{dump_text, full_text, guests_text, input_text, ports_of, ports_text}
use Rattle.xv_top.specs.Lists.{uart_named}
use Rattle.xv_top.specs.Texts.{clock_text, kicked_text, ran_text, regs_text, tick_text}
use Rattle.xv_top.specs.World.{LiveGuest, World, RunSoFar, most_turns, guest_named, run_of}

-- `guest kick`
abbrev pub kick_guest : World → (name : List ℕ) → Option LiveGuest → Answer
kick_guest w name o = where_reset w (λ g. changes w name change.Kick (kicked_text name)) o

-- `guest regs`
abbrev pub regs_of_vcpu : World → (name : List ℕ) → ℕ → Option VcpuView → Answer
regs_of_vcpu w name vcpu None = refused w (codes "vcpu")
regs_of_vcpu w name vcpu (Some v) = says w (regs_text name vcpu v)

abbrev pub regs_guest : World → (name : List ℕ) → ℕ → Option LiveGuest → Answer
regs_guest w name vcpu o =
    where_there w (λ g. regs_of_vcpu w name vcpu (slice_get g.machine.vcpus vcpu)) o

-- `guest list`
abbrev pub list_answer : World → Answer
list_answer w = says w (guests_text w.guests)

-- `vserial list`: of each guest, in order of creation
abbrev pub ports_answer : World → Answer
ports_answer w = says w (ports_text (flat_map ports_of w.guests))

-- what follows where the guest has a serial port of that name, by its region
abbrev pub by_port : World → (ℕ → Answer) → Option ℕ → Answer
by_port w next None = refused w (codes "device")
by_port w next (Some region) = next region

abbrev pub at_port : World → (dev : List ℕ) → (LiveGuest → ℕ → Answer) → LiveGuest → Answer
at_port w dev next g = by_port w (next g) (uart_named dev g.plan)

-- how many bytes more may come in at the UART of a region
abbrev pub room_at : LiveGuest → (region : ℕ) → ℕ
room_at g region = queue_room (serial_of (device_at g.machine.devices region))

-- `vserial input`: all bytes come in, or none
abbrev pub input_at : World → (name dev bytes : List ℕ) → LiveGuest → (region : ℕ) → Answer
input_at w name dev bytes g region =
    if nat_lt (room_at g region) (length bytes)
    then says w (full_text (room_at g region))
    else changes w name (change.Input region bytes) (input_text name dev (length bytes))

abbrev pub input_guest : World → (name dev bytes : List ℕ) → Option LiveGuest → Answer
input_guest w name dev bytes o = where_there w (at_port w dev (input_at w name dev bytes)) o

-- `vserial dump`: what the UART sent is shown, and kept no more
abbrev pub dump_at : World → (name dev : List ℕ) → LiveGuest → (region : ℕ) → Answer
dump_at w name dev g region = changes w name (change.Dump region)
    (dump_text name dev (serial_of (device_at g.machine.devices region)))

abbrev pub dump_guest : World → (name dev : List ℕ) → Option LiveGuest → Answer
dump_guest w name dev o = where_there w (at_port w dev (dump_at w name dev)) o

-- `clock`, which doesn't go back
abbrev pub clock_answer : World → ℕ → Answer
clock_answer w value =
    if nat_lt value w.clock
    then refused w (codes "clock")
    else says (record w { clock = value }) (clock_text value)

-- `tick`
abbrev pub tick_answer : World → ℕ → Answer
tick_answer w value = says (record w { tick = value }) (tick_text value)

-- `run`
abbrev pub ran_answer : ℕ → RunSoFar → Answer
ran_answer turns r = record {
  text = ran_text turns r.idle r.world.clock;
  world = r.world;
  entries = r.entries;
  work = r.work;
}

abbrev pub run_answer : World → ℕ → Answer
run_answer w turns =
    if nat_lt most_turns (w.turns + turns)
    then refused w (codes "turns")
    else ran_answer turns (run_of turns w)

-- a line that isn't built yet
abbrev pub unbuilt : World → Answer
unbuilt w = refused w (codes "unbuilt")

unfoldable pub answer : FileMap → World → Command → Answer
answer files w (command.Create name file) = create_answer files w name file
answer files w (command.Flat name pages) = flat_answer w name pages
answer files w (command.Load name gpa file) = load_guest files w name gpa file (guest_named name w)
answer files w (command.Poke name gpa bytes) = poke_guest w name gpa bytes (guest_named name w)
answer files w (command.Kick name) = kick_guest w name (guest_named name w)
answer files w (command.Pause name) = unbuilt w
answer files w (command.Resume name) = unbuilt w
answer files w (command.Reset name) = unbuilt w
answer files w (command.Halt name) = unbuilt w
answer files w (command.Destroy name) = unbuilt w
answer files w (command.Regs name vcpu) = regs_guest w name vcpu (guest_named name w)
answer files w (command.Mem name gpa len) = mem_guest w name gpa len (guest_named name w)
answer files w (command.Digest name) = digest_guest w name (guest_named name w)
answer files w (command.Audit name) = audit_guest w name (guest_named name w)
answer files w command.List = list_answer w
answer files w (command.Input name port bytes) =
    input_guest w name port bytes (guest_named name w)
answer files w (command.Dump name port) = dump_guest w name port (guest_named name w)
answer files w command.Ports = ports_answer w
answer files w (command.Clock value) = clock_answer w value
answer files w (command.Tick value) = tick_answer w value
answer files w (command.Run turns) = run_answer w turns

-- ---- what stops a run

abbrev pub is_loadable : Option LiveGuest → Bool
is_loadable None = false
is_loadable (Some g) = is_reset g.machine.state

-- a guest of that name may be born: the name is not in use, and no other guest lives
abbrev pub may_be_born : World → List ℕ → Bool
may_be_born w name = not (is_some (guest_named name w)) && not (nat_lt 0 (length w.guests))

-- the command comes to the fetch of its file, as it is refused by nothing before that
unfoldable pub is_fetching : World → Command → Bool
is_fetching w (command.Create name file) = may_be_born w name
is_fetching w (command.Load name gpa file) = is_loadable (guest_named name w)
is_fetching w _ = false

-- the command may want memory: it comes to the fetch of its file, or to the birth of a flat guest
unfoldable pub may_want_memory : World → Command → Bool
may_want_memory w (command.Flat name pages) = may_be_born w name
may_want_memory w c = is_fetching w c
