-- What the firmware makes of a call, as the lone machine's reply.
use Rattle.std.specs.Prelude.{ℕ, ◌≡◌, Bool, true, false, List, Option, Some, None, slice_get}
use Rattle.xv_lone.specs.Calls as lone
use Rattle.xv_lone.specs.Machine.{Machine}
use Rattle.xv_lone.specs.Memory.{Place}
use Rattle.xv_lone.specs.Step.{After, On, Halts, Reboots}
use Rattle.xv_lone.specs.declared.vcpu.HartState.{HartState}
use Rattle.xv_lone.specs.declared.vcpu.HartState.TheVariants.{Started, Waiting, Suspended, Stopped}
use Rattle.xv_lone.specs.declared.vcpu.VcpuView.{VcpuView}
use Rattle.xv_step.specs.State.{Held}
use Rattle.xv_guest.specs.Guest.{Guest, lone_of}
use Rattle.xv_firmware.specs.declared.reply.Reply.{Reply}
use Rattle.xv_firmware.specs.declared.reply.Reply.TheVariants as replies
use Rattle.xv_firmware.specs.declared.calls.Progress.{Progress}
use Rattle.xv_firmware.specs.declared.calls.Progress.TheVariants as progress

-- the word of ECALL
abbrev pub ecall_word : ℕ
ecall_word = 0x73

-- what of the guest a call may change
abbrev pub Leaves : (old new : Guest) → Type 0
Leaves old new =
    new ≡ record old { devices = new.devices; vcpus = new.vcpus; state = new.state }

abbrev pub is_stopped : HartState → Bool
is_stopped Started = false
is_stopped Waiting = false
is_stopped Suspended = false
is_stopped Stopped = true

-- the reply, where the guest is this machine then
abbrev pub reply_of : Reply → Machine → lone.Reply
reply_of (replies.Returns error value) m = lone.Returns error value m
reply_of replies.StopsCaller m = lone.StopsCaller
reply_of (replies.HaltsGuest ending) m = lone.HaltsGuest ending
reply_of replies.RebootsGuest m = lone.RebootsGuest

-- a call that returns may have changed VCPUs; before any other reply the guest is as it was
abbrev pub Changes : Reply → (old new : Guest) → Type 0
Changes (replies.Returns error value) old new = new ≡ record old { vcpus = new.vcpus }
Changes replies.StopsCaller old new = new ≡ old
Changes (replies.HaltsGuest ending) old new = new ≡ old
Changes replies.RebootsGuest old new = new ≡ old

-- such a reply speaks of the VCPU that called, number h
abbrev pub CallerIs : Reply → Guest → (h : ℕ) → VcpuView → Type 0
CallerIs (replies.Returns error value) g h v = Unit {0}
CallerIs replies.StopsCaller g h v = slice_get g.vcpus h ≡ Some v
CallerIs (replies.HaltsGuest ending) g h v = slice_get g.vcpus h ≡ Some v
CallerIs replies.RebootsGuest g h v = slice_get g.vcpus h ≡ Some v

-- a guest with all its VCPUs in itself, and the reservation of the one that is on the hart, after a
-- lone step that left it so
abbrev pub after_guest : Guest → Option (Held Place) → List ℕ → Progress → After
after_guest g held bytes (progress.Goes state) =
    record { on_hart = record { machine = lone_of g bytes; held = held }; onward = On }
after_guest g held bytes progress.Halts =
    record { on_hart = record { machine = lone_of g bytes; held = held }; onward = Halts }
after_guest g held bytes progress.Reboots =
    record { on_hart = record { machine = lone_of g bytes; held = None }; onward = Reboots }

-- the turn stands as the VCPU's hart state says. Where the guest halts it is started
abbrev pub InState : Progress → HartState → Type 0
InState (progress.Goes state) hart = hart ≡ state
InState progress.Halts hart = hart ≡ Started
InState progress.Reboots hart = Unit {0}
