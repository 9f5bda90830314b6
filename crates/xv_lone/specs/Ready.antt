-- Which VCPUs may have a turn.
use Rattle.std.specs.Prelude.{ℕ, ◌==◌, Bool, true, false, not, ◌&&◌, Option, Some, None, slice_get}
use Rattle.xv_csr.specs.Pending.{pending}
use Rattle.xv_lone.specs.declared.vcpu.VcpuView.{VcpuView}
use Rattle.xv_lone.specs.declared.vcpu.HartState.{HartState}
use Rattle.xv_lone.specs.declared.vcpu.HartState.TheVariants.{Started, Waiting, Suspended, Stopped}
use Rattle.xv_lone.specs.declared.vcpu.GuestState.{GuestState}
use Rattle.xv_lone.specs.declared.vcpu.GuestState.TheVariants.{Reset, Running, Paused, Halted}
use Rattle.xv_lone.specs.Machine.{Machine}
use Rattle.xv_lone.specs.Step.{lines_at}

-- the guest was not started since its create or its last reset
abbrev pub is_reset : GuestState → Bool
is_reset Reset = true
is_reset Running = false
is_reset Paused = false
is_reset (Halted ending) = false

abbrev pub is_running : GuestState → Bool
is_running Reset = false
is_running Running = true
is_running Paused = false
is_running (Halted ending) = false

-- an interrupt is pending and enabled for VCPU h, which is v, at guest time t
abbrev pub has_interrupt : (h t : ℕ) → Machine → VcpuView → Bool
has_interrupt h t m v = not (pending v.csrs (lines_at h t m v) == 0)

abbrev pub may_run : HartState → (interrupt : Bool) → Bool
may_run Started interrupt = true
may_run Waiting interrupt = interrupt
may_run Suspended interrupt = interrupt
may_run Stopped interrupt = false

abbrev pub vcpu_ready : (h t : ℕ) → Machine → Option VcpuView → Bool
vcpu_ready h t m None = false
vcpu_ready h t m (Some v) = may_run v.hart (has_interrupt h t m v)

-- VCPU h is ready at guest time t
abbrev pub is_ready : (h t : ℕ) → Machine → Bool
is_ready h t m = is_running m.state && vcpu_ready h t m (slice_get m.vcpus h)
