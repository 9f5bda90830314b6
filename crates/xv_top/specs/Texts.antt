-- The texts of the answers.
use Rattle.std.specs.Prelude.{ℕ, zero, suc, ◌%◌, ◌==◌, Bool, true, false, if◌then◌else◌, List, []}
use Rattle.std.specs.Prelude.{◌∷◌, ◌++◌, slice_index, decimal, codes}
use Rattle.xv_base.specs.Text.{hex16, hex_bytes}
use Rattle.xv_csr.specs.declared.SCsrs.{SCsrs}
use Rattle.xv_lone.specs.declared.vcpu.VcpuView.{VcpuView}
use Rattle.xv_lone.specs.declared.vcpu.HartState.{HartState}
use Rattle.xv_lone.specs.declared.vcpu.HartState.TheVariants.{Started, Waiting, Suspended, Stopped}
use Rattle.xv_fdt.specs.declared.fault.FdtKind.{FdtKind}
use Rattle.xv_fdt.specs.declared.fault.FdtKind.TheVariants as fdt
use Rattle.xv_script.specs.declared.fault.ScriptKind.{ScriptKind}
use Rattle.xv_script.specs.declared.fault.ScriptKind.TheVariants as script
use Rattle.xv_tree.specs.declared.fault.PlanFault.{PlanFault}
use Rattle.xv_tree.specs.declared.fault.PlanFault.TheVariants as faults
use Rattle.xv_tree.specs.declared.fault.PlanKind.{PlanKind}
use Rattle.xv_tree.specs.declared.fault.PlanKind.TheVariants as plan

-- the end of a line
abbrev pub line_end : List ℕ
line_end = 0x0A ∷ []

-- a line that refuses a command
unfoldable pub refused_text : List ℕ → List ℕ
refused_text word = codes "refused " ++ word ++ line_end

-- more frames are needed than are free
unfoldable pub frames_text : ℕ → ℕ → List ℕ
frames_text needed free = codes "refused frames need " ++ decimal needed ++ codes " free "
    ++ decimal free ++ line_end

unfoldable pub created_text : List ℕ → ℕ → ℕ → ℕ → List ℕ
created_text name vcpus regions frames =
    codes "created " ++ name ++ codes " vcpus " ++ decimal vcpus ++ codes " regions "
    ++ decimal regions ++ codes " frames " ++ decimal frames ++ line_end

unfoldable pub poked_text : List ℕ → ℕ → List ℕ
poked_text name count = codes "poked " ++ name ++ codes " " ++ decimal count ++ line_end

unfoldable pub kicked_text : List ℕ → List ℕ
kicked_text name = codes "kicked " ++ name ++ line_end

unfoldable pub ran_text : ℕ → ℕ → ℕ → List ℕ
ran_text turns idle clock = codes "ran " ++ decimal turns ++ codes " idle " ++ decimal idle
    ++ codes " now " ++ decimal clock ++ line_end

unfoldable pub loaded_text : List ℕ → ℕ → List ℕ
loaded_text name count = codes "loaded " ++ name ++ codes " " ++ decimal count ++ line_end

unfoldable pub mem_text : List ℕ → ℕ → List ℕ → List ℕ
mem_text name gpa bytes =
    codes "mem " ++ name ++ codes " " ++ hex16 gpa ++ codes " " ++ hex_bytes bytes ++ line_end

unfoldable pub digest_text : List ℕ → List ℕ → List ℕ
digest_text name digest = codes "digest " ++ name ++ codes " " ++ hex_bytes digest ++ line_end

unfoldable pub audit_text : List ℕ → ℕ → List ℕ
audit_text name pages = codes "audit " ++ name ++ codes " " ++ decimal pages ++ line_end

unfoldable pub clock_text : ℕ → List ℕ
clock_text clock = codes "clock " ++ decimal clock ++ line_end

unfoldable pub tick_text : ℕ → List ℕ
tick_text tick = codes "tick " ++ decimal tick ++ line_end

-- ---- a tree or a plan that is refused

abbrev pub fdt_word : FdtKind → List ℕ
fdt_word fdt.BadMagic = codes "magic"
fdt_word fdt.BadVersion = codes "version"
fdt_word fdt.Short = codes "short"
fdt_word fdt.BadOffset = codes "offset"
fdt_word fdt.BadToken = codes "token"
fdt_word fdt.BadName = codes "name"
fdt_word fdt.Unbalanced = codes "balance"
fdt_word fdt.TooDeep = codes "deep"
fdt_word fdt.TooBig = codes "big"

-- the bytes of a file are no tree: which rule they break, and where
unfoldable pub tree_text : FdtKind → ℕ → List ℕ
tree_text kind offset =
    codes "refused tree " ++ fdt_word kind ++ codes " " ++ decimal offset ++ line_end

abbrev pub plan_word : PlanKind → List ℕ
plan_word plan.NoAspace = codes "aspace"
plan_word plan.NoVcpus = codes "vcpus"
plan_word plan.TooManyVcpus = codes "manyvcpus"
plan_word plan.TooManyRegions = codes "manyregions"
plan_word plan.BadManifest = codes "manifest"
plan_word plan.BadKind = codes "kind"
plan_word plan.BadAddress = codes "address"
plan_word plan.BadSize = codes "size"
plan_word plan.BadStart = codes "start"
plan_word plan.BadPriority = codes "priority"
plan_word plan.BadIrq = codes "irq"
plan_word plan.BadAlias = codes "alias"
plan_word plan.BadHost = codes "host"

-- a tree describes no guest: which rule it breaks, and at which node, or which two regions overlap.
-- The rules never give want of memory.
unfoldable pub plan_text : PlanFault → List ℕ
plan_text (faults.At kind node) =
    codes "refused plan " ++ plan_word kind ++ codes " " ++ decimal node ++ line_end
plan_text (faults.Overlap i j) =
    codes "refused plan overlap " ++ decimal i ++ codes " " ++ decimal j ++ line_end
plan_text faults.NoMemory = []

-- ---- a script that is refused

abbrev pub script_word : ScriptKind → List ℕ
script_word script.Long = codes "long"
script_word script.Byte = codes "byte"
script_word script.Word = codes "word"
script_word script.Count = codes "count"
script_word script.Name = codes "name"
script_word script.Number = codes "number"
script_word script.Range = codes "range"
script_word script.Hex = codes "hex"

-- which rule a script breaks, and in which line
unfoldable pub script_text : ℕ → ScriptKind → List ℕ
script_text line kind =
    codes "script " ++ decimal line ++ codes " " ++ script_word kind ++ line_end

-- ---- registers

abbrev pub hart_state_text : HartState → List ℕ
hart_state_text Started = codes "started"
hart_state_text Waiting = codes "waiting"
hart_state_text Suspended = codes "suspended"
hart_state_text Stopped = codes "stopped"

abbrev pub mode_text : Bool → List ℕ
mode_text true = codes "U"
mode_text false = codes "S"

-- a value with its name: the name, =, and 16 digits
unfoldable pub named_text : List ℕ → ℕ → List ℕ
named_text name value = name ++ codes "=" ++ hex16 value

-- four registers make a line
abbrev pub register_end : ℕ → List ℕ
register_end i = if i % 4 == 3 then line_end else codes " "

-- register i, with what stands behind it
unfoldable pub register_text : List ℕ → ℕ → List ℕ
register_text x i = codes "x" ++ decimal i ++ codes "=" ++ hex16 (slice_index x i) ++ register_end i

-- the first n registers
unfoldable pub registers_text : List ℕ → ℕ → List ℕ
registers_text x zero = []
registers_text x (suc n) = registers_text x n ++ register_text x n

abbrev pub ssip_value : Bool → ℕ
ssip_value true = 2
ssip_value false = 0

unfoldable pub status_line : SCsrs → List ℕ
status_line c =
    named_text (codes "sstatus") c.sstatus ++ codes " " ++ named_text (codes "sie") c.sie
    ++ codes " " ++ named_text (codes "ssip") (ssip_value c.ssip) ++ codes " "
    ++ named_text (codes "stvec") c.stvec ++ line_end

unfoldable pub trap_line : SCsrs → List ℕ
trap_line c =
    named_text (codes "sscratch") c.sscratch ++ codes " " ++ named_text (codes "sepc") c.sepc
    ++ codes " " ++ named_text (codes "scause") c.scause ++ codes " "
    ++ named_text (codes "stval") c.stval ++ line_end

unfoldable pub last_line : SCsrs → ℕ → List ℕ
last_line c timer =
    named_text (codes "satp") c.satp ++ codes " "
    ++ named_text (codes "scounteren") c.scounteren ++ codes " "
    ++ named_text (codes "senvcfg") c.senvcfg ++ codes " " ++ named_text (codes "timer") timer
    ++ line_end

-- the line that heads the registers of VCPU number vcpu
unfoldable pub regs_head : List ℕ → ℕ → VcpuView → List ℕ
regs_head name vcpu v =
    codes "regs " ++ name ++ codes " " ++ decimal vcpu ++ codes " " ++ hart_state_text v.hart
    ++ codes " " ++ mode_text v.user ++ codes " pc=" ++ hex16 v.pc ++ line_end

-- the twelve lines of a VCPU's registers
unfoldable pub regs_text : List ℕ → ℕ → VcpuView → List ℕ
regs_text name vcpu v =
    regs_head name vcpu v ++ registers_text v.x 32 ++ status_line v.csrs ++ trap_line v.csrs
    ++ last_line v.csrs v.timer
