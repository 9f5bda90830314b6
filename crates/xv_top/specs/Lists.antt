-- The lists of live guests and of their serial ports.
use Rattle.std.specs.Prelude.{ℕ, Bool, true, false, ◌&&◌, List, ◌++◌, length, map, Option}
use Rattle.std.specs.Prelude.{decimal, codes}
use Rattle.std.specs.List.{filter, flat_map, position}
use Rattle.std.specs.Str.{bytes_eq}
use Rattle.xv_base.specs.Serial.{Serial}
use Rattle.xv_print.specs.Escape.{escaped}
use Rattle.xv_region.specs.declared.plan.DeviceKind.{DeviceKind}
use Rattle.xv_region.specs.declared.plan.DeviceKind.TheVariants.{Uart, Plic, Finisher}
use Rattle.xv_region.specs.declared.plan.Kind.{Kind}
use Rattle.xv_region.specs.declared.plan.Kind.TheVariants.{Ram, Rom, Reserved, Alias, Device}
use Rattle.xv_region.specs.declared.plan.Region.{Region}
use Rattle.xv_region.specs.Plan.{Plan}
use Rattle.xv_bus.specs.declared.access.Ending.{Ending}
use Rattle.xv_bus.specs.declared.access.Ending.TheVariants.{Command, Pass, Fail, Shutdown}
use Rattle.xv_lone.specs.declared.vcpu.GuestState.{GuestState}
use Rattle.xv_lone.specs.declared.vcpu.GuestState.TheVariants.{Reset, Running, Paused, Halted}
use Rattle.xv_top.specs.Texts.{line_end}
use Rattle.xv_top.specs.World.{LiveGuest}

-- ---- guests

abbrev pub ending_text : Ending → List ℕ
ending_text Command = codes "command"
ending_text Pass = codes "pass"
ending_text (Fail code) = codes "fail " ++ decimal code
ending_text Shutdown = codes "shutdown"

abbrev pub state_text : GuestState → List ℕ
state_text Reset = codes "reset"
state_text Running = codes "running"
state_text Paused = codes "paused"
state_text (Halted ending) = codes "halted " ++ ending_text ending

unfoldable pub guest_line : (name : List ℕ) → GuestState → (vcpus : ℕ) → List ℕ
guest_line name state vcpus =
    name ++ codes " " ++ state_text state ++ codes " vcpus " ++ decimal vcpus ++ line_end

-- a guest's line
abbrev pub line_of : LiveGuest → List ℕ
line_of g = guest_line g.name g.machine.state (length g.plan.vcpus)

-- the line that heads so many guests
unfoldable pub guests_head : ℕ → List ℕ
guests_head count = codes "guests " ++ decimal count ++ line_end

-- how many guests live, and the line of each, in order of creation
abbrev pub guests_text : List LiveGuest → List ℕ
guests_text gs = guests_head (length gs) ++ flat_map line_of gs

-- ---- serial ports

abbrev pub is_serial : DeviceKind → Bool
is_serial (Uart shift irq) = true
is_serial Plic = false
is_serial Finisher = false

-- a UART stands behind such a region's addresses
abbrev pub is_uart : Kind → Bool
is_uart Ram = false
is_uart Rom = false
is_uart (Reserved host) = false
is_uart (Alias target) = false
is_uart (Device device) = is_serial device

-- a serial port is a region with a UART, and has its name
abbrev pub is_port : Region → Bool
is_port r = is_uart r.kind

-- the number of the region that a guest's serial port of that name is: the first of them
abbrev pub uart_named : (dev : List ℕ) → Plan → Option ℕ
uart_named dev plan = position (λ r. is_port r && bytes_eq r.name dev) plan.regions

-- a serial port as the script names it
unfoldable pub port_text : (name dev : List ℕ) → List ℕ
port_text name dev = name ++ codes "/" ++ dev

-- so many bytes came in
unfoldable pub input_text : (name dev : List ℕ) → (count : ℕ) → List ℕ
input_text name dev count =
    codes "input " ++ port_text name dev ++ codes " " ++ decimal count ++ line_end

-- more bytes than there are free places
unfoldable pub full_text : (free : ℕ) → List ℕ
full_text free = codes "refused full free " ++ decimal free ++ line_end

-- and a line with it
abbrev pub port_line : (name : List ℕ) → Region → List ℕ
port_line name r = port_text name r.name ++ line_end

-- a guest's serial ports, in order of its regions
abbrev pub ports_of : LiveGuest → List (List ℕ)
ports_of g = map (λ r. port_text g.name r.name) (filter is_port g.plan.regions)

-- the line that heads so many serial ports
unfoldable pub ports_head : ℕ → List ℕ
ports_head count = codes "vserial " ++ decimal count ++ line_end

-- how many serial ports there are, and a line for each
abbrev pub ports_text : (ports : List (List ℕ)) → List ℕ
ports_text ports = ports_head (length ports) ++ flat_map (λ port. port ++ line_end) ports

-- the line that heads the output that a serial port kept: how many bytes it lost before, and how
-- many there are
unfoldable pub dump_head : (name dev : List ℕ) → (lost count : ℕ) → List ℕ
dump_head name dev lost count =
    codes "dump " ++ port_text name dev ++ codes " lost " ++ decimal lost ++ codes " bytes "
    ++ decimal count ++ line_end

-- and a line with it, each byte as text
abbrev pub dump_text : (name dev : List ℕ) → Serial → List ℕ
dump_text name dev serial =
    dump_head name dev serial.lost (length serial.kept)
    ++ (flat_map escaped serial.kept ++ line_end)
