-- Worked rows of the definitions, computed by the checker.
use Rattle.std.proofs.Common.{◌≡◌, ℕ, ◌+◌, ◌*◌, ◌/◌, ◌%◌, ◌^◌, List, [], ◌∷◌, ◌++◌, length, map}
use Rattle.std.proofs.Common.{replicate}
use Rattle.std.proofs.Common.{Result, Ok, Err, codes, refl}
use Rattle.xv_base.specs.declared.keys.Span.{Span}
use Rattle.xv_fdt.specs.Tree.{Entry, Property}
use Rattle.xv_region.specs.declared.plan.DeviceKind.TheVariants as devices
use Rattle.xv_region.specs.declared.plan.Kind.{Kind}
use Rattle.xv_region.specs.declared.plan.Kind.TheVariants as kinds
use Rattle.xv_region.specs.declared.plan.Region.{Region}
use Rattle.xv_region.specs.declared.plan.VcpuPlan.{VcpuPlan}
use Rattle.xv_region.specs.Plan.{Plan}
use Rattle.xv_region.specs.Rules.{fault_from, first_fault}
use Rattle.xv_tree.specs.declared.fault.PlanKind.{PlanKind}
use Rattle.xv_tree.specs.declared.fault.PlanKind.TheVariants as kind
use Rattle.xv_tree.specs.declared.fault.PlanFault.{PlanFault}
use Rattle.xv_tree.specs.declared.fault.PlanFault.TheVariants.{At, Overlap}
use Rattle.xv_tree.specs.Plan.{plan}
use Rattle.xv_tree.specs.Regions.{region_of, sort_of}
use Rattle.xv_tree.specs.Values.{number_of}
use Rattle.xv_tree.specs.Vcpus.{vcpus_of}

-- ---- trees

prop : List ℕ → List ℕ → Property
prop name value = record { name = name; value = value }

-- a big-endian number of 32 bits, and one of 64
w : ℕ → List ℕ
w n = n / 2 ^ 24 % 256 ∷ n / 2 ^ 16 % 256 ∷ n / 2 ^ 8 % 256 ∷ n % 256 ∷ []

d : ℕ → List ℕ
d n = w (n / 2 ^ 32) ++ w n

-- a text that its 0 byte ends
z : List ℕ → List ℕ
z text = text ++ 0 ∷ []

node : ℕ → List ℕ → List Property → Entry
node parent name props = record { name = name; parent = parent; depth = 3; props = props }

top : List ℕ → Entry
top name = record { name = name; parent = 0; depth = 2; props = [] }

root : Entry
root = record { name = []; parent = 0; depth = 1; props = [] }

-- the properties of each VCPU, and the name and the properties of each node of `aspace`
tree : List (List Property) → List (List ℕ × List Property) → List Entry
tree vcpus regions =
    root
    ∷ top (codes "vcpus")
    ∷ (map (node 1 (codes "vcpu")) vcpus
    ++ top (codes "aspace")
    ∷ map (λ region. node (2 + length vcpus) region.0 region.1) regions)

bounds : ℕ → ℕ → List Property
bounds base size =
    prop (codes "guest_physical_addr") (w base) ∷ prop (codes "physical_size") (w size) ∷ []

real : List ℕ → ℕ → ℕ → List Property
real sort base size =
    prop (codes "manifest_type") (z (codes "real"))
    ∷ prop (codes "device_type") (z sort)
    ∷ bounds base size

ram : ℕ → ℕ → List Property
ram = real (codes "alloced_ram")

virtual : List ℕ → ℕ → ℕ → List Property
virtual compatible base size =
    prop (codes "manifest_type") (z (codes "virtual"))
    ∷ prop (codes "compatible") compatible
    ∷ bounds base size

plic : ℕ → List Property
plic base = virtual (z (codes "sifive,plic-1.0.0") ++ z (codes "riscv,plic0")) base 0x400000

uart_with : ℕ → List Property → List Property
uart_with base more = virtual (z (codes "ns16550a")) base 0x100 ++ more

irq : ℕ → List Property
irq number = prop (codes "interrupts") (w number) ∷ []

uart : ℕ → List Property
uart base = uart_with base (irq 10)

alias_to : ℕ → List Property
alias_to target =
    prop (codes "manifest_type") (z (codes "alias"))
    ∷ prop (codes "alias_physical_addr") (w target)
    ∷ bounds 0x90000000 0x2000

held_at : ℕ → ℕ → List Property
held_at base host =
    prop (codes "host_physical_addr") (w host) ∷ real (codes "reserved_ram") base 0x1000

starts : List Property
starts = prop (codes "start_pc") (d 0x80000000) ∷ []

urgent : ℕ → List Property
urgent priority = prop (codes "priority") (w priority) ∷ starts

one : List (List Property)
one = starts ∷ []

unnamed : List Property → List ℕ × List Property
unnamed props = (codes "r", props)

-- ---- examples/trees/payload.dts, with its ROM and its UART elsewhere, and more regions

vcpus : List (List Property)
vcpus = urgent 3 ∷ starts ∷ []

payload_at : (rom uart : ℕ) → List (List Property) → List Entry
payload_at at_rom at_uart more = tree vcpus (
    (codes "mem0", ram 0x80000000 0x800000)
    ∷ (codes "rom0", real (codes "alloced_rom") at_rom 0x10000)
    ∷ (codes "plic@c000000", plic 0xC000000)
    ∷ (codes "uart@10000000", uart at_uart)
    ∷ (
      codes "test@100000",
      virtual (z (codes "sifive,test1") ++ z (codes "sifive,test0") ++ z (codes "syscon"))
          0x100000 0x1000,
    )
    ∷ (codes "rtc@101000", virtual (z (codes "google,goldfish-rtc")) 0x101000 0x1000)
    ∷ map unnamed more
    )

payload : List (List Property) → List Entry
payload more = payload_at 0 0x10000000 more

region : List ℕ → ℕ → ℕ → Kind → Region
region name base size behind = record { name = name; base = base; size = size; kind = behind }

vcpu : ℕ → ℕ → VcpuPlan
vcpu start priority = record { start = start; priority = priority }

payload_plan : Plan
payload_plan = record {
  regions =
      region (codes "mem0") 0x80000000 0x800000 kinds.Ram
      ∷ region (codes "rom0") 0 0x10000 kinds.Rom
      ∷ region (codes "plic@c000000") 0xC000000 0x400000 (kinds.Device devices.Plic)
      ∷ region (codes "uart@10000000") 0x10000000 0x100 (kinds.Device (devices.Uart 0 10))
      ∷ region (codes "test@100000") 0x100000 0x1000 (kinds.Device devices.Finisher)
      ∷ [];
  vcpus = vcpu 0x80000000 3 ∷ vcpu 0x80000000 3 ∷ [];
}

area : Span
area = record { start = 0x3C00000; len = 0x400000 }

the_plan : plan (payload []) area ≡ Ok payload_plan
unfolding payload_plan payload payload_at vcpus unnamed urgent starts uart irq uart_with plic
    virtual ram real bounds region vcpu tree node top root prop w d z area plan vcpus_of sort_of
    region_of number_of first_fault fault_from
the_plan = refl

-- ---- the first fault: of the first pass in its order, then of the second

at : PlanKind → ℕ → PlanFault
at kind number = At kind number

small : ℕ → List Property
small k = ram (k * 0x1000) 0x1000

many : ℕ → List (List ℕ × List Property)
many n = map (λ k. unnamed (small k)) (replicate n 0)

-- a word that isn't known, an empty one, that of a PLIC, and that of a UART without its 0 byte
mixed : List ℕ
mixed = z (codes "x") ++ 0 ∷ (z (codes "riscv,plic0") ++ codes "ns16550")

rows : List (List Entry × PlanFault)
rows =
    (root ∷ [], at kind.NoAspace 0)
    ∷ (root ∷ top (codes "vcpus") ∷ [], at kind.NoAspace 0)
    ∷ (root ∷ top (codes "aspace") ∷ [], at kind.NoVcpus 0)
    ∷ (tree [] [], at kind.NoVcpus 0)
    -- a node of that name in another one is none
    ∷ (
      tree one ((codes "vcpus", []) ∷ []) ++ node 3 (codes "aspace") []
          ∷ node 3 (codes "x") (ram 1 0) ∷ [],
      at kind.BadAddress 6,
    )
    ∷ (tree (replicate 9 starts) [], at kind.TooManyVcpus 10)
    ∷ (tree (replicate 9 []) [], at kind.TooManyVcpus 10)
    -- VCPUs: start, then priority, each before the next VCPU
    ∷ (tree (starts ∷ [] ∷ []) [], at kind.BadStart 3)
    ∷ (tree ((prop (codes "start_pc") (w 0x80000002) ∷ []) ∷ []) [], at kind.BadStart 2)
    ∷ (tree ((prop (codes "start_pc") (0 ∷ 0 ∷ []) ∷ []) ∷ []) [], at kind.BadStart 2)
    ∷ (tree (urgent 8 ∷ [] ∷ []) [], at kind.BadPriority 2)
    ∷ (tree ((prop (codes "priority") (d 3) ∷ starts) ∷ []) [], at kind.BadPriority 2)
    -- regions
    ∷ (
      tree one (unnamed (prop (codes "manifest_type") (z (codes "fake")) ∷ []) ∷ []),
      at kind.BadManifest 4,
    )
    ∷ (tree one (unnamed (real (codes "ram") 0 0x1000) ∷ []), at kind.BadKind 4)
    ∷ (
      tree one (unnamed (prop (codes "manifest_type") (codes "real") ∷ []) ∷ []),
      at kind.BadKind 4,
    )
    ∷ (payload (plic 0x20000000 ∷ []), at kind.BadKind 11)
    ∷ (tree one (many 32 ++ unnamed (plic 3) ∷ []), at kind.TooManyRegions 36)
    ∷ (tree one (unnamed (plic 0xC000000) ∷ (many 31 ++ unnamed (plic 3) ∷ [])), at kind.BadKind 36)
    ∷ (tree one (unnamed (ram 0x800 0) ∷ []), at kind.BadAddress 4)
    ∷ (tree one (unnamed (real (codes "alloced_rom") 0x1000 0) ∷ []), at kind.BadSize 4)
    ∷ (tree one (unnamed (ram 0x1000 0x1800) ∷ []), at kind.BadSize 4)
    ∷ (tree one (unnamed (uart_with 0x1004 []) ∷ []), at kind.BadAddress 4)
    ∷ (
      tree one (unnamed (uart_with 0x1008 (prop (codes "reg-shift") (w 3) ∷ irq 64)) ∷ []),
      at kind.BadKind 4,
    )
    ∷ (
      tree one (unnamed (uart_with 0x1008 (prop (codes "reg-shift") (w 2) ∷ irq 64)) ∷ []),
      at kind.BadIrq 4,
    )
    ∷ (tree one (unnamed (uart_with 0x1008 (irq 0)) ∷ []), at kind.BadIrq 4)
    ∷ (
      tree one (unnamed (uart_with 0x1008 (prop (codes "interrupts") [] ∷ [])) ∷ []),
      at kind.BadIrq 4,
    )
    ∷ (payload (uart 0x20000000 ∷ []), at kind.BadIrq 11)
    -- the first known word of `compatible`
    ∷ (
      tree one (unnamed (virtual mixed 0x20000000 0x400000) ∷ unnamed (plic 0xC000000) ∷ []),
      at kind.BadKind 5,
    )
    -- regions together
    ∷ (payload_at 0x807FF000 0x10000000 [], Overlap 0 1)
    ∷ (payload_at 0 0x80000000 [], Overlap 0 3)
    ∷ (payload (alias_to 0x807FF000 ∷ []), at kind.BadAlias 11)
    ∷ (payload (alias_to 0x10000000 ∷ []), at kind.BadAlias 11)
    ∷ (payload (alias_to 0x80000800 ∷ []), at kind.BadAlias 11)
    ∷ (
      payload ((prop (codes "manifest_type") (codes "alias") ∷ bounds 0x90000000 0x1000) ∷ []),
      at kind.BadAlias 11,
    )
    ∷ (payload (held_at 0x90000000 0x3BFF000 ∷ []), at kind.BadHost 11)
    ∷ (payload (real (codes "reserved_ram") 0x90000000 0x1000 ∷ []), at kind.BadHost 11)
    -- the first pass stands before the second
    ∷ (payload_at 0x807FF000 0x10000000 (ram 1 0 ∷ []), at kind.BadAddress 11)
    ∷ (payload (alias_to 0 ∷ plic 0x20000000 ∷ []), at kind.BadKind 12)
    ∷ []

faults : List (List Entry × PlanFault) → List (Result Plan PlanFault)
faults rows = map (λ row. plan row.0 area) rows

wanted : List (List Entry × PlanFault) → List (Result Plan PlanFault)
wanted rows = map (λ row. Err row.1) rows

the_faults : faults rows ≡ wanted rows
unfolding faults wanted rows at mixed small many one held_at alias_to payload payload_at vcpus
    unnamed urgent starts uart irq uart_with plic virtual ram real bounds tree node top root prop w
    d z area plan vcpus_of sort_of region_of number_of first_fault fault_from
the_faults = refl
