-- What a hart shows of itself.
use Rattle.std.specs.Prelude.{ℕ, false, List, replicate, None}
use Rattle.xv_hart.specs.declared.hart.Hart.{Hart}
use Rattle.xv_hart.specs.declared.regs.Regs.{Regs}
use Rattle.xv_hart.specs.Trail.{no_trail}

-- its registers, the number of its steps, the trail, and how many entries the trail has room for
abbrev pub regs_of : Hart → Regs
regs_of hart = hart.regs

abbrev pub taken_by : Hart → ℕ
taken_by hart = hart.steps_taken

abbrev pub trail_of : Hart → List Regs
trail_of hart = hart.trail.entries

abbrev pub room_of : Hart → ℕ
room_of hart = hart.trail.room

abbrev pub zero_regs : Regs
zero_regs = record {
  x = replicate 32 0;
  pc = 0;
  user = false;
  csrs = record {
    sstatus = 0;
    sie = 0;
    ssip = false;
    stvec = 0;
    scounteren = 0;
    senvcfg = 0;
    sscratch = 0;
    sepc = 0;
    scause = 0;
    stval = 0;
    satp = 0;
  };
  h = record {
    hstatus = 0;
    hedeleg = 0;
    hideleg = 0;
    hvip = 0;
    hgatp = 0;
    htimedelta = 0;
    hcounteren = 0;
    htval = 0;
    htinst = 0;
  };
  time = 0;
  held = None;
}

-- a hart of zeros that has taken no step, and whose trail has no room
abbrev pub zero_hart : Hart
zero_hart = record { regs = zero_regs; steps_taken = 0; trail = no_trail }

-- the entries that `fit` makes room for: at most 13 for each of a turn's 1,000 lone steps
abbrev pub trail_room : ℕ
trail_room = 13000
