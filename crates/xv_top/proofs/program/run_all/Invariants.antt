use Rattle.std.proofs.Common.{◌≡◌, ◌*◌, ◌^◌, ◌≤◌, length, take}
use Rattle.xv_outside.specs.Fetch.{FileMap}
use Rattle.xv_hart.specs.Hart.{taken_by}
use Rattle.xv_hart.specs.Machine.{IsFit}
use Rattle.xv_top.specs.Files.{StandsFor}
use Rattle.xv_top.specs.Manager.{world_of, IsSound}
use Rattle.xv_top.specs.Run.{HaveRun}
use Rattle.xv_top.specs.Transcript.{fetches}
use Rattle.xv_top.proofs.program.run_all.Given as goal

abbrev pub invariant-loop-line : goal.invariant-loop-line
invariant-loop-line g l = record {
  run : (told : FileMap) → StandsFor (g.F.Files.map l.fn.files) told
      (fetches told (world_of l.fn.manager l.fn.machine.mem) (take l.line-index l.lines)) →
      HaveRun told (take l.line-index l.lines) (world_of l.fn.manager l.fn.machine.mem)
      (world_of l.manager l.machine.mem) (g.K.Sink.taken l.fn.sink) (g.K.Sink.taken l.sink)
      (taken_by l.machine.hart);
  sound : IsSound l.manager l.machine;
  fit : IsFit l.machine;
  size : length l.machine.mem ≡ length l.fn.machine.mem;
  area : l.machine.area ≡ l.fn.machine.area;
  few : taken_by l.machine.hart ≤ l.line-index * 2 ^ 34;
  quiet : g.K.Sink.faults l.sink ≡ g.K.Sink.faults l.fn.sink;
  map : g.F.Files.map l.files ≡ g.F.Files.map l.fn.files;
  files_quiet : g.F.Files.faults l.files ≡ g.F.Files.faults l.fn.files;
}
