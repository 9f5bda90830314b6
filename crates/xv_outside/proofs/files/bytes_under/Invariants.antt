use Rattle.std.proofs.Common.{◌≡◌, drop}
use Rattle.std.specs.FinMap.{get}
use Rattle.xv_outside.specs.Memory.{file_map}
use Rattle.xv_outside.proofs.files.bytes_under.Given as goal

-- no file so far has the name
abbrev pub invariant-loop-file : goal.invariant-loop-file
invariant-loop-file l =
    get (file_map (drop l.file-index l.entries)) l.name ≡ get (file_map l.entries) l.name
