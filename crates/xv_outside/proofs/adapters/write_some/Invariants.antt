use Rattle.std.specs.Io.KnownBytes.{Keeps}
use Rattle.xv_outside.proofs.adapters.write_some.Given as goal

-- the tries so far wrote nothing
abbrev pub invariant-loop : goal.invariant-loop
invariant-loop g l = Keeps (g.W.Write.contents l.initial.writer) (g.W.Write.contents l.writer)
