use Rattle.std.proofs.Common.{rules, ◌≡◌, ◌+◌, Some, None, true, false, nat_eq, length, drop}
use Rattle.std.proofs.Common.{List, ℕ, ap, sym, ◌∙◌}
use Rattle.std.proofs.lemmas.List.{drop_all}
use Rattle.std.specs.Cmp.Lexicographic.{pointwise}
use Rattle.std.specs.FinMap.{get}
use Rattle.xv_outside.specs.Memory.{FileEntry, file_map}
use Rattle.xv_outside.proofs.Entries.{get_none, get_here, get_after}
use Rattle.xv_outside.proofs.files.bytes_under.Goals as goal

pub returns-then-eq-clause-some : goal.returns-then-eq-clause-some
returns-then-eq-clause-some c =
    let same : true ≡ pointwise nat_eq c.args.name.now c.file-item.result.name = search rules in
    let bytes : c.file-item.result.bytes ≡ c.deref.result.now = search rules in
    sym c.loop-file.invariant
    ∙ get_here c.args.entries.now c.loop-file.file-index c.file-item.result c.args.name.now
    c.loop-file-test.true c.file-item.is same ∙ ap Some bytes

pub loop-file-preserved : goal.loop-file-preserved
loop-file-preserved c =
    let other : false ≡ pointwise nat_eq c.args.name.now c.file-item.result.name = search rules in
    sym (get_after c.args.entries.now c.loop-file.file-index c.file-item.result c.args.name.now
    c.loop-file-test.true c.file-item.is other) ∙ c.loop-file.invariant

pub returns-clause-none : goal.returns-clause-none
returns-clause-none c =
    let nothing = drop_all c.loop-file.file-index c.args.entries.now c.loop-file-test.false in
    sym c.loop-file.invariant
    ∙ ap (λ (files : List FileEntry). get (file_map files) c.args.name.now) nothing
    ∙ get_none c.args.name.now
