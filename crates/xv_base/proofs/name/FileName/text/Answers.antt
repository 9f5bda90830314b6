use Rattle.xv_base.proofs.NameLemmas.{IsUtf8-file_name}
use Rattle.xv_base.proofs.name.FileName.text.Goals as goal

pub unreachable-requires : goal.unreachable-requires
unreachable-requires c =
    c.in_default.ensures.cases.0
    (rw c.bytes.ensures.value (IsUtf8-file_name c.args.self.now c.bytes.ensures.grammar))
