use Rattle.std.proofs.Common.{◌∙◌, ℕ, List, ap, refl, sym}
use Rattle.std.proofs.lemmas.Result.{on_ok_weaker, on_err_weaker}
use Rattle.xv_fdt.specs.Grammar.{tree}
use Rattle.xv_top.specs.Births.{tree_answer}
use Rattle.xv_top.specs.Answer.{Answer, with_file}
use Rattle.xv_top.specs.Files.{file_of}
use Rattle.xv_top.specs.Manager.{world_of}
use Rattle.xv_top.proofs.FetchLemmas.{told_at_fetch}
use Rattle.xv_top.proofs.ManagerLemmas.{gives_by, gives_text, alone_fetches, some_at}
use Rattle.xv_top.proofs.manager.Manager.create.Goals as goal

pub returns-in-Ok-Some-clause-answer : goal.returns-in-Ok-Some-clause-answer
returns-in-Ok-Some-clause-answer g c =
    on_ok_weaker c.of_bytes.result
    (λ answer told is.
    let bytes = c.args.machine.now.mem in
    let w = world_of c.args.self.now bytes in
    let next : List ℕ → Answer = λ file. tree_answer w c.args.name.now (tree file) in
    gives_by _ _
    (c.if-not-is_alone.ensures.next refl bytes
    (with_file w 1048576 next (file_of told c.args.file.now))
    ∙ (some_at _ c.in-Ok-Some.field-0 c.in-Ok-Some.bytes c.in-Ok-Some.field-0-is
    c.in-Ok-Some.ensures.bytes told w next
    (told_at_fetch is (alone_fetches c.args.self.now bytes c.args.name.now c.args.file.now
    (c.if-not-is_alone.ensures.alone refl)))
    ∙ ap next (sym c.deref.ensures.value)))
    answer) c.of_bytes.ensures.answer

pub returns-in-Ok-Some-clause-fetching : goal.returns-in-Ok-Some-clause-fetching
returns-in-Ok-Some-clause-fetching g c =
    on_err_weaker c.of_bytes.result
    (λ _. alone_fetches c.args.self.now c.args.machine.now.mem c.args.name.now c.args.file.now
    (c.if-not-is_alone.ensures.alone refl)) c.of_bytes.ensures.stopped

pub returns-in-Err-clause-fetching : goal.returns-in-Err-clause-fetching
returns-in-Err-clause-fetching g c =
    alone_fetches c.args.self.now c.args.machine.now.mem c.args.name.now c.args.file.now
    (c.if-not-is_alone.ensures.alone refl)

pub returns-in-Ok-None-clause-answer : goal.returns-in-Ok-None-clause-answer
returns-in-Ok-None-clause-answer g c told is =
    let m = c.args.self.now in
    let machine = c.args.machine.now in
    let w = world_of m machine.mem in
    let next : List ℕ → Answer = λ file. tree_answer w c.args.name.now (tree file) in
    gives_text _ m machine _ _
    (c.if-not-is_alone.ensures.next refl machine.mem
    (with_file w 1048576 next (file_of told c.args.file.now))
    ∙ c.in-Ok-None.ensures.refused c.in-Ok-None.field-0-is told w next
    (told_at_fetch is (alone_fetches m machine.mem c.args.name.now c.args.file.now
    (c.if-not-is_alone.ensures.alone refl)))) refl
