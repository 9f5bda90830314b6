use Rattle.std.proofs.Common.{◌∙◌, length, refl, ap}
use Rattle.xv_top.specs.Texts.{loaded_text}
use Rattle.xv_top.proofs.ManagerLemmas.{gives_printed, name_short}
use Rattle.xv_top.proofs.manager.Manager.load_bytes.Goals as goal

pub loaded-requires-clause-short : goal.loaded-requires-clause-short
loaded-requires-clause-short c =
    name_short c.args.name.now c.bytes.result.now c.bytes.ensures.value c.bytes.ensures.grammar

pub returns-then-put-clause-answer : goal.returns-then-put-clause-answer
returns-then-put-clause-answer c g at =
    let image = c.args.image.now in
    let text = loaded_text c.args.name.now (length image) in
    gives_printed _ text
    (c.loaded.ensures ∙ ap (λ n. loaded_text n (length image)) c.bytes.ensures.value)
    (c.if-put.ensures.put refl text g at)

pub returns-else-put-clause-answer : goal.returns-else-put-clause-answer
returns-else-put-clause-answer c g at =
    c.if-put.ensures.refused refl (loaded_text c.args.name.now (length c.args.image.now)) g at
