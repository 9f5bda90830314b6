use Rattle.std.proofs.Common.{◌+◌, ◌++◌, drop, get_or, ap, ◌∙◌, sym}
use Rattle.std.proofs.lemmas.List.{drop_all}
use Rattle.xv_fdt.specs.Written as spec
use Rattle.xv_fdt.proofs.WritingLemmas.{drop-number, words-step, words-left}
use Rattle.xv_fdt.proofs.writing.put_words.Goals as goal

pub loop-number-preserved : goal.loop-number-preserved
loop-number-preserved c =
    let numbers = c.args.numbers.now in
    let i = c.loop-number.number-index in
    words-step c.loop-number.out.items c.put_word.new.out.items (get_or numbers i 0)
    (drop (i + 1) numbers) _ c.in_ok-put_word.ensures
    (ap (λ ns. c.loop-number.out.items ++ spec.words_bytes ns)
    (sym (drop-number numbers i c.loop-number-test.true)) ∙ c.loop-number.invariant)

pub returns : goal.returns
returns c =
    words-left c.loop-number.out.items _
    (ap (λ ns. c.loop-number.out.items ++ spec.words_bytes ns)
    (sym (drop_all c.loop-number.number-index c.args.numbers.now c.loop-number-test.false))
    ∙ c.loop-number.invariant)
