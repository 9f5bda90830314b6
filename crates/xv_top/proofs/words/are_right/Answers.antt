use Rattle.std.proofs.Common.{◌∙◌, subst, sym, ap, codes, arith}
use Rattle.std.proofs.lemmas.Slice.Eq.{bytes_eq-Decides}
use Rattle.std.specs.Str.{bytes_eq}
use Rattle.std.specs.String.{string_bytes}
use Rattle.xv_top.specs.Boot.{AreRight}
use Rattle.xv_top.proofs.BootLemmas.{one_word}
use Rattle.xv_top.proofs.words.are_right.Goals as goal

pub returns-in-len1 : goal.returns-in-len1
returns-in-len1 c =
    let word = c.word-item.result in
    let one = one_word (λ w. string_bytes w) c.args.words.now word
    (omega (arith, c.in-len1.len_at_least, c.in-len1.len_below)) c.word-item.is in
    let test = c.eq.ensures ∙ (ap (λ w. bytes_eq w c.as_slice.result.now) c.as_bytes.ensures.value
    ∙ ap (bytes_eq (string_bytes word)) c.as_slice.ensures) in
    let same = bytes_eq-Decides (string_bytes word) (codes "boot") in (
      λ h. subst AreRight (sym one) (same.0 (sym test ∙ h)),
      λ h. test ∙ same.1 (subst AreRight one h),
    )
