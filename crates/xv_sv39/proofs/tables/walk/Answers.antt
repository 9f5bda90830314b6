use Rattle.std.proofs.Common.{◌∙◌, refl, sym, ap, subst, arith, None, ◌-◌}
use Rattle.xv_pte.specs.declared.entry.Kind.TheVariants.{Broken, Leaf}
use Rattle.xv_sv39.proofs.WalkLemmas.{IsOnTheWay, way_starts, reads, reads_kind, way_goes_on}
use Rattle.xv_sv39.proofs.WalkLemmas.{ends_in_fault, ends_addresses}
use Rattle.xv_sv39.proofs.tables.walk.Goals as goal

pub loop-level-init : goal.loop-level-init
loop-level-init g c = record {
  way = way_starts (g.R.Words.table c.args.reader.now) c.args.va c.args.root
      (g.R.Words.addresses c.args.reader.now) c.requires.empty;
  table = refl;
  page = c.requires.root;
  rule = λ start kept. kept;
}

pub entry_address-gpa-requires-clause-page : goal.entry_address-gpa-requires-clause-page
entry_address-gpa-requires-clause-page g c = c.loop-level.invariant.page

pub entry_address-gpa-requires-clause-level : goal.entry_address-gpa-requires-clause-level
entry_address-gpa-requires-clause-level g c =
    omega (arith, c.loop-level.invariant.way.count, c.loop-level-test.true)

pub word-requires-clause-room : goal.word-requires-clause-room
word-requires-clause-room g c = omega
    (arith, c.loop-level.invariant.way.count, c.loop-level-test.true)

pub returns-in_default-clause-end : goal.returns-in_default-clause-end
returns-in_default-clause-end g c =
    sym (ap (λ p. p.end)
    (reads (g.R.Words.table c.args.reader.now) c.args.va c.args.root c.loop-level.level
    c.loop-level.page c.entry_address-gpa.result (g.R.Words.addresses c.loop-level.reader)
    c.loop-level-test.true c.entry_address-gpa.ensures.address c.loop-level.invariant.way None
    (c.in_default.ensures.word
    ∙ ap (λ t. t c.entry_address-gpa.result) c.loop-level.invariant.table)))

pub returns-in_default-clause-addresses : goal.returns-in_default-clause-addresses
returns-in_default-clause-addresses g c =
    c.word.ensures.addresses
    ∙ ap (λ p. p.addresses)
    (reads (g.R.Words.table c.args.reader.now) c.args.va c.args.root c.loop-level.level
    c.loop-level.page c.entry_address-gpa.result (g.R.Words.addresses c.loop-level.reader)
    c.loop-level-test.true c.entry_address-gpa.ensures.address c.loop-level.invariant.way None
    (c.in_default.ensures.word
    ∙ ap (λ t. t c.entry_address-gpa.result) c.loop-level.invariant.table))

pub returns-in_default-clause-table : goal.returns-in_default-clause-table
returns-in_default-clause-table g c = c.word.ensures.table ∙ c.loop-level.invariant.table

pub returns-in-Broken-clause-end : goal.returns-in-Broken-clause-end
returns-in-Broken-clause-end g c =
    sym (ap (λ p. p.end)
    (reads_kind (g.R.Words.table c.args.reader.now) c.args.va c.args.root c.loop-level.level
    c.loop-level.page c.entry_address-gpa.result (g.R.Words.addresses c.loop-level.reader)
    c.loop-level-test.true c.entry_address-gpa.ensures.address c.loop-level.invariant.way
    c.in-Some.entry Broken (c.in-Some.ensures.word
    ∙ ap (λ t. t c.entry_address-gpa.result) c.loop-level.invariant.table)
    c.in-Broken.ensures.kind))

pub returns-in-Broken-clause-addresses : goal.returns-in-Broken-clause-addresses
returns-in-Broken-clause-addresses g c =
    c.word.ensures.addresses
    ∙ ap (λ p. p.addresses)
    (reads_kind (g.R.Words.table c.args.reader.now) c.args.va c.args.root c.loop-level.level
    c.loop-level.page c.entry_address-gpa.result (g.R.Words.addresses c.loop-level.reader)
    c.loop-level-test.true c.entry_address-gpa.ensures.address c.loop-level.invariant.way
    c.in-Some.entry
    Broken (c.in-Some.ensures.word
    ∙ ap (λ t. t c.entry_address-gpa.result) c.loop-level.invariant.table) c.in-Broken.ensures.kind)

pub returns-in-Broken-clause-table : goal.returns-in-Broken-clause-table
returns-in-Broken-clause-table g c = c.word.ensures.table ∙ c.loop-level.invariant.table

pub returns-in-Leaf-clause-end : goal.returns-in-Leaf-clause-end
returns-in-Leaf-clause-end g c =
    sym (ap (λ p. p.end)
    (reads_kind (g.R.Words.table c.args.reader.now) c.args.va c.args.root c.loop-level.level
    c.loop-level.page c.entry_address-gpa.result (g.R.Words.addresses c.loop-level.reader)
    c.loop-level-test.true c.entry_address-gpa.ensures.address c.loop-level.invariant.way
    c.in-Some.entry Leaf (c.in-Some.ensures.word
    ∙ ap (λ t. t c.entry_address-gpa.result) c.loop-level.invariant.table)
    c.in-Leaf.ensures.kind))

pub returns-in-Leaf-clause-addresses : goal.returns-in-Leaf-clause-addresses
returns-in-Leaf-clause-addresses g c =
    c.word.ensures.addresses
    ∙ ap (λ p. p.addresses)
    (reads_kind (g.R.Words.table c.args.reader.now) c.args.va c.args.root c.loop-level.level
    c.loop-level.page c.entry_address-gpa.result (g.R.Words.addresses c.loop-level.reader)
    c.loop-level-test.true c.entry_address-gpa.ensures.address c.loop-level.invariant.way
    c.in-Some.entry
    Leaf (c.in-Some.ensures.word
    ∙ ap (λ t. t c.entry_address-gpa.result) c.loop-level.invariant.table) c.in-Leaf.ensures.kind)

pub returns-in-Leaf-clause-table : goal.returns-in-Leaf-clause-table
returns-in-Leaf-clause-table g c = c.word.ensures.table ∙ c.loop-level.invariant.table

pub returns-in-Leaf-clause-leaf : goal.returns-in-Leaf-clause-leaf
returns-in-Leaf-clause-leaf g c =
    omega (arith, c.loop-level.invariant.way.count, c.loop-level-test.true)

pub loop-level-preserved : goal.loop-level-preserved
loop-level-preserved g c = record {
  way = subst (λ so_far. IsOnTheWay (g.R.Words.table c.args.reader.now) c.args.va c.args.root
      (c.loop-level.level - 1) c.in-Pointer.next so_far) (sym c.word.ensures.addresses)
      (way_goes_on (g.R.Words.table c.args.reader.now) c.args.va c.args.root c.loop-level.level
      c.loop-level.page c.entry_address-gpa.result (g.R.Words.addresses c.loop-level.reader)
      c.loop-level-test.true c.entry_address-gpa.ensures.address c.loop-level.invariant.way
      c.in-Some.entry c.in-Pointer.next (c.in-Some.ensures.word
      ∙ ap (λ t. t c.entry_address-gpa.result) c.loop-level.invariant.table)
      c.in-Pointer.ensures.kind);
  table = c.word.ensures.table ∙ c.loop-level.invariant.table;
  page = c.in-Pointer.ensures.page;
  rule = λ start kept. c.word.ensures.rule start (c.loop-level.invariant.rule start kept);
}

pub returns-clause-end : goal.returns-clause-end
returns-clause-end g c =
    ends_in_fault (g.R.Words.table c.args.reader.now) c.args.va c.args.root c.loop-level.level
    c.loop-level.page (g.R.Words.addresses c.loop-level.reader) c.loop-level-test.false
    c.loop-level.invariant.way

pub returns-clause-addresses : goal.returns-clause-addresses
returns-clause-addresses g c =
    ends_addresses (g.R.Words.table c.args.reader.now) c.args.va c.args.root c.loop-level.level
    c.loop-level.page (g.R.Words.addresses c.loop-level.reader) c.loop-level-test.false
    c.loop-level.invariant.way

pub returns-clause-table : goal.returns-clause-table
returns-clause-table g c = c.loop-level.invariant.table
