use Rattle.std.proofs.Common.{ℕ, ◌+◌, ◌*◌, ◌/◌, ◌%◌, arith, subst}
use Rattle.xv_gstage.specs.Write.{Wrote}
use Rattle.xv_gstage.proofs.FillLemmas.{blocks-of, leaf-fill, leaf-inside, leaf-tidy-after}
use Rattle.xv_gstage.proofs.FillLemmas.{table-inside}
use Rattle.xv_gstage.proofs.tables.write_leaf.Goals as goal

pub overflow_mul-lower : goal.overflow_mul-lower
overflow_mul-lower g c =
    let inside = table-inside c.args.root c.args.map.now c.args.frames.now c.requires.accepted
    c.args.mem.now c.requires.frames c.requires.bounded c.args.lower.used c.requires.tidy 1
    (c.args.page / 512) c.args.lower.table (blocks-of c.args.page c.requires.low).1
    c.requires.pointer in
    let small = inside.1 in
    omega arith

pub overflow_add-lower : goal.overflow_add-lower
overflow_add-lower g c =
    let inside = table-inside c.args.root c.args.map.now c.args.frames.now c.requires.accepted
    c.args.mem.now c.requires.frames c.requires.bounded c.args.lower.used c.requires.tidy 1
    (c.args.page / 512) c.args.lower.table (blocks-of c.args.page c.requires.low).1
    c.requires.pointer in
    let small = inside.1 in
    omega arith

pub write_entry-requires-clause-small : goal.write_entry-requires-clause-small
write_entry-requires-clause-small g c =
    let inside = table-inside c.args.root c.args.map.now c.args.frames.now c.requires.accepted
    c.args.mem.now c.requires.frames c.requires.bounded c.args.lower.used c.requires.tidy 1
    (c.args.page / 512) c.args.lower.table (blocks-of c.args.page c.requires.low).1
    c.requires.pointer in
    let small = inside.1 in
    omega arith

pub write_entry-requires-clause-inside : goal.write_entry-requires-clause-inside
write_entry-requires-clause-inside g c =
    leaf-inside c.args.root c.args.map.now c.args.frames.now c.requires.accepted c.args.mem.now
    c.requires.frames c.requires.bounded c.args.lower.used c.requires.tidy c.args.page
    c.requires.low c.args.lower.table c.requires.pointer

pub returns-clause-filled : goal.returns-clause-filled
returns-clause-filled g c =
    let wrote = subst (λ (word : ℕ). Wrote c.args.mem.now c.write_entry.new.mem
    (512 * c.args.lower.table + c.args.page % 512) word) c.leaf_word.ensures
    c.write_entry.ensures.wrote in
    leaf-fill c.args.root c.args.map.now c.args.frames.now c.requires.accepted c.args.mem.now
    c.requires.frames c.requires.bounded c.args.lower.used c.requires.tidy c.args.page
    c.requires.low c.args.lower.table c.requires.pointer c.write_entry.new.mem c.args.mapping
    c.requires.own c.requires.fits wrote

pub returns-clause-tidy : goal.returns-clause-tidy
returns-clause-tidy g c =
    let wrote = subst (λ (word : ℕ). Wrote c.args.mem.now c.write_entry.new.mem
    (512 * c.args.lower.table + c.args.page % 512) word) c.leaf_word.ensures
    c.write_entry.ensures.wrote in
    leaf-tidy-after c.args.root c.args.map.now c.args.frames.now c.requires.accepted
    c.args.mem.now
    c.requires.frames c.requires.bounded c.args.lower.used c.requires.tidy c.args.page
    c.requires.low c.args.lower.table c.requires.pointer c.write_entry.new.mem c.args.mapping
    c.requires.own c.requires.fits wrote
