-- The sum is the encoding, which fits 32 bits and is the one word of the instruction.
use Rattle.std.proofs.Common.{sym, ap, ◌∙◌, arith}
use Rattle.xv_isa.specs.Operands.{decode_of}
use Rattle.xv_isa.proofs.RoundTrip.{fits_row, row_encodes, encode_small, encode_decodes}
use Rattle.xv_isa.proofs.RoundTrip.{word_decodes}
use Rattle.xv_isa.proofs.encoder.encode.Goals as goal

pub operand_bits-requires : goal.operand_bits-requires
operand_bits-requires c =
    fits_row c.args.insn.now c.row_at-row.result.now c.requires c.row_at-row.ensures

pub overflow_add-result : goal.overflow_add-result
overflow_add-result c =
    let e = row_encodes c.args.insn.now c.row_at-row.result.now c.operand_bits.result
    c.row_at-row.ensures c.operand_bits.ensures in
    let small = encode_small c.args.insn.now c.requires in
    omega arith

pub returns-clause-value : goal.returns-clause-value
returns-clause-value c =
    row_encodes c.args.insn.now c.row_at-row.result.now c.operand_bits.result c.row_at-row.ensures
    c.operand_bits.ensures

pub returns-clause-decodes : goal.returns-clause-decodes
returns-clause-decodes c =
    ap decode_of
    (row_encodes c.args.insn.now c.row_at-row.result.now c.operand_bits.result
    c.row_at-row.ensures c.operand_bits.ensures)
    ∙ encode_decodes c.args.insn.now c.requires

pub returns-clause-only : goal.returns-clause-only
returns-clause-only c = λ word small d.
    word_decodes word c.args.insn.now small d
    ∙ sym (row_encodes c.args.insn.now c.row_at-row.result.now c.operand_bits.result
    c.row_at-row.ensures c.operand_bits.ensures)
