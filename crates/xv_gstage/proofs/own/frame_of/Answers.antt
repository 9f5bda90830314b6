use Rattle.std.proofs.Common.{sym}
use Rattle.xv_gstage.proofs.OwnLemmas.{frame-alias, frame-kind, frame-none, frame-past, frame-ram}
use Rattle.xv_gstage.proofs.OwnLemmas.{frame-reserved, frame-rom}
use Rattle.xv_gstage.proofs.own.frame_of.Goals as goal

pub returns-then-number-regions : goal.returns-then-number-regions
returns-then-number-regions c =
    sym (frame-past c.args.regions.now c.args.frames.now c.args.number c.args.index
    c.if-number-regions.true)

pub returns-then-index-region : goal.returns-then-index-region
returns-then-index-region c =
    frame-none c.args.regions.now c.args.frames.now c.args.number c.args.index
    c.index-regions-number.result c.if-number-regions.false c.index-regions-number.is
    c.if-index-region.true

pub returns-in-Ram : goal.returns-in-Ram
returns-in-Ram c =
    rw c.pages_of-first.ensures.sum
    (frame-ram c.args.regions.now c.args.frames.now c.args.number c.args.index
    c.index-regions-number.result c.if-number-regions.false c.index-regions-number.is
    c.if-index-region.false c.requires.room c.in-Ram.is)

pub returns-in-Rom : goal.returns-in-Rom
returns-in-Rom c =
    rw c.pages_of-first.ensures.sum
    (frame-rom c.args.regions.now c.args.frames.now c.args.number c.args.index
    c.index-regions-number.result c.if-number-regions.false c.index-regions-number.is
    c.if-index-region.false c.requires.room c.in-Rom.is)

pub returns-in-Reserved : goal.returns-in-Reserved
returns-in-Reserved c =
    frame-reserved c.args.regions.now c.args.frames.now c.args.number c.args.index
    c.index-regions-number.result c.if-number-regions.false c.index-regions-number.is
    c.if-index-region.false c.in-Reserved.host c.in-Reserved.is

pub returns-in-Alias : goal.returns-in-Alias
returns-in-Alias c =
    frame-alias c.args.regions.now c.args.frames.now c.args.number c.args.index
    c.index-regions-number.result c.if-number-regions.false c.index-regions-number.is
    c.if-index-region.false c.in-Alias.target c.in-Alias.is

pub returns-in-Device : goal.returns-in-Device
returns-in-Device c =
    sym (frame-kind c.args.regions.now c.args.frames.now c.args.number c.args.index
    c.index-regions-number.result c.if-number-regions.false c.index-regions-number.is _
    c.in-Device.is)
