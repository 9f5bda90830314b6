use Rattle.xv_gstage.proofs.EagerLemmas.{frames-after, tidy-zero, unled-zero}
use Rattle.xv_gstage.proofs.StandsLemmas.{all-filled, all-right, off-ground, other-walks}
use Rattle.xv_gstage.proofs.StandsLemmas.{pages-same}
use Rattle.xv_gstage.proofs.StandsLemmas.{right-cell, tidy-tables}
use Rattle.xv_gstage.proofs.eager.map.Goals as goal

pub fill_all-requires-clause-tidy : goal.fill_all-requires-clause-tidy
fill_all-requires-clause-tidy g c =
    tidy-zero c.args.mem.now c.args.root c.args.map.now c.args.frames.now c.requires.root
    c.requires.zeros

pub fill_all-requires-clause-unled : goal.fill_all-requires-clause-unled
fill_all-requires-clause-unled g c = unled-zero c.args.mem.now c.args.root c.requires.root

pub returns-clause-right : goal.returns-clause-right
returns-clause-right g c =
    right-cell c.args.map.now c.regions-regions.ensures.accepted c.args.frames.now
    c.fill_all.new.mem
    c.args.root
    (frames-after c.args.mem.now c.args.root c.args.map.now c.args.frames.now c.fill_all.new.mem
    c.fill_all.ensures.outside c.requires.frames)
    c.fill_all.ensures.led

pub returns-clause-filled : goal.returns-clause-filled
returns-clause-filled g c =
    all-filled c.args.map.now c.regions-regions.ensures.accepted c.args.frames.now
    c.fill_all.new.mem
    c.args.root
    (frames-after c.args.mem.now c.args.root c.args.map.now c.args.frames.now c.fill_all.new.mem
    c.fill_all.ensures.outside c.requires.frames)
    c.fill_all.ensures.led

pub returns-clause-audited : goal.returns-clause-audited
returns-clause-audited g c =
    all-right c.args.map.now c.regions-regions.ensures.accepted c.args.frames.now
    c.fill_all.new.mem
    c.args.root
    (frames-after c.args.mem.now c.args.root c.args.map.now c.args.frames.now c.fill_all.new.mem
    c.fill_all.ensures.outside c.requires.frames)
    c.fill_all.ensures.led

pub returns-clause-ground : goal.returns-clause-ground
returns-clause-ground g c =
    off-ground c.args.map.now c.regions-regions.ensures.accepted c.args.frames.now
    c.fill_all.new.mem
    c.args.root
    (frames-after c.args.mem.now c.args.root c.args.map.now c.args.frames.now c.fill_all.new.mem
    c.fill_all.ensures.outside c.requires.frames)
    c.fill_all.ensures.led c.requires.apart c.fill_all.ensures.tidy.0
    c.fill_all.ensures.tidy.1

pub returns-clause-tables : goal.returns-clause-tables
returns-clause-tables g c =
    tidy-tables c.fill_all.new.mem c.args.root c.args.map.now c.args.frames.now
    (frames-after c.args.mem.now c.args.root c.args.map.now c.args.frames.now c.fill_all.new.mem
    c.fill_all.ensures.outside c.requires.frames)
    c.fill_all.ensures.tidy

pub returns-clause-others : goal.returns-clause-others
returns-clause-others g c =
    other-walks c.args.mem.now c.fill_all.new.mem c.args.root _ c.fill_all.ensures.outside

pub returns-clause-pages : goal.returns-clause-pages
returns-clause-pages g c =
    pages-same c.args.mem.now c.fill_all.new.mem c.args.root c.args.map.now c.args.frames.now
    c.requires.frames c.fill_all.ensures.outside
