use Rattle.finding.specs.FindingLaws.{found-bare}
use Rattle.finding.proofs.find.Goals as goal

pub returns-then-s-le2048 : goal.returns-then-s-le2048
returns-then-s-le2048 c =
    let g = c in
    found-bare g.args.t.now.syntax g.args.s.now g.args.from g.args.other g.args.reference.now c.bare-bared.result.now c.find_within.result c.find_within.new.rows
    c.bare-bared.ensures c.find_within.ensures

pub returns : goal.returns
returns c =
    let g = c in
    found-bare g.args.t.now.syntax g.args.s.now g.args.from g.args.other g.args.reference.now c.bare-bared.result.now c.find_within-2.result c.find_within-2.new.rows
    c.bare-bared.ensures c.find_within-2.ensures
