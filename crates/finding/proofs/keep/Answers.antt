use Rattle.finding.specs.FindingLaws.{keeping_start, keeping-on, keeping-end}
use Rattle.finding.proofs.keep.Goals as goal

pub loop-i-init : goal.loop-i-init
loop-i-init c = keeping_start c.requires.0

pub loop-i-preserved : goal.loop-i-preserved
loop-i-preserved c = keeping-on c.requires.0 c.requires.1 c.loop-i-test.true c.loop-i.invariant

pub returns : goal.returns
returns c = keeping-end c.requires.0 c.requires.1 c.loop-i-test.false c.loop-i.invariant
