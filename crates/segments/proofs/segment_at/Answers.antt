use Rattle.segments.specs.Checked.{ends-in}
use Rattle.segments.proofs.segment_at.Goals as goal

pub tagged-requires : goal.tagged-requires
tagged-requires c = ends-in c.args.t.now.syntax c.args.s.now c.args.at c.scan.ensures c.in-Ends.is
