use Rattle.demands.specs.ReportedLaws.{scope1-reported}
use Rattle.demands.proofs.report_counts_scope1.Goals as goal

pub returns : goal.returns
returns c = scope1-reported
