use Rattle.demands.specs.ReportedLaws.{scope2-reported}
use Rattle.demands.proofs.report_counts_scope2.Goals as goal

pub returns : goal.returns
returns c = scope2-reported
