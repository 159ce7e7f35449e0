use Rattle.std.proofs.Common.{arith}
use Rattle.forms.specs.FormsLaws.{laid-old, laid-new}
use Rattle.forms.proofs.put_number.Goals as goal

pub returns-in-Old : goal.returns-in-Old
returns-in-Old c =
    let both = laid-old _ c.args.k _ c.in-Old.is (omega arith) c.put_octets.ensures in
    record { laid = both.0; upper_bound = both.1 }

pub returns-in-Small : goal.returns-in-Small
returns-in-Small c =
    let both = laid-new _ c.args.k _ c.in-Small.is (c.write.ensures.laid, c.write.ensures.upper_bound) in
    record { laid = both.0; upper_bound = both.1 }
