use Rattle.moves.specs.NumberLaws.{number-old, number-new}
use Rattle.moves.proofs.reading.read_number.Goals as goal

pub returns-in-Old : goal.returns-in-Old
returns-in-Old c = number-old c.args.form _ _ _ _ c.in-Old.is c.read_octets.ensures

pub returns-in-Small : goal.returns-in-Small
returns-in-Small c = number-new c.args.form _ _ _ _ c.in-Small.is c.read.ensures
