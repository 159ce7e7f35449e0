use Rattle.forms.specs.FormsLaws.{octets-laid}
use Rattle.forms.proofs.put_octets.Goals as goal

pub returns : goal.returns
returns c = octets-laid c.args.k c.args.n c.requires.1 c.to_be_bytes.ensures c.put.ensures
