use Rattle.std.proofs.Common.{◌∙◌, refl}
use Rattle.sha.specs.ShaLaws.{eight-of}
use Rattle.sha.proofs.length_octets.Goals as goal

pub returns : goal.returns
returns c = c.to_be_bytes.ensures ∙ eight-of c.args.n _ refl
