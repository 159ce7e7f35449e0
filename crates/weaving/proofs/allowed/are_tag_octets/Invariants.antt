use Rattle.syntax.specs.Repertoire.{tag_octet}
use Rattle.weaving.specs.ValueLaws.{Testing}
use Rattle.weaving.proofs.allowed.are_tag_octets.Given as goal

abbrev pub invariant-loop-b : goal.invariant-loop-b
invariant-loop-b l = Testing tag_octet l.reference l.b-index
