use Rattle.syntax.proofs.BareLaws.{compared-alike}
use Rattle.std.proofs.lemmas.Slice.Eq.{slice_eq-Decides}
use Rattle.std.proofs.lemmas.Bool.Decides.{Decides-eqb}
use borrow.Author.Rules.{rules}
use Rattle.syntax.proofs.content.same_reference.Goals as goal

pub returns-then-eq : goal.returns-then-eq
returns-then-eq c = compared-alike c.if-release-other.true (let d = slice_eq-Decides Decides-eqb c.args.x.now c.args.z.now _ c.eq.ensures in d.0 c.if-eq.true)
