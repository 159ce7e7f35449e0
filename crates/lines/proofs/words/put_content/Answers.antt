use native.Mathlib.Omega.{arith}
use Rattle.lines.specs.WordsLaws.{contenting-start, contenting-inside, contenting-on, contenting-end}
use mathlib.Core.Path.{refl}
use borrow.Author.Rules.{rules}
use Rattle.lines.proofs.words.put_content.Goals as goal

pub loop-b-init : goal.loop-b-init
loop-b-init c = (contenting-start, refl)

pub overflow_add-p : goal.overflow_add-p
overflow_add-p c = let k = contenting-inside c.loop-b.invariant.0 c.next_octet.ensures c.in-Some.is in omega (arith, k.0, k.1, c.loop-b.invariant.0.near, c.requires)

pub loop-b-smaller : goal.loop-b-smaller
loop-b-smaller c = let k = contenting-inside c.loop-b.invariant.0 c.next_octet.ensures c.in-Some.is in omega (arith, k.0, k.1)

pub loop-b-preserved : goal.loop-b-preserved
loop-b-preserved c = (contenting-on c.loop-b.invariant.0 c.next_octet.ensures c.in-Some.is c.store.ensures, search rules)

pub returns : goal.returns
returns c = let both = contenting-end c.loop-b.invariant.0 c.next_octet.ensures c.in_default.is in record { laid = both.0; upper_bound = both.1 }
