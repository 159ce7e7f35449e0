use Prim.Native.Nat.{◌-◌}
use mathlib.Core.Path.{refl}
use lib.ListN.{length}
use Rattle.syntax.specs.Content.{content}
use Rattle.syntax.specs.Octets.{same}
use Rattle.syntax.proofs.ContentLaws.{Spelling, spelling-end, spelling-less, spelling-short, spelling-other, spelling-on}
use borrow.Author.Rules.{rules}
use Rattle.syntax.proofs.content.content_is.Goals as goal

pub loop-b-init : goal.loop-b-init
loop-b-init c = record { in-text = search rules; spells = refl }

pub returns-then-t-k : goal.returns-then-t-k
returns-then-t-k c = search (spelling-short, rules)

pub returns-then-b-t : goal.returns-then-b-t
returns-then-b-t c = search (spelling-other, rules)

pub loop-b-smaller : goal.loop-b-smaller
loop-b-smaller c = search (spelling-less, rules)

pub loop-b-preserved : goal.loop-b-preserved
loop-b-preserved c = search (spelling-on, rules)

pub returns : goal.returns
returns c = search (spelling-end, rules)
