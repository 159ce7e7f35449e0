use Prim.Native.Nat.{◌-◌}
use native.Mathlib.Nat.{zero-add}
use mathlib.Core.Path.{sym}
use lib.ListN.{length}
use Rattle.syntax.specs.Content.{content}
use Rattle.syntax.proofs.ContentLaws.{Lengthening, lengthening-end, lengthening-less, lengthening-fits, lengthening-on}
use borrow.Author.Rules.{rules}
use Rattle.syntax.proofs.content.content_length.Goals as goal

pub loop-j-init : goal.loop-j-init
loop-j-init c = record { few = search rules; sums = sym (zero-add _) }

pub overflow_add-n : goal.overflow_add-n
overflow_add-n c = let g = c in
    let h = lengthening-fits g.loop-j.invariant g.next_octet.ensures c.in-Some.is in
    search rules

pub loop-j-smaller : goal.loop-j-smaller
loop-j-smaller c = search (lengthening-less, lengthening-fits, rules)

pub loop-j-preserved : goal.loop-j-preserved
loop-j-preserved c = search (lengthening-on, rules)

pub returns : goal.returns
returns c = search (lengthening-end, rules)
