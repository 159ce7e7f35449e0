use Prim.Native.Nat.{◌-◌}
use lib.ListN.{length}
use Rattle.syntax.specs.Content.{content}
use Rattle.syntax.specs.Scanning.{number_in}
use Rattle.syntax.proofs.ContentLaws.{Numbering, numbering-starts, numbering-fits, numbering-none, numbering-end, numbering-less, numbering-below, numbering-above, numbering-long, numbering-on}
use borrow.Author.Rules.{rules}
use Rattle.syntax.proofs.content.digits_value.Goals as goal

pub loop-b-init : goal.loop-b-init
loop-b-init c = numbering-starts _ _

pub returns-then-b-lt48 : goal.returns-then-b-lt48
returns-then-b-lt48 c = search (numbering-below, rules)

pub returns-then-b-gt57 : goal.returns-then-b-gt57
returns-then-b-gt57 c = search (numbering-above, rules)

pub returns-then-n-ge15 : goal.returns-then-n-ge15
returns-then-n-ge15 c = search (numbering-long, rules)

pub overflow_mul-v : goal.overflow_mul-v
overflow_mul-v c = let g = c in
    let h = numbering-fits g.loop-b.invariant c.if-n-ge15.false in
    search rules

pub overflow_add-v : goal.overflow_add-v
overflow_add-v c = let g = c in
    let h = numbering-fits g.loop-b.invariant c.if-n-ge15.false in
    search rules

pub loop-b-smaller : goal.loop-b-smaller
loop-b-smaller c = search (numbering-less, rules)

pub loop-b-preserved : goal.loop-b-preserved
loop-b-preserved c = search (numbering-on, rules)

pub returns-then-n-eq0 : goal.returns-then-n-eq0
returns-then-n-eq0 c = search (numbering-none, rules)

pub returns : goal.returns
returns c = search (numbering-end, rules)
