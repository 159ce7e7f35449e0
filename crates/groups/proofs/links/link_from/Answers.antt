use Rattle.syntax.specs.Content.{compared}
use Prim.Native.Nat.{◌-◌}
use native.Mathlib.Omega.{arith}
use mathlib.Core.Path.{refl}
use borrow.Author.Rules.{rules}
use lib.ListN.{length}
use Rattle.groups.specs.LinksLaws.{Linking, linking-start, linking-on, linking-hit, linking-none, linking-end, ends-in}
use Rattle.groups.proofs.links.link_from.Goals as goal

pub loop-at-init : goal.loop-at-init
loop-at-init c = linking-start

pub last_usx-x-requires : goal.last_usx-x-requires
last_usx-x-requires c = let h = ends-in c.args.t.now.syntax.service c.args.s.now c.loop-at.at c.stop.ensures c.in-Some.is in search rules

pub names_header-requires : goal.names_header-requires
names_header-requires c = let h = ends-in c.args.t.now.syntax.service c.args.s.now c.loop-at.at c.stop.ensures c.in-Some.is in search rules

pub returns-then-names_header : goal.returns-then-names_header
returns-then-names_header c = linking-hit c.requires.t c.loop-at.invariant c.loop-at-test.true c.stop.ensures c.last_usx-x.ensures c.names_header.ensures c.if-names_header.true

pub overflow_add-next : goal.overflow_add-next
overflow_add-next c = let h = ends-in c.args.t.now.syntax.service c.args.s.now c.loop-at.at c.stop.ensures c.in-Some.is in search rules

pub loop-at-smaller : goal.loop-at-smaller
loop-at-smaller c = let h = ends-in c.args.t.now.syntax.service c.args.s.now c.loop-at.at c.stop.ensures c.in-Some.is in omega (arith, h)

pub loop-at-preserved : goal.loop-at-preserved
loop-at-preserved c = linking-on c.requires.t c.loop-at.invariant c.loop-at-test.true c.stop.ensures c.last_usx-x.ensures c.names_header.ensures c.in-Some.is c.if-names_header.false refl

pub returns-in-None : goal.returns-in-None
returns-in-None c = linking-none c.requires.t c.loop-at.invariant c.loop-at-test.true c.stop.ensures c.in-None.is

pub returns : goal.returns
returns c = linking-end c.loop-at.invariant c.loop-at-test.false
