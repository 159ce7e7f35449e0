use Rattle.syntax.specs.Content.{compared}
use Prim.Native.Nat.{◌-◌}
use native.Mathlib.Omega.{arith}
use mathlib.Core.Path.{refl}
use borrow.Author.Rules.{rules}
use lib.ListN.{length}
use Rattle.groups.specs.LinksLaws.{Linking, linking-start, linking-on, linking-hit, linking-none, linking-end, ends-in}
use Rattle.groups.proofs.links.link_from.Given as goal

abbrev pub invariant-loop-at : goal.invariant-loop-at
invariant-loop-at l = Linking l.t.syntax.service l.s (compared l.reference) l.body l.tail l.usx l.at

abbrev pub decreases-loop-at : goal.decreases-loop-at
decreases-loop-at l = length l.s - l.at
