use Prim.Native.Nat.{◌-◌, ◌+◌}
use lib.ListN.{get_or}
use Rattle.syntax.specs.Content.{content, compared}
use native.Mathlib.Omega.{arith}
use mathlib.Core.Path.{refl, sym, ◌∙◌}
use borrow.Author.Rules.{rules}
use Rattle.groups.specs.LinksLaws.{ref-name-is}
use Rattle.groups.specs.GroupsLaws.{Seeking, seeking-on, seeking-hit, seeking-end}
use Rattle.groups.proofs.named.group_like.Given as goal

abbrev pub invariant-loop-i : goal.invariant-loop-i
invariant-loop-i l = Seeking l.t.syntax.service l.s l.rows l.first l.element (compared (content l.release l.x)) l.initial.i l.initial.end l.i l.end

abbrev pub decreases-loop-i : goal.decreases-loop-i
decreases-loop-i l = l.i
