use Prim.Native.Nat.{◌-◌, ◌+◌}
use lib.ListN.{get_or}
use Rattle.syntax.specs.Content.{content, compared}
use native.Mathlib.Omega.{arith}
use mathlib.Core.Path.{refl, sym, ◌∙◌}
use borrow.Author.Rules.{rules}
use Rattle.groups.specs.LinksLaws.{ref-name-is}
use Rattle.groups.specs.GroupsLaws.{Seeking, seeking-on, seeking-hit, seeking-end}
use Rattle.groups.proofs.named.group_like.Goals as goal

pub loop-i-init : goal.loop-i-init
loop-i-init c = record { room = c.requires.count_bound.0; fewer = omega arith; same = refl }

pub returns-then-same_reference : goal.returns-then-same_reference
returns-then-same_reference c = seeking-hit _ _ c.loop-i.invariant c.loop-i-test.true refl refl (sym (ref-name-is c.args.t.now.syntax.service c.args.s.now (get_or c.args.rows.now (c.args.g.first + (c.loop-i.i - 1)) 0) c.args.g.element (compared (content c.args.release c.args.x.now)) c.component_part.ensures c.same_reference.ensures) ∙ c.if-same_reference.true)

pub loop-i-preserved : goal.loop-i-preserved
loop-i-preserved c = seeking-on _ _ c.loop-i.invariant c.loop-i-test.true refl refl (sym (ref-name-is c.args.t.now.syntax.service c.args.s.now (get_or c.args.rows.now (c.args.g.first + (c.loop-i.i - 1)) 0) c.args.g.element (compared (content c.args.release c.args.x.now)) c.component_part.ensures c.same_reference.ensures) ∙ c.if-same_reference.false)

pub returns : goal.returns
returns c = seeking-end c.loop-i.invariant c.loop-i-test.false
