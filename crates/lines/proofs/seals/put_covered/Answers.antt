use Rattle.lines.specs.SealsLaws.{covered_one, covered-two, covered_none}
use Rattle.lines.specs.Seals.{one_at, two_at}
use Rattle.groups.specs.Groups.{name_at}
use mathlib.Core.Path.{ap, ◌∙◌}
use Prim.Native.Nat.{ℕ, ◌+◌, ◌-◌}
use native.Mathlib.Omega.{arith}
use Rattle.lines.proofs.seals.put_covered.Goals as goal

pub returns-then-has_scope : goal.returns-then-has_scope
returns-then-has_scope c = record { laid = covered_one (name_at c.args.x.now.t.now.syntax.service c.args.x.now.s.now c.args.start 3) (one_at c.args.x.now.layout c.args.start c.args.end) (two_at c.args.x.now.t.now.syntax.service c.args.x.now.s.now c.args.x.now.rows.now c.args.x.now.layout c.args.start) c.has_scope.ensures c.if-has_scope.true c.put_octets.ensures.laid (ap (λ (k : ℕ). k + c.saturating_sub-body.result) c.saturating_sub-header.ensures ∙ ap (λ (k : ℕ). c.args.end - c.args.start + k) c.saturating_sub-body.ensures); upper_bound = c.put_octets.ensures.upper_bound }

pub returns-then-has_scope-2 : goal.returns-then-has_scope-2
returns-then-has_scope-2 c = record { laid = covered-two (name_at c.args.x.now.t.now.syntax.service c.args.x.now.s.now c.args.start 3) (one_at c.args.x.now.layout c.args.start c.args.end) (two_at c.args.x.now.t.now.syntax.service c.args.x.now.s.now c.args.x.now.rows.now c.args.x.now.layout c.args.start) c.has_scope.ensures c.if-has_scope.false c.has_scope-2.ensures c.if-has_scope-2.true c.to_trailer.ensures c.put_octets-then-has_scope-2.ensures.laid; upper_bound = c.put_octets-then-has_scope-2.ensures.upper_bound }

pub returns : goal.returns
returns c = record { laid = covered_none (name_at c.args.x.now.t.now.syntax.service c.args.x.now.s.now c.args.start 3) (one_at c.args.x.now.layout c.args.start c.args.end) (two_at c.args.x.now.t.now.syntax.service c.args.x.now.s.now c.args.x.now.rows.now c.args.x.now.layout c.args.start) c.has_scope.ensures c.if-has_scope.false c.has_scope-2.ensures c.if-has_scope-2.false; upper_bound = omega arith }
