use native.Mathlib.Omega.{arith}
use mathlib.Core.Path.{◌∙◌}
use borrow.Author.Tests.{not-true, not-false}
use Rattle.message.specs.StepsLaws.{marked-between, ush-named, ush-scope, ush-moved}
use borrow.Author.Rules.{rules}
use Rattle.std.proofs.lemmas.Bool.{not_from_false, not_from_true}
use Rattle.message.proofs.steps.on_ush.Goals as goal

pub returns-then-header_named : goal.returns-then-header_named
returns-then-header_named c = record { by_index = ush-named c.args.g.now.syntax.service c.args.g.now.octets.now c.args.g.now.at c.args.m c.args.heads.now c.field-x.ensures c.header_named.ensures _ c.if-header_named.true; heads_len = c.requires.headers_bound.2 }

pub returns-then-not-scope_right : goal.returns-then-not-scope_right
returns-then-not-scope_right c = record { by_index = ush-scope c.args.g.now.syntax.service c.args.g.now.octets.now c.args.g.now.at c.args.m c.args.heads.now c.field-x.ensures c.header_named.ensures c.if-header_named.false c.scope_right.ensures _ (not-true _ (not_from_false _ c.if-not-scope_right.true)); heads_len = c.requires.headers_bound.2 }

pub push_header-requires : goal.push_header-requires
push_header-requires c = record { n_bound = c.requires.headers_bound.0; heads_len = c.requires.headers_bound.2 }

pub with_header-requires : goal.with_header-requires
with_header-requires c = (c.requires.headers_bound.0, c.requires.headers_bound.1)

pub returns : goal.returns
returns c = record { by_index = ush-moved c.args.g.now.syntax.service c.args.g.now.octets.now c.args.g.now.at c.args.m c.args.heads.now c.field-x.ensures c.header_named.ensures c.if-header_named.false c.scope_right.ensures (not-false _ (not_from_true _ c.if-not-scope_right.false)) c.requires.roomy c.requires.headers_bound.0 c.push_header.ensures (marked-between c.args.g.now.marked {p = 2} {c = 0} (omega arith) (omega arith) (omega arith) c.field_start-b.ensures c.field_end-e.ensures) c.with_header.ensures; heads_len = c.push_header.ensures.long ∙ c.requires.headers_bound.2 }
