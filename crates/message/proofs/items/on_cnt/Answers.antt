use Rattle.syntax.specs.Content.{content}
use native.Mathlib.Omega.{arith}
use Rattle.elements.specs.AmountsLaws.{unit-fits}
use Rattle.message.specs.ItemsLaws.{cnt-plain, cnt-control, cnt-bad, cnt-unknown, control-signed}
use borrow.Author.Rules.{rules}
use Rattle.std.proofs.lemmas.Bool.{not_from_false, not_from_true}
use Rattle.message.proofs.items.on_cnt.Goals as goal

pub returns-then-not-content_is : goal.returns-then-not-content_is
returns-then-not-content_is c =
    let g = c in
    cnt-plain g.args.g.now.syntax.service g.args.g.now.octets.now g.args.g.now.at g.args.m c.field.ensures c.content_is.ensures (not_from_false _ c.if-not-content_is.true) c.with_sums.ensures

pub amount_in-requires : goal.amount_in-requires
amount_in-requires c =
    let g = c in
    unit-fits (content g.args.g.now.syntax.service.release c.field-2.result.now) 12 9 c.unit_in.ensures (omega arith, omega arith) c.in-Some.is

pub with_control-requires : goal.with_control-requires
with_control-requires c = search (control-signed, rules)

pub with_sums-requires-in-Some-amount_in : goal.with_sums-requires-in-Some-amount_in
with_sums-requires-in-Some-amount_in c =
    let g = c in
    g.requires.segments_bound

pub with_sums-requires-in-None-amount_in : goal.with_sums-requires-in-None-amount_in
with_sums-requires-in-None-amount_in c =
    let g = c in
    g.requires.segments_bound

pub returns-in-Some-amount_in : goal.returns-in-Some-amount_in
returns-in-Some-amount_in c =
    let g = c in
    cnt-control g.args.g.now.syntax.service g.args.g.now.octets.now g.args.g.now.at g.args.m c.field.ensures c.content_is.ensures g.requires.at_value (not_from_true _ c.if-not-content_is.false) c.field-2.ensures c.unit_in.ensures c.in-Some.is c.field-in-Some.ensures c.amount_in.ensures c.in-Some-amount_in.is c.with_control.ensures c.with_sums-in-Some-amount_in.ensures

pub returns-in-None-amount_in : goal.returns-in-None-amount_in
returns-in-None-amount_in c =
    let g = c in
    absurd (cnt-bad g.args.g.now.syntax.service g.args.g.now.octets.now g.args.g.now.at g.args.m c.field.ensures c.content_is.ensures g.requires.at_value (not_from_true _ c.if-not-content_is.false) c.field-2.ensures c.unit_in.ensures c.in-Some.is c.field-in-Some.ensures c.amount_in.ensures c.in-None-amount_in.is)

pub returns-in-None : goal.returns-in-None
returns-in-None c =
    let g = c in
    absurd (cnt-unknown g.args.g.now.syntax.service g.args.g.now.octets.now g.args.g.now.at g.args.m c.field.ensures c.content_is.ensures g.requires.at_value (not_from_true _ c.if-not-content_is.false) c.field-2.ensures c.unit_in.ensures c.in-None.is)
