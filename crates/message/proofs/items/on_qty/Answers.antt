use Rattle.syntax.specs.Content.{content}
use mathlib.Core.Path.{refl}
use native.Mathlib.Omega.{arith}
use Rattle.elements.specs.AmountsLaws.{unit-fits}
use Rattle.message.specs.ItemsLaws.{qty-many, qty-few, qty-unknown, qty-load, qty-bad, load_fits}
use borrow.Author.Rules.{rules}
use Rattle.message.proofs.items.on_qty.Goals as goal

pub returns-then-f-ne1 : goal.returns-then-f-ne1
returns-then-f-ne1 c =
    let g = c in
    qty-many g.args.g.now.syntax.service g.args.g.now.octets.now g.args.g.now.at g.args.m c.with_sums.ensures g.requires.fields.sizes c.if-f-ne1.true

pub returns-then-parts-ne3 : goal.returns-then-parts-ne3
returns-then-parts-ne3 c =
    let g = c in
    qty-few g.args.g.now.syntax.service g.args.g.now.octets.now g.args.g.now.at g.args.m c.with_sums-then-parts-ne3.ensures c.parts.ensures c.if-parts-ne3.true

pub amount_in-requires : goal.amount_in-requires
amount_in-requires c =
    let g = c in
    unit-fits (content g.args.g.now.syntax.service.release c.field.result.now) 9 6 c.unit_in.ensures (omega arith, omega arith) c.in-Some.is

pub with_load-requires : goal.with_load-requires
with_load-requires c =
    let g = c in
    load_fits (content g.args.g.now.syntax.service.release c.field.result.now) (content g.args.g.now.syntax.service.release c.field-in-Some.result.now) g.args.m g.requires.segments_bound c.unit_in.ensures c.in-Some.is c.amount_in.ensures c.in-Some-amount_in.is

pub with_sums-requires-in-Some-amount_in : goal.with_sums-requires-in-Some-amount_in
with_sums-requires-in-Some-amount_in c =
    let g = c in
    g.requires.segments_bound.0

pub returns-in-Some-amount_in : goal.returns-in-Some-amount_in
returns-in-Some-amount_in c =
    let g = c in
    qty-load g.args.g.now.syntax.service g.args.g.now.octets.now g.args.g.now.at g.args.m g.requires.at_value g.requires.fields.sizes c.if-f-ne1.false c.parts.ensures c.if-parts-ne3.false c.field.ensures c.unit_in.ensures c.in-Some.is c.field-in-Some.ensures c.amount_in.ensures c.in-Some-amount_in.is c.with_load.ensures c.with_sums-in-Some-amount_in.ensures

pub returns-in-None-amount_in : goal.returns-in-None-amount_in
returns-in-None-amount_in c =
    let g = c in
    qty-bad g.args.g.now.syntax.service g.args.g.now.octets.now g.args.g.now.at g.args.m g.requires.at_value g.requires.fields.sizes c.if-f-ne1.false c.parts.ensures c.if-parts-ne3.false c.field.ensures c.unit_in.ensures c.in-Some.is c.field-in-Some.ensures c.amount_in.ensures c.in-None-amount_in.is refl

pub returns-in-None : goal.returns-in-None
returns-in-None c =
    let g = c in
    qty-unknown g.args.g.now.syntax.service g.args.g.now.octets.now g.args.g.now.at g.args.m c.with_sums-in-None.ensures c.field.ensures c.unit_in.ensures c.in-None.is
