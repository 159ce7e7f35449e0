use native.Mathlib.Omega.{arith}
use mathlib.Core.Path.{refl}
use Rattle.elements.specs.Octets.{asked_at}
use Rattle.elements.specs.FormedLaws.{formed-at}
use Rattle.elements.specs.declared.Kind.TheVariants.{Unh}
use Rattle.turns.proofs.WalkingLaws.{offer-at, unh-bad, unh-name, unh-again, unh-read}
use borrow.Author.Rules.{rules}
use Rattle.std.proofs.lemmas.Bool.{not_from_false, not_from_true}
use Rattle.turns.proofs.state.on_unh.Goals as goal

pub returns-then-not-unh_formed : goal.returns-then-not-unh_formed
returns-then-not-unh_formed c =
    let g = c in
    unh-bad g.args.t.now.syntax g.args.s.now g.args.st g.args.heads.now g.args.names.now g.args.slots.now g.args.at g.args.next g.args.f g.args.marks.now g.requires.ready g.requires.phase_value (formed-at _ (asked_at g.args.t.now.syntax.service g.args.s.now g.args.at) g.requires.ready.kind Unh refl c.unh_formed.ensures) (not_from_false _ c.if-not-unh_formed.true) c.stopped.ensures

pub field-x-requires : goal.field-x-requires
field-x-requires c = record { le_p = (omega arith, omega arith, omega arith) }

pub offer-requires : goal.offer-requires
offer-requires c =
    let g = c in record { indexed = g.requires.ready.held.indexed; x_len_bound = unh-name g.args.t.now.syntax g.args.s.now g.args.st g.args.heads.now g.args.names.now g.args.slots.now g.args.at g.args.next g.args.f g.args.marks.now g.requires.ready g.requires.phase_value (formed-at _ (asked_at g.args.t.now.syntax.service g.args.s.now g.args.at) g.requires.ready.kind Unh refl c.unh_formed.ensures) (not_from_true _ c.if-not-unh_formed.false) c.bare-z.result.now c.field-x.ensures c.bare-z.ensures }

pub subset_in-requires : goal.subset_in-requires
subset_in-requires c = let g = c in record { marked = (g.requires.ready.noted refl).marks }

pub stretch_in-requires : goal.stretch_in-requires
stretch_in-requires c = (c.requires.ready.marks, omega arith, omega arith)

pub returns-in-None : goal.returns-in-None
returns-in-None c =
    let g = c in
    unh-again g.args.t.now.syntax g.args.s.now g.args.st g.args.heads.now g.args.names.now g.args.slots.now g.args.at g.args.next g.args.f g.args.marks.now g.requires.ready g.requires.phase_value (formed-at _ (asked_at g.args.t.now.syntax.service g.args.s.now g.args.at) g.requires.ready.kind Unh refl c.unh_formed.ensures) (not_from_true _ c.if-not-unh_formed.false) c.bare-z.result.now c.field-x.ensures c.bare-z.ensures _ c.offer.result c.offer.ensures c.in-None.is c.stopped-in-None.ensures

pub shape_of-names-in-Some : goal.shape_of-names-in-Some
shape_of-names-in-Some c = let o = c.offer in search rules

pub returns-in-Some : goal.returns-in-Some
returns-in-Some c =
    let g = c in
    unh-read g.args.t.now.syntax g.args.s.now g.args.st g.args.heads.now g.args.names.now g.args.slots.now g.args.at g.args.next g.args.f g.args.marks.now g.requires.ready g.requires.phase_value (formed-at _ (asked_at g.args.t.now.syntax.service g.args.s.now g.args.at) g.requires.ready.kind Unh refl c.unh_formed.ensures) (not_from_true _ c.if-not-unh_formed.false) c.bare-z.result.now c.field-x.ensures c.bare-z.ensures (offer-at c.offer.result c.offer.ensures c.in-Some.is) c.subset_in.ensures c.fresh_message-m.ensures c.stretch_in.ensures c.after_unh.ensures
