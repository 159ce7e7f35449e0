use native.Mathlib.Omega.{arith}
use mathlib.Core.Path.{refl}
use Rattle.elements.specs.Octets.{asked_at}
use Rattle.elements.specs.FormedLaws.{formed-at}
use Rattle.elements.specs.declared.Kind.TheVariants.{Unz}
use Rattle.turns.proofs.WalkingLaws.{unz-none, unz-bad, unz-six, unz-other, unz-wrong, unz-read}
use borrow.Author.Rules.{rules}
use Rattle.std.proofs.lemmas.Bool.{not_from_false, not_from_true}
use Rattle.turns.proofs.state.on_unz.Goals as goal

pub returns-then-st-eq0 : goal.returns-then-st-eq0
returns-then-st-eq0 c =
    let g = c in
    unz-none g.args.y g.args.s.now g.args.st g.args.heads.now g.args.names.now g.args.slots.now g.args.at g.args.next g.args.f g.args.marks.now g.requires.ready g.requires.phase_value c.if-st-eq0.true c.stopped.ensures

pub returns-then-not-end_formed : goal.returns-then-not-end_formed
returns-then-not-end_formed c =
    let g = c in
    unz-bad g.args.y g.args.s.now g.args.st g.args.heads.now g.args.names.now g.args.slots.now g.args.at g.args.next g.args.f g.args.marks.now g.requires.ready g.requires.phase_value c.if-st-eq0.false (formed-at _ (asked_at g.args.y.service g.args.s.now g.args.at) g.requires.ready.kind Unz refl c.end_formed.ensures) (not_from_false _ c.if-not-end_formed.true) c.stopped-then-not-end_formed.ensures

pub returns-then-not-is_repeated : goal.returns-then-not-is_repeated
returns-then-not-is_repeated c =
    let g = c in
    unz-other g.args.y g.args.s.now g.args.st g.args.heads.now g.args.names.now g.args.slots.now g.args.at g.args.next g.args.f g.args.marks.now g.requires.ready g.requires.phase_value c.if-st-eq0.false (formed-at _ (asked_at g.args.y.service g.args.s.now g.args.at) g.requires.ready.kind Unz refl c.end_formed.ensures) (not_from_true _ c.if-not-end_formed.false) c.is_repeated.ensures (not_from_false _ c.if-not-is_repeated.true) c.stopped-then-not-is_repeated.ensures

pub number_in-requires : goal.number_in-requires
number_in-requires c =
    let g = c in record { le_p = (omega arith, omega arith, unz-six g.args.y g.args.s.now g.args.st g.args.heads.now g.args.names.now g.args.slots.now g.args.at g.args.next g.args.f g.args.marks.now g.requires.ready g.requires.phase_value c.if-st-eq0.false (formed-at _ (asked_at g.args.y.service g.args.s.now g.args.at) g.requires.ready.kind Unz refl c.end_formed.ensures) (not_from_true _ c.if-not-end_formed.false)) }

pub returns-then-number_in-from : goal.returns-then-number_in-from
returns-then-number_in-from c =
    let g = c in
    unz-wrong g.args.y g.args.s.now g.args.st g.args.heads.now g.args.names.now g.args.slots.now g.args.at g.args.next g.args.f g.args.marks.now g.requires.ready g.requires.phase_value c.if-st-eq0.false (formed-at _ (asked_at g.args.y.service g.args.s.now g.args.at) g.requires.ready.kind Unz refl c.end_formed.ensures) (not_from_true _ c.if-not-end_formed.false) c.is_repeated.ensures (not_from_true _ c.if-not-is_repeated.false) c.number_in.ensures.0 c.from.ensures c.if-number_in-from.true c.stopped-then-number_in-from.ensures

pub returns : goal.returns
returns c =
    let g = c in
    unz-read g.args.y g.args.s.now g.args.st g.args.heads.now g.args.names.now g.args.slots.now g.args.at g.args.next g.args.f g.args.marks.now g.requires.ready g.requires.phase_value c.if-st-eq0.false (formed-at _ (asked_at g.args.y.service g.args.s.now g.args.at) g.requires.ready.kind Unz refl c.end_formed.ensures) (not_from_true _ c.if-not-end_formed.false) c.is_repeated.ensures (not_from_true _ c.if-not-is_repeated.false) c.number_in.ensures.0 c.from.ensures c.if-number_in-from.false c.after_other.ensures
