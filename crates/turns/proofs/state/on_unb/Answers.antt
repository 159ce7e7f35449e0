use mathlib.Core.Path.{refl}
use Rattle.elements.specs.Octets.{asked_at}
use Rattle.elements.specs.FormedLaws.{formed-at}
use Rattle.elements.specs.declared.Kind.TheVariants.{Unb}
use Rattle.turns.proofs.WalkingLaws.{unb-bad, unb-read}
use borrow.Author.Rules.{rules}
use Rattle.std.proofs.lemmas.Bool.{not_from_false, not_from_true}
use Rattle.turns.proofs.state.on_unb.Goals as goal

pub returns-then-not-unb_formed : goal.returns-then-not-unb_formed
returns-then-not-unb_formed c =
    let g = c in
    unb-bad g.args.y g.args.s.now g.args.st g.args.heads.now g.args.names.now g.args.slots.now g.args.at g.args.next g.args.f g.args.marks.now g.requires.ready g.requires.phase_value (formed-at _ (asked_at g.args.y.service g.args.s.now g.args.at) g.requires.ready.kind Unb refl c.unb_formed.ensures) (not_from_false _ c.if-not-unb_formed.true) c.stopped.ensures

pub returns : goal.returns
returns c =
    let g = c in
    unb-read g.args.y g.args.s.now g.args.st g.args.heads.now g.args.names.now g.args.slots.now g.args.at g.args.next g.args.f g.args.marks.now g.requires.ready g.requires.phase_value (formed-at _ (asked_at g.args.y.service g.args.s.now g.args.at) g.requires.ready.kind Unb refl c.unb_formed.ensures) c.stretch_in.ensures (not_from_true _ c.if-not-unb_formed.false) c.after_unb.ensures
