use mathlib.Core.Path.{refl}
use Rattle.elements.specs.Octets.{asked_at}
use Rattle.elements.specs.FormedLaws.{formed-at}
use Rattle.elements.specs.declared.Kind.TheVariants.{Unt}
use Rattle.turns.proofs.WalkingLaws.{unt-none, unt-bad, unt-six, unt-sums, unt-other, unt-wrong, unt-offered, unt-read}
use borrow.Author.Rules.{rules}
use Rattle.std.proofs.lemmas.Bool.{not_from_false, not_from_true}
use Rattle.turns.proofs.state.on_unt.Goals as goal

pub returns-then-not-may_come : goal.returns-then-not-may_come
returns-then-not-may_come c =
    let g = c in
    unt-none g.args.y g.args.s.now g.args.st g.args.heads.now g.args.names.now g.args.slots.now g.args.at g.args.next g.args.f g.args.marks.now g.requires.ready g.requires.phase_value c.may_come.ensures (not_from_false _ c.if-not-may_come.true) c.stopped.ensures

pub returns-then-not-end_formed : goal.returns-then-not-end_formed
returns-then-not-end_formed c =
    let g = c in
    unt-bad g.args.y g.args.s.now g.args.st g.args.heads.now g.args.names.now g.args.slots.now g.args.at g.args.next g.args.f g.args.marks.now g.requires.ready g.requires.phase_value c.may_come.ensures (not_from_true _ c.if-not-may_come.false) (formed-at _ (asked_at g.args.y.service g.args.s.now g.args.at) g.requires.ready.kind Unt refl c.end_formed.ensures) (not_from_false _ c.if-not-end_formed.true) c.stopped-then-not-end_formed.ensures

pub refs_right-requires : goal.refs_right-requires
refs_right-requires c = record { headers_bound = c.requires.ready.held.roomy.headers }

pub returns-then-not-refs_right : goal.returns-then-not-refs_right
returns-then-not-refs_right c =
    let g = c in
    unt-other g.args.y g.args.s.now g.args.st g.args.heads.now g.args.names.now g.args.slots.now g.args.at g.args.next g.args.f g.args.marks.now g.requires.ready g.requires.phase_value c.may_come.ensures (not_from_true _ c.if-not-may_come.false) (formed-at _ (asked_at g.args.y.service g.args.s.now g.args.at) g.requires.ready.kind Unt refl c.end_formed.ensures) (not_from_true _ c.if-not-end_formed.false) c.refs_right.ensures (not_from_false _ c.if-not-refs_right.true) c.stopped-then-not-refs_right.ensures

pub counts_right-requires : goal.counts_right-requires
counts_right-requires c =
    let g = c in record { at_value = unt-six g.args.y g.args.s.now g.args.st g.args.heads.now g.args.names.now g.args.slots.now g.args.at g.args.next g.args.f g.args.marks.now g.requires.ready g.requires.phase_value c.may_come.ensures (not_from_true _ c.if-not-may_come.false) (formed-at _ (asked_at g.args.y.service g.args.s.now g.args.at) g.requires.ready.kind Unt refl c.end_formed.ensures) (not_from_true _ c.if-not-end_formed.false); segments_bound = unt-sums g.args.y g.args.s.now g.args.st g.args.heads.now g.args.names.now g.args.slots.now g.args.at g.args.next g.args.f g.args.marks.now g.requires.ready g.requires.phase_value }

pub returns-then-not-counts_right : goal.returns-then-not-counts_right
returns-then-not-counts_right c =
    let g = c in
    unt-wrong g.args.y g.args.s.now g.args.st g.args.heads.now g.args.names.now g.args.slots.now g.args.at g.args.next g.args.f g.args.marks.now g.requires.ready g.requires.phase_value c.may_come.ensures (not_from_true _ c.if-not-may_come.false) (formed-at _ (asked_at g.args.y.service g.args.s.now g.args.at) g.requires.ready.kind Unt refl c.end_formed.ensures) (not_from_true _ c.if-not-end_formed.false) c.refs_right.ensures (not_from_true _ c.if-not-refs_right.false) c.counts_right.ensures (not_from_false _ c.if-not-counts_right.true) c.stopped-then-not-counts_right.ensures

pub note-requires : goal.note-requires
note-requires c =
    let g = c in record { indexed = g.requires.ready.held.indexed; offered = unt-offered g.args.y g.args.s.now g.args.st g.args.heads.now g.args.names.now g.args.slots.now g.args.at g.args.next g.args.f g.args.marks.now g.requires.ready g.requires.phase_value }

pub returns : goal.returns
returns c =
    let g = c in
    unt-read g.args.y g.args.s.now g.args.st g.args.heads.now g.args.names.now g.args.slots.now g.args.at g.args.next g.args.f g.args.marks.now g.requires.ready g.requires.phase_value c.may_come.ensures (not_from_true _ c.if-not-may_come.false) (formed-at _ (asked_at g.args.y.service g.args.s.now g.args.at) g.requires.ready.kind Unt refl c.end_formed.ensures) (not_from_true _ c.if-not-end_formed.false) c.refs_right.ensures (not_from_true _ c.if-not-refs_right.false) c.counts_right.ensures (not_from_true _ c.if-not-counts_right.false) _ c.note.ensures.indexed_2 c.after_other.ensures
