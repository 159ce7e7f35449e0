use Rattle.turns.proofs.BusyLaws.{busy-7, busy-8, busy-room, busy-passed, busy-bad, busy-on}
use borrow.Author.Rules.{rules}
use Rattle.std.proofs.lemmas.Bool.{not_from_false, not_from_true}
use Rattle.turns.proofs.state.on_busy.Goals as goal

pub returns-then-not-may_come : goal.returns-then-not-may_come
returns-then-not-may_come c =
    let g = c in
    busy-7 g.requires.ready g.requires.phase_value.0 c.may_come.ensures (not_from_false _ c.if-not-may_come.true) c.stopped.ensures

pub returns-then-not-formed_in : goal.returns-then-not-formed_in
returns-then-not-formed_in c =
    let g = c in
    busy-8 g.requires.ready g.requires.phase_value.0 c.may_come.ensures (not_from_true _ c.if-not-may_come.false) c.formed_in.ensures (not_from_false _ c.if-not-formed_in.true) c.stopped-then-not-formed_in.ensures

pub step_in-requires : goal.step_in-requires
step_in-requires c =
    let g = c in record { k_value = g.requires.ready.kind; fields = g.requires.ready.noted; roomy = g.requires.ready.held.roomy; segments_bound = (busy-room g.requires.ready g.requires.phase_value.0, g.requires.ready.held.long); m_value = busy-passed g.requires.ready g.requires.phase_value.0 c.may_come.ensures (not_from_true _ c.if-not-may_come.false) c.formed_in.ensures (not_from_true _ c.if-not-formed_in.false); sought = g.requires.sought }

pub returns-in-Err : goal.returns-in-Err
returns-in-Err c =
    let g = c in
    busy-bad g.requires.ready g.requires.phase_value.0 c.may_come.ensures (not_from_true _ c.if-not-may_come.false) c.formed_in.ensures (not_from_true _ c.if-not-formed_in.false) g.requires.phase_value.1 c.step_in.result c.step_in.new.heads c.step_in.ensures.by_index c.in-Err.is c.stopped-in-Err.ensures

pub returns-in-Ok : goal.returns-in-Ok
returns-in-Ok c =
    let g = c in
    busy-on g.requires.ready g.requires.phase_value.0 c.may_come.ensures (not_from_true _ c.if-not-may_come.false) c.formed_in.ensures (not_from_true _ c.if-not-formed_in.false) g.requires.phase_value.1 c.step_in.result c.step_in.new.heads c.step_in.ensures.by_index c.in-Ok.is c.step_in.ensures.heads_len c.after_other.ensures
