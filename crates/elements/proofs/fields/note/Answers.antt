use Prim.Native.Nat.{◌-◌}
use lib.ListN.{length}
use mathlib.Core.Path.{sym, ◌∙◌}
use Rattle.elements.specs.FieldsLaws.{Noting, noting-start, noting-over, noting-fits, noting-long, noting-on, noting-closed-long, noting-closed, inside-fits}
use borrow.Author.Rules.{rules}
use Rattle.elements.proofs.fields.note.Goals as goal

pub loop-q-init : goal.loop-q-init
loop-q-init c = noting-start _ _ _ _ _ c.requires.marks_len.0

pub overflow_add-n : goal.overflow_add-n
overflow_add-n c = let w = noting-fits c.loop-q.invariant c.requires.marks_len.1 c.clean_end.ensures c.in-Some.is in search rules

pub overflow_add-j : goal.overflow_add-j
overflow_add-j c = let w = inside-fits c.loop-q.invariant.inside c.clean_end.ensures c.in-Some.is in search rules

pub loop-q-smaller : goal.loop-q-smaller
loop-q-smaller c = let w = inside-fits c.loop-q.invariant.inside c.clean_end.ensures c.in-Some.is in search rules

pub loop-q-preserved : goal.loop-q-preserved
loop-q-preserved c = noting-on c.loop-q.invariant c.requires.marks_len.1 c.clean_end.ensures c.in-Some.is c.place.ensures c.if-k-eq2.true

pub closed-requires : goal.closed-requires
closed-requires c = let l = noting-long c.loop-q.invariant c.requires.marks_len.1 c.clean_end.ensures c.in-Some.is c.place.ensures in let w = inside-fits c.loop-q.invariant.inside c.clean_end.ensures c.in-Some.is in search rules

pub shape_of-marks-in-Some : goal.shape_of-marks-in-Some
shape_of-marks-in-Some c = noting-closed-long c.loop-q.invariant c.requires.marks_len.1 c.clean_end.ensures c.in-Some.is c.place.ensures c.if-k-eq2.false c.closed.ensures.marks_after ∙ sym c.requires.marks_len.0

pub returns-in-Some : goal.returns-in-Some
returns-in-Some c = noting-closed c.loop-q.invariant c.requires.marks_len.1 c.clean_end.ensures c.in-Some.is c.place.ensures c.if-k-eq2.false c.closed.ensures.closed_as c.closed.ensures.marks_after

pub shape_of-marks : goal.shape_of-marks
shape_of-marks c = c.loop-q.invariant.long ∙ sym c.requires.marks_len.0

pub returns : goal.returns
returns c = noting-over c.loop-q.invariant c.requires.marks_len.1 c.clean_end.ensures c.in_default.is
