use Rattle.syntax.specs.Content.{compared}
use native.Mathlib.Omega.{arith}
use Rattle.message.specs.ItemsLaws.{not-true, not-false}
use Prim.Native.Nat.{◌-◌, ◌≤◌}
use mathlib.Core.Path.{◌≡◌, refl, sym, ◌∙◌}
use Rattle.std.proofs.lemmas.Result.{err_from_is_err_and}
use borrow.Author.Rules.{rules}
use lib.ListN.{length}
use Rattle.elements.specs.Octets.{text_at}
use Rattle.message.specs.Summary.{free_at}
use Rattle.message.specs.Heads.{head_refs, head_flags, pos_or}
use Rattle.message.specs.HeadsLaws.{Seeking, seeking-start, seeking-hit, seeking-on, seeking-end}
use Rattle.walk.specs.RunLaws.{further, halted, onward-far}
use Rattle.walk.specs.SectionLaws.{nameable-most, sought}
use Rattle.walk.specs.Sectioning.{Sectioning, ahead, walks-so, going-so, short-so, headers-so, room-so, rows-so, on-so, close-so, end-so}
use Rattle.walk.proofs.sections.section_in.Goals as goal
use Rattle.walk.proofs.sections.section_in.Goals.{else-loop-i-test, then-loop-i-test+then-names_free}

pub loop-at-init : goal.loop-at-init
loop-at-init c = record { so = ahead; marks = c.requires.marks; room = c.requires.room; names = refl; slots = refl }

pub nameable-n-requires : goal.nameable-n-requires
nameable-n-requires c = (c.loop-at-test.true, short-so c.requires c.loop-at.invariant.so c.loop-at-test.true)

pub loop-i-init : goal.loop-i-init
loop-i-init c = (refl, seeking-start)

pub names_free-requires : goal.names_free-requires
names_free-requires c = record { i_bound = (let a = nameable-most c.args.s.now c.loop-at.at c.loop-at.st.message.headers in let b = headers-so c.requires c.loop-at.invariant.so in search rules) }

pub loop-i-preserved : goal.loop-i-preserved
loop-i-preserved c = (c.loop-i.invariant.0, seeking-on c.loop-i.invariant.1 c.loop-i-test.true c.names_free.ensures c.if-names_free.false)

pub advance-requires : goal.advance-requires
advance-requires c =
    let found : c.loop-i-test.found ≡ pos_or c.nameable-n.result (free_at (compared (text_at c.args.t.now.syntax.service c.args.s.now c.loop-at.at 1 0)) (head_refs c.args.t.now.syntax.service.release c.args.s.now c.loop-at.heads c.nameable-n.result) (head_flags c.loop-at.heads c.nameable-n.result)) =
    elim c.loop-i-test.branch [
      | else-loop-i-test w ↦ w.found-is ∙ c.loop-i.invariant.0 ∙ seeking-end c.loop-i.invariant.1 w.loop-i-test.false
      | then-loop-i-test+then-names_free w ↦ w.found-is ∙ seeking-hit c.loop-i.invariant.1 w.loop-i-test.true w.names_free.ensures w.if-names_free.true
    ] in
    let most : c.loop-i-test.found ≤ c.nameable-n.result =
    elim c.loop-i-test.branch [ else-loop-i-test w ↦ search rules | then-loop-i-test+then-names_free w ↦ search rules ] in
    record { going = going-so c.requires c.loop-at.invariant.so c.loop-at-test.true c.loop-at.invariant.marks; sought = λ a k. sought c.args.t.now.syntax.service c.args.s.now c.loop-at.at c.loop-at.st.message c.loop-at.heads c.nameable-n.ensures found most k }

pub shape_of-marks-in_err-a : goal.shape_of-marks-in_err-a
shape_of-marks-in_err-a c = c.advance.ensures.marks_len ∙ sym c.requires.marks

pub shape_of-names-in_err-a : goal.shape_of-names-in_err-a
shape_of-names-in_err-a c = c.advance.auto.names ∙ c.loop-at.invariant.names

pub shape_of-slots-in_err-a : goal.shape_of-slots-in_err-a
shape_of-slots-in_err-a c = c.advance.auto.slots ∙ c.loop-at.invariant.slots

pub returns-in_err-a : goal.returns-in_err-a
returns-in_err-a c = let p = err_from_is_err_and c.from_residual.result c.from_residual.ensures.1 in record { reached = λ b w. rw (p.1, p.2) (halted (walks-so c.loop-at.invariant.so b w) _ _ _ _ c.in_err-a.was (c.advance.ensures.by_index _ (walks-so c.loop-at.invariant.so b w))); marks = c.advance.ensures.marks_len }

pub shape_of-marks-then-is_outside : goal.shape_of-marks-then-is_outside
shape_of-marks-then-is_outside c = c.advance.ensures.marks_len ∙ sym c.requires.marks

pub shape_of-names-then-is_outside : goal.shape_of-names-then-is_outside
shape_of-names-then-is_outside c = c.advance.auto.names ∙ c.loop-at.invariant.names

pub shape_of-slots-then-is_outside : goal.shape_of-slots-then-is_outside
shape_of-slots-then-is_outside c = c.advance.auto.slots ∙ c.loop-at.invariant.slots

pub returns-then-is_outside : goal.returns-then-is_outside
returns-then-is_outside c = record { reached = close-so c.requires c.loop-at.invariant.so (λ b w. further w _ c.in_ok-a.was (c.advance.ensures.by_index _ w)) (not-true _ (sym c.is_outside.ensures ∙ c.if-is_outside.true)) c.loop-at.invariant.room c.passed.ensures; marks = c.advance.ensures.marks_len }

pub spots_behind-x-requires : goal.spots_behind-x-requires
spots_behind-x-requires c = room-so c.requires c.loop-at.invariant.so (λ b w. further w _ c.in_ok-a.was (c.advance.ensures.by_index _ w)) (not-false _ (sym c.is_outside.ensures ∙ c.if-is_outside.false)) c.loop-at.invariant.room

pub loop-at-smaller : goal.loop-at-smaller
loop-at-smaller c = let o = onward-far (walks-so c.loop-at.invariant.so c.requires.from c.requires.walks) (further (walks-so c.loop-at.invariant.so c.requires.from c.requires.walks) _ c.in_ok-a.was (c.advance.ensures.by_index _ (walks-so c.loop-at.invariant.so c.requires.from c.requires.walks))) in let k = c.loop-at-test.true in omega (arith, o, k)

pub loop-at-preserved : goal.loop-at-preserved
loop-at-preserved c = record { so = on-so c.requires c.loop-at.invariant.so (λ b w. further w _ c.in_ok-a.was (c.advance.ensures.by_index _ w)) (not-false _ (sym c.is_outside.ensures ∙ c.if-is_outside.false)) c.loop-at.invariant.room c.spots_behind-x.ensures.value c.spots_behind-x.ensures.rows_after; marks = c.advance.ensures.marks_len; room = rows-so c.requires c.loop-at.invariant.so (λ b w. further w _ c.in_ok-a.was (c.advance.ensures.by_index _ w)) (not-false _ (sym c.is_outside.ensures ∙ c.if-is_outside.false)) c.loop-at.invariant.room c.spots_behind-x.ensures.value c.spots_behind-x.ensures.rows_after; names = c.advance.auto.names ∙ c.loop-at.invariant.names; slots = c.advance.auto.slots ∙ c.loop-at.invariant.slots }

pub shape_of-marks : goal.shape_of-marks
shape_of-marks c = c.loop-at.invariant.marks ∙ sym c.requires.marks

pub returns : goal.returns
returns c = record { reached = end-so c.requires c.loop-at.invariant.so c.loop-at-test.false c.loop-at.invariant.room c.left_open.ensures; marks = c.loop-at.invariant.marks }
