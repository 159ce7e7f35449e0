use Rattle.std.specs.Prelude.{Ok}
use mathlib.Core.Path.{sym, ap, ◌∙◌}
use Rattle.writing.specs.LaidLaws.{laid-length}
use Rattle.walk.specs.SectionLaws.{between-so, passed, starts, nearer, read_all, stopped}
use Rattle.register.proofs.RegisterLaws.{registering-start, registering-fits, passed-forward, registering-on, lays-told, lays-stopped}
use Rattle.register.proofs.register.lay_among.Goals as goal

pub loop-f-init : goal.loop-f-init
loop-f-init c = registering-start c.requires.fresh c.requires.marks_len c.unread-state.ensures c.none_from-e.ensures

pub next_section-requires : goal.next_section-requires
next_section-requires c = record { between = between-so c.loop-f.invariant.looping c.requires.fresh.fits }

pub shape_of-marks-in-Err : goal.shape_of-marks-in-Err
shape_of-marks-in-Err c = c.next_section.ensures.marks_len ∙ sym c.requires.marks_len.0

pub shape_of-out-in-Err : goal.shape_of-out-in-Err
shape_of-out-in-Err c = laid-length c.loop-f.invariant.adds.laid

pub returns-in-Err : goal.returns-in-Err
returns-in-Err c = lays-stopped c.args.x.now.classes.syntax c.args.x.now.s.now c.args.x.now.from _ c.args.x.now.begins (stopped c.loop-f.invariant.looping.walks c.next_section.new.heads c.next_section.new.names c.next_section.new.slots c.next_section.new.rows _ c.in-Err.is (c.next_section.ensures.by_index _ c.loop-f.invariant.looping.walks)) c.refusal.ensures

pub shape_of-marks-in-Ok-None : goal.shape_of-marks-in-Ok-None
shape_of-marks-in-Ok-None c = c.next_section.ensures.marks_len ∙ sym c.requires.marks_len.0

pub shape_of-out-in-Ok-None : goal.shape_of-out-in-Ok-None
shape_of-out-in-Ok-None c = laid-length c.loop-f.invariant.adds.laid

pub returns-in-Ok-None : goal.returns-in-Ok-None
returns-in-Ok-None c = lays-told c.loop-f.invariant c.args.x.now.begins (read_all c.loop-f.invariant.looping.walks c.next_section.new.heads c.next_section.new.names c.next_section.new.slots c.next_section.new.rows _ (c.in-Ok-None.is ∙ ap Ok c.in-Ok-None.field-0-is) (c.next_section.ensures.by_index _ c.loop-f.invariant.looping.walks))

pub put_section-e-requires : goal.put_section-e-requires
put_section-e-requires c = let k = registering-fits c.loop-f.invariant c.requires.start (starts c.loop-f.invariant.looping.walks c.next_section.new.heads c.next_section.new.names c.next_section.new.slots c.next_section.new.rows _ (c.in-Ok-Some.is ∙ ap Ok c.in-Ok-Some.field-0-is) (c.next_section.ensures.by_index _ c.loop-f.invariant.looping.walks)) in (k.0, k.1, passed-forward c.loop-f.invariant.looping.walks (passed c.loop-f.invariant.looping.walks c.next_section.new.heads c.next_section.new.names c.next_section.new.slots c.next_section.new.rows _ (c.in-Ok-Some.is ∙ ap Ok c.in-Ok-Some.field-0-is) (c.next_section.ensures.by_index _ c.loop-f.invariant.looping.walks)))

pub loop-f-smaller : goal.loop-f-smaller
loop-f-smaller c = nearer c.loop-f.invariant.looping.walks c.next_section.new.heads c.next_section.new.names c.next_section.new.slots c.next_section.new.rows _ (c.in-Ok-Some.is ∙ ap Ok c.in-Ok-Some.field-0-is) (c.next_section.ensures.by_index _ c.loop-f.invariant.looping.walks)

pub loop-f-preserved : goal.loop-f-preserved
loop-f-preserved c = registering-on c.loop-f.invariant (starts c.loop-f.invariant.looping.walks c.next_section.new.heads c.next_section.new.names c.next_section.new.slots c.next_section.new.rows _ (c.in-Ok-Some.is ∙ ap Ok c.in-Ok-Some.field-0-is) (c.next_section.ensures.by_index _ c.loop-f.invariant.looping.walks)) (passed c.loop-f.invariant.looping.walks c.next_section.new.heads c.next_section.new.names c.next_section.new.slots c.next_section.new.rows _ (c.in-Ok-Some.is ∙ ap Ok c.in-Ok-Some.field-0-is) (c.next_section.ensures.by_index _ c.loop-f.invariant.looping.walks)) c.next_section.ensures.marks_len c.next_section.auto.names c.next_section.auto.slots c.put_section-e.ensures
