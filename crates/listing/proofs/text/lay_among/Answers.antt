use native.Mathlib.Omega.{arith}
use mathlib.Core.Path.{sym, ap, ◌∙◌}
use Rattle.std.specs.Prelude.{Ok}
use Rattle.writing.specs.LaidLaws.{laid-length}
use Rattle.walk.specs.SectionLaws.{between-so, passed, starts, nearer, read_all, stopped}
use Rattle.listing.specs.ListingLaws.{reporting-start, passed-near, reporting-on, lays-told}
use Rattle.listing.proofs.text.lay_among.Goals as goal

pub accepted_line-p-requires : goal.accepted_line-p-requires
accepted_line-p-requires c = record { s_len_bound = c.requires.fresh.short }

pub loop-f-init : goal.loop-f-init
loop-f-init c = reporting-start c.requires.fresh c.requires.marks_len c.unread-state.ensures

pub next_section-requires : goal.next_section-requires
next_section-requires c = record { between = between-so c.loop-f.invariant.looping c.requires.fresh.fits }

pub shape_of-marks-in-Err : goal.shape_of-marks-in-Err
shape_of-marks-in-Err c = c.next_section.ensures.marks_len ∙ sym c.requires.marks_len.0

pub shape_of-out-in-Err : goal.shape_of-out-in-Err
shape_of-out-in-Err c = c.loop-f.invariant.same ∙ laid-length c.accepted_line-p.ensures.laid

pub returns-in-Err : goal.returns-in-Err
returns-in-Err c = (_, _, stopped c.loop-f.invariant.looping.walks c.next_section.new.heads c.next_section.new.names c.next_section.new.slots c.next_section.new.rows _ c.in-Err.is (c.next_section.ensures.by_index _ c.loop-f.invariant.looping.walks), c.refusal.ensures)

pub shape_of-marks-in-Ok-None : goal.shape_of-marks-in-Ok-None
shape_of-marks-in-Ok-None c = c.next_section.ensures.marks_len ∙ sym c.requires.marks_len.0

pub shape_of-out-in-Ok-None : goal.shape_of-out-in-Ok-None
shape_of-out-in-Ok-None c = c.loop-f.invariant.same ∙ laid-length c.accepted_line-p.ensures.laid

pub returns-in-Ok-None : goal.returns-in-Ok-None
returns-in-Ok-None c = lays-told c.loop-f.invariant c.accepted_line-p.ensures.laid c.requires.fresh.fits (read_all c.loop-f.invariant.looping.walks c.next_section.new.heads c.next_section.new.names c.next_section.new.slots c.next_section.new.rows _ (c.in-Ok-None.is ∙ ap Ok c.in-Ok-None.field-0-is) (c.next_section.ensures.by_index _ c.loop-f.invariant.looping.walks))

pub put_section-p-requires : goal.put_section-p-requires
put_section-p-requires c = record { s_len_bound = (c.requires.fresh.short, omega (arith, c.loop-f.invariant.near, starts c.loop-f.invariant.looping.walks c.next_section.new.heads c.next_section.new.names c.next_section.new.slots c.next_section.new.rows _ (c.in-Ok-Some.is ∙ ap Ok c.in-Ok-Some.field-0-is) (c.next_section.ensures.by_index _ c.loop-f.invariant.looping.walks), c.requires.fresh.short, c.accepted_line-p.ensures.upper_bound), passed-near c.loop-f.invariant.looping.walks (passed c.loop-f.invariant.looping.walks c.next_section.new.heads c.next_section.new.names c.next_section.new.slots c.next_section.new.rows _ (c.in-Ok-Some.is ∙ ap Ok c.in-Ok-Some.field-0-is) (c.next_section.ensures.by_index _ c.loop-f.invariant.looping.walks)) c.requires.fresh.short) }

pub loop-f-smaller : goal.loop-f-smaller
loop-f-smaller c = nearer c.loop-f.invariant.looping.walks c.next_section.new.heads c.next_section.new.names c.next_section.new.slots c.next_section.new.rows _ (c.in-Ok-Some.is ∙ ap Ok c.in-Ok-Some.field-0-is) (c.next_section.ensures.by_index _ c.loop-f.invariant.looping.walks)

pub loop-f-preserved : goal.loop-f-preserved
loop-f-preserved c = reporting-on c.loop-f.invariant c.requires.fresh.fits (passed c.loop-f.invariant.looping.walks c.next_section.new.heads c.next_section.new.names c.next_section.new.slots c.next_section.new.rows _ (c.in-Ok-Some.is ∙ ap Ok c.in-Ok-Some.field-0-is) (c.next_section.ensures.by_index _ c.loop-f.invariant.looping.walks)) c.next_section.ensures.marks_len c.next_section.auto.names c.next_section.auto.slots c.put_section-p.ensures.laid c.put_section-p.ensures.upper_bound
