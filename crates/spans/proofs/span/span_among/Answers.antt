use mathlib.Core.Path.{ap, ◌∙◌}
use Rattle.std.specs.Prelude.{Ok}
use Rattle.std.proofs.lemmas.Result.{err_from_is_err_and}
use Rattle.walk.specs.SectionLaws.{between-so, passed, nearer, read_all, stopped}
use Rattle.spans.specs.SpanningLaws.{spanning-start, spanning-on, span-told}
use Rattle.spans.proofs.span.span_among.Goals as goal

pub loop-section-init : goal.loop-section-init
loop-section-init c = spanning-start c.requires.fresh c.requires.marks_len c.unread-state.ensures

pub next_section-requires : goal.next_section-requires
next_section-requires c = record { between = between-so c.loop-section.invariant.looping c.requires.fresh.fits }

pub returns-in_err-section : goal.returns-in_err-section
returns-in_err-section c = let p = err_from_is_err_and c.from_residual.result c.from_residual.ensures.1 in rw (p.1, p.2) (stopped c.loop-section.invariant.looping.walks c.next_section.new.heads c.next_section.new.names c.next_section.new.slots c.next_section.new.rows _ c.in_err-section.was (c.next_section.ensures.by_index _ c.loop-section.invariant.looping.walks))

pub returns : goal.returns
returns c = span-told c.loop-section.invariant (read_all c.loop-section.invariant.looping.walks c.next_section.new.heads c.next_section.new.names c.next_section.new.slots c.next_section.new.rows _ (c.in_ok-section.was ∙ ap Ok c.in_default.is) (c.next_section.ensures.by_index _ c.loop-section.invariant.looping.walks)) c.told.ensures

pub loop-section-smaller : goal.loop-section-smaller
loop-section-smaller c = nearer c.loop-section.invariant.looping.walks c.next_section.new.heads c.next_section.new.names c.next_section.new.slots c.next_section.new.rows _ (c.in_ok-section.was ∙ ap Ok c.in-Some.is) (c.next_section.ensures.by_index _ c.loop-section.invariant.looping.walks)

pub loop-section-preserved : goal.loop-section-preserved
loop-section-preserved c = spanning-on c.loop-section.invariant (passed c.loop-section.invariant.looping.walks c.next_section.new.heads c.next_section.new.names c.next_section.new.slots c.next_section.new.rows _ (c.in_ok-section.was ∙ ap Ok c.in-Some.is) (c.next_section.ensures.by_index _ c.loop-section.invariant.looping.walks)) c.next_section.ensures.marks_len c.next_section.auto.names c.next_section.auto.slots c.after_section-k.ensures
