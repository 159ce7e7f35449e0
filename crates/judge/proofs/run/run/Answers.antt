use mathlib.Core.Path.{refl, sym, ap, ◌∙◌}
use Rattle.std.specs.Prelude.{Ok}
use Rattle.std.proofs.lemmas.Result.{err_from_is_err_and}
use Rattle.walk.specs.SectionLaws.{looping-start, looping-on, between-so, passed, nearer, read_all, stopped}
use Rattle.judge.specs.ToldLaws.{walked_whole, walked-not}
use Rattle.judge.proofs.run.run.Goals as goal

pub loop-section-init : goal.loop-section-init
loop-section-init c = looping-start c.requires.fresh (refl, refl, refl) c.unread-state.ensures

pub next_section-requires : goal.next_section-requires
next_section-requires c = record { between = between-so c.loop-section.invariant c.requires.fresh.fits }

pub returns-in_err-section : goal.returns-in_err-section
returns-in_err-section c = let p = err_from_is_err_and c.from_residual.result c.from_residual.ensures.1 in rw (p.1, p.2) (walked-not c.args.s.now (stopped c.loop-section.invariant.walks c.next_section.new.heads c.next_section.new.names c.next_section.new.slots c.next_section.new.rows _ c.in_err-section.was (c.next_section.ensures.by_index _ c.loop-section.invariant.walks)) refl)

pub returns : goal.returns
returns c = sym (walked_whole c.args.s.now (read_all c.loop-section.invariant.walks c.next_section.new.heads c.next_section.new.names c.next_section.new.slots c.next_section.new.rows _ (c.in_ok-section.was ∙ ap Ok c.in_default.is) (c.next_section.ensures.by_index _ c.loop-section.invariant.walks)))

pub loop-section-smaller : goal.loop-section-smaller
loop-section-smaller c = nearer c.loop-section.invariant.walks c.next_section.new.heads c.next_section.new.names c.next_section.new.slots c.next_section.new.rows _ (c.in_ok-section.was ∙ ap Ok c.in-Some.is) (c.next_section.ensures.by_index _ c.loop-section.invariant.walks)

pub loop-section-preserved : goal.loop-section-preserved
loop-section-preserved c = looping-on c.loop-section.invariant (passed c.loop-section.invariant.walks c.next_section.new.heads c.next_section.new.names c.next_section.new.slots c.next_section.new.rows _ (c.in_ok-section.was ∙ ap Ok c.in-Some.is) (c.next_section.ensures.by_index _ c.loop-section.invariant.walks)) c.next_section.ensures.marks_len c.next_section.auto.names c.next_section.auto.slots
