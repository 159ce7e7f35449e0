use mathlib.Core.Path.{sym, ap, ◌∙◌}
use Rattle.syntax.specs.Content.{content, compared}
use Rattle.std.specs.Prelude.{Ok}
use Rattle.std.proofs.lemmas.Result.{err_from_is_err_and}
use lib.ListN.{length}
use Rattle.walk.specs.SectionLaws.{looping-start, looping-on, between-so, passed, nearer, read_all, stopped}
use Rattle.finding.specs.FindingLaws.{seeks-on, seeks-hit, seeks-start, seeks-eq, whole-read}
use Rattle.finding.proofs.find_among.Goals as goal
use Rattle.finding.proofs.find_among.Goals.{then-is_named, else-is_named}

pub loop-section-init : goal.loop-section-init
loop-section-init c = let g = looping-start c.requires.fresh (c.requires.marks_len.0, c.requires.marks_len.1, c.requires.marks_len.2) c.unread-state.ensures in record { looping = g; seeks = seeks-start g.walks (compared (content c.args.other c.args.reference.now)) c.unread-state.ensures; long = c.requires.marks_len.3 }

pub next_section-requires : goal.next_section-requires
next_section-requires c = record { between = between-so c.loop-section.invariant.looping c.requires.fresh.fits }

pub returns-in_err-section : goal.returns-in_err-section
returns-in_err-section c = let p = err_from_is_err_and c.from_residual.result c.from_residual.ensures.1 in rw (p.1, p.2) (stopped c.loop-section.invariant.looping.walks c.next_section.new.heads c.next_section.new.names c.next_section.new.slots c.next_section.new.rows _ c.in_err-section.was (c.next_section.ensures.by_index _ c.loop-section.invariant.looping.walks))

pub returns : goal.returns
returns c = whole-read c.loop-section.invariant.looping.walks (Ok c.loop-section.found) (compared (content c.args.other c.args.reference.now)) c.loop-section.rows (read_all c.loop-section.invariant.looping.walks c.next_section.new.heads c.next_section.new.names c.next_section.new.slots c.next_section.new.rows _ (c.in_ok-section.was ∙ ap Ok c.in_default.is) (c.next_section.ensures.by_index _ c.loop-section.invariant.looping.walks)) c.loop-section.invariant.seeks

pub loop-section-smaller : goal.loop-section-smaller
loop-section-smaller c = nearer c.loop-section.invariant.looping.walks c.next_section.new.heads c.next_section.new.names c.next_section.new.slots c.next_section.new.rows _ (c.in_ok-section.was ∙ ap Ok c.in-Some.is) (c.next_section.ensures.by_index _ c.loop-section.invariant.looping.walks)

pub loop-section-preserved : goal.loop-section-preserved
loop-section-preserved c = let p = passed c.loop-section.invariant.looping.walks c.next_section.new.heads c.next_section.new.names c.next_section.new.slots c.next_section.new.rows _ (c.in_ok-section.was ∙ ap Ok c.in-Some.is) (c.next_section.ensures.by_index _ c.loop-section.invariant.looping.walks) in elim c.if-is_named.branch [ then-is_named w ↦ record { looping = looping-on c.loop-section.invariant.looping p c.next_section.ensures.marks_len c.next_section.auto.names c.next_section.auto.slots; seeks = seeks-eq c.args.t.now.syntax.service c.args.s.now c.args.from p.walks.tree (compared (content c.args.other c.args.reference.now)) (ap Ok w.found-is) (w.rows-is ∙ w.keep.ensures) (seeks-hit c.loop-section.invariant.looping.walks p (compared (content c.args.other c.args.reference.now)) (sym c.is_named.ensures ∙ w.if-is_named.true)); long = ap length (w.rows-is ∙ w.keep.ensures) ∙ p.long } | else-is_named w ↦ record { looping = looping-on c.loop-section.invariant.looping p c.next_section.ensures.marks_len c.next_section.auto.names c.next_section.auto.slots; seeks = seeks-eq c.args.t.now.syntax.service c.args.s.now c.args.from p.walks.tree (compared (content c.args.other c.args.reference.now)) (ap Ok w.found-is) w.rows-is (seeks-on c.loop-section.invariant.looping.walks p (compared (content c.args.other c.args.reference.now)) (Ok c.loop-section.found) c.loop-section.rows (sym c.is_named.ensures ∙ w.if-is_named.false) c.loop-section.invariant.seeks); long = ap length w.rows-is ∙ c.loop-section.invariant.long } ]
