use mathlib.Core.Path.{sym, ◌∙◌}
use Rattle.std.proofs.lemmas.Bool.{false≢true}
use Rattle.syntax.specs.Octets.{octets}
use Rattle.groups.specs.LinksLaws.{tagged_is}
use Rattle.digest.specs.DigestsLaws.{names-other, names-repeated, names-code, was_false, was_true}
use Rattle.digest.proofs.usa_names.Goals as goal
use Rattle.digest.proofs.usa_names.Goals.{then-content_is, else-content_is}

pub returns-then-not-element_repeats : goal.returns-then-not-element_repeats
returns-then-not-element_repeats c = elim c.if-content_is.branch [ then-content_is w ↦ names-code c.args.t.now.syntax.service c.args.s.now c.args.at (tagged_is c.args.s.now c.args.at (octets "USA") c.part.ensures c.content_is.ensures) w.if-content_is.true w.element_repeats.ensures (was_false _ (sym w.value-is ∙ c.if-not-element_repeats.true)) c.component_part.ensures c.content_is-then-not-element_repeats.ensures | else-content_is w ↦ absurd (false≢true (sym w.if-content_is.false ∙ sym w.value-is ∙ c.if-not-element_repeats.true)) ]

pub returns-else-not-element_repeats : goal.returns-else-not-element_repeats
returns-else-not-element_repeats c = elim c.if-content_is.branch [ then-content_is w ↦ c.if-not-element_repeats.false ∙ names-repeated c.args.t.now.syntax.service c.args.s.now c.args.at (tagged_is c.args.s.now c.args.at (octets "USA") c.part.ensures c.content_is.ensures) w.if-content_is.true w.element_repeats.ensures (was_true _ (sym w.value-is ∙ c.if-not-element_repeats.false)) | else-content_is w ↦ w.value-is ∙ w.if-content_is.false ∙ names-other c.args.t.now.syntax.service c.args.s.now c.args.at (tagged_is c.args.s.now c.args.at (octets "USA") c.part.ensures c.content_is.ensures) w.if-content_is.false ]
