use Rattle.std.proofs.Common.{◌≡◌, ◌∙◌, not, ◌&&◌, ltb}
use Rattle.weaving.specs.Seals.{ref_right, filter_right}
use Rattle.weaving.specs.AllowedLaws.{seal-barred, seal-new}
use Rattle.weaving.proofs.allowed.may_seal.Goals as goal
use Rattle.weaving.proofs.allowed.may_seal.Goals.{then-is_reference, else-is_reference, then-is_filter, else-is_filter}

pub returns-then-has_room-clause-by_index : goal.returns-then-has_room-clause-by_index
returns-then-has_room-clause-by_index c = let a : c.if-is_reference.value ≡ (ref_right c.args.reference.now && filter_right c.args.x.now.classes.syntax.version c.args.filter) = elim c.if-is_reference.branch [ then-is_reference w ↦ w.value-is ∙ w.is_filter.ensures ∙ rw (← c.is_reference.ensures.value, w.if-is_reference.true) | else-is_reference w ↦ w.value-is ∙ w.if-is_reference.false ∙ rw (← c.is_reference.ensures.value, w.if-is_reference.false) ] in let b : c.if-is_filter.value ≡ (c.if-is_reference.value && (not c.args.x.now.layout.autack && ltb c.args.x.now.layout.headers 9)) = elim c.if-is_filter.branch [ then-is_filter w ↦ w.value-is ∙ w.has_room.ensures ∙ rw (w.if-is_filter.true) | else-is_filter w ↦ w.value-is ∙ rw (w.if-is_filter.false) ] in λ m h. seal-new h c.args.reference.now c.args.filter a b c.if-has_room.true (c.is_new.ensures m h)

pub returns-else-has_room-clause-by_index : goal.returns-else-has_room-clause-by_index
returns-else-has_room-clause-by_index c = let a : c.if-is_reference.value ≡ (ref_right c.args.reference.now && filter_right c.args.x.now.classes.syntax.version c.args.filter) = elim c.if-is_reference.branch [ then-is_reference w ↦ w.value-is ∙ w.is_filter.ensures ∙ rw (← c.is_reference.ensures.value, w.if-is_reference.true) | else-is_reference w ↦ w.value-is ∙ w.if-is_reference.false ∙ rw (← c.is_reference.ensures.value, w.if-is_reference.false) ] in let b : c.if-is_filter.value ≡ (c.if-is_reference.value && (not c.args.x.now.layout.autack && ltb c.args.x.now.layout.headers 9)) = elim c.if-is_filter.branch [ then-is_filter w ↦ w.value-is ∙ w.has_room.ensures ∙ rw (w.if-is_filter.true) | else-is_filter w ↦ w.value-is ∙ rw (w.if-is_filter.false) ] in λ m h. seal-barred h c.args.reference.now c.args.filter a b c.if-has_room.false
