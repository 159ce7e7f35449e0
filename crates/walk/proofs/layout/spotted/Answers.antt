use native.Mathlib.Omega.{arith}
use mathlib.Core.Path.{refl, ap, ◌∙◌}
use borrow.Author.Rules.{rules}
use Rattle.message.specs.declared.Group.TheVariants.{Trailer as InTrailer}
use Rattle.walk.specs.LayoutLaws.{stepped, room-header, room-trailer, noted-row, kept_row}
use Rattle.walk.proofs.layout.spotted.Goals as goal
use Rattle.walk.proofs.layout.spotted.Goals.{then-usa-eq0, else-usa-eq0}

pub overflow_sub-rows : goal.overflow_sub-rows
overflow_sub-rows c = omega (arith, room-header _ _ c.in-Header.is c.requires)

pub offset_bounds-rows-headers : goal.offset_bounds-rows-headers
offset_bounds-rows-headers c = record { fits = omega (arith, room-header _ _ c.in-Header.is c.requires) }

pub bounds-rows-headers : goal.bounds-rows-headers
bounds-rows-headers c = omega (arith, room-header _ _ c.in-Header.is c.requires)

pub returns-then-usr : goal.returns-then-usr
returns-then-usr c = let both = stepped _ _ _ _ _ _ _ _ (c.in-Trailer.is ∙ ap InTrailer c.if-usr.true) (refl, refl) in record { value = both.0; rows_after = both.1 }

pub overflow_add-rows : goal.overflow_add-rows
overflow_add-rows c = record { fits = omega (arith, room-trailer _ _ c.in-Trailer.is c.if-usr.false c.requires) }

pub offset_bounds-rows-trailers : goal.offset_bounds-rows-trailers
offset_bounds-rows-trailers c = record { fits = omega (arith, room-trailer _ _ c.in-Trailer.is c.if-usr.false c.requires) }

pub bounds-rows-trailers : goal.bounds-rows-trailers
bounds-rows-trailers c = omega (arith, room-trailer _ _ c.in-Trailer.is c.if-usr.false c.requires)

pub trailed-requires : goal.trailed-requires
trailed-requires c = room-trailer _ _ c.in-Trailer.is c.if-usr.false c.requires

pub returns-in-Opened : goal.returns-in-Opened
returns-in-Opened c = let both = stepped _ _ _ _ _ _ _ _ c.in-Opened.is (c.opened.ensures c.args.x, refl) in record { value = both.0; rows_after = both.1 }

pub returns-after-usa-eq0 : goal.returns-after-usa-eq0
returns-after-usa-eq0 c = let both = stepped _ _ _ _ _ _ _ _ c.in-Header.is
    (c.headed.ensures, elim c.if-usa-eq0.branch [ then-usa-eq0 w ↦ noted-row _ _ _ _ w.if-usa-eq0.true w.rows-is | else-usa-eq0 w ↦ kept_row _ _ _ _ w.if-usa-eq0.false w.rows-is ]) in record { value = both.0; rows_after = both.1 }

pub returns-in-Certificate : goal.returns-in-Certificate
returns-in-Certificate c = let both = stepped _ _ _ _ _ _ _ _ c.in-Certificate.is (c.headed-in-Certificate.ensures, refl) in record { value = both.0; rows_after = both.1 }

pub returns-in-Body : goal.returns-in-Body
returns-in-Body c = let both = stepped _ _ _ _ _ _ _ _ c.in-Body.is (c.bodied.ensures, refl) in record { value = both.0; rows_after = both.1 }

pub returns-in-Ack : goal.returns-in-Ack
returns-in-Ack c = let both = stepped _ _ _ _ _ _ _ _ c.in-Ack.is (c.bodied-in-Ack.ensures, refl) in record { value = both.0; rows_after = both.1 }

pub returns-else-usr : goal.returns-else-usr
returns-else-usr c = let both = stepped _ _ _ _ _ _ _ _ (c.in-Trailer.is ∙ ap InTrailer c.if-usr.false) (c.trailed.ensures, refl) in record { value = both.0; rows_after = both.1 }
