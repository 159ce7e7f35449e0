use native.Mathlib.Omega.{arith}
use mathlib.Core.Path.{refl}
use Rattle.walk.specs.RunLaws.{fresh-tables}
use Rattle.spans.proofs.span.span_within.Goals as goal

pub span_among-requires : goal.span_among-requires
span_among-requires g c = record { fresh = fresh-tables _ _ c.requires.room.2 refl refl c.requires.t c.requires.room.0 c.requires.room.1; marks_len = (refl, refl, refl) }

pub whole_as_slice-span_among : goal.whole_as_slice-span_among
whole_as_slice-span_among g c = let a = c.requires.room.2 in let b = c.requires.room.3 in omega (arith, a, b)

pub whole_as_slice-span_among-2 : goal.whole_as_slice-span_among-2
whole_as_slice-span_among-2 g c = let b = c.requires.room.3 in omega (arith, b)
