-- The run of the message that is found, as the code makes it.
use Rattle.syntax.specs.declared.Refusal.{Refusal}
use Rattle.groups.specs.declared.named.Range.{Range}
use Rattle.std.specs.Prelude.{Bool, true, false, cond, Result, Ok, Err}
use Rattle.syntax.specs.Refusals.{at_zero}
use Rattle.walk.specs.declared.sections.Layout.{Layout}

-- of the message with this layout, where its interchange is the one that is referred to, or is not
abbrev pub whole_by : Layout → Bool → Result Range Refusal
whole_by c false = Err (at_zero 13)
whole_by c true = cond c.autack (Err (at_zero 13)) (Ok (record { start = c.unh; end = c.end }))
