use Rattle.syntax.specs.Content.{compared}
use native.Mathlib.Omega.{arith}
use Rattle.message.specs.ItemsLaws.{not-true, not-false}
use Prim.Native.Nat.{◌-◌, ◌≤◌}
use mathlib.Core.Path.{◌≡◌, refl, sym, ◌∙◌}
use mathlib.Core.Logic.{⊎_elim}
use borrow.Author.Rules.{rules}
use lib.ListN.{length}
use Rattle.elements.specs.Octets.{text_at}
use Rattle.message.specs.Summary.{free_at}
use Rattle.message.specs.Heads.{head_refs, head_flags, pos_or}
use Rattle.message.specs.HeadsLaws.{Seeking, seeking-start, seeking-hit, seeking-on, seeking-end}
use Rattle.walk.specs.RunLaws.{further, halted, onward-far}
use Rattle.walk.specs.SectionLaws.{nameable-most, sought}
use Rattle.walk.specs.Sectioning.{Sectioning, ahead, walks-so, going-so, short-so, headers-so, room-so, rows-so, on-so, close-so, end-so}
use Rattle.walk.proofs.sections.section_in.Given as goal

abbrev pub invariant-loop-i : goal.invariant-loop-i
invariant-loop-i l = (l.found ≡ l.n) × Seeking l.t.syntax.service.release l.s l.heads (compared (text_at l.t.syntax.service l.s l.at 1 0)) l.n l.i

abbrev pub decreases-loop-i : goal.decreases-loop-i
decreases-loop-i l = l.n - l.i

abbrev pub invariant-loop-at : goal.invariant-loop-at
invariant-loop-at l =
    Sectioning l.t.syntax l.s l.initial.st l.initial.heads l.initial.names l.initial.slots l.initial.at l.st l.heads l.names l.slots l.at l.x l.rows l.marks

abbrev pub decreases-loop-at : goal.decreases-loop-at
decreases-loop-at l = length l.s - l.at
