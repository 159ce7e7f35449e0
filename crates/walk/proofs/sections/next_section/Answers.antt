use mathlib.Core.Path.{sym, ◌∙◌}
use Rattle.walk.specs.Sectioning.{starting-whole, section-whole, section-ended, section-behind}
use borrow.Author.Rules.{rules}
use Rattle.walk.proofs.sections.next_section.Goals as goal

pub returns-then-n-from : goal.returns-then-n-from
returns-then-n-from c = record { by_index = section-ended c.args.t.now.syntax c.args.s.now c.args.st c.args.heads.now c.args.names.now c.args.slots.now c.args.from c.ended.result c.args.heads.now c.args.names.now c.args.slots.now c.args.rows.now c.if-n-from.true c.is_done-done.ensures c.ended.ensures; marks_len = c.requires.between.marks }

pub returns-then-done : goal.returns-then-done
returns-then-done c = record { by_index = section-behind c.args.t.now.syntax c.args.s.now c.args.st c.args.heads.now c.args.names.now c.args.slots.now c.args.from c.misplaced.result c.args.heads.now c.args.names.now c.args.slots.now c.args.rows.now c.requires.between.fits c.if-n-from.false (sym c.is_done-done.ensures ∙ c.if-done.true) c.misplaced.ensures; marks_len = c.requires.between.marks }

pub section_in-requires : goal.section_in-requires
section_in-requires c = starting-whole c.requires.between c.if-n-from.false (sym c.is_done-done.ensures ∙ c.if-done.false)

pub returns : goal.returns
returns c = record { by_index = section-whole c.args.t.now.syntax c.args.s.now c.args.st c.args.heads.now c.args.names.now c.args.slots.now c.args.from c.section_in.result c.section_in.new.heads c.section_in.new.names c.section_in.new.slots c.section_in.new.rows c.if-n-from.false c.section_in.ensures.reached; marks_len = c.section_in.ensures.marks }
