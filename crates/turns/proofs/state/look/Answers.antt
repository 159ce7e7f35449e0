use mathlib.Core.Path.{sym, ◌∙◌}
use Rattle.syntax.proofs.CleanLaws.{tag-here}
use Rattle.turns.specs.LookLaws.{sight-bad, sight-entered, sight-passed}
use borrow.Author.Rules.{rules}
use Rattle.turns.proofs.state.look.Goals as goal

pub fields-requires : goal.fields-requires
fields-requires c = record { tag_at = (tag-here c.args.t.now.syntax c.requires.t.0 c.args.s.now c.args.at _ _ _ (sym c.tag_in.ensures ∙ c.in-Some.is), c.requires.t.1) }

pub returns-then-looked_into : goal.returns-then-looked_into
returns-then-looked_into c = sight-entered c.args.t.now.syntax c.args.s.now c.args.at c.tag_in.ensures c.in-Some.is c.kind_of-k.ensures (c.entered.ensures c.fields.new.marks c.fields.ensures)

pub overflow_add-at : goal.overflow_add-at
overflow_add-at c = let w = (tag-here c.args.t.now.syntax c.requires.t.0 c.args.s.now c.args.at _ _ _ (sym c.tag_in.ensures ∙ c.in-Some.is)).long in search rules

pub returns-in-None : goal.returns-in-None
returns-in-None c = sight-bad c.args.t.now.syntax c.args.s.now c.args.at c.tag_in.ensures c.in-None.is c.unseen.ensures c.seen_alone.ensures c.requires.t.1

pub returns-else-looked_into : goal.returns-else-looked_into
returns-else-looked_into c = sight-passed c.args.t.now.syntax c.args.s.now c.args.at c.tag_in.ensures c.in-Some.is c.kind_of-k.ensures c.requires.t.0 (sym c.looked_into.ensures ∙ c.if-looked_into.false) c.scan.ensures c.seen.ensures c.seen_alone-in-Some.ensures c.requires.t.1
