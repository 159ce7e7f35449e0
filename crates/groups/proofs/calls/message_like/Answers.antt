use Rattle.std.specs.Prelude.{Ok, refl}
use Rattle.std.proofs.Common.{ap, ◌∙◌}
use Rattle.syntax.specs.Content.{content}
use Rattle.walk.specs.RunLaws.{begun-fits}
use Rattle.groups.specs.CallsLaws.{named-refused, named-not-read, named-missing, named_here}
use borrow.Author.Rules.{rules}
use Rattle.groups.proofs.calls.message_like.Goals as goal

pub find-requires : goal.find-requires
find-requires c = let w = begun-fits c.args.s.now c.begin.ensures c.in-Ok.is in record { t = rw c.of-classes.ensures w.0; s_len_bound = (w.1, refl) }

pub returns-in-Err : goal.returns-in-Err
returns-in-Err c = named-refused c.args.s.now (content c.args.other c.args.message.now) c.begin.ensures c.in-Err.is c.refusal.ensures

pub returns-in-Ok-Some : goal.returns-in-Ok-Some
returns-in-Ok-Some c = named_here c.args.s.now (content c.args.other c.args.message.now) c.begin.ensures c.in-Ok.is c.find.new.rows c.of-classes.result c.of-classes.ensures (c.in-Ok-Some.is ∙ ap Ok c.in-Ok-Some.field-0-is) (rw c.of-classes.ensures at c.find.ensures)

pub returns-in-Ok-None : goal.returns-in-Ok-None
returns-in-Ok-None c = named-missing c.args.s.now (content c.args.other c.args.message.now) c.begin.ensures c.in-Ok.is c.find.new.rows (c.in-Ok-None.is ∙ ap Ok c.in-Ok-None.field-0-is) (rw c.of-classes.ensures at c.find.ensures)

pub returns-in-Err-find : goal.returns-in-Err-find
returns-in-Err-find c = named-not-read c.args.s.now (content c.args.other c.args.message.now) c.begin.ensures c.in-Ok.is c.find.new.rows c.in-Err-find.is (rw c.of-classes.ensures at c.find.ensures) c.refusal-in-Err-find.ensures
