use Rattle.syntax.specs.Content.{content}
use Rattle.weaving.proofs.WovenLaws.{count-told, count_none, count_low}
use borrow.Author.Rules.{rules}
use Rattle.sealing.proofs.seal.grown.Goals as goal

pub overflow_add-result : goal.overflow_add-result
overflow_add-result c = let h = count_low (content c.args.t.now.syntax.service.release c.component_part.result.now) c.digits_value.ensures c.in-Some.is in search rules

pub returns-in-Some : goal.returns-in-Some
returns-in-Some c = count-told c.args.t.now.syntax.service c.args.s.now c.args.unt c.component_part.ensures c.digits_value.ensures c.in-Some.is

pub returns-in-None : goal.returns-in-None
returns-in-None c = count_none c.args.t.now.syntax.service c.args.s.now c.args.unt c.component_part.ensures c.digits_value.ensures c.in-None.is
