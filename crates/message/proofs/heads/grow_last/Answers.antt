use borrow.Author.Rules.{rules}
use Rattle.message.specs.HeadsLaws.{grow-last-law, grow-last-none}
use borrow.Author.Rules.{rules}
use Rattle.message.proofs.heads.grow_last.Goals as goal

pub overflow_add-heads : goal.overflow_add-heads
overflow_add-heads c = let h = c.requires.n_bound_2 c.if-n-gt0.true in search rules

pub returns-then-n-gt0 : goal.returns-then-n-gt0
returns-then-n-gt0 c = grow-last-law _ _ c.if-n-gt0.true (search rules)

pub returns-else-n-gt0 : goal.returns-else-n-gt0
returns-else-n-gt0 c = grow-last-none _ _ c.if-n-gt0.false
