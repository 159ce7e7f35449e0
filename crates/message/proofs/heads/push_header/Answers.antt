use native.Mathlib.Omega.{arith}
use borrow.Author.Rules.{rules}
use Rattle.message.specs.HeadsLaws.{push-law}
use borrow.Author.Rules.{rules}
use Rattle.message.proofs.heads.push_header.Goals as goal

pub returns : goal.returns
returns c = push-law _ _ _ _ (omega (arith, c.requires.n_bound, c.requires.heads_len))
