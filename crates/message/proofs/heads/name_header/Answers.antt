use native.Mathlib.Omega.{arith}
use borrow.Author.Rules.{rules}
use Rattle.message.specs.HeadsLaws.{name-law}
use borrow.Author.Rules.{rules}
use Rattle.message.proofs.heads.name_header.Goals as goal

pub returns : goal.returns
returns c = name-law _ _ _ c.requires.i_lt_n.0 (omega (arith, c.requires.i_lt_n, c.requires.heads_len))
