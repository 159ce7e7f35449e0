use Rattle.references.specs.RefsLaws.{noted}
use borrow.Author.Rules.{rules}
use Rattle.references.proofs.refs.note.Goals as goal

pub returns : goal.returns
returns c = let both = noted c.requires.indexed c.requires.offered.0 c.requires.offered.1 in record { indexed_2 = both.0; slots_len_unchanged = both.1 }
