use Rattle.syntax.specs.RepertoireLaws.{table-by}
use borrow.Author.Rules.{rules}
use Rattle.syntax.proofs.repertoire.classes.Goals as goal

pub returns : goal.returns
returns c = table-by (record { component = search rules; element = search rules; release = search rules; repetition = search rules; terminator = search rules })
    c.base.ensures c.put.ensures c.put-2.ensures c.put-3.ensures c.put-4.ensures c.put-5.ensures c.put-6.ensures
