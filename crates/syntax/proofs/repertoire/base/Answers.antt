use Rattle.syntax.specs.RepertoireLaws.{base-by}
use borrow.Author.Rules.{rules}
use Rattle.syntax.proofs.repertoire.base.Goals as goal

pub returns : goal.returns
returns c = base-by c.requires c.fill.ensures c.data_class.ensures c.fill-2.ensures c.data_class-2.ensures c.fill-3.ensures c.data_class-3.ensures c.fill-4.ensures c.data_class-4.ensures c.fill-5.ensures c.data_class-5.ensures c.fill-6.ensures c.data_class-6.ensures c.fill-7.ensures c.data_class-7.ensures c.fill-8.ensures c.data_class-8.ensures c.fill-9.ensures c.data_class-9.ensures c.fill-10.ensures c.data_class-10.ensures c.fill-11.ensures c.data_class-11.ensures c.fill-12.ensures c.data_class-12.ensures c.fill-13.ensures c.data_class-13.ensures
