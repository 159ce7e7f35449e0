use Rattle.groups.specs.LinksLaws.{tagged_is}
use borrow.Author.Rules.{rules}
use Rattle.groups.proofs.links.is_tagged.Goals as goal

pub returns : goal.returns
returns c = tagged_is c.args.s.now c.args.at c.args.tag.now c.part.ensures c.content_is.ensures
