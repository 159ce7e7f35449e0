use mathlib.Core.Path.{ap, ◌∙◌}
use Rattle.groups.specs.Links.{link_from}
use Rattle.groups.specs.LinksLaws.{given-bare}
use borrow.Author.Rules.{rules}
use Rattle.groups.proofs.links.link_named.Goals as goal

pub returns : goal.returns
returns c =
    let g = c in
    λ gs w.
    c.link_from.ensures gs w
    ∙ ap (link_from g.args.t.now.syntax.service g.args.body g.args.body gs) (given-bare g.args.reference.now c.bare.result.now c.bare.ensures)
