use Rattle.values.specs.ValuesLaws.{link_at, link-none}
use Rattle.values.proofs.link_text.Goals as goal

pub returns-in-Some : goal.returns-in-Some
returns-in-Some c = λ m rows h. link_at h c.args.header.now c.link_named.ensures c.in-Some.is c.value_part.ensures c.component_part.ensures

pub returns-in-None : goal.returns-in-None
returns-in-None c = λ m rows h. link-none h c.args.header.now c.link_named.ensures c.in-None.is c.part.ensures
