use borrow.Author.Rules.{rules}
use Rattle.weaving.specs.ValueLaws.{releasing-start, releasing-on, releasing-end, releasing-most}
use Rattle.weaving.proofs.value.put_released.Goals as goal

pub loop-b-init : goal.loop-b-init
loop-b-init c = releasing-start

pub loop-b-preserved : goal.loop-b-preserved
loop-b-preserved c = search (releasing-on, rules)

pub returns : goal.returns
returns c = record { laid = search (releasing-end, rules); upper_bound = search (releasing-most, rules) }
