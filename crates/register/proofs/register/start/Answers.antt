use Rattle.register.proofs.RegisterLaws.{unbegun}
use Rattle.register.proofs.register.start.Goals as goal

pub returns-in-Err : goal.returns-in-Err
returns-in-Err c = unbegun c.args.s.now c.begin.ensures c.in-Err.is c.refusal.ensures
