use mathlib.Core.Path.{refl}
use native.Mathlib.Omega.{arith}
use Rattle.std.proofs.lemmas.Result.{err_from_is_err_and}
use Rattle.walk.specs.RunLaws.{begun-fits}
use Rattle.judge.specs.ToldLaws.{judged-unbegun, judged-walked}
use Rattle.judge.proofs.run.judged.Goals as goal

pub returns-in_err-start : goal.returns-in_err-start
returns-in_err-start c = let p = err_from_is_err_and c.from_residual.result c.from_residual.ensures.1 in rw (p.1, p.2) (judged-unbegun c.args.s.now c.begin.ensures c.in_err-start.was refl).0

pub run_within-requires-clause-t : goal.run_within-requires-clause-t
run_within-requires-clause-t c = rw c.of-t.ensures (begun-fits c.args.s.now c.begin.ensures c.in_ok-start.was).0

pub returns-then-s-le256 : goal.returns-then-s-le256
returns-then-s-le256 c = (judged-walked c.args.s.now c.begin.ensures c.in_ok-start.was (rw c.of-t.ensures at c.run_within.ensures)).0

pub run_within-requires-then-s-le2048-clause-t : goal.run_within-requires-then-s-le2048-clause-t
run_within-requires-then-s-le2048-clause-t c = rw c.of-t.ensures (begun-fits c.args.s.now c.begin.ensures c.in_ok-start.was).0

pub returns-then-s-le2048 : goal.returns-then-s-le2048
returns-then-s-le2048 c = (judged-walked c.args.s.now c.begin.ensures c.in_ok-start.was (rw c.of-t.ensures at c.run_within-then-s-le2048.ensures)).0

pub run_within-requires-2-clause-t : goal.run_within-requires-2-clause-t
run_within-requires-2-clause-t c = rw c.of-t.ensures (begun-fits c.args.s.now c.begin.ensures c.in_ok-start.was).0

pub run_within-requires-2-clause-room : goal.run_within-requires-2-clause-room
run_within-requires-2-clause-room c = let w = (begun-fits c.args.s.now c.begin.ensures c.in_ok-start.was).1 in (w, omega (arith, w), omega arith, omega arith)

pub returns : goal.returns
returns c = (judged-walked c.args.s.now c.begin.ensures c.in_ok-start.was (rw c.of-t.ensures at c.run_within-2.ensures)).0
