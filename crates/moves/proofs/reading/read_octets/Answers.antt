use Rattle.std.proofs.Common.{arith, ◌≡◌, ◌<◌, ◌∙◌, get_or}
use Rattle.moves.specs.NumberLaws.{highing-start, highing-cut, highing-fits, highing-on, highing-end, highing-over}
use Rattle.moves.proofs.reading.read_octets.Goals as goal

pub loop-init : goal.loop-init
loop-init c = highing-start (omega arith) c.requires

pub returns-in_err-get : goal.returns-in_err-get
returns-in_err-get c = c.from_residual.ensures ∙ highing-cut c.loop.invariant (omega arith) c.in_err-get.ensures.lookup.3

pub overflow_mul-v : goal.overflow_mul-v
overflow_mul-v c = let h = highing-fits c.loop.invariant (omega arith) in omega arith

pub overflow_add-v : goal.overflow_add-v
overflow_add-v c =
    let h : c.loop.v < 72057594037927936 = highing-fits c.loop.invariant (omega arith) in
    let e : c.from.result ≡ get_or c.args.s.now c.loop.i 0 = c.from.ensures ∙ c.in_ok-get.ensures.lookup.3.1 0 in
    omega (arith, c.type_inv.s c.loop.i)

pub loop-preserved : goal.loop-preserved
loop-preserved c =
    let k = c.in_ok-get.ensures.lookup.3 in
    let e : c.from.result ≡ get_or c.args.s.now c.loop.i 0 = c.from.ensures ∙ k.1 0 in
    highing-on c.loop.invariant (omega arith) (omega arith) k.0 (e, omega (arith, c.type_inv.s c.loop.i))

pub returns-then-v-most : goal.returns-then-v-most
returns-then-v-most c = highing-end c.loop.invariant (omega arith) c.if-v-most.true

pub returns-else-v-most : goal.returns-else-v-most
returns-else-v-most c = highing-over c.loop.invariant (omega arith) c.if-v-most.false
