use mathlib.Core.Path.{refl, sym, ◌∙◌}
use Prim.Native.Nat.{◌-◌}
use lib.ListN.{length}
use Rattle.references.specs.RefsLaws.{Seeking, seeking-start, seeking-in, seeking-free, seeking-names, seeking-found, seeking-less, seeking-on}
use borrow.Author.Rules.{rules}
use Rattle.references.proofs.refs.slot_of.Goals as goal

pub loop-n-init : goal.loop-n-init
loop-n-init c = seeking-start c.requires.indexed refl c.root-i.ensures

pub bounds-slots-i : goal.bounds-slots-i
bounds-slots-i c = search (seeking-in, rules)

pub returns-then-k-eq0 : goal.returns-then-k-eq0
returns-then-k-eq0 c = search (seeking-free, rules)

pub is_named-requires : goal.is_named-requires
is_named-requires c = search (seeking-names, rules)

pub returns-then-is_named : goal.returns-then-is_named
returns-then-is_named c = seeking-found c.requires.indexed c.loop-n.invariant c.from-k.ensures c.if-k-eq0.false (sym c.is_named.ensures ∙ c.if-is_named.true)

pub overflow_mul-i : goal.overflow_mul-i
overflow_mul-i c = let p = seeking-names c.requires.indexed c.loop-n.invariant c.from-k.ensures c.if-k-eq0.false in search rules

pub overflow_add-i : goal.overflow_add-i
overflow_add-i c = let p = seeking-names c.requires.indexed c.loop-n.invariant c.from-k.ensures c.if-k-eq0.false in search rules

pub overflow_add-i-in-loop-n : goal.overflow_add-i-in-loop-n
overflow_add-i-in-loop-n c = let p = seeking-names c.requires.indexed c.loop-n.invariant c.from-k.ensures c.if-k-eq0.false in search rules

pub loop-n-smaller : goal.loop-n-smaller
loop-n-smaller c = search (seeking-less, rules)

pub loop-n-preserved : goal.loop-n-preserved
loop-n-preserved c = seeking-on c.requires.indexed c.loop-n.invariant c.from-k.ensures c.if-k-eq0.false c.bit.ensures refl (sym c.is_named.ensures ∙ c.if-is_named.false)
