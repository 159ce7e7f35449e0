-- A walk over an interchange that ended with a breach, and the refusal that a call makes of it.
use Rattle.std.specs.Prelude.{ℕ, List, ◌≡◌}
use Rattle.std.proofs.Common.{ap, sym, ◌∙◌}
use Rattle.syntax.specs.Refusals.{refusal_at}
use Rattle.syntax.specs.declared.Refusal.{Refusal}
use Rattle.grammar.specs.Verdict.{Answer, refused, Verdict, refused_with, concluded}
use Rattle.grammar.specs.Valid.{Una}
use Rattle.std.proofs.Math.Option.{Option}

-- the walk over s told a, which is a breach, and f is its refusal
abbrev pub RefusedBy : List ℕ → Answer → Refusal → Type 0
RefusedBy s a f = (n : ℕ) × (p : ℕ) × (a ≡ refused n p) × (f ≡ refusal_at s n p)

-- such a walk concludes with that refusal
pub refused-so : (s : List ℕ) (u : Option Una) (a : Answer) {f : Refusal} {v : Verdict} → v ≡ concluded s u a → RefusedBy s a f → v ≡ refused_with f
refused-so s u a e q = e ∙ ap (concluded s u) q.2 ∙ ap refused_with (sym q.3)
