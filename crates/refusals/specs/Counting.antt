-- How the ordinal of a segment is counted: what an octet does. `f`: the octet before is a release that is not itself released.
use Rattle.std.specs.Prelude.{ℕ, Bool, true, false, eqb, leb}
use Rattle.syntax.specs.Service.{kind}
use Rattle.syntax.specs.declared.Service.{Service}

-- it ends its segment
abbrev pub ends_here : Service → Bool → ℕ → Bool
ends_here σ f b = leb 5 (kind σ f b)

-- it releases the next one
abbrev pub frees_next : Service → Bool → ℕ → Bool
frees_next σ f b = eqb (kind σ f b) 0

abbrev pub one_if : Bool → ℕ
one_if true = 1
one_if false = 0
