-- Where the parts of a message stand in the octets that it is printed as.
use Rattle.std.specs.Prelude.{ℕ, ◌+◌, length}
use Rattle.syntax.specs.Tree.{Segment, print_s}
use Rattle.syntax.specs.declared.Service.{Service}
use Rattle.grammar.specs.Lists.{Snoc, nil, ◌▷◌, joined}
use Rattle.grammar.specs.Interchange.{Header, Trailer, Open, msg, message}

-- the octets that segments take, printed one after the other
abbrev pub wide : Service → Snoc Segment → ℕ
wide σ nil = 0
wide σ (gs ▷ g) = wide σ gs + length (print_s σ g)

-- where each of a row of groups starts, the first at p
abbrev pub starts_of : {A : Type 0} → (A → Snoc Segment) → Service → ℕ → Snoc A → Snoc ℕ
starts_of show σ p nil = nil
starts_of show σ p (gs ▷ a) = starts_of show σ p gs ▷ (p + wide σ (joined show gs))

-- the headers and the trailers of an open message
abbrev pub headers_in : Open → Snoc Header
headers_in (msg h hs b ts) = hs

abbrev pub trailers_in : Open → Snoc Trailer
trailers_in (msg h hs b ts) = ts
