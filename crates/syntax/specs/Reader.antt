-- A reader of octets into trees. `ReaderLaws` shows that it reads just the printings of well-formed segments.
use Rattle.std.specs.Prelude.{ℕ, zero, suc, List, [], ◌∷◌, Bool, true, false, cond, ◌&&◌, eqb}
use Rattle.std.proofs.Math.Option.{Option, none, some}
use Rattle.syntax.specs.Service.{kind}
use Rattle.syntax.specs.Repertoire.{tag_octet}
use Rattle.syntax.specs.Tree.{Octet, plain, freed, Ne, ne, Component, Repeat, Element, Segment, segment, Symbol, tok, comp, rep, elem, term}
use Rattle.syntax.specs.declared.Service.{Service}

-- segments in order, the first one open: its first component, the further components, repeats and elements, and the segments after it.
-- `left`: octets behind the last terminator
pub data Chain : Type 0 where
  over left : Chain
  open' : Component → List Component → List Repeat → List Element → Chain → Chain

-- a symbol put before a chain
abbrev pub push : Symbol → Chain → Chain
push (tok t) over = left
push comp over = left
push rep over = left
push elem over = left
push term over = open' [] [] [] [] over
push (tok t) left = left
push comp left = left
push rep left = left
push elem left = left
push term left = open' [] [] [] [] left
push (tok t) (open' c cs rs es n) = open' (t ∷ c) cs rs es n
push comp (open' c cs rs es n) = open' [] (c ∷ cs) rs es n
push rep (open' c cs rs es n) = open' [] [] (ne c cs ∷ rs) es n
push elem (open' c cs rs es n) = open' [] [] [] (ne (ne c cs) rs ∷ es) n
push term (open' c cs rs es n) = open' [] [] [] [] (open' c cs rs es n)

-- an octet of kind k put before a chain; `f`: it is released
abbrev pub emit : Bool → ℕ → ℕ → Chain → Chain
emit true k b n = push (tok (freed b)) n
emit false zero b n = n
emit false (suc zero) b n = push (tok (plain b)) n
emit false (suc (suc zero)) b n = push comp n
emit false (suc (suc (suc zero))) b n = push rep n
emit false (suc (suc (suc (suc zero)))) b n = push elem n
emit false (suc (suc (suc (suc (suc k))))) b n = push term n

-- the segments of an input. Each ends where `end_at` (Cutting.antt) says, and what has no end is left: `TurnLaws.turn-good`, `turn-bad`, `turn-left`
-- in the crate `turns`. A release as the very last octet frees nothing: it is left
abbrev pub chain : Service → Bool → List ℕ → Chain
chain σ true [] = left
chain σ false [] = over
chain σ f (b ∷ s) = emit f (kind σ f b) b (chain σ (eqb (kind σ f b) 0) s)

-- what `tag_of` (Cutting.antt) says of octets, said of what was read (`TurnLaws.turn-good`, `turn-bad`): a tag of three octets, none freed, each A to Z or 0 to 9, and nothing else before the first element
abbrev pub tagged : Octet → Octet → Octet → List Element → Option Segment
tagged (plain a) (plain b) (plain c) es = cond (tag_octet a && tag_octet b && tag_octet c) (some (segment a b c es)) none
tagged (plain a) (plain b) (freed c) es = none
tagged (plain a) (freed b) v es = none
tagged (freed a) u v es = none

abbrev pub cut : Component → List Component → List Repeat → List Element → Option Segment
cut c (d ∷ cs) rs es = none
cut c [] (r ∷ rs) es = none
cut [] [] [] es = none
cut (t ∷ []) [] [] es = none
cut (t ∷ u ∷ []) [] [] es = none
cut (t ∷ u ∷ v ∷ []) [] [] es = tagged t u v es
cut (t ∷ u ∷ v ∷ w ∷ r) [] [] es = none

-- all segments, where each is good and nothing is left
abbrev pub before : Option Segment → Option (List Segment) → Option (List Segment)
before none r = none
before (some g) none = none
before (some g) (some gs) = some (g ∷ gs)

abbrev pub gathered : Chain → Option (List Segment)
gathered over = some []
gathered left = none
gathered (open' c cs rs es n) = before (cut c cs rs es) (gathered n)

abbrev pub segments_of : Service → List ℕ → Option (List Segment)
segments_of σ s = gathered (chain σ false s)
