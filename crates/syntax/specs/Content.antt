-- Content: "A release makes the next octet data and drops out of the content."
use Rattle.std.specs.Prelude.{ℕ, ◌+◌, ◌*◌, ◌-◌, List, [], ◌∷◌, Bool, true, false, cond, not, eqb}
use Rattle.syntax.specs.Octets.{octet, digit, all_pass}

-- the release in force; a space is not in force
abbrev pub releases : ℕ → ℕ → Bool
releases ρ b = cond (eqb b (octet " ")) false (eqb b ρ)

-- `f`: the octet before is a release that is not itself released
abbrev pub content_from : ℕ → Bool → List ℕ → List ℕ
content_from ρ f [] = []
content_from ρ f (b ∷ s) =
    let released : List ℕ = content_from ρ true s in
    let kept : List ℕ = content_from ρ false s in
    cond f (b ∷ kept) (cond (releases ρ b) released (b ∷ kept))

abbrev pub content : ℕ → List ℕ → List ℕ
content ρ s = content_from ρ false s

-- ---- references. "From now trailing spaces don't count when two references are compared, and one made only of spaces is malformed (8)."

abbrev pub space : ℕ → Bool
space b = eqb b 32

-- an octet before what is left of those behind it: a space with nothing behind it goes
abbrev pub leading : ℕ → List ℕ → List ℕ
leading b [] = cond (space b) [] (b ∷ [])
leading b (c ∷ r) = b ∷ c ∷ r

-- without the spaces at the end
abbrev pub bare_of : List ℕ → List ℕ
bare_of [] = []
bare_of (b ∷ s) = leading b (bare_of s)

-- "References are compared by content.": what a reference, of this content, is compared by, in a segment and where a call is given one
abbrev pub compared : List ℕ → List ℕ
compared r = bare_of r

-- made only of spaces
abbrev pub blank : List ℕ → Bool
blank r = all_pass space r

-- digits, and the number they give
abbrev pub all_digits : List ℕ → Bool
all_digits s = all_pass digit s

abbrev pub value_from : ℕ → List ℕ → ℕ
value_from v [] = v
value_from v (d ∷ s) = value_from (v * 10 + (d - octet "0")) s
