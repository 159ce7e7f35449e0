-- Octets, and the tests on them that the other pages use.
use Rattle.std.specs.Prelude.{ℕ, List, [], ◌∷◌, Bool, true, false, cond, ◌&&◌, ◌||◌, eqb, leb}
use Prim.Native.Char.{Char, code}
use Prim.Native.String.{String, [] as empty, ◌∷◌ as put}

-- the octet of a character
abbrev pub octet : Char → ℕ
octet c = code c

-- the octets of a quoted text
abbrev pub octets : String → List ℕ
octets empty = []
octets (put c s) = octet c ∷ octets s

-- a to e, both included
abbrev pub within : ℕ → ℕ → ℕ → Bool
within a e b = leb a b && leb b e

-- 0 to 9, A to Z, a to z
abbrev pub digit : ℕ → Bool
digit b = within (octet "0") (octet "9") b

abbrev pub capital : ℕ → Bool
capital b = within (octet "A") (octet "Z") b

abbrev pub small : ℕ → Bool
small b = within (octet "a") (octet "z") b

-- one of these octets
abbrev pub one_of : List ℕ → ℕ → Bool
one_of [] b = false
one_of (x ∷ xs) b = eqb b x || one_of xs b

-- the same octets
abbrev pub same : List ℕ → List ℕ → Bool
same [] [] = true
same [] (y ∷ ys) = false
same (x ∷ xs) [] = false
same (x ∷ xs) (y ∷ ys) = cond (eqb x y) (same xs ys) false

-- the text starts with these octets
abbrev pub starts : List ℕ → List ℕ → Bool
starts [] s = true
starts (x ∷ xs) [] = false
starts (x ∷ xs) (b ∷ s) = cond (eqb b x) (starts xs s) false

-- each element of a list passes the test
abbrev pub all_pass : {A : Type 0} → (A → Bool) → List A → Bool
all_pass p [] = true
all_pass p (a ∷ r) = p a && all_pass p r
