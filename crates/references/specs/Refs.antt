-- The references of the messages so far, each as two numbers, and the search tree over them: 0062 is used once in an interchange.
use Rattle.std.specs.Prelude.{ℕ, zero, suc, ◌+◌, ◌-◌, ◌*◌, ◌/◌, ◌%◌, ◌≤◌, ◌<◌, List, [], ◌∷◌, ◌++◌, ◌≡◌, Bool, true, false, cond, eqb, leb, length, get_or, take, drop, set, Option, Some, None}
use Rattle.syntax.specs.Content.{content}
use Rattle.grammar.specs.Lists.{Snoc, nil, ◌▷◌, among}

-- ---- a content as two numbers

-- the octets behind v, as digits to the base 256
abbrev pub packed : ℕ → List ℕ → ℕ
packed v [] = v
packed v (b ∷ s) = packed (v * 256 + b) s

-- the octets of a number behind its leading 1, of which there are at most k
unfoldable pub octets_in : ℕ → ℕ → List ℕ
octets_in zero v = []
octets_in (suc k) v = cond (leb v 1) [] (octets_in k (v / 256) ++ v % 256 ∷ [])

-- seven octets behind a 1 stay below 2 to the 57
abbrev pub full : ℕ
full = 144115188075855872

-- the first seven octets, and the next seven
abbrev pub head_of : List ℕ → ℕ
head_of t = packed 1 (take 7 t)

abbrev pub tail_of : List ℕ → ℕ
tail_of t = packed 1 (take 7 (drop 7 t))

-- ---- the references

-- `names` holds the two numbers of reference k at 2 * k
abbrev pub Named : List ℕ → ℕ → ℕ → ℕ → Type 0
Named names k h e = (get_or names (2 * k) 0 ≡ h) × (get_or names (2 * k + 1) 0 ≡ e)

abbrev pub is_named : List ℕ → ℕ → ℕ → ℕ → Bool
is_named names k h e = cond (eqb (get_or names (2 * k) 0) h) (eqb (get_or names (2 * k + 1) 0) e) false

abbrev pub ref_at : List ℕ → ℕ → List ℕ
ref_at names k = octets_in 7 (get_or names (2 * k) 0) ++ octets_in 7 (get_or names (2 * k + 1) 0)

-- the first n references
abbrev pub refs_in : List ℕ → ℕ → Snoc (List ℕ)
refs_in names zero = nil
refs_in names (suc n) = refs_in names n ▷ ref_at names n

-- ---- the tree

-- `slots` begins with m roots, and holds the two slots below reference k at m + 2 * k; a slot holds one more than a reference, or 0
abbrev pub root_of : ℕ → ℕ → ℕ → ℕ
root_of m h e = (h + e) % m

-- from slot i, by the bits of a and b in turn, one comes to a reference of this name
pub data Leads (m : ℕ) (names slots : List ℕ) (h e : ℕ) : ℕ → ℕ → ℕ → Type 0 where
  here : {i a b k : ℕ} → get_or slots i 0 ≡ suc k → Named names k h e → Leads m names slots h e i a b
  down : {i a b k : ℕ} → get_or slots i 0 ≡ suc k → Leads m names slots h e (m + 2 * k + a % 2) b (a / 2) → Leads m names slots h e i a b

abbrev pub Reached : ℕ → List ℕ → List ℕ → ℕ → ℕ → Type 0
Reached m names slots h e = Leads m names slots h e (root_of m h e) h e

-- there is room for the n references and a root; each number is that of its octets; a slot stands before the slots of what it holds, so that ways end;
-- and the way of each name leads to it
pub record Indexed (names slots : List ℕ) (n : ℕ) : Type 0 where
  pub few : n < 65536
  pub room : 2 * n ≤ length names
  pub rooted : length names < length slots
  pub named : (k : ℕ) → k < n → Named names k (head_of (ref_at names k)) (tail_of (ref_at names k))
  pub falls : (i k : ℕ) → get_or slots i 0 ≡ suc k → (k < n) × (i < length slots - length names + 2 * k)
  pub leads : (k h e : ℕ) → k < n → Named names k h e → Reached (length slots - length names) names slots h e

-- ---- what the steps of a search find

-- v is made of the next seven octets of content, or of as many as there are, and the others come from `next` on
pub record WordOf (ρ : ℕ) (x : List ℕ) (from v next : ℕ) (over : Bool) : Type 0 where
  pub small : v < full
  pub made : v ≡ packed 1 (take 7 (content ρ (drop from x)))
  pub shows : octets_in 7 v ≡ take 7 (content ρ (drop from x))
  pub rest : content ρ (drop next x) ≡ drop 7 (content ρ (drop from x))
  pub last : over ≡ true → content ρ (drop next x) ≡ []

-- h and e are the name of the content t, if it has one
pub record NameOf (t : List ℕ) (h e : ℕ) : Type 0 where
  pub first : h < full
  pub second : e < full
  pub made : length t ≤ 14 → (h ≡ head_of t) × (e ≡ tail_of t)
  pub shows : 0 < h → octets_in 7 h ++ octets_in 7 e ≡ t

-- what is there stays
abbrev pub Grown : List ℕ → List ℕ → Type 0
Grown slots slots' = (i k : ℕ) → get_or slots i 0 ≡ suc k → get_or slots' i 0 ≡ suc k

-- slot i holds a reference of this name, or it is free and none of the n has the name; and what is put there is found
pub record Spot (names slots : List ℕ) (n h e i : ℕ) : Type 0 where
  pub inside : i < length slots - length names + 2 * n
  pub held : (k : ℕ) → get_or slots i 0 ≡ suc k → (k < n) × Named names k h e
  pub free : get_or slots i 0 ≡ 0 → (k : ℕ) → k < n → Named names k h e → ⊥
  pub finds : (names' slots' : List ℕ) → Grown slots slots' → (k : ℕ) → get_or slots' i 0 ≡ suc k → Named names' k h e
      → Reached (length slots - length names) names' slots' h e

-- ---- a reference that may be the next one

-- its name is written at 2 * n, if there is room
abbrev pub put : List ℕ → ℕ → ℕ → ℕ → List ℕ
put names n h e = set (set names (2 * n) h) (2 * n + 1) e

abbrev pub kept : List ℕ → ℕ → ℕ → ℕ → List ℕ
kept names n h e = cond (leb (2 * n + 2) (length names)) (put names n h e) names

-- its name stands behind those of the n, and its way ends at slot i, which is free
pub record Offered (names slots : List ℕ) (n i : ℕ) : Type 0 where
  pub room : 2 * n + 2 ≤ length names
  pub named : Named names n (head_of (ref_at names n)) (tail_of (ref_at names n))
  pub spot : Spot names slots n (get_or names (2 * n) 0) (get_or names (2 * n + 1) 0) i
  pub free : get_or slots i 0 ≡ 0

-- the content t is not among the n references, which stay; if there is room, it is the one behind them
pub record Fitting (names slots : List ℕ) (n : ℕ) (t : List ℕ) (i : ℕ) (names' : List ℕ) : Type 0 where
  pub new : among (refs_in names n) t ≡ false
  pub same : refs_in names' n ≡ refs_in names n
  pub indexed : Indexed names' slots n
  pub size : length names' ≡ length names
  pub next : 2 * n + 2 ≤ length names' → (ref_at names' n ≡ t) × Offered names' slots n i

abbrev pub OfferIs : List ℕ → List ℕ → ℕ → List ℕ → Option ℕ → List ℕ → Type 0
OfferIs names slots n t (Some i) names' = Fitting names slots n t i names'
OfferIs names slots n t None names' = (among (refs_in names n) t ≡ true) × (length names' ≡ length names)
