-- Lists that grow at the end, so that what was read so far is an initial part of what will be read; and rules as formulas.
use Rattle.std.specs.Prelude.{ℕ, suc, ◌+◌, Bool, true, false, cond, not, ◌&&◌, ◌||◌, List, [], ◌∷◌, ◌++◌, T, leb}
use Rattle.std.proofs.Math.Option.{Option, none, some}
use Rattle.syntax.specs.Octets.{same}

infixl 50 ◌▷◌
infixl 50 ◌+++◌
infixr 30 ◌and◌
pub data Snoc (A : Type 0) : Type 0 where
  nil : Snoc A
  ◌▷◌ : Snoc A → A → Snoc A

abbrev pub map : {A B : Type 0} → (A → B) → Option A → Option B
map f none = none
map f (some a) = some (f a)

abbrev pub ◌+++◌ : {A : Type 0} → Snoc A → Snoc A → Snoc A
s +++ nil = s
s +++ (t ▷ a) = (s +++ t) ▷ a

abbrev pub each : {A B : Type 0} → (A → B) → Snoc A → Snoc B
each f nil = nil
each f (s ▷ a) = each f s ▷ f a

-- each shown, one after the other
abbrev pub joined : {A B : Type 0} → (A → Snoc B) → Snoc A → Snoc B
joined f nil = nil
joined f (s ▷ a) = joined f s +++ f a

abbrev pub size : {A : Type 0} → Snoc A → ℕ
size nil = 0
size (s ▷ a) = suc (size s)

abbrev pub any : {A : Type 0} → Snoc A → Bool
any nil = false
any (s ▷ a) = true

-- one of these references, by content
abbrev pub among : Snoc (List ℕ) → List ℕ → Bool
among nil r = false
among (s ▷ a) r = same a r || among s r

-- the same as a plain list
abbrev pub list : {A : Type 0} → Snoc A → List A
list nil = []
list (s ▷ a) = list s ++ a ∷ []

-- ---- a rule: what it says, and the test that tells

pub data Rule : Type 0 where
  always : Rule
  test : Bool → Rule
  ◌and◌ : Rule → Rule → Rule

abbrev pub holds : Rule → Type 0
holds always = Unit {0}
holds (test b) = T b
holds (a and b) = holds a × holds b

abbrev pub check : Rule → Bool
check always = true
check (test b) = b
check (a and b) = check a && check b

abbrev pub every : {A : Type 0} → (A → Rule) → Snoc A → Rule
every f nil = always
every f (s ▷ a) = every f s and f a

-- each but the last, which may be just begun
abbrev pub every_before : {A : Type 0} → (A → Rule) → Snoc A → Rule
every_before f nil = always
every_before f (s ▷ a) = every f s

abbrev pub few : {A : Type 0} → ℕ → Snoc A → Rule
few n s = test (leb (size s) n)

-- used once
abbrev pub distinct : Snoc (List ℕ) → Rule
distinct nil = always
distinct (s ▷ r) = distinct s and test (not (among s r))
