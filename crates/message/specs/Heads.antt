-- The headers of the message now open, as the code keeps them: four numbers for each in an array, of which the first n headers count.
use Rattle.std.specs.Prelude.{ℕ, zero, suc, ◌+◌, ◌*◌, ◌≤◌, ◌<◌, ◌≡◌, Bool, false, not, List, eqb, length, get_or}
use Rattle.std.proofs.Math.Option.{Option, none, some}
use Rattle.std.proofs.Math.Seq.{slice}
use Rattle.syntax.specs.Content.{content, compared}
use Rattle.grammar.specs.Lists.{Snoc, nil, ◌▷◌}
use Rattle.message.specs.Summary.{more_in_last, named}

-- f 0 up to, not including, f n
abbrev pub upto : {A : Type 0} → ℕ → (ℕ → A) → Snoc A
upto zero f = nil
upto (suc n) f = upto n f ▷ f n

-- of header i: its 0534 in the octets s under the release ρ; its segments; whether a trailer has named it
abbrev pub head_ref : ℕ → List ℕ → List ℕ → ℕ → List ℕ
head_ref ρ s h i = compared (content ρ (slice (get_or h (4 * i) 0) (get_or h (4 * i + 1) 0) s))

abbrev pub head_size : List ℕ → ℕ → ℕ
head_size h i = get_or h (4 * i + 2) 0

abbrev pub head_flag : List ℕ → ℕ → Bool
head_flag h i = not (eqb (get_or h (4 * i + 3) 0) 0)

-- of the first n headers
abbrev pub head_refs : ℕ → List ℕ → List ℕ → ℕ → Snoc (List ℕ)
head_refs ρ s h n = upto n (head_ref ρ s h)

abbrev pub head_sizes : List ℕ → ℕ → Snoc ℕ
head_sizes h n = upto n (head_size h)

abbrev pub head_flags : List ℕ → ℕ → Snoc Bool
head_flags h n = upto n (head_flag h)

-- a place as the code answers it: n for none
abbrev pub pos_or : ℕ → Option ℕ → ℕ
pos_or n none = n
pos_or n (some i) = i

-- ---- h to h': a header more, from a to e; a segment more in the last header; header i named

pub record Pushed (h h' : List ℕ) (n a e : ℕ) : Type 0 where
  pub long : length h' ≡ length h
  pub refs : (ρ : ℕ) (s : List ℕ) → head_refs ρ s h' (n + 1) ≡ head_refs ρ s h n ▷ compared (content ρ (slice a e s))
  pub sizes : head_sizes h' (n + 1) ≡ head_sizes h n ▷ 1
  pub flags : head_flags h' (n + 1) ≡ head_flags h n ▷ false

pub record GrownLast (h h' : List ℕ) (n : ℕ) : Type 0 where
  pub long : length h' ≡ length h
  pub refs : (ρ : ℕ) (s : List ℕ) → head_refs ρ s h' n ≡ head_refs ρ s h n
  pub sizes : head_sizes h' n ≡ more_in_last (head_sizes h n)
  pub flags : head_flags h' n ≡ head_flags h n

pub record Named (h h' : List ℕ) (n i : ℕ) : Type 0 where
  pub long : length h' ≡ length h
  pub refs : (ρ : ℕ) (s : List ℕ) → head_refs ρ s h' n ≡ head_refs ρ s h n
  pub sizes : head_sizes h' n ≡ head_sizes h n
  pub flags : head_flags h' n ≡ named (head_flags h n) i

-- none of the first n headers has more than b segments
pub record Small (h : List ℕ) (n b : ℕ) : Type 0 where
  pub each : (i : ℕ) → i < n → get_or h (4 * i + 2) 0 ≤ b
