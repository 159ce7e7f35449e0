-- The new groups are laid piece by piece as they print.
use Rattle.std.specs.Prelude.{ℕ, ◌+◌, ◌≤◌, ◌<◌, min, Bool, true, false, cond, ◌≡◌, refl, length, take}
use Rattle.std.proofs.Math.Nat.{min-le_right}
use Rattle.std.proofs.Common.{arith, ◌∙◌, length-take, length-drop}
use mathlib.Core.List.{List, [], ◌∷◌, ◌++◌, append_assoc, append-nil}
use Rattle.std.proofs.Math.Path.{ap}
use Rattle.std.proofs.Math.Seq.{slice}
use Rattle.syntax.specs.Service.{serves}
use Rattle.syntax.specs.Octets.{octets}
use Rattle.syntax.specs.Opening.{earlier}
use Rattle.syntax.specs.Tree.{plain, freed, Element, segment, Symbol, elem, term, flat_c, flat_e, each, spells, print_s}
use Rattle.syntax.proofs.TreeLaws.{spells-append, print-cons}
use Rattle.syntax.specs.declared.Service.{Service}
use Rattle.syntax.specs.declared.Version.{Version}
use Rattle.grammar.specs.Segments.{Ust, Usr, seg}
use Rattle.writing.specs.Laid.{Laid, together}
use Rattle.weaving.specs.Seals.{plains, released, single, several, ust_leaf, usr_leaf}
use Rattle.weaving.specs.Woven.{header_text, trailer_text, released_text, header_pieces, ust_end, usr_open, trailer_pieces}

module _ (σ : Service) where
  pub spells-plains : (t : List ℕ) → spells σ (flat_c (plains t)) ≡ t
  spells-plains [] = refl
  spells-plains (b ∷ t) = ap (λ (l : List ℕ). b ∷ l) (spells-plains t)

  pub spells-released : (t : List ℕ) → spells σ (flat_c (released σ t)) ≡ released_text σ t
  spells-released [] = refl
  spells-released (b ∷ t) = by (serves σ b) ∙ ap (λ (l : List ℕ). cond (serves σ b) (σ.release ∷ b ∷ l) (b ∷ l)) (spells-released t)
    where
      by : (x : Bool) → spells σ (flat_c (cond x (freed b) (plain b) ∷ released σ t)) ≡ cond x (σ.release ∷ b ∷ spells σ (flat_c (released σ t))) (b ∷ spells σ (flat_c (released σ t)))
      by true = refl
      by false = refl

  -- a segment, and its first element where that is one component
  pub segment-print : (a b c : ℕ) (es : List Element) → print_s σ (segment a b c es) ≡ a ∷ b ∷ c ∷ (spells σ (each elem flat_e es) ++ σ.terminator ∷ [])
  segment-print a b c es = ap (λ (l : List ℕ). a ∷ b ∷ c ∷ l) (spells-append σ (each elem flat_e es) (term ∷ []))

  pub single-print : (t : List ℕ) (es : List Element) → spells σ (each elem flat_e (single t ∷ es)) ≡ σ.element ∷ (t ++ spells σ (each elem flat_e es))
  single-print t es =
      ap (λ (l : List ℕ). σ.element ∷ l)
      (spells-append σ (flat_e (single t)) (each elem flat_e es)
      ∙ ap (λ (l : List ℕ). l ++ spells σ (each elem flat_e es)) (ap (spells σ) (append-nil (flat_c (plains t) ++ []) ∙ append-nil (flat_c (plains t))) ∙ spells-plains t))

  pub header-pieces : (r : List ℕ) (f : ℕ) → header_text σ r f ≡ together (header_pieces σ r f)
  unfolding header_text
  header-pieces r f = simp (spells-append, append_assoc, append-nil, spells-plains)

  -- UST and USR, by the edition
  ust-print : (v : Version) (r : List ℕ) → print_s σ (seg Ust (ust_leaf v r)) ≡ 85 ∷ 83 ∷ 84 ∷ σ.element ∷ (r ++ ust_end v σ)
  ust-print v r =
      segment-print 85 83 84 (ust_leaf v r)
      ∙ ap (λ (l : List ℕ). 85 ∷ 83 ∷ 84 ∷ (l ++ σ.terminator ∷ [])) (single-print r (cond (earlier v) [] (single (octets "4") ∷ [])))
      ∙ ap (λ (l : List ℕ). 85 ∷ 83 ∷ 84 ∷ σ.element ∷ l) (by (earlier v))
    where
      by : (e : Bool) → (r ++ spells σ (each elem flat_e (cond e [] (single (octets "4") ∷ [])))) ++ σ.terminator ∷ []
          ≡ r ++ cond e (σ.terminator ∷ []) (σ.element ∷ 52 ∷ σ.terminator ∷ [])
      by true = ap (λ (l : List ℕ). l ++ σ.terminator ∷ []) (append-nil r)
      by false = append_assoc r (σ.element ∷ 52 ∷ []) (σ.terminator ∷ [])

  usr-print : (v : Version) (t : List ℕ) → print_s σ (seg Usr (usr_leaf v σ t)) ≡ usr_open v σ ++ (released_text σ t ++ σ.terminator ∷ [])
  usr-print v t = by (earlier v)
    where
      ends : (ys : List Symbol) → ys ++ [] ++ [] ++ [] ≡ ys
      ends ys = simp append-nil

      text : spells σ (flat_c (released σ t) ++ [] ++ [] ++ []) ≡ released_text σ t
      text = ap (spells σ) (ends (flat_c (released σ t))) ∙ spells-released t

      by : (e : Bool) → print_s σ (seg Usr (cond e (several (released σ t) []) (several (plains (octets "1")) (released σ t ∷ [])) ∷ []))
          ≡ cond e (85 ∷ 83 ∷ 82 ∷ σ.element ∷ []) (85 ∷ 83 ∷ 82 ∷ σ.element ∷ 49 ∷ σ.component ∷ []) ++ (released_text σ t ++ σ.terminator ∷ [])
      by true =
          segment-print 85 83 82 (several (released σ t) [] ∷ [])
          ∙ ap (λ (l : List ℕ). 85 ∷ 83 ∷ 82 ∷ σ.element ∷ (l ++ σ.terminator ∷ [])) text
      by false =
          segment-print 85 83 82 (several (plains (octets "1")) (released σ t ∷ []) ∷ [])
          ∙ ap (λ (l : List ℕ). 85 ∷ 83 ∷ 82 ∷ σ.element ∷ 49 ∷ σ.component ∷ (l ++ σ.terminator ∷ [])) text

  pub trailer-pieces : (v : Version) (r t : List ℕ) → trailer_text v σ r t ≡ together (trailer_pieces v σ r t)
  unfolding trailer_text
  trailer-pieces v r t =
      print-cons σ (seg Ust (ust_leaf v r)) (seg Usr (usr_leaf v σ t) ∷ [])
      ∙ ap (λ (l : List ℕ). print_s σ (seg Ust (ust_leaf v r)) ++ l)
      (print-cons σ (seg Usr (usr_leaf v σ t)) [] ∙ append-nil (print_s σ (seg Usr (usr_leaf v σ t))) ∙ usr-print v t)
      ∙ ap (λ (l : List ℕ). l ++ (usr_open v σ ++ (released_text σ t ++ σ.terminator ∷ []))) (ust-print v r)
      ∙ ap (λ (l : List ℕ). 85 ∷ 83 ∷ 84 ∷ σ.element ∷ l) (append_assoc r (ust_end v σ) (usr_open v σ ++ (released_text σ t ++ σ.terminator ∷ [])))

-- what ends UST, and what opens USR, as the code lays it
module _ (v : Version) (σ : Service) {at n : ℕ} {out left : List ℕ} {b : Bool} (e : b ≡ earlier v) where
  pub close-early : b ≡ true → Laid out at (σ.terminator ∷ []) n left → Laid out at (ust_end v σ) n left × (n ≤ at + 3)
  close-early h g = let k : n ≡ at + 1 = g.place in (rw (← e, h) g, omega (arith, k))

  pub close_late : b ≡ false → Laid out at (σ.element ∷ 52 ∷ σ.terminator ∷ []) n left → Laid out at (ust_end v σ) n left × (n ≤ at + 3)
  close_late h g = let k : n ≡ at + 3 = g.place in (rw (← e, h) g, omega (arith, k))

  pub usr-early : b ≡ true → Laid out at (85 ∷ 83 ∷ 82 ∷ σ.element ∷ []) n left → Laid out at (usr_open v σ) n left × (n ≤ at + 6)
  usr-early h g = let k : n ≡ at + 4 = g.place in (rw (← e, h) g, omega (arith, k))

  pub usr-late : b ≡ false → Laid out at (85 ∷ 83 ∷ 82 ∷ σ.element ∷ 49 ∷ σ.component ∷ []) n left → Laid out at (usr_open v σ) n left × (n ≤ at + 6)
  usr-late h g = let k : n ≡ at + 6 = g.place in (rw (← e, h) g, omega (arith, k))

-- ---- there is room to count in

pub header-most : (at : ℕ) {a b c d e r n : ℕ} → a ≡ at + 6 → b ≡ a + n → c ≡ b + 5 → d ≤ c + 20 → e ≡ d + 5 → r ≡ e + 13 → n ≤ 14 → r ≤ at + 100
header-most at i j k l m o h = omega arith

pub trailer-most : (at : ℕ) {a b c d e r n : ℕ} → a ≡ at + 4 → b ≡ a + n → c ≤ b + 3 → d ≤ c + 6 → e ≤ d + 1024 → r ≡ e + 1 → n ≤ 14 → r ≤ at + 1100
trailer-most at i j k l m o h = omega arith

pub trailer-room : {at a b c d e n : ℕ} → a ≡ at + 4 → b ≡ a + n → c ≤ b + 3 → d ≤ c + 6 → e ≤ d + 1024 → at < 1073741824 → n ≤ 14 → e + 1 < 18446744073709551616
trailer-room i j k l m o h = omega arith

pub part-short : (s : List ℕ) {z : List ℕ} (a e : ℕ) → z ≡ slice a e s → length s ≤ 65535 → length z ≤ 65535
part-short s a e d h =
    let k : min e (length s) ≤ length s = min-le_right e (length s) in
    omega (arith, ap length d, length-drop a (take e s), length-take e s, k, h)

pub sealed-room : {a b c d n k : ℕ} → a ≡ 0 + n → b ≤ a + 100 → c ≡ b + k → d ≤ c + 1100 → n ≤ 65535 → k ≤ 65535 → d < 1073741824
sealed-room i j l m h g = omega arith
