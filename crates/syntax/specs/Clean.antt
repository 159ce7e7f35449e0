-- A segment that is cut while its pieces are read.
use Rattle.std.specs.Prelude.{ℕ, ◌+◌, ◌≤◌, ◌-◌, ◌<◌, ◌≡◌, List, Bool, true, false, cond, eqb, leb, suc, [], ◌∷◌, length, drop, get_or, Option, Some, None}
use Rattle.syntax.specs.Service.{kind}
use Rattle.syntax.specs.Repertoire.{outside}
use Rattle.syntax.specs.Cutting.{stop_from}
use Rattle.syntax.specs.Scanning.{cut_by, cut_at}
use Rattle.syntax.specs.Segment.{edge_at}
use Rattle.syntax.specs.declared.Syntax.{Syntax}
use Rattle.syntax.specs.declared.cutting.Cut.{Cut}
use Rattle.syntax.specs.declared.cutting.Cut.TheVariants.{Ends, Spoilt, Open}
use Rattle.syntax.specs.Octets.{octets}
use Rattle.syntax.specs.Classes.{class_of}

-- a scan under way: x, the stop to be found, is the first at or after i
pub record Going (y : Syntax) (n : ℕ) (x : Option ℕ) (s : List ℕ) (i : ℕ) : Type 0 where
  pub finds : x ≡ stop_from y.service n false (drop i s) i

-- the first octet outside the repertoire that stands before the terminator
abbrev pub bad_from : Syntax → Bool → List ℕ → ℕ → Option ℕ
bad_from y f [] i = None
bad_from y f (b ∷ s) i =
    cond (leb 5 (kind y.service f b)) None (cond (outside y b) (Some i) (bad_from y (eqb (kind y.service f b) 0) s (suc i)))

abbrev pub cut_from : Syntax → Bool → List ℕ → ℕ → Cut
cut_from y f s i = cut_by (stop_from y.service 5 f s i) (bad_from y f s i)

-- a cut under way
pub record Cutting (y : Syntax) (x : Cut) (s : List ℕ) (i : ℕ) : Type 0 where
  pub finds : x ≡ cut_from y false (drop i s) i

-- a segment that ends, with nothing in it that is outside the repertoire
abbrev pub sound : Cut → Bool
sound (Ends e) = true
sound (Spoilt e b) = false
sound Open = false

-- the piece at a ends at q, and nothing before is outside: the cut is the one from behind it, or it is the segment's last
pub record Clean (y : Syntax) (s : List ℕ) (a q k : ℕ) : Type 0 where
  pub edge : Some (q, k) ≡ edge_at y.service s a
  pub next : (k ≡ 5 → ⊥) → cut_at y s (q + 1) ≡ cut_at y s a
  pub last : k ≡ 5 → cut_at y s a ≡ Ends q

abbrev pub CleanEdge : Syntax → List ℕ → ℕ → Option (ℕ × ℕ) → Type 0
CleanEdge y s a (Some (q, k)) = Clean y s a q k
CleanEdge y s a None = sound (cut_at y s a) ≡ false

-- a tag stands at a: stops and cuts are those from behind its three octets
pub record TagAt (y : Syntax) (s : List ℕ) (a : ℕ) : Type 0 where
  pub long : a + 4 ≤ length s
  pub stops : stop_from y.service 2 false (drop a s) a ≡ stop_from y.service 2 false (drop (a + 3) s) (a + 3)
  pub cuts : cut_at y s (a + 3) ≡ cut_at y s a

-- from a to i there is neither a separator nor an octet outside: stop and cut from a are those from i
pub record Tidy (y : Syntax) (s : List ℕ) (a i : ℕ) : Type 0 where
  pub low : a ≤ i
  pub going : Going y 2 (stop_from y.service 2 false (drop a s) a) s i
  pub cutting : Cutting y (cut_at y s a) s i

-- .. and an octet that is no data stands at i, if there is one
pub record Stopping (y : Syntax) (s : List ℕ) (a i : ℕ) : Type 0 where
  pub tidy : Tidy y s a i
  pub stops : i < length s → 1 < class_of y (get_or s i 0)
