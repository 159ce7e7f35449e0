-- D3: what the range calls hand back, as read under the grammar of its scope code; and what it is for two ranges to be read alike.
use Rattle.std.specs.Prelude.{ℕ, ◌-◌, ◌≡◌, List, ◌++◌}
use Rattle.std.proofs.Math.Option.{Option, none}
use Rattle.std.proofs.Math.Seq.{slice}
use Rattle.syntax.specs.Tree.{Segment, print}
use Rattle.syntax.specs.declared.Syntax.{Syntax}
use Rattle.grammar.specs.Lists.{Snoc, joined, list, each, size}
use Rattle.grammar.specs.Grams.{Grams, sum}
use Rattle.grammar.specs.Interchange.{plain, Message, show_header, show_trailer, show_body, show_message}
use Rattle.grammar.specs.Rules.{ref_m}
use Rattle.grammar.specs.Valid.{syntax_in}
use Rattle.grammar.specs.Verdict.{Verdict, accepted, refused_with, verdict_of, loads_m, Totals, totalled, totals_of}
use Rattle.groups.specs.Parts.{body_in}
use Rattle.groups.specs.Calls.{service_in}
use Rattle.demands.specs.Stated.{headers_of, body_of, trailers_of}
use Rattle.demands.specs.Printed.{Scope1, Scope2, F01, Scope3}
use Rattle.demands.specs.Range.{Reads, Same, total_in, Range1, range1, scope1, Range2, range2, scope2, f01, scope3}

-- "Equal octets read alike only under equal service characters: UNA lies outside all three scopes. Demand 3 therefore names them; its version, repertoire and
-- service characters are always those of the interchange in which the octets lie"
abbrev pub syntax_by : Verdict → Option Syntax
syntax_by (accepted i) = syntax_in i
syntax_by (refused_with f) = none

abbrev pub syntax_of : List ℕ → Option Syntax
syntax_of s = syntax_by (verdict_of s)

-- what the totals call gives for a message with these loads: how many, and the grams
abbrev pub totals_for : Snoc Grams → Totals
totals_for l = totalled (size l) (sum l)

-- ---- scope 1

-- from a to b the header part, from c to d the body part
pub record Read1 (s m r : List ℕ) (a b c d : ℕ) : Type 0 where
  -- the header group and the body of the verdict's reading; no AUTACK has a header of this scope
  pub part : Scope1 s m r a b c d
  pub body : Snoc Segment
  pub plainly : body_in part.of.o ≡ plain body
  -- they are a reading of the octets, joined; there is no other
  pub reads : Reads scope1 (service_in part.of.i) (slice a b s ++ slice c d s) (range1 part.header body)
  pub only : (v : Range1) → Reads scope1 (service_in part.of.i) (slice a b s ++ slice c d s) v → v ≡ range1 part.header body
  -- the split is the reading's
  pub header-part : slice a b s ≡ print (service_in part.of.i) (list (show_header part.header))
  pub body-part : slice c d s ≡ print (service_in part.of.i) (list body)
  -- and so are the loads and the total that are given for the message
  pub totals : totals_of s m ≡ totals_for (scope1.loads (range1 part.header body))

abbrev pub tree1 : {s m r : List ℕ} {a b c d : ℕ} → Read1 s m r a b c d → Range1
tree1 x = range1 x.part.header x.body

-- two ranges with one reading
pub record Alike1 (s m r : List ℕ) (a b c d : ℕ) (s' m' r' : List ℕ) (a' b' c' d' : ℕ) : Type 0 where
  pub left : Read1 s m r a b c d
  pub right : Read1 s' m' r' a' b' c' d'
  -- "the same segments element by element, .. the same loads in the same order, the same total in whole grams"
  pub same : Same scope1 (tree1 left) (tree1 right)
  -- "the same split"
  pub header-part : slice a b s ≡ slice a' b' s'
  pub body-part : slice c d s ≡ slice c' d' s'
  pub header-length : b - a ≡ b' - a'
  pub body-length : d - c ≡ d' - c'
  -- the totals that are given for the two messages
  pub totals : totals_of s m ≡ totals_of s' m'

-- ---- scope 2

-- from a to b the run
pub record Read2 (s m r : List ℕ) (a b : ℕ) : Type 0 where
  -- the header group, the headers behind it, the body and the earlier trailers of the verdict's reading
  pub part : Scope2 s m r a b
  pub body : Snoc Segment
  pub plainly : body_in part.of.o ≡ plain body
  -- they are a reading of the octets; there is no other
  pub reads : Reads scope2 (service_in part.of.i) (slice a b s) (range2 part.header part.behind body part.earlier)
  pub only : (v : Range2) → Reads scope2 (service_in part.of.i) (slice a b s) v → v ≡ range2 part.header part.behind body part.earlier
  -- the split is the reading's: the octets of the header group, of the headers behind it, of the body, and of the earlier trailers
  pub split : slice a b s
      ≡ print (service_in part.of.i) (list (show_header part.header))
      ++ (print (service_in part.of.i) (list (joined show_header part.behind))
      ++ (print (service_in part.of.i) (list body) ++ print (service_in part.of.i) (list (joined show_trailer part.earlier))))
  -- its loads and total are those that are given for the message
  pub totals : totals_of s m ≡ totals_for (scope2.loads (range2 part.header part.behind body part.earlier))

abbrev pub tree2 : {s m r : List ℕ} {a b : ℕ} → Read2 s m r a b → Range2
tree2 x = range2 x.part.header x.part.behind x.body x.part.earlier

-- segments as they are printed in the interchange of the one, or of the other
abbrev pub octets2 : {s m r : List ℕ} {a b : ℕ} → Read2 s m r a b → Snoc Segment → List ℕ
octets2 x gs = print (service_in x.part.of.i) (list gs)

-- two ranges with one reading
pub record Alike2 (s m r : List ℕ) (a b : ℕ) (s' m' r' : List ℕ) (a' b' : ℕ) : Type 0 where
  pub left : Read2 s m r a b
  pub right : Read2 s' m' r' a' b'
  pub same : Same scope2 (tree2 left) (tree2 right)
  -- "the same split into header, body and trailers": part by part
  pub header : left.part.header ≡ right.part.header
  pub behind : left.part.behind ≡ right.part.behind
  pub body : left.body ≡ right.body
  pub trailers : left.part.earlier ≡ right.part.earlier
  -- and the octets of each part
  pub header-octets : octets2 left (show_header left.part.header) ≡ octets2 right (show_header right.part.header)
  pub behind-octets : octets2 left (joined show_header left.part.behind) ≡ octets2 right (joined show_header right.part.behind)
  pub body-octets : octets2 left left.body ≡ octets2 right right.body
  pub trailer-octets : octets2 left (joined show_trailer left.part.earlier) ≡ octets2 right (joined show_trailer right.part.earlier)
  -- the totals that are given for the two messages
  pub totals : totals_of s m ≡ totals_of s' m'

-- ---- F01

-- from a to b the run, in the interchange that is referred to
pub record ReadF (t s m r : List ℕ) (a b : ℕ) : Type 0 where
  -- messages of the verdict's reading: from the first to the last that is no AUTACK
  pub part : F01 t s m r a b
  -- they are a reading of the octets; there is no other
  pub reads : Reads f01 (service_in part.of.to.i) (slice a b s) part.of.run
  pub only : (v : Snoc Message) → Reads f01 (service_in part.of.to.i) (slice a b s) v → v ≡ part.of.run
  -- each message's loads and total are those that are given for its 0062, and the run's total is their sum
  pub totals : each (λ (x : Message). totals_of s (ref_m x)) part.of.run ≡ each (λ (x : Message). totals_for (loads_m x)) part.of.run
  pub total : total_in f01 part.of.run ≡ sum (each (λ (x : Message). sum (loads_m x)) part.of.run)

-- two ranges with one reading
pub record AlikeF (t s m r : List ℕ) (a b : ℕ) (t' s' m' r' : List ℕ) (a' b' : ℕ) : Type 0 where
  pub left : ReadF t s m r a b
  pub right : ReadF t' s' m' r' a' b'
  pub same : Same f01 left.part.of.run right.part.of.run
  -- "the same split into header, body and trailers": message by message
  pub headers : each headers_of left.part.of.run ≡ each headers_of right.part.of.run
  pub bodies : each body_of left.part.of.run ≡ each body_of right.part.of.run
  pub trailers : each trailers_of left.part.of.run ≡ each trailers_of right.part.of.run
  -- and the octets of each message
  pub octets : each (λ (x : Message). print (service_in left.part.of.to.i) (list (show_message x))) left.part.of.run
      ≡ each (λ (x : Message). print (service_in right.part.of.to.i) (list (show_message x))) right.part.of.run
  -- the totals that are given for each message of the one and of the other
  pub totals : each (λ (x : Message). totals_of s (ref_m x)) left.part.of.run ≡ each (λ (x : Message). totals_of s' (ref_m x)) right.part.of.run

-- ---- scope 3

-- from a to b the message, in the interchange that is referred to
pub record Read3 (t s m r : List ℕ) (a b : ℕ) : Type 0 where
  -- the message of the verdict's reading that is referred to, which is no AUTACK
  pub part : Scope3 t s m r a b
  -- it is a reading of the octets; there is no other
  pub reads : Reads scope3 (service_in part.of.to.i) (slice a b s) part.of.sealed
  pub only : (v : Message) → Reads scope3 (service_in part.of.to.i) (slice a b s) v → v ≡ part.of.sealed
  -- its loads and total are those that are given for its 0062
  pub totals : totals_of s (ref_m part.of.sealed) ≡ totals_for (scope3.loads part.of.sealed)

-- segments as they are printed in the interchange of the one, or of the other
abbrev pub octets3 : {t s m r : List ℕ} {a b : ℕ} → Read3 t s m r a b → Snoc Segment → List ℕ
octets3 x gs = print (service_in x.part.of.to.i) (list gs)

-- two ranges with one reading
pub record Alike3 (t s m r : List ℕ) (a b : ℕ) (t' s' m' r' : List ℕ) (a' b' : ℕ) : Type 0 where
  pub left : Read3 t s m r a b
  pub right : Read3 t' s' m' r' a' b'
  pub same : Same scope3 left.part.of.sealed right.part.of.sealed
  -- "the same split into header, body and trailers": part by part
  pub headers : headers_of left.part.of.sealed ≡ headers_of right.part.of.sealed
  pub body : body_of left.part.of.sealed ≡ body_of right.part.of.sealed
  pub trailers : trailers_of left.part.of.sealed ≡ trailers_of right.part.of.sealed
  -- and the octets of each part
  pub header-octets : octets3 left (joined show_header (headers_of left.part.of.sealed)) ≡ octets3 right (joined show_header (headers_of right.part.of.sealed))
  pub body-octets : octets3 left (show_body (body_of left.part.of.sealed)) ≡ octets3 right (show_body (body_of right.part.of.sealed))
  pub trailer-octets : octets3 left (joined show_trailer (trailers_of left.part.of.sealed)) ≡ octets3 right (joined show_trailer (trailers_of right.part.of.sealed))
  -- the totals that are given for the two messages
  pub totals : totals_of s (ref_m left.part.of.sealed) ≡ totals_of s' (ref_m right.part.of.sealed)
