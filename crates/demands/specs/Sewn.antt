-- Sealing, octet for octet.
use Rattle.std.specs.Prelude.{ℕ, ◌+◌, ◌≡◌, List, [], ◌∷◌, ◌++◌, length}
use Rattle.std.proofs.Math.Seq.{slice}
use Rattle.syntax.specs.Octets.{octets as written}
use Rattle.syntax.specs.Tree.{Element, print, spells, flat_e}
use Rattle.grammar.specs.Lists.{◌+++◌, joined, list}
use Rattle.grammar.specs.Segments.{Unh, seg, number}
use Rattle.grammar.specs.Interchange.{show_header, show_trailer, show_body}
use Rattle.grammar.specs.Places.{headers_in, trailers_in}
use Rattle.writing.specs.Decimal.{decimal_of}
use Rattle.groups.specs.Parts.{body_in}
use Rattle.groups.specs.Calls.{service_in, version_in}
use Rattle.weaving.specs.Seals.{new_header, new_trailer, text_by}
use Rattle.demands.specs.Printed.{MessageOf, unh_in}

-- x is the old octets s with the new header put in behind UNH, the new trailer before UNT, and UNT's 0074 replaced
pub record Sewn (s m r : List ℕ) (f : ℕ) (v x : List ℕ) : Type 0 where
  -- the message m of s
  pub of : MessageOf s m
  -- in s: the place behind its UNH, that of its UNT, and where UNT's 0074 starts and ends
  pub behind : ℕ
  pub unt : ℕ
  pub count : ℕ
  pub count-end : ℕ
  pub unh-octets : slice of.q behind s ≡ print (service_in of.i) (seg Unh (unh_in of.o) ∷ [])
  pub inside-octets : slice behind unt s
      ≡ print (service_in of.i) (list (joined show_header (headers_in of.o) +++ show_body (body_in of.o) +++ joined show_trailer (trailers_in of.o)))
  pub unt-octets : slice unt count s ≡ written "UNT" ++ (service_in of.i).element ∷ []
  -- UNT's elements: 0074, and the others
  pub first : Element
  pub others : List Element
  pub elements : of.t ≡ first ∷ others
  pub count-octets : slice count count-end s ≡ spells (service_in of.i) (flat_e first)
  -- the equation
  pub octets : x
      ≡ slice 0 behind s
      ++ (print (service_in of.i) (list (show_header (new_header r f)))
      ++ (slice behind unt s
      ++ (print (service_in of.i) (list (show_trailer (new_trailer (version_in of.i) (service_in of.i) r (text_by f v))))
      ++ (slice unt count s
      ++ (decimal_of (number of.t 1 + 4)
      ++ slice count-end (length s) s)))))
