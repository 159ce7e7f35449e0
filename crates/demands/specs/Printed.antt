-- D2c: the parts of the one tree whose printing a range is, and where they stand. Every place is told by the lengths of what is printed before it.
use Rattle.std.specs.Prelude.{ℕ, ◌+◌, ◌≡◌, List, length}
use Rattle.std.proofs.Math.Option.{some}
use Rattle.std.proofs.Math.Seq.{slice}
use Rattle.syntax.specs.Content.{compared}
use Rattle.syntax.specs.Octets.{octets as written}
use Rattle.syntax.specs.Tree.{print}
use Rattle.grammar.specs.Lists.{Snoc, nil, ◌▷◌, ◌+++◌, joined, list}
use Rattle.grammar.specs.Segments.{Unh, seg}
use Rattle.grammar.specs.Interchange.{Leaf, Header, Trailer, Open, msg, message, show_header, show_trailer, show_body, show_message}
use Rattle.grammar.specs.Rules.{ref_h, ref_t, ref_m}
use Rattle.grammar.specs.Valid.{Interchange}
use Rattle.grammar.specs.Verdict.{accepted, verdict_of}
use Rattle.grammar.specs.Places.{headers_in, trailers_in}
use Rattle.grammar.specs.Named.{placed}
use Rattle.grammar.specs.Counted.{messages_in}
use Rattle.groups.specs.Parts.{scope_h, body_in}
use Rattle.groups.specs.Calls.{service_in, message_in}
use Rattle.demands.specs.Stated.{In, place_behind, Refers, Refers3}

-- the message m of the reading of s
pub record MessageOf (s m : List ℕ) : Type 0 where
  pub i : Interchange
  pub read : verdict_of s ≡ accepted i
  pub o : Open
  pub t : Leaf
  pub there : In (message o t) (messages_in i)
  pub name : ref_m (message o t) ≡ compared m
  -- its UNH stands at q: behind UNA, UNB and the messages before it
  pub q : ℕ
  pub place : q ≡ place_behind i there.before
  -- and there it is found
  pub named : message_in i m ≡ some (placed (message o t) q)

abbrev pub unh_in : Open → Leaf
unh_in (msg u hs b ts) = u

-- where the octets behind the UNH of this message and these headers start
abbrev pub place_within : {s m : List ℕ} → MessageOf s m → Snoc Header → ℕ
place_within of before = of.q + length (print (service_in of.i) (list (nil ▷ seg Unh (unh_in of.o) +++ joined show_header before)))

-- scope 1: from a to b the header group with the 0534 r, from c to d the body
pub record Scope1 (s m r : List ℕ) (a b c d : ℕ) : Type 0 where
  pub of : MessageOf s m
  -- the headers before it, it, and those behind it
  pub before : Snoc Header
  pub header : Header
  pub behind : Snoc Header
  pub whole : headers_in of.o ≡ before ▷ header +++ behind
  pub ref : ref_h header ≡ compared r
  pub scope : scope_h header ≡ written "1"
  -- the header group starts behind UNH and the headers before it, the body behind UNH and all headers
  pub header-start : a ≡ place_within of before
  pub body-start : c ≡ place_within of (headers_in of.o)
  pub header-octets : slice a b s ≡ print (service_in of.i) (list (show_header header))
  pub body-octets : slice c d s ≡ print (service_in of.i) (list (show_body (body_in of.o)))
  -- the places are just as far apart
  pub header-end : b ≡ a + length (slice a b s)
  pub body_end : d ≡ c + length (slice c d s)

-- scope 2: from a to b the header group, the headers behind it, the body, and the trailers before the one with the same 0534
pub record Scope2 (s m r : List ℕ) (a b : ℕ) : Type 0 where
  pub of : MessageOf s m
  pub before : Snoc Header
  pub header : Header
  pub behind : Snoc Header
  pub headers : headers_in of.o ≡ before ▷ header +++ behind
  pub ref : ref_h header ≡ compared r
  pub scope : scope_h header ≡ written "2"
  pub earlier : Snoc Trailer
  pub trailer : Trailer
  pub later : Snoc Trailer
  pub trailers : trailers_in of.o ≡ earlier ▷ trailer +++ later
  pub paired : ref_t trailer ≡ compared r
  -- it starts behind UNH and the headers before it
  pub start : a ≡ place_within of before
  pub octets : slice a b s
      ≡ print (service_in of.i) (list (show_header header +++ joined show_header behind +++ show_body (body_in of.o) +++ joined show_trailer earlier))
  pub end : b ≡ a + length (slice a b s)

-- F01: from x to y the run of messages, in the interchange s to which the AUTACK's interchange a refers
pub record F01 (a s m r : List ℕ) (x y : ℕ) : Type 0 where
  pub of : Refers a s m r
  -- it starts behind UNA, UNB and the messages before it
  pub start : x ≡ place_behind of.to.i of.before
  pub octets : slice x y s ≡ print (service_in of.to.i) (list (joined show_message of.run))
  pub end : y ≡ x + length (slice x y s)

-- scope 3: from x to y the message, from UNH through UNT, in the interchange s to which the AUTACK's interchange a refers
pub record Scope3 (a s m r : List ℕ) (x y : ℕ) : Type 0 where
  pub of : Refers3 a s m r
  -- it starts behind UNA, UNB and the messages before it
  pub start : x ≡ place_behind of.to.i of.there.before
  pub octets : slice x y s ≡ print (service_in of.to.i) (list (show_message of.sealed))
  pub end : y ≡ x + length (slice x y s)
