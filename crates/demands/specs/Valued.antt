-- "Value call: the 0560 of the USR after the UST, or in AUTACK of the first matching USY, unfiltered by 0505."
use Rattle.std.specs.Prelude.{ℕ, Bool, true, false, List, ◌≡◌}
use Rattle.std.proofs.Math.Option.{some}
use Rattle.syntax.specs.Content.{compared}
use Rattle.syntax.specs.declared.Version.{Version}
use Rattle.grammar.specs.Segments.{ust0534, usr0560, usy0560}
use Rattle.grammar.specs.Interchange.{Leaf, trailer, Message}
use Rattle.spans.specs.Span.{autack_m}
use Rattle.groups.specs.Calls.{version_in}
use Rattle.values.specs.Filters.{value_by}
use Rattle.values.specs.Values.{filter_h}
use Rattle.demands.specs.Stated.{In, trailers_of, body_of, HasHeader, FirstUsx}

-- the trailer with the 0534 r has a USR, and t is its 0560, as the edition has it
pub record AfterUst (e : Version) (m : Message) (r t : List ℕ) : Type 0 where
  pub ust : Leaf
  pub usr : Leaf
  pub there : In (trailer ust (some usr)) (trailers_of m)
  pub ref : ust0534 ust ≡ compared r
  pub is : usr0560 e usr ≡ t

-- the first USY that names the header r has the 0560 t
pub record OnUsy (e : Version) (m : Message) (r t : List ℕ) : Type 0 where
  pub tied : FirstUsx (body_of m) r
  pub is : usy0560 e tied.usy ≡ t

-- the text of the seal, in an AUTACK and elsewhere
abbrev pub SealText : Version → Bool → Message → List ℕ → List ℕ → Type 0
SealText e true m r t = OnUsy e m r t
SealText e false m r t = AfterUst e m r t

-- s is accepted, has the message m with a header of the 0534 r and whatever scope, and the header's filter reads the value v from the text of its seal
pub record Valued (s m r v : List ℕ) : Type 0 where
  pub code : List ℕ
  pub has : HasHeader s m r code
  pub t : List ℕ
  pub stands : SealText (version_in has.i) (autack_m has.of) has.of r t
  pub reads : value_by (version_in has.i) (filter_h has.header) t ≡ some v
