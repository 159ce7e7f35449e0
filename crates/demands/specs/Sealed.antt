-- D2d: what a sealed interchange is, read back.
use Rattle.std.specs.Prelude.{ℕ, ◌+◌, ◌≡◌, List, ◌++◌}
use Rattle.std.proofs.Math.Option.{some}
use Rattle.std.proofs.Math.Seq.{slice}
use Rattle.grammar.specs.Lists.{Snoc, ◌▷◌, ◌+++◌}
use Rattle.grammar.specs.Segments.{number}
use Rattle.grammar.specs.Interchange.{Message, message}
use Rattle.grammar.specs.Valid.{Interchange, syntax_in}
use Rattle.grammar.specs.Verdict.{accepted, verdict_of}
use Rattle.grammar.specs.Named.{placed}
use Rattle.grammar.specs.Counted.{messages_in}
use Rattle.writing.specs.Written.{text}
use Rattle.groups.specs.Calls.{given, service_in, version_in, message_in}
use Rattle.ranges.specs.Ranges.{parts, run, scope1_of, scope2_of}
use Rattle.demands.specs.Printed.{MessageOf}
use Rattle.weaving.specs.Seals.{new_header, new_trailer, grown, sealed_message, sealed, text_by}
use Rattle.sealing.specs.Sealing.{seal_octets_of}

-- the tree that sealing the message m of i gives: for VALUE v under F f, with the reference r
abbrev pub sealed_by : Interchange → List ℕ → List ℕ → ℕ → List ℕ → Interchange
sealed_by i m r f v = sealed i m (new_header r f) (new_trailer (version_in i) (service_in i) r (text_by f v))

-- "A sealed message is accepted, keeps its other segments octet for octet": its tree is the old one with the new header group first and the new
-- trailer group last in that message and UNT's count four more
pub record Accepted (s m r : List ℕ) (f : ℕ) (v x : List ℕ) : Type 0 where
  -- the old tree, its message m, and where its UNH stands
  pub of : MessageOf s m
  -- the new tree: the same UNA, UNB and UNZ, the message that is sealed where the message was, and all other messages as they were
  pub reads : verdict_of x ≡ accepted (sealed_by of.i m r f v)
  pub before : Snoc Message
  pub behind : Snoc Message
  pub old : messages_in of.i ≡ before ▷ message of.o of.t +++ behind
  pub new : messages_in (sealed_by of.i m r f v) ≡ before ▷ sealed_message (new_header r f) (new_trailer (version_in of.i) (service_in of.i) r (text_by f v)) (message of.o of.t) +++ behind
  pub counts : number (grown of.t) 1 ≡ number of.t 1 + 4
  -- it is found by the same 0062, at the same place
  pub stays : message_in (sealed_by of.i m r f v) m ≡ some (placed (sealed_message (new_header r f) (new_trailer (version_in of.i) (service_in of.i) r (text_by f v)) (message of.o of.t)) of.q)
  -- the same repertoire, version and service characters are in force
  pub settled : syntax_in (sealed_by of.i m r f v) ≡ syntax_in of.i

-- "For one interchange, message, REF and F, the new header's range in the sealed interchange is what the first call wrote."
pub record Signed (s m r : List ℕ) (f : ℕ) (x : List ℕ) : Type 0 where
  pub a : ℕ
  pub b : ℕ
  pub c : ℕ
  pub d : ℕ
  pub range : scope1_of x m r ≡ given (parts a b c d)
  pub octets : seal_octets_of s m r f ≡ text (slice a b x ++ slice c d x)

-- "Ranges of scopes 1 and 2 already there keep their octets": that of the header h of the message k
pub record Kept1 (s x k h : List ℕ) (a b c d : ℕ) : Type 0 where
  pub header : ℕ
  pub header-end : ℕ
  pub body : ℕ
  pub body_end : ℕ
  pub range : scope1_of x k h ≡ given (parts header header-end body body_end)
  pub header-octets : slice header header-end x ≡ slice a b s
  pub body-octets : slice body body_end x ≡ slice c d s

pub record Kept2 (s x k h : List ℕ) (a b : ℕ) : Type 0 where
  pub start : ℕ
  pub end : ℕ
  pub range : scope2_of x k h ≡ given (run start end)
  pub octets : slice start end x ≡ slice a b s

pub record Kept (s x : List ℕ) : Type 0 where
  pub scope1 : (k h : List ℕ) (a b c d : ℕ) → scope1_of s k h ≡ given (parts a b c d) → Kept1 s x k h a b c d
  pub scope2 : (k h : List ℕ) (a b : ℕ) → scope2_of s k h ≡ given (run a b) → Kept2 s x k h a b
