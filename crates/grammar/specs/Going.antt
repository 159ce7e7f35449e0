-- What a segment that is placed does to the parts of a message: where it goes, from what, and to what.
use Rattle.std.specs.Prelude.{Bool, true, false, ◌||◌, ◌≡◌, T}
use Rattle.std.proofs.Math.Option.{none, some}
use Rattle.syntax.specs.Tree.{Segment}
use Rattle.grammar.specs.Lists.{Snoc, nil, ◌▷◌, any}
use Rattle.grammar.specs.Segments.{Unb, Unh, Unt, Unz, Ush, Usr, Ust, seg, elements_of}
use Rattle.grammar.specs.Interchange.{Leaf, Header, header, Trailer, trailer, Body, plain, ack, Open, msg, Message, message, Reading, start, idle, busy, done, show_header, show_body}

-- more than a USH: a USA or a USC stands behind it
abbrev pub more : Header → Bool
more (header c us cs) = any cs || any us

-- a body, B, has begun
abbrev pub begun_b : Body → Bool
begun_b (plain b) = any b
begun_b (ack c ls) = true

pub data Where (g : Segment) : Open → Open → Type 0 where
  opens_header : {h : Leaf} {hs : Snoc Header} (c : Leaf) → g ≡ seg Ush c
      → Where g (msg h hs (plain nil) nil) (msg h (hs ▷ header c nil nil) (plain nil) nil)
  in_header : {h : Leaf} {hs : Snoc Header} {x z : Header} → show_header z ≡ show_header x ▷ g → T (more z)
      → Where g (msg h (hs ▷ x) (plain nil) nil) (msg h (hs ▷ z) (plain nil) nil)
  in_items : {h : Leaf} {hs : Snoc Header} {b d : Body} → show_body d ≡ show_body b ▷ g → T (begun_b d) → Where g (msg h hs b nil) (msg h hs d nil)
  opens_trailer : {h : Leaf} {hs : Snoc Header} {b : Body} {ts : Snoc Trailer} (c : Leaf) → g ≡ seg Ust c
      → Where g (msg h hs b ts) (msg h hs b (ts ▷ trailer c none))
  in_trailer : {h : Leaf} {hs : Snoc Header} {b : Body} {ts : Snoc Trailer} (c r : Leaf) → g ≡ seg Usr r
      → Where g (msg h hs b (ts ▷ trailer c none)) (msg h hs b (ts ▷ trailer c (some r)))

pub data Goes (g : Segment) : Reading → Reading → Type 0 where
  begins : g ≡ seg Unb (elements_of g) → Goes g start (idle (elements_of g) nil)
  opens : {u : Leaf} {ms : Snoc Message} → g ≡ seg Unh (elements_of g) → Goes g (idle u ms) (busy u ms (msg (elements_of g) nil (plain nil) nil))
  goes_on : {u : Leaf} {ms : Snoc Message} {o p : Open} → Where g o p → Goes g (busy u ms o) (busy u ms p)
  closes : {u : Leaf} {ms : Snoc Message} {o : Open} → g ≡ seg Unt (elements_of g) → Goes g (busy u ms o) (idle u (ms ▷ message o (elements_of g)))
  ends : {u : Leaf} {ms : Snoc Message} → g ≡ seg Unz (elements_of g) → Goes g (idle u ms) (done u ms (elements_of g))

-- from what to what a segment may lead
abbrev pub leads : Reading → Reading → Bool
leads start start = false
leads start (idle v ns) = true
leads start (busy v ns p) = false
leads start (done v ns y) = false
leads (idle u ms) start = false
leads (idle u ms) (idle v ns) = false
leads (idle u ms) (busy v ns p) = true
leads (idle u ms) (done v ns y) = true
leads (busy u ms o) start = false
leads (busy u ms o) (idle v ns) = true
leads (busy u ms o) (busy v ns p) = true
leads (busy u ms o) (done v ns y) = false
leads (done u ms z) y = false

-- the message stays open
pub record Grown (g : Segment) (u : Leaf) (ms : Snoc Message) (o : Open) (v : Leaf) (ns : Snoc Message) (p : Open) : Type 0 where
  pub unb : v ≡ u
  pub messages : ns ≡ ms
  pub goes : Where g o p

-- the open message is closed
pub record Closed (g : Segment) (u : Leaf) (ms : Snoc Message) (o : Open) (v : Leaf) (ns : Snoc Message) : Type 0 where
  pub unb : v ≡ u
  pub messages : ns ≡ ms ▷ message o (elements_of g)
  pub unt : g ≡ seg Unt (elements_of g)

-- a message is opened
pub record Opened (g : Segment) (u : Leaf) (ms : Snoc Message) (v : Leaf) (ns : Snoc Message) (o : Open) : Type 0 where
  pub unb : v ≡ u
  pub messages : ns ≡ ms
  pub fresh : o ≡ msg (elements_of g) nil (plain nil) nil
  pub unh : g ≡ seg Unh (elements_of g)

-- the interchange has begun
pub record Begun (g : Segment) (z : Reading) : Type 0 where
  pub fresh : z ≡ idle (elements_of g) nil
  pub unb : g ≡ seg Unb (elements_of g)

-- the interchange is whole
pub record Ended (g : Segment) (u : Leaf) (ms : Snoc Message) (v : Leaf) (ns : Snoc Message) (z : Leaf) : Type 0 where
  pub unb : v ≡ u
  pub messages : ns ≡ ms
  pub last : z ≡ elements_of g
  pub unz : g ≡ seg Unz (elements_of g)
