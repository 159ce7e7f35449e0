-- What the clauses say, by what is in an interchange and where; nothing here is found by a search.
use Rattle.std.specs.Prelude.{ℕ, ◌+◌, ◌≡◌, true, false, List, ◌++◌, length}
use Rattle.syntax.specs.Content.{compared}
use Rattle.syntax.specs.Octets.{octets as written}
use Rattle.syntax.specs.Opening.{earlier}
use Rattle.syntax.specs.Tree.{print}
use Rattle.syntax.specs.declared.Version.{Version}
use Rattle.grammar.specs.Lists.{Snoc, nil, ◌▷◌, ◌+++◌, list, any, size}
use Rattle.grammar.specs.Grams.{Grams, sum}
use Rattle.grammar.specs.Segments.{unb0020, unt0074, unz0036, ust0588, usx0020, usx0062, usy0534}
use Rattle.grammar.specs.Interchange.{Leaf, Header, Trailer, trailer, Link, link, Body, plain, ack, msg, Message, message, idle, shown, show_header, show_trailer, show_message}
use Rattle.grammar.specs.Rules.{ref_h, ref_t, ref_m, claimed}
use Rattle.grammar.specs.Loads.{controls}
use Rattle.grammar.specs.Valid.{Interchange, interchange, print_una, una_of}
use Rattle.grammar.specs.Verdict.{accepted, verdict_of, loads_m}
use Rattle.grammar.specs.Counted.{messages_in}
use Rattle.grammar.specs.Places.{headers_in, trailers_in}
use Rattle.spans.specs.Span.{autack_m}
use Rattle.groups.specs.Parts.{scope_h, body_in}
use Rattle.groups.specs.Calls.{service_in}

-- a is one of a row: those before it, it, and those behind it
pub record In {A : Type 0} (a : A) (row : Snoc A) : Type 0 where
  pub before : Snoc A
  pub behind : Snoc A
  pub whole : row ≡ before ▷ a +++ behind

abbrev pub headers_of : Message → Snoc Header
headers_of (message o t) = headers_in o

abbrev pub trailers_of : Message → Snoc Trailer
trailers_of (message o t) = trailers_in o

abbrev pub unb_of : Interchange → Leaf
unb_of (interchange n u ms z) = u

-- where the octets behind UNA, UNB and these messages start
abbrev pub place_behind : Interchange → Snoc Message → ℕ
place_behind i before = length (print_una (una_of i)) + length (print (service_in i) (list (shown (idle (unb_of i) before))))

-- ---- "Calls name a message by its 0062 and a header by its 0534"

-- the interchange s is accepted, and has a message with the 0062 m that has a header with the 0534 r and this scope code
pub record HasHeader (s m r code : List ℕ) : Type 0 where
  pub i : Interchange
  pub read : verdict_of s ≡ accepted i
  pub of : Message
  pub there : In of (messages_in i)
  pub name : ref_m of ≡ compared m
  pub header : Header
  pub within : In header (headers_of of)
  pub ref : ref_h header ≡ compared r
  pub scope : scope_h header ≡ code

-- ---- "security headers and trailers pair one to one by reference"

pub record Pairs (hs : Snoc Header) (ts : Snoc Trailer) : Type 0 where
  pub as_many : size ts ≡ size hs
  -- each header has a trailer of its 0534, and each trailer a header
  pub trailer-of : (h : Header) → In h hs → (t : Trailer) × (In t ts × (ref_t t ≡ ref_h h))
  pub header_of : (t : Trailer) → In t ts → (h : Header) × (In h hs × (ref_h h ≡ ref_t t))
  -- and only one: two of the same 0534 are the same one, in the same place
  pub header-once : (h k : Header) (x : In h hs) (y : In k hs) → ref_h h ≡ ref_h k → (h ≡ k) × (x.before ≡ y.before)
  pub trailer-once : (t k : Trailer) (x : In t ts) (y : In k ts) → ref_t t ≡ ref_t k → (t ≡ k) × (x.before ≡ y.before)

-- ---- "and all counts agree"

abbrev pub number0588 : Trailer → ℕ
number0588 (trailer c r) = claimed (ust0588 c)

abbrev pub number0074 : Message → ℕ
number0074 (message o t) = unt0074 t

abbrev pub number0036 : Interchange → ℕ
number0036 (interchange n u ms z) = unz0036 z

-- of a body, `B`; and of a message, `M`
abbrev pub controls_b : Body → Snoc Grams
controls_b (plain b) = controls b
controls_b (ack c ls) = nil

-- the control totals of a message, each in grams
abbrev pub controls_m : Message → Snoc Grams
controls_m (message (msg h hs b ts) t) = controls_b b

pub record CountsAgree (v : Version) (m : Message) : Type 0 where
  -- "0588 counts the segments of its header and trailer pair together."; the earlier edition has no 0588: "UST with 0534 only"
  pub pair : earlier v ≡ false → (h : Header) (t : Trailer) → In h (headers_of m) → In t (trailers_of m) → ref_h h ≡ ref_t t → number0588 t ≡ size (show_header h) + size (show_trailer t)
  -- "0074 counts UNH to UNT, both included."
  pub segments : number0074 m ≡ size (show_message m)
  -- a control total "equals the message's load total"
  pub total : (n : Grams) → In n (controls_m m) → n ≡ sum (loads_m m)

-- ---- "F01: in the interchange whose UNB 0020 equals the 0020 of the first USX under which a USY names the header, from the first UNH to the last UNT
-- of messages not of type AUTACK"

abbrev pub body_of : Message → Body
body_of (message o t) = body_in o

abbrev pub usys_of : Link → Snoc Leaf
usys_of (link x ys) = ys

-- the first USX of an AUTACK's body under which a USY names the header r, and the first such USY
pub record FirstUsx (b : Body) (r : List ℕ) : Type 0 where
  pub usb : Leaf
  pub links : Snoc Link
  pub body : b ≡ ack usb links
  pub usx : Leaf
  pub usys : Snoc Leaf
  pub there : In (link usx usys) links
  -- a USY under it names the header, and none before that USY does
  pub usy : Leaf
  pub under : In usy usys
  pub names : usy0534 usy ≡ compared r
  pub first_under : (y : Leaf) → In y under.before → usy0534 y ≡ compared r → ⊥
  -- nor does one under a USX before it
  pub first : (l : Link) → In l there.before → (y : Leaf) → In y (usys_of l) → usy0534 y ≡ compared r → ⊥

-- the AUTACK's interchange a has the message m with the header r of this scope code; and it refers to the interchange s
pub record RefersTo (code a s m r : List ℕ) : Type 0 where
  pub autack : HasHeader a m r code
  pub tied : FirstUsx (body_of autack.of) r
  -- the interchange s is accepted, and its UNB's 0020 is that USX's
  pub i : Interchange
  pub read : verdict_of s ≡ accepted i
  pub refers : unb0020 (unb_of i) ≡ usx0020 tied.usx

-- F01: the interchange s has a run
pub record Refers (a s m r : List ℕ) : Type 0 where
  pub to : RefersTo (written "F01") a s m r
  -- its messages: AUTACKs, then the run, which holds a message and no AUTACK, then AUTACKs
  pub before : Snoc Message
  pub run : Snoc Message
  pub behind : Snoc Message
  pub whole : messages_in to.i ≡ before +++ run +++ behind
  pub autacks-before : (x : Message) → In x before → autack_m x ≡ true
  pub some-inside : any run ≡ true
  pub none_inside : (x : Message) → In x run → autack_m x ≡ false
  pub autacks-behind : (x : Message) → In x behind → autack_m x ≡ true

-- ---- scope 3: "the sealed octets run from the UNH through the UNT of the message named by the first USX under which a USY names the header"

-- the interchange s has the message of that USX's 0062, which is no AUTACK
pub record Refers3 (a s m r : List ℕ) : Type 0 where
  pub to : RefersTo (written "3") a s m r
  pub sealed : Message
  pub there : In sealed (messages_in to.i)
  pub name : ref_m sealed ≡ usx0062 to.tied.usx
  pub other : autack_m sealed ≡ false
