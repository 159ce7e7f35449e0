-- Where a segment goes in what was read so far: "Order of segments", a segment at a time. None: it has no place. The bounds (3, 2, 9) are rules, tested on the result.
use Rattle.std.specs.Prelude.{List}
use Rattle.std.proofs.Math.Option.{Option, none, some}
use Rattle.syntax.specs.Tree.{Segment}
use Rattle.grammar.specs.Lists.{Snoc, nil, ◌▷◌, map}
use Rattle.grammar.specs.Segments.{Name, Unb, Unh, Unt, Unz, Ush, Usa, Usc, Usr, Ust, Usb, Usx, Usy, Kind, Named, Reserved, Free, segment_kind, elements_of}
use Rattle.grammar.specs.Interchange.{Leaf, Certificate, certificate, Header, header, Trailer, trailer, Link, link, Body, plain, ack, Open, msg, Message, message, Reading, start, idle, busy, done}

-- A name is a tag and the part that a segment so tagged goes into: C a certificate, H a header group, T a trailer group, L a link, B a body, O an open message

-- "USC, 0 to 3 USA, 0 or 1 USR": no USA after the USR, and no second USR
abbrev pub usa_c : Leaf → Certificate → Option Certificate
usa_c g (certificate c us none) = some (certificate c (us ▷ g) none)
usa_c g (certificate c us (some r)) = none

abbrev pub usr_c : Leaf → Certificate → Option Certificate
usr_c g (certificate c us none) = some (certificate c us (some g))
usr_c g (certificate c us (some r)) = none

-- in the last of a row, where there is one
abbrev pub lastly : {A : Type 0} → (A → Option A) → Snoc A → Option (Snoc A)
lastly f nil = none
lastly f (s ▷ a) = map (λ b. s ▷ b) (f a)

-- "Header group: USH, 0 to 3 USA, then 0 to 2 times (USC, 0 to 3 USA, 0 or 1 USR)": after a USC, a USA or USR is its own
abbrev pub usa_h : Leaf → Header → Option Header
usa_h g (header c us nil) = some (header c (us ▷ g) nil)
usa_h g (header c us (cs ▷ x)) = map (header c us) (lastly (usa_c g) (cs ▷ x))

abbrev pub usc_h : Leaf → Header → Option Header
usc_h g (header c us cs) = some (header c us (cs ▷ certificate g nil none))

abbrev pub usr_h : Leaf → Header → Option Header
usr_h g (header c us cs) = map (header c us) (lastly (usr_c g) cs)

-- "Trailer group: UST, 0 or 1 USR."
abbrev pub usr_t : Leaf → Trailer → Option Trailer
usr_t g (trailer c none) = some (trailer c (some g))
usr_t g (trailer c (some r)) = none

-- "USX, one or more USY"
abbrev pub usy_l : Leaf → Link → Option Link
usy_l g (link c ys) = some (link c (ys ▷ g))

-- "UNH, 0 to 9 header groups, body, ..": only while neither body nor trailers have begun
abbrev pub in_headers : (Snoc Header → Option (Snoc Header)) → Open → Option Open
in_headers f (msg h hs (plain nil) nil) = map (λ (k : Snoc Header). msg h k (plain nil) nil) (f hs)
in_headers f (msg h hs (plain (b ▷ i)) nil) = none
in_headers f (msg h hs (ack c ls) nil) = none
in_headers f (msg h hs b (ts ▷ t)) = none

-- "body, one trailer group for each header, UNT": only while no trailer has begun
abbrev pub in_body : (Body → Option Body) → Open → Option Open
in_body f (msg h hs b nil) = map (λ (k : Body). msg h hs k nil) (f b)
in_body f (msg h hs b (ts ▷ t)) = none

-- "A message of type AUTACK ..; its body is USB, then one or more times (USX, one or more USY)": USB begins it
abbrev pub usb_b : Leaf → Body → Option Body
usb_b g (plain nil) = some (ack g nil)
usb_b g (plain (b ▷ i)) = none
usb_b g (ack c ls) = none

abbrev pub usx_b : Leaf → Body → Option Body
usx_b g (plain b) = none
usx_b g (ack c ls) = some (ack c (ls ▷ link g nil))

abbrev pub usy_b : Leaf → Body → Option Body
usy_b g (plain b) = none
usy_b g (ack c ls) = map (ack c) (lastly (usy_l g) ls)

-- "A body has 0 or more segments"; after a USB it has none but USX and USY
abbrev pub item_b : Segment → Body → Option Body
item_b i (plain b) = some (plain (b ▷ i))
item_b i (ack c ls) = none

-- a USR goes to the last header group, once a trailer has begun to the last trailer group
abbrev pub usr_o : Leaf → Open → Option Open
usr_o g (msg h hs b nil) = in_headers (lastly (usr_h g)) (msg h hs b nil)
usr_o g (msg h hs b (ts ▷ t)) = map (msg h hs b) (lastly (usr_t g) (ts ▷ t))

-- "one trailer group for each header"; which header a UST names is a rule (9)
abbrev pub ust_o : Leaf → Open → Option Open
ust_o g (msg h hs b ts) = some (msg h hs b (ts ▷ trailer g none))

-- in the message now open
abbrev pub in_open : (Open → Option Open) → Reading → Option Reading
in_open f start = none
in_open f (idle u ms) = none
in_open f (busy u ms o) = map (busy u ms) (f o)
in_open f (done u ms z) = none

-- "Interchange: UNB, one or more messages, UNZ.": UNB comes first, UNH between messages begins one, UNT ends it, UNZ comes after the last. That there is one is a rule (7)
abbrev pub begun : Leaf → Reading → Option Reading
begun g start = some (idle g nil)
begun g (idle u ms) = none
begun g (busy u ms o) = none
begun g (done u ms z) = none

abbrev pub opened : Leaf → Reading → Option Reading
opened g start = none
opened g (idle u ms) = some (busy u ms (msg g nil (plain nil) nil))
opened g (busy u ms o) = none
opened g (done u ms z) = none

abbrev pub closed : Leaf → Reading → Option Reading
closed g start = none
closed g (idle u ms) = none
closed g (busy u ms o) = some (idle u (ms ▷ message o g))
closed g (done u ms z) = none

abbrev pub ended : Leaf → Reading → Option Reading
ended g start = none
ended g (idle u ms) = some (done u ms g)
ended g (busy u ms o) = none
ended g (done u ms z) = none

-- a segment of the paper's, by its tag
abbrev pub grow_named : Name → Leaf → Reading → Option Reading
grow_named Unb g x = begun g x
grow_named Unh g x = opened g x
grow_named Ush g x = in_open (in_headers (λ (hs : Snoc Header). some (hs ▷ header g nil nil))) x
grow_named Usa g x = in_open (in_headers (lastly (usa_h g))) x
grow_named Usc g x = in_open (in_headers (lastly (usc_h g))) x
grow_named Usr g x = in_open (usr_o g) x
grow_named Ust g x = in_open (ust_o g) x
grow_named Usb g x = in_open (in_body (usb_b g)) x
grow_named Usx g x = in_open (in_body (usx_b g)) x
grow_named Usy g x = in_open (in_body (usy_b g)) x
grow_named Unt g x = closed g x
grow_named Unz g x = ended g x

-- "none tagged UNA UNB ..": any other tag is a segment of a body; UNA, UNG, UNE, UNO, UNP, USD and USU have no place
abbrev pub grow : Kind → Segment → Reading → Option Reading
grow (Named n) g x = grow_named n (elements_of g) x
grow Reserved g x = none
grow Free g x = in_open (in_body (item_b g)) x

abbrev pub place : Reading → Segment → Option Reading
place x g = grow (segment_kind g) g x
