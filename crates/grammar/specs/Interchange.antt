-- An interchange as a tree, and the segments that it is printed as. Lists of the tree grow at the end.
use Rattle.std.specs.Prelude.{List}
use Rattle.std.proofs.Math.Option.{Option, none, some}
use Rattle.syntax.specs.Tree.{Element, Segment}
use Rattle.grammar.specs.Lists.{Snoc, nil, ◌▷◌, ◌+++◌, each, joined}
use Rattle.grammar.specs.Segments.{Unb, Unh, Unt, Unz, Ush, Usa, Usc, Usr, Ust, Usb, Usx, Usy, seg}

-- a leaf: the elements of a segment whose tag is said by its place
abbrev pub Leaf : Type 0
Leaf = List Element

-- "then 0 to 2 times (USC, 0 to 3 USA, 0 or 1 USR)"
pub data Certificate : Type 0 where
  certificate : Leaf → Snoc Leaf → Option Leaf → Certificate

-- "Header group: USH, 0 to 3 USA, then .."
pub data Header : Type 0 where
  header : Leaf → Snoc Leaf → Snoc Certificate → Header

-- "Trailer group: UST, 0 or 1 USR."
pub data Trailer : Type 0 where
  trailer : Leaf → Option Leaf → Trailer

-- "(USX, one or more USY)"
pub data Link : Type 0 where
  link : Leaf → Snoc Leaf → Link

-- "A body has 0 or more segments"; that of AUTACK "is USB, then one or more times (USX, one or more USY)"
pub data Body : Type 0 where
  plain : Snoc Segment → Body
  ack : Leaf → Snoc Link → Body

-- "Message: UNH, 0 to 9 header groups, body, one trailer group for each header, UNT.": without its UNT, and with it
pub data Open : Type 0 where
  msg : Leaf → Snoc Header → Body → Snoc Trailer → Open

pub data Message : Type 0 where
  message : Open → Leaf → Message

-- "Interchange: UNB, one or more messages, UNZ.", as far as it was read; `done` is a whole one
pub data Reading : Type 0 where
  start : Reading
  idle : Leaf → Snoc Message → Reading
  busy : Leaf → Snoc Message → Open → Reading
  done : Leaf → Snoc Message → Leaf → Reading

-- ---- the segments, in order

abbrev pub show_option : (Leaf → Segment) → Option Leaf → Snoc Segment
show_option f none = nil
show_option f (some c) = nil ▷ f c

abbrev pub show_certificate : Certificate → Snoc Segment
show_certificate (certificate c us r) = nil ▷ seg Usc c +++ each (seg Usa) us +++ show_option (seg Usr) r

abbrev pub show_header : Header → Snoc Segment
show_header (header c us cs) = nil ▷ seg Ush c +++ each (seg Usa) us +++ joined show_certificate cs

abbrev pub show_trailer : Trailer → Snoc Segment
show_trailer (trailer c r) = nil ▷ seg Ust c +++ show_option (seg Usr) r

abbrev pub show_link : Link → Snoc Segment
show_link (link c ys) = nil ▷ seg Usx c +++ each (seg Usy) ys

abbrev pub show_body : Body → Snoc Segment
show_body (plain b) = b
show_body (ack c ls) = nil ▷ seg Usb c +++ joined show_link ls

abbrev pub show_open : Open → Snoc Segment
show_open (msg c hs b ts) = nil ▷ seg Unh c +++ joined show_header hs +++ show_body b +++ joined show_trailer ts

abbrev pub show_message : Message → Snoc Segment
show_message (message o c) = show_open o ▷ seg Unt c

abbrev pub shown : Reading → Snoc Segment
shown start = nil
shown (idle c ms) = nil ▷ seg Unb c +++ joined show_message ms
shown (busy c ms o) = nil ▷ seg Unb c +++ joined show_message ms +++ show_open o
shown (done c ms z) = nil ▷ seg Unb c +++ joined show_message ms ▷ seg Unz z
