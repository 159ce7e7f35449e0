-- What the code keeps of a tree, as a function of the tree; and the tests and the step, which need no more than that and the segment's view.
use Rattle.grammar.specs.declared.Subset.{Subset}
use Rattle.std.specs.Prelude.{ℕ, suc, ◌+◌, Bool, true, false, cond, not, ◌&&◌, ◌||◌, List, [], ◌∷◌, eqb, ltb, Option}
use Rattle.std.proofs.Math.Option.{Option as Maybe, none, some}
use Rattle.syntax.specs.Octets.{octets, same}
use Rattle.syntax.specs.Content.{value_from, compared}
use Rattle.syntax.specs.declared.Syntax.{Syntax}
use Rattle.syntax.specs.Opening.{earlier}
use Rattle.syntax.specs.declared.Version.{Version}
use Rattle.grammar.specs.Lists.{Snoc, nil, ◌▷◌, each, size, any, among, test, check, every}
use Rattle.grammar.specs.Grams.{Grams, no_grams, same_grams, below, magnitude}
use Rattle.grammar.specs.Weighed.{loaded_by, tipped_by, forward, back}
use Rattle.grammar.specs.Segments.{Asked, unb0020, unh0062, ust0534, ust0588}
use Rattle.grammar.specs.Interchange.{Leaf, certificate, Header, header, Trailer, trailer, Link, link, Body, plain, ack, Open, msg, Reading, start, idle, busy, done, show_header, show_trailer, show_open}
use Rattle.grammar.specs.Loads.{loads, controls, load_in, control_in, load_right}
use Rattle.grammar.specs.Elements.{formed}
use Rattle.grammar.specs.Rules.{is_autack, is_gs1, subset, subset_of, ref_h, ref_t, ref_m, size_at, claimed, counted, scope_code}
use Rattle.grammar.specs.Verdict.{Test, tested, Answer, read, refused}
use Rattle.elements.specs.Kinds.{tag_kind}
use Rattle.elements.specs.Formed.{subset_by}
use Rattle.elements.specs.declared.Kind.{Kind}
use Rattle.elements.specs.declared.Kind.TheVariants.{Unb, Unh, Unt, Unz, Ush, Usa, Usc, Usr, Ust, Usb, Usx, Usy, Reserved, Qty, Cnt, Other}
use Rattle.message.specs.declared.Group.{Group}
use Rattle.message.specs.declared.Group.TheVariants.{Opened, Header as InHeader, Certificate as InCertificate, Body as InBody, Ack as InAck, Trailer as InTrailer}
use Rattle.message.specs.declared.Sums.{Sums}
use Rattle.message.specs.declared.Pair.{Pair}
use Rattle.message.specs.declared.Message.{Message as Kept}

-- ---- of a message that is open: the group that is open in it

abbrev pub given : Maybe Leaf → Bool
given none = false
given (some c) = true

-- the last USX has a USY
abbrev pub full : Snoc Link → Bool
full nil = false
full (ls ▷ link c ys) = any ys

abbrev pub group_of : Open → Group
group_of (msg h nil (plain nil) nil) = Opened
group_of (msg h (hs ▷ header c us nil) (plain nil) nil) = InHeader (size us)
group_of (msg h (hs ▷ header c us (cs ▷ certificate d vs r)) (plain nil) nil) = InCertificate (size cs) (size vs) (given r)
group_of (msg h hs (plain (b ▷ i)) nil) = InBody
group_of (msg h hs (ack c ls) nil) = InAck (any ls) (full ls)
group_of (msg h hs b (ts ▷ trailer c r)) = InTrailer (given r)

-- ---- its loads and control totals

-- the first, 0 if there is none
abbrev pub first_in : Snoc Grams → Grams
first_in nil = no_grams
first_in (nil ▷ n) = n
first_in (s ▷ m ▷ n) = first_in (s ▷ m)

-- all are equal to the first
abbrev pub agree_in : Snoc Grams → Bool
agree_in s = check (every (λ (n : Grams). test (same_grams n (first_in s))) s)

-- of the loads s and the control totals c: what was loaded and what was tipped back; the first control total without its sign, and its sign
abbrev pub sums_in : Snoc Grams → Snoc Grams → Sums
sums_in s c =
    record { loads = size s; grams = forward s; back = back s; controlled = any c; control = magnitude (first_in c); below = below (first_in c); agree = agree_in c }

abbrev pub no_sums : Sums
no_sums = record { loads = 0; grams = 0; back = 0; controlled = false; control = 0; below = false; agree = true }

abbrev pub sums_of : Body → Sums
sums_of (plain b) = sums_in (loads b) (controls b)
sums_of (ack c ls) = no_sums

-- ---- its trailers: whether all but the last count right, and what the last claims, the segments of the header that it names, and its own

abbrev pub no_pair : Pair
no_pair = record { right = true; claim = 0; base = 0; own = 0 }

abbrev pub pair_of : Snoc Header → Snoc Trailer → Pair
pair_of hs nil = no_pair
pair_of hs (ts ▷ trailer c r) = record { right = check (every (counted hs) ts); claim = claimed (ust0588 c); base = size_at (ust0534 c) hs; own = size (show_trailer (trailer c r)) }

-- ---- all of it: the code's struct; the message's 0062; of its headers 0534, the segments, and whether a trailer has named them

pub record Summary : Type 0 where
  pub m : Kept
  pub ref : List ℕ
  pub refs : Snoc (List ℕ)
  pub sizes : Snoc ℕ
  pub flags : Snoc Bool

-- `H` at a name's end: of a header group
abbrev pub size_h : Header → ℕ
size_h h = size (show_header h)

abbrev pub kept_of : Open → Kept
kept_of (msg h hs b ts) =
    record { group = group_of (msg h hs b ts); autack = subset h; segments = size (show_open (msg h hs b ts)); headers = size (each ref_h hs); sums = sums_of b; pair = pair_of hs ts }

abbrev pub flags_of : Snoc (List ℕ) → Snoc (List ℕ) → Snoc Bool
flags_of names refs = each (among names) refs

abbrev pub summary_of : Open → Summary
summary_of (msg h hs b ts) =
    record { m = kept_of (msg h hs b ts); ref = unh0062 h; refs = each ref_h hs; sizes = each size_h hs; flags = flags_of (each ref_t ts) (each ref_h hs) }

-- names end in `S` where they are of the summary what the name without it is of the tree (`Reading`, `order`, `refs`, ..); in `K` where they go by the
-- segment's kind.
-- Nothing read; between messages, with UNB's 0020 and the 0062s so far; in a message; all read
pub data StateS : Type 0 where
  start_s : StateS
  idle_s : List ℕ → Snoc (List ℕ) → StateS
  busy_s : List ℕ → Snoc (List ℕ) → Summary → StateS
  done_s : StateS

abbrev pub state_of : Reading → StateS
state_of start = start_s
state_of (idle u ms) = idle_s (unb0020 u) (each ref_m ms)
state_of (busy u ms o) = busy_s (unb0020 u) (each ref_m ms) (summary_of o)
state_of (done u ms z) = done_s

-- ---- 7, in a message: by group and kind. "Message: UNH, 0 to 9 header groups, body, one trailer group for each header, UNT."

-- "UNH, 0 to 9 header groups": nothing but these has come, so that a further header, or the USB of a body, may come; but not, in the subset of GS1, "after a
-- header without USC"
abbrev pub at_heads : Option Subset → Group → Bool
at_heads a Opened = true
at_heads a (InHeader n) = not (is_gs1 a)
at_heads a (InCertificate n m r) = true
at_heads a InBody = false
at_heads a (InAck l y) = false
at_heads a (InTrailer r) = false

-- "A body has 0 or more segments": after the headers, and after other segments of the body
abbrev pub at_items : Group → Bool
at_items Opened = true
at_items (InHeader n) = true
at_items (InCertificate n m r) = true
at_items InBody = true
at_items (InAck l y) = false
at_items (InTrailer r) = false

-- "body, one trailer group for each header, UNT": the body is whole, so that a UST or UNT may come.
-- "A message of type AUTACK has at least one header; its body is USB, then one or more times (USX, one or more USY)": it ends with a USY
abbrev pub closes : Bool → Group → Bool
closes a Opened = not a
closes a (InHeader n) = not a
closes a (InCertificate n m r) = not a
closes a InBody = true
closes a (InAck l y) = y
closes a (InTrailer r) = true

-- "Header group: USH, 0 to 3 USA, then 0 to 2 times (USC, 0 to 3 USA, 0 or 1 USR)": a USA comes before the USR of its USC
abbrev pub usa_may : Group → Bool
usa_may Opened = false
usa_may (InHeader n) = ltb n 3
usa_may (InCertificate n m r) = not r && ltb m 3
usa_may InBody = false
usa_may (InAck l y) = false
usa_may (InTrailer r) = false

-- "then 0 to 2 times (USC, 0 to 3 USA, 0 or 1 USR)"; n of them stand before the one now open
abbrev pub usc_may : Group → Bool
usc_may Opened = false
usc_may (InHeader n) = true
usc_may (InCertificate n m r) = ltb (suc n) 2
usc_may InBody = false
usc_may (InAck l y) = false
usc_may (InTrailer r) = false

-- "USC, 0 to 3 USA, 0 or 1 USR"; "Trailer group: UST, 0 or 1 USR."
abbrev pub usr_may : Group → Bool
usr_may Opened = false
usr_may (InHeader n) = false
usr_may (InCertificate n m r) = not r
usr_may InBody = false
usr_may (InAck l y) = false
usr_may (InTrailer r) = not r

-- "USB, then one or more times (USX, one or more USY)": the first USX after USB, a further one after a USY
abbrev pub usx_may : Group → Bool
usx_may Opened = false
usx_may (InHeader n) = false
usx_may (InCertificate n m r) = false
usx_may InBody = false
usx_may (InAck l y) = not l || y
usx_may (InTrailer r) = false

-- "USX, one or more USY"
abbrev pub usy_may : Group → Bool
usy_may Opened = false
usy_may (InHeader n) = false
usy_may (InCertificate n m r) = false
usy_may InBody = false
usy_may (InAck l y) = l
usy_may (InTrailer r) = false

-- all of it, by kind. "A body has 0 or more segments, none tagged UNA UNB UNG UNE UNH UNT UNZ UNO UNP USH USA USC USR UST USB USX USY USD USU."
abbrev pub may_come : Kind → Kept → Bool
may_come Unb m = false
may_come Unh m = false
may_come Unt m = closes (is_autack m.autack) m.group
may_come Unz m = false
may_come Ush m = at_heads m.autack m.group && ltb m.headers 9
may_come Usa m = usa_may m.group
may_come Usc m = usc_may m.group
may_come Usr m = usr_may m.group
may_come Ust m = closes (is_autack m.autack) m.group
may_come Usb m = at_heads m.autack m.group && (is_autack m.autack && ltb 0 m.headers)
may_come Usx m = usx_may m.group
may_come Usy m = usy_may m.group
may_come Reserved m = false
may_come Qty m = at_items m.group && not (is_autack m.autack)
may_come Cnt m = at_items m.group && not (is_autack m.autack)
may_come Other m = at_items m.group && not (is_autack m.autack)

-- ---- by the kinds that matter

abbrev pub at_start : {A : Type 0} → A → A → Kind → A
at_start unb other Unb = unb
at_start unb other Unh = other
at_start unb other Unt = other
at_start unb other Unz = other
at_start unb other Ush = other
at_start unb other Usa = other
at_start unb other Usc = other
at_start unb other Usr = other
at_start unb other Ust = other
at_start unb other Usb = other
at_start unb other Usx = other
at_start unb other Usy = other
at_start unb other Reserved = other
at_start unb other Qty = other
at_start unb other Cnt = other
at_start unb other Other = other

abbrev pub at_idle : {A : Type 0} → A → A → A → Kind → A
at_idle unh unz other Unb = other
at_idle unh unz other Unh = unh
at_idle unh unz other Unt = other
at_idle unh unz other Unz = unz
at_idle unh unz other Ush = other
at_idle unh unz other Usa = other
at_idle unh unz other Usc = other
at_idle unh unz other Usr = other
at_idle unh unz other Ust = other
at_idle unh unz other Usb = other
at_idle unh unz other Usx = other
at_idle unh unz other Usy = other
at_idle unh unz other Reserved = other
at_idle unh unz other Qty = other
at_idle unh unz other Cnt = other
at_idle unh unz other Other = other

abbrev pub at_busy : {A : Type 0} → A → A → A → A → A → Kind → A
at_busy ush usy ust unt other Unb = other
at_busy ush usy ust unt other Unh = other
at_busy ush usy ust unt other Unt = unt
at_busy ush usy ust unt other Unz = other
at_busy ush usy ust unt other Ush = ush
at_busy ush usy ust unt other Usa = other
at_busy ush usy ust unt other Usc = other
at_busy ush usy ust unt other Usr = other
at_busy ush usy ust unt other Ust = ust
at_busy ush usy ust unt other Usb = other
at_busy ush usy ust unt other Usx = other
at_busy ush usy ust unt other Usy = usy
at_busy ush usy ust unt other Reserved = other
at_busy ush usy ust unt other Qty = other
at_busy ush usy ust unt other Cnt = other
at_busy ush usy ust unt other Other = other

abbrev pub order_k : StateS → Kind → Bool
order_k start_s k = at_start true false k
order_k (idle_s u rs) k = at_idle true (any rs) false k
order_k (busy_s u rs S) k = may_come k S.m
order_k done_s k = false

-- ---- 8, of what the message's subset checks besides

abbrev pub subset_k : StateS → Kind → Asked → Bool
subset_k start_s k a = true
subset_k (idle_s u rs) k a = true
subset_k (busy_s u rs S) k a = subset_by k S.m.autack a
subset_k done_s k a = true

-- ---- 9

abbrev pub is_found : Maybe ℕ → Bool
is_found none = false
is_found (some i) = true

abbrev pub or_else : {A : Type 0} → Maybe A → Maybe A → Maybe A
or_else none o = o
or_else (some a) o = some a

-- the first header of the reference r that no trailer has named: its place, from 0
abbrev pub free_at : List ℕ → Snoc (List ℕ) → Snoc Bool → Maybe ℕ
free_at r nil fs = none
free_at r (rs ▷ s) nil = none
free_at r (rs ▷ s) (fs ▷ f) = or_else (free_at r rs fs) (cond (same s r && not f) (some (size rs)) none)

-- each header is named
abbrev pub all_named : Snoc Bool → Bool
all_named nil = true
all_named (fs ▷ f) = all_named fs && f

-- the reference at position p
abbrev pub ref_in : Asked → ℕ → List ℕ
ref_in a p = compared (a.text p 0)

abbrev pub refs_k : StateS → Kind → Asked → Bool
refs_k start_s k a = true
refs_k (idle_s u rs) k a = at_idle (not (among rs (ref_in a 1))) (same (ref_in a 2) u) true k
refs_k (busy_s u rs S) k a =
    at_busy (not (among S.refs (ref_in a 2))) (among S.refs (ref_in a 1)) (is_found (free_at (ref_in a 1) S.refs S.flags))
    (same (ref_in a 2) S.ref && all_named S.flags) true k
refs_k done_s k a = true

-- ---- 10

-- "0588 counts the segments of its header and trailer pair together": each pair so far does, the last one too
abbrev pub pairs_right : Pair → Bool
pairs_right p = p.right && eqb p.claim (p.base + p.own)

-- where the edition has a 0588
abbrev pub pairs_counted : Version → Pair → Bool
pairs_counted v p = cond (earlier v) true (pairs_right p)

-- the first control total is what was loaded less what was tipped back
abbrev pub control_total : Sums → Bool
control_total s = cond s.below (eqb s.back (s.grams + s.control)) (eqb s.grams (s.back + s.control))

-- the control totals are the sum of the loads
abbrev pub total_right : Sums → Bool
total_right s = s.agree && (not s.controlled || control_total s)

-- the number that the element at position p gives
abbrev pub number_at : Asked → ℕ → ℕ
number_at a p = value_from 0 (a.text p 0)

abbrev pub counts_k : Version → StateS → Kind → Asked → Bool
counts_k v start_s k a = true
counts_k v (idle_s u rs) k a = at_idle true (eqb (number_at a 1) (size rs)) true k
counts_k v (busy_s u rs S) k a = at_busy true true true (eqb (number_at a 1) (suc S.m.segments) && (pairs_counted v S.m.pair && total_right S.m.sums)) true k
counts_k v done_s k a = true

-- ---- 11

abbrev pub scope_k : StateS → Kind → Asked → Bool
scope_k start_s k a = true
scope_k (idle_s u rs) k a = true
scope_k (busy_s u rs S) k a = at_busy (scope_code S.m.autack (a.text 3 0)) true true true true k
scope_k done_s k a = true

-- ---- the step; it matters only where the tests are passed

-- one segment more in the last header group
abbrev pub more_in_last : Snoc ℕ → Snoc ℕ
more_in_last nil = nil
more_in_last (s ▷ n) = s ▷ suc n

-- of the header at place i: its segments; named now
abbrev pub size_in : Snoc ℕ → ℕ → ℕ
size_in nil i = 0
size_in (s ▷ n) i = cond (eqb i (size s)) n (size_in s i)

abbrev pub named : Snoc Bool → ℕ → Snoc Bool
named nil i = nil
named (fs ▷ f) i = cond (eqb i (size fs)) (fs ▷ true) (named fs i ▷ f)

abbrev pub usa_group : Group → Group
usa_group Opened = Opened
usa_group (InHeader n) = InHeader (suc n)
usa_group (InCertificate n m r) = InCertificate n (suc m) r
usa_group InBody = InBody
usa_group (InAck l y) = InAck l y
usa_group (InTrailer r) = InTrailer r

abbrev pub usc_group : Group → Group
usc_group Opened = Opened
usc_group (InHeader n) = InCertificate 0 0 false
usc_group (InCertificate n m r) = InCertificate (suc n) 0 false
usc_group InBody = InBody
usc_group (InAck l y) = InAck l y
usc_group (InTrailer r) = InTrailer r

-- one segment more, in the group g
abbrev pub grown : Kept → Group → Kept
grown m g = record { group = g; autack = m.autack; segments = suc m.segments; headers = m.headers; sums = m.sums; pair = m.pair }

abbrev pub grown_by : Summary → Group → Snoc ℕ → Summary
grown_by S g sizes = record { m = grown S.m g; ref = S.ref; refs = S.refs; sizes = sizes; flags = S.flags }

abbrev pub ush_next : Summary → Asked → Summary
ush_next S a = record {
  m = record { group = InHeader 0; autack = S.m.autack; segments = suc S.m.segments; headers = suc S.m.headers; sums = S.m.sums; pair = S.m.pair };
  ref = S.ref;
  refs = S.refs ▷ ref_in a 2;
  sizes = S.sizes ▷ 1;
  flags = S.flags ▷ false;
}

-- the pair of a trailer has a segment more
abbrev pub own_more : Pair → Pair
own_more p = record { right = p.right; claim = p.claim; base = p.base; own = suc p.own }

abbrev pub usr_next : Summary → Group → Summary
usr_next S Opened = S
usr_next S (InHeader n) = S
usr_next S (InCertificate n m r) = grown_by S (InCertificate n m true) (more_in_last S.sizes)
usr_next S InBody = S
usr_next S (InAck l y) = S
usr_next S (InTrailer r) = record {
  m = record { group = InTrailer true; autack = S.m.autack; segments = suc S.m.segments; headers = S.m.headers; sums = S.m.sums; pair = own_more S.m.pair };
  ref = S.ref;
  refs = S.refs;
  sizes = S.sizes;
  flags = S.flags;
}

-- the trailer of the header at this place
abbrev pub ust_next : Summary → Asked → Maybe ℕ → Summary
ust_next S a none = S
ust_next S a (some i) = record {
  m = record {
    group = InTrailer false;
    autack = S.m.autack;
    segments = suc S.m.segments;
    headers = S.m.headers;
    sums = S.m.sums;
    pair = record { right = pairs_right S.m.pair; claim = claimed (a.text 2 0); base = size_in S.sizes i; own = 1 };
  };
  ref = S.ref;
  refs = S.refs;
  sizes = S.sizes;
  flags = named S.flags i;
}

abbrev pub item_next : Summary → Sums → Summary
item_next S s = record {
  m = record { group = InBody; autack = S.m.autack; segments = suc S.m.segments; headers = S.m.headers; sums = s; pair = S.m.pair };
  ref = S.ref;
  refs = S.refs;
  sizes = S.sizes;
  flags = S.flags;
}

abbrev pub usb_next : Summary → Summary
usb_next S = record {
  m = record { group = InAck false false; autack = S.m.autack; segments = suc S.m.segments; headers = S.m.headers; sums = no_sums; pair = S.m.pair };
  ref = S.ref;
  refs = S.refs;
  sizes = S.sizes;
  flags = S.flags;
}

-- a load more
abbrev pub loaded : Sums → Maybe Grams → Sums
loaded s none = s
loaded s (some z) = record {
  loads = suc s.loads;
  grams = s.grams + loaded_by z;
  back = s.back + tipped_by z;
  controlled = s.controlled;
  control = s.control;
  below = s.below;
  agree = s.agree;
}

-- the first control total has this magnitude and this sign
abbrev pub same_control : Sums → ℕ → Bool → Bool
same_control s n b = eqb n s.control && cond b s.below (not s.below)

-- a control total more
abbrev pub controlled_by : Bool → Sums → Grams → Sums
controlled_by false s z =
    record { loads = s.loads; grams = s.grams; back = s.back; controlled = true; control = magnitude z; below = below z; agree = true }
controlled_by true s z =
    record { loads = s.loads; grams = s.grams; back = s.back; controlled = true; control = s.control; below = s.below; agree = s.agree && same_control s (magnitude z) (below z) }

abbrev pub controlled : Sums → Maybe Grams → Sums
controlled s none = s
controlled s (some z) = controlled_by s.controlled s z

abbrev pub busy_next : Kind → List ℕ → Snoc (List ℕ) → Summary → Asked → StateS
busy_next Unb u rs S a = busy_s u rs S
busy_next Unh u rs S a = busy_s u rs S
busy_next Unt u rs S a = idle_s u (rs ▷ S.ref)
busy_next Unz u rs S a = busy_s u rs S
busy_next Ush u rs S a = busy_s u rs (ush_next S a)
busy_next Usa u rs S a = busy_s u rs (grown_by S (usa_group S.m.group) (more_in_last S.sizes))
busy_next Usc u rs S a = busy_s u rs (grown_by S (usc_group S.m.group) (more_in_last S.sizes))
busy_next Usr u rs S a = busy_s u rs (usr_next S S.m.group)
busy_next Ust u rs S a = busy_s u rs (ust_next S a (free_at (ref_in a 1) S.refs S.flags))
busy_next Usb u rs S a = busy_s u rs (usb_next S)
busy_next Usx u rs S a = busy_s u rs (grown_by S (InAck true false) S.sizes)
busy_next Usy u rs S a = busy_s u rs (grown_by S (InAck true true) S.sizes)
busy_next Reserved u rs S a = busy_s u rs S
busy_next Qty u rs S a = busy_s u rs (item_next S (loaded S.m.sums (load_in a)))
busy_next Cnt u rs S a = busy_s u rs (item_next S (controlled S.m.sums (control_in a)))
busy_next Other u rs S a = busy_s u rs (item_next S S.m.sums)

-- a message begun by its UNH
abbrev pub opened : Asked → Summary
opened a = record {
  m = record { group = Opened; autack = subset_of (a.text 2 0) (a.text 2 4); segments = 1; headers = 0; sums = no_sums; pair = no_pair };
  ref = ref_in a 1;
  refs = nil;
  sizes = nil;
  flags = nil;
}

abbrev pub next_k : StateS → Kind → Asked → StateS
next_k start_s k a = idle_s (ref_in a 5) nil
next_k (idle_s u rs) k a = at_idle (busy_s u rs (opened a)) done_s (idle_s u rs) k
next_k (busy_s u rs S) k a = busy_next k u rs S a
next_k done_s k a = done_s

-- ---- the same, of a segment's view

abbrev pub order_s : StateS → Asked → Bool
order_s x a = order_k x (tag_kind a.tag)

abbrev pub subset_s : StateS → Asked → Bool
subset_s x a = subset_k x (tag_kind a.tag) a

abbrev pub refs_s : StateS → Asked → Bool
refs_s x a = refs_k x (tag_kind a.tag) a

abbrev pub counts_s : Version → StateS → Asked → Bool
counts_s v x a = counts_k v x (tag_kind a.tag) a

abbrev pub scope_s : StateS → Asked → Bool
scope_s x a = scope_k x (tag_kind a.tag) a

abbrev pub next_s : StateS → Asked → StateS
next_s x a = next_k x (tag_kind a.tag) a

-- ---- the answer on a segment

pub data AnswerS : Type 0 where
  read_s : StateS → AnswerS
  refused_s : ℕ → ℕ → AnswerS

-- `i` is whether 3 is passed and `q` where it is broken; the segment stands at p
abbrev pub tests_s : Syntax → Asked → Bool → ℕ → ℕ → StateS → List Test
tests_s y a i q p x =
    tested 3 q i
    ∷ tested 7 p (order_s x a)
    ∷ tested 8 p (formed y.version a && subset_s x a)
    ∷ tested 9 p (refs_s x a)
    ∷ tested 10 p (counts_s y.version x a)
    ∷ tested 11 p (scope_s x a)
    ∷ tested 12 p (load_right a)
    ∷ []

abbrev pub decided_s : List Test → StateS → AnswerS
decided_s [] x = read_s x
decided_s (tested n p b ∷ ts) x = cond b (decided_s ts x) (refused_s n p)

-- the judge's answer, in what the code keeps
abbrev pub answer_of : Answer → AnswerS
answer_of (read x) = read_s (state_of x)
answer_of (refused n p) = refused_s n p

-- the state of a message just begun
abbrev pub fresh : Option Subset → Kept
fresh a = record { group = Opened; autack = a; segments = 1; headers = 0; sums = no_sums; pair = no_pair }
