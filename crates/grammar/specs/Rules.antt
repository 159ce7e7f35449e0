-- The rules on a tree, grouped by the number that tells their breach. Each is a formula over a tree or a part of one.
-- A rule on single segments (3, 8, 12) is tested on each segment shown.
-- The last letter of a name says of what it is: S a segment, C a certificate, H a header group, T a trailer group, L a link, B a body, O an open message,
-- M a message.
use Rattle.grammar.specs.declared.Subset.{Subset}
use Rattle.std.specs.Prelude.{ℕ, zero, suc, ◌+◌, Bool, true, false, cond, not, ◌&&◌, ◌||◌, List, [], ◌∷◌, eqb, Option, None, Some}
use Rattle.std.proofs.Math.Option.{Option as Maybe, none, some}
use Rattle.syntax.specs.Octets.{octets, same}
use Rattle.syntax.specs.Content.{value_from}
use Rattle.syntax.specs.Cutting.{first_outside}
use Rattle.syntax.specs.Opening.{earlier, is_there}
use Rattle.syntax.specs.Tree.{Segment, print_s}
use Rattle.syntax.specs.declared.Syntax.{Syntax}
use Rattle.syntax.specs.declared.Version.{Version}
use Rattle.grammar.specs.declared.Subset.TheVariants.{F01, Gs1}
use Rattle.grammar.specs.Lists.{Snoc, nil, ◌▷◌, each, joined, size, any, among, Rule, always, test, ◌and◌, every, every_before, few, distinct}
use Rattle.grammar.specs.Grams.{Grams, same_grams, sum}
use Rattle.grammar.specs.Segments.{Name, Usc, Usb, Usx, Kind, Named, Reserved, Free, segment_kind, seg, asked, unb0020, unh0062, unh0065, unh0057, unt0074, unt0062, unz0036, unz0020, ush0534, ush0541, ust0534, ust0588, usy0534}
use Rattle.grammar.specs.Interchange.{Leaf, Certificate, certificate, Header, header, Trailer, trailer, Link, link, Body, plain, ack, Open, msg, Message, message, Reading, start, idle, busy, done, show_header, show_trailer, show_message, shown}
use Rattle.grammar.specs.Elements.{in_range, digits, formed_row, formed, subset_row}
use Rattle.grammar.specs.Loads.{loads, controls, load_right}

-- ---- 3: "octet outside the repertoire"

abbrev pub inside_s : Syntax → Segment → Rule
inside_s y g = test (not (is_there (first_outside y (print_s y.service g) 0)))

abbrev pub inside : Syntax → Reading → Rule
inside y x = every (inside_s y) (shown x)

-- ---- 7: "segment out of order"

-- "A message of type AUTACK": 0065 has exactly that content
abbrev pub autack : Leaf → Bool
autack h = same (unh0065 h) (octets "AUTACK")

-- the subset of AUTACK that a message of this type and association code is written by: that of GS1, "chosen by UNH's association code EAN001", else F01;
-- None: it is no AUTACK
abbrev pub subset_of : List ℕ → List ℕ → Option Subset
subset_of t c = cond (same t (octets "AUTACK")) (cond (same c (octets "EAN001")) (Some Gs1) (Some F01)) None

abbrev pub subset : Leaf → Option Subset
subset h = subset_of (unh0065 h) (unh0057 h)

abbrev pub is_autack : Option Subset → Bool
is_autack None = false
is_autack (Some F01) = true
is_autack (Some Gs1) = true

abbrev pub is_gs1 : Option Subset → Bool
is_gs1 None = false
is_gs1 (Some F01) = false
is_gs1 (Some Gs1) = true

-- "0 to 3 USA", "0 to 2 times (USC, ..)"
abbrev pub ok_certificate : Certificate → Rule
ok_certificate (certificate c us r) = few 3 us

abbrev pub ok_header : Header → Rule
ok_header (header c us cs) = few 3 us and few 2 cs and every ok_certificate cs

-- of the subset of GS1: "USC with 0536 is required in each header"
abbrev pub certified : Option Subset → Header → Rule
certified a (header c us cs) = test (any cs || not (is_gs1 a))

-- "7 at the segment after a header without USC": the last header may be just begun, until the body of AUTACK begins
abbrev pub ok_heads : Option Subset → Snoc Header → Body → Rule
ok_heads a hs (plain b) = every_before (certified a) hs
ok_heads a hs (ack c ls) = every (certified a) hs

-- "one or more USY" under each USX
abbrev pub filled : Link → Rule
filled (link c ys) = test (any ys)

-- "none tagged UNA UNB .."
abbrev pub is_free : Kind → Bool
is_free (Named n) = false
is_free Reserved = false
is_free Free = true

abbrev pub ok_item : Segment → Rule
ok_item g = test (is_free (segment_kind g))

-- "A message of type AUTACK has at least one header; its body is USB, then one or more times (USX, one or more USY)."
-- This holds while the body is read: before its first segment a body is `plain nil`, in an AUTACK too, so an empty one breaks nothing yet. What must
-- be there when the body is over is `whole`
abbrev pub ok_body : Bool → Snoc Header → Body → Rule
ok_body a hs (plain nil) = always
ok_body a hs (plain (b ▷ i)) = test (not a) and every ok_item b and ok_item i
ok_body a hs (ack c ls) = test a and test (any hs) and every_before filled ls

-- a body that a trailer or UNT may follow: an AUTACK's has its USB by then, and so an AUTACK with an empty body is refused here, 7 at that trailer or UNT
abbrev pub whole : Bool → Body → Rule
whole a (plain b) = test (not a)
whole a (ack c ls) = test (any ls) and every filled ls

abbrev pub ok_trailers : Bool → Body → Snoc Trailer → Rule
ok_trailers a b nil = always
ok_trailers a b (ts ▷ t) = whole a b

-- "0 to 9 header groups"
abbrev pub ok_open : Open → Rule
ok_open (msg h hs b ts) = few 9 hs and every ok_header hs and ok_body (autack h) hs b and ok_trailers (autack h) b ts and ok_heads (subset h) hs b

abbrev pub ok_message : Message → Rule
ok_message (message (msg h hs b ts) t) = ok_open (msg h hs b ts) and whole (autack h) b

-- "one or more messages"
abbrev pub order : Reading → Rule
order start = always
order (idle u ms) = every ok_message ms
order (busy u ms o) = every ok_message ms and ok_open o
order (done u ms z) = every ok_message ms and test (any ms)

-- ---- 8: "checked element missing or malformed"

abbrev pub formed_s : Syntax → Segment → Rule
formed_s y g = test (formed y.version (asked g))

abbrev pub well_formed : Syntax → Reading → Rule
well_formed y x = every (formed_s y) (shown x)

-- and, of the subset that a message is written by: "8 for a missing 0536, 0062 or wrong 0503"
abbrev pub formed_in : Option Subset → Name → Leaf → Rule
formed_in a n c = test (formed_row (subset_row a n) (asked (seg n c)) 1)

abbrev pub subset_c : Option Subset → Certificate → Rule
subset_c a (certificate c us r) = formed_in a Usc c

abbrev pub subset_h : Option Subset → Header → Rule
subset_h a (header c us cs) = every (subset_c a) cs

abbrev pub subset_l : Option Subset → Link → Rule
subset_l a (link c ys) = formed_in a Usx c

abbrev pub subset_b : Option Subset → Body → Rule
subset_b a (plain b) = always
subset_b a (ack c ls) = formed_in a Usb c and every (subset_l a) ls

abbrev pub subsets_open : Open → Rule
subsets_open (msg h hs b ts) = every (subset_h (subset h)) hs and subset_b (subset h) b

abbrev pub subsets_message : Message → Rule
subsets_message (message o t) = subsets_open o

abbrev pub subsets : Reading → Rule
subsets start = always
subsets (idle u ms) = every subsets_message ms
subsets (busy u ms o) = every subsets_message ms and subsets_open o
subsets (done u ms z) = every subsets_message ms

-- ---- 9: "reference differs, repeats or is unpaired"

abbrev pub ref_h : Header → List ℕ
ref_h (header c us cs) = ush0534 c

abbrev pub ref_t : Trailer → List ℕ
ref_t (trailer c r) = ust0534 c

abbrev pub ref_o : Open → List ℕ
ref_o (msg h hs b ts) = unh0062 h

abbrev pub ref_m : Message → List ℕ
ref_m (message o t) = ref_o o

-- what the USYs name
abbrev pub refs_l : Link → Snoc (List ℕ)
refs_l (link c ys) = each usy0534 ys

abbrev pub linked : Body → Snoc (List ℕ)
linked (plain b) = nil
linked (ack c ls) = joined refs_l ls

abbrev pub one : Snoc (List ℕ) → List ℕ → Rule
one s r = test (among s r)

-- "0534 of USH once in a message", "Each USY names a USH of its message", "Each UST names a header not yet named; trailers may come in any order."
-- "A UST with no header left to name is 9, in a message without headers too."
abbrev pub refs_open : Open → Rule
refs_open (msg h hs b ts) =
    distinct (each ref_h hs) and every (one (each ref_h hs)) (linked b)
    and distinct (each ref_t ts) and every (one (each ref_h hs)) (each ref_t ts)

-- "At UNT: 9 for 0062 or a header without trailer"
abbrev pub refs_message : Message → Rule
refs_message (message (msg h hs b ts) t) =
    refs_open (msg h hs b ts) and test (same (unt0062 t) (unh0062 h)) and every (one (each ref_t ts)) (each ref_h hs)

-- "0062 is used once in an interchange"; UNZ's 0020 is UNB's
abbrev pub refs : Reading → Rule
refs start = always
refs (idle u ms) = distinct (each ref_m ms) and every refs_message ms
refs (busy u ms o) = distinct (each ref_m ms ▷ ref_o o) and every refs_message ms and refs_open o
refs (done u ms z) = distinct (each ref_m ms) and every refs_message ms and test (same (unz0020 z) (unb0020 u))

-- ---- 10: "count or control total differs"

-- "it equals the message's load total"
abbrev pub total : Body → Rule
total (plain b) = every (λ (n : Grams). test (same_grams n (sum (loads b)))) (controls b)
total (ack c ls) = always

-- the segments of the header of this reference
abbrev pub size_at : List ℕ → Snoc Header → ℕ
size_at r nil = 0
size_at r (hs ▷ h) = cond (same (ref_h h) r) (size (show_header h)) (size_at r hs)

-- what 0588 says, which has 1 to 6 digits; 0 where it has not
abbrev pub claimed : List ℕ → ℕ
claimed s = cond (in_range (digits 1 6) s) (value_from 0 s) 0

-- "0588 counts the segments of its header and trailer pair together."
abbrev pub counted : Snoc Header → Trailer → Rule
counted hs (trailer c r) = test (eqb (claimed (ust0588 c)) (size_at (ust0534 c) hs + size (show_trailer (trailer c r))))

-- in the earlier edition "0588 isn't demanded", and nothing is compared with it
abbrev pub paired : Version → Snoc Header → Snoc Trailer → Rule
paired v hs ts = cond (earlier v) always (every (counted hs) ts)

-- "then 10 for 0074, 0588 and CNT". "0074 counts UNH to UNT, both included."
abbrev pub counts_message : Version → Message → Rule
counts_message v (message (msg h hs b ts) t) =
    test (eqb (unt0074 t) (size (show_message (message (msg h hs b ts) t)))) and paired v hs ts and total b

-- "0036 counts the messages."
abbrev pub counts : Version → Reading → Rule
counts v start = always
counts v (idle u ms) = every (counts_message v) ms
counts v (busy u ms o) = every (counts_message v) ms
counts v (done u ms z) = every (counts_message v) ms and test (eqb (unz0036 z) (size ms))

-- ---- 11: "0541 is 1 or 2; in AUTACK it is F01 and nothing else.", and in the subset of GS1 "0541 is 3"

-- whether 0541 may be this, in a message of the subset
abbrev pub scope_code : Option Subset → List ℕ → Bool
scope_code None s = same s (octets "1") || same s (octets "2")
scope_code (Some F01) s = same s (octets "F01")
scope_code (Some Gs1) s = same s (octets "3")

abbrev pub scope_right : Option Subset → Header → Rule
scope_right a (header c us cs) = test (scope_code a (ush0541 c))

abbrev pub scopes_open : Open → Rule
scopes_open (msg h hs b ts) = every (scope_right (subset h)) hs

abbrev pub scopes_message : Message → Rule
scopes_message (message o t) = scopes_open o

abbrev pub scopes : Reading → Rule
scopes start = always
scopes (idle u ms) = every scopes_message ms
scopes (busy u ms o) = every scopes_message ms and scopes_open o
scopes (done u ms z) = every scopes_message ms

-- ---- 12: "load amount"

abbrev pub amount_s : Segment → Rule
amount_s g = test (load_right (asked g))

abbrev pub amounts : Reading → Rule
amounts x = every amount_s (shown x)
