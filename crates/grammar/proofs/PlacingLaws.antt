-- What placing a segment does: it is shown last, and taken off again it leaves a reading of which the rules still hold.
use Rattle.std.specs.Prelude.{ℕ, suc, Bool, true, false, cond, not, ◌&&◌, List, [], ◌∷◌, ◌≡◌, refl, T, eqb, leb}
use Rattle.std.proofs.Common.{arith, ap, ◌∙◌, sym, subst, leb→le, le→leb, eqb→eq}
use Rattle.std.proofs.Math.Option.{Option, none, some}
use Rattle.syntax.specs.Octets as octets
use Rattle.syntax.specs.Octets.{same}
use Rattle.syntax.specs.Tree.{Segment, segment}
use Rattle.syntax.proofs.TreeLaws.{and_left, and_right}
use Rattle.syntax.specs.declared.Version.{Version}
use Rattle.grammar.specs.Lists.{Snoc, nil, ◌▷◌, map, ◌+++◌, joined, size, Rule, holds, every}
use Rattle.grammar.specs.Segments.{Name, Unb, Unh, Unt, Unz, Ush, Usa, Usc, Usr, Ust, Usb, Usx, Usy, Kind, Named, Reserved, Free, Entry, entry, tags, kind_in, elements_of, segment_kind, text_of, with_tag, seg}
use Rattle.grammar.specs.Interchange.{Leaf, Certificate, certificate, Header, header, Trailer, trailer, Link, link, Body, plain, ack, Open, msg, Message, message, Reading, start, idle, busy, done, show_certificate, show_header, show_trailer, show_link, show_body, show_open, show_message, shown}
use Rattle.grammar.specs.Rules.{order, subsets, refs, counts, scopes, autack, subset, certified, is_free, ok_item, ok_body, ok_trailers, whole, filled}
use Rattle.grammar.specs.RuleLaws.{every-before}
use Rattle.grammar.specs.Placing.{usa_c, usr_c, usa_h, usc_h, usr_h, lastly, usr_t, usy_l, in_headers, in_body, usb_b, usx_b, usy_b, item_b, usr_o, ust_o, in_open, begun, opened, closed, ended, grow_named, grow, place}

-- ---- a segment of a name has that name's tag

-- texts that are told the same are equal
pub same-eq : (x y : List ℕ) → T (same x y) → x ≡ y
same-eq [] [] h = refl
same-eq [] (y ∷ ys) h = absurd h
same-eq (x ∷ xs) [] h = absurd h
same-eq (x ∷ xs) (y ∷ ys) h = both (eqb x y) (eqb→eq x y) (same-eq xs ys) h
  where
    both : (b : Bool) → (T b → x ≡ y) → (T (same xs ys) → xs ≡ ys) → T (cond b (same xs ys) false) → x ∷ xs ≡ y ∷ ys
    both true e r h = let p = e tt in let q = r h in cc
    both false e r h = absurd h

-- an entry of a name has its tag
abbrev tag_right : Entry → Bool
tag_right (entry u (Named n)) = same u (text_of n)
tag_right (entry u Reserved) = true
tag_right (entry u Free) = true

tags-right : T (octets.all_pass tag_right tags)
tags-right = tt

named-entry : (u t : List ℕ) (n : Name) (k : Kind) → T (tag_right (entry u k)) → t ≡ u → k ≡ Named n → t ≡ text_of n
named-entry u t n (Named m) h e q = let d : m ≡ n = cc in e ∙ same-eq u (text_of m) h ∙ ap text_of d
named-entry u t n Reserved h e q = cc
named-entry u t n Free h e q = cc

kind-in : (l : List Entry) (t : List ℕ) (n : Name) → T (octets.all_pass tag_right l) → kind_in l t ≡ Named n → t ≡ text_of n
kind-in [] t n h e = cc
kind-in (entry u k ∷ r) t n h e =
    by (same t u) (same-eq t u) (and_left (tag_right (entry u k)) (octets.all_pass tag_right r) h) (kind-in r t n (and_right (tag_right (entry u k)) (octets.all_pass tag_right r) h)) e
  where
    by : (b : Bool) → (T b → t ≡ u) → T (tag_right (entry u k)) → (kind_in r t ≡ Named n → t ≡ text_of n) → cond b k (kind_in r t) ≡ Named n → t ≡ text_of n
    by true f h ih e = named-entry u t n k h (f tt) e
    by false f h ih e = ih e

-- a text of a name is that name's tag
pub tag-named : (t : List ℕ) (n : Name) → kind_in tags t ≡ Named n → t ≡ text_of n
tag-named t n e = kind-in tags t n tags-right e

-- a segment of a name is its elements behind that name's tag
pub kind-named : (g : Segment) (n : Name) → segment_kind g ≡ Named n → g ≡ seg n (elements_of g)
kind-named (segment a b c es) n e = ap (λ (t : List ℕ). with_tag t es) (kind-in tags (a ∷ b ∷ c ∷ []) n tags-right e)

-- ---- what is placed is shown last: where a part may grow to r, it then shows one segment more

pub data Adds {A : Type 0} (show : A → Snoc Segment) (s : Snoc Segment) (g : Segment) : Option A → Type 0 where
  nothing : Adds show s g none
  adds : {a : A} → show a ≡ s ▷ g → Adds show s g (some a)

-- a part stands behind p in the whole
inside : {A B : Type 0} {f : A → Snoc Segment} {e : B → Snoc Segment} {g : Segment} {s : Snoc Segment} {r : Option A} (w : A → B) (p : Snoc Segment)
    → ((a : A) → e (w a) ≡ p +++ f a) → Adds f s g r → Adds e (p +++ s) g (map w r)
inside w p h nothing = nothing
inside w p h (adds {a = a} q) = adds (h a ∙ ap (λ (t : Snoc Segment). p +++ t) q)

module _ {g : Segment} where
  in-open : {f : Open → Option Open} → ((o : Open) → Adds show_open (show_open o) g (f o)) → (x : Reading) → Adds shown (shown x) g (in_open f x)
  in-open h start = nothing
  in-open h (idle u ms) = nothing
  in-open h (busy u ms o) = inside (busy u ms) _ (λ o. refl) (h o)
  in-open h (done u ms z) = nothing

  in-headers : {f : Snoc Header → Option (Snoc Header)} → ((hs : Snoc Header) → Adds (joined show_header) (joined show_header hs) g (f hs))
      → (o : Open) → Adds show_open (show_open o) g (in_headers f o)
  in-headers h (msg c hs (plain nil) nil) = inside _ (nil ▷ seg Unh c) (λ k. refl) (h hs)
  in-headers h (msg c hs (plain (b ▷ i)) nil) = nothing
  in-headers h (msg c hs (ack u ls) nil) = nothing
  in-headers h (msg c hs b (ts ▷ t)) = nothing

  in-body : {f : Body → Option Body} → ((b : Body) → Adds show_body (show_body b) g (f b)) → (o : Open) → Adds show_open (show_open o) g (in_body f o)
  in-body h (msg c hs b nil) = inside _ _ (λ k. refl) (h b)
  in-body h (msg c hs b (ts ▷ t)) = nothing

  last_one : {A : Type 0} {show : A → Snoc Segment} {f : A → Option A} → ((a : A) → Adds show (show a) g (f a))
      → (s : Snoc A) → Adds (joined show) (joined show s) g (lastly f s)
  last_one h nil = nothing
  last_one {show = show} h (s ▷ a) = inside _ (joined show s) (λ b. refl) (h a)

usa-c : (g : Leaf) (x : Certificate) → Adds show_certificate (show_certificate x) (seg Usa g) (usa_c g x)
usa-c g (certificate c us none) = adds refl
usa-c g (certificate c us (some r)) = nothing

usr-c : (g : Leaf) (x : Certificate) → Adds show_certificate (show_certificate x) (seg Usr g) (usr_c g x)
usr-c g (certificate c us none) = adds refl
usr-c g (certificate c us (some r)) = nothing

usa-h : (g : Leaf) (x : Header) → Adds show_header (show_header x) (seg Usa g) (usa_h g x)
usa-h g (header c us nil) = adds refl
usa-h g (header c us (cs ▷ x)) = inside (header c us) _ (λ k. refl) (last_one (usa-c g) (cs ▷ x))

usr-h : (g : Leaf) (x : Header) → Adds show_header (show_header x) (seg Usr g) (usr_h g x)
usr-h g (header c us cs) = inside (header c us) _ (λ k. refl) (last_one (usr-c g) cs)

usc-h : (g : Leaf) (x : Header) → Adds show_header (show_header x) (seg Usc g) (usc_h g x)
usc-h g (header c us cs) = adds refl

usr-t : (g : Leaf) (x : Trailer) → Adds show_trailer (show_trailer x) (seg Usr g) (usr_t g x)
usr-t g (trailer c none) = adds refl
usr-t g (trailer c (some r)) = nothing

usy-l : (g : Leaf) (x : Link) → Adds show_link (show_link x) (seg Usy g) (usy_l g x)
usy-l g (link c ys) = adds refl

usr-o : (g : Leaf) (o : Open) → Adds show_open (show_open o) (seg Usr g) (usr_o g o)
usr-o g (msg h hs b nil) = in-headers (last_one (usr-h g)) (msg h hs b nil)
usr-o g (msg h hs b (ts ▷ t)) = inside (msg h hs b) _ (λ k. refl) (last_one (usr-t g) (ts ▷ t))

ust-o : (g : Leaf) (o : Open) → Adds show_open (show_open o) (seg Ust g) (ust_o g o)
ust-o g (msg h hs b ts) = adds refl

usb-b : (g : Leaf) (b : Body) → Adds show_body (show_body b) (seg Usb g) (usb_b g b)
usb-b g (plain nil) = adds refl
usb-b g (plain (b ▷ i)) = nothing
usb-b g (ack c ls) = nothing

usx-b : (g : Leaf) (b : Body) → Adds show_body (show_body b) (seg Usx g) (usx_b g b)
usx-b g (plain b) = nothing
usx-b g (ack c ls) = adds refl

usy-b : (g : Leaf) (b : Body) → Adds show_body (show_body b) (seg Usy g) (usy_b g b)
usy-b g (plain b) = nothing
usy-b g (ack c ls) = inside (ack c) (nil ▷ seg Usb c) (λ k. refl) (last_one (usy-l g) ls)

item-b : (g : Segment) (b : Body) → Adds show_body (show_body b) g (item_b g b)
item-b g (plain b) = adds refl
item-b g (ack c ls) = nothing

pub regroup : {A : Type 0} (a b c : Snoc A) → a +++ (b +++ c) ≡ a +++ b +++ c
regroup a b nil = refl
regroup a b (c ▷ x) = ap (λ (s : Snoc _). s ▷ x) (regroup a b c)

begun-x : (g : Leaf) (x : Reading) → Adds shown (shown x) (seg Unb g) (begun g x)
begun-x g start = adds refl
begun-x g (idle u ms) = nothing
begun-x g (busy u ms o) = nothing
begun-x g (done u ms z) = nothing

opened-x : (g : Leaf) (x : Reading) → Adds shown (shown x) (seg Unh g) (opened g x)
opened-x g start = nothing
opened-x g (idle u ms) = adds refl
opened-x g (busy u ms o) = nothing
opened-x g (done u ms z) = nothing

closed-x : (g : Leaf) (x : Reading) → Adds shown (shown x) (seg Unt g) (closed g x)
closed-x g start = nothing
closed-x g (idle u ms) = nothing
closed-x g (busy u ms o) = adds (ap (λ (s : Snoc Segment). s ▷ seg Unt g) (regroup _ (joined show_message ms) (show_open o)))
closed-x g (done u ms z) = nothing

ended-x : (g : Leaf) (x : Reading) → Adds shown (shown x) (seg Unz g) (ended g x)
ended-x g start = nothing
ended-x g (idle u ms) = adds refl
ended-x g (busy u ms o) = nothing
ended-x g (done u ms z) = nothing

placed-named : (n : Name) (g : Leaf) (x : Reading) → Adds shown (shown x) (seg n g) (grow_named n g x)
placed-named Unb g x = begun-x g x
placed-named Unh g x = opened-x g x
placed-named Ush g x = in-open (in-headers (λ hs. adds refl)) x
placed-named Usa g x = in-open (in-headers (last_one (usa-h g))) x
placed-named Usc g x = in-open (in-headers (last_one (usc-h g))) x
placed-named Usr g x = in-open (usr-o g) x
placed-named Ust g x = in-open (ust-o g) x
placed-named Usb g x = in-open (in-body (usb-b g)) x
placed-named Usx g x = in-open (in-body (usx-b g)) x
placed-named Usy g x = in-open (in-body (usy-b g)) x
placed-named Unt g x = closed-x g x
placed-named Unz g x = ended-x g x

placed-as : (k : Kind) (g : Segment) (x : Reading) → segment_kind g ≡ k → Adds shown (shown x) g (grow k g x)
placed-as (Named n) g x e =
    subst (λ (f : Segment). Adds shown (shown x) f (grow_named n (elements_of g) x)) (sym (kind-named g n e)) (placed-named n (elements_of g) x)
placed-as Reserved g x e = nothing
placed-as Free g x e = in-open (in-body (item-b g)) x

adds-eq : {s : Snoc Segment} {g : Segment} {r : Option Reading} {z : Reading} → Adds shown s g r → r ≡ some z → shown z ≡ s ▷ g
adds-eq nothing e = cc
adds-eq {z = z} (adds {a = a} q) e = let h : a ≡ z = cc in rw h at q

-- a segment that is placed is shown last
pub shows : (x : Reading) (g : Segment) {z : Reading} → place x g ≡ some z → shown z ≡ shown x ▷ g
shows x g e = adds-eq (placed-as (segment_kind g) g x refl) e

-- ---- the last segment taken off again

pub data Back : Reading → Type 0 where
  first : Back start
  from : {z : Reading} (x : Reading) (g : Segment) → place x g ≡ some z → Back z

-- a body's segment that is the last may stand in a body
abbrev pub LastFree : Reading → Type 0
LastFree start = Unit {0}
LastFree (idle u ms) = Unit {0}
LastFree (busy u ms (msg h hs (plain nil) nil)) = Unit {0}
LastFree (busy u ms (msg h hs (plain (b ▷ i)) nil)) = T (is_free (segment_kind i))
LastFree (busy u ms (msg h hs (ack c ls) nil)) = Unit {0}
LastFree (busy u ms (msg h hs b (ts ▷ t))) = Unit {0}
LastFree (done u ms z) = Unit {0}

-- .. as 7 demands
pub last-free : (z : Reading) → holds (order z) → LastFree z
last-free start o = tt
last-free (idle u ms) o = tt
last-free (busy u ms (msg h hs (plain nil) nil)) o = tt
last-free (busy u ms (msg h hs (plain (b ▷ i)) nil)) o = o.1.1.1.0.1.1
last-free (busy u ms (msg h hs (ack c ls) nil)) o = tt
last-free (busy u ms (msg h hs b (ts ▷ t))) o = tt
last-free (done u ms z) o = tt

free-kind : (k : Kind) → T (is_free k) → k ≡ Free
free-kind (Named n) h = absurd h
free-kind Reserved h = absurd h
free-kind Free h = refl

-- a segment that may stand in a body is put last in it
pub placed-item : (u : Leaf) (ms : Snoc Message) (h : Leaf) (hs : Snoc Header) (b : Snoc Segment) (i : Segment) → T (is_free (segment_kind i))
    → place (busy u ms (msg h hs (plain b) nil)) i ≡ some (busy u ms (msg h hs (plain (b ▷ i)) nil))
placed-item u ms h hs b i f = ap (λ (k : Kind). grow k i (busy u ms (msg h hs (plain b) nil))) (free-kind (segment_kind i) f)

-- each reading but the first is what placing its last segment gives
abbrev pub back : (z : Reading) → LastFree z → Back z
back start f = first
back (idle u nil) f = from start (seg Unb u) refl
back (idle u (ms ▷ message o t)) f = from (busy u ms o) (seg Unt t) refl
back (done u ms z) f = from (idle u ms) (seg Unz z) refl
back (busy u ms (msg h nil (plain nil) nil)) f = from (idle u ms) (seg Unh h) refl
back (busy u ms (msg h (hs ▷ header c nil nil) (plain nil) nil)) f = from (busy u ms (msg h hs (plain nil) nil)) (seg Ush c) refl
back (busy u ms (msg h (hs ▷ header c (us ▷ a) nil) (plain nil) nil)) f = from (busy u ms (msg h (hs ▷ header c us nil) (plain nil) nil)) (seg Usa a) refl
back (busy u ms (msg h (hs ▷ header c us (cs ▷ certificate d nil none)) (plain nil) nil)) f = from (busy u ms (msg h (hs ▷ header c us cs) (plain nil) nil)) (seg Usc d) refl
back (busy u ms (msg h (hs ▷ header c us (cs ▷ certificate d (vs ▷ a) none)) (plain nil) nil)) f = from (busy u ms (msg h (hs ▷ header c us (cs ▷ certificate d vs none)) (plain nil) nil)) (seg Usa a) refl
back (busy u ms (msg h (hs ▷ header c us (cs ▷ certificate d vs (some r))) (plain nil) nil)) f = from (busy u ms (msg h (hs ▷ header c us (cs ▷ certificate d vs none)) (plain nil) nil)) (seg Usr r) refl
back (busy u ms (msg h hs (plain (b ▷ i)) nil)) f = from (busy u ms (msg h hs (plain b) nil)) i (placed-item u ms h hs b i f)
back (busy u ms (msg h hs (ack c nil) nil)) f = from (busy u ms (msg h hs (plain nil) nil)) (seg Usb c) refl
back (busy u ms (msg h hs (ack c (ls ▷ link x nil)) nil)) f = from (busy u ms (msg h hs (ack c ls) nil)) (seg Usx x) refl
back (busy u ms (msg h hs (ack c (ls ▷ link x (ys ▷ y))) nil)) f = from (busy u ms (msg h hs (ack c (ls ▷ link x ys)) nil)) (seg Usy y) refl
back (busy u ms (msg h hs b (ts ▷ trailer t none))) f = from (busy u ms (msg h hs b ts)) (seg Ust t) refl
back (busy u ms (msg h hs b (ts ▷ trailer t (some r)))) f = from (busy u ms (msg h hs b (ts ▷ trailer t none))) (seg Usr r) refl

-- ---- each rule holds before, where it holds after

abbrev pub Before : {z : Reading} → (Reading → Rule) → Back z → Type 0
Before R first = Unit {0}
Before R (from x g q) = holds (R x)

fewer : (k n : ℕ) → T (leb (suc k) n) → T (leb k n)
fewer k n h = le→leb k n (omega (arith, leb→le (suc k) n h))

plain_of : (a : Bool) (hs : Snoc Header) (b : Snoc Segment) → T (not a) → holds (every ok_item b) → holds (ok_body a hs (plain b))
plain_of a hs nil h k = tt
plain_of a hs (b ▷ i) h k = (h, k)

trail-of : (a : Bool) (b : Body) (ts : Snoc Trailer) → holds (whole a b) → holds (ok_trailers a b ts)
trail-of a b nil h = tt
trail-of a b (ts ▷ t) h = h

-- 7 is kept when the last segment is taken off
pub shut-order : (z : Reading) (f : LastFree z) → holds (order z) → Before order (back z f)
shut-order start f o = tt
shut-order (idle u nil) f o = tt
shut-order (idle u (ms ▷ message (msg h hs b ts) t)) f o = (o.0, o.1.0)
shut-order (done u ms z) f o = o.0
shut-order (busy u ms (msg h nil (plain nil) nil)) f o = o.0
shut-order (busy u ms (msg h (hs ▷ header d nil nil) (plain nil) nil)) f o = (o.0, (fewer (size hs) 9 o.1.0, (o.1.1.0.0, (tt, (tt, every-before (certified (subset h)) hs o.1.1.1.1.1)))))
shut-order (busy u ms (msg h (hs ▷ header d (us ▷ a) nil) (plain nil) nil)) f o = (o.0, (o.1.0, ((o.1.1.0.0, (fewer (size us) 3 o.1.1.0.1.0, o.1.1.0.1.1)), o.1.1.1)))
shut-order (busy u ms (msg h (hs ▷ header d us (cs ▷ certificate e nil none)) (plain nil) nil)) f o = (o.0, (o.1.0, ((o.1.1.0.0, (o.1.1.0.1.0, (fewer (size cs) 2 o.1.1.0.1.1.0, o.1.1.0.1.1.1.0))), o.1.1.1)))
shut-order (busy u ms (msg h (hs ▷ header d us (cs ▷ certificate e (vs ▷ a) none)) (plain nil) nil)) f o = (o.0, (o.1.0, ((o.1.1.0.0, (o.1.1.0.1.0, (o.1.1.0.1.1.0, (o.1.1.0.1.1.1.0, fewer (size vs) 3 o.1.1.0.1.1.1.1)))), o.1.1.1)))
shut-order (busy u ms (msg h (hs ▷ header d us (cs ▷ certificate e vs (some a))) (plain nil) nil)) f o = o
shut-order (busy u ms (msg h hs (plain (b ▷ i)) nil)) f o = (o.0, (o.1.0, (o.1.1.0, (plain_of (autack h) hs b o.1.1.1.0.0 o.1.1.1.0.1.0, o.1.1.1.1))))
shut-order (busy u ms (msg h hs (ack d nil) nil)) f o = (o.0, (o.1.0, (o.1.1.0, (tt, (tt, every-before (certified (subset h)) hs o.1.1.1.1.1)))))
shut-order (busy u ms (msg h hs (ack d (ls ▷ link x nil)) nil)) f o = (o.0, (o.1.0, (o.1.1.0, ((o.1.1.1.0.0, (o.1.1.1.0.1.0, every-before filled ls o.1.1.1.0.1.1)), o.1.1.1.1))))
shut-order (busy u ms (msg h hs (ack d (ls ▷ link x (ys ▷ y))) nil)) f o = o
shut-order (busy u ms (msg h hs b (ts ▷ trailer t none))) f o = (o.0, (o.1.0, (o.1.1.0, (o.1.1.1.0, (trail-of (autack h) b ts o.1.1.1.1.0, o.1.1.1.1.1)))))
shut-order (busy u ms (msg h hs b (ts ▷ trailer t (some a)))) f o = o

-- 8, of a message's subset, is kept when the last segment is taken off
pub shut-subsets : (z : Reading) (f : LastFree z) → holds (subsets z) → Before subsets (back z f)
shut-subsets start f s = tt
shut-subsets (idle u nil) f s = tt
shut-subsets (idle u (ms ▷ message (msg h hs b ts) t)) f s = s
shut-subsets (done u ms z) f s = s
shut-subsets (busy u ms (msg h nil (plain nil) nil)) f s = s.0
shut-subsets (busy u ms (msg h (hs ▷ header d nil nil) (plain nil) nil)) f s = (s.0, (s.1.0.0, s.1.1))
shut-subsets (busy u ms (msg h (hs ▷ header d (us ▷ a) nil) (plain nil) nil)) f s = s
shut-subsets (busy u ms (msg h (hs ▷ header d us (cs ▷ certificate e nil none)) (plain nil) nil)) f s = (s.0, ((s.1.0.0, s.1.0.1.0), s.1.1))
shut-subsets (busy u ms (msg h (hs ▷ header d us (cs ▷ certificate e (vs ▷ a) none)) (plain nil) nil)) f s = s
shut-subsets (busy u ms (msg h (hs ▷ header d us (cs ▷ certificate e vs (some a))) (plain nil) nil)) f s = s
shut-subsets (busy u ms (msg h hs (plain (b ▷ i)) nil)) f s = s
shut-subsets (busy u ms (msg h hs (ack d nil) nil)) f s = (s.0, (s.1.0, tt))
shut-subsets (busy u ms (msg h hs (ack d (ls ▷ link x nil)) nil)) f s = (s.0, (s.1.0, (s.1.1.0, s.1.1.1.0)))
shut-subsets (busy u ms (msg h hs (ack d (ls ▷ link x (ys ▷ y))) nil)) f s = s
shut-subsets (busy u ms (msg h hs b (ts ▷ trailer t none))) f s = s
shut-subsets (busy u ms (msg h hs b (ts ▷ trailer t (some a)))) f s = s

-- 9 is kept when the last segment is taken off
pub shut-refs : (z : Reading) (f : LastFree z) → holds (refs z) → Before refs (back z f)
shut-refs start f r = tt
shut-refs (idle u nil) f r = tt
shut-refs (idle u (ms ▷ message (msg h hs b ts) t)) f r = (r.0, (r.1.0, r.1.1.0))
shut-refs (done u ms z) f r = (r.0, r.1.0)
shut-refs (busy u ms (msg h nil (plain nil) nil)) f r = (r.0.0, r.1.0)
shut-refs (busy u ms (msg h (hs ▷ header d nil nil) (plain nil) nil)) f r = (r.0, (r.1.0, (r.1.1.0.0, r.1.1.1)))
shut-refs (busy u ms (msg h (hs ▷ header d (us ▷ a) nil) (plain nil) nil)) f r = r
shut-refs (busy u ms (msg h (hs ▷ header d us (cs ▷ certificate e nil none)) (plain nil) nil)) f r = r
shut-refs (busy u ms (msg h (hs ▷ header d us (cs ▷ certificate e (vs ▷ a) none)) (plain nil) nil)) f r = r
shut-refs (busy u ms (msg h (hs ▷ header d us (cs ▷ certificate e vs (some a))) (plain nil) nil)) f r = r
shut-refs (busy u ms (msg h hs (plain (b ▷ i)) nil)) f r = r
shut-refs (busy u ms (msg h hs (ack d nil) nil)) f r = r
shut-refs (busy u ms (msg h hs (ack d (ls ▷ link x nil)) nil)) f r = r
shut-refs (busy u ms (msg h hs (ack d (ls ▷ link x (ys ▷ y))) nil)) f r = (r.0, (r.1.0, (r.1.1.0, (r.1.1.1.0.0, r.1.1.1.1))))
shut-refs (busy u ms (msg h hs b (ts ▷ trailer t none))) f r = (r.0, (r.1.0, (r.1.1.0, (r.1.1.1.0, (r.1.1.1.1.0.0, r.1.1.1.1.1.0)))))
shut-refs (busy u ms (msg h hs b (ts ▷ trailer t (some a)))) f r = r

-- 10 is kept when the last segment is taken off
pub shut-counts : (v : Version) (z : Reading) (f : LastFree z) → holds (counts v z) → Before (counts v) (back z f)
shut-counts v start f c = tt
shut-counts v (idle u nil) f c = tt
shut-counts v (idle u (ms ▷ message (msg h hs b ts) t)) f c = c.0
shut-counts v (done u ms z) f c = c.0
shut-counts v (busy u ms (msg h nil (plain nil) nil)) f c = c
shut-counts v (busy u ms (msg h (hs ▷ header d nil nil) (plain nil) nil)) f c = c
shut-counts v (busy u ms (msg h (hs ▷ header d (us ▷ a) nil) (plain nil) nil)) f c = c
shut-counts v (busy u ms (msg h (hs ▷ header d us (cs ▷ certificate e nil none)) (plain nil) nil)) f c = c
shut-counts v (busy u ms (msg h (hs ▷ header d us (cs ▷ certificate e (vs ▷ a) none)) (plain nil) nil)) f c = c
shut-counts v (busy u ms (msg h (hs ▷ header d us (cs ▷ certificate e vs (some a))) (plain nil) nil)) f c = c
shut-counts v (busy u ms (msg h hs (plain (b ▷ i)) nil)) f c = c
shut-counts v (busy u ms (msg h hs (ack d nil) nil)) f c = c
shut-counts v (busy u ms (msg h hs (ack d (ls ▷ link x nil)) nil)) f c = c
shut-counts v (busy u ms (msg h hs (ack d (ls ▷ link x (ys ▷ y))) nil)) f c = c
shut-counts v (busy u ms (msg h hs b (ts ▷ trailer t none))) f c = c
shut-counts v (busy u ms (msg h hs b (ts ▷ trailer t (some a)))) f c = c

-- 11 is kept when the last segment is taken off
pub shut-scopes : (z : Reading) (f : LastFree z) → holds (scopes z) → Before scopes (back z f)
shut-scopes start f s = tt
shut-scopes (idle u nil) f s = tt
shut-scopes (idle u (ms ▷ message (msg h hs b ts) t)) f s = s
shut-scopes (done u ms z) f s = s
shut-scopes (busy u ms (msg h nil (plain nil) nil)) f s = s.0
shut-scopes (busy u ms (msg h (hs ▷ header d nil nil) (plain nil) nil)) f s = (s.0, s.1.0)
shut-scopes (busy u ms (msg h (hs ▷ header d (us ▷ a) nil) (plain nil) nil)) f s = s
shut-scopes (busy u ms (msg h (hs ▷ header d us (cs ▷ certificate e nil none)) (plain nil) nil)) f s = s
shut-scopes (busy u ms (msg h (hs ▷ header d us (cs ▷ certificate e (vs ▷ a) none)) (plain nil) nil)) f s = s
shut-scopes (busy u ms (msg h (hs ▷ header d us (cs ▷ certificate e vs (some a))) (plain nil) nil)) f s = s
shut-scopes (busy u ms (msg h hs (plain (b ▷ i)) nil)) f s = s
shut-scopes (busy u ms (msg h hs (ack d nil) nil)) f s = s
shut-scopes (busy u ms (msg h hs (ack d (ls ▷ link x nil)) nil)) f s = s
shut-scopes (busy u ms (msg h hs (ack d (ls ▷ link x (ys ▷ y))) nil)) f s = s
shut-scopes (busy u ms (msg h hs b (ts ▷ trailer t none))) f s = s
shut-scopes (busy u ms (msg h hs b (ts ▷ trailer t (some a)))) f s = s

-- a rule on the segments one by one (3, 8, 12) is kept when the last is taken off
pub shut-each : (p : Segment → Rule) (z : Reading) (f : LastFree z) → holds (every p (shown z)) → Before (λ (x : Reading). every p (shown x)) (back z f)
shut-each p z f h = off (back z f) h
  where
    off : {z : Reading} (b : Back z) → holds (every p (shown z)) → Before (λ (x : Reading). every p (shown x)) b
    off first h = tt
    off (from x g q) h = (rw (shows x g q) at h).0
