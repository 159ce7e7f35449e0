-- How many octets segments take; and that a segment that is placed goes where `Places` says, and nowhere else.
use Rattle.std.specs.Prelude.{ℕ, ◌+◌, List, [], ◌∷◌, ◌++◌, ◌≡◌, refl, T, length}
use Rattle.std.proofs.Common.{arith, ap, ◌∙◌, sym, subst, length-append}
use Rattle.std.proofs.Math.Option.{Option, none, some, none-ne-some}
use Rattle.syntax.specs.Tree.{Segment, print_s, print}
use Rattle.syntax.proofs.TreeLaws.{print-cons}
use Rattle.syntax.specs.declared.Service.{Service}
use Rattle.grammar.specs.Lists.{Snoc, nil, ◌▷◌, map, ◌+++◌, list}
use Rattle.grammar.specs.Segments.{Name, Unb, Unh, Unt, Unz, Ush, Usa, Usc, Usr, Ust, Usb, Usx, Usy, Kind, Named, Reserved, Free, elements_of, segment_kind, seg}
use Rattle.grammar.specs.Interchange.{Leaf, certificate, Header, header, trailer, link, Body, plain, ack, Open, msg, Message, Reading, start, idle, busy, done, show_header, show_body}
use Rattle.grammar.specs.Placing.{usa_h, usc_h, usr_h, lastly, in_headers, in_body, usb_b, usx_b, usy_b, item_b, usr_o, ust_o, in_open, grow_named, grow, place}
use Rattle.grammar.proofs.PlacingLaws.{kind-named}
use Rattle.grammar.specs.Places.{wide}
use Rattle.grammar.specs.Going.{more, begun_b, Where, Goes, leads, Grown, Closed, Opened, Begun, Ended, opens_header, in_header, in_items, opens_trailer, in_trailer, begins, opens, goes_on, closes, ends}

-- ---- the octets that segments take

module _ (σ : Service) where
  pub wide-join : (a b : Snoc Segment) → wide σ (a +++ b) ≡ wide σ a + wide σ b
  wide-join a nil = omega arith
  wide-join a (b ▷ g) = omega (arith, wide-join a b)

  -- one segment more
  pub wide-more : (a b : Snoc Segment) (g : Segment) → b ≡ a ▷ g → wide σ b ≡ wide σ a + length (print_s σ g)
  wide-more a b g e = ap (wide σ) e

  print-last : (l : List Segment) (g : Segment) → length (print σ (l ++ g ∷ [])) ≡ length (print σ l) + length (print_s σ g)
  print-last [] g = ap length (print-cons σ g []) ∙ length-append (print_s σ g) [] ∙ omega arith
  print-last (f ∷ l) g =
      omega
      (arith, print-last l g, ap length (print-cons σ f (l ++ g ∷ [])) ∙ length-append (print_s σ f) (print σ (l ++ g ∷ [])), ap length (print-cons σ f l) ∙ length-append (print_s σ f) (print σ l))

  -- they are printed in as many octets
  pub wide-list : (gs : Snoc Segment) → wide σ gs ≡ length (print σ (list gs))
  wide-list nil = refl
  wide-list (gs ▷ g) = ap (λ (n : ℕ). n + length (print_s σ g)) (wide-list gs) ∙ sym (print-last (list gs) g)

-- ---- where a segment goes, part by part: r is what the part may grow to

data HeaderGrows (g : Segment) (x : Header) : Option Header → Type 0 where
  nothing : HeaderGrows g x none
  grows : {z : Header} → show_header z ≡ show_header x ▷ g → T (more z) → HeaderGrows g x (some z)

data BodyGrows (g : Segment) (b : Body) : Option Body → Type 0 where
  nothing : BodyGrows g b none
  grows : {d : Body} → show_body d ≡ show_body b ▷ g → T (begun_b d) → BodyGrows g b (some d)

data OpenGrows (g : Segment) (o : Open) : Option Open → Type 0 where
  nothing : OpenGrows g o none
  grows : {p : Open} → Where g o p → OpenGrows g o (some p)

data MayGo (g : Segment) (x : Reading) : Option Reading → Type 0 where
  nothing : MayGo g x none
  goes : {z : Reading} → Goes g x z → MayGo g x (some z)

usa-h : (g : Leaf) (x : Header) → HeaderGrows (seg Usa g) x (usa_h g x)
usa-h g (header c us nil) = grows refl tt
usa-h g (header c us (cs ▷ certificate d vs none)) = grows refl tt
usa-h g (header c us (cs ▷ certificate d vs (some r))) = nothing

usc-h : (g : Leaf) (x : Header) → HeaderGrows (seg Usc g) x (usc_h g x)
usc-h g (header c us cs) = grows refl tt

usr-h : (g : Leaf) (x : Header) → HeaderGrows (seg Usr g) x (usr_h g x)
usr-h g (header c us nil) = nothing
usr-h g (header c us (cs ▷ certificate d vs none)) = grows refl tt
usr-h g (header c us (cs ▷ certificate d vs (some r))) = nothing

usb-b : (g : Leaf) (b : Body) → BodyGrows (seg Usb g) b (usb_b g b)
usb-b g (plain nil) = grows refl tt
usb-b g (plain (b ▷ i)) = nothing
usb-b g (ack c ls) = nothing

usx-b : (g : Leaf) (b : Body) → BodyGrows (seg Usx g) b (usx_b g b)
usx-b g (plain b) = nothing
usx-b g (ack c ls) = grows refl tt

usy-b : (g : Leaf) (b : Body) → BodyGrows (seg Usy g) b (usy_b g b)
usy-b g (plain b) = nothing
usy-b g (ack c nil) = nothing
usy-b g (ack c (ls ▷ link x ys)) = grows refl tt

item-b : (g : Segment) (b : Body) → BodyGrows g b (item_b g b)
item-b g (plain b) = grows refl tt
item-b g (ack c ls) = nothing

module _ {g : Segment} where
  last-header : {x : Header} {r : Option Header} (h : Leaf) (hs : Snoc Header) → HeaderGrows g x r
      → OpenGrows g (msg h (hs ▷ x) (plain nil) nil) (map (λ (k : Snoc Header). msg h k (plain nil) nil) (map (λ (z : Header). hs ▷ z) r))
  last-header h hs nothing = nothing
  last-header h hs (grows e t) = grows (in_header e t)

  in-headers : {f : Header → Option Header} → ((x : Header) → HeaderGrows g x (f x)) → (o : Open) → OpenGrows g o (in_headers (lastly f) o)
  in-headers k (msg h nil (plain nil) nil) = nothing
  in-headers k (msg h (hs ▷ x) (plain nil) nil) = last-header h hs (k x)
  in-headers k (msg h hs (plain (b ▷ i)) nil) = nothing
  in-headers k (msg h hs (ack c ls) nil) = nothing
  in-headers k (msg h hs b (ts ▷ t)) = nothing

  the-body : {b : Body} {r : Option Body} (h : Leaf) (hs : Snoc Header) → BodyGrows g b r
      → OpenGrows g (msg h hs b nil) (map (λ (k : Body). msg h hs k nil) r)
  the-body h hs nothing = nothing
  the-body h hs (grows e t) = grows (in_items e t)

  in-body : {f : Body → Option Body} → ((b : Body) → BodyGrows g b (f b)) → (o : Open) → OpenGrows g o (in_body f o)
  in-body k (msg h hs b nil) = the-body h hs (k b)
  in-body k (msg h hs b (ts ▷ t)) = nothing

  the_open : {o : Open} {r : Option Open} (u : Leaf) (ms : Snoc Message) → OpenGrows g o r → MayGo g (busy u ms o) (map (busy u ms) r)
  the_open u ms nothing = nothing
  the_open u ms (grows w) = goes (goes_on w)

  in-open : {f : Open → Option Open} → ((o : Open) → OpenGrows g o (f o)) → (x : Reading) → MayGo g x (in_open f x)
  in-open k start = nothing
  in-open k (idle u ms) = nothing
  in-open k (busy u ms o) = the_open u ms (k o)
  in-open k (done u ms z) = nothing

ush-o : (g : Leaf) (o : Open) → OpenGrows (seg Ush g) o (in_headers (λ (hs : Snoc Header). some (hs ▷ header g nil nil)) o)
ush-o g (msg h hs (plain nil) nil) = grows (opens_header g refl)
ush-o g (msg h hs (plain (b ▷ i)) nil) = nothing
ush-o g (msg h hs (ack c ls) nil) = nothing
ush-o g (msg h hs b (ts ▷ t)) = nothing

usr-o : (g : Leaf) (o : Open) → OpenGrows (seg Usr g) o (usr_o g o)
usr-o g (msg h hs b nil) = in-headers (usr-h g) (msg h hs b nil)
usr-o g (msg h hs b (ts ▷ trailer c none)) = grows (in_trailer c g refl)
usr-o g (msg h hs b (ts ▷ trailer c (some r))) = nothing

ust-o : (g : Leaf) (o : Open) → OpenGrows (seg Ust g) o (ust_o g o)
ust-o g (msg h hs b ts) = grows (opens_trailer g refl)

-- ---- by name, and by kind

named-goes : (n : Name) (g : Leaf) (x : Reading) → MayGo (seg n g) x (grow_named n g x)
named-goes Unb g start = goes (begins refl)
named-goes Unb g (idle u ms) = nothing
named-goes Unb g (busy u ms o) = nothing
named-goes Unb g (done u ms z) = nothing
named-goes Unh g start = nothing
named-goes Unh g (idle u ms) = goes (opens refl)
named-goes Unh g (busy u ms o) = nothing
named-goes Unh g (done u ms z) = nothing
named-goes Unt g start = nothing
named-goes Unt g (idle u ms) = nothing
named-goes Unt g (busy u ms o) = goes (closes refl)
named-goes Unt g (done u ms z) = nothing
named-goes Unz g start = nothing
named-goes Unz g (idle u ms) = goes (ends refl)
named-goes Unz g (busy u ms o) = nothing
named-goes Unz g (done u ms z) = nothing
named-goes Ush g x = in-open (ush-o g) x
named-goes Usa g x = in-open (in-headers (usa-h g)) x
named-goes Usc g x = in-open (in-headers (usc-h g)) x
named-goes Usr g x = in-open (usr-o g) x
named-goes Ust g x = in-open (ust-o g) x
named-goes Usb g x = in-open (in-body (usb-b g)) x
named-goes Usx g x = in-open (in-body (usx-b g)) x
named-goes Usy g x = in-open (in-body (usy-b g)) x

kind-goes : (k : Kind) (g : Segment) (x : Reading) → segment_kind g ≡ k → MayGo g x (grow k g x)
kind-goes (Named n) g x e = subst (λ (f : Segment). MayGo f x (grow_named n (elements_of g) x)) (sym (kind-named g n e)) (named-goes n (elements_of g) x)
kind-goes Reserved g x e = nothing
kind-goes Free g x e = in-open (in-body (item-b g)) x

goes_to : {g : Segment} {x : Reading} {r : Option Reading} {z : Reading} → MayGo g x r → r ≡ some z → Goes g x z
goes_to nothing e = absurd (none-ne-some _ e)
goes_to {z = z} (goes {z = w} k) e = let h : w ≡ z = cc in rw h at k

-- a segment that is placed goes one of these ways, and no other
pub goes-placed : (x : Reading) (g : Segment) {z : Reading} → place x g ≡ some z → Goes g x z
goes-placed x g e = goes_to (kind-goes (segment_kind g) g x refl) e

module _ {g : Segment} where
  leads_goes : {x z : Reading} → Goes g x z → T (leads x z)
  leads_goes (begins e) = tt
  leads_goes (opens e) = tt
  leads_goes (goes_on w) = tt
  leads_goes (closes e) = tt
  leads_goes (ends e) = tt

  begun-goes : {z : Reading} → Goes g start z → Begun g z
  begun-goes (begins e) = record { fresh = refl; unb = e }

  opened-goes : {u v : Leaf} {ms ns : Snoc Message} {o : Open} → Goes g (idle u ms) (busy v ns o) → Opened g u ms v ns o
  opened-goes (opens e) = record { unb = refl; messages = refl; fresh = refl; unh = e }

  grown-goes : {u v : Leaf} {ms ns : Snoc Message} {o p : Open} → Goes g (busy u ms o) (busy v ns p) → Grown g u ms o v ns p
  grown-goes (goes_on w) = record { unb = refl; messages = refl; goes = w }

  closed-goes : {u v : Leaf} {ms ns : Snoc Message} {o : Open} → Goes g (busy u ms o) (idle v ns) → Closed g u ms o v ns
  closed-goes (closes e) = record { unb = refl; messages = refl; unt = e }

  ended-goes : {u v : Leaf} {ms ns : Snoc Message} {z : Leaf} → Goes g (idle u ms) (done v ns z) → Ended g u ms v ns z
  ended-goes (ends e) = record { unb = refl; messages = refl; last = refl; unz = e }

-- so from nothing only UNB leads on, from between messages only UNH and UNZ, from an open message only UNT and what goes into it, and from the whole nothing
pub leads-placed : (x : Reading) (g : Segment) {z : Reading} → place x g ≡ some z → T (leads x z)
leads-placed x g e = leads_goes (goes-placed x g e)

pub begin-placed : (g : Segment) {z : Reading} → place start g ≡ some z → Begun g z
begin-placed g e = begun-goes (goes-placed start g e)

module _ {u v : Leaf} {ms ns : Snoc Message} (g : Segment) where
  pub open-placed : {o : Open} → place (idle u ms) g ≡ some (busy v ns o) → Opened g u ms v ns o
  open-placed e = opened-goes (goes-placed (idle u ms) g e)

  pub where-placed : {o p : Open} → place (busy u ms o) g ≡ some (busy v ns p) → Grown g u ms o v ns p
  where-placed {o} e = grown-goes (goes-placed (busy u ms o) g e)

  pub close-placed : {o : Open} → place (busy u ms o) g ≡ some (idle v ns) → Closed g u ms o v ns
  close-placed {o} e = closed-goes (goes-placed (busy u ms o) g e)

  pub end-placed : {z : Leaf} → place (idle u ms) g ≡ some (done v ns z) → Ended g u ms v ns z
  end-placed e = ended-goes (goes-placed (idle u ms) g e)
