-- What the code reads of the seal is what the definitions say.
use Rattle.std.specs.Prelude.{ℕ, ◌+◌, ◌-◌, ◌≤◌, ◌<◌, ◌≡◌, refl, List, [], Bool, true, false, cond, T, length, Option, Some, None}
use Rattle.std.proofs.Common.{arith, ap, ◌∙◌, sym, subst}
use Rattle.std.proofs.Math.Option.{Option as Maybe, none, some}
use Rattle.std.proofs.Math.Seq.{slice, slice_empty}
use Rattle.syntax.specs.Refusals.{at_zero}
use Rattle.syntax.specs.Content.{content, compared}
use Rattle.syntax.specs.Service.{fit}
use Rattle.syntax.specs.Cutting.{end_at}
use Rattle.syntax.specs.Segment.{component_at, part_of}
use Rattle.syntax.specs.Tree.{Segment, print_s}
use Rattle.syntax.specs.declared.Service.{Service}
use Rattle.syntax.specs.declared.Syntax.{Syntax}
use Rattle.syntax.specs.declared.Refusal.{Refusal}
use Rattle.grammar.specs.Lists.{Snoc, nil, ◌▷◌, ◌+++◌, list}
use Rattle.syntax.specs.declared.Version.{Version}
use Rattle.grammar.specs.Segments.{Ush, Ust, Usr, Usy, seg, value_part, Asked}
use Rattle.grammar.specs.Interchange.{Leaf, Header, header, Trailer, trailer, show_header, show_trailer, show_option, show_body}
use Rattle.grammar.specs.Valid.{Interchange}
use Rattle.grammar.specs.Verdict.{accepted, refused_with, verdict_of}
use Rattle.grammar.specs.Places.{wide}
use Rattle.walk.specs.Layout.{heads_at, tail_at}
use Rattle.walk.specs.RunLaws.{long-print}
use Rattle.walk.specs.declared.sections.Layout.{Layout}
use Rattle.writing.specs.Written.{no_text, Writes}
use Rattle.values.specs.Filters.{value_by, or_bad}
use Rattle.groups.specs.Stand.{Row, Stand}
use Rattle.groups.specs.StandLaws.{stand-front, stand-back, stand-agrees, stand-asked}
use Rattle.groups.specs.Groups.{Chosen, chosen, sought_in, range_of}
use Rattle.groups.specs.GroupsLaws.{header-stands}
use Rattle.groups.specs.Parts.{header_named, trailer_named, header_at, trailer_at, body_in}
use Rattle.groups.specs.PartsLaws.{call-refused, call-missing, call-holds, header-found, trailer-found, header-there, trailer-there, body-row, body-tied}
use Rattle.groups.specs.Links.{link_from}
use Rattle.groups.specs.LinksLaws.{tie_there, tie_none}
use Rattle.groups.specs.Calls.{Holds, message_in, version_in}
use Rattle.groups.specs.CallsLaws.{version-so}
use Rattle.groups.specs.declared.named.Range.{Range}
use Rattle.groups.specs.declared.links.Places.{Places}
use Rattle.values.specs.Values.{filter_h, usr_text, behind, trailer_text, usy_text, link_text, value_text, or_no_header, value_in, value_at, answered, value_of}
use Rattle.writing.specs.WrittenLaws.{writes_as}

-- the octets of no part have no content
pub no-content : (ρ : ℕ) (s : List ℕ) {z : List ℕ} → z ≡ slice 0 0 s → content ρ z ≡ []
no-content ρ s e = ap (content ρ) (e ∙ slice_empty 0 s)

-- ---- the USR behind a UST

module _ (v : Version) (σ : Service) (f : T (fit σ)) (s : List ℕ) (p q : ℕ) (c : Leaf) where
  ust-end : {e next : ℕ} {r : Option ℕ} → Stand σ s p (nil ▷ seg Ust c) → r ≡ end_at σ s p → r ≡ Some e → next ≡ e + 1 → next ≡ p + length (print_s σ (seg Ust c))
  ust-end {e} {next} w a b n =
      let k : Some e ≡ Some (p + (length (print_s σ (seg Ust c)) - 1)) = sym b ∙ a ∙ (stand-agrees σ s p f (seg Ust c) w).end in
      let j : e ≡ p + (length (print_s σ (seg Ust c)) - 1) = cc in
      omega (arith, j, n, long-print σ (seg Ust c))

  one-behind : (gs : Snoc Segment) → Stand σ s p (nil ▷ seg Ust c +++ gs) → Stand σ s (p + length (print_s σ (seg Ust c))) gs
  one-behind gs w =
      let e : p + wide σ (nil ▷ seg Ust c) ≡ p + length (print_s σ (seg Ust c)) = omega arith in
      subst (λ (i : ℕ). Stand σ s i gs) e (stand-back σ s p (nil ▷ seg Ust c) gs w)

  -- octets are left behind the UST: a USR stands there
  pub usr-there : {e next j : ℕ} {r : Option ℕ} {z : List ℕ} (o : Maybe Leaf) → Stand σ s p (show_trailer (trailer c o)) → q ≡ p + wide σ (show_trailer (trailer c o))
      → r ≡ end_at σ s p → r ≡ Some e → next ≡ e + 1 → next < q → j ≡ value_part v → z ≡ part_of s (component_at σ s next 1 j) → content σ.release z ≡ usr_text v o
  usr-there {next = next} none w k a b n l i d = absurd (omega (arith, k, l, ust-end w a b n))
  usr-there {next = next} (some u) w k a b n l i d =
      let m = ust-end (stand-front σ s p (nil ▷ seg Ust c) (nil ▷ seg Usr u) w) a b n in
      let w' = subst (λ (i : ℕ). Stand σ s i (nil ▷ seg Usr u)) (sym m) (one-behind (nil ▷ seg Usr u) w) in
      ap (content σ.release) (d ∙ ap (λ (j : ℕ). part_of s (component_at σ s next 1 j)) i) ∙ ap (λ (x : Asked). x.text 1 (value_part v)) (stand-asked σ s next f (seg Usr u) w')

  pub usr-none : {e next : ℕ} {r : Option ℕ} {z : List ℕ} (o : Maybe Leaf) → Stand σ s p (show_trailer (trailer c o)) → q ≡ p + wide σ (show_trailer (trailer c o))
      → r ≡ end_at σ s p → r ≡ Some e → next ≡ e + 1 → q ≤ next → z ≡ slice 0 0 s → content σ.release z ≡ usr_text v o
  usr-none none w k a b n l d = no-content σ.release s d
  usr-none (some u) w k a b n l d =
      absurd (omega (arith, k, l, ust-end (stand-front σ s p (nil ▷ seg Ust c) (nil ▷ seg Usr u) w) a b n, long-print σ (seg Usr u)))

  -- a UST has an end
  pub usr-open : {r : Option ℕ} (z : List ℕ) (o : Maybe Leaf) → Stand σ s p (show_trailer (trailer c o)) → r ≡ end_at σ s p → r ≡ None → content σ.release z ≡ usr_text v o
  usr-open z o w a b =
      let k : None ≡ Some (p + (length (print_s σ (seg Ust c)) - 1)) = sym b ∙ a ∙ (stand-agrees σ s p f (seg Ust c) (stand-front σ s p (nil ▷ seg Ust c) (show_option (seg Usr) o) w)).end in
      let z' : ◌≡◌ {A = ℕ} 0 1 = cc in
      absurd (omega arith)

-- ---- the text of the value

module _ {s m : List ℕ} {y : Syntax} {c : Layout} {rows : List ℕ} (h : Holds s m y c rows) (r : List ℕ) where
  pub trailer-none : {x : Option Range} {z : List ℕ} → x ≡ sought_in y.service s rows 9 1 (compared r) c.trailers c.unt → x ≡ None → z ≡ slice 0 0 s
      → content y.service.release z ≡ trailer_text y.version h.o r
  trailer-none {x} {z} e d k = no-content y.service.release s k ∙ by (trailer_named h.o r) (sym d ∙ e ∙ trailer-found h r)
    where
      by : (o : Maybe (Chosen Trailer)) → None ≡ range_of show_trailer y.service (tail_at y.service h.q h.o) o → [] ≡ behind y.version o
      by none q = refl
      by (some (chosen ts x)) q = let z : ◌≡◌ {A = ℕ} 0 1 = cc in absurd (omega arith)

  pub trailer-at : {x : Option Range} {g : Range} (z : List ℕ) → x ≡ sought_in y.service s rows 9 1 (compared r) c.trailers c.unt → x ≡ Some g
      → ((l : Leaf) (o : Maybe Leaf) → Stand y.service s g.start (show_trailer (trailer l o)) → g.end ≡ g.start + wide y.service (show_trailer (trailer l o)) → content y.service.release z ≡ usr_text y.version o)
      → content y.service.release z ≡ trailer_text y.version h.o r
  trailer-at {x} {g} z e d k = by (trailer_named h.o r) (λ ts x q. trailer-there h r q) (sym d ∙ e ∙ trailer-found h r)
    where
      by : (o : Maybe (Chosen Trailer)) → ((ts : Snoc Trailer) (x : Trailer) → o ≡ some (chosen ts x) → Stand y.service s (trailer_at y.service h.q h.o (chosen ts x)) (show_trailer x))
          → Some g ≡ range_of show_trailer y.service (tail_at y.service h.q h.o) o → content y.service.release z ≡ behind y.version o
      by none f q = let z : ◌≡◌ {A = ℕ} 0 1 = cc in absurd (omega arith)
      by (some (chosen ts (trailer l u))) f q =
          let a : g.start ≡ trailer_at y.service h.q h.o (chosen ts (trailer l u)) = cc in
          let b : g.end ≡ trailer_at y.service h.q h.o (chosen ts (trailer l u)) + wide y.service (show_trailer (trailer l u)) = cc in
          k l u (subst (λ (i : ℕ). Stand y.service s i (show_trailer (trailer l u))) (sym a) (f ts (trailer l u) refl))
          (b ∙ ap (λ (i : ℕ). i + wide y.service (show_trailer (trailer l u))) (sym a))

  module _ {l : Option Places} (k : (gs : List Segment) → Row y.service s c.body gs c.tail → l ≡ link_from y.service c.body c.body gs (compared r)) where
    pub link-none : {z : List ℕ} → l ≡ None → z ≡ slice 0 0 s → content y.service.release z ≡ link_text y.version (body_in h.o) r
    link-none q d =
        no-content y.service.release s d ∙ sym (ap (usy_text y.version) (tie_none (body-tied h r) (sym q ∙ k (list (show_body (body_in h.o))) (body-row h r))))

    pub link_at : {x : Places} {j : ℕ} {z : List ℕ} → l ≡ Some x → j ≡ value_part y.version → z ≡ part_of s (component_at y.service s x.usy 2 j) → content y.service.release z ≡ link_text y.version (body_in h.o) r
    link_at {x} q i d =
        let t = tie_there x (body-tied h r) (sym q ∙ k (list (show_body (body_in h.o))) (body-row h r)) in
        ap (content y.service.release) (d ∙ ap (λ (j : ℕ). part_of s (component_at y.service s x.usy 2 j)) i) ∙ ap (λ (v : Asked). v.text 2 (value_part y.version)) (stand-asked y.service s x.usy h.fits (seg Usy t.y) t.usy)
        ∙ sym (ap (usy_text y.version) t.tied)

  pub text-linked : (z : List ℕ) → c.autack ≡ true → content y.service.release z ≡ link_text y.version (body_in h.o) r → content y.service.release z ≡ value_text y.version h.o r
  text-linked z e d = d ∙ sym (ap (λ (b : Bool). cond b (link_text y.version (body_in h.o) r) (trailer_text y.version h.o r)) (sym h.laid.autack ∙ e))

  pub text-trailed : (z : List ℕ) → c.autack ≡ false → content y.service.release z ≡ trailer_text y.version h.o r → content y.service.release z ≡ value_text y.version h.o r
  text-trailed z e d = d ∙ sym (ap (λ (b : Bool). cond b (link_text y.version (body_in h.o) r) (trailer_text y.version h.o r)) (sym h.laid.autack ∙ e))

-- ---- the call

module _ {s m : List ℕ} {y : Syntax} {c : Layout} {rows : List ℕ} (h : Holds s m y c rows) (r : List ℕ) {x : Option Range}
    (e : x ≡ sought_in y.service s rows 0 2 (compared r) c.headers c.body) where
  pub value-headless : {out left : List ℕ} {a : _} → x ≡ None → Writes (no_text (at_zero 13)) out a left → Writes (value_in y.version h.o r) out a left
  value-headless d w = writes_as (by (header_named h.o r) (sym d ∙ e ∙ header-found h r)) w
    where
      by : (o : Maybe (Chosen Header)) → None ≡ range_of show_header y.service (heads_at y.service h.q h.o) o → no_text (at_zero 13) ≡ or_no_header y.version o (value_text y.version h.o r)
      by none q = refl
      by (some (chosen hs x)) q = let z : ◌≡◌ {A = ℕ} 0 1 = cc in absurd (omega arith)

  pub value-header : {g : Range} (t k : List ℕ) {out left : List ℕ} {a : _} → x ≡ Some g → content y.service.release t ≡ value_text y.version h.o r
      → k ≡ part_of s (component_at y.service s g.start 5 0) → Writes (or_bad (value_by y.version (content y.service.release k) (content y.service.release t))) out a left → Writes (value_in y.version h.o r) out a left
  value-header {g} t k d f n w =
      writes_as
      (ap (λ (v : List ℕ). or_bad (value_by y.version (content y.service.release k) v)) f ∙ by (header_named h.o r) (λ hs x q. header-there h r q) (sym d ∙ e ∙ header-found h r)) w
    where
      by : (o : Maybe (Chosen Header)) → ((hs : Snoc Header) (x : Header) → o ≡ some (chosen hs x) → Stand y.service s (header_at y.service h.q h.o (chosen hs x)) (show_header x))
          → Some g ≡ range_of show_header y.service (heads_at y.service h.q h.o) o → or_bad (value_by y.version (content y.service.release k) (value_text y.version h.o r)) ≡ or_no_header y.version o (value_text y.version h.o r)
      by none j q = let z : ◌≡◌ {A = ℕ} 0 1 = cc in absurd (omega arith)
      by (some (chosen hs (header u us cs))) j q =
          let a : g.start ≡ header_at y.service h.q h.o (chosen hs (header u us cs)) = cc in
          let v : Stand y.service s g.start (show_header (header u us cs)) = subst (λ (i : ℕ). Stand y.service s i (show_header (header u us cs))) (sym a) (j hs (header u us cs) refl) in
          let l : content y.service.release k ≡ filter_h (header u us cs) =
          ap (content y.service.release) n
          ∙ ap (λ (b : Asked). b.text 5 0) (stand-asked y.service s g.start h.fits (seg Ush u) (header-stands y.service h.fits s g.start (header u us cs) v u us cs refl)) in
          ap (λ (b : List ℕ). or_bad (value_by y.version b (value_text y.version h.o r))) l

module _ (s m r : List ℕ) {out left : List ℕ} {a : _} where
  pub value-holds : {y : Syntax} {c : Layout} {rows : List ℕ} (h : Holds s m y c rows) → Writes (value_in y.version h.o r) out a left → Writes (value_of s m r) out a left
  value-holds h w = writes_as (ap (λ (v : Version). value_in v h.o r) (sym (version-so h)) ∙ sym (ap answered (call-holds s m (λ i p. some (value_at (version_in i) p r)) h))) w

  pub value-missing : (i : Interchange) × ((verdict_of s ≡ accepted i) × (message_in i m ≡ none)) → Writes (no_text (at_zero 13)) out a left → Writes (value_of s m r) out a left
  value-missing k w = writes_as (sym (ap answered (call-missing s m (λ i p. some (value_at (version_in i) p r)) k))) w

  pub value-refused : {f : Refusal} → verdict_of s ≡ refused_with f → Writes (no_text f) out a left → Writes (value_of s m r) out a left
  value-refused e w = writes_as (sym (ap answered (call-refused s m (λ i p. some (value_at (version_in i) p r)) e))) w
