-- What the code finds in the AUTACK is what the definitions say that it refers to; and what follows for the calls on two interchanges.
use Rattle.std.specs.Prelude.{ℕ, ◌≡◌, refl, List, Bool, false, Option, Result, Some, None, Ok, Err}
use Rattle.std.proofs.Common.{arith, ap, ◌∙◌, sym, subst}
use Rattle.std.proofs.Math.Option.{Option as Maybe, none, some}
use Rattle.std.proofs.Math.Seq.{slice}
use Rattle.syntax.specs.Octets.{same}
use Rattle.syntax.specs.Content.{content, compared}
use Rattle.syntax.specs.Opening.{begun_of}
use Rattle.syntax.specs.Segment.{component_at, part_of}
use Rattle.syntax.specs.Tree.{Segment}
use Rattle.syntax.specs.declared.Service.{Service}
use Rattle.syntax.specs.declared.Syntax.{Syntax}
use Rattle.syntax.specs.declared.Refusal.{Refusal}
use Rattle.syntax.specs.declared.opening.Start.{Start}
use Rattle.grammar.specs.Lists.{nil, ◌▷◌, joined, list}
use Rattle.grammar.specs.Segments.{Unb, Unz, Usx, seg, Asked, usx0020, usx0062_text}
use Rattle.grammar.specs.Interchange.{Header, idle, shown, show_header, show_message, show_body}
use Rattle.grammar.specs.Valid.{Interchange, interchange}
use Rattle.grammar.specs.Verdict.{Verdict, accepted, verdict_of}
use Rattle.grammar.specs.Named.{Placed}
use Rattle.walk.specs.Layout.{heads_at}
use Rattle.walk.specs.declared.sections.Layout.{Layout}
use Rattle.groups.specs.Stand.{Row}
use Rattle.groups.specs.StandLaws.{stand-front, stand-asked}
use Rattle.groups.specs.Groups.{Chosen, chosen, name_at, ref_name_at, range_of}
use Rattle.groups.specs.Parts.{body_in}
use Rattle.groups.specs.PartsLaws.{body-row, body-tied}
use Rattle.groups.specs.Links.{Tie, tie_in, link_from}
use Rattle.groups.specs.LinksLaws.{tie_there, tie_none}
use Rattle.groups.specs.Calls.{answered_by, then, message_in, Holds}
use Rattle.groups.specs.CallsLaws.{begins, none-some}
use Rattle.groups.specs.declared.links.Places.{Places}
use Rattle.groups.specs.declared.named.Range.{Range}
use Rattle.ranges.specs.Ranges.{Run, header_in}
use Rattle.ranges.specs.RangesLaws.{header-scoped}
use Rattle.ranges.specs.Told.{run_as, header_found}
use Rattle.f01.specs.Targets.{Target, target, target_of, target_at, target_in, has_reference, across_by, across_of}
use Rattle.f01.specs.Referring.{target_from, referred_in, Refers, is_referred}
use Rattle.f01.specs.declared.Referred.{Referred}

-- ---- the USX's 0020 and 0062

-- read off the component's octets
module _ (σ : Service) (s : List ℕ) (usx e : ℕ) where
  pub element-there : (a z : ℕ) {p : Option (ℕ × ℕ)} → p ≡ component_at σ s usx e 0 → p ≡ Some (a, z) → content σ.release (slice a z s) ≡ name_at σ s usx e
  element-there a z q d = ap (λ (p : Option (ℕ × ℕ)). content σ.release (part_of s p)) (sym d ∙ q)

  pub element-absent : {p : Option (ℕ × ℕ)} → p ≡ component_at σ s usx e 0 → p ≡ None → content σ.release (slice 0 0 s) ≡ name_at σ s usx e
  element-absent q d = ap (λ (p : Option (ℕ × ℕ)). content σ.release (part_of s p)) (sym d ∙ q)

pub both-there : {a b k l : List ℕ} → a ≡ k → b ≡ l → some (target a b) ≡ some (target k l)
both-there {a} {b} {k} {l} e d = ap (λ (v : List ℕ). some (target v b)) e ∙ ap (λ (v : List ℕ). some (target k v)) d

-- ---- what the AUTACK refers to

refers-some : (code a m r : List ℕ) (t : Target) (i : Interchange) (x : Result (Option Referred) Refusal) → verdict_of a ≡ accepted i → target_in code i m r ≡ some t → referred_in a x ≡ some t
    → Refers code a m r x
refers-some code a m r t i (Ok (Some x)) v e d = (i, (v, e ∙ sym d))
refers-some code a m r t i (Ok None) v e d = none-some d
refers-some code a m r t i (Err f) v e d = none-some d

module _ {s m : List ℕ} {y : Syntax} {c : Layout} {rows : List ℕ} (h : Holds s m y c rows) (code r : List ℕ) where
  -- what is referred to, by the header and the link of the message
  by_parts : target_in code h.i m r ≡ then (header_in code h.o r) (λ k. then (tie_in (body_in h.o) r) (λ t. some (target_of t)))
  by_parts = ap (λ (o : Maybe Placed). then o (λ p. target_at code p r)) h.named

  header-some : {a : Range} → Some a ≡ header_found y.service s c rows code r → (k : Chosen Header) × (header_in code h.o r ≡ some k)
  header-some {a} e = by (header_in code h.o r) (e ∙ header-scoped h r code)
    where
      by : (k : Maybe (Chosen Header)) → Some a ≡ range_of show_header y.service (heads_at y.service h.q h.o) k → (z : Chosen Header) × (k ≡ some z)
      by none e = let z : ◌≡◌ {A = ℕ} 0 1 = cc in absurd (omega arith)
      by (some z) e = (z, refl)

  header-none : None ≡ header_found y.service s c rows code r → header_in code h.o r ≡ none
  header-none e = by (header_in code h.o r) (e ∙ header-scoped h r code)
    where
      by : (k : Maybe (Chosen Header)) → None ≡ range_of show_header y.service (heads_at y.service h.q h.o) k → k ≡ none
      by none e = refl
      by (some (chosen hs z)) e = let z : ◌≡◌ {A = ℕ} 0 1 = cc in absurd (omega arith)

  pub refers-headless : {x : Option Range} → x ≡ header_found y.service s c rows code r → x ≡ None → Refers code s m r (Ok None)
  refers-headless e d =
      (h.i, (h.read, by_parts ∙ ap (λ (o : Maybe (Chosen Header)). then o (λ k. then (tie_in (body_in h.o) r) (λ t. some (target_of t)))) (header-none (sym d ∙ e))))

  module _ {x : Option Range} {a : Range} (e : x ≡ header_found y.service s c rows code r) (d : x ≡ Some a)
      {l : Option Places} (k : (gs : List Segment) → Row y.service s c.body gs c.tail → l ≡ link_from y.service c.body c.body gs (compared r)) where
    by-link : target_in code h.i m r ≡ then (tie_in (body_in h.o) r) (λ t. some (target_of t))
    by-link = by_parts ∙ ap (λ (o : Maybe (Chosen Header)). then o (λ k. then (tie_in (body_in h.o) r) (λ t. some (target_of t)))) (header-some (sym d ∙ e)).1

    pub refers-unlinked : l ≡ None → Refers code s m r (Ok None)
    refers-unlinked q =
        let t : tie_in (body_in h.o) r ≡ none = tie_none (body-tied h r) (sym q ∙ k (list (show_body (body_in h.o))) (body-row h r)) in
        (h.i, (h.read, by-link ∙ ap (λ (o : Maybe Tie). then o (λ t. some (target_of t))) t))

    pub refers-linked : {z : Places} (w : Result (Option Referred) Refusal) → l ≡ Some z → referred_in s w ≡ some (target (ref_name_at y.service s z.usx 1) (name_at y.service s z.usx 7))
        → Refers code s m r w
    refers-linked {z} w q f =
        let t = tie_there z (body-tied h r) (sym q ∙ k (list (show_body (body_in h.o))) (body-row h r)) in
        let v = stand-asked y.service s z.usx h.fits (seg Usx t.x) t.usx in
        let n : ref_name_at y.service s z.usx 1 ≡ usx0020 t.x = ap (λ (v : Asked). compared (v.text 1 0)) v in
        let u : name_at y.service s z.usx 7 ≡ usx0062_text t.x = ap (λ (v : Asked). v.text 7 0) v in
        refers-some code s m r (target (usx0020 t.x) (usx0062_text t.x)) h.i w h.read (by-link ∙ ap (λ (o : Maybe Tie). then o (λ t. some (target_of t))) t.tied)
        (f ∙ both-there n u)

pub refers-missing : (code s m r : List ℕ) → (i : Interchange) × ((verdict_of s ≡ accepted i) × (message_in i m ≡ none)) → Refers code s m r (Ok None)
refers-missing code s m r k = (k.0, (k.1.0, ap (λ (o : Maybe Placed). then o (λ p. target_at code p r)) k.1.1))

-- ---- whether the 0020 is that one

module _ (a t : List ℕ) {w : Result (Option Referred) Refusal} where
  pub referred-at : {x : Referred} {b : Bool} (o p : List ℕ) (ρ : ℕ) → w ≡ Ok (Some x) → compared (content ρ o) ≡ t → p ≡ slice x.interchange.start x.interchange.end a
      → b ≡ same (compared (content ρ o)) (compared (content x.release p)) → b ≡ is_referred (referred_in a w) t
  referred-at {x} {b} o p ρ e f g d =
      d ∙ ap (λ (l : List ℕ). same l (compared (content x.release p))) f ∙ ap (λ (l : List ℕ). same t (compared (content x.release l))) g
      ∙ sym (ap (λ (w : Result (Option Referred) Refusal). is_referred (referred_in a w) t) e)

  pub referred-missing : w ≡ (Ok None) → false ≡ is_referred (referred_in a w) t
  referred-missing e = sym (ap (λ (w : Result (Option Referred) Refusal). is_referred (referred_in a w) t) e)

  pub referred-refused : {f : Refusal} → w ≡ Err f → false ≡ is_referred (referred_in a w) t
  referred-refused e = sym (ap (λ (w : Result (Option Referred) Refusal). is_referred (referred_in a w) t) e)

-- UNB's 0020 is what stands in the octets
pub reference-so : (s : List ℕ) (i : Interchange) (x : Start) → begun_of s ≡ Ok x → verdict_of s ≡ accepted i → (k : List ℕ)
    → has_reference i k ≡ same (ref_name_at x.syntax.service s x.at 5) k
reference-so s (interchange n u ms z) x e v k =
    let b = begins s (interchange n u ms z) x e v in
    let f = stand-front x.syntax.service s x.at (nil ▷ seg Unb u) (joined show_message ms) (stand-front x.syntax.service s x.at (shown (idle u ms)) (nil ▷ seg Unz z) b.stands) in
    sym (ap (λ (q : Asked). same (compared (q.text 5 0)) k) (stand-asked x.syntax.service s x.at b.fits (seg Unb u) f))

-- ---- the call: the AUTACK's interchange, then the other

module _ (code : List ℕ) (give : Interchange → Target → Maybe Run) (a s m r : List ℕ) {w : Result (Option Referred) Refusal} (k : Refers code a m r w) where
  pub across-refused : {f : Refusal} → w ≡ Err f → Err f ≡ run_as (across_of code give a s m r)
  across-refused {f} e = sym (ap (λ (v : Verdict). run_as (across_by code give v s m r)) (subst (Refers code a m r) e k))

  pub across-at : {x : Referred} {n : Result Range Refusal} → w ≡ Ok (Some x) → n ≡ run_as (answered_by (verdict_of s) (λ i. give i (target_from a x))) → n ≡ run_as (across_of code give a s m r)
  across-at {x} e d =
      let q : (i : Interchange) × ((verdict_of a ≡ accepted i) × (target_in code i m r ≡ referred_in a (Ok (Some x)))) = subst (Refers code a m r) e k in
      d ∙ sym (ap (λ (v : Verdict). run_as (across_by code give v s m r)) q.1.0 ∙ ap (λ (o : Maybe Target). run_as (answered_by (verdict_of s) (λ i. then o (give i)))) q.1.1)

  pub across-missing : {n : Result Range Refusal} → w ≡ (Ok None) → n ≡ run_as (answered_by (verdict_of s) (λ i. none)) → n ≡ run_as (across_of code give a s m r)
  across-missing e d =
      let q : (i : Interchange) × ((verdict_of a ≡ accepted i) × (target_in code i m r ≡ none)) = subst (Refers code a m r) e k in
      d ∙ sym (ap (λ (v : Verdict). run_as (across_by code give v s m r)) q.1.0 ∙ ap (λ (o : Maybe Target). run_as (answered_by (verdict_of s) (λ i. then o (give i)))) q.1.1)

  -- the AUTACK's interchange is read, whether or not it refers to something
  pub across-read : {o : Option Referred} {n : Result Range Refusal} → w ≡ Ok o → n ≡ run_as (answered_by (verdict_of s) (λ i. then (referred_in a (Ok o)) (give i))) → n ≡ run_as (across_of code give a s m r)
  across-read {o} {n} e d = by o (subst (Refers code a m r) e k) d
    where
      by : (o : Option Referred) → Refers code a m r (Ok o) → n ≡ run_as (answered_by (verdict_of s) (λ i. then (referred_in a (Ok o)) (give i))) → n ≡ run_as (across_of code give a s m r)
      by (Some x) q d = d ∙ sym (ap (λ (v : Verdict). run_as (across_by code give v s m r)) q.1.0 ∙ ap (λ (o : Maybe Target). run_as (answered_by (verdict_of s) (λ i. then o (give i)))) q.1.1)
      by None q d = d ∙ sym (ap (λ (v : Verdict). run_as (across_by code give v s m r)) q.1.0 ∙ ap (λ (o : Maybe Target). run_as (answered_by (verdict_of s) (λ i. then o (give i)))) q.1.1)
