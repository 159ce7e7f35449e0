-- What the code reads of the header, and what it makes of a range, is what the definitions say.
use Rattle.std.specs.Prelude.{ℕ, ◌+◌, ◌-◌, ◌≤◌, ◌<◌, ◌≡◌, refl, List, [], ◌∷◌, ◌++◌, Bool, true, false, not, ◌&&◌, T, length, Option, Result, Some, None, Ok, Err}
use Rattle.std.proofs.Common.{arith, ap, ◌∙◌, sym, subst, length-append, length-drop}
use Rattle.std.proofs.Math.Option.{Option as Maybe, none, some}
use Rattle.std.proofs.Math.Seq.{slice}
use Rattle.syntax.specs.Octets.{octets, same}
use Rattle.syntax.specs.Content.{content, compared}
use Rattle.syntax.specs.Service.{fit}
use Rattle.syntax.specs.Cutting.{end_at}
use Rattle.syntax.specs.Refusals.{at_zero}
use Rattle.syntax.specs.Segment.{pieces_at, at_element, component_at, part_of, repeats}
use Rattle.syntax.specs.Tree.{Segment, print, print_s}
use Rattle.syntax.proofs.TreeLaws.{print-cons}
use Rattle.syntax.specs.declared.Refusal.{Refusal}
use Rattle.syntax.specs.declared.Service.{Service}
use Rattle.syntax.specs.declared.Syntax.{Syntax}
use Rattle.grammar.specs.Lists.{Snoc, nil, ◌▷◌, ◌+++◌, each, joined, list}
use Rattle.grammar.specs.Segments.{Ush, Usa, Usc, Usr, seg}
use Rattle.grammar.specs.Interchange.{Leaf, Certificate, certificate, Header, header, message, show_option, show_certificate, show_header}
use Rattle.grammar.specs.Valid.{Interchange}
use Rattle.grammar.specs.Verdict.{Verdict, accepted, refused_with, verdict_of}
use Rattle.grammar.specs.Places.{wide}
use Rattle.grammar.specs.Named.{placed}
use Rattle.elements.specs.Octets.{asked_at}
use Rattle.message.specs.Summary.{or_else}
use Rattle.walk.specs.Layout.{heads_at}
use Rattle.walk.specs.RunLaws.{long-print}
use Rattle.walk.specs.declared.sections.Layout.{Layout}
use Rattle.groups.specs.Stand.{Row, Stand}
use Rattle.groups.specs.StandLaws.{list-join, stand-agrees, stand-row, row-asked, row-rest}
use Rattle.groups.specs.Groups.{Chosen, chosen, sought_in, range_of}
use Rattle.groups.specs.GroupsLaws.{header-stands}
use Rattle.groups.specs.Parts.{header_named, header_at}
use Rattle.groups.specs.PartsLaws.{call-refused, call-missing, call-holds, header-found, header-there}
use Rattle.groups.specs.Calls.{Answered, given, refused_as, answered_by, or_missing, then, Holds, message_in}
use Rattle.groups.specs.CallsLaws.{read_short}
use Rattle.groups.specs.declared.named.Range.{Range}
use Rattle.ranges.specs.Ranges.{Parts, parts, Run, run, scope1_in, scope1_of, scope2_in, scope2_of}
use Rattle.ranges.specs.Told.{parts_as, run_as}
use Rattle.ranges.specs.declared.scopes.Parts.{Parts as Parted}
use Rattle.f01.specs.Targets.{Target, target_in, across_by, across_of}
use Rattle.sha.specs.Sha.{sha1}
use Rattle.digest.specs.Digests.{names_sha, first_of, first_usa, usa_at, named_by, named_in, parts_octets, run_octets, digested, digest1_of, digest_as, digest_numbers, told_digest}

-- ---- a USA that names SHA-1

module _ (σ : Service) (s : List ℕ) (a : ℕ) {b : Bool} (e : b ≡ same (slice a (a + 3) s) (octets "USA")) where
  pub names-other : b ≡ false → false ≡ names_sha (asked_at σ s a)
  names-other d = sym (ap (λ (v : Bool). v && (not (repeats (at_element 1 (pieces_at σ s a))) && same (content σ.release (part_of s (component_at σ s a 1 3))) (octets "16"))) (sym e ∙ d))

  module _ (d : b ≡ true) {p : Bool} (f : p ≡ repeats (at_element 1 (pieces_at σ s a))) where
    pub names-repeated : p ≡ true → false ≡ names_sha (asked_at σ s a)
    names-repeated g = rw (← e, d, ← f, g)

    pub names-code : {r : Bool} {x : List ℕ} → p ≡ false → x ≡ part_of s (component_at σ s a 1 3) → r ≡ same (content σ.release x) (octets "16") → r ≡ names_sha (asked_at σ s a)
    names-code g h k = k ∙ ap (λ (v : List ℕ). same (content σ.release v) (octets "16")) h ∙ rw (← e, d, ← f, g)

pub was_false : (b : Bool) → not b ≡ true → b ≡ false
was_false true e = sym e
was_false false e = refl

pub was_true : (b : Bool) → not b ≡ false → b ≡ true
was_true true e = refl
was_true false e = sym e

-- ---- what stands behind a USH in its group: a USA, a USC, or nothing

pub data Behind (us : Snoc Leaf) (gs : List Segment) : Type 0 where
  a_usa : (u : Leaf) (hs : List Segment) → first_of us ≡ some u → gs ≡ seg Usa u ∷ hs → Behind us gs
  a_usc : (c : Leaf) (hs : List Segment) → first_of us ≡ none → gs ≡ seg Usc c ∷ hs → Behind us gs
  bare : first_of us ≡ none → gs ≡ [] → Behind us gs

-- the first of some USAs; the first USC of some certificates
data First (us : Snoc Leaf) : Type 0 where
  there : (u : Leaf) (hs : List Segment) → first_of us ≡ some u → list (each (seg Usa) us) ≡ seg Usa u ∷ hs → First us
  nowhere : first_of us ≡ none → list (each (seg Usa) us) ≡ [] → First us

first-of : (us : Snoc Leaf) → First us
first-of nil = nowhere refl refl
first-of (us ▷ u) = by (first-of us)
  where
    by : First us → First (us ▷ u)
    by (nowhere e d) = there u [] (ap (λ (o : Maybe Leaf). or_else o (some u)) e) (ap (λ (l : List Segment). l ++ seg Usa u ∷ []) d)
    by (there v hs e d) = there v (hs ++ seg Usa u ∷ []) (ap (λ (o : Maybe Leaf). or_else o (some u)) e) (ap (λ (l : List Segment). l ++ seg Usa u ∷ []) d)

data Certified (cs : Snoc Certificate) : Type 0 where
  usc : (c : Leaf) (hs : List Segment) → list (joined show_certificate cs) ≡ seg Usc c ∷ hs → Certified cs
  none-there : list (joined show_certificate cs) ≡ [] → Certified cs

certificate-list : (c : Leaf) (us : Snoc Leaf) (r : Maybe Leaf) → list (show_certificate (certificate c us r)) ≡ seg Usc c ∷ (list (each (seg Usa) us) ++ list (show_option (seg Usr) r))
certificate-list c us r =
    list-join (nil ▷ seg Usc c +++ each (seg Usa) us) (show_option (seg Usr) r) ∙ ap (λ (l : List Segment). l ++ list (show_option (seg Usr) r)) (list-join (nil ▷ seg Usc c) (each (seg Usa) us))

certified : (cs : Snoc Certificate) → Certified cs
certified nil = none-there refl
certified (cs ▷ certificate c us r) = by (certified cs)
  where
    by : Certified cs → Certified (cs ▷ certificate c us r)
    by (none-there e) = usc c (list (each (seg Usa) us) ++ list (show_option (seg Usr) r))
        (list-join (joined show_certificate cs) (show_certificate (certificate c us r)) ∙ ap (λ (l : List Segment). l ++ list (show_certificate (certificate c us r))) e ∙ certificate-list c us r)
    by (usc d hs e) = usc d (hs ++ list (show_certificate (certificate c us r)))
        (list-join (joined show_certificate cs) (show_certificate (certificate c us r)) ∙ ap (λ (l : List Segment). l ++ list (show_certificate (certificate c us r))) e)

behind-usas : (us : Snoc Leaf) (cs : Snoc Certificate) → First us → Certified cs → Behind us (list (each (seg Usa) us) ++ list (joined show_certificate cs))
behind-usas us cs (there u hs e d) k = a_usa u (hs ++ list (joined show_certificate cs)) e (ap (λ (l : List Segment). l ++ list (joined show_certificate cs)) d)
behind-usas us cs (nowhere e d) (usc c hs f) = a_usc c hs e (ap (λ (l : List Segment). l ++ list (joined show_certificate cs)) d ∙ f)
behind-usas us cs (nowhere e d) (none-there f) = bare e (ap (λ (l : List Segment). l ++ list (joined show_certificate cs)) d ∙ f)

header-list : (c : Leaf) (us : Snoc Leaf) (cs : Snoc Certificate) → list (show_header (header c us cs)) ≡ seg Ush c ∷ (list (each (seg Usa) us) ++ list (joined show_certificate cs))
header-list c us cs =
    list-join (nil ▷ seg Ush c +++ each (seg Usa) us) (joined show_certificate cs) ∙ ap (λ (l : List Segment). l ++ list (joined show_certificate cs)) (list-join (nil ▷ seg Ush c) (each (seg Usa) us))

-- segments that stand somewhere take room there
row_room : (σ : Service) (s : List ℕ) (p e : ℕ) (g : Segment) (gs : List Segment) → Row σ s p (g ∷ gs) e → (p < e) × (p < length s)
row_room σ s p e g gs x =
    let n : length (print σ (g ∷ gs)) ≡ length (print_s σ g) + length (print σ gs) = ap length (print-cons σ g gs) ∙ length-append (print_s σ g) (print σ gs) in
    let l = long-print σ g in
    let k : length s - p ≡ length (print σ (g ∷ gs)) + length x.behind = sym (length-drop p s) ∙ ap length x.octets ∙ length-append (print σ (g ∷ gs)) x.behind in
    (omega (arith, n, l, x.end), omega (arith, n, l, k))

module _ (σ : Service) (f : T (fit σ)) (s : List ℕ) (p q : ℕ) (c : Leaf) (us : Snoc Leaf) (cs : Snoc Certificate) (w : Stand σ s p (show_header (header c us cs)))
    (k : q ≡ p + wide σ (show_header (header c us cs))) where
  ush-stands : Stand σ s p (nil ▷ seg Ush c)
  ush-stands = header-stands σ f s p (header c us cs) w c us cs refl

  -- a USH has an end
  pub names-open : {r : Option ℕ} → r ≡ end_at σ s p → r ≡ None → false ≡ named_by (or_missing (first_of us))
  names-open a b =
      let k : None ≡ Some (p + (length (print_s σ (seg Ush c)) - 1)) = sym b ∙ a ∙ (stand-agrees σ s p f (seg Ush c) ush-stands).end in
      let z : ◌≡◌ {A = ℕ} 0 1 = cc in
      absurd (omega arith)

  module _ {e next : ℕ} {r : Option ℕ} (a : r ≡ end_at σ s p) (b : r ≡ Some e) (n : next ≡ e + 1) where
    after : next ≡ p + length (print_s σ (seg Ush c))
    after =
        let k : Some e ≡ Some (p + (length (print_s σ (seg Ush c)) - 1)) = sym b ∙ a ∙ (stand-agrees σ s p f (seg Ush c) ush-stands).end in
        let j : e ≡ p + (length (print_s σ (seg Ush c)) - 1) = cc in
        omega (arith, j, n, long-print σ (seg Ush c))

    row : Row σ s next (list (each (seg Usa) us) ++ list (joined show_certificate cs)) q
    row =
        subst (λ (i : ℕ). Row σ s i (list (each (seg Usa) us) ++ list (joined show_certificate cs)) q) (sym after)
        (row-rest σ s p (seg Ush c) (list (each (seg Usa) us) ++ list (joined show_certificate cs))
        (subst (λ (l : List Segment). Row σ s p l q) (header-list c us cs) (subst (Row σ s p (list (show_header (header c us cs)))) (sym k) (stand-row σ s p (show_header (header c us cs)) w))))

    none_named : first_of us ≡ none → false ≡ named_by (or_missing (first_of us))
    none_named d = sym (ap (λ (o : Maybe Leaf). named_by (or_missing o)) d)

    pub names-none : q ≤ next → false ≡ named_by (or_missing (first_of us))
    names-none l = by (behind-usas us cs (first-of us) (certified cs)) row
      where
        by : {gs : List Segment} → Behind us gs → Row σ s next gs q → false ≡ named_by (or_missing (first_of us))
        by (a_usa u hs d g) x = absurd (omega (arith, l, (row_room σ s next q (seg Usa u) hs (subst (λ (l : List Segment). Row σ s next l q) g x)).0))
        by (a_usc v hs d g) x = none_named d
        by (bare d g) x = none_named d

    pub names-beyond : length s ≤ next → false ≡ named_by (or_missing (first_of us))
    names-beyond l = by (behind-usas us cs (first-of us) (certified cs)) row
      where
        by : {gs : List Segment} → Behind us gs → Row σ s next gs q → false ≡ named_by (or_missing (first_of us))
        by (a_usa u hs d g) x = absurd (omega (arith, l, (row_room σ s next q (seg Usa u) hs (subst (λ (l : List Segment). Row σ s next l q) g x)).1))
        by (a_usc v hs d g) x = none_named d
        by (bare d g) x = none_named d

    pub names-there : {z : Bool} → next < q → z ≡ names_sha (asked_at σ s next) → z ≡ named_by (or_missing (first_of us))
    names-there {z} l h = by (behind-usas us cs (first-of us) (certified cs)) row
      where
        by : {gs : List Segment} → Behind us gs → Row σ s next gs q → z ≡ named_by (or_missing (first_of us))
        by (a_usa u hs d g) x =
            h ∙ ap names_sha (row-asked σ s next f (seg Usa u) hs (subst (λ (l : List Segment). Row σ s next l q) g x)) ∙ sym (ap (λ (o : Maybe Leaf). named_by (or_missing o)) d)
        by (a_usc v hs d g) x =
            h ∙ ap names_sha (row-asked σ s next f (seg Usc v) hs (subst (λ (l : List Segment). Row σ s next l q) g x)) ∙ none_named d
        by (bare d g) x = absurd (let y = subst (λ (l : List Segment). Row σ s next l q) g x in omega (arith, l, y.end))

-- ---- of the header that is named

module _ {s m : List ℕ} {y : Syntax} {c : Layout} {rows : List ℕ} (h : Holds s m y c rows) (r : List ℕ) {x : Option Range}
    (e : x ≡ sought_in y.service s rows 0 2 (compared r) c.headers c.body) where
  pub names-headless : x ≡ None → false ≡ named_by (or_missing (usa_at (placed (message h.o h.t) h.q) r))
  names-headless d = by (header_named h.o r) (sym d ∙ e ∙ header-found h r)
    where
      by : (o : Maybe (Chosen Header)) → None ≡ range_of show_header y.service (heads_at y.service h.q h.o) o → false ≡ named_by (or_missing (then o first_usa))
      by none q = refl
      by (some (chosen hs x)) q = let z : ◌≡◌ {A = ℕ} 0 1 = cc in absurd (omega arith)

  pub names-header : {g : Range} (b : Bool) → x ≡ Some g
      → ((l : Leaf) (us : Snoc Leaf) (cs : Snoc Certificate) → Stand y.service s g.start (show_header (header l us cs)) → g.end ≡ g.start + wide y.service (show_header (header l us cs)) → b ≡ named_by (or_missing (first_of us)))
      → b ≡ named_by (or_missing (usa_at (placed (message h.o h.t) h.q) r))
  names-header {g} b d k = by (header_named h.o r) (λ hs x q. header-there h r q) (sym d ∙ e ∙ header-found h r)
    where
      by : (o : Maybe (Chosen Header)) → ((hs : Snoc Header) (x : Header) → o ≡ some (chosen hs x) → Stand y.service s (header_at y.service h.q h.o (chosen hs x)) (show_header x))
          → Some g ≡ range_of show_header y.service (heads_at y.service h.q h.o) o → b ≡ named_by (or_missing (then o first_usa))
      by none f q = let z : ◌≡◌ {A = ℕ} 0 1 = cc in absurd (omega arith)
      by (some (chosen hs (header l us cs))) f q =
          let a : g.start ≡ header_at y.service h.q h.o (chosen hs (header l us cs)) = cc in
          let n : g.end ≡ header_at y.service h.q h.o (chosen hs (header l us cs)) + wide y.service (show_header (header l us cs)) = cc in
          k l us cs (subst (λ (i : ℕ). Stand y.service s i (show_header (header l us cs))) (sym a) (f hs (header l us cs) refl))
          (n ∙ ap (λ (i : ℕ). i + wide y.service (show_header (header l us cs))) (sym a))

module _ (s m r : List ℕ) where
  pub names-holds : {y : Syntax} {c : Layout} {rows : List ℕ} {b : Bool} (h : Holds s m y c rows) → b ≡ named_by (or_missing (usa_at (placed (message h.o h.t) h.q) r)) → b ≡ named_in s m r
  names-holds h e = e ∙ sym (ap named_by (call-holds s m (λ i p. usa_at p r) h))

  pub names-missing : (i : Interchange) × ((verdict_of s ≡ accepted i) × (message_in i m ≡ none)) → false ≡ named_in s m r
  names-missing k = sym (ap named_by (call-missing s m (λ i p. usa_at p r) k))

  pub names-refused : {f : Refusal} → verdict_of s ≡ refused_with f → false ≡ named_in s m r
  names-refused e = sym (ap named_by (call-refused s m (λ i p. usa_at p r) e))

-- ---- a range that is given lies in a short interchange

given-short : {A : Type 0} (s : List ℕ) (f : Interchange → Maybe A) {x : A} → answered_by (verdict_of s) f ≡ given x → length s ≤ 65535
given-short s f {x} e = by (verdict_of s) refl e
  where
    by : (v : Verdict) → verdict_of s ≡ v → answered_by v f ≡ given x → length s ≤ 65535
    by (refused_with g) d e = let z : ◌≡◌ {A = ℕ} 0 1 = cc in absurd (omega arith)
    by (accepted i) d e = read_short s i d

parts-given : {p : Parted} (x : Answered Parts) → Ok p ≡ parts_as x → x ≡ given (parts p.header.start p.header.end p.body.start p.body.end)
parts-given {p} (given (parts a b c d)) e =
    let k : p ≡ record { header = record { start = a; end = b }; body = record { start = c; end = d } } = cc in
    sym (ap (λ (q : Parted). given (parts q.header.start q.header.end q.body.start q.body.end)) k)
parts-given (refused_as f) e = let z : ◌≡◌ {A = ℕ} 0 1 = cc in absurd (omega arith)

parts-refused : {f : Refusal} (x : Answered Parts) → Err f ≡ parts_as x → x ≡ refused_as f
parts-refused (given (parts a b c d)) e = let z : ◌≡◌ {A = ℕ} 0 1 = cc in absurd (omega arith)
parts-refused (refused_as f) e = cc

run-given : {x : Range} (a : Answered Run) → Ok x ≡ run_as a → a ≡ given (run x.start x.end)
run-given {x} (given (run a e)) d =
    let k : x ≡ record { start = a; end = e } = cc in
    sym (ap (λ (q : Range). given (run q.start q.end)) k)
run-given (refused_as f) e = let z : ◌≡◌ {A = ℕ} 0 1 = cc in absurd (omega arith)

run-refused : {f : Refusal} (a : Answered Run) → Err f ≡ run_as a → a ≡ refused_as f
run-refused (given (run a e)) d = let z : ◌≡◌ {A = ℕ} 0 1 = cc in absurd (omega arith)
run-refused (refused_as f) e = cc

-- ---- the digest of a range

module _ {o : List ℕ} where
  pub digest-parts : (s : List ℕ) (p : Parted) {named : Bool} {x y : List ℕ} → named ≡ true → x ≡ slice p.header.start p.header.end s → y ≡ slice p.body.start p.body.end s → o ≡ sha1 (x ++ y)
      → Ok o ≡ digest_as (digested named (parts_octets s (given (parts p.header.start p.header.end p.body.start p.body.end))))
  digest-parts s p d f g h = rw (d, h, f, g)

  pub digest-run : (s : List ℕ) (r : Range) {named : Bool} {x : List ℕ} → named ≡ true → x ≡ slice r.start r.end s → o ≡ sha1 x
      → Ok o ≡ digest_as (digested named (given (slice r.start r.end s)))
  digest-run s r d f h = rw (d, h, f)

-- "18 where it names another or there is none"
pub digest-unnamed : {named : Bool} {f : Refusal} (x : List ℕ) → named ≡ false → f ≡ at_zero 18 → Err f ≡ digest_as (digested named (given x))
digest-unnamed x e f = ap Err f ∙ sym (ap (λ (b : Bool). digest_as (digested b (given x))) e)

pub digest-promised : {d : Result (List ℕ) Refusal} (x : Answered (List ℕ)) → d ≡ digest_as x → (d ≡ digest_as x) × (told_digest d ≡ digest_numbers x)
digest-promised x e = (e, ap told_digest e ∙ by x)
  where
    by : (x : Answered (List ℕ)) → told_digest (digest_as x) ≡ digest_numbers x
    by (given x) = refl
    by (refused_as f) = refl

module _ (s m r : List ℕ) {a : Result Parted Refusal} (e : a ≡ parts_as (scope1_of s m r)) where
  pub digest1-given : {p : Parted} {b : Bool} {d : Result (List ℕ) Refusal} → a ≡ Ok p → b ≡ named_in s m r
      → d ≡ digest_as (digested b (parts_octets s (given (parts p.header.start p.header.end p.body.start p.body.end)))) → d ≡ digest_as (digest1_of s m r)
  digest1-given {p} {b} f g h =
      h ∙ ap (λ (v : Bool). digest_as (digested v (parts_octets s (given (parts p.header.start p.header.end p.body.start p.body.end))))) g
      ∙ sym (ap (λ (x : Answered Parts). digest_as (digested (named_in s m r) (parts_octets s x))) (parts-given (scope1_of s m r) (sym f ∙ e)))

  pub digest1-refused : {f : Refusal} → a ≡ Err f → Err f ≡ digest_as (digest1_of s m r)
  digest1-refused f = sym (ap (λ (x : Answered Parts). digest_as (digested (named_in s m r) (parts_octets s x))) (parts-refused (scope1_of s m r) (sym f ∙ e)))

pub scope1-short : (s m r : List ℕ) {a : Result Parted Refusal} {p : Parted} → a ≡ parts_as (scope1_of s m r) → a ≡ Ok p → length s ≤ 65535
scope1-short s m r e f = given-short s (λ i. scope1_in i m r) (parts-given (scope1_of s m r) (sym f ∙ e))

pub scope2-short : (s m r : List ℕ) {a : Result Range Refusal} {x : Range} → a ≡ run_as (scope2_of s m r) → a ≡ Ok x → length s ≤ 65535
scope2-short s m r e f = given-short s (λ i. scope2_in i m r) (run-given (scope2_of s m r) (sym f ∙ e))

-- F01 and scope 3: the octets lie in the interchange that is referred to
pub across-short : (code : List ℕ) (give : Interchange → Target → Maybe Run) (a s m r : List ℕ) {k : Result Range Refusal} {x : Range} → k ≡ run_as (across_of code give a s m r) → k ≡ Ok x → length s ≤ 65535
across-short code give a s m r {k} {x} e f = by (verdict_of a) (run-given (across_of code give a s m r) (sym f ∙ e))
  where
    by : (v : Verdict) → across_by code give v s m r ≡ given (run x.start x.end) → length s ≤ 65535
    by (refused_with g) d = let z : ◌≡◌ {A = ℕ} 0 1 = cc in absurd (omega arith)
    by (accepted i) d = given-short s (λ j. then (target_in code i m r) (give j)) d

-- of a run: n says whether the header names SHA-1
module _ (s : List ℕ) (n : Bool) (x : Answered Run) {a : Result Range Refusal} (e : a ≡ run_as x) where
  pub digest-run-given : {q : Range} {b : Bool} {d : Result (List ℕ) Refusal} → a ≡ Ok q → b ≡ n → d ≡ digest_as (digested b (given (slice q.start q.end s))) → d ≡ digest_as (digested n (run_octets s x))
  digest-run-given {q} f g h =
      h ∙ ap (λ (v : Bool). digest_as (digested v (given (slice q.start q.end s)))) g ∙ sym (ap (λ (y : Answered Run). digest_as (digested n (run_octets s y))) (run-given x (sym f ∙ e)))

  pub digest-run-refused : {f : Refusal} → a ≡ Err f → Err f ≡ digest_as (digested n (run_octets s x))
  digest-run-refused f = sym (ap (λ (y : Answered Run). digest_as (digested n (run_octets s y))) (run-refused x (sym f ∙ e)))
