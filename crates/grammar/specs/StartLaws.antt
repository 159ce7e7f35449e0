-- The start of an interchange, read and printed: what `begun_of` reads with no repetition in force is what a tree says under the service characters in force.
use Rattle.syntax.specs.declared.Version.{Version}
use Rattle.syntax.specs.declared.Level.{Level}
use Rattle.std.specs.Prelude.{ℕ, zero, suc, ◌+◌, ◌-◌, ◌≤◌, ◌<◌, List, [], ◌∷◌, ◌++◌, ◌≡◌, refl, Bool, true, false, cond, not, ◌&&◌, T, eqb, leb, ltb, length, get_or, drop, Option, Result, Some, None, Ok, Err}
use Rattle.std.proofs.Common.{arith, ap, ap₂, sym, ◌∙◌, subst, ne_eqb, le-ltb, ltb-false, leb-false, eqb-true, le-leb, leb→le}
use Rattle.std.proofs.Math.Option.{Option as Maybe, none, some}
use Rattle.std.proofs.lemmas.Bool.{false≢true, lt-leb, eqb-false}
use Rattle.syntax.specs.Octets.{within}
use Rattle.syntax.specs.Service.{standard, without_repetition, servant, repetition_differs, fit, kind}
use Rattle.syntax.specs.Cutting.{stop_from, end_at, tag_of}
use Rattle.syntax.specs.Segment.{Piece, piece, pieces, pieces_at, at_element, at_component, component_at, part_of, repeats}
use Rattle.syntax.specs.Content.{content}
use Rattle.syntax.specs.Opening.{starts_una, una_service, read_una, opening_of, level_named, version_named, both_named, declared_at, refused_unb, is_tag, is_unb, is_there, begun_at, begun_by, begun_of, goes, repeating}
use Rattle.syntax.proofs.ContentLaws.{drop-short}
use Rattle.syntax.specs.TagLaws.{no-repetition}
use Rattle.syntax.specs.Tree as syntax
use Rattle.syntax.specs.Tree.{Segment, print_s, well, repeats_of}
use Rattle.syntax.proofs.TreeLaws.{off, and_left, and_right, and_both, print-cons}
use Rattle.syntax.proofs.BridgeLaws.{Agrees, bridge}
use Rattle.syntax.proofs.ReaderLaws.{well-uncons}
use Rattle.syntax.specs.declared.Breach.{Breach}
use Rattle.syntax.specs.declared.Service.{Service}
use Rattle.syntax.specs.declared.Syntax.{Syntax}
use Rattle.syntax.specs.declared.opening.Opening.{Opening}
use Rattle.syntax.specs.declared.opening.Start.{Start}
use Rattle.grammar.specs.Lists.{Snoc, nil, ◌▷◌, ◌+++◌, joined, list, Rule, holds, every}
use Rattle.grammar.specs.Segments.{asked, Unb, Unz, seg, element_at, element_content}
use Rattle.grammar.specs.Interchange.{Leaf, Message, done, shown, show_message}
use Rattle.grammar.specs.Elements.{formed}
use Rattle.grammar.specs.Rules.{formed_s}
use Rattle.grammar.specs.Valid.{Una, una, Interchange, interchange, segments, opening_in, begun_in, readied, syntax_in, print_una, una_of, in_force, print_interchange, una_right, Valid}
use Rattle.grammar.specs.Verdict.{una_at}
use Rattle.grammar.specs.TestLaws.{is_true, passes}

-- ---- an octet with no repetition in force, and with it: the same, or data for a repeat

data Kinds : ℕ → ℕ → Type 0 where
  k-release : Kinds 0 0
  k-data : Kinds 1 1
  k-component : Kinds 2 2
  k-repeat : Kinds 1 3
  k-element : Kinds 4 4
  k-segment : Kinds 5 5

kinds-by : (z r t e c p : Bool) →
    Kinds (cond z 1 (cond r 0 (cond t 5 (cond e 4 (cond c 2 (cond z 3 1)))))) (cond z 1 (cond r 0 (cond t 5 (cond e 4 (cond c 2 (cond p 3 1))))))
kinds-by true r t e c p = k-data
kinds-by false true t e c p = k-release
kinds-by false false true e c p = k-segment
kinds-by false false false true c p = k-element
kinds-by false false false false true p = k-component
kinds-by false false false false false true = k-repeat
kinds-by false false false false false false = k-data

kinds : (σ : Service) (f : Bool) (b : ℕ) → Kinds (kind (without_repetition σ) f b) (kind σ f b)
kinds σ true b = k-data
kinds σ false b = kinds-by (eqb b 32) (eqb b σ.release) (eqb b σ.terminator) (eqb b σ.element) (eqb b σ.component) (eqb b σ.repetition)

-- the end of a segment does not depend on the repetition
pub stop5-same : (σ : Service) (f : Bool) (s : List ℕ) (i : ℕ) → stop_from (without_repetition σ) 5 f s i ≡ stop_from σ 5 f s i
stop5-same σ f [] i = refl
stop5-same σ f (b ∷ s) i = by (kinds σ f b) (λ g. stop5-same σ g s (suc i))
  where
    by : {k₀ k : ℕ} → Kinds k₀ k → ((g : Bool) → stop_from (without_repetition σ) 5 g s (suc i) ≡ stop_from σ 5 g s (suc i)) →
        cond (leb 5 k₀) (Some i) (stop_from (without_repetition σ) 5 (eqb k₀ 0) s (suc i)) ≡ cond (leb 5 k) (Some i) (stop_from σ 5 (eqb k 0) s (suc i))
    by k-release r = r true
    by k-data r = r false
    by k-component r = r false
    by k-repeat r = r false
    by k-element r = r false
    by k-segment r = refl

-- ---- pieces that are the same up to the first repeat

data Same : List Piece → List Piece → Type 0 where
  s-over : Same [] []
  s-segment : {x z : ℕ} → Same (piece x z 5 ∷ []) (piece x z 5 ∷ [])
  s-component : {x z : ℕ} {ps qs : List Piece} → Same ps qs → Same (piece x z 2 ∷ ps) (piece x z 2 ∷ qs)
  s-element : {x z : ℕ} {ps qs : List Piece} → Same ps qs → Same (piece x z 4 ∷ ps) (piece x z 4 ∷ qs)
  s-repeat : {x z : ℕ} {ps qs : List Piece} → Same ps (piece x z 3 ∷ qs)

pieces-same : (σ : Service) (s : List ℕ) (f : Bool) (a i : ℕ) → Same (pieces (without_repetition σ) f a s i) (pieces σ f a s i)
pieces-same σ [] f a i = s-over
pieces-same σ (b ∷ s) f a i = by (kinds σ f b) (λ g c. pieces-same σ s g c (suc i))
  where
    by : {k₀ k : ℕ} → Kinds k₀ k → ((g : Bool) (c : ℕ) → Same (pieces (without_repetition σ) g c s (suc i)) (pieces σ g c s (suc i))) →
        Same (cond (ltb k₀ 2) (pieces (without_repetition σ) (eqb k₀ 0) (cond (ltb k₀ 2) a (suc i)) s (suc i))
        (piece a i k₀ ∷ cond (eqb k₀ 5) [] (pieces (without_repetition σ) (eqb k₀ 0) (cond (ltb k₀ 2) a (suc i)) s (suc i))))
        (cond (ltb k 2) (pieces σ (eqb k 0) (cond (ltb k 2) a (suc i)) s (suc i))
        (piece a i k ∷ cond (eqb k 5) [] (pieces σ (eqb k 0) (cond (ltb k 2) a (suc i)) s (suc i))))
    by k-release r = r true a
    by k-data r = r false a
    by k-component r = s-component (r false (suc i))
    by k-repeat r = s-repeat
    by k-element r = s-element (r false (suc i))
    by k-segment r = s-segment

element-same : {ps qs : List Piece} → Same ps qs → repeats qs ≡ false → Same (at_element 1 ps) (at_element 1 qs)
element-same s-over e = s-over
element-same s-segment e = s-over
element-same (s-component w) e = element-same w e
element-same (s-element w) e = w
element-same s-repeat e = absurd (false≢true (sym e))

component-same : (c : ℕ) {ps qs : List Piece} → Same ps qs → repeats qs ≡ false → at_component c ps ≡ at_component c qs
component-same zero s-over e = refl
component-same zero s-segment e = refl
component-same zero (s-component w) e = refl
component-same zero (s-element w) e = refl
component-same zero s-repeat e = absurd (false≢true (sym e))
component-same (suc c) s-over e = refl
component-same (suc c) s-segment e = refl
component-same (suc c) (s-component w) e = component-same c w e
component-same (suc c) (s-element w) e = refl
component-same (suc c) s-repeat e = absurd (false≢true (sym e))

-- where neither the tag nor the first element repeats, the first element's components are the same with no repetition in force
pub first-same : (σ : Service) (s : List ℕ) (a : ℕ) → repeats (at_element 0 (pieces_at σ s a)) ≡ false → repeats (at_element 1 (pieces_at σ s a)) ≡ false →
    (c : ℕ) → component_at (without_repetition σ) s a 1 c ≡ component_at σ s a 1 c
first-same σ s a h k c = component-same c (element-same (pieces-same σ (drop a s) false a a) h) k

-- 0001 and 0002 of a printed UNB, read with no repetition in force, are those of the tree
pub names_same : (σ : Service) → T (fit σ) → (s : List ℕ) (a : ℕ) (u : Leaf) (r : List ℕ) → T (well σ (seg Unb u ∷ [])) → drop a s ≡ print_s σ (seg Unb u) ++ r →
    repeats_of (element_at u 1) ≡ false → (c : ℕ) → content σ.release (part_of s (component_at (without_repetition σ) s a 1 c)) ≡ element_content u 1 c
names_same σ f s a u r w d e c =
    let b : Agrees σ s a (seg Unb u) = bridge σ f s a (seg Unb u) r w d in
    ap (λ (x : Option (ℕ × ℕ)). content σ.release (part_of s x)) (first-same σ s a (b.element-repeats 0) (b.element-repeats 1 ∙ e) c)
    ∙ b.component-content 1 c

-- ---- tests

unset : {A : Type 0} → true ≡ false → A
unset e = absurd (false≢true (sym e))

-- ---- the service characters in force, and those that UNA gives or that are standard

fit-by : (a d e g h : Bool) → T (((a && d) && e) && (g && h)) → T (((a && true) && e) && (g && true))
fit-by true true true true h w = tt
fit-by true true true false h w = absurd w
fit-by true true false g h w = absurd w
fit-by true false e g h w = absurd w
fit-by false d e g h w = absurd w

-- without repetition they fit as well
pub fit-without : (σ : Service) → T (fit σ) → T (fit (without_repetition σ))
fit-without σ h =
    fit-by (servant σ.component && servant σ.element && cond (eqb σ.release 32) true (servant σ.release))
    (cond (eqb σ.repetition 32) true (servant σ.repetition)) (servant σ.terminator)
    (not (eqb σ.terminator σ.release) && not (eqb σ.element σ.release) && not (eqb σ.element σ.terminator)
    && not (eqb σ.component σ.release) && not (eqb σ.component σ.terminator) && not (eqb σ.component σ.element))
    (cond (eqb σ.repetition 32) true (repetition_differs σ)) h

-- what UNA gives, or is standard, fits
pub fit-opening : (n : Maybe Una) → T (una_right n) → T (fit (opening_in n).service)
fit-opening none h = tt
fit-opening (some (una σ m)) h = h

-- what a start that was settled has from the opening
record Settled (o : Opening) (x : Start) : Type 0 where
  same : without_repetition x.syntax.service ≡ without_repetition o.service
  fits : T (fit o.service) → T (fit x.syntax.service)
  place : x.at ≡ o.at

never : {A : Type 0} {f : Breach} {x : Start} → Err f ≡ Ok x → A
never e = let z : ◌≡◌ {A = ℕ} 0 1 = cc in let y : ⊥ = omega arith in absurd y

settled-by : (o : Opening) (l : Option Level) (n : Option Version) (x : Start) → both_named o l n ≡ Ok x → Settled o x
settled-by o None n x e = never e
settled-by o (Some l) None x e = never e
settled-by o (Some l) (Some n) x e = by (goes l n) (repeating n) (o.una && not (eqb o.service.repetition 32)) e
  where
    by : (g r t : Bool) → cond g (cond r (Ok (record { syntax = record { version = n; level = l; service = o.service }; at = o.at }))
        (cond t (refused_unb 6 o.at) (Ok (record { syntax = record { version = n; level = l; service = without_repetition o.service }; at = o.at }))))
        (refused_unb 6 o.at) ≡ Ok x → Settled o x
    by false r t e = never e
    by true true t e =
        let p : record { syntax = record { version = n; level = l; service = o.service }; at = o.at } ≡ x = cc in
        rw (← p) (record { same = refl; fits = λ h. h; place = refl })
    by true false true e = never e
    by true false false e =
        let p : record { syntax = record { version = n; level = l; service = without_repetition o.service }; at = o.at } ≡ x = cc in
        rw (← p) (record { same = refl; fits = fit-without o.service; place = refl })

-- ---- a tree's first segment is UNB

list-front : {A : Type 0} (g : A) (s : Snoc A) → list (nil ▷ g +++ s) ≡ g ∷ list s
list-front g nil = refl
list-front {A} g (s ▷ a) = ap (λ (l : List A). l ++ a ∷ []) (list-front g s)

pub every_front : {A : Type 0} (p : A → Rule) (g : A) (s : Snoc A) → holds (every p (nil ▷ g +++ s)) → holds (p g)
every_front p g nil h = h.1
every_front p g (s ▷ a) h = every_front p g s h.0

-- the segments behind UNB
abbrev pub behind : Snoc Message → Leaf → List Segment
behind ms z = list (joined show_message ms ▷ seg Unz z)

-- UNB is the first segment shown
pub unb-first : (u : Leaf) (ms : Snoc Message) (z : Leaf) → list (shown (done u ms z)) ≡ seg Unb u ∷ behind ms z
unb-first u ms z = list-front (seg Unb u) (joined show_message ms ▷ seg Unz z)

once_by : (a b c : Bool) → T ((not a && b) && c) → a ≡ false
once_by a b c h = off a (and_left (not a) b (and_left (not a && b) c h))

-- and its first element does not repeat
pub unb-once : (y : Syntax) (u : Leaf) → T (formed y.version (asked (seg Unb u))) → repeats_of (element_at u 1) ≡ false
unb-once y u h = once_by (repeats_of (element_at u 1)) _ _ h

-- ---- the start of what has UNB at its opening's place

tag-alike : (σ τ : Service) → without_repetition σ ≡ without_repetition τ → (s : List ℕ) → tag_of σ s ≡ tag_of τ s
tag-alike σ τ e s = sym (no-repetition σ s) ∙ ap (λ (w : Service). tag_of w s) e ∙ no-repetition τ s

-- the content of a component of the first element
abbrev name_at : Service → List ℕ → ℕ → ℕ → List ℕ
name_at σ s a c = content σ.release (part_of s (component_at σ s a 1 c))

names-alike : (σ τ : Service) → without_repetition σ ≡ without_repetition τ → T (fit σ) → (s : List ℕ) (a : ℕ) (u : Leaf) (r : List ℕ) → T (well σ (seg Unb u ∷ [])) →
    drop a s ≡ print_s σ (seg Unb u) ++ r → repeats_of (element_at u 1) ≡ false → (c : ℕ) → name_at (without_repetition τ) s a c ≡ element_content u 1 c
names-alike σ τ q f s a u r w d e c = ap (λ (x : Service). name_at x s a c) (sym q) ∙ names_same σ f s a u r w d e c

-- σ is in force, o is what was known before UNB
begun-print : (s : List ℕ) (o : Opening) (σ : Service) → without_repetition σ ≡ without_repetition o.service → T (fit σ) → (u : Leaf) (r : List ℕ) →
    T (well σ (seg Unb u ∷ [])) → drop o.at s ≡ print_s σ (seg Unb u) ++ r → repeats_of (element_at u 1) ≡ false →
    begun_at s o ≡ both_named o (level_named (element_content u 1 0)) (version_named (element_content u 1 1))
begun-print s o σ q f u r w d e =
    let b : Agrees σ s o.at (seg Unb u) = bridge σ f s o.at (seg Unb u) r w d in
    let h : end_at (without_repetition o.service) s o.at ≡ Some (o.at + (length (print_s σ (seg Unb u)) - 1)) =
    ap (λ (x : Service). end_at x s o.at) (sym q) ∙ stop5-same σ false (drop o.at s) o.at ∙ b.end in
    let k : tag_of o.service (drop o.at s) ≡ Some (85, 78, 66) = tag-alike o.service σ (sym q) (drop o.at s) ∙ b.tag in
    steps (lt-leb (length s) o.at (drop-short o.at s d)) (ap is_there h) k
    ∙ ap₂ (both_named o) (ap level_named (names-alike σ o.service q f s o.at u r w d e 0)) (ap version_named (names-alike σ o.service q f s o.at u r w d e 1))
  where
    steps : leb (length s) o.at ≡ false → is_there (end_at (without_repetition o.service) s o.at) ≡ true → tag_of o.service (drop o.at s) ≡ Some (85, 78, 66) →
        begun_at s o ≡ declared_at s (without_repetition o.service) o
    steps x y z = rw (x, y, z)

-- ---- what is printed

-- what is known before UNB
openings : (s : List ℕ) → T (within 1 65535 (length s)) → opening_of s ≡ cond (starts_una s) (read_una s) (Ok (opening_in none))
openings s h =
    let a : 1 ≤ length s = leb→le 1 (length s) (and_left (leb 1 (length s)) (leb (length s) 65535) h) in
    let b : length s ≤ 65535 = leb→le (length s) 65535 (and_right (leb 1 (length s)) (leb (length s) 65535) h) in
    rw (ne_eqb (length s) 0 (λ z. omega arith), le-ltb 65535 (length s) b)

module _ (n : Maybe Una) (u : Leaf) (ms : Snoc Message) (z : Leaf) (v : Valid (interchange n u ms z)) where
  settles : (x : Start) × (begun_in (interchange n u ms z) ≡ Ok x) × (x.syntax ≡ v.y)
  settles = by (begun_in (interchange n u ms z)) v.named
    where
      by : (b : Result Start Breach) → readied b ≡ some v.y → (x : Start) × (b ≡ Ok x) × (x.syntax ≡ v.y)
      by (Ok x) e = (x, refl, cc)
      by (Err f) e = let k : ◌≡◌ {A = ℕ} 0 1 = cc in let y : ⊥ = omega arith in absurd y

  ready : begun_in (interchange n u ms z) ≡ Ok (record { syntax = v.y; at = (opening_in n).at })
  ready =
      let w = settles in
      w.1 ∙ ap₂ (λ (a : Syntax) (b : ℕ). Ok (record { syntax = a; at = b })) w.2 (settled-by (opening_in n) (level_named (element_content u 1 0)) (version_named (element_content u 1 1)) w.0 w.1).place

  settles-so : Settled (opening_in n) (record { syntax = v.y; at = (opening_in n).at })
  settles-so = settled-by (opening_in n) (level_named (element_content u 1 0)) (version_named (element_content u 1 1)) (record { syntax = v.y; at = (opening_in n).at }) ready

  in-force : T (fit v.y.service)
  in-force = settles-so.fits (fit-opening n v.service_right)

  printed : print_interchange (interchange n u ms z) ≡ print_una n ++ syntax.print v.y.service (segments (interchange n u ms z))
  printed = ap (λ (y : Maybe Syntax). print_una n ++ syntax.print (in_force y) (segments (interchange n u ms z))) v.named

  -- UNB's octets, and what follows them
  first-print : syntax.print v.y.service (segments (interchange n u ms z)) ≡ print_s v.y.service (seg Unb u) ++ syntax.print v.y.service (behind ms z)
  first-print = ap (syntax.print v.y.service) (unb-first u ms z) ∙ print-cons v.y.service (seg Unb u) (behind ms z)

  first-well : T (well v.y.service (seg Unb u ∷ []))
  first-well =
      (well-uncons v.y.service (seg Unb u) (behind ms z)
      (subst (λ (gs : List Segment). T (well v.y.service gs)) (unb-first u ms z) v.written)).0

  first-once : repeats_of (element_at u 1) ≡ false
  first-once = unb-once v.y u (every_front (formed_s v.y) (seg Unb u) (joined show_message ms ▷ seg Unz z) v.elements)

-- the service characters in force fit
pub fit-in-force : (t : Interchange) (v : Valid t) → T (fit v.y.service)
fit-in-force (interchange n u ms z) v = in-force n u ms z v

-- the UNA of what is printed, or that there is none
pub una-printed : (t : Interchange) (v : Valid t) → una_at (print_interchange t) ≡ una_of t
una-printed (interchange none u ms z) v = ap una_at (printed none u ms z v ∙ first-print none u ms z v)
una-printed (interchange (some (una σ m)) u ms z) v = refl

-- behind it stand the segments, printed under the service characters in force
pub rest-printed : (t : Interchange) (v : Valid t) → drop (opening_in (una_of t)).at (print_interchange t) ≡ syntax.print v.y.service (segments t)
rest-printed (interchange none u ms z) v = printed none u ms z v
rest-printed (interchange (some (una σ m)) u ms z) v = ap (drop 9) (printed (some (una σ m)) u ms z v)

readies : (σ : Service) (m : ℕ) (r : List ℕ) → T (fit σ) → read_una (print_una (some (una σ m)) ++ r) ≡ Ok (opening_in (some (una σ m)))
readies σ m r h = rw (le-ltb (length (print_una (some (una σ m)) ++ r)) 9 (omega arith), is_true (fit σ) h)

-- what is known before UNB is what the tree says
pub opening-printed : (t : Interchange) (v : Valid t) → opening_of (print_interchange t) ≡ Ok (opening_in (una_of t))
opening-printed (interchange none u ms z) v =
    openings (print_interchange (interchange none u ms z)) v.octets_right
    ∙ ap (λ (s : List ℕ). cond (starts_una s) (read_una s) (Ok (opening_in none))) (printed none u ms z v ∙ first-print none u ms z v)
opening-printed (interchange (some (una σ m)) u ms z) v =
    openings (print_interchange (interchange (some (una σ m)) u ms z)) v.octets_right
    ∙ readies σ m (syntax.print (in_force (syntax_in (interchange (some (una σ m)) u ms z))) (segments (interchange (some (una σ m)) u ms z))) v.service_right

-- the start of what is printed is read as the tree's syntax, and the place behind UNA
pub start-printed : (t : Interchange) (v : Valid t) → begun_of (print_interchange t) ≡ Ok (record { syntax = v.y; at = (opening_in (una_of t)).at })
start-printed (interchange n u ms z) v =
    ap (begun_by (print_interchange (interchange n u ms z))) (opening-printed (interchange n u ms z) v)
    ∙ begun-print (print_interchange (interchange n u ms z)) (opening_in n) v.y.service (settles-so n u ms z v).same (in-force n u ms z v) u
    (syntax.print v.y.service (behind ms z)) (first-well n u ms z v) (rest-printed (interchange n u ms z) v ∙ first-print n u ms z v) (first-once n u ms z v)
    ∙ ready n u ms z v

-- ---- what is read

-- the content of component c of UNB's first element, read with no repetition in force
abbrev pub name_in : List ℕ → ℕ → ℕ → List ℕ
name_in s a c =
    content (opening_in (una_at s)).service.release (part_of s (component_at (without_repetition (opening_in (una_at s)).service) s a 1 c))

-- what a start that is read tells of the octets
pub record StartRead (s : List ℕ) (x : Start) : Type 0 where
  pub lengths : T (within 1 65535 (length s))
  pub una-right : T (una_right (una_at s))
  pub whole : print_una (una_at s) ++ drop x.at s ≡ s
  pub at : x.at ≡ (opening_in (una_at s)).at
  pub fits : T (fit x.syntax.service)
  pub named : both_named (opening_in (una_at s)) (level_named (name_in s x.at 0)) (version_named (name_in s x.at 1)) ≡ Ok x
  pub tag : tag_of x.syntax.service (drop x.at s) ≡ Some (85, 78, 66)
  pub service : without_repetition x.syntax.service ≡ without_repetition (opening_in (una_at s)).service
  pub left : x.at < length s
  pub end : is_there (end_at x.syntax.service s x.at) ≡ true

closed : {A : Type 0} {f : Breach} {o : Opening} → Err f ≡ Ok o → A
closed e = let z : ◌≡◌ {A = ℕ} 0 1 = cc in let y : ⊥ = omega arith in absurd y

-- UNA's octets, and those behind them
is-una : (a b c : ℕ) (r : List ℕ) → starts_una (a ∷ b ∷ c ∷ r) ≡ true → 85 ∷ 78 ∷ 65 ∷ r ≡ a ∷ b ∷ c ∷ r
is-una a b c r h = by (eqb a 85) (eqb b 78) (eqb c 65) refl refl refl h
  where
    by : (p q w : Bool) → eqb a 85 ≡ p → eqb b 78 ≡ q → eqb c 65 ≡ w → cond p (cond q (cond w true false) false) false ≡ true → 85 ∷ 78 ∷ 65 ∷ r ≡ a ∷ b ∷ c ∷ r
    by true true true x y z h = rw (eqb-true a 85 x, eqb-true b 78 y, eqb-true c 65 z)
    by true true false x y z h = absurd (false≢true h)
    by true false w x y z h = absurd (false≢true h)
    by false q w x y z h = absurd (false≢true h)

whole-una : (s : List ℕ) → starts_una s ≡ true → ltb (length s) 9 ≡ false → print_una (some (una (una_service s) (get_or s 5 0))) ++ drop 9 s ≡ s
whole-una [] h k = unset k
whole-una (a ∷ []) h k = unset k
whole-una (a ∷ b ∷ []) h k = unset k
whole-una (a ∷ b ∷ c ∷ []) h k = unset k
whole-una (a ∷ b ∷ c ∷ d ∷ []) h k = unset k
whole-una (a ∷ b ∷ c ∷ d ∷ e ∷ []) h k = unset k
whole-una (a ∷ b ∷ c ∷ d ∷ e ∷ f ∷ []) h k = unset k
whole-una (a ∷ b ∷ c ∷ d ∷ e ∷ f ∷ g ∷ []) h k = unset k
whole-una (a ∷ b ∷ c ∷ d ∷ e ∷ f ∷ g ∷ i ∷ []) h k = unset k
whole-una (a ∷ b ∷ c ∷ d ∷ e ∷ f ∷ g ∷ i ∷ j ∷ s) h k = is-una a b c (d ∷ e ∷ f ∷ g ∷ i ∷ j ∷ s) h

record OpeningRead (s : List ℕ) (o : Opening) (n : Maybe Una) : Type 0 where
  lengths : T (within 1 65535 (length s))
  una-right : T (una_right n)
  whole : print_una n ++ drop o.at s ≡ s
  same : o ≡ opening_in n

opening-read : (s : List ℕ) (o : Opening) → opening_of s ≡ Ok o → OpeningRead s o (una_at s)
opening-read s o e = by (eqb (length s) 0) (ltb 65535 (length s)) (starts_una s) refl refl refl e
  where
    inside : eqb (length s) 0 ≡ false → ltb 65535 (length s) ≡ false → T (within 1 65535 (length s))
    inside h k =
        let a : length s ≡ 0 → ⊥ = eqb-false (length s) 0 h in
        let b : length s ≤ 65535 = ltb-false 65535 (length s) k in
        let c : 1 ≤ length s = some-there (length s) a in
        and_both (leb 1 (length s)) (leb (length s) 65535) (passes (leb 1 (length s)) (le-leb 1 (length s) c)) (passes (leb (length s) 65535) (le-leb (length s) 65535 b))
      where
        some-there : (n : ℕ) → (n ≡ 0 → ⊥) → 1 ≤ n
        some-there zero a = absurd (a refl)
        some-there (suc n) a = omega arith

    by-una : (a b : Bool) → ltb (length s) 9 ≡ a → fit (una_service s) ≡ b → T (within 1 65535 (length s)) → starts_una s ≡ true →
        cond {A = Result Opening Breach} a (Err (record { number = 2; place = 0 })) (cond b (Ok (record { service = una_service s; una = true; at = 9 })) (Err (record { number = 2; place = 0 }))) ≡ Ok o →
        OpeningRead s o (some (una (una_service s) (get_or s 5 0)))
    by-una true b x y l z e = closed e
    by-una false false x y l z e = closed e
    by-una false true x y l z e =
        let p : record { service = una_service s; una = true; at = 9 } ≡ o = cc in
        rw (← p) (record { lengths = l; una-right = passes (fit (una_service s)) y; whole = whole-una s z x; same = refl })

    by : (a b c : Bool) → eqb (length s) 0 ≡ a → ltb 65535 (length s) ≡ b → starts_una s ≡ c →
        cond {A = Result Opening Breach} a (Err (record { number = 1; place = 0 })) (cond b (Err (record { number = 1; place = 0 }))
        (cond c (read_una s) (Ok (record { service = standard; una = false; at = 0 })))) ≡ Ok o →
        OpeningRead s o (cond c (some (una (una_service s) (get_or s 5 0))) none)
    by true b c x y z e = closed e
    by false true c x y z e = closed e
    by false false true x y z e = by-una (ltb (length s) 9) (fit (una_service s)) refl refl (inside x y) z e
    by false false false x y z e =
        let p : record { service = standard; una = false; at = 0 } ≡ o = cc in
        rw (← p) (record { lengths = inside x y; una-right = tt; whole = refl; same = refl })

is-unb : (t : Option (ℕ × ℕ × ℕ)) → is_unb t ≡ true → t ≡ Some (85, 78, 66)
is-unb None h = absurd (false≢true h)
is-unb (Some (a, b, c)) h = by (eqb a 85) (eqb b 78) (eqb c 66) refl refl refl h
  where
    by : (p q w : Bool) → eqb a 85 ≡ p → eqb b 78 ≡ q → eqb c 66 ≡ w → cond p (cond q (cond w true false) false) false ≡ true → ◌≡◌ {A = Option (ℕ × ℕ × ℕ)} (Some (a, b, c)) (Some (85, 78, 66))
    by true true true x y z h = rw (eqb-true a 85 x, eqb-true b 78 y, eqb-true c 66 z)
    by true true false x y z h = absurd (false≢true h)
    by true false w x y z h = absurd (false≢true h)
    by false q w x y z h = absurd (false≢true h)

record BegunRead (s : List ℕ) (o : Opening) (x : Start) : Type 0 where
  left : o.at < length s
  end : is_there (end_at (without_repetition o.service) s o.at) ≡ true
  tag : tag_of o.service (drop o.at s) ≡ Some (85, 78, 66)
  named : declared_at s (without_repetition o.service) o ≡ Ok x

begun-read : (s : List ℕ) (o : Opening) (x : Start) → begun_at s o ≡ Ok x → BegunRead s o x
begun-read s o x e =
    by (leb (length s) o.at) (is_there (end_at (without_repetition o.service) s o.at)) (is_tag (tag_of o.service (drop o.at s)))
    (is_unb (tag_of o.service (drop o.at s))) refl refl refl e
  where
    by : (a b c d : Bool) → leb (length s) o.at ≡ a → is_there (end_at (without_repetition o.service) s o.at) ≡ b → is_unb (tag_of o.service (drop o.at s)) ≡ d →
        cond a (refused_unb 5 o.at) (cond (not b) (refused_unb 4 o.at) (cond (not c) (refused_unb 4 o.at) (cond (not d) (refused_unb 5 o.at)
        (declared_at s (without_repetition o.service) o)))) ≡ Ok x → BegunRead s o x
    by true b c d p q r e = never e
    by false false c d p q r e = never e
    by false true false d p q r e = never e
    by false true true false p q r e = never e
    by false true true true p q r e =
        record { left = leb-false (length s) o.at p; end = q; tag = is-unb (tag_of o.service (drop o.at s)) r; named = e }

-- what is told by a start that is read
pub start-read : (s : List ℕ) (x : Start) → begun_of s ≡ Ok x → StartRead s x
start-read s x e = by (opening_of s) refl e
  where
    known : (o : Opening) → o ≡ opening_in (una_at s) → OpeningRead s o (una_at s) → BegunRead s o x → Settled o x → StartRead s x
    known o q a b c =
        let m : x.at ≡ (opening_in (una_at s)).at = c.place ∙ ap (λ (w : Opening). w.at) q in
        let k : without_repetition x.syntax.service ≡ without_repetition (opening_in (una_at s)).service = c.same ∙ ap (λ (w : Opening). without_repetition w.service) q in
        record {
          lengths = a.lengths;
          una-right = a.una-right;
          whole = ap (λ (i : ℕ). print_una (una_at s) ++ drop i s) c.place ∙ a.whole;
          at = m;
          fits = c.fits (subst (λ (w : Opening). T (fit w.service)) (sym q) (fit-opening (una_at s) a.una-right));
          named = ap (λ (i : ℕ). both_named (opening_in (una_at s)) (level_named (name_in s i 0)) (version_named (name_in s i 1))) m
              ∙ ap (λ (w : Opening). declared_at s (without_repetition w.service) w) (sym q) ∙ b.named;
          tag = ap (λ (i : ℕ). tag_of x.syntax.service (drop i s)) c.place ∙ tag-alike x.syntax.service o.service c.same (drop o.at s) ∙ b.tag;
          service = k;
          left = subst (λ (i : ℕ). i < length s) (sym c.place) b.left;
          end = ap (λ (i : ℕ). is_there (end_at x.syntax.service s i)) c.place
              ∙ ap is_there (sym (stop5-same x.syntax.service false (drop o.at s) o.at))
              ∙ ap (λ (w : Service). is_there (end_at w s o.at)) c.same ∙ b.end;
        }

    by : (w : Result Opening Breach) → opening_of s ≡ w → begun_by s w ≡ Ok x → StartRead s x
    by (Err f) h e = never e
    by (Ok o) h e =
        let a = opening-read s o h in let b = begun-read s o x e in
        known o a.same a b
        (settled-by o (level_named (name_at (without_repetition o.service) s o.at 0)) (version_named (name_at (without_repetition o.service) s o.at 1)) x b.named)

-- a tree whose UNB stands where UNB is read, and whose first element does not repeat, says the syntax that is read
pub syntax-read : (s : List ℕ) (x : Start) → begun_of s ≡ Ok x → (u : Leaf) (r : List ℕ) → T (well x.syntax.service (seg Unb u ∷ [])) →
    drop x.at s ≡ print_s x.syntax.service (seg Unb u) ++ r → repeats_of (element_at u 1) ≡ false → (ms : Snoc Message) (z : Leaf) →
    syntax_in (interchange (una_at s) u ms z) ≡ some x.syntax
syntax-read s x e u r w d h ms z =
    let a : StartRead s x = start-read s x e in
    let n : (c : ℕ) → element_content u 1 c ≡ name_in s x.at c =
    λ c. sym (names-alike x.syntax.service (opening_in (una_at s)).service a.service a.fits s x.at u r w d h c) in
    ap readied (ap₂ (both_named (opening_in (una_at s))) (ap level_named (n 0)) (ap version_named (n 1)) ∙ a.named)
