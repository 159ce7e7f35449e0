-- What may be sealed, as the code tests it.
use Rattle.syntax.specs.Repertoire.{tag_octet}
use Rattle.std.specs.Prelude.{ℕ, Bool, true, false, cond, not, ◌&&◌, ◌||◌, List, ◌≡◌, refl, leb, ltb, Option, Some, None, ◌≤◌, ◌<◌, eqb, length}
use Rattle.std.proofs.Common.{arith, ap, ◌∙◌, sym, ne_eqb, eq-eqb, le-leb, ltb-true, ltb-false, lt-ltb, le-ltb}
use Rattle.std.specs.Option.{is_some}
use Rattle.std.proofs.lemmas.Bool.{false≢true, lt-leb}
use Rattle.std.proofs.Math.Option.{Option as Maybe, none, some}
use Rattle.syntax.specs.Content.{compared}
use Rattle.syntax.specs.Octets.{same, within, all_pass}
use Rattle.syntax.specs.Opening.{earlier}
use Rattle.syntax.specs.declared.Syntax.{Syntax}
use Rattle.syntax.specs.declared.Version.{Version}
use Rattle.grammar.specs.Lists.{Snoc, nil, ◌▷◌, each, size, among}
use Rattle.grammar.specs.Interchange.{Header, Open, msg, show_header}
use Rattle.grammar.specs.Rules.{ref_h}
use Rattle.grammar.specs.Places.{headers_in}
use Rattle.walk.specs.Layout.{heads_at}
use Rattle.walk.specs.Sections.{autack_o}
use Rattle.walk.specs.declared.sections.Layout.{Layout}
use Rattle.groups.specs.Groups.{Chosen, chosen, chosen_by, sought_in, range_of}
use Rattle.groups.specs.Parts.{header_named}
use Rattle.groups.specs.PartsLaws.{header-found}
use Rattle.groups.specs.Calls.{Holds}
use Rattle.groups.specs.declared.named.Range.{Range}
use Rattle.weaving.specs.Seals.{ref_right, filter_right, most_octets, takes_more, is_new, may_seal}

-- ---- VALUE's length

module _ (v : Version) (f : ℕ) {b : Bool} (e : b ≡ earlier v) where
  pub most-early : b ≡ true → 128 ≡ most_octets v f
  most-early h = rw (← e, h)

  pub most-hexed : b ≡ false → f ≡ 2 → 256 ≡ most_octets v f
  most-hexed h d = rw (← e, h, eq-eqb f 2 d)

  pub most-sixed : b ≡ false → (f ≡ 2 → ⊥) → 384 ≡ most_octets v f
  most-sixed h d = rw (← e, h, ne_eqb f 2 d)

-- ---- "new in the message"

chosen_none : (hs : Snoc Header) (r : List ℕ) → chosen_by ref_h hs r ≡ none → among (each ref_h hs) r ≡ false
chosen_none nil r e = refl
chosen_none (hs ▷ h) r e = by (same (ref_h h) r) (chosen_none hs r) e
  where
    by : (b : Bool) → (chosen_by ref_h hs r ≡ none → among (each ref_h hs) r ≡ false) → cond b (some (chosen hs h)) (chosen_by ref_h hs r) ≡ none → (b || among (each ref_h hs) r) ≡ false
    by true f e = let z : ◌≡◌ {A = ℕ} 0 1 = cc in absurd (omega arith)
    by false f e = f e

chosen-some : (hs : Snoc Header) (r : List ℕ) {x : Chosen Header} → chosen_by ref_h hs r ≡ some x → among (each ref_h hs) r ≡ true
chosen-some nil r e = let z : ◌≡◌ {A = ℕ} 0 1 = cc in absurd (omega arith)
chosen-some (hs ▷ h) r {x} e = by (same (ref_h h) r) (chosen-some hs r) e
  where
    by : (b : Bool) → (chosen_by ref_h hs r ≡ some x → among (each ref_h hs) r ≡ true) → cond b (some (chosen hs h)) (chosen_by ref_h hs r) ≡ some x → (b || among (each ref_h hs) r) ≡ true
    by true f e = refl
    by false f e = f e

new_none : (o : Open) (r : List ℕ) → header_named o r ≡ none → true ≡ is_new o r
new_none (msg u hs b ts) r e = sym (ap not (chosen_none hs (compared r) e))

new-some : (o : Open) (r : List ℕ) {x : Chosen Header} → header_named o r ≡ some x → false ≡ is_new o r
new-some (msg u hs b ts) r e = sym (ap not (chosen-some hs (compared r) e))

module _ {s m : List ℕ} {y : Syntax} {c : Layout} {rows : List ℕ} (h : Holds s m y c rows) (r : List ℕ) {x : Option Range}
    (e : x ≡ sought_in y.service s rows 0 2 (compared r) c.headers c.body) where
  pub new-nowhere : x ≡ None → true ≡ is_new h.o r
  new-nowhere d = by (header_named h.o r) refl (sym d ∙ e ∙ header-found h r)
    where
      by : (o : Maybe (Chosen Header)) → header_named h.o r ≡ o → None ≡ range_of show_header y.service (heads_at y.service h.q h.o) o → true ≡ is_new h.o r
      by none q w = new_none h.o r q
      by (some (chosen hs z)) q w = let z : ◌≡◌ {A = ℕ} 0 1 = cc in absurd (omega arith)

  pub new-at : {g : Range} → x ≡ Some g → false ≡ is_new h.o r
  new-at {g} d = by (header_named h.o r) refl (sym d ∙ e ∙ header-found h r)
    where
      by : (o : Maybe (Chosen Header)) → header_named h.o r ≡ o → Some g ≡ range_of show_header y.service (heads_at y.service h.q h.o) o → false ≡ is_new h.o r
      by none q w = let z : ◌≡◌ {A = ℕ} 0 1 = cc in absurd (omega arith)
      by (some z) q w = new-some h.o r q

  pub new-by : {b : Bool} → is_some x ≡ not b → b ≡ is_new h.o r
  new-by {b} = by x b refl
    where
      by : (k : Option Range) (v : Bool) → x ≡ k → is_some k ≡ not v → v ≡ is_new h.o r
      by None true q w = new-nowhere q
      by None false q w = absurd (false≢true w)
      by (Some g) false q w = new-at q
      by (Some g) true q w = absurd (false≢true (sym w))

-- ---- "nine headers already; AUTACK"

more_by : (o : Open) {a : Bool} {n : ℕ} → a ≡ autack_o o → n ≡ size (headers_in o) → (not a && ltb n 9) ≡ takes_more o
more_by (msg u hs b ts) {a} {n} e d = rw (← e, ← d) (ap (λ (x : Bool). not a && x) (less n))
  where
    less : (k : ℕ) → ltb k 9 ≡ leb k 8
    less k = by (ltb k 9) refl
      where
        by : (x : Bool) → ltb k 9 ≡ x → x ≡ leb k 8
        by true q = let w = ltb-true k 9 q in sym (le-leb k 8 (omega arith))
        by false q = let w = ltb-false k 9 q in sym (lt-leb k 8 (omega arith))

-- ---- all of them

module _ {s m : List ℕ} {y : Syntax} {c : Layout} {rows : List ℕ} (h : Holds s m y c rows) (r : List ℕ) (f : ℕ) {a b : Bool} (e : a ≡ (ref_right r && filter_right y.version f))
    (d : b ≡ (a && (not c.autack && ltb c.headers 9))) where
  pub seal-as : may_seal y.version h.o r f ≡ (b && is_new h.o r)
  seal-as =
      ap (λ (x : Bool). x && is_new h.o r)
      (sym (d ∙ ap (λ (x : Bool). x && (not c.autack && ltb c.headers 9)) e ∙ ap (λ (x : Bool). (ref_right r && filter_right y.version f) && x) (more_by h.o h.laid.autack h.laid.headers)))

  pub seal-barred : b ≡ false → b ≡ may_seal y.version h.o r f
  seal-barred z = z ∙ sym (seal-as ∙ ap (λ (x : Bool). x && is_new h.o r) z)

  pub seal-new : {x : Bool} → b ≡ true → x ≡ is_new h.o r → x ≡ may_seal y.version h.o r f
  seal-new z q = q ∙ sym (seal-as ∙ ap (λ (x : Bool). x && is_new h.o r) z)

-- ---- branch by branch

module _ (r : List ℕ) {n : ℕ} (e : n ≡ length r) where
  pub ref-empty : n ≡ 0 → false ≡ ref_right r
  ref-empty z = rw (← e, z)

  pub ref-long : (n ≡ 0 → ⊥) → 14 < n → false ≡ ref_right r
  ref-long z h = rw (← e, le-leb 1 n (omega arith), lt-leb n 14 h)

  pub ref-by : {x : Bool} → (n ≡ 0 → ⊥) → n ≤ 14 → x ≡ all_pass tag_octet r → x ≡ ref_right r
  ref-by z h d = d ∙ rw (← e, le-leb 1 n (omega arith), le-leb n 14 h)

pub not-true : {A : Type 0} {x : Bool} → x ≡ false → x ≡ true → A
not-true e d = absurd (false≢true (sym e ∙ d))

module _ (v : Version) (f : ℕ) where
  pub filter-two : f ≡ 2 → true ≡ filter_right v f
  filter-two d = rw (eq-eqb f 2 d)

  module _ {b : Bool} (e : b ≡ earlier v) where
    pub filter-early : (f ≡ 2 → ⊥) → b ≡ true → false ≡ filter_right v f
    filter-early d h = rw (ne_eqb f 2 d, ← e, h)

    pub filter-late : (f ≡ 2 → ⊥) → b ≡ false → eqb f 7 ≡ filter_right v f
    filter-late d h = rw (ne_eqb f 2 d, ← e, h)

pub length_none : (v : Version) (f n : ℕ) → n ≡ 0 → false ≡ within 1 (most_octets v f) n
length_none v f n e = rw e

pub length-by : (v : Version) (f n : ℕ) {k : ℕ} → (n ≡ 0 → ⊥) → k ≡ most_octets v f → leb n k ≡ within 1 (most_octets v f) n
length-by v f n z e = rw (← e, le-leb 1 n (omega arith))

module _ {s m : List ℕ} {y : Syntax} {c : Layout} {rows : List ℕ} (h : Holds s m y c rows) (r : List ℕ) (f : ℕ) {a : Bool} (e : a ≡ ref_right r) where
  pub seal-ref : a ≡ false → false ≡ may_seal y.version h.o r f
  seal-ref d = rw (← e, d)

  module _ {b : Bool} (d : a ≡ true) (k : b ≡ filter_right y.version f) where
    pub seal-filter : b ≡ false → false ≡ may_seal y.version h.o r f
    seal-filter z = rw (← e, d, ← k, z)

    module _ {g : Bool} (z : b ≡ true) (l : g ≡ (not c.autack && ltb c.headers 9)) where
      pub seal-full : g ≡ false → false ≡ may_seal y.version h.o r f
      seal-full w = rw (← e, d, ← k, z, ← more_by h.o h.laid.autack h.laid.headers, ← l, w)
