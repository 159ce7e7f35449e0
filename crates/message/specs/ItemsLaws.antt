-- What the segments of a body, and USB, do to a message as the code keeps it.
use Rattle.std.specs.Prelude.{ℕ, suc, ◌+◌, ◌*◌, ◌≤◌, ◌<◌, List, ◌≡◌, refl, Bool, true, false, cond, ◌&&◌, not, Option, Some, None, Result, Ok, Err}
use Rattle.std.proofs.Common.{arith, ap, sym, subst, ◌∙◌, true≢false, ne_eqb}
use Rattle.std.proofs.Math.Bool.{and-false}
use Rattle.std.proofs.Math.Option.{Option as Maybe, none, some}
use Rattle.syntax.specs.Octets.{octets, same}
use Rattle.grammar.specs.Segments as named
use Rattle.grammar.specs.Segments.{Asked, Named, Free, kind_in, tags}
use Rattle.grammar.specs.Grams.{Grams, signed, below}
use Rattle.grammar.specs.Weighed.{loaded_by, tipped_by}
use Rattle.grammar.specs.Loads.{Shape, shape, amount_right, grams, unit, load_unit, load_shape, load_in, load_right, load_by, right_by, control_unit, control_in, control_right, control_by, is_control, three_part}
use Rattle.syntax.specs.Content.{content}
use Rattle.syntax.specs.Segment.{pieces_at, at_element, components, elements, component_at, part_of}
use Rattle.syntax.specs.declared.Service.{Service}
use Rattle.elements.specs.Kinds.{tag_kind, of_kind}
use Rattle.elements.specs.Octets.{asked_at}
use Rattle.elements.specs.Amounts.{amount_is, unit_is}
use Rattle.elements.specs.AmountsLaws.{unit-unknown, unitless, weighs, weighs-not, weighs-below}
use Rattle.elements.specs.declared.amounts.Form.{Form}
use Rattle.message.specs.Summary.{item_next, usb_next, loaded, controlled, controlled_by, no_sums}
use Rattle.message.specs.Steps.{to_m, bad_m, qty_m, summary_in, Roomy, MovedIs}
use Rattle.message.specs.Items.{grown_with}
use Rattle.message.specs.KeptLaws.{loaded-signed, tipped-signed}
use Rattle.elements.specs.declared.Kind.{Kind}
use Rattle.elements.specs.declared.Kind.TheVariants.{Qty, Cnt, Other}
use Rattle.message.specs.declared.Group.{Group}
use Rattle.message.specs.declared.Group.TheVariants.{Body, Ack}
use Rattle.message.specs.declared.Sums.{Sums}
use Rattle.message.specs.declared.Message.{Message}

pub not-true : (b : Bool) → not b ≡ true → b ≡ false
not-true true h = cc
not-true false h = refl

pub not-false : (b : Bool) → not b ≡ false → b ≡ true
not-false true h = refl
not-false false h = cc

-- ---- QTY and CNT by their tags

qty-free : (b c : Bool) → cond b Qty (cond c Cnt Other) ≡ Qty → b ≡ true
qty-free true c e = refl
qty-free false true e = cc
qty-free false false e = cc

cnt-free : (b c : Bool) → cond b Qty (cond c Cnt Other) ≡ Cnt → c ≡ true
cnt-free true c e = cc
cnt-free false true e = refl
cnt-free false false e = cc

qty-of : (k : named.Kind) (t : List ℕ) → of_kind k t ≡ Qty → same t (octets "QTY") ≡ true
qty-of (Named named.Unb) t e = cc
qty-of (Named named.Unh) t e = cc
qty-of (Named named.Unt) t e = cc
qty-of (Named named.Unz) t e = cc
qty-of (Named named.Ush) t e = cc
qty-of (Named named.Usa) t e = cc
qty-of (Named named.Usc) t e = cc
qty-of (Named named.Usr) t e = cc
qty-of (Named named.Ust) t e = cc
qty-of (Named named.Usb) t e = cc
qty-of (Named named.Usx) t e = cc
qty-of (Named named.Usy) t e = cc
qty-of named.Reserved t e = cc
qty-of Free t e = qty-free (same t (octets "QTY")) (same t (octets "CNT")) e

cnt-of : (k : named.Kind) (t : List ℕ) → of_kind k t ≡ Cnt → same t (octets "CNT") ≡ true
cnt-of (Named named.Unb) t e = cc
cnt-of (Named named.Unh) t e = cc
cnt-of (Named named.Unt) t e = cc
cnt-of (Named named.Unz) t e = cc
cnt-of (Named named.Ush) t e = cc
cnt-of (Named named.Usa) t e = cc
cnt-of (Named named.Usc) t e = cc
cnt-of (Named named.Usr) t e = cc
cnt-of (Named named.Ust) t e = cc
cnt-of (Named named.Usb) t e = cc
cnt-of (Named named.Usx) t e = cc
cnt-of (Named named.Usy) t e = cc
cnt-of named.Reserved t e = cc
cnt-of Free t e = cnt-free (same t (octets "QTY")) (same t (octets "CNT")) e

pub qty-tag : (t : List ℕ) → tag_kind t ≡ Qty → same t (octets "QTY") ≡ true
qty-tag t e = qty-of (kind_in tags t) t e

pub cnt-tag : (t : List ℕ) → tag_kind t ≡ Cnt → same t (octets "CNT") ≡ true
cnt-tag t e = cnt-of (kind_in tags t) t e

-- ---- one segment more

-- the sums k have room in a segment more
abbrev pub Room : Message → Sums → Type 0
Room m k = (k.loads ≤ suc m.segments) × (k.grams ≤ suc m.segments * 1000000000000) × (k.back ≤ suc m.segments * 1000000000000)

pub roomy-with : {m : Message} {h : List ℕ} → Roomy m h → (g : Group) (k : Sums) → Room m k → Roomy (grown_with m g k) h
roomy-with w g k l = record {
  headers = w.headers;
  loads = l.0;
  grams = l.1;
  back = l.2;
  base = let b = w.base in omega arith;
  own = let b = w.own in omega arith;
  sizes = λ i q. let b = w.sizes i q in omega arith;
}

-- a group and sums in a summary: item_next and usb_next are these
module _ {m : Message} {r : Result Message ℕ} (g : Group) (k : Sums) (e : r ≡ Ok (grown_with m g k)) (ρ : ℕ) (s : List ℕ) (u w : ℕ) (h : List ℕ) (f : Roomy m h)
    (l : Room m k) where
  pub moved-with : MovedIs (to_m (summary_in ρ s (grown_with m g k) u w h)) r ρ s u w h
  moved-with = subst (λ (x : Result Message ℕ). MovedIs (to_m (summary_in ρ s (grown_with m g k) u w h)) x ρ s u w h) (sym e) (refl, roomy-with f g k l)

module _ {m : Message} {r : Result Message ℕ} where
  pub item-kept : r ≡ Ok (grown_with m Body m.sums) → (ρ : ℕ) (s : List ℕ) (u w : ℕ) (h : List ℕ) → Roomy m h →
      MovedIs (to_m (item_next (summary_in ρ s m u w h) m.sums)) r ρ s u w h
  item-kept e ρ s u w h f =
      let a = f.loads in let b = f.grams in let c = f.back in moved-with Body m.sums e ρ s u w h f (omega arith, omega arith, omega arith)

  pub usb-moved : {k : Sums} → k ≡ no_sums → r ≡ Ok (grown_with m (Ack false false) k) → (ρ : ℕ) (s : List ℕ) (u w : ℕ) (h : List ℕ) → Roomy m h →
      MovedIs (to_m (usb_next (summary_in ρ s m u w h))) r ρ s u w h
  usb-moved d e ρ s u w h f =
      moved-with (Ack false false) no_sums (e ∙ ap (λ (x : Sums). Ok (grown_with m (Ack false false) x)) d) ρ s u w h f (omega arith, omega arith, omega arith)

-- ---- QTY

loaded-room : {m : Message} {h : List ℕ} {n : ℕ} (b : Bool) → Roomy m h → n < 1000000000000 → Room m (loaded m.sums (some (signed b n)))
loaded-room {n = n} b f l =
    let x = f.loads in
    let y = f.grams in
    let z = f.back in
    let p = loaded-signed b n in
    let q = tipped-signed b n in
    (omega arith, omega (arith, y, most b p), omega (arith, z, tipped b q))
  where
    most : (t : Bool) {k : ℕ} → k ≡ cond t 0 n → k ≤ n
    most true e = omega (arith, e)
    most false e = omega (arith, e)

    tipped : (t : Bool) {k : ℕ} → k ≡ cond t n 0 → k ≤ n
    tipped true e = omega (arith, e)
    tipped false e = omega (arith, e)

module _ (ρ : ℕ) (s : List ℕ) (m : Message) {r : Result Message ℕ} (a : Asked) where
  qty-none : load_shape a ≡ none → r ≡ Ok (grown_with m Body m.sums) → (u w : ℕ) (h : List ℕ) → Roomy m h →
      MovedIs (qty_m (summary_in ρ s m u w h) a) r ρ s u w h
  qty-none e d u w h f =
      subst (λ (o : Maybe Shape). MovedIs (cond (right_by o (a.text 1 1)) (to_m (item_next (summary_in ρ s m u w h) (loaded m.sums (load_by o (a.text 1 1))))) (bad_m 12)) r ρ s u w h)
      (sym e) (item-kept d ρ s u w h f)

  qty-wrong : load_right a ≡ false → r ≡ Err 12 → (u w : ℕ) (h : List ℕ) → Roomy m h → MovedIs (qty_m (summary_in ρ s m u w h) a) r ρ s u w h
  qty-wrong e d u w h f = rw (e, d) refl

  qty-some : {n : ℕ} (b : Bool) {k : Sums} → load_right a ≡ true → load_in a ≡ some (signed b n) → n < 1000000000000 →
      k ≡ loaded m.sums (some (signed b n)) → r ≡ Ok (grown_with m Body k) →
      (u w : ℕ) (h : List ℕ) → Roomy m h → MovedIs (qty_m (summary_in ρ s m u w h) a) r ρ s u w h
  qty-some {n} b {k} e l i g d u w h f =
      let z = moved-with Body (loaded m.sums (some (signed b n))) (d ∙ ap (λ (x : Sums). Ok (grown_with m Body x)) g) ρ s u w h f (loaded-room b f i) in
      subst (λ (b : Bool). MovedIs (cond b (to_m (item_next (summary_in ρ s m u w h) (loaded m.sums (load_in a)))) (bad_m 12)) r ρ s u w h) (sym e)
      (subst (λ (o : Maybe Grams). MovedIs (to_m (item_next (summary_in ρ s m u w h) (loaded m.sums o))) r ρ s u w h) (sym l) z)

module _ (a : Asked) where
  shape-many : (a.size ≡ 1 → ⊥) → load_shape a ≡ none
  shape-many h = rw (ne_eqb a.size 1 h, and-false)

  shape-few : (a.parts 1 ≡ 3 → ⊥) → load_shape a ≡ none
  shape-few h = rw (ne_eqb (a.parts 1) 3 h, and-false, and-false)

  shape-unknown : load_unit (a.text 1 2) ≡ none → load_shape a ≡ none
  shape-unknown h = by-test (same a.tag (octets "QTY") && three_part a)
    where
      by-test : (b : Bool) → cond b (load_unit (a.text 1 2)) none ≡ none
      by-test true = h
      by-test false = refl

  shape-load : tag_kind a.tag ≡ Qty → a.size ≡ 1 → a.parts 1 ≡ 3 → load_shape a ≡ load_unit (a.text 1 2)
  shape-load k n p = rw (qty-tag a.tag k, n, p)

module _ (σ : Service) (s : List ℕ) (at : ℕ) (m : Message) where
  module _ {r : Result Message ℕ} (t : r ≡ Ok (grown_with m Body m.sums)) where
    pub qty-many : {n : ℕ} → n ≡ elements (pieces_at σ s at) → (n ≡ 1 → ⊥) → (u w : ℕ) (h : List ℕ) → Roomy m h →
        MovedIs (qty_m (summary_in σ.release s m u w h) (asked_at σ s at)) r σ.release s u w h
    qty-many e d = qty-none σ.release s m (asked_at σ s at) (shape-many (asked_at σ s at) (λ f. d (e ∙ f))) t

    pub qty-few : {n : ℕ} → n ≡ components (at_element 1 (pieces_at σ s at)) → (n ≡ 3 → ⊥) → (u w : ℕ) (h : List ℕ) → Roomy m h →
        MovedIs (qty_m (summary_in σ.release s m u w h) (asked_at σ s at)) r σ.release s u w h
    qty-few e d = qty-none σ.release s m (asked_at σ s at) (shape-few (asked_at σ s at) (λ f. d (e ∙ f))) t

    pub qty-unknown : {x : List ℕ} {q : Option Form} → x ≡ part_of s (component_at σ s at 1 2) → q ≡ unit_is (unit (content σ.release x) (shape 9 3) (shape 6 6)) →
        q ≡ None → (u w : ℕ) (h : List ℕ) → Roomy m h →
        MovedIs (qty_m (summary_in σ.release s m u w h) (asked_at σ s at)) r σ.release s u w h
    qty-unknown {x} e d f =
        qty-none σ.release s m (asked_at σ s at)
        (shape-unknown (asked_at σ s at) (ap (λ (z : List ℕ). load_unit (content σ.release z)) (sym e) ∙ unit-unknown (content σ.release x) 9 6 d f)) t

  -- a load: its one element has three components, the third a unit
  module _ (kind : tag_kind (asked_at σ s at).tag ≡ Qty) {n : ℕ} (size : n ≡ elements (pieces_at σ s at)) (one : n ≡ 1)
      {p : ℕ} (parts : p ≡ components (at_element 1 (pieces_at σ s at))) (three : p ≡ 3)
      {x : List ℕ} {q : Option Form} (third : x ≡ part_of s (component_at σ s at 1 2))
      (d : q ≡ unit_is (unit (content σ.release x) (shape 9 3) (shape 6 6))) {g : Form} (o : q ≡ Some g)
      {z : List ℕ} {y : Option (ℕ × Bool)} (second : z ≡ part_of s (component_at σ s at 1 1))
      (v : y ≡ amount_is (amount_right (shape g.whole g.decimals) (content σ.release z)) (grams (shape g.whole g.decimals) (content σ.release z))) where
    shape-here : load_shape (asked_at σ s at) ≡ unit (content σ.release x) (shape 9 3) (shape 6 6)
    shape-here =
        shape-load (asked_at σ s at) kind (sym size ∙ one) (sym parts ∙ three) ∙ ap (λ (i : List ℕ). load_unit (content σ.release i)) (sym third)

    text-here : (asked_at σ s at).text 1 1 ≡ content σ.release z
    text-here = ap (content σ.release) (sym second)

    right-here : load_right (asked_at σ s at) ≡ right_by (unit (content σ.release x) (shape 9 3) (shape 6 6)) (content σ.release z)
    right-here = ap (λ (i : Maybe Shape). right_by i ((asked_at σ s at).text 1 1)) shape-here ∙ ap (right_by (unit (content σ.release x) (shape 9 3) (shape 6 6))) text-here

    load_here : load_in (asked_at σ s at) ≡ load_by (unit (content σ.release x) (shape 9 3) (shape 6 6)) (content σ.release z)
    load_here = ap (λ (i : Maybe Shape). load_by i ((asked_at σ s at).text 1 1)) shape-here ∙ ap (load_by (unit (content σ.release x) (shape 9 3) (shape 6 6))) text-here

    pub qty-bad : {r : Result Message ℕ} → y ≡ None → r ≡ Err 12 → (u w : ℕ) (h : List ℕ) → Roomy m h →
        MovedIs (qty_m (summary_in σ.release s m u w h) (asked_at σ s at)) r σ.release s u w h
    qty-bad b t = qty-wrong σ.release s m (asked_at σ s at) (right-here ∙ (weighs-not (content σ.release x) 9 6 d (content σ.release z) o v b).0) t

    pub qty-load : {r : Result Message ℕ} {i : ℕ} {b : Bool} {k : Sums} → y ≡ Some (i, b) → k ≡ loaded m.sums (some (signed b i)) → r ≡ Ok (grown_with m Body k) → (u w : ℕ) (h : List ℕ) → Roomy m h →
        MovedIs (qty_m (summary_in σ.release s m u w h) (asked_at σ s at)) r σ.release s u w h
    qty-load {b = minus} b l t =
        let a = weighs (content σ.release x) 9 6 d (content σ.release z) o v (omega arith, omega arith) b in
        qty-some σ.release s m (asked_at σ s at) minus (right-here ∙ a.0) (load_here ∙ a.2) (weighs-below (content σ.release x) 9 6 d (content σ.release z) o v (refl, refl) b) l t

-- what `with_load` asks
pub load_fits : (c z : List ℕ) (m : Message) {q : Option Form} {g : Form} {y : Option (ℕ × Bool)} {i : ℕ} {b : Bool} →
    (m.segments < 65535) × (m.sums.loads ≤ m.segments) × (m.sums.grams ≤ m.segments * 1000000000000) × (m.sums.back ≤ m.segments * 1000000000000) →
    q ≡ unit_is (unit c (shape 9 3) (shape 6 6)) → q ≡ Some g →
    y ≡ amount_is (amount_right (shape g.whole g.decimals) z) (grams (shape g.whole g.decimals) z) → y ≡ Some (i, b) →
    (m.sums.loads < 65535) × (m.sums.grams + i < 18446744073709551616) × (m.sums.back + i < 18446744073709551616)
load_fits c z m h d o v b =
    let n = weighs-below c 9 6 d z o v (refl, refl) b in
    (omega (arith, h.0, h.1), omega (arith, n, h.0, h.2), omega (arith, n, h.0, h.3))

-- what `with_control` asks: no minus zero
pub control-signed : (c z : List ℕ) {q : Option Form} {g : Form} {y : Option (ℕ × Bool)} {i : ℕ} {b : Bool} →
    q ≡ unit_is (unit c (shape 12 3) (shape 9 6)) → q ≡ Some g →
    y ≡ amount_is (amount_right (shape g.whole g.decimals) z) (grams (shape g.whole g.decimals) z) → y ≡ Some (i, b) → below (signed b i) ≡ b
control-signed c z d o v b = (weighs c 12 9 d z o v (omega arith, omega arith) b).3

-- ---- CNT

controlled-keeps : (u : Sums) (z : Grams) (b : Bool) →
    ((controlled_by b u z).loads ≡ u.loads) × ((controlled_by b u z).grams ≡ u.grams) × ((controlled_by b u z).back ≡ u.back)
controlled-keeps u z true = (refl, refl, refl)
controlled-keeps u z false = (refl, refl, refl)

module _ (ρ : ℕ) (s : List ℕ) (m : Message) {r : Result Message ℕ} (a : Asked) where
  cnt-none : is_control a ≡ false → r ≡ Ok (grown_with m Body m.sums) → (u w : ℕ) (h : List ℕ) → Roomy m h →
      MovedIs (to_m (item_next (summary_in ρ s m u w h) (controlled m.sums (control_in a)))) r ρ s u w h
  cnt-none e d u w h f = let z = item-kept d ρ s u w h f in rw e z

  cnt-some : {n : Grams} {k : Sums} → control_in a ≡ some n → k ≡ controlled m.sums (some n) → r ≡ Ok (grown_with m Body k) → (u w : ℕ) (h : List ℕ) → Roomy m h →
      MovedIs (to_m (item_next (summary_in ρ s m u w h) (controlled m.sums (control_in a)))) r ρ s u w h
  cnt-some {n} {k} e g d u w h f =
      let x = f.loads in
      let y = f.grams in
      let v = f.back in
      let q = controlled-keeps m.sums n m.sums.controlled in
      let z =
      moved-with Body (controlled m.sums (some n)) (d ∙ ap (λ (x : Sums). Ok (grown_with m Body x)) g) ρ s u w h f
      (omega (arith, x, q.0), omega (arith, y, q.1), omega (arith, v, q.2)) in
      rw e z

control-all : (a b c : Bool) → cond a (b && c) true ≡ true → a ≡ true → c ≡ true
control-all true true c h e = h
control-all true false c h e = cc
control-all false b c h e = cc

module _ (σ : Service) (s : List ℕ) (at : ℕ) (m : Message) {b : Bool} {l : List ℕ} (first : l ≡ part_of s (component_at σ s at 1 0))
    (is : b ≡ same (content σ.release l) (octets "1")) where
  first-here : same ((asked_at σ s at).text 1 0) (octets "1") ≡ b
  first-here = sym (is ∙ ap (λ (i : List ℕ). same (content σ.release i) (octets "1")) first)

  pub cnt-plain : {r : Result Message ℕ} → not b ≡ true → r ≡ Ok (grown_with m Body m.sums) → (u w : ℕ) (h : List ℕ) → Roomy m h →
      MovedIs (to_m (item_next (summary_in σ.release s m u w h) (controlled m.sums (control_in (asked_at σ s at))))) r σ.release s u w h
  cnt-plain e t = cnt-none σ.release s m (asked_at σ s at) (rw (first-here, not-true b e, and-false)) t

  -- a control total
  module _ (kind : (tag_kind (asked_at σ s at).tag ≡ Cnt) × (control_right (asked_at σ s at) ≡ true)) (holds : not b ≡ false)
      {x : List ℕ} {q : Option Form} (third : x ≡ part_of s (component_at σ s at 1 2))
      (d : q ≡ unit_is (unit (content σ.release x) (shape 12 3) (shape 9 6))) where
    control-is : is_control (asked_at σ s at) ≡ true
    control-is = rw (cnt-tag (asked_at σ s at).tag kind.0, first-here, not-false b holds)

    unit-here : control_unit ((asked_at σ s at).text 1 2) ≡ unit (content σ.release x) (shape 12 3) (shape 9 6)
    unit-here = ap (λ (i : List ℕ). control_unit (content σ.release i)) (sym third)

    control-by : control_by (unit (content σ.release x) (shape 12 3) (shape 9 6)) ((asked_at σ s at).text 1 1) ≡ true
    control-by =
        ap (λ (i : Maybe Shape). control_by i ((asked_at σ s at).text 1 1)) (sym unit-here)
        ∙ control-all (is_control (asked_at σ s at)) (three_part (asked_at σ s at)) (control_by (control_unit ((asked_at σ s at).text 1 2)) ((asked_at σ s at).text 1 1)) kind.1 control-is

    pub cnt-unknown : q ≡ None → ⊥
    cnt-unknown e =
        let a = (unitless (content σ.release x) 12 9 d ((asked_at σ s at).text 1 1) e).1 in
        true≢false (sym control-by ∙ a)

    module _ {g : Form} (o : q ≡ Some g) {z : List ℕ} {y : Option (ℕ × Bool)} (second : z ≡ part_of s (component_at σ s at 1 1))
        (v : y ≡ amount_is (amount_right (shape g.whole g.decimals) (content σ.release z)) (grams (shape g.whole g.decimals) (content σ.release z))) where
      pub cnt-bad : y ≡ None → ⊥
      cnt-bad e =
          let a = (weighs-not (content σ.release x) 12 9 d (content σ.release z) o v e).1 in
          let c = ap (λ (i : List ℕ). control_by (unit (content σ.release x) (shape 12 3) (shape 9 6)) (content σ.release i)) second in
          true≢false (sym (c ∙ control-by) ∙ a)

      pub cnt-control : {r : Result Message ℕ} {i : ℕ} {b : Bool} {k : Sums} → y ≡ Some (i, b) → k ≡ controlled m.sums (some (signed b i)) → r ≡ Ok (grown_with m Body k) →
          (u w : ℕ) (h : List ℕ) → Roomy m h →
          MovedIs (to_m (item_next (summary_in σ.release s m u w h) (controlled m.sums (control_in (asked_at σ s at))))) r σ.release s u w h
      cnt-control {r} {i} e l t =
          let a = (weighs (content σ.release x) 12 9 d (content σ.release z) o v (omega arith, omega arith) e).2 in
          let c : control_in (asked_at σ s at) ≡ load_by (control_unit ((asked_at σ s at).text 1 2)) ((asked_at σ s at).text 1 1) = rw control-is in
          let f = ap (λ (j : Maybe Shape). load_by j ((asked_at σ s at).text 1 1)) unit-here in
          let h = ap (λ (j : List ℕ). load_by (unit (content σ.release x) (shape 12 3) (shape 9 6)) (content σ.release j)) (sym second) in
          cnt-some σ.release s m (asked_at σ s at) (c ∙ f ∙ h ∙ a) l t
