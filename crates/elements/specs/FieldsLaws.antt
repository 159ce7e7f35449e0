-- How the pass that notes a segment's fields goes, and what the marks give to those who look.
use Rattle.std.specs.Prelude.{ℕ, zero, suc, ◌+◌, ◌*◌, ◌-◌, ◌≤◌, ◌<◌, List, [], ◌∷◌, ◌≡◌, refl, Bool, true, false, cond, ◌||◌, eqb, ltb, length, get_or, take, drop, set, Option, Some, None}
use Rattle.std.proofs.Common.{arith, ap, sym, ◌∙◌, subst, true≢false, ltb-true, ltb-false, eqb-true, ne_eqb, lt-ltb, length-set, length-drop, drop_of_length-le, get_or-set_same, get_or-set_other}
use Rattle.std.proofs.Math.Bool.{or-false, or-true, or_assoc}
use Rattle.std.proofs.lemmas.Bool.{eqb-false}
use Rattle.syntax.specs.Segment.{Piece, piece, pieces, pieces_at, edge_of, edge_at, at_element, at_component, component_at, part_of, components, repeats, elements, any_repeats}
use Rattle.syntax.proofs.ContentLaws.{part-inside}
use Rattle.syntax.specs.Service.{kind}
use Rattle.syntax.proofs.SegmentLaws.{Stepped, edge-steps, edge-over, after}
use Rattle.syntax.specs.declared.Service.{Service}
use Rattle.syntax.specs.declared.Syntax.{Syntax}
use Rattle.syntax.specs.Scanning.{cut_at}
use Rattle.syntax.specs.Clean.{sound, Clean, CleanEdge, TagAt}
use Rattle.syntax.proofs.CleanLaws.{tidy-start, tidy-separator}
use Rattle.syntax.specs.Classes.{class_of}
use Rattle.syntax.specs.declared.cutting.Cut.TheVariants.{Ends}
use Rattle.elements.specs.declared.fields.Shape.{Shape}
use Rattle.elements.specs.Fields.{rest, Passed, Through, PassedAs, repeating_as, Again, ClosedAs, closed_marks, placed, Noted, Kept, Spared, Taken, TakenOne, TakenAs, TakenOneAs, Cleared, Marked, Fields, FieldsAs}

-- ---- elements and components of a list of pieces

at_next : (m : ℕ) (ps : List Piece) → at_element (suc m) ps ≡ at_element 1 (at_element m ps)
at_next zero ps = refl
at_next (suc m) [] = refl
at_next (suc m) (piece x z k ∷ ps) = pick (eqb k 4) (at_next m ps) (at_next (suc m) ps)
  where
    pick : (t : Bool) → at_element (suc m) ps ≡ at_element 1 (at_element m ps) → at_element (suc (suc m)) ps ≡ at_element 1 (at_element (suc m) ps) →
        cond t (at_element (suc m) ps) (at_element (suc (suc m)) ps) ≡ at_element 1 (cond t (at_element m ps) (at_element (suc m) ps))
    pick true a b = a
    pick false a b = b

none-on : (ps : List Piece) (m d k : ℕ) → k ≡ d + m → at_element m ps ≡ [] → at_element k ps ≡ []
none-on ps m zero k e h = let u : k ≡ m = omega arith in ap (λ (x : ℕ). at_element x ps) u ∙ h
none-on ps m (suc d) k e h =
    let u : k ≡ suc (d + m) = omega arith in
    ap (λ (x : ℕ). at_element x ps) u ∙ at_next (d + m) ps ∙ ap (at_element 1) (none-on ps m d (d + m) refl h)

pub no-element : (ps : List Piece) (m k : ℕ) → at_element m ps ≡ [] → m ≤ k → at_element k ps ≡ []
no-element ps m k h l = none-on ps m (k - m) k (omega arith) h

pub no_part : (ps : List Piece) (c : ℕ) → components ps ≤ c → at_component c ps ≡ None
no_part [] c h = refl
no_part (piece x z k ∷ ps) zero h = few (eqb k 2) h
  where
    few : (t : Bool) → cond t (suc (components ps)) 1 ≤ 0 → ◌≡◌ {A = Option (ℕ × ℕ)} (Some (x, z)) None
    few true h = let w : ⊥ = omega arith in absurd w
    few false h = let w : ⊥ = omega arith in absurd w
no_part (piece x z k ∷ ps) (suc c) h = pick (eqb k 2) h (no_part ps c)
  where
    pick : (t : Bool) → cond t (suc (components ps)) 1 ≤ suc c → (components ps ≤ c → at_component c ps ≡ None) → cond t (at_component c ps) None ≡ None
    pick true h r = r (omega arith)
    pick false h r = refl

same-part : {x z u w : ℕ} → x ≡ u → z ≡ w → ◌≡◌ {A = Option (ℕ × ℕ)} (Some (x, z)) (Some (u, w))
same-part e d = rw (e, d) refl

-- ---- the spans lie in the input

pub record In (n : ℕ) (x z : ℕ) : Type 0 where
  pub order : x ≤ z
  pub end : z < n

abbrev pub SpanIn : ℕ → Option (ℕ × ℕ) → Type 0
SpanIn n (Some (x, z)) = In n x z
SpanIn n None = Unit {0}

abbrev AllIn : ℕ → List Piece → Type 0
AllIn n [] = Unit {0}
AllIn n (piece x z k ∷ ps) = In n x z × AllIn n ps

pieces-in : (σ : Service) (n : ℕ) (l : List ℕ) (f : Bool) (a i : ℕ) → a ≤ i → i + length l ≤ n → AllIn n (pieces σ f a l i)
pieces-in σ n [] f a i h r = tt
pieces-in σ n (b ∷ l) f a i h r = pick (ltb (kind σ f b) 2) (eqb (kind σ f b) 5) (λ (a : ℕ) (h : a ≤ suc i). pieces-in σ n l (eqb (kind σ f b) 0) a (suc i) h (omega arith))
  where
    pick : (t u : Bool) → ((a : ℕ) → a ≤ suc i → AllIn n (pieces σ (eqb (kind σ f b) 0) a l (suc i))) →
        AllIn n (cond t (pieces σ (eqb (kind σ f b) 0) (cond t a (suc i)) l (suc i))
        (piece a i (kind σ f b) ∷ cond u [] (pieces σ (eqb (kind σ f b) 0) (cond t a (suc i)) l (suc i))))
    pick true u g = g a (omega arith)
    pick false true g = (record { order = h; end = omega arith }, tt)
    pick false false g = (record { order = h; end = omega arith }, g (suc i) (omega arith))

element-in : (n e : ℕ) (ps : List Piece) → AllIn n ps → AllIn n (at_element e ps)
element-in n zero ps h = h
element-in n (suc e) [] h = tt
element-in n (suc e) (piece x z k ∷ ps) h = pick (eqb k 4) (element-in n e ps h.1) (element-in n (suc e) ps h.1)
  where
    pick : (t : Bool) → AllIn n (at_element e ps) → AllIn n (at_element (suc e) ps) → AllIn n (cond t (at_element e ps) (at_element (suc e) ps))
    pick true u v = u
    pick false u v = v

span-in : (n c : ℕ) (ps : List Piece) → AllIn n ps → SpanIn n (at_component c ps)
span-in n c [] h = tt
span-in n zero (piece x z k ∷ ps) h = h.0
span-in n (suc c) (piece x z k ∷ ps) h = pick (eqb k 2) (span-in n c ps h.1)
  where
    pick : (t : Bool) → SpanIn n (at_component c ps) → SpanIn n (cond t (at_component c ps) None)
    pick true u = u
    pick false u = tt

pub component-in : (σ : Service) (s : List ℕ) (a p c : ℕ) → SpanIn (length s) (component_at σ s a p c)
component-in σ s a p c = span-in (length s) c (at_element p (pieces_at σ s a)) (element-in (length s) p (pieces_at σ s a) (pick (ltb a (length s)) refl))
  where
    pick : (t : Bool) → ltb a (length s) ≡ t → AllIn (length s) (pieces_at σ s a)
    pick true e = let h = ltb-true a (length s) e in let w = length-drop a s in pieces-in σ (length s) (drop a s) false a a (omega arith) (omega arith)
    pick false e = rw (drop_of_length-le s (ltb-false a (length s) e)) tt

pub part_in : (σ : Service) (s : List ℕ) (a p c : ℕ) {x z : ℕ} → Some (x, z) ≡ component_at σ s a p c → In (length s) x z
part_in σ s a p c e = subst (SpanIn (length s)) (sym e) (component-in σ s a p c)

-- ---- within an element that starts at a: it goes on at j. b: it repeats on the way

pub record Inside (y : Syntax) (s : List ℕ) (a : ℕ) (b : Bool) (j : ℕ) : Type 0 where
  pub low : a ≤ j
  pub next : at_element 1 (pieces_at y.service s a) ≡ at_element 1 (pieces_at y.service s j)
  pub count : elements (pieces_at y.service s a) ≡ elements (pieces_at y.service s j)
  pub any : any_repeats (pieces_at y.service s a) ≡ (b || any_repeats (pieces_at y.service s j))
  pub cuts : cut_at y s j ≡ cut_at y s a

pub inside-start : (y : Syntax) (s : List ℕ) (a : ℕ) → Inside y s a false a
inside-start y s a = record { low = omega arith; next = refl; count = refl; any = refl; cuts = refl }

-- a step of the cursor
clean_at : (y : Syntax) (s : List ℕ) (j : ℕ) {q k : ℕ} {r : Option (ℕ × ℕ)} → CleanEdge y s j r → r ≡ Some (q, k) → Clean y s j q k
clean_at y s j e d = subst (CleanEdge y s j) d e

clean-steps : (y : Syntax) (s : List ℕ) (j : ℕ) {q k : ℕ} {r : Option (ℕ × ℕ)} → CleanEdge y s j r → r ≡ Some (q, k) → Stepped y.service s j q k
clean-steps y s j e d = edge-steps y.service s j (clean_at y s j e d).edge refl

through-on : {y : Syntax} {s : List ℕ} {i at : ℕ} → cut_at y s at ≡ cut_at y s i → Through y s i at false
through-on e = record { on = λ h. e; end = λ (h : false ≡ true). absurd (true≢false (sym h)) }

through-end : {y : Syntax} {s : List ℕ} {i q : ℕ} → cut_at y s i ≡ Ends q → Through y s i (q + 1) true
through-end {y} {s} {i} {q} e =
    let n : q + 1 - 1 ≡ q = omega arith in
    record { on = λ (h : true ≡ false). absurd (true≢false h); end = λ h. (omega arith, rw n e) }

through-from : {y : Syntax} {s : List ℕ} {a i at : ℕ} {ends : Bool} → cut_at y s i ≡ cut_at y s a → Through y s i at ends → Through y s a at ends
through-from e t = record { on = λ h. t.on h ∙ e; end = λ h. ((t.end h).0, sym e ∙ (t.end h).1) }

module _ {y : Syntax} {s : List ℕ} {a j : ℕ} {b : Bool} (g : Inside y s a b j) {r : Option (ℕ × ℕ)} (e : CleanEdge y s j r) where
  pub inside-over : r ≡ None → sound (cut_at y s a) ≡ false
  inside-over d = ap sound (sym g.cuts) ∙ subst (CleanEdge y s j) d e

  module _ {q k : ℕ} (d : r ≡ Some (q, k)) where
    pub inside-fits : (j ≤ q) × (q < length s)
    inside-fits = let w = clean-steps y s j e d in (w.low, w.high)

    goes_on_lem : (k ≡ 5 → ⊥) → cut_at y s (q + 1) ≡ cut_at y s a
    goes_on_lem n = (clean_at y s j e d).next n ∙ g.cuts

    ends-here : k ≡ 5 → cut_at y s a ≡ Ends q
    ends-here n = sym g.cuts ∙ (clean_at y s j e d).last n

    passed-next : k ≡ 4 → Passed y.service s a (q + 1) false b
    passed-next t =
        let w = clean-steps y s j e d in
        let u = w.low in let v = w.high in let o = g.low in
        record {
          next = g.next ∙ ap (at_element 1) w.first ∙ rw t;
          count = g.count ∙ ap elements w.first ∙ rw t;
          any = g.any ∙ ap (λ (ps : List Piece). b || any_repeats ps) w.first ∙ rw t;
          on = λ (h : false ≡ false). (omega arith, omega arith);
        }

    passed-last : k ≡ 5 → Passed y.service s a (q + 1) true b
    passed-last t =
        let w = clean-steps y s j e d in
        record {
          next = g.next ∙ ap (at_element 1) w.first ∙ rw t;
          count = g.count ∙ ap elements w.first ∙ rw t;
          any = g.any ∙ ap (λ (ps : List Piece). b || any_repeats ps) w.first ∙ rw t;
          on = λ (h : true ≡ false). absurd (true≢false h);
        }

    pub inside-next : k ≡ 4 → PassedAs y s a (Some (q + 1, false, b))
    inside-next t = (passed-next t, through-on (goes_on_lem (λ z. omega arith)))

    pub inside-last : k ≡ 5 → PassedAs y s a (Some (q + 1, true, b))
    inside-last t = (passed-last t, through-end (ends-here t))

    pub inside-repeats : k ≡ 3 → Inside y s a true (q + 1)
    inside-repeats t =
        let w = clean-steps y s j e d in
        let u = w.low in let o = g.low in
        record {
          low = omega arith;
          next = g.next ∙ ap (at_element 1) w.first ∙ rw t;
          count = g.count ∙ ap elements w.first ∙ rw t;
          any = g.any ∙ ap (λ (ps : List Piece). b || any_repeats ps) w.first ∙ rw t (or-true b);
          cuts = goes_on_lem (λ z. omega arith);
        }

    pub inside_on : k ≡ 2 → Inside y s a b (q + 1)
    inside_on t =
        let w = clean-steps y s j e d in
        let u = w.low in let o = g.low in
        record {
          low = omega arith;
          next = g.next ∙ ap (at_element 1) w.first ∙ rw t;
          count = g.count ∙ ap elements w.first ∙ rw t;
          any = g.any ∙ ap (λ (ps : List Piece). b || any_repeats ps) w.first ∙ rw t;
          cuts = goes_on_lem (λ z. omega arith);
        }

    pub inside-else : (k ≡ 4 → ⊥) → (k ≡ 5 → ⊥) → (k ≡ 3 → ⊥) → Inside y s a b (q + 1)
    inside-else f v h = let w = clean-steps y s j e d in let l = w.least in let m = w.most in let t : k ≡ 2 = omega arith in inside_on t

    inside-skipped : k ≡ 3 → {at : ℕ} {ends c : Bool} → Passed y.service s (q + 1) at ends c → Passed y.service s a at ends true
    inside-skipped t w =
        let i = inside-repeats t in
        let u = (clean-steps y s j e d).low in let o = g.low in
        record {
          next = i.next ∙ w.next;
          count = i.count ∙ w.count;
          any = i.any;
          on = λ h. let z = w.on h in (omega arith, z.1);
        }

-- ---- the marks of a component

module _ (m : List ℕ) (b n x z : ℕ) (h : length m ≡ 40) (room : b + 8 ≤ 40) where
  pub placed-long : length (placed m b n x z) ≡ 40
  placed-long = pick (ltb n 3)
    where
      pick : (t : Bool) → length (cond t (set (set m (b + 2 + 2 * n) x) (b + 2 + 2 * n + 1) z) m) ≡ 40
      pick true = length-set (set m (b + 2 + 2 * n) x) (b + 2 + 2 * n + 1) z ∙ length-set m (b + 2 + 2 * n) x ∙ h
      pick false = h

  pub placed_below : (i : ℕ) → i < b + 2 + 2 * n → get_or (placed m b n x z) i 0 ≡ get_or m i 0
  placed_below i l = pick (ltb n 3)
    where
      pick : (t : Bool) → get_or (cond t (set (set m (b + 2 + 2 * n) x) (b + 2 + 2 * n + 1) z) m) i 0 ≡ get_or m i 0
      pick true =
          get_or-set_other (set m (b + 2 + 2 * n) x) (b + 2 + 2 * n + 1) i z 0 (λ u. omega arith) ∙
          get_or-set_other m (b + 2 + 2 * n) i x 0 (λ u. omega arith)
      pick false = refl

  pub placed_past : (i : ℕ) → b + 8 ≤ i → get_or (placed m b n x z) i 0 ≡ get_or m i 0
  placed_past i l = pick (ltb n 3) refl
    where
      pick : (t : Bool) → ltb n 3 ≡ t → get_or (cond t (set (set m (b + 2 + 2 * n) x) (b + 2 + 2 * n + 1) z) m) i 0 ≡ get_or m i 0
      pick true e =
          let o = ltb-true n 3 e in
          get_or-set_other (set m (b + 2 + 2 * n) x) (b + 2 + 2 * n + 1) i z 0 (λ u. omega arith) ∙
          get_or-set_other m (b + 2 + 2 * n) i x 0 (λ u. omega arith)
      pick false e = refl

  module _ (l : n ≤ 2) where
    pub placed-start : get_or (placed m b n x z) (b + 2 + 2 * n) 0 ≡ x
    placed-start =
        rw (lt-ltb n 3 (omega arith))
        (get_or-set_other (set m (b + 2 + 2 * n) x) (b + 2 + 2 * n + 1) (b + 2 + 2 * n) z 0 (λ u. omega arith) ∙
        get_or-set_same m (b + 2 + 2 * n) x 0 (omega arith))

    pub placed_end : get_or (placed m b n x z) (b + 2 + 2 * n + 1) 0 ≡ z
    placed_end =
        let w = length-set m (b + 2 + 2 * n) x in
        rw (lt-ltb n 3 (omega arith)) (get_or-set_same (set m (b + 2 + 2 * n) x) (b + 2 + 2 * n + 1) z 0 (omega arith))

-- ---- the marks of an element

-- the spans of n components are in the marks from b on
abbrev pub Listed : List Piece → List ℕ → ℕ → ℕ → Type 0
Listed ps m b n = (c : ℕ) → c ≤ 2 → c < n → Some (get_or m (b + 2 + 2 * c) 0, get_or m (b + 2 + 2 * c + 1) 0) ≡ at_component c ps

pub done-long : (m : List ℕ) (b n v : ℕ) → length m ≡ 40 → length (set (set m b n) (b + 1) v) ≡ 40
done-long m b n v h = length-set (set m b n) (b + 1) v ∙ length-set m b n ∙ h

module _ (ps : List Piece) (m : List ℕ) (b n v : ℕ) (h : length m ≡ 40) (room : b + 8 ≤ 40) where
  done-other : (i : ℕ) → (i ≡ b → ⊥) → (i ≡ b + 1 → ⊥) → get_or (set (set m b n) (b + 1) v) i 0 ≡ get_or m i 0
  done-other i f g = get_or-set_other (set m b n) (b + 1) i v 0 g ∙ get_or-set_other m b i n 0 f

  done-noted : components ps ≡ n → eqb v 1 ≡ repeats ps → Listed ps m b n → Noted ps (set (set m b n) (b + 1) v) b
  done-noted p r f =
      let w = length-set m b n in
      record {
        parts = get_or-set_other (set m b n) (b + 1) b v 0 (λ u. omega arith) ∙ get_or-set_same m b n 0 (omega arith) ∙ sym p;
        repeated = ap (λ (x : ℕ). eqb x 1) (get_or-set_same (set m b n) (b + 1) v 0 (omega arith)) ∙ r;
        spans = λ c l k.
            same-part (done-other (b + 2 + 2 * c) (λ u. omega arith) (λ u. omega arith)) (done-other (b + 2 + 2 * c + 1) (λ u. omega arith) (λ u. omega arith)) ∙
            f c l (omega arith);
      }

  done-kept : (m₀ : List ℕ) → Kept b m₀ m → Kept b m₀ (set (set m b n) (b + 1) v)
  done-kept m₀ k x l = done-other x (λ u. omega arith) (λ u. omega arith) ∙ k x l

  done-spared : (m₀ : List ℕ) → Spared b m₀ m → Spared b m₀ (set (set m b n) (b + 1) v)
  done-spared m₀ k x l = done-other x (λ u. omega arith) (λ u. omega arith) ∙ k x l

-- n components noted of the element that starts at a, which goes on at j
pub record Noting (y : Syntax) (s : List ℕ) (a : ℕ) (m₀ m : List ℕ) (b j n : ℕ) : Type 0 where
  pub inside : Inside y s a false j
  pub long : length m ≡ 40
  pub few : n ≤ j
  pub parts : components (pieces_at y.service s a) ≡ n + components (pieces_at y.service s j)
  pub repeating : repeats (pieces_at y.service s a) ≡ repeats (pieces_at y.service s j)
  pub ahead : (c : ℕ) → at_component (n + c) (pieces_at y.service s a) ≡ at_component c (pieces_at y.service s j)
  pub behind : Listed (pieces_at y.service s a) m b n
  pub kept : Kept b m₀ m
  pub spared : Spared b m₀ m

zero-add : (c : ℕ) → 0 + c ≡ c
zero-add c = omega arith

pub noting-start : (y : Syntax) (s : List ℕ) (a : ℕ) (m : List ℕ) (b : ℕ) → length m ≡ 40 → Noting y s a m m b a 0
noting-start y s a m b h =
    record {
      inside = inside-start y s a;
      long = h;
      few = omega arith;
      parts = omega arith;
      repeating = refl;
      ahead = λ c. ap (λ (x : ℕ). at_component x (pieces_at y.service s a)) (zero-add c);
      behind = λ c l k. let w : ⊥ = omega arith in absurd w;
      kept = λ x l. refl;
      spared = λ x l. refl;
    }

module _ {y : Syntax} {s : List ℕ} {a : ℕ} {m₀ m : List ℕ} {b j n : ℕ} (g : Noting y s a m₀ m b j n) (room : b + 8 ≤ 40)
    {r : Option (ℕ × ℕ)} (e : CleanEdge y s j r) where
  pub noting-over : r ≡ None → TakenAs y s a None m₀ m b
  noting-over d = (inside-over g.inside e d, g.long)

  module _ {q k : ℕ} (d : r ≡ Some (q, k)) where
    pub noting-fits : n < length s
    noting-fits = let w = clean-steps y s j e d in let u = w.low in let v = w.high in let f = g.few in omega arith

    module _ {m' : List ℕ} (p : m' ≡ placed m b n j q) where
      pub noting-long : length m' ≡ 40
      noting-long = ap length p ∙ placed-long m b n j q g.long room

      kept_on : Kept b m₀ m'
      kept_on x l = ap (λ (u : List ℕ). get_or u x 0) p ∙ placed_below m b n j q g.long room x (omega arith) ∙ g.kept x l

      spared-on : Spared b m₀ m'
      spared-on x l = ap (λ (u : List ℕ). get_or u x 0) p ∙ placed_past m b n j q g.long room x l ∙ g.spared x l

      parts-on : components (pieces_at y.service s a) ≡ n + components (piece j q k ∷ after k (pieces_at y.service s (q + 1)))
      parts-on = g.parts ∙ ap (λ (ps : List Piece). n + components ps) (clean-steps y s j e d).first

      repeating-on : repeats (pieces_at y.service s a) ≡ repeats (piece j q k ∷ after k (pieces_at y.service s (q + 1)))
      repeating-on = g.repeating ∙ ap repeats (clean-steps y s j e d).first

      this : n ≤ 2 → Some (get_or m' (b + 2 + 2 * n) 0, get_or m' (b + 2 + 2 * n + 1) 0) ≡ at_component n (pieces_at y.service s a)
      this l =
          let z : n ≡ n + 0 = omega arith in
          same-part (ap (λ (u : List ℕ). get_or u (b + 2 + 2 * n) 0) p ∙ placed-start m b n j q g.long room l)
          (ap (λ (u : List ℕ). get_or u (b + 2 + 2 * n + 1) 0) p ∙ placed_end m b n j q g.long room l) ∙
          sym (ap (λ (x : ℕ). at_component x (pieces_at y.service s a)) z ∙ g.ahead 0 ∙ ap (at_component 0) (clean-steps y s j e d).first)

      behind-on : Listed (pieces_at y.service s a) m' b (n + 1)
      behind-on c l h = pick (ltb c n) refl
        where
          pick : (t : Bool) → ltb c n ≡ t → Some (get_or m' (b + 2 + 2 * c) 0, get_or m' (b + 2 + 2 * c + 1) 0) ≡ at_component c (pieces_at y.service s a)
          pick true o =
              let f = ltb-true c n o in
              same-part (ap (λ (u : List ℕ). get_or u (b + 2 + 2 * c) 0) p ∙ placed_below m b n j q g.long room (b + 2 + 2 * c) (omega arith))
              (ap (λ (u : List ℕ). get_or u (b + 2 + 2 * c + 1) 0) p ∙ placed_below m b n j q g.long room (b + 2 + 2 * c + 1) (omega arith)) ∙
              g.behind c l f
          pick false o =
              let f = ltb-false c n o in
              let z : c ≡ n = omega arith in
              subst (λ (c : ℕ). Some (get_or m' (b + 2 + 2 * c) 0, get_or m' (b + 2 + 2 * c + 1) 0) ≡ at_component c (pieces_at y.service s a)) (sym z) (this (omega arith))

      pub noting-on : k ≡ 2 → Noting y s a m₀ m' b (q + 1) (n + 1)
      noting-on t =
          let w = clean-steps y s j e d in
          let u = w.low in let f = g.few in
          let o : components (pieces_at y.service s a) ≡ n + suc (components (pieces_at y.service s (q + 1))) = parts-on ∙ rw t in
          record {
            inside = inside_on g.inside e d t;
            long = noting-long;
            few = omega arith;
            parts = omega arith;
            repeating = repeating-on ∙ rw t;
            ahead = λ c.
                let z : n + 1 + c ≡ n + suc c = omega arith in
                ap (λ (x : ℕ). at_component x (pieces_at y.service s a)) z ∙ g.ahead (suc c) ∙ ap (at_component (suc c)) w.first ∙ rw t;
            behind = behind-on;
            kept = kept_on;
            spared = spared-on;
          }

      module _ (t : k ≡ 2 → ⊥) where
        last : components (pieces_at y.service s a) ≡ n + 1
        last = parts-on ∙ rw (ne_eqb k 2 t)

        noting-repeats : k ≡ 3 → (p : Option (ℕ × Bool × Bool)) → PassedAs y s (q + 1) p → TakenAs y s a (repeating_as p) m₀ (set (set m' b (n + 1)) (b + 1) 1) b
        noting-repeats o (Some (at, ends, c)) (w, x) = (
          record {
            pass = inside-skipped g.inside e d o w;
            long = done-long m' b (n + 1) 1 noting-long;
            noted = done-noted (pieces_at y.service s a) m' b (n + 1) 1 noting-long room last (sym (repeating-on ∙ rw o)) behind-on;
            kept = done-kept (pieces_at y.service s a) m' b (n + 1) 1 noting-long room m₀ kept_on;
            spared = done-spared (pieces_at y.service s a) m' b (n + 1) 1 noting-long room m₀ spared-on;
          },
          through-from (inside-repeats g.inside e d o).cuts x,
        )
        noting-repeats o None w = (ap sound (sym (inside-repeats g.inside e d o).cuts) ∙ w, done-long m' b (n + 1) 1 noting-long)

        module _ (o : k ≡ 3 → ⊥) where
          once : false ≡ repeats (pieces_at y.service s a)
          once = sym (repeating-on ∙ rw (ne_eqb k 3 o, ne_eqb k 2 t))

          taken-once : {ends : Bool} → Passed y.service s a (q + 1) ends false → Taken y.service s a (q + 1) ends false m₀ (set (set m' b (n + 1)) (b + 1) 0) b
          taken-once f = record {
            pass = f;
            long = done-long m' b (n + 1) 0 noting-long;
            noted = done-noted (pieces_at y.service s a) m' b (n + 1) 0 noting-long room last once behind-on;
            kept = done-kept (pieces_at y.service s a) m' b (n + 1) 0 noting-long room m₀ kept_on;
            spared = done-spared (pieces_at y.service s a) m' b (n + 1) 0 noting-long room m₀ spared-on;
          }

          noting-once : TakenAs y s a (Some (q + 1, eqb k 5, false)) m₀ (set (set m' b (n + 1)) (b + 1) 0) b
          noting-once = by (eqb k 5) refl
            where
              by : (x : Bool) → eqb k 5 ≡ x → TakenAs y s a (Some (q + 1, x, false)) m₀ (set (set m' b (n + 1)) (b + 1) 0) b
              by true h = let v = inside-last g.inside e d (eqb-true k 5 h) in (taken-once v.0, v.1)
              by false h =
                  let w = clean-steps y s j e d in let l = w.least in let u = w.most in let f = eqb-false k 5 h in
                  let v = inside-next g.inside e d (omega arith) in (taken-once v.0, v.1)

        pub noting-closed-long : {m'' : List ℕ} → m'' ≡ closed_marks m' b (n + 1) k → length m'' ≡ 40
        noting-closed-long f = ap length f ∙ done-long m' b (n + 1) (cond (eqb k 3) 1 0) noting-long

        pub noting-closed : {p : Option (ℕ × Bool × Bool)} {m'' : List ℕ} → ClosedAs y s q k p → m'' ≡ closed_marks m' b (n + 1) k → TakenAs y s a p m₀ m'' b
        noting-closed {p} {m''} c f = rw f (by (eqb k 3) refl)
          where
            by : (x : Bool) → eqb k 3 ≡ x → TakenAs y s a p m₀ (set (set m' b (n + 1)) (b + 1) (cond x 1 0)) b
            by true h =
                let o = eqb-true k 3 h in let z = c.again o in
                subst (λ (p : Option (ℕ × Bool × Bool)). TakenAs y s a p m₀ (set (set m' b (n + 1)) (b + 1) 1) b) (sym z.same) (noting-repeats o z.rest z.passed)
            by false h =
                let o = eqb-false k 3 h in
                subst (λ (p : Option (ℕ × Bool × Bool)). TakenAs y s a p m₀ (set (set m' b (n + 1)) (b + 1) 0) b) (sym (c.once o)) (noting-once o)

pub closed-again : {y : Syntax} {s : List ℕ} {q k : ℕ} {r : Option (ℕ × Bool × Bool)} (p : Option (ℕ × Bool × Bool)) → k ≡ 3 → PassedAs y s (q + 1) p → r ≡ repeating_as p → ClosedAs y s q k r
closed-again p t w e = record { again = λ h. record { rest = p; passed = w; same = e }; once = λ h. absurd (h t) }

pub closed-once : {y : Syntax} {s : List ℕ} {q k : ℕ} {r : Option (ℕ × Bool × Bool)} → (k ≡ 3 → ⊥) → r ≡ Some (q + 1, eqb k 5, false) → ClosedAs y s q k r
closed-once t e = record { again = λ h. absurd (t h); once = λ h. e }

-- ---- no element yet

pub clearing-start : {m : List ℕ} → length m ≡ 40 → Cleared m 0 0
clearing-start h = record { room = h; none = λ k l u. let w : ⊥ = omega arith in absurd w }

module _ {m : List ℕ} {n p : ℕ} (g : Cleared m n p) where
  pub clearing-end : 5 ≤ p → Cleared m n 5
  clearing-end h = record { room = g.room; none = λ k l u. g.none k l (omega arith) }

  pub clearing-on : p < 5 → Cleared (set (set m (8 * p) 0) (8 * p + 1) 0) n (p + 1)
  clearing-on h =
      record {
        room = length-set (set m (8 * p) 0) (8 * p + 1) 0 ∙ length-set m (8 * p) 0 ∙ g.room;
        none = λ k l u. pick k l u (ltb k p) refl;
      }
    where
      other : (i : ℕ) → (i ≡ 8 * p → ⊥) → (i ≡ 8 * p + 1 → ⊥) → get_or (set (set m (8 * p) 0) (8 * p + 1) 0) i 0 ≡ get_or m i 0
      other i f g = get_or-set_other (set m (8 * p) 0) (8 * p + 1) i 0 0 g ∙ get_or-set_other m (8 * p) i 0 0 f

      pick : (k : ℕ) → n ≤ k → k < p + 1 → (t : Bool) → ltb k p ≡ t →
          (get_or (set (set m (8 * p) 0) (8 * p + 1) 0) (8 * k) 0 ≡ 0) × (get_or (set (set m (8 * p) 0) (8 * p + 1) 0) (8 * k + 1) 0 ≡ 0)
      pick k l u true e =
          let v = ltb-true k p e in
          let x = g.none k l v in
          (other (8 * k) (λ z. omega arith) (λ z. omega arith) ∙ x.0, other (8 * k + 1) (λ z. omega arith) (λ z. omega arith) ∙ x.1)
      pick k l u false e =
          let v = ltb-false k p e in
          let a = g.room in
          let w = length-set m (8 * p) 0 in
          let z : k ≡ p = omega arith in
          rw z (
            get_or-set_other (set m (8 * p) 0) (8 * p + 1) (8 * p) 0 0 (λ r. omega arith) ∙ get_or-set_same m (8 * p) 0 0 (omega arith),
            get_or-set_same (set m (8 * p) 0) (8 * p + 1) 0 0 (omega arith),
          )

-- ---- the pass

rest-on : (σ : Service) (s : List ℕ) (i : ℕ) (ends : Bool) → ends ≡ false → rest σ s ends i ≡ pieces_at σ s i
rest-on σ s i true h = absurd (true≢false h)
rest-on σ s i false h = refl

rest-off : (σ : Service) (s : List ℕ) (i : ℕ) (ends : Bool) → ends ≡ true → rest σ s ends i ≡ []
rest-off σ s i true h = refl
rest-off σ s i false h = absurd (true≢false (sym h))

count-on : (ends : Bool) (x : ℕ) → ends ≡ false → cond ends 0 (suc x) ≡ suc x
count-on true x h = absurd (true≢false h)
count-on false x h = refl

one_more : (n : ℕ) → n + 1 ≡ suc n
one_more n = omega arith

-- the octets to go
abbrev pub left : List ℕ → Bool → ℕ → ℕ
left s ends i = cond ends 0 (suc (length s - i))

count-off : (ends : Bool) (x : ℕ) → ends ≡ true → cond ends 0 (suc x) ≡ 0
count-off true x h = refl
count-off false x h = absurd (true≢false (sym h))

pub noted-kept : {ps : List Piece} {m m' : List ℕ} {b : ℕ} → Noted ps m b → ((x : ℕ) → x < b + 8 → get_or m' x 0 ≡ get_or m x 0) → Noted ps m' b
noted-kept {ps} {m} {m'} {b} g k =
    record {
      parts = k b (omega arith) ∙ g.parts;
      repeated = ap (λ (x : ℕ). eqb x 1) (k (b + 1) (omega arith)) ∙ g.repeated;
      spans = λ c l h. same-part (k (b + 2 + 2 * c) (omega arith)) (k (b + 2 + 2 * c + 1) (omega arith)) ∙ g.spans c l h;
    }

pub one-past : (y : Syntax) (s : List ℕ) (i : ℕ) (m : List ℕ) (n : ℕ) (r : Option (ℕ × Bool × Bool)) → PassedAs y s i r → length m ≡ 40 → 5 ≤ n → TakenOneAs y s i r m m n
one-past y s i m n (Some (at, ends, c)) (w, x) h l =
    (record { pass = w; long = h; noted = λ u. let z : ⊥ = omega arith in absurd z; kept = λ x u. refl; spared = λ x u. refl }, x)
one-past y s i m n None w h l = (w, h)

pub one-taken : (y : Syntax) (s : List ℕ) (i : ℕ) (m₀ m : List ℕ) (n : ℕ) (r : Option (ℕ × Bool × Bool)) → TakenAs y s i r m₀ m (8 * n) → TakenOneAs y s i r m₀ m n
one-taken y s i m₀ m n (Some (at, ends, c)) (w, x) = (record { pass = w.pass; long = w.long; noted = λ u. w.noted; kept = w.kept; spared = w.spared }, x)
one-taken y s i m₀ m n None w = w

-- n elements of the segment at a taken; the next starts at i, unless it ends. b: something before repeats
pub record Fielding (y : Syntax) (s : List ℕ) (a : ℕ) (m : List ℕ) (i : ℕ) (ends : Bool) (b : Bool) (n : ℕ) : Type 0 where
  pub few : ends ≡ false → (n < i) × (i ≤ length s)
  pub through : Through y s a i ends
  pub next : at_element (suc n) (pieces_at y.service s a) ≡ rest y.service s ends i
  pub count : elements (pieces_at y.service s a) ≡ n + cond ends 0 (suc (elements (rest y.service s ends i)))
  pub any : any_repeats (pieces_at y.service s a) ≡ (b || any_repeats (rest y.service s ends i))
  pub done : (p : ℕ) → p < n → p < 5 → Noted (at_element (suc p) (pieces_at y.service s a)) m (8 * p)
  pub free : Cleared m n 5

pub fielding-start : {y : Syntax} {s : List ℕ} {a : ℕ} {m : List ℕ} {i : ℕ} {ends b : Bool} → PassedAs y s a (Some (i, ends, b)) → Cleared m 0 5 →
    Fielding y s a m i ends b 0
fielding-start (w, x) h =
    record {
      few = λ u. let o = w.on u in (omega arith, o.1);
      through = x;
      next = w.next;
      count = w.count ∙ sym (zero-add _);
      any = w.any;
      done = λ p l u. let z : ⊥ = omega arith in absurd z;
      free = h;
    }

module _ {y : Syntax} {s : List ℕ} {a : ℕ} {m : List ℕ} {i : ℕ} {ends b : Bool} {n : ℕ} (g : Fielding y s a m i ends b n) where
  all_noted : ends ≡ true → Fields y.service s a n b m
  all_noted t =
      let c = g.count in let z = count-off ends (elements (rest y.service s ends i)) t in
      record {
        sizes = omega arith;
        any = sym (g.any ∙ ap (λ (ps : List Piece). b || any_repeats ps) (rest-off y.service s i ends t) ∙ or-false b);
        marks = record { room = g.free.room; each = λ p h. pick p h (ltb p n) refl };
      }
    where
      gone : at_element (suc n) (pieces_at y.service s a) ≡ []
      gone = g.next ∙ rest-off y.service s i ends t

      pick : (p : ℕ) → p < 5 → (t : Bool) → ltb p n ≡ t → Noted (at_element (suc p) (pieces_at y.service s a)) m (8 * p)
      pick p h true e = g.done p (ltb-true p n e) h
      pick p h false e =
          let v = ltb-false p n e in
          let o = g.free.none p v h in
          subst (λ (ps : List Piece). Noted ps m (8 * p)) (sym (no-element (pieces_at y.service s a) (suc n) (suc p) gone (omega arith)))
          (record { parts = o.0; repeated = rw o.1; spans = λ c l k. let z : ⊥ = omega arith in absurd z })

  pub fielding-end : {e : ℕ} {f : Shape} → ends ≡ true → e ≡ i - 1 → f.size ≡ n → f.repeats ≡ b → FieldsAs y s a (Some (e, f)) m
  fielding-end t u v w = (rw u (g.through.end t).1, rw (v, w) (all_noted t))

  pub fielding-high : ends ≡ true → 1 ≤ i
  fielding-high t = (g.through.end t).0

  module _ (t : ends ≡ false) (r : Option (ℕ × Bool × Bool)) (m' : List ℕ) (v : TakenOneAs y s i r m m' n) where
    pub fielding-fits : n < length s
    fielding-fits = let w = g.few t in omega arith

    pub fielding-broken : r ≡ None → FieldsAs y s a None m'
    fielding-broken d =
        let w : TakenOneAs y s i None m m' n = subst (λ (r : Option (ℕ × Bool × Bool)). TakenOneAs y s i r m m' n) d v in
        (ap sound (sym (g.through.on t)) ∙ w.0, w.1)

    module _ {at : ℕ} {ends' c : Bool} (d : r ≡ Some (at, ends', c)) where
      both : TakenOneAs y s i (Some (at, ends', c)) m m' n
      both = subst (λ (r : Option (ℕ × Bool × Bool)). TakenOneAs y s i r m m' n) d v

      w : TakenOne y.service s i at ends' c m m' n
      w = both.0

      pub fielding-less : left s ends' at < left s ends i
      fielding-less = pick ends' w.pass.on
        where
          pick : (x : Bool) → (x ≡ false → (i < at) × (at ≤ length s)) → left s x at < left s ends i
          pick true u = let z = count-on ends (length s - i) t in omega arith
          pick false u = let z = count-on ends (length s - i) t in let v = u refl in omega arith

      pub fielding-on : {b' : Bool} → b' ≡ (b || c) → Fielding y s a m' at ends' b' (n + 1)
      fielding-on {b'} e =
          let k = g.count in let z = count-on ends (elements (rest y.service s ends i)) t in
          let r = ap elements (rest-on y.service s i ends t) in
          let v = w.pass.count in
          record {
            few = λ u. let x = g.few t in let o = w.pass.on u in (omega arith, o.1);
            through = through-from (g.through.on t) both.1;
            next = at_next (n + 1) (pieces_at y.service s a) ∙ ap (at_element 1) (ap (λ (x : ℕ). at_element x (pieces_at y.service s a)) (one_more n) ∙ here) ∙ w.pass.next;
            count = omega arith;
            any = g.any ∙ ap (λ (ps : List Piece). b || any_repeats ps) (rest-on y.service s i ends t) ∙ ap (λ (x : Bool). b || x) w.pass.any ∙
                sym (or_assoc b c _) ∙ ap (λ (x : Bool). x || any_repeats (rest y.service s ends' at)) (sym e);
            done = λ p l u. pick p l u (ltb p n) refl;
            free = record {
              room = w.long;
              none = λ k l u. let o = g.free.none k (omega arith) u in
                  (w.spared (8 * k) (omega arith) ∙ o.0, w.spared (8 * k + 1) (omega arith) ∙ o.1);
            };
          }
        where
          here : at_element (suc n) (pieces_at y.service s a) ≡ pieces_at y.service s i
          here = g.next ∙ rest-on y.service s i ends t

          pick : (p : ℕ) → p < n + 1 → p < 5 → (t : Bool) → ltb p n ≡ t → Noted (at_element (suc p) (pieces_at y.service s a)) m' (8 * p)
          pick p l u true e = let v = ltb-true p n e in noted-kept (g.done p v u) (λ x f. w.kept x (omega arith))
          pick p l u false e =
              let v = ltb-false p n e in
              let z : p ≡ n = omega arith in
              rw z (subst (λ (ps : List Piece). Noted ps m' (8 * n)) (sym here) (w.noted (omega arith)))

-- ---- a tag is passed at once

-- an element separator stands at i
pub pass-separator : {y : Syntax} {s : List ℕ} {i c : ℕ} → i < length s → c ≡ class_of y (get_or s i 0) → c ≡ 4 → PassedAs y s i (Some (i + 1, false, false))
pass-separator {y} {s} {i} {c} h e d = inside-next (inside-start y s i) {r = Some (i, c)} (tidy-separator (tidy-start y s i) h e (omega (arith, e, d)) (omega arith)) refl d

tag-count : {σ : Service} {s : List ℕ} {a i at : ℕ} {ends b : Bool} → a ≤ i → at_element 1 (pieces_at σ s a) ≡ at_element 1 (pieces_at σ s i) →
    elements (pieces_at σ s a) ≡ elements (pieces_at σ s i) → any_repeats (pieces_at σ s a) ≡ any_repeats (pieces_at σ s i) → Passed σ s i at ends b → Passed σ s a at ends b
tag-count l n c r w = record { next = n ∙ w.next; count = c ∙ w.count; any = r ∙ w.any; on = λ h. let z = w.on h in (omega arith, z.1) }

module _ {y : Syntax} {s : List ℕ} {a : ℕ} (g : TagAt y s a) where
  tag-first : {at : ℕ} {ends b : Bool} → Passed y.service s (a + 3) at ends b → Passed y.service s a at ends b
  tag-first {at} {ends} {b} w = by (edge_at y.service s (a + 3)) refl (ap (edge_of y.service s) (sym g.stops))
    where
      by : (r : Option (ℕ × ℕ)) → edge_at y.service s (a + 3) ≡ r → edge_at y.service s (a + 3) ≡ edge_at y.service s a → Passed y.service s a at ends b
      by (Some (q, k)) e d =
          let u = (edge-steps y.service s (a + 3) (sym e) refl).first in
          let v = (edge-steps y.service s a (sym e ∙ d) refl).first in
          tag-count (omega arith) (rw (u, v)) (rw (u, v)) (rw (u, v)) w
      by None e d =
          let u = edge-over y.service s (a + 3) (sym e) refl in
          let v = edge-over y.service s a (sym e ∙ d) refl in
          tag-count (omega arith) (rw (u, v)) (rw (u, v)) (rw (u, v)) w

  pub tag-passed : (p : Option (ℕ × Bool × Bool)) → PassedAs y s (a + 3) p → PassedAs y s a p
  tag-passed (Some (at, ends, b)) (w, x) = (tag-first w, through-from g.cuts x)
  tag-passed None w = ap sound (sym g.cuts) ∙ w

pub tag-behind : {y : Syntax} {s : List ℕ} {a : ℕ} {p : Option (ℕ × Bool × Bool)} {at : ℕ} {ends b : Bool} → TagAt y s a → PassedAs y s (a + 3) p → p ≡ Some (at, ends, b) → PassedAs y s a (Some (at, ends, b))
tag-behind {y} {s} {a} {p} {at} {ends} {b} g w d = tag-passed g (Some (at, ends, b)) (subst (PassedAs y s (a + 3)) d w)

pub tag-broken : {y : Syntax} {s : List ℕ} {a : ℕ} {p : Option (ℕ × Bool × Bool)} (m : List ℕ) → TagAt y s a → PassedAs y s (a + 3) p → p ≡ None → length m ≡ 40 → FieldsAs y s a None m
tag-broken {y} {s} {a} m g w d l = (tag-passed g None (subst (PassedAs y s (a + 3)) d w), l)

-- ---- those who look

module _ {σ : Service} {s : List ℕ} {a : ℕ} {m : List ℕ} (g : Marked σ s a m) {p : ℕ} (l : 1 ≤ p) (h : p ≤ 5) where
  pub marked-at : Noted (at_element p (pieces_at σ s a)) m (8 * (p - 1))
  marked-at =
      let e : suc (p - 1) ≡ p = omega arith in
      subst (λ (x : ℕ). Noted (at_element x (pieces_at σ s a)) m (8 * (p - 1))) e (g.each (p - 1) (omega arith))

  pub marked-parts : get_or m (8 * (p - 1)) 0 ≡ components (at_element p (pieces_at σ s a))
  marked-parts = marked-at.parts

  pub marked-repeated : eqb (get_or m (8 * (p - 1) + 1) 0) 1 ≡ repeats (at_element p (pieces_at σ s a))
  marked-repeated = marked-at.repeated

  module _ {c : ℕ} where
    pub marked-absent : get_or m (8 * (p - 1)) 0 ≤ c → component_at σ s a p c ≡ None
    marked-absent u = let w = marked-parts in no_part (at_element p (pieces_at σ s a)) c (omega arith)

    pub marked-part : c ≤ 2 → c < get_or m (8 * (p - 1)) 0 →
        Some (get_or m (8 * (p - 1) + 2 + 2 * c) 0, get_or m (8 * (p - 1) + 2 + 2 * c + 1) 0) ≡ component_at σ s a p c
    marked-part u v = let w = marked-parts in marked-at.spans c u (omega arith)

    pub marked-in : c ≤ 2 → c < get_or m (8 * (p - 1)) 0 → In (length s) (get_or m (8 * (p - 1) + 2 + 2 * c) 0) (get_or m (8 * (p - 1) + 2 + 2 * c + 1) 0)
    marked-in u v = part_in σ s a p c (marked-part u v)

    -- the octets between two marks, and none
    pub marked-octets : c ≤ 2 → c < get_or m (8 * (p - 1)) 0 →
        take (get_or m (8 * (p - 1) + 2 + 2 * c + 1) 0 - get_or m (8 * (p - 1) + 2 + 2 * c) 0) (drop (get_or m (8 * (p - 1) + 2 + 2 * c) 0) s) ≡
        part_of s (component_at σ s a p c)
    marked-octets u v = part-inside _ _ s (marked-in u v).order ∙ ap (part_of s) (marked-part u v)

    pub marked-none : get_or m (8 * (p - 1)) 0 ≤ c → take 0 s ≡ part_of s (component_at σ s a p c)
    marked-none u = ap (part_of s) (sym (marked-absent u))
