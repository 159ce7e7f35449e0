-- One turn of the walk over segments, stated over octets: where the rest is over, has no end, has a bad tag, or starts with a segment.
use Rattle.std.specs.Prelude.{ℕ, zero, suc, ◌+◌, ◌-◌, ◌≤◌, ◌<◌, List, [], ◌∷◌, ◌++◌, ◌≡◌, refl, Bool, true, false, cond, not, ◌&&◌, T, eqb, leb, length, get_or, take, drop, Option, Some, None}
use Rattle.std.proofs.Common.{arith, append-nil, ap, sym, ◌∙◌, subst, leb-true, leb-false, take-append-drop, drop_of_length-le, drop-cons, drop-drop, take_at, drop_at}
use Rattle.std.proofs.Math.Option.{Option as Maybe, none, some, none-ne-some}
use Rattle.std.proofs.Math.Path.{fun_ext}
use Rattle.std.proofs.Math.Dec.{eqb-suc-zero}
use Rattle.std.proofs.Math.Seq.{slice}
use Rattle.syntax.specs.Service.{fit, kind_of, kind}
use Rattle.syntax.specs.Repertoire.{tag_octet, outside}
use Rattle.syntax.specs.Cutting.{stop_from, end_at, first_outside, tag_of}
use Rattle.syntax.specs.Scanning.{cut_by, stretch, cut_at}
use Rattle.syntax.proofs.CuttingLaws.{slice-take, stop-in}
use Rattle.syntax.specs.Opening.{is_there}
use Rattle.syntax.specs.Tree.{plain, freed, ne, Component, Repeat, Element, Segment, segment, flat_s, spells, print_s, print, well}
use Rattle.syntax.proofs.TreeLaws.{segment-end, tag-print}
use Rattle.syntax.specs.Reader.{Chain, over, left, open', emit, chain, cut, before, gathered}
use Rattle.syntax.proofs.ReaderLaws.{chain-print, read_back, no_place, same_place, ends-here, first-there}
use Rattle.syntax.proofs.BridgeLaws.{alone, bridge}
use Rattle.syntax.specs.declared.Service.{Service}
use Rattle.syntax.specs.declared.Syntax.{Syntax}
use Rattle.syntax.specs.declared.cutting.Cut.TheVariants.{Ends, Spoilt, Open}
use Rattle.grammar.specs.Lists.{check}
use Rattle.grammar.specs.Segments.{Asked, asked, tag_text, element_content}
use Rattle.grammar.specs.Interchange.{Reading}
use Rattle.grammar.specs.Rules.{inside_s}
use Rattle.grammar.specs.Placing.{place}
use Rattle.grammar.specs.Verdict.{refused, found_at, tests, decided, then, at_end, unless-done, tagged-or, walk}
use Rattle.elements.specs.Octets.{text_at, parts_at, repeated_at, asked_at}

-- ---- what the octets of a segment answer is what the segment answers

asks : List ℕ → ℕ → (ℕ → ℕ → List ℕ) → (ℕ → ℕ) → (ℕ → Bool) → Bool → Asked
asks t n x p r a = record { tag = t; size = n; text = x; parts = p; repeated = r; any_repeated = a }

asks-same : {t t' : List ℕ} {n n' : ℕ} {x x' : ℕ → ℕ → List ℕ} {p p' : ℕ → ℕ} {r r' : ℕ → Bool} {a a' : Bool}
    → t ≡ t' → n ≡ n' → x ≡ x' → p ≡ p' → r ≡ r' → a ≡ a' → asks t n x p r a ≡ asks t' n' x' p' r' a'
asks-same {t} {t'} {n} {n'} {x} {x'} {p} {p'} {r} {r'} {a} {a'} h₁ h₂ h₃ h₄ h₅ h₆ =
    ap (λ (v : List ℕ). asks v n x p r a) h₁
    ∙ ap (λ (v : ℕ). asks t' v x p r a) h₂
    ∙ ap (λ (v : ℕ → ℕ → List ℕ). asks t' n' v p r a) h₃
    ∙ ap (λ (v : ℕ → ℕ). asks t' n' x' v r a) h₄
    ∙ ap (λ (v : ℕ → Bool). asks t' n' x' p' v a) h₅
    ∙ ap (asks t' n' x' p' r') h₆

-- where a segment is printed, its octets answer all that is asked as the segment does
pub asked-same : (σ : Service) → T (fit σ) → (s : List ℕ) (a : ℕ) (g : Segment) (r : List ℕ) → T (well σ (g ∷ [])) → drop a s ≡ print_s σ g ++ r → asked_at σ s a ≡ asked g
unfolding asks
asked-same σ f s a (segment x y z es) r w d =
    let b = bridge σ f s a (segment x y z es) r w d in
    let t : slice a (a + 3) s ≡ x ∷ y ∷ z ∷ [] =
    slice-take a (a + 3) s ∙ ap (λ (n : ℕ). take n (drop a s)) three ∙ ap (take 3) d in
    asks-same t b.element-count (fun_ext (λ p. fun_ext (λ c. texts p c))) (fun_ext counts) (fun_ext again) b.any-repeats
  where
    three : a + 3 - a ≡ 3
    three = omega arith

    texts : (p c : ℕ) → text_at σ s a p c ≡ element_content es p c
    texts zero c = refl
    texts (suc p) c = (bridge σ f s a (segment x y z es) r w d).component-content (suc p) c

    counts : (p : ℕ) → parts_at σ s a p ≡ (asked (segment x y z es)).parts p
    counts zero = refl
    counts (suc p) = (bridge σ f s a (segment x y z es) r w d).component-count (suc p)

    again : (p : ℕ) → repeated_at σ s a p ≡ (asked (segment x y z es)).repeated p
    again zero = refl
    again (suc p) = (bridge σ f s a (segment x y z es) r w d).element-repeats (suc p)

-- ---- a segment that ends, in the chain: what stands before its terminator is the same whatever follows

-- an octet that ends no segment goes before what is open, whatever follows
abbrev Before : Bool → ℕ → ℕ → Component → List Component → List Repeat → List Element → Type 0
Before f k b c cs rs es =
    (c' : Component) × (cs' : List Component) × (rs' : List Repeat) × (es' : List Element) × ((n : Chain) → emit f k b (open' c cs rs es n) ≡ open' c' cs' rs' es' n)

put-before : (f : Bool) (k b : ℕ) (c : Component) (cs : List Component) (rs : List Repeat) (es : List Element) → k < 5 → Before f k b c cs rs es
put-before true k b c cs rs es l = (freed b ∷ c, cs, rs, es, λ n. refl)
put-before false zero b c cs rs es l = (c, cs, rs, es, λ n. refl)
put-before false (suc zero) b c cs rs es l = (plain b ∷ c, cs, rs, es, λ n. refl)
put-before false (suc (suc zero)) b c cs rs es l = ([], c ∷ cs, rs, es, λ n. refl)
put-before false (suc (suc (suc zero))) b c cs rs es l = ([], [], ne c cs ∷ rs, es, λ n. refl)
put-before false (suc (suc (suc (suc zero)))) b c cs rs es l = ([], [], [], ne (ne c cs) rs ∷ es, λ n. refl)
put-before false (suc (suc (suc (suc (suc k))))) b c cs rs es l = absurd (omega (arith, l))

-- the first unreleased terminator of s is k octets behind its head
record Parted (σ : Service) (f : Bool) (s : List ℕ) (k : ℕ) : Type 0 where
  pub c : Component
  pub cs : List Component
  pub rs : List Repeat
  pub es : List Element
  pub whole : chain σ f s ≡ open' c cs rs es (chain σ false (drop (suc k) s))
  pub alone : chain σ f (take (suc k) s) ≡ open' c cs rs es over
  pub size : length (take (suc k) s) ≡ suc k
  pub stops : (j : ℕ) → stop_from σ 5 f s j ≡ Some (j + k)

some-place : (e : ℕ) → Some e ≡ None → ⊥
some-place e h = let z : ◌≡◌ {A = ℕ} 0 1 = cc in omega arith

module _ (σ : Service) where
  part-here : (f : Bool) (b : ℕ) (s : List ℕ) → leb 5 (kind σ f b) ≡ true → Parted σ f (b ∷ s) 0
  part-here true b s q = absurd (omega (arith, leb-true 5 1 q))
  part-here false b s q =
      let l : 5 ≤ kind_of σ b = leb-true 5 (kind_of σ b) q in
      record {
        c = [];
        cs = [];
        rs = [];
        es = [];
        whole = ends-here σ (kind_of σ b) b s l;
        alone = ends-here σ (kind_of σ b) b [] l;
        size = refl;
        stops = λ j. rw q (ap Some (omega arith));
      }

  part-on : (f : Bool) (b : ℕ) (s : List ℕ) (k : ℕ) → leb 5 (kind σ f b) ≡ false → Parted σ (eqb (kind σ f b) 0) s k → Parted σ f (b ∷ s) (suc k)
  part-on f b s k q p =
      let m = put-before f (kind σ f b) b p.c p.cs p.rs p.es (leb-false 5 (kind σ f b) q) in
      record {
        c = m.0;
        cs = m.1;
        rs = m.2;
        es = m.3;
        whole = ap (emit f (kind σ f b) b) p.whole ∙ m.4 (chain σ false (drop (suc k) s));
        alone = ap (emit f (kind σ f b) b) p.alone ∙ m.4 over;
        size = ap suc p.size;
        stops = λ j. rw q (p.stops (suc j) ∙ ap Some (omega arith));
      }

  -- where a terminator is found the octets part behind it
  parted : (f : Bool) (s : List ℕ) (i e : ℕ) → stop_from σ 5 f s i ≡ Some e → (k : ℕ) × (e ≡ i + k) × Parted σ f s k
  parted f [] i e h = absurd (no_place e h)
  parted f (b ∷ s) i e h = by (leb 5 (kind σ f b)) refl h (parted (eqb (kind σ f b) 0) s (suc i) e)
    where
      by : (t : Bool) → leb 5 (kind σ f b) ≡ t → cond t (Some i) (stop_from σ 5 (eqb (kind σ f b) 0) s (suc i)) ≡ Some e
          → (stop_from σ 5 (eqb (kind σ f b) 0) s (suc i) ≡ Some e → (k : ℕ) × (e ≡ suc i + k) × Parted σ (eqb (kind σ f b) 0) s k)
          → (k : ℕ) × (e ≡ i + k) × Parted σ f (b ∷ s) k
      by true q h ih = let p : i ≡ e = same_place i e h in (0, omega (arith, p), part-here f b s q)
      by false q h ih = let r = ih h in (suc r.0, omega (arith, r.1), part-on f b s r.0 q r.2)

-- ---- where there is no end, the rest is left; where nothing is left, it is over

low-left : (f : Bool) (k b : ℕ) → k < 5 → emit f k b left ≡ left
low-left true k b l = refl
low-left false zero b l = refl
low-left false (suc zero) b l = refl
low-left false (suc (suc zero)) b l = refl
low-left false (suc (suc (suc zero))) b l = refl
low-left false (suc (suc (suc (suc zero)))) b l = refl
low-left false (suc (suc (suc (suc (suc k))))) b l = absurd (omega (arith, l))

low-over : (f : Bool) (k b : ℕ) → k < 5 → (0 < k) → emit f k b over ≡ left
low-over true k b l m = refl
low-over false zero b l m = absurd (omega (arith, m))
low-over false (suc zero) b l m = refl
low-over false (suc (suc zero)) b l m = refl
low-over false (suc (suc (suc zero))) b l m = refl
low-over false (suc (suc (suc (suc zero)))) b l m = refl
low-over false (suc (suc (suc (suc (suc k))))) b l m = absurd (omega (arith, l))

module _ (σ : Service) where
  last-left : (f : Bool) (k b : ℕ) → k < 5 → emit f k b (chain σ (eqb k 0) []) ≡ left
  last-left f zero b l = low-left f 0 b l
  last-left f (suc k) b l = rw eqb-suc-zero (low-over f (suc k) b l (omega arith))

  none_left : (f : Bool) (b : ℕ) (s : List ℕ) (i : ℕ) → stop_from σ 5 f (b ∷ s) i ≡ None → chain σ f (b ∷ s) ≡ left
  none_left f b [] i h = by (leb 5 (kind σ f b)) refl h
    where
      by : (t : Bool) → leb 5 (kind σ f b) ≡ t → cond t (Some i) None ≡ None → chain σ f (b ∷ []) ≡ left
      by true q h = absurd (some-place i h)
      by false q h = last-left f (kind σ f b) b (leb-false 5 (kind σ f b) q)
  none_left f b (d ∷ s) i h = by (leb 5 (kind σ f b)) refl h (none_left (eqb (kind σ f b) 0) d s (suc i))
    where
      by : (t : Bool) → leb 5 (kind σ f b) ≡ t → cond t (Some i) (stop_from σ 5 (eqb (kind σ f b) 0) (d ∷ s) (suc i)) ≡ None
          → (stop_from σ 5 (eqb (kind σ f b) 0) (d ∷ s) (suc i) ≡ None → chain σ (eqb (kind σ f b) 0) (d ∷ s) ≡ left) → chain σ f (b ∷ d ∷ s) ≡ left
      by true q h ih = absurd (some-place i h)
      by false q h ih = ap (emit f (kind σ f b) b) (ih h) ∙ low-left f (kind σ f b) b (leb-false 5 (kind σ f b) q)

  -- at the end of the input the chain is over
  pub turn-over : (s : List ℕ) (i : ℕ) → length s ≤ i → chain σ false (drop i s) ≡ over
  turn-over s i l = ap (chain σ false) (drop_of_length-le s l)

  -- where octets are left and no terminator ends them, they are left in the chain
  pub turn-left : (s : List ℕ) (i : ℕ) → i < length s → end_at σ s i ≡ None → chain σ false (drop i s) ≡ left
  turn-left s i l h =
      let d : drop i s ≡ get_or s i 0 ∷ drop (suc i) s = drop-cons s i 0 l in
      ap (chain σ false) d ∙ none_left false (get_or s i 0) (drop (suc i) s) i (ap (λ (u : List ℕ). stop_from σ 5 false u i) (sym d) ∙ h)

-- ---- the first segment of a chain

before-one : (o : Maybe Segment) (g : Segment) → before o (some []) ≡ some (g ∷ []) → o ≡ some g
before-one none g e = absurd (none-ne-some (g ∷ []) e)
before-one (some h) g e = let k : h ≡ g = cc in ap some k

print-one : (σ : Service) (g : Segment) → print σ (g ∷ []) ≡ print_s σ g
print-one σ g = ap (spells σ) (append-nil (flat_s g))

pub print-some : (σ : Service) (g : Segment) → 0 < length (print_s σ g)
print-some σ (segment a b c es) = omega arith

-- the chain of s is open, o is what is cut there, and r is behind it
pub record Opens (σ : Service) (s : List ℕ) (o : Maybe Segment) (r : List ℕ) : Type 0 where
  pub c : Component
  pub cs : List Component
  pub rs : List Repeat
  pub es : List Element
  pub whole : chain σ false s ≡ open' c cs rs es (chain σ false r)
  pub first : cut c cs rs es ≡ o

-- a printed segment, whatever follows, opens the chain and is cut as that segment
pub chain-cons : (σ : Service) → T (fit σ) → (g : Segment) → T (well σ (g ∷ [])) → (r : List ℕ) → Opens σ (print_s σ g ++ r) (some g) r
chain-cons σ f g w r = by (parted σ false (print_s σ g ++ r) 0 (0 + (length (print_s σ g) - 1)) (segment-end σ f g (alone σ g w) r 0))
  where
    by : (k : ℕ) × (0 + (length (print_s σ g) - 1) ≡ 0 + k) × Parted σ false (print_s σ g ++ r) k → Opens σ (print_s σ g ++ r) (some g) r
    by (k, e, p) =
        let n : length (print_s σ g) ≡ suc k = omega (arith, e, print-some σ g) in
        let t : chain σ false (print_s σ g) ≡ open' p.c p.cs p.rs p.es over = ap (chain σ false) (sym (take_at (print_s σ g) r (suc k) n)) ∙ p.alone in
        let m : gathered (chain σ false (print_s σ g)) ≡ some (g ∷ []) =
        ap (λ (l : List ℕ). gathered (chain σ false l)) (sym (print-one σ g)) ∙ chain-print σ f (g ∷ []) w in
        record {
          c = p.c;
          cs = p.cs;
          rs = p.rs;
          es = p.es;
          whole = p.whole ∙ ap (λ (l : List ℕ). open' p.c p.cs p.rs p.es (chain σ false l)) (drop_at (print_s σ g) r (suc k) n);
          first = before-one (cut p.c p.cs p.rs p.es) g (sym (ap gathered t) ∙ m);
        }

-- the tag, the further components and repeats, and the elements of what is cut as a segment
cut-shape : (c : Component) (cs : List Component) (rs : List Repeat) (es : List Element) (x y z : ℕ) (us : List Element) → cut c cs rs es ≡ some (segment x y z us)
    → (n : Chain) → open' c cs rs es n ≡ open' (plain x ∷ plain y ∷ plain z ∷ []) [] [] us n
cut-shape c (d ∷ cs) rs es x y z us e n = absurd (none-ne-some (segment x y z us) e)
cut-shape c [] (r ∷ rs) es x y z us e n = absurd (none-ne-some (segment x y z us) e)
cut-shape [] [] [] es x y z us e n = absurd (none-ne-some (segment x y z us) e)
cut-shape (t ∷ []) [] [] es x y z us e n = absurd (none-ne-some (segment x y z us) e)
cut-shape (t ∷ u ∷ []) [] [] es x y z us e n = absurd (none-ne-some (segment x y z us) e)
cut-shape (plain a ∷ plain b ∷ plain c ∷ []) [] [] es x y z us e n = by (tag_octet a && tag_octet b && tag_octet c) e
  where
    by : (t : Bool) → cond t (some (segment a b c es)) none ≡ some (segment x y z us)
        → open' (plain a ∷ plain b ∷ plain c ∷ []) [] [] es n ≡ open' (plain x ∷ plain y ∷ plain z ∷ []) [] [] us n
    by true e = cc
    by false e = absurd (none-ne-some (segment x y z us) e)
cut-shape (plain a ∷ plain b ∷ freed c ∷ []) [] [] es x y z us e n = absurd (none-ne-some (segment x y z us) e)
cut-shape (plain a ∷ freed b ∷ v ∷ []) [] [] es x y z us e n = absurd (none-ne-some (segment x y z us) e)
cut-shape (freed a ∷ u ∷ v ∷ []) [] [] es x y z us e n = absurd (none-ne-some (segment x y z us) e)
cut-shape (t ∷ u ∷ v ∷ w ∷ r) [] [] es x y z us e n = absurd (none-ne-some (segment x y z us) e)

-- and the chain is the tag's three octets and the elements, then the chain of what follows
pub chain-tree : (σ : Service) → T (fit σ) → (x y z : ℕ) (es : List Element) → T (well σ (segment x y z es ∷ [])) → (r : List ℕ)
    → chain σ false (print_s σ (segment x y z es) ++ r) ≡ open' (plain x ∷ plain y ∷ plain z ∷ []) [] [] es (chain σ false r)
chain-tree σ f x y z es w r =
    let o = chain-cons σ f (segment x y z es) w r in o.whole ∙ cut-shape o.c o.cs o.rs o.es x y z es o.first (chain σ false r)

-- ---- a bad tag, a good tag

not-bad : (a b c : ℕ) → ◌≡◌ {A = Option (ℕ × ℕ × ℕ)} (Some (a, b, c)) None → ⊥
not-bad a b c h = let z : ◌≡◌ {A = ℕ} 0 1 = cc in omega arith

-- behind the terminator
next-drop : (s : List ℕ) (i e k : ℕ) → e ≡ i + k → drop (suc k) (drop i s) ≡ drop (e + 1) s
next-drop s i e k h = let n : i + suc k ≡ e + 1 = omega (arith, h) in drop-drop (suc k) i s ∙ ap (λ (n : ℕ). drop n s) n

-- a segment that ends and has a bad tag opens the chain and is cut as none
pub turn-bad : (σ : Service) → T (fit σ) → (s : List ℕ) (i e : ℕ) → end_at σ s i ≡ Some e → tag_of σ (drop i s) ≡ None → Opens σ (drop i s) none (drop (e + 1) s)
turn-bad σ f s i e h t = by (parted σ false (drop i s) i e h)
  where
    by : (k : ℕ) × (e ≡ i + k) × Parted σ false (drop i s) k → Opens σ (drop i s) none (drop (e + 1) s)
    by (k, n, p) =
        record {
          c = p.c;
          cs = p.cs;
          rs = p.rs;
          es = p.es;
          whole = p.whole ∙ ap (λ (l : List ℕ). open' p.c p.cs p.rs p.es (chain σ false l)) (next-drop s i e k n);
          first = cuts (cut p.c p.cs p.rs p.es) refl;
        }
      where
        cuts : (o : Maybe Segment) → cut p.c p.cs p.rs p.es ≡ o → o ≡ none
        cuts none q = refl
        cuts (some (segment x y z us)) q =
            let m : gathered (chain σ false (take (suc k) (drop i s))) ≡ some (segment x y z us ∷ []) = ap gathered p.alone ∙ ap (λ (o : Maybe Segment). before o (some [])) q in
            let w = read_back σ f (take (suc k) (drop i s)) (segment x y z us ∷ []) m in
            let d : print_s σ (segment x y z us) ++ drop (suc k) (drop i s) ≡ drop i s =
            ap (λ (l : List ℕ). l ++ drop (suc k) (drop i s)) (sym (print-one σ (segment x y z us)) ∙ w.1) ∙ take-append-drop (suc k) (drop i s) in
            absurd (not-bad x y z (sym (tag-print σ f x y z us w.0 (drop (suc k) (drop i s))) ∙ ap (tag_of σ) d ∙ t))

-- a segment stands at i and ends at e, tagged a b c
pub record Stands (σ : Service) (s : List ℕ) (i e a b c : ℕ) : Type 0 where
  pub g : Segment
  pub written : T (well σ (g ∷ []))
  pub tagged : tag_text g ≡ a ∷ b ∷ c ∷ []
  pub rest : drop i s ≡ print_s σ g ++ drop (e + 1) s
  pub size : i + length (print_s σ g) ≡ e + 1
  pub octets : print_s σ g ≡ slice i (e + 1) s
  pub asked : asked_at σ s i ≡ asked g

-- where octets end in a terminator and have a good tag a segment stands there
pub turn-good : (σ : Service) → T (fit σ) → (s : List ℕ) (i e a b c : ℕ) → end_at σ s i ≡ Some e → tag_of σ (drop i s) ≡ Some (a, b, c) → Stands σ s i e a b c
turn-good σ f s i e a b c h t = by (parted σ false (drop i s) i e h)
  where
    by : (k : ℕ) × (e ≡ i + k) × Parted σ false (drop i s) k → Stands σ s i e a b c
    by (k, n, p) =
        let x = first-there σ f (drop i s) k a b c (p.stops 0 ∙ ap Some (omega arith)) t in
        let g : Segment = segment a b c x.0 in
        let d : drop i s ≡ print_s σ g ++ drop (e + 1) s =
        sym (take-append-drop (suc k) (drop i s))
        ∙ ap (λ (l : List ℕ). l ++ drop (suc k) (drop i s)) (sym x.2)
        ∙ ap (λ (l : List ℕ). print_s σ g ++ l) (next-drop s i e k n) in
        let l : length (print_s σ g) ≡ suc k = ap length x.2 ∙ p.size in
        let m : e + 1 - i ≡ suc k = omega (arith, n) in
        record {
          g = g;
          written = x.1;
          tagged = refl;
          rest = d;
          size = omega (arith, n, l);
          octets = x.2 ∙ ap (λ (n : ℕ). take n (drop i s)) (sym m) ∙ sym (slice-take i (e + 1) s);
          asked = asked-same σ f s i g (drop (e + 1) s) x.1 d;
        }

-- ---- one turn of the walk

-- where the chain is open, the walk goes by what is cut
opens-walk : (y : Syntax) (x : Reading) (s : List ℕ) (i : ℕ) (o : Maybe Segment) (r : List ℕ) → Opens y.service s o r
    → walk y x (chain y.service false s) i ≡ unless-done x i (tagged-or i o
    (λ (g : Segment). then (decided (tests y g i (place x g)) (place x g)) (λ (z : Reading). walk y z (chain y.service false r) (i + length (print_s y.service g)))))
opens-walk y x s i o r p =
    ap (λ (n : Chain). walk y x n i) p.whole
    ∙ ap (λ (q : Maybe Segment). unless-done x i (tagged-or i q
    (λ (g : Segment). then (decided (tests y g i (place x g)) (place x g)) (λ (z : Reading). walk y z (chain y.service false r) (i + length (print_s y.service g))))))
    p.first

-- whether an octet is outside does not depend on the number of the first
found-anywhere : (y : Syntax) (s : List ℕ) (i j : ℕ) → is_there (first_outside y s i) ≡ is_there (first_outside y s j)
found-anywhere y [] i j = refl
found-anywhere y (b ∷ s) i j = by (outside y b) (found-anywhere y s (suc i) (suc j))
  where
    by : (t : Bool) → is_there (first_outside y s (suc i)) ≡ is_there (first_outside y s (suc j))
        → is_there (cond t (Some i) (first_outside y s (suc i))) ≡ is_there (cond t (Some j) (first_outside y s (suc j)))
    by true h = refl
    by false h = h

-- the segment that stands at i and ends at e, tagged a b c, and the walk's turn over it
pub record Turned (y : Syntax) (x : Reading) (s : List ℕ) (i e a b c : ℕ) : Type 0 where
  pub g : Segment
  pub written : T (well y.service (g ∷ []))
  pub tagged : tag_text g ≡ a ∷ b ∷ c ∷ []
  pub rest : drop i s ≡ print_s y.service g ++ drop (e + 1) s
  pub size : i + length (print_s y.service g) ≡ e + 1
  pub low : i ≤ e
  pub high : e < length s
  pub octets : print_s y.service g ≡ slice i (e + 1) s
  pub asked : asked_at y.service s i ≡ asked g
  pub bad : cut_at y s i ≡ cut_by (Some e) (first_outside y (print_s y.service g) i)
  pub outside : check (inside_s y g) ≡ not (is_there (first_outside y (print_s y.service g) i))
  pub goes : walk y x (chain y.service false (drop i s)) i
      ≡ unless-done x i (then (decided (tests y g i (place x g)) (place x g)) (λ (z : Reading). walk y z (chain y.service false (drop (e + 1) s)) (e + 1)))

module _ (y : Syntax) (x : Reading) (s : List ℕ) (i : ℕ) where
  -- at the end of the input the walk ends
  pub walk-over : length s ≤ i → walk y x (chain y.service false (drop i s)) i ≡ at_end x i
  walk-over l = ap (λ (n : Chain). walk y x n i) (turn-over y.service s i l)

  -- where octets are left and no terminator ends them: 4
  pub walk_none : i < length s → end_at y.service s i ≡ None → walk y x (chain y.service false (drop i s)) i ≡ unless-done x i (refused 4 i)
  walk_none l h = ap (λ (n : Chain). walk y x n i) (turn-left y.service s i l h)

  module _ (f : T (fit y.service)) {e : ℕ} (h : end_at y.service s i ≡ Some e) where
    -- where a segment ends and has a bad tag: 4
    pub walk-bad : tag_of y.service (drop i s) ≡ None → walk y x (chain y.service false (drop i s)) i ≡ unless-done x i (refused 4 i)
    walk-bad t = opens-walk y x (drop i s) i none (drop (e + 1) s) (turn-bad y.service f s i e h t)

    -- where a segment ends and has a good tag: its tests decide, and the walk goes on behind it
    pub walk_turn : {a b c : ℕ} → tag_of y.service (drop i s) ≡ Some (a, b, c) → Turned y x s i e a b c
    walk_turn {a} {b} {c} t =
        let k = turn-good y.service f s i e a b c h t in
        let l = stop-in y.service 5 s (omega arith) i e h in
        let n : e + 1 ≡ suc e = omega arith in
        let o : Opens y.service (drop i s) (some k.g) (drop (e + 1) s) =
        subst (λ (u : List ℕ). Opens y.service u (some k.g) (drop (e + 1) s)) (sym k.rest) (chain-cons y.service f k.g k.written (drop (e + 1) s)) in
        record {
          g = k.g;
          written = k.written;
          tagged = k.tagged;
          rest = k.rest;
          size = k.size;
          low = l.0;
          high = l.1;
          octets = k.octets;
          asked = k.asked;
          bad = ap (λ (q : Option ℕ). cut_by q (first_outside y (stretch s i q) i)) h
              ∙ ap (λ (u : List ℕ). cut_by (Some e) (first_outside y u i)) (ap (λ (m : ℕ). slice i m s) (sym n) ∙ sym k.octets);
          outside = ap not (found-anywhere y (print_s y.service k.g) 0 i);
          goes = opens-walk y x (drop i s) i (some k.g) (drop (e + 1) s) o
              ∙ ap (λ (m : ℕ). unless-done x i (then (decided (tests y k.g i (place x k.g)) (place x k.g))
              (λ (z : Reading). walk y z (chain y.service false (drop (e + 1) s)) m))) k.size;
        }

-- ---- what the cut of a segment says

never-open : {A : Type 0} {e : ℕ} → Ends e ≡ Open → A
never-open h = let z : ◌≡◌ {A = ℕ} 0 1 = cc in let w : ⊥ = omega arith in absurd w

never-spoilt-open : {A : Type 0} {e b : ℕ} → Spoilt e b ≡ Open → A
never-spoilt-open h = let z : ◌≡◌ {A = ℕ} 0 1 = cc in let w : ⊥ = omega arith in absurd w

never_both : {A : Type 0} {e e' b : ℕ} → Spoilt e b ≡ Ends e' → A
never_both h = let z : ◌≡◌ {A = ℕ} 0 1 = cc in let w : ⊥ = omega arith in absurd w

by-open : (q r : Option ℕ) → cut_by q r ≡ Open → q ≡ None
by-open None r h = refl
by-open (Some e) None h = never-open h
by-open (Some e) (Some b) h = never-spoilt-open h

by-ends : (q r : Option ℕ) {e : ℕ} → cut_by q r ≡ Ends e → (q ≡ Some e) × (r ≡ None)
by-ends None r h = never-open (sym h)
by-ends (Some e) None h = (cc, refl)
by-ends (Some e) (Some b) h = never_both h

by-spoilt : (q r : Option ℕ) {e b : ℕ} → cut_by q r ≡ Spoilt e b → (q ≡ Some e) × (r ≡ Some b)
by-spoilt None r h = never-spoilt-open (sym h)
by-spoilt (Some e) None h = never_both (sym h)
by-spoilt (Some e) (Some b) h = (cc, cc)

module _ (y : Syntax) (s : List ℕ) (i : ℕ) where
  -- a cut that is open has no end
  pub cut-open : cut_at y s i ≡ Open → end_at y.service s i ≡ None
  cut-open h = by-open (end_at y.service s i) (first_outside y (stretch s i (end_at y.service s i)) i) h

  -- a cut that ends has this end
  pub cut-ends : {e : ℕ} → cut_at y s i ≡ Ends e → end_at y.service s i ≡ Some e
  cut-ends h = (by-ends (end_at y.service s i) (first_outside y (stretch s i (end_at y.service s i)) i) h).0

  -- and so has one that is spoilt
  pub cut-spoilt : {e b : ℕ} → cut_at y s i ≡ Spoilt e b → end_at y.service s i ≡ Some e
  cut-spoilt h = (by-spoilt (end_at y.service s i) (first_outside y (stretch s i (end_at y.service s i)) i) h).0

module _ {y : Syntax} {x : Reading} {s : List ℕ} {i e a b c : ℕ} (t : Turned y x s i e a b c) where
  -- a cut that ends passes test 3
  pub turned-inside : {q : ℕ} → cut_at y s i ≡ Ends q → check (inside_s y t.g) ≡ true
  turned-inside h = t.outside ∙ ap (λ (r : Option ℕ). not (is_there r)) (by-ends (Some e) (first_outside y (print_s y.service t.g) i) (sym t.bad ∙ h)).1

  -- a cut that is spoilt does not
  pub turned-spoilt : {q p : ℕ} → cut_at y s i ≡ Spoilt q p → check (inside_s y t.g) ≡ false
  turned-spoilt h = t.outside ∙ ap (λ (r : Option ℕ). not (is_there r)) (by-spoilt (Some e) (first_outside y (print_s y.service t.g) i) (sym t.bad ∙ h)).1

  -- and tells the place of test 3
  pub turned-place : {q p : ℕ} → cut_at y s i ≡ Spoilt q p → found_at i (first_outside y (print_s y.service t.g) i) ≡ p
  turned-place h = ap (found_at i) (by-spoilt (Some e) (first_outside y (print_s y.service t.g) i) (sym t.bad ∙ h)).1

  -- so a spoilt segment is refused with 3 at that octet
  pub turned-three : {q p : ℕ} → cut_at y s i ≡ Spoilt q p → (o : Maybe Reading) → decided (tests y t.g i o) o ≡ refused 3 p
  turned-three h o = rw (turned-spoilt h) (ap (refused 3) (turned-place h))
