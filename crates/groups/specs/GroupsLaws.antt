-- What the code finds among the places of the groups is the chosen one of the tree.
use Rattle.groups.specs.declared.named.Range.{Range}
use Rattle.std.specs.Prelude.{ℕ, zero, suc, ◌+◌, ◌-◌, ◌≤◌, ◌<◌, ◌≡◌, refl, List, Bool, true, false, cond, T, get_or, Option, Some, None}
use Rattle.std.proofs.Common.{arith, ap, ◌∙◌, sym, subst}
use Rattle.std.proofs.Math.Option.{some}
use Rattle.syntax.proofs.ContentLaws.{plain-content}
use Rattle.syntax.specs.Octets.{same}
use Rattle.syntax.specs.Content.{content, compared}
use Rattle.syntax.specs.Service.{fit}
use Rattle.syntax.specs.Tree.{Segment}
use Rattle.syntax.specs.declared.Service.{Service}
use Rattle.grammar.specs.Lists.{Snoc, nil, ◌▷◌, ◌+++◌, each, joined, size, among}
use Rattle.grammar.proofs.ListsLaws.{last_of, first-of, joined-join}
use Rattle.grammar.specs.TestLaws.{passes}
use Rattle.grammar.proofs.PlacingLaws.{same-eq}
use Rattle.grammar.specs.Segments.{Ush, Usa, Usr, Ust, seg, element_content, Asked}
use Rattle.grammar.specs.Interchange.{Header, header, Trailer, trailer, show_option, show_certificate, show_header, show_trailer}
use Rattle.grammar.specs.Rules.{ref_h, ref_t}
use Rattle.grammar.specs.Places.{wide, starts_of}
use Rattle.grammar.proofs.PlacesLaws.{wide-join}
use Rattle.message.specs.Heads.{upto}
use Rattle.groups.specs.Stand.{Stand}
use Rattle.groups.specs.StandLaws.{stand-front, stand-back, stand-asked}
use Rattle.groups.specs.Groups.{chosen, chosen_by, name_at, ref_name_at, sought_in, range_of, headers_as, trailers_as}
use Rattle.groups.specs.declared.named.Groups.{Groups}
use Rattle.walk.specs.declared.sections.Layout.{Layout}

-- ---- the search, a group further

-- the search of n groups, the last of which ends at z, comes to the search of the first i of them
pub record Seeking (σ : Service) (s rows : List ℕ) (f e : ℕ) (r : List ℕ) (n z i end : ℕ) : Type 0 where
  pub room : f + n ≤ 18
  pub fewer : i ≤ n
  pub same : sought_in σ s rows f e r n z ≡ sought_in σ s rows f e r i end

module _ {σ : Service} {s rows : List ℕ} {f e : ℕ} {r : List ℕ} {n z i end : ℕ} where
  pub seeking-on : (k start : ℕ) → Seeking σ s rows f e r n z i end → 0 < i → k ≡ i - 1 → start ≡ get_or rows (f + k) 0 → same (ref_name_at σ s start e) r ≡ false
      → Seeking σ s rows f e r n z k start
  seeking-on k start x l a b c = record { room = x.room; fewer = omega (arith, x.fewer, a); same = by i l a x.same }
    where
      by : (i : ℕ) → 0 < i → k ≡ i - 1 → sought_in σ s rows f e r n z ≡ sought_in σ s rows f e r i end → sought_in σ s rows f e r n z ≡ sought_in σ s rows f e r k start
      by zero l a d = absurd (omega (arith, l))
      by (suc i) l a d =
          let q : i ≡ k = omega (arith, a) in
          let g : get_or rows (f + i) 0 ≡ start = ap (λ (j : ℕ). get_or rows (f + j) 0) q ∙ sym b in
          d ∙ ap (λ (j : ℕ). cond (same (ref_name_at σ s j e) r) (Some (record { start = j; end = end })) (sought_in σ s rows f e r i j)) g
          ∙ ap (λ (v : Bool). cond v (Some (record { start = start; end = end })) (sought_in σ s rows f e r i start)) c ∙ ap (λ (j : ℕ). sought_in σ s rows f e r j start) q

  pub seeking-hit : (k start : ℕ) → Seeking σ s rows f e r n z i end → 0 < i → k ≡ i - 1 → start ≡ get_or rows (f + k) 0 → same (ref_name_at σ s start e) r ≡ true
      → Some (record { start = start; end = end }) ≡ sought_in σ s rows f e r n z
  seeking-hit k start x l a b c = by i l a x.same
    where
      by : (i : ℕ) → 0 < i → k ≡ i - 1 → sought_in σ s rows f e r n z ≡ sought_in σ s rows f e r i end → Some (record { start = start; end = end }) ≡ sought_in σ s rows f e r n z
      by zero l a d = absurd (omega (arith, l))
      by (suc i) l a d =
          let q : i ≡ k = omega (arith, a) in
          let g : get_or rows (f + i) 0 ≡ start = ap (λ (j : ℕ). get_or rows (f + j) 0) q ∙ sym b in
          sym (d ∙ ap (λ (j : ℕ). cond (same (ref_name_at σ s j e) r) (Some (record { start = j; end = end })) (sought_in σ s rows f e r i j)) g
          ∙ ap (λ (v : Bool). cond v (Some (record { start = start; end = end })) (sought_in σ s rows f e r i start)) c)

  pub seeking-end : Seeking σ s rows f e r n z i end → i ≤ 0 → None ≡ sought_in σ s rows f e r n z
  seeking-end x l = let q : i ≡ 0 = omega (arith, l) in sym (x.same ∙ ap (λ (j : ℕ). sought_in σ s rows f e r j end) q)

-- ---- the chosen one, in its row

pub record Among {A : Type 0} (name : A → List ℕ) (r : List ℕ) (xs ys : Snoc A) (a : A) : Type 0 where
  pub rest : Snoc A
  pub whole : xs ≡ ys ▷ a +++ rest
  pub ref : name a ≡ r
  pub there : T (among (each name xs) r)

pub chosen-among : {A : Type 0} (name : A → List ℕ) (r : List ℕ) (xs : Snoc A) {ys : Snoc A} {a : A} → chosen_by name xs r ≡ some (chosen ys a) → Among name r xs ys a
chosen-among name r nil e = let z : ◌≡◌ {A = ℕ} 0 1 = cc in absurd (omega arith)
chosen-among {A} name r (xs ▷ x) {ys} {a} e = by (same (name x) r) refl (λ d. chosen-among name r xs d) e
  where
    by : (b : Bool) → same (name x) r ≡ b → (chosen_by name xs r ≡ some (chosen ys a) → Among name r xs ys a) → cond b (some (chosen xs x)) (chosen_by name xs r) ≡ some (chosen ys a)
        → Among name r (xs ▷ x) ys a
    by true d g e =
        let k : xs ≡ ys = cc in
        let j : x ≡ a = cc in
        record {
          rest = nil;
          whole = ap (λ (z : Snoc A). z ▷ x) k ∙ ap (λ (z : A). ys ▷ z) j;
          ref = ap name (sym j) ∙ same-eq (name x) r (passes (same (name x) r) d);
          there = rw d tt;
        }
    by false d g e = let w = g e in record { rest = w.rest ▷ x; whole = ap (λ (z : Snoc A). z ▷ x) w.whole; ref = w.ref; there = rw d w.there }

-- ---- the groups of a message, by its layout

pub groups-sought : (σ : Service) (s rows r : List ℕ) {g k : Groups} {x : Option Range} → x ≡ sought_in σ s rows g.first g.element (compared r) g.count g.end → g ≡ k
    → x ≡ sought_in σ s rows k.first k.element (compared r) k.count k.end
groups-sought σ s rows r e d = e ∙ ap (λ (g : Groups). sought_in σ s rows g.first g.element (compared r) g.count g.end) d

-- a reference that is content already
pub sought-plain : (σ : Service) (s rows r : List ℕ) (g : Groups) {x : Option Range} → x ≡ sought_in σ s rows g.first g.element (compared (content 32 r)) g.count g.end
    → x ≡ sought_in σ s rows g.first g.element (compared r) g.count g.end
sought-plain σ s rows r g d = d ∙ ap (λ (t : List ℕ). sought_in σ s rows g.first g.element (compared t) g.count g.end) (plain-content r)

pub trailers-room : (c : Layout) {g : Groups} → g ≡ trailers_as c → c.trailers ≤ 9 → g.first + g.count ≤ 18
trailers-room c e l = subst (λ (g : Groups). g.first + g.count ≤ 18) (sym e) (omega (arith, l))

pub headers-room : (c : Layout) {g : Groups} → g ≡ headers_as c → c.headers ≤ 9 → g.first + g.count ≤ 18
headers-room c e l = subst (λ (g : Groups). g.first + g.count ≤ 18) (sym e) (omega (arith, l))

-- ---- and on the tree

module _ {A : Type 0} (show : A → Snoc Segment) (name : A → List ℕ) (σ : Service) (s rows : List ℕ) (f e : ℕ) (r : List ℕ) (p : ℕ) where
  -- the octets give each group's reference
  abbrev pub Names : Snoc A → Type 0
  Names nil = Unit {0}
  Names (xs ▷ a) = Names xs × (ref_name_at σ s (p + wide σ (joined show xs)) e ≡ name a)

  pub sought-chosen : (xs : Snoc A) (end : ℕ) → upto (size xs) (λ (i : ℕ). get_or rows (f + i) 0) ≡ starts_of show σ p xs → end ≡ p + wide σ (joined show xs) → Names xs
      → sought_in σ s rows f e r (size xs) end ≡ range_of show σ p (chosen_by name xs r)
  sought-chosen nil end a b n = refl
  sought-chosen (xs ▷ x) end a b n =
      let g : get_or rows (f + size xs) 0 ≡ p + wide σ (joined show xs) = last_of a in
      let z : end ≡ p + wide σ (joined show xs) + wide σ (show x) = omega (arith, b, wide-join σ (joined show xs) (show x)) in
      ap (λ (j : ℕ). cond (same (ref_name_at σ s j e) r) (Some (record { start = j; end = end })) (sought_in σ s rows f e r (size xs) j)) g
      ∙ ap (λ (t : List ℕ). cond (same t r) (Some (record { start = p + wide σ (joined show xs); end = end })) (sought_in σ s rows f e r (size xs) (p + wide σ (joined show xs)))) n.1
      ∙ by (same (name x) r) z (sought-chosen xs (p + wide σ (joined show xs)) (first-of a) refl n.0)
    where
      by : (b : Bool) → end ≡ p + wide σ (joined show xs) + wide σ (show x)
          → sought_in σ s rows f e r (size xs) (p + wide σ (joined show xs)) ≡ range_of show σ p (chosen_by name xs r)
          → cond b (Some (record { start = p + wide σ (joined show xs); end = end })) (sought_in σ s rows f e r (size xs) (p + wide σ (joined show xs)))
          ≡ range_of show σ p (cond b (some (chosen xs x)) (chosen_by name xs r))
      by true z k = ap (λ (j : ℕ). Some (record { start = p + wide σ (joined show xs); end = j })) z
      by false z k = k

  -- where the groups stand, one behind the other, it is enough to know where a group's reference is in its own octets
  pub names_stand : ((q : ℕ) (a : A) → Stand σ s q (show a) → ref_name_at σ s q e ≡ name a) → (xs : Snoc A) → Stand σ s p (joined show xs) → Names xs
  names_stand h nil x = tt
  names_stand h (xs ▷ a) x =
      (names_stand h xs (stand-front σ s p (joined show xs) (show a) x), h (p + wide σ (joined show xs)) a (stand-back σ s p (joined show xs) (show a) x))

  -- ---- the chosen one stands where it is said to

  pub chosen-stands : (xs : Snoc A) {ys : Snoc A} {a : A} → chosen_by name xs r ≡ some (chosen ys a) → Stand σ s p (joined show xs) → Stand σ s (p + wide σ (joined show ys)) (show a)
  chosen-stands xs {ys} {a} e w =
      let c = chosen-among name r xs e in
      stand-back σ s p (joined show ys) (show a)
      (stand-front σ s p (joined show ys +++ show a) (joined show c.rest) (subst (Stand σ s p) (ap (joined show) c.whole ∙ joined-join show (ys ▷ a) c.rest) w))

-- ---- a header has its 0534 in the second element of its USH, a trailer in the first of its UST

module _ (σ : Service) (fits : T (fit σ)) (s : List ℕ) (q : ℕ) where
  pub header-stands : (h : Header) → Stand σ s q (show_header h) → (c : _) (us : _) (cs : _) → h ≡ header c us cs → Stand σ s q (nil ▷ seg Ush c)
  header-stands (header c us cs) x d vs ds e =
      let k : d ≡ c = cc in
      rw k (stand-front σ s q (nil ▷ seg Ush c) (each (seg Usa) us) (stand-front σ s q (nil ▷ seg Ush c +++ each (seg Usa) us) (joined show_certificate cs) x))

  pub header-named : (h : Header) → Stand σ s q (show_header h) → ref_name_at σ s q 2 ≡ ref_h h
  header-named (header c us cs) x = ap (λ (a : Asked). compared (a.text 2 0)) (stand-asked σ s q fits (seg Ush c) (header-stands (header c us cs) x c us cs refl))

  -- as it is written
  pub header-written : (c : _) (us : _) (cs : _) → Stand σ s q (show_header (header c us cs)) → name_at σ s q 2 ≡ element_content c 2 0
  header-written c us cs x = ap (λ (a : Asked). a.text 2 0) (stand-asked σ s q fits (seg Ush c) (header-stands (header c us cs) x c us cs refl))

  -- its scope code
  pub header-scope : (c : _) (us : _) (cs : _) → Stand σ s q (show_header (header c us cs)) → name_at σ s q 3 ≡ element_content c 3 0
  header-scope c us cs x = ap (λ (a : Asked). a.text 3 0) (stand-asked σ s q fits (seg Ush c) (header-stands (header c us cs) x c us cs refl))

  pub trailer-named : (t : Trailer) → Stand σ s q (show_trailer t) → ref_name_at σ s q 1 ≡ ref_t t
  trailer-named (trailer c o) x = ap (λ (a : Asked). compared (a.text 1 0)) (stand-asked σ s q fits (seg Ust c) (stand-front σ s q (nil ▷ seg Ust c) (show_option (seg Usr) o) x))
