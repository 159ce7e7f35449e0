-- The reading of a stored register, branch by branch.
use Rattle.std.specs.Prelude.{Bool, List, None, Option, Some, [], cond, drop, eqb, false, get_or, length, negsuc, pos, refl, suc, true, zero, ℕ, ◌%◌, ◌*◌, ◌++◌, ◌+◌, ◌-◌, ◌/◌, ◌<◌, ◌||◌, ◌∷◌, ◌≡◌, ◌≤◌}
use Rattle.std.proofs.Common.{add-one, ap, append-nil, append_assoc, arith, drop-cons, eq-eqb, eqb-true, length-append, ne_eqb, sym, ◌∙◌}
use Rattle.seven.specs.Groups.{read_from}
use Rattle.forms.specs.declared.Form.{Form}
use Rattle.forms.specs.declared.Form.TheVariants.{Old, Signed, Small}
use Rattle.moves.specs.Stored.{Octets, Stored, bad, before, count_at, counted, entries_at, entry_at, followed, grams_by, high_from, marked, move_of, moved_to, number_at, stored, stored_by}
use Rattle.grammar.specs.Grams.{below, magnitude}
use Rattle.writing.specs.Laid.{Laid}
use Rattle.writing.specs.LaidLaws.{laid-length, laid_more, laid_none, laid_same}
use Rattle.forms.specs.declared.Entry.{Entry}
use Rattle.forms.specs.Forms.{any_below, entries_text, entry_text, grams_of, large, mark, text_in}
use Rattle.forms.specs.FormsLaws.{below_more, entries-joined, or-false}
use Rattle.moves.specs.GramsLaws.{large-more}
use Rattle.moves.specs.StoredLaws.{count-back}
use Rattle.std.proofs.lemmas.Bool.{eqb-false}
use Rattle.moves.specs.MovingLaws.{Moving}
use Rattle.moves.specs.NumberLaws.{Highing}

no_more : (u : List ℕ) → length u ≡ 0 → u ≡ []
no_more [] e = refl
no_more (x ∷ u) e = absurd (omega arith)

pub highing-start : {s : List ℕ} {at k most : ℕ} → k ≤ 8 → Highing s at k most 0 at k
highing-start h = record { going = refl; done = 0; sum = omega arith; short = h; small = omega arith }

high-next : (k v most b : ℕ) (s : List ℕ) (i : ℕ) → 0 < k → high_from k v most (b ∷ s) i ≡ high_from (k - 1) (v * 256 + b) most s (i + 1)
unfolding high_from
high-next zero v most b s i h = absurd (omega arith)
high-next (suc k) v most b s i h =
    let z : suc k - 1 ≡ k = omega arith in
    rw (z, add-one i)

module _ {s : List ℕ} {at k most v i left : ℕ} (g : Highing s at k most v i left) where
  pub highing-on : {w : ℕ} → 0 < left → i < length s → (w ≡ get_or s i 0) × (w < 256) → Highing s at k most (v * 256 + w) (i + 1) (left - 1)
  highing-on {w} h l e = record {
    going = g.going ∙ ap (λ (u : List ℕ). high_from left v most u i) (drop-cons s i 0 l) ∙ high-next left v most (get_or s i 0) (drop (suc i) s) i h
        ∙ ap (λ (b : ℕ). high_from (left - 1) (v * 256 + b) most (drop (suc i) s) (i + 1)) (sym e.0) ∙ ap (λ (j : ℕ). high_from (left - 1) (v * 256 + w) most (drop j s) (i + 1)) (sym (add-one i));
    done = suc g.done;
    sum = omega (arith, g.sum);
    short = g.short;
    small = omega (arith, g.small, e.1);
  }

module _ (f : Form) (k : ℕ) where
  pub number_small : (most : ℕ) (s : List ℕ) (i : ℕ) {r : Option (ℕ × ℕ)} → f ≡ Small → r ≡ read_from 10 most (drop i s) i → r ≡ number_at f k most s i
  unfolding number_at
  number_small most s i e h = rw e h

  pub number-signed : (most : ℕ) (s : List ℕ) (i : ℕ) {r : Option (ℕ × ℕ)} → f ≡ Signed → r ≡ read_from 10 most (drop i s) i → r ≡ number_at f k most s i
  unfolding number_at
  number-signed most s i e h = rw e h

pub marked-old : (f : Form) (s : List ℕ) → f ≡ Old → true ≡ marked f s
marked-old f s e = rw e

pub first-none : (s : List ℕ) (b : ℕ) → length s ≡ 0 → 0 < b → false ≡ eqb (get_or s 0 0) b
first-none s b z h = let d : s ≡ [] = no_more s z in rw d (sym (ne_eqb 0 b (λ e. omega (arith, e))))

pub marked-small : (f : Form) (s : List ℕ) {b : Bool} → f ≡ Small → b ≡ eqb (get_or s 0 0) 2 → b ≡ marked f s
marked-small f s e h = rw e h

pub marked-signed : (f : Form) (s : List ℕ) {b : Bool} → f ≡ Signed → b ≡ eqb (get_or s 0 0) 3 → b ≡ marked f s
marked-signed f s e h = rw e h

module _ (f : Form) (s : List ℕ) (i : ℕ) {x : Option (ℕ × ℕ)} (h : x ≡ number_at f 4 4294967295 s i) where
  pub entry-stop : x ≡ None → None ≡ entry_at f s i
  entry-stop e = rw (← h, e)

  module _ {p a : ℕ} (e : x ≡ Some (p, a)) {y : Option (ℕ × ℕ)} (k : y ≡ number_at f 4 4294967295 s a) where
    pub entry-stop2 : y ≡ None → None ≡ entry_at f s i
    entry-stop2 d = rw (← h, e, ← k, d)

    module _ {l b : ℕ} (d : y ≡ Some (l, b)) {z : Option (ℕ × ℕ)} (m : z ≡ number_at f 4 4294967295 s b) where
      pub entry-stop3 : z ≡ None → None ≡ entry_at f s i
      entry-stop3 t = rw (← h, e, ← k, d, ← m, t)

      module _ {o c : ℕ} (t : z ≡ Some (o, c)) {w : Option (ℕ × ℕ)} (n : w ≡ number_at f 8 18446744073709551615 s c) where
        pub entry-stop4 : w ≡ None → None ≡ entry_at f s i
        entry-stop4 u = rw (← h, e, ← k, d, ← m, t, ← n, u)

        pub entry_read : {v q g : ℕ} {b : Bool} → w ≡ Some (v, q) → g ≡ magnitude (grams_by f v) → b ≡ below (grams_by f v)
            → Some (record { place = p; length = l; loads = o; grams = g; below = b }, q) ≡ entry_at f s i
        entry_read u x y = rw (← h, e, ← k, d, ← m, t, ← n, u, x, y)

module _ (f : Form) (s : List ℕ) {b : Bool} (h : b ≡ marked f s) where
  pub count-other : b ≡ false → None ≡ count_at f s
  count-other e = rw (← h, e)

  pub count-read : {r : Option (ℕ × ℕ)} {m : ℕ} → b ≡ true → m ≡ length (mark f) → r ≡ number_at f 4 65535 s m → r ≡ count_at f s
  count-read e d k = k ∙ rw (← h, e, d)

before-none : (x : Stored) → before [] x ≡ x
before-none bad = refl
before-none (stored es) = refl

before_more : (es : List Entry) (e : Entry) (x : Stored) → before es (before (e ∷ []) x) ≡ before (es ++ (e ∷ [])) x
before_more es e bad = refl
before_more es e (stored fs) = ap stored (sym (append_assoc es (e ∷ []) fs))

entries-more : (g : Form) (es : List Entry) (e : Entry) → entries_text g (es ++ (e ∷ [])) ≡ entries_text g es ++ entry_text g e
entries-more g es e = entries-joined g es (e ∷ []) ∙ ap (λ (t : List ℕ). entries_text g es ++ t) (append-nil (entry_text g e))

entries_next : (f : Form) (n : ℕ) (s : List ℕ) (i : ℕ) → 0 < n → entries_at f n s i ≡ followed (entry_at f s i) (entries_at f (n - 1) s)
unfolding entries_at
entries_next f zero s i h = absurd (omega arith)
entries_next f (suc n) s i h = let z : suc n - 1 ≡ n = omega arith in rw z

entries-last : (f : Form) (n : ℕ) (s : List ℕ) (i : ℕ) → n ≤ 0 → entries_at f n s i ≡ cond (eqb i (length s)) (stored []) bad
unfolding entries_at
entries-last f zero s i h = refl
entries-last f (suc n) s i h = absurd (omega arith)

module _ (f g : Form) (s : List ℕ) where
  pub moving-start : Octets s → {x : Option (ℕ × ℕ)} {n a p : ℕ} {out : List ℕ} → x ≡ count_at f s → x ≡ Some (n, a) → p ≤ 11 → Moving f g s p out n out p a n false
  moving-start o {x} {n} {a} {p} h e l = record {
    seen = [];
    going = ap (counted f s) (sym h ∙ e) ∙ sym (before-none (entries_at f n s a));
    fits = refl;
    signs = refl;
    sum = omega arith;
    few = (count-back f s o (sym h ∙ e)).1;
    near = omega (arith, l);
    laid = laid_none;
    same = refl;
  }

module _ {f g : Form} {s : List ℕ} {p₀ : ℕ} {out₀ : List ℕ} {n : ℕ} {out : List ℕ} {p i left : ℕ} {any : Bool} (m : Moving f g s p₀ out₀ n out p i left any) where
  next : {y z : Option (Entry × ℕ)} → 0 < left → y ≡ entry_at f s i → y ≡ z → stored_by f s ≡ before m.seen (followed z (entries_at f (left - 1) s))
  next h d e = m.going ∙ ap (before m.seen) (entries_next f left s i h ∙ ap (λ (t : Option (Entry × ℕ)). followed t (entries_at f (left - 1) s)) (sym d ∙ e))

  pub moving-on : {y : Option (Entry × ℕ)} {e : Entry} {q r : ℕ} {out' : List ℕ} {t u : Bool} → 0 < left → y ≡ entry_at f s i → y ≡ Some (e, q) → t ≡ large g (grams_of e) → t ≡ false
      → u ≡ (any || below (grams_of e)) → Laid out p (entry_text g e) r out' × (r ≤ p + 40) → Moving f g s p₀ out₀ n out' r q (left - 1) u
  moving-on {e = e} {q = q} h d k v w u l = record {
    seen = m.seen ++ (e ∷ []);
    going = next h d k ∙ before_more m.seen e (entries_at f (left - 1) s q);
    fits = large-more g m.seen (e ∷ []) ∙ rw (m.fits, ← v, w);
    signs = u ∙ ap (λ (b : Bool). b || below (grams_of e)) m.signs ∙ sym (below_more m.seen (e ∷ []) ∙ ap (λ (b : Bool). any_below m.seen || b) (or-false (below (grams_of e))));
    sum = omega (arith, m.sum, length-append m.seen (e ∷ []));
    few = m.few;
    near = omega (arith, m.near, l.1, length-append m.seen (e ∷ []));
    laid = laid_same (sym (entries-more g m.seen e)) (laid_more m.laid l.0);
    same = laid-length l.0 ∙ m.same;
  }

  last : left ≤ 0 → {b : Bool} → eqb i (length s) ≡ b → stored_by f s ≡ before m.seen (cond b (stored []) bad)
  last h e = m.going ∙ ap (before m.seen) (entries-last f left s i h ∙ ap (λ (b : Bool). cond b (stored []) bad) e)

  -- all were read
  done : left ≤ 0 → i ≡ length s → move_of f g s ≡ text_in g m.seen
  done h d = ap (moved_to g) (last h (eq-eqb i (length s) d) ∙ ap stored (append-nil m.seen)) ∙ rw m.fits

parity : (n : ℕ) → eqb (n % 2) 1 ≡ false → n % 2 ≡ 0
parity n e = by (n % 2) (omega arith) (eqb-false (n % 2) 1 e)
  where
    by : (x : ℕ) → x < 2 → (x ≡ 1 → ⊥) → x ≡ 0
    by zero l k = refl
    by (suc zero) l k = absurd (k refl)
    by (suc (suc x)) l k = absurd (omega arith)

module _ (f : Form) (n : ℕ) where
  pub magnitude-read : f ≡ Signed → n / 2 + n % 2 ≡ magnitude (grams_by f n)
  magnitude-read d = rw d (by (eqb (n % 2) 1) refl)
    where
      by : (t : Bool) → eqb (n % 2) 1 ≡ t → n / 2 + n % 2 ≡ magnitude (cond t (negsuc (n / 2)) (pos (n / 2)))
      by true e = let o : n % 2 ≡ 1 = eqb-true (n % 2) 1 e in omega arith
      by false e = let o : n % 2 ≡ 0 = parity n e in omega arith

  pub below-read : f ≡ Signed → eqb (n % 2) 1 ≡ below (grams_by f n)
  below-read d = rw d (by (eqb (n % 2) 1))
    where
      by : (t : Bool) → t ≡ below (cond t (negsuc (n / 2)) (pos (n / 2)))
      by true = refl
      by false = refl
