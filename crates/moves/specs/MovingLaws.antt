-- The code's steps: the register read and laid entry by entry.
use Rattle.std.specs.Prelude.{ℕ, zero, suc, ◌+◌, ◌-◌, ◌*◌, ◌≤◌, ◌<◌, Bool, true, false, cond, ◌||◌, List, [], ◌∷◌, ◌++◌, ◌≡◌, refl, eqb, length, Option, Result, Some, None, Ok, Err}
use Rattle.std.proofs.Common.{arith, append_assoc, append-nil, sym, ap, subst, ◌∙◌, length-append, eq-eqb, ne_eqb}
use Rattle.grammar.specs.Grams.{below}
use Rattle.syntax.specs.Refusals.{at_zero}
use Rattle.syntax.specs.declared.Refusal.{Refusal}
use Rattle.writing.specs.Laid.{Laid}
use Rattle.writing.specs.LaidLaws.{laid_same, laid-length, laid_more, laid_none}
use Rattle.writing.specs.Written.{Text, text, no_text, refused_as, too_long, Writes}
use Rattle.writing.specs.WrittenLaws.{writes-none, writes-over, writes-fit, length-told}
use Rattle.forms.specs.declared.Form.{Form}
use Rattle.forms.specs.declared.Entry.{Entry}
use Rattle.forms.specs.Forms.{grams_of, entry_text, entries_text, count_text, register_text, large, sign_lost, any_below, text_in}
use Rattle.forms.specs.FormsLaws.{entries-joined, below_more, or-false}
use Rattle.moves.specs.Stored.{entry_at, Stored, stored, bad, before, followed, entries_at, count_at, counted, stored_by, any_large, moved_to, move_of, Octets, Lays}
use Rattle.moves.specs.GramsLaws.{large-more}
use Rattle.moves.specs.StoredLaws.{count-back}

-- ---- a refusal

module _ (f g : Form) (s out : List ℕ) {r : Result ℕ Refusal} (out' : List ℕ) (q : r ≡ refused_as 17) where
  lays-bad : stored_by f s ≡ bad → Lays (move_of f g s) out r out'
  lays-bad e = subst (λ (x : Stored). Lays (moved_to g x) out r out') (sym e) q

  pub count-bad : {x : Option (ℕ × ℕ)} → x ≡ count_at f s → x ≡ None → Lays (move_of f g s) out r out'
  count-bad h e = lays-bad (ap (counted f s) (sym h ∙ e))

-- ---- the loop: `seen` were read and laid, one of them is below zero or not, and so many are left from i on

pub record Moving (f g : Form) (s : List ℕ) (p₀ : ℕ) (out₀ : List ℕ) (n : ℕ) (out : List ℕ) (p i left : ℕ) (any : Bool) : Type 0 where
  pub seen : List Entry
  pub going : stored_by f s ≡ before seen (entries_at f left s i)
  pub fits : any_large g seen ≡ false
  pub signs : any ≡ any_below seen
  pub sum : length seen + left ≡ n
  pub few : n ≤ 65535
  pub near : p ≤ 11 + 40 * length seen
  pub laid : Laid out₀ p₀ (entries_text g seen) p out
  pub same : length out ≡ length out₀

before-none : (x : Stored) → before [] x ≡ x
before-none bad = refl
before-none (stored es) = refl

before_more : (es : List Entry) (e : Entry) (x : Stored) → before es (before (e ∷ []) x) ≡ before (es ++ (e ∷ [])) x
before_more es e bad = refl
before_more es e (stored fs) = ap stored (sym (append_assoc es (e ∷ []) fs))

entries-more : (g : Form) (es : List Entry) (e : Entry) → entries_text g (es ++ (e ∷ [])) ≡ entries_text g es ++ entry_text g e
entries-more g es e = entries-joined g es (e ∷ []) ∙ ap (λ (t : List ℕ). entries_text g es ++ t) (append-nil (entry_text g e))

entries_next : (f : Form) (n : ℕ) (s : List ℕ) (i : ℕ) → 0 < n → entries_at f n s i ≡ followed (entry_at f s i) (entries_at f (n - 1) s)
unfolding entries_at
entries_next f zero s i h = absurd (omega arith)
entries_next f (suc n) s i h = let z : suc n - 1 ≡ n = omega arith in rw z

entries-last : (f : Form) (n : ℕ) (s : List ℕ) (i : ℕ) → n ≤ 0 → entries_at f n s i ≡ cond (eqb i (length s)) (stored []) bad
unfolding entries_at
entries-last f zero s i h = refl
entries-last f (suc n) s i h = absurd (omega arith)

module _ (f g : Form) (s : List ℕ) where
  pub moving-start : Octets s → {x : Option (ℕ × ℕ)} {n a p left : ℕ} {out : List ℕ} → left ≡ n → x ≡ count_at f s → x ≡ Some (n, a) → p ≤ 11 → Moving f g s p out n out p a left false
  moving-start o {x} {n} {a} {p} z h e l = rw z (record {
    seen = [];
    going = ap (counted f s) (sym h ∙ e) ∙ sym (before-none (entries_at f n s a));
    fits = refl;
    signs = refl;
    sum = omega arith;
    few = (count-back f s o (sym h ∙ e)).1;
    near = omega (arith, l);
    laid = laid_none;
    same = refl;
  })

module _ {f g : Form} {s : List ℕ} {p₀ : ℕ} {out₀ : List ℕ} {n : ℕ} {out : List ℕ} {p i left : ℕ} {any : Bool} (m : Moving f g s p₀ out₀ n out p i left any) where
  pub moving-room : 0 < left → p + 40 < 18446744073709551616
  moving-room h = omega (arith, m.near, m.sum, m.few)

  next : {y z : Option (Entry × ℕ)} → 0 < left → y ≡ entry_at f s i → y ≡ z → stored_by f s ≡ before m.seen (followed z (entries_at f (left - 1) s))
  next h d e = m.going ∙ ap (before m.seen) (entries_next f left s i h ∙ ap (λ (t : Option (Entry × ℕ)). followed t (entries_at f (left - 1) s)) (sym d ∙ e))

  pub moving-on : {y : Option (Entry × ℕ)} {e : Entry} {q r : ℕ} {out' : List ℕ} {t u : Bool} {rest : ℕ} → rest ≡ left - 1 → 0 < left → y ≡ entry_at f s i → y ≡ Some (e, q) → t ≡ large g (grams_of e) → t ≡ false
      → u ≡ (any || below (grams_of e)) → Laid out p (entry_text g e) r out' × (r ≤ p + 40) → Moving f g s p₀ out₀ n out' r q rest u
  moving-on {e = e} {q = q} z h d k v w u l = rw z (record {
    seen = m.seen ++ (e ∷ []);
    going = next h d k ∙ before_more m.seen e (entries_at f (left - 1) s q);
    fits = large-more g m.seen (e ∷ []) ∙ rw (m.fits, ← v, w);
    signs = u ∙ ap (λ (b : Bool). b || below (grams_of e)) m.signs ∙ sym (below_more m.seen (e ∷ []) ∙ ap (λ (b : Bool). any_below m.seen || b) (or-false (below (grams_of e))));
    sum = omega (arith, m.sum, length-append m.seen (e ∷ []));
    few = m.few;
    near = omega (arith, m.near, l.1, length-append m.seen (e ∷ []));
    laid = laid_same (sym (entries-more g m.seen e)) (laid_more m.laid l.0);
    same = laid-length l.0 ∙ m.same;
  })

  pub moving-bad : (w : List ℕ) {y : Option (Entry × ℕ)} {r : Result ℕ Refusal} → 0 < left → y ≡ entry_at f s i → y ≡ None → r ≡ refused_as 17 → Lays (move_of f g s) w r out
  moving-bad w h d k q = lays-bad f g s w out q (next h d k)

  -- grams that are too large are 17, whatever comes behind them
  pub moving-large : (w : List ℕ) {y : Option (Entry × ℕ)} {e : Entry} {q : ℕ} {t : Bool} {r : Result ℕ Refusal} → 0 < left → y ≡ entry_at f s i → y ≡ Some (e, q) → t ≡ large g (grams_of e) → t ≡ true → r ≡ refused_as 17
      → Lays (move_of f g s) w r out
  moving-large w {e = e} {q = q} {r = r} h d k v u z = subst (λ (x : Stored). Lays (moved_to g x) w r out) (sym (next h d k ∙ before_more m.seen e (entries_at f (left - 1) s q))) (by (entries_at f (left - 1) s q))
    where
      large-here : (fs : List Entry) → any_large g (m.seen ++ (e ∷ []) ++ fs) ≡ true
      large-here fs =
          let k : any_large g (m.seen ++ (e ∷ [])) ≡ true = large-more g m.seen (e ∷ []) ∙ rw (m.fits, ← v, u) in
          large-more g (m.seen ++ (e ∷ [])) fs ∙ ap (λ (b : Bool). b || any_large g fs) k

      by : (x : Stored) → Lays (moved_to g (before (m.seen ++ (e ∷ [])) x)) w r out
      by bad = z
      by (stored fs) = rw (large-here fs) z

  last : left ≤ 0 → {b : Bool} → eqb i (length s) ≡ b → stored_by f s ≡ before m.seen (cond b (stored []) bad)
  last h e = m.going ∙ ap (before m.seen) (entries-last f left s i h ∙ ap (λ (b : Bool). cond b (stored []) bad) e)

  pub moving-over : (w : List ℕ) {r : Result ℕ Refusal} → left ≤ 0 → (i ≡ length s → ⊥) → r ≡ refused_as 17 → Lays (move_of f g s) w r out
  moving-over w h d q = lays-bad f g s w out q (last h (ne_eqb i (length s) d))

  -- all were read
  done : left ≤ 0 → i ≡ length s → move_of f g s ≡ text_in g m.seen
  done h d = ap (moved_to g) (last h (eq-eqb i (length s) d) ∙ ap stored (append-nil m.seen)) ∙ rw m.fits

  module _ {t : Bool} (v : t ≡ sign_lost g any) where
    pub moving-sign : (w : List ℕ) {r : Result ℕ Refusal} → left ≤ 0 → i ≡ length s → t ≡ true → r ≡ refused_as 19 → Lays (move_of f g s) w r out
    moving-sign w {r} h d e q =
        let k : sign_lost g (any_below m.seen) ≡ true = sym (v ∙ ap (sign_lost g) m.signs) ∙ e in
        let z : move_of f g s ≡ no_text (at_zero 19) = done h d ∙ rw k in
        subst (λ (x : Text). Lays x w r out) (sym z) q

    pub moving-end : {w : List ℕ} → left ≤ 0 → i ≡ length s → t ≡ false → Laid w 0 (count_text g n) p₀ out₀ → Lays (move_of f g s) w (Ok p) out
    moving-end {w} h d e l =
        let k : sign_lost g (any_below m.seen) ≡ false = sym (v ∙ ap (sign_lost g) m.signs) ∙ e in
        let z : move_of f g s ≡ text (register_text g m.seen) = done h d ∙ rw k in
        subst (λ (x : Text). Lays x w (Ok p) out) (sym z) (told (omega (arith, m.sum)) (laid_more l m.laid))
      where
        told : n ≡ length m.seen → Laid w 0 (count_text g n ++ entries_text g m.seen) p out → (◌≡◌ {A = Result ℕ Refusal} (Ok p) (Ok (length (register_text g m.seen)))) × Laid w 0 (register_text g m.seen) (length (register_text g m.seen)) out
        told e l =
            let v : Laid w 0 (register_text g m.seen) p out = laid_same (ap (λ (c : ℕ). count_text g c ++ entries_text g m.seen) e) l in
            let z : p ≡ length (register_text g m.seen) = omega (arith, v.place) in
            (ap Ok z, subst (λ (j : ℕ). Laid w 0 (register_text g m.seen) j out) z v)

-- ---- measured in no room, and then laid

pub move-refused : (x : Text) (none none' out : List ℕ) {r : Result ℕ Refusal} {f : Refusal} → r ≡ Err f → Lays x none r none' → Writes x out (Err f) out
move-refused (no_text g) none none' out e l = writes-none (sym e ∙ l)
move-refused (text t) none none' out e l = length-told (sym l.0 ∙ e)

length-of : {m n : ℕ} → ◌≡◌ {A = Result ℕ Refusal} (Ok m) (Ok n) → m ≡ n
length-of e = cc

measured : (x : Text) (none none' : List ℕ) {r : Result ℕ Refusal} {m : ℕ} → r ≡ Ok m → Lays x none r none' → (t : List ℕ) × ((x ≡ text t) × (m ≡ length t))
measured (no_text f) none none' e l = length-told (sym e ∙ l)
measured (text t) none none' e l = (t, (refl, length-of (sym e ∙ l.0)))

module _ (x : Text) (none none' : List ℕ) {r : Result ℕ Refusal} {m : ℕ} (e : r ≡ Ok m) (l : Lays x none r none') {out : List ℕ} {b : Bool} (d : b ≡ too_long (length out) m) where
  pub move-over : {q : Result ℕ Refusal} → b ≡ true → q ≡ refused_as 15 → Writes x out q out
  move-over {q} h k =
      let w = measured x none none' e l in
      subst (λ (y : Text). Writes y out q out) (sym w.1.0) (writes-over w.1.1 d h k)

  pub move-fit : {q : Result ℕ Refusal} {out' : List ℕ} → b ≡ false → Lays x out q out' → Writes x out q out'
  move-fit {q} {out'} h k =
      let w = measured x none none' e l in
      let v : Lays (text w.0) out q out' = subst (λ (y : Text). Lays y out q out') w.1.0 k in
      let z : q ≡ Ok m = v.0 ∙ ap Ok (sym w.1.1) in
      subst (λ (y : Text). Writes y out q out') (sym w.1.0) (subst (λ (a : Result ℕ Refusal). Writes (text w.0) out a out') (sym z) (writes-fit w.1.1 d h v.1))
