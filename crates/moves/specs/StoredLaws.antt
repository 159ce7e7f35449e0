-- What is printed is read back, what is read was printed so, and a move there and back gives the same octets.
use Rattle.std.specs.Prelude.{ℕ, zero, suc, ◌+◌, ◌≤◌, Bool, true, false, cond, List, [], ◌∷◌, ◌++◌, ◌≡◌, refl, T, eqb, length, drop, Option, Some, None}
use Rattle.std.proofs.Common.{arith, append_assoc, sym, ap, subst, ◌∙◌, eq-eqb, eqb-true}
use Rattle.std.proofs.lemmas.Option.{some_pair_parts}
use Rattle.grammar.specs.Grams.{Grams}
use Rattle.writing.specs.Written.{text}
use Rattle.forms.specs.declared.Form.{Form}
use Rattle.forms.specs.declared.Form.TheVariants.{Old, Small, Signed}
use Rattle.forms.specs.declared.Entry.{Entry}
use Rattle.forms.specs.Forms.{number_text, grams_of, entry, grams_number, entry_text, entries_text, mark, count_text, register_text}
use Rattle.moves.specs.Stored.{number_at, grams_by, and_then, entry_at, Stored, stored, bad, before, followed, entries_at, marked, count_at, counted, stored_by, moved_to, move_of, holds, Octets, Fit, AllFit}
use Rattle.moves.specs.NumberLaws.{Spell, spell-more, spell-first, spell_last, spell-none, spell-all, spell-whole, Holds, number-there, number-back}
use Rattle.moves.specs.GramsLaws.{number-back-to, read_held, held_back, entry-grams, entry-plain, fit-moved, moved_fit}

four : Holds 4 4294967295
four = (omega arith, omega arith)

eight : Holds 8 18446744073709551615
eight = (omega arith, omega arith)

few : Holds 4 65535
few = (omega arith, omega arith)

-- ---- an entry

module _ (f : Form) (s : List ℕ) where
  pub entry-there : (e : Entry) (i q : ℕ) → Fit f e → Spell s i (entry_text f e) q → entry_at f s i ≡ Some (e, q)
  entry-there e i q h g =
      let b = held_back f (grams_of e) h.grams in
      let P = number_text f 4 e.place in
      let L = number_text f 4 e.length in
      let O = number_text f 4 e.loads in
      let n = grams_number f (grams_of e) in
      let G = number_text f 8 n in
      let c = spell-first (P ++ L ++ O) G g in
      let d = spell-first (P ++ L) O c in
      let a = spell-first P L d in
      let w : number_at f 4 4294967295 s i ≡ Some (e.place, i + length P) = number-there 4 4294967295 four s f h.place a in
      let x : number_at f 4 4294967295 s (i + length P) ≡ Some (e.length, i + length (P ++ L)) = number-there 4 4294967295 four s f h.length (spell_last P L d) in
      let y : number_at f 4 4294967295 s (i + length (P ++ L)) ≡ Some (e.loads, i + length (P ++ L ++ O)) = number-there 4 4294967295 four s f h.loads (spell_last (P ++ L) O c) in
      let z : number_at f 8 18446744073709551615 s (i + length (P ++ L ++ O)) ≡ Some (n, q) = number-there 8 18446744073709551615 eight s f b.0 (spell_last (P ++ L ++ O) G g) in
      rw (w, x, y, z) (ap (λ (e : Entry). Some (e, q)) (ap (entry e.place e.length e.loads) b.1 ∙ h.plain))

then_one : (x : Option (ℕ × ℕ)) (k : ℕ → ℕ → Option (Entry × ℕ)) {e : Entry} {q : ℕ} → and_then x k ≡ Some (e, q) → (n : ℕ) × (a : ℕ) × ((x ≡ Some (n, a)) × (k n a ≡ Some (e, q)))
then_one None k w = let z : ◌≡◌ {A = ℕ} 0 1 = cc in absurd (omega arith)
then_one (Some (n, a)) k w = (n, a, (refl, w))

pub entry-back : (f : Form) (s : List ℕ) → Octets s → (i : ℕ) {e : Entry} {q : ℕ} → entry_at f s i ≡ Some (e, q) → Spell s i (entry_text f e) q × Fit f e
entry-back f s o i {e} {q} w =
    let a = then_one _ _ w in
    let b = then_one _ _ a.2.1 in
    let c = then_one _ _ b.2.1 in
    let d = then_one _ _ c.2.1 in
    let p = number-back 4 4294967295 s o f i a.2.0 in
    let l = number-back 4 4294967295 s o f a.1 b.2.0 in
    let u = number-back 4 4294967295 s o f b.1 c.2.0 in
    let g = number-back 8 18446744073709551615 s o f c.1 d.2.0 in
    let z = grams_by f d.0 in
    let b₀ = entry-grams a.0 b.0 c.0 z in
    let m : d.0 ≡ grams_number f (grams_of (entry a.0 b.0 c.0 z)) = sym (ap (grams_number f) b₀ ∙ number-back-to f d.0) in
    let t : Spell s c.1 (number_text f 8 (grams_number f (grams_of (entry a.0 b.0 c.0 z)))) d.1 = subst (λ (k : ℕ). Spell s c.1 (number_text f 8 k) d.1) m g.0 in
    same d.2.1 (spell-more (spell-more (spell-more p.0 l.0) u.0) t) (record {
      place = p.1;
      length = l.1;
      loads = u.1;
      grams = subst (λ (z : Grams). T (holds f z)) (sym b₀) (read_held f d.0 g.1);
      plain = entry-plain a.0 b.0 c.0 z;
    })
  where
    same : {e₁ : Entry} {r : ℕ} → ◌≡◌ {A = Option (Entry × ℕ)} (Some (e₁, r)) (Some (e, q)) → Spell s i (entry_text f e₁) r → Fit f e₁ → Spell s i (entry_text f e) q × Fit f e
    same {e₁} {r} w h t =
        let both = some_pair_parts _ _ _ _ w in
        let x : e₁ ≡ e = both.0 in
        let y : r ≡ q = both.1 in
        rw (← x, ← y) (h, t)

-- ---- the entries

pub entries-there : (f : Form) (s : List ℕ) (es : List Entry) (i : ℕ) → AllFit f es → Spell s i (entries_text f es) (length s) → entries_at f (length es) s i ≡ stored es
unfolding entries_at
entries-there f s [] i h g = rw (eq-eqb i (length s) (omega (arith, g.after)))
entries-there f s (e ∷ es) i h g =
    rw (entry-there f s e i (i + length (entry_text f e)) h.0 (spell-first (entry_text f e) (entries_text f es) g), entries-there f s es (i + length (entry_text f e)) h.1 (spell_last (entry_text f e) (entries_text f es) g))

pub record Lists (f : Form) (n : ℕ) (s : List ℕ) (i : ℕ) (es : List Entry) : Type 0 where
  pub count : n ≡ length es
  pub fit : AllFit f es
  pub spells : Spell s i (entries_text f es) (length s)

pub entries-back : (f : Form) (s : List ℕ) → Octets s → (n i : ℕ) (es : List Entry) → entries_at f n s i ≡ stored es → Lists f n s i es
unfolding entries_at
entries-back f s o zero i es w = by (eqb i (length s)) refl w
  where
    by : (b : Bool) → eqb i (length s) ≡ b → cond b (stored []) bad ≡ stored es → Lists f zero s i es
    by false y w = let z : ◌≡◌ {A = ℕ} 0 1 = cc in absurd (omega arith)
    by true y w =
        let e : [] ≡ es = cc in
        let l : i ≡ length s = eqb-true i (length s) y in
        rw (← e) (record { count = refl; fit = tt; spells = record { rest = drop i s; spelled = refl; after = omega arith } })
entries-back f s o (suc n) i es w = by (entry_at f s i) refl w (λ q fs. entries-back f s o n q fs)
  where
    on : (e : Entry) (q : ℕ) → entry_at f s i ≡ Some (e, q) → (x : Stored) → entries_at f n s q ≡ x → before (e ∷ []) x ≡ stored es → ((fs : List Entry) → entries_at f n s q ≡ stored fs → Lists f n s q fs) → Lists f (suc n) s i es
    on e q y bad v w ih = let z : ◌≡◌ {A = ℕ} 0 1 = cc in absurd (omega arith)
    on e q y (stored fs) v w ih =
        let d : e ∷ fs ≡ es = cc in
        let h = ih fs v in
        let k = entry-back f s o i y in
        rw (← d) (record { count = ap suc h.count; fit = (k.1, h.fit); spells = spell-more k.0 h.spells })

    by : (x : Option (Entry × ℕ)) → entry_at f s i ≡ x → followed x (entries_at f n s) ≡ stored es → ((q : ℕ) (fs : List Entry) → entries_at f n s q ≡ stored fs → Lists f n s q fs) → Lists f (suc n) s i es
    by None y w ih = let z : ◌≡◌ {A = ℕ} 0 1 = cc in absurd (omega arith)
    by (Some (e, q)) y w ih = on e q y (entries_at f n s q) refl w (ih q)

-- ---- the count and its mark

mark-there : (f : Form) (s t : List ℕ) → s ≡ mark f ++ t → marked f s ≡ true
mark-there Old s t e = refl
mark-there Small s t e = rw e
mark-there Signed s t e = rw e

mark-back : (f : Form) (s : List ℕ) → marked f s ≡ true → Spell s 0 (mark f) (length (mark f))
mark-back Old s e = spell-none
mark-back Small [] e = let z : ◌≡◌ {A = ℕ} 0 1 = cc in absurd (omega arith)
mark-back Small (x ∷ s) e = record { rest = s; spelled = ap (λ (b : ℕ). b ∷ s) (eqb-true x 2 e); after = refl }
mark-back Signed [] e = let z : ◌≡◌ {A = ℕ} 0 1 = cc in absurd (omega arith)
mark-back Signed (x ∷ s) e = record { rest = s; spelled = ap (λ (b : ℕ). b ∷ s) (eqb-true x 3 e); after = refl }

pub count-back : (f : Form) (s : List ℕ) → Octets s → {n i : ℕ} → count_at f s ≡ Some (n, i) → Spell s 0 (count_text f n) i × (n ≤ 65535)
count-back f s o {n} {i} w = by (marked f s) refl w
  where
    by : (b : Bool) → marked f s ≡ b → cond b (number_at f 4 65535 s (length (mark f))) None ≡ Some (n, i) → Spell s 0 (count_text f n) i × (n ≤ 65535)
    by false y w = let z : ◌≡◌ {A = ℕ} 0 1 = cc in absurd (omega arith)
    by true y w = let h = number-back 4 65535 s o f (length (mark f)) w in (spell-more (mark-back f s y) h.0, h.1)

-- ---- the register

pub stored_there : (f : Form) (es : List Entry) → length es ≤ 65535 → AllFit f es → stored_by f (register_text f es) ≡ stored es
stored_there f es l h =
    let s = register_text f es in
    let g = spell-all s in
    let C = count_text f (length es) in
    let c = spell-first C (entries_text f es) g in
    let a = mark-there f s (number_text f 4 (length es) ++ entries_text f es) (append_assoc (mark f) (number_text f 4 (length es)) (entries_text f es)) in
    let n : number_at f 4 65535 s (0 + length (mark f)) ≡ Some (length es, 0 + length (count_text f (length es))) = number-there 4 65535 few s f l (spell_last (mark f) (number_text f 4 (length es)) c) in
    let z : 0 + length (mark f) ≡ length (mark f) = omega arith in
    let n' : number_at f 4 65535 s (length (mark f)) ≡ Some (length es, 0 + length (count_text f (length es))) = ap (number_at f 4 65535 s) (sym z) ∙ n in
    ap (λ (b : Bool). counted f s (cond b (number_at f 4 65535 s (length (mark f))) None)) a ∙ ap (counted f s) n' ∙ entries-there f s es (0 + length (count_text f (length es))) h (spell_last C (entries_text f es) g)

pub record Kept (f : Form) (s : List ℕ) (es : List Entry) : Type 0 where
  pub printed : register_text f es ≡ s
  pub few : length es ≤ 65535
  pub fit : AllFit f es

pub stored_back : (f : Form) (s : List ℕ) → Octets s → (es : List Entry) → stored_by f s ≡ stored es → Kept f s es
stored_back f s o es w = by (count_at f s) refl w
  where
    by : (x : Option (ℕ × ℕ)) → count_at f s ≡ x → counted f s x ≡ stored es → Kept f s es
    by None y w = let z : ◌≡◌ {A = ℕ} 0 1 = cc in absurd (omega arith)
    by (Some (n, i)) y w =
        let c = count-back f s o y in
        let h = entries-back f s o n i es w in
        let d : Spell s 0 (count_text f (length es)) i = subst (λ (m : ℕ). Spell s 0 (count_text f m) i) h.count c.0 in
        record { printed = spell-whole (spell-more d h.spells); few = omega (arith, h.count, c.1); fit = h.fit }

-- "Where no move is refused, old to new to old gives the same octets, and so does new to old to new.", "item 2's round trip holds for form 3"
pub there_and_back : (f g : Form) (r t : List ℕ) → Octets r → move_of f g r ≡ text t → move_of g f t ≡ text r
there_and_back f g r t o w = by (stored_by f r) refl w
  where
    by : (x : Stored) → stored_by f r ≡ x → moved_to g x ≡ text t → move_of g f t ≡ text r
    by bad y w = let z : ◌≡◌ {A = ℕ} 0 1 = cc in absurd (omega arith)
    by (stored es) y w =
        let k = stored_back f r o es y in
        let m = moved_fit f g es k.fit w in
        ap (λ (u : List ℕ). moved_to f (stored_by g u)) (sym m.1) ∙ ap (moved_to f) (stored_there g es k.few m.0) ∙ fit-moved f es k.fit ∙ ap text k.printed
