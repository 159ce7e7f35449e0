-- A look at a segment: by its fields, or by a scan.
use Rattle.std.specs.Prelude.{ℕ, ◌+◌, List, [], ◌∷◌, ◌≡◌, refl, Bool, true, false, T, length, drop, Option, Result, Some, None, Ok, Err}
use Rattle.std.proofs.Common.{arith, ap, sym, ◌∙◌, subst}
use Rattle.std.proofs.lemmas.Bool.{false≢true}
use Rattle.syntax.specs.Service.{fit}
use Rattle.syntax.specs.Cutting.{tag_of}
use Rattle.syntax.specs.Scanning.{cut_at}
use Rattle.syntax.specs.Clean.{sound}
use Rattle.syntax.proofs.CleanLaws.{tag-here}
use Rattle.syntax.specs.declared.Breach.{Breach}
use Rattle.syntax.specs.declared.Syntax.{Syntax}
use Rattle.syntax.specs.declared.cutting.Cut.{Cut}
use Rattle.syntax.specs.declared.cutting.Cut.TheVariants.{Ends, Spoilt, Open}
use Rattle.elements.specs.Kinds.{tag_kind}
use Rattle.elements.specs.Fields.{Fields, FieldsAs}
use Rattle.elements.specs.Formed.{looked}
use Rattle.elements.specs.declared.Kind.{Kind}
use Rattle.elements.specs.declared.fields.Shape.{Shape}
use Rattle.turns.specs.Held.{seen_in, seen_by, looked_at, Entered, Sighted}
use Rattle.turns.specs.declared.state.Sight.{Sight}

unlike : {A : Type 0} {e : ℕ} {k : Kind} {f : Breach} → ◌≡◌ {A = Result (ℕ × Kind) Breach} (Err f) (Ok (e, k)) → A
unlike h = let z : ◌≡◌ {A = ℕ} 0 1 = cc in let w : ⊥ = omega arith in absurd w

-- what is seen was cut, and has the kind that was given
seen-kind : (c : Cut) (k : Kind) (p : ℕ) {e : ℕ} {k' : Kind} → seen_in c k p ≡ Ok (e, k') → k ≡ k'
seen-kind (Ends q) k p {e} {k'} h = let w : ◌≡◌ {A = ℕ × Kind} (q, k) (e, k') = cc in ap (λ z. z.1) w
seen-kind (Spoilt q b) k p h = unlike h
seen-kind Open k p h = unlike h

seen-sound : {A : Type 0} (c : Cut) (k : Kind) (p : ℕ) {e : ℕ} {k' : Kind} → sound c ≡ false → seen_in c k p ≡ Ok (e, k') → A
seen-sound (Ends q) k p f h = absurd (false≢true (sym f))
seen-sound (Spoilt q b) k p f h = unlike h
seen-sound Open k p f h = unlike h

module _ (y : Syntax) (s : List ℕ) (i : ℕ) (k : Kind) (m : List ℕ) {p : Option (ℕ × Shape)} (w : FieldsAs y s i p m) {r : Sight} where
  pub entered-whole : {e : ℕ} {f : Shape} → p ≡ Some (e, f) → r.looked ≡ Ok (e, k) → r.shape ≡ f → Entered y s i k r m
  entered-whole {e} {f} d a b =
      let v : FieldsAs y s i (Some (e, f)) m = subst (λ (p : Option (ℕ × Shape)). FieldsAs y s i p m) d w in
      record {
        look = rw v.0 a;
        noted = λ e k' h. rw b v.1;
        marks = v.1.marks.room;
      }

  pub entered-broken : {c : Cut} {x : Result (ℕ × Kind) Breach} → p ≡ None → c ≡ cut_at y s i → x ≡ seen_in c k i → r.looked ≡ x → Entered y s i k r m
  entered-broken {c} {x} d a b o =
      let v : FieldsAs y s i None m = subst (λ (p : Option (ℕ × Shape)). FieldsAs y s i p m) d w in
      let l : r.looked ≡ seen_in (cut_at y s i) k i = o ∙ b ∙ ap (λ (c : Cut). seen_in c k i) a in
      record {
        look = l;
        noted = λ e k' h. seen-sound (cut_at y s i) k i v.0 (sym l ∙ h);
        marks = v.1;
      }

same-look : (y : Syntax) (s : List ℕ) (i : ℕ) {t : Option (ℕ × ℕ × ℕ)} {a b c : ℕ} {k : Kind} → t ≡ tag_of y.service (drop i s) → t ≡ Some (a, b, c) → k ≡ tag_kind (a ∷ b ∷ c ∷ []) →
    seen_in (cut_at y s i) k i ≡ looked_at y s i
same-look y s i g d o = ap (λ (k : Kind). seen_in (cut_at y s i) k i) o ∙ ap (λ (t : Option (ℕ × ℕ × ℕ)). seen_by (cut_at y s i) t i) (sym d ∙ g)

module _ (y : Syntax) (s : List ℕ) (i : ℕ) {r : Sight} {m : List ℕ} where
  pub sight-bad : {t : Option (ℕ × ℕ × ℕ)} {x : Result (ℕ × Kind) Breach} → t ≡ tag_of y.service (drop i s) → t ≡ None → x ≡ seen_by (cut_at y s i) None i → r.looked ≡ x → length m ≡ 40 → Sighted y s i r m
  sight-bad {t} {x} a d b o n =
      let l : r.looked ≡ seen_by (cut_at y s i) None i = o ∙ b in
      record {
        look = l ∙ ap (λ (t : Option (ℕ × ℕ × ℕ)). seen_by (cut_at y s i) t i) (sym d ∙ a);
        noted = λ e k h. unlike (sym l ∙ h);
        marks = n;
      }

  module _ {t : Option (ℕ × ℕ × ℕ)} {a b c : ℕ} {k : Kind} (g : t ≡ tag_of y.service (drop i s)) (d : t ≡ Some (a, b, c)) (o : k ≡ tag_kind (a ∷ b ∷ c ∷ [])) where
    pub sight-entered : Entered y s i k r m → Sighted y s i r m
    sight-entered w = record { look = w.look ∙ same-look y s i g d o; noted = λ e k h l. w.noted e k h; marks = w.marks }

    pub sight-passed : {q : Cut} {x : Result (ℕ × Kind) Breach} → T (fit y.service) → looked k ≡ false → q ≡ cut_at y s (i + 3) → x ≡ seen_in q k i → r.looked ≡ x → length m ≡ 40 → Sighted y s i r m
    sight-passed {q} {x} f n u v z l =
        let h : r.looked ≡ seen_in (cut_at y s i) k i
        = z ∙ v ∙ ap (λ (q : Cut). seen_in q k i) (u ∙ (tag-here y f s i a b c (sym g ∙ d)).cuts) in
        record {
          look = h ∙ same-look y s i g d o;
          noted = λ e k' w t. absurd (false≢true (sym n ∙ ap looked (seen-kind (cut_at y s i) k i (sym h ∙ w)) ∙ t));
          marks = l;
        }
