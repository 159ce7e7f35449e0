-- How a segment is cut while its pieces are read, and that a tag is passed at once.
use Rattle.std.specs.Prelude.{ℕ, zero, suc, ◌+◌, ◌-◌, ◌≤◌, ◌<◌, List, ◌∷◌, ◌≡◌, refl, Bool, true, false, ◌&&◌, ◌||◌, T, eqb, leb, length, get_or, drop, Option, Some, None}
use Rattle.std.proofs.Common.{arith, ap, sym, subst, ◌∙◌, le→leb, leb→le, length-drop}
use Rattle.syntax.specs.Octets.{octets, within, digit, capital, small, one_of}
use Rattle.syntax.specs.Service.{fit, kind_of}
use Rattle.syntax.specs.Repertoire.{inside_c, tag_octet, inside}
use Rattle.syntax.specs.Classes.{end_class, outside_class, class_of}
use Rattle.syntax.specs.RepertoireLaws.{Sorted, is-data, is-bad, is-release, is-separator, is-end, sorted, class-tag}
use Rattle.syntax.specs.Cutting.{stop_from, tag_of}
use Rattle.syntax.specs.Scanning.{cut_by, cut_at}
use Rattle.syntax.proofs.CuttingLaws.{drop-tail, drop_head, class-on, class-hit, class-freed, cutting-at, cutting-from, cutting-none, cutting-on, cutting-end, cutting-bad, cutting-short, cutting-freed, cutting-freed-bad}
use Rattle.syntax.proofs.SegmentLaws.{edge_on, edge-end}
use Rattle.syntax.proofs.TreeLaws.{and_left, and_right, and_both, is_true}
use Rattle.syntax.proofs.ReaderLaws.{tag-data, Tagged, tag_split}
use Rattle.syntax.specs.Clean.{sound, Clean, TagAt, Stopping, Tidy}
use Rattle.syntax.specs.declared.Syntax.{Syntax}
use Rattle.syntax.specs.declared.Level.{Level}
use Rattle.syntax.specs.declared.Level.TheVariants.{A, B, C, D}

pub tidy-start : (y : Syntax) (s : List ℕ) (a : ℕ) → Tidy y s a a
tidy-start y s a = record { low = omega arith; going = record { finds = refl }; cutting = cutting-at refl }

pub tidy-then : {y : Syntax} {s : List ℕ} {a i j : ℕ} → Tidy y s a i → Tidy y s i j → Tidy y s a j
tidy-then g h =
    let l = g.low in let m = h.low in
    record {
      low = omega arith;
      going = record { finds = g.going.finds ∙ h.going.finds };
      cutting = cutting-at (cutting-from h.cutting ∙ cutting-from g.cutting);
    }

unsound : (q : Option ℕ) (b : ℕ) → sound (cut_by q (Some b)) ≡ false
unsound None b = refl
unsound (Some e) b = refl

pub tidy-none : {y : Syntax} {s : List ℕ} {a i : ℕ} → Tidy y s a i → length s ≤ i → sound (cut_at y s a) ≡ false
tidy-none g h = sym (ap sound (cutting-none g.cutting h))

pub stopping-none : {y : Syntax} {s : List ℕ} {a i : ℕ} → Tidy y s a i → length s ≤ i → Stopping y s a i
stopping-none g h = record { tidy = g; stops = λ l. let z : ⊥ = omega arith in absurd z }

module _ {y : Syntax} {s : List ℕ} {a i : ℕ} (g : Tidy y s a i) (h : i < length s) {c : ℕ} (e : c ≡ class_of y (get_or s i 0)) where
  pub tidy-data : c ≤ 1 → Tidy y s a (i + 1)
  tidy-data d =
      let l = g.low in
      record {
        low = omega arith;
        going = class-on g.going (omega arith) (omega arith) h e (omega arith);
        cutting = cutting-on g.cutting h e (omega arith);
      }

  pub tidy-stop : 1 < c → Stopping y s a i
  tidy-stop d = record { tidy = g; stops = λ l. omega (arith, e, d) }

  pub tidy-separator : 1 < class_of y (get_or s i 0) → c < end_class → Clean y s a i c
  tidy-separator d l = by-class (sorted y (get_or s i 0) e)
    where
      by-class : Sorted (kind_of y.service (get_or s i 0)) (inside y.level (get_or s i 0)) c → Clean y s a i c
      by-class (is-data p q r) = let z : ⊥ = omega (arith, e, d) in absurd z
      by-class (is-bad p q r) = let z : ⊥ = omega arith in absurd z
      by-class (is-release p r) = let z : ⊥ = omega arith in absurd z
      by-class (is-separator p q r) = record {
        edge = edge_on y s a refl (sym (class-hit g.going (omega arith) (omega arith) h e (omega arith) (omega arith))) e (λ z. omega arith);
        next = λ n. cutting-from (cutting-on g.cutting h e l);
        last = λ n. let z : ⊥ = omega arith in absurd z;
      }
      by-class (is-end p r) = let z : ⊥ = omega arith in absurd z

  pub tidy-end : c ≡ end_class → Clean y s a i 5
  tidy-end d = record {
    edge = edge-end y s a refl (sym (class-hit g.going (omega arith) (omega arith) h e (omega arith) (omega arith))) e d;
    next = λ n. absurd (n refl);
    last = λ n. sym (cutting-end g.cutting h e d);
  }

  pub tidy-bad : c ≡ outside_class → sound (cut_at y s a) ≡ false
  tidy-bad d =
      let q : Option ℕ = stop_from y.service 5 false (drop (i + 1) s) (i + 1) in
      sym (ap sound (cutting-bad g.cutting h e {q = q} {w = cut_by q (Some i)} d refl refl)) ∙ unsound q i

  module _ (l : end_class ≤ c) (n : c ≡ end_class → ⊥) (o : c ≡ outside_class → ⊥) where
    pub tidy-short : length s ≤ i + 1 → sound (cut_at y s a) ≡ false
    tidy-short k = sym (ap sound (cutting-short g.cutting h e l n o k))

    module _ (h' : i + 1 < length s) {c' : ℕ} (e' : c' ≡ class_of y (get_or s (i + 1) 0)) where
      pub tidy-freed-bad : c' ≡ outside_class → sound (cut_at y s a) ≡ false
      tidy-freed-bad d =
          let q : Option ℕ = stop_from y.service 5 false (drop (i + 1 + 1) s) (i + 1 + 1) in
          sym (ap sound (cutting-freed-bad g.cutting h e l n o h' e' {q = q} {w = cut_by q (Some (i + 1))} d refl refl)) ∙ unsound q (i + 1)

      pub tidy-freed : (c' ≡ outside_class → ⊥) → Tidy y s a (i + 1 + 1)
      tidy-freed d =
          let m = g.low in
          record {
            low = omega arith;
            going = class-freed g.going (omega arith) (omega arith) h e (omega (arith, l, n)) o h';
            cutting = cutting-freed g.cutting h e l n o h' e' d;
          }

-- ---- a tag

low-tag : (b : ℕ) → T (tag_octet b) → (48 ≤ b) × (b ≤ 90)
low-tag b h = by (digit b) refl h
  where
    by : (d : Bool) → digit b ≡ d → T (d || capital b) → (48 ≤ b) × (b ≤ 90)
    by true e k =
        let t : T (digit b) = rw e tt in
        let l = leb→le 48 b (and_left (leb 48 b) (leb b 57) t) in let m = leb→le b 57 (and_right (leb 48 b) (leb b 57) t) in (omega arith, omega arith)
    by false e k =
        let l = leb→le 65 b (and_left (leb 65 b) (leb b 90) k) in let m = leb→le b 90 (and_right (leb 65 b) (leb b 90) k) in (omega arith, omega arith)

tag-inside-c : (b : ℕ) → T (tag_octet b) → inside_c b ≡ true
tag-inside-c b h =
    let k = low-tag b h in
    by (within 32 126 b) (and_both (leb 32 b) (leb b 126) (le→leb 32 b (omega (arith, k.0))) (le→leb b 126 (omega (arith, k.1))))
  where
    by : (w : Bool) → T w → (w || within 160 255 b) ≡ true
    by true h = refl
    by false h = absurd h

-- letters and digits are inside every repertoire
pub tag-inside : (l : Level) (b : ℕ) → T (tag_octet b) → inside l b ≡ true
unfolding inside
tag-inside A b h = by (digit b) (capital b) (eqb b 32) (one_of (octets ".,-()/='+:?!\"%&*;<>") b) h
  where
    by : (d c x y : Bool) → T (d || c) → (c || d || x || y) ≡ true
    by true true x y h = refl
    by true false x y h = refl
    by false true x y h = refl
    by false false x y h = absurd h
tag-inside B b h = by (digit b) (capital b) (eqb b 32) (one_of (octets ".,-()/='+:?!\"%&*;<>") b) h
  where
    by : (d c x y : Bool) → T (d || c) → ((c || d || x || y) || small b) ≡ true
    by true true x y h = refl
    by true false x y h = refl
    by false true x y h = refl
    by false false x y h = absurd h
tag-inside C b h = tag-inside-c b h
tag-inside D b h = tag-inside-c b h

tag-class : (y : Syntax) → T (fit y.service) → (b x : ℕ) → x ≡ b → T (tag_octet b) → 0 ≡ class_of y x
unfolding class_of
tag-class y f b x e h = rw (e, tag-data y.service f b h, tag-inside y.level b h, is_true (tag_octet b) h)

-- of three octets whose classes add up to 0 each may stand in a tag, and only of such three
module _ (y : Syntax) (f : T (fit y.service)) (a b c : ℕ) {p q r : ℕ} (ea : p ≡ class_of y a) (eb : q ≡ class_of y b) (ec : r ≡ class_of y c) where
  pub tags-by : p + q + r ≡ 0 → (tag_octet a ≡ true) × (tag_octet b ≡ true) × (tag_octet c ≡ true)
  tags-by z = (class-tag y a ea (omega arith), class-tag y b eb (omega arith), class-tag y c ec (omega arith))

  pub tags-none : (p + q + r ≡ 0 → ⊥) → (tag_octet a && tag_octet b && tag_octet c) ≡ false
  tags-none n = by (tag_octet a) (tag_octet b) (tag_octet c) refl refl refl
    where
      zero : {d : ℕ} (x : ℕ) → d ≡ class_of y x → tag_octet x ≡ true → d ≡ 0
      zero x e t = e ∙ sym (tag-class y f x x refl (subst T (sym t) tt))

      by : (t u v : Bool) → tag_octet a ≡ t → tag_octet b ≡ u → tag_octet c ≡ v → (t && u && v) ≡ false
      by true true true d e g = absurd (n (let i = zero a ea d in let j = zero b eb e in let k = zero c ec g in omega arith))
      by true true false d e g = refl
      by true false v d e g = refl
      by false u v d e g = refl

pub tag-here : (y : Syntax) → T (fit y.service) → (s : List ℕ) (i a b c : ℕ) → tag_of y.service (drop i s) ≡ Some (a, b, c) → TagAt y s i
tag-here y f s i a b c e = by (tag_split y.service (drop i s) a b c e)
  where
    by : Tagged y.service (drop i s) a b c → TagAt y s i
    by (d, r, p, t) =
        let n : length (a ∷ b ∷ c ∷ d ∷ r) ≡ length s - i = ap length p ∙ length-drop i s in
        let x : Bool = eqb d y.service.element || eqb d y.service.terminator in
        let t₃ : T (tag_octet a && tag_octet b && tag_octet c) = and_left (tag_octet a && tag_octet b && tag_octet c) x t in
        let t₂ : T (tag_octet a && tag_octet b) = and_left (tag_octet a && tag_octet b) (tag_octet c) t₃ in
        let p₁ : drop (suc i) s ≡ b ∷ c ∷ d ∷ r = drop-tail i s (sym p) in
        let p₂ : drop (suc (suc i)) s ≡ c ∷ d ∷ r = drop-tail (suc i) s p₁ in
        let h₀ = tag-class y f a (get_or s i 0) (drop_head i s (sym p)) (and_left (tag_octet a) (tag_octet b) t₂) in
        let h₁ = tag-class y f b (get_or s (suc i) 0) (drop_head (suc i) s p₁) (and_right (tag_octet a) (tag_octet b) t₂) in
        let h₂ = tag-class y f c (get_or s (suc (suc i)) 0) (drop_head (suc (suc i)) s p₂) (and_right (tag_octet a && tag_octet b) (tag_octet c) t₃) in
        let e₁ : i + 1 ≡ suc i = omega arith in
        let e₂ : suc i + 1 ≡ suc (suc i) = omega arith in
        let e₃ : suc (suc i) + 1 ≡ i + 3 = omega arith in
        let g₁ = rw e₁ at (tidy-data (tidy-start y s i) (omega arith) h₀ (omega arith)) in
        let g₂ = rw e₂ at (tidy-data g₁ (omega arith) h₁ (omega arith)) in
        let g₃ = rw e₃ at (tidy-data g₂ (omega arith) h₂ (omega arith)) in
        record { long = omega arith; stops = g₃.going.finds; cuts = cutting-from g₃.cutting }
