-- What stands in octets stands there part by part, and answers as it is asked.
use Rattle.std.specs.Prelude.{ℕ, suc, ◌+◌, ◌-◌, ◌≡◌, refl, length, take}
use Rattle.std.proofs.Common.{arith, ◌∙◌, subst, length-append, drop-drop}
use Rattle.std.proofs.Math.Path.{ap, sym}
use mathlib.Core.List.{List, [], ◌∷◌, ◌++◌, append_assoc, append-nil}
use Rattle.std.proofs.Math.Dec.{T}
use Rattle.std.proofs.Math.ListN.{drop}
use Rattle.std.proofs.Math.Seq.{slice, drop-append-add}
use Rattle.syntax.specs.Service.{fit}
use Rattle.syntax.specs.Tree.{Segment, print_s, print, well}
use Rattle.syntax.proofs.TreeLaws.{print-cons}
use Rattle.syntax.proofs.BridgeLaws.{Agrees, bridge}
use Rattle.syntax.proofs.CuttingLaws.{slice-take}
use Rattle.syntax.proofs.ReaderLaws.{well-cons, well-uncons}
use Rattle.syntax.specs.declared.Service.{Service}
use Rattle.grammar.specs.Lists.{Snoc, nil, ◌▷◌, ◌+++◌, list}
use Rattle.grammar.specs.Segments.{asked}
use Rattle.grammar.specs.Places.{wide}
use Rattle.grammar.proofs.PlacesLaws.{wide-list}
use Rattle.elements.specs.Octets.{asked_at}
use Rattle.turns.specs.TurnLaws.{asked-same}
use Rattle.groups.specs.Stand.{Row, Stand}

pub list-join : {A : Type 0} (a b : Snoc A) → list (a +++ b) ≡ list a ++ list b
list-join a nil = sym (append-nil (list a))
list-join a (b ▷ x) = ap (λ (l : List _). l ++ x ∷ []) (list-join a b) ∙ append_assoc (list a) (list b) (x ∷ [])

module _ (σ : Service) where
  pub print-append : (gs hs : List Segment) → print σ (gs ++ hs) ≡ print σ gs ++ print σ hs
  print-append [] hs = refl
  print-append (g ∷ gs) hs =
      print-cons σ g (gs ++ hs) ∙ ap (λ (l : List ℕ). print_s σ g ++ l) (print-append gs hs) ∙ sym (append_assoc (print_s σ g) (print σ gs) (print σ hs))
      ∙ ap (λ (l : List ℕ). l ++ print σ hs) (sym (print-cons σ g gs))

  pub well-parts : (gs hs : List Segment) → T (well σ (gs ++ hs)) → T (well σ gs) × T (well σ hs)
  well-parts [] hs w = (tt, w)
  well-parts (g ∷ gs) hs w = let a = well-uncons σ g (gs ++ hs) w in let b = well-parts gs hs a.1 in (well-cons σ g gs a.0 b.0, b.1)

  pub well-append : (gs hs : List Segment) → T (well σ gs) → T (well σ hs) → T (well σ (gs ++ hs))
  well-append [] hs v w = w
  well-append (g ∷ gs) hs v w = let k = well-uncons σ g gs v in well-cons σ g (gs ++ hs) k.0 (well-append gs hs k.1 w)

-- ---- in parts

module _ (σ : Service) (s : List ℕ) (p : ℕ) where
  pub stand-front : (a b : Snoc Segment) → Stand σ s p (a +++ b) → Stand σ s p a
  stand-front a b x = record {
    behind = print σ (list b) ++ x.behind;
    octets =
        x.octets ∙ ap (λ (l : List Segment). print σ l ++ x.behind) (list-join a b) ∙ ap (λ (l : List ℕ). l ++ x.behind) (print-append σ (list a) (list b))
        ∙ append_assoc (print σ (list a)) (print σ (list b)) x.behind;
    written = (well-parts σ (list a) (list b) (subst (λ (l : List Segment). T (well σ l)) (list-join a b) x.written)).0;
  }

  pub stand-back : (a b : Snoc Segment) → Stand σ s p (a +++ b) → Stand σ s (p + wide σ a) b
  unfolding stand-front
  stand-back a b x =
      let n : p + wide σ a ≡ p + (length (print σ (list a)) + 0) = omega (arith, wide-list σ a) in
      record {
        behind = x.behind;
        octets =
            ap (λ (k : ℕ). drop k s) n ∙ sym (drop-drop (length (print σ (list a)) + 0) p s) ∙ ap (drop (length (print σ (list a)) + 0)) (stand-front a b x).octets
            ∙ drop-append-add (print σ (list a)) (print σ (list b) ++ x.behind) 0;
        written = (well-parts σ (list a) (list b) (subst (λ (l : List Segment). T (well σ l)) (list-join a b) x.written)).1;
      }

  -- one segment answers as it is asked
  pub stand-agrees : T (fit σ) → (g : Segment) → Stand σ s p (nil ▷ g) → Agrees σ s p g
  stand-agrees f g x =
      bridge σ f s p g x.behind x.written (x.octets ∙ ap (λ (l : List ℕ). l ++ x.behind) (print-cons σ g [] ∙ append-nil (print_s σ g)))

  pub stand-asked : T (fit σ) → (g : Segment) → Stand σ s p (nil ▷ g) → asked_at σ s p ≡ asked g
  stand-asked f g x =
      asked-same σ f s p g x.behind x.written (x.octets ∙ ap (λ (l : List ℕ). l ++ x.behind) (print-cons σ g [] ∙ append-nil (print_s σ g)))

  -- what stands there is what is printed
  pub stand-slice : (gs : Snoc Segment) → Stand σ s p gs → slice p (p + wide σ gs) s ≡ print σ (list gs)
  stand-slice gs x =
      let n : p + wide σ gs - p ≡ length (print σ (list gs)) + 0 = omega (arith, wide-list σ gs) in
      slice-take p (p + wide σ gs) s ∙ ap (λ (k : ℕ). take k (drop p s)) n ∙ ap (take (length (print σ (list gs)) + 0)) x.octets
      ∙ take-append-add (print σ (list gs)) x.behind
    where
      take-append-add : (a b : List ℕ) → take (length a + 0) (a ++ b) ≡ a
      take-append-add [] b = refl
      take-append-add (y ∷ a) b =
          let n : suc (length a) + 0 ≡ suc (length a + 0) = omega arith in
          ap (λ (k : ℕ). take k (y ∷ (a ++ b))) n ∙ ap (λ (l : List ℕ). y ∷ l) (take-append-add a b)

  pub stand-row : (gs : Snoc Segment) → Stand σ s p gs → Row σ s p (list gs) (p + wide σ gs)
  stand-row gs x = record { behind = x.behind; octets = x.octets; written = x.written; end = ap (λ (n : ℕ). p + n) (wide-list σ gs) }

  -- a row's first segment, and the segments behind it
  pub row_first : T (fit σ) → (g : Segment) (gs : List Segment) {e : ℕ} → Row σ s p (g ∷ gs) e → Agrees σ s p g
  row_first f g gs x =
      let w = well-uncons σ g gs x.written in
      bridge σ f s p g (print σ gs ++ x.behind) w.0
      (x.octets ∙ ap (λ (l : List ℕ). l ++ x.behind) (print-cons σ g gs) ∙ append_assoc (print_s σ g) (print σ gs) x.behind)

  pub row-asked : T (fit σ) → (g : Segment) (gs : List Segment) {e : ℕ} → Row σ s p (g ∷ gs) e → asked_at σ s p ≡ asked g
  row-asked f g gs x =
      let w = well-uncons σ g gs x.written in
      asked-same σ f s p g (print σ gs ++ x.behind) w.0
      (x.octets ∙ ap (λ (l : List ℕ). l ++ x.behind) (print-cons σ g gs) ∙ append_assoc (print_s σ g) (print σ gs) x.behind)

  pub row-rest : (g : Segment) (gs : List Segment) {e : ℕ} → Row σ s p (g ∷ gs) e → Row σ s (p + length (print_s σ g)) gs e
  row-rest g gs {e} x =
      let w = well-uncons σ g gs x.written in
      let o : drop p s ≡ print_s σ g ++ (print σ gs ++ x.behind) =
      x.octets ∙ ap (λ (l : List ℕ). l ++ x.behind) (print-cons σ g gs) ∙ append_assoc (print_s σ g) (print σ gs) x.behind in
      let n : p + length (print_s σ g) ≡ p + (length (print_s σ g) + 0) = omega arith in
      record {
        behind = x.behind;
        octets =
            ap (λ (k : ℕ). drop k s) n ∙ sym (drop-drop (length (print_s σ g) + 0) p s) ∙ ap (drop (length (print_s σ g) + 0)) o
            ∙ drop-append-add (print_s σ g) (print σ gs ++ x.behind) 0;
        written = w.1;
        end = x.end ∙ ap (λ (l : List ℕ). p + length l) (print-cons σ g gs) ∙ sum (length-append (print_s σ g) (print σ gs));
      }
    where
      sum : {n : ℕ} → n ≡ length (print_s σ g) + length (print σ gs) → p + n ≡ p + length (print_s σ g) + length (print σ gs)
      sum e = omega (arith, e)
