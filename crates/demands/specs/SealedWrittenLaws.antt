-- The new segments are written well, and stay inside the repertoire: letters and digits always do, and VALUE's text where it may be written.
use Rattle.std.specs.Prelude.{ℕ, suc, ◌≡◌, refl, List, [], ◌∷◌, Bool, true, false, not, cond, ◌&&◌, T, eqb, Some}
use Rattle.std.proofs.Common.{ap, ◌∙◌, sym, subst}
use Rattle.syntax.specs.Octets.{octets, digit, capital, all_pass}
use Rattle.syntax.specs.Service.{kind_of, serves, fit}
use Rattle.syntax.specs.Repertoire.{tag_octet, inside, outside}
use Rattle.syntax.specs.Opening.{is_there}
use Rattle.syntax.specs.Cutting.{first_outside}
use Rattle.syntax.specs.Tree.{Segment, Symbol, tok, comp, elem, term, flat_c, flat_s, flat, spell, spells, print_s, ok, ok_tag, well}
use Rattle.syntax.specs.Tree as syntax
use Rattle.syntax.proofs.TreeLaws.{and_left, and_right, and_both, every-reads}
use Rattle.syntax.proofs.ReaderLaws.{tag-data}
use Rattle.syntax.proofs.CleanLaws.{tag-inside}
use Rattle.syntax.specs.declared.Service.{Service}
use Rattle.syntax.specs.declared.Syntax.{Syntax}
use Rattle.syntax.specs.Content.{all_digits}
use Rattle.grammar.specs.Lists.{Snoc, nil, ◌▷◌, list, Rule, test, holds}
use Rattle.grammar.specs.Lists as lists
use Rattle.grammar.specs.Rules.{inside_s}
use Rattle.groups.specs.StandLaws.{well-append, well-parts}
use Rattle.weaving.specs.Seals.{released_octet, released, may_write}
use Rattle.grammar.specs.TestLaws.{or_left}
use Rattle.demands.specs.SealedSymbolLaws.{Passes, every_append, every-left, every-right, every-as}

-- ---- letters and digits

pub digits-tag : (t : List ℕ) → T (all_digits t) → T (all_pass tag_octet t)
digits-tag t h = every-as digit tag_octet (λ b k. or_left (digit b) (capital b) k) t h

-- ---- the two tests of a symbol

-- its octets are inside the repertoire
abbrev pub clear : Syntax → ℕ → Bool
clear y b = not (outside y b)

abbrev pub clear_s : Syntax → Symbol → Bool
clear_s y x = all_pass (clear y) (spell y.service x)

module _ (y : Syntax) (f : T (fit y.service)) where
  -- a service character is
  serving : (b : ℕ) (k : ℕ) → kind_of y.service b ≡ k → eqb k 1 ≡ false → T (clear y b)
  serving b k e d =
      let z : serves y.service b ≡ true = ap (λ (n : ℕ). not (eqb n 1)) e ∙ ap not d in
      subst (λ (c : Bool). T (not (cond c false (not (inside y.level b))))) (sym z) tt

  pub ok-passes : Passes (ok y.service)
  ok-passes = record {
    comps = tt;
    elems = tt;
    terms = tt;
    octets = λ b h. subst (λ (k : ℕ). T (not (not (eqb k 1)))) (sym (tag-data y.service f b h)) tt;
  }

  pub clear-passes : Passes (clear_s y)
  clear-passes = record {
    comps = and_both (clear y y.service.component) true (serving y.service.component 2 (every-reads y.service f (comp ∷ []) tt).0 refl) tt;
    elems = and_both (clear y y.service.element) true (serving y.service.element 4 (every-reads y.service f (elem ∷ []) tt).0 refl) tt;
    terms = and_both (clear y y.service.terminator) true (serving y.service.terminator 5 (every-reads y.service f (term ∷ []) tt).0 refl) tt;
    octets = λ b h. and_both (clear y b) true (letters b h) tt;
  }
    where
      letters : (b : ℕ) → T (tag_octet b) → T (clear y b)
      letters b h =
          let z : serves y.service b ≡ false = ap (λ (k : ℕ). not (eqb k 1)) (tag-data y.service f b h) in
          subst (λ (c : Bool). T (not (cond c false (not (inside y.level b))))) (sym z) (subst (λ (c : Bool). T (not (not c))) (sym (tag-inside y.level b h)) tt)

  -- VALUE's text, released
  released-ok : (b : ℕ) → T (may_write y b) → T (ok y.service (tok (released_octet y.service b)))
  released-ok b h = by (serves y.service b) refl (and_right (clear y b) (not (serves y.service b && eqb y.service.release 32)) h)
    where
      by : (c : Bool) → serves y.service b ≡ c → T (not (c && eqb y.service.release 32)) → T (ok y.service (tok (cond c (syntax.freed b) (syntax.plain b))))
      by true e k = k
      by false e k = subst (λ (c : Bool). T (not c)) (sym e) tt

  released-clear : (b : ℕ) → T (may_write y b) → T (clear_s y (tok (released_octet y.service b)))
  released-clear b h = by (serves y.service b) (and_right (clear y b) (not (serves y.service b && eqb y.service.release 32)) h)
    where
      here : T (clear y b)
      here = and_left (clear y b) (not (serves y.service b && eqb y.service.release 32)) h

      by : (c : Bool) → T (not (c && eqb y.service.release 32)) → T (clear_s y (tok (cond c (syntax.freed b) (syntax.plain b))))
      by true k =
          let q : T (all_pass (ok y.service) (tok (syntax.freed b) ∷ [])) = and_both (not (eqb y.service.release 32)) true k tt in
          and_both (clear y y.service.release) (clear y b && true)
          (serving y.service.release 0 (every-reads y.service f (tok (syntax.freed b) ∷ []) q).0 refl) (and_both (clear y b) true here tt)
      by false k = and_both (clear y b) true here tt

  pub value-ok : (t : List ℕ) → T (all_pass (may_write y) t) → T (all_pass (ok y.service) (flat_c (released y.service t)))
  value-ok [] h = tt
  value-ok (b ∷ t) h =
      and_both (ok y.service (tok (released_octet y.service b))) (all_pass (ok y.service) (flat_c (released y.service t)))
      (released-ok b (and_left (may_write y b) (all_pass (may_write y) t) h)) (value-ok t (and_right (may_write y b) (all_pass (may_write y) t) h))

  pub value-clear : (t : List ℕ) → T (all_pass (may_write y) t) → T (all_pass (clear_s y) (flat_c (released y.service t)))
  value-clear [] h = tt
  value-clear (b ∷ t) h =
      and_both (clear_s y (tok (released_octet y.service b))) (all_pass (clear_s y) (flat_c (released y.service t)))
      (released-clear b (and_left (may_write y b) (all_pass (may_write y) t) h)) (value-clear t (and_right (may_write y b) (all_pass (may_write y) t) h))

-- ---- the rules on a segment, by its symbols

pub inside-clear : (y : Syntax) (l : List ℕ) (i : ℕ) → T (all_pass (clear y) l) → T (not (is_there (first_outside y l i)))
inside-clear y [] i h = tt
inside-clear y (b ∷ l) i h = by (outside y b) (and_left (clear y b) (all_pass (clear y) l) h) (inside-clear y l (suc i) (and_right (clear y b) (all_pass (clear y) l) h))
  where
    by : (c : Bool) → T (not c) → T (not (is_there (first_outside y l (suc i)))) → T (not (is_there (cond c (Some i) (first_outside y l (suc i)))))
    by true h k = absurd h
    by false h k = k

clear-inside : (y : Syntax) (l : List ℕ) (i : ℕ) → T (not (is_there (first_outside y l i))) → T (all_pass (clear y) l)
clear-inside y [] i h = tt
clear-inside y (b ∷ l) i h = by (outside y b) h (clear-inside y l (suc i))
  where
    by : (c : Bool) → T (not (is_there (cond c (Some i) (first_outside y l (suc i))))) → (T (not (is_there (first_outside y l (suc i)))) → T (all_pass (clear y) l)) → T (not c && all_pass (clear y) l)
    by true h k = absurd h
    by false h k = k h

module _ (y : Syntax) where
  spells-clear : (xs : List Symbol) → T (all_pass (clear_s y) xs) → T (all_pass (clear y) (spells y.service xs))
  spells-clear [] h = tt
  spells-clear (x ∷ xs) h =
      every_append (clear y) (spell y.service x) (spells y.service xs) (and_left (clear_s y x) (all_pass (clear_s y) xs) h) (spells-clear xs (and_right (clear_s y x) (all_pass (clear_s y) xs) h))

  clear-spells : (xs : List Symbol) → T (all_pass (clear y) (spells y.service xs)) → T (all_pass (clear_s y) xs)
  clear-spells [] h = tt
  clear-spells (x ∷ xs) h =
      and_both (clear_s y x) (all_pass (clear_s y) xs) (every-left (clear y) (spell y.service x) (spells y.service xs) h)
      (clear-spells xs (every-right (clear y) (spell y.service x) (spells y.service xs) h))

  pub symbols-inside : (g : Segment) → T (all_pass (clear_s y) (flat_s g)) → holds (inside_s y g)
  symbols-inside g h = inside-clear y (print_s y.service g) 0 (spells-clear (flat_s g) h)

  pub inside-symbols : (g : Segment) → holds (inside_s y g) → T (all_pass (clear_s y) (flat_s g))
  inside-symbols g h = clear-spells (flat_s g) (clear-inside y (print_s y.service g) 0 h)

-- well-formed, as a rule on single segments
abbrev pub well_s : Service → Segment → Rule
well_s σ g = test (well σ (g ∷ []))

module _ (σ : Service) where
  pub symbols-well : (g : Segment) → T (ok_tag g) → T (all_pass (ok σ) (flat_s g)) → holds (well_s σ g)
  symbols-well g t h = and_both (ok_tag g && true) (all_pass (ok σ) (flat (g ∷ []))) (and_both (ok_tag g) true t tt) (every_append (ok σ) (flat_s g) [] h tt)

  pub well-symbols : (g : Segment) → holds (well_s σ g) → T (all_pass (ok σ) (flat_s g))
  well-symbols g h = every-left (ok σ) (flat_s g) [] (and_right (ok_tag g && true) (all_pass (ok σ) (flat (g ∷ []))) h)

  -- of a list of them
  pub list-well : (gs : Snoc Segment) → holds (lists.every (well_s σ) gs) → T (well σ (list gs))
  list-well nil h = tt
  list-well (gs ▷ g) h = well-append σ (list gs) (g ∷ []) (list-well gs h.0) h.1

  pub well-list : (gs : Snoc Segment) → T (well σ (list gs)) → holds (lists.every (well_s σ) gs)
  well-list nil h = tt
  well-list (gs ▷ g) h = let k = well-parts σ (list gs) (g ∷ []) h in (well-list gs k.0, k.1)
