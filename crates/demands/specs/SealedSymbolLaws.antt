-- The new segments are written well, and stay inside the repertoire.
use Rattle.std.specs.Prelude.{ℕ, ◌+◌, List, [], ◌∷◌, ◌++◌, Bool, true, false, cond, T, drop}
use Rattle.syntax.specs.Octets.{octets, all_pass}
use Rattle.syntax.specs.Opening.{earlier}
use Rattle.syntax.specs.Repertoire.{tag_octet}
use Rattle.syntax.specs.Tree.{Component, Element, segment, Symbol, tok, comp, elem, term, each, flat_c, flat_e, flat_s}
use Rattle.syntax.specs.Tree as syntax
use Rattle.syntax.proofs.TreeLaws.{and_left, and_right, and_both}
use Rattle.syntax.specs.declared.Service.{Service}
use Rattle.syntax.specs.declared.Version.{Version}
use Rattle.grammar.specs.Segments.{Unt, Ush, Usa, Usr, Ust, seg, number}
use Rattle.grammar.specs.Interchange.{Leaf}
use Rattle.writing.specs.Decimal.{decimal_of}
use Rattle.weaving.specs.Seals.{plains, released, single, several, ush_leaf, usa_leaf, ust_leaf, usr_leaf, grown}

-- ---- tests of each of a list

module _ {X : Type 0} (p : X → Bool) where
  pub every_append : (xs ys : List X) → T (all_pass p xs) → T (all_pass p ys) → T (all_pass p (xs ++ ys))
  every_append [] ys h k = k
  every_append (x ∷ xs) ys h k = and_both (p x) (all_pass p (xs ++ ys)) (and_left (p x) (all_pass p xs) h) (every_append xs ys (and_right (p x) (all_pass p xs) h) k)

  pub every-left : (xs ys : List X) → T (all_pass p (xs ++ ys)) → T (all_pass p xs)
  every-left [] ys h = tt
  every-left (x ∷ xs) ys h = and_both (p x) (all_pass p xs) (and_left (p x) (all_pass p (xs ++ ys)) h) (every-left xs ys (and_right (p x) (all_pass p (xs ++ ys)) h))

  pub every-right : (xs ys : List X) → T (all_pass p (xs ++ ys)) → T (all_pass p ys)
  every-right [] ys h = h
  every-right (x ∷ xs) ys h = every-right xs ys (and_right (p x) (all_pass p (xs ++ ys)) h)

  pub every-as : (q : X → Bool) → ((x : X) → T (p x) → T (q x)) → (xs : List X) → T (all_pass p xs) → T (all_pass q xs)
  every-as q f [] h = tt
  every-as q f (x ∷ xs) h = and_both (q x) (all_pass q xs) (f x (and_left (p x) (all_pass p xs) h)) (every-as q f xs (and_right (p x) (all_pass p xs) h))

-- ---- the new segments pass a test of symbols that what ends a part passes, and each letter and digit

pub record Passes (p : Symbol → Bool) : Type 0 where
  pub comps : T (p comp)
  pub elems : T (p elem)
  pub terms : T (p term)
  pub octets : (b : ℕ) → T (tag_octet b) → T (p (tok (syntax.plain b)))

module _ (p : Symbol → Bool) (w : Passes p) where
  plains-pass : (t : List ℕ) → T (all_pass tag_octet t) → T (all_pass p (flat_c (plains t)))
  plains-pass [] h = tt
  plains-pass (b ∷ t) h =
      and_both (p (tok (syntax.plain b))) (all_pass p (flat_c (plains t))) (w.octets b (and_left (tag_octet b) (all_pass tag_octet t) h)) (plains-pass t (and_right (tag_octet b) (all_pass tag_octet t) h))

  single-passes : (t : List ℕ) → T (all_pass tag_octet t) → T (all_pass p (flat_e (single t)))
  single-passes t h = every_append p (flat_c (plains t) ++ []) [] (every_append p (flat_c (plains t)) [] (plains-pass t h) tt) tt

  -- components, and elements, each of which passes
  abbrev Components : List Component → Type 0
  Components [] = Unit {0}
  Components (c ∷ cs) = T (all_pass p (flat_c c)) × Components cs

  components-pass : (cs : List Component) → Components cs → T (all_pass p (each comp flat_c cs))
  components-pass [] h = tt
  components-pass (c ∷ cs) h = and_both (p comp) (all_pass p (flat_c c ++ each comp flat_c cs)) w.comps (every_append p (flat_c c) (each comp flat_c cs) h.0 (components-pass cs h.1))

  several-passes : (c : Component) (cs : List Component) → Components (c ∷ cs) → T (all_pass p (flat_e (several c cs)))
  several-passes c cs h =
      every_append p (flat_c c ++ each comp flat_c cs) [] (every_append p (flat_c c) (each comp flat_c cs) h.0 (components-pass cs h.1)) tt

  abbrev Elements : List Element → Type 0
  Elements [] = Unit {0}
  Elements (e ∷ es) = T (all_pass p (flat_e e)) × Elements es

  elements-pass : (es : List Element) → Elements es → T (all_pass p (each elem flat_e es))
  elements-pass [] h = tt
  elements-pass (e ∷ es) h = and_both (p elem) (all_pass p (flat_e e ++ each elem flat_e es)) w.elems (every_append p (flat_e e) (each elem flat_e es) h.0 (elements-pass es h.1))

  elements-of : (es : List Element) → T (all_pass p (each elem flat_e es)) → Elements es
  elements-of [] h = tt
  elements-of (e ∷ es) h =
      let k = and_right (p elem) (all_pass p (flat_e e ++ each elem flat_e es)) h in (every-left p (flat_e e) (each elem flat_e es) k, elements-of es (every-right p (flat_e e) (each elem flat_e es) k))

  segment-passes : (a b c : ℕ) (es : List Element) → T (all_pass tag_octet (a ∷ b ∷ c ∷ [])) → Elements es → T (all_pass p (flat_s (segment a b c es)))
  segment-passes a b c es h k =
      every_append p (flat_e (single (a ∷ b ∷ c ∷ [])) ++ each elem flat_e es) (term ∷ [])
      (every_append p (flat_e (single (a ∷ b ∷ c ∷ []))) (each elem flat_e es) (single-passes (a ∷ b ∷ c ∷ []) h) (elements-pass es k)) (and_both (p term) true w.terms tt)

  segment-of : (a b c : ℕ) (es : List Element) → T (all_pass p (flat_s (segment a b c es))) → Elements es
  segment-of a b c es h =
      elements-of es
      (every-right p (flat_e (single (a ∷ b ∷ c ∷ []))) (each elem flat_e es) (every-left p (flat_e (single (a ∷ b ∷ c ∷ [])) ++ each elem flat_e es) (term ∷ []) h))

  pub ush-passes : (r : List ℕ) (f : ℕ) → T (all_pass tag_octet r) → T (all_pass tag_octet (decimal_of f)) → T (all_pass p (flat_s (seg Ush (ush_leaf r f))))
  ush-passes r f h k =
      let one : T (all_pass p (flat_e (single (octets "1")))) = single-passes (octets "1") tt in
      segment-passes 85 83 72 (ush_leaf r f) tt (one, (single-passes r h, (one, (one, (single-passes (decimal_of f) k, (single-passes (octets "2") tt, (one, tt)))))))

  pub usa-passes : T (all_pass p (flat_s (seg Usa usa_leaf)))
  usa-passes =
      let one : T (all_pass p (flat_c (plains (octets "1")))) = plains-pass (octets "1") tt in
      segment-passes 85 83 65 usa_leaf tt
      (several-passes (plains (octets "1")) ([] ∷ [] ∷ plains (octets "16") ∷ plains (octets "1") ∷ []) (one, (tt, (tt, (plains-pass (octets "16") tt, (one, tt))))), tt)

  -- by the edition
  pub ust-passes : (v : Version) (r : List ℕ) → T (all_pass tag_octet r) → T (all_pass p (flat_s (seg Ust (ust_leaf v r))))
  ust-passes v r h = segment-passes 85 83 84 (ust_leaf v r) tt (single-passes r h, by (earlier v))
    where
      by : (e : Bool) → Elements (cond e [] (single (octets "4") ∷ []))
      by true = tt
      by false = (single-passes (octets "4") tt, tt)

  pub usr-passes : (v : Version) (σ : Service) (t : List ℕ) → T (all_pass p (flat_c (released σ t))) → T (all_pass p (flat_s (seg Usr (usr_leaf v σ t))))
  usr-passes v σ t h = segment-passes 85 83 82 (usr_leaf v σ t) tt (by (earlier v), tt)
    where
      by : (e : Bool) → T (all_pass p (flat_e (cond e (several (released σ t) []) (several (plains (octets "1")) (released σ t ∷ [])))))
      by true = several-passes (released σ t) [] (h, tt)
      by false = several-passes (plains (octets "1")) (released σ t ∷ []) (plains-pass (octets "1") tt, (h, tt))

  pub unt-passes : (n : Leaf) → T (all_pass tag_octet (decimal_of (number n 1 + 4))) → T (all_pass p (flat_s (seg Unt n))) → T (all_pass p (flat_s (seg Unt (grown n))))
  unt-passes n h k = segment-passes 85 78 84 (grown n) tt (single-passes (decimal_of (number n 1 + 4)) h, rest n (segment-of 85 78 84 n k))
    where
      rest : (n : Leaf) → Elements n → Elements (drop 1 n)
      rest [] k = tt
      rest (e ∷ n) k = k.1
