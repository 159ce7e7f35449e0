-- A rule's test tells what the rule says; and what is asked of a subset.
use Rattle.std.specs.Prelude.{Bool, true, false, cond, not, ◌&&◌, ◌≡◌, refl, None, Some}
use Rattle.std.proofs.lemmas.Bool.{false≢true}
use Rattle.std.proofs.Common.{ap, sym}
use Rattle.syntax.specs.Octets.{octets, same}
use Rattle.syntax.specs.RepertoireLaws.{and_l, and_r}
use Rattle.grammar.specs.Lists.{Snoc, nil, ◌▷◌, any, Rule, always, test, ◌and◌, holds, check, every, every_before}
use Rattle.grammar.specs.declared.Subset.TheVariants.{F01, Gs1}
use Rattle.grammar.specs.Segments.{unh0057}
use Rattle.grammar.specs.Interchange.{Leaf, Header, header, Body, plain, ack}
use Rattle.grammar.specs.Rules.{autack, subset, is_autack, is_gs1, certified, ok_heads}
use Rattle.grammar.specs.TestLaws.{is_true, passes, or_right}

-- a rule whose test is passed holds
pub check-holds : (r : Rule) → check r ≡ true → holds r
check-holds always e = tt
check-holds (test b) e = passes b e
check-holds (a and b) e = (check-holds a (and_l (check a) (check b) e), check-holds b (and_r (check a) (check b) e))

-- the test of a rule that holds is passed
pub holds-check : (r : Rule) → holds r → check r ≡ true
holds-check always h = refl
holds-check (test b) h = is_true b h
holds-check (a and b) h = rw (holds-check a h.0) (holds-check b h.1)

-- what holds of each holds of each but the last
pub every-before : {A : Type 0} (f : A → Rule) (s : Snoc A) → holds (every f s) → holds (every_before f s)
every-before f nil h = tt
every-before f (s ▷ a) h = h.0

-- the subset tells whether a message is an AUTACK
pub is-autack : (h : Leaf) → is_autack (subset h) ≡ autack h
is-autack h = by (autack h) (same (unh0057 h) (octets "EAN001"))
  where
    by : (a c : Bool) → is_autack (cond a (cond c (Some Gs1) (Some F01)) None) ≡ a
    by true true = refl
    by true false = refl
    by false c = refl

-- no header needs a USC in a message that is no AUTACK
pub free-heads : (h : Leaf) → autack h ≡ false → (hs : Snoc Header) (b : Body) → holds (ok_heads (subset h) hs b)
free-heads h e hs b = heads b
  where
    other : (a c : Bool) → a ≡ false → is_gs1 (cond a (cond c (Some Gs1) (Some F01)) None) ≡ false
    other true c e = absurd (false≢true (sym e))
    other false c e = refl

    free : (x : Header) → holds (certified (subset h) x)
    free (header c us cs) =
        or_right (any cs) (not (is_gs1 (subset h))) (passes (not (is_gs1 (subset h))) (ap not (other (autack h) (same (unh0057 h) (octets "EAN001")) e)))

    all : (s : Snoc Header) → holds (every (certified (subset h)) s)
    all nil = tt
    all (s ▷ x) = (all s, free x)

    heads : (b : Body) → holds (ok_heads (subset h) hs b)
    heads (plain b) = every-before (certified (subset h)) hs (all hs)
    heads (ack c ls) = all hs
