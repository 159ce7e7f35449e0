-- Headers and trailers pair, and the counts agree, in every message of an accepted interchange.
use Rattle.std.specs.Prelude.{ℕ, ◌+◌, ◌≤◌, Bool, false, cond, List, ◌≡◌, refl, eqb}
use Rattle.std.proofs.Common.{arith, ap, ◌∙◌, sym, subst, eqb→eq}
use Rattle.grammar.specs.Lists.{Snoc, nil, each, size, always, test, holds, every, distinct}
use Rattle.grammar.specs.Grams.{Grams, same_grams, sum}
use Rattle.grammar.specs.WeighedLaws.{same-grams}
use Rattle.grammar.specs.Interchange.{Header, Trailer, trailer, Body, plain, ack, msg, Message, message, show_header, show_trailer}
use Rattle.grammar.specs.Rules.{ref_h, ref_t, one, refs_message, total, size_at, counted, counts_message}
use Rattle.grammar.proofs.ListsLaws.{each-size}
use Rattle.grammar.specs.Loads.{loads}
use Rattle.syntax.specs.declared.Version.{Version}
use Rattle.groups.specs.Calls.{version_by, version_in}
use Rattle.grammar.specs.Valid.{Interchange, interchange, Valid}
use Rattle.grammar.specs.Verdict.{accepted, verdict_of, loads_b}
use Rattle.grammar.proofs.VerdictLaws.{verdict-exact}
use Rattle.grammar.specs.Counted.{messages_in}
use Rattle.demands.specs.Stated.{In, headers_of, trailers_of, Pairs, number0588, number0036, controls_b, CountsAgree}
use Rattle.demands.specs.OnceLaws.{every_in, each_in, found-once, one_place, chosen-in, among-chosen}
use Rattle.grammar.proofs.PairLaws.{count_most, pigeons}

-- ---- as many trailers as headers

no_more : (ts rs : Snoc (List ℕ)) → holds (distinct ts) → holds (every (one rs) ts) → size ts ≤ size rs
no_more ts rs d e = let l = pigeons ts rs d e in let m = count_most ts rs in omega (arith, l, m)

-- ---- pairs

-- one of the other row has the reference
partner : {A B : Type 0} (f : A → List ℕ) (g : B → List ℕ) {ps : Snoc A} {bs : Snoc B} → holds (every (one (each g bs)) (each f ps)) → (a : A) → In a ps → (b : B) × (In b bs × (g b ≡ f a))
partner f g {ps} {bs} h a x =
    let k = among-chosen g (f a) bs (every_in (one (each g bs)) h (each_in f x)) in
    let c = chosen-in g (f a) bs k.1.1 in
    (k.1.0, (c.0, c.1))

pairs_of : (m : Message) → holds (refs_message m) → Pairs (headers_of m) (trailers_of m)
pairs_of (message (msg h hs b ts) t) q =
    let o = q.0 in
    let l = no_more (each ref_t ts) (each ref_h hs) o.1.1.0 o.1.1.1 in
    let k = no_more (each ref_h hs) (each ref_t ts) o.0 q.1.1 in
    record {
      as_many = omega (arith, l, k, each-size ref_t ts, each-size ref_h hs);
      trailer-of = partner ref_h ref_t q.1.1;
      header_of = partner ref_t ref_h o.1.1.1;
      header-once = one_place ref_h o.0;
      trailer-once = one_place ref_t o.1.1.0;
    }

pub pairs-all : (s : List ℕ) (i : Interchange) → verdict_of s ≡ accepted i → (m : Message) → In m (messages_in i) → Pairs (headers_of m) (trailers_of m)
pairs-all s i e m x = by i ((verdict-exact s i).0 e).0 x
  where
    by : (i : Interchange) → Valid i → In m (messages_in i) → Pairs (headers_of m) (trailers_of m)
    by (interchange n u ms z) v x = pairs_of m (every_in refs_message v.references.1.0 x)

-- ---- counts

size_of : (r : List ℕ) {hs : Snoc Header} {h : Header} (x : In h hs) → ref_h h ≡ r → holds (distinct (each ref_h hs)) → size_at r hs ≡ size (show_header h)
size_of r x e d = found-once ref_h r (size_at r) (λ s h. size (show_header h)) (λ s h. refl) x e d

pair-counted : (hs : Snoc Header) (t : Trailer) → holds (counted hs t) → number0588 t ≡ size_at (ref_t t) hs + size (show_trailer t)
pair-counted hs (trailer c r) h = eqb→eq _ _ h

total_of : (b : Body) → holds (total b) → (n : Grams) → In n (controls_b b) → n ≡ sum (loads_b b)
total_of (plain b) h n x = same-grams n (sum (loads b)) (every_in (λ (n : Grams). test (same_grams n (sum (loads b)))) h x)
total_of (ack c ls) h n x = absurd (every_in (λ (n : Grams). test false) {row = nil} tt x)

counts_of : (v : Version) (m : Message) → holds (refs_message m) → holds (counts_message v m) → CountsAgree v m
counts_of v (message (msg h hs b ts) t) q c = record {
  pair =
      λ a k l x y e. pair-counted hs l (every_in (counted hs) (subst (λ (z : Bool). holds (cond z always (every (counted hs) ts))) a c.1.0) y)
      ∙ ap (λ (n : ℕ). n + size (show_trailer l)) (size_of (ref_t l) x e q.0.0);
  segments = eqb→eq _ _ c.0;
  total = total_of b c.1.1;
}

pub counts_all : (s : List ℕ) (i : Interchange) → verdict_of s ≡ accepted i → (number0036 i ≡ size (messages_in i)) × ((m : Message) → In m (messages_in i) → CountsAgree (version_in i) m)
counts_all s i e = by i ((verdict-exact s i).0 e).0
  where
    by : (i : Interchange) → Valid i → (number0036 i ≡ size (messages_in i)) × ((m : Message) → In m (messages_in i) → CountsAgree (version_in i) m)
    by (interchange n u ms z) v =
        (eqb→eq _ _ v.counted.1, λ (m : Message) (x : In m ms). subst (λ (w : Version). CountsAgree w m) (sym (ap version_by v.named)) (counts_of v.y.version m (every_in refs_message v.references.1.0 x) (every_in (counts_message v.y.version) v.counted.0 x)))
