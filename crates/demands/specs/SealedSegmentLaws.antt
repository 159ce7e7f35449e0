-- Rules on single segments: the new ones meet them, so what is sealed does where it did before.
use Rattle.std.specs.Prelude.{ℕ, ◌+◌, ◌≤◌, ◌<◌, ◌≡◌, refl, List, [], ◌∷◌, Bool, true, false, cond, not, ◌&&◌, ◌||◌, T, eqb, leb, length, drop}
use Rattle.std.proofs.Common.{arith, ap, ◌∙◌, sym, subst, leb→le, le→leb, eqb-true}
use Rattle.syntax.specs.Octets as octets
use Rattle.syntax.specs.Octets.{within}
use Rattle.syntax.specs.Service.{fit}
use Rattle.syntax.specs.Opening.{earlier}
use Rattle.syntax.specs.Repertoire.{tag_octet}
use Rattle.syntax.specs.Content.{all_digits, blank}
use Rattle.syntax.specs.Tree.{Segment, ok, content_in}
use Rattle.syntax.proofs.TreeLaws.{and_left, and_right, and_both}
use Rattle.syntax.specs.declared.Service.{Service}
use Rattle.syntax.specs.declared.Syntax.{Syntax}
use Rattle.syntax.specs.declared.Version.{Version}
use Rattle.grammar.specs.Lists.{Snoc, nil, ◌▷◌, ◌+++◌, joined, Rule, holds, every}
use Rattle.grammar.specs.Segments.{Unh, Unt, Ush, Usa, Usr, Ust, seg, asked, number}
use Rattle.grammar.specs.Elements as table
use Rattle.grammar.specs.Elements.{reference, in_range, simple, composite, any_text, not_empty_reference, formed_as, formed_row, formed}
use Rattle.grammar.specs.Interchange.{Leaf, Header, Trailer, Body, msg, message, show_header, show_trailer, show_body, show_message}
use Rattle.grammar.specs.Rules.{inside_s, formed_s, amount_s}
use Rattle.writing.specs.Decimal.{decimal_of}
use Rattle.writing.specs.DecimalLaws.{decimal-digits}
use Rattle.filters.specs.Hex.{hex_text}
use Rattle.filters.specs.Six.{six_text}
use Rattle.filters.specs.HexLaws.{hex-length}
use Rattle.filters.specs.SixLaws.{six-length}
use Rattle.weaving.specs.Seals.{plains, released, single, several, ush_leaf, usa_leaf, ust_leaf, usr_leaf, new_header, new_trailer, grown, sealed_message, ref_right, filter_right, length_right, text_by, may_write}
use Rattle.demands.specs.SealedListLaws.{front, joined-front}
use Rattle.demands.specs.SealedNumberLaws.{plains-content, released-content, decimal-some, decimal-six}
use Rattle.demands.specs.SealedSymbolLaws.{ush-passes, usa-passes, ust-passes, usr-passes, unt-passes}
use Rattle.demands.specs.SealedWrittenLaws.{digits-tag, clear_s, ok-passes, clear-passes, value-ok, value-clear, symbols-inside, inside-symbols, well_s, symbols-well, well-symbols}
use Rattle.grammar.proofs.ListsLaws.{every-left, every-right, every-join}
use Rattle.grammar.specs.TestLaws.{is_true, passes}

-- ---- a rule that the new segments meet, and UNT with its count grown where it met it

pub record Takes (rule : Segment → Rule) (v : Version) (r : List ℕ) (f : ℕ) (σ : Service) (t : List ℕ) (n : Leaf) : Type 0 where
  pub ush : holds (rule (seg Ush (ush_leaf r f)))
  pub usa : holds (rule (seg Usa usa_leaf))
  pub ust : holds (rule (seg Ust (ust_leaf v r)))
  pub usr : holds (rule (seg Usr (usr_leaf v σ t)))
  pub unt : holds (rule (seg Unt n)) → holds (rule (seg Unt (grown n)))

-- it is met by all segments of the message that is sealed
pub message-takes : (rule : Segment → Rule) (v : Version) (r : List ℕ) (f : ℕ) (σ : Service) (t : List ℕ) (u : Leaf) (hs : Snoc Header) (b : Body) (ts : Snoc Trailer) (n : Leaf) → Takes rule v r f σ t n
    → holds (every rule (show_message (message (msg u hs b ts) n))) → holds (every rule (show_message (sealed_message (new_header r f) (new_trailer v σ r t) (message (msg u hs b ts) n))))
message-takes rule v r f σ t u hs b ts n w h =
    let U : Snoc Segment = nil ▷ seg Unh u in
    let J : Snoc Segment = joined show_header hs in
    let K : Snoc Segment = joined show_trailer ts in
    let N : Snoc Segment = joined show_header (front (new_header r f) hs) in
    let a : holds (every rule (U +++ J +++ show_body b)) = every-left rule (U +++ J +++ show_body b) K h.0 in
    let c : holds (every rule (U +++ J)) = every-left rule (U +++ J) (show_body b) a in
    let j : holds (every rule N) =
    subst (λ (s : Snoc Segment). holds (every rule s)) (sym (joined-front show_header (new_header r f) hs))
    (every-join rule (nil +++ show_header (new_header r f)) J ((tt, w.ush), w.usa) (every-right rule U J c)) in (
      (
        (
          every-join rule (U +++ N +++ show_body b) K
              (every-join rule (U +++ N) (show_body b) (every-join rule U N (every-left rule U J c) j) (every-right rule (U +++ J) (show_body b) a))
              (every-right rule (U +++ J +++ show_body b) K h.0),
          w.ust,
        ),
        w.usr,
      ),
      w.unt h.1,
    )

-- ---- 8

-- F is 2 or 7 in either edition
pub filter-wide : (v : Version) (f : ℕ) → T (filter_right v f) → T (eqb f 2 || eqb f 7)
filter-wide v f h = by (eqb f 2) (earlier v) h
  where
    by : (a e : Bool) → T (a || (not e && eqb f 7)) → T (a || eqb f 7)
    by true e h = tt
    by false true h = absurd h
    by false false h = h

-- one of a segment's elements decides, the others are right by themselves
here : (b : Bool) → b ≡ true → T (b && true && true && true)
here true e = tt
here false e = passes false e

ush-formed : (v : Version) (r : List ℕ) (f : ℕ) → T (in_range (reference 1 14) r) → T (filter_right v f) → T (formed v (asked (seg Ush (ush_leaf r f))))
ush-formed v r f h k = by (eqb f 2) refl (eqb f 7) refl (filter-wide v f k)
  where
    long : in_range (reference 1 14) (content_in (plains r)) ≡ true
    long = ap (in_range (reference 1 14)) (plains-content r) ∙ is_true (in_range (reference 1 14) r) h

    by : (a : Bool) → eqb f 2 ≡ a → (c : Bool) → eqb f 7 ≡ c → T (a || c) → T (formed v (asked (seg Ush (ush_leaf r f))))
    by true d c e k = subst (λ (f : ℕ). T (formed v (asked (seg Ush (ush_leaf r f))))) (sym (eqb-true f 2 d)) (here (in_range (reference 1 14) (content_in (plains r))) long)
    by false d true e k = subst (λ (f : ℕ). T (formed v (asked (seg Ush (ush_leaf r f))))) (sym (eqb-true f 7 e)) (here (in_range (reference 1 14) (content_in (plains r))) long)
    by false d false e k = absurd k

-- A to Z and 0 to 9 are no spaces
not-blank : (r : List ℕ) → T (within 1 14 (length r)) → T (octets.all_pass tag_octet r) → T (not (blank r))
not-blank [] h k = absurd h
not-blank (b ∷ r) h k = by (eqb b 32) refl
  where
    by : (c : Bool) → eqb b 32 ≡ c → T (not (c && blank r))
    by true e = absurd (subst (λ (x : ℕ). T (tag_octet x)) (eqb-true b 32 e) (and_left (tag_octet b) (octets.all_pass tag_octet r) k))
    by false e = tt

ust-formed : (v : Version) (r : List ℕ) → T (in_range (reference 1 14) r) → T (formed v (asked (seg Ust (ust_leaf v r))))
ust-formed v r h = by (earlier v)
  where
    long : in_range (reference 1 14) (content_in (plains r)) ≡ true
    long = ap (in_range (reference 1 14)) (plains-content r) ∙ is_true (in_range (reference 1 14) r) h

    by : (e : Bool)
        → T (formed_row (simple (reference 1 14 ∷ []) ∷ cond e [] (simple (table.digits 1 6 ∷ []) ∷ [])) (asked (seg Ust (single r ∷ cond e [] (single (octets.octets "4") ∷ [])))) 1)
    by true = here (in_range (reference 1 14) (content_in (plains r))) long
    by false = here (in_range (reference 1 14) (content_in (plains r))) long

-- how long the text of VALUE may be: 0560 has 512 octets at most, and 256 in the earlier edition
abbrev pub most_text : Version → ℕ
most_text v = cond (earlier v) 256 512

usr-formed : (v : Version) (σ : Service) (t : List ℕ) → length t ≤ most_text v → T (formed v (asked (seg Usr (usr_leaf v σ t))))
usr-formed v σ t h = by (earlier v) h
  where
    long : (n : ℕ) → length t ≤ n → within 0 n (length (content_in (released σ t))) ≡ true
    long n h =
        ap (λ (l : List ℕ). within 0 n (length l)) (released-content σ t)
        ∙ is_true (within 0 n (length t)) (and_both (leb 0 (length t)) (leb (length t) n) (le→leb 0 (length t) (omega arith)) (le→leb (length t) n h))

    here : (b : Bool) → b ≡ true → T (b && true && true)
    here true e = tt
    here false e = passes false e

    by : (e : Bool) → length t ≤ cond e 256 512
        → T (formed_row (cond e (composite (any_text 0 256 ∷ [])) (composite (any_text 1 3 ∷ any_text 0 512 ∷ [])) ∷ [])
        (asked (seg Usr (cond e (several (released σ t) []) (several (plains (octets.octets "1")) (released σ t ∷ [])) ∷ []))) 1)
    by true h = here (within 0 256 (length (content_in (released σ t)))) (long 256 h)
    by false h = here (within 0 512 (length (content_in (released σ t)))) (long 512 h)

unt-formed : (v : Version) (n : Leaf) → number n 1 + 4 < 1000000 → T (formed v (asked (seg Unt n))) → T (formed v (asked (seg Unt (grown n))))
unt-formed v n l h = by n (number n 1 + 4) (first (number n 1 + 4) l) h
  where
    first : (k : ℕ) → k < 1000000 → T (all_digits (content_in (plains (decimal_of k))) && within 1 6 (length (content_in (plains (decimal_of k)))) && true && true)
    first k l =
        subst (λ (s : List ℕ). T (all_digits s && within 1 6 (length s) && true && true)) (sym (plains-content (decimal_of k)))
        (here (all_digits (decimal_of k)) (within 1 6 (length (decimal_of k))) (decimal-digits k (omega (arith, l)))
        (is_true (within 1 6 (length (decimal_of k))) (and_both (leb 1 (length (decimal_of k))) (leb (length (decimal_of k)) 6) (le→leb 1 (length (decimal_of k)) (decimal-some k)) (le→leb (length (decimal_of k)) 6 (decimal-six k l)))))
      where
        here : (a b : Bool) → a ≡ true → b ≡ true → T (a && b && true && true)
        here true true e d = tt
        here true false e d = passes false d
        here false b e d = passes false e

    by : (n : Leaf) (k : ℕ) → T (all_digits (content_in (plains (decimal_of k))) && within 1 6 (length (content_in (plains (decimal_of k)))) && true && true)
        → T (formed v (asked (seg Unt n))) → T (formed v (asked (seg Unt (single (decimal_of k) ∷ drop 1 n))))
    by [] k f h = absurd h
    by (e ∷ n) k f h =
        and_both (all_digits (content_in (plains (decimal_of k))) && within 1 6 (length (content_in (plains (decimal_of k)))) && true && true)
        (formed_row (simple (not_empty_reference ∷ []) ∷ []) (asked (seg Unt (e ∷ n))) 2) f
        (and_right (formed_as (simple (table.digits 1 6 ∷ [])) (asked (seg Unt (e ∷ n))) 1) (formed_row (simple (not_empty_reference ∷ []) ∷ []) (asked (seg Unt (e ∷ n))) 2) h)

-- ---- the text of VALUE is not too long

pub text-short : (w : Version) (f : ℕ) (v : List ℕ) → T (length_right w f v) → length (text_by f v) ≤ most_text w
text-short w f v h = by (earlier w) (eqb f 2) h
  where
    most : (n : ℕ) → T (within 1 n (length v)) → length v ≤ n
    most n h = leb→le (length v) n (and_right (leb 1 (length v)) (leb (length v) n) h)

    by : (a b : Bool) → T (within 1 (cond a 128 (cond b 256 384)) (length v)) → length (cond b (hex_text v) (six_text v)) ≤ cond a 256 512
    by true true h = omega (arith, hex-length v, most 128 h)
    by true false h = omega (arith, six-length v, most 128 h)
    by false true h = omega (arith, hex-length v, most 256 h)
    by false false h = omega (arith, six-length v, most 384 h)

-- ---- all of them

filter-digits : (v : Version) (f : ℕ) → T (filter_right v f) → T (octets.all_pass tag_octet (decimal_of f))
filter-digits v f h = digits-tag (decimal_of f) (passes (all_digits (decimal_of f)) (decimal-digits f (by (eqb f 2) refl (eqb f 7) refl (filter-wide v f h))))
  where
    by : (a : Bool) → eqb f 2 ≡ a → (c : Bool) → eqb f 7 ≡ c → T (a || c) → f < 18446744073709551616
    by true d c e k = omega (arith, eqb-true f 2 d)
    by false d true e k = omega (arith, eqb-true f 7 e)
    by false d false e k = absurd k

module _ (y : Syntax) (fits : T (fit y.service)) (r : List ℕ) (f : ℕ) (t : List ℕ) (n : Leaf) (ref : T (ref_right r)) (filter : T (filter_right y.version f)) (may : T (octets.all_pass (may_write y) t))
    (short : length t ≤ most_text y.version) (small : number n 1 + 4 < 1000000) where
  letters : T (octets.all_pass tag_octet r)
  letters = and_right (within 1 14 (length r)) (octets.all_pass tag_octet r) ref

  long : T (in_range (reference 1 14) r)
  long =
      let h = and_left (within 1 14 (length r)) (octets.all_pass tag_octet r) ref in
      and_both (within 1 14 (length r)) (not (blank r)) h (not-blank r h letters)

  number_digits : T (octets.all_pass tag_octet (decimal_of (number n 1 + 4)))
  number_digits = digits-tag (decimal_of (number n 1 + 4)) (passes (all_digits (decimal_of (number n 1 + 4))) (decimal-digits (number n 1 + 4) (omega (arith, small))))

  pub takes-well : Takes (well_s y.service) y.version r f y.service t n
  takes-well =
      let p = ok-passes y fits in
      let σ : Service = y.service in
      record {
        ush = symbols-well σ (seg Ush (ush_leaf r f)) tt (ush-passes (ok σ) p r f letters (filter-digits y.version f filter));
        usa = symbols-well σ (seg Usa usa_leaf) tt (usa-passes (ok σ) p);
        ust = symbols-well σ (seg Ust (ust_leaf y.version r)) tt (ust-passes (ok σ) p y.version r letters);
        usr = symbols-well σ (seg Usr (usr_leaf y.version σ t)) tt (usr-passes (ok σ) p y.version σ t (value-ok y fits t may));
        unt = λ h. symbols-well σ (seg Unt (grown n)) tt (unt-passes (ok σ) p n number_digits (well-symbols σ (seg Unt n) h));
      }

  -- 3
  pub takes-inside : Takes (inside_s y) y.version r f y.service t n
  takes-inside =
      let p = clear-passes y fits in
      record {
        ush = symbols-inside y (seg Ush (ush_leaf r f)) (ush-passes (clear_s y) p r f letters (filter-digits y.version f filter));
        usa = symbols-inside y (seg Usa usa_leaf) (usa-passes (clear_s y) p);
        ust = symbols-inside y (seg Ust (ust_leaf y.version r)) (ust-passes (clear_s y) p y.version r letters);
        usr = symbols-inside y (seg Usr (usr_leaf y.version y.service t)) (usr-passes (clear_s y) p y.version y.service t (value-clear y fits t may));
        unt = λ h. symbols-inside y (seg Unt (grown n)) (unt-passes (clear_s y) p n number_digits (inside-symbols y (seg Unt n) h));
      }

  -- 8
  pub takes-formed : Takes (formed_s y) y.version r f y.service t n
  takes-formed = record {
    ush = ush-formed y.version r f long filter;
    usa = tt;
    ust = ust-formed y.version r long;
    usr = usr-formed y.version y.service t short;
    unt = λ h. unt-formed y.version n small h;
  }

  -- 12
  pub takes-amount : Takes amount_s y.version r f y.service t n
  takes-amount = record { ush = tt; usa = tt; ust = tt; usr = tt; unt = λ h. tt }
