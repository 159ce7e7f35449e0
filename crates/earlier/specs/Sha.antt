-- SHA-1 as loops over an index: what each loop keeps, from its start to its end.
use Rattle.std.specs.Prelude.{List, [], drop, length, refl, replicate, slice_index, slice_index_or, slice_set, suc, take, zero, ℕ, ◌%◌, ◌*◌, ◌++◌, ◌+◌, ◌-◌, ◌/◌, ◌<◌, ◌^◌, ◌∷◌, ◌≡◌, ◌≤◌, ◌⊎◌}
use Rattle.sha.specs.declared.Chain.{Chain}
use Rattle.sha.specs.Sha.{block, blocks, ch, constant, eight, four, maj, mixed, output, parity, rounds, step, zeros}
use Rattle.std.proofs.Common.{add-one, arith, drop-cons, drop-drop, drop_of_length-le, get_or-append-add, get_or-take, inl, inr, le-leb, length-append, length-set, length-take-le, sym, take-suc, take-suc-set, take-take, take_all, ◌∙◌}
use Rattle.std.proofs.Math.Path.{ap}
use Rattle.std.proofs.lemmas.Bool.{lt-leb}
use Rattle.std.proofs.lemmas.List.{take-append-le}
use Rattle.sha.specs.Feeding.{kept, poured}
use Rattle.sha.specs.Loops.{round_by}
use Rattle.sha.specs.LoopsLaws.{blocks-none, blocks_more, length-kept, take-kept}

-- from the working variables h the rounds from a on came to s at t
pub record Rounding (w : List ℕ) (a e : ℕ) (h s : Chain) (t : ℕ) : Type 0 where
  pub size : length w ≡ 80
  pub least : a ≤ t
  pub most : t ≤ e
  pub within : e ≤ 80
  pub ends : rounds a (drop a w) h ≡ rounds t (drop t w) s

-- the whole blocks of the part came from h to c at i
pub record Pouring (h : Chain) (part : List ℕ) (c : Chain) (i : ℕ) : Type 0 where
  pub most : i ≤ length part
  pub ends : blocks (length part / 64) h part ≡ blocks ((length part - i) / 64) c (drop i part)

-- of the 64 octets that are wanted the first i stand in r
pub record Filling (wanted r : List ℕ) (i : ℕ) : Type 0 where
  pub size : length r ≡ 64
  pub most : i ≤ 64
  pub filled : take i r ≡ take i wanted

module _ (t x y z : ℕ) where
  mixed-ch : t < 20 → mixed t x y z ≡ ch x y z
  mixed-ch l = rw (le-leb t 19 (omega arith))

  mixed-low : 20 ≤ t → t < 40 → mixed t x y z ≡ parity x y z
  mixed-low g l = rw (lt-leb t 19 (omega arith), le-leb t 39 (omega arith))

  mixed-maj : 40 ≤ t → t < 60 → mixed t x y z ≡ maj x y z
  mixed-maj g l = rw (lt-leb t 19 (omega arith), lt-leb t 39 (omega arith), le-leb t 59 (omega arith))

  mixed-high : 60 ≤ t → mixed t x y z ≡ parity x y z
  mixed-high g = rw (lt-leb t 19 (omega arith), lt-leb t 39 (omega arith), lt-leb t 59 (omega arith))

module _ (t : ℕ) where
  constant-first : t < 20 → constant t ≡ 0x5a827999
  constant-first l = rw (le-leb t 19 (omega arith))

  constant-second : 20 ≤ t → t < 40 → constant t ≡ 0x6ed9eba1
  constant-second g l = rw (lt-leb t 19 (omega arith), le-leb t 39 (omega arith))

  constant-third : 40 ≤ t → t < 60 → constant t ≡ 0x8f1bbcdc
  constant-third g l = rw (lt-leb t 19 (omega arith), lt-leb t 39 (omega arith), le-leb t 59 (omega arith))

  constant-fourth : 60 ≤ t → constant t ≡ 0xca62c1d6
  constant-fourth g = rw (lt-leb t 19 (omega arith), lt-leb t 39 (omega arith), lt-leb t 59 (omega arith))

rounds-more : (t x : ℕ) (w : List ℕ) (s : Chain) → rounds t (x ∷ w) s ≡ rounds (suc t) w (step t x s)
unfolding rounds
rounds-more t x w s = refl

rounds-none : (t : ℕ) (s : Chain) → rounds t [] s ≡ s
unfolding rounds
rounds-none t s = refl

-- a round is the page's where its function and its constant are
round-step : (t f k w : ℕ) (s : Chain) → f ≡ mixed t s.b s.c s.d → k ≡ constant t → round_by f k w s ≡ step t w s
unfolding round_by step
round-step t f k w s e d = rw (e, d)

pub rounding-start : (w : List ℕ) (a e : ℕ) (h : Chain) → length w ≡ 80 → a ≤ e → e ≤ 80 → Rounding w a e h h a
rounding-start w a e h l m n = record { size = l; least = omega arith; most = m; within = n; ends = refl }

module _ {w : List ℕ} {a e : ℕ} {h s : Chain} {t : ℕ} (g : Rounding w a e h s t) where
  rounding-on : (f k : ℕ) (r : Chain) → t < e → f ≡ mixed t s.b s.c s.d → k ≡ constant t → r ≡ round_by f k (slice_index w t) s → Rounding w a e h r (t + 1)
  rounding-on f k r l p q d = record {
    size = g.size;
    least = omega (arith, g.least);
    most = omega arith;
    within = g.within;
    ends =
        g.ends ∙ ap (λ (u : List ℕ). rounds t u s) (drop-cons w t 0 (omega (arith, g.size, g.within))) ∙ rounds-more t (slice_index w t) (drop (suc t) w) s
        ∙ ap (rounds (suc t) (drop (suc t) w)) (sym (d ∙ round-step t f k (slice_index w t) s p q)) ∙ ap (λ (n : ℕ). rounds n (drop n w) r) (sym (add-one t));
  }

  pub rounding-end : e ≤ t → rounds a (drop a w) h ≡ rounds e (drop e w) s
  rounding-end l = let d : t ≡ e = omega (arith, g.most) in g.ends ∙ ap (λ (n : ℕ). rounds n (drop n w) s) d

pub rounding-choice : {w : List ℕ} {h s : Chain} {t f : ℕ} (r : Chain) → Rounding w 0 20 h s t → t < 20 → f ≡ ch s.b s.c s.d → r ≡ round_by f 0x5a827999 (slice_index w t) s
    → Rounding w 0 20 h r (t + 1)
rounding-choice {w} {h} {s} {t} {f} r g l p d =
    rounding-on g f 0x5a827999 r l (p ∙ sym (mixed-ch t s.b s.c s.d l)) (sym (constant-first t l)) d

pub rounding-majority : {w : List ℕ} {h s : Chain} {t f : ℕ} (r : Chain) → Rounding w 40 60 h s t → t < 60 → f ≡ maj s.b s.c s.d → r ≡ round_by f 0x8f1bbcdc (slice_index w t) s
    → Rounding w 40 60 h r (t + 1)
rounding-majority {w} {h} {s} {t} {f} r g l p d =
    rounding-on g f 0x8f1bbcdc r l (p ∙ sym (mixed-maj t s.b s.c s.d g.least l)) (sym (constant-third t g.least l)) d

-- the two loops of Parity: from 20 on, and from 60 on
abbrev pub Parities : ℕ → ℕ → Type 0
Parities from k = ((from ≡ 20) × (k ≡ 0x6ed9eba1)) ⊎ ((from ≡ 60) × (k ≡ 0xca62c1d6))

parity-mixed : {from k : ℕ} (t x y z : ℕ) → Parities from k → from ≤ t → t < from + 20 → mixed t x y z ≡ parity x y z
parity-mixed t x y z (inl q) g l = let e = q.0 in mixed-low t x y z (omega (arith, e)) (omega (arith, e))
parity-mixed t x y z (inr q) g l = let e = q.0 in mixed-high t x y z (omega (arith, e))

parity-constant : {from k : ℕ} (t : ℕ) → Parities from k → from ≤ t → t < from + 20 → k ≡ constant t
parity-constant t (inl q) g l = let e = q.0 in q.1 ∙ sym (constant-second t (omega (arith, e)) (omega (arith, e)))
parity-constant t (inr q) g l = let e = q.0 in q.1 ∙ sym (constant-fourth t (omega (arith, e)))

pub rounding-parity : {w : List ℕ} {from k : ℕ} {h s : Chain} {t f : ℕ} (r : Chain) → Parities from k → Rounding w from (from + 20) h s t → t < from + 20
    → f ≡ parity s.b s.c s.d → r ≡ round_by f k (slice_index w t) s → Rounding w from (from + 20) h r (t + 1)
rounding-parity {w} {from} {k} {h} {s} {t} {f} r c g l p d =
    rounding-on g f k r l (p ∙ sym (parity-mixed t s.b s.c s.d c g.least l)) (parity-constant t c g.least l) d

pub parities-room : (from k : ℕ) → Parities from k → from + 20 ≤ 80
parities-room from k (inl q) = let e = q.0 in omega (arith, e)
parities-room from k (inr q) = let e = q.0 in omega (arith, e)

-- all eighty
pub rounds-all : (w : List ℕ) (h a b c d : Chain) → length w ≡ 80 → rounds 0 w h ≡ rounds 20 (drop 20 w) a → rounds 20 (drop 20 w) a ≡ rounds 40 (drop 40 w) b
    → rounds 40 (drop 40 w) b ≡ rounds 60 (drop 60 w) c → rounds 60 (drop 60 w) c ≡ rounds 80 (drop 80 w) d → d ≡ rounds 0 w h
rounds-all w h a b c d l e f g k =
    sym (e ∙ f ∙ g ∙ k ∙ ap (λ (u : List ℕ). rounds 80 u d) (drop_of_length-le w {i = 80} (omega (arith, l))) ∙ rounds-none 80 d)

pub pouring-start : (h : Chain) (part : List ℕ) → Pouring h part h 0
pouring-start h part = record { most = omega arith; ends = let e : length part ≡ length part - 0 = omega arith in ap (λ (n : ℕ). blocks (n / 64) h part) e }

module _ {h c : Chain} {part : List ℕ} {i : ℕ} (g : Pouring h part c i) where
  pub pouring-on : (r : Chain) → 64 ≤ length part - i → r ≡ block c (take (i + 64 - i) (drop i part)) → Pouring h part r (i + 64)
  pouring-on r l d =
      let w : i + 64 - i ≡ 64 = omega arith in
      let n : (length part - i) / 64 ≡ suc ((length part - (i + 64)) / 64) = omega arith in
      record {
        most = omega arith;
        ends =
            g.ends ∙ ap (λ (k : ℕ). blocks k c (drop i part)) n ∙ blocks_more ((length part - (i + 64)) / 64) c (drop i part)
            ∙ ap (λ (q : Chain). blocks ((length part - (i + 64)) / 64) q (drop 64 (drop i part))) (sym (d ∙ ap (λ (k : ℕ). block c (take k (drop i part))) w))
            ∙ ap (blocks ((length part - (i + 64)) / 64) r) (drop-drop 64 i part);
      }

  pub pouring-end : length part - i < 64 → c ≡ poured h part
  unfolding poured
  pouring-end l =
      let n : (length part - i) / 64 ≡ 0 = omega arith in
      sym (g.ends ∙ ap (λ (k : ℕ). blocks k c (drop i part)) n ∙ blocks-none c (drop i part))

getD-none : (n i : ℕ) → ◌≡◌ {A = ℕ} (slice_index (replicate n 0) i) 0
getD-none zero i = refl
getD-none (suc n) zero = refl
getD-none (suc n) (suc i) = getD-none n i

getD-behind : (w : List ℕ) (n i : ℕ) → slice_index (w ++ replicate n 0) i ≡ slice_index w i
getD-behind [] n i = getD-none n i
getD-behind (x ∷ w) n zero = refl
getD-behind (x ∷ w) n (suc i) = getD-behind w n i

get_d_kept : (w : List ℕ) (i : ℕ) → i < 64 → slice_index (kept w) i ≡ slice_index w i
unfolding kept zeros
get_d_kept w i l = get_or-take 64 (w ++ replicate 64 0) i 0 l ∙ getD-behind w 64 i

module _ (b part : List ℕ) (k : ℕ) (full : length b ≡ 64) (l : k < 64) where
  front : length (take k b) ≡ k
  front = length-take-le k b (omega (arith, full))

  pub filling-start : Filling (kept (take k b ++ part)) b k
  filling-start =
      let n = length-append (take k b) part in
      record {
        size = full;
        most = omega arith;
        filled = sym (take-kept k (take k b ++ part) (omega arith) (omega (arith, n, front)) ∙ take-append-le k (take k b) part (omega (arith, front)) ∙ take-take k k b (omega arith));
      }

  pub filling-on : {r : List ℕ} {i : ℕ} (x : ℕ) → Filling (kept (take k b ++ part)) r i → k ≤ i → i < 64 → x ≡ slice_index part (i - k) → Filling (kept (take k b ++ part)) (slice_set r i x) (i + 1)
  filling-on {r} {i} x g m n d =
      let p : length (take k b) + (i - k) ≡ i = omega (arith, front) in
      let q : slice_index_or part (i - k) 0 ≡ slice_index_or (kept (take k b ++ part)) i 0 =
      sym (get_d_kept (take k b ++ part) i n ∙ ap (λ (j : ℕ). slice_index (take k b ++ part) j) (sym p) ∙ get_or-append-add (take k b) part (i - k) 0) in
      record {
        size = length-set r i x ∙ g.size;
        most = omega arith;
        filled =
            ap (λ (j : ℕ). take j (slice_set r i x)) (add-one i) ∙ take-suc-set r i x (omega (arith, g.size)) ∙ ap (λ (y : ℕ). take i r ++ y ∷ []) (d ∙ q)
            ∙ ap (λ (u : List ℕ). u ++ slice_index (kept (take k b ++ part)) i ∷ []) g.filled
            ∙ sym (take-suc (kept (take k b ++ part)) i 0 (omega (arith, length-kept (take k b ++ part)))) ∙ ap (λ (j : ℕ). take j (kept (take k b ++ part))) (sym (add-one i));
      }

pub filling-end : (w : List ℕ) {r : List ℕ} {i : ℕ} → Filling (kept w) r i → 64 ≤ i → r ≡ kept w
filling-end w {r} {i} g l = sym (take_all i r (omega (arith, g.size))) ∙ g.filled ∙ take_all i (kept w) (omega (arith, length-kept w))

-- 64 bits are all that is appended
octet-56 : (n l : ℕ) → l ≡ (n * 2 ^ 3) % 2 ^ 64 → l / 2 ^ 56 % 256 ≡ 8 * n / 2 ^ 56 % 256
octet-56 n l e = omega arith

octet-48 : (n l : ℕ) → l ≡ (n * 2 ^ 3) % 2 ^ 64 → l / 2 ^ 48 % 256 ≡ 8 * n / 2 ^ 48 % 256
octet-48 n l e = omega arith

octet-40 : (n l : ℕ) → l ≡ (n * 2 ^ 3) % 2 ^ 64 → l / 2 ^ 40 % 256 ≡ 8 * n / 2 ^ 40 % 256
octet-40 n l e = omega arith

octet-32 : (n l : ℕ) → l ≡ (n * 2 ^ 3) % 2 ^ 64 → l / 2 ^ 32 % 256 ≡ 8 * n / 2 ^ 32 % 256
octet-32 n l e = omega arith

octet-24 : (n l : ℕ) → l ≡ (n * 2 ^ 3) % 2 ^ 64 → l / 2 ^ 24 % 256 ≡ 8 * n / 2 ^ 24 % 256
octet-24 n l e = omega arith

octet-16 : (n l : ℕ) → l ≡ (n * 2 ^ 3) % 2 ^ 64 → l / 2 ^ 16 % 256 ≡ 8 * n / 2 ^ 16 % 256
octet-16 n l e = omega arith

octet-8 : (n l : ℕ) → l ≡ (n * 2 ^ 3) % 2 ^ 64 → l / 2 ^ 8 % 256 ≡ 8 * n / 2 ^ 8 % 256
octet-8 n l e = omega arith

octet-0 : (n l : ℕ) → l ≡ (n * 2 ^ 3) % 2 ^ 64 → l / 2 ^ 0 % 256 ≡ 8 * n / 2 ^ 0 % 256
octet-0 n l e = omega arith

pub eight-of : (n l : ℕ) {x0 x1 x2 x3 x4 x5 x6 x7 : ℕ} → l ≡ (n * 2 ^ 3) % 2 ^ 64
    → x0 ≡ l / 2 ^ 56 % 256 → x1 ≡ l / 2 ^ 48 % 256 → x2 ≡ l / 2 ^ 40 % 256 → x3 ≡ l / 2 ^ 32 % 256
    → x4 ≡ l / 2 ^ 24 % 256 → x5 ≡ l / 2 ^ 16 % 256 → x6 ≡ l / 2 ^ 8 % 256 → x7 ≡ l / 2 ^ 0 % 256
    → x0 ∷ x1 ∷ x2 ∷ x3 ∷ x4 ∷ x5 ∷ x6 ∷ x7 ∷ [] ≡ eight (8 * n)
unfolding eight
eight-of n l e e0 e1 e2 e3 e4 e5 e6 e7 =
    rw (e0, e1, e2, e3, e4, e5, e6, e7, octet-56 n l e, octet-48 n l e, octet-40 n l e, octet-32 n l e, octet-24 n l e, octet-16 n l e, octet-8 n l e, octet-0 n l e)

pub output-of : (h : Chain) {x0 x1 x2 x3 x4 x5 x6 x7 x8 x9 x10 x11 x12 x13 x14 x15 x16 x17 x18 x19 : ℕ}
    → x0 ≡ h.a / 2 ^ 24 % 256 → x1 ≡ h.a / 2 ^ 16 % 256 → x2 ≡ h.a / 2 ^ 8 % 256 → x3 ≡ h.a / 2 ^ 0 % 256
    → x4 ≡ h.b / 2 ^ 24 % 256 → x5 ≡ h.b / 2 ^ 16 % 256 → x6 ≡ h.b / 2 ^ 8 % 256 → x7 ≡ h.b / 2 ^ 0 % 256
    → x8 ≡ h.c / 2 ^ 24 % 256 → x9 ≡ h.c / 2 ^ 16 % 256 → x10 ≡ h.c / 2 ^ 8 % 256 → x11 ≡ h.c / 2 ^ 0 % 256
    → x12 ≡ h.d / 2 ^ 24 % 256 → x13 ≡ h.d / 2 ^ 16 % 256 → x14 ≡ h.d / 2 ^ 8 % 256 → x15 ≡ h.d / 2 ^ 0 % 256
    → x16 ≡ h.e / 2 ^ 24 % 256 → x17 ≡ h.e / 2 ^ 16 % 256 → x18 ≡ h.e / 2 ^ 8 % 256 → x19 ≡ h.e / 2 ^ 0 % 256
    → x0 ∷ x1 ∷ x2 ∷ x3 ∷ x4 ∷ x5 ∷ x6 ∷ x7 ∷ x8 ∷ x9 ∷ x10 ∷ x11 ∷ x12 ∷ x13 ∷ x14 ∷ x15 ∷ x16 ∷ x17 ∷ x18 ∷ x19 ∷ [] ≡ output h
unfolding output four
output-of h e0 e1 e2 e3 e4 e5 e6 e7 e8 e9 e10 e11 e12 e13 e14 e15 e16 e17 e18 e19 = rw (e0, e1, e2, e3, e4, e5, e6, e7, e8, e9, e10, e11, e12, e13, e14, e15, e16, e17, e18, e19)

module _ (w more : List ℕ) where
  all : length (w ++ more) ≡ length w + length more
  all = length-append w more

  whole : length w / 64 * 64 ≤ length w
  whole = omega arith
