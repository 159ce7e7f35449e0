-- What the loops keep, from their start to their end.
use Rattle.std.specs.Prelude.{◌≡◌, ℕ, zero, suc, ◌+◌, ◌-◌, ◌*◌, ◌/◌, ◌<◌, ◌≤◌, List, [], ◌∷◌, ◌++◌, length, take, drop, replicate, slice_index, slice_set, refl}
use Rattle.std.proofs.Common.{add-one, ◌∙◌, le-leb, length-set, length-append, drop_of_length-le, drop-cons, take-suc-set, get_or-take, take_all, take-take, length-take-le, drop-drop, length-drop}
use native.Mathlib.Omega.{arith}
use Rattle.std.proofs.Math.Path.{sym, ap}
use Rattle.std.proofs.lemmas.Bool.{lt-leb}
use Rattle.std.proofs.lemmas.List.{length-replicate, length-take, take-append-le}
use Rattle.sha.specs.declared.Chain.{Chain}
use Rattle.sha.specs.Sha.{word, ch, parity, maj, mixed, constant, zeros, words, schedule, next_of, next, rounds, step, block, blocks}
use Rattle.sha.specs.Feeding.{poured, left, kept}
use Rattle.sha.specs.Loops.{round_by, Loading, Spreading, IsStretch}

-- ---- the words of a block

words_more : (s : List ℕ) (i : ℕ) → words (suc i) s ≡ words i s ++ word (slice_index s (i * 4)) (slice_index s (i * 4 + 1)) (slice_index s (i * 4 + 2)) (slice_index s (i * 4 + 3)) ∷ []
unfolding words
words_more s i = refl

pub loading-start : {s w : List ℕ} → length w ≡ 80 → Loading s w 0
unfolding words
loading-start e = record { filled = refl; size = e; most = omega arith }

pub loading-on : {s w : List ℕ} {i : ℕ} (x : ℕ) → Loading s w i → i < 16
    → x ≡ word (slice_index s (i * 4)) (slice_index s (i * 4 + 1)) (slice_index s (i * 4 + 2)) (slice_index s (i * 4 + 3)) → Loading s (slice_set w i x) (i + 1)
loading-on {s} {w} {i} x g h e = record {
  filled = rw (add-one, take-suc-set w i x (omega (arith, g.size)), words_more, g.filled, e);
  size = length-set w i x ∙ g.size;
  most = omega arith;
}

pub loading-end : {s w : List ℕ} {i : ℕ} → Loading s w i → 16 ≤ i → take 16 w ≡ words 16 s
loading-end {s} {w} {i} g h = let e : i ≡ 16 = omega (arith, g.most) in ap (λ (n : ℕ). take n w) (sym e) ∙ g.filled ∙ ap (λ (n : ℕ). words n s) e

-- ---- the schedule

schedule-more : (m : List ℕ) (k : ℕ) → schedule (suc k) m ≡ schedule k m ++ next_of (schedule k m) (k + 16) ∷ []
unfolding schedule
schedule-more m k = refl

next-taken : (w : List ℕ) (t : ℕ) → 16 ≤ t → next_of (take t w) t ≡ next (slice_index w (t - 3)) (slice_index w (t - 8)) (slice_index w (t - 14)) (slice_index w (t - 16))
unfolding next_of
next-taken w t h = rw (get_or-take t w (t - 3) 0 (omega arith), get_or-take t w (t - 8) 0 (omega arith), get_or-take t w (t - 14) 0 (omega arith), get_or-take t w (t - 16) 0 (omega arith))

pub spreading-start : {w : List ℕ} → length w ≡ 80 → Spreading (take 16 w) w 16
unfolding schedule
spreading-start e = record { filled = refl; size = e; least = omega arith; most = omega arith }

pub spreading-on : {m w : List ℕ} {t : ℕ} (x : ℕ) → Spreading m w t → t < 80
    → x ≡ next (slice_index w (t - 3)) (slice_index w (t - 8)) (slice_index w (t - 14)) (slice_index w (t - 16)) → Spreading m (slice_set w t x) (t + 1)
spreading-on {m} {w} {t} x g h e =
    let l : 16 ≤ t = g.least in
    let k : t + 1 - 16 ≡ suc (t - 16) = omega arith in
    let b : t - 16 + 16 ≡ t = omega arith in
    record {
      filled =
          ap (λ (n : ℕ). take n (slice_set w t x)) (add-one t) ∙ take-suc-set w t x (omega (arith, g.size))
          ∙ ap (λ (y : ℕ). take t w ++ y ∷ []) (e ∙ sym (next-taken w t l))
          ∙ ap (λ (u : List ℕ). u ++ next_of u t ∷ []) g.filled
          ∙ ap (λ (n : ℕ). schedule (t - 16) m ++ next_of (schedule (t - 16) m) n ∷ []) (sym b)
          ∙ sym (schedule-more m (t - 16)) ∙ ap (λ (n : ℕ). schedule n m) (sym k);
      size = length-set w t x ∙ g.size;
      least = omega arith;
      most = omega arith;
    }

pub spreading-end : {m w : List ℕ} {t : ℕ} → Spreading m w t → 80 ≤ t → w ≡ schedule 64 m
spreading-end {m} {w} {t} g h =
    let e : t ≡ 80 = omega (arith, g.most) in
    sym (take_all t w (omega (arith, g.size))) ∙ g.filled ∙ ap (λ (n : ℕ). schedule (n - 16) m) e

-- ---- the rounds

module _ (t x y z : ℕ) where
  mixed-ch : t < 20 → mixed t x y z ≡ ch x y z
  mixed-ch l = rw (le-leb t 19 (omega arith))

  mixed-low : 20 ≤ t → t < 40 → mixed t x y z ≡ parity x y z
  mixed-low g l = rw (lt-leb t 19 (omega arith), le-leb t 39 (omega arith))

  mixed-maj : 40 ≤ t → t < 60 → mixed t x y z ≡ maj x y z
  mixed-maj g l = rw (lt-leb t 19 (omega arith), lt-leb t 39 (omega arith), le-leb t 59 (omega arith))

  mixed-high : 60 ≤ t → mixed t x y z ≡ parity x y z
  mixed-high g = rw (lt-leb t 19 (omega arith), lt-leb t 39 (omega arith), lt-leb t 59 (omega arith))

module _ (t : ℕ) where
  constant-first : t < 20 → constant t ≡ 0x5a827999
  constant-first l = rw (le-leb t 19 (omega arith))

  constant-second : 20 ≤ t → t < 40 → constant t ≡ 0x6ed9eba1
  constant-second g l = rw (lt-leb t 19 (omega arith), le-leb t 39 (omega arith))

  constant-third : 40 ≤ t → t < 60 → constant t ≡ 0x8f1bbcdc
  constant-third g l = rw (lt-leb t 19 (omega arith), lt-leb t 39 (omega arith), le-leb t 59 (omega arith))

  constant-fourth : 60 ≤ t → constant t ≡ 0xca62c1d6
  constant-fourth g = rw (lt-leb t 19 (omega arith), lt-leb t 39 (omega arith), lt-leb t 59 (omega arith))

rounds-more : (t x : ℕ) (w : List ℕ) (s : Chain) → rounds t (x ∷ w) s ≡ rounds (suc t) w (step t x s)
unfolding rounds
rounds-more t x w s = refl

rounds-none : (t : ℕ) (s : Chain) → rounds t [] s ≡ s
unfolding rounds
rounds-none t s = refl

-- a round is the page's where its function and its constant are
round-step : (t f k w : ℕ) (s : Chain) → f ≡ mixed t s.b s.c s.d → k ≡ constant t → round_by f k w s ≡ step t w s
unfolding round_by step
round-step t f k w s e d = rw (e, d)

module _ {gives : ℕ → ℕ → ℕ → ℕ → Type 0} {k t : ℕ} (w : List ℕ) (h s : Chain) (i : ℕ) (d : IsStretch gives k t (length w)) (g : rounds t w h ≡ rounds (t + i) (drop i w) s) where
  pub stretch-on : {f : ℕ} {r : Chain} → i < length w → gives s.b s.c s.d f → r ≡ round_by f k (slice_index w i) s → rounds t w h ≡ rounds (t + (i + 1)) (drop (i + 1) w) r
  stretch-on {f} {r} l p q =
      let n : suc (t + i) ≡ t + (i + 1) = omega arith in
      g ∙ ap (λ (u : List ℕ). rounds (t + i) u s) (drop-cons w i 0 l) ∙ rounds-more (t + i) (slice_index w i) (drop (suc i) w) s
      ∙ ap (rounds (suc (t + i)) (drop (suc i) w)) (sym (q ∙ round-step (t + i) f k (slice_index w i) s (d.mixes (t + i) s.b s.c s.d f (omega arith) (omega arith) p) (d.constants (t + i) (omega arith) (omega arith))))
      ∙ ap (λ (j : ℕ). rounds j (drop (suc i) w) r) n ∙ ap (λ (j : ℕ). rounds (t + (i + 1)) (drop j w) r) (sym (add-one i))

  pub stretch-end : length w ≤ i → s ≡ rounds t w h
  stretch-end l = sym (g ∙ ap (λ (u : List ℕ). rounds (t + i) u s) (drop_of_length-le w {i = i} l) ∙ rounds-none (t + i) s)

-- the four stretches, of twenty rounds each
module _ {gives : ℕ → ℕ → ℕ → ℕ → Type 0} (n : ℕ) (most : n ≤ 20) where
  pub stretch-choice : ((x y z r : ℕ) → gives x y z r → r ≡ ch x y z) → IsStretch gives 0x5a827999 0 n
  stretch-choice f = record {
    mixes = λ i x y z r g l p. f x y z r p ∙ sym (mixed-ch i x y z (omega arith));
    constants = λ i g l. sym (constant-first i (omega arith));
  }

  pub stretch-low : ((x y z r : ℕ) → gives x y z r → r ≡ parity x y z) → IsStretch gives 0x6ed9eba1 20 n
  stretch-low f = record {
    mixes = λ i x y z r g l p. f x y z r p ∙ sym (mixed-low i x y z g (omega arith));
    constants = λ i g l. sym (constant-second i g (omega arith));
  }

  pub stretch-majority : ((x y z r : ℕ) → gives x y z r → r ≡ maj x y z) → IsStretch gives 0x8f1bbcdc 40 n
  stretch-majority f = record {
    mixes = λ i x y z r g l p. f x y z r p ∙ sym (mixed-maj i x y z g (omega arith));
    constants = λ i g l. sym (constant-third i g (omega arith));
  }

  pub stretch-high : ((x y z r : ℕ) → gives x y z r → r ≡ parity x y z) → IsStretch gives 0xca62c1d6 60 n
  stretch-high f = record {
    mixes = λ i x y z r g l p. f x y z r p ∙ sym (mixed-high i x y z g);
    constants = λ i g l. sym (constant-fourth i g);
  }

pub taken-most : (n : ℕ) (w : List ℕ) → length (take n w) ≤ n
taken-most n w = let e = length-take n w in omega (arith, e)

-- all eighty
rounds-split : (j t : ℕ) (w : List ℕ) (h : Chain) → j ≤ length w → rounds t w h ≡ rounds (t + j) (drop j w) (rounds t (take j w) h)
rounds-split zero t w h l = let e : t ≡ t + zero = omega arith in ap (λ (i : ℕ). rounds i w h) e ∙ ap (rounds (t + zero) w) (sym (rounds-none t h))
rounds-split (suc j) t [] h l = absurd (omega arith)
rounds-split (suc j) t (x ∷ w) h l =
    let e : suc t + j ≡ t + suc j = omega arith in
    rounds-more t x w h ∙ rounds-split j (suc t) w (step t x h) (omega arith)
    ∙ ap (λ (i : ℕ). rounds i (drop j w) (rounds (suc t) (take j w) (step t x h))) e
    ∙ ap (rounds (t + suc j) (drop j w)) (sym (rounds-more t x (take j w) h))

twenty-on : (t : ℕ) (w : List ℕ) (h a : Chain) → length w ≡ 80 → t + 20 ≤ 80 → a ≡ rounds t (take 20 (drop t w)) h → rounds t (drop t w) h ≡ rounds (t + 20) (drop (t + 20) w) a
twenty-on t w h a l m e =
    let n : length (drop t w) ≡ length w - t = length-drop t w in
    let k : 20 + t ≡ t + 20 = omega arith in
    rounds-split 20 t (drop t w) h (omega (arith, n, l)) ∙ ap (λ (u : List ℕ). rounds (t + 20) u (rounds t (take 20 (drop t w)) h)) (drop-drop 20 t w)
    ∙ ap (rounds (t + 20) (drop (t + 20) w)) (sym e)

pub rounds-all : (w : List ℕ) (h a b c d : Chain) → length w ≡ 80 → a ≡ rounds 0 (take 20 w) h → b ≡ rounds 20 (take 20 (drop 20 w)) a
    → c ≡ rounds 40 (take 20 (drop 40 w)) b → d ≡ rounds 60 (take 20 (drop 60 w)) c → d ≡ rounds 0 w h
rounds-all w h a b c d l e f g k =
    sym (twenty-on 0 w h a l (omega arith) e ∙ twenty-on 20 w a b l (omega arith) f ∙ twenty-on 40 w b c l (omega arith) g ∙ twenty-on 60 w c d l (omega arith) k
    ∙ ap (λ (u : List ℕ). rounds 80 u d) (drop_of_length-le w {i = 80} (omega (arith, l))) ∙ rounds-none 80 d)

-- ---- block after block

pub blocks_more : (n : ℕ) (h : Chain) (s : List ℕ) → blocks (suc n) h s ≡ blocks n (block h (take 64 s)) (drop 64 s)
unfolding blocks
blocks_more n h s = refl

pub blocks-none : (h : Chain) (s : List ℕ) → blocks 0 h s ≡ h
unfolding blocks
blocks-none h s = refl

-- the whole blocks of the part came from h to c, with the octets `rest` to come
module _ (h c : Chain) (part rest : List ℕ) (g : poured h part ≡ poured c rest) (e : left part ≡ left rest) where
  pub pouring-on : (r : Chain) → 64 ≤ length rest → r ≡ block c (take 64 rest) → (poured h part ≡ poured r (drop 64 rest)) × (left part ≡ left (drop 64 rest))
  unfolding poured
  pouring-on r l d =
      let o : length (drop 64 rest) ≡ length rest - 64 = length-drop 64 rest in
      let n : length rest / 64 ≡ suc (length (drop 64 rest) / 64) = omega (arith, o) in
      let m : length rest / 64 * 64 ≡ 64 + length (drop 64 rest) / 64 * 64 = omega (arith, o) in (
        g ∙ ap (λ (k : ℕ). blocks k c rest) n ∙ blocks_more (length (drop 64 rest) / 64) c rest
            ∙ ap (λ (q : Chain). blocks (length (drop 64 rest) / 64) q (drop 64 rest)) (sym d),
        e ∙ ap (λ (k : ℕ). drop k rest) m ∙ sym (drop-drop (length (drop 64 rest) / 64 * 64) 64 rest),
      )

  pub pouring-end : length rest < 64 → (c ≡ poured h part) × (rest ≡ left part)
  unfolding poured
  pouring-end l =
      let n : length rest / 64 ≡ 0 = omega arith in
      let m : length rest / 64 * 64 ≡ 0 = omega arith in
      (sym (g ∙ ap (λ (k : ℕ). blocks k c rest) n ∙ blocks-none c rest), sym (e ∙ ap (λ (k : ℕ). drop k rest) m))

-- ---- the buffer

getD-none : (n i : ℕ) → ◌≡◌ {A = ℕ} (slice_index (replicate n 0) i) 0
getD-none zero i = refl
getD-none (suc n) zero = refl
getD-none (suc n) (suc i) = getD-none n i

getD-behind : (w : List ℕ) (n i : ℕ) → slice_index (w ++ replicate n 0) i ≡ slice_index w i
getD-behind [] n i = getD-none n i
getD-behind (x ∷ w) n zero = refl
getD-behind (x ∷ w) n (suc i) = getD-behind w n i

pub length-kept : (w : List ℕ) → length (kept w) ≡ 64
unfolding kept zeros
length-kept w = length-take-le 64 (w ++ replicate 64 0) (let e = length-append w (replicate 64 0) in let z = length-replicate {A = ℕ} 64 0 in omega (arith, e, z))

get_d_kept : (w : List ℕ) (i : ℕ) → i < 64 → slice_index (kept w) i ≡ slice_index w i
unfolding kept zeros
get_d_kept w i l = get_or-take 64 (w ++ replicate 64 0) i 0 l ∙ getD-behind w 64 i

pub take-kept : (k : ℕ) (w : List ℕ) → k ≤ 64 → k ≤ length w → take k (kept w) ≡ take k w
unfolding kept
take-kept k w l m = take-take k 64 (w ++ zeros 64) l ∙ take-append-le k w (zeros 64) m
