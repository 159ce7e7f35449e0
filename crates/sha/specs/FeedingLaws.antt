-- The theorem, "However the octets are cut, the digest is that of the joined octets"; and what the code does to a buffer and a part.
use Rattle.std.specs.Prelude.{◌≡◌, ℕ, zero, suc, ◌+◌, ◌-◌, ◌*◌, ◌/◌, ◌%◌, ◌<◌, ◌≤◌, Bool, cond, Option, Some, None, unwrap_or, min, List, [], ◌∷◌, ◌++◌, length, take, drop, replicate, refl}
use Rattle.std.proofs.Common.{arith, add-one, subst, ◌∙◌, append_assoc, append-nil, le-leb, length-append, take_all, length-take-le}
use Rattle.std.proofs.Math.Path.{sym, ap}
use Rattle.std.proofs.lemmas.Bool.{lt-leb}
use Rattle.std.proofs.Math.ListN.{length-drop}
use Rattle.std.proofs.Math.Seq.{take-length}
use Rattle.std.proofs.lemmas.List.{take-append-le, take-replicate, drop-replicate, take_min, drop-drop}
use Rattle.std.proofs.Math.Seq.{take-append-add, drop-append-add, take-append_seam, drop-append_seam}
use borrow.Rule.Slice.PartMut.{put_mid}
use Rattle.sha.specs.declared.Chain.{Chain}
use Rattle.sha.specs.declared.Sha.{Sha}
use Rattle.sha.specs.Sha.{gap, zeros, eight, padding, padded, initial, block, blocks, hash, output, sha1}
use Rattle.sha.specs.Feeding.{poured, left, kept, started, pending, absorbed, most_octets, fed_of, fed_from, finished_of, state_of, fed_all, join}
use Rattle.sha.specs.LoopsLaws.{blocks_more, blocks-none, take-kept}
use Rattle.sha.specs.ShaLaws.{length-zeros, take-zeros, poured-more, left-more, length-left}

-- ---- the state that holds a message

pending-state : (m : List ℕ) → pending (state_of m) ≡ left m
pending-state m =
    let n = length-left m in
    ap (λ (k : ℕ). take k (kept (left m))) (sym n) ∙ take-kept (length (left m)) (left m) (omega (arith, n)) (omega arith) ∙ take-length (left m)

state-same : {c d : Chain} {b e : List ℕ} {n k : ℕ} → c ≡ d → b ≡ e → n ≡ k → ◌≡◌ {A = Sha} (record { chain = c; buffer = b; count = n }) (record { chain = d; buffer = e; count = k })
state-same p q r = rw (p, q, r)

absorbed-state : (m part : List ℕ) → absorbed (state_of m) part ≡ state_of (m ++ part)
absorbed-state m part =
    state-same (ap (λ (u : List ℕ). poured (poured initial m) (u ++ part)) (pending-state m) ∙ sym (poured-more m part initial))
    (ap (λ (u : List ℕ). kept (left (u ++ part))) (pending-state m) ∙ ap kept (sym (left-more m part))) (sym (length-append m part))

pub fed-state : (m part : List ℕ) → length (m ++ part) ≤ most_octets → fed_of (state_of m) part ≡ Some (state_of (m ++ part))
fed-state m part l =
    let n = length-append m part in
    ap (λ (b : Bool). cond {A = Option Sha} b (Some (absorbed (state_of m) part)) None) (le-leb (length m + length part) most_octets (omega (arith, n))) ∙ ap Some (absorbed-state m part)

pub state-none : started ≡ state_of []
unfolding poured kept blocks zeros
state-none = refl

pub finished-state : (m : List ℕ) → finished_of (state_of m) ≡ sha1 m
unfolding sha1 hash padded poured
finished-state m =
    ap (λ (u : List ℕ). output (poured (poured initial m) (u ++ padding (length m)))) (pending-state m) ∙ ap output (sym (poured-more m (padding (length m)) initial))

-- ---- "However the octets are cut, the digest is that of the joined octets"

cut-from : (m : List ℕ) (ps : List (List ℕ)) → length (m ++ join ps) ≤ most_octets → fed_all (state_of m) ps ≡ state_of (m ++ join ps)
cut-from m [] l = ap state_of (sym (append-nil m))
cut-from m (p ∷ ps) l =
    let e = append_assoc m p (join ps) in
    let n = length-append (m ++ p) (join ps) in
    let k : length ((m ++ p) ++ join ps) ≤ most_octets = subst (λ (u : List ℕ). length u ≤ most_octets) (sym e) l in
    ap (λ (f : Option Sha). fed_all (unwrap_or f (state_of m)) ps) (fed-state m p (omega (arith, n, k))) ∙ cut-from (m ++ p) ps k ∙ ap state_of e

pub cut : (ps : List (List ℕ)) → length (join ps) ≤ most_octets → finished_of (fed_all started ps) ≡ sha1 (join ps)
cut ps l = ap (λ (s : Sha). finished_of (fed_all s ps)) state-none ∙ ap finished_of (cut-from [] ps l) ∙ finished-state (join ps)

-- ---- what the code does

pub fed-refused : (st : Sha) (part : List ℕ) → most_octets < st.count + length part → None ≡ fed_of st part
fed-refused st part l = sym (ap (λ (b : Bool). cond {A = Option Sha} b (Some (absorbed st part)) None) (lt-leb (st.count + length part) most_octets l))

pub fed-taken : (st : Sha) (part : List ℕ) {c : Chain} {b : List ℕ} (n : ℕ) → n ≤ most_octets → n ≡ st.count + length part
    → c ≡ poured st.chain (pending st ++ part) → b ≡ kept (left (pending st ++ part)) → Some (record { chain = c; buffer = b; count = n }) ≡ fed_of st part
fed-taken st part n l e p q =
    ap Some (state-same p q e) ∙ sym (ap (λ (b : Bool). cond {A = Option Sha} b (Some (absorbed st part)) None) (le-leb (st.count + length part) most_octets (omega (arith, e, l))))

-- the part of a slice that goes to its end
pub to_end : (j : ℕ) (part : List ℕ) → take (length part - j) (drop j part) ≡ drop j part
to_end j part = take_all (length part - j) (drop j part) (let n = length-drop j part in omega (arith, n))

whole-kept : (w : List ℕ) → 64 ≤ length w → kept w ≡ take 64 w
unfolding kept
whole-kept w l = take-append-le 64 w (zeros 64) l

module _ (b part : List ℕ) (k : ℕ) (full : length b ≡ 64) (l : k < 64) where
  front : length (take k b) ≡ k
  front = length-take-le k b (omega (arith, full))

  size : length (take k b ++ part) ≡ k + length part
  size = length-append (take k b) part ∙ ap (λ (n : ℕ). n + length part) front

  -- no whole block
  pub poured-short : (h : Chain) → length part < 64 - k → h ≡ poured h (take k b ++ part)
  unfolding poured
  poured-short h m =
      let n : length (take k b ++ part) / 64 ≡ 0 = omega (arith, size) in
      sym (ap (λ (j : ℕ). blocks j h (take k b ++ part)) n ∙ blocks-none h (take k b ++ part))

  pub left-short : {r : List ℕ} → length part < 64 - k → r ≡ kept (take k b ++ part) → r ≡ kept (left (take k b ++ part))
  left-short m d =
      let n : 0 ≡ length (take k b ++ part) / 64 * 64 = omega (arith, size) in
      d ∙ ap (λ (j : ℕ). kept (drop j (take k b ++ part))) n

  -- a block that the buffer begins, and the part's own
  module _ (m : 64 - k ≤ length part) where
    behind : (j : ℕ) → k ≤ j → drop j (take k b ++ part) ≡ drop (j - k) part
    behind j g =
        let n : j ≡ length (take k b) + (j - k) = omega (arith, front) in
        ap (λ (i : ℕ). drop i (take k b ++ part)) n ∙ drop-append-add (take k b) part (j - k)

    pub poured-block : (h : Chain) {c r : Chain} {f : List ℕ} → f ≡ kept (take k b ++ part) → c ≡ block h f → r ≡ poured c (drop (64 - k) part) → r ≡ poured h (take k b ++ part)
    unfolding poured
    poured-block h {c} {r} {f} d e g =
        let o : length (drop (64 - k) part) ≡ length part - (64 - k) = length-drop (64 - k) part in
        let n : length (take k b ++ part) / 64 ≡ suc (length (drop (64 - k) part) / 64) = omega (arith, size, o) in
        let p : block h (take 64 (take k b ++ part)) ≡ c = ap (block h) (sym (d ∙ whole-kept (take k b ++ part) (omega (arith, size)))) ∙ sym e in
        g ∙ sym (
        ap (λ (j : ℕ). blocks j h (take k b ++ part)) n ∙ blocks_more (length (drop (64 - k) part) / 64) h (take k b ++ part)
        ∙ ap (λ (q : Chain). blocks (length (drop (64 - k) part) / 64) q (drop 64 (take k b ++ part))) p
        ∙ ap (blocks (length (drop (64 - k) part) / 64) c) (behind 64 (omega arith))
        )

    pub left_behind : left (drop (64 - k) part) ≡ left (take k b ++ part)
    left_behind =
        let o : length (drop (64 - k) part) ≡ length part - (64 - k) = length-drop (64 - k) part in
        let n : 64 - k + length (drop (64 - k) part) / 64 * 64 ≡ length (take k b ++ part) / 64 * 64 - k = omega (arith, size, o) in
        drop-drop (length (drop (64 - k) part) / 64 * 64) (64 - k) part ∙ ap (λ (j : ℕ). drop j part) n ∙ sym (behind (length (take k b ++ part) / 64 * 64) (omega (arith, size)))

-- the front of a part with zeros behind it
take-padded : (j m : ℕ) (p : List ℕ) → j ≤ m → take j (p ++ replicate m 0) ≡ take j p ++ replicate (j - length p) 0
take-padded zero m [] h = refl
take-padded (suc j) m [] h = let e : suc j ≡ suc j - 0 = omega arith in take-replicate {X = ℕ} (suc j) m 0 h ∙ ap (λ (n : ℕ). replicate {A = ℕ} n 0) e
take-padded zero m (x ∷ p) h = let e : 0 ≡ 0 - length (x ∷ p) = omega arith in ap (λ (n : ℕ). replicate {A = ℕ} n 0) e
take-padded (suc j) m (x ∷ p) h =
    let e : j - length p ≡ suc j - length (x ∷ p) = omega arith in
    ap (λ (u : List ℕ). x ∷ u) (take-padded j m p (omega arith)) ∙ ap (λ (n : ℕ). x ∷ (take j p ++ replicate n 0)) e

-- the buffer, written over zeros: k octets, and then n of the part
filled-to : (m : ℕ) (b part : List ℕ) (k n : ℕ) {x y : List ℕ} → k ≤ m → length (take k b) ≡ k → k + n - k ≡ n → m - k - n ≡ m - k - length part → n ≡ min (m - k) (length part)
    → m ≡ length (take k b) + (m - k) → x ≡ take k b → y ≡ take n part → put_mid k (k + n - k) (x ++ drop k (replicate m 0)) y ≡ take m ((take k b ++ part) ++ replicate m 0)
filled-to m b part k n {x} {y} l f t z c w d e =
    let rest = drop k (replicate {A = ℕ} m 0) in
    ap (λ (u : List ℕ). put_mid k (k + n - k) (u ++ rest) y) d ∙ ap (λ (u : List ℕ). put_mid k (k + n - k) (take k b ++ rest) u) e
    ∙ ap (λ (i : ℕ). put_mid i (k + n - k) (take k b ++ rest) (take n part)) (sym f)
    ∙ ap (λ (u : List ℕ). u ++ (take n part ++ drop (k + n - k) (drop (length (take k b)) (take k b ++ rest)))) (take-append_seam (take k b) rest)
    ∙ ap (λ (u : List ℕ). take k b ++ (take n part ++ drop (k + n - k) u)) (drop-append_seam (take k b) rest ∙ drop-replicate k m 0)
    ∙ ap (λ (j : ℕ). take k b ++ (take n part ++ drop j (replicate (m - k) 0))) t
    ∙ ap (λ (u : List ℕ). take k b ++ (take n part ++ u)) (drop-replicate n (m - k) 0 ∙ ap (λ (j : ℕ). replicate {A = ℕ} j 0) z)
    ∙ ap (λ (u : List ℕ). take k b ++ (u ++ replicate (m - k - length part) 0)) (ap (λ (j : ℕ). take j part) c ∙ take_min (m - k) part)
    ∙ sym (
    ap (take m) (append_assoc (take k b) part (replicate m 0)) ∙ ap (λ (j : ℕ). take j (take k b ++ (part ++ replicate m 0))) w
    ∙ take-append-add (take k b) (part ++ replicate m 0) (m - k) ∙ ap (λ (u : List ℕ). take k b ++ u) (take-padded (m - k) m part (omega arith))
    )

pub filled-by : (b part : List ℕ) (k n : ℕ) {x y : List ℕ} → length b ≡ 64 → k < 64 → n ≡ min (length part) (64 - k) → x ≡ take k b → y ≡ take n part
    → put_mid k (k + n - k) (x ++ drop k (replicate 64 0)) y ≡ kept (take k b ++ part)
unfolding kept zeros
filled-by b part k n full l h =
    let f : length (take k b) ≡ k = length-take-le k b (omega (arith, full)) in
    filled-to 64 b part k n (omega arith) f (omega arith) (omega (arith, h)) (omega (arith, h)) (omega (arith, f))

-- ---- the padding, fed like a part: the octet 128 and zeros up to 56 octets in the last block, then the length

module _ (h : Chain) (b : List ℕ) (n : ℕ) (full : length b ≡ 64) where
  abbrev held : List ℕ
  held = take (n % 64) b

  abbrev begun : List ℕ
  begun = 128 ∷ zeros (gap n)

  pad-part : {p : List ℕ} → p ≡ 128 ∷ zeros 63 → take (gap n + 1) p ≡ begun
  pad-part {p} e = ap (λ (k : ℕ). take k p) (add-one (gap n)) ∙ ap (take (suc (gap n))) e ∙ ap (λ (u : List ℕ). 128 ∷ u) (take-zeros (gap n) 63 (omega arith))

  size-begun : length (held ++ begun) ≡ n % 64 + suc (gap n)
  size-begun = length-append held begun ∙ ap (λ (k : ℕ). k + length begun) (length-take-le (n % 64) b (omega (arith, full))) ∙ ap (λ (k : ℕ). n % 64 + suc k) (length-zeros (gap n))

  size-left : length (left (held ++ begun)) ≡ 56
  size-left = length-left (held ++ begun) ∙ (let e = size-begun in omega (arith, e))

  finished-by : {c x : Chain} {d l r : List ℕ} → c ≡ poured h (held ++ begun) → d ≡ kept (left (held ++ begun)) → l ≡ eight (8 * n) → x ≡ poured c (take 56 d ++ l) → r ≡ output x
      → r ≡ output (poured h (held ++ padding n))
  unfolding padding
  finished-by {c} {x} {d} {l} {r} e f g k j =
      let a : take 56 d ≡ left (held ++ begun) =
      ap (take 56) f ∙ ap (λ (i : ℕ). take i (kept (left (held ++ begun)))) (sym size-left)
      ∙ take-kept (length (left (held ++ begun))) (left (held ++ begun)) (omega (arith, size-left)) (omega arith) ∙ take-length (left (held ++ begun)) in
      j ∙ ap output (
      k ∙ ap (λ (q : Chain). poured q (take 56 d ++ l)) e ∙ ap (λ (u : List ℕ). poured (poured h (held ++ begun)) (u ++ l)) a
      ∙ sym (poured-more (held ++ begun) l h) ∙ ap (poured h) (append_assoc held begun l) ∙ ap (λ (u : List ℕ). poured h (held ++ (begun ++ u))) g
      )

  pub finished-padded : {p : List ℕ} {c x : Chain} {d l r : List ℕ} → p ≡ 128 ∷ zeros 63 → c ≡ poured h (held ++ take (gap n + 1) p) → d ≡ kept (left (held ++ take (gap n + 1) p))
      → l ≡ eight (8 * n) → x ≡ poured c (take 56 d ++ l) → r ≡ output x → r ≡ output (poured h (held ++ padding n))
  finished-padded q e f =
      finished-by (e ∙ ap (λ (u : List ℕ). poured h (held ++ u)) (pad-part q)) (f ∙ ap (λ (u : List ℕ). kept (left (held ++ u))) (pad-part q))

pub pad-long : (p : List ℕ) (e : ℕ) → p ≡ 128 ∷ zeros 63 → e ≤ 64 → e ≡ length (take e p)
pad-long p e h l = sym (length-take-le e p (let k : length p ≡ 64 = ap length h ∙ ap suc (length-zeros 63) in omega arith))

-- ---- one part, and two, as a caller of the three calls sees them

pub cut-one : (x : List ℕ) {st a : Sha} {f : Option Sha} {d : List ℕ} → length x ≤ most_octets → st ≡ started → f ≡ fed_of st x → a ≡ unwrap_or f st → d ≡ finished_of a → d ≡ sha1 x
cut-one x {st} {a} l e f i g =
    let n = append-nil x in
    let s : a ≡ fed_from started x = i ∙ ap (λ (o : Option Sha). unwrap_or o st) f ∙ ap (λ (s : Sha). fed_from s x) e in
    g ∙ ap finished_of s ∙ cut (x ∷ []) (subst (λ (u : List ℕ). length u ≤ most_octets) (sym n) l) ∙ ap sha1 n

pub cut-two : (x y : List ℕ) {st a b : Sha} {f g : Option Sha} {d : List ℕ} → length x + length y ≤ most_octets → st ≡ started → f ≡ fed_of st x → a ≡ unwrap_or f st
    → g ≡ fed_of a y → b ≡ unwrap_or g a → d ≡ finished_of b → d ≡ sha1 (x ++ y)
cut-two x y {st} {a} {b} l e f i g j h =
    let n = append-nil y in
    let k = length-append x (y ++ []) in
    let m = ap length n in
    let s : a ≡ fed_from started x = i ∙ ap (λ (o : Option Sha). unwrap_or o st) f ∙ ap (λ (s : Sha). fed_from s x) e in
    let t : b ≡ fed_from (fed_from started x) y = j ∙ ap (λ (o : Option Sha). unwrap_or o a) g ∙ ap (λ (s : Sha). fed_from s y) s in
    h ∙ ap finished_of t ∙ cut (x ∷ y ∷ []) (omega (arith, k, m)) ∙ ap (λ (u : List ℕ). sha1 (x ++ u)) n
