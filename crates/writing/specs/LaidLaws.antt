-- Laws of texts laid: octet by octet, piece by piece, and what stands in the buffer then.
use Rattle.std.specs.Prelude.{ℕ, suc, ◌+◌, ◌-◌, ◌≤◌, ◌<◌, Bool, true, false, List, [], ◌∷◌, ◌++◌, ◌≡◌, refl, ltb, length, set, take, drop}
use Rattle.std.proofs.Common.{add-one, append_assoc, arith, ap, ◌∙◌, sym, drop_of_length-le, length-append, ltb-true, ltb-false, take_at}
use Rattle.std.proofs.lemmas.List.{drop-drop, length-take-le, take-append-drop}
use Rattle.std.proofs.lemmas.List.Edits.{sets, sets-eq}
use Rattle.std.proofs.Math.Seq.{set_out, length-sets}
use Prim.Native.Nat.{min}
use Rattle.writing.specs.Laid.{Laid, together}

-- two texts one after the other
pub sets-joined : (l : List ℕ) (i : ℕ) (v w : List ℕ) → sets l i (v ++ w) ≡ sets (sets l i v) (i + length v) w
sets-joined l i [] w = ap (λ (k : ℕ). sets l k w) (omega arith)
sets-joined l i (x ∷ v) w = sets-joined (set l i x) (suc i) v w ∙ ap (λ (k : ℕ). sets (sets (set l i x) (suc i) v) k w) (omega arith)

-- behind the buffer's end nothing is laid
pub sets-beyond : (v : List ℕ) (l : List ℕ) (i : ℕ) → length l ≤ i → sets l i v ≡ l
sets-beyond [] l i h = refl
sets-beyond (x ∷ v) l i h = ap (λ (k : List ℕ). sets k (suc i) v) (set_out l i x h) ∙ sets-beyond v l (suc i) (omega (arith, h))

pub laid_same : {out : List ℕ} {at : ℕ} {p q : List ℕ} {r : ℕ} {out' : List ℕ} → p ≡ q → Laid out at p r out' → Laid out at q r out'
laid_same e h = rw e at h

pub laid-length : {out : List ℕ} {at : ℕ} {p : List ℕ} {r : ℕ} {out' : List ℕ} → Laid out at p r out' → length out' ≡ length out
laid-length {out} {at} {p} h = ap length h.octets ∙ length-sets out at p

-- two texts laid one after the other, and none
pub laid_more : {out : List ℕ} {at : ℕ} {a : List ℕ} {p : ℕ} {out₁ : List ℕ} {b : List ℕ} {r : ℕ} {out' : List ℕ} → Laid out at a p out₁ → Laid out₁ p b r out' → Laid out at (a ++ b) r out'
laid_more {out} {at} {a} {b = b} g h = record {
  place = omega (arith, g.place, h.place, length-append a b);
  octets = h.octets ∙ rw (g.octets, g.place) (sym (sets-joined out at a b));
}

pub laid_none : {out : List ℕ} {at : ℕ} → Laid out at [] at out
laid_none = record { place = omega arith; octets = refl }

-- ---- what stands in the buffer then

module _ {out : List ℕ} {text : List ℕ} {r : ℕ} {out' : List ℕ} (g : Laid out 0 text r out') where
  pub laid-all : r ≡ length text
  laid-all = omega (arith, g.place)

  -- a text that fits stands first, and the rest is as it was
  pub laid-front : length text ≤ length out → out' ≡ text ++ drop (length text) out
  laid-front h =
      let e : 0 + length text ≡ length text = omega arith in
      g.octets ∙ sets-eq text out 0 (omega arith) ∙ ap (λ (n : ℕ). text ++ drop n out) e

  -- so the first r octets are the text
  pub laid-part : length text ≤ length out → take (r - 0) (drop 0 out') ≡ text
  laid-part h =
      let e : length text ≡ r - 0 = omega (arith, g.place) in
      rw (laid-front h) (take_at text (drop (length text) out) (r - 0) e)

-- ---- a text laid octet by octet: what is laid in the end is what laying the rest from p on leaves

pub record Rest (out₀ : List ℕ) (at : ℕ) (text : List ℕ) (rest : List ℕ) (out : List ℕ) (p : ℕ) : Type 0 where
  pub octets : sets out p rest ≡ sets out₀ at text
  pub place : p + length rest ≡ at + length text

pub rest-start : {out : List ℕ} {at : ℕ} {text : List ℕ} → Rest out at text text out at
rest-start = record { octets = refl; place = refl }

module _ {out₀ : List ℕ} {at : ℕ} {text : List ℕ} where
  pub rest-same : {r s : List ℕ} {out : List ℕ} {p : ℕ} → Rest out₀ at text r out p → r ≡ s → Rest out₀ at text s out p
  rest-same g e = rw (← e) g

  pub rest_put : {x : ℕ} {rest : List ℕ} {out out' : List ℕ} {p p' : ℕ} → Rest out₀ at text (x ∷ rest) out p → p' ≡ p + 1 → out' ≡ set out p x → Rest out₀ at text rest out' p'
  rest_put {p = p} g e q = rw (e, q) (record { octets = rw (add-one p) g.octets; place = omega (arith, g.place) })

  -- the next part of the text, laid by one call
  pub rest-laid : {v rest : List ℕ} {out out' : List ℕ} {p p' : ℕ} → Rest out₀ at text (v ++ rest) out p → Laid out p v p' out' → Rest out₀ at text rest out' p'
  rest-laid {v} {rest} {out} {p = p} g h = record {
    octets = rw (h.place, h.octets, ← sets-joined out p v rest) g.octets;
    place = omega (arith, length-append v rest, g.place, h.place);
  }

  pub rest_end : {out : List ℕ} {p : ℕ} → Rest out₀ at text [] out p → Laid out₀ at text p out
  rest_end g = record { place = omega (arith, g.place); octets = g.octets }

-- a text that has no room at all
pub laid-past : {out v out' : List ℕ} {at : ℕ} → length out ≤ at → out' ≡ out → Laid out at v (at + length v) out'
laid-past {out} {v} {at = at} h q = record { place = refl; octets = q ∙ sym (sets-beyond v out at h) }

-- all of v that has room: the first n octets, and the rest would be laid behind the buffer's end
pub laid-cut : {out v part out' : List ℕ} {at n k : ℕ} → at < length out → n ≡ min (length v) (length out - at) → part ≡ take n v → k ≡ n → out' ≡ take at out ++ (part ++ drop k (drop at out)) → Laid out at v (at + length v) out'
laid-cut {out} {v} {at = at} {n = n} h e p c q = record { place = refl; octets = q ∙ rw (p, c, drop-drop n at out) (sym whole) }
  where
    few : n ≤ length v
    few = omega (arith, e)

    laid : List ℕ
    laid = sets out at (take n v)

    rest : sets laid (at + n) (drop n v) ≡ laid
    rest = by (ltb n (length v)) refl
      where
        by : (b : Bool) → ltb n (length v) ≡ b → sets laid (at + n) (drop n v) ≡ laid
        by true d = let k = ltb-true n (length v) d in sets-beyond (drop n v) laid (at + n) (omega (arith, e, k, length-sets out at (take n v)))
        by false d = let k = ltb-false n (length v) d in rw (drop_of_length-le v {i = n} k)

    whole : sets out at v ≡ take at out ++ (take n v ++ drop (at + n) out)
    whole =
        let l : length (take n v) ≡ n = length-take-le n v few in
        ap (sets out at) (sym (take-append-drop n v)) ∙ sets-joined out at (take n v) (drop n v) ∙ ap (λ (k : ℕ). sets laid (at + k) (drop n v)) l ∙ rest
        ∙ sets-eq (take n v) out at (omega (arith, e, l)) ∙ append_assoc (take at out) (take n v) (drop (at + length (take n v)) out) ∙ ap (λ (k : ℕ). take at out ++ (take n v ++ drop (at + k) out)) l

-- ---- a row of pieces: `ps` are left to lay from `at` on

pub record Weaving (out₀ : List ℕ) (at₀ : ℕ) (text : List ℕ) (ps : List (List ℕ)) (at : ℕ) (out : List ℕ) : Type 0 where
  pub going : Rest out₀ at₀ text (together ps) out at

pub weaving-start : (out : List ℕ) (at : ℕ) (ps : List (List ℕ)) → Weaving out at (together ps) ps at out
weaving-start out at ps = record { going = rest-start }

module _ {out₀ : List ℕ} {at₀ : ℕ} {text : List ℕ} where
  pub weaving-put : {p : List ℕ} {ps : List (List ℕ)} {at : ℕ} {out : List ℕ} {at' : ℕ} {out' : List ℕ} → Weaving out₀ at₀ text (p ∷ ps) at out → Laid out at p at' out' → Weaving out₀ at₀ text ps at' out'
  weaving-put g h = record { going = rest-laid g.going h }

  pub weaving-end : {at : ℕ} {out : List ℕ} → Weaving out₀ at₀ text [] at out → Laid out₀ at₀ text at out
  weaving-end g = rest_end g.going
