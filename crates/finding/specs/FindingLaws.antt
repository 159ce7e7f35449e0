-- Laws of the search for the message that a call names.
use Rattle.syntax.specs.declared.Breach.{Breach}
use Rattle.std.specs.Prelude.{ℕ, suc, ◌+◌, ◌≤◌, ◌<◌, ◌≡◌, refl, Bool, true, false, cond, List, [], ◌∷◌, ◌++◌, length, take, drop, get_or, set, Result, Ok, Some, None, Err, Option}
use Rattle.std.proofs.Common.{arith, ap, sym, ◌∙◌, subst, length-set}
use Rattle.std.proofs.lemmas.Bool.{false≢true}
use Rattle.std.proofs.Math.Option.{none, some}
use Rattle.std.proofs.Math.Seq.{slice, paste, paste-zero, paste-suc}
use Rattle.syntax.specs.Octets.{same}
use Rattle.syntax.proofs.BareLaws.{compared-twice}
use Rattle.syntax.specs.Content.{content, compared}
use Rattle.syntax.specs.declared.Service.{Service}
use Rattle.syntax.specs.declared.Syntax.{Syntax}
use Rattle.grammar.specs.Lists.{Snoc, ◌▷◌}
use Rattle.grammar.specs.Interchange.{Leaf, Open, Message, message, Reading, idle, shown}
use Rattle.grammar.specs.Rules.{ref_o}
use Rattle.grammar.specs.Places.{wide}
use Rattle.grammar.specs.Named.{placed, placed_in, placed_at}
use Rattle.grammar.specs.Verdict.{read}
use Rattle.walk.specs.RunLaws.{ReadAll}
use Rattle.walk.specs.Runs.{Walking, unread_as}
use Rattle.walk.specs.Sections.{Stays, begins, ends, breaks, SectionBy, Passing}
use Rattle.walk.specs.SectionLaws.{Looping, unread-start}
use Rattle.finding.specs.Finding.{named_by, SeeksBy, FoundIs}
use Rattle.walk.specs.declared.sections.Layout.{Layout}
use Rattle.walk.specs.declared.sections.Section.{Section}
use Rattle.turns.specs.declared.state.State.{State}

-- ---- the search, a section further

stays-placed : (σ : Service) (p : ℕ) (r : List ℕ) {x z : Reading} → Stays x z → placed_at σ p z r ≡ placed_at σ p x r
stays-placed σ p r (begins u) = refl
stays-placed σ p r (ends u ms z) = refl
stays-placed σ p r (breaks u ms o) = refl

-- the same of another reading in which it stands as well
seeks-as : (f : Result (Option Layout) Breach) (σ : Service) (s : List ℕ) (p : ℕ) (x z : Reading) (r rows : List ℕ) → placed_at σ p z r ≡ placed_at σ p x r → SeeksBy f σ s p x r rows → SeeksBy f σ s p z r rows
seeks-as (Ok (Some c)) σ s p x z r rows e q = (q.0, q.1, q.2, (e ∙ q.3.0, q.3.1))
seeks-as (Ok None) σ s p x z r rows e q = e ∙ q
seeks-as (Err f) σ s p x z r rows e q = q

closed-placed : (σ : Service) (p : ℕ) (r : List ℕ) (u : Leaf) (ms : Snoc Message) (o : Open) (t : Leaf) (b : Bool) → same (ref_o o) r ≡ b
    → placed_in σ p u (ms ▷ message o t) r ≡ cond b (some (placed (message o t) (p + wide σ (shown (idle u ms))))) (placed_in σ p u ms r)
closed-placed σ p r u ms o t b e = ap (λ (c : Bool). cond c (some (placed (message o t) (p + wide σ (shown (idle u ms))))) (placed_in σ p u ms r)) e

module _ {y : Syntax} {s : List ℕ} {from : ℕ} {x : State} {h l b : List ℕ} {i : ℕ} (w : Walking y s from x h l b i) {c : Section} {h' l' b' here : List ℕ} (g : Passing w c h' l' b' here)
    (r : List ℕ) where
  -- another message, or none
  pub seeks-on : (k : Result (Option Layout) Breach) (rows : List ℕ) → named_by y.service.release s c.closed c.layout r ≡ false
      → SeeksBy k y.service s from w.tree r rows → SeeksBy k y.service s from g.walks.tree r rows
  seeks-on k rows n q = by c.closed n g.by
    where
      by : (f : Bool) → named_by y.service.release s f c.layout r ≡ false → SectionBy f y s i w.tree g.walks.tree c.layout here → SeeksBy k y.service s from g.walks.tree r rows
      by false n v = seeks-as k y.service s from w.tree g.walks.tree r rows (stays-placed y.service from r v) q
      by true n v =
          let e = v.4.0 in
          let z = v.4.1 in
          let a = v.4.2 in
          seeks-as k y.service s from w.tree g.walks.tree r rows
          (ap (λ (t : Reading). placed_at y.service from t r) z
          ∙ closed-placed y.service from r v.0 v.1 v.2 v.3 false (ap (λ (t : List ℕ). same t r) (sym a.reference) ∙ n)
          ∙ sym (ap (λ (t : Reading). placed_at y.service from t r) e))
          q

  -- the message that is sought
  pub seeks-hit : named_by y.service.release s c.closed c.layout r ≡ true → SeeksBy (Ok (Some c.layout)) y.service s from g.walks.tree r here
  seeks-hit n = by c.closed n g.by
    where
      by : (f : Bool) → named_by y.service.release s f c.layout r ≡ true → SectionBy f y s i w.tree g.walks.tree c.layout here
          → SeeksBy (Ok (Some c.layout)) y.service s from g.walks.tree r here
      by false n v = absurd (false≢true n)
      by true n v =
          let e = v.4.0 in
          let z = v.4.1 in
          let a = v.4.2 in
          let k : i ≡ from + wide y.service (shown (idle v.0 v.1)) = w.placed ∙ ap (λ (t : Reading). from + wide y.service (shown t)) e in (
            v.2,
            v.3,
            i,
            (
              ap (λ (t : Reading). placed_at y.service from t r) z
                  ∙ closed-placed y.service from r v.0 v.1 v.2 v.3 true (ap (λ (t : List ℕ). same t r) (sym a.reference) ∙ n)
                  ∙ ap (λ (j : ℕ). some (placed (message v.2 v.3) j)) (sym k),
              a,
            ),
          )

-- ---- the end: all was read

pub whole-read : {y : Syntax} {s : List ℕ} {p : ℕ} {x : State} {h l b : List ℕ} {i : ℕ} (w : Walking y s p x h l b i) (f : Result (Option Layout) Breach) (r rows : List ℕ) → ReadAll w
    → SeeksBy f y.service s p w.tree r rows → FoundIs y s p r f rows
whole-read {y} {s} {p} w f r rows a q = by f q
  where
    by : (f : Result (Option Layout) Breach) → SeeksBy f y.service s p w.tree r rows → FoundIs y s p r f rows
    by (Ok (Some c)) q = (a.1.0, a.1.1, a.1.2, (a.0 ∙ ap read a.1.3, subst (λ (v : Reading). SeeksBy (Ok (Some c)) y.service s p v r rows) a.1.3 q))
    by (Ok None) q = (a.1.0, a.1.1, a.1.2, (a.0 ∙ ap read a.1.3, subst (λ (v : Reading). SeeksBy (Ok None) y.service s p v r rows) a.1.3 q))
    by (Err f) q = absurd q

-- ---- the rows of the message found

take_whole : (l : List ℕ) (n : ℕ) → length l ≡ n → take n l ≡ l
take_whole l n e = rw (← e) (all l)
  where
    all : (l : List ℕ) → take (length l) l ≡ l
    all [] = refl
    all (x ∷ l) = ap (λ (r : List ℕ). x ∷ r) (all l)

drop-whole : (l : List ℕ) (n : ℕ) → length l ≡ n → drop n l ≡ []
drop-whole l n e = rw (← e) (all l)
  where
    all : (l : List ℕ) → drop (length l) l ≡ []
    all [] = refl
    all (x ∷ l) = all l

append-none : (l : List ℕ) → l ++ [] ≡ l
append-none [] = refl
append-none (x ∷ l) = ap (λ (r : List ℕ). x ∷ r) (append-none l)

-- so many of them are kept
pub record Keeping (rows here left : List ℕ) (i : ℕ) : Type 0 where
  pub most : i ≤ 18
  pub long : length left ≡ 18
  pub kept : left ≡ paste rows 0 here i

pub keeping_start : {rows here : List ℕ} → length rows ≡ 18 → Keeping rows here rows 0
keeping_start {rows} {here} n = record { most = omega arith; long = n; kept = paste-zero rows 0 here }

pub keeping-on : {rows here left : List ℕ} {i : ℕ} → length rows ≡ 18 → length here ≡ 18 → i < 18 → Keeping rows here left i → Keeping rows here (set left i (get_or here i 0)) (i + 1)
keeping-on {rows} {here} {left} {i} n m l k = record {
  most = omega (arith, l);
  long = length-set left i (get_or here i 0) ∙ k.long;
  kept =
      let z : i ≡ 0 + i = omega arith in
      let o : suc i ≡ i + 1 = omega arith in
      ap (λ (r : List ℕ). set r i (get_or here i 0)) k.kept ∙ ap (λ (j : ℕ). set (paste rows 0 here i) j (get_or here i 0)) z
      ∙ paste-suc rows 0 here i 0 (omega (arith, n, l)) (omega (arith, m, l)) ∙ ap (paste rows 0 here) o;
}

pub keeping-end : {rows here left : List ℕ} {i : ℕ} → length rows ≡ 18 → length here ≡ 18 → 18 ≤ i → Keeping rows here left i → left ≡ here
keeping-end {rows} {here} {left} {i} n m l k =
    let e : i ≡ 18 = omega (arith, l, k.most) in
    k.kept ∙ ap (paste rows 0 here) e ∙ rw (take_whole here 18 m, drop-whole rows 18 n) (append-none here)

-- ---- whether a section closed the message

module _ (ρ : ℕ) (s r : List ℕ) (c : Layout) {d : Bool} where
  pub named-closed : {p : List ℕ} {b : Bool} → d ≡ true → p ≡ slice c.reference.start c.reference.end s → b ≡ same (compared (content ρ p)) r → b ≡ named_by ρ s d c r
  named-closed e q k = k ∙ ap (λ (x : List ℕ). same (compared (content ρ x)) r) q ∙ sym (ap (λ (f : Bool). named_by ρ s f c r) e)

  pub named-open : d ≡ false → false ≡ named_by ρ s d c r
  named-open e = sym (ap (λ (f : Bool). named_by ρ s f c r) e)

-- ---- the walk of the search: what holds at its head

pub record Sifting (y : Syntax) (s : List ℕ) (from : ℕ) (r : List ℕ) (x : State) (h l b : List ℕ) (i : ℕ) (m here l₀ b₀ : List ℕ) (f : Result (Option Layout) Breach) (rows : List ℕ) : Type 0 where
  pub looping : Looping y s from x h l b i m here l₀ b₀
  pub seeks : SeeksBy f y.service s from looping.walks.tree r rows
  pub long : length rows ≡ 18

-- the search with what it holds now
pub seeks-eq : (σ : Service) (s : List ℕ) (p : ℕ) (z : Reading) (r : List ℕ) {k f : Result (Option Layout) Breach} {rows left : List ℕ} → f ≡ k → left ≡ rows → SeeksBy k σ s p z r rows → SeeksBy f σ s p z r left
seeks-eq σ s p z r {k} {f} {rows} {left} e h q =
    subst (λ (a : Result (Option Layout) Breach). SeeksBy a σ s p z r left) (sym e) (subst (λ (a : List ℕ). SeeksBy k σ s p z r a) (sym h) q)

-- nothing was read yet
pub seeks-start : {y : Syntax} {s : List ℕ} {p : ℕ} {x : State} {h l b : List ℕ} {i : ℕ} (w : Walking y s p x h l b i) (r : List ℕ) → x ≡ unread_as
    → placed_at y.service p w.tree r ≡ none
seeks-start {y} {p = p} w r e = ap (λ (z : Reading). placed_at y.service p z r) (unread-start w e)

-- ---- the reference as it was given, and its bare part

pub found-bare : (y : Syntax) (s : List ℕ) (from ρ : ℕ) (x z : List ℕ) (f : Result (Option Layout) Breach) (rows : List ℕ) → content ρ z ≡ compared (content ρ x)
    → FoundIs y s from (compared (content ρ z)) f rows → FoundIs y s from (compared (content ρ x)) f rows
found-bare y s from ρ x z f rows e q =
    subst (λ (r : List ℕ). FoundIs y s from r f rows) (ap compared e ∙ compared-twice (content ρ x)) q
