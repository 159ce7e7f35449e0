-- Laws of the loads as the code reads them: one segment, and the walk along many.
use Rattle.kilograms.specs.declared.Tally.{Tally}
use Rattle.std.specs.Prelude.{ℕ, suc, ◌+◌, ◌-◌, ◌/◌, ◌%◌, ◌≤◌, ◌<◌, ◌≡◌, refl, Bool, true, false, cond, ◌&&◌, List, [], ◌∷◌, ◌++◌, T, eqb, leb, ltb, pos, negsuc, length, Option, Result, Some, None}
use Rattle.std.proofs.Common.{arith, ap, sym, ◌∙◌, subst, length-append, leb-true, eq-eqb, ne_eqb}
use Rattle.std.proofs.Math.Option.{Option as Maybe, none, some}
use Rattle.syntax.specs.Octets.{octets, same}
use Rattle.syntax.specs.Service.{fit}
use Rattle.syntax.specs.Content.{content}
use Rattle.syntax.specs.Cutting.{end_at}
use Rattle.syntax.specs.Segment.{component_at, part_of}
use Rattle.syntax.specs.Tree.{Segment, print_s, print}
use Rattle.syntax.proofs.TreeLaws.{print-cons}
use Rattle.syntax.specs.declared.Service.{Service}
use Rattle.grammar.specs.Segments.{Asked, asked}
use Rattle.grammar.specs.Loads.{Shape, shape, amount_right, grams, amount, unit, unit_of, three_part, load_unit, load_shape}
use Rattle.elements.specs.Octets.{asked_at}
use Rattle.elements.specs.Amounts.{amount_is, unit_is}
use Rattle.elements.specs.declared.amounts.Form.{Form}
use Rattle.grammar.specs.Grams as number
use Rattle.walk.specs.RunLaws.{long-print}
use Rattle.groups.specs.Stand.{Row}
use Rattle.groups.specs.StandLaws.{row_first, row-asked, row-rest}
use Rattle.groups.specs.LinksLaws.{ends-in}
use Rattle.kilograms.specs.OldSum.{Old, tally, refused, limit, rounded, kilograms_in, added, single}
use Rattle.kilograms.specs.Running.{running_as, load_as, Held, loads_of, Runs, Weighs}
use Rattle.kilograms.specs.RunningLaws.{held-added, running-one}
use Rattle.returns.specs.Returns.{kilograms_of}
use Rattle.returns.specs.Reading.{three_parted, weighed_by, read_by, read_in, read_as, added_by, added_from, Starts}

-- ---- a load is at most 100,000 kilograms

whole-weighs : (g : ℕ) → Weighs (load_as (kilograms_in g))
whole-weighs g = by (eqb (g % 1000) 0) (leb g 100000000) refl
  where
    by : (a b : Bool) → leb g 100000000 ≡ b → Weighs (load_as (cond (a && b) (some (g / 1000)) none))
    by true true e = let h = leb-true g 100000000 e in omega (arith, h)
    by true false e = tt
    by false b e = tt

pub kilograms-weigh : (g : number.Grams) → Weighs (load_as (kilograms_of g))
kilograms-weigh (pos g) = whole-weighs g
kilograms-weigh (negsuc g) = tt

read-weighs : (o : Maybe Shape) (s : List ℕ) {x : Maybe ℕ} → read_by o s ≡ some x → Weighs (load_as x)
read-weighs none s e = let z : ◌≡◌ {A = ℕ} 0 1 = cc in absurd (omega arith)
read-weighs (some u) s {x} e = subst (λ (y : Maybe ℕ). Weighs (load_as y)) (inner e) (by (amount_right u s))
  where
    inner : {a b : Maybe ℕ} → some a ≡ some b → a ≡ b
    inner e = cc

    by : (b : Bool) → Weighs (load_as (cond b (kilograms_of (grams u s)) none))
    by true = kilograms-weigh (grams u s)
    by false = tt

-- the load of an amount is that of its grams
amount-so : (z : number.Grams) → weighed_by (Some (number.magnitude z, number.below z)) ≡ load_as (kilograms_of z)
amount-so (pos n) = refl
amount-so (negsuc n) = refl

pub forward-weighed : {a : Option (ℕ × Bool)} {n : ℕ} {b : Bool} {x : Option ℕ} → a ≡ Some (n, b) → b ≡ false → x ≡ load_as (kilograms_in n) → x ≡ weighed_by a
forward-weighed {a} {n} {b} e d h = h ∙ sym (ap weighed_by (e ∙ ap (λ q. Some (n, q)) d))

-- ---- what a segment is

pub three-not : (a : Asked) {q : Bool} → q ≡ same a.tag (octets "QTY") → q ≡ false → false ≡ three_parted a
three-not a e d = ap (λ (x : Bool). x && three_part a) (sym d ∙ e)

pub three-many : (a : Asked) {q : Bool} → q ≡ same a.tag (octets "QTY") → q ≡ true → (a.size ≡ 1 → ⊥) → false ≡ three_parted a
three-many a e d n = sym (rw (← e, d, ne_eqb a.size 1 n))

pub three-one : (a : Asked) {q : Bool} → q ≡ same a.tag (octets "QTY") → q ≡ true → a.size ≡ 1 → {r : Bool} → r ≡ eqb (a.parts 1) 3 → r ≡ three_parted a
three-one a e d n k = k ∙ sym (rw (← e, d, eq-eqb a.size 1 n))

-- no load
pub read_none : (a : Asked) {r : Bool} → r ≡ three_parted a → r ≡ false → None ≡ read_as (read_in a)
read_none a e d = sym (ap (λ (b : Bool). read_as (read_by (cond b (load_unit (unit_of a)) none) (amount a))) (sym e ∙ d))

module _ (a : Asked) {r : Bool} (e : r ≡ three_parted a) (d : r ≡ true) where
  shape-so : read_in a ≡ read_by (load_unit (unit_of a)) (amount a)
  shape-so = ap (λ (b : Bool). read_by (cond b (load_unit (unit_of a)) none) (amount a)) (sym e ∙ d)

  unknown-so : (o : Maybe Shape) → None ≡ unit_is o → o ≡ none
  unknown-so none k = refl
  unknown-so (some (shape w m)) k = let z : ◌≡◌ {A = ℕ} 0 1 = cc in absurd (omega arith)

  known_so : (o : Maybe Shape) (u : Form) → Some u ≡ unit_is o → o ≡ some (shape u.whole u.decimals)
  known_so none u k = let z : ◌≡◌ {A = ℕ} 0 1 = cc in absurd (omega arith)
  known_so (some (shape w m)) u k =
      let x : u ≡ record { whole = w; decimals = m } = cc in
      ap (λ (f : Form). some (shape f.whole f.decimals)) (sym x)

  -- not in KGM or TNE
  pub read-unknown : {p : List ℕ} {k : Option Form} → p ≡ unit_of a → k ≡ unit_is (unit p (shape 9 3) (shape 6 6)) → k ≡ None → None ≡ read_as (read_in a)
  read-unknown {p} h q z =
      let n : load_unit (unit_of a) ≡ none = unknown-so (load_unit (unit_of a)) (sym z ∙ q ∙ ap (λ (x : List ℕ). unit_is (load_unit x)) h) in
      sym (ap read_as (shape-so ∙ ap (λ (o : Maybe Shape). read_by o (amount a)) n))

  -- a load
  pub read-load : {p g : List ℕ} {k : Option Form} {u : Form} {m : Option (ℕ × Bool)} {x : Option ℕ} → p ≡ unit_of a → k ≡ unit_is (unit p (shape 9 3) (shape 6 6)) → k ≡ Some u → g ≡ amount a
      → m ≡ amount_is (amount_right (shape u.whole u.decimals) g) (grams (shape u.whole u.decimals) g) → x ≡ weighed_by m → Some x ≡ read_as (read_in a)
  read-load {p} {g} {k} {u} {m} {x} h q z l w v =
      let n : load_unit (unit_of a) ≡ some (shape u.whole u.decimals) = known_so (load_unit (unit_of a)) u (sym z ∙ q ∙ ap (λ (x : List ℕ). unit_is (load_unit x)) h) in
      ap Some (v ∙ ap weighed_by w ∙ by (amount_right (shape u.whole u.decimals) g) ∙ ap (λ (y : List ℕ). load_as (cond (amount_right (shape u.whole u.decimals) y) (kilograms_of (grams (shape u.whole u.decimals) y)) none)) l)
      ∙ sym (ap read_as (shape-so ∙ ap (λ (o : Maybe Shape). read_by o (amount a)) n))
    where
      by : (b : Bool) → weighed_by (amount_is b (grams (shape u.whole u.decimals) g)) ≡ load_as (cond b (kilograms_of (grams (shape u.whole u.decimals) g)) none)
      by true = amount-so (grams (shape u.whole u.decimals) g)
      by false = refl

-- an amount as a load weighs at most 100,000 kilograms
pub amount-weighs : (m : Option (ℕ × Bool)) → Weighs (weighed_by m)
amount-weighs (Some (n, false)) = whole-weighs n
amount-weighs (Some (n, true)) = tt
amount-weighs None = tt

-- ---- one segment more

held_by_lem : (o : Old) (a : Asked) → Held o → Held (added_by o (read_in a))
held_by_lem o a h = by (read_in a) (λ y q. read-weighs (load_shape a) (amount a) q)
  where
    by : (x : Maybe (Maybe ℕ)) → ((y : Maybe ℕ) → x ≡ some y → Weighs (load_as y)) → Held (added_by o x)
    by none k = h
    by (some y) k = held-added o y (k y refl) h

pub held-from : (o : Old) (gs : List Segment) → Held o → Held (added_from o gs)
held-from o [] h = h
held-from o (g ∷ gs) h = held-from (added_by o (read_in (asked g))) gs (held_by_lem o (asked g) h)

loads-by : (o : Old) (x : Maybe (Maybe ℕ)) → loads_of (added_by o x) ≤ suc (loads_of o)
loads-by o none = omega arith
loads-by (refused n) (some x) = omega arith
loads-by (tally v n e) (some none) = omega arith
loads-by (tally v n e) (some (some x)) = by (ltb limit (v + x))
  where
    by : (b : Bool) → loads_of (cond b (refused 24) (tally (rounded (v + x)) (suc n) (e + x))) ≤ suc n
    by true = omega arith
    by false = omega arith

-- the load that was read weighs at most 100,000 kilograms
pub weighs-read : (a : Asked) {f : Option (Option ℕ)} → f ≡ read_as (read_in a) → {x : Option ℕ} → f ≡ Some x → Weighs x
weighs-read a {f} e {x} d = by (read_in a) (sym d ∙ e) (λ z q. read-weighs (load_shape a) (amount a) q)
  where
    by : (y : Maybe (Maybe ℕ)) → Some x ≡ read_as y → ((z : Maybe ℕ) → y ≡ some z → Weighs (load_as z)) → Weighs x
    by none q w = let z : ◌≡◌ {A = ℕ} 0 1 = cc in absurd (omega arith)
    by (some y) q w = let z : x ≡ load_as y = cc in subst Weighs (sym z) (w y refl)

module _ {k r : Result Tally ℕ} (a : Asked) {f : Option (Option ℕ)} (e : f ≡ read_as (read_in a)) where
  pub after-load : {x : Option ℕ} → f ≡ Some x → ((o : Old) (l : Maybe ℕ) → Held o → k ≡ running_as o → x ≡ load_as l → r ≡ running_as (added o l))
      → (o : Old) → Held o → k ≡ running_as o → r ≡ running_as (added_by o (read_in a))
  after-load {x} d g o h q = by (read_in a) (sym d ∙ e)
    where
      by : (y : Maybe (Maybe ℕ)) → Some x ≡ read_as y → r ≡ running_as (added_by o y)
      by none z = let z : ◌≡◌ {A = ℕ} 0 1 = cc in absurd (omega arith)
      by (some l) z = let i : x ≡ load_as l = cc in g o l h q i

  pub after_none : f ≡ None → r ≡ k → (o : Old) → Held o → k ≡ running_as o → r ≡ running_as (added_by o (read_in a))
  after_none d g o h q = by (read_in a) (sym d ∙ e)
    where
      by : (y : Maybe (Maybe ℕ)) → None ≡ read_as y → r ≡ running_as (added_by o y)
      by none z = g ∙ q
      by (some l) z = let z : ◌≡◌ {A = ℕ} 0 1 = cc in absurd (omega arith)

-- ---- the walk along the segments

-- what was added so far; and whatever segments stand from `from` to `to`, the rest of them adds up to the same
pub record Summing (σ : Service) (s : List ℕ) (from to : ℕ) (before k : Result Tally ℕ) (at : ℕ) : Type 0 where
  pub sofar : Old
  pub held : Held sofar
  pub is : k ≡ running_as sofar
  pub few : loads_of sofar ≤ at
  pub room : loads_of sofar ≤ length s
  pub on : (gs : List Segment) (o : Old) → Row σ s from gs to → Held o → before ≡ running_as o → (hs : List Segment) × (Row σ s at hs to × (added_from o gs ≡ added_from sofar hs))

module _ {σ : Service} {s : List ℕ} {from to : ℕ} {before : Result Tally ℕ} where
  pub summing_start : Starts before → Summing σ s from to before before from
  summing_start b = record {
    sofar = b.old;
    held = b.held;
    is = b.is;
    few = let e = b.none_yet in omega (arith, e);
    room = let e = b.none_yet in omega (arith, e);
    on = λ gs o w l e. (gs, (w, ap (λ (x : Old). added_from x gs) (running-one o b.old l b.held (sym e ∙ b.is))));
  }

  pub summing-runs : {k : Result Tally ℕ} {at : ℕ} → length s ≤ 65535 → Summing σ s from to before k at → Runs k
  summing-runs h g = let a = g.room in record { old = g.sofar; held = g.held; is = g.is; few = omega (arith, a, h) }

  module _ (fits : T (fit σ)) {k : Result Tally ℕ} {at : ℕ} (g : Summing σ s from to before k at) (less : at < to) {f : Option ℕ} (ends : f ≡ end_at σ s at) where
    -- the segment at hand
    record Step (gs : List Segment) (o : Old) : Type 0 where
      g₁ : Segment
      hs : List Segment
      rest : Row σ s (at + length (print_s σ g₁)) hs to
      end : end_at σ s at ≡ Some (at + (length (print_s σ g₁) - 1))
      adds : added_from o gs ≡ added_from (added_by g.sofar (read_in (asked_at σ s at))) hs

    step : (gs : List Segment) (o : Old) → Row σ s from gs to → Held o → before ≡ running_as o → Step gs o
    step gs o w l e = let q = g.on gs o w l e in by q.0 q.1.0 q.1.1
      where
        by : (hs : List Segment) → Row σ s at hs to → added_from o gs ≡ added_from g.sofar hs → Step gs o
        by [] v q = absurd (omega (arith, less, v.end))
        by (x ∷ hs) v q = record {
          g₁ = x;
          hs = hs;
          rest = row-rest σ s at x hs v;
          end = (row_first σ s at fits x hs v).end;
          adds = q ∙ ap (λ (a : Asked). added_from (added_by g.sofar (read_in a)) hs) (sym (row-asked σ s at fits x hs v));
        }

    pub summing_on : {e next : ℕ} {k' : Result Tally ℕ} → f ≡ Some e → next ≡ e + 1
        → ((o : Old) → Held o → k ≡ running_as o → k' ≡ running_as (added_by o (read_in (asked_at σ s at)))) → Summing σ s from to before k' next
    summing_on {e} {next} {k'} q n a =
        let i = ends-in σ s at ends q in
        let x = g.few in
        let y = loads-by g.sofar (read_in (asked_at σ s at)) in
        record {
          sofar = added_by g.sofar (read_in (asked_at σ s at));
          held = held_by_lem g.sofar (asked_at σ s at) g.held;
          is = a g.sofar g.held g.is;
          few = omega (arith, x, y, n, i.0);
          room = omega (arith, x, y, i.0, i.1);
          on = λ gs o w l d. by gs o (step gs o w l d);
        }
      where
        by : (gs : List Segment) (o : Old) → Step gs o
            → (hs : List Segment) × (Row σ s next hs to × (added_from o gs ≡ added_from (added_by g.sofar (read_in (asked_at σ s at))) hs))
        by gs o y =
            let m : Some e ≡ Some (at + (length (print_s σ y.g₁) - 1)) = sym q ∙ ends ∙ y.end in
            let j : e ≡ at + (length (print_s σ y.g₁) - 1) = cc in
            let p : at + length (print_s σ y.g₁) ≡ next = omega (arith, j, n, long-print σ y.g₁) in
            (y.hs, (subst (λ (i : ℕ). Row σ s i y.hs to) p y.rest, y.adds))

    -- every segment has an end
    pub summing-none : f ≡ None → (gs : List Segment) (o : Old) → Row σ s from gs to → Held o → before ≡ running_as o → k ≡ running_as (added_from o gs)
    summing-none d gs o w l e =
        let y = step gs o w l e in
        let m : None ≡ Some (at + (length (print_s σ y.g₁) - 1)) = sym d ∙ ends ∙ y.end in
        cc

  pub summing-end : {k : Result Tally ℕ} {at : ℕ} → Summing σ s from to before k at → to ≤ at → (gs : List Segment) (o : Old) → Row σ s from gs to → Held o → before ≡ running_as o
      → k ≡ running_as (added_from o gs)
  summing-end {k} {at} g less gs o w l e = let q = g.on gs o w l e in by q.0 q.1.0 q.1.1
    where
      by : (hs : List Segment) → Row σ s at hs to → added_from o gs ≡ added_from g.sofar hs → k ≡ running_as (added_from o gs)
      by [] v q = g.is ∙ ap running_as (sym q)
      by (x ∷ hs) v q = absurd (omega (arith, less, v.end, ap length (print-cons σ x hs) ∙ length-append (print_s σ x) (print σ hs), long-print σ x))
