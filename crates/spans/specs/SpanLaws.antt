-- The messages are parted as the paper says: AUTACKs before the run, the run from the first message that is none to the last, AUTACKs behind it.
use Rattle.std.specs.Prelude.{ℕ, Bool, true, false, cond, ◌≡◌, refl}
use Rattle.std.proofs.Common.{arith, ap, sym, ◌∙◌, subst}
use Rattle.std.proofs.lemmas.Bool.{false≢true}
use Rattle.std.proofs.Math.Option.{Option, none, some}
use Rattle.grammar.specs.Lists.{Snoc, nil, ◌▷◌, ◌+++◌, any, Rule, test, holds, every}
use Rattle.grammar.specs.Interchange.{Message}
use Rattle.grammar.proofs.PlacingLaws.{regroup}
use Rattle.spans.specs.Span.{autack_m, Parted, parted, joined_by, parted_of}

abbrev pub autack : Message → Rule
autack m = test (autack_m m)

-- the first of the messages s and m
abbrev first_with : Snoc Message → Message → Message
first_with nil m = m
first_with (s ▷ x) m = first_with s x

abbrev pub first_of : Snoc Message → Option Message
first_of nil = none
first_of (s ▷ m) = some (first_with s m)

abbrev pub last_of : Snoc Message → Option Message
last_of nil = none
last_of (s ▷ m) = some m

pub record Parts (ms b r a : Snoc Message) : Type 0 where
  -- all messages, in their order
  pub whole : ms ≡ b +++ r +++ a
  -- every message before the run and behind it is an AUTACK
  pub before : holds (every autack b)
  pub behind : holds (every autack a)
  -- the first message of the run and the last are none
  pub first : (m : Message) → first_of r ≡ some m → autack_m m ≡ false
  pub last : (m : Message) → last_of r ≡ some m → autack_m m ≡ false
  -- where there is no run, all lie before it
  pub alone : any r ≡ false → a ≡ nil

abbrev pub PartsOf : Snoc Message → Parted → Type 0
PartsOf ms (parted b r a) = Parts ms b r a

-- ---- one message more

-- what is drawn into the run stands behind its first message
first-kept : (r : Snoc Message) (x : Message) (a : Snoc Message) (m : Message) → first_with (r ▷ x +++ a) m ≡ first_with r x
first-kept r x nil m = refl
first-kept r x (a ▷ n) m = first-kept r x a n

no-message : {A : Type 0} {m : Message} → ◌≡◌ {A = Option Message} none (some m) → A
no-message e = let z : ◌≡◌ {A = ℕ} 0 1 = cc in absurd (omega arith)

same-message : {m k : Message} → ◌≡◌ {A = Option Message} (some m) (some k) → autack_m m ≡ false → autack_m k ≡ false
same-message {m} {k} q e = let z : k ≡ m = cc in ap autack_m z ∙ e

parts-on : (ms : Snoc Message) (m : Message) (q : Parted) → PartsOf ms q → PartsOf (ms ▷ m) (joined_by q m)
parts-on ms m (parted b nil a) p = by (autack_m m) refl
  where
    ends : ms ≡ b
    ends = p.whole ∙ ap (λ (s : Snoc Message). b +++ s) (p.alone refl)

    by : (c : Bool) → autack_m m ≡ c → PartsOf (ms ▷ m) (cond c (parted (b ▷ m) nil nil) (parted b (nil ▷ m) nil))
    by true e = record {
      whole = ap (λ (s : Snoc Message). s ▷ m) ends;
      before = (p.before, rw e tt);
      behind = tt;
      first = λ k q. no-message q;
      last = λ k q. no-message q;
      alone = λ n. refl;
    }
    by false e = record {
      whole = ap (λ (s : Snoc Message). s ▷ m) ends;
      before = p.before;
      behind = tt;
      first = λ k q. same-message q e;
      last = λ k q. same-message q e;
      alone = λ n. refl;
    }
parts-on ms m (parted b (r ▷ x) a) p = by (autack_m m) refl
  where
    by : (c : Bool) → autack_m m ≡ c → PartsOf (ms ▷ m) (cond c (parted b (r ▷ x) (a ▷ m)) (parted b (r ▷ x +++ a ▷ m) nil))
    by true e = record {
      whole = ap (λ (s : Snoc Message). s ▷ m) p.whole;
      before = p.before;
      behind = (p.behind, rw e tt);
      first = p.first;
      last = p.last;
      alone = λ n. absurd (false≢true (sym n));
    }
    by false e = record {
      whole = ap (λ (s : Snoc Message). s ▷ m) (p.whole ∙ sym (regroup b (r ▷ x) a));
      before = p.before;
      behind = tt;
      first = λ k q. p.first k (ap some (sym (first-kept r x a m)) ∙ q);
      last = λ k q. same-message q e;
      alone = λ n. absurd (false≢true (sym n));
    }

-- ---- so they are parted

pub parts : (ms : Snoc Message) → PartsOf ms (parted_of ms)
parts nil = record {
  whole = refl;
  before = tt;
  behind = tt;
  first = λ k q. no-message q;
  last = λ k q. no-message q;
  alone = λ n. refl;
}
parts (ms ▷ m) = parts-on ms m (parted_of ms) (parts ms)

pub parted-so : {ms b r a : Snoc Message} → parted_of ms ≡ parted b r a → Parts ms b r a
parted-so {ms} e = subst (λ (q : Parted). PartsOf ms q) e (parts ms)
