-- Scope 3: the message is given exactly where the AUTACK refers to it, and it is printed from its UNH through its UNT.
use Rattle.std.specs.Prelude.{ℕ, ◌+◌, ◌≡◌, refl, List, ◌↔◌, Bool, true, false, cond}
use Rattle.std.proofs.Common.{ap, ◌∙◌, sym}
use Rattle.std.proofs.Math.Option.{Option, none, some}
use Rattle.syntax.specs.Octets.{octets, same}
use Rattle.syntax.proofs.ContentLaws.{same_self}
use Rattle.grammar.specs.TestLaws.{passes}
use Rattle.grammar.proofs.PlacingLaws.{same-eq}
use Rattle.grammar.specs.Segments.{unb0020, usx0020, usx0062_text}
use Rattle.grammar.specs.Interchange.{Message, message, show_message}
use Rattle.grammar.specs.Valid.{Interchange, interchange}
use Rattle.grammar.specs.Verdict.{accepted, verdict_of}
use Rattle.grammar.proofs.VerdictLaws.{verdict-exact}
use Rattle.grammar.specs.Places.{wide}
use Rattle.grammar.specs.Named.{Placed, placed}
use Rattle.spans.specs.Span.{autack_m}
use Rattle.groups.specs.Calls.{given, then, service_in, message_in}
use Rattle.groups.specs.CallsLaws.{none-some}
use Rattle.ranges.specs.Ranges.{Run, run}
use Rattle.f01.specs.Targets.{target}
use Rattle.scope3.specs.Scope3.{whole_at, whole_in, scope3_of}
use Rattle.demands.specs.AskedLaws.{then-so, message-stands, Part, part, part_at}
use Rattle.demands.specs.Stated.{unb_of, Refers3}
use Rattle.demands.specs.Printed.{Scope3}
use Rattle.demands.specs.AskedForLaws.{message-in, message-at}
use Rattle.demands.specs.ReferringLaws.{Across, across-so, across-there}

-- ---- the message of the other interchange

-- p is the run of the message m in the interchange i, whose 0020 is k
pub record Whole (i : Interchange) (k m : List ℕ) (p : Run) : Type 0 where
  pub named : unb0020 (unb_of i) ≡ k
  pub sealed : Message
  pub q : ℕ
  pub found : message_in i m ≡ some (placed sealed q)
  pub other : autack_m sealed ≡ false
  pub is : run q (q + wide (service_in i) (show_message sealed)) ≡ p

whole-so : (i : Interchange) (k m : List ℕ) (p : Run) → whole_in i (target k m) ≡ some p → Whole i k m p
whole-so (interchange n u ms z) k m p e = by (same (unb0020 u) k) refl e
  where
    by : (c : Bool) → same (unb0020 u) k ≡ c → cond c (then (message_in (interchange n u ms z) m) (whole_at (service_in (interchange n u ms z)))) none ≡ some p → Whole (interchange n u ms z) k m p
    by false d e = none-some e
    by true d e =
        let t = then-so (message_in (interchange n u ms z) m) (whole_at (service_in (interchange n u ms z))) p e in
        each t.a t.first t.second
      where
        each : (x : Placed) → message_in (interchange n u ms z) m ≡ some x → whole_at (service_in (interchange n u ms z)) x ≡ some p → Whole (interchange n u ms z) k m p
        each (placed w q) f g = one (autack_m w) refl g
          where
            one : (c : Bool) → autack_m w ≡ c → cond c none (some (run q (q + wide (service_in (interchange n u ms z)) (show_message w)))) ≡ some p → Whole (interchange n u ms z) k m p
            one true y h = none-some h
            one false y h =
                let is : run q (q + wide (service_in (interchange n u ms z)) (show_message w)) ≡ p = cc in
                record { named = same-eq (unb0020 u) k (passes (same (unb0020 u) k) d); sealed = w; q = q; found = f; other = y; is = is }

whole-there : (i : Interchange) (k m : List ℕ) (w : Message) (q : ℕ) → unb0020 (unb_of i) ≡ k → message_in i m ≡ some (placed w q) → autack_m w ≡ false
    → whole_in i (target k m) ≡ some (run q (q + wide (service_in i) (show_message w)))
whole-there (interchange n u ms z) k m w q e d f =
    let i : Interchange = interchange n u ms z in
    ap (λ (c : Bool). cond c (then (message_in i m) (whole_at (service_in i))) none) (ap (λ (x : List ℕ). same x k) e ∙ same_self k)
    ∙ ap (λ (o : Option Placed). then o (whole_at (service_in i))) d ∙ ap (λ (c : Bool). cond c none (some (run q (q + wide (service_in i) (show_message w))))) f

-- it stands there
whole_part : (s m : List ℕ) (i : Interchange) (w : Message) (q : ℕ) → verdict_of s ≡ accepted i → message_in i m ≡ some (placed w q)
    → Part (service_in i) s q (q + wide (service_in i) (show_message w)) (show_message w)
whole_part s m i (message o t) q v e = part (service_in i) s q (show_message (message o t)) (message-stands s m i v e)

-- ---- both

module _ (a s m r : List ℕ) where
  -- what is given is the message that is referred to
  abbrev refers-of : (p : Run) (g : Across (octets "3") whole_in a s m r p) → Whole g.i (usx0020 g.tied.usx) (usx0062_text g.tied.usx) p → Refers3 a s m r
  refers-of p g x = record {
    to = record { autack = g.autack; tied = g.tied; i = g.i; read = g.read; refers = x.named };
    sealed = x.sealed;
    there = (message-in g.i (usx0062_text g.tied.usx) x.found).0;
    name = (message-in g.i (usx0062_text g.tied.usx) x.found).1.0;
    other = x.other;
  }

  refers-so : (p : Run) → scope3_of a s m r ≡ given p → Refers3 a s m r
  refers-so p e =
      let g = across-so (octets "3") whole_in a s m r p e in
      refers-of p g (whole-so g.i (usx0020 g.tied.usx) (usx0062_text g.tied.usx) p g.gave)

  refers-there : (w : Refers3 a s m r) → (p : Run) × (scope3_of a s m r ≡ given p)
  refers-there w =
      let k = message-at w.to.i (usx0062_text w.to.tied.usx) ((verdict-exact s w.to.i).0 w.to.read).0 w.there w.name in
      let p : Run = run k.0 (k.0 + wide (service_in w.to.i) (show_message w.sealed)) in (
        p,
        across-there (octets "3") whole_in a s m r w.to p
            (whole-there w.to.i (usx0020 w.to.tied.usx) (usx0062_text w.to.tied.usx) w.sealed k.0 w.to.refers k.1 w.other),
      )

  pub scope3-given : ((p : Run) × (scope3_of a s m r ≡ given p)) ↔ Refers3 a s m r
  scope3-given = (λ (h : (p : Run) × (scope3_of a s m r ≡ given p)). refers-so h.0 h.1, λ (w : Refers3 a s m r). refers-there w)

  pub scope3-printed : (x y : ℕ) → scope3_of a s m r ≡ given (run x y) → Scope3 a s m r x y
  scope3-printed x y e =
      let g = across-so (octets "3") whole_in a s m r (run x y) e in
      let w = whole-so g.i (usx0020 g.tied.usx) (usx0062_text g.tied.usx) (run x y) g.gave in
      by g w w.is
    where
      by : (g : Across (octets "3") whole_in a s m r (run x y)) (w : Whole g.i (usx0020 g.tied.usx) (usx0062_text g.tied.usx) (run x y))
          → run w.q (w.q + wide (service_in g.i) (show_message w.sealed)) ≡ run x y → Scope3 a s m r x y
      by g w d =
          let st : w.q ≡ x = cc in
          let en : w.q + wide (service_in g.i) (show_message w.sealed) ≡ y = cc in
          let h = part_at st en (whole_part s (usx0062_text g.tied.usx) g.i w.sealed w.q g.read w.found) in
          record {
            of = refers-of (run x y) g w;
            start = sym st ∙ (message-in g.i (usx0062_text g.tied.usx) w.found).1.1;
            octets = h.octets;
            end = h.end;
          }
