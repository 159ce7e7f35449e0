-- What is sealed in the interchange that an AUTACK refers to, by what the AUTACK has: the header of a scope code, and the first USX under which a USY names it.
use Rattle.std.specs.Prelude.{ℕ, ◌≡◌, refl, List, Bool, true, false, cond}
use Rattle.std.proofs.Common.{ap, ◌∙◌}
use Rattle.std.proofs.Math.Option.{Option, none, some}
use Rattle.syntax.specs.Content.{compared}
use Rattle.syntax.specs.Octets.{same}
use Rattle.syntax.proofs.ContentLaws.{same_self}
use Rattle.grammar.specs.TestLaws.{passes}
use Rattle.grammar.proofs.PlacingLaws.{same-eq}
use Rattle.grammar.specs.Interchange.{Header, Open, msg, Message, message}
use Rattle.grammar.specs.Rules.{ref_h, ref_m}
use Rattle.grammar.specs.Valid.{Interchange, Valid}
use Rattle.grammar.specs.Verdict.{Verdict, accepted, refused_with, verdict_of}
use Rattle.grammar.proofs.VerdictLaws.{verdict-exact}
use Rattle.grammar.specs.Counted.{messages_in}
use Rattle.grammar.specs.Places.{headers_in}
use Rattle.grammar.specs.Named.{Placed, placed}
use Rattle.groups.specs.Parts.{scope_h, body_in}
use Rattle.groups.specs.Groups.{Chosen, chosen, chosen_by}
use Rattle.groups.specs.Links.{Tie, tie, tie_in}
use Rattle.groups.specs.Calls.{given, or_missing, answered_by, then, message_in}
use Rattle.groups.specs.CallsLaws.{none-some}
use Rattle.ranges.specs.Ranges.{Run, of_scope, header_in}
use Rattle.f01.specs.Targets.{Target, usx_target, target_of, target_at, target_in, across_by, across_of}
use Rattle.demands.specs.AskedLaws.{missing-given, given_so, then-so, header-in}
use Rattle.demands.specs.Stated.{In, headers_of, HasHeader, body_of, FirstUsx, RefersTo}
use Rattle.demands.specs.OnceLaws.{chosen-once, chosen-in}
use Rattle.demands.specs.AskedForLaws.{message-in, message-at, refs-of}
use Rattle.demands.specs.TiedLaws.{tie-so, tie_there}

-- ---- the header of a scope, as it is found

header-so : (code r : List ℕ) (o : Open) (c : Chosen Header) → header_in code o r ≡ some c → (h : Header) × (In h (headers_in o) × ((ref_h h ≡ compared r) × (scope_h h ≡ code)))
header-so code r (msg u hs b ts) c e =
    let t = then-so (chosen_by ref_h hs (compared r)) (of_scope code) c e in
    by t.a t.first t.second
  where
    by : (k : Chosen Header) → chosen_by ref_h hs (compared r) ≡ some k → of_scope code k ≡ some c → (h : Header) × (In h hs × ((ref_h h ≡ compared r) × (scope_h h ≡ code)))
    by (chosen ys y) d e = each (same (scope_h y) code) refl e
      where
        each : (b : Bool) → same (scope_h y) code ≡ b → cond b (some (chosen ys y)) none ≡ some c → (h : Header) × (In h hs × ((ref_h h ≡ compared r) × (scope_h h ≡ code)))
        each true q e = let w = chosen-in ref_h (compared r) hs d in (y, (w.0, (w.1, same-eq (scope_h y) code (passes (same (scope_h y) code) q))))
        each false q e = none-some e

-- ---- the AUTACK's side

module _ (code a m r : List ℕ) where
  -- the header, and the first USX, which refers to k
  pub record Names (k : Target) : Type 0 where
    pub autack : HasHeader a m r code
    pub tied : FirstUsx (body_of autack.of) r
    pub is : usx_target tied.usx ≡ k

  names-so : (j : Interchange) (k : Target) → verdict_of a ≡ accepted j → target_in code j m r ≡ some k → Names k
  names-so j k v e =
      let t = then-so (message_in j m) (λ p. target_at code p r) k e in
      by t.a t.first t.second
    where
      by : (p : Placed) → message_in j m ≡ some p → target_at code p r ≡ some k → Names k
      by (placed (message o n) q) d e =
          let t = then-so (header_in code o r) (λ h. then (tie_in (body_in o) r) (λ x. some (target_of x))) k e in
          let h = header-so code r o t.a t.first in
          let l = then-so (tie_in (body_in o) r) (λ x. some (target_of x)) k t.second in
          each h.0 h.1 l.a l.first l.second
        where
          each : (h : Header) → In h (headers_in o) × ((ref_h h ≡ compared r) × (scope_h h ≡ code)) → (x : Tie) → tie_in (body_in o) r ≡ some x → some (target_of x) ≡ some k → Names k
          each h g (tie x y) f e =
              let w = message-in j m d in
              let z = tie-so (body_in o) r f in
              let is : usx_target x ≡ k = cc in
              record {
                autack = record { i = j; read = v; of = message o n; there = w.0; name = w.1.0; header = h; within = g.0; ref = g.1.0; scope = g.1.1 };
                tied = z.0;
                is = ap usx_target z.1.0 ∙ is;
              }

  names-there : (w : HasHeader a m r code) (t : FirstUsx (body_of w.of) r) → target_in code w.i m r ≡ some (usx_target t.usx)
  names-there w t = by w.of w.there w.name w.within t
    where
      v : Valid w.i
      v = ((verdict-exact a w.i).0 w.read).0

      by : (x : Message) → In x (messages_in w.i) → ref_m x ≡ compared m → In w.header (headers_of x) → (t : FirstUsx (body_of x) r) → target_in code w.i m r ≡ some (usx_target t.usx)
      by (message (msg u hs b ts) n) g e c t =
          let k = message-at w.i m v g e in
          let h = header-in code r u hs b ts (chosen-once ref_h (compared r) c w.ref (refs-of w.i v g).0.0) (ap (λ (x : List ℕ). same x code) w.scope ∙ same_self code) in
          ap (λ (o : Option Placed). then o (λ p. target_at code p r)) k.1
          ∙ ap (λ (o : Option (Chosen Header)). then o (λ h. then (tie_in b r) (λ x. some (target_of x)))) h
          ∙ ap (λ (o : Option Tie). then o (λ x. some (target_of x))) (tie_there b r t)

-- ---- both interchanges: a is the AUTACK's, s the other

module _ (code : List ℕ) (give : Interchange → Target → Option Run) (a s m r : List ℕ) where
  -- p is what is given for what the AUTACK refers to
  pub record Across (p : Run) : Type 0 where
    pub autack : HasHeader a m r code
    pub tied : FirstUsx (body_of autack.of) r
    pub i : Interchange
    pub read : verdict_of s ≡ accepted i
    pub gave : give i (usx_target tied.usx) ≡ some p

  pub across-so : (p : Run) → across_of code give a s m r ≡ given p → Across p
  across-so p e = by (verdict_of a) refl e
    where
      by : (v : Verdict) → verdict_of a ≡ v → across_by code give v s m r ≡ given p → Across p
      by (refused_with k) d e = missing-given e
      by (accepted j) d e =
          let g = given_so s (λ i. then (target_in code j m r) (give i)) p e in
          let q = then-so (target_in code j m r) (give g.i) p g.gave in
          let n = names-so code a m r j q.a d q.first in
          record { autack = n.autack; tied = n.tied; i = g.i; read = g.read; gave = ap (give g.i) n.is ∙ q.second }

  pub across-there : (w : RefersTo code a s m r) (p : Run) → give w.i (usx_target w.tied.usx) ≡ some p → across_of code give a s m r ≡ given p
  across-there w p e =
      ap (λ (v : Verdict). across_by code give v s m r) w.autack.read
      ∙ ap (λ (v : Verdict). answered_by v (λ i. then (target_in code w.autack.i m r) (give i))) w.read
      ∙ ap (λ (o : Option Target). or_missing (then o (give w.i))) (names-there code a m r w.autack w.tied)
      ∙ ap or_missing e
