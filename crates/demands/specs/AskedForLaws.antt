-- A range is given exactly where the message and the header that are named are there.
use Rattle.std.specs.Prelude.{ℕ, ◌+◌, ◌≡◌, refl, List, ◌↔◌, Bool, true, false, cond, T}
use Rattle.std.proofs.Common.{arith, ap, ◌∙◌, sym, subst}
use Rattle.std.proofs.Math.Option.{some}
use Rattle.syntax.specs.Content.{compared}
use Rattle.syntax.specs.Octets.{octets, same}
use Rattle.syntax.proofs.ContentLaws.{same_self}
use Rattle.syntax.specs.declared.Service.{Service}
use Rattle.grammar.specs.Lists.{Snoc, nil, ◌▷◌, each, among, holds}
use Rattle.grammar.specs.TestLaws.{passes}
use Rattle.grammar.proofs.PlacingLaws.{same-eq}
use Rattle.grammar.specs.Interchange.{Leaf, Open, msg, Message, message, idle, shown}
use Rattle.grammar.specs.Rules.{ref_h, ref_t, ref_m, one, refs_message}
use Rattle.grammar.specs.Valid.{Interchange, interchange, Valid, opening_in}
use Rattle.grammar.specs.Verdict.{accepted, verdict_of}
use Rattle.grammar.proofs.VerdictLaws.{verdict-exact}
use Rattle.grammar.specs.Counted.{messages_in}
use Rattle.grammar.specs.Places.{wide}
use Rattle.grammar.proofs.PlacesLaws.{wide-list}
use Rattle.grammar.specs.Named.{placed, placed_in}
use Rattle.groups.specs.Parts.{scope_h}
use Rattle.groups.specs.Groups.{chosen, chosen_by}
use Rattle.groups.specs.GroupsLaws.{chosen-among}
use Rattle.groups.specs.Calls.{given, service_in, message_in}
use Rattle.groups.specs.CallsLaws.{none-some}
use Rattle.ranges.specs.Ranges.{Parts, parts, scope1_of, Run, run, scope2_of}
use Rattle.weaving.proofs.WovenLaws.{una-length}
use Rattle.demands.specs.AskedLaws.{Asks, asks1, asks2}
use Rattle.demands.specs.GivenLaws.{there1, there2}
use Rattle.demands.specs.Stated.{In, headers_of, place_behind, HasHeader}
use Rattle.demands.specs.Printed.{MessageOf}
use Rattle.demands.specs.OnceLaws.{every_in, each_in, found-once, chosen-once, chosen-in, among-chosen}

-- ---- the message that is named is one of the interchange

module _ (σ : Service) (p : ℕ) (u : Leaf) (r : List ℕ) where
  -- m with the 0062 r is one of these, and stands at q
  abbrev Stands : Message → ℕ → Snoc Message → Type 0
  Stands m q ms = (w : In m ms) × ((ref_m m ≡ r) × (q ≡ p + wide σ (shown (idle u w.before))))

  placed-in : (ms : Snoc Message) {m : Message} {q : ℕ} → placed_in σ p u ms r ≡ some (placed m q) → Stands m q ms
  placed-in nil e = none-some e
  placed-in (ms ▷ x) {m} {q} e = by (same (ref_m x) r) refl (λ k. placed-in ms k) e
    where
      by : (b : Bool) → same (ref_m x) r ≡ b → (placed_in σ p u ms r ≡ some (placed m q) → Stands m q ms)
          → cond b (some (placed x (p + wide σ (shown (idle u ms))))) (placed_in σ p u ms r) ≡ some (placed m q) → Stands m q (ms ▷ x)
      by true d f e =
          let k : x ≡ m = cc in
          let at : q ≡ p + wide σ (shown (idle u ms)) = cc in
          (record { before = ms; behind = nil; whole = ap (λ (y : Message). ms ▷ y) k }, (ap ref_m (sym k) ∙ same-eq (ref_m x) r (passes (same (ref_m x) r) d), at))
      by false d f e = let w = f e in (record { before = w.0.before; behind = w.0.behind ▷ x; whole = ap (λ (s : Snoc Message). s ▷ x) w.0.whole }, w.1)

pub message-in : (i : Interchange) (m : List ℕ) {x : Message} {q : ℕ} → message_in i m ≡ some (placed x q)
    → (w : In x (messages_in i)) × ((ref_m x ≡ compared m) × (q ≡ place_behind i w.before))
message-in (interchange n u ms z) m e =
    let σ : Service = service_in (interchange n u ms z) in
    let w = placed-in σ (opening_in n).at u (compared m) ms e in
    (w.0, (w.1.0, omega (arith, w.1.1, una-length n, wide-list σ (shown (idle u w.0.before)))))

-- the message that is named, and where it stands
abbrev pub message-of : (s m : List ℕ) (i : Interchange) (o : Open) (t : Leaf) (q : ℕ) → verdict_of s ≡ accepted i → message_in i m ≡ some (placed (message o t) q) → MessageOf s m
message-of s m i o t q e k = record {
  i = i;
  read = e;
  o = o;
  t = t;
  there = (message-in i m k).0;
  name = (message-in i m k).1.0;
  q = q;
  place = (message-in i m k).1.1;
  named = k;
}

pub message-at : (i : Interchange) (m : List ℕ) → Valid i → {x : Message} → In x (messages_in i) → ref_m x ≡ compared m → (q : ℕ) × (message_in i m ≡ some (placed x q))
message-at (interchange n u ms z) m v {x} w e =
    let σ : Service = service_in (interchange n u ms z) in
    let p : ℕ = (opening_in n).at in
    (p + wide σ (shown (idle u w.before)), found-once ref_m (compared m) (λ s. placed_in σ p u s (compared m)) (λ s y. some (placed y (p + wide σ (shown (idle u s))))) (λ s y. refl) w e v.references.0)

-- ---- what is asked for is there

pub refs-of : (i : Interchange) → Valid i → {x : Message} → In x (messages_in i) → holds (refs_message x)
refs-of (interchange n u ms z) v w = every_in refs_message v.references.1.0 w

module _ (s m r code : List ℕ) where
  pub has-asked : Asks s m r code → HasHeader s m r code
  has-asked w =
      let x = message-in w.i m w.named in
      let c = chosen-in ref_h (compared r) w.hs w.chose in
      record {
        i = w.i;
        read = w.read;
        of = message (msg w.u w.hs w.b w.ts) w.n;
        there = x.0;
        name = x.1.0;
        header = w.y;
        within = c.0;
        ref = c.1;
        scope = same-eq (scope_h w.y) code (passes (same (scope_h w.y) code) w.scoped);
      }

  pub asks-for : HasHeader s m r code → Asks s m r code
  asks-for w = by w.of w.there w.name w.within
    where
      v : Valid w.i
      v = ((verdict-exact s w.i).0 w.read).0

      by : (x : Message) → In x (messages_in w.i) → ref_m x ≡ compared m → In w.header (headers_of x) → Asks s m r code
      by (message (msg u hs b ts) n) t e c =
          let k = message-at w.i m v t e in
          record {
            i = w.i;
            read = w.read;
            u = u;
            hs = hs;
            b = b;
            ts = ts;
            n = n;
            q = k.0;
            named = k.1;
            ys = c.before;
            y = w.header;
            chose = chosen-once ref_h (compared r) c w.ref (refs-of w.i v t).0.0;
            scoped = ap (λ (x : List ℕ). same x code) w.scope ∙ same_self code;
          }

-- ---- scope 1

pub given1 : (s m r : List ℕ) → ((p : Parts) × (scope1_of s m r ≡ given p)) ↔ HasHeader s m r (octets "1")
given1 s m r = (λ (h : (p : Parts) × (scope1_of s m r ≡ given p)). there h.0 h.1, back)
  where
    there : (p : Parts) → scope1_of s m r ≡ given p → HasHeader s m r (octets "1")
    there (parts a b c d) e = has-asked s m r (octets "1") (asks1 s m r e)

    back : HasHeader s m r (octets "1") → (p : Parts) × (scope1_of s m r ≡ given p)
    back h = let t = there1 s m r (asks-for s m r (octets "1") h) in (parts t.start t.end t.body t.body_end, t.range)

-- ---- scope 2: "one trailer group for each header"

pub given2 : (s m r : List ℕ) → ((p : Run) × (scope2_of s m r ≡ given p)) ↔ HasHeader s m r (octets "2")
given2 s m r = (λ (h : (p : Run) × (scope2_of s m r ≡ given p)). there h.0 h.1, back)
  where
    there : (p : Run) → scope2_of s m r ≡ given p → HasHeader s m r (octets "2")
    there (run a b) e = has-asked s m r (octets "2") (asks2 s m r e)

    back : HasHeader s m r (octets "2") → (p : Run) × (scope2_of s m r ≡ given p)
    back h =
        let w = asks-for s m r (octets "2") h in
        let v : Valid w.i = ((verdict-exact s w.i).0 w.read).0 in
        let x = message-in w.i m w.named in
        let c = chosen-in ref_h (compared r) w.hs w.chose in
        let a = chosen-among ref_h (compared r) w.hs w.chose in
        let k : T (among (each ref_t w.ts) (ref_h w.y)) = every_in (one (each ref_t w.ts)) (refs-of w.i v x.0).1.1 (each_in ref_h c.0) in
        let l = among-chosen ref_t (ref_h w.y) w.ts k in
        let t = there2 s m r w a.rest l.0 l.1.0 a.whole (subst (λ (n : List ℕ). chosen_by ref_t w.ts n ≡ some (chosen l.0 l.1.0)) c.1 l.1.1) in
        (run t.start t.end, t.range)
