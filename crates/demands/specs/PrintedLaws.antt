-- What a range call hands back is the printing of that part of the one tree.
use Rattle.std.specs.Prelude.{ℕ, ◌+◌, ◌≡◌, List}
use Rattle.std.proofs.Common.{arith}
use Rattle.syntax.specs.Content.{compared}
use Rattle.syntax.specs.Octets.{octets, same}
use Rattle.syntax.specs.Tree.{Segment}
use Rattle.syntax.specs.declared.Service.{Service}
use Rattle.grammar.specs.Lists.{Snoc, nil, ◌▷◌, ◌+++◌, joined}
use Rattle.grammar.specs.TestLaws.{passes}
use Rattle.grammar.specs.Segments.{Unh, seg}
use Rattle.grammar.specs.Interchange.{Header, msg, show_header}
use Rattle.grammar.specs.Rules.{ref_h, ref_t}
use Rattle.grammar.proofs.PlacingLaws.{same-eq}
use Rattle.grammar.specs.Places.{wide}
use Rattle.grammar.proofs.PlacesLaws.{wide-join, wide-list}
use Rattle.groups.specs.Parts.{scope_h}
use Rattle.groups.specs.GroupsLaws.{chosen-among}
use Rattle.groups.specs.Calls.{given, service_in}
use Rattle.ranges.specs.Ranges.{parts, scope1_of, run, scope2_of}
use Rattle.walk.specs.Layout.{heads_at}
use Rattle.demands.specs.Printed.{MessageOf, place_within, Scope1, Scope2}
use Rattle.demands.specs.AskedLaws.{Asks, asks1, asks2}
use Rattle.demands.specs.GivenLaws.{starts1, stands1, tail-so, starts2, stands2}
use Rattle.demands.specs.AskedForLaws.{message-of}

-- the message and the scope code that were asked for, and where its headers stand
abbrev pub asked-message : {s m r code : List ℕ} → Asks s m r code → MessageOf s m
asked-message {s} {m} w = message-of s m w.i (msg w.u w.hs w.b w.ts) w.n w.q w.read w.named

within-so : {s m r code : List ℕ} (w : Asks s m r code) (hs : Snoc Header) {a : ℕ}
    → a ≡ heads_at (service_in w.i) w.q (msg w.u w.hs w.b w.ts) + wide (service_in w.i) (joined show_header hs) → a ≡ place_within (asked-message w) hs
within-so w hs e =
    let σ : Service = service_in w.i in
    let H : Snoc Segment = nil ▷ seg Unh w.u in
    omega (arith, e, wide-join σ H (joined show_header hs), wide-list σ (H +++ joined show_header hs))

pub scope_of : {s m r code : List ℕ} (w : Asks s m r code) → scope_h w.y ≡ code
scope_of {code = code} w = same-eq (scope_h w.y) code (passes (same (scope_h w.y) code) w.scoped)

-- ---- scope 1

pub scope1-printed : (s m r : List ℕ) (a b c d : ℕ) → scope1_of s m r ≡ given (parts a b c d) → Scope1 s m r a b c d
scope1-printed s m r a b c d e =
    let w = asks1 s m r e in
    let t = stands1 s m r w e in
    let p = starts1 s m r w e in
    let x = chosen-among ref_h (compared r) w.hs w.chose in
    record {
      of = asked-message w;
      before = w.ys;
      header = w.y;
      behind = x.rest;
      whole = x.whole;
      ref = x.ref;
      scope = scope_of w;
      header-start = within-so w w.ys p.0;
      body-start = within-so w w.hs p.1;
      header-octets = t.0.octets;
      body-octets = t.1.octets;
      header-end = t.0.end;
      body_end = t.1.end;
    }

-- ---- scope 2

pub scope2-printed : (s m r : List ℕ) (a b : ℕ) → scope2_of s m r ≡ given (run a b) → Scope2 s m r a b
scope2-printed s m r a b e =
    let w = asks2 s m r e in
    let l = tail-so s m r w e in
    let x = chosen-among ref_h (compared r) w.hs w.chose in
    let z = chosen-among ref_t (compared r) w.ts l.1.1 in
    let t = stands2 s m r w x.rest l.0 l.1.0 x.whole l.1.1 e in
    record {
      of = asked-message w;
      before = w.ys;
      header = w.y;
      behind = x.rest;
      headers = x.whole;
      ref = x.ref;
      scope = scope_of w;
      earlier = l.0;
      trailer = l.1.0;
      later = z.rest;
      trailers = z.whole;
      paired = z.ref;
      start = within-so w w.ys (starts2 s m r w l.0 l.1.0 l.1.1 e).0;
      octets = t.octets;
      end = t.end;
    }
