-- A value is given exactly where the seal has a text that its filter reads.
use Rattle.std.specs.Prelude.{ℕ, ◌≡◌, refl, List, [], ◌↔◌, Bool, true, false, cond}
use Rattle.std.proofs.Common.{arith, ap, ◌∙◌, sym, subst}
use Rattle.std.proofs.Math.Option.{Option, none, some}
use Rattle.syntax.specs.Content.{compared}
use Rattle.syntax.specs.declared.Version.{Version}
use Rattle.grammar.specs.Segments.{usy0560}
use Rattle.grammar.specs.Lists.{Snoc, holds}
use Rattle.grammar.specs.Interchange.{Leaf, Header, Trailer, trailer, Body, Open, msg, Message, message}
use Rattle.grammar.specs.Rules.{autack, ref_h, ref_t, ref_m, refs_message}
use Rattle.grammar.specs.Valid.{Interchange, Valid}
use Rattle.grammar.specs.Verdict.{accepted, verdict_of}
use Rattle.grammar.proofs.VerdictLaws.{verdict-exact}
use Rattle.grammar.specs.Counted.{messages_in}
use Rattle.grammar.specs.Named.{Placed, placed}
use Rattle.spans.specs.Span.{autack_m}
use Rattle.writing.specs.Written.{Text, text, no_text}
use Rattle.values.specs.Filters.{value_by, or_bad}
use Rattle.groups.specs.Parts.{scope_h}
use Rattle.groups.specs.Groups.{Chosen, chosen, chosen_by}
use Rattle.groups.specs.Links.{Tie, tie, tie_in}
use Rattle.groups.specs.Calls.{given, answered_by, then, version_in, message_in}
use Rattle.groups.specs.CallsLaws.{none-some}
use Rattle.values.specs.Values.{filter_h, behind, trailer_text, usy_text, link_text, value_text, filtered, or_no_header, value_at, answered, value_of}
use Rattle.demands.specs.SealedAcceptedLaws.{no_text_lem}
use Rattle.demands.specs.AskedLaws.{given_so, then-so, asked_of}
use Rattle.demands.specs.SealedAcceptedLaws.{answered-text}
use Rattle.demands.specs.Stated.{In, headers_of, HasHeader}
use Rattle.demands.specs.OnceLaws.{chosen-once, chosen-in}
use Rattle.demands.specs.AskedForLaws.{message-in, message-at, refs-of}
use Rattle.demands.specs.TiedLaws.{tie-so, tie_there}
use Rattle.demands.specs.Valued.{AfterUst, OnUsy, SealText, Valued}

-- ---- the text of the seal

module _ (ν : Version) (u : Leaf) (hs : Snoc Header) (b : Body) (ts : Snoc Trailer) (n : Leaf) (r : List ℕ) where
  -- a filter that reads it reads no empty text, so there is one
  text-so : (code v : List ℕ) → value_by ν code (value_text ν (msg u hs b ts) r) ≡ some v → SealText ν (autack u) (message (msg u hs b ts) n) r (value_text ν (msg u hs b ts) r)
  text-so code v e = by (autack u) e
    where
      linked : (o : Option Tie) → tie_in b r ≡ o → value_by ν code (usy_text ν o) ≡ some v → OnUsy ν (message (msg u hs b ts) n) r (usy_text ν o)
      linked none d e = none-some e
      linked (some (tie x y)) d e = let w = tie-so b r d in record { tied = w.0; is = ap (usy0560 ν) w.1.1 }

      trailed : (o : Option (Chosen Trailer)) → chosen_by ref_t ts (compared r) ≡ o → value_by ν code (behind ν o) ≡ some v → AfterUst ν (message (msg u hs b ts) n) r (behind ν o)
      trailed none d e = none-some e
      trailed (some (chosen ys (trailer c none))) d e = none-some e
      trailed (some (chosen ys (trailer c (some k)))) d e = let w = chosen-in ref_t (compared r) ts d in record { ust = c; usr = k; there = w.0; ref = w.1; is = refl }

      by : (c : Bool) → value_by ν code (cond c (link_text ν b r) (trailer_text ν (msg u hs b ts) r)) ≡ some v
          → SealText ν c (message (msg u hs b ts) n) r (cond c (link_text ν b r) (trailer_text ν (msg u hs b ts) r))
      by true e = linked (tie_in b r) refl e
      by false e = trailed (chosen_by ref_t ts (compared r)) refl e

  text_of : (t : List ℕ) → holds (refs_message (message (msg u hs b ts) n)) → SealText ν (autack u) (message (msg u hs b ts) n) r t → value_text ν (msg u hs b ts) r ≡ t
  text_of t q w = by (autack u) w
    where
      by : (c : Bool) → SealText ν c (message (msg u hs b ts) n) r t → cond c (link_text ν b r) (trailer_text ν (msg u hs b ts) r) ≡ t
      by true w = ap (usy_text ν) (tie_there b r w.tied) ∙ w.is
      by false w = ap (behind ν) (chosen-once ref_t (compared r) w.there w.ref q.0.1.1.0) ∙ w.is

-- ---- the call

module _ (s m r v : List ℕ) where
  value-at : (i : Interchange) (p : Placed) → verdict_of s ≡ accepted i → message_in i m ≡ some p → value_at (version_in i) p r ≡ text v → Valued s m r v
  value-at i (placed (message (msg u hs b ts) n) q) d k e = by (chosen_by ref_h hs (compared r)) refl e
    where
      by : (o : Option (Chosen Header)) → chosen_by ref_h hs (compared r) ≡ o → or_no_header (version_in i) o (value_text (version_in i) (msg u hs b ts) r) ≡ text v → Valued s m r v
      by none c e = no_text_lem e
      by (some (chosen ys y)) c e = each (value_by (version_in i) (filter_h y) (value_text (version_in i) (msg u hs b ts) r)) refl e
        where
          each : (o : Option (List ℕ)) → value_by (version_in i) (filter_h y) (value_text (version_in i) (msg u hs b ts) r) ≡ o → or_bad o ≡ text v → Valued s m r v
          each none j e = no_text_lem e
          each (some z) j e =
              let x = message-in i m k in
              let w = chosen-in ref_h (compared r) hs c in
              let g : z ≡ v = cc in
              record {
                code = scope_h y;
                has = record { i = i; read = d; of = message (msg u hs b ts) n; there = x.0; name = x.1.0; header = y; within = w.0; ref = w.1; scope = refl };
                t = value_text (version_in i) (msg u hs b ts) r;
                stands = text-so (version_in i) u hs b ts n r (filter_h y) z j;
                reads = j ∙ ap some g;
              }

  value-so : value_of s m r ≡ text v → Valued s m r v
  value-so e =
      let ask : Interchange → Option Text = λ i. then (message_in i m) (λ p. some (value_at (version_in i) p r)) in
      let g = given_so s ask (text v) (answered-text (answered_by (verdict_of s) ask) e) in
      let t = then-so (message_in g.i m) (λ p. some (value_at (version_in g.i) p r)) (text v) g.gave in
      value-at g.i t.a g.read t.first (some_one t.second)
    where
      some_one : {a b : Text} → some a ≡ some b → a ≡ b
      some_one e = cc

  value-of : Valued s m r v → value_of s m r ≡ text v
  value-of w = by w.has.of w.has.there w.has.name w.has.within w.stands
    where
      i : Interchange
      i = w.has.i

      valid : Valid w.has.i
      valid = ((verdict-exact s w.has.i).0 w.has.read).0

      by : (x : Message) → In x (messages_in w.has.i) → ref_m x ≡ compared m → In w.has.header (headers_of x) → SealText (version_in w.has.i) (autack_m x) x r w.t → value_of s m r ≡ text v
      by (message (msg u hs b ts) n) g e c t =
          let k = message-at w.has.i m valid g e in
          let q = refs-of w.has.i valid g in
          ap answered (asked_of s m (λ i p. some (value_at (version_in i) p r)) w.has.i (placed (message (msg u hs b ts) n) k.0) w.has.read k.1)
          ∙ ap (λ (o : Option (Chosen Header)). or_no_header (version_in w.has.i) o (value_text (version_in w.has.i) (msg u hs b ts) r)) (chosen-once ref_h (compared r) c w.has.ref q.0.0)
          ∙ ap (λ (x : List ℕ). or_bad (value_by (version_in w.has.i) (filter_h w.has.header) x)) (text_of (version_in w.has.i) u hs b ts n r w.t q t)
          ∙ ap or_bad w.reads

  pub value-given : (value_of s m r ≡ text v) ↔ Valued s m r v
  value-given = (value-so, value-of)
