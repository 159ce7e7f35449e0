-- The digest of a range is that of its octets; the header that sealing writes names SHA-1.
use Rattle.std.specs.Prelude.{ℕ, ◌≤◌, ◌≡◌, List, ◌++◌, Bool, true, length}
use Rattle.std.proofs.Common.{ap, ◌∙◌}
use Rattle.std.proofs.Math.Option.{Option, some}
use Rattle.std.proofs.Math.Seq.{slice}
use Rattle.syntax.specs.Content.{compared}
use Rattle.grammar.specs.Lists.{nil, ◌▷◌}
use Rattle.grammar.specs.Interchange.{Header, Trailer, msg, message}
use Rattle.grammar.specs.Rules.{ref_h}
use Rattle.grammar.specs.Named.{placed}
use Rattle.writing.specs.Written.{text}
use Rattle.groups.specs.Groups.{Chosen, chosen, chosen_by}
use Rattle.groups.specs.Calls.{Answered, given, or_missing, then, service_in, version_in, message_in}
use Rattle.ranges.specs.Ranges.{Parts, parts, Run, run}
use Rattle.weaving.specs.Seals.{new_header, new_trailer, grown, text_by}
use Rattle.sealing.specs.Sealing.{seal_of}
use Rattle.digest.specs.Digests.{first_usa, usa_at, named_by, named_in, parts_octets, run_octets, digested}
use Rattle.demands.specs.Sealed.{sealed_by, Signed}
use Rattle.demands.specs.SealedListLaws.{front, chosen-new}
use Rattle.demands.specs.SealedNumberLaws.{ref-header}
use Rattle.demands.specs.SealedMessageLaws.{May, may}
use Rattle.demands.specs.SealedAcceptedLaws.{Succeeds, succeeds, sealed-read}
use Rattle.demands.specs.SealedKeptLaws.{message-sealed}
use Rattle.demands.specs.SealedLaws.{seal-signed}
use Rattle.demands.specs.AskedLaws.{asked_of}
use Rattle.demands.specs.Digested.{OfRanges, Digested}

-- where the range is given and the header names SHA-1
parts-digest : (s : List ℕ) {n : Bool} {x : Answered Parts} {a b c d : ℕ} → x ≡ given (parts a b c d) → n ≡ true → digested n (parts_octets s x) ≡ digested true (given (slice a b s ++ slice c d s))
parts-digest s e h = rw (e, h)

run-digest : (s : List ℕ) {n : Bool} {x : Answered Run} {a b : ℕ} → x ≡ given (run a b) → n ≡ true → digested n (run_octets s x) ≡ digested true (given (slice a b s))
run-digest s e h = rw (e, h)

pub of-ranges : OfRanges
of-ranges = record {
  scope1 = λ s m r a b c d e h. parts-digest s e h;
  scope2 = λ s m r a b e h. run-digest s e h;
  f01 = λ k s m r a b e h. run-digest s e h;
  scope3 = λ k s m r a b e h. run-digest s e h;
}

-- the new header's first USA is `USA+1:::16:1`
sealed-names : (s m r : List ℕ) (f : ℕ) (v x : List ℕ) → Succeeds s m r f v x → length x ≤ 65535 → named_in x m r ≡ true
sealed-names s m r f v x w l =
    let H : Header = new_header r f in
    let R : Trailer = new_trailer (version_in w.i) (service_in w.i) r (text_by f v) in
    let a : May (version_in w.i) w.u w.hs r f = may (version_in w.i) w.u w.hs w.b w.ts r f w.may in
    let n : message_in (sealed_by w.i m r f v) m ≡ some (placed (message (msg w.u (front H w.hs) w.b (w.ts ▷ R)) (grown w.n)) w.q) = message-sealed w.i m H R w.named in
    let c : chosen_by ref_h (front H w.hs) (compared r) ≡ some (chosen nil H) = chosen-new ref_h H w.hs (compared r) (ref-header r f) a.new in
    ap named_by (asked_of x m (λ i p. usa_at p r) (sealed_by w.i m r f v) (placed (message (msg w.u (front H w.hs) w.b (w.ts ▷ R)) (grown w.n)) w.q) (sealed-read s m r f v x w l) n)
    ∙ ap (λ (o : Option (Chosen Header)). named_by (or_missing (then o first_usa))) c

pub seal-digested : (s m r : List ℕ) (f : ℕ) (v x : List ℕ) → seal_of s m r f v ≡ text x → length x ≤ 65535 → Digested s m r f x
seal-digested s m r f v x e l =
    let z : Signed s m r f x = seal-signed s m r f v x e l in
    record {
      octets = slice z.a z.b x ++ slice z.c z.d x;
      signed = z.octets;
      digest = parts-digest x z.range (sealed-names s m r f v x (succeeds s m r f v x e) l);
    }
