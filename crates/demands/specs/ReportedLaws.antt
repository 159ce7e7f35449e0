-- The number in a seal line of the report is how many octets the range call hands back.
use Rattle.std.specs.Prelude.{ℕ, ◌+◌, ◌-◌, ◌≡◌, List, [], ◌++◌, length}
use Rattle.std.proofs.Common.{arith, ap, ◌∙◌, sym, append_assoc, append-nil, length-append}
use Rattle.std.proofs.Math.Option.{Option}
use Rattle.std.proofs.Math.Seq.{slice}
use Rattle.syntax.specs.Octets.{octets}
use Rattle.syntax.specs.declared.Service.{Service}
use Rattle.grammar.specs.Lists.{Snoc, nil, ◌▷◌, ◌+++◌, size}
use Rattle.grammar.specs.Grams.{sum}
use Rattle.grammar.specs.Segments.{unb0020_text}
use Rattle.grammar.specs.Interchange.{Leaf, Header, Trailer, Open, msg, Message, message, idle, shown, show_header, show_body}
use Rattle.grammar.specs.Rules.{ref_h, ref_t}
use Rattle.grammar.specs.Valid.{Interchange, interchange, opening_in, una_of}
use Rattle.grammar.specs.Verdict.{accepted, loads_m}
use Rattle.grammar.specs.Places.{wide, headers_in}
use Rattle.grammar.proofs.PlacesLaws.{wide-list}
use Rattle.grammar.specs.Counted.{messages_in}
use Rattle.groups.specs.Groups.{Chosen, chosen, chosen_by}
use Rattle.syntax.specs.Content.{compared}
use Rattle.syntax.proofs.BareLaws.{compared-twice}
use Rattle.groups.specs.GroupsLaws.{chosen-among}
use Rattle.groups.specs.Parts.{header_at, trailer_at}
use Rattle.groups.specs.Calls.{given, service_in}
use Rattle.ranges.specs.Ranges.{parts, scope1_of, run, scope2_of}
use Rattle.weaving.proofs.WovenLaws.{una-length}
use Rattle.lines.specs.Words.{accepted_line, message_line, seal_line}
use Rattle.listing.specs.Listing.{written_o, written_h, type_o, to_trailer, seal_line_of, seals_of, message_of, messages_of, accepted_of, listing_by}
use Rattle.demands.specs.Stated.{unb_of, place_behind}
use Rattle.demands.specs.AskedLaws.{Asks, asks1, asks2}
use Rattle.demands.specs.GivenLaws.{stands1, tail-so, starts2, stands2}
use Rattle.demands.specs.PrintedLaws.{asked-message, scope_of}
use Rattle.demands.specs.Reported.{seal_octets, Reported, lines_to, line_of}

-- ---- the lines of a row start with those of its first part

module _ (σ : Service) (q : ℕ) (o : Open) where
  seals-front : (a b : Snoc Header) → (rest : List ℕ) × (seals_of σ q o (a +++ b) ≡ seals_of σ q o a ++ rest)
  seals-front a nil = ([], sym (append-nil (seals_of σ q o a)))
  seals-front a (b ▷ h) =
      let w = seals-front a b in
      let k : List ℕ = seal_line_of σ q o (a +++ b) h in
      (w.0 ++ k, ap (λ (l : List ℕ). l ++ k) w.1 ∙ append_assoc (seals_of σ q o a) w.0 k)

module _ (σ : Service) (p : ℕ) (u : Leaf) where
  messages-front : (a b : Snoc Message) → (rest : List ℕ) × (messages_of σ p u (a +++ b) ≡ messages_of σ p u a ++ rest)
  messages-front a nil = ([], sym (append-nil (messages_of σ p u a)))
  messages-front a (b ▷ m) =
      let w = messages-front a b in
      let k : List ℕ = message_of σ (p + wide σ (shown (idle u (a +++ b)))) m in
      (w.0 ++ k, ap (λ (l : List ℕ). l ++ k) w.1 ∙ append_assoc (messages_of σ p u a) w.0 k)

-- a message of the interchange, whose UNH stands at q
message-told : (i : Interchange) (m : Message) (before behind : Snoc Message) (q : ℕ) → messages_in i ≡ before ▷ m +++ behind → q ≡ place_behind i before
    → (rest : List ℕ) × (listing_by (accepted i) ≡ accepted_of (service_in i) (opening_in (una_of i)).at (unb_of i) before ++ (message_of (service_in i) q m ++ rest))
message-told (interchange n u ms z) m before behind q e d =
    let σ : Service = service_in (interchange n u ms z) in
    let p : ℕ = (opening_in n).at in
    let w = messages-front σ p u (before ▷ m) behind in
    let at : p + wide σ (shown (idle u before)) ≡ q = omega (arith, d, una-length n, wide-list σ (shown (idle u before))) in (
      w.0,
      ap (accepted_of σ p u) e
          ∙ ap (λ (l : List ℕ). accepted_line (unb0020_text u) ++ l) (w.1 ∙ ap (λ (j : ℕ). messages_of σ p u before ++ message_of σ j m ++ w.0) at)
          ∙ brackets (accepted_line (unb0020_text u)) (messages_of σ p u before) (message_of σ q m) w.0,
    )
  where
    brackets : (a b c d : List ℕ) → a ++ (b ++ c ++ d) ≡ a ++ b ++ (c ++ d)
    brackets a b c d = simp append_assoc

-- a header of the message
seal-told : (σ : Service) (q : ℕ) (o : Open) (t : Leaf) (before behind : Snoc Header) (h : Header) → headers_in o ≡ before ▷ h +++ behind
    → (rest : List ℕ) × (message_of σ q (message o t) ≡ message_line (written_o o) (type_o o) (size (loads_m (message o t))) (sum (loads_m (message o t))) ++ (seals_of σ q o before ++ (seal_line_of σ q o before h ++ rest)))
seal-told σ q o t before behind h e =
    let w = seals-front σ q o (before ▷ h) behind in
    let line : List ℕ = message_line (written_o o) (type_o o) (size (loads_m (message o t))) (sum (loads_m (message o t))) in
    (w.0, ap (λ (l : List ℕ). line ++ l) (ap (seals_of σ q o) e ∙ w.1 ∙ append_assoc (seals_of σ q o before) (seal_line_of σ q o before h) w.0))

-- ---- the header that a call asks for

module _ {s m r code : List ℕ} (w : Asks s m r code) where
  abbrev opened : Open
  opened = msg w.u w.hs w.b w.ts

  reported : {n : ℕ} → seal_line_of (service_in w.i) w.q opened w.ys w.y ≡ seal_octets w.y code n → Reported s m r code n
  reported {n} e =
      let of = asked-message w in
      let x = chosen-among ref_h (compared r) w.hs w.chose in
      let a = message-told w.i (message opened w.n) of.there.before of.there.behind w.q of.there.whole of.place in
      let b = seal-told (service_in w.i) w.q opened w.n w.ys x.rest w.y x.whole in
      let seals : List ℕ = seals_of (service_in w.i) w.q opened w.ys in
      record {
        of = of;
        before = w.ys;
        header = w.y;
        behind = x.rest;
        whole = x.whole;
        ref = x.ref;
        rest = b.0 ++ a.0;
        report =
            ap listing_by w.read ∙ a.1 ∙ ap (λ (l : List ℕ). lines_to of ++ (l ++ a.0)) (b.1 ∙ ap (λ (l : List ℕ). line_of of ++ (seals ++ (l ++ b.0))) e)
            ∙ brackets (lines_to of) (line_of of) seals (seal_octets w.y code n) b.0 a.0;
      }
    where
      brackets : (a b c d e f : List ℕ) → a ++ (b ++ (c ++ (d ++ e)) ++ f) ≡ a ++ (b ++ (c ++ (d ++ (e ++ f))))
      brackets a b c d e f = simp append_assoc

-- ---- scope 1

pub scope1-reported : (s m r : List ℕ) (a b c d : ℕ) → scope1_of s m r ≡ given (parts a b c d)
    → Reported s m r (octets "1") (length (slice a b s ++ slice c d s)) × (length (slice a b s ++ slice c d s) ≡ b - a + (d - c))
scope1-reported s m r a b c d e =
    let w = asks1 s m r e in
    let t = stands1 s m r w e in
    let σ : Service = service_in w.i in
    let o : Open = msg w.u w.hs w.b w.ts in
    let two : ℕ = to_trailer σ w.q o (chosen w.ys w.y) (chosen_by ref_t w.ts (compared (ref_h w.y))) in
    let l = length-append (slice a b s) (slice c d s) in
    let n : wide σ (show_header w.y) + wide σ (show_body w.b) ≡ length (slice a b s ++ slice c d s) =
    omega (arith, l, ap length t.0.octets, ap length t.1.octets, wide-list σ (show_header w.y), wide-list σ (show_body w.b)) in (
      reported w (ap (λ (k : List ℕ). seal_line (written_h w.y) k (wide σ (show_header w.y) + wide σ (show_body w.b)) two) (scope_of w) ∙ ap (seal_octets w.y (octets "1")) n),
      omega (arith, l, t.0.end, t.1.end),
    )

-- ---- scope 2

pub scope2-reported : (s m r : List ℕ) (a b : ℕ) → scope2_of s m r ≡ given (run a b)
    → Reported s m r (octets "2") (length (slice a b s)) × (length (slice a b s) ≡ b - a)
scope2-reported s m r a b e =
    let w = asks2 s m r e in
    let l = tail-so s m r w e in
    let x = chosen-among ref_h (compared r) w.hs w.chose in
    let t = stands2 s m r w x.rest l.0 l.1.0 x.whole l.1.1 e in
    let p = starts2 s m r w l.0 l.1.0 l.1.1 e in
    let σ : Service = service_in w.i in
    let o : Open = msg w.u w.hs w.b w.ts in
    let one : ℕ = wide σ (show_header w.y) + wide σ (show_body w.b) in
    let two : Option (Chosen Trailer) → ℕ = to_trailer σ w.q o (chosen w.ys w.y) in
    let k : length (slice a b s) ≡ b - a = omega (arith, t.end) in
    let n : trailer_at σ w.q o (chosen l.0 l.1.0) - header_at σ w.q o (chosen w.ys w.y) ≡ length (slice a b s) = omega (arith, p.0, p.1, k) in (
      reported w
          (ap (λ (c : List ℕ). seal_line (written_h w.y) c one (two (chosen_by ref_t w.ts (compared (ref_h w.y))))) (scope_of w)
          ∙ ap (λ (h : List ℕ). seal_octets w.y (octets "2") (two (chosen_by ref_t w.ts (compared h)))) x.ref
          ∙ ap (λ (h : List ℕ). seal_octets w.y (octets "2") (two (chosen_by ref_t w.ts h))) (compared-twice r)
          ∙ ap (λ (h : Option (Chosen Trailer)). seal_octets w.y (octets "2") (two h)) l.1.1
          ∙ ap (seal_octets w.y (octets "2")) n),
      k,
    )
