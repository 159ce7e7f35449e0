-- The message that is found is the one that is named, and stands where the layout says.
use Rattle.std.specs.Prelude.{ℕ, ◌+◌, ◌≤◌, ◌≡◌, List, [], ◌++◌, Bool, true, false, cond, T, leb, length, drop, Result, Ok, Err, Some, None, Option}
use Rattle.std.proofs.Common.{arith, ap, ◌∙◌, sym, subst, append-nil, leb→le}
use Rattle.std.proofs.Math.Option.{none, some, none-ne-some}
use Rattle.syntax.proofs.ContentLaws.{plain-content}
use Rattle.syntax.specs.Content.{content, compared}
use Rattle.syntax.specs.Octets.{same}
use Rattle.syntax.specs.Service.{fit}
use Rattle.syntax.specs.Opening.{begun_of}
use Rattle.syntax.specs.Tree.{print, well}
use Rattle.syntax.proofs.TreeLaws.{and_right}
use Rattle.syntax.specs.declared.Service.{Service}
use Rattle.syntax.specs.declared.Syntax.{Syntax}
use Rattle.syntax.specs.Refusals.{refusal_at}
use Rattle.syntax.specs.declared.Breach.{Breach}
use Rattle.syntax.specs.declared.Refusal.{Refusal}
use Rattle.syntax.specs.declared.opening.Start.{Start}
use Rattle.grammar.specs.Lists.{Snoc, nil, ◌▷◌, ◌+++◌, joined, size, Rule, holds, every}
use Rattle.grammar.specs.Segments.{Unb, Unz, seg}
use Rattle.grammar.specs.Interchange.{Leaf, Message, idle, done, shown, show_message}
use Rattle.grammar.specs.Rules.{ref_m, ok_message, refs_message}
use Rattle.grammar.specs.Valid.{Interchange, interchange, Valid, syntax_in, in_force, opening_in, una_of, reading, segments, print_interchange}
use Rattle.grammar.specs.Verdict.{accepted, refused_with, verdict_of, verdict_by, una_at, read}
use Rattle.grammar.proofs.VerdictLaws.{verdict-exact}
use Rattle.grammar.specs.StartLaws.{start-printed, rest-printed, fit-in-force}
use Rattle.grammar.proofs.PlacingLaws.{regroup}
use Rattle.grammar.proofs.PairLaws.{few-headers, few-tails}
use Rattle.grammar.specs.Places.{wide, headers_in, trailers_in}
use Rattle.grammar.specs.Named.{placed, placed_in}
use Rattle.walk.specs.RunLaws.{verdict-by}
use Rattle.walk.specs.Runs.{answer_from}
use Rattle.walk.specs.declared.sections.Layout.{Layout}
use Rattle.finding.specs.Finding.{FoundIs, WholeBy, SeeksBy}
use Rattle.groups.specs.Stand.{Stand}
use Rattle.groups.specs.StandLaws.{stand-front, stand-back}
use Rattle.groups.specs.Calls.{service_in, message_in, version_by, version_in, Holds, NamedIs}
use Rattle.groups.specs.declared.calls.Opened.{Opened}
use Rattle.syntax.specs.declared.classes.Classes.{Classes}

-- ---- a message of the reading, by its 0062

pub none-some : {A B : Type 0} {a : A} → none ≡ some a → B
none-some {a = a} e = absurd (none-ne-some a e)

module _ (σ : Service) (p : ℕ) (u : Leaf) (r : List ℕ) where
  -- what holds for every message holds for it
  pub placed-every : (rule : Message → Rule) (ms : Snoc Message) {m : Message} {q : ℕ} → placed_in σ p u ms r ≡ some (placed m q) → holds (every rule ms) → holds (rule m)
  placed-every rule nil e h = none-some e
  placed-every rule (ms ▷ x) {m} {q} e h = by (same (ref_m x) r) (λ k. placed-every rule ms k h.0) e
    where
      by : (b : Bool) → (placed_in σ p u ms r ≡ some (placed m q) → holds (rule m)) → cond b (some (placed x (p + wide σ (shown (idle u ms))))) (placed_in σ p u ms r) ≡ some (placed m q) → holds (rule m)
      by true f e = let k : x ≡ m = cc in subst (λ (v : Message). holds (rule v)) k h.1
      by false f e = f e

  -- it stands where it is placed
  pub placed-stands : (s : List ℕ) (ms : Snoc Message) {m : Message} {q : ℕ} → placed_in σ p u ms r ≡ some (placed m q) → Stand σ s p (shown (idle u ms)) → Stand σ s q (show_message m)
  placed-stands s nil e w = none-some e
  placed-stands s (ms ▷ x) {m} {q} e w =
      let v : Stand σ s p (shown (idle u ms) +++ show_message x) =
      subst (Stand σ s p) (regroup (nil ▷ seg Unb u) (joined show_message ms) (show_message x)) w in
      by (same (ref_m x) r) (λ k y. placed-stands s ms k y) e v
    where
      by : (b : Bool) → (placed_in σ p u ms r ≡ some (placed m q) → Stand σ s p (shown (idle u ms)) → Stand σ s q (show_message m))
          → cond b (some (placed x (p + wide σ (shown (idle u ms))))) (placed_in σ p u ms r) ≡ some (placed m q)
          → Stand σ s p (shown (idle u ms) +++ show_message x) → Stand σ s q (show_message m)
      by true f e v =
          let k : x ≡ m = cc in
          let j : p + wide σ (shown (idle u ms)) ≡ q = cc in
          subst (λ (i : ℕ). Stand σ s i (show_message m)) j
          (subst (λ (y : Message). Stand σ s (p + wide σ (shown (idle u ms))) (show_message y)) k (stand-back σ s p (shown (idle u ms)) (show_message x) v))
      by false f e v = f e (stand-front σ s p (shown (idle u ms)) (show_message x) v)

-- ---- an interchange that was read

-- an accepted interchange is short
pub read_short : (s : List ℕ) (i : Interchange) → verdict_of s ≡ accepted i → length s ≤ 65535
read_short s i e =
    let v = (verdict-exact s i).0 e in
    let w : T (leb (length (print_interchange i)) 65535) = and_right (leb 1 (length (print_interchange i))) (leb (length (print_interchange i)) 65535) v.0.octets_right in
    let l : length (print_interchange i) ≤ 65535 = leb→le (length (print_interchange i)) 65535 w in
    omega (arith, l, ap length v.1)

-- the syntax that the octets begin with is the reading's, and its segments stand behind UNA
pub record Begin (s : List ℕ) (i : Interchange) (x : Start) : Type 0 where
  pub valid : Valid i
  pub settled : syntax_in i ≡ some x.syntax
  pub service : service_in i ≡ x.syntax.service
  pub fits : T (fit x.syntax.service)
  pub at : (opening_in (una_of i)).at ≡ x.at
  pub stands : Stand x.syntax.service s x.at (shown (reading i))

pub begins : (s : List ℕ) (i : Interchange) (x : Start) → begun_of s ≡ Ok x → verdict_of s ≡ accepted i → Begin s i x
begins s i x e d =
    let k = (verdict-exact s i).0 d in
    let v = k.0 in
    let g : ◌≡◌ {A = Result Start Breach} (Ok (record { syntax = v.y; at = (opening_in (una_of i)).at })) (Ok x) = sym (start-printed i v) ∙ ap begun_of k.1 ∙ e in
    let f : record { syntax = v.y; at = (opening_in (una_of i)).at } ≡ x = ready-one g in
    let y : v.y ≡ x.syntax = ap (λ (z : Start). z.syntax) f in
    let a : (opening_in (una_of i)).at ≡ x.at = ap (λ (z : Start). z.at) f in
    record {
      valid = v;
      settled = v.named ∙ ap some y;
      service = ap in_force v.named ∙ ap (λ (z : Syntax). z.service) y;
      fits = subst (λ (z : Syntax). T (fit z.service)) y (fit-in-force i v);
      at = a;
      stands = record {
        behind = [];
        octets =
            ap (λ (n : ℕ). drop n s) (sym a) ∙ ap (drop (opening_in (una_of i)).at) (sym k.1) ∙ rest-printed i v
            ∙ ap (λ (z : Syntax). print z.service (segments i)) y ∙ sym (append-nil (print x.syntax.service (segments i)));
        written = subst (λ (z : Syntax). T (well z.service (segments i))) y v.written;
      };
    }
  where
    ready-one : {a b : Start} → ◌≡◌ {A = Result Start Breach} (Ok a) (Ok b) → a ≡ b
    ready-one e = cc

-- ---- the message that is named

module _ (s m : List ℕ) {g : Result Start Breach} where
  pub named-refused : {f : Breach} {r : Refusal} → g ≡ begun_of s → g ≡ Err f → r ≡ refusal_at s f.number f.place
      → NamedIs s m (Err r)
  named-refused e d k = ap (verdict_by s) (sym e ∙ d) ∙ ap refused_with (sym k)

  module _ {x : Start} (e : g ≡ begun_of s) (d : g ≡ Ok x) where
    found_as : (rows : List ℕ) {r f : Result (Option Layout) Breach} → r ≡ f → FoundIs x.syntax s x.at (compared m) r rows → FoundIs x.syntax s x.at (compared m) f rows
    found_as rows k q = subst (λ (f : Result (Option Layout) Breach). FoundIs x.syntax s x.at (compared m) f rows) k q

    pub named-not-read : (rows : List ℕ) {r : Result (Option Layout) Breach} {f : Breach} {g : Refusal} → r ≡ Err f → FoundIs x.syntax s x.at (compared m) r rows
        → g ≡ refusal_at s f.number f.place → NamedIs s m (Err g)
    named-not-read rows k q h = verdict-by s e d (found_as rows k q) ∙ ap refused_with (sym h)

    pub named-missing : (rows : List ℕ) {r : Result (Option Layout) Breach} → r ≡ (Ok None) → FoundIs x.syntax s x.at (compared m) r rows → NamedIs s m (Ok None)
    named-missing rows j w =
        let q : WholeBy (Ok None) x.syntax s x.at (compared m) rows = found_as rows j w in
        let i : Interchange = interchange (una_at s) q.0 q.1 q.2 in
        let v : verdict_of s ≡ accepted i = verdict-by s e d q.3.0 in
        let b = begins s i x (sym e ∙ d) v in
        (i, (v, ap (λ (z : Service). placed_in z (opening_in (una_at s)).at q.0 q.1 (compared m)) b.service ∙ ap (λ (n : ℕ). placed_in x.syntax.service n q.0 q.1 (compared m)) b.at ∙ q.3.1))

    pub named_here : (rows : List ℕ) {c : Layout} (k : Classes) {r : Result (Option Layout) Breach} → k.syntax ≡ x.syntax → r ≡ Ok (Some c) → FoundIs x.syntax s x.at (compared m) r rows
        → NamedIs s m (Ok (Some (record { classes = k; layout = c; rows = rows })))
    named_here rows {c} k w j v =
        let q : WholeBy (Ok (Some c)) x.syntax s x.at (compared m) rows = found_as rows j v in
        subst (λ (y : Syntax). Holds s m y c rows) (sym w) (by q.0 q.1 q.2 q.3.0 q.3.1)
      where
        by : (u : Leaf) (ms : Snoc Message) (z : Leaf) → answer_from x.syntax s x.at ≡ read (done u ms z)
            → SeeksBy (Ok (Some c)) x.syntax.service s x.at (done u ms z) (compared m) rows → Holds s m x.syntax c rows
        by u ms z a k =
            let i : Interchange = interchange (una_at s) u ms z in
            let v : verdict_of s ≡ accepted i = verdict-by s e d a in
            let b = begins s i x (sym e ∙ d) v in
            let h : size (headers_in k.0) ≤ 9 = few-headers k.0 k.1 (placed-every x.syntax.service x.at u (compared m) ok_message ms k.3.0 b.valid.in_order.0) in
            let j : size (trailers_in k.0) ≤ size (headers_in k.0) = few-tails k.0 k.1 (placed-every x.syntax.service x.at u (compared m) refs_message ms k.3.0 b.valid.references.1.0) in
            record {
              i = i;
              o = k.0;
              t = k.1;
              q = k.2;
              read = v;
              settled = b.settled;
              service = b.service;
              fits = b.fits;
              named = ap (λ (z : Service). placed_in z (opening_in (una_at s)).at u ms (compared m)) b.service ∙ ap (λ (n : ℕ). placed_in x.syntax.service n u ms (compared m)) b.at ∙ k.3.0;
              laid = k.3.1;
              stands = placed-stands x.syntax.service x.at u (compared m) s ms k.3.0 (stand-front x.syntax.service s x.at (shown (idle u ms)) (nil ▷ seg Unz z) b.stands);
              ordered = placed-every x.syntax.service x.at u (compared m) ok_message ms k.3.0 b.valid.in_order.0;
              few = (omega (arith, h, k.3.1.headers), omega (arith, h, j, k.3.1.trailers), k.3.1.starts.long);
            }

-- a name that is content already
pub named-plain : (s m : List ℕ) (r : Result (Option Opened) Refusal) → NamedIs s (content 32 m) r → NamedIs s m r
named-plain s m r q = subst (λ (k : List ℕ). NamedIs s k r) (plain-content m) q

-- what is told, by the case of the answer
module _ (s m : List ℕ) {r : Result (Option Opened) Refusal} (n : NamedIs s m r) where
  pub as-here : {x : Opened} → r ≡ Ok (Some x) → Holds s m x.classes.syntax x.layout x.rows
  as-here e = subst (λ (v : Result (Option Opened) Refusal). NamedIs s m v) e n

  pub as-missing : r ≡ (Ok None) → (i : Interchange) × ((verdict_of s ≡ accepted i) × (message_in i m ≡ none))
  as-missing e = subst (λ (v : Result (Option Opened) Refusal). NamedIs s m v) e n

  pub as-refused : {f : Refusal} → r ≡ Err f → verdict_of s ≡ refused_with f
  as-refused e = subst (λ (v : Result (Option Opened) Refusal). NamedIs s m v) e n

-- the version of the message that is named is that of its interchange
pub version-so : {s m : List ℕ} {y : Syntax} {c : Layout} {rows : List ℕ} (h : Holds s m y c rows) → version_in h.i ≡ y.version
version-so h = ap version_by h.settled
