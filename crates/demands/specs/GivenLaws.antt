-- Which ranges the scope calls give, by the message and the groups that are named, and what stands there.
use Rattle.std.specs.Prelude.{ℕ, ◌+◌, ◌≡◌, refl, List, []}
use Rattle.std.proofs.Common.{arith, ap, ◌∙◌, sym, append_assoc}
use Rattle.std.proofs.Math.Option.{Option, none, some}
use Rattle.syntax.specs.Content.{compared}
use Rattle.syntax.specs.Octets.{octets}
use Rattle.syntax.specs.Tree.{Segment}
use Rattle.syntax.specs.declared.Service.{Service}
use Rattle.grammar.specs.Lists.{Snoc, nil, ◌▷◌, ◌+++◌, joined, list}
use Rattle.grammar.proofs.ListsLaws.{joined-join}
use Rattle.grammar.specs.Segments.{Unh, Unt, seg}
use Rattle.grammar.specs.Interchange.{Header, Trailer, Body, Open, msg, message, show_header, show_trailer, show_body, show_message}
use Rattle.grammar.specs.Rules.{ref_h, ref_t}
use Rattle.grammar.specs.Places.{wide}
use Rattle.grammar.proofs.PlacesLaws.{wide-join}
use Rattle.grammar.specs.Named.{placed}
use Rattle.walk.specs.Layout.{heads_at, body_at, tail_at}
use Rattle.groups.specs.Stand.{Stand}
use Rattle.groups.specs.StandLaws.{list-join, stand-front, stand-back}
use Rattle.groups.specs.Groups.{Chosen, chosen, chosen_by}
use Rattle.groups.specs.GroupsLaws.{chosen-among, chosen-stands}
use Rattle.groups.specs.Parts.{trailer_named, header_at, header_end, trailer_at}
use Rattle.groups.specs.PartsLaws.{headers-stand, body-stands}
use Rattle.groups.specs.Calls.{given, or_missing, then, service_in}
use Rattle.ranges.specs.Ranges.{parts, scope1_at, scope1_of, Run, run, scope2_at, scope2_of}
use Rattle.demands.specs.AskedLaws.{missing-given, message-stands, stand-as, Part, part, part_at, asked_of, Asks, header-in}

-- ---- scope 1

-- the header group h and the body b stand in the range that is given for the header r of the message k
pub record There1 (s k r : List ℕ) (σ : Service) (h : Header) (b : Body) : Type 0 where
  pub start : ℕ
  pub end : ℕ
  pub body : ℕ
  pub body_end : ℕ
  pub range : scope1_of s k r ≡ given (parts start end body body_end)
  pub header-part : Part σ s start end (show_header h)
  pub body-part : Part σ s body body_end (show_body b)

module _ (s k r : List ℕ) (w : Asks s k r (octets "1")) where
  range1 : let σ : Service = service_in w.i in
      let o : Open = msg w.u w.hs w.b w.ts in
      let h : Chosen Header = chosen w.ys w.y in
      scope1_of s k r ≡ given (parts (header_at σ w.q o h) (header_end σ w.q o h) (body_at σ w.q o) (tail_at σ w.q o))
  range1 =
      let σ : Service = service_in w.i in
      let o : Open = msg w.u w.hs w.b w.ts in
      asked_of s k (λ i p. scope1_at (service_in i) p r) w.i (placed (message o w.n) w.q) w.read w.named
      ∙ ap (λ (x : Option (Chosen Header)). or_missing (then x (λ h. some (parts (header_at σ w.q o h) (header_end σ w.q o h) (body_at σ w.q o) (tail_at σ w.q o)))))
      (header-in (octets "1") r w.u w.hs w.b w.ts w.chose w.scoped)

  -- where the two parts start
  pub starts1 : {a b c d : ℕ} → scope1_of s k r ≡ given (parts a b c d)
      → (a ≡ header_at (service_in w.i) w.q (msg w.u w.hs w.b w.ts) (chosen w.ys w.y)) × (c ≡ body_at (service_in w.i) w.q (msg w.u w.hs w.b w.ts))
  starts1 e = let g = sym e ∙ range1 in (cc, cc)

  pub there1 : There1 s k r (service_in w.i) w.y w.b
  there1 =
      let σ : Service = service_in w.i in
      let o : Open = msg w.u w.hs w.b w.ts in
      let st = message-stands s k w.i w.read w.named in
      record {
        start = header_at σ w.q o (chosen w.ys w.y);
        end = header_end σ w.q o (chosen w.ys w.y);
        body = body_at σ w.q o;
        body_end = tail_at σ w.q o;
        range = range1;
        header-part =
            part σ s (header_at σ w.q o (chosen w.ys w.y)) (show_header w.y)
            (chosen-stands show_header ref_h σ s [] 0 2 (compared r) (heads_at σ w.q o) w.hs w.chose (headers-stand σ s w.q w.u w.hs w.b w.ts w.n st));
        body-part = part σ s (body_at σ w.q o) (show_body w.b) (body-stands σ s w.q w.u w.hs w.b w.ts w.n st);
      }

  -- so they stand in what was given
  pub stands1 : {a b c d : ℕ} → scope1_of s k r ≡ given (parts a b c d) → Part (service_in w.i) s a b (show_header w.y) × Part (service_in w.i) s c d (show_body w.b)
  stands1 {a} {b} {c} {d} e =
      let t = there1 in
      let g : given (parts t.start t.end t.body t.body_end) ≡ given (parts a b c d) = sym t.range ∙ e in
      let ea : t.start ≡ a = cc in
      let eb : t.end ≡ b = cc in
      let ec : t.body ≡ c = cc in
      let ed : t.body_end ≡ d = cc in
      (part_at ea eb t.header-part, part_at ec ed t.body-part)

-- ---- scope 2

-- a header group, those behind it, the body, and the earlier trailers
abbrev pub run_of : Header → Snoc Header → Body → Snoc Trailer → Snoc Segment
run_of y rest b es = show_header y +++ joined show_header rest +++ show_body b +++ joined show_trailer es

-- the run within the message, in other brackets
run-list : (h A X R B E Y L T : Snoc Segment)
    → list (h +++ (A +++ X +++ R) +++ B +++ (E +++ Y +++ L) +++ T) ≡ list (h +++ A +++ (X +++ R +++ B +++ E) +++ (Y +++ L +++ T))
run-list h A X R B E Y L T =
    simp (list-join, append_assoc)

-- they stand in the run that is given for the header r of the message k
pub record There2 (s k r : List ℕ) (σ : Service) (g : Snoc Segment) : Type 0 where
  pub start : ℕ
  pub end : ℕ
  pub range : scope2_of s k r ≡ given (run start end)
  pub stands : Part σ s start end g

module _ (s k r : List ℕ) (w : Asks s k r (octets "2")) where
  range2 : (es : Snoc Trailer) (e : Trailer) → chosen_by ref_t w.ts (compared r) ≡ some (chosen es e)
      → let σ : Service = service_in w.i in
      let o : Open = msg w.u w.hs w.b w.ts in
      scope2_of s k r ≡ given (run (header_at σ w.q o (chosen w.ys w.y)) (trailer_at σ w.q o (chosen es e)))
  range2 es e l =
      let σ : Service = service_in w.i in
      let o : Open = msg w.u w.hs w.b w.ts in
      asked_of s k (λ i p. scope2_at (service_in i) p r) w.i (placed (message o w.n) w.q) w.read w.named
      ∙ ap (λ (x : Option (Chosen Header)). or_missing (then x (λ h. then (trailer_named o r) (λ x. some (run (header_at σ w.q o h) (trailer_at σ w.q o x))))))
      (header-in (octets "2") r w.u w.hs w.b w.ts w.chose w.scoped)
      ∙ ap (λ (x : Option (Chosen Trailer)). or_missing (then x (λ x. some (run (header_at σ w.q o (chosen w.ys w.y)) (trailer_at σ w.q o x))))) l

  -- where the run starts, and where it ends
  pub starts2 : (es : Snoc Trailer) (e : Trailer) → chosen_by ref_t w.ts (compared r) ≡ some (chosen es e) → {a b : ℕ} → scope2_of s k r ≡ given (run a b)
      → (a ≡ header_at (service_in w.i) w.q (msg w.u w.hs w.b w.ts) (chosen w.ys w.y))
      × (b ≡ trailer_at (service_in w.i) w.q (msg w.u w.hs w.b w.ts) (chosen es e))
  starts2 es e l q = let g = sym q ∙ range2 es e l in (cc, cc)

  pub there2 : (rest : Snoc Header) (es : Snoc Trailer) (e : Trailer) → w.hs ≡ w.ys ▷ w.y +++ rest → chosen_by ref_t w.ts (compared r) ≡ some (chosen es e)
      → There2 s k r (service_in w.i) (run_of w.y rest w.b es)
  there2 rest es e wh l =
      let σ : Service = service_in w.i in
      let o : Open = msg w.u w.hs w.b w.ts in
      let st = message-stands s k w.i w.read w.named in
      let t = chosen-among ref_t (compared r) w.ts l in
      let later : Snoc Trailer = t.rest in
      let y : Header = w.y in
      let b : Body = w.b in
      let H : Snoc Segment = nil ▷ seg Unh w.u in
      let N : Snoc Segment = nil ▷ seg Unt w.n in
      let A : Snoc Segment = joined show_header w.ys in
      let M : Snoc Segment = run_of y rest b es in
      let Z : Snoc Segment = show_trailer e +++ joined show_trailer later +++ N in
      let jh : joined show_header w.hs ≡ A +++ show_header y +++ joined show_header rest = ap (joined show_header) wh ∙ joined-join show_header (w.ys ▷ y) rest in
      let jt : joined show_trailer w.ts ≡ joined show_trailer es +++ show_trailer e +++ joined show_trailer later =
      ap (joined show_trailer) t.whole ∙ joined-join show_trailer (es ▷ e) later in
      let st2 : Stand σ s w.q (H +++ A +++ M +++ Z) =
      stand-as (show_message (message o w.n)) (H +++ A +++ M +++ Z)
      (ap (λ (x : Snoc Segment). list (H +++ x +++ show_body b +++ joined show_trailer w.ts +++ N)) jh
      ∙ ap (λ (x : Snoc Segment). list (H +++ (A +++ show_header y +++ joined show_header rest) +++ show_body b +++ x +++ N)) jt
      ∙ run-list H A (show_header y) (joined show_header rest) (show_body b) (joined show_trailer es) (show_trailer e) (joined show_trailer later) N) st in
      let st3 : Stand σ s (w.q + wide σ (H +++ A)) M = stand-back σ s w.q (H +++ A) M (stand-front σ s w.q (H +++ A +++ M) Z st2) in
      let pa : w.q + wide σ (H +++ A) ≡ header_at σ w.q o (chosen w.ys y) = omega (arith, wide-join σ H A) in
      let pb : w.q + wide σ (H +++ A) + wide σ M ≡ trailer_at σ w.q o (chosen es e) =
      omega (
        arith,
        pa,
        wide-join σ (show_header y +++ joined show_header rest +++ show_body b) (joined show_trailer es),
        wide-join σ (show_header y +++ joined show_header rest) (show_body b),
        wide-join σ (show_header y) (joined show_header rest),
        ap (wide σ) jh,
        wide-join σ (A +++ show_header y) (joined show_header rest),
        wide-join σ A (show_header y),
      ) in
      record {
        start = header_at σ w.q o (chosen w.ys y);
        end = trailer_at σ w.q o (chosen es e);
        range = range2 es e l;
        stands = part_at pa pb (part σ s (w.q + wide σ (H +++ A)) M st3);
      }

  -- the trailer of the run that is given
  pub tail-so : {a b : ℕ} → scope2_of s k r ≡ given (run a b) → (es : Snoc Trailer) × ((e : Trailer) × (chosen_by ref_t w.ts (compared r) ≡ some (chosen es e)))
  tail-so {a} {b} g =
      by (chosen_by ref_t w.ts (compared r)) refl
      (sym (asked_of s k (λ i p. scope2_at (service_in i) p r) w.i (placed (message (msg w.u w.hs w.b w.ts) w.n) w.q) w.read w.named
      ∙ ap (λ (x : Option (Chosen Header)). or_missing (then x (give (chosen_by ref_t w.ts (compared r))))) (header-in (octets "2") r w.u w.hs w.b w.ts w.chose w.scoped))
      ∙ g)
    where
      give : Option (Chosen Trailer) → Chosen Header → Option Run
      give c h =
          then c (λ x. some (run (header_at (service_in w.i) w.q (msg w.u w.hs w.b w.ts) h) (trailer_at (service_in w.i) w.q (msg w.u w.hs w.b w.ts) x)))

      by : (c : Option (Chosen Trailer)) → chosen_by ref_t w.ts (compared r) ≡ c → or_missing (give c (chosen w.ys w.y)) ≡ given (run a b)
          → (es : Snoc Trailer) × ((e : Trailer) × (chosen_by ref_t w.ts (compared r) ≡ some (chosen es e)))
      by none c e = missing-given e
      by (some (chosen es x)) c e = (es, (x, c))

  -- so the run stands in what was given
  pub stands2 : (rest : Snoc Header) (es : Snoc Trailer) (e : Trailer) → w.hs ≡ w.ys ▷ w.y +++ rest → chosen_by ref_t w.ts (compared r) ≡ some (chosen es e)
      → {a b : ℕ} → scope2_of s k r ≡ given (run a b) → Part (service_in w.i) s a b (run_of w.y rest w.b es)
  stands2 rest es e wh l {a} {b} q =
      let t = there2 rest es e wh l in
      let g : given (run t.start t.end) ≡ given (run a b) = sym t.range ∙ q in
      let ea : t.start ≡ a = cc in
      let eb : t.end ≡ b = cc in
      part_at ea eb t.stands
