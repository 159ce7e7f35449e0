-- What sealing writes, octet for octet.
use Rattle.std.specs.Prelude.{ℕ, ◌+◌, ◌-◌, true, false, List, [], ◌∷◌, ◌++◌, ◌≡◌, refl, T, length}
use Rattle.std.proofs.Common.{arith, append_assoc, append-nil, ap, ◌∙◌, sym, subst, length-append}
use Rattle.std.proofs.lemmas.Bool.{false≢true}
use Rattle.std.proofs.Math.Option.{Option, some}
use Rattle.std.proofs.Math.Seq.{slice}
use Rattle.syntax.specs.Content.{compared}
use Rattle.syntax.specs.Service.{fit}
use Rattle.syntax.specs.Tree.{Segment, flat_e, spells, print_s, print}
use Rattle.syntax.proofs.TreeLaws.{print-cons}
use Rattle.syntax.specs.declared.Service.{Service}
use Rattle.syntax.specs.declared.Syntax.{Syntax}
use Rattle.grammar.specs.Lists as grammar
use Rattle.grammar.specs.Lists.{Snoc, nil, ◌▷◌, ◌+++◌, list}
use Rattle.grammar.specs.Segments.{Unb, Unh, Unt, Unz, seg, element_content, number}
use Rattle.grammar.specs.Interchange.{Leaf, Header, Trailer, Body, Open, msg, Message, message, idle, done, shown, show_header, show_trailer, show_body, show_open, show_message}
use Rattle.grammar.specs.Valid as valid
use Rattle.grammar.specs.Valid.{Interchange, interchange, in_force, opening_in, print_una, segments}
use Rattle.grammar.specs.Verdict.{accepted, verdict_of}
use Rattle.grammar.proofs.VerdictLaws.{verdict-exact}
use Rattle.grammar.proofs.PlacesLaws.{wide-list}
use Rattle.grammar.specs.Named.{placed}
use Rattle.writing.specs.Decimal.{decimal_of}
use Rattle.writing.specs.Laid.{together}
use Rattle.groups.specs.StandLaws.{list-join, print-append}
use Rattle.groups.specs.Calls.{service_in, version_in, message_in}
use Rattle.weaving.specs.Seals.{new_header, new_trailer, grown, sealed_message}
use Rattle.grammar.proofs.ListsLaws.{joined-join}
use Rattle.weaving.specs.Seals.{text_by}
use Rattle.weaving.proofs.WovenLaws.{unt_tail, unt-print, grown-print, around}
use Rattle.grammar.specs.StartLaws.{fit-in-force}
use Rattle.sealing.specs.Sealing.{seal_of}
use Rattle.writing.specs.Written as writing
use Rattle.demands.specs.Sealed.{sealed_by}
use Rattle.demands.specs.SealedAcceptedLaws.{succeeds}
use Rattle.demands.specs.AskedForLaws.{message-of}
use Rattle.demands.specs.Sewn.{Sewn}
use Rattle.weaving.proofs.WovenLaws.{cut_at, inner, una-length, unt-digits, old-parts, new-parts}

module _ (σ : Service) where
  one-print : (g : Segment) → print σ (g ∷ []) ≡ print_s σ g
  one-print g = print-cons σ g [] ∙ append-nil (print_s σ g)

  -- segments one after the other
  four-print : (g : Segment) (a b c : List Segment) (k : Segment) → print σ (g ∷ (a ++ (b ++ (c ++ k ∷ [])))) ≡ print_s σ g ++ (print σ a ++ (print σ b ++ (print σ c ++ print_s σ k)))
  four-print g a b c k =
      print-cons σ g (a ++ (b ++ (c ++ k ∷ [])))
      ∙ ap (λ (l : List ℕ). print_s σ g ++ l)
      (print-append σ a (b ++ (c ++ k ∷ []))
      ∙ ap (λ (l : List ℕ). print σ a ++ l)
      (print-append σ b (c ++ k ∷ []) ∙ ap (λ (l : List ℕ). print σ b ++ l) (print-append σ c (k ∷ []) ∙ ap (λ (l : List ℕ). print σ c ++ l) (one-print k))))

  open-print : (a : Leaf) (hs : Snoc Header) (b : Body) (ts : Snoc Trailer) → print σ (list (show_open (msg a hs b ts))) ≡ print_s σ (seg Unh a) ++ print σ (list (inner hs b ts))
  open-print a hs b ts =
      ap (print σ) (open-list (grammar.joined show_header hs) (show_body b) (grammar.joined show_trailer ts)) ∙ print-cons σ (seg Unh a) (list (inner hs b ts))
    where
      open-list : (x y z : Snoc Segment) → list (nil ▷ seg Unh a +++ x +++ y +++ z) ≡ seg Unh a ∷ list (x +++ y +++ z)
      open-list x y z = simp (list-join, append_assoc)

  message-print : (a : Leaf) (hs : Snoc Header) (b : Body) (ts : Snoc Trailer) (k : Leaf)
      → print σ (list (show_message (message (msg a hs b ts) k))) ≡ print_s σ (seg Unh a) ++ (print σ (list (inner hs b ts)) ++ print_s σ (seg Unt k))
  message-print a hs b ts k =
      print-append σ (list (show_open (msg a hs b ts))) (seg Unt k ∷ [])
      ∙ ap (λ (l : List ℕ). l ++ print σ (seg Unt k ∷ [])) (open-print a hs b ts)
      ∙ ap (λ (l : List ℕ). print_s σ (seg Unh a) ++ print σ (list (inner hs b ts)) ++ l) (one-print (seg Unt k))
      ∙ append_assoc (print_s σ (seg Unh a)) (print σ (list (inner hs b ts))) (print_s σ (seg Unt k))

  sealed-print : (h : Header) (t : Trailer) (a : Leaf) (hs : Snoc Header) (b : Body) (ts : Snoc Trailer) (k : Leaf)
      → print σ (list (show_message (sealed_message h t (message (msg a hs b ts) k))))
      ≡ print_s σ (seg Unh a) ++ (print σ (list (show_header h)) ++ (print σ (list (inner hs b ts)) ++ (print σ (list (show_trailer t)) ++ print_s σ (seg Unt (grown k)))))
  sealed-print h t a hs b ts k =
      ap (λ (x : Snoc Segment). print σ (list (nil ▷ seg Unh a +++ x +++ show_body b +++ (grammar.joined show_trailer ts +++ show_trailer t)) ++ seg Unt (grown k) ∷ [])) (joined-join show_header (nil ▷ h) hs)
      ∙ ap (print σ) (sealed-list (show_header h) (grammar.joined show_header hs) (show_body b) (grammar.joined show_trailer ts) (show_trailer t) (seg Unt (grown k)))
      ∙ four-print (seg Unh a) (list (show_header h)) (list (inner hs b ts)) (list (show_trailer t)) (seg Unt (grown k))
    where
      sealed-list : (w x y z v : Snoc Segment) (g : Segment)
          → list (nil ▷ seg Unh a +++ (nil +++ w +++ x) +++ y +++ (z +++ v)) ++ g ∷ [] ≡ seg Unh a ∷ (list w ++ (list (x +++ y +++ z) ++ (list v ++ g ∷ [])))
      sealed-list w x y z v g = simp (list-join, append_assoc)

  -- all of an interchange, around a message
  whole-print : (u : Leaf) (before : Snoc Message) (m : Message) (after : Snoc Message) (z : Leaf)
      → print σ (list (shown (done u (before ▷ m +++ after) z)))
      ≡ print σ (list (shown (idle u before))) ++ (print σ (list (show_message m)) ++ print σ (list (grammar.joined show_message after ▷ seg Unz z)))
  whole-print u before m after z =
      ap (λ (x : Snoc Segment). print σ (list (nil ▷ seg Unb u +++ x ▷ seg Unz z))) (joined-join show_message (before ▷ m) after)
      ∙ ap (print σ) (whole-list (grammar.joined show_message before) (show_message m) (grammar.joined show_message after))
      ∙ print-append σ (list (shown (idle u before))) (list (show_message m) ++ list (grammar.joined show_message after ▷ seg Unz z))
      ∙ ap (λ (l : List ℕ). print σ (list (shown (idle u before))) ++ l) (print-append σ (list (show_message m)) (list (grammar.joined show_message after ▷ seg Unz z)))
    where
      whole-list : (x y w : Snoc Segment) → list (nil ▷ seg Unb u +++ (x +++ y +++ w) ▷ seg Unz z) ≡ list (nil ▷ seg Unb u +++ x) ++ (list y ++ list (w ▷ seg Unz z))
      whole-list x y w = simp (list-join, append_assoc)

-- ---- octets that are made of parts

record Cuts (Q W B U E X s : List ℕ) (q : ℕ) : Type 0 where
  pub behind : ℕ
  pub unt : ℕ
  pub count : ℕ
  pub count-end : ℕ
  pub front : slice 0 behind s ≡ Q ++ W
  pub unh : slice q behind s ≡ W
  pub inside : slice behind unt s ≡ B
  pub tag : slice unt count s ≡ U
  pub number : slice count count-end s ≡ E
  pub rest : slice count-end (length s) s ≡ X

cuts : (Q W B U E X s : List ℕ) (q : ℕ) → s ≡ Q ++ W ++ (B ++ (U ++ (E ++ X))) → q ≡ length Q → Cuts Q W B U E X s q
cuts Q W B U E X s q is q-is =
    let A : List ℕ = Q ++ W in
    let a : length (Q ++ W) ≡ length Q + length W = length-append Q W in
    let b : length (Q ++ W ++ B) ≡ length Q + length W + length B = omega (arith, length-append (Q ++ W) B, a) in
    let c : length (Q ++ W ++ B ++ U) ≡ length Q + length W + length B + length U = omega (arith, length-append (Q ++ W ++ B) U, b) in
    let d : length (Q ++ W ++ B ++ U ++ E) ≡ length Q + length W + length B + length U + length E = omega (arith, length-append (Q ++ W ++ B ++ U) E, c) in
    let z : length s ≡ length (Q ++ W ++ B ++ U ++ E) + length X = ap length (is ∙ whole) ∙ length-append (Q ++ W ++ B ++ U ++ E) X in
    record {
      behind = length Q + length W;
      unt = length Q + length W + length B;
      count = length Q + length W + length B + length U;
      count-end = length Q + length W + length B + length U + length E;
      front = cut_at [] (Q ++ W) (B ++ (U ++ (E ++ X))) s 0 (length Q + length W) is refl (omega (arith, a));
      unh = cut_at Q W (B ++ (U ++ (E ++ X))) s q (length Q + length W) (is ∙ append_assoc Q W (B ++ (U ++ (E ++ X)))) q-is refl;
      inside = cut_at (Q ++ W) B (U ++ (E ++ X)) s (length Q + length W) (length Q + length W + length B) is (sym a) (omega (arith, a));
      tag = cut_at (Q ++ W ++ B) U (E ++ X) s (length Q + length W + length B) (length Q + length W + length B + length U) (is ∙ sym (append_assoc (Q ++ W) B (U ++ (E ++ X)))) (sym b) (omega (arith, b));
      number =
          cut_at (Q ++ W ++ B ++ U) E X s (length Q + length W + length B + length U) (length Q + length W + length B + length U + length E) (is ∙ third) (sym c) (omega (arith, c));
      rest = cut_at (Q ++ W ++ B ++ U ++ E) X [] s (length Q + length W + length B + length U + length E) (length s) (is ∙ fourth) (sym d) z;
    }
  where
    whole : Q ++ W ++ (B ++ (U ++ (E ++ X))) ≡ Q ++ W ++ B ++ U ++ E ++ X
    whole = simp append_assoc

    third : Q ++ W ++ (B ++ (U ++ (E ++ X))) ≡ Q ++ W ++ B ++ U ++ (E ++ X)
    third = simp append_assoc

    fourth : Q ++ W ++ (B ++ (U ++ (E ++ X))) ≡ Q ++ W ++ B ++ U ++ E ++ (X ++ [])
    fourth = simp (append_assoc, append-nil)

put_back : (H T N : List ℕ) {a a' b b' c c' d d' x : List ℕ} → x ≡ a ++ (H ++ (b ++ (T ++ (c ++ (N ++ d))))) → a' ≡ a → b' ≡ b → c' ≡ c → d' ≡ d → x ≡ a' ++ (H ++ (b' ++ (T ++ (c' ++ (N ++ d')))))
put_back H T N e i j k l = cc

module _ (s m r : List ℕ) (f : ℕ) (v x : List ℕ) where
  sewn-by : (i : Interchange) (o : Open) (k : Leaf) (q : ℕ) → verdict_of s ≡ accepted i → message_in i m ≡ some (placed (message o k) q) → valid.print_interchange (sealed_by i m r f v) ≡ x → Sewn s m r f v x
  sewn-by i o [] q e named px = absurd (false≢true (unt-digits s m i o [] q e named))
  sewn-by (interchange n u ms z) (msg a hs b ts) (x0 ∷ es) q e named px =
      let i : Interchange = interchange n u ms z in
      let σ : Service = service_in (interchange n u ms z) in
      let M : Message = message (msg a hs b ts) (x0 ∷ es) in
      let h : Header = new_header r f in
      let g : Trailer = new_trailer (version_in (interchange n u ms z)) (service_in (interchange n u ms z)) r (text_by f v) in
      let w = (verdict-exact s (interchange n u ms z)).0 e in
      let fits : T (fit (service_in (interchange n u ms z))) = subst (λ (y : Option Syntax). T (fit (in_force y))) (sym w.0.named) (fit-in-force (interchange n u ms z) w.0) in
      let y = around σ (opening_in n).at u h g (compared m) ms named in
      let P : List ℕ = print_una n in
      let I : List ℕ = print σ (list (shown (idle u y.before))) in
      let W : List ℕ = print_s σ (seg Unh a) in
      let B : List ℕ = print σ (list (inner hs b ts)) in
      let U : List ℕ = 85 ∷ 78 ∷ 84 ∷ σ.element ∷ [] in
      let E : List ℕ = spells σ (flat_e x0) in
      let R : List ℕ = unt_tail σ s 0 fits es in
      let D : List ℕ = print σ (list (grammar.joined show_message y.after ▷ seg Unz z)) in
      let H : List ℕ = print σ (list (show_header h)) in
      let G : List ℕ = print σ (list (show_trailer g)) in
      let N : List ℕ = decimal_of (number (x0 ∷ es) 1 + 4) in
      let is : s ≡ P ++ (I ++ W) ++ (B ++ (U ++ (E ++ (R ++ D)))) =
      sym w.1 ∙ ap (λ (l : Snoc Message). P ++ print σ (list (shown (done u l z)))) y.was
      ∙ ap (λ (l : List ℕ). P ++ l) (whole-print σ u y.before M y.after z)
      ∙ ap (λ (l : List ℕ). P ++ (I ++ (l ++ D))) (message-print σ a hs b ts (x0 ∷ es) ∙ ap (λ (l : List ℕ). W ++ (B ++ l)) (unt-print σ s 0 fits x0 es))
      ∙ old-parts P I W B U E R D in
      let out : valid.print_interchange (sealed_by i m r f v) ≡ P ++ (I ++ W) ++ (H ++ (B ++ (G ++ (U ++ (N ++ (R ++ D)))))) =
      ap (λ (l : Snoc Message). P ++ print σ (list (shown (done u l z)))) y.becomes
      ∙ ap (λ (l : List ℕ). P ++ l) (whole-print σ u y.before (sealed_message h g M) y.after z)
      ∙ ap (λ (l : List ℕ). P ++ (I ++ (l ++ D))) (sealed-print σ h g a hs b ts (x0 ∷ es) ∙ ap (λ (l : List ℕ). W ++ (H ++ (B ++ (G ++ l)))) (grown-print σ s 0 fits x0 es N))
      ∙ new-parts P I W H B G U N R D in
      let pl : q ≡ length (P ++ I) = omega (arith, y.place, length-append P I, una-length n, wide-list σ (shown (idle u y.before))) in
      let c = cuts (P ++ I) W B U E (R ++ D) s q (is ∙ ap (λ (l : List ℕ). l ++ (B ++ (U ++ (E ++ (R ++ D))))) (sym (append_assoc P I W))) pl in
      record {
        of = message-of s m (interchange n u ms z) (msg a hs b ts) (x0 ∷ es) q e named;
        behind = c.behind;
        unt = c.unt;
        count = c.count;
        count-end = c.count-end;
        unh-octets = c.unh ∙ sym (one-print σ (seg Unh a));
        inside-octets = c.inside;
        unt-octets = c.tag;
        first = x0;
        others = es;
        elements = refl;
        count-octets = c.number;
        octets = put_back H G N (sym px ∙ out) (c.front ∙ append_assoc P I W) c.inside c.tag c.rest;
      }

  pub sewn : seal_of s m r f v ≡ writing.text x → Sewn s m r f v x
  sewn e = let w = succeeds s m r f v x e in sewn-by w.i (msg w.u w.hs w.b w.ts) w.n w.q w.read w.named w.printed
