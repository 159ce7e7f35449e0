-- What the code lays is the printing of the sealed interchange.
use Prim.Native.Nat.{ℕ, ◌+◌, ◌-◌, ◌<◌}
use Rattle.std.proofs.Common.{arith, ◌∙◌, drop-drop}
use Rattle.std.specs.Prelude.{Bool, true, false, cond, ◌&&◌, ◌≡◌, T, take, drop, Option, Some, None}
use Rattle.std.proofs.lemmas.Bool.{false≢true}
use mathlib.Core.List.{List, [], ◌∷◌, ◌++◌, append_assoc, append-nil}
use Rattle.std.proofs.Math.Option.{Option as Maybe, none, some}
use Rattle.std.proofs.Math.Path.{refl, ap, sym, subst}
use Rattle.std.proofs.Math.ListN.{length, length-append}
use Rattle.std.proofs.Math.Seq.{slice, take-append_seam, drop-append_seam}
use Rattle.syntax.specs.Octets.{same, within}
use Rattle.syntax.specs.Service.{fit}
use Rattle.syntax.specs.Content.{content, all_digits, value_from, compared}
use Rattle.syntax.specs.Scanning.{number_in}
use Rattle.syntax.specs.Cutting.{stop_from}
use Rattle.syntax.proofs.CuttingLaws.{slice-take}
use Rattle.syntax.specs.Segment.{component_at, part_of}
use Rattle.syntax.specs.Tree.{Element, Segment, Octet, plain, freed, Symbol, tok, elem, term, flat_e, each, spells, print_s, print}
use Rattle.syntax.proofs.TreeLaws.{and_left, and_right, sym_kind, Reads, All, all_left, all_e, ok-reads, well-reads, spells-append, print-cons, pass}
use Rattle.syntax.specs.declared.Service.{Service}
use Rattle.syntax.specs.declared.Syntax.{Syntax}
use Rattle.syntax.specs.declared.Version.{Version}
use Rattle.grammar.specs.Lists as grammar
use Rattle.grammar.specs.Lists.{Snoc, nil, ◌▷◌, ◌+++◌, list, Rule, holds, every}
use Rattle.grammar.specs.Segments.{Unb, Unh, Unt, Unz, seg, element_content, number, Asked, asked}
use Rattle.grammar.specs.Elements.{digits, in_range, formed}
use Rattle.grammar.specs.Interchange.{Leaf, Header, Trailer, Body, Open, msg, Message, message, idle, done, shown, show_header, show_trailer, show_body, show_open, show_message}
use Rattle.grammar.specs.Rules.{ref_m, formed_s}
use Rattle.grammar.specs.Valid.{Una, una, Interchange, interchange, opening_in, print_una}
use Rattle.grammar.specs.Verdict.{accepted, verdict_of}
use Rattle.grammar.proofs.VerdictLaws.{verdict-exact}
use Rattle.grammar.specs.TestLaws.{is_true}
use Rattle.grammar.specs.Places.{wide}
use Rattle.grammar.proofs.PlacesLaws.{wide-list}
use Rattle.grammar.specs.Named.{placed, placed_in}
use Rattle.elements.specs.AmountsLaws.{tens-below, digits-below}
use Rattle.message.specs.StepsLaws.{six-is}
use Rattle.walk.specs.Layout.{body_at}
use Rattle.walk.specs.Sections.{PartsLie}
use Rattle.walk.specs.declared.sections.Layout.{Layout}
use Rattle.writing.specs.Decimal.{decimal_of}
use Rattle.writing.specs.Laid.{together}
use Rattle.groups.specs.Stand.{Stand}
use Rattle.groups.specs.StandLaws.{list-join, print-append, stand-back, stand-asked, stand-slice}
use Rattle.groups.specs.PartsLaws.{body-stands}
use Rattle.groups.specs.Calls.{service_in, version_in, message_in, Holds}
use Rattle.groups.specs.CallsLaws.{placed-every, version-so}
use Rattle.weaving.specs.Seals.{single, new_header, new_trailer, grown, sealed_message, sealed_in, signed_text, sealed_text}
use Rattle.weaving.specs.Woven.{header_text, trailer_text, count_by, count_at, end_by, count_end, octets_pieces, sealed_pieces}
use Rattle.weaving.specs.PiecesLaws.{segment-print, single-print}
use Rattle.grammar.proofs.ListsLaws.{every-right, every-joined, joined-join}

-- ---- UNT: its count, and where that ends

module _ (σ : Service) (s : List ℕ) (p : ℕ) (f : T (fit σ)) where
  pub count_at_lem : (k : Leaf) → Stand σ s p (nil ▷ seg Unt k) → in_range (digits 1 6) (element_content k 1 0) ≡ true → count_at σ s p ≡ number k 1 + 4
  count_at_lem k w h =
      ap (λ (x : List ℕ). count_by (number_in x)) (ap (λ (x : Asked). x.text 1 0) (stand-asked σ s p f (seg Unt k) w)) ∙ ap count_by (six-is (element_content k 1 0) h)

  -- what stands behind 0074 in UNT
  abbrev pub unt_tail : List Element → List ℕ
  unt_tail es = spells σ (each elem flat_e es) ++ σ.terminator ∷ []

  tail-stops : (es : List Element) (r : List ℕ) (a : ℕ) → stop_from σ 4 false (unt_tail es ++ r) a ≡ Some a
  tail-stops [] r a = rw (ok-reads σ f term tt)
  tail-stops (e ∷ es) r a = rw (ok-reads σ f elem tt)

  below : (e : Element) → All (λ (y : Symbol). sym_kind y < 4) (flat_e e)
  below = all_e (λ (y : Symbol). sym_kind y < 4) octet (omega arith) (omega arith)
    where
      octet : (t : Octet) → sym_kind (tok t) < 4
      octet (plain b) = omega arith
      octet (freed b) = omega arith

  pub unt-print : (e : Element) (es : List Element) → print_s σ (seg Unt (e ∷ es)) ≡ 85 ∷ 78 ∷ 84 ∷ σ.element ∷ (spells σ (flat_e e) ++ unt_tail es)
  unt-print e es =
      segment-print σ 85 78 84 (e ∷ es)
      ∙ ap (λ (l : List ℕ). 85 ∷ 78 ∷ 84 ∷ σ.element ∷ (l ++ σ.terminator ∷ [])) (spells-append σ (flat_e e) (each elem flat_e es))
      ∙ ap (λ (l : List ℕ). 85 ∷ 78 ∷ 84 ∷ σ.element ∷ l) (append_assoc (spells σ (flat_e e)) (spells σ (each elem flat_e es)) (σ.terminator ∷ []))

  pub grown-print : (e : Element) (es : List Element) (d : List ℕ) → print_s σ (seg Unt (single d ∷ es)) ≡ 85 ∷ 78 ∷ 84 ∷ σ.element ∷ (d ++ unt_tail es)
  grown-print e es d =
      segment-print σ 85 78 84 (single d ∷ es)
      ∙ ap (λ (l : List ℕ). 85 ∷ 78 ∷ 84 ∷ (l ++ σ.terminator ∷ [])) (single-print σ d es)
      ∙ ap (λ (l : List ℕ). 85 ∷ 78 ∷ 84 ∷ σ.element ∷ l) (append_assoc d (spells σ (each elem flat_e es)) (σ.terminator ∷ []))

  pub count-end : (e : Element) (es : List Element) → Stand σ s p (nil ▷ seg Unt (e ∷ es)) → count_end σ s p ≡ p + 4 + length (spells σ (flat_e e))
  count-end e es w =
      let reads : All (Reads σ) (flat_e e) =
      all_left (Reads σ) (flat_e e) (each elem flat_e es)
      (all_left (Reads σ) (flat_e e ++ each elem flat_e es) (term ∷ [])
      (all_left (Reads σ) (flat_e e ++ each elem flat_e es ++ term ∷ []) [] (well-reads σ f (seg Unt (e ∷ es) ∷ []) w.written).1.1.1.1)) in
      let o : drop p s ≡ 85 ∷ 78 ∷ 84 ∷ σ.element ∷ (spells σ (flat_e e) ++ unt_tail es ++ w.behind) =
      w.octets ∙ ap (λ (l : List ℕ). l ++ w.behind) (print-cons σ (seg Unt (e ∷ es)) [] ∙ append-nil (print_s σ (seg Unt (e ∷ es))) ∙ unt-print e es) in
      let d : drop (p + 4) s ≡ spells σ (flat_e e) ++ (unt_tail es ++ w.behind) =
      sym (drop-drop 4 p s) ∙ ap (drop 4) o ∙ append_assoc (spells σ (flat_e e)) (unt_tail es) w.behind in
      ap (λ (l : List ℕ). end_by s (stop_from σ 4 false l (p + 4))) d
      ∙ ap (end_by s)
      (pass σ 4 (omega arith) (flat_e e) (unt_tail es ++ w.behind) (p + 4) reads (below e) ∙ tail-stops es w.behind (p + 4 + length (spells σ (flat_e e))))

-- ---- rules on single segments hold for UNT

unt-formed : (y : Version) (k : Leaf) → T (formed y (asked (seg Unt k))) → in_range (digits 1 6) (element_content k 1 0) ≡ true
unt-formed y k h = let w : T (in_range (digits 1 6) (element_content k 1 0)) = search (and_left, and_right) in is_true (in_range (digits 1 6) (element_content k 1 0)) w

-- ---- the message that is found, among the others

pub record Around (σ : Service) (p : ℕ) (u : Leaf) (h : Header) (t : Trailer) (r : List ℕ) (ms : Snoc Message) (m : Message) (q : ℕ) : Type 0 where
  pub before : Snoc Message
  pub after : Snoc Message
  pub was : ms ≡ before ▷ m +++ after
  pub becomes : sealed_in h t ms r ≡ before ▷ sealed_message h t m +++ after
  pub place : q ≡ p + wide σ (shown (idle u before))

module _ (σ : Service) (p : ℕ) (u : Leaf) (h : Header) (t : Trailer) (r : List ℕ) where
  pub around : (ms : Snoc Message) {m : Message} {q : ℕ} → placed_in σ p u ms r ≡ some (placed m q) → Around σ p u h t r ms m q
  around nil e = let z : ◌≡◌ {A = ℕ} 0 1 = cc in absurd (omega arith)
  around (ms ▷ x) {m} {q} e = by (same (ref_m x) r) refl (around ms) e
    where
      by : (b : Bool) → same (ref_m x) r ≡ b → (placed_in σ p u ms r ≡ some (placed m q) → Around σ p u h t r ms m q)
          → cond b (some (placed x (p + wide σ (shown (idle u ms))))) (placed_in σ p u ms r) ≡ some (placed m q) → Around σ p u h t r (ms ▷ x) m q
      by true d f e =
          let k : x ≡ m = cc in
          let j : p + wide σ (shown (idle u ms)) ≡ q = cc in
          record {
            before = ms;
            after = nil;
            was = ap (λ (z : Message). ms ▷ z) k;
            becomes = ap (λ (b : Bool). cond b (ms ▷ sealed_message h t x) (sealed_in h t ms r ▷ x)) d ∙ ap (λ (z : Message). ms ▷ sealed_message h t z) k;
            place = sym j;
          }
      by false d f e =
          let w = f e in
          record {
            before = w.before;
            after = w.after ▷ x;
            was = ap (λ (z : Snoc Message). z ▷ x) w.was;
            becomes = ap (λ (b : Bool). cond b (ms ▷ sealed_message h t x) (sealed_in h t ms r ▷ x)) d ∙ ap (λ (z : Snoc Message). z ▷ x) w.becomes;
            place = w.place;
          }

-- ---- octets that are made of parts

pub cut_at : (a x z s : List ℕ) (p q : ℕ) → s ≡ a ++ (x ++ z) → p ≡ length a → q ≡ length a + length x → slice p q s ≡ x
cut_at a x z s p q e i j =
    let n : q - p ≡ length x = omega (arith, i, j) in
    slice-take p q s ∙ ap (λ (k : ℕ). take k (drop p s)) n ∙ ap (λ (k : ℕ). take (length x) (drop k s)) i ∙ ap (λ (l : List ℕ). take (length x) (drop (length a) l)) e
    ∙ ap (take (length x)) (drop-append_seam a (x ++ z)) ∙ take-append_seam x z

module _ (A B U E X s : List ℕ) (h u e : ℕ) (is : s ≡ A ++ (B ++ (U ++ (E ++ X)))) (h-is : h ≡ length A) (u-is : u ≡ length A + length B) (four : length U ≡ 4)
    (e-is : e ≡ u + 4 + length E) where
  assembled : (H T N : List ℕ) → together (slice 0 h s ∷ H ∷ slice h u s ∷ T ∷ together (slice u (u + 4) s ∷ N ∷ slice e (length s) s ∷ []) ∷ []) ≡ A ++ (H ++ (B ++ (T ++ (U ++ (N ++ X)))))
  assembled H T N =
      let c1 : slice 0 h s ≡ A = cut_at [] A (B ++ (U ++ (E ++ X))) s 0 h is refl (omega (arith, h-is)) in
      let c2 : slice h u s ≡ B = cut_at A B (U ++ (E ++ X)) s h u is h-is u-is in
      let c3 : slice u (u + 4) s ≡ U =
      cut_at (A ++ B) U (E ++ X) s u (u + 4) (is ∙ sym (append_assoc A B (U ++ (E ++ X)))) (omega (arith, u-is, length-append A B)) (omega (arith, u-is, length-append A B, four)) in
      let l : length s ≡ length A + (length B + (length U + (length E + length X))) =
      ap length is ∙ lengths in
      let c4 : slice e (length s) s ≡ X =
      cut_at (A ++ (B ++ (U ++ E))) X [] s e (length s) (is ∙ simp (append_assoc, append-nil)) (omega (arith, e-is, u-is, four, sum)) (omega (arith, l, sum)) in
      ap (λ (x : List ℕ). x ++ (H ++ (slice h u s ++ (T ++ (slice u (u + 4) s ++ (N ++ (slice e (length s) s ++ [])) ++ []))))) c1
      ∙ ap (λ (x : List ℕ). A ++ (H ++ (x ++ (T ++ (slice u (u + 4) s ++ (N ++ (slice e (length s) s ++ [])) ++ []))))) c2
      ∙ ap (λ (x : List ℕ). A ++ (H ++ (B ++ (T ++ (x ++ (N ++ (slice e (length s) s ++ [])) ++ []))))) c3
      ∙ ap (λ (x : List ℕ). A ++ (H ++ (B ++ (T ++ (U ++ (N ++ (x ++ [])) ++ []))))) c4
      ∙ ap (λ (x : List ℕ). A ++ (H ++ (B ++ (T ++ x)))) (append-nil (U ++ (N ++ (X ++ []))))
      ∙ ap (λ (x : List ℕ). A ++ (H ++ (B ++ (T ++ (U ++ (N ++ x)))))) (append-nil X)
    where
      lengths : length (A ++ (B ++ (U ++ (E ++ X)))) ≡ length A + (length B + (length U + (length E + length X)))
      lengths = omega (arith, length-append A (B ++ (U ++ (E ++ X))), length-append B (U ++ (E ++ X)), length-append U (E ++ X), length-append E X)

      sum : length (A ++ (B ++ (U ++ E))) ≡ length A + (length B + (length U + length E))
      sum = omega (arith, length-append A (B ++ (U ++ E)), length-append B (U ++ E), length-append U E)

-- ---- a message, and a sealed one, printed

-- between UNH and UNT
abbrev pub inner : Snoc Header → Body → Snoc Trailer → Snoc Segment
inner hs b ts = grammar.joined show_header hs +++ show_body b +++ grammar.joined show_trailer ts

module _ (σ : Service) where
  one-print : (g : Segment) → print σ (g ∷ []) ≡ print_s σ g
  one-print g = print-cons σ g [] ∙ append-nil (print_s σ g)

  -- segments one after the other
  four-print : (g : Segment) (a b c : List Segment) (k : Segment) → print σ (g ∷ (a ++ (b ++ (c ++ k ∷ [])))) ≡ print_s σ g ++ (print σ a ++ (print σ b ++ (print σ c ++ print_s σ k)))
  four-print g a b c k =
      print-cons σ g (a ++ (b ++ (c ++ k ∷ [])))
      ∙ ap (λ (l : List ℕ). print_s σ g ++ l)
      (print-append σ a (b ++ (c ++ k ∷ []))
      ∙ ap (λ (l : List ℕ). print σ a ++ l)
      (print-append σ b (c ++ k ∷ []) ∙ ap (λ (l : List ℕ). print σ b ++ l) (print-append σ c (k ∷ []) ∙ ap (λ (l : List ℕ). print σ c ++ l) (one-print k))))

  open-print : (a : Leaf) (hs : Snoc Header) (b : Body) (ts : Snoc Trailer) → print σ (list (show_open (msg a hs b ts))) ≡ print_s σ (seg Unh a) ++ print σ (list (inner hs b ts))
  open-print a hs b ts =
      ap (print σ) (open-list (grammar.joined show_header hs) (show_body b) (grammar.joined show_trailer ts)) ∙ print-cons σ (seg Unh a) (list (inner hs b ts))
    where
      open-list : (x y z : Snoc Segment) → list (nil ▷ seg Unh a +++ x +++ y +++ z) ≡ seg Unh a ∷ list (x +++ y +++ z)
      open-list x y z = simp (list-join, append_assoc)

  message-print : (a : Leaf) (hs : Snoc Header) (b : Body) (ts : Snoc Trailer) (k : Leaf)
      → print σ (list (show_message (message (msg a hs b ts) k))) ≡ print_s σ (seg Unh a) ++ (print σ (list (inner hs b ts)) ++ print_s σ (seg Unt k))
  message-print a hs b ts k =
      print-append σ (list (show_open (msg a hs b ts))) (seg Unt k ∷ [])
      ∙ ap (λ (l : List ℕ). l ++ print σ (seg Unt k ∷ [])) (open-print a hs b ts)
      ∙ ap (λ (l : List ℕ). print_s σ (seg Unh a) ++ print σ (list (inner hs b ts)) ++ l) (one-print (seg Unt k))
      ∙ append_assoc (print_s σ (seg Unh a)) (print σ (list (inner hs b ts))) (print_s σ (seg Unt k))

  sealed-print : (h : Header) (t : Trailer) (a : Leaf) (hs : Snoc Header) (b : Body) (ts : Snoc Trailer) (k : Leaf)
      → print σ (list (show_message (sealed_message h t (message (msg a hs b ts) k))))
      ≡ print_s σ (seg Unh a) ++ (print σ (list (show_header h)) ++ (print σ (list (inner hs b ts)) ++ (print σ (list (show_trailer t)) ++ print_s σ (seg Unt (grown k)))))
  sealed-print h t a hs b ts k =
      ap (λ (x : Snoc Segment). print σ (list (nil ▷ seg Unh a +++ x +++ show_body b +++ (grammar.joined show_trailer ts +++ show_trailer t)) ++ seg Unt (grown k) ∷ [])) (joined-join show_header (nil ▷ h) hs)
      ∙ ap (print σ) (sealed-list (show_header h) (grammar.joined show_header hs) (show_body b) (grammar.joined show_trailer ts) (show_trailer t) (seg Unt (grown k)))
      ∙ four-print (seg Unh a) (list (show_header h)) (list (inner hs b ts)) (list (show_trailer t)) (seg Unt (grown k))
    where
      sealed-list : (w x y z v : Snoc Segment) (g : Segment)
          → list (nil ▷ seg Unh a +++ (nil +++ w +++ x) +++ y +++ (z +++ v)) ++ g ∷ [] ≡ seg Unh a ∷ (list w ++ (list (x +++ y +++ z) ++ (list v ++ g ∷ [])))
      sealed-list w x y z v g = simp (list-join, append_assoc)

  -- all of an interchange, around a message
  whole-print : (u : Leaf) (before : Snoc Message) (m : Message) (after : Snoc Message) (z : Leaf)
      → print σ (list (shown (done u (before ▷ m +++ after) z)))
      ≡ print σ (list (shown (idle u before))) ++ (print σ (list (show_message m)) ++ print σ (list (grammar.joined show_message after ▷ seg Unz z)))
  whole-print u before m after z =
      ap (λ (x : Snoc Segment). print σ (list (nil ▷ seg Unb u +++ x ▷ seg Unz z))) (joined-join show_message (before ▷ m) after)
      ∙ ap (print σ) (whole-list (grammar.joined show_message before) (show_message m) (grammar.joined show_message after))
      ∙ print-append σ (list (shown (idle u before))) (list (show_message m) ++ list (grammar.joined show_message after ▷ seg Unz z))
      ∙ ap (λ (l : List ℕ). print σ (list (shown (idle u before))) ++ l) (print-append σ (list (show_message m)) (list (grammar.joined show_message after ▷ seg Unz z)))
    where
      whole-list : (x y w : Snoc Segment) → list (nil ▷ seg Unb u +++ (x +++ y +++ w) ▷ seg Unz z) ≡ list (nil ▷ seg Unb u +++ x) ++ (list y ++ list (w ▷ seg Unz z))
      whole-list x y w = simp (list-join, append_assoc)

-- ---- the sealed interchange

pub una-length : (n : Maybe Una) → length (print_una n) ≡ (opening_in n).at
una-length none = refl
una-length (some (una σ x)) = refl

pub old-parts : (P I W B U E R D : List ℕ) → P ++ (I ++ (W ++ (B ++ (U ++ (E ++ R))) ++ D)) ≡ P ++ (I ++ W) ++ (B ++ (U ++ (E ++ (R ++ D))))
old-parts P I W B U E R D = simp append_assoc

pub new-parts : (P I W H B T U N R D : List ℕ) → P ++ (I ++ (W ++ (H ++ (B ++ (T ++ (U ++ (N ++ R))))) ++ D)) ≡ P ++ (I ++ W) ++ (H ++ (B ++ (T ++ (U ++ (N ++ (R ++ D))))))
new-parts P I W H B T U N R D = simp append_assoc

-- UNT of the message that is named has a count
pub unt-digits : (s m : List ℕ) (i : Interchange) (o : Open) (k : Leaf) (q : ℕ) → verdict_of s ≡ accepted i → message_in i m ≡ some (placed (message o k) q) → in_range (digits 1 6) (element_content k 1 0) ≡ true
unt-digits s m (interchange n u ms z) o k q e named =
    let v = (verdict-exact s (interchange n u ms z)).0 e in
    let y : Syntax = v.0.y in
    let w : holds (every (formed_s y) (show_message (message o k))) =
    placed-every (service_in (interchange n u ms z)) (opening_in n).at u (compared m) (λ (x : Message). every (formed_s y) (show_message x)) ms named
    (every-joined (formed_s y) show_message ms (every-right (formed_s y) (nil ▷ seg Unb u) (grammar.joined show_message ms) v.0.elements.0)) in
    unt-formed y.version k w.1

module _ (s m : List ℕ) {ν : Version} {σ : Service} {c : Layout} {rows : List ℕ} (r : List ℕ) (f : ℕ) (t : List ℕ) where
  woven-by : (i : Interchange) (o : Open) (k : Leaf) (q : ℕ) → verdict_of s ≡ accepted i → service_in i ≡ σ → version_in i ≡ ν → T (fit σ)
      → message_in i m ≡ some (placed (message o k) q) → PartsLie σ s q o k c rows → Stand σ s q (show_message (message o k))
      → together (sealed_pieces ν σ s c r f t) ≡ sealed_text i m r f t
  unfolding header_text trailer_text
  woven-by i o [] q e d j fits named laid st = absurd (false≢true (unt-digits s m i o [] q e named))
  woven-by (interchange n u ms z) (msg a hs b ts) (x ∷ es) q e d j fits named laid st =
      let i : Interchange = interchange n u ms z in
      let M : Message = message (msg a hs b ts) (x ∷ es) in
      let h : Header = new_header r f in
      let g : Trailer = new_trailer ν σ r t in
      let v = (verdict-exact s i).0 e in
      let w : Around σ (opening_in n).at u h g (compared m) ms M q = around σ (opening_in n).at u h g (compared m) ms (ap (λ (τ : Service). placed_in τ (opening_in n).at u ms (compared m)) (sym d) ∙ named) in
      let us : Stand σ s (q + wide σ (show_open (msg a hs b ts))) (nil ▷ seg Unt (x ∷ es)) = stand-back σ s q (show_open (msg a hs b ts)) (nil ▷ seg Unt (x ∷ es)) st in
      let ut : Stand σ s c.unt (nil ▷ seg Unt (x ∷ es)) = subst (λ (p : ℕ). Stand σ s p (nil ▷ seg Unt (x ∷ es))) (sym laid.unt) us in
      let P : List ℕ = print_una n in
      let I : List ℕ = print σ (list (shown (idle u w.before))) in
      let W : List ℕ = print_s σ (seg Unh a) in
      let B : List ℕ = print σ (list (inner hs b ts)) in
      let U : List ℕ = 85 ∷ 78 ∷ 84 ∷ σ.element ∷ [] in
      let E : List ℕ = spells σ (flat_e x) in
      let R : List ℕ = unt_tail σ s c.unt fits es in
      let D : List ℕ = print σ (list (grammar.joined show_message w.after ▷ seg Unz z)) in
      let H : List ℕ = print σ (list (show_header h)) in
      let G : List ℕ = print σ (list (show_trailer g)) in
      let N : List ℕ = decimal_of (count_at σ s c.unt) in
      let is : s ≡ P ++ (I ++ W) ++ (B ++ (U ++ (E ++ (R ++ D)))) =
      sym v.1 ∙ ap (λ (τ : Service). P ++ print τ (list (shown (done u ms z)))) d
      ∙ ap (λ (l : Snoc Message). P ++ print σ (list (shown (done u l z)))) w.was
      ∙ ap (λ (l : List ℕ). P ++ l) (whole-print σ u w.before M w.after z)
      ∙ ap (λ (l : List ℕ). P ++ (I ++ (l ++ D))) (message-print σ a hs b ts (x ∷ es) ∙ ap (λ (l : List ℕ). W ++ (B ++ l)) (unt-print σ s c.unt fits x es))
      ∙ old-parts P I W B U E R D in
      let count : decimal_of (number (x ∷ es) 1 + 4) ≡ N = ap decimal_of (sym (count_at_lem σ s c.unt fits (x ∷ es) ut (unt-digits s m i (msg a hs b ts) (x ∷ es) q e named))) in
      let gs : print_s σ (seg Unt (grown (x ∷ es))) ≡ U ++ (N ++ R) =
      grown-print σ s c.unt fits x es (decimal_of (number (x ∷ es) 1 + 4)) ∙ ap (λ (l : List ℕ). U ++ (l ++ R)) count in
      let out : sealed_text i m r f t ≡ P ++ (I ++ W) ++ (H ++ (B ++ (G ++ (U ++ (N ++ (R ++ D)))))) =
      ap (λ (v : Version). P ++ print (service_in i) (list (shown (done u (sealed_in h (new_trailer v (service_in i) r t) ms (compared m)) z)))) j
      ∙ ap (λ (τ : Service). P ++ print τ (list (shown (done u (sealed_in h (new_trailer ν τ r t) ms (compared m)) z)))) d
      ∙ ap (λ (l : Snoc Message). P ++ print σ (list (shown (done u l z)))) w.becomes
      ∙ ap (λ (l : List ℕ). P ++ l) (whole-print σ u w.before (sealed_message h g M) w.after z)
      ∙ ap (λ (l : List ℕ). P ++ (I ++ (l ++ D))) (sealed-print σ h g a hs b ts (x ∷ es) ∙ ap (λ (l : List ℕ). W ++ (H ++ (B ++ (G ++ l)))) gs)
      ∙ new-parts P I W H B G U N R D in
      let length_a : length (P ++ (I ++ W)) ≡ (opening_in n).at + wide σ (shown (idle u w.before)) + length W =
      omega (arith, length-append P (I ++ W), length-append I W, una-length n, wide-list σ (shown (idle u w.before))) in
      let length_o : wide σ (show_open (msg a hs b ts)) ≡ length W + length B =
      omega (arith, wide-list σ (show_open (msg a hs b ts)), ap length (open-print σ a hs b ts), length-append W B) in
      let heads : c.heads ≡ length (P ++ (I ++ W)) = omega (arith, laid.heads, w.place, length_a) in
      let unt : c.unt ≡ length (P ++ (I ++ W)) + length B = omega (arith, laid.unt, w.place, length_a, length_o) in
      assembled (P ++ (I ++ W)) B U E (R ++ D) s c.heads c.unt (count_end σ s c.unt) is heads unt refl (count-end σ s c.unt fits x es ut) H G N ∙ sym out

-- what the code lays is the printing of the sealed interchange
pub woven : {s m : List ℕ} {y : Syntax} {c : Layout} {rows : List ℕ} (h : Holds s m y c rows) (r : List ℕ) (f : ℕ) (t : List ℕ)
    → together (sealed_pieces y.version y.service s c r f t) ≡ sealed_text h.i m r f t
woven {s} {m} h r f t = woven-by s m r f t h.i h.o h.t h.q h.read h.service (version-so h) h.fits h.named h.laid h.stands

-- and of the octets to be signed
signed_by : {s : List ℕ} {σ : Service} {c : Layout} {rows : List ℕ} (r : List ℕ) (f : ℕ) (o : Open) (k : Leaf) (q : ℕ)
    → PartsLie σ s q o k c rows → Stand σ s q (show_message (message o k)) → together (octets_pieces σ s c r f) ≡ signed_text σ o r f
unfolding header_text
signed_by {s} {σ} {c} r f (msg a hs b ts) k q laid st =
    let w = body-stands σ s q a hs b ts k st in
    let e : slice c.body c.tail s ≡ print σ (list (show_body b)) =
    ap (λ (x : ℕ). slice x c.tail s) laid.body ∙ ap (λ (x : ℕ). slice (body_at σ q (msg a hs b ts)) x s) laid.tail
    ∙ stand-slice σ s (body_at σ q (msg a hs b ts)) (show_body b) w in
    ap (λ (x : List ℕ). print σ (list (show_header (new_header r f))) ++ x) (append-nil (slice c.body c.tail s) ∙ e)
    ∙ sym (print-append σ (list (show_header (new_header r f))) (list (show_body b))) ∙ ap (print σ) (sym (list-join (show_header (new_header r f)) (show_body b)))

pub signed : {s m : List ℕ} {y : Syntax} {c : Layout} {rows : List ℕ} (h : Holds s m y c rows) (r : List ℕ) (f : ℕ)
    → together (octets_pieces y.service s c r f) ≡ signed_text (service_in h.i) h.o r f
signed h r f = signed_by r f h.o h.t h.q h.laid h.stands ∙ ap (λ (τ : Service). signed_text τ h.o r f) (sym h.service)

-- ---- 0074 as the code reads it

module _ (x : List ℕ) {d : Option ℕ} (e : d ≡ number_in x) {n : ℕ} (k : d ≡ Some n) where
  -- 15 digits at most
  pub count_low : n < 1000000000000000
  count_low = by (all_digits x && within 1 15 (length x)) refl (sym k ∙ e)
    where
      by : (b : Bool) → (all_digits x && within 1 15 (length x)) ≡ b → Some n ≡ cond b (Some (value_from 0 x)) None → n < 1000000000000000
      by false h q = let z : ◌≡◌ {A = ℕ} 0 1 = cc in absurd (omega arith)
      by true h q =
          let v : n ≡ value_from 0 x = cc in
          let w = digits-below 15 x (subst T (sym h) tt) in
          let l = tens-below (length x) 15 w.1 in
          omega (arith, v, w.0, l)

module _ (σ : Service) (s : List ℕ) (p : ℕ) {z : List ℕ} (c : z ≡ part_of s (component_at σ s p 1 0)) {d : Option ℕ} (e : d ≡ number_in (content σ.release z)) where
  pub count-told : {n : ℕ} → d ≡ Some n → n + 4 ≡ count_at σ s p
  count-told k = ap count_by (sym k ∙ e ∙ ap (λ (l : List ℕ). number_in (content σ.release l)) c)

  pub count_none : d ≡ None → 4 ≡ count_at σ s p
  count_none k = ap count_by (sym k ∙ e ∙ ap (λ (l : List ℕ). number_in (content σ.release l)) c)
