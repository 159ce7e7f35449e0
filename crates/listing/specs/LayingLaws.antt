-- The lines that the code makes from the octets are those of the reading, where the message stands in the octets.
use Rattle.std.specs.Prelude.{ℕ, suc, ◌+◌, ◌-◌, ◌≤◌, ◌<◌, Bool, true, false, cond, List, ◌++◌, ◌≡◌, refl, T, ltb, length, get_or}
use Rattle.std.proofs.Common.{arith, ap, sym, ◌∙◌, subst, ltb-true, ltb-false}
use Rattle.std.proofs.Math.Option.{Option, none, some}
use Rattle.syntax.proofs.BareLaws.{compared-twice}
use Rattle.syntax.specs.Content.{compared}
use Rattle.syntax.specs.Service.{fit}
use Rattle.syntax.specs.declared.Service.{Service}
use Rattle.grammar.specs.Lists.{Snoc, nil, ◌▷◌, ◌+++◌, joined, size, holds}
use Rattle.grammar.specs.Grams.{sum}
use Rattle.grammar.specs.Segments.{Unh, Unt, seg, element_content, Asked}
use Rattle.grammar.specs.Interchange.{Leaf, Header, header, Trailer, Body, Open, msg, message, show_header, show_trailer, show_body, show_open, show_message}
use Rattle.grammar.specs.Rules.{ref_h, ok_message, refs_message}
use Rattle.grammar.specs.Verdict.{loads_m}
use Rattle.grammar.specs.Places.{wide, starts_of, headers_in, trailers_in}
use Rattle.grammar.proofs.PlacesLaws.{wide-join}
use Rattle.grammar.proofs.ListsLaws.{last_of, first-of}
use Rattle.grammar.proofs.PairLaws.{few-headers, few-tails}
use Rattle.message.specs.Heads.{upto}
use Rattle.walk.specs.Layout.{heads_at, body_at, tail_at}
use Rattle.walk.specs.Sections.{PartsLie}
use Rattle.walk.specs.declared.sections.Layout.{Layout}
use Rattle.groups.specs.Stand.{Stand}
use Rattle.groups.specs.StandLaws.{stand-front, stand-back, stand-asked}
use Rattle.groups.specs.Groups.{Chosen, chosen, name_at, ref_name_at, sought_in, range_of}
use Rattle.groups.specs.GroupsLaws.{header-named, header-written, header-scope}
use Rattle.groups.specs.Parts.{trailer_named, scope_h}
use Rattle.groups.specs.PartsLaws.{headers-stand, trailer-sought}
use Rattle.lines.specs.Words.{line_words, message_line, seal_line}
use Rattle.listing.specs.Listing.{written_o, written_h, type_o, to_trailer, seal_line_of, seals_of, message_of}
use Rattle.lines.specs.Seals.{Near, up_to, one_at, two_at, seal_at, seals_at}
use Rattle.listing.specs.Laying.{section_at}

-- ---- every place is one of the interchange

starts-within : (σ : Service) (p : ℕ) (f : ℕ → ℕ) (hs : Snoc Header) → upto (size hs) f ≡ starts_of show_header σ p hs → (i : ℕ) → i < size hs → f i ≤ p + wide σ (joined show_header hs)
starts-within σ p f nil e i h = absurd (omega arith)
starts-within σ p f (hs ▷ x) e i h = by (ltb i (size hs)) refl (starts-within σ p f hs (first-of e) i)
  where
    by : (b : Bool) → ltb i (size hs) ≡ b → (i < size hs → f i ≤ p + wide σ (joined show_header hs)) → f i ≤ p + wide σ (joined show_header (hs ▷ x))
    by true q k = let n = k (ltb-true i (size hs) q) in omega (arith, n, wide-join σ (joined show_header hs) (show_header x))
    by false q k =
        let l = ltb-false i (size hs) q in
        let z : i ≡ size hs = omega (arith, l) in
        let m : f i ≡ p + wide σ (joined show_header hs) = ap f z ∙ last_of e in
        omega (arith, m, wide-join σ (joined show_header hs) (show_header x))

module _ (σ : Service) (s : List ℕ) (q : ℕ) (c : Layout) (rows : List ℕ) (short : length s ≤ 65535) where
  tail_within : (o : Open) → tail_at σ q o ≤ q + wide σ (show_open o)
  tail_within (msg h hs b ts) =
      omega (
        arith,
        wide-join σ (nil ▷ seg Unh h +++ joined show_header hs +++ show_body b) (joined show_trailer ts),
        wide-join σ (nil ▷ seg Unh h +++ joined show_header hs) (show_body b),
        wide-join σ (nil ▷ seg Unh h) (joined show_header hs),
      )

  body-within : (o : Open) → body_at σ q o ≤ tail_at σ q o
  body-within (msg h hs b ts) = omega arith

  heads-within : (o : Open) → heads_at σ q o + wide σ (joined show_header (headers_in o)) ≡ body_at σ q o
  heads-within (msg h hs b ts) = refl

  pub near-laid : {o : Open} {t : Leaf} → PartsLie σ s q o t c rows → holds (ok_message (message o t)) → holds (refs_message (message o t)) → Near c rows
  near-laid {o} {t} l k r =
      let h : size (headers_in o) ≤ 9 = few-headers o t k in
      let j : size (trailers_in o) ≤ size (headers_in o) = few-tails o t r in
      let v = tail_within o in
      let w : c.tail ≤ 65535 = omega (arith, v, l.tail, l.unt, l.end, l.inside) in
      let b : c.body ≤ 65535 = omega (arith, body-within o, l.tail, l.body, w) in
      record {
        long = l.starts.long;
        headers = omega (arith, h, l.headers);
        trailers = omega (arith, h, j, l.trailers);
        tail = w;
        starts = λ i. by i b (ltb i c.headers) refl;
      }
    where
      by : (i : ℕ) → c.body ≤ 65535 → (d : Bool) → ltb i c.headers ≡ d → cond d (get_or rows i 0) c.body ≤ 65535
      by i b true e =
          let n : i < size (headers_in o) = subst (λ (m : ℕ). i < m) l.headers (ltb-true i c.headers e) in
          let m = starts-within σ (heads_at σ q o) (λ (i : ℕ). get_or rows i 0) (headers_in o) l.starts.heads i n in
          let z = heads-within o in
          omega (arith, m, z, l.body, b)
      by i b false e = b

-- ---- the lines of a message that stands at q

module _ (σ : Service) (fits : T (fit σ)) (s : List ℕ) (q : ℕ) (h : Leaf) (hs : Snoc Header) (b : Body) (ts : Snoc Trailer) (t : Leaf) (c : Layout) (rows : List ℕ)
    (l : PartsLie σ s q (msg h hs b ts) t c rows) (w : Stand σ s q (show_message (message (msg h hs b ts) t))) where
  abbrev o : Open
  o = msg h hs b ts

  up-to : (gs : Snoc Header) (g : Header) (start : ℕ) → start ≡ heads_at σ q o + wide σ (joined show_header gs) → (x : Option (Chosen Trailer))
      → up_to start (range_of show_trailer σ (tail_at σ q o) x) ≡ to_trailer σ q o (chosen gs g) x
  up-to gs g start e none = refl
  up-to gs g start e (some (chosen us u)) = ap (λ (k : ℕ). tail_at σ q o + wide σ (joined show_trailer us) - k) e

  scope-named : (p : ℕ) (g : Header) → Stand σ s p (show_header g) → name_at σ s p 3 ≡ scope_h g
  scope-named p (header d us cs) x = header-scope σ fits s p d us cs x

  written : (p : ℕ) (g : Header) → Stand σ s p (show_header g) → name_at σ s p 2 ≡ written_h g
  written p (header d us cs) x = header-written σ fits s p d us cs x

  -- what a header is compared by is bare already
  bare-header : (g : Header) → compared (ref_h g) ≡ ref_h g
  bare-header (header d us cs) = compared-twice (element_content d 2 0)

  seal-so : (gs : Snoc Header) (g : Header) (start end : ℕ) → start ≡ heads_at σ q o + wide σ (joined show_header gs) → end ≡ start + wide σ (show_header g) → Stand σ s start (show_header g)
      → seal_at σ s rows c start end ≡ seal_line_of σ q o gs g
  seal-so gs g start end e d x =
      let n : ref_name_at σ s start 2 ≡ compared (ref_h g) = header-named σ fits s start g x ∙ sym (bare-header g) in
      let m : name_at σ s start 2 ≡ written_h g = written start g x in
      let f : name_at σ s start 3 ≡ scope_h g = scope-named start g x in
      let z : one_at c start end ≡ wide σ (show_header g) + wide σ (show_body b) = omega (arith, d, l.tail, l.body) in
      let v : two_at σ s rows c start ≡ to_trailer σ q o (chosen gs g) (trailer_named o (ref_h g)) =
      ap (λ (r : List ℕ). up_to start (sought_in σ s rows 9 1 r c.trailers c.unt)) n ∙ ap (up_to start) (trailer-sought σ fits s q h hs b ts t l w (compared (ref_h g))) ∙ up-to gs g start e (trailer_named o (ref_h g)) in
      ap (λ (r : List ℕ). seal_line r (name_at σ s start 3) (one_at c start end) (two_at σ s rows c start)) m
      ∙ ap (λ (k : List ℕ). seal_line (written_h g) k (one_at c start end) (two_at σ s rows c start)) f
      ∙ ap (λ (k : ℕ). seal_line (written_h g) (scope_h g) k (two_at σ s rows c start)) z
      ∙ ap (seal_line (written_h g) (scope_h g) (wide σ (show_header g) + wide σ (show_body b))) v

  seals-so : (gs : Snoc Header) (end : ℕ) → upto (size gs) (λ (i : ℕ). get_or rows i 0) ≡ starts_of show_header σ (heads_at σ q o) gs → end ≡ heads_at σ q o + wide σ (joined show_header gs)
      → Stand σ s (heads_at σ q o) (joined show_header gs) → seals_at σ s rows c (size gs) end ≡ seals_of σ q o gs
  seals-so nil end a e x = refl
  seals-so (gs ▷ g) end a e x =
      let d : get_or rows (size gs) 0 ≡ heads_at σ q o + wide σ (joined show_header gs) = last_of a in
      let z : end ≡ get_or rows (size gs) 0 + wide σ (show_header g) = omega (arith, e, d, wide-join σ (joined show_header gs) (show_header g)) in
      let y : Stand σ s (get_or rows (size gs) 0) (show_header g) =
      subst (λ (i : ℕ). Stand σ s i (show_header g)) (sym d) (stand-back σ s (heads_at σ q o) (joined show_header gs) (show_header g) x) in
      ap (λ (v : List ℕ). v ++ seal_at σ s rows c (get_or rows (size gs) 0) end) (seals-so gs (get_or rows (size gs) 0) (first-of a) d (stand-front σ s (heads_at σ q o) (joined show_header gs) (show_header g) x))
      ∙ ap (λ (v : List ℕ). seals_of σ q o gs ++ v) (seal-so gs g (get_or rows (size gs) 0) end d z y)

  unh-stands : Stand σ s q (nil ▷ seg Unh h)
  unh-stands =
      stand-front σ s q (nil ▷ seg Unh h) (joined show_header hs)
      (stand-front σ s q (nil ▷ seg Unh h +++ joined show_header hs) (show_body b)
      (stand-front σ s q (nil ▷ seg Unh h +++ joined show_header hs +++ show_body b) (joined show_trailer ts)
      (stand-front σ s q (show_open o) (nil ▷ seg Unt t) w)))

  unh-named : (e : ℕ) → name_at σ s c.unh (suc e) ≡ element_content h (suc e) 0
  unh-named e =
      let a : name_at σ s q (suc e) ≡ element_content h (suc e) 0 = ap (λ (a : Asked). a.text (suc e) 0) (stand-asked σ s q fits (seg Unh h) unh-stands) in
      ap (λ (i : ℕ). name_at σ s i (suc e)) l.unh ∙ a

  lines-so : section_at σ s rows c true ≡ message_of σ q (message o t)
  lines-so =
      let m : line_words (name_at σ s c.unh 1) (name_at σ s c.unh 2) c.loads c.below c.grams ≡ message_line (written_o o) (type_o o) (size (loads_m (message o t))) (sum (loads_m (message o t))) =
      rw (unh-named 0, unh-named 1, l.loads, l.below, l.grams) in
      let n : seals_at σ s rows c c.headers c.body ≡ seals_of σ q o hs =
      ap (λ (n : ℕ). seals_at σ s rows c n c.body) l.headers ∙ seals-so hs c.body l.starts.heads l.body (headers-stand σ s q h hs b ts t w) in
      ap (λ (v : List ℕ). v ++ seals_at σ s rows c c.headers c.body) m
      ∙ ap (λ (v : List ℕ). message_line (written_o o) (type_o o) (size (loads_m (message o t))) (sum (loads_m (message o t))) ++ v) n

pub section-lines : (σ : Service) → T (fit σ) → (s : List ℕ) (q : ℕ) (o : Open) (t : Leaf) (c : Layout) (rows : List ℕ) → PartsLie σ s q o t c rows → Stand σ s q (show_message (message o t))
    → section_at σ s rows c true ≡ message_of σ q (message o t)
section-lines σ f s q (msg h hs b ts) t c rows l w = lines-so σ f s q h hs b ts t c rows l w
