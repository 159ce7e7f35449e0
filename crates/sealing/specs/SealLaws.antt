-- The two calls answer as the definitions say.
use Rattle.std.specs.Prelude.{ℕ, ◌≤◌, Bool, true, false, cond, ◌&&◌, List, ◌≡◌, eqb, leb, length}
use Rattle.std.proofs.Common.{arith, ap, ◌∙◌, sym, leb-true}
use Rattle.std.proofs.Math.Option.{Option, none, some}
use Rattle.std.proofs.Math.Seq.{slice}
use Rattle.syntax.specs.Refusals.{at_zero}
use Rattle.syntax.specs.Octets.{all_pass, within}
use Rattle.syntax.specs.RepertoireLaws.{and_r}
use Rattle.syntax.proofs.CuttingLaws.{slice-take}
use Rattle.syntax.specs.declared.Refusal.{Refusal}
use Rattle.syntax.specs.Opening.{earlier}
use Rattle.syntax.specs.declared.Syntax.{Syntax}
use Rattle.syntax.specs.declared.Version.{Version}
use Rattle.grammar.specs.Interchange.{message}
use Rattle.grammar.specs.Valid.{Interchange}
use Rattle.grammar.specs.Verdict.{accepted, refused_with, verdict_of}
use Rattle.grammar.specs.Named.{placed}
use Rattle.walk.specs.declared.sections.Layout.{Layout}
use Rattle.writing.specs.Laid.{Laid, together}
use Rattle.writing.specs.LaidLaws.{laid-part}
use Rattle.writing.specs.Written.{Text, text, no_text, Writes}
use Rattle.filters.specs.Hex.{hex_text}
use Rattle.filters.specs.HexLaws.{hex-length}
use Rattle.filters.specs.Six.{six_text}
use Rattle.filters.specs.SixLaws.{six-length}
use Rattle.groups.specs.PartsLaws.{call-refused, call-missing, call-holds}
use Rattle.groups.specs.Calls.{service_in, version_in, message_in, Holds}
use Rattle.groups.specs.CallsLaws.{read_short, version-so}
use Rattle.values.specs.Values.{answered}
use Rattle.weaving.specs.Seals.{may_seal, length_right, text_by, may_write, writable, signed_text, sealed_text}
use Rattle.weaving.specs.Woven.{octets_pieces, sealed_pieces, woven_or, sized_or}
use Rattle.weaving.proofs.WovenLaws.{woven, signed}
use Rattle.writing.specs.WrittenLaws.{writes_as}
use Rattle.sealing.specs.Sealing.{octets_at, seal_octets_of, or_unwritten, seal_at, seal_of}

-- ---- what the layout of a message that is named lies within

module _ {s m : List ℕ} {y : Syntax} {c : Layout} {rows : List ℕ} (h : Holds s m y c rows) where
  pub held-short : length s ≤ 65535
  held-short = read_short s h.i h.read

  pub held-unt : c.unt ≤ 65535
  held-unt = omega (arith, h.laid.end, h.laid.inside, held-short)

-- ---- the text of VALUE fits its room

pub text-fits : (w : Version) (f : ℕ) (v : List ℕ) → length_right w f v ≡ true → (length v ≤ 384) × (length (text_by f v) ≤ 512)
text-fits w f v e = by (earlier w) (eqb f 2) e
  where
    most : (n : ℕ) → within 1 n (length v) ≡ true → length v ≤ n
    most n d = leb-true (length v) n (and_r (leb 1 (length v)) (leb (length v) n) d)

    by : (a b : Bool) → within 1 (cond a 128 (cond b 256 384)) (length v) ≡ true → (length v ≤ 384) × (length (cond b (hex_text v) (six_text v)) ≤ 512)
    by true true d = let l = most 128 d in (omega (arith, l), omega (arith, l, hex-length v))
    by true false d = let l = most 128 d in (omega (arith, l), omega (arith, l, six-length v))
    by false true d = let l = most 256 d in (omega (arith, l), omega (arith, l, hex-length v))
    by false false d = let l = most 384 d in (l, omega (arith, l, six-length v))

-- the part of the room that was laid is the text
pub text-laid : (t : List ℕ) {out : List ℕ} {n : ℕ} {out' z : List ℕ} → Laid out 0 t n out' → length out ≡ 512 → length t ≤ 512 → z ≡ slice 0 n out' → z ≡ t
text-laid t {out} {n} {out'} g l h e =
    let k : length t ≤ length out = omega (arith, l, h) in
    e ∙ slice-take 0 n out' ∙ laid-part g k

-- ---- 14

module _ (y : Syntax) (s : List ℕ) (c : Layout) (r : List ℕ) (f : ℕ) {t z : List ℕ} (d : z ≡ t) {b : Bool} (e : b ≡ all_pass (may_write y) z) {out left : List ℕ} {a : _} where
  pub woven-writes : b ≡ true → Writes (text (together (sealed_pieces y.version y.service s c r f z))) out a left → Writes (woven_or y s c r f t) out a left
  woven-writes k w =
      writes_as
      (ap (λ (x : List ℕ). text (together (sealed_pieces y.version y.service s c r f x))) d
      ∙ ap (λ (x : Bool). cond x (text (together (sealed_pieces y.version y.service s c r f t))) (no_text (at_zero 14))) (sym k ∙ e ∙ ap (all_pass (may_write y)) d)) w

  pub woven-barred : b ≡ false → Writes (no_text (at_zero 14)) out a left → Writes (woven_or y s c r f t) out a left
  woven-barred k w = writes_as (ap (λ (x : Bool). cond x (text (together (sealed_pieces y.version y.service s c r f t))) (no_text (at_zero 14))) (sym k ∙ e ∙ ap (all_pass (may_write y)) d)) w

-- ---- 16

module _ {s m : List ℕ} {y : Syntax} {c : Layout} {rows : List ℕ} (h : Holds s m y c rows) (r : List ℕ) (f : ℕ) where
  -- the edition is that of the interchange
  may-so : {b : Bool} → b ≡ may_seal y.version h.o r f → b ≡ may_seal (version_in h.i) h.o r f
  may-so e = e ∙ ap (λ (v : Version). may_seal v h.o r f) (sym (version-so h))

  abbrev octets_if : Bool → Text
  octets_if x = cond x (text (signed_text (service_in h.i) h.o r f)) (no_text (at_zero 16))

module _ {s m : List ℕ} {y : Syntax} {c : Layout} {rows : List ℕ} (h : Holds s m y c rows) (r : List ℕ) (f : ℕ) {b : Bool} (e : b ≡ may_seal y.version h.o r f) {out left : List ℕ} {a : _} where
  pub octets-barred : b ≡ false → Writes (no_text (at_zero 16)) out a left → Writes (octets_at h.i (placed (message h.o h.t) h.q) r f) out a left
  octets-barred d w = writes_as (ap (octets_if h r f) (sym d ∙ may-so h r f e)) w

  pub octets-written : b ≡ true → Writes (text (together (octets_pieces y.service s c r f))) out a left → Writes (octets_at h.i (placed (message h.o h.t) h.q) r f) out a left
  octets-written d w = writes_as (ap text (signed h r f) ∙ ap (octets_if h r f) (sym d ∙ may-so h r f e)) w

  pub seal-barred : (v : List ℕ) → b ≡ false → Writes (no_text (at_zero 16)) out a left → Writes (seal_at h.i (placed (message h.o h.t) h.q) m r f v) out a left
  seal-barred v d w =
      writes_as (ap (λ (x : Bool). cond (x && length_right (version_in h.i) f v) (or_unwritten h.i m r f (text_by f v)) (no_text (at_zero 16))) (sym d ∙ may-so h r f e)) w

  pub seal-written : (v : List ℕ) → b ≡ true → Writes (sized_or y s c r f v) out a left → Writes (seal_at h.i (placed (message h.o h.t) h.q) m r f v) out a left
  seal-written v d w =
      writes_as
      (ap (λ (x : Text). cond (length_right y.version f v) x (no_text (at_zero 16)))
      (ap (λ (x : List ℕ). cond (all_pass (may_write y) (text_by f v)) (text x) (no_text (at_zero 14))) (woven h r f (text_by f v))
      ∙ ap (λ (x : Option Syntax). cond (writable x (text_by f v)) (text (sealed_text h.i m r f (text_by f v))) (no_text (at_zero 14))) (sym h.settled))
      ∙ ap (λ (x : Version). cond (length_right x f v) (or_unwritten h.i m r f (text_by f v)) (no_text (at_zero 16))) (sym (version-so h))
      ∙ ap (λ (x : Bool). cond (x && length_right (version_in h.i) f v) (or_unwritten h.i m r f (text_by f v)) (no_text (at_zero 16))) (sym d ∙ may-so h r f e)) w

module _ (y : Syntax) (s : List ℕ) (c : Layout) (r : List ℕ) (f : ℕ) (v : List ℕ) {b : Bool} (e : b ≡ length_right y.version f v) {out left : List ℕ} {a : _} where
  pub sized-written : b ≡ true → Writes (woven_or y s c r f (text_by f v)) out a left → Writes (sized_or y s c r f v) out a left
  sized-written d w = writes_as (ap (λ (x : Bool). cond x (woven_or y s c r f (text_by f v)) (no_text (at_zero 16))) (sym d ∙ e)) w

  pub sized-barred : b ≡ false → Writes (no_text (at_zero 16)) out a left → Writes (sized_or y s c r f v) out a left
  sized-barred d w = writes_as (ap (λ (x : Bool). cond x (woven_or y s c r f (text_by f v)) (no_text (at_zero 16))) (sym d ∙ e)) w

-- ---- the calls

module _ (s m r : List ℕ) (f : ℕ) {out left : List ℕ} {a : _} where
  pub octets-holds : {y : Syntax} {c : Layout} {rows : List ℕ} (h : Holds s m y c rows) → Writes (octets_at h.i (placed (message h.o h.t) h.q) r f) out a left → Writes (seal_octets_of s m r f) out a left
  octets-holds h w = writes_as (sym (ap answered (call-holds s m (λ i p. some (octets_at i p r f)) h))) w

  pub octets-missing : (i : Interchange) × ((verdict_of s ≡ accepted i) × (message_in i m ≡ none)) → Writes (no_text (at_zero 13)) out a left → Writes (seal_octets_of s m r f) out a left
  octets-missing k w = writes_as (sym (ap answered (call-missing s m (λ i p. some (octets_at i p r f)) k))) w

  pub octets-refused : {g : Refusal} → verdict_of s ≡ refused_with g → Writes (no_text g) out a left → Writes (seal_octets_of s m r f) out a left
  octets-refused e w = writes_as (sym (ap answered (call-refused s m (λ i p. some (octets_at i p r f)) e))) w

  module _ (v : List ℕ) where
    pub seal-holds : {y : Syntax} {c : Layout} {rows : List ℕ} (h : Holds s m y c rows) → Writes (seal_at h.i (placed (message h.o h.t) h.q) m r f v) out a left → Writes (seal_of s m r f v) out a left
    seal-holds h w = writes_as (sym (ap answered (call-holds s m (λ i p. some (seal_at i p m r f v)) h))) w

    pub seal-missing : (i : Interchange) × ((verdict_of s ≡ accepted i) × (message_in i m ≡ none)) → Writes (no_text (at_zero 13)) out a left → Writes (seal_of s m r f v) out a left
    seal-missing k w = writes_as (sym (ap answered (call-missing s m (λ i p. some (seal_at i p m r f v)) k))) w

    pub seal-refused : {g : Refusal} → verdict_of s ≡ refused_with g → Writes (no_text g) out a left → Writes (seal_of s m r f v) out a left
    seal-refused e w = writes_as (sym (ap answered (call-refused s m (λ i p. some (seal_at i p m r f v)) e))) w
