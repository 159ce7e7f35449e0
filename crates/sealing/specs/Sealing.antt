-- "Two calls, on a message that isn't AUTACK": what they write. What is put into the message, and when it may be, is in `Seals.antt` of `weaving`.
-- 1 to 12, then 13, 16, 14; 15 is told of what is too long to be written.
use Rattle.std.specs.Prelude.{ℕ, cond, ◌&&◌, List}
use Rattle.std.proofs.Math.Option.{some}
use Rattle.syntax.specs.Refusals.{at_zero}
use Rattle.grammar.specs.Interchange.{message}
use Rattle.grammar.specs.Valid.{Interchange, syntax_in}
use Rattle.grammar.specs.Verdict.{verdict_of}
use Rattle.grammar.specs.Named.{Placed, placed}
use Rattle.writing.specs.Written.{Text, text, no_text}
use Rattle.groups.specs.Calls.{answered_by, then, service_in, version_in, message_in}
use Rattle.values.specs.Values.{answered}
use Rattle.weaving.specs.Seals.{may_seal, length_right, text_by, writable, signed_text, sealed_text}

-- one call writes "the scope 1 octets to be signed"
abbrev pub octets_at : Interchange → Placed → List ℕ → ℕ → Text
octets_at i (placed (message o n) q) r f = cond (may_seal (version_in i) o r f) (text (signed_text (service_in i) o r f)) (no_text (at_zero 16))

abbrev pub seal_octets_of : List ℕ → List ℕ → List ℕ → ℕ → Text
seal_octets_of s m r f = answered (answered_by (verdict_of s) (λ i. then (message_in i m) (λ p. some (octets_at i p r f))))

-- one writes "the sealed interchange"
abbrev pub or_unwritten : Interchange → List ℕ → List ℕ → ℕ → List ℕ → Text
or_unwritten i m r f t = cond (writable (syntax_in i) t) (text (sealed_text i m r f t)) (no_text (at_zero 14))

-- ".. then 13, 16, 14, 15"
abbrev pub seal_at : Interchange → Placed → List ℕ → List ℕ → ℕ → List ℕ → Text
seal_at i (placed (message o n) q) m r f v = cond (may_seal (version_in i) o r f && length_right (version_in i) f v) (or_unwritten i m r f (text_by f v)) (no_text (at_zero 16))

abbrev pub seal_of : List ℕ → List ℕ → List ℕ → ℕ → List ℕ → Text
seal_of s m r f v = answered (answered_by (verdict_of s) (λ i. then (message_in i m) (λ p. some (seal_at i p m r f v))))
