-- When a message may be sealed: the causes of 13, 16 and 14, each denied in the paper's words.
use Rattle.std.specs.Prelude.{ℕ, ◌≤◌, Bool, false, cond, not, ◌&&◌, ◌||◌, List, ◌≡◌, T, eqb, length}
use Rattle.std.proofs.Math.Option.{some}
use Rattle.syntax.specs.Content.{compared}
use Rattle.syntax.specs.Octets.{all_pass}
use Rattle.syntax.specs.Opening.{earlier}
use Rattle.syntax.specs.Repertoire.{tag_octet}
use Rattle.syntax.specs.declared.Syntax.{Syntax}
use Rattle.grammar.specs.Lists.{size}
use Rattle.grammar.specs.Interchange.{Header, Message}
use Rattle.grammar.specs.Rules.{ref_h, ref_m}
use Rattle.grammar.specs.Valid.{Interchange, syntax_in}
use Rattle.grammar.specs.Verdict.{accepted, verdict_of}
use Rattle.grammar.specs.Counted.{messages_in}
use Rattle.spans.specs.Span.{autack_m}
use Rattle.groups.specs.Calls.{version_in}
use Rattle.weaving.specs.Seals.{text_by, may_write}
use Rattle.demands.specs.Stated.{In, headers_of}

-- the message m of s may have one more header, with REF r and F f
pub record Allows (s m r : List ℕ) (f : ℕ) : Type 0 where
  -- none of 1 to 12, and not 13: s is accepted and has the message m
  pub i : Interchange
  pub read : verdict_of s ≡ accepted i
  pub of : Message
  pub there : In of (messages_in i)
  pub name : ref_m of ≡ compared m
  -- not 16: "REF is 1 to 14 of A to Z and 0 to 9, new in the message"
  pub ref-size : (1 ≤ length r) × (length r ≤ 14)
  pub ref-octets : T (all_pass tag_octet r)
  pub ref-new : (h : Header) → In h (headers_of of) → ref_h h ≡ compared r → ⊥
  -- "F is 2 or 7."; in the earlier edition "F 2 only"
  pub filter : T (eqb f 2 || (not (earlier (version_in i)) && eqb f 7))
  -- not "nine headers already; AUTACK"
  pub few : size (headers_of of) ≤ 8
  pub other : autack_m of ≡ false

-- and be sealed with VALUE v
pub record Seals (s m r : List ℕ) (f : ℕ) (v : List ℕ) : Type 0 where
  pub allowed : Allows s m r f
  -- not 16: "VALUE has 1 to 256 octets for F = 2, 1 to 384 for F = 7"; in the earlier edition "VALUE of 1 to 128 octets"
  pub value-size : (1 ≤ length v) × (length v ≤ cond (earlier (version_in allowed.i)) 128 (cond (eqb f 2) 256 384))
  -- not 14: each octet of its filtered text is inside the repertoire, and no service character where release is not in force
  pub y : Syntax
  pub settled : syntax_in allowed.i ≡ some y
  pub written : T (all_pass (may_write y) (text_by f v))
