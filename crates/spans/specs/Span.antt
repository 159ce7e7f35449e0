-- The F01 run of an interchange: "from the first UNH to the last UNT of messages not of type AUTACK".
use Rattle.std.specs.Prelude.{ℕ, ◌+◌, Bool, cond, not, ◌&&◌}
use Rattle.std.proofs.Math.Option.{Option, none, some}
use Rattle.syntax.specs.declared.Service.{Service}
use Rattle.grammar.specs.Lists.{Snoc, nil, ◌▷◌, ◌+++◌, any, Rule, test, check, every}
use Rattle.grammar.specs.Interchange.{Leaf, msg, Message, message, idle, shown}
use Rattle.grammar.specs.Rules.{autack}
use Rattle.grammar.specs.Places.{wide}

-- a message of type AUTACK. In names, `M` at the end is a message
abbrev pub autack_m : Message → Bool
autack_m (message (msg h hs b ts) t) = autack h

-- the messages before the run, those of the run, and those behind it
pub data Parted : Type 0 where
  parted : Snoc Message → Snoc Message → Snoc Message → Parted

-- one message more. The run begins with the first that is no AUTACK, and each later one that is none draws into the run what lay behind it
abbrev pub joined_by : Parted → Message → Parted
joined_by (parted b nil a) m = cond (autack_m m) (parted (b ▷ m) nil nil) (parted b (nil ▷ m) nil)
joined_by (parted b (r ▷ x) a) m = cond (autack_m m) (parted b (r ▷ x) (a ▷ m)) (parted b (r ▷ x +++ a ▷ m) nil)

abbrev pub parted_of : Snoc Message → Parted
parted_of nil = parted nil nil nil
parted_of (ms ▷ m) = joined_by (parted_of ms) m

abbrev pub other : Message → Rule
other m = test (not (autack_m m))

-- "An F01 run fails with 13 if .. it holds no message or an AUTACK lies inside it."
abbrev pub run_right : Snoc Message → Bool
run_right r = any r && check (every other r)

-- where a run starts, and where it ends: the place behind its last octet
pub data Span : Type 0 where
  span : ℕ → ℕ → Span

abbrev pub span_by : Service → ℕ → Leaf → Parted → Option Span
span_by σ p u (parted b r a) = cond (run_right r) (some (span (p + wide σ (shown (idle u b))) (p + wide σ (shown (idle u (b +++ r)))))) none

-- the run of the messages behind the UNB u, which stands at p: from the UNH of its first message to the UNT of its last; none where it fails
abbrev pub span_at : Service → ℕ → Leaf → Snoc Message → Option Span
span_at σ p u ms = span_by σ p u (parted_of ms)
