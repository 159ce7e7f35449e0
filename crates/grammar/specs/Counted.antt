-- What is counted of each message of a reading.
use Rattle.std.specs.Prelude.{ℕ, List}
use Rattle.grammar.specs.Lists.{Snoc, each, size}
use Rattle.grammar.specs.Grams.{Grams, sum}
use Rattle.grammar.specs.Segments.{unh0062_text, unh0065}
use Rattle.grammar.specs.Interchange.{Open, msg, Message, message, show_message}
use Rattle.grammar.specs.Valid.{Interchange, interchange}
use Rattle.grammar.specs.Verdict.{loads_m}

-- a message's 0062 as it is written, its type, its segments from UNH to UNT, its loads in order in whole grams, and their total
pub record Counted : Type 0 where
  pub ref : List ℕ
  pub type : List ℕ
  pub segments : ℕ
  pub loads : Snoc Grams
  pub grams : Grams

-- of a message, M
abbrev pub counted_m : Message → Counted
counted_m (message (msg h hs b ts) t) = record {
  ref = unh0062_text h;
  type = unh0065 h;
  segments = size (show_message (message (msg h hs b ts) t));
  loads = loads_m (message (msg h hs b ts) t);
  grams = sum (loads_m (message (msg h hs b ts) t));
}

-- the messages in order
abbrev pub messages_in : Interchange → Snoc Message
messages_in (interchange n u ms z) = ms

abbrev pub counted_in : Interchange → Snoc Counted
counted_in t = each counted_m (messages_in t)
