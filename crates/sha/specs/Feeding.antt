-- A message that is fed by parts: what `start`, `feed` and `finish` make of a state, any state. `FeedingLaws.cut`: "However the octets are cut, the digest is that of
-- the joined octets".
use Rattle.std.specs.Prelude.{ℕ, ◌+◌, ◌*◌, ◌/◌, ◌%◌, cond, Option, Some, None, unwrap_or, List, [], ◌∷◌, ◌++◌, length, take, drop, replicate, nat_le}
use Rattle.sha.specs.declared.Chain.{Chain}
use Rattle.sha.specs.declared.Sha.{Sha}
use Rattle.sha.specs.Sha.{initial, zeros, padding, blocks, output}

-- the hash value h after the whole blocks of the octets w, and the octets behind these
unfoldable pub poured : Chain → List ℕ → Chain
poured h w = blocks (length w / 64) h w

abbrev pub left : List ℕ → List ℕ
left w = drop (length w / 64 * 64) w

-- octets at the front of a buffer of 64, and zeros behind them
unfoldable pub kept : List ℕ → List ℕ
kept w = take 64 (w ++ zeros 64)

-- ---- the three calls

-- no octets yet
abbrev pub started : Sha
started = record { chain = initial; buffer = replicate 64 0; count = 0 }

-- the octets of a state that no block has had yet
abbrev pub pending : Sha → List ℕ
pending st = take (st.count % 64) st.buffer

-- "fed by parts as they come"
abbrev pub absorbed : Sha → List ℕ → Sha
absorbed st part = record {
  chain = poured st.chain (pending st ++ part);
  buffer = kept (left (pending st ++ part));
  count = st.count + length part;
}

-- "15 where more than 2^32 - 1 octets are fed, which changes nothing"
abbrev pub most_octets : ℕ
most_octets = 4294967295

abbrev pub fed_of : Sha → List ℕ → Option Sha
fed_of st part = cond (nat_le (st.count + length part) most_octets) (Some (absorbed st part)) None

-- the state then: as it was, where nothing was taken
abbrev pub fed_from : Sha → List ℕ → Sha
fed_from st part = unwrap_or (fed_of st part) st

-- the digest: what is pending is padded as the octets that were counted are, and hashed
abbrev pub finished_of : Sha → List ℕ
finished_of st = output (poured st.chain (pending st ++ padding st.count))

-- ---- a message and its cuttings

-- the state that holds the message m
abbrev pub state_of : List ℕ → Sha
state_of m = record { chain = poured initial m; buffer = kept (left m); count = length m }

-- parts, fed one after the other; and joined
abbrev pub fed_all : Sha → List (List ℕ) → Sha
fed_all st [] = st
fed_all st (p ∷ ps) = fed_all (fed_from st p) ps

abbrev pub join : List (List ℕ) → List ℕ
join [] = []
join (p ∷ ps) = p ++ join ps
