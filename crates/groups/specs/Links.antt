-- The links of an AUTACK: "the first USX under which a USY names the header".
use Rattle.std.specs.Prelude.{ℕ, ◌+◌, Bool, true, false, cond, ◌&&◌, List, [], ◌∷◌, length, Option, Some, None}
use Rattle.std.proofs.Math.Option.{Option as Maybe, none, some}
use Rattle.std.proofs.Math.Seq.{slice}
use Rattle.syntax.specs.Content.{compared}
use Rattle.syntax.specs.Octets.{octets, same}
use Rattle.syntax.specs.Tree.{Segment, print_s}
use Rattle.syntax.specs.declared.Service.{Service}
use Rattle.grammar.specs.Lists.{Snoc, nil, ◌▷◌}
use Rattle.grammar.specs.Segments.{tag_text, elements_of, usy0534}
use Rattle.grammar.specs.Interchange.{Leaf, Link, link, Body, plain, ack}
use Rattle.message.specs.Summary.{or_else}
use Rattle.groups.specs.declared.links.Places.{Places}

-- ---- on the tree

-- a USX, and a USY under it
pub data Tie : Type 0 where
  tie : Leaf → Leaf → Tie

-- the first USY, of those under one USX, that names the header r
abbrev pub first_usy : Leaf → Snoc Leaf → List ℕ → Maybe Tie
first_usy x nil r = none
first_usy x (ys ▷ y) r = or_else (first_usy x ys r) (cond (same (usy0534 y) r) (some (tie x y)) none)

abbrev pub first_link : Snoc Link → List ℕ → Maybe Tie
first_link nil r = none
first_link (ls ▷ link x ys) r = or_else (first_link ls r) (first_usy x ys r)

-- only the body of an AUTACK has any
abbrev pub tie_in : Body → List ℕ → Maybe Tie
tie_in (plain b) r = none
tie_in (ack c ls) r = first_link ls (compared r)

-- ---- along the segments of the body

-- the segment at a has this tag
abbrev pub tagged_at : List ℕ → ℕ → List ℕ → Bool
tagged_at s a t = same (slice a (a + 3) s) t

abbrev pub is_tagged : Segment → List ℕ → Bool
is_tagged g t = same (tag_text g) t

abbrev pub is_usy_of : Segment → List ℕ → Bool
is_usy_of g r = is_tagged g (octets "USY") && same (usy0534 (elements_of g)) r

-- the segments gs stand from p on; x is the place of the last USX before them
abbrev pub link_from : Service → ℕ → ℕ → List Segment → List ℕ → Option Places
link_from σ p x [] r = None
link_from σ p x (g ∷ gs) r =
    let z : ℕ = cond (is_tagged g (octets "USX")) p x in
    cond (is_usy_of g r) (Some (record { usx = z; usy = p })) (link_from σ (p + length (print_s σ g)) z gs r)
