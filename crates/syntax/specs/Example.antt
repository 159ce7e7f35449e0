-- Example P and the traps of document 01, cut and read by computation: one table under one proof.
use Rattle.std.specs.Prelude.{ℕ, List, [], ◌∷◌, Bool, true, false, not, ◌&&◌, T, eqb, length, drop, take, Option, Result, Some, None, Ok, Err}
use Rattle.syntax.specs.Octets.{octets, same}
use Rattle.syntax.specs.Service.{standard, without_repetition}
use Rattle.syntax.specs.Cutting.{ends, tag_of}
use Rattle.syntax.specs.Segment.{pieces_at, at_element, component_at, part_of, components, repeats, elements, any_repeats}
use Rattle.syntax.specs.Content.{content}
use Rattle.syntax.specs.Scanning.{number_in}
use Rattle.syntax.specs.Opening.{begun_of}
use Rattle.syntax.specs.declared.Breach.{Breach}
use Rattle.syntax.specs.declared.Service.{Service}
use Rattle.syntax.specs.declared.opening.Start.{Start}

-- "One line, no breaks", "(131 octets)"
abbrev pub P : List ℕ
P = octets "UNB+UNOC:4+PITA+ROYALT+20240105:0700+R1'UNH+M1+DESADV:D:01B:UN'QTY+12:30000:KGM'QTY+12:27.34:TNE'CNT+1:57.34:TNE'UNT+5+M1'UNZ+1+R1'"

-- under another UNA: component `|`, element `#`, release `\`, repetition `^`, terminator `~`
abbrev other : Service
other = record { component = 124; element = 35; release = 92; repetition = 94; terminator = 126 }

-- the release is not in force: a space
abbrev unreleased : Service
unreleased = record { component = 58; element = 43; release = 32; repetition = 42; terminator = 39 }

-- the content of component c of element e of the segment at a; both counted from 0, the tag is element 0
abbrev content_at : Service → List ℕ → ℕ → ℕ → ℕ → List ℕ
content_at σ s a e c = content σ.release (part_of s (component_at σ s a e c))

abbrev is_absent : Option (ℕ × ℕ) → Bool
is_absent (Some (x, z)) = false
is_absent None = true

abbrev tagged : Option (ℕ × ℕ × ℕ) → List ℕ
tagged (Some (a, b, c)) = a ∷ b ∷ c ∷ []
tagged None = []

abbrev numbered : Option ℕ → List ℕ
numbered (Some n) = n ∷ []
numbered None = []

-- the refusal as number and place; none where the start is good
abbrev told_begun : Result Start Breach → List ℕ
told_begun (Ok x) = []
told_begun (Err f) = f.number ∷ f.place ∷ []

-- the repetition in force, where the start is good
abbrev repetition_of : Result Start Breach → List ℕ
repetition_of (Ok x) = x.syntax.service.repetition ∷ []
repetition_of (Err f) = []

-- Q: `??'` ends the segment, `?'` does not; a released separator is data; empty components and elements at the end count
abbrev Q : List ℕ
Q = octets "FTX+a??'FTX+a?'b?+c:d?:e'FTX+::+x*y*+'"

-- R: Q's second segment under the other service characters, after their UNA
abbrev R : List ℕ
R = octets "UNA|#.\\^~FTX#a\\~b\\#c|d\\|e~"

pub example-table : T (
    -- P: its length, its ends, its tags
    eqb (length P) 131
    && same (ends standard false P 0) (39 ∷ 62 ∷ 79 ∷ 96 ∷ 112 ∷ 121 ∷ 130 ∷ [])
    && same (tagged (tag_of standard P)) (octets "UNB")
    && same (tagged (tag_of standard (drop 40 P))) (octets "UNH")
    && same (tagged (tag_of standard (drop 122 P))) (octets "UNZ")
    && same (tagged (tag_of standard (drop 41 P))) []
    -- P: content of components, counts
    && same (content_at standard P 0 1 0) (octets "UNOC")
    && same (content_at standard P 0 1 1) (octets "4")
    && same (content_at standard P 0 4 1) (octets "0700")
    && same (content_at standard P 40 2 3) (octets "UN")
    && same (content_at standard P 80 1 1) (octets "27.34")
    && is_absent (component_at standard P 0 6 0)
    && is_absent (component_at standard P 0 1 2)
    && eqb (elements (pieces_at standard P 0)) 5
    && eqb (components (at_element 2 (pieces_at standard P 40))) 4
    && same (numbered (number_in (content_at standard P 113 1 0))) (5 ∷ [])
    && same (numbered (number_in (content_at standard P 113 2 0))) []
    -- Q: releases, separators at the end
    && same (ends standard false Q 0) (7 ∷ 24 ∷ 37 ∷ [])
    && same (content_at standard Q 0 1 0) (octets "a?")
    && same (content_at standard Q 8 1 0) (octets "a'b+c")
    && same (content_at standard Q 8 1 1) (octets "d:e")
    && eqb (components (at_element 1 (pieces_at standard Q 25))) 3
    && eqb (elements (pieces_at standard Q 25)) 3
    && not (is_absent (component_at standard Q 25 3 0))
    && same (content_at standard Q 25 3 0) []
    && repeats (at_element 2 (pieces_at standard Q 25))
    && not (repeats (at_element 1 (pieces_at standard Q 25)))
    && any_repeats (pieces_at standard Q 25)
    -- with no repetition in force `*` is data
    && not (any_repeats (pieces_at (without_repetition standard) Q 25))
    && same (content_at (without_repetition standard) Q 25 2 0) (octets "x*y*")
    -- other service characters
    && same (ends other false (drop 9 R) 9) (25 ∷ [])
    && same (content_at other R 9 1 0) (octets "a~b#c")
    && same (content_at other R 9 1 1) (octets "d|e")
    -- a space is no release where the release is not in force, and `?` is data there
    && same (ends unreleased false (octets "FTX+a 'FTX+b?'") 0) (6 ∷ 13 ∷ [])
    && same (content_at unreleased (octets "FTX+a b?c'") 0 1 0) (octets "a b?c")
    -- the start: 1, 2, 4, 5, 6 in their order
    && same (told_begun (begun_of P)) []
    && same (told_begun (begun_of [])) (1 ∷ 0 ∷ [])
    && same (told_begun (begun_of (octets "UNA:+.?*"))) (2 ∷ 0 ∷ [])
    && same (told_begun (begun_of (octets "UNA:+.:*'UNB+UNOC:4'"))) (2 ∷ 0 ∷ [])
    && same (told_begun (begun_of (octets "UNA:+.?*'"))) (5 ∷ 9 ∷ [])
    && same (told_begun (begun_of (octets "UNB+UNOC:4"))) (4 ∷ 0 ∷ [])
    && same (told_begun (begun_of (octets "UNb+UNOC:4'"))) (4 ∷ 0 ∷ [])
    && same (told_begun (begun_of (octets "UNH+M1'"))) (5 ∷ 0 ∷ [])
    && same (told_begun (begun_of (octets "UNB+UNOC:4*x'"))) (6 ∷ 0 ∷ [])
    && same (told_begun (begun_of (octets "UNB+UNO?C:4:x*y'"))) []
    && same (told_begun (begun_of (octets "UNA:+.?*'UNB+UNOA:3'"))) (6 ∷ 9 ∷ [])
    && same (repetition_of (begun_of (octets "UNA:+.? 'UNB+UNOA:3'"))) (32 ∷ [])
    && same (repetition_of (begun_of (octets "UNB+UNOA:3'"))) (32 ∷ [])
    && same (repetition_of (begun_of (octets "UNB+UNOA:4'"))) (42 ∷ [])
    )
example-table = tt
