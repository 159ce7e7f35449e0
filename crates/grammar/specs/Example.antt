-- Document 01's examples as octets; and one example of each kind of rule, computed: one table under one proof.
use Rattle.std.specs.Prelude.{ℕ, List, [], ◌∷◌, ◌++◌, Bool, ◌&&◌, T, pos, negsuc, take}
use Prim.Native.String.{String}
use Rattle.syntax.specs.Octets.{octets, same}
use Rattle.syntax.specs.Example.{P}
use Rattle.syntax.specs.Repertoire.{inside}
use Rattle.grammar.specs.Verdict.{Totals, verdict_of, totals_of, numbers, total_numbers, total_grams}
use Rattle.grammar.specs.Grams.{Grams, same_grams}

-- ---- document 01's examples as octets. What they come to is one table of the crate `demands`.

-- `UNT+6`
abbrev pub P3 : List ℕ
P3 = octets "UNB+UNOC:4+PITA+ROYALT+20240105:0700+R1'UNH+M1+DESADV:D:01B:UN'QTY+12:30000:KGM'QTY+12:27.34:TNE'CNT+1:57.34:TNE'UNT+6+M1'UNZ+1+R1'"

-- "cut to 122 octets"
abbrev pub P4 : List ℕ
P4 = take 122 P

-- `27.3.4`
abbrev pub P5 : List ℕ
P5 = octets "UNB+UNOC:4+PITA+ROYALT+20240105:0700+R1'UNH+M1+DESADV:D:01B:UN'QTY+12:30000:KGM'QTY+12:27.3.4:TNE'CNT+1:57.34:TNE'UNT+5+M1'UNZ+1+R1'"

-- `30,000`
abbrev pub P6 : List ℕ
P6 = octets "UNB+UNOC:4+PITA+ROYALT+20240105:0700+R1'UNH+M1+DESADV:D:01B:UN'QTY+12:30,000:KGM'QTY+12:27.34:TNE'CNT+1:57.34:TNE'UNT+5+M1'UNZ+1+R1'"

-- "sealed with A1, F 2, value 0F A0"
abbrev pub P7 : List ℕ
P7 =
    octets
    "UNB+UNOC:4+PITA+ROYALT+20240105:0700+R1'UNH+M1+DESADV:D:01B:UN'USH+1+A1+1+1+2+2+1'USA+1:::16:1'QTY+12:30000:KGM'QTY+12:27.34:TNE'CNT+1:57.34:TNE'UST+A1+4'USR+1:0FA0'UNT+9+M1'UNZ+1+R1'"

-- "in P7 `UST+A1+3`"
abbrev pub P8 : List ℕ
P8 =
    octets
    "UNB+UNOC:4+PITA+ROYALT+20240105:0700+R1'UNH+M1+DESADV:D:01B:UN'USH+1+A1+1+1+2+2+1'USA+1:::16:1'QTY+12:30000:KGM'QTY+12:27.34:TNE'CNT+1:57.34:TNE'UST+A1+3'USR+1:0FA0'UNT+9+M1'UNZ+1+R1'"

-- "in P7 `UST+A2`"
abbrev pub P9 : List ℕ
P9 =
    octets
    "UNB+UNOC:4+PITA+ROYALT+20240105:0700+R1'UNH+M1+DESADV:D:01B:UN'USH+1+A1+1+1+2+2+1'USA+1:::16:1'QTY+12:30000:KGM'QTY+12:27.34:TNE'CNT+1:57.34:TNE'UST+A2+4'USR+1:0FA0'UNT+9+M1'UNZ+1+R1'"

-- ---- one example of each kind of rule

-- a verdict's number and place, and the ordinal of the segment there
abbrev says : List ℕ → ℕ → ℕ → ℕ → Bool
says s n p o = same (numbers (verdict_of s)) (n ∷ p ∷ o ∷ [])

-- the numbers of totals, and their grams
abbrev totals : Totals → List ℕ → Grams → Bool
totals t n g = same (total_numbers t) n && same_grams (total_grams t) g

-- an interchange of version 4, UNOA, from its UNH on
abbrev Q : String → List ℕ
Q x = octets "UNB+UNOA:4+A+B+20240105:0700+R'" ++ octets x

pub rule-table : T (
    -- 3 at the octet: a small letter in UNOA
    says (Q "UNH+M+X'FTX+a'UNT+3+M'UNZ+1+R'") 3 43 3
    -- 7: "0 to 9 header groups"; "Octets after UNZ give 7 at the first of them, unread."
    && says (Q "UNH+M+X'USH+1+A+1'USH+1+B+1'USH+1+C+1'USH+1+D+1'USH+1+E+1'USH+1+F+1'USH+1+G+1'USH+1+H+1'USH+1+I+1'USH+1+J+1'UNT+1+M'UNZ+1+R'") 7 129 12
    && says (Q "UNH+M+X'UNT+2+M'UNZ+1+R'X") 7 55 5
    -- 8 comes before 9: a reference of 15, which no header has
    && says (Q "UNH+M+X'USH+1+A+1'UST+BBBBBBBBBBBBBBB+2'UNT+4+M'UNZ+1+R'") 8 49 4
    -- "A UST with no header left to name is 9, in a message without headers too."
    && says (Q "UNH+M+X'FTX'UST+A+2'UNT+4+M'UNZ+1+R'") 9 43 4
    -- 0588 counts the trailer's USR too
    && says (Q "UNH+M+X'USH+1+A+1'FTX'UST+A+3'USR+1:0F'UNT+6+M'UNZ+1+R'") 0 0 0
    && says (Q "UNH+M+X'USH+1+A+1'FTX'UST+A+2'USR+1:0F'UNT+6+M'UNZ+1+R'") 10 70 7
    -- three decimals of a kilogram and six of a tonne are the same grams
    && says (Q "UNH+M+X'QTY+12:1,234:KGM'CNT+1:0.001234:TNE'UNT+4+M'UNZ+1+R'") 0 0 0
    && totals (totals_of (Q "UNH+M+X'QTY+12:1,234:KGM'UNT+3+M'UNZ+1+R'") (octets "M")) (0 ∷ 0 ∷ 0 ∷ 1 ∷ []) (pos 1234)
    -- "one leading minus before the digits": 30 t tipped, and 30.001 t tipped back; minus zero is zero, and is a load
    && totals (totals_of (Q "UNH+M+X'QTY+12:30:TNE'QTY+12:-30001:KGM'CNT+1:-1:KGM'UNT+5+M'UNZ+1+R'") (octets "M")) (0 ∷ 0 ∷ 0 ∷ 2 ∷ []) (negsuc 999)
    && totals (totals_of (Q "UNH+M+X'QTY+12:-0:KGM'CNT+1:0:KGM'UNT+4+M'UNZ+1+R'") (octets "M")) (0 ∷ 0 ∷ 0 ∷ 1 ∷ []) (pos 0)
    && says (Q "UNH+M+X'QTY+12:-1:KGM'CNT+1:1:KGM'UNT+4+M'UNZ+1+R'") 10 65 5
    && says (Q "UNH+M+X'QTY+12:--1:KGM'UNT+3+M'UNZ+1+R'") 12 39 3
    && says (Q "UNH+M+X'CNT+1:+1:KGM'UNT+3+M'UNZ+1+R'") 8 39 3
    -- a CNT that is not the message's load total
    && says (Q "UNH+M+X'QTY+12:1:KGM'CNT+1:2:KGM'UNT+4+M'UNZ+1+R'") 10 64 5
    -- AUTACK: good; another scope; a USY that names no header
    && says (Q "UNH+M+AUTACK'USH+1+A+F01'USB+1'USX+R'USY+A+1:0F'UST+A+2'UNT+7+M'UNZ+1+R'") 0 0 0
    && says (Q "UNH+M+AUTACK'USH+1+A+1'USB+1'USX+R'USY+A+1:0F'UST+A+2'UNT+7+M'UNZ+1+R'") 11 44 3
    && says (Q "UNH+M+AUTACK'USH+1+A+F01'USB+1'USX+R'USY+B+1:0F'UST+A+2'UNT+7+M'UNZ+1+R'") 9 68 6
    -- the subset of GS1: good; a header without USC, before USB and before a further USH; no 0536; 0503 not 1 or 2; 0062 in the sixth place; another scope
    && says (Q "UNH+M+AUTACK::::EAN001'USH+1+A+3'USC+C'USB+1'USX+R++++++N'USY+A+1:0F'UST+A+3'UNT+8+M'UNZ+1+R'") 0 0 0
    && says (Q "UNH+M+AUTACK::::EAN001'USH+1+A+3'USB+1'USX+R++++++N'USY+A+1:0F'UST+A+2'UNT+7+M'UNZ+1+R'") 7 64 4
    && says (Q "UNH+M+AUTACK::::EAN001'USH+1+A+3'USH+1+B+3'USC+C'USB+1'USX+R++++++N'USY+A+1:0F'UST+A+3'UNT+8+M'UNZ+1+R'") 7 64 4
    && says (Q "UNH+M+AUTACK::::EAN001'USH+1+A+3'USC'USB+1'USX+R++++++N'USY+A+1:0F'UST+A+3'UNT+8+M'UNZ+1+R'") 8 64 4
    && says (Q "UNH+M+AUTACK::::EAN001'USH+1+A+3'USC+C'USB+3'USX+R++++++N'USY+A+1:0F'UST+A+3'UNT+8+M'UNZ+1+R'") 8 70 5
    && says (Q "UNH+M+AUTACK::::EAN001'USH+1+A+3'USC+C'USB+1'USX+R+++++N'USY+A+1:0F'UST+A+3'UNT+8+M'UNZ+1+R'") 8 76 6
    && says (Q "UNH+M+AUTACK::::EAN001'USH+1+A+F01'USC+C'USB+1'USX+R++++++N'USY+A+1:0F'UST+A+3'UNT+8+M'UNZ+1+R'") 11 54 3
    -- totals of no such message
    && same (total_numbers (totals_of (Q "UNH+M+X'UNT+2+M'UNZ+1+R'") (octets "N"))) (13 ∷ 0 ∷ 0 ∷ 0 ∷ [])
    )
unfolding inside
rule-table = tt
