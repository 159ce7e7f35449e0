-- Checked elements, as one table: number 8.
use Rattle.grammar.specs.declared.Subset.{Subset}
use Rattle.std.specs.Prelude.{ℕ, zero, suc, Bool, true, false, cond, not, ◌&&◌, ◌||◌, List, [], ◌∷◌, leb, length, Option, None, Some}
use Rattle.syntax.specs.Octets.{octets, same, within}
use Rattle.syntax.specs.Content.{all_digits, blank}
use Rattle.syntax.specs.Opening.{earlier}
use Rattle.syntax.specs.declared.Version.{Version}
use Rattle.syntax.specs.declared.Version.TheVariants.{Two, Three, Four}
use Rattle.grammar.specs.declared.Subset.TheVariants.{F01, Gs1}
use Rattle.grammar.specs.Segments.{Name, Unb, Unh, Unt, Unz, Ush, Usa, Usc, Usr, Ust, Usb, Usx, Usy, Kind, Named, Reserved, Free, kind_in, tags, Asked}
use Rattle.grammar.specs.Loads.{control_right}

-- a component's length, least and most: of any text, of digits, of a reference, whose spaces count. Where no length is printed, a text or a reference that is not empty;
-- or one of two texts
pub data Range : Type 0 where
  any_text digits reference : ℕ → ℕ → Range
  not_empty not_empty_reference : Range
  either : List ℕ → List ℕ → Range

-- an element: its first components; whether further ones may follow. "one range for a composite means its first component". `unchecked`: it only takes its position
pub data Checked : Type 0 where
  simple composite : List Range → Checked
  unchecked : Checked

-- "date : time, digits 6 : 4 (version 3) or 8 : 4 (version 4)"
abbrev pub date_digits : Version → ℕ
date_digits Two = 6
date_digits Three = 6
date_digits Four = 8

-- 0563 1..3 : 0560 0..512, in USR and in USY; in the earlier edition "S508 starting with 0560, at most 256 long, with no qualifier before it"
abbrev pub value_row : Version → Checked
value_row v = cond (earlier v) (composite (any_text 0 256 ∷ [])) (composite (any_text 1 3 ∷ any_text 0 512 ∷ []))

-- 0588 1..6 digits, in UST; in the earlier edition "UST with 0534 only": "There 0588 isn't demanded."
abbrev pub claim_row : Version → List Checked
claim_row v = cond (earlier v) [] (simple (digits 1 6 ∷ []) ∷ [])

-- | segment | elements |, from the first position on: each row of the paper, then the same as a list.
-- "Of these elements only S002, S003, 0065's composite and those shown with `:` may hold further components."
abbrev pub row : Version → Name → List Checked
-- | UNB | 0001 : 0002; S002 1..35; S003 1..35; date : time, digits 6 : 4 (version 3) or 8 : 4 (version 4); 0020 1..14 |
row v Unb =
    composite (not_empty ∷ not_empty ∷ []) ∷ composite (any_text 1 35 ∷ []) ∷ composite (any_text 1 35 ∷ [])
    ∷ composite (digits (date_digits v) (date_digits v) ∷ digits 4 4 ∷ []) ∷ simple (reference 1 14 ∷ []) ∷ []
-- | UNH | 0062 1..14; 0065 1..6 |
row v Unh = simple (reference 1 14 ∷ []) ∷ composite (any_text 1 6 ∷ []) ∷ []
-- | UNT | 0074 1..6 digits; 0062 |
row v Unt = simple (digits 1 6 ∷ []) ∷ simple (not_empty_reference ∷ []) ∷ []
-- | UNZ | 0036 1..6 digits; 0020 |
row v Unz = simple (digits 1 6 ∷ []) ∷ simple (not_empty_reference ∷ []) ∷ []
-- | USH | 0501 1..3; 0534 1..14; 0541 1..3; 0503 0..3; 0505 0..3 |
row v Ush = simple (any_text 1 3 ∷ []) ∷ simple (reference 1 14 ∷ []) ∷ simple (any_text 1 3 ∷ []) ∷ simple (any_text 0 3 ∷ []) ∷ simple (any_text 0 3 ∷ []) ∷ []
-- USA and USC have no row: "the rest is only read as octets"
row v Usa = []
row v Usc = []
-- | USR | 0563 1..3 : 0560 0..512 |
row v Usr = value_row v ∷ []
-- | UST | 0534 1..14; 0588 1..6 digits |
row v Ust = simple (reference 1 14 ∷ []) ∷ claim_row v
-- | USB | 0503 1..3 |
row v Usb = simple (any_text 1 3 ∷ []) ∷ []
-- | USX | 0020 1..14 |
row v Usx = simple (reference 1 14 ∷ []) ∷ []
-- | USY | 0534 1..14; 0563 1..3 : 0560 0..512 |
row v Usy = simple (reference 1 14 ∷ []) ∷ value_row v ∷ []

-- ---- what a subset of AUTACK checks besides

-- the rows of the subset of GS1, in the same form, at the positions that source document 004's layout gives. "USC with 0536 is required in each header, and
-- 0503 of USB is 1 or 2."
abbrev pub row_gs1 : Name → List Checked
-- | USC | 0536 |
row_gs1 Usc = simple (not_empty ∷ []) ∷ []
-- | USB | 0503 is 1 or 2 |
row_gs1 Usb = simple (either (octets "1") (octets "2") ∷ []) ∷ []
-- | USX | 0020; S002; S003; 0048; S006; S007; 0062 |: "each USX names 0020 and 0062"; 0020 is demanded above
row_gs1 Usx = unchecked ∷ unchecked ∷ unchecked ∷ unchecked ∷ unchecked ∷ unchecked ∷ simple (not_empty_reference ∷ []) ∷ []
row_gs1 Unb = []
row_gs1 Unh = []
row_gs1 Unt = []
row_gs1 Unz = []
row_gs1 Ush = []
row_gs1 Usa = []
row_gs1 Usr = []
row_gs1 Ust = []
row_gs1 Usy = []

abbrev pub subset_row : Option Subset → Name → List Checked
subset_row None n = []
subset_row (Some F01) n = []
subset_row (Some Gs1) n = row_gs1 n

-- ---- whether an element is as its row says

-- "lengths of content"; absent is empty, and "missing or malformed" where a length is not printed. Of a reference: "one made only of spaces is malformed (8)",
-- and so is an empty one, which `blank` holds of too
abbrev pub in_range : Range → List ℕ → Bool
in_range (any_text a e) s = within a e (length s)
in_range (reference a e) s = within a e (length s) && not (blank s)
in_range (digits a e) s = all_digits s && within a e (length s)
in_range not_empty s = leb 1 (length s)
in_range not_empty_reference s = not (blank s)
in_range (either a b) s = same s a || same s b

-- the components from c on of the element at position p
abbrev pub in_ranges : List Range → Asked → ℕ → ℕ → Bool
in_ranges [] a p c = true
in_ranges (r ∷ rs) a p c = in_range r (a.text p c) && in_ranges rs a p (suc c)

-- "Only here, and in QTY and CNT, may nothing repeat."
abbrev pub formed_as : Checked → Asked → ℕ → Bool
formed_as (simple rs) a p = not (a.repeated p) && in_ranges rs a p 0 && leb (a.parts p) (length rs)
formed_as (composite rs) a p = not (a.repeated p) && in_ranges rs a p 0
formed_as unchecked a p = true

-- the elements from position p on; behind the row's, "the rest is only read as octets"
abbrev pub formed_row : List Checked → Asked → ℕ → Bool
formed_row [] a p = true
formed_row (k ∷ ks) a p = formed_as k a p && formed_row ks a (suc p)

-- "a repeated element in QTY or CNT is malformed"
abbrev pub is_counted : Asked → Bool
is_counted a = same a.tag (octets "QTY") || same a.tag (octets "CNT")

abbrev pub formed_kind : Version → Kind → Asked → Bool
formed_kind v (Named n) a = formed_row (row v n) a 1
formed_kind v Reserved a = true
formed_kind v Free a = cond (is_counted a) (not a.any_repeated) true && control_right a

-- 8: "checked element missing or malformed"
abbrev pub formed : Version → Asked → Bool
formed v a = formed_kind v (kind_in tags a.tag) a
