-- Checked elements (number 8) by the code's kinds.
use Rattle.grammar.specs.declared.Subset.{Subset}
use Rattle.std.specs.Prelude.{ℕ, Bool, true, false, cond, not, ◌&&◌, List, Option}
use Rattle.syntax.specs.Octets.{octets, same}
use Rattle.syntax.specs.declared.Version.{Version}
use Rattle.grammar.specs.Segments as named
use Rattle.grammar.specs.Segments.{Asked}
use Rattle.grammar.specs.Loads.{control_written}
use Rattle.grammar.specs.Elements.{not_empty, not_empty_reference, either, in_range, row, formed_row, subset_row}
use Rattle.elements.specs.declared.Kind.{Kind}
use Rattle.elements.specs.declared.Kind.TheVariants.{Unb, Unh, Unt, Unz, Ush, Usa, Usc, Usr, Ust, Usb, Usx, Usy, Reserved, Qty, Cnt, Other}

-- grammar's control_right, of a segment that is known to be CNT
abbrev pub control_of : Asked → Bool
control_of a = cond (same (a.text 1 0) (octets "1")) (control_written a) true

abbrev pub formed_by : Version → Kind → Asked → Bool
formed_by v Unb a = formed_row (row v named.Unb) a 1
formed_by v Unh a = formed_row (row v named.Unh) a 1
formed_by v Unt a = formed_row (row v named.Unt) a 1
formed_by v Unz a = formed_row (row v named.Unz) a 1
formed_by v Ush a = formed_row (row v named.Ush) a 1
formed_by v Usa a = true
formed_by v Usc a = true
formed_by v Usr a = formed_row (row v named.Usr) a 1
formed_by v Ust a = formed_row (row v named.Ust) a 1
formed_by v Usb a = formed_row (row v named.Usb) a 1
formed_by v Usx a = formed_row (row v named.Usx) a 1
formed_by v Usy a = formed_row (row v named.Usy) a 1
formed_by v Reserved a = true
formed_by v Qty a = not a.any_repeated
formed_by v Cnt a = not a.any_repeated && control_of a
formed_by v Other a = true

-- what a subset of AUTACK checks besides
abbrev pub subset_by : Kind → Option Subset → Asked → Bool
subset_by Unb b a = true
subset_by Unh b a = true
subset_by Unt b a = true
subset_by Unz b a = true
subset_by Ush b a = true
subset_by Usa b a = true
subset_by Usc b a = formed_row (subset_row b named.Usc) a 1
subset_by Usr b a = true
subset_by Ust b a = true
subset_by Usb b a = formed_row (subset_row b named.Usb) a 1
subset_by Usx b a = formed_row (subset_row b named.Usx) a 1
subset_by Usy b a = true
subset_by Reserved b a = true
subset_by Qty b a = true
subset_by Cnt b a = true
subset_by Other b a = true

-- the position of the one element that the subset of GS1 checks in a segment of this kind, 0 where it checks none; and what its only component is
abbrev pub position_gs1 : Kind → ℕ
position_gs1 Unb = 0
position_gs1 Unh = 0
position_gs1 Unt = 0
position_gs1 Unz = 0
position_gs1 Ush = 0
position_gs1 Usa = 0
position_gs1 Usc = 1
position_gs1 Usr = 0
position_gs1 Ust = 0
position_gs1 Usb = 1
position_gs1 Usx = 7
position_gs1 Usy = 0
position_gs1 Reserved = 0
position_gs1 Qty = 0
position_gs1 Cnt = 0
position_gs1 Other = 0

abbrev pub right_gs1 : Kind → List ℕ → Bool
right_gs1 Unb x = true
right_gs1 Unh x = true
right_gs1 Unt x = true
right_gs1 Unz x = true
right_gs1 Ush x = true
right_gs1 Usa x = true
right_gs1 Usc x = in_range not_empty x
right_gs1 Usr x = true
right_gs1 Ust x = true
right_gs1 Usb x = in_range (either (octets "1") (octets "2")) x
right_gs1 Usx x = in_range not_empty_reference x
right_gs1 Usy x = true
right_gs1 Reserved x = true
right_gs1 Qty x = true
right_gs1 Cnt x = true
right_gs1 Other x = true

-- the kinds of which an element is checked
abbrev pub looked : Kind → Bool
looked Usa = false
looked Usc = false
looked Reserved = false
looked Other = false
looked Unb = true
looked Unh = true
looked Unt = true
looked Unz = true
looked Ush = true
looked Usr = true
looked Ust = true
looked Usb = true
looked Usx = true
looked Usy = true
looked Qty = true
looked Cnt = true
