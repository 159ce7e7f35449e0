-- What a segment is, by its tag, in the code's words.
use Rattle.std.specs.Prelude.{ℕ, List, [], ◌∷◌, Bool, cond}
use Rattle.syntax.specs.Octets.{octets, same}
use Rattle.grammar.specs.Segments as named
use Rattle.grammar.specs.Segments.{Name, Named, Free, kind_in, tags}
use Rattle.elements.specs.declared.Kind.{Kind}
use Rattle.elements.specs.declared.Kind.TheVariants.{Unb, Unh, Unt, Unz, Ush, Usa, Usc, Usr, Ust, Usb, Usx, Usy, Reserved, Qty, Cnt, Other}

abbrev pub of_name : Name → Kind
of_name named.Unb = Unb
of_name named.Unh = Unh
of_name named.Unt = Unt
of_name named.Unz = Unz
of_name named.Ush = Ush
of_name named.Usa = Usa
of_name named.Usc = Usc
of_name named.Usr = Usr
of_name named.Ust = Ust
of_name named.Usb = Usb
of_name named.Usx = Usx
of_name named.Usy = Usy

abbrev pub of_kind : named.Kind → List ℕ → Kind
of_kind (Named n) t = of_name n
of_kind named.Reserved t = Reserved
of_kind Free t = cond (same t (octets "QTY")) Qty (cond (same t (octets "CNT")) Cnt Other)

-- by the grammar's table of tags; of the others QTY and CNT have rules of their own
abbrev pub tag_kind : List ℕ → Kind
tag_kind t = of_kind (kind_in tags t) t
