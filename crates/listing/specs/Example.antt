-- The paper's examples, computed: "For P7 it prints exactly, a line feed after each" three lines; "A refusal prints only" its line.
use Rattle.std.specs.Prelude.{◌++◌, ◌≡◌, refl}
use Rattle.syntax.specs.Octets.{octets}
use Rattle.syntax.specs.Repertoire.{inside}
use Rattle.grammar.specs.Example.{P3, P7}
use Rattle.lines.specs.Words.{feed}
use Rattle.listing.specs.Listing.{listing_of}

pub p7-printed : listing_of P7 ≡ octets "accepted R1" ++ feed ++ octets "message M1 DESADV loads 2 grams 57340000" ++ feed ++ octets "seal A1 scope 1 octets 82" ++ feed
unfolding inside
p7-printed = refl

pub p3-printed : listing_of P3 ≡ octets "refused 10 at 113 segment 6" ++ feed
unfolding inside
p3-printed = refl
