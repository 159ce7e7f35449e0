-- What the desk prints: behind `ok`, or of a line that has no such answer.
use Rattle.std.specs.Prelude.{ℕ, Bool, true, false, List, [], ◌∷◌, ◌++◌, codes, decimal}
use Rattle.printing.specs.HexText.{hex_text}
use Rattle.desk.specs.declared.answers.Answer.{Answer}
use Rattle.desk.specs.declared.answers.Answer.TheVariants.{Done, Totals, Run, Parts, Octets, Digest, Bits}
use Rattle.desk.specs.declared.answers.Fault.{Fault}
use Rattle.desk.specs.declared.answers.Fault.TheVariants.{Bad, Refused}

-- A word has at least an octet.
abbrev pub octets_text : List ℕ → List ℕ
octets_text [] = codes " -"
octets_text (b ∷ bs) = codes " " ++ hex_text (b ∷ bs)

abbrev pub sign_text : Bool → List ℕ
sign_text true = codes "-"
sign_text false = []

-- A space and a number, and then another.
abbrev pub two_text : ℕ → ℕ → List ℕ
two_text a b = codes " " ++ (decimal a ++ (codes " " ++ decimal b))

abbrev pub answer_text : Answer → List ℕ
answer_text Done = []
answer_text (Totals t) = codes " " ++ (decimal t.loads ++ (codes " " ++ (sign_text t.below ++ decimal t.grams)))
answer_text (Run r) = two_text r.start r.end
answer_text (Parts p) = two_text p.header.start p.header.end ++ two_text p.body.start p.body.end
answer_text (Octets o) = octets_text o.now
answer_text (Digest d) = octets_text d
answer_text (Bits b) = octets_text b

abbrev pub fault_text : Fault → List ℕ
fault_text Bad = codes "bad"
fault_text (Refused r) = codes "refused " ++ (decimal r.number ++ (codes " " ++ (decimal r.place ++ (codes " " ++ decimal r.segment))))
