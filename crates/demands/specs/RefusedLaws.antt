-- A call that refuses leaves the lent buffer as it was.
use Rattle.std.specs.Prelude.{ℕ, ◌≡◌, refl, List, [], ◌∷◌, ◌++◌, Bool, true, false, cond, ltb, length, drop, Ok, Err}
use Rattle.std.proofs.Common.{ap, sym, ◌∙◌}
use Rattle.syntax.specs.Refusals.{at_zero}
use Rattle.syntax.specs.declared.Refusal.{Refusal}
use Rattle.writing.specs.Written.{Text, text, no_text, refused_as, Writes, too_long, length_numbers, refusal_numbers}
use Rattle.writing.specs.WrittenLaws.{length-told}
use Rattle.listing.specs.Listing.{Lists}
use Rattle.gurandepi.specs.Answers.{Gives, written_fields}
use Rattle.gurandepi.specs.declared.Written.{Written as Exported}

pub writes-none : (x : Text) (out : List ℕ) (f : Refusal) (left : List ℕ) → Writes x out (Err f) left → left ≡ out
writes-none (no_text k) out f left w = w.octets
writes-none (text t) out f left w = by (too_long (length out) (length t)) w.answer w.octets
  where
    by : (c : Bool) → Err f ≡ cond c (refused_as 15) (Ok (length t)) → left ≡ cond c out (t ++ drop (length t) out) → left ≡ out
    by true e o = o
    by false e o = length-told (sym e)

pub lists-none : (t out : List ℕ) (f : Refusal) (left : List ℕ) → Lists t out (Err f) left → left ≡ out
lists-none t out f left w = by (ltb (length out) (length t)) w.answer w.octets
  where
    by : (c : Bool) → Err f ≡ cond c (refused_as 15) (Ok (length t)) → left ≡ cond c out (t ++ drop (length t) out) → left ≡ out
    by true e o = o
    by false e o = length-told (sym e)

pub gives_none : (x : Text) (out : List ℕ) (r : Exported) (left : List ℕ) → Gives x out r left → ((r.number ≡ 0) → ⊥) → left ≡ out
gives_none (no_text k) out r left w ne = w.octets
gives_none (text t) out r left w ne = by (too_long (length out) (length t)) w.answer w.octets
  where
    by : (c : Bool) → written_fields r ≡ cond c (refusal_numbers (at_zero 15)) (length_numbers (length t)) → left ≡ cond c out (t ++ drop (length t) out) → left ≡ out
    by true e o = o
    by false e o = let z : r.number ≡ 0 = cc in absurd (ne z)
