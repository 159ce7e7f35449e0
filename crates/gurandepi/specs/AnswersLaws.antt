-- What a library call writes is what the exported call gives.
use Rattle.syntax.specs.declared.Refusal.{Refusal}
use Rattle.std.specs.Prelude.{ℕ, Bool, List, [], ◌∷◌, ◌≡◌, cond, is_some, unwrap_or, Option, Some, None, Result, refl}
use Rattle.std.proofs.Common.{◌∙◌, ap, sym}
use Rattle.writing.specs.Written.{Text, Writes, told_written}
use Rattle.gurandepi.specs.declared.Written.{Written}
use Rattle.gurandepi.specs.Answers.{Gives, written_fields, state_in, Feeds}
use Rattle.sha.specs.Feeding.{fed_of}
use Rattle.sha.specs.declared.Sha.{Sha}
use Rattle.gurandepi.specs.declared.Sha1.{Sha1}
use Rattle.gurandepi.specs.declared.Fed.{Fed}

pub gives : {x : Text} {out : List ℕ} {w : Result ℕ Refusal} {r : Written} {out' : List ℕ}
    → Writes x out w out' → written_fields r ≡ told_written w → Gives x out r out'
gives h e = record { answer = e ∙ h.numbers; octets = h.octets }

-- ---- what is fed

module _ (st : Sha1) (part : List ℕ) {i : Sha} {f : Option Sha} (e : i ≡ state_in st) (d : f ≡ fed_of i part) where
  fed : {g : Option Sha} → f ≡ g → fed_of (state_in st) part ≡ g
  fed h = sym (d ∙ ap (λ (j : Sha). fed_of j part) e) ∙ h

  answered : {b : Bool} → is_some f ≡ b → cond {A = ℕ} (is_some (fed_of (state_in st) part)) 0 15 ∷ 0 ∷ 0 ∷ [] ≡ cond {A = ℕ} b 0 15 ∷ 0 ∷ 0 ∷ []
  answered h = ap (λ (b : Bool). cond {A = ℕ} b 0 15 ∷ 0 ∷ 0 ∷ []) (ap is_some (fed refl) ∙ h)

  feeds : {g : Option Sha} {r : Fed} → f ≡ g → r.number ∷ r.place ∷ r.segment ∷ [] ≡ cond (is_some g) 0 15 ∷ 0 ∷ 0 ∷ [] → state_in r.state ≡ unwrap_or g (state_in st) → Feeds st part r
  feeds {g} h n s = record {
    answer = n ∙ sym (answered (ap is_some h));
    state = s ∙ ap (λ (o : Option Sha). unwrap_or o (state_in st)) (sym (fed h));
  }

  pub feeds-taken : {x : Sha} {s : Sha1} → f ≡ Some x → state_in s ≡ x → Feeds st part (record { number = 0; place = 0; segment = 0; state = s })
  feeds-taken h g = feeds h refl g

  pub feeds-refused : f ≡ None → Feeds st part (record { number = 15; place = 0; segment = 0; state = st })
  feeds-refused h = feeds h refl refl
