-- A test that is passed, told as a truth value and as what it says.
use Rattle.std.specs.Prelude.{Bool, true, false, ◌||◌, ◌≡◌, T}
use Rattle.std.proofs.lemmas.Bool.{false≢true}
pub use Rattle.syntax.proofs.TreeLaws.{is_true}

pub passes : (b : Bool) → b ≡ true → T b
passes true e = tt
passes false e = absurd (false≢true e)

-- one of two tests is enough
pub or_left : (a b : Bool) → T a → T (a || b)
or_left true b h = tt
or_left false b h = absurd h

pub or_right : (a b : Bool) → T b → T (a || b)
or_right true b h = tt
or_right false b h = h
