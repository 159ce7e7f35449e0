use native.Mathlib.Omega.{arith}
use mathlib.Core.Bool.{true, false}
use mathlib.Core.Path.{refl}
use borrow.Author.Rules.{rules}
use Rattle.syntax.specs.Repertoire.{inside}
use Rattle.syntax.specs.RepertoireLaws.{stretch-of}
use Rattle.syntax.specs.declared.Level.TheVariants.{A, B, C, D}
use Rattle.syntax.proofs.repertoire.is_inside.Goals as goal

pub returns-in-32-to-34 : goal.returns-in-32-to-34
unfolding inside
returns-in-32-to-34 c = stretch-of A true 32 3 refl c.in-A.is (omega arith) (omega arith)

pub returns-in-37-to-47 : goal.returns-in-37-to-47
unfolding inside
returns-in-37-to-47 c = stretch-of A true 37 11 refl c.in-A.is (omega arith) (omega arith)

pub returns-in-48-to-57 : goal.returns-in-48-to-57
unfolding inside
returns-in-48-to-57 c = stretch-of A true 48 10 refl c.in-A.is (omega arith) (omega arith)

pub returns-in-58-to-63 : goal.returns-in-58-to-63
unfolding inside
returns-in-58-to-63 c = stretch-of A true 58 6 refl c.in-A.is (omega arith) (omega arith)

pub returns-in-65-to-90 : goal.returns-in-65-to-90
unfolding inside
returns-in-65-to-90 c = stretch-of A true 65 26 refl c.in-A.is (omega arith) (omega arith)

pub returns-in_default : goal.returns-in_default
unfolding inside
returns-in_default c = stretch-of A false 0 32 refl c.in-A.is (omega arith) (omega arith)

pub returns-in_default-2 : goal.returns-in_default-2
unfolding inside
returns-in_default-2 c = stretch-of A false 35 2 refl c.in-A.is (omega arith) (omega arith)

pub returns-in_default-3 : goal.returns-in_default-3
unfolding inside
returns-in_default-3 c = stretch-of A false 64 1 refl c.in-A.is (omega arith) (omega arith)

pub returns-in_default-4 : goal.returns-in_default-4
unfolding inside
returns-in_default-4 c = stretch-of A false 91 165 refl c.in-A.is (omega arith) (omega arith)

pub returns-in-32-to-34-b : goal.returns-in-32-to-34-b
unfolding inside
returns-in-32-to-34-b c = stretch-of B true 32 3 refl c.in-B.is (omega arith) (omega arith)

pub returns-in-37-to-47-b : goal.returns-in-37-to-47-b
unfolding inside
returns-in-37-to-47-b c = stretch-of B true 37 11 refl c.in-B.is (omega arith) (omega arith)

pub returns-in-48-to-57-b : goal.returns-in-48-to-57-b
unfolding inside
returns-in-48-to-57-b c = stretch-of B true 48 10 refl c.in-B.is (omega arith) (omega arith)

pub returns-in-58-to-63-b : goal.returns-in-58-to-63-b
unfolding inside
returns-in-58-to-63-b c = stretch-of B true 58 6 refl c.in-B.is (omega arith) (omega arith)

pub returns-in-65-to-90-b : goal.returns-in-65-to-90-b
unfolding inside
returns-in-65-to-90-b c = stretch-of B true 65 26 refl c.in-B.is (omega arith) (omega arith)

pub returns-in-65-to-90-b-2 : goal.returns-in-65-to-90-b-2
unfolding inside
returns-in-65-to-90-b-2 c = stretch-of B true 97 26 refl c.in-B.is (omega arith) (omega arith)

pub returns-in_default-b : goal.returns-in_default-b
unfolding inside
returns-in_default-b c = stretch-of B false 0 32 refl c.in-B.is (omega arith) (omega arith)

pub returns-in_default-b-6 : goal.returns-in_default-b-6
unfolding inside
returns-in_default-b-6 c = stretch-of B false 35 2 refl c.in-B.is (omega arith) (omega arith)

pub returns-in_default-b-7 : goal.returns-in_default-b-7
unfolding inside
returns-in_default-b-7 c = stretch-of B false 64 1 refl c.in-B.is (omega arith) (omega arith)

pub returns-in_default-b-4 : goal.returns-in_default-b-4
unfolding inside
returns-in_default-b-4 c = stretch-of B false 91 6 refl c.in-B.is (omega arith) (omega arith)

pub returns-in_default-b-5 : goal.returns-in_default-b-5
unfolding inside
returns-in_default-b-5 c = stretch-of B false 123 133 refl c.in-B.is (omega arith) (omega arith)

pub returns-in-32-to-126 : goal.returns-in-32-to-126
unfolding inside
returns-in-32-to-126 c = stretch-of C true 32 95 refl c.in-C.is (omega arith) (omega arith)

pub returns-in-160-to-255 : goal.returns-in-160-to-255
unfolding inside
returns-in-160-to-255 c = stretch-of C true 160 96 refl c.in-C.is (omega arith) (omega arith)

pub returns-in_default-b-2 : goal.returns-in_default-b-2
unfolding inside
returns-in_default-b-2 c = stretch-of C false 0 32 refl c.in-C.is (omega arith) (omega arith)

pub returns-in_default-b-2-2 : goal.returns-in_default-b-2-2
unfolding inside
returns-in_default-b-2-2 c = stretch-of C false 127 33 refl c.in-C.is (omega arith) (omega arith)

pub returns-in-32-to-126-b : goal.returns-in-32-to-126-b
unfolding inside
returns-in-32-to-126-b c = stretch-of D true 32 95 refl c.in-D.is (omega arith) (omega arith)

pub returns-in-160-to-255-b : goal.returns-in-160-to-255-b
unfolding inside
returns-in-160-to-255-b c = stretch-of D true 160 96 refl c.in-D.is (omega arith) (omega arith)

pub returns-in_default-b-3 : goal.returns-in_default-b-3
unfolding inside
returns-in_default-b-3 c = stretch-of D false 0 32 refl c.in-D.is (omega arith) (omega arith)

pub returns-in_default-b-3-2 : goal.returns-in_default-b-3-2
unfolding inside
returns-in_default-b-3-2 c = stretch-of D false 127 33 refl c.in-D.is (omega arith) (omega arith)
