-- What the octets of a segment answer, asked as the rules ask a segment.
use Rattle.std.specs.Prelude.{ℕ, zero, suc, ◌+◌, List, [], ◌∷◌, Bool, false}
use Rattle.std.proofs.Math.Seq.{slice}
use Rattle.syntax.specs.Content.{content}
use Rattle.syntax.specs.Segment.{pieces_at, at_element, component_at, part_of, components, repeats, elements, any_repeats}
use Rattle.syntax.specs.declared.Service.{Service}
use Rattle.grammar.specs.Segments.{Asked}

-- of the element at position p (from 1) of the segment at a: the content of component c, how many components there are, and whether it repeats
abbrev pub text_at : Service → List ℕ → ℕ → ℕ → ℕ → List ℕ
text_at σ s a zero c = []
text_at σ s a (suc p) c = content σ.release (part_of s (component_at σ s a (suc p) c))

abbrev pub parts_at : Service → List ℕ → ℕ → ℕ → ℕ
parts_at σ s a zero = 0
parts_at σ s a (suc p) = components (at_element (suc p) (pieces_at σ s a))

abbrev pub repeated_at : Service → List ℕ → ℕ → ℕ → Bool
repeated_at σ s a zero = false
repeated_at σ s a (suc p) = repeats (at_element (suc p) (pieces_at σ s a))

-- all that is asked of the segment that starts at a
abbrev pub asked_at : Service → List ℕ → ℕ → Asked
asked_at σ s a = record {
  tag = slice a (a + 3) s;
  size = elements (pieces_at σ s a);
  text = text_at σ s a;
  parts = parts_at σ s a;
  repeated = repeated_at σ s a;
  any_repeated = any_repeats (pieces_at σ s a);
}
