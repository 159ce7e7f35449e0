-- What a file leaves, and a year of files, each of which takes the sum that the last one left: "over a chain of files".
use Rattle.std.specs.Prelude.{ℕ, ◌+◌, ◌*◌, ◌≡◌, List, pos, length}
use Rattle.grammar.specs.Lists.{Snoc}
use Rattle.grammar.specs.Grams.{Grams, sum}
use Rattle.kilograms.specs.OldSum.{tally, bits_of, handed_bits}
use Rattle.kilograms.specs.Bounds.{Bounded, exactly}
use Rattle.returns.specs.Returns.{weighed, left, old_sum_bits_of}

-- from the sum v the loads l left the sum w, by a call that tells n loads and e kilograms
pub record Leaves (v : ℕ) (l : Snoc Grams) (w n e : ℕ) : Type 0 where
  -- how many loads it added, and their exact kilograms, which are their exact sum in grams
  pub loads : n ≡ length (weighed l)
  pub exact : e ≡ exactly (weighed l)
  pub total : sum l ≡ pos (e * 1000)
  -- what it added is at most 32 off for each of them, and the sum is within the limit
  pub near : Bounded v w n e
  -- "each running sum is whole again", and the next call takes it
  pub taken : handed_bits (bits_of w) ≡ tally w 0 0

-- from the sum v the files so far left the sum w; they had n loads, of e kilograms
pub data Year (v : ℕ) : ℕ → ℕ → ℕ → Type 0 where
  no-file : Year v v 0 0
  one_more : (w n e : ℕ) (s : List ℕ) (x m f : ℕ) → Year v w n e → old_sum_bits_of s (bits_of w) ≡ left x m f → Year v x (n + m) (e + f)
