-- The octets of a line of which so many were taken: none where it is too long.
use Rattle.std.specs.Prelude.{ℕ, List, take, Option, Some, None}

abbrev pub kept : Option ℕ → List ℕ → Option (List ℕ)
kept None s = None
kept (Some n) s = Some (take n s)
