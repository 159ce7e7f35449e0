-- Digests: of a range, and of what is sealed.
use Rattle.std.specs.Prelude.{ℕ, ◌≡◌, List, ◌++◌, true}
use Rattle.std.proofs.Math.Seq.{slice}
use Rattle.writing.specs.Written.{text}
use Rattle.groups.specs.Calls.{given}
use Rattle.ranges.specs.Ranges.{parts, run, scope1_of, scope2_of}
use Rattle.f01.specs.F01.{f01_of}
use Rattle.scope3.specs.Scope3.{scope3_of}
use Rattle.sealing.specs.Sealing.{seal_octets_of}
use Rattle.sha.specs.Sha.{sha1}
use Rattle.digest.specs.Digests.{named_in, digest1_of, digest2_of, digest_f01_of, digest3_of}

-- where the header's first USA names SHA-1, the digest is that of exactly the octets which the range call hands back
pub record OfRanges : Type 0 where
  pub scope1 : (s m r : List ℕ) (a b c d : ℕ) → scope1_of s m r ≡ given (parts a b c d) → named_in s m r ≡ true → digest1_of s m r ≡ given (sha1 (slice a b s ++ slice c d s))
  pub scope2 : (s m r : List ℕ) (a b : ℕ) → scope2_of s m r ≡ given (run a b) → named_in s m r ≡ true → digest2_of s m r ≡ given (sha1 (slice a b s))
  pub f01 : (k s m r : List ℕ) (a b : ℕ) → f01_of k s m r ≡ given (run a b) → named_in k m r ≡ true → digest_f01_of k s m r ≡ given (sha1 (slice a b s))
  pub scope3 : (k s m r : List ℕ) (a b : ℕ) → scope3_of k s m r ≡ given (run a b) → named_in k m r ≡ true → digest3_of k s m r ≡ given (sha1 (slice a b s))

-- what was handed out for signing, and the digest of the new header's range in the sealed interchange x
pub record Digested (s m r : List ℕ) (f : ℕ) (x : List ℕ) : Type 0 where
  pub octets : List ℕ
  pub signed : seal_octets_of s m r f ≡ text octets
  pub digest : digest1_of x m r ≡ given (sha1 octets)
