-- FIPS's first example by computation. The others a program runs: `sha_run`.
use Rattle.std.specs.Prelude.{◌≡◌, [], ◌∷◌, refl}
use Rattle.sha.specs.Sha.{complement, plus, word, rotl, ch, parity, maj, zeros, eight, padding, padded, words, next, next_of, schedule, step, rounds, summed, block, blocks, hash, four, output, sha1}

-- "abc" has the digest a9993e36 4706816a ba3e2571 7850c26c 9cd0d89d
pub abc : sha1 (97 ∷ 98 ∷ 99 ∷ [])
    ≡ 0xa9 ∷ 0x99 ∷ 0x3e ∷ 0x36 ∷ 0x47 ∷ 0x06 ∷ 0x81 ∷ 0x6a ∷ 0xba ∷ 0x3e ∷ 0x25 ∷ 0x71 ∷ 0x78 ∷ 0x50 ∷ 0xc2 ∷ 0x6c ∷ 0x9c ∷ 0xd0 ∷ 0xd8 ∷ 0x9d ∷ []
unfolding complement plus word rotl ch parity maj zeros eight padding padded words next next_of schedule step rounds summed block blocks hash four output sha1
abc = refl
