-- SHA-1 as FIPS 180-4, "Secure Hash Standard", prints it: its sentences in its order. A message is a list of octets here, a word a number below 2^32.
-- Each operation on words is shut, so that no proof looks at bits.
use Rattle.std.specs.Prelude.{ℕ, zero, suc, ◌+◌, ◌-◌, ◌*◌, ◌/◌, ◌%◌, ◌^◌, cond, List, [], ◌∷◌, ◌++◌, length, take, drop, replicate, bit_and, bit_xor, nat_le, slice_index}
use Rattle.std.specs.Int.Bits.{bit_or}
use Rattle.sha.specs.declared.Chain.{Chain}

-- ---- 2.2.2 Symbols and operations. "∧ Bitwise AND", "∨ Bitwise OR", "⊕ Bitwise XOR" are the library's bit_and, bit_or, bit_xor

-- "¬ Bitwise complement operation."
unfoldable pub complement : ℕ → ℕ
complement x = 2 ^ 32 - 1 - x

-- "+ Addition modulo 2^w."
unfoldable pub plus : ℕ → ℕ → ℕ
plus x y = (x + y) % 2 ^ 32

-- "<< Left-shift operation, where x << n is obtained by discarding the left-most n bits of the word x and then padding the result with n zeroes on the right."
abbrev pub left_shift : ℕ → ℕ → ℕ
left_shift x n = (x * 2 ^ n) % 2 ^ 32

-- ">> Right-shift operation, where x >> n is obtained by discarding the right-most n bits of the word x and then padding the result with n zeroes on the left."
abbrev pub right_shift : ℕ → ℕ → ℕ
right_shift x n = x / 2 ^ n

-- ---- 3.1 "The “big-endian” convention is used ..., so that within each word, the most significant bit is stored in the left-most bit position.": a word of four octets
unfoldable pub word : ℕ → ℕ → ℕ → ℕ → ℕ
word a b c d = a * 16777216 + b * 65536 + c * 256 + d

-- ---- 3.2 "The rotate left (circular left shift) operation, ROTL n (x), where x is a w-bit word and n is an integer with 0 ≤ n < w, is defined by
-- ROTL n (x) = (x << n) ∨ (x >> w - n)."
unfoldable pub rotl : ℕ → ℕ → ℕ
rotl n x = bit_or (left_shift x n) (right_shift x (32 - n))

-- ---- 4.1.1 SHA-1 functions. "Ch(x, y, z) = (x ∧ y) ⊕ (¬x ∧ z)"
unfoldable pub ch : ℕ → ℕ → ℕ → ℕ
unfolding complement
ch x y z = bit_xor (bit_and x y) (bit_and (complement x) z)

-- "Parity(x, y, z) = x ⊕ y ⊕ z"
unfoldable pub parity : ℕ → ℕ → ℕ → ℕ
parity x y z = bit_xor (bit_xor x y) z

-- "Maj(x, y, z) = (x ∧ y) ⊕ (x ∧ z) ⊕ (y ∧ z)"
unfoldable pub maj : ℕ → ℕ → ℕ → ℕ
maj x y z = bit_xor (bit_xor (bit_and x y) (bit_and x z)) (bit_and y z)

-- "SHA-1 uses a sequence of logical functions, f 0, f 1, ..., f 79. Each function f t, where 0 ≤ t ≤ 79, operates on three 32-bit words, x, y, and z, and produces
-- a 32-bit word as output. The function f t (x, y, z) is defined as follows: Ch 0 ≤ t ≤ 19, Parity 20 ≤ t ≤ 39, Maj 40 ≤ t ≤ 59, Parity 60 ≤ t ≤ 79."
abbrev pub mixed : ℕ → ℕ → ℕ → ℕ → ℕ
mixed t x y z = cond (nat_le t 19) (ch x y z) (cond (nat_le t 39) (parity x y z) (cond (nat_le t 59) (maj x y z) (parity x y z)))

-- ---- 4.2.1 "SHA-1 uses a sequence of eighty constant 32-bit words, K 0, K 1, ..., K 79, which are given by"
abbrev pub constant : ℕ → ℕ
constant t = cond (nat_le t 19) 0x5a827999 (cond (nat_le t 39) 0x6ed9eba1 (cond (nat_le t 59) 0x8f1bbcdc 0xca62c1d6))

-- ---- 5.1.1 "Suppose that the length of the message, M, is l bits. Append the bit “1” to the end of the message, followed by k zero bits, where k is the smallest,
-- non-negative solution to the equation l + 1 + k ≡ 448 mod 512.": the octet 128 has the bit and seven of the zero bits, and then so many octets of zero
-- follow n octets. `ShaLaws.gap-solves` and `gap-least` say that this is the k of the sentence.
abbrev pub gap : ℕ → ℕ
gap n = (119 - n % 64) % 64

unfoldable pub zeros : ℕ → List ℕ
zeros n = replicate n 0

-- "Then append the 64-bit block that is equal to the number l expressed using a binary representation."
unfoldable pub eight : ℕ → List ℕ
eight l =
    l / 2 ^ 56 % 256 ∷ l / 2 ^ 48 % 256 ∷ l / 2 ^ 40 % 256 ∷ l / 2 ^ 32 % 256
    ∷ l / 2 ^ 24 % 256 ∷ l / 2 ^ 16 % 256 ∷ l / 2 ^ 8 % 256 ∷ l / 2 ^ 0 % 256 ∷ []

-- what n octets are followed by, and a message with its padding
unfoldable pub padding : ℕ → List ℕ
padding n = (128 ∷ zeros (gap n)) ++ eight (8 * n)

unfoldable pub padded : List ℕ → List ℕ
padded m = m ++ padding (length m)

-- ---- 5.2.1 "the message and its padding are parsed into N 512-bit blocks": 64 octets each. "Since the 512 bits of the input block may be expressed as sixteen 32-bit
-- words, the first 32 bits of message block i are denoted M 0, the next 32 bits are M 1, and so on up to M 15.": the first n of these words
unfoldable pub words : ℕ → List ℕ → List ℕ
words zero s = []
words (suc n) s = words n s ++ word (slice_index s (n * 4)) (slice_index s (n * 4 + 1)) (slice_index s (n * 4 + 2)) (slice_index s (n * 4 + 3)) ∷ []

-- ---- 5.3.1 "For SHA-1, the initial hash value, H(0), shall consist of the following five 32-bit words, in hex:"
abbrev pub initial : Chain
initial = record { a = 0x67452301; b = 0xefcdab89; c = 0x98badcfe; d = 0x10325476; e = 0xc3d2e1f0 }

-- ---- 6.1.2 SHA-1 hash computation. "1. Prepare the message schedule": "W t = M t, 0 ≤ t ≤ 15; ROTL 1 (W t-3 ⊕ W t-8 ⊕ W t-14 ⊕ W t-16), 16 ≤ t ≤ 79"
unfoldable pub next : ℕ → ℕ → ℕ → ℕ → ℕ
next p q r s = rotl 1 (bit_xor (bit_xor (bit_xor p q) r) s)

unfoldable pub next_of : List ℕ → ℕ → ℕ
next_of w t = next (slice_index w (t - 3)) (slice_index w (t - 8)) (slice_index w (t - 14)) (slice_index w (t - 16))

-- the words of a block and k words more
unfoldable pub schedule : ℕ → List ℕ → List ℕ
schedule zero m = m
schedule (suc k) m =
    let w = schedule k m in
    w ++ next_of w (k + 16) ∷ []

-- "2. Initialize the five working variables, a, b, c, d, and e, with the (i-1)st hash value". "3. For t = 0 to 79: { T = ROTL 5 (a) + f t (b, c, d) + e + K t + W t;
-- e = d; d = c; c = ROTL 30 (b); b = a; a = T }"
unfoldable pub step : ℕ → ℕ → Chain → Chain
step t w s = record {
  a = plus (plus (plus (plus (rotl 5 s.a) (mixed t s.b s.c s.d)) s.e) (constant t)) w;
  b = s.a;
  c = rotl 30 s.b;
  d = s.c;
  e = s.d;
}

-- the rounds from t on, a word of the schedule each
unfoldable pub rounds : ℕ → List ℕ → Chain → Chain
rounds t [] s = s
rounds t (x ∷ w) s = rounds (suc t) w (step t x s)

-- "4. Compute the i th intermediate hash value H(i): H 0 (i) = a + H 0 (i-1), H 1 (i) = b + H 1 (i-1), ..."
unfoldable pub summed : Chain → Chain → Chain
summed h s = record {
  a = plus s.a h.a;
  b = plus s.b h.b;
  c = plus s.c h.c;
  d = plus s.d h.d;
  e = plus s.e h.e;
}

unfoldable pub block : Chain → List ℕ → Chain
block h s = summed h (rounds 0 (schedule 64 (words 16 s)) h)

-- "Each message block, M(1), M(2), ..., M(N), is processed in order": n of them
unfoldable pub blocks : ℕ → Chain → List ℕ → Chain
blocks zero h s = h
blocks (suc n) h s = blocks n (block h (take 64 s)) (drop 64 s)

unfoldable pub hash : List ℕ → Chain
hash m = blocks (length (padded m) / 64) initial (padded m)

-- "After repeating steps one through four a total of N times (i.e., after processing M(N)), the resulting 160-bit message digest of the message, M, is
-- H 0 (N) ‖ H 1 (N) ‖ H 2 (N) ‖ H 3 (N) ‖ H 4 (N)"
unfoldable pub four : ℕ → List ℕ
four n = n / 2 ^ 24 % 256 ∷ n / 2 ^ 16 % 256 ∷ n / 2 ^ 8 % 256 ∷ n / 2 ^ 0 % 256 ∷ []

unfoldable pub output : Chain → List ℕ
output h = four h.a ++ (four h.b ++ (four h.c ++ (four h.d ++ four h.e)))

unfoldable pub sha1 : List ℕ → List ℕ
sha1 m = output (hash m)
