-- The text of octets, part by part.
use Rattle.std.proofs.Common.{◌≡◌, ℕ, zero, suc, ◌+◌, ◌*◌, ◌<◌, ◌/◌, ◌%◌, false, List, [], ◌∷◌, ◌++◌, length, get_or, set, take, drop, refl, sym, ap, ◌∙◌, arith, append_assoc, append-nil, add-one, length-set, take-add, take-suc-set, lt-ltb, le-ltb, ◌-◌, ◌≤◌, length-take-le, length-drop}
use Rattle.std.specs.Fmt.{digits}
use Rattle.std.proofs.lemmas.Fmt.{hex_one_digit}
use Rattle.printing.specs.HexText.{hex_text}

abbrev pub pair : ℕ → List ℕ
pair b = digits 16 false (b / 16) ++ digits 16 false (b % 16)

hex_suc : (xs : List ℕ) (i : ℕ) → i < length xs → hex_text (take i xs) ++ pair (get_or xs i 0) ≡ hex_text (take (suc i) xs)
hex_suc [] i inside = absurd (omega arith)
hex_suc (b ∷ bs) zero inside = ap (λ (z : List ℕ). digits 16 false (b / 16) ++ z) (sym (append-nil (digits 16 false (b % 16))))
hex_suc (b ∷ bs) (suc i) inside =
    let high = digits 16 false (b / 16) in
    let low = digits 16 false (b % 16) in
    let x = pair (get_or bs i 0) in
    append_assoc high (low ++ hex_text (take i bs)) x
    ∙ ap (λ (z : List ℕ). high ++ z) (append_assoc low (hex_text (take i bs)) x ∙ ap (λ (z : List ℕ). low ++ z) (hex_suc bs i (omega arith)))

pub hex_next : (xs : List ℕ) (i : ℕ) → i < length xs → hex_text (take i xs) ++ pair (get_or xs i 0) ≡ hex_text (take (i + 1) xs)
hex_next xs i inside = hex_suc xs i inside ∙ ap (λ n. hex_text (take n xs)) (sym (add-one i))

hex_append : (xs ys : List ℕ) → hex_text (xs ++ ys) ≡ hex_text xs ++ hex_text ys
hex_append [] ys = refl
hex_append (b ∷ bs) ys =
    let high = digits 16 false (b / 16) in
    let low = digits 16 false (b % 16) in
    ap (λ (z : List ℕ). high ++ (low ++ z)) (hex_append bs ys)
    ∙ sym (append_assoc high (low ++ hex_text bs) (hex_text ys) ∙ ap (λ (z : List ℕ). high ++ z) (append_assoc low (hex_text bs) (hex_text ys)))

-- the text of the next n octets behind that of the first i
pub hex_join : (xs : List ℕ) (i n : ℕ) → hex_text (take i xs) ++ hex_text (take n (drop i xs)) ≡ hex_text (take (i + n) xs)
hex_join xs i n = sym (hex_append (take i xs) (take n (drop i xs))) ∙ ap hex_text (sym (take-add i n xs))

-- a part that was spelled at the front of `text` goes on where the octets before it ended
pub hex_part : (xs : List ℕ) (i n : ℕ) (text : List ℕ) {digits : List ℕ} → i + n ≤ length xs
    → take (2 * length (take (i + n - i) (drop i xs))) text ≡ hex_text (take (i + n - i) (drop i xs)) → digits ≡ take (2 * n) text
    → hex_text (take i xs) ++ digits ≡ hex_text (take (i + n) xs)
hex_part xs i n text {digits} fits spelled given = by (i + n - i) (omega arith) spelled
  where
    by : (m : ℕ) → m ≡ n → take (2 * length (take m (drop i xs))) text ≡ hex_text (take m (drop i xs)) → hex_text (take i xs) ++ digits ≡ hex_text (take (i + n) xs)
    by m e s =
        let long : length (take m (drop i xs)) ≡ n = length-take-le m (drop i xs) (omega (arith, length-drop i xs, fits, e)) ∙ e in
        ap (λ (z : List ℕ). hex_text (take i xs) ++ z) (given ∙ ap (λ (k : ℕ). take (2 * k) text) (sym long) ∙ s) ∙ hex_join xs i m ∙ ap (λ (k : ℕ). hex_text (take (i + k) xs)) e

-- the two digits of one octet more
pub spell_next : (xs text : List ℕ) (k high low : ℕ) → k < length xs → 2 * k + 1 < length text
    → high ∷ [] ≡ digits 16 false (get_or xs k 0 / 16) → low ∷ [] ≡ digits 16 false (get_or xs k 0 % 16) → take (2 * k) text ≡ hex_text (take k xs)
    → take (2 * (k + 1)) (set (set text (2 * k) high) (2 * k + 1) low) ≡ hex_text (take (k + 1) xs)
spell_next xs text k high low inside room h l before =
    let once = set text (2 * k) high in
    let two : 2 * (k + 1) ≡ suc (2 * k + 1) = omega arith in
    ap (λ (n : ℕ). take n (set once (2 * k + 1) low)) two
    ∙ take-suc-set once (2 * k + 1) low (omega (arith, length-set text (2 * k) high, room))
    ∙ ap (λ (z : List ℕ). z ++ (low ∷ [])) (ap (λ (n : ℕ). take n once) (add-one (2 * k)) ∙ take-suc-set text (2 * k) high (omega (arith, room)))
    ∙ append_assoc (take (2 * k) text) (high ∷ []) (low ∷ [])
    ∙ ap (λ (z : List ℕ). z ++ (high ∷ low ∷ [])) before
    ∙ ap (λ (z : List ℕ). hex_text (take k xs) ++ z) (ap (λ (z : List ℕ). z ++ (low ∷ [])) h ∙ ap (λ (z : List ℕ). digits 16 false (get_or xs k 0 / 16) ++ z) l)
    ∙ hex_next xs k inside

pub digit_low : (n : ℕ) → n < 10 → (48 + n) ∷ [] ≡ digits 16 false n
digit_low n small = rw (lt-ltb n 10 small) refl ∙ sym (hex_one_digit false n (omega (arith, small)))

pub digit_high : (n : ℕ) → n < 16 → 10 ≤ n → (87 + n) ∷ [] ≡ digits 16 false n
digit_high n small large = rw (le-ltb n 10 large) refl ∙ sym (hex_one_digit false n small)
