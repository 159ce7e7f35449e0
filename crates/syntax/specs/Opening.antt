-- The start of an interchange: UNA or none, then what UNB's first element says. The numbers are those of "Numbers given back".
use Rattle.std.specs.Prelude.{ℕ, List, [], ◌∷◌, Bool, true, false, cond, not, ◌&&◌, ◌||◌, eqb, leb, ltb, length, get_or, drop, Option, Result, Some, None, Ok, Err}
use Rattle.syntax.specs.Octets.{octet, octets, same, starts}
use Rattle.syntax.specs.Service.{standard, without_repetition, fit}
use Rattle.syntax.specs.Cutting.{end_at, tag_of}
use Rattle.syntax.specs.Segment.{component_at, part_of}
use Rattle.syntax.specs.Content.{content}
use Rattle.syntax.specs.declared.Breach.{Breach}
use Rattle.syntax.specs.declared.Service.{Service}
use Rattle.syntax.specs.declared.Syntax.{Syntax}
use Rattle.syntax.specs.declared.Version.{Version}
use Rattle.syntax.specs.declared.Version.TheVariants.{Two, Three, Four}
use Rattle.syntax.specs.declared.Level.{Level}
use Rattle.syntax.specs.declared.Level.TheVariants.{A, B, C, D}
use Rattle.syntax.specs.declared.opening.Opening.{Opening}
use Rattle.syntax.specs.declared.opening.Start.{Start}

abbrev refused_before : ℕ → ℕ → Result Opening Breach
refused_before n p = Err (record { number = n; place = p })

-- "If it starts with `UNA`, octets 3 to 8 (from 0) are component separator, element separator, decimal mark, release, repetition and terminator."
-- "The decimal mark is ignored"
abbrev pub starts_una : List ℕ → Bool
starts_una s = starts (octets "UNA") s

abbrev pub una_service : List ℕ → Service
una_service s =
    record { component = get_or s 3 0; element = get_or s 4 0; release = get_or s 6 0; repetition = get_or s 7 0; terminator = get_or s 8 0 }

-- 2: "UNA short or bad", at 0
abbrev pub read_una : List ℕ → Result Opening Breach
read_una s =
    cond (ltb (length s) 9) (refused_before 2 0)
    (cond (fit (una_service s)) (Ok (record { service = una_service s; una = true; at = 9 })) (refused_before 2 0))

-- "An interchange has 1 to 65,535 octets." 1: "0 or more than 65,535 octets", at 0. "1 and 2 come first."
-- What is known before UNB: the service characters, and where the first segment starts
abbrev pub opening_of : List ℕ → Result Opening Breach
opening_of s =
    cond (eqb (length s) 0) (refused_before 1 0)
    (cond (ltb 65535 (length s)) (refused_before 1 0)
    (cond (starts_una s) (read_una s)
    (Ok (record { service = standard; una = false; at = 0 }))))

-- 0001 and 0002 by content
abbrev pub level_named : List ℕ → Option Level
level_named c =
    cond (same c (octets "UNOA")) (Some A)
    (cond (same c (octets "UNOB")) (Some B)
    (cond (same c (octets "UNOC")) (Some C)
    (cond (same c (octets "UNOD")) (Some D) None)))

abbrev pub version_named : List ℕ → Option Version
version_named c =
    cond (same c (octets "2")) (Some Two)
    (cond (same c (octets "3")) (Some Three)
    (cond (same c (octets "4")) (Some Four) None))

-- whether a version is the earlier edition's: "syntax version 2 in UNB", "Accept it where 0002 is 2"
abbrev pub earlier : Version → Bool
earlier Two = true
earlier Three = false
earlier Four = false

-- "with repertoire UNOD .. besides the others": it goes with version 2 alone
abbrev pub goes : Level → Version → Bool
goes A v = true
goes B v = true
goes C v = true
goes D v = earlier v

abbrev pub refused_unb : ℕ → ℕ → Result Start Breach
refused_unb n p = Err (record { number = n; place = p })

-- whether a version has a repetition: "in version 3 no repetition"; in version 2 "dates and UNA as in version 3"
abbrev pub repeating : Version → Bool
repeating Four = true
repeating Three = false
repeating Two = false

-- "In version 3 a UNA repetition octet must be a space."
abbrev pub settled : Opening → Level → Version → Result Start Breach
settled o l v =
    cond (repeating v) (Ok (record { syntax = record { version = v; level = l; service = o.service }; at = o.at }))
    (cond (o.una && not (eqb o.service.repetition (octet " "))) (refused_unb 6 o.at)
    (Ok (record { syntax = record { version = v; level = l; service = without_repetition o.service }; at = o.at })))

-- 6: "0001 or 0002 unknown; version 3 with a repetition octet"; UNOD in another version than 2
abbrev pub both_named : Opening → Option Level → Option Version → Result Start Breach
both_named o (Some l) (Some n) = cond (goes l n) (settled o l n) (refused_unb 6 o.at)
both_named o (Some l) None = refused_unb 6 o.at
both_named o None n = refused_unb 6 o.at

-- "0001 and 0002 are the first two components of UNB's first element, read with no repetition in force."
abbrev pub declared_at : List ℕ → Service → Opening → Result Start Breach
declared_at s σ o =
    both_named o (level_named (content σ.release (part_of s (component_at σ s o.at 1 0))))
    (version_named (content σ.release (part_of s (component_at σ s o.at 1 1))))

abbrev pub is_tag : Option (ℕ × ℕ × ℕ) → Bool
is_tag (Some (a, b, c)) = true
is_tag None = false

abbrev pub is_unb : Option (ℕ × ℕ × ℕ) → Bool
is_unb (Some (a, b, c)) = same (a ∷ b ∷ c ∷ []) (octets "UNB")
is_unb None = false

abbrev pub is_there : Option ℕ → Bool
is_there (Some e) = true
is_there None = false

-- the first segment. "Where no octet is left, 4 isn't given: it is 5 before UNB". Then, of "UNB: 4, 5, 6, 3, 8", the first three:
-- 4 "no terminator, or bad tag"; 5 "first segment isn't UNB, or there is none"; 6
abbrev pub begun_at : List ℕ → Opening → Result Start Breach
begun_at s o =
    cond (leb (length s) o.at) (refused_unb 5 o.at)
    (cond (not (is_there (end_at (without_repetition o.service) s o.at))) (refused_unb 4 o.at)
    (cond (not (is_tag (tag_of o.service (drop o.at s)))) (refused_unb 4 o.at)
    (cond (not (is_unb (tag_of o.service (drop o.at s)))) (refused_unb 5 o.at)
    (declared_at s (without_repetition o.service) o))))

abbrev pub begun_by : List ℕ → Result Opening Breach → Result Start Breach
begun_by s (Ok o) = begun_at s o
begun_by s (Err f) = Err f

-- the start of an interchange: 1, 2, 4, 5, 6, or its syntax and the place of UNB
abbrev pub begun_of : List ℕ → Result Start Breach
begun_of s = begun_by s (opening_of s)
