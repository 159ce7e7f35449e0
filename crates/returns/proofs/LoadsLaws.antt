-- In an accepted interchange only the segments of bodies are loads, and each is read right: so the loads found along the segments are those of its messages.
use Rattle.std.specs.Prelude.{ℕ, ◌≡◌, refl, Bool, true, false, cond, List, [], ◌∷◌, ◌++◌, T}
use Rattle.std.proofs.Common.{ap, sym, ◌∙◌, subst, append_assoc, append-nil}
use Rattle.std.proofs.Math.Option.{Option, none, some}
use Rattle.syntax.specs.Tree.{Segment}
use Rattle.grammar.specs.Lists.{Snoc, nil, ◌▷◌, ◌+++◌, map, each, joined, list, Rule, holds, every}
use Rattle.grammar.specs.Grams.{Grams}
use Rattle.grammar.specs.Segments.{Name, Unb, Unh, Unt, Unz, Ush, Usa, Usc, Usr, Ust, Usb, Usx, Usy, seg, asked, Asked}
use Rattle.grammar.specs.Interchange.{Leaf, Certificate, certificate, Header, header, Trailer, trailer, Link, link, Body, plain, ack, Open, msg, Message, message, idle, done, shown, show_option, show_certificate, show_header, show_trailer, show_link, show_body, show_open, show_message}
use Rattle.grammar.specs.Rules.{amount_s}
use Rattle.grammar.specs.Loads.{Shape, amount_right, grams, amount, load_shape, load_in, load_by, right_by, put, loads}
use Rattle.grammar.specs.Verdict.{loads_b, loads_m}
use Rattle.grammar.specs.TestLaws.{is_true}
use Rattle.groups.specs.StandLaws.{list-join}
use Rattle.kilograms.specs.OldSum.{Old, added, added_all}
use Rattle.kilograms.specs.BoundLaws.{added-parts}
use Rattle.returns.specs.Returns.{kilograms_of, weighed}
use Rattle.returns.specs.Reading.{read_by, read_in, added_by, added_from}

-- ---- the loads of segments joined

loads-join : (a b : Snoc Segment) → loads (a +++ b) ≡ loads a +++ loads b
loads-join a nil = refl
loads-join a (b ▷ g) = by (load_in (asked g)) (loads-join a b)
  where
    by : (o : Option Grams) → loads (a +++ b) ≡ loads a +++ loads b → put (loads (a +++ b)) o ≡ loads a +++ put (loads b) o
    by none e = e
    by (some n) e = ap (λ (s : Snoc Grams). s ▷ n) e

joins-nil : {A : Type 0} (a : Snoc A) → nil +++ a ≡ a
joins-nil nil = refl
joins-nil (a ▷ x) = ap (λ (s : Snoc _). s ▷ x) (joins-nil a)

-- ---- a segment of a name of its own is no load

named_none : (n : Name) (c : Leaf) → load_in (asked (seg n c)) ≡ none
named_none Unb c = refl
named_none Unh c = refl
named_none Unt c = refl
named_none Unz c = refl
named_none Ush c = refl
named_none Usa c = refl
named_none Usc c = refl
named_none Usr c = refl
named_none Ust c = refl
named_none Usb c = refl
named_none Usx c = refl
named_none Usy c = refl

one_none : (a : Snoc Segment) (n : Name) (c : Leaf) → loads (a ▷ seg n c) ≡ loads a
one_none a n c = ap (put (loads a)) (named_none n c)

each_none : (n : Name) (cs : Snoc Leaf) → loads (each (seg n) cs) ≡ nil
each_none n nil = refl
each_none n (cs ▷ c) = one_none (each (seg n) cs) n c ∙ each_none n cs

option-none : (n : Name) (o : Option Leaf) → loads (show_option (seg n) o) ≡ nil
option-none n none = refl
option-none n (some c) = one_none nil n c

-- two parts without loads
both-none : (a b : Snoc Segment) → loads a ≡ nil → loads b ≡ nil → loads (a +++ b) ≡ nil
both-none a b p q = loads-join a b ∙ ap (λ (s : Snoc Grams). s +++ loads b) p ∙ joins-nil (loads b) ∙ q

joined-none : {A : Type 0} (show : A → Snoc Segment) → ((a : A) → loads (show a) ≡ nil) → (row : Snoc A) → loads (joined show row) ≡ nil
joined-none show k nil = refl
joined-none show k (row ▷ a) = both-none (joined show row) (show a) (joined-none show k row) (k a)

certificate-none : (x : Certificate) → loads (show_certificate x) ≡ nil
certificate-none (certificate c us r) =
    both-none (nil ▷ seg Usc c +++ each (seg Usa) us) (show_option (seg Usr) r) (both-none (nil ▷ seg Usc c) (each (seg Usa) us) (one_none nil Usc c) (each_none Usa us)) (option-none Usr r)

header-none : (x : Header) → loads (show_header x) ≡ nil
header-none (header c us cs) =
    both-none (nil ▷ seg Ush c +++ each (seg Usa) us) (joined show_certificate cs) (both-none (nil ▷ seg Ush c) (each (seg Usa) us) (one_none nil Ush c) (each_none Usa us))
    (joined-none show_certificate certificate-none cs)

trailer-none : (x : Trailer) → loads (show_trailer x) ≡ nil
trailer-none (trailer c r) = both-none (nil ▷ seg Ust c) (show_option (seg Usr) r) (one_none nil Ust c) (option-none Usr r)

link-none : (x : Link) → loads (show_link x) ≡ nil
link-none (link c ys) = both-none (nil ▷ seg Usx c) (each (seg Usy) ys) (one_none nil Usx c) (each_none Usy ys)

-- ---- so the loads of a body, of a message and of a file are those along their segments

pub body-loads : (b : Body) → loads (show_body b) ≡ loads_b b
body-loads (plain b) = refl
body-loads (ack c ls) = both-none (nil ▷ seg Usb c) (joined show_link ls) (one_none nil Usb c) (joined-none show_link link-none ls)

message-loads : (m : Message) → loads (show_message m) ≡ loads_m m
message-loads (message (msg h hs b ts) t) =
    one_none (show_open (msg h hs b ts)) Unt t
    ∙ loads-join (nil ▷ seg Unh h +++ joined show_header hs +++ show_body b) (joined show_trailer ts)
    ∙ ap (λ (s : Snoc Grams). loads (nil ▷ seg Unh h +++ joined show_header hs +++ show_body b) +++ s) (joined-none show_trailer trailer-none ts)
    ∙ loads-join (nil ▷ seg Unh h +++ joined show_header hs) (show_body b)
    ∙ ap (λ (s : Snoc Grams). s +++ loads (show_body b))
    (both-none (nil ▷ seg Unh h) (joined show_header hs) (one_none nil Unh h) (joined-none show_header header-none hs))
    ∙ joins-nil (loads (show_body b)) ∙ body-loads b

messages-loads : (ms : Snoc Message) → loads (joined show_message ms) ≡ joined loads_m ms
messages-loads nil = refl
messages-loads (ms ▷ m) =
    loads-join (joined show_message ms) (show_message m) ∙ ap (λ (s : Snoc Grams). s +++ loads (show_message m)) (messages-loads ms)
    ∙ ap (λ (s : Snoc Grams). joined loads_m ms +++ s) (message-loads m)

pub file-loads : (u : Leaf) (ms : Snoc Message) (z : Leaf) → loads (shown (done u ms z)) ≡ joined loads_m ms
file-loads u ms z =
    one_none (shown (idle u ms)) Unz z ∙ loads-join (nil ▷ seg Unb u) (joined show_message ms)
    ∙ ap (λ (s : Snoc Grams). s +++ loads (joined show_message ms)) (one_none nil Unb u) ∙ joins-nil (loads (joined show_message ms)) ∙ messages-loads ms

-- ---- read segment by segment

-- a load that is written right
right-read : (o : Option Shape) (s : List ℕ) → T (right_by o s) → read_by o s ≡ map kilograms_of (load_by o s)
right-read none s r = refl
right-read (some u) s r = ap (λ (b : Bool). some (cond b (kilograms_of (grams u s)) none)) (is_true (amount_right u s) r)

-- one load more at the end
weighed-put : (l : Snoc Grams) (o : Option Grams) (k : Old) → added_all k (weighed (put l o)) ≡ added_by (added_all k (weighed l)) (map kilograms_of o)
weighed-put l none k = refl
weighed-put l (some n) k = added-parts k (weighed l) (kilograms_of n ∷ [])

from_parts : (k : Old) (a b : List Segment) → added_from k (a ++ b) ≡ added_from (added_from k a) b
from_parts k [] b = refl
from_parts k (g ∷ a) b = from_parts (added_by k (read_in (asked g))) a b

pub from-loads : (k : Old) (b : Snoc Segment) → holds (every amount_s b) → added_from k (list b) ≡ added_all k (weighed (loads b))
from-loads k nil h = refl
from-loads k (b ▷ g) h =
    from_parts k (list b) (g ∷ [])
    ∙ ap (λ (o : Old). added_by o (read_in (asked g))) (from-loads k b h.0)
    ∙ ap (added_by (added_all k (weighed (loads b)))) (right-read (load_shape (asked g)) (amount (asked g)) h.1)
    ∙ sym (weighed-put (loads b) (load_in (asked g)) k)
