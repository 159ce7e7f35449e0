-- What is kept of where the parts of the open message stand: as it is on the tree, and how the code keeps it with each segment.
use Rattle.std.specs.Prelude.{ℕ, ◌+◌, ◌-◌, ◌≤◌, ◌<◌, true, false, cond, List, ◌≡◌, eqb, length, get_or, set}
use Rattle.syntax.specs.Tree.{print_s}
use Rattle.syntax.specs.declared.Service.{Service}
use Rattle.grammar.specs.Lists.{joined, size}
use Rattle.grammar.specs.Segments.{Unh, seg}
use Rattle.grammar.specs.Interchange.{Open, msg, show_header, show_trailer, show_body}
use Rattle.grammar.specs.Places.{wide, starts_of, headers_in, trailers_in}
use Rattle.message.specs.Heads.{upto}
use Rattle.message.specs.declared.Group.{Group}
use Rattle.message.specs.declared.Group.TheVariants.{Opened, Header as InHeader, Certificate as InCertificate, Body as InBody, Ack as InAck, Trailer as InTrailer}
use Rattle.walk.specs.declared.layout.Spots.{Spots}

-- ---- of a message whose UNH stands at p

-- where its first header group starts, or would: behind the UNH
abbrev pub heads_at : Service → ℕ → Open → ℕ
heads_at σ p (msg h hs b ts) = p + length (print_s σ (seg Unh h))

-- where its body starts, or would: behind the header groups
abbrev pub body_at : Service → ℕ → Open → ℕ
body_at σ p (msg h hs b ts) = heads_at σ p (msg h hs b ts) + wide σ (joined show_header hs)

-- where its first trailer group starts, or would: behind the body
abbrev pub tail_at : Service → ℕ → Open → ℕ
tail_at σ p (msg h hs b ts) = body_at σ p (msg h hs b ts) + wide σ (show_body b)

-- all of these, and how many trailers it has
abbrev pub spots_of : Service → ℕ → Open → Spots
spots_of σ p o = record { unh = p; heads = heads_at σ p o; body = body_at σ p o; tail = tail_at σ p o; trailers = size (trailers_in o) }

-- ---- a segment further: by the group that the segment leaves open, its place `at`, and the place `next` behind it

-- the part that the segment is put into grows to `next`, and what comes behind that part starts there
abbrev pub spot_step : Group → Spots → ℕ → ℕ → Spots
spot_step Opened x at next = record { unh = at; heads = next; body = next; tail = next; trailers = 0 }
spot_step (InHeader n) x at next = record { unh = x.unh; heads = x.heads; body = next; tail = next; trailers = x.trailers }
spot_step (InCertificate n m r) x at next = record { unh = x.unh; heads = x.heads; body = next; tail = next; trailers = x.trailers }
spot_step InBody x at next = record { unh = x.unh; heads = x.heads; body = x.body; tail = next; trailers = x.trailers }
spot_step (InAck l y) x at next = record { unh = x.unh; heads = x.heads; body = x.body; tail = next; trailers = x.trailers }
spot_step (InTrailer false) x at next = record { unh = x.unh; heads = x.heads; body = x.body; tail = x.tail; trailers = x.trailers + 1 }
spot_step (InTrailer true) x at next = x

-- ---- where each group starts: header i at rows[i], trailer j at rows[9 + j]

pub record Rows (σ : Service) (p : ℕ) (o : Open) (rows : List ℕ) : Type 0 where
  pub long : length rows ≡ 18
  pub heads : upto (size (headers_in o)) (λ (i : ℕ). get_or rows i 0) ≡ starts_of show_header σ (heads_at σ p o) (headers_in o)
  pub tails : upto (size (trailers_in o)) (λ (j : ℕ). get_or rows (9 + j) 0) ≡ starts_of show_trailer σ (tail_at σ p o) (trailers_in o)

-- a segment further: a USH or a UST is noted. The headers are those with the segment, the trailers those without
abbrev pub row_step : Group → List ℕ → ℕ → ℕ → ℕ → List ℕ
row_step Opened rows headers trailers at = rows
row_step (InHeader n) rows headers trailers at = cond (eqb n 0) (set rows (headers - 1) at) rows
row_step (InCertificate n m r) rows headers trailers at = rows
row_step InBody rows headers trailers at = rows
row_step (InAck l y) rows headers trailers at = rows
row_step (InTrailer false) rows headers trailers at = set rows (9 + trailers) at
row_step (InTrailer true) rows headers trailers at = rows

-- the array has room for what is noted
abbrev pub RowRoom : Group → ℕ → ℕ → Type 0
RowRoom Opened headers trailers = Unit {0}
RowRoom (InHeader n) headers trailers = (1 ≤ headers) × (headers ≤ 9)
RowRoom (InCertificate n m r) headers trailers = Unit {0}
RowRoom InBody headers trailers = Unit {0}
RowRoom (InAck l y) headers trailers = Unit {0}
RowRoom (InTrailer false) headers trailers = trailers < 9
RowRoom (InTrailer true) headers trailers = Unit {0}
