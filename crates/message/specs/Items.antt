-- A message with one segment more.
use Rattle.std.specs.Prelude.{suc}
use Rattle.message.specs.declared.Group.{Group}
use Rattle.message.specs.declared.Sums.{Sums}
use Rattle.message.specs.declared.Message.{Message}

-- in the group g, with these sums
abbrev pub grown_with : Message → Group → Sums → Message
grown_with m g u = record { group = g; autack = m.autack; segments = suc m.segments; headers = m.headers; sums = u; pair = m.pair }
