use Rattle.ranges.specs.Ranges.{scope1_of, scope2_of}
use Rattle.f01.specs.F01.{f01_of}
use Rattle.scope3.specs.Scope3.{scope3_of}
use Rattle.demands.specs.CompanionLaws.{companion1, companion-run}
use Rattle.demands.proofs.part_is_companion.Goals as goal

pub returns : goal.returns
returns c = λ a s m r. (companion1 s (scope1_of s m r), (companion-run s (scope2_of s m r), (companion-run s (f01_of a s m r), companion-run s (scope3_of a s m r))))
