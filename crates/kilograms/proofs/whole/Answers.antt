use Rattle.kilograms.specs.RunningLaws.{between, cut-whole}
use Rattle.kilograms.proofs.whole.Goals as goal

pub truncating_f32_to_u64-requires : goal.truncating_f32_to_u64-requires
truncating_f32_to_u64-requires c = let both = between c.args.sum c.requires in record { lower_bound = both.0; upper_bound = both.1 }

pub returns : goal.returns
returns c = cut-whole c.args.sum c.truncating_f32_to_u64.result c.truncating_f32_to_u64.ensures
