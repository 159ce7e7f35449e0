use Rattle.kilograms.specs.RunningLaws.{nearest-real, above-real, handed-so, large-handed, broken-handed}
use Rattle.std.proofs.Common.{rules}
use Rattle.kilograms.proofs.handed_whole.Goals as goal

pub float_to_bits-x : goal.float_to_bits-x
float_to_bits-x c = nearest-real c.nearest_u32_to_f32-x.result c.truncating_f32_to_u64-v.result c.nearest_u32_to_f32-x.ensures c.if-v-gt-LIMIT.false

pub float_to_bits-sum : goal.float_to_bits-sum
float_to_bits-sum c = above-real c.args.sum c.requires.0

pub returns-then-v-gt-LIMIT : goal.returns-then-v-gt-LIMIT
returns-then-v-gt-LIMIT c = large-handed c.args.sum c.truncating_f32_to_u64-v.result c.truncating_f32_to_u64-v.ensures c.if-v-gt-LIMIT.true

pub returns-then-x-sum : goal.returns-then-x-sum
returns-then-x-sum c =
    let t = c.truncating_f32_to_u64-v in
    broken-handed c.args.sum c.nearest_u32_to_f32-x.result t.result (search rules) c.nearest_u32_to_f32-x.ensures t.ensures c.if-x-sum.true

pub returns : goal.returns
returns c =
    let t = c.truncating_f32_to_u64-v in
    handed-so c.args.sum c.nearest_u32_to_f32-x.result t.result (search rules) c.nearest_u32_to_f32-x.ensures t.ensures c.if-v-gt-LIMIT.false c.if-x-sum.false
