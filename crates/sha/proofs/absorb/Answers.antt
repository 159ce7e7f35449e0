use Rattle.std.proofs.Common.{◌≡◌, ◌-◌, length, ap, ◌∙◌, rules}
use Rattle.sha.specs.Feeding.{poured, left, kept}
use Rattle.sha.specs.FeedingLaws.{to_end, poured-short, left-short, poured-block, left_behind}
use Rattle.sha.proofs.absorb.Goals as goal

pub returns-then-part-room-clause-chain : goal.returns-then-part-room-clause-chain
returns-then-part-room-clause-chain c = let f : length c.args.b ≡ 64 = search rules in poured-short c.args.b c.args.part.now c.args.k f c.requires c.args.h c.if-part-room.true

pub returns-then-part-room-clause-buffer : goal.returns-then-part-room-clause-buffer
returns-then-part-room-clause-buffer c = let f : length c.args.b ≡ 64 = search rules in left-short c.args.b c.args.part.now c.args.k f c.requires c.if-part-room.true c.filled-f.ensures

pub returns-clause-chain : goal.returns-clause-chain
returns-clause-chain c =
    let f : length c.args.b ≡ 64 = search rules in
    poured-block c.args.b c.args.part.now c.args.k f c.requires c.if-part-room.false c.args.h c.filled-f.ensures c.compress-c.ensures
    (c.blocks_of.ensures.chain ∙ ap (poured c.compress-c.result) (to_end (64 - c.args.k) c.args.part.now))

pub returns-clause-buffer : goal.returns-clause-buffer
returns-clause-buffer c =
    let f : length c.args.b ≡ 64 = search rules in
    c.filled.ensures ∙ ap kept (c.blocks_of.ensures.rest ∙ ap left (to_end (64 - c.args.k) c.args.part.now) ∙ left_behind c.args.b c.args.part.now c.args.k f c.requires c.if-part-room.false)
