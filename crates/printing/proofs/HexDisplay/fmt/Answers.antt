use Rattle.std.proofs.Common.{rules, arith, ◌+◌, ◌≤◌, length}
use Rattle.std.specs.Fmt.{HasWritten}
use Rattle.std.proofs.Output.{has_written_append, has_written_of_eq}
use Rattle.printing.proofs.HexLaws.{hex_part}
use Rattle.printing.proofs.HexDisplay.fmt.Goals as goal

pub loop-i-preserved : goal.loop-i-preserved
loop-i-preserved g c =
    let fits : c.loop-i.i + c.min-size.result ≤ length c.args.self.now.0.now = omega (arith, c.min-size.ensures, c.loop-i-test.true) in (
      fits,
      λ plain.
          let before = c.loop-i.invariant.1 plain in
          let wrote : HasWritten {W = g.row.W.Denot} g.W.Write.write_str_gives c.loop-i.f c.in-Ok.digits.now c.write_str.new.self = c.write_str.ensures.writes before.plain (search rules) in
          has_written_of_eq _ _ _ _ _ (hex_part c.args.self.now.0.now c.loop-i.i c.min-size.result c.spell.new.text fits c.spell.ensures (search rules)) (has_written_append _ _ _ _ _ _ before wrote),
    )
