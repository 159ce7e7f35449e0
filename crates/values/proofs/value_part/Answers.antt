use Rattle.values.proofs.value_part.Goals as goal

pub returns-then-is_earlier : goal.returns-then-is_earlier
returns-then-is_earlier c = rw (← c.is_earlier.ensures, c.if-is_earlier.true)

pub returns : goal.returns
returns c = rw (← c.is_earlier.ensures, c.if-is_earlier.false)
