use Rattle.f01.proofs.usx_reference.Goals as goal

pub returns : goal.returns
returns c = rw (c.usx_element.ensures, c.usx_element-2.ensures)
