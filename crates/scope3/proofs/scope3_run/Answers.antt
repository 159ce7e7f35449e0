use Rattle.scope3.proofs.scope3_run.Goals as goal

pub returns : goal.returns
returns c = record { result_value = c.own_run.ensures.result_value _ c.scope3_places.ensures.value; ref_ptr_value = c.own_run.ensures.ref_ptr_value _ c.scope3_places.ensures.value }
