use mathlib.Core.Path.{refl}
use Rattle.message.specs.StepsLaws.{usr-certificate, usr-trailer, usr-idle}
use borrow.Author.Rules.{rules}
use Rattle.message.proofs.steps.on_usr.Goals as goal

pub returns-in-Certificate : goal.returns-in-Certificate
returns-in-Certificate c = record { by_index = usr-certificate c.args.m c.args.heads.now c.in_header.result c.in_header.new.heads c.in-Certificate.is c.in_header.ensures.by_index; heads_len = c.in_header.ensures.heads_len }

pub returns-in-Trailer : goal.returns-in-Trailer
returns-in-Trailer c = record { by_index = usr-trailer c.requires.roomy c.in-Trailer.is c.in_trailer.ensures; heads_len = c.requires.segments_bound.1 }

pub returns-in-Opened : goal.returns-in-Opened
returns-in-Opened c = record { by_index = usr-idle c.requires.roomy _ c.in-Opened.is (λ S. refl); heads_len = c.requires.segments_bound.1 }

pub returns-in-Header : goal.returns-in-Header
returns-in-Header c = record { by_index = usr-idle c.requires.roomy _ c.in-Header.is (λ S. refl); heads_len = c.requires.segments_bound.1 }

pub returns-in-Body : goal.returns-in-Body
returns-in-Body c = record { by_index = usr-idle c.requires.roomy _ c.in-Body.is (λ S. refl); heads_len = c.requires.segments_bound.1 }

pub returns-in-Ack : goal.returns-in-Ack
returns-in-Ack c = record { by_index = usr-idle c.requires.roomy _ c.in-Ack.is (λ S. refl); heads_len = c.requires.segments_bound.1 }
