use mathlib.Core.Path.{ap}
use Rattle.std.specs.Prelude.{Ok, Some}
use Rattle.std.proofs.Math.Option.{some}
use borrow.Author.Rules.{rules}
use Rattle.f01.specs.ReferringLaws.{refers-headless, refers-unlinked, refers-linked}
use Rattle.f01.proofs.reference_in.Goals as goal

pub returns-in_err-header_of : goal.returns-in_err-header_of
returns-in_err-header_of c = λ m h. search (refers-headless h c.args.scope.now c.args.header.now c.header_of.ensures, rules)

pub returns-in_err-link : goal.returns-in_err-link
returns-in_err-link c = λ m h. search (refers-unlinked h c.args.scope.now c.args.header.now c.header_of.ensures c.in_ok-header_of.was c.link_named.ensures, rules)

pub returns : goal.returns
returns c = λ m h. refers-linked h c.args.scope.now c.args.header.now c.header_of.ensures c.in_ok-header_of.was c.link_named.ensures (Ok (Some c.usx_reference.result)) c.in_ok-link.was (ap some c.usx_reference.ensures)
