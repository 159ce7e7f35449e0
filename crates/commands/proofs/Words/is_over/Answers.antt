use Rattle.std.proofs.Common.{◌≡◌, ◌↔◌, [], subst, sym, IsTrue}
use Rattle.commands.proofs.LinesLaws.{over_is}
use Rattle.commands.proofs.Words.is_over.Goals as goal

pub returns : goal.returns
returns c =
    subst (λ w. IsTrue c.is_none.result ↔ (w ≡ [])) c.self.view_is (over_is c.self.inside.left c.is_none.result (sym c.is_none.ensures))
