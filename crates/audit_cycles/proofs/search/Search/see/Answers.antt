use Rattle.std.proofs.Common.{◌∙◌, false, sym}
use Rattle.std.proofs.lemmas.List.{get_or_default}
use Rattle.audit_cycles.proofs.Searching.{see_new}
use Rattle.audit_cycles.proofs.search.Search.see.Goals as goal

pub returns-in_ok-push-clause-sees : goal.returns-in_ok-push-clause-sees
returns-in_ok-push-clause-sees c =
    see_new c.args.self.now.seen.items c.args.self.now.left.items c.push.new.self.items c.args.p c.requires
    (get_or_default c.args.self.now.seen.items c.args.p false c.index.result.now c.requires ∙ (sym c.index.ensures ∙ c.if-not-index.true)) c.in_ok-push.ensures.items
