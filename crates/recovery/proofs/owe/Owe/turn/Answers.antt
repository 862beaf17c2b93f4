use Rattle.std.proofs.Common.{refl, sym, ◌∙◌}
use Rattle.recovery.proofs.Noting.{makes_as, same_results}
use Rattle.recovery.proofs.Paying.{owe_buys, owe_posts, posted_fresh, unspent, one_spare, may_buy, may_post, bought_lines, posted_none, posted_some}
use Rattle.recovery.proofs.owe.Owe.turn.Goals as goal

pub buy-requires-clause-can : goal.buy-requires-clause-can
buy-requires-clause-can g c = let o = c.args.self.now in let top = c.requires.top in may_buy _ _ o.key.0 o.life o.job top.below top.lines_are (unspent o.bought _ c.requires.credit c.if-not-self.true)

pub returns-then-not-self-clause-lines : goal.returns-then-not-self-clause-lines
returns-then-not-self-clause-lines g c = λ b lines. let o = c.args.self.now in bought_lines _ (g.T.Steps.view c.args.steps.now) o.key.0 o.life o.job b lines _ (g.T.Steps.shown c.buy.new.self).1 c.buy.ensures.step.view_is

pub post-found-requires-clause-can : goal.post-found-requires-clause-can
post-found-requires-clause-can g c = let o = c.args.self.now in let top = c.requires.top in may_post _ _ o.key.0 o.life o.job top.below top.lines_are o.row c.requires.row (one_spare o.bought _ c.requires.credit c.if-not-self.false)

pub returns-then-found-eq0-clause-lines : goal.returns-then-found-eq0-clause-lines
returns-then-found-eq0-clause-lines g c = λ b lines. let o = c.args.self.now in posted_none _ _ o.key.0 o.life o.job b lines _ (g.T.Steps.shown c.post-found.new.self).1 o.row c.requires.row c.post-found.ensures.step.view_is (sym c.post-found.ensures.number ∙ c.if-found-eq0.true)

pub returns-else-found-eq0-clause-lines : goal.returns-else-found-eq0-clause-lines
returns-else-found-eq0-clause-lines g c = λ b lines. let o = c.args.self.now in posted_some _ _ o.key.0 o.life o.job b lines _ (g.T.Steps.shown c.post-found.new.self).1 o.row c.post-found.result c.requires.row c.post-found.ensures.step.view_is c.post-found.ensures.number c.if-found-eq0.false

pub returns-then-not-self-clause-step : goal.returns-then-not-self-clause-step
returns-then-not-self-clause-step g c = makes_as g.T.KeyWords.spare c.buy.ensures.step c.buy.ensures.room refl refl refl _ refl (owe_buys _ c.args.self.now c.if-not-self.true)

pub returns-then-found-eq0-clause-step : goal.returns-then-found-eq0-clause-step
returns-then-found-eq0-clause-step g c = makes_as g.T.KeyWords.spare c.post-found.ensures.step c.post-found.ensures.room refl refl refl _ refl (owe_posts _ c.args.self.now c.if-not-self.false)

pub returns-else-found-eq0-clause-step : goal.returns-else-found-eq0-clause-step
returns-else-found-eq0-clause-step g c = makes_as g.T.KeyWords.spare c.post-found.ensures.step c.post-found.ensures.room refl refl refl _ refl (owe_posts _ c.args.self.now c.if-not-self.false)

pub returns-else-found-eq0-clause-fresh : goal.returns-else-found-eq0-clause-fresh
returns-else-found-eq0-clause-fresh g c = let o = c.args.self.now in posted_fresh _ _ (g.T.Steps.view c.args.steps.now) (g.T.Steps.view c.post-found.new.self) o.row o.key.0 _ o.job c.post-found.ensures.step.table.same_setting c.requires.row c.post-found.ensures.fresh c.if-found-eq0.false

pub returns-then-not-self-clause-results : goal.returns-then-not-self-clause-results
returns-then-not-self-clause-results g c = same_results (makes_as g.T.KeyWords.spare c.buy.ensures.step c.buy.ensures.room refl refl refl _ refl refl)

pub returns-then-found-eq0-clause-results : goal.returns-then-found-eq0-clause-results
returns-then-found-eq0-clause-results g c = same_results (makes_as g.T.KeyWords.spare c.post-found.ensures.step c.post-found.ensures.room refl refl refl _ refl refl)

pub returns-else-found-eq0-clause-results : goal.returns-else-found-eq0-clause-results
returns-else-found-eq0-clause-results g c = same_results (makes_as g.T.KeyWords.spare c.post-found.ensures.step c.post-found.ensures.room refl refl refl _ refl refl)
