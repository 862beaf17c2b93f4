use Rattle.std.proofs.Common.{sym, subst, ◌∙◌}
use Rattle.worker_pool.specs.Closing.{ClosedTells, StopShown}
use Rattle.worker_pool.specs.Ends.{WasLeft}
use Rattle.worker_pool.proofs.Ends.{ended_computed, ended_tells, left_pending, no_value, not_whole, was_left}
use Rattle.worker_pool.proofs.laws.ended.Goals as goal

pub returns-in-Some-clause-tells : goal.returns-in-Some-clause-tells
returns-in-Some-clause-tells g c outcome strikes lives is = let a = c.args.closed in ended_tells (g.G.TaskGraph.graph c.args.graph.now) outcome strikes lives a.pending a.root a.records.items a.root_replaced.items (subst (λ e. ClosedTells e a.pending a.root a.records.items a.root_replaced.items) is c.laws_of.ensures) c.args.stop _ _ (subst (λ e. ∥ WasLeft e a.pending a.records.items a.root_replaced.items ∥₁) is (was_left g.C.Course.setting a.pending a.words.items a.blocks.items a.records.items a.root_replaced.items a.pending_is a.meets)) (subst (λ e. StopShown e a.records.items a.root_replaced.items c.args.stop) is c.requires)
    (not_whole c.args.stop a.pending (sym c.is_whole-whole.ensures ∙ c.if-whole.false)) c.ended_by-why.ensures

pub returns-in-Some-clause-computed : goal.returns-in-Some-clause-computed
returns-in-Some-clause-computed g c none k l = let a = c.args.closed in ended_computed g.C.Course.setting.graph a.records.items a.root_replaced.items c.laws_of.ensures.of_root.replaced _ c.args.stop a.pending _ _ c.ended_by-why.ensures none k l

pub returns-clause-tells : goal.returns-clause-tells
returns-clause-tells g c outcome strikes lives is = let a = c.args.closed in ended_tells (g.G.TaskGraph.graph c.args.graph.now) outcome strikes lives a.pending a.root a.records.items a.root_replaced.items (subst (λ e. ClosedTells e a.pending a.root a.records.items a.root_replaced.items) is c.laws_of.ensures) c.args.stop _ _ (subst (λ e. ∥ WasLeft e a.pending a.records.items a.root_replaced.items ∥₁) is (was_left g.C.Course.setting a.pending a.words.items a.blocks.items a.records.items a.root_replaced.items a.pending_is a.meets)) (subst (λ e. StopShown e a.records.items a.root_replaced.items c.args.stop) is c.requires)
    (λ over. no_value g.C.Course.setting a.pending a.root a.records.items a.root_replaced.items c.laws_of.ensures c.in-None.is) c.ended_by-why-in-None.ensures

pub returns-clause-computed : goal.returns-clause-computed
returns-clause-computed g c none k l = let a = c.args.closed in ended_computed g.C.Course.setting.graph a.records.items a.root_replaced.items c.laws_of.ensures.of_root.replaced _ c.args.stop a.pending _ _ c.ended_by-why-in-None.ensures none k l

pub returns-in-Some-clause-short : goal.returns-in-Some-clause-short
returns-in-Some-clause-short g c = let a = c.args.closed in left_pending _ c.args.stop a.pending a.records.items a.root_replaced.items _ _ (not_whole c.args.stop a.pending (sym c.is_whole-whole.ensures ∙ c.if-whole.false)) c.ended_by-why.ensures

pub returns-clause-short : goal.returns-clause-short
returns-clause-short g c = let a = c.args.closed in left_pending _ c.args.stop a.pending a.records.items a.root_replaced.items _ _
    (λ over. no_value g.C.Course.setting a.pending a.root a.records.items a.root_replaced.items c.laws_of.ensures c.in-None.is) c.ended_by-why-in-None.ensures
