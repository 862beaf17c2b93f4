use Rattle.std.proofs.Common.{◌≡◌, ◌∙◌, ◌≤◌, ap, length, subst, sym}
use Rattle.std.proofs.lemmas.List.{length-map}
use Rattle.std.proofs.lemmas.Result.{IfErr-weaker}
use Rattle.core_laws.proofs.Holding.{of_tasks}
use Rattle.core_state.specs.Graph.{Setting}
use Rattle.task_table.specs.Passes.{Passing}
use Rattle.worker_pool.specs.Closing.{LeavesPending}
use Rattle.worker_pool.specs.Ends.{IsNotShort}
use Rattle.worker_pool.specs.Joining.{views_of}
use Rattle.worker_pool.proofs.Ends.{not_short}
use Rattle.worker_pool.proofs.Sums.{all_recorded, only_called, run_calls}
use Rattle.worker_pool.proofs.Threading.Tells.{home_of, no_hands, quiet_of, stop_tells, views_sure}
use Rattle.worker_pool.proofs.threads.close_left.Goals as goal

pub returns-in_default-clause-calls : goal.returns-in_default-clause-calls
returns-in_default-clause-calls g c = λ before now many called run. let ps = c.args.left.passes.items in only_called _ g.C.Course.setting before now (views_of ps) run (views_sure g.C.Course.setting ps c.requires.sure) (length-map ps (λ (p : Passing). p.view) ∙ sym many) called

pub close-requires-clause-hands : goal.close-requires-clause-hands
close-requires-clause-hands g c = let left = c.args.left in no_hands left.passes.items (home_of g.C.Course.setting (views_of left.passes.items) left.ending _ (sym c.stop.ensures ∙ c.in-Some.is) c.requires.tells)

pub returns-in_default-close-clause-calls : goal.returns-in_default-close-clause-calls
returns-in_default-close-clause-calls g c = λ before now many called run. let ps = c.args.left.passes.items in only_called _ g.C.Course.setting before now (views_of ps) run (views_sure g.C.Course.setting ps c.requires.sure) (length-map ps (λ (p : Passing). p.view) ∙ sym many) called

pub ended-requires-after_bounds : goal.ended-requires-after_bounds
ended-requires-after_bounds g c κs within = let left = c.args.left in c.stop_shown.ensures (views_of left.passes.items) c.in-Some-close.ensures (stop_tells g.C.Course.setting (views_of left.passes.items) left.ending _ (sym c.stop.ensures ∙ c.in-Some.is) c.requires.tells)

pub returns-clause-calls : goal.returns-clause-calls
returns-clause-calls g c = λ before now many called run. let left = c.args.left in let closed = c.in-Some-close.closed in let vs = views_of left.passes.items in let e = g.C.Course.setting in
    let count : length vs ≡ length before = length-map left.passes.items (λ (p : Passing). p.view) ∙ sym many in
    run_calls _ before now c.ended.result.0 c.ended.result.1.items (only_called _ e before now vs run (views_sure e left.passes.items c.requires.sure) count called)
    (λ all. all_recorded e vs closed.words.items closed.blocks.items closed.records.items closed.root_replaced.items c.ended.result.1.items before now c.in-Some-close.ensures (ap (λ (s : Setting). s.graph.root) run.setting_is) (of_tasks e _ _ _ _ closed.meets) count called (c.ended.ensures.computed all))

pub returns-clause-waits : goal.returns-clause-waits
returns-clause-waits g c = let left = c.args.left in let closed = c.in-Some-close.closed in let vs = views_of left.passes.items in
    let quiet = quiet_of g.C.Course.setting vs closed.words.items closed.blocks.items closed.records.items closed.root_replaced.items closed.pending
    (subst (λ n. 1 ≤ n) (sym (length-map left.passes.items (λ (p : Passing). p.view))) c.requires.some) c.in-Some-close.ensures closed.pending_is left.ending c.in-Some.stop (sym c.stop.ensures ∙ c.in-Some.is) c.requires.tells in
    IfErr-weaker c.ended.result.0 (λ why. LeavesPending c.in-Some.stop closed.pending closed.records.items closed.root_replaced.items why c.ended.result.1.items) IsNotShort
    (λ why left_so. not_short c.in-Some.stop closed.pending closed.records.items closed.root_replaced.items why c.ended.result.1.items quiet left_so) c.ended.ensures.short
