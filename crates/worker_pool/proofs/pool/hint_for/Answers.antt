use Rattle.std.proofs.Common.{◌≡◌, ◌∙◌, ◌%◌, ◌+◌, ◌<◌, ℕ, List, ap, arith, length, length-set, set, slice_get, subst, sym}
use mathlib.Core.Logic.{dite}
use native.Mathlib.Decide.{ℕ_discrete}
use Rattle.worker_pool.specs.Sharing.{IsTakenFrom, all_hints}
use Rattle.worker_pool.proofs.Sharing.Looking.{first_round, gives_hint, gives_none, none_met, none_there}
use Rattle.worker_pool.proofs.Pooling.{held_at, hints_hold, works_stay}
use Rattle.worker_pool.proofs.pool.hint_for.Goals as goal

pub returns-in-Some-clause-works : goal.returns-in-Some-clause-works
returns-in-Some-clause-works c = works_stay _ c.args.worker c.index_mut.result.now _ c.requires c.index_mut.ensures.value c.newest_hint.ensures.same

pub returns-in-Some-clause-holds : goal.returns-in-Some-clause-holds
returns-in-Some-clause-holds c = λ g e vs. hints_hold _ c.args.worker c.index_mut.result.now _ c.requires c.index_mut.ensures.value c.newest_hint.ensures.same g e vs c.newest_hint.ensures.hints

pub returns-in-Some-clause-row : goal.returns-in-Some-clause-row
returns-in-Some-clause-row c = λ g e vs hold. c.in-Some.ensures.row e.shape.rows (held_at g e vs _ c.args.worker c.index_mut.result.now c.requires c.index_mut.ensures.value hold).hints

pub returns-in-Some-clause-taken : goal.returns-in-Some-clause-taken
returns-in-Some-clause-taken c = gives_hint c.args.workers.now.items c.args.worker c.index_mut.result.now c.newest_hint.new.self c.requires c.index_mut.ensures.value c.in-Some.row c.in-Some.ensures.taken

pub loop-i-init : goal.loop-i-init
loop-i-init c = record {
  count = length-set c.args.workers.now.items c.args.worker _;
  works = works_stay _ c.args.worker c.index_mut.result.now _ c.requires c.index_mut.ensures.value c.newest_hint.ensures.same;
  holds = λ g e vs. hints_hold _ c.args.worker c.index_mut.result.now _ c.requires c.index_mut.ensures.value c.newest_hint.ensures.same g e vs c.newest_hint.ensures.hints;
  hints = gives_none c.args.workers.now.items c.args.worker c.index_mut.result.now c.newest_hint.new.self c.requires c.index_mut.ensures.value c.in_default.ensures.taken;
  none = λ j low hints at. let here : (c.args.worker + j) % length c.args.workers.now.items ≡ c.args.worker = first_round (length c.args.workers.now.items) c.args.worker j c.requires low in
      none_there c.args.workers.now.items c.args.worker c.index_mut.result.now c.newest_hint.new.self c.requires c.index_mut.ensures.value c.in_default.ensures.taken.0 hints (ap (slice_get (all_hints c.args.workers.now.items)) (sym here) ∙ at);
}

pub returns-in-Some-oldest_hint-clause-works : goal.returns-in-Some-oldest_hint-clause-works
returns-in-Some-oldest_hint-clause-works c = let at = (c.args.worker + c.loop-i.i) % c.len-count.result in let low : at < length c.loop-i.workers.items = omega arith in
    works_stay _ at c.index_mut-in-loop-i.result.now _ low c.index_mut-in-loop-i.ensures.value c.oldest_hint.ensures.same ∙ c.loop-i.invariant.works

pub returns-in-Some-oldest_hint-clause-holds : goal.returns-in-Some-oldest_hint-clause-holds
returns-in-Some-oldest_hint-clause-holds c = let at = (c.args.worker + c.loop-i.i) % c.len-count.result in let low : at < length c.loop-i.workers.items = omega arith in
    λ g e vs hold. hints_hold _ at c.index_mut-in-loop-i.result.now _ low c.index_mut-in-loop-i.ensures.value c.oldest_hint.ensures.same g e vs c.oldest_hint.ensures.hints (c.loop-i.invariant.holds g e vs hold)

pub returns-in-Some-oldest_hint-clause-row : goal.returns-in-Some-oldest_hint-clause-row
returns-in-Some-oldest_hint-clause-row c = let at = (c.args.worker + c.loop-i.i) % c.len-count.result in let low : at < length c.loop-i.workers.items = omega arith in
    λ g e vs hold. c.in-Some-oldest_hint.ensures.row e.shape.rows (held_at g e vs _ at c.index_mut-in-loop-i.result.now low c.index_mut-in-loop-i.ensures.value (c.loop-i.invariant.holds g e vs hold)).hints

pub returns-in-Some-oldest_hint-clause-taken : goal.returns-in-Some-oldest_hint-clause-taken
returns-in-Some-oldest_hint-clause-taken c = let at = (c.args.worker + c.loop-i.i) % c.len-count.result in let low : at < length c.loop-i.workers.items = omega arith in
    subst (λ (hs : List (List ℕ)). IsTakenFrom c.in-Some-oldest_hint.row hs (all_hints (set c.loop-i.workers.items at c.oldest_hint.new.self))) c.loop-i.invariant.hints
    (gives_hint c.loop-i.workers.items at c.index_mut-in-loop-i.result.now c.oldest_hint.new.self low c.index_mut-in-loop-i.ensures.value c.in-Some-oldest_hint.row c.in-Some-oldest_hint.ensures.taken)

pub returns-clause-taken : goal.returns-clause-taken
returns-clause-taken c = none_met c.args.workers.now.items c.loop-i.workers.items c.args.worker c.requires c.loop-i.invariant.hints (λ j low. c.loop-i.invariant.none j (omega (arith, low, c.len-count.ensures)))

pub loop-i-preserved : goal.loop-i-preserved
loop-i-preserved c = let at = (c.args.worker + c.loop-i.i) % c.len-count.result in let low : at < length c.loop-i.workers.items = omega arith in
    let many : c.len-count.result ≡ length c.args.workers.now.items = omega (arith, c.len-count.ensures, c.loop-i.invariant.count) in
    record {
      count = length-set c.loop-i.workers.items at _ ∙ c.loop-i.invariant.count;
      works = works_stay _ at c.index_mut-in-loop-i.result.now _ low c.index_mut-in-loop-i.ensures.value c.oldest_hint.ensures.same ∙ c.loop-i.invariant.works;
      holds = λ g e vs hold. hints_hold _ at c.index_mut-in-loop-i.result.now _ low c.index_mut-in-loop-i.ensures.value c.oldest_hint.ensures.same g e vs c.oldest_hint.ensures.hints (c.loop-i.invariant.holds g e vs hold);
      hints = gives_none c.loop-i.workers.items at c.index_mut-in-loop-i.result.now c.oldest_hint.new.self low c.index_mut-in-loop-i.ensures.value c.in_default-oldest_hint.ensures.taken ∙ c.loop-i.invariant.hints;
      none = λ j low' hints there. dite (ℕ_discrete j c.loop-i.i)
          (λ here. none_there c.loop-i.workers.items at c.index_mut-in-loop-i.result.now c.oldest_hint.new.self low c.index_mut-in-loop-i.ensures.value c.in_default-oldest_hint.ensures.taken.0 hints
          (ap (λ (hs : List (List ℕ)). slice_get hs at) c.loop-i.invariant.hints ∙ ap (slice_get (all_hints c.args.workers.now.items)) (ap (λ (n : ℕ). (c.args.worker + c.loop-i.i) % n) many ∙ ap (λ (n : ℕ). (c.args.worker + n) % length c.args.workers.now.items) (sym here)) ∙ there))
          (λ other. c.loop-i.invariant.none j (omega (arith, low', other)) hints there);
    }
