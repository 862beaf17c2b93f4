-- The calls of all kernels against the records of all views.
use Rattle.std.proofs.Common.{◌≡◌, ◌≢◌, ◌∙◌, All, ⊎_elim, ℕ, ℤ, zero, suc, ◌+◌, ◌<◌, Bool, true, false, cond, eqb, ◌&&◌, List, [], ◌∷◌, ◌++◌, Option, None, Result, Ok, Err, length, slice_index_or, ap, subst, sym, refl, arith}
use mathlib.Core.Logic.{dite}
use native.Mathlib.Decide.{ℕ_discrete}
use Rattle.graph_model.specs.Graph.{Graph as TaskGraph, IsTask}
use Rattle.graph_model.specs.Notes.{Note}
use Rattle.graph_model.specs.Reaching.{IsReachable}
use Rattle.graph_model.specs.declared.record.Record.{Record}
use Rattle.graph_model.specs.declared.record.Record.TheVariants as record_of
use Rattle.core_state.specs.Counts.{bump, count, noted, total_of}
use Rattle.core_state.specs.Tests.{is_any_replaced, is_computed, two}
use Rattle.core_state.specs.Rooted.{root_key}
use Rattle.core_state.specs.declared.views.View.{View}
use Rattle.core_state.proofs.Seats.View.{count_both}
use Rattle.core_state.proofs.Base.Sums.{total_add, total_below}
use Rattle.core_steps.specs.Table.{is_kept, is_root_replaced, view_in}
use Rattle.core_state.specs.Graph.{Reached, Setting}
use Rattle.core_state.specs.Sure.{IsSure}
use Rattle.core_state.proofs.Start.Setting.{needed_of}
use Rattle.core_state.specs.declared.block.BlockCells.{BlockCells}
use Rattle.core_laws.specs.Lists.{AreOfTasks}
use Rattle.worker_pool.specs.Ends.{HasAllRecords, RunCalls}
use Rattle.worker_pool.specs.declared.end.Why.{Why}
use Rattle.worker_pool.specs.declared.end.Why.TheVariants as why
use Rattle.worker_pool.proofs.Closing.{kept_computed, no_root_computed}
use Rattle.worker_pool.proofs.Calls.{none_added}
use Rattle.worker_pool.specs.Calling.{AddCalls, AddsCalls, CalledAsRecorded, HasCalled, OnlyCalled, all_calls, calls_for}
use Rattle.worker_pool.specs.Joining.{HaveEnded}
use Rattle.worker_pool.specs.Pooling.{IsRun, KernelsCalled}
use Rattle.worker_pool.proofs.Threading.Joining.{noted_adds}

-- the new calls of all kernels, and how often each of them was made
pub record AreGathered (before now : List (Option (List Note))) (vs : List View) : Type 0 where
  pub news : List (List Note)
  pub calls : AddCalls before now news
  pub as_often : (k l : ℕ) → k ≢ root_key → calls_for k l (all_calls news) ≡ total_of vs (noted (is_computed k l))
  pub of_tasks : (l : ℕ) → calls_for root_key l (all_calls news) ≡ 0

both_for : (k l : ℕ) (xs ys : List Note) → calls_for k l (xs ++ ys) ≡ calls_for k l xs + calls_for k l ys
both_for k l xs ys = count_both (λ n. two k l n.0 n.1) xs ys

-- one kernel more in front
gathered_more : (b c : Option (List Note)) (bs cs : List (Option (List Note))) (v : View) (vs : List View) → HasCalled b c v → AreGathered bs cs vs → AreGathered (b ∷ bs) (c ∷ cs) (v ∷ vs)
unfolding total_of
gathered_more b c bs cs v vs one more = record {
  news = one.news ∷ more.news;
  calls = record {
    same_count = let a = more.calls.same_count in omega (arith, a);
    news_count = let a = more.calls.news_count in omega (arith, a);
    each = each;
  };
  as_often = λ k l ne. let a = both_for k l one.news (all_calls more.news) in let b = one.as_often k l ne in let d = more.as_often k l ne in omega (arith, a, b, d);
  of_tasks = λ l. let a = both_for root_key l one.news (all_calls more.news) in let b = one.of_tasks l in let d = more.of_tasks l in omega (arith, a, b, d);
}
  where
    each : (i : ℕ) → i < length (b ∷ bs) → AddsCalls (slice_index_or (b ∷ bs) i None) (slice_index_or (c ∷ cs) i None) (slice_index_or (one.news ∷ more.news) i [])
    each zero low = one.calls_are
    each (suc i) low = more.calls.each i (omega (arith, low))

pub gathered : (before now : List (Option (List Note))) (vs : List View) → length now ≡ length before → length vs ≡ length before → ((i : ℕ) → i < length before → HasCalled (slice_index_or before i None) (slice_index_or now i None) (view_in vs i)) → AreGathered before now vs
unfolding total_of
gathered [] [] [] same count each = record { news = []; calls = record { same_count = refl; news_count = refl; each = λ i low. absurd (omega (arith, low)) }; as_often = λ k l ne. refl; of_tasks = λ l. refl }
gathered [] (c ∷ cs) vs same count each = absurd (omega (arith, same))
gathered [] [] (v ∷ vs) same count each = absurd (omega (arith, count))
gathered (b ∷ bs) [] vs same count each = absurd (omega (arith, same))
gathered (b ∷ bs) (c ∷ cs) [] same count each = absurd (omega (arith, count))
gathered (b ∷ bs) (c ∷ cs) (v ∷ vs) same count each = gathered_more b c bs cs v vs (each 0 (omega arith)) (gathered bs cs vs (omega (arith, same)) (omega (arith, count)) (λ i low. each (suc i) (omega (arith, low))))

-- where the records are those of all views, but for those of the root, calls and recorded results are as many of each
pub called_as_recorded : (before now : List (Option (List Note))) (vs : List View) (records : List Record) → length vs ≡ length before → KernelsCalled before now vs → ((k l : ℕ) → k ≢ root_key → count (is_computed k l) records ≡ total_of vs (noted (is_computed k l))) → ((l : ℕ) → count (is_computed root_key l) records ≡ 0) → CalledAsRecorded before now records
called_as_recorded before now vs records many called of_tasks of_root = let all = gathered before now vs called.same_count many called.each in record {
  news = all.news;
  calls = all.calls;
  as_often = λ k l. dite (ℕ_discrete k root_key)
      (λ is. subst (λ x. calls_for x l (all_calls all.news) ≡ count (is_computed x l) records) (sym is) (all.of_tasks l ∙ sym (of_root l)))
      (λ ne. all.as_often k l ne ∙ sym (of_tasks k l ne));
}

-- where the views have noted something, one of them has
some_view : (P : View → Type 0) (vs : List View) (f : View → ℕ) → All P vs → 0 < total_of vs f → (v : View) × P v × (0 < f v)
unfolding total_of
some_view P [] f all z = absurd (omega (arith, z))
some_view P (v ∷ vs) f all z = dite (ℕ_discrete (f v) 0)
    (λ none. some_view P vs f (λ i d low. all (suc i) d (omega (arith, low))) (omega (arith, none, z)))
    (λ some. (v, all 0 v (omega arith), omega (arith, some)))

-- what a view has noted is of a task that the sink needs
needed_by : (g : TaskGraph) (e : Setting) (v : View) → IsRun g e → IsSure e v → (k l : ℕ) → k ≢ root_key → 0 < noted (is_computed k l) v → IsTask g k × IsReachable g k
needed_by g e v run sure k l ne some = ⊎_elim (λ is. absurd (ne is)) (λ needed. needed)
    (needed_of g run.outcome run.laws k (subst (λ (d : Setting). Reached d.graph k) run.setting_is (sure.computed k l some)))

-- whatever the views have noted, no call is lost, and each is for a task that the sink needs
pub only_called : (g : TaskGraph) (e : Setting) (before now : List (Option (List Note))) (vs : List View) → IsRun g e → All (IsSure e) vs → length vs ≡ length before → KernelsCalled before now vs → OnlyCalled g before now
only_called g e before now vs run sure many called = let all = gathered before now vs called.same_count many called.each in record {
  news = all.news;
  calls = all.calls;
  needed = λ k l z. dite (ℕ_discrete k root_key)
      (λ is. absurd (let a = subst (λ x. calls_for x l (all_calls all.news) ≡ 0) (sym is) (all.of_tasks l) in omega (arith, a, z)))
      (λ ne. let a = all.as_often k l ne in let r = some_view (IsSure e) vs (noted (is_computed k l)) sure (omega (arith, a, z)) in needed_by g e r.0 run r.1 k l ne r.2);
}

-- kernels that were not called at all
pub none_called_at_all : (g : TaskGraph) (before : List (Option (List Note))) → OnlyCalled g before before
none_called_at_all g [] = record { news = []; calls = record { same_count = refl; news_count = refl; each = λ i low. absurd (omega (arith, low)) }; needed = λ k l called. absurd (let a : 0 < 0 = called in omega (arith, a)) }
none_called_at_all g (b ∷ bs) = let rest = none_called_at_all g bs in record {
  news = [] ∷ rest.news;
  calls = record {
    same_count = refl;
    news_count = let a = rest.calls.news_count in omega (arith, a);
    each = each rest;
  };
  needed = rest.needed;
}
  where
    each : (rest : OnlyCalled g bs bs) (i : ℕ) → i < length (b ∷ bs) → AddsCalls (slice_index_or (b ∷ bs) i None) (slice_index_or (b ∷ bs) i None) (slice_index_or ([] ∷ rest.news) i [])
    each rest zero low = none_added b
    each rest (suc i) low = rest.calls.each i (omega (arith, low))

-- The records of a closed table have the results of all its workers' views.
pub all_recorded : (e : Setting) (vs : List View) (ws : List ℕ) (bs : List (Option BlockCells)) (tasks root records : List Record) (before now : List (Option (List Note)))
    → HaveEnded e vs ws bs tasks root → e.graph.root ≡ root_key → AreOfTasks e.graph tasks → length vs ≡ length before → KernelsCalled before now vs
    → ((k l : ℕ) → count (is_computed k l) records ≡ count (is_computed k l) tasks) → CalledAsRecorded before now records
all_recorded e vs ws bs tasks root records before now ended at_root of_tasks many called same = called_as_recorded before now vs records many called
    (λ k l ne. kept_computed e.graph.root k l (λ is. ne (is ∙ at_root)) ended.views (count (is_computed k l) records) (same k l ∙ ended.closing.others (is_computed k l)) ∙ ended.all (noted (is_computed k l)) (noted_adds (is_computed k l)))
    (λ l. subst (λ r. count (is_computed r l) records ≡ 0) at_root (same e.graph.root l ∙ no_root_computed e.graph l tasks of_tasks))

-- each replacement is a record of tasks or one of the root's
split_replaced : (root : ℕ) (xs : List Record) → count is_any_replaced xs ≡ count (λ x. is_any_replaced x && is_kept root x) xs + count (λ x. is_any_replaced x && is_root_replaced root x) xs
split_replaced root [] = refl
split_replaced root (x ∷ xs) = by x (split_replaced root xs)
  where
    apart : (b : Bool) (n m : ℕ) → bump true (n + m) ≡ bump (true && cond b false true) n + bump (true && (b && true)) m
    apart true n m = omega arith
    apart false n m = omega arith

    by : (x : Record) → count is_any_replaced xs ≡ count (λ x. is_any_replaced x && is_kept root x) xs + count (λ x. is_any_replaced x && is_root_replaced root x) xs
        → count is_any_replaced (x ∷ xs) ≡ count (λ x. is_any_replaced x && is_kept root x) (x ∷ xs) + count (λ x. is_any_replaced x && is_root_replaced root x) (x ∷ xs)
    by (record_of.Replaced key life c) rest = ap (bump true) rest ∙ apart (eqb root key.0) _ _
    by (record_of.Created key) rest = rest
    by (record_of.Spent key life place) rest = rest
    by (record_of.Computed key life) rest = rest
    by (record_of.Written key life block version) rest = rest
    by (record_of.Closed key life word) rest = rest
    by (record_of.Struck key life h) rest = rest

-- The records of a closed table have the replacements of all its workers' views.
pub replaced_recorded : (e : Setting) (vs : List View) (ws : List ℕ) (bs : List (Option BlockCells)) (tasks root : List Record) → HaveEnded e vs ws bs tasks root → count is_any_replaced (tasks ++ root) ≡ total_of vs (noted is_any_replaced)
replaced_recorded e vs ws bs tasks root ended =
    let kept : View → ℕ = noted (λ x. is_any_replaced x && is_kept e.graph.root x) in let own : View → ℕ = noted (λ x. is_any_replaced x && is_root_replaced e.graph.root x) in
    let a = count_both is_any_replaced tasks root in let b = ended.closing.others is_any_replaced in let c = ended.closing.replaced is_any_replaced in let d = total_add ended.views kept own in
    let low = total_below ended.views (λ v. kept v + own v) (noted is_any_replaced) (λ v. let s = split_replaced e.graph.root v.records in omega (arith, s)) in
    let high = total_below ended.views (noted is_any_replaced) (λ v. kept v + own v) (λ v. let s = split_replaced e.graph.root v.records in omega (arith, s)) in
    let all = ended.all (noted is_any_replaced) (noted_adds is_any_replaced) in omega (arith, a, b, c, d, low, high, all)

-- the kernels' calls of a run, by what it came to
pub run_calls : (g : TaskGraph) (before now : List (Option (List Note))) (value : Result (List ℤ) Why) (records : List Record) → OnlyCalled g before now → (HasAllRecords value → CalledAsRecorded before now records) → RunCalls g before now value records
run_calls g before now (Ok x) records only all = all tt
run_calls g before now (Err why.OutOfMemory) records only all = only
run_calls g before now (Err (why.LivesSpent k l c)) records only all = all tt
run_calls g before now (Err (why.ScheduleShort pending)) records only all = all tt
