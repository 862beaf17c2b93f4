-- Workers begin: the first is to explore the root, so something is pending, and no other is named by a schedule before it has a turn.
use Rattle.std.proofs.Common.{◌≡◌, ◌≢◌, ◌∙◌, ℕ, zero, suc, ◌-◌, ◌%◌, ◌<◌, List, [], Some, replicate, slice_get, inl, inr, ap, subst, sym, refl, arith}
use mathlib.Core.Logic.{dite}
use native.Mathlib.Decide.{ℕ_discrete}
use Rattle.graph_model.specs.Graph.{Graph as TaskGraph}
use Rattle.graph_model.specs.declared.plan.Strike.{Strike}
use Rattle.core_state.specs.Counts.{stack_count}
use Rattle.core_state.specs.Graph.{Setting}
use Rattle.core_state.specs.Rooted.{root_key}
use Rattle.core_state.specs.Views.{all_parts, bare, opener}
use Rattle.core_state.specs.declared.views.View.{View}
use Rattle.core_steps.specs.Table.{IsSound, Plain, first_views, view_in}
use Rattle.run_bounds.specs.Moving.{IsListed}
use Rattle.run_bounds.specs.Shared.{Actor, AreNamed}
use Rattle.run_bounds.specs.Storm.{IsStormRun}
use Rattle.run_bounds.specs.Struck.{core_in}
use Rattle.run_bounds.proofs.Tables.{pending_table}
use Rattle.worker_pool.specs.Pooling.{AreNew, WorkersHold}
use Rattle.worker_pool.specs.Sharing.{Begins, actor_of, actors_of, doing_of}
use Rattle.worker_pool.specs.declared.worker.Worker.{Worker}
use Rattle.worker_pool.proofs.First.{all_at}
use Rattle.worker_pool.proofs.Sharing.Actors.{actor_at, actors_held, actors_many, all_views, worker_at}
use Rattle.worker_pool.proofs.Sharing.Looking.{some_worker}
use Rattle.worker_pool.proofs.Sharing.Tables.{part_table}
use Rattle.run_bounds.proofs.Shared.Beginning.{IsFree, shares_begin}
use Rattle.run_bounds.proofs.Shared.Going.{begun_on}

-- a view that has made nothing yet
abbrev IsBlank : View → Type 0
IsBlank v = (v.stacks ≡ []) × (v.records ≡ [])

many_blank : (count i : ℕ) → IsBlank (view_in (replicate count (bare 1 [])) i)
many_blank zero i = (refl, refl)
many_blank (suc count) zero = (refl, refl)
many_blank (suc count) (suc i) = many_blank count i

others_blank : (e : Setting) (count i : ℕ) → 0 < i → IsBlank (view_in (first_views e count) i)
others_blank e count zero low = absurd (omega (arith, low))
others_blank e count (suc i) low = many_blank (count - 1) i

module _ (g : TaskGraph) (strikes : List Strike) (e : Setting) (run : IsStormRun g strikes e) (p : Plain) (ws : List Worker) (count : ℕ) (low : 0 < count) (views : p.views ≡ first_views e count) (new : AreNew g (root_key % e.shape.rows) count ws) (hold : WorkersHold g e p.views ws) (sound : IsSound e p) where
  first_worker : (w : Worker) × (slice_get ws 0 ≡ Some w)
  first_worker = some_worker ws 0 (let a = new.same_count in omega (arith, a, low))

  opening : view_in p.views 0 ≡ opener (all_parts - (count - 1)) root_key (root_key % e.shape.rows)
  opening = ap (λ (vs : List View). view_in vs 0) views ∙ ap (λ (k : ℕ). opener (all_parts - (count - 1)) k (k % e.shape.rows)) (ap (λ (d : Setting). d.graph.root) run.setting_is)

  -- the others have nothing to do
  others : (i : ℕ) (a : Actor) → 0 < i → slice_get (actors_of p.views ws) i ≡ Some a → IsFree a
  others i a behind at = let here = worker_at p.views ws i a at in let blank = subst (λ (vs : List View). IsBlank (view_in vs i)) (sym views) (others_blank e count i behind) in
      subst IsFree here.2 (record { rests = ap doing_of (new.others i here.0 behind here.1); no_hints = all_at (λ (x : Worker). x.hints.items ≡ []) ws i here.0 new.no_hints here.1; no_stacks = blank.0; no_records = blank.1 })

  -- the first has a stack
  some_pending : (core_in p).word Rattle.core_state.specs.Words.pending ≢ 0
  some_pending none = let part = part_table e p sound 0 (let a = new.same_count in let b = hold.same_count in omega (arith, a, b, low)) in let sum = sound.holds.work.credits.sum in let a = part.within stack_count in let b = ap stack_count opening in omega (arith, sum, a, b, none)

  named : (schedule : List ℕ) → IsListed schedule 0 → AreNamed schedule (actors_of p.views ws)
  named schedule listed = λ i a at. dite (ℕ_discrete i 0)
      (λ first. inl (subst (IsListed schedule) (sym first) listed))
      (λ behind. let rest = others i a (omega (arith, behind)) at in inr (rest.rests, rest.no_hints))

  pub workers_begin : Begins g strikes e p ws
  workers_begin = record {
    run = run;
    sound = sound;
    some = λ none. some_pending (pending_table e p sound ∙ none);
    none_made = λ schedule listed. let w : Worker = first_worker.0 in let first = new.first w first_worker.1 in
        begun_on (shares_begin g strikes e run (core_in p) sound.setting sound.holds (actors_of p.views ws) (λ f. all_views p.views ws f hold.same_count) (actor_of (view_in p.views 0) w) (all_parts - (count - 1)) (root_key % e.shape.rows) (actor_at p.views ws 0 w hold.same_count first_worker.1) opening others
        first.0 (ap doing_of first.1) first.2 (all_at (λ (x : Worker). x.hints.items ≡ []) ws 0 w new.no_hints first_worker.1))
        (actors_held g e p.views ws hold) (let a = actors_many p.views ws hold.same_count in let b = new.same_count in let c = hold.same_count in omega (arith, a, b, c, low)) some_pending listed (named schedule listed);
  }
