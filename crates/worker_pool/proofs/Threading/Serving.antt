-- One thread: what a turn leaves of its worker, and how the worker ends.
use Rattle.std.proofs.Common.{◌≡◌, ◌∙◌, ℕ, ◌<◌, ℤ, Bool, true, false, List, ◌∷◌, IfSome, Option, None, Some, All, ap, not, subst, sym, refl, arith}
use mathlib.Core.Bool.{true≢false}
use Rattle.graph_model.specs.Graph.{Graph as TaskGraph}
use Rattle.graph_model.specs.Serial.{Outcome}
use Rattle.graph_model.specs.declared.record.Cause.{Cause}
use Rattle.core_state.specs.Counts.{count, facts, items}
use Rattle.core_state.specs.Graph.{Graph, Plan, Setting}
use Rattle.core_state.specs.Events.{after, Event as event}
use Rattle.core_state.specs.Tests.{is_idle as is_seen_idle, is_suspect_for}
use Rattle.core_state.specs.Views.{is_finished, on_top, unfinished}
use Rattle.core_state.specs.declared.views.Item.{Item}
use Rattle.core_state.specs.declared.views.Item.TheVariants as item
use Rattle.core_state.specs.declared.views.Known.TheVariants as known
use Rattle.core_state.specs.declared.views.Stack.{Stack}
use Rattle.core_state.specs.declared.views.View.{View}
use Rattle.core_state.proofs.Base.Counting.{bump_is}
use Rattle.core_state.proofs.Settle.View.{settled_same}
use Rattle.recovery.specs.Memory.{SameResults}
use Rattle.compute_notify.specs.Running.{SameKernel}
use Rattle.worker_pool.specs.Working.{IsIdle, WorkHolds, WorkScratch, is_idle}
use Rattle.worker_pool.specs.declared.slot.Ending.{Ending}
use Rattle.worker_pool.specs.declared.slot.Ending.TheVariants as ending
use Rattle.worker_pool.specs.declared.slot.Station.{Station}
use Rattle.worker_pool.specs.declared.worker.Worker.{Worker}
use Rattle.worker_pool.specs.Threads.{EndsWell, SameStation, StationHolds}
use Rattle.worker_pool.proofs.Turns.{idle_is}

-- Stations of which hints alone have changed.
pub station_same : (s : Station) → SameStation s s
station_same s = record { worker = refl; hints = λ rows all. all; posted = refl; number = refl }

pub station_on : (s t u : Station) → SameStation s t → SameStation t u → SameStation s u
station_on s t u a b = record {
  worker = b.worker ∙ ap (λ (w : Worker). record w { hints = u.worker.hints }) a.worker;
  hints = λ rows all. b.hints rows (a.hints rows all);
  posted = b.posted ∙ a.posted;
  number = b.number ∙ a.number;
}

pub same_work : (s t : Station) → SameStation s t → t.worker.work ≡ s.worker.work
same_work s t same = ap (λ (w : Worker). w.work) same.worker

pub station_holds : (g : TaskGraph) (e : Setting) (v : View) (s t : Station) → SameStation s t → StationHolds g e v s → StationHolds g e v t
station_holds g e v s t same holds = record {
  worker = record {
    work = subst (WorkHolds g e v) (sym (same_work s t same)) holds.worker.work;
    scratch = subst (λ (w : Worker). WorkScratch e g w.scratch w.work) (sym same.worker) holds.worker.scratch;
    hints = same.hints e.shape.rows holds.worker.hints;
  };
  posted = same.posted ∙ holds.posted;
}

-- a worker without work has none of the table's
pub free_of : (g : TaskGraph) (e : Setting) (v : View) (s : Station) → is_idle s.worker.work ≡ true → StationHolds g e v s → IsIdle v
free_of g e v s idle holds = subst (WorkHolds g e v) (idle_is s.worker.work idle) holds.worker.work

-- and holds what another view without work holds
pub still_free : (g : TaskGraph) (e : Setting) (v w : View) (s : Station) → is_idle s.worker.work ≡ true → IsIdle w → StationHolds g e v s → StationHolds g e w s
still_free g e v w s idle free holds = record {
  worker = record {
    work = subst (WorkHolds g e w) (sym (idle_is s.worker.work idle)) free;
    scratch = holds.worker.scratch;
    hints = holds.worker.hints;
  };
  posted = holds.posted;
}

module _ (e : Setting) (v w : View) where
  -- a look at what is pending changes no work
  pub waits_on : (n : ℕ) → w ≡ after e event.load_pending n v → IsIdle v → IsIdle w
  waits_on n is idle = record {
    no_stacks = ap (λ (u : View). u.stacks) is ∙ ap (λ (ss : List Stack). on_top (unfinished e.graph e.plan v.strikes) ss) idle.no_stacks;
    no_credit = ap (λ (u : View). u.spare) is ∙ idle.no_credit;
    no_hands = ap (λ (u : View). u.hands) is ∙ idle.no_hands;
  }

  -- who saw that nothing is pending knows it
  pub over_well : (n : ℕ) → w ≡ after e event.load_pending n v → n ≡ 0 → IsIdle v → EndsWell e w ending.Over
  over_well n is none idle =
      let knows : w.known ≡ known.Idle ∷ v.known = ap (λ (u : View). u.known) (subst (λ m. w ≡ after e event.load_pending m v) none is) in
      let many : facts is_seen_idle w ≡ count is_seen_idle (known.Idle ∷ v.known) = ap (count is_seen_idle) knows in
      (ap (λ (u : View). u.hands) is ∙ idle.no_hands, let a = bump_is true (count is_seen_idle v.known) in omega (arith, many, a))

  -- a look at what is pending notes no result
  pub same_seen : (n : ℕ) → w ≡ after e event.load_pending n v → SameResults v w
  same_seen n is k l = ap (λ (u : View). Rattle.core_state.specs.Counts.noted (Rattle.core_state.specs.Tests.is_computed k l) u) is

  -- nor does the stop
  pub same_stopped : (n : ℕ) → w ≡ after e event.halt n v → SameResults v w
  same_stopped n is k l = ap (λ (u : View). Rattle.core_state.specs.Counts.noted (Rattle.core_state.specs.Tests.is_computed k l) u) is

  suspect_stands : (k l : ℕ) (c : Cause) (g : Graph) (p : Plan) (made : List ℕ) (x : Item) → is_finished g p made x ≡ true → is_suspect_for k l c x ≡ false
  suspect_stands k l c g p made (item.Explore a b j) z = refl
  suspect_stands k l c g p made (item.Compute a b loaded read done) z = refl
  suspect_stands k l c g p made (item.Close a b i) z = refl
  suspect_stands k l c g p made (item.Notify a b i ports) z = refl
  suspect_stands k l c g p made (item.Suspect a b d waits) z = absurd (true≢false (sym z))
  suspect_stands k l c g p made (item.Renew a b done) z = refl
  suspect_stands k l c g p made (item.Reenter a b ports) z = refl
  suspect_stands k l c g p made (item.Owe a i b) z = refl

  -- who stops the table holds what it held
  pub stopped_well : (n : ℕ) (x : Ending) → w ≡ after e event.halt n v → EndsWell e v x → EndsWell e w x
  stopped_well n ending.Over is well = (ap (λ (u : View). u.hands) is ∙ well.0, let a : facts is_seen_idle w ≡ facts is_seen_idle v = ap (λ (u : View). facts is_seen_idle u) is in omega (arith, a, well.1))
  stopped_well n ending.Stopped is well = ap (λ (u : View). u.hands) is ∙ well
  stopped_well n ending.Refused is well = tt
  stopped_well n (ending.Spent s) is well =
      let q : Item → Bool = is_suspect_for s.key.0 s.life s.cause in
      let stays : items q w ≡ items q v = ap (λ (u : View). items q u) is ∙ settled_same e.graph e.plan q (Rattle.core_state.specs.Effects.after_stop v) (suspect_stands s.key.0 s.life s.cause e.graph e.plan v.strikes) in
      (ap (λ (u : View). u.hands) is ∙ well.0, (well.1.0, let b = well.1.1 in omega (arith, stays, b)))

-- a kernel whose meaning stayed twice
pub kernel_on : (a b c : Outcome) (f h i : ℕ → List (List ℤ) → Type 0) → SameKernel a b f h → SameKernel b c h i → SameKernel a c f i
kernel_on a b c f h i one two = record {
  same_outcome = two.same_outcome ∙ one.same_outcome;
  same_fits = λ k lists. let x = one.same_fits k lists in let y = two.same_fits k lists in (λ m. x.0 (y.0 m), λ m. y.1 (x.1 m));
}

pub kernel_same : (a : Outcome) (f : ℕ → List (List ℤ) → Type 0) → SameKernel a a f f
kernel_same a f = record { same_outcome = refl; same_fits = λ k lists. (λ m. m, λ m. m) }

-- what holds of a thing that is there is followed by more
pub some_on : {X : Type 0} (P Q : X → Type 0) (r : Option X) → IfSome r P → ((x : X) → P x → Q x) → IfSome r Q
some_on P Q None holds more = holds
some_on P Q (Some x) holds more = more x holds

pub not_true : (b : Bool) → not b ≡ true → b ≡ false
not_true true is = absurd (true≢false (sym is))
not_true false is = refl

-- a hint that was taken out and kept again
pub kept_back : (s t : Station) (w : Worker) (row : ℕ) → t.posted ≡ s.posted → t.number ≡ s.number → w ≡ record s.worker { hints = w.hints } → t.worker ≡ record w { hints = t.worker.hints }
    → ((rows : ℕ) → All (λ r. r < rows) s.worker.hints.items → All (λ r. r < rows) w.hints.items) → ((rows : ℕ) → All (λ r. r < rows) s.worker.hints.items → row < rows)
    → ((rows : ℕ) → row < rows → All (λ r. r < rows) w.hints.items → All (λ r. r < rows) t.worker.hints.items) → SameStation s t
kept_back s t w row same_posted same_number taken kept less low more = record {
  worker = kept ∙ ap (λ (x : Worker). record x { hints = t.worker.hints }) taken;
  hints = λ rows all. more rows (low rows all) (less rows all);
  posted = same_posted;
  number = same_number;
}
