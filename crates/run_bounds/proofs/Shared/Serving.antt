-- The turns of a worker without a task, of several workers: each is a move.
use Rattle.std.proofs.Common.{◌≡◌, ◌≢◌, ℕ, ◌+◌, ◌-◌, ◌<◌, ◌≤◌, Bool, true, false, cond, eqb, List, [], arith, refl, ap, sym, ◌∙◌, subst}
use mathlib.Core.Logic.{dite}
use native.Mathlib.Decide.{ℕ_discrete}
use Rattle.std.proofs.lemmas.Bool.{lt-ltb}
use Rattle.graph_model.specs.Graph.{Graph as TaskGraph}
use Rattle.graph_model.specs.declared.plan.Strike.{Strike}
use Rattle.core_state.specs.Asked.{IsCoreKey}
use Rattle.core_state.specs.Change.{Core}
use Rattle.core_state.specs.Counts.{hit}
use Rattle.core_state.specs.Events.{Event}
use Rattle.core_state.specs.Events.Event.{look, take}
use Rattle.core_state.specs.Graph.{Setting}
use Rattle.core_state.specs.Lines.{flat}
use Rattle.core_state.specs.Outcome.{lines_left}
use Rattle.core_state.specs.Rows.{HasKey}
use Rattle.core_state.specs.Tests.{is_any_replaced, is_any_struck}
use Rattle.core_state.specs.Words.{key, posted}
use Rattle.core_state.specs.declared.job.Job.{Job}
use Rattle.core_state.specs.declared.job.Job.TheVariants as job
use Rattle.core_state.specs.declared.views.View.{View}
use Rattle.core_state.proofs.Base.Counting.{eqb_here, not_here}
use Rattle.core_state.proofs.Lines.Ends.{ended_grows}
use Rattle.core_state.proofs.Lines.Leaves.{HasLine, pushes}
use Rattle.core_state.proofs.Start.Asked.{reached_is_key}
use Rattle.compute_notify.specs.Items.{job_item}
use Rattle.compute_notify.specs.Running.{Runs}
use Rattle.compute_notify.specs.Tasks.{IsNew, task_items, task_rest}
use Rattle.compute_notify.specs.declared.task.Task.{Task}
use Rattle.compute_notify.proofs.JobRests.{new_few}
use Rattle.run_bounds.specs.Doing.{Doing, asked_hints, asking_rest, fresh_hints}
use Rattle.run_bounds.specs.Doing.Doing.{asks, idle, works}
use Rattle.run_bounds.specs.Hinting.{HasHints, HintTaken, times}
use Rattle.run_bounds.specs.Light.{task_light}
use Rattle.run_bounds.specs.Shared.{Actor, ActorTurn, BehindPlain, Charge, Grows, IsPart, Pays, doing_light}
use Rattle.run_bounds.specs.Storm.{job_cost, job_kind}
use Rattle.run_bounds.specs.Struck.{IsMade}
use Rattle.run_bounds.proofs.Entered.{noted_grows, take_begins}
use Rattle.run_bounds.proofs.Hinting.{compute_asked, explore_found, explore_missed, hints_as, hints_none}
use Rattle.run_bounds.proofs.JobEvents.{Serves, begun_grows}
use Rattle.run_bounds.proofs.Light.{items_are}
use Rattle.run_bounds.proofs.Shared.Parts.{job_few}
use Rattle.run_bounds.proofs.Shared.Topping.{came_behind, topped_after}
use Rattle.run_bounds.proofs.Storm.Preparing.{strikes_more}
use Rattle.run_bounds.proofs.Storm.Words.{hints_stay}

-- what is left of a task is no less with its suspects
light_few : (e : Setting) (p : List Strike) (t : Task) → task_light e p t ≤ task_rest e p t
light_few e p t = let a = items_are e p t.hand (task_items t) [] in omega (arith, a)

-- a worker
abbrev pub actor : View → Doing → List ℕ → Actor
actor v d hints = record { view = v; doing = d; hints = hints }

module _ {e : Setting} {s t : Core} {v w : View} (p : List Strike) (most : ℕ) (part : IsPart e s v) (later : IsPart e t w) (free : flat v.stacks ≡ []) (n : ℕ) where
  -- hints that other workers hold stay enough with those that this one has
  abbrev Hinted : Doing → List ℕ → Doing → List ℕ → Type 0
  Hinted d hints d' left = (r fresh asked : ℕ) → r < e.shape.rows → HasHints (fresh + fresh_hints r d hints) (asked + asked_hints r d) (s.word (posted job.Explore r)) (s.word (posted job.Compute r))
      → HasHints (fresh + fresh_hints r d' left) (asked + asked_hints r d') (t.word (posted job.Explore r)) (t.word (posted job.Compute r))

  module _ (x : Event) (step : IsMade e x n s t v w) (line : pushes x ≡ true → HasLine v) (serves : Serves x (flat v.stacks)) where
    serving_grows : Grows v w
    serving_grows = record {
      begun_on = λ i k l. begun_grows i k l e n v x w line serves step.view_is;
      ended_on = λ k l. ended_grows e x n v w line step.view_is job.Compute k l;
      replaced_on = noted_grows e is_any_replaced x n v w step.view_is;
      struck_on = noted_grows e is_any_struck x n v w step.view_is;
      strikes_on = strikes_more e x n v w step.view_is;
    }

    served : BehindPlain (lines_left e x n v []) → (d d' : Doing) (hints left : List ℕ) → Hinted d hints d' left → Pays e p most s t (actor v d hints) (actor w d' left) → ActorTurn e p most s t (actor v d hints) (actor w d' left)
    served behind d d' hints left hinted pays = record {
      grows = serving_grows;
      topped = topped_after e x n v w line step.view_is (subst (λ ls. BehindPlain (lines_left e x n v ls)) (sym free) behind);
      hinted = hinted;
      pays = pays;
    }

  -- a hint is taken, and its row looked at
  module _ (r : ℕ) (hints left : List ℕ) (taken : HintTaken hints r left) (low : r < e.shape.rows) (step : IsMade e (look r) n s t v w) where
    -- without a line nothing is changed
    looks_behind : BehindPlain (lines_left e (look r) n v [])
    looks_behind = by (eqb n 0)
      where
        by : (b : Bool) → BehindPlain (cond b [] [])
        by true = tt
        by false = tt

    pub row_empty : n ≡ 0 → ActorTurn e p most s t (actor v idle hints) (actor w idle left)
    row_empty none = served (look r) step (λ z. absurd cc) tt looks_behind idle idle hints left
        (λ q fresh asked inside has. let many = taken.the_row q in dite (ℕ_discrete q r)
        (λ here. let empty : t.word (key r) ≡ 0 = step.left_is (lt-ltb r e.shape.rows low) ∙ none in let at : t.word (key q) ≡ 0 = ap (λ y. t.word (key y)) here ∙ empty in
        hints_none (fresh + fresh_hints q idle left) (asked + asked_hints q idle) (t.word (posted job.Explore q)) (t.word (posted job.Compute q)) (later.holds.empty.no_job job.Explore q at) (later.holds.empty.no_job job.Compute q at))
        (λ other. let z = not_here q r other in hints_as (fresh + fresh_hints q idle left) (asked + asked_hints q idle) (omega (arith, many, z)) refl (hints_stay step refl q has)))
        (Pays.moves 0 Charge.nothing (let a = taken.one_less in omega (arith, a)))

    pub row_found : n ≢ 0 → ActorTurn e p most s t (actor v idle hints) (actor w (asks r (n - 1) job.Explore) left)
    row_found some = served (look r) step (λ z. absurd cc) tt looks_behind idle (asks r (n - 1) job.Explore) hints left
        (λ q fresh asked inside has. let many = taken.the_row q in hints_as (fresh + fresh_hints q (asks r (n - 1) job.Explore) left) (asked + asked_hints q (asks r (n - 1) job.Explore)) (omega (arith, many)) refl (hints_stay step refl q has))
        (Pays.moves 0 Charge.nothing (let a = taken.one_less in omega (arith, a)))

  -- the row is asked for a job
  module _ (row k : ℕ) (has : HasKey e s row k) where
    module _ (i : Job) (hints : List ℕ) (step : IsMade e (take row i k) n s t v w) where
      found : s.word (posted i row) ≡ n
      found = step.found_is (lt-ltb row e.shape.rows has.0)

      gone : t.word (posted i row) ≡ 0
      gone = step.left_is (lt-ltb row e.shape.rows has.0)

      -- all other job words stay
      rows_stay : (j : Job) (q : ℕ) → q ≢ row → t.word (posted j q) ≡ s.word (posted j q)
      rows_stay j q other = step.others (posted j q) (λ same. other (let z : q ≡ row = cc in z))

      jobs_stay : (j : Job) → j ≢ i → t.word (posted j row) ≡ s.word (posted j row)
      jobs_stay j other = step.others (posted j row) (λ same. other (let z : j ≡ i = cc in z))

      -- hints of a row that is not asked
      other_row : (q a b c d : ℕ) → q ≢ row → c ≡ a → d ≡ b → HasHints a b (s.word (posted job.Explore q)) (s.word (posted job.Compute q)) → HasHints c d (t.word (posted job.Explore q)) (t.word (posted job.Compute q))
      other_row q a b c d other fresh asked old = hints_as c d fresh asked (subst (λ m. HasHints a b m (t.word (posted job.Compute q))) (sym (rows_stay job.Explore q other)) (subst (λ m. HasHints a b (s.word (posted job.Explore q)) m) (sym (rows_stay job.Compute q other)) old))

      -- a job came, and begins
      taken_with : n ≢ 0 → (g : TaskGraph) (lives : ℕ) (runs : Runs g p lives e) (task : Task) → IsNew task (job_item (record { row = row; key = record { 0 = k }; life = n }) i) → Hinted (asks row k i) hints (works task) hints → ActorTurn e p most s t (actor v (asks row k i) hints) (actor w (works task) hints)
      taken_with some g lives runs task new hinted = served (take row i k) step (λ z. absurd cc) tt (came_behind i k n [] tt) (asks row k i) (works task) hints hints hinted
          (Pays.moves (job_cost e p (record { kind = job_kind i; key = k; life = n }))
          (Charge.begins i k n
          (let a = job_few part row k has i n (omega (arith, some)) in let c : hit (eqb n (s.word (posted i row))) ≡ 1 = ap (λ m. hit (eqb n m)) found ∙ ap hit (eqb_here n) in omega (arith, a, c))
          (let a = take_begins e n v w row k (n - 1) i (omega (arith, some)) step.view_is in omega (arith, a)))
          (let one = asking_some i in let is_key : IsCoreKey g k = reached_is_key g runs.serves.outcome e.graph k runs.laws runs.serves.graph (part.holds.keys.reached row k has) in
          let h = new_few g p lives e runs (record { row = row; key = record { 0 = k }; life = n }) is_key i task new in let f = light_few e p task in omega (arith, one, h, f)))
        where
          asking_some : (i : Job) → 1 ≤ asking_rest i
          asking_some job.Explore = omega arith
          asking_some job.Compute = omega arith

      -- none came
      asking : (d' : Doing) → Hinted (asks row k i) hints d' hints → doing_light e p d' + 1 ≤ asking_rest i → ActorTurn e p most s t (actor v (asks row k i) hints) (actor w d' hints)
      asking d' hinted less = served (take row i k) step (λ z. absurd cc) tt (came_behind i k n [] tt) (asks row k i) d' hints hints hinted (Pays.moves 0 Charge.nothing (omega (arith, less)))

    one_at_row : hit (eqb row row) ≡ 1
    one_at_row = ap hit (eqb_here row)

    module _ (hints : List ℕ) where
      -- the same for whatever row, where it holds at the one that is asked
      at_row : (d d' : Doing) → ((fresh asked : ℕ) → HasHints (fresh + fresh_hints row d hints) (asked + asked_hints row d) (s.word (posted job.Explore row)) (s.word (posted job.Compute row)) → HasHints (fresh + fresh_hints row d' hints) (asked + asked_hints row d') (t.word (posted job.Explore row)) (t.word (posted job.Compute row)))
          → ((q fresh asked : ℕ) → q ≢ row → HasHints (fresh + fresh_hints q d hints) (asked + asked_hints q d) (s.word (posted job.Explore q)) (s.word (posted job.Compute q)) → HasHints (fresh + fresh_hints q d' hints) (asked + asked_hints q d') (t.word (posted job.Explore q)) (t.word (posted job.Compute q)))
          → Hinted d hints d' hints
      at_row d d' here away q fresh asked inside = dite (ℕ_discrete q row)
          (λ same. subst (λ y. HasHints (fresh + fresh_hints y d hints) (asked + asked_hints y d) (s.word (posted job.Explore y)) (s.word (posted job.Compute y)) → HasHints (fresh + fresh_hints y d' hints) (asked + asked_hints y d') (t.word (posted job.Explore y)) (t.word (posted job.Compute y))) (sym same) (here fresh asked))
          (λ other. away q fresh asked other)

      module _ (step : IsMade e (take row job.Explore k) n s t v w) where
        -- the hint in service is one more
        before_row : (fresh asked : ℕ) → HasHints (fresh + fresh_hints row (asks row k job.Explore) hints) (asked + asked_hints row (asks row k job.Explore)) (s.word (posted job.Explore row)) (s.word (posted job.Compute row)) → HasHints (fresh + times row hints + 1) asked (s.word (posted job.Explore row)) (s.word (posted job.Compute row))
        before_row fresh asked old = let a = one_at_row in hints_as (fresh + times row hints + 1) asked (omega (arith, a)) (omega arith) old

        computing_stays : 0 < t.word (posted job.Compute row) → 0 < s.word (posted job.Compute row)
        computing_stays some = let z = jobs_stay job.Explore hints step job.Compute (λ same. cc) in omega (arith, z, some)

        pub exploring_taken : n ≢ 0 → (g : TaskGraph) (lives : ℕ) (runs : Runs g p lives e) (task : Task) → IsNew task (job_item (record { row = row; key = record { 0 = k }; life = n }) job.Explore) → ActorTurn e p most s t (actor v (asks row k job.Explore) hints) (actor w (works task) hints)
        exploring_taken some g lives runs task new = taken_with job.Explore hints step some g lives runs task new (at_row (asks row k job.Explore) (works task)
            (λ fresh asked old. hints_as (fresh + fresh_hints row (works task) hints) (asked + asked_hints row (works task)) (omega arith) (omega arith)
            (explore_found (t.word (posted job.Explore row)) (t.word (posted job.Compute row)) (let z = found job.Explore hints step in omega (arith, z, some)) (gone job.Explore hints step) computing_stays (before_row fresh asked old)))
            (λ q fresh asked other old. let z = not_here q row other in
            other_row job.Explore hints step q (fresh + fresh_hints q (asks row k job.Explore) hints) (asked + asked_hints q (asks row k job.Explore)) (fresh + fresh_hints q (works task) hints) (asked + asked_hints q (works task)) other (omega (arith, z)) refl old))

        pub none_exploring : n ≡ 0 → ActorTurn e p most s t (actor v (asks row k job.Explore) hints) (actor w (asks row k job.Compute) hints)
        none_exploring none = asking job.Explore hints step (asks row k job.Compute) (at_row (asks row k job.Explore) (asks row k job.Compute)
            (λ fresh asked old. let a = one_at_row in hints_as (fresh + fresh_hints row (asks row k job.Compute) hints) (asked + asked_hints row (asks row k job.Compute)) (omega arith) (omega (arith, a))
            (explore_missed (t.word (posted job.Explore row)) (t.word (posted job.Compute row)) (gone job.Explore hints step) computing_stays (before_row fresh asked old)))
            (λ q fresh asked other old. let z = not_here q row other in
            other_row job.Explore hints step q (fresh + fresh_hints q (asks row k job.Explore) hints) (asked + asked_hints q (asks row k job.Explore)) (fresh + fresh_hints q (asks row k job.Compute) hints) (asked + asked_hints q (asks row k job.Compute)) other (omega (arith, z)) (omega (arith, z)) old))
            (omega arith)

      module _ (step : IsMade e (take row job.Compute k) n s t v w) where
        exploring_stays : 0 < t.word (posted job.Explore row) → 0 < s.word (posted job.Explore row)
        exploring_stays some = let z = jobs_stay job.Compute hints step job.Explore (λ same. cc) in omega (arith, z, some)

        -- the hint is used up
        used_up : (d : Doing) → ((q : ℕ) → fresh_hints q d hints ≡ times q hints) → ((q : ℕ) → asked_hints q d ≡ 0) → Hinted (asks row k job.Compute) hints d hints
        used_up d none_fresh none_asked = at_row (asks row k job.Compute) d
            (λ fresh asked old. let one = one_at_row in let f = none_fresh row in let a = none_asked row in hints_as (fresh + fresh_hints row d hints) (asked + asked_hints row d) (omega (arith, f)) (omega (arith, a))
            (compute_asked (t.word (posted job.Explore row)) (t.word (posted job.Compute row)) (gone job.Compute hints step) exploring_stays (hints_as (fresh + times row hints) (asked + 1) (omega arith) (omega (arith, one)) old)))
            (λ q fresh asked other old. let z = not_here q row other in let f = none_fresh q in let a = none_asked q in
            other_row job.Compute hints step q (fresh + fresh_hints q (asks row k job.Compute) hints) (asked + asked_hints q (asks row k job.Compute)) (fresh + fresh_hints q d hints) (asked + asked_hints q d) other (omega (arith, f)) (omega (arith, a, z)) old)

        pub computing_taken : n ≢ 0 → (g : TaskGraph) (lives : ℕ) (runs : Runs g p lives e) (task : Task) → IsNew task (job_item (record { row = row; key = record { 0 = k }; life = n }) job.Compute) → ActorTurn e p most s t (actor v (asks row k job.Compute) hints) (actor w (works task) hints)
        computing_taken some g lives runs task new = taken_with job.Compute hints step some g lives runs task new (used_up (works task) (λ q. omega arith) (λ q. refl))

        pub none_computing : n ≡ 0 → ActorTurn e p most s t (actor v (asks row k job.Compute) hints) (actor w idle hints)
        none_computing none = asking job.Compute hints step idle (used_up idle (λ q. omega arith) (λ q. refl)) (omega arith)
