-- The workers of a table after a turn of one of them.
use Rattle.std.proofs.Common.{◌≡◌, ◌≢◌, ◌∙◌, ◌⊎◌, ◌↔◌, ℕ, ℤ, zero, suc, ◌%◌, ◌<◌, All, List, [], ◌∷◌, Option, Some, None, length, map, set, true, length-set, slice_get, slice_index_or, ⊎_elim, inl, inr, ap, subst, sym, refl, arith}
use mathlib.Core.Logic.{dite}
use native.Mathlib.Decide.{ℕ_discrete}
use Rattle.std.proofs.lemmas.Option.{none-some, same_Some, slice_get-get_or, slice_get-map}
use Rattle.std.specs.Option.{option_map}
use Rattle.core_state.specs.Views.{blank}
use Rattle.core_steps.proofs.Others.{other_stays, seated, workers_stay}
use Rattle.std.proofs.lemmas.List.{get_or-map, get_or-set_other, get_or-set_same, length-map, map-set, set-get_or}
use Rattle.std.proofs.lemmas.List.Elements.{All-set}
use Rattle.std.proofs.lemmas.Nat.{mod_below}
use Rattle.graph_model.specs.Graph.{Graph as TaskGraph}
use Rattle.graph_model.specs.Notes.{Note}
use Rattle.graph_model.specs.Serial.{Outcome, inputs_of, serial}
use Rattle.core_state.specs.Asked.{IsGraphOf}
use Rattle.core_state.specs.Graph.{Setting}
use Rattle.core_state.specs.declared.views.View.{View}
use Rattle.core_steps.specs.Table.{Plain, view_at, view_in}
use Rattle.compute_notify.specs.Running.{Makes, SameKernel}
use Rattle.worker_pool.specs.Calling.{FirstFits, HasCalled, SameKernels, first_outcome}
use Rattle.recovery.specs.Memory.{SameResults}
use Rattle.worker_pool.proofs.Calls.{called_still}
use Rattle.worker_pool.proofs.Settings.{names_tasks}
use Rattle.worker_pool.specs.Pooling.{IsRun, KernelsCalled, KernelsMake, OthersStay, WorkersHold}
use Rattle.worker_pool.specs.Working.{NamesTasks, WorkHolds, WorkScratch, WorkerHolds, is_idle}
use Rattle.worker_pool.specs.declared.worker.Work.{Work}
use Rattle.worker_pool.specs.declared.worker.Worker.{Worker}

-- the calls of one kernel go on with its worker's view, and those of the others stay
kernels_called : (before now : List (Option (List Note))) (vs us : List View) (i : ℕ) (later : Option (List Note)) → OthersStay vs us i → KernelsCalled before now vs → (HasCalled (slice_index_or before i None) (slice_index_or now i None) (view_in vs i) → HasCalled (slice_index_or before i None) later (view_in us i)) → KernelsCalled before (set now i later) us
kernels_called before now vs us i later stay called on = record {
  same_count = length-set now i later ∙ called.same_count;
  each = λ j low. dite (ℕ_discrete j i)
      (λ is. subst (λ n. HasCalled (slice_index_or before n None) (slice_index_or (set now i later) n None) (view_in us n)) (sym is)
      (subst (λ c. HasCalled (slice_index_or before i None) c (view_in us i)) (sym (get_or-set_same now i later None (let a = called.same_count in omega (arith, a, low, is)))) (on (called.each i (omega (arith, low, is))))))
      (λ ne. subst (λ c. HasCalled (slice_index_or before j None) c (view_in us j)) (sym (get_or-set_other now i j later None ne))
      (subst (λ v. HasCalled (slice_index_or before j None) (slice_index_or now j None) v) (sym (stay.others j ne)) (called.each j low)));
}

-- the same where no kernel was called and the view has noted no result
pub kernels_still : (before now : List (Option (List Note))) (vs us : List View) (i : ℕ) → OthersStay vs us i → SameResults (view_in vs i) (view_in us i) → KernelsCalled before now vs → KernelsCalled before now us
kernels_still before now vs us i stay same called = subst (λ cs. KernelsCalled before cs us) (set-get_or now i None)
    (kernels_called before now vs us i (slice_index_or now i None) stay called (called_still (slice_index_or before i None) (slice_index_or now i None) (view_in vs i) (view_in us i) same))

-- what stands at a place of a list in which one place was set
pub set_tells : {X : Type 0} (xs : List X) (i j : ℕ) (x y : X) → slice_get (set xs i x) j ≡ Some y → ((j ≡ i) × (y ≡ x)) ⊎ ((j ≢ i) × (slice_get xs j ≡ Some y))
set_tells [] i j x y is = absurd (none-some y is)
set_tells (z ∷ xs) zero zero x y is = inl (refl, sym (same_Some x y is))
set_tells (z ∷ xs) zero (suc j) x y is = inr ((λ e. omega (arith, e)), is)
set_tells (z ∷ xs) (suc i) zero x y is = inr ((λ e. omega (arith, e)), is)
set_tells (z ∷ xs) (suc i) (suc j) x y is = ⊎_elim
    (λ h. inl (ap suc h.0, h.1))
    (λ o. inr ((λ e. o.0 (omega (arith, e))), o.1))
    (set_tells xs i j x y is)

-- the views of others stay, where the table's other views do
others_stay : (vs us : List View) (i j : ℕ) → j ≡ i → set us j blank ≡ set vs i blank → OthersStay vs us i
others_stay vs us i j same others = record {
  same_count = workers_stay vs us j i others;
  others = λ k ne. other_stays vs us j i others k (λ is. ne (is ∙ same)) ne;
}

-- a seat that was lent for one turn: the table before, as it was lent, as the seat left it, and as it came back
pub record Lent (p lent left back : Plain) (i j k : ℕ) : Type 0 where
  pub others : OthersStay p.views back.views i
  pub before : view_at lent j ≡ view_in p.views i
  pub after : view_at left k ≡ view_in back.views i

pub lent_once : (p lent left back : Plain) (i j k n m : ℕ) (found kept : List ℕ) → lent ≡ p → j ≡ i → back ≡ left → ◌≡◌ {A = List ℕ} (m ∷ k ∷ kept) (n ∷ j ∷ found) → set left.views k blank ≡ set lent.views j blank → Lent p lent left back i j k
lent_once p lent left back i j k n m found kept lent_is seat_is back_is same_lender same_others = record {
  others = others_stay p.views back.views i k same_seat
      (ap (λ (x : Plain). set x.views k blank) back_is ∙ same_others ∙ ap (λ (x : Plain). set x.views j blank) lent_is ∙ ap (λ (h : ℕ). set p.views h blank) seat_is);
  before = seated p lent i j lent_is seat_is;
  after = seated back left i k (sym back_is) same_seat;
}
  where
    same_seat : k ≡ i
    same_seat = ap (λ (ns : List ℕ). slice_index_or ns 1 0) same_lender ∙ seat_is

-- the other workers hold what they held, and this one what its view holds now
pub workers_hold : (g : TaskGraph) (e : Setting) (vs us : List View) (ws : List Worker) (i : ℕ) (w : Worker) → OthersStay vs us i → WorkersHold g e vs ws → WorkerHolds g e (view_in us i) w → WorkersHold g e us (set ws i w)
workers_hold g e vs us ws i w stay hold holds = record {
  same_count = length-set ws i w ∙ hold.same_count ∙ sym stay.same_count;
  each = λ j u at. ⊎_elim
      (λ here. subst (λ k. WorkerHolds g e (view_in us k) u) (sym here.0) (subst (WorkerHolds g e (view_in us i)) (sym here.1) holds))
      (λ other. subst (λ v. WorkerHolds g e v u) (sym (stay.others j other.0)) (hold.each j u other.1))
      (set_tells ws i j w u at);
}

-- the worker that is read at a place holds what its view holds
pub held_at : (g : TaskGraph) (e : Setting) (vs : List View) (ws : List Worker) (i : ℕ) (u : Worker) → i < length ws → u ≡ slice_index_or ws i u → WorkersHold g e vs ws → WorkerHolds g e (view_in vs i) u
held_at g e vs ws i u low is hold = hold.each i u (slice_get-get_or ws i u low ∙ ap Some (sym is))

-- a worker of which hints alone were taken
module _ (ws : List Worker) (i : ℕ) (u w : Worker) (low : i < length ws) (is : u ≡ slice_index_or ws i u) (same : w ≡ record u { hints = w.hints }) where
  pub works_stay : map (λ x. x.work) (set ws i w) ≡ map (λ x. x.work) ws
  works_stay = by ws i low (ap (λ (x : Worker). x.work) same ∙ ap (λ (x : Worker). x.work) is) where
    by : (xs : List Worker) (j : ℕ) → j < length xs → w.work ≡ (slice_index_or xs j u).work → map (λ x. x.work) (set xs j w) ≡ map (λ x. x.work) xs
    by [] j within here = refl
    by (x ∷ xs) zero within here = ap (λ a. a ∷ map (λ y. y.work) xs) here
    by (x ∷ xs) (suc j) within here = ap (λ ys. x.work ∷ ys) (by xs j (omega (arith, within)) here)

  pub hints_hold : (g : TaskGraph) (e : Setting) (vs : List View) → ((rows : ℕ) → All (λ row. row < rows) u.hints.items → All (λ row. row < rows) w.hints.items) → WorkersHold g e vs ws → WorkersHold g e vs (set ws i w)
  hints_hold g e vs less hold = workers_hold g e vs vs ws i w (record { same_count = refl; others = λ j ne. refl }) hold (let held = held_at g e vs ws i u low is hold in record {
    work = subst (WorkHolds g e (view_in vs i)) (sym (ap (λ (x : Worker). x.work) same)) held.work;
    scratch = subst (λ (x : Worker). WorkScratch e g x.scratch x.work) (sym same) held.scratch;
    hints = less e.shape.rows held.hints;
  })

-- a worker whose work is what it was has none where it had none
pub still_idle : (ws us : List Worker) (i : ℕ) (u : Worker) → map (λ x. x.work) us ≡ map (λ x. x.work) ws → i < length ws → u ≡ slice_index_or us i u → ((w : Worker) → slice_get ws i ≡ Some w → is_idle w.work ≡ true) → is_idle u.work ≡ true
still_idle ws us i u same low is idle =
    let many : length us ≡ length ws = sym (length-map us (λ (x : Worker). x.work)) ∙ ap length same ∙ length-map ws (λ (x : Worker). x.work) in
    let was : slice_get ws i ≡ Some (slice_index_or ws i u) = slice_get-get_or ws i u low in
    let now : slice_get us i ≡ Some u = slice_get-get_or us i u (omega (arith, many, low)) ∙ ap Some (sym is) in
    let works : Some u.work ≡ Some (slice_index_or ws i u).work = sym (slice_get-map (λ (x : Worker). x.work) us i ∙ ap (option_map (λ (x : Worker). x.work)) now) ∙ ap (λ (xs : List Work). slice_get xs i) same ∙ slice_get-map (λ (x : Worker). x.work) ws i ∙ ap (option_map (λ (x : Worker). x.work)) was in
    subst (λ (x : Work). is_idle x ≡ true) (same_Some _ _ (sym works)) (idle (slice_index_or ws i u) was)

-- the keys of a run's table are the root's and those of its tasks
pub run_names : (g : TaskGraph) (e : Setting) → IsRun g e → NamesTasks g e
run_names g e run = subst (NamesTasks g) (sym run.setting_is) (names_tasks g run.outcome run.strikes run.lives)

-- what holds of all holds of the one that is read
all_read : {X : Type 0} (P : X → Type 0) (xs : List X) (i : ℕ) (u : X) → i < length xs → u ≡ slice_index_or xs i u → All P xs → P u
all_read P xs i u low is all = subst P (sym is) (all i u low)

-- the worker that a schedule names in a turn
pub scheduled : (schedule : List ℕ) (many turn : ℕ) → schedule ≢ [] → All (λ i. i < many) schedule → slice_index_or schedule (turn % length schedule) 0 < many
scheduled [] many turn some all = absurd (some refl)
scheduled (x ∷ xs) many turn some all = all (turn % length (x ∷ xs)) 0 (mod_below turn (length (x ∷ xs)) (omega arith))

-- a kernel whose meaning stays makes what it made
pub makes_on : (g : TaskGraph) (e : Setting) (before now : Outcome) (fits fits' : ℕ → List (List ℤ) → Type 0) → SameKernel before now fits fits' → Makes g before fits e → Makes g now fits' e
makes_on g e before now fits fits' same old = record {
  graph_is = subst (λ (o : Outcome). IsGraphOf g o e.graph) (sym same.same_outcome) old.graph_is;
  can = λ t task. (same.same_fits t (map (serial g now) (inputs_of g t))).1 (subst (λ (o : Outcome). fits t (map (serial g o) (inputs_of g t))) (sym same.same_outcome) (old.can t task));
}

-- The kernels after a turn with one of them.
module _ {K : Type 0} (ks : List K) (i : ℕ) (u k : K) (low : i < length ks) (is : u ≡ slice_index_or ks i u) where
  pub calls_turned : (calls : K → Option (List Note)) (before : List (Option (List Note))) (vs us : List View) → OthersStay vs us i → ((b : Option (List Note)) → HasCalled b (calls u) (view_in vs i) → HasCalled b (calls k) (view_in us i)) → KernelsCalled before (map calls ks) vs → KernelsCalled before (map calls (set ks i k)) us
  calls_turned calls before vs us stay on called = subst (λ (cs : List (Option (List Note))). KernelsCalled before cs us) (sym (map-set calls ks i k))
      (kernels_called before (map calls ks) vs us i (calls k) stay called
      (λ has. on (slice_index_or before i None) (subst (λ (c : Option (List Note)). HasCalled (slice_index_or before i None) c (view_in vs i)) (get_or-map calls ks i u None low ∙ ap calls (sym is)) has)))

  module _ (outcome : K → Outcome) (fits : K → ℕ → List (List ℤ) → Type 0) (same : SameKernel (outcome u) (outcome k) (fits u) (fits k)) where
    pub same_turned : (before : List K) → SameKernels outcome fits before ks → SameKernels outcome fits before (set ks i k)
    same_turned before old = record {
      same_count = length-set ks i k ∙ old.same_count;
      same_outcome = All-set MakesFirst ks i k (same.same_outcome ∙ all_read MakesFirst ks i u low is old.same_outcome) old.same_outcome;
      same_fits = All-set TakesFirst ks i k
          (λ t lists. let a = same.same_fits t lists in let b = all_read TakesFirst ks i u low is old.same_fits t lists in (λ x. b.0 (a.0 x), λ x. a.1 (b.1 x)))
          old.same_fits;
    }
      where
        MakesFirst : K → Type 0
        MakesFirst a = outcome a ≡ first_outcome outcome before

        TakesFirst : K → Type 0
        TakesFirst a = (t : ℕ) (lists : List (List ℤ)) → fits a t lists ↔ FirstFits fits before t lists

    pub make_turned : (g : TaskGraph) (e : Setting) → KernelsMake g e outcome fits ks → KernelsMake g e outcome fits (set ks i k)
    make_turned g e make = All-set (λ a. Makes g (outcome a) (fits a) e) ks i k (makes_on g e _ _ _ _ same (all_read (λ a. Makes g (outcome a) (fits a) e) ks i u low is make)) make
