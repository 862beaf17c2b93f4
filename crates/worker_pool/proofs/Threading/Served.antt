-- The slots of a run before and after their threads: what stands at a place of the kernels, the workers and the views is of one slot.
use Rattle.std.proofs.Common.{◌≡◌, ◌∙◌, ℕ, ℤ, suc, ◌-◌, ◌<◌, ◌↔◌, All, List, [], ◌∷◌, ◌++◌, Option, Some, None, length, map, slice_index_or, take, ap, subst, sym, refl, arith}
use Rattle.std.proofs.lemmas.List.{map-append}
use Rattle.std.proofs.lemmas.Option.{slice_get-get_or}
use Rattle.atomic_table.specs.Seated.{TableId}
use Rattle.graph_model.specs.Graph.{Graph as TaskGraph}
use Rattle.graph_model.specs.Notes.{Note}
use Rattle.graph_model.specs.Serial.{Outcome}
use Rattle.core_state.specs.Counts.{total_of}
use Rattle.core_state.specs.Graph.{Setting}
use Rattle.core_state.specs.Views.{blank}
use Rattle.core_state.specs.declared.views.View.{View}
use Rattle.core_steps.specs.Table.{view_in}
use Rattle.compute_notify.specs.Running.{Makes, SameKernel}
use Rattle.task_table.specs.Passes.{Passing, lender_of}
use Rattle.task_table.proofs.Lent.{same_parts, same_table}
use Rattle.worker_pool.specs.Calling.{AreAlike, HasCalled, SameKernels}
use Rattle.worker_pool.specs.Joining.{parts_of}
use Rattle.worker_pool.specs.Pooling.{KernelsCalled, KernelsMake, WorkersHold}
use Rattle.worker_pool.specs.Threads.{AreServed, EndsWell, IsOf, IsReady, IsServed, slot_view, turned, view_of}
use Rattle.worker_pool.specs.Working.{WorkerHolds}
use Rattle.worker_pool.specs.declared.slot.Slot.{Slot}
use Rattle.worker_pool.specs.declared.worker.Worker.{Worker}
use Rattle.worker_pool.proofs.Threading.Turned.{turned_at, turned_length}

pub turned_map : {A B C : Type 0} (h : B → C) (f : A → B) (xs : List A) → map h (turned f xs) ≡ turned (λ x. h (f x)) xs
turned_map h f [] = refl
turned_map h f (x ∷ xs) = map-append h (turned f xs) (f x ∷ []) ∙ ap (λ ys. ys ++ h (f x) ∷ []) (turned_map h f xs)

pub take_whole : {A : Type 0} (xs ys : List A) → take (length xs) (xs ++ ys) ≡ xs
take_whole [] ys = refl
take_whole (x ∷ xs) ys = ap (λ zs. x ∷ zs) (take_whole xs ys)

some_of : {A : Type 0} (xs : List A) (n : ℕ) → n < length xs → A
some_of [] n low = absurd (omega (arith, low))
some_of (x ∷ xs) n low = x

total_same : (f : View → ℕ) (us vs : List View) → length us ≡ length vs → ((i : ℕ) → i < length us → f (view_in us i) ≡ f (view_in vs i)) → total_of us f ≡ total_of vs f
unfolding total_of
total_same f [] [] same each = refl
total_same f [] (v ∷ vs) same each = absurd (omega (arith, same))
total_same f (u ∷ us) [] same each = absurd (omega (arith, same))
total_same f (u ∷ us) (v ∷ vs) same each = let a = each 0 (omega arith) in let b = total_same f us vs (omega (arith, same)) (λ i low. each (suc i) (omega (arith, low))) in omega (arith, a, b)

module _ {C K : Type 0} (e : Setting) (z : TableId) (outcome : K → Outcome) (fits : K → ℕ → List (List ℤ) → Type 0) (calls : K → Option (List Note)) where
  abbrev of_kernel : Slot C K → K
  of_kernel s = s.kernel

  abbrev calls_of : Slot C K → Option (List Note)
  calls_of s = calls s.kernel

  module _ (ss ts : List (Slot C K)) (served : AreServed e z outcome fits calls ss ts) where
    -- what two lists have at a place, by what the slot so far from the end was and is
    at_place : (P : Slot C K → Slot C K → Type 0) → ((s t : Slot C K) → IsServed e z outcome fits calls s t → P s t) → (i : ℕ) (d : Slot C K) → i < length ss → P (slice_index_or ss (length ss - suc i) d) (slice_index_or ts (length ts - suc i) d)
    at_place P of i d low = subst (λ n. P (slice_index_or ss (length ss - suc i) d) (slice_index_or ts (n - suc i) d)) (sym served.same_count)
        (of _ _ (served.each (length ss - suc i) d (omega (arith, low))))

    in_both : (i : ℕ) → i < length ss → i < length ts
    in_both i low = let a = served.same_count in omega (arith, a, low)

    pub calls_served : (before : List (Option (List Note))) → KernelsCalled before (turned calls_of ss) (turned slot_view ss) → KernelsCalled before (turned calls_of ts) (turned slot_view ts)
    calls_served before old = record {
      same_count = turned_length calls_of ts ∙ served.same_count ∙ sym (turned_length calls_of ss) ∙ old.same_count;
      each = λ i low. let low' : i < length ss = (let a = turned_length calls_of ss in let b = old.same_count in omega (arith, a, b, low)) in let d = some_of ss i low' in
          let b = slice_index_or before i None in
          subst (λ c. HasCalled b c (view_in (turned slot_view ts) i)) (sym (turned_at calls_of ts i d None (in_both i low')))
          (subst (λ v. HasCalled b (calls_of (slice_index_or ts (length ts - suc i) d)) v) (sym (turned_at slot_view ts i d blank (in_both i low')))
          (at_place (λ s t. HasCalled b (calls_of s) (slot_view s) → HasCalled b (calls_of t) (slot_view t)) (λ s t is. is.called b) i d low'
          (subst (λ c. HasCalled b c (slot_view (slice_index_or ss (length ss - suc i) d))) (turned_at calls_of ss i d None low')
          (subst (λ v. HasCalled b (slice_index_or (turned calls_of ss) i None) v) (turned_at slot_view ss i d blank low') (old.each i low)))));
    }

    pub kernels_served : AreAlike outcome fits (turned of_kernel ss) → SameKernels outcome fits (turned of_kernel ss) (turned of_kernel ts)
    kernels_served alike = record {
      same_count = turned_length of_kernel ts ∙ served.same_count ∙ sym (turned_length of_kernel ss);
      same_outcome = λ i k low. let low' : i < length ss = within i low in let d = some_of ss i low' in
          ap outcome (turned_at of_kernel ts i d k (in_both i low'))
          ∙ at_place (λ s t. outcome t.kernel ≡ outcome s.kernel) (λ s t is. is.same_kernel.same_outcome) i d low'
          ∙ ap outcome (sym (turned_at of_kernel ss i d k low'))
          ∙ alike.same_outcome i k (there i low');
      same_fits = λ i k low task lists. let low' : i < length ss = within i low in let d = some_of ss i low' in
          let a : fits (slice_index_or (turned of_kernel ts) i k) ≡ fits (slice_index_or ts (length ts - suc i) d).kernel = ap fits (turned_at of_kernel ts i d k (in_both i low')) in
          let b = at_place (λ s t. fits t.kernel task lists ↔ fits s.kernel task lists) (λ s t is. is.same_kernel.same_fits task lists) i d low' in
          let c : fits (slice_index_or (turned of_kernel ss) i k) ≡ fits (slice_index_or ss (length ss - suc i) d).kernel = ap fits (turned_at of_kernel ss i d k low') in
          let f = alike.same_fits i k (there i low') task lists in (
            λ x. f.0 (subst (λ (p : ℕ → List (List ℤ) → Type 0). p task lists) (sym c) (b.0 (subst (λ (p : ℕ → List (List ℤ) → Type 0). p task lists) a x))),
            λ x. subst (λ (p : ℕ → List (List ℤ) → Type 0). p task lists) (sym a) (b.1 (subst (λ (p : ℕ → List (List ℤ) → Type 0). p task lists) c (f.1 x))),
          );
    }
      where
        within : (i : ℕ) → i < length (turned of_kernel ts) → i < length ss
        within i low = let a = turned_length of_kernel ts in let b = served.same_count in omega (arith, a, b, low)

        there : (i : ℕ) → i < length ss → i < length (turned of_kernel ss)
        there i low = let a = turned_length of_kernel ss in omega (arith, a, low)

    pub parts_served : parts_of (turned slot_view ts) ≡ parts_of (turned slot_view ss)
    parts_served = total_same (λ v. v.parts) (turned slot_view ts) (turned slot_view ss) (turned_length slot_view ts ∙ served.same_count ∙ sym (turned_length slot_view ss))
        (λ i low. let low' : i < length ss = (let a = turned_length slot_view ts in let b = served.same_count in omega (arith, a, b, low)) in let d = some_of ss i low' in
        ap (λ (v : View). v.parts) (turned_at slot_view ts i d blank (in_both i low'))
        ∙ at_place (λ s t. (slot_view t).parts ≡ (slot_view s).parts) (λ s t is. is.same_parts) i d low'
        ∙ ap (λ (v : View). v.parts) (sym (turned_at slot_view ss i d blank low')))

    -- each slot has its pass again, and its worker ended well
    pub of_table : All (λ t. IsOf z t.pass) ts
    of_table i d low = (served.each i d (let a = served.same_count in omega (arith, a, low))).of_table

    pub ended_well : All (λ t. EndsWell e (slot_view t) t.ending) ts
    ended_well i d low = (served.each i d (let a = served.same_count in omega (arith, a, low))).ends

  -- the slots that are filled may begin
  pub all_ready : (g : TaskGraph) (ss : List (Slot C K)) → WorkersHold g e (turned slot_view ss) (turned (λ s. s.station.worker) ss) → All (λ s. IsOf z s.pass) ss → All (λ s. s.station.posted ≡ []) ss → KernelsMake g e outcome fits (turned of_kernel ss) → All (IsReady g e z outcome fits) ss
  all_ready g ss hold of_table posted makes j d low = record {
    of_table = of_table j d low;
    holds = record {
      worker = subst (λ (s : Slot C K). WorkerHolds g e (slot_view s) s.station.worker) back
          (subst (λ (v : View). WorkerHolds g e v (slice_index_or ss (length ss - suc i) d).station.worker) (turned_at slot_view ss i d blank under)
          (subst (λ (w : Worker). WorkerHolds g e (view_in (turned slot_view ss) i) w) (turned_at worker_of ss i d d.station.worker under)
          (hold.each i (slice_index_or (turned worker_of ss) i d.station.worker) (slice_get-get_or (turned worker_of ss) i d.station.worker (let a = turned_length worker_of ss in omega (arith, a, under))))));
      posted = posted j d low;
    };
    makes = subst (λ (s : Slot C K). Makes g (outcome s.kernel) (fits s.kernel) e) back
        (subst (λ (k : K). Makes g (outcome k) (fits k) e) (turned_at of_kernel ss i d d.kernel under) (makes i d.kernel (let a = turned_length of_kernel ss in omega (arith, a, under))));
  }
    where
      worker_of : Slot C K → Worker
      worker_of s = s.station.worker

      i : ℕ
      i = length ss - suc j

      under : i < length ss
      under = omega (arith, low)

      back : slice_index_or ss (length ss - suc i) d ≡ slice_index_or ss j d
      back = ap (λ n. slice_index_or ss n d) {x = length ss - suc i} {y = j} (omega (arith, low))

-- what a thread makes of its slot
pub served_by : {C K : Type 0} (e : Setting) (z : TableId) (outcome : K → Outcome) (fits : K → ℕ → List (List ℤ) → Type 0) (calls : K → Option (List Note)) (s t : Slot C K) (p q : Passing) → s.pass ≡ Some p → t.pass ≡ Some q → IsOf z s.pass → lender_of q ≡ lender_of p
    → EndsWell e q.view t.ending → ((before : Option (List Note)) → HasCalled before (calls s.kernel) p.view → HasCalled before (calls t.kernel) q.view) → SameKernel (outcome s.kernel) (outcome t.kernel) (fits s.kernel) (fits t.kernel) → IsServed e z outcome fits calls s t
served_by e z outcome fits calls s t p q was now of_table lent ends called same = record {
  of_table = subst (IsOf z) (sym now) (same_table p q lent ∙ subst (IsOf z) was of_table);
  same_parts = ap (λ o. (view_of o).parts) now ∙ same_parts p q lent ∙ ap (λ o. (view_of o).parts) (sym was);
  ends = subst (λ o. EndsWell e (view_of o) t.ending) (sym now) ends;
  called = λ before has. subst (λ o. HasCalled before (calls t.kernel) (view_of o)) (sym now) (called before (subst (λ o. HasCalled before (calls s.kernel) (view_of o)) was has));
  same_kernel = same;
}
