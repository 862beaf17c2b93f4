-- The kernels of a run are alike and can run their graph.
use Rattle.std.proofs.Common.{◌≡◌, ◌∙◌, ℕ, ◌≤◌, ◌↔◌, ℤ, List, [], ◌∷◌, Result, sym, subst, arith}
use Rattle.std.proofs.lemmas.List.Elements.{All-head}
use Rattle.graph_model.specs.Graph.{Graph}
use Rattle.graph_model.specs.Serial.{Outcome}
use Rattle.worker_pool.specs.Calling.{AreAlike, CanRun, FirstFits, first_outcome}
use Rattle.graph_model.specs.Notes.{Note}
use Rattle.graph_model.specs.declared.plan.Strike.{Strike}
use Rattle.graph_model.specs.declared.record.Record.{Record}
use Rattle.worker_pool.specs.declared.end.Why.{Why}
use Rattle.graph_runner.specs.Workers.{AreKernels, RunComes}

pub first_makes : {K : Type 0} (makes : Outcome) (takes : ℕ → List (List ℤ) → Type 0) (outcome : K → Outcome) (fits : K → ℕ → List (List ℤ) → Type 0) (count : ℕ) (ks : List K)
    → 1 ≤ count → AreKernels makes takes outcome fits count ks → first_outcome outcome ks ≡ makes
first_makes makes takes outcome fits count [] some are = absurd (omega (arith, are.many))
first_makes makes takes outcome fits count (k ∷ ks) some are = All-head (λ a. outcome a ≡ makes) k ks are.same_makes

pub first_takes : {K : Type 0} (makes : Outcome) (takes : ℕ → List (List ℤ) → Type 0) (outcome : K → Outcome) (fits : K → ℕ → List (List ℤ) → Type 0) (count : ℕ) (ks : List K)
    → 1 ≤ count → AreKernels makes takes outcome fits count ks → (k : ℕ) (lists : List (List ℤ)) → FirstFits fits ks k lists ↔ takes k lists
first_takes makes takes outcome fits count [] some are = absurd (omega (arith, are.many))
first_takes makes takes outcome fits count (a ∷ ks) some are = All-head (λ b. (k : ℕ) (lists : List (List ℤ)) → fits b k lists ↔ takes k lists) a ks are.same_takes

pub alike : {K : Type 0} (makes : Outcome) (takes : ℕ → List (List ℤ) → Type 0) (outcome : K → Outcome) (fits : K → ℕ → List (List ℤ) → Type 0) (count : ℕ) (ks : List K)
    → 1 ≤ count → AreKernels makes takes outcome fits count ks → AreAlike outcome fits ks
alike makes takes outcome fits count ks some are = record {
  same_outcome = λ i d inside. are.same_makes i d inside ∙ sym (first_makes makes takes outcome fits count ks some are);
  same_fits = λ i d inside k lists.
      let here = are.same_takes i d inside k lists in
      let first = first_takes makes takes outcome fits count ks some are k lists in
      ((λ f. first.1 (here.0 f)), (λ f. here.1 (first.0 f)));
}

pub can_run : {K : Type 0} (g : Graph) (makes : Outcome) (takes : ℕ → List (List ℤ) → Type 0) (outcome : K → Outcome) (fits : K → ℕ → List (List ℤ) → Type 0) (count : ℕ) (ks : List K)
    → 1 ≤ count → AreKernels makes takes outcome fits count ks → CanRun g makes takes → CanRun g (first_outcome outcome ks) (FirstFits fits ks)
can_run g makes takes outcome fits count ks some are can =
    let same = first_makes makes takes outcome fits count ks some are in
    subst (λ (o : Outcome). CanRun g o (FirstFits fits ks)) (sym same) (record {
      inputs = λ k task. (first_takes makes takes outcome fits count ks some are k _).1 (can.inputs k task);
      cells = can.cells;
    })

-- what a run comes to by what its kernels make
pub as_made : {K : Type 0} (makes : Outcome) (takes : ℕ → List (List ℤ) → Type 0) (outcome : K → Outcome) (fits : K → ℕ → List (List ℤ) → Type 0) (count : ℕ) (ks : List K)
    → 1 ≤ count → AreKernels makes takes outcome fits count ks → (g : Graph) (plan : List Strike) (lives : ℕ) (made : Result (List ℤ) Why) (records : List Record) (news : List (List Note))
    → RunComes g (first_outcome outcome ks) plan lives made records news → RunComes g makes plan lives made records news
as_made makes takes outcome fits count ks some are g plan lives made records news comes =
    subst (λ (o : Outcome). RunComes g o plan lives made records news) (first_makes makes takes outcome fits count ks some are) comes
