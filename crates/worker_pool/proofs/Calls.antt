-- The calls of one kernel against the view of its worker: they go on together.
use Rattle.std.proofs.Common.{◌≡◌, ◌≢◌, ◌⊎◌, ◌∙◌, ℕ, false, List, [], ◌∷◌, ◌++◌, Option, Some, None, inl, inr, ap, sym, refl, append_assoc, arith}
use Rattle.std.proofs.lemmas.List.{append-nil}
use mathlib.Core.Logic.{dite}
use native.Mathlib.Decide.{ℕ_discrete}
use Rattle.std.specs.Option.{option_map}
use Rattle.graph_model.specs.Notes.{Note, noted as told_note}
use Rattle.core_state.specs.Counts.{bump, count, noted}
use Rattle.core_state.specs.Tests.{is_computed, two}
use Rattle.core_state.specs.Rooted.{root_key}
use Rattle.core_state.specs.declared.views.View.{View}
use Rattle.core_state.proofs.Base.Counting.{bump_is, not_two, two_here}
use Rattle.core_state.proofs.Seats.View.{count_both}
use Rattle.recovery.specs.Memory.{SameResults}
use Rattle.compute_notify.specs.Tasks.{NewCalls}
use Rattle.compute_notify.specs.Tasks.NewCalls.{none_new, one_new}
use Rattle.worker_pool.specs.Calling.{AddsCalls, HasCalled, calls_for}

-- no new calls
pub none_added : (before : Option (List Note)) → AddsCalls before before []
none_added None = refl
none_added (Some xs) = ap Some (sym (append-nil xs))

-- one call more
one_added : (before : Option (List Note)) (news : List Note) (n : Note) → told_note (option_map (λ xs. xs ++ news) before) n ≡ option_map (λ xs. xs ++ (news ++ n ∷ [])) before
one_added None news n = refl
one_added (Some xs) news n = ap Some (append_assoc xs news (n ∷ []))

-- a list with one call more, for that life and for any other
one_for : (i m : ℕ) (news : List Note) (k l : ℕ) → calls_for i m (news ++ (k, l) ∷ []) ≡ bump (two i m k l) (calls_for i m news)
one_for i m news k l = let a = count_both (λ n. two i m n.0 n.1) news ((k, l) ∷ []) in let b = bump_is (two i m k l) (calls_for i m news) in let c = bump_is (two i m k l) 0 in omega (arith, a, b, c)

-- a kernel that was not called at all
pub none_called : (before : Option (List Note)) (v : View) → v.records ≡ [] → HasCalled before before v
none_called before v none = record {
  news = [];
  calls_are = none_added before;
  as_often = λ k l ne. sym (ap (count (is_computed k l)) none);
  of_tasks = λ l. refl;
}

-- a step that makes no result, and calls no kernel
pub called_still : (before now : Option (List Note)) (v w : View) → SameResults v w → HasCalled before now v → HasCalled before now w
called_still before now v w same has = record {
  news = has.news;
  calls_are = has.calls_are;
  as_often = λ k l ne. has.as_often k l ne ∙ sym (same k l);
  of_tasks = has.of_tasks;
}

-- a turn that calls the kernel where it makes a result
pub called_on : (before now later : Option (List Note)) (v w : View) → NewCalls now later v w → HasCalled before now v → HasCalled before later w
called_on before now later v w (none_new same results) has = record {
  news = has.news;
  calls_are = same ∙ has.calls_are;
  as_often = λ k l ne. has.as_often k l ne ∙ sym (results k l ne);
  of_tasks = has.of_tasks;
}
called_on before now later v w (one_new k l ne is more others) has = record {
  news = has.news ++ (k, l) ∷ [];
  calls_are = is ∙ ap (λ c. told_note c (k, l)) has.calls_are ∙ one_added before has.news (k, l);
  as_often = λ i m task. one_for i m has.news k l ∙ each i m task;
  of_tasks = λ m. one_for root_key m has.news k l ∙ ap (λ b. bump b (calls_for root_key m has.news)) (not_two root_key m k l (λ p. ne (sym p.0))) ∙ has.of_tasks m;
}
  where
    apart : (i m : ℕ) → i ≢ root_key → (i ≢ k) ⊎ (m ≢ l) → two i m k l ≡ false → bump (two i m k l) (calls_for i m has.news) ≡ noted (is_computed i m) w
    apart i m task other z = ap (λ b. bump b (calls_for i m has.news)) z ∙ has.as_often i m task ∙ sym (others i m other)

    same : (i m : ℕ) → i ≢ root_key → i ≡ k → m ≡ l → bump (two i m k l) (calls_for i m has.news) ≡ noted (is_computed i m) w
    same i m task at of = let a = has.as_often i m task in let b = ap (λ t. bump t (calls_for i m has.news)) (ap (λ x. two i m x l) (sym at) ∙ ap (λ x. two i m i x) (sym of) ∙ two_here i m) in
        let d = ap (λ x. noted (is_computed x m) w) at ∙ ap (λ x. noted (is_computed k x) w) of in let f = ap (λ x. noted (is_computed x m) v) at ∙ ap (λ x. noted (is_computed k x) v) of in omega (arith, a, b, d, f, more)

    each : (i m : ℕ) → i ≢ root_key → bump (two i m k l) (calls_for i m has.news) ≡ noted (is_computed i m) w
    each i m task = dite (ℕ_discrete i k)
        (λ s. dite (ℕ_discrete m l) (λ t. same i m task s t) (λ n. apart i m task (inr n) (not_two i m k l (λ p. n p.1))))
        (λ n. apart i m task (inl n) (not_two i m k l (λ p. n p.0)))
