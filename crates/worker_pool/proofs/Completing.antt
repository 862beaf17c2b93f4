-- A life is spent only where a strike landed, and never where the plan has fewer strikes than lives and can blame no block.
use Rattle.std.proofs.Common.{◌≡◌, ◌≢◌, ◌∙◌, ℕ, ℤ, ◌<◌, ◌≤◌, Bool, true, eqb, ◌&&◌, nat_le, List, [], ◌++◌, length, ⊎_elim, ap, subst, sym, arith}
use Rattle.std.proofs.lemmas.Bool.{and_from, le-leb}
use Rattle.std.proofs.Math.Bridge.{le_prop}
use Rattle.std.proofs.Math.Nat.{ℕ_set}
use Rattle.std.proofs.Math.Logic.{∥∥₁_elim, ∥∥₁_map, ∥∥₁_map₂}
use mathlib.Core.Logic.{dite}
use native.Mathlib.Decide.{ℕ_discrete}
use Rattle.graph_model.specs.Graph.{Graph as TaskGraph, IsLawful}
use Rattle.graph_model.specs.Serial.{Outcome}
use Rattle.graph_model.specs.declared.plan.Strike.{Strike}
use Rattle.graph_model.specs.declared.plan.Target.TheVariants as target
use Rattle.graph_model.specs.declared.record.Cause.{Cause}
use Rattle.graph_model.specs.declared.record.Record.{Record}
use Rattle.graph_model.specs.declared.record.Record.TheVariants as record_of
use Rattle.core_state.specs.Counts.{count}
use Rattle.core_state.specs.Graph.{Graph, Plan, Reached}
use Rattle.core_state.specs.Laws.{IsGrounded, Planned, Shown, SixLaws, planned}
use Rattle.core_state.specs.Rooted.{graph_of, no_strike, plan_of}
use Rattle.core_state.specs.Tests.{is_any_replaced, is_any_struck, is_struck_upto, same_hit}
use Rattle.core_state.proofs.Base.Counting.{eqb_here}
use Rattle.core_state.proofs.Blocks.Versions.{count_some}
use Rattle.core_state.proofs.Seats.View.{count_both}
use Rattle.core_state.proofs.Start.Setting.{lawful_graph, needed_of, root_matches, task_matches}
use Rattle.core_laws.specs.Lists.{RootShown}
use Rattle.worker_pool.specs.Completing.{AnswersPlan, HasOneVersion, IsComplete, StrikesNoBlock}
use Rattle.worker_pool.specs.Ends.{EndTells, IsFinished, IsSpent, RootLawful, TasksLawful}
use Rattle.worker_pool.specs.Ends.IsSpent.{of_root, of_task}
use Rattle.worker_pool.specs.declared.end.Why.{Why}
use Rattle.worker_pool.specs.declared.end.Why.TheVariants as why
use Rattle.worker_pool.proofs.Closing.{none_struck, root_unreplaced}
use Rattle.worker_pool.proofs.Landing.{same_hit_here}
use Rattle.worker_pool.proofs.NoStrike.{none_replaced, not_shown}
use Rattle.worker_pool.proofs.OwnStrikes.{lives_few, own_strikes, own_with_root, root_not_shown}

-- where a cause is shown, a strike landed
shown_struck : (g : Graph) (p : Plan) (xs : List Record) (k l : ℕ) (c : Cause) → TasksLawful g p xs → Shown g (λ q. count q xs) (IsGrounded g xs) k l c → 0 < count is_any_struck xs
shown_struck g p xs k l c tasks shown = dite (ℕ_discrete (count is_any_struck xs) 0)
    (λ none. ∥∥₁_elim tasks.six le_prop (λ six. absurd (not_shown g xs six.causes none k l c shown)))
    (λ some. omega (arith, some))

-- where the plan is empty, none did
unstruck : (g : Graph) (p : Plan) (xs : List Record) → p.count ≡ 0 → Planned g p (λ q. count q xs) → count is_any_struck xs ≡ 0
unstruck g p xs empty plays = dite (ℕ_discrete (count is_any_struck xs) 0) (λ none. none) (λ some. absurd (let r = count_some is_any_struck xs (omega (arith, some)) in of r.0 r.1 r.2))
  where
    of : (x : Record) → is_any_struck x ≡ true → ((q : Record → Bool) → q x ≡ true → 0 < count q xs) → ⊥
    of (record_of.Struck key life on) z tests =
        let here = tests (is_struck_upto key.0 life on) (and_from (eqb key.0 key.0) (nat_le life life && same_hit on on) (eqb_here key.0) (and_from (nat_le life life) (same_hit on on) (le-leb life life (omega arith)) (same_hit_here on))) in
        let few = plays.few key.0 life on in let none : planned g p (λ q. count q xs) key.0 life on p.count ≡ 0 = ap (planned g p (λ q. count q xs) key.0 life on) empty in omega (arith, here, few, none)
    of x z tests = absurd cc

module _ (g : TaskGraph) (outcome : Outcome) (laws : IsLawful g) (strikes : List Strike) where
  abbrev r : Graph
  r = graph_of g outcome

  abbrev p : Plan
  p = plan_of strikes

  words_of : StrikesNoBlock strikes → (n : ℕ) → n < p.count → (p.strike n).target ≢ target.Block
  words_of words n low = words n no_strike low

  first_of : HasOneVersion g → (k : ℕ) → Reached r k → r.version k ≡ 1
  first_of one k reached = ⊎_elim
      (λ is. ap r.version is ∙ (root_matches g outcome laws).version)
      (λ t. let a = (task_matches g outcome laws k t.0).version in let b = laws.version_inside k t.0 in let c = one (g.block k) (laws.block_inside k t.0) in omega (arith, a, b.0, b.1, c))
      (needed_of g outcome laws k reached)

  answers_tasks : (xs : List Record) → TasksLawful r p xs → AnswersPlan g strikes xs
  answers_tasks xs tasks = record {
    planned = λ empty. unstruck r p xs (ap length empty) tasks.planned;
    landed = λ none. ∥∥₁_elim tasks.six (ℕ_set _ _) (λ six. none_replaced r xs six.causes none);
    own = λ words one. ∥∥₁_map tasks.six (λ six. own_strikes r p (lawful_graph g outcome laws) (words_of words) (first_of one) xs six tasks.planned);
  }

  -- the root's replacements among the records
  answers_all : (xs rs : List Record) → TasksLawful r p xs → RootLawful r xs rs → AnswersPlan g strikes (xs ++ rs)
  answers_all xs rs tasks root = record {
    planned = λ empty. let a = unstruck r p xs (ap length empty) tasks.planned in let b = none_struck r rs root.replaced in let c = count_both is_any_struck xs rs in omega (arith, a, b, c);
    landed = λ none. ∥∥₁_elim tasks.six (ℕ_set _ _) (λ six. ∥∥₁_elim root.causes (ℕ_set _ _) (λ causes. unreplaced six causes (let a = count_both is_any_struck xs rs in omega (arith, a, none))));
    own = λ words one. ∥∥₁_map₂ tasks.six root.causes (λ six causes. own_with_root r p (lawful_graph g outcome laws) (words_of words) (first_of one) xs six tasks.planned rs tasks.of_tasks root.replaced causes);
  }
    where
      unreplaced : SixLaws r xs → RootShown r xs rs → count is_any_struck xs ≡ 0 → count is_any_replaced (xs ++ rs) ≡ 0
      unreplaced six causes none = let a = none_replaced r xs six.causes none in let b = root_unreplaced r xs rs (not_shown r xs six.causes none r.root) root.replaced causes in let c = count_both is_any_replaced xs rs in omega (arith, a, b, c)

  -- a run with a value
  pub answers_finished : (value : List ℤ) (records : List Record) → IsFinished g outcome strikes value records → AnswersPlan g strikes records
  answers_finished value records f = answers_tasks records (record { of_tasks = f.of_tasks; six = ∥∥₁_map f.lawful (λ l. l.six); planned = f.plays.planned })

  -- a life that is spent
  module _ (lives k l : ℕ) (c : Cause) (records : List Record) where
    spent_landed : IsSpent r p lives k l c records → 0 < count is_any_struck records
    spent_landed (of_task reached apart last tasks shown) = shown_struck r p records k l c tasks shown
    spent_landed (of_root xs rs are named last tasks root each shown) = let a = shown_struck r p xs r.root l c tasks shown in let b = count_both is_any_struck xs rs in let d = ap (count is_any_struck) are in omega (arith, a, b, d)

    spent_planned : IsSpent r p lives k l c records → strikes ≢ []
    spent_planned (of_task reached apart last tasks shown) empty = let a = shown_struck r p records k l c tasks shown in let b = unstruck r p records (ap length empty) tasks.planned in omega (arith, a, b)
    spent_planned (of_root xs rs are named last tasks root each shown) empty = let a = shown_struck r p xs r.root l c tasks shown in let b = unstruck r p xs (ap length empty) tasks.planned in omega (arith, a, b)

    spent_few : IsSpent r p lives k l c records → StrikesNoBlock strikes → HasOneVersion g → lives ≤ length strikes
    spent_few (of_task reached apart last tasks shown) words one = let a = ∥∥₁_elim tasks.six le_prop (λ six. lives_few r p (lawful_graph g outcome laws) (words_of words) (first_of one) records six tasks.planned k l c reached shown) in omega (arith, a, last)
    spent_few (of_root xs rs are named last tasks root each shown) words one = ∥∥₁_elim tasks.six le_prop (λ six. absurd (root_not_shown r p (lawful_graph g outcome laws) (words_of words) (first_of one) xs six tasks.planned l c tasks.of_tasks shown))

    spent_answers : IsSpent r p lives k l c records → AnswersPlan g strikes records
    spent_answers (of_task reached apart last tasks shown) = answers_tasks records tasks
    spent_answers (of_root xs rs are named last tasks root each shown) = subst (AnswersPlan g strikes) (sym are) (answers_all xs rs tasks root)

  -- a run without a value
  pub complete : (lives : ℕ) (reason : Why) (records : List Record) → EndTells g outcome strikes lives reason records → IsComplete g strikes lives reason records
  complete lives why.OutOfMemory records tells = record { landed = λ no. absurd no; some_strike = λ no. absurd no; few_lives = λ no. absurd no; answers = λ no. absurd no }
  complete lives (why.LivesSpent k l c) records tells = record {
    landed = λ spends. spent_landed lives k.0 l c records tells;
    some_strike = λ spends. spent_planned lives k.0 l c records tells;
    few_lives = λ spends. spent_few lives k.0 l c records tells;
    answers = λ whole. spent_answers lives k.0 l c records tells;
  }
  complete lives (why.ScheduleShort pending) records tells = record {
    landed = λ no. absurd no;
    some_strike = λ no. absurd no;
    few_lives = λ no. absurd no;
    answers = λ whole. let short = tells.1 in subst (AnswersPlan g strikes) (sym short.records_are) (answers_all short.tasks short.root short.lawful short.of_root);
  }
