-- A step of a pass is one of its seat.
use Rattle.std.proofs.Common.{◌≡◌, ℕ, ◌+◌, ◌<◌, ◌≤◌, ◌^◌, List, ◌∷◌, sym, ap, ◌∙◌, subst, Option, Some, None}
use Rattle.core_state.specs.Graph.{Setting}
use Rattle.core_state.specs.Counts.{known_key}
use Rattle.core_state.specs.Events.{Event, at, after}
use Rattle.core_state.specs.Events.Event.{close, elect, load_recovery, post, take}
use Rattle.core_state.specs.Effects.{closing_of, elected_of}
use Rattle.core_state.specs.Sure.{IsFound, IsFresh, IsReplacing, IsSure, MovedTells, PortsTell}
use Rattle.core_state.specs.declared.job.Job.{Job}
use Rattle.core_state.specs.declared.views.View.{View}
use Rattle.graph_model.specs.declared.record.Cause.{Cause}
use Rattle.core_state.proofs.Own.Answers.{fresh_post, fresh_take, moved_of, ports_of, replacing_of}
use Rattle.core_state.proofs.Own.Found.{found_of}
use Rattle.core_state.proofs.Own.Sure.{sure_of}
use Rattle.core_state.proofs.Seats.Shares.{parts_kept}
use Rattle.core_steps.specs.Seat.{IsStep, key_event, last_after}
use Rattle.core_steps.specs.declared.kinds.Touched.{Touched}
use Rattle.core_steps.proofs.AnyCore.{IsViewOf}
use Rattle.core_steps.proofs.AtPlain.{core_at}
use Rattle.core_steps.proofs.Few.{posted_few}
use Rattle.core_steps.proofs.Numbers.{recovery_few}
use Rattle.core_steps.proofs.Seats.{step_of}
use Rattle.task_table.specs.Kept.{plain_of}
use Rattle.task_table.specs.Moments.{Seated}
use Rattle.task_table.specs.Passes.{Passing, IsPassStep, IsSharedStep, Sitter, lender_of, numbers}
use Rattle.task_table.proofs.Passing.{found_before, seat_viewed, view_after, view_before}

pub sure_seated : (e : Setting) (v : View) → Seated e v → IsSure e v
sure_seated e v s = let x = seat_viewed e v s in sure_of e (core_at (plain_of e s.board)) x.holds v x.within

module _ (e : Setting) (x : Event) (word : Touched) (p q : Passing) (h : IsPassStep e x word p q) where
  before : IsViewOf e (core_at (plain_of e h.moment.before)) p.view
  before = view_before e x word.found p.view q.view h.moment

  step_found : IsFound e p.view (at x) word.found
  step_found = subst (IsFound e p.view (at x)) (found_before e x word.found p.view q.view h.moment h.can) (found_of e before.fit (core_at (plain_of e h.moment.before)) before.holds p.view before.within (at x))

  step_sure : IsSure e q.view
  step_sure = let a = view_after e x word.found p.view q.view h.moment in sure_of e (core_at (plain_of e h.moment.now)) a.holds q.view a.within

pub shared_step : {S : Type 0} (setting : S → Setting) (view : S → View) (made : S → ℕ) (last shown : S → ℕ × ℕ) (happened : S → Event → ℕ → S → Type 0) (lender : S → List ℕ) (others : S → List View) (x : Event) (s t : S) (word : Touched) (p q : Passing)
    → IsPassStep (setting s) x word p q → setting t ≡ setting s → lender s ≡ lender_of p → lender t ≡ lender_of q → view s ≡ p.view → view t ≡ q.view → others t ≡ others s
    → shown t ≡ (word.at, word.found) → made t ≡ made s + 1 → last t ≡ last_after x word.found (last s) → happened s x word.found t → IsStep setting view made last shown happened lender others x s t
shared_step setting view made last shown happened lender others x s t word p q h same_setting lent lent_now was now same_others shows one_more last_is stepped =
    step_of setting view made last shown happened lender others x s t word h.at_is (now ∙ h.view_is ∙ ap (after (setting s) x word.found) (sym was)) same_setting
    (let parts : q.view.parts ≡ p.view.parts = ap (λ (u : View). u.parts) h.view_is ∙ parts_kept (setting s) x word.found p.view in lent_now ∙ (λ j. parts j ∷ h.same_seat j ∷ numbers (h.same_table j)) ∙ sym lent) same_others shows one_more last_is stepped
    (subst (λ (u : View). IsFound (setting s) u (at x) word.found) (sym was) (step_found (setting s) x word p q h))
    (subst (λ (u : View). IsSure (setting s) u) (sym now) (step_sure (setting s) x word p q h))

-- What a seat knows of the number that some steps found, and of what they answer.
module _ (e : Setting) (word : Touched) (p q : Passing) (r : ℕ) where
  abbrev k : ℕ
  k = known_key r p.view

  pub posted_found : (i : Job) (l : ℕ) → IsPassStep e (post r i (known_key r p.view) l) word p q → word.found ≤ 65535
  posted_found i l h = subst (λ n. n ≤ 65535) (found_before e (post r i k l) word.found p.view q.view h.moment h.can) (posted_few (view_before e (post r i k l) word.found p.view q.view h.moment) r k i h.can.row)

  pub taken_found : (i : Job) → IsPassStep e (take r i (known_key r p.view)) word p q → word.found ≤ 65535
  taken_found i h = subst (λ n. n ≤ 65535) (found_before e (take r i k) word.found p.view q.view h.moment h.can) (posted_few (view_before e (take r i k) word.found p.view q.view h.moment) r k i h.can)

  pub posted_fresh : (i : Job) (l : ℕ) → IsPassStep e (post r i (known_key r p.view) l) word p q → 0 < word.found → IsFresh e q.view i (known_key r p.view) word.found
  posted_fresh i l h some = let b = view_before e (post r i k l) word.found p.view q.view h.moment in subst (λ (u : View). IsFresh e u i k word.found) (sym h.view_is)
      (fresh_post e (core_at (plain_of e h.moment.before)) b.holds p.view b.within r i k l word.found h.can (found_before e (post r i k l) word.found p.view q.view h.moment h.can) some)

  pub taken_fresh : (i : Job) → IsPassStep e (take r i (known_key r p.view)) word p q → 0 < word.found → IsFresh e q.view i (known_key r p.view) word.found
  taken_fresh i h some = let b = view_before e (take r i k) word.found p.view q.view h.moment in subst (λ (u : View). IsFresh e u i k word.found) (sym h.view_is)
      (fresh_take e (core_at (plain_of e h.moment.before)) b.holds p.view b.within r i k word.found h.can (found_before e (take r i k) word.found p.view q.view h.moment h.can) some)

  pub recovery_small : IsPassStep e (load_recovery r (known_key r p.view)) word p q → word.found < 2 ^ 17
  recovery_small h = subst (λ n. n < 2 ^ 17) (found_before e (load_recovery r k) word.found p.view q.view h.moment h.can) (recovery_few (view_before e (load_recovery r k) word.found p.view q.view h.moment) r k h.can)

  pub closed_tells : (l w seen : ℕ) → IsPassStep e (close r (known_key r p.view) l w seen) word p q → MovedTells l (closing_of l seen word.found) × PortsTell (e.graph.ports (known_key r p.view)) w (closing_of l seen word.found)
  closed_tells l w seen h = let b = view_before e (close r k l w seen) word.found p.view q.view h.moment in let f = found_before e (close r k l w seen) word.found p.view q.view h.moment h.can in (
    moved_of e (core_at (plain_of e h.moment.before)) b.holds p.view b.within r k l w seen word.found h.can f,
    ports_of e (core_at (plain_of e h.moment.before)) b.holds p.view b.within r k l w seen word.found h.can f,
  )

  pub elected_tells : (l : ℕ) (c : Cause) (waits : Rattle.std.specs.Prelude.Bool) → IsPassStep e (elect r (known_key r p.view) l c waits) word p q → IsReplacing (elected_of l word.found) word.found
  elected_tells l c waits h = let b = view_before e (elect r k l c waits) word.found p.view q.view h.moment in
      replacing_of e (core_at (plain_of e h.moment.before)) b.holds p.view b.within r k l word.found c waits h.can (found_before e (elect r k l c waits) word.found p.view q.view h.moment h.can)

-- what a claim or a look of a seat tells of its view and of what it notes
pub shared_key : (e : Setting) (row : ℕ) (claimed : Option ℕ) (s t : Sitter) → IsSharedStep e (key_event row claimed) s t → (t.pass.view ≡ after e (key_event row claimed) t.steps.last.1 s.pass.view) × (t.steps.last.0 ≡ row)
shared_key e row None s t step = (step.view_is ∙ ap (λ (o : ℕ × ℕ). after e (key_event row None) o.1 s.pass.view) (sym step.last_is), ap (λ (o : ℕ × ℕ). o.0) step.last_is)
shared_key e row (Some k) s t step = (step.view_is ∙ ap (λ (o : ℕ × ℕ). after e (key_event row (Some k)) o.1 s.pass.view) (sym step.last_is), ap (λ (o : ℕ × ℕ). o.0) step.last_is)
