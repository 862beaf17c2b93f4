-- Passes that are joined: what adds up over their views stays.
use Rattle.std.proofs.Common.{◌≡◌, ◌∙◌, ℕ, zero, suc, ◌<◌, Bool, List, [], ◌∷◌, Option, length, ap, sym, subst, refl, arith}
use Rattle.std.proofs.lemmas.List.Elements.{All-tail}
use mathlib.Core.Logic.{dite}
use native.Mathlib.Decide.{dec_lt}
use Rattle.atomic_table.specs.Seated.{TableId}
use Rattle.graph_model.specs.declared.record.Cause.{Cause}
use Rattle.graph_model.specs.declared.record.Record.{Record}
use Rattle.core_state.specs.Counts.{items, noted, total_of}
use Rattle.core_state.specs.Graph.{Setting}
use Rattle.core_state.specs.Tests.{is_suspect_for}
use Rattle.core_state.specs.Views.{all_parts, blank, joined}
use Rattle.core_state.specs.declared.block.BlockCells.{BlockCells}
use Rattle.core_state.specs.declared.views.Item.{Item}
use Rattle.core_state.specs.declared.views.View.{View}
use Rattle.core_state.proofs.Seats.View.{count_both, stacks_both}
use Rattle.core_laws.specs.Lists.{SuspectShown}
use Rattle.core_steps.specs.Table.{IsClosing, view_in}
use Rattle.task_table.specs.Ends.{IsAlone, IsLast}
use Rattle.task_table.specs.Passes.{Passing}
use Rattle.task_table.proofs.Last.{only_total}
use Rattle.worker_pool.specs.Closing.{StopShown}
use Rattle.worker_pool.specs.Joining.{AddsUp, AreOf, HaveAll, HaveEnded, NoHands, parts_of, views_of}
use Rattle.worker_pool.specs.Pooling.{StopTells}
use Rattle.worker_pool.specs.declared.pool.Stop.{Stop}
use Rattle.worker_pool.specs.declared.pool.Stop.TheVariants as stop

-- Numbers that add up.
pub noted_adds : (t : Record → Bool) → AddsUp (noted t)
noted_adds t = (refl, λ v w. let a = count_both t w.records v.records in omega (arith, a))

pub items_adds : (t : Item → Bool) → AddsUp (items t)
items_adds t = (refl, λ v w. let a = stacks_both t w.stacks v.stacks in omega (arith, a))

pub parts_adds : AddsUp (λ v. v.parts)
parts_adds = (refl, λ v w. refl)

-- all together have some where one has some, and one has some where all together have
some_total : (vs : List View) (f : View → ℕ) (i : ℕ) → f blank ≡ 0 → 0 < f (view_in vs i) → 0 < total_of vs f
unfolding total_of
some_total [] f i none some = absurd (omega (arith, none, some))
some_total (v ∷ vs) f zero none some = omega (arith, some)
some_total (v ∷ vs) f (suc i) none some = let a = some_total vs f i none some in omega (arith, a)

some_view : (vs : List View) (f : View → ℕ) → 0 < total_of vs f → (i : ℕ) × (0 < f (view_in vs i))
unfolding total_of
some_view [] f some = absurd (omega (arith, some))
some_view (v ∷ vs) f some = dite (dec_lt 0 (f v)) (λ here. (0, here)) (λ none. let later = some_view vs f (omega (arith, some, none)) in (suc later.0, later.1))

-- what ended the turns is told by views that have all
pub stop_carried : (e : Setting) (vs us : List View) → HaveAll vs us → (s : Stop) → StopTells e vs s → StopTells e us s
stop_carried e vs us all stop.Over tells = tt
stop_carried e vs us all stop.OutOfMemory tells = tt
stop_carried e vs us all (stop.Spent s) last =
    let f : View → ℕ = items (is_suspect_for s.key.0 s.life s.cause) in
    let adds = items_adds (is_suspect_for s.key.0 s.life s.cause) in
    let found = some_view us f (let a = some_total vs f last.worker refl last.suspected in let b = all f adds in omega (arith, a, b)) in
    record { worker = found.0; greatest = last.greatest; suspected = found.1 }

-- one view more was taken in
pub joined_more : (vs ws : List View) (u v w : View) → u ≡ joined v w → HaveAll vs (v ∷ w ∷ ws) → HaveAll vs (u ∷ ws)
unfolding total_of
joined_more vs ws u v w is all f adds = let a = ap f is ∙ adds.1 v w in let b = all f adds in omega (arith, a, b)

-- the view of the pass that was joined of all has all parts
pub all_joined : (vs : List View) (v : View) → HaveAll vs (v ∷ []) → parts_of vs ≡ all_parts → v.parts ≡ all_parts
unfolding total_of
all_joined vs v all whole = let a = all (λ u. u.parts) parts_adds in omega (arith, a, whole)

-- and beside blank ones it has all
pub alone_all : (vs us : List View) (v : View) → IsAlone us v → HaveAll vs (v ∷ []) → HaveAll vs us
unfolding total_of
alone_all vs us v alone all f adds = only_total us alone.seat v f alone.here (λ j w apart there. ap f (alone.others j w apart there) ∙ adds.0) ∙ (let a = all f adds in omega (arith, a))

-- Passes that are taken into one, and those that are left.
pub record IsTaken (z : TableId) (ps : List Passing) (one : Passing) (rest : List Passing) : Type 0 where
  pub of_table : one.table ≡ z
  pub others : AreOf z rest
  pub free : NoHands rest
  pub adds : HaveAll (views_of ps) (one.view ∷ views_of rest)

pub none_taken : (z : TableId) (ps : List Passing) (one : Passing) (rest : List Passing) → ps ≡ one ∷ rest → AreOf z ps → NoHands ps → IsTaken z ps one rest
none_taken z ps one rest is of free =
    let all : AreOf z (one ∷ rest) = subst (AreOf z) is of in let none : NoHands (one ∷ rest) = subst NoHands is free in record {
      of_table = all 0 one (omega arith);
      others = All-tail (λ p. p.table ≡ z) one rest all;
      free = All-tail (λ p. p.view.hands ≡ []) one rest none;
      adds = λ f adds. ap (λ (qs : List Passing). total_of (views_of qs) f) (sym is);
    }

module _ (z : TableId) (ps : List Passing) (one next : Passing) (left rest : List Passing) (is : left ≡ next ∷ rest) (old : IsTaken z ps one left) where
  pub next_of : next.table ≡ z
  next_of = subst (AreOf z) is old.others 0 next (omega arith)

  pub next_free : next.view.hands ≡ []
  next_free = subst NoHands is old.free 0 next (omega arith)

  pub one_taken : (u : Passing) → u.table ≡ z → u.view ≡ joined one.view next.view → IsTaken z ps u rest
  one_taken u of both = record {
    of_table = of;
    others = All-tail (λ p. p.table ≡ z) next rest (subst (AreOf z) is old.others);
    free = All-tail (λ p. p.view.hands ≡ []) next rest (subst NoHands is old.free);
    adds = joined_more (views_of ps) (views_of rest) u.view one.view next.view both (subst (λ (qs : List Passing). HaveAll (views_of ps) (one.view ∷ views_of qs)) is old.adds);
  }

pub all_taken : (z : TableId) (ps : List Passing) (one : Passing) (left : List Passing) → length left ≡ 0 → IsTaken z ps one left → HaveAll (views_of ps) (views_of (one ∷ []))
all_taken z ps one [] none old = old.adds
all_taken z ps one (next ∷ left) none old = absurd (omega (arith, none))

-- a closed table whose last view has all
pub last_ended : (e : Setting) (vs : List View) (v : View) (ws : List ℕ) (bs : List (Option BlockCells)) (records root : List Record) → HaveAll vs (v ∷ []) → IsLast e v ws bs records root → HaveEnded e vs ws bs records root
last_ended e vs v ws bs records root all last = record { views = last.views; all = alone_all vs last.views v last.alone all; closing = last.closing }

-- why a life is suspected that ended the turns
pub shown_by : (e : Setting) (ws : List ℕ) (bs : List (Option BlockCells)) (records root : List Record)
    → ((vs : List View) (i k l : ℕ) (c : Cause) → IsClosing e vs ws bs records root → 0 < items (is_suspect_for k l c) (view_in vs i) → SuspectShown e records root k l c)
    → (vs : List View) → HaveEnded e vs ws bs records root → (s : Stop) → StopTells e vs s → StopShown e records root s
shown_by e ws bs records root shown vs ended stop.Over tells = tt
shown_by e ws bs records root shown vs ended stop.OutOfMemory tells = tt
shown_by e ws bs records root shown vs ended (stop.Spent s) tells = let last = stop_carried e vs ended.views ended.all (stop.Spent s) tells in
    (last.greatest, shown ended.views last.worker s.key.0 s.life s.cause ended.closing last.suspected)
