-- A turn of a table's worker among others, as its seat tells.
use Rattle.std.proofs.Common.{◌≡◌, ◌≢◌, ◌∙◌, ℕ, ◌+◌, ◌%◌, ◌<◌, true, List, [], ◌∷◌, Some, length, set, slice_get, slice_index, slice_index_or, ap, subst, sym, arith}
use Rattle.std.specs.List.{sum_by}
use Rattle.std.proofs.Math.Bridge.{le_prop}
use Rattle.std.proofs.Math.Logic.{∥∥₁_elim}
use Rattle.std.proofs.lemmas.Nat.{mod_below}
use Rattle.std.proofs.lemmas.Option.{same_Some, slice_get-get_or}
use Rattle.graph_model.specs.Graph.{Graph as TaskGraph, IsLawful}
use Rattle.graph_model.specs.declared.plan.Strike.{Strike}
use Rattle.core_state.specs.Change.{Core}
use Rattle.core_state.specs.Counts.{noted, total_of}
use Rattle.core_state.specs.Events.{Event, after, at, left}
use Rattle.core_state.specs.Graph.{Setting}
use Rattle.core_state.specs.Tests.{is_any_replaced}
use Rattle.core_state.specs.Views.{blank}
use Rattle.core_state.specs.Words.{Shape, inside, place_of, read}
use Rattle.core_state.specs.declared.views.View.{View}
use Rattle.core_state.proofs.Base.Sums.{total_within}
use Rattle.core_state.proofs.Base.Words.{read_at, read_else, read_here}
use Rattle.core_steps.specs.Table.{IsSound, Plain, WordsAfter, view_in}
use Rattle.core_steps.proofs.Changing.{elem_at, low_place}
use Rattle.run_bounds.specs.Budgets.{enough_turns}
use Rattle.run_bounds.specs.Doing.{Doing}
use Rattle.run_bounds.specs.Moving.{IsListed}
use Rattle.run_bounds.specs.Shared.{Actor, ActorTurn, AreHeld, IsOn, IsPart, IsTopped}
use Rattle.run_bounds.specs.Storm.{IsStormRun, most_cost}
use Rattle.run_bounds.specs.Struck.{IsMade, core_in}
use Rattle.run_bounds.proofs.Tables.{pending_table}
use Rattle.worker_pool.specs.Pooling.{OthersStay, WorkersHold}
use Rattle.worker_pool.specs.Sharing.{HaveMadeTurns, IsPaid, SharesTurn, StepsCore, actor_of, actors_of}
use Rattle.worker_pool.specs.declared.worker.Worker.{Worker}
use Rattle.worker_pool.proofs.Sharing.Actors.{actor_at, actors_held, actors_many, actors_set, all_views}
use Rattle.run_bounds.proofs.Shared.Ending.{calm_few, none_replaced, none_struck, shares_few}
use Rattle.run_bounds.proofs.Shared.Going.{calm_on, moves_on, turned_on}

-- each view is a part of the table
pub part_table : (e : Setting) (q : Plain) → IsSound e q → (i : ℕ) → i < length q.views → IsPart e (core_in q) (view_in q.views i)
part_table e q sound i low = record { sound = sound.setting; holds = sound.holds; within = λ f. total_within q.views i (view_in q.views i) f (elem_at q.views i blank low) }

-- a step of a seat on the words as they stood: all other words stand as before
pub made_table : (e : Setting) (x : Event) (n : ℕ) (v w : View) (p q : Plain) → IsSound e p → IsSound e q → WordsAfter e x n p.words q.words → w ≡ after e x n v → IsMade e x n (core_in p) (core_in q) v w
made_table e x n v w p q sound later happened is = record {
  view_is = is;
  found_is = λ z. ap (λ (h : Shape). read h p.words (at x)) sound.shape_is ∙ read_at e.shape p.words (at x) here ∙ sym happened.found_is;
  left_is = λ z. ap (λ (h : Shape). read h q.words (at x)) later.shape_is ∙ ap (λ ws. read e.shape ws (at x)) happened.words_are ∙ read_here e.shape p.words (at x) (left e x n) here low;
  others = λ a other. ap (λ (h : Shape). read h q.words a) later.shape_is ∙ ap (λ ws. read e.shape ws a) happened.words_are ∙ read_else e.shape p.words (at x) a (left e x n) here other ∙ ap (λ (h : Shape). read h p.words a) (sym sound.shape_is);
}
  where
    here : inside e.shape (at x) ≡ true
    here = happened.within

    low : place_of e.shape (at x) < length p.words
    low = let there : inside p.shape (at x) ≡ true = subst (λ (h : Shape). inside h (at x) ≡ true) (sym sound.shape_is) here in
        let a = low_place p.shape (at x) there in let b = sound.fits in let c = ap (λ (h : Shape). place_of h (at x)) sound.shape_is in omega (arith, a, b, c)

-- the worker that is read there
pub read_there : (ws : List Worker) (i : ℕ) (u : Worker) → i < length ws → u ≡ slice_index_or ws i u → slice_get ws i ≡ Some u
read_there ws i u low is = slice_get-get_or ws i u low ∙ ap Some (sym is)

-- two readings of one place are one worker
pub same_read : (ws : List Worker) (i : ℕ) (u v : Worker) → i < length ws → u ≡ slice_index_or ws i u → v ≡ slice_index_or ws i v → u ≡ v
same_read ws i u v low is other = same_Some u v (sym (read_there ws i u low is) ∙ read_there ws i v low other)

-- what a turn with a seat is charged is charged at the table: the seat that was ready found the words that the table had
pub seat_shares : {S : Type 0} (view : S → View) (happened : S → Event → ℕ → S → Type 0) (made : S → ℕ) (lender : S → List ℕ) (e : Setting) (strikes : List Strike) (most : ℕ) (p q : Plain) (i : ℕ) (before now : S) (doing next : Doing) (hints left : List ℕ)
    → SharesTurn view happened made lender e strikes most doing hints before next left now → IsSound e p → IsSound e q → i < length p.views → length q.views ≡ length p.views → view before ≡ view_in p.views i → view now ≡ view_in q.views i
    → ((ready : S) (x : Event) (n : ℕ) → made ready ≡ made before → lender ready ≡ lender before → happened ready x n now → WordsAfter e x n p.words q.words)
    → IsTopped (view_in p.views i) → ActorTurn e strikes most (core_in p) (core_in q) (record { view = view_in p.views i; doing = doing; hints = hints }) (record { view = view_in q.views i; doing = next; hints = left })
seat_shares view happened made lender e strikes most p q i before now doing next hints left shares sound later low many begins ends happens topped =
    let steps : StepsCore view happened made lender e before now (core_in p) (core_in q) = record { steps = λ ready x n v as_new as_lent did is. made_table e x n v (view now) p q sound later (happens ready x n as_new as_lent did) is } in
    subst (λ (v : View). ActorTurn e strikes most (core_in p) (core_in q) (record { view = v; doing = doing; hints = hints }) (record { view = view_in q.views i; doing = next; hints = left })) begins
    (subst (λ (w : View). ActorTurn e strikes most (core_in p) (core_in q) (record { view = view before; doing = doing; hints = hints }) (record { view = w; doing = next; hints = left })) ends
    (shares.on (core_in p) (core_in q) steps (subst (IsPart e (core_in p)) (sym begins) (part_table e p sound i low)) (subst (IsPart e (core_in q)) (sym ends) (part_table e q later i (omega (arith, low, many)))) (subst IsTopped (sym begins) topped)))

-- a step of a seat on the words that it found is one of the table
pub words_from : (e : Setting) (x : Event) (n : ℕ) (before found left now : List ℕ) → found ≡ before → now ≡ left → WordsAfter e x n found left → WordsAfter e x n before now
words_from e x n before found left now as_found as_left did = subst (λ (ws : List ℕ). WordsAfter e x n ws now) as_found (subst (WordsAfter e x n found) (sym as_left) did)

-- who has a turn is listed
pub long_enough : (schedule : List ℕ) (i : ℕ) → IsListed schedule i → 0 < length schedule
long_enough schedule i listed = let a = listed.1 in omega (arith, a)

pub next_listed : (schedule : List ℕ) (turns i : ℕ) → 0 < length schedule → slice_index schedule (turns % length schedule) ≡ i → IsListed schedule i
next_listed schedule turns i long next = (turns % length schedule, mod_below turns (length schedule) long, next)

-- the turn of a worker, after which the table's workers are these
pub crew_turned : (g : TaskGraph) (e : Setting) (strikes : List Strike) (p q : Plain) (us : List Worker) (schedule : List ℕ) (crew : List Actor) (turns : ℕ) → IsOn e strikes (most_cost g) schedule (core_in p) crew turns → (i : ℕ) (a b : Actor) → slice_get crew i ≡ Some a → slice_index schedule (turns % length schedule) ≡ i → IsListed schedule 0
    → IsSound e q → slice_index q.words 0 ≢ 0 → WorkersHold g e q.views us → set crew i b ≡ actors_of q.views us → ActorTurn e strikes (most_cost g) (core_in p) (core_in q) a b → HaveMadeTurns g e strikes schedule q us (turns + 1)
crew_turned g e strikes p q us schedule crew turns on i a b at next listed later some hold same turn =
    subst (λ (c : List Actor). IsOn e strikes (most_cost g) schedule (core_in q) c (turns + 1)) same
    (turned_on on i a b at next later.holds (λ f. all_views q.views us f hold.same_count ∙ ap (sum_by (λ (c : Actor). f c.view)) (sym same)) turn (subst AreHeld (sym same) (actors_held g e q.views us hold)) (λ none. some (sym (pending_table e q later) ∙ none)) listed (long_enough schedule 0 listed))

-- the same where no hint was taken before
pub worker_turned : (g : TaskGraph) (e : Setting) (strikes : List Strike) (p q : Plain) (ws : List Worker) (i : ℕ) (u w : Worker) (schedule : List ℕ) (turns : ℕ) → length ws ≡ length p.views → slice_get ws i ≡ Some u → OthersStay p.views q.views i → WorkersHold g e q.views (set ws i w)
    → slice_index schedule (turns % length schedule) ≡ i → IsListed schedule 0 → IsSound e q → slice_index q.words 0 ≢ 0 → (IsTopped (view_in p.views i) → ActorTurn e strikes (most_cost g) (core_in p) (core_in q) (actor_of (view_in p.views i) u) (actor_of (view_in q.views i) w))
    → HaveMadeTurns g e strikes schedule p ws turns → HaveMadeTurns g e strikes schedule q (set ws i w) (turns + 1)
worker_turned g e strikes p q ws i u w schedule turns many at stay hold next listed later some turn on = let there = actor_at p.views ws i u many at in
    crew_turned g e strikes p q (set ws i w) schedule (actors_of p.views ws) turns on i (actor_of (view_in p.views i) u) (actor_of (view_in q.views i) w) there next listed later some hold (sym (actors_set p.views q.views ws i w stay many)) (turn (on.shares.topped i (actor_of (view_in p.views i) u) there))

some_tasks : (g : TaskGraph) → IsLawful g → 0 < length g.keys
some_tasks g laws = ∥∥₁_elim laws.sink le_prop (λ has. let low = has.1 in omega (arith, low))

-- between turns of a run
pub record IsMidway (g : TaskGraph) (strikes : List Strike) (e : Setting) (schedule : List ℕ) (p : Plain) (ws : List Worker) (turns : ℕ) : Type 0 where
  pub sound : IsSound e p
  pub some : slice_index p.words 0 ≢ 0
  pub made : HaveMadeTurns g e strikes schedule p ws turns

-- with an empty plan no life was replaced
empty_none : (g : TaskGraph) (strikes : List Strike) (e : Setting) (schedule : List ℕ) (s : Core) (crew : List Actor) (turns : ℕ) → IsStormRun g strikes e → IsOn e strikes (most_cost g) schedule s crew turns → strikes ≡ [] → s.total (noted is_any_replaced) ≡ 0
empty_none g [] e schedule s crew turns run on none = none_replaced g e run on.shares
empty_none g (x ∷ xs) e schedule s crew turns run on none = absurd cc

-- and one worker makes fewer turns
empty_calm : (g : TaskGraph) (strikes : List Strike) (e : Setting) (schedule : List ℕ) (s : Core) (crew : List Actor) (turns : ℕ) → IsStormRun g strikes e → IsOn e strikes (most_cost g) schedule s crew turns → length crew ≡ 1 → strikes ≡ [] → turns < enough_turns g
empty_calm g [] e schedule s crew turns run on one none = calm_few g e run on.shares turns (calm_on on one (none_struck g e run on.shares)) (some_tasks g run.runs.laws)
empty_calm g (x ∷ xs) e schedule s crew turns run on one none = absurd cc

-- the turns that were made are paid
pub paid_for : (g : TaskGraph) (strikes : List Strike) (e : Setting) (schedule : List ℕ) (p : Plain) (ws : List Worker) (turns : ℕ) → IsStormRun g strikes e → length ws ≡ length p.views → 0 < length schedule → IsMidway g strikes e schedule p ws turns → IsPaid g strikes (length p.views) (length schedule) turns (total_of p.views (noted is_any_replaced))
paid_for g strikes e schedule p ws turns run many long midway = record {
  few = shares_few g strikes e run midway.made.shares (length schedule) turns long (some_tasks g run.runs.laws) (moves_on midway.made);
  empty = empty_none g strikes e schedule (core_in p) (actors_of p.views ws) turns run midway.made;
  calm = λ one. empty_calm g strikes e schedule (core_in p) (actors_of p.views ws) turns run midway.made (actors_many p.views ws many ∙ one);
}
