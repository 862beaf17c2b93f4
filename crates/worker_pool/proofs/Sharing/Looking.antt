-- A turn of a worker without work among others: a look with a hint of its own or of another's, and one without any hint.
use Rattle.std.proofs.Common.{◌≡◌, ◌≢◌, ◌∙◌, ℕ, zero, suc, ◌+◌, ◌-◌, ◌*◌, ◌%◌, ◌<◌, true, List, [], ◌∷◌, Some, None, length, map, set, length-set, slice_get, slice_index, slice_index_or, ⊎_elim, ap, subst, sym, refl, arith, eqb}
use mathlib.Core.Logic.{dite}
use native.Mathlib.Decide.{dec_lt}
use Rattle.std.proofs.lemmas.List.{get_or-map, map-set, set-get_or}
use Rattle.std.proofs.lemmas.Nat.{mod-mul-add}
use Rattle.std.proofs.lemmas.Option.{none-some, same_Some, slice_get_within}
use Rattle.graph_model.specs.Graph.{Graph as TaskGraph}
use Rattle.graph_model.specs.declared.plan.Strike.{Strike}
use Rattle.core_state.specs.Graph.{Setting}
use Rattle.core_state.proofs.Base.Counting.{bump_is}
use Rattle.core_steps.specs.Table.{IsSound, Plain, view_in}
use Rattle.run_bounds.specs.Doing.Doing.{idle}
use Rattle.run_bounds.specs.Hinting.{HintTaken, times}
use Rattle.run_bounds.specs.Moving.{IsListed}
use Rattle.run_bounds.specs.Shared.{Actor, ActorTurn, IsOn, IsTopped}
use Rattle.run_bounds.specs.Storm.{most_cost}
use Rattle.run_bounds.specs.Struck.{core_in}
use Rattle.worker_pool.specs.Pooling.{OthersStay, WorkersHold}
use Rattle.worker_pool.specs.Sharing.{HaveMadeTurns, IsTakenFrom, MakesTurn, TakesHint, actor_of, actors_of, all_hints, doing_of}
use Rattle.worker_pool.specs.Working.{is_idle}
use Rattle.worker_pool.specs.declared.worker.Work.{Work}
use Rattle.worker_pool.specs.declared.worker.Worker.{Worker}
use Rattle.worker_pool.proofs.Pooling.{set_tells}
use Rattle.worker_pool.proofs.Sharing.Actors.{actor_at, actors_set, actors_stay, actors_taken, worker_at}
use Rattle.worker_pool.proofs.Sharing.Tables.{crew_turned, long_enough, next_listed, read_there}
use Rattle.run_bounds.proofs.Shared.Going.{handed_on, idled_on}
use Rattle.worker_pool.proofs.Turns.{idle_is}

-- the hints at a place are those of its worker
hints_at : (ws : List Worker) (i : ℕ) (hints : List ℕ) → slice_get (all_hints ws) i ≡ Some hints → (w : Worker) × (slice_get ws i ≡ Some w) × (w.hints.items ≡ hints)
hints_at [] i hints at = absurd (none-some hints at)
hints_at (w ∷ ws) zero hints at = (w, refl, same_Some w.hints.items hints at)
hints_at (w ∷ ws) (suc i) hints at = hints_at ws i hints at

at_hints : (ws : List Worker) (i : ℕ) (w : Worker) → slice_get ws i ≡ Some w → slice_get (all_hints ws) i ≡ Some w.hints.items
at_hints [] i w at = absurd (none-some w at)
at_hints (x ∷ ws) zero w at = ap (λ (y : Worker). Some y.hints.items) (same_Some x w at)
at_hints (x ∷ ws) (suc i) w at = at_hints ws i w at

pub some_worker : (ws : List Worker) (i : ℕ) → i < length ws → (w : Worker) × (slice_get ws i ≡ Some w)
some_worker [] i low = absurd (omega (arith, low))
some_worker (w ∷ ws) zero low = (w, refl)
some_worker (w ∷ ws) (suc i) low = some_worker ws i (omega (arith, low))

-- a place of a list that was set twice
set_twice : {X : Type 0} (xs : List X) (i : ℕ) (x y : X) → set (set xs i x) i y ≡ set xs i y
set_twice [] i x y = refl
set_twice (z ∷ xs) zero x y = refl
set_twice (z ∷ xs) (suc i) x y = ap (λ ys. z ∷ ys) (set_twice xs i x y)

set_there : {X : Type 0} (xs : List X) (i : ℕ) (x : X) → i < length xs → slice_get (set xs i x) i ≡ Some x
set_there [] i x low = absurd (omega (arith, low))
set_there (z ∷ xs) zero x low = refl
set_there (z ∷ xs) (suc i) x low = set_there xs i x (omega (arith, low))

-- a hint more in front
one_in_front : (row : ℕ) (hints : List ℕ) → HintTaken (row ∷ hints) row hints
one_in_front row hints = record { one_less = omega arith; the_row = λ q. let a = bump_is (eqb q row) (times q hints) in omega (arith, a) }

-- The hints of all workers where one gave a hint, or had none.
module _ (ws : List Worker) (i : ℕ) (u v : Worker) (low : i < length ws) (is : u ≡ slice_index_or ws i u) where
  hints_set : all_hints (set ws i v) ≡ set (all_hints ws) i v.hints.items
  hints_set = map-set (λ (w : Worker). w.hints.items) ws i v

  pub gives_hint : (row : ℕ) → HintTaken u.hints.items row v.hints.items → IsTakenFrom row (all_hints ws) (all_hints (set ws i v))
  gives_hint row taken = record { worker = i; hints = u.hints.items; left = v.hints.items; at = at_hints ws i u (read_there ws i u low is); taken = taken; now_is = hints_set }

  pub gives_none : (u.hints.items ≡ []) × (v.hints.items ≡ []) → all_hints (set ws i v) ≡ all_hints ws
  gives_none none = hints_set ∙ ap (set (all_hints ws) i) (none.1 ∙ sym none.0 ∙ ap (λ (w : Worker). w.hints.items) is ∙ sym (get_or-map (λ (w : Worker). w.hints.items) ws i u [] low)) ∙ set-get_or (all_hints ws) i []

  pub none_there : u.hints.items ≡ [] → (hints : List ℕ) → slice_get (all_hints ws) i ≡ Some hints → hints ≡ []
  none_there none hints at = same_Some hints u.hints.items (sym at ∙ at_hints ws i u (read_there ws i u low is)) ∙ none

-- from any place each other one is reached in less than a round
pub round_to : (count from to : ℕ) → from < count → to < count → (j : ℕ) × (j < count) × ((from + j) % count ≡ to)
round_to count from to low within = dite (dec_lt to from)
    (λ before. (to + count - from, omega (arith, low, before), ap (λ (n : ℕ). n % count) (let a : from + (to + count - from) ≡ 1 * count + to = omega (arith, low) in a) ∙ mod-mul-add 1 count to within))
    (λ behind. (to - from, omega (arith, within), ap (λ (n : ℕ). n % count) (let a : from + (to - from) ≡ 0 * count + to = omega (arith, behind) in a) ∙ mod-mul-add 0 count to within))

pub first_round : (count from j : ℕ) → from < count → j < 1 → (from + j) % count ≡ from
first_round count from j low first = ap (λ (n : ℕ). n % count) (let a : from + j ≡ 0 * count + from = omega (arith, first) in a) ∙ mod-mul-add 0 count from low

-- no worker has a hint where none was met all the way round
pub none_met : (ws us : List Worker) (from : ℕ) → from < length ws → all_hints us ≡ all_hints ws → ((j : ℕ) → j < length ws → (hints : List ℕ) → slice_get (all_hints ws) ((from + j) % length ws) ≡ Some hints → hints ≡ []) → TakesHint None (all_hints ws) (all_hints us)
none_met ws us from low same none = (
  λ i hints at. let here = hints_at ws i hints at in let round = round_to (length ws) from i low (slice_get_within ws i here.0 here.1) in
      none round.0 round.1 hints (ap (slice_get (all_hints ws)) round.2 ∙ at),
  same,
)

module _ (g : TaskGraph) (e : Setting) (strikes : List Strike) (p : Plain) (ws us : List Worker) (i : ℕ) (hold : WorkersHold g e p.views ws) (works_stay : map (λ (w : Worker). w.work) us ≡ map (λ (w : Worker). w.work) ws) where
  crew : List Actor
  crew = actors_of p.views ws

  -- a look at the row of a hint that was taken from some worker's list
  module _ (q : Plain) (u w : Worker) (row : ℕ) (taken : IsTakenFrom row (all_hints ws) (all_hints us)) (still : length us ≡ length p.views) (at : slice_get us i ≡ Some u) (rests : is_idle u.work ≡ true) (stay : OthersStay p.views q.views i) (kept : WorkersHold g e q.views (set us i w)) (later : IsSound e q) (some : slice_index q.words 0 ≢ 0)
      (schedule : List ℕ) (listed : IsListed schedule 0) (turns : ℕ) (next : slice_index schedule (turns % length schedule) ≡ i)
      (turn : (hints : List ℕ) → HintTaken hints row u.hints.items → IsTopped (view_in p.views i) → ActorTurn e strikes (most_cost g) (core_in p) (core_in q) (record { view = view_in p.views i; doing = idle; hints = hints }) (actor_of (view_in q.views i) w)) (on : HaveMadeTurns g e strikes schedule p ws turns) where
    abbrev b : Actor
    b = actor_of (view_in q.views i) w

    abbrev looker : Actor
    looker = record { view = view_in p.views i; doing = idle; hints = u.hints.items }

    looker_is : actor_of (view_in p.views i) u ≡ looker
    looker_is = ap (λ (x : Work). record { view = view_in p.views i; doing = doing_of x; hints = u.hints.items }) (idle_is u.work rests)

    module _ (c : Actor) (from : slice_get (actors_of p.views ws) taken.worker ≡ Some c) (its : c.hints ≡ taken.hints) where
      abbrev less : List Actor
      less = set (actors_of p.views ws) taken.worker (record c { hints = taken.left })

      us_are : actors_of p.views us ≡ less
      us_are = actors_taken p.views ws us works_stay taken.worker taken.left c from taken.now_is

      ends : set less i b ≡ actors_of q.views (set us i w)
      ends = ap (λ (xs : List Actor). set xs i b) (sym us_are) ∙ sym (actors_set p.views q.views us i w stay still)

      own_hint : HintTaken c.hints row taken.left
      own_hint = subst (λ (hs : List ℕ). HintTaken hs row taken.left) (sym its) taken.taken

      -- it was its own
      own : i ≡ taken.worker → looker ≡ record c { hints = taken.left } → HaveMadeTurns g e strikes schedule q (set us i w) (turns + 1)
      own same is = let here : slice_get (actors_of p.views ws) i ≡ Some c = ap (slice_get (actors_of p.views ws)) same ∙ from in let whole : record { view = view_in p.views i; doing = idle; hints = c.hints } ≡ c = ap (λ (x : Actor). record x { hints = c.hints }) is in
          crew_turned g e strikes p q (set us i w) schedule (actors_of p.views ws) turns on i c b here next listed later some kept
          (sym (set_twice (actors_of p.views ws) i (record c { hints = taken.left }) b) ∙ ap (λ (j : ℕ). set (set (actors_of p.views ws) j (record c { hints = taken.left })) i b) same ∙ ends)
          (subst (λ (x : Actor). ActorTurn e strikes (most_cost g) (core_in p) (core_in q) x b) whole
          (turn c.hints (subst (HintTaken c.hints row) (sym (ap (λ (x : Actor). x.hints) is)) own_hint) (subst IsTopped (sym (ap (λ (x : Actor). x.view) is)) (on.shares.topped i c here))))

      -- it was another's
      other : i ≢ taken.worker → slice_get (actors_of p.views ws) i ≡ Some looker → HaveMadeTurns g e strikes schedule q (set us i w) (turns + 1)
      other apart here = let handed = handed_on on i taken.worker row looker c taken.left apart here from own_hint (next_listed schedule turns i (long_enough schedule 0 listed) next) in
          let within : i < length less = (let a = slice_get_within (actors_of p.views ws) i looker here in let d = length-set (actors_of p.views ws) taken.worker (record c { hints = taken.left }) in omega (arith, a, d)) in
          crew_turned g e strikes p q (set us i w) schedule (set less i (record looker { hints = row ∷ u.hints.items })) turns handed i (record looker { hints = row ∷ u.hints.items }) b (set_there less i (record looker { hints = row ∷ u.hints.items }) within) next listed later some kept
          (set_twice less i (record looker { hints = row ∷ u.hints.items }) b ∙ ends)
          (turn (row ∷ u.hints.items) (one_in_front row u.hints.items) (on.shares.topped i looker here))

      by_hint : HaveMadeTurns g e strikes schedule q (set us i w) (turns + 1)
      by_hint = ⊎_elim (λ same. own same.0 same.1) (λ apart. other apart.0 apart.1)
          (set_tells (actors_of p.views ws) taken.worker i (record c { hints = taken.left }) looker (ap (λ (xs : List Actor). slice_get xs i) (sym us_are) ∙ actor_at p.views us i u still at ∙ ap Some looker_is))

    pub look_turned : HaveMadeTurns g e strikes schedule q (set us i w) (turns + 1)
    look_turned = let from = hints_at ws taken.worker taken.hints taken.at in
        by_hint (actor_of (view_in p.views taken.worker) from.0) (actor_at p.views ws taken.worker from.0 hold.same_count from.1) from.2

  -- a turn without any hint
  pub idle_turned : TakesHint None (all_hints ws) (all_hints us) → (u : Worker) → slice_get ws i ≡ Some u → is_idle u.work ≡ true → MakesTurn g e strikes i p ws p us
  idle_turned none u at rests = record {
    made = λ storm sound later some schedule listed turns next on. subst (λ (xs : List Actor). IsOn e strikes (most_cost g) schedule (core_in p) xs (turns + 1)) (sym (actors_stay p.views ws us works_stay none.1))
        (idled_on on i (actor_of (view_in p.views i) u) (actor_at p.views ws i u hold.same_count at) next (ap doing_of (idle_is u.work rests))
        (λ j c there. let here = worker_at p.views ws j c there in sym (ap (λ (x : Actor). x.hints) here.2) ∙ none.0 j here.0.hints.items (at_hints ws j here.0 here.1)));
  }
