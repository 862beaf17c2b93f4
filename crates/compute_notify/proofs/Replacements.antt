-- The turn of a replacement: what it leaves, what came above it, and how much is left.
use Rattle.std.proofs.Common.{◌≡◌, ◌≢◌, ⊎_elim, ℕ, ◌+◌, ◌^◌, ◌<◌, ◌≤◌, bit_or, Bool, true, false, not, ◌&&◌, cond, nat_lt, eqb, List, [], ◌∷◌, Some, None, inl, inr, ap, arith, refl, sym, ◌∙◌, subst}
use Rattle.std.specs.Int.{bit_at}
use Rattle.std.proofs.lemmas.Bool.{and_parts, eq-eqb, eqb-true}
use Rattle.graph_model.specs.Graph.{Graph as TaskGraph}
use Rattle.graph_model.specs.declared.key.Key.{Key}
use Rattle.graph_model.specs.declared.plan.Strike.{Strike}
use Rattle.graph_model.specs.declared.record.Cause.{Cause}
use Rattle.graph_model.specs.declared.record.Cause.TheVariants as cause
use Rattle.core_state.specs.Counts.{known_key}
use Rattle.core_state.specs.Effects.{is_full}
use Rattle.core_state.specs.Graph.{Graph, Setting, greatest_life}
use Rattle.core_state.specs.Events.{after}
use Rattle.core_state.specs.Events.Event.{buy, load_descriptor, post, register, renew_descriptor, renew_notify, spend}
use Rattle.core_state.specs.Lines.{Line, HasLines, begins, credit, of}
use Rattle.core_state.specs.Words.{closed_bit, life_of, mark_of}
use Rattle.core_state.specs.declared.answers.Registered.TheVariants as registered
use Rattle.core_state.specs.declared.answers.Told.TheVariants as told_as
use Rattle.core_state.specs.declared.job.Job.{Job}
use Rattle.core_state.specs.declared.views.Item.TheVariants as line
use Rattle.core_state.specs.declared.views.View.{View}
use Rattle.core_steps.specs.Serving.{work_life, work_waits}
use Rattle.recovery.specs.Happening.{owe_event, phase_event, turn_event, way_event}
use Rattle.recovery.specs.Memory.{IsOnTop}
use Rattle.recovery.specs.Recovering.{Fits, FitsPhase, Recovers, SpendsLife, TurnTells, is_given, is_last, is_met, is_over, is_spent as ends_life, makes_step, phase_credits, phase_lines, posts, recover_lines, sees_mark, turn_lines}
use Rattle.recovery.specs.Reentering.{FitsWay, port_lines, reads_mark}
use Rattle.recovery.specs.Resting.{Rests, phase_rest, ports_rest, recover_rest, turn_cost}
use Rattle.recovery.specs.declared.recover.Phase.{Phase}
use Rattle.recovery.specs.declared.recover.Phase.TheVariants as phase
use Rattle.recovery.specs.declared.recover.Recover.{Recover}
use Rattle.recovery.specs.declared.reenter.Way.{Way}
use Rattle.recovery.specs.declared.reenter.Way.TheVariants as way
use Rattle.recovery.specs.declared.turn.Turn.{Turn}
use Rattle.recovery.specs.declared.turn.Turn.TheVariants as turn
use Rattle.recovery.proofs.Entering.{loaded_marked, register_lines, spent_lines}
use Rattle.recovery.proofs.Knowing.{known_is}
use Rattle.recovery.proofs.Resting.{way_some}
use Rattle.compute_notify.specs.Items.{FitsCame, Goes, SpentTells, came_above, came_credits, is_spent, item_lines, turn_came}
use Rattle.compute_notify.specs.Resting.{Excuses, LetsFall, after_rest, came_rest, item_rest, job_rest, step_cost, suspect_rest}
use Rattle.compute_notify.specs.Resting.Excuses.{awaited, given, marked_descriptor, marked_place, marked_port}
use Rattle.compute_notify.specs.Running.{life_limit}
use Rattle.compute_notify.specs.Tasks.{came_items}
use Rattle.compute_notify.specs.declared.item.After.{After}
use Rattle.compute_notify.specs.declared.item.Item.TheVariants as item
use Rattle.compute_notify.proofs.Beginning.{begun_credits, begun_fits, begun_lines, begun_rest, suspect_first}
use Rattle.compute_notify.proofs.Payments.{owe_cost, same_given, some_number}

-- What a turn tells, in the words of what came.
pub came_spent : (t : Turn) (lives : ℕ) → is_spent (turn_came t lives) ≡ ends_life t
came_spent turn.Going lives = refl
came_spent turn.Done lives = refl
came_spent (turn.Met row k l c) lives = refl
came_spent (turn.Given row k i l) lives = refl
came_spent (turn.LivesSpent k l c) lives = refl

pub came_tells : (t : Turn) (lives : ℕ) (r : Recover) → SpendsLife t r → SpentTells (turn_came t lives) r
came_tells turn.Going lives r tells = tt
came_tells turn.Done lives r tells = tt
came_tells (turn.Met row k l c) lives r tells = tt
came_tells (turn.Given row k i l) lives r tells = tt
came_tells (turn.LivesSpent k l c) lives r tells = tells

came_lines : (g : Graph) (t : Turn) (lives : ℕ) (b : List Line) → came_above g (turn_came t lives) b ≡ turn_lines t b
came_lines g turn.Going lives b = refl
came_lines g turn.Done lives b = refl
came_lines g (turn.Met row k l c) lives b = refl
came_lines g (turn.Given row k i l) lives b = begun_lines g (record { row = row; key = k; life = l }) i (credit ∷ b)
came_lines g (turn.LivesSpent k l c) lives b = refl

-- where nothing is left, and nothing was met or given, nothing came
pub nothing_came : (g : TaskGraph) (e : Setting) (w : View) (x : Phase) (t : Turn) (lives : ℕ) → x ≡ phase.Over → TurnTells g e w x t → is_met t ≡ false → is_given t ≡ false → came_items (turn_came t lives) ≡ []
nothing_came g e w x turn.Going lives over tells met brings = absurd (let z = sym (ap is_over over) ∙ tells in cc)
nothing_came g e w x turn.Done lives over tells met brings = refl
nothing_came g e w x (turn.Met row k l c) lives over tells met brings = absurd cc
nothing_came g e w x (turn.Given row k i l) lives over tells met brings = absurd cc
nothing_came g e w x (turn.LivesSpent k l c) lives over tells met brings = refl

module _ (g : TaskGraph) (e : Setting) (w : View) (now : Recover) (lives : ℕ) (limit : (k : ℕ) → life_limit k lives ≡ greatest_life e k) where
  came_fits : (t : Turn) → TurnTells g e w now.phase t → FitsCame g e w (turn_came t lives) (Some (item.Recover now))
  came_fits turn.Going tells = tt
  came_fits turn.Done tells = tt
  came_fits (turn.Met row k l c) tells = (record { is_key = tells.0.is_key; known = tells.0.known; lives_are = limit k.0; in_phase = tt }, tells.1)
  came_fits (turn.Given row k i l) tells = (begun_fits g e w (record { row = row; key = k; life = l }) i tells.0 tells.2, tells.1)
  came_fits (turn.LivesSpent k l c) tells = tt

  came_spares : (t : Turn) → TurnTells g e w now.phase t → w.spare ≡ phase_credits now.phase → w.spare ≡ came_credits (turn_came t lives) (Some (item.Recover now))
  came_spares turn.Going tells credits = credits
  came_spares turn.Done tells credits = credits
  came_spares (turn.Met row k l c) tells credits = credits ∙ tells.1
  came_spares (turn.Given row k i l) tells credits = credits ∙ tells.1 ∙ sym (begun_credits (record { row = row; key = k; life = l }) i)
  came_spares (turn.LivesSpent k l c) tells credits = credits

  pub goes_turned : (v : View) (before : Recover) (t : Turn) (after_it : After) → after_it ≡ record { left = Some (item.Recover now); came = turn_came t lives } → Recovers g e v w before now t → Goes g e v w (item_lines e.graph (item.Recover before)) after_it
  goes_turned v before t after_it is goes = subst (Goes g e v w (item_lines e.graph (item.Recover before))) (sym is) (record {
    lines = λ b old. subst (HasLines e w) (sym (came_lines e.graph t lives (recover_lines e.graph now b))) (goes.lines b old);
    left = goes.fits;
    came = came_fits t goes.tells;
    credits = came_spares t goes.tells goes.credits;
  })

-- The cost of a turn is that of its step.
cost_is : (e : Setting) (v : View) (r : Recover) (p : Phase) → step_cost (phase_event e v r p) ≡ turn_cost p
cost_is e v r phase.Suspect = refl
cost_is e v r (phase.Renew done) = by (nat_lt done (e.graph.notify_words r.key.0))
  where
    by : (b : Bool) → step_cost (cond b (renew_notify r.row (known_key r.row v) (work_life v) done) (renew_descriptor r.row (known_key r.row v) (work_life v))) ≡ 1
    by true = refl
    by false = refl
cost_is e v r phase.Finish = refl
cost_is e v r (phase.Owe owe behind) = owe_cost v owe
cost_is e v r (phase.Reenter reenter) = by reenter.way
  where
    by : (y : Way) → step_cost (way_event e v r.row r.key.0 reenter.port y) ≡ 1
    by way.Start = refl
    by (way.Seek s) = refl
    by (way.Load at) = refl
    by (way.Register at) = refl
    by (way.Spend at) = refl
cost_is e v r phase.Passed = refl
cost_is e v r phase.Over = refl

-- a turn that makes a step costs no more than is left
cost_low : (e : Setting) (k : ℕ) (p : Phase) → is_over p ≡ false → turn_cost p ≤ phase_rest e k p
cost_low e k phase.Suspect going = omega arith
cost_low e k (phase.Renew done) going = omega arith
cost_low e k phase.Finish going = omega arith
cost_low e k (phase.Owe owe behind) going = by owe.bought
  where
    by : (b : Bool) → cond b 4 1 ≤ cond b 5 6 + ports_rest e k behind.port
    by true = omega arith
    by false = omega arith
cost_low e k (phase.Reenter reenter) going = let a = way_some e.shape.rows reenter.way in omega (arith, a)
cost_low e k phase.Passed going = absurd cc
cost_low e k phase.Over going = absurd cc

-- what a turn that makes a step is not
going_on : (r : Recover) → makes_step r ≡ true → is_over r.phase ≡ false
going_on r steps = by (is_over r.phase) steps
  where
    by : (b : Bool) → (not b && not (is_last r.phase r.life r.lives)) ≡ true → b ≡ false
    by true z = absurd cc
    by false z = refl

not_last : (r : Recover) → makes_step r ≡ true → is_last r.phase r.life r.lives ≡ false
not_last r steps = by (is_last r.phase r.life r.lives) (and_parts (not (is_over r.phase)) (not (is_last r.phase r.life r.lives)) steps).1
  where
    by : (b : Bool) → not b ≡ true → b ≡ false
    by true z = absurd cc
    by false z = refl

-- A step that saw a mark is excused by the life that it met.
module _ (g : TaskGraph) (e : Setting) (p : List Strike) (v w : View) (r : Recover) (n : ℕ) (fits : Fits g e v r) where
  met_at : (k m l o : ℕ) (c d : Cause) (a b : List Line) → HasLines e w (of (line.Suspect k l c false) ∷ a) → HasLines e w (of (line.Suspect m o d false) ∷ b) → k ≡ m
  met_at k m l o c d a b x y = ap suspect_first (sym x.lines_are ∙ y.lines_are)

  module _ (marked : mark_of n ≡ 1) (m l : ℕ) (c : Cause) (b d : List Line) (met : HasLines e w (of (line.Suspect m l c false) ∷ d)) where
    seen_as : {X : Type 0} (x y : X) → cond (eqb (mark_of n) 1) x y ≡ x
    seen_as x y = ap (λ z. cond z x y) (eq-eqb (mark_of n) 1 marked)

    way_excused : (q : ℕ) (y : Way) → q < e.graph.ports r.key.0 → FitsWay e v r.key.0 q y → reads_mark y ≡ true → HasLines e v (port_lines e.graph r.key.0 (r.life + 1) q b) → w ≡ after e (way_event e v r.row r.key.0 q y) n v → Excuses e p (way_event e v r.row r.key.0 q y) n (suspect_rest e m)
    way_excused q way.Start low there reads lines is = absurd cc
    way_excused q (way.Seek s) low there reads lines is = absurd cc
    way_excused q (way.Load at) low there reads lines is = let k : ℕ = (e.graph.succ r.key.0 q).task in
        let same = met_at k m (life_of n) l cause.Descriptor c (port_lines e.graph r.key.0 (r.life + 1) (q + 1) b) d
        (loaded_marked e v w n r.key.0 q at k (e.graph.succ r.key.0 q).place (record { low = low; task_is = refl; place_is = refl }) there is (r.life + 1) b lines (eq-eqb (mark_of n) 1 marked)) met in
        subst (λ z. Excuses e p (load_descriptor at (known_key at v)) n (suspect_rest e z)) (known_is e v at k there ∙ same) (marked_descriptor at (known_key at v) n marked)
    way_excused q (way.Register at) low there reads lines is =
        let same = met_at r.key.0 m (life_of n) l cause.Notify c (port_lines e.graph r.key.0 (r.life + 1) q b) d
        (register_lines e v r.key.0 q r.row at low fits.known w n (registered.Struck (life_of n)) (sym (seen_as (registered.Struck (life_of n)) (cond (eqb (closed_bit n) 1) (registered.Closed (life_of n)) (registered.Waiting (life_of n))))) is (r.life + 1) b lines) met in
        subst (λ z. Excuses e p (register r.row (known_key r.row v) q) n (suspect_rest e z)) (known_is e v r.row r.key.0 fits.known ∙ same) (marked_port r.row (known_key r.row v) q n marked)
    way_excused q (way.Spend at) low there reads lines is = let k : ℕ = (e.graph.succ r.key.0 q).task in let j : ℕ = (e.graph.succ r.key.0 q).place in
        let same = met_at k m (life_of n) l cause.Descriptor c (port_lines e.graph r.key.0 (r.life + 1) (q + 1) b) d
        (spent_lines e v w n r.key.0 q at k j (record { low = low; task_is = refl; place_is = refl }) there.0 (told_as.Struck (life_of n))
        (sym (seen_as (told_as.Struck (life_of n)) (cond (eqb (bit_at n j) 1) (told_as.Already (life_of n)) (cond (is_full (e.graph.places k) (bit_or n (2 ^ j))) (told_as.Last (life_of n)) (told_as.Spent (life_of n)))))) is (r.life + 1) b lines) met in
        subst (λ z. Excuses e p (spend at (known_key at v) j) n (suspect_rest e z)) (known_is e v at k there.0 ∙ same) (marked_place at (known_key at v) j n marked)

    phase_excused : (x : Phase) → FitsPhase g e v r.key.0 r.life r.lives x → sees_mark x ≡ true → HasLines e v (phase_lines e.graph r.key.0 r.life r.cause r.wait x b) → w ≡ after e (phase_event e v r x) n v → Excuses e p (phase_event e v r x) n (suspect_rest e m)
    phase_excused phase.Suspect there sees lines is = absurd cc
    phase_excused (phase.Renew done) there sees lines is = absurd cc
    phase_excused phase.Finish there sees lines is = absurd cc
    phase_excused (phase.Owe owe behind) there sees lines is = absurd cc
    phase_excused (phase.Reenter reenter) there sees lines is = way_excused reenter.port reenter.way there.0 there.2 sees lines is
    phase_excused phase.Passed there sees lines is = absurd cc
    phase_excused phase.Over there sees lines is = absurd cc

  -- A post that brought a job is excused by it.
  module _ (some : n ≢ 0) (row l : ℕ) (key : Key) (i : Job) (b d : List Line) (came_job : HasLines e w (of (begins i key.0 l) ∷ d)) where
    phase_given : (x : Phase) → FitsPhase g e v r.key.0 r.life r.lives x → posts x ≡ true → HasLines e v (phase_lines e.graph r.key.0 r.life r.cause r.wait x b) → w ≡ after e (phase_event e v r x) n v → Excuses e p (phase_event e v r x) n (job_rest e p (record { row = row; key = key; life = l }) i)
    phase_given phase.Suspect there sees lines is = absurd cc
    phase_given (phase.Renew done) there sees lines is = absurd cc
    phase_given phase.Finish there sees lines is = absurd cc
    phase_given (phase.Reenter reenter) there sees lines is = absurd cc
    phase_given phase.Passed there sees lines is = absurd cc
    phase_given phase.Over there sees lines is = absurd cc
    phase_given (phase.Owe o behind) there sees lines is =
        let event : post o.row o.job (known_key o.row v) o.life ≡ owe_event v o = ap (λ (z : Bool). cond z (post o.row o.job (known_key o.row v) o.life) buy) (sym sees) in
        let same = same_given e v w o there.0.known n l (port_lines e.graph r.key.0 (r.life + 1) behind.port b) d lines (subst (λ x. w ≡ after e x n v) (sym event) is) some i key.0 came_job in
        let rest : job_rest e p (record { row = o.row; key = key; life = n }) o.job ≡ job_rest e p (record { row = row; key = key; life = l }) i =
        sym (begun_rest e p (record { row = row; key = key; life = l }) (record { row = o.row; key = key; life = n }) i refl same.lives ∙ ap (job_rest e p (record { row = o.row; key = key; life = n })) same.jobs) in
        subst (λ x. Excuses e p x n (job_rest e p (record { row = row; key = key; life = l }) i)) event
        (subst (Excuses e p (post o.row o.job (known_key o.row v) o.life) n) rest (given o.row (known_key o.row v) o.life n o.job key some (same.keys ∙ sym (known_is e v o.row o.key.0 there.0.known))))

both_true : (a b : Bool) → true ≡ (a && b) → (a ≡ true) × (b ≡ true)
both_true true b is = (refl, sym is)
both_true false b is = absurd cc

-- How much is left after a turn that makes a step.
module _ (g : TaskGraph) (e : Setting) (p : List Strike) (v w : View) (r now : Recover) (n lives : ℕ) (fits : Fits g e v r) (steps : makes_step r ≡ true) (top : IsOnTop e v (recover_lines e.graph r)) (is : w ≡ after e (turn_event e v r) n v) where
  turn_falls : (t : Turn) → Recovers g e v w r now t → ends_life t ≡ is_last r.phase r.life r.lives → is_met t ≡ (sees_mark r.phase && eqb (mark_of n) 1) → is_given t ≡ (posts r.phase && not (eqb n 0)) → Rests e r now t n
      → LetsFall e p (turn_event e v r) n (recover_rest e r) (came_rest e p None (turn_came t lives) (Some (item.Recover now)))
  turn_falls turn.Going goes ends met brings rests = ⊎_elim
      (λ low. inl (let a = cost_is e v r r.phase in omega (arith, a, low)))
      (λ waits. inr (0, subst (λ x. Excuses e p (phase_event e v r x) n 0) (sym waits.0.elects) (awaited r.row (known_key r.row v) r.life r.cause (work_waits v) n waits.0.is_replaced), (let a = ap (recover_rest e) waits.1 in omega (arith, a))))
      rests
  turn_falls turn.Done goes ends met brings rests = inl (let a = cost_is e v r r.phase in let b = cost_low e r.key.0 r.phase (going_on r steps) in omega (arith, a, b, rests))
  turn_falls (turn.Met row k l c) goes ends met brings rests = let seen = both_true (sees_mark r.phase) (eqb (mark_of n) 1) met in
      inr (suspect_rest e k.0, phase_excused g e p v w r n fits (eqb-true (mark_of n) 1 seen.1) k.0 l c top.below (recover_lines e.graph now top.below) (goes.lines top.below top.lines_are) r.phase fits.in_phase seen.0 top.lines_are is, omega (arith, rests))
  turn_falls (turn.Given row k i l) goes ends met brings rests = let seen = both_true (posts r.phase) (not (eqb n 0)) brings in
      inr (job_rest e p (record { row = row; key = k; life = l }) i, phase_given g e p v w r n fits (some_number (posts r.phase) n brings) row l k i top.below (credit ∷ recover_lines e.graph now top.below) (goes.lines top.below top.lines_are) r.phase fits.in_phase seen.0 top.lines_are is, omega (arith, rests))
  turn_falls (turn.LivesSpent k l c) goes ends met brings rests = absurd (let f : true ≡ false = ends ∙ not_last r steps in cc)

  pub falls_turned : (t : Turn) (after_it : After) → after_it ≡ record { left = Some (item.Recover now); came = turn_came t lives } → Recovers g e v w r now t → ends_life t ≡ is_last r.phase r.life r.lives → is_met t ≡ (sees_mark r.phase && eqb (mark_of n) 1) → is_given t ≡ (posts r.phase && not (eqb n 0)) → Rests e r now t n
      → LetsFall e p (turn_event e v r) n (item_rest e p None (item.Recover r)) (after_rest e p None after_it)
  falls_turned t after_it same goes ends met brings rests = subst (λ a. LetsFall e p (turn_event e v r) n (item_rest e p None (item.Recover r)) (after_rest e p None a)) (sym same) (turn_falls t goes ends met brings rests)
