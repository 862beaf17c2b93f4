-- A job that begins has at most so much left, by the rows of the table, its places and ports, and the strikes of its task and life.
use Rattle.std.proofs.Common.{◌≡◌, ℕ, zero, suc, ◌+◌, ◌-◌, ◌*◌, ◌<◌, ◌≤◌, ◌==◌, Bool, true, false, cond, ◌&&◌, nat_lt, List, [], ◌∷◌, length, map, filter, None, refl, ap, ◌∙◌, arith}
use Rattle.std.proofs.lemmas.Bool.{lt-ltb}
use Rattle.graph_model.specs.Graph.{Graph as TaskGraph}
use Rattle.graph_model.specs.Plans.{hits, point_number, waits_for}
use Rattle.graph_model.specs.declared.key.Key.{Key}
use Rattle.graph_model.specs.declared.plan.Point.{Point}
use Rattle.graph_model.specs.declared.plan.Point.TheVariants as point
use Rattle.graph_model.specs.declared.plan.Strike.{Strike}
use Rattle.core_state.specs.Asked.{IsCoreKey}
use Rattle.core_state.specs.Graph.{Setting}
use Rattle.core_state.specs.declared.job.Job.{Job}
use Rattle.core_state.specs.declared.job.Job.TheVariants as job
use Rattle.compute_notify.specs.Resting.{item_rest, job_rest, places_rest}
use Rattle.compute_notify.specs.Running.{Runs}
use Rattle.compute_notify.specs.Tasks.{IsNew, begun_items, few_left, items_rest, life_strikes, of_life, task_rest}
use Rattle.compute_notify.specs.Items.{job_item}
use Rattle.compute_notify.specs.declared.duty.Duty.{Duty}
use Rattle.compute_notify.specs.declared.explore.Way.TheVariants as reaching
use Rattle.compute_notify.specs.declared.item.Item.TheVariants as item
use Rattle.compute_notify.specs.declared.task.Task.{Task}

-- how many strikes wait for a point
counted_at : Key → ℕ → Point → Strike → ℕ
counted_at key life at s = cond (waits_for at key life s) 1 0

-- the strikes of three points are no more than those of the life
module _ (key : Key) (life : ℕ) where
  hits_next : (at : Point) (s : Strike) (xs : List Strike) → length (hits at key life (s ∷ xs)) ≡ counted_at key life at s + length (hits at key life xs)
  unfolding counted_at
  hits_next at s xs = by (waits_for at key life s)
    where
      by : (b : Bool) → length (map (λ (s : Strike). s.target) (cond b (s ∷ filter (waits_for at key life) xs) (filter (waits_for at key life) xs))) ≡ cond b 1 0 + length (hits at key life xs)
      by true = omega arith
      by false = omega arith

  strikes_next : (s : Strike) (xs : List Strike) → length (life_strikes key life (s ∷ xs)) ≡ cond (of_life key life s) 1 0 + length (life_strikes key life xs)
  strikes_next s xs = by (of_life key life s)
    where
      by : (b : Bool) → length (cond b (s ∷ filter (of_life key life) xs) (filter (of_life key life) xs)) ≡ cond b 1 0 + length (life_strikes key life xs)
      by true = omega arith
      by false = omega arith

  -- a strike waits for one point
  one_point : (s : Strike) → counted_at key life point.Ready s + counted_at key life point.Computed s + counted_at key life point.Notified s ≤ cond (of_life key life s) 1 0
  unfolding counted_at
  one_point s = by (of_life key life s) s.point
    where
      by : (b : Bool) (at : Point) → cond (b && (point_number at == 1)) 1 0 + cond (b && (point_number at == 2)) 1 0 + cond (b && (point_number at == 3)) 1 0 ≤ cond b 1 0
      by true point.Explored = omega arith
      by true point.Ready = omega arith
      by true point.Computed = omega arith
      by true point.Notified = omega arith
      by false at = omega arith

  explored_point : (s : Strike) → counted_at key life point.Explored s ≤ cond (of_life key life s) 1 0
  unfolding counted_at
  explored_point s = by (of_life key life s) (point_number s.point == 0)
    where
      by : (b c : Bool) → cond (b && c) 1 0 ≤ cond b 1 0
      by true true = omega arith
      by true false = omega arith
      by false c = omega arith

  pub three_points : (xs : List Strike) → length (hits point.Ready key life xs) + length (hits point.Computed key life xs) + length (hits point.Notified key life xs) ≤ length (life_strikes key life xs)
  three_points [] = omega arith
  three_points (s ∷ xs) = let a = hits_next point.Ready s xs in let b = hits_next point.Computed s xs in let c = hits_next point.Notified s xs in let d = strikes_next s xs in let f = one_point s in let g = three_points xs in omega (arith, a, b, c, d, f, g)

  pub first_point : (xs : List Strike) → length (hits point.Explored key life xs) ≤ length (life_strikes key life xs)
  first_point [] = omega arith
  first_point (s ∷ xs) = let a = hits_next point.Explored s xs in let d = strikes_next s xs in let f = explored_point s in let g = first_point xs in omega (arith, a, d, f, g)

-- numbers that are multiplied by some rows
module _ (rows : ℕ) (some : 0 < rows) where
  times_rows : (a : ℕ) → a ≤ a * rows
  times_rows zero = omega arith
  times_rows (suc a) = let h = times_rows a in let c : suc a * rows ≡ a * rows + rows = grind arith in omega (arith, h, c, some)

  -- the places of an exploring
  few_places : (p s h : ℕ) → p * (rows + 14) + 2 * h + 12 ≤ 24 * rows * (p + s + 2) + 4 * h
  few_places p s h = let a = times_rows p in let x : p * (rows + 14) ≡ p * rows + 14 * p = grind arith in let y : 24 * rows * (p + s + 2) ≡ 24 * (p * rows) + 24 * (s * rows) + 48 * rows = grind arith in omega (arith, a, x, y, some)

  -- the inputs, the words and the ports of a computing
  few_ports : (p s i words a h : ℕ) → i ≤ p → words ≤ 17 → a ≤ h → 2 * i + 2 * words + s * (rows + 7) + rows + 2 * a + 10 ≤ 24 * rows * (p + s + 2) + 4 * h
  few_ports p s i words a h low few fewer = let b = times_rows p in let c = times_rows s in let x : s * (rows + 7) ≡ s * rows + 7 * s = grind arith in let y : 24 * rows * (p + s + 2) ≡ 24 * (p * rows) + 24 * (s * rows) + 48 * rows = grind arith in omega (arith, b, c, x, y, low, few, fewer, some)

module _ (g : TaskGraph) (strikes : List Strike) (lives : ℕ) (e : Setting) (runs : Runs g strikes lives e) (duty : Duty) where
  abbrev k : ℕ
  k = duty.key.0

  places_all : (p : ℕ) → cond (nat_lt 0 p) ((e.shape.rows + 14) + (p - (0 + 1)) * (e.shape.rows + 14)) 0 ≡ p * (e.shape.rows + 14)
  places_all zero = omega arith
  places_all (suc p) = let a : suc p * (e.shape.rows + 14) ≡ (e.shape.rows + 14) + p * (e.shape.rows + 14) = grind arith in let d : suc p - (0 + 1) ≡ p = omega arith in let b : cond (nat_lt 0 (suc p)) ((e.shape.rows + 14) + (suc p - (0 + 1)) * (e.shape.rows + 14)) 0 ≡ (e.shape.rows + 14) + p * (e.shape.rows + 14) = ap (λ (c : Bool). cond c ((e.shape.rows + 14) + (suc p - (0 + 1)) * (e.shape.rows + 14)) 0) (lt-ltb 0 (suc p) (omega arith)) ∙ ap (λ z. (e.shape.rows + 14) + z * (e.shape.rows + 14)) d in omega (arith, a, b)

  -- also where a post brought it, whose hint is paid besides
  pub job_few : IsCoreKey g duty.key.0 → (i : Job) → job_rest e strikes duty i + 4 ≤ few_left e strikes duty.key duty.life
  job_few key job.Explore =
      let a : places_rest e (record { duty = duty; place = 0; way = reaching.Start; made = 0 }) ≡ e.graph.places k * (e.shape.rows + 14) = places_all (e.graph.places k) in let h = first_point duty.key duty.life strikes in
      let b = few_places e.shape.rows runs.some_row (e.graph.places k) (e.graph.ports k) (length (life_strikes duty.key duty.life strikes)) in omega (arith, a, h, b)
  job_few key job.Compute =
      let ready = length (hits point.Ready duty.key duty.life strikes) in let computed = length (hits point.Computed duty.key duty.life strikes) in let notified = length (hits point.Notified duty.key duty.life strikes) in
      let a = three_points duty.key duty.life strikes in
      let shape : job_rest e strikes duty job.Compute ≡ ((((2 * (ready - 0) - 0) + 1 + 2 * e.graph.inputs k + 2 + (e.shape.rows + 2)) + (((2 * (e.graph.notify_words k - 0) - 0) + (e.graph.ports k - 40 * 0) * (e.shape.rows + 7)) + ((2 * (computed - 0) + 2 * (notified - 0)) - 0))) + 1) = refl in
      let ports : (e.graph.ports k - 40 * 0) * (e.shape.rows + 7) ≡ e.graph.ports k * (e.shape.rows + 7) = ap (λ z. z * (e.shape.rows + 7)) (let z : e.graph.ports k - 40 * 0 ≡ e.graph.ports k = omega arith in z) in
      let b = few_ports e.shape.rows runs.some_row (e.graph.places k) (e.graph.ports k) (e.graph.inputs k) (e.graph.notify_words k) (ready + computed + notified)
      (length (life_strikes duty.key duty.life strikes)) (runs.serves.lawful.few_inputs k) (runs.few_words k key) a in omega (arith, shape, ports, b)

  pub new_few : IsCoreKey g duty.key.0 → (i : Job) (t : Task) → IsNew t (job_item duty i) → task_rest e strikes t ≤ few_left e strikes duty.key duty.life
  new_few key i t new = let a = job_few key i in
      let same : task_rest e strikes t ≡ 1 + item_rest e strikes None (job_item duty i) = ap (λ o. items_rest e strikes t.hand (begun_items o t.items.items)) new.begins_with ∙ ap (λ h. items_rest e strikes h (item.Credit ∷ job_item duty i ∷ [])) new.no_block in omega (arith, a, same)
