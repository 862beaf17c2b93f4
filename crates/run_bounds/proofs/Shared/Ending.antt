-- What the charges of several workers come to: with three turns of each entry of the schedule to a move, and three more, there are still fewer than enough.
use Rattle.std.proofs.Common.{◌≡◌, ◌⊎◌, ℕ, zero, suc, ◌+◌, ◌-◌, ◌*◌, ◌<◌, ◌≤◌, Bool, true, cond, eqb, List, [], ◌∷◌, ◌++◌, length, length-append, ⊎_elim, inl, inr, arith, refl, ap, sym, ◌∙◌, subst}
use mathlib.Core.Logic.{dite}
use native.Mathlib.Decide.{ℕ_discrete, dec_lt}
use Rattle.std.specs.List.{sum_by}
use Rattle.std.proofs.Math.Nat.{mul-le-mul_left}
use Rattle.std.proofs.lemmas.List.Sums.{sum_by-cons}
use Rattle.std.proofs.lemmas.Nat.{mul-le}
use Rattle.graph_model.specs.Graph.{Graph as TaskGraph}
use Rattle.graph_model.specs.declared.plan.Strike.{Strike}
use Rattle.graph_model.specs.declared.record.Record.{Record}
use Rattle.core_state.specs.Asked.{IsCoreKey}
use Rattle.core_state.specs.Change.{Core}
use Rattle.core_state.specs.Counts.{count, ended, held, noted, struck_by, struck_upto}
use Rattle.core_state.specs.Graph.{Graph, Plan, Setting}
use Rattle.core_state.specs.Rooted.{graph_of, root_key}
use Rattle.core_state.specs.Rows.{HasRow}
use Rattle.core_state.specs.Tests.{is_any_replaced, is_any_struck, is_of, is_replaced, is_struck_upto, strikes_upto}
use Rattle.core_state.specs.Words.{replacing, standing_life}
use Rattle.core_state.specs.declared.job.Job.{Job}
use Rattle.core_state.specs.declared.job.Job.TheVariants as job
use Rattle.core_state.proofs.Base.Counting.{eqb_here}
use Rattle.core_state.proofs.Row.Made.{replaced_of}
use Rattle.core_state.proofs.Start.Root.{by_none, which}
use Rattle.compute_notify.specs.Resting.{suspect_rest}
use Rattle.run_bounds.specs.Budgets.{IsRunOf, all_places, enough_turns}
use Rattle.run_bounds.specs.Shared.{Actor, Shares, strikes_of}
use Rattle.run_bounds.specs.Storm.{IsComeTo, IsStormRun, enough_turns_of, is_lived, job_cost, job_kind, most_cost}
use Rattle.run_bounds.specs.Struck.{lives_of}
use Rattle.run_bounds.proofs.Counting.{count_both, count_weaker, each_counted, length_sum, none_counted}
use Rattle.run_bounds.proofs.Edges.{ports_below_places}
use Rattle.run_bounds.proofs.Keys.{key_of_place, keys_many, keys_once, places_are, rows_are}
use Rattle.run_bounds.proofs.Pigeons.{met, pigeons}
use Rattle.run_bounds.proofs.Unstruck.{unreplaced, unstruck}
use Rattle.run_bounds.proofs.Shared.Ledger.{part_at}
use Rattle.run_bounds.proofs.Shared.Parts.{come_to, job_life, job_row, replaced_low}
use Rattle.run_bounds.proofs.Storm.Costs.{jobs_calm, jobs_fewer, lives_few, suspect_twice}
use Rattle.run_bounds.proofs.Storm.Several.{several_enough}
use Rattle.run_bounds.proofs.Lists.{some_member}

-- numbers below one, each at most once, are no more than it
abbrev numbers : ℕ → List ℕ
numbers zero = []
numbers (suc m) = m ∷ numbers m

numbers_sum : (n : ℕ) → sum_by (λ y. 1) (numbers n) ≡ n
numbers_sum zero = omega arith
numbers_sum (suc m) = let h = numbers_sum m in let a = sum_by-cons (λ (y : ℕ). 1) m (numbers m) in omega (arith, h, a)

in_numbers : (x n : ℕ) → x < n → 1 ≤ met (λ x y. eqb y x) (λ y. 1) x (numbers n)
in_numbers x zero low = absurd (omega (arith, low))
in_numbers x (suc m) low = let a = sum_by-cons (λ y. cond (eqb y x) 1 0) m (numbers m) in
    dite (ℕ_discrete x m)
    (λ here. let t : eqb m x ≡ true = subst (λ i. eqb i x ≡ true) here (eqb_here x) in let c : cond (eqb m x) 1 0 ≡ 1 = ap (λ b. cond {A = ℕ} b 1 0) t in omega (arith, a, c))
    (λ other. let h = in_numbers x m (omega (arith, low, other)) in omega (arith, a, h))

fewer : (xs : List ℕ) (n : ℕ) → ((m : ℕ) → count (eqb m) xs ≤ 1) → ((m : ℕ) → n ≤ m → count (eqb m) xs ≡ 0) → length xs ≤ n
fewer xs n once high = let a = pigeons (λ x y. eqb y x) (λ y. 1) (λ x. 1) xs (numbers n)
    (each_counted (λ x. 1 ≤ met (λ x y. eqb y x) (λ y. 1) x (numbers n)) (λ x y. eqb x y) eqb_here xs (λ x some. in_numbers x n (dite (dec_lt x n) (λ low. low) (λ above. absurd (let z = high x (omega (arith, above)) in omega (arith, z, some))))))
    once in let b = numbers_sum n in let c = length_sum xs in omega (arith, a, b, c)

-- the records and strikes of all workers, one behind the other
abbrev all_records : List Actor → List Record
all_records [] = []
all_records (a ∷ crew) = a.view.records ++ all_records crew

abbrev all_strikes : List Actor → List ℕ
all_strikes [] = []
all_strikes (a ∷ crew) = a.view.strikes ++ all_strikes crew

records_sum : (test : Record → Bool) (crew : List Actor) → sum_by (λ c. noted test c.view) crew ≡ count test (all_records crew)
records_sum test [] = refl
records_sum test (a ∷ crew) = let h = records_sum test crew in let x = sum_by-cons (λ (c : Actor). noted test c.view) a crew in let y = count_both test a.view.records (all_records crew) in omega (arith, h, x, y)

strikes_sum : (test : ℕ → Bool) (crew : List Actor) → sum_by (λ c. count test c.view.strikes) crew ≡ count test (all_strikes crew)
strikes_sum test [] = refl
strikes_sum test (a ∷ crew) = let h = strikes_sum test crew in let x = sum_by-cons (λ (c : Actor). count test c.view.strikes) a crew in let y = count_both test a.view.strikes (all_strikes crew) in omega (arith, h, x, y)

many_strikes : (crew : List Actor) → sum_by (λ c. strikes_of c.view) crew ≡ length (all_strikes crew)
many_strikes [] = refl
many_strikes (a ∷ crew) = let h = many_strikes crew in let x = sum_by-cons (λ (c : Actor). strikes_of c.view) a crew in let y = length-append a.view.strikes (all_strikes crew) in omega (arith, h, x, y)

low_kind : (i : Job) (a : ℕ) → a ≡ job_kind i → a < 2
low_kind job.Explore a at = omega (arith, at)
low_kind job.Compute a at = omega (arith, at)

module _ (g : TaskGraph) (p : List Strike) (e : Setting) (run : IsStormRun g p e) where
  run_of : IsRunOf g e
  run_of = record { outcome = run.outcome; strikes = p; lives = run.lives; setting_is = run.setting_is; laws = run.runs.laws }

  ports : sum_by e.graph.ports e.keys ≤ sum_by e.graph.places e.keys
  ports = ports_below_places e.graph run.runs.serves.lawful e.keys (keys_once g e run_of) (key_of_place g e run_of)

  -- a key that is neither a task nor the root has no port, and one word
  key_or_bare : (k : ℕ) → IsCoreKey g k ⊎ ((e.graph.ports k ≡ 0) × (e.graph.notify_words k ≡ 1))
  key_or_bare k = ⊎_elim (λ root. inl (inl root)) (λ other. ⊎_elim (λ task. inl (inr task.1))
      (λ none. inr (let graph_is : e.graph ≡ graph_of g run.outcome = ap (λ (s : Setting). s.graph) run.setting_is in
      (ap (λ (r : Graph). r.ports k) graph_is ∙ by_none root_key g k 0 (Rattle.core_state.specs.Shapes.edges_of g k) 0 none.0 none.1, ap (λ (r : Graph). r.notify_words k) graph_is ∙ by_none root_key g k 1 (Rattle.core_state.specs.Shapes.words_of g k) 1 none.0 none.1))) other) (which root_key g k)

  -- two lives may be replaced for what a strike is charged
  pub suspects_cost_twice : (k : ℕ) → 2 * suspect_rest e k + 2 ≤ most_cost g
  suspects_cost_twice k = ⊎_elim
      (λ key. suspect_twice e (length g.keys) (all_places g) (rows_are g e run_of) (keys_many g e run_of) (places_are g e run_of) ports k (run.runs.serves.listed k key) (run.runs.few_words k key))
      (λ bare. let none : (e.graph.ports k - 0) * (e.shape.rows + 9) ≡ 0 = ap (λ q. (q - 0) * (e.shape.rows + 9)) bare.0 ∙ omega arith in let one = bare.1 in
      let much : 20 * (length g.keys + 1) * (all_places g + 4) ≡ 20 * (length g.keys * all_places g) + 80 * length g.keys + 20 * all_places g + 80 = grind arith in omega (arith, none, one, much))
      (key_or_bare k)

  module _ {s : Core} {crew : List Actor} {moves : ℕ} (shares : Shares e p (most_cost g) s crew moves) where
    -- all records, and all strikes
    records_are : (test : Record → Bool) → s.total (noted test) ≡ count test (all_records crew)
    records_are test = shares.all (noted test) ∙ records_sum test crew

    strikes_few : s.total strikes_of ≤ length p
    strikes_few = let plan_is : e.plan.count ≡ length p = ap (λ (q : Plan). q.count) run.runs.plan_is in let sum = shares.all strikes_of in let many = many_strikes crew in
        let few = fewer (all_strikes crew) (length p)
        (λ m. let a = shares.all (struck_by m) in let b = strikes_sum (eqb m) crew in dite (dec_lt m (length p)) (λ low. let c = (shares.holds.strikes.each m (omega (arith, low, plan_is))).once in omega (arith, a, b, c)) (λ high. let c = shares.holds.strikes.planned m (omega (arith, high, plan_is)) in omega (arith, a, b, c)))
        (λ m high. let a = shares.all (struck_by m) in let b = strikes_sum (eqb m) crew in let c = shares.holds.strikes.planned m (omega (arith, high, plan_is)) in omega (arith, a, b, c)) in omega (arith, sum, many, few)

    -- without a strike in the plan none landed
    none_landed : length p ≡ 0 → s.total (noted is_any_struck) ≡ 0
    none_landed none = let few = strikes_few in let sum = shares.all strikes_of in let many = many_strikes crew in
        records_are is_any_struck ∙ unstruck (all_records crew) (λ k l h. let a = shares.holds.strikes.few k l h in let b = shares.all (struck_upto e.plan k l h) in let c = strikes_sum (strikes_upto e.plan k l h) crew in
        let d = none_counted (strikes_upto e.plan k l h) (all_strikes crew) (omega (arith, few, sum, many, none)) in let f = records_are (is_struck_upto k l h) in omega (arith, a, b, c, d, f))

    -- a job that began has a row, and so has a bad block that was read
    begun_row : (i : Job) (k l : ℕ) → 0 < s.total (held i k l) + s.total (ended i k l) → HasRow e s k
    begun_row i k l some = dite (ℕ_discrete (s.total (ended i k l)) 0)
        (λ none. let a = shares.all (held i k l) in let it = some_member (λ c. held i k l c.view) crew (omega (arith, none, some, a)) in job_row (part_at shares it.0 it.1 it.2) i k l (let b = it.3 in omega (arith, b)))
        (λ ne. shares.holds.keys.of_ended i k l (omega (arith, ne)))

    begun_come : (i : Job) (k l : ℕ) → 0 < s.total (held i k l) + s.total (ended i k l) → IsComeTo e.keys (all_records crew) k l
    begun_come i k l some = let row = begun_row i k l some in let life = job_life shares.sound shares.holds row.0 k row.1 i l (omega (arith, some)) in
        come_to shares.sound shares.holds row.0 k row.1 (all_records crew) (λ m. records_are (is_replaced k m)) l life.0 life.1

    jobs_come : (a k l : ℕ) → 0 < count (is_lived a k l) shares.jobs → (a < 2) × IsComeTo e.keys (all_records crew) k l
    jobs_come a k l some = let it = shares.jobs_begun a k l some in (low_kind it.0 a it.1, begun_come it.0 k l it.2)

    bads_come : (a k l : ℕ) → 0 < count (is_lived a k l) shares.bads → (a < 1) × IsComeTo e.keys (all_records crew) k l
    bads_come a k l some = let it = shares.bad a k l some in (let q = it.0 in omega (arith, q), begun_come job.Compute k l (let q = it.1 in omega (arith, q)))

    -- bad blocks come of strikes
    bads_few : length shares.bads ≤ length p * (length g.keys + 1) + s.total (noted is_any_replaced)
    bads_few = dite (ℕ_discrete (length p) 0)
        (λ none. dite (ℕ_discrete (length shares.bads) 0) (λ z. omega (arith, z)) (λ ne. absurd (let a = shares.faulted (omega (arith, ne)) in let b = none_landed none in omega (arith, a, b))))
        (λ some. let a = lives_few e (length g.keys) (all_places g) (rows_are g e run_of) (keys_many g e run_of) (places_are g e run_of) ports 1 (all_records crew) shares.bads shares.bads_once bads_come in
        let b = records_are is_any_replaced in let c : 1 * (length g.keys + 1) ≤ length p * (length g.keys + 1) = mul-le 1 (length g.keys + 1) (length p) (length g.keys + 1) (omega (arith, some)) (omega arith) in omega (arith, a, b, c))

    -- what is charged for jobs
    jobs_low : sum_by (job_cost e p) shares.jobs ≤ 160 * ((length g.keys + 1) * (all_places g + length g.keys + 2)) + s.total (noted is_any_replaced) * (80 * ((length g.keys + 1) * (2 * all_places g + 4))) + 8 * length p
    jobs_low = subst (λ r. sum_by (job_cost e p) shares.jobs ≤ 160 * ((length g.keys + 1) * (all_places g + length g.keys + 2)) + r * (80 * ((length g.keys + 1) * (2 * all_places g + 4))) + 8 * length p) (sym (records_are is_any_replaced))
        (jobs_fewer e (length g.keys) (all_places g) (rows_are g e run_of) (keys_many g e run_of) (places_are g e run_of) ports p (all_records crew) shares.jobs shares.jobs_once jobs_come)

    pub shares_few : (m turns : ℕ) → 0 < m → 0 < length g.keys → turns ≤ m * (3 * (moves + 1)) → turns < enough_turns_of g m (length p) (s.total (noted is_any_replaced))
    shares_few m turns some tasks made =
        let paid = shares.paid in let jobs = jobs_low in let bads = bads_few in let struck = strikes_few in
        several_enough m (length p) (s.total (noted is_any_replaced)) (length g.keys) (all_places g) some tasks (sum_by (job_cost e p) shares.jobs) (most_cost g) (length shares.bads) (s.total strikes_of) moves turns
        jobs (omega arith) bads struck (omega (arith, paid)) made

-- so fewer turns are enough where the plan is empty
module _ (g : TaskGraph) (e : Setting) (run : IsStormRun g [] e) {s : Core} {crew : List Actor} {moves : ℕ} (shares : Shares e [] (most_cost g) s crew moves) where
  pub none_struck : s.total (noted is_any_struck) ≡ 0
  none_struck = none_landed g [] e run shares refl

  pub none_replaced : s.total (noted is_any_replaced) ≡ 0
  none_replaced = records_are g [] e run shares is_any_replaced ∙ unreplaced (all_records crew) (λ k l. sym (records_are g [] e run shares (is_replaced k l)) ∙ dite (ℕ_discrete (s.total (noted (is_replaced k l))) 0) (λ z. z) (λ ne. absurd (by k l (omega (arith, ne)))))
    where
      by : (k l : ℕ) → 0 < s.total (noted (is_replaced k l)) → ⊥
      by k l some =
          let named = count_weaker (is_replaced k l) (is_of k l) (replaced_of k l) (all_records crew) in let all = records_are g [] e run shares (is_of k l) in let here = records_are g [] e run shares (is_replaced k l) in
          let made = shares.holds.records.lives.created_once k l (omega (arith, named, all, here, some)) in let row = shares.holds.keys.of_created k (omega (arith, made)) in
          let low = replaced_low shares.sound shares.holds row.0 k row.1 l some in let still = (shares.holds.no_fault.faultless none_struck).first_life row.0 k row.1 in
          let first : lives_of s row.0 ≡ 1 = ap (λ m. standing_life m + replacing m) still in
          let none = shares.holds.records.some_life k in let zero_life : l ≡ 0 = omega (arith, low, first) in let q = ap (λ m. count (is_of k m) (all_records crew)) zero_life in let o = records_are g [] e run shares (is_of k 0) in omega (arith, none, o, q, named, here, some)

  pub calm_few : (turns : ℕ) → turns ≤ 2 * moves + 1 → 0 < length g.keys → turns < enough_turns g
  calm_few turns made tasks =
      let run_is = run_of g [] e run in let none = none_replaced in let sum = records_are g [] e run shares is_any_replaced in let struck = strikes_few g [] e run shares in let bads = bads_few g [] e run shares in let paid = shares.paid in
      let jobs = jobs_calm e (length g.keys) (all_places g) (rows_are g e run_is) (keys_many g e run_is) (places_are g e run_is) (ports g [] e run) (all_records crew) shares.jobs (omega (arith, none, sum)) shares.jobs_once (jobs_come g [] e run shares) in
      let spared : 0 * (length g.keys + 1) ≡ 0 = omega arith in
      let free : most_cost g * (s.total (noted is_any_replaced) + length shares.bads + 2 * s.total strikes_of) ≡ 0 = ap (λ z. most_cost g * z) (let z : s.total (noted is_any_replaced) + length shares.bads + 2 * s.total strikes_of ≡ 0 = omega (arith, none, bads, struck, spared) in z) ∙ omega arith in
      let a : (length g.keys + 1) * 2 ≤ (length g.keys + 1) * (all_places g + length g.keys + 2) = mul-le-mul_left (length g.keys + 1) (omega arith) in
      let b : 200 * (length g.keys + 1) * (all_places g + length g.keys + 2) ≡ 200 * ((length g.keys + 1) * (all_places g + length g.keys + 2)) = grind arith in omega (arith, jobs, paid, free, a, b, made)
