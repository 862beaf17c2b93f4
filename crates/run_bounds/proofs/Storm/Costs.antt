-- What is charged for jobs and bad blocks, by the rows, the tasks, their places and the lives that were replaced.
use Rattle.std.proofs.Common.{◌≡◌, ℕ, suc, ◌+◌, ◌-◌, ◌*◌, ◌<◌, ◌≤◌, eqb, List, [], ◌∷◌, length, Contains, ⊎_elim, arith, ap, ◌∙◌}
use Rattle.std.specs.List.{sum_by}
use Rattle.std.proofs.Math.Nat.{mul-le-mul_left}
use Rattle.std.proofs.lemmas.Bool.Decides.{eqb_tells}
use Rattle.std.proofs.lemmas.List.Sums.{sum_by-cons}
use Rattle.graph_model.specs.declared.plan.Strike.{Strike}
use Rattle.graph_model.specs.declared.record.Record.{Record}
use Rattle.core_state.specs.Counts.{count, hit}
use Rattle.core_state.specs.Graph.{Setting}
use Rattle.core_state.specs.Tests.{is_any_replaced}
use Rattle.core_state.proofs.Base.Counting.{bump_is}
use Rattle.compute_notify.specs.Resting.{suspect_rest}
use Rattle.run_bounds.specs.Storm.{IsComeTo, Lived, is_lived, job_cost}
use Rattle.run_bounds.proofs.Counting.{counted_in, length_sum}
use Rattle.run_bounds.proofs.Storm.Slots.{lived_cost}
use Rattle.run_bounds.proofs.Storm.Strikes.{strikes_few, struck_for}

-- each number of a list is no more than all
one_of_sum : (f : ℕ → ℕ) (k : ℕ) (ks : List ℕ) → 0 < count (eqb k) ks → f k ≤ sum_by f ks
one_of_sum f k [] some = absurd (omega (arith, some))
one_of_sum f k (x ∷ ks) some = let a = sum_by-cons f x ks in let many = bump_is (eqb k x) (count (eqb k) ks) in
    ⊎_elim (λ here. let b = ap f here.1 in omega (arith, a, b)) (λ other. let z = ap hit other.0 in let h = one_of_sum f k ks (omega (arith, some, many, z)) in omega (arith, a, h)) (eqb_tells k x)

module _ (e : Setting) where
  -- what a job costs, but for its strikes
  abbrev base : ℕ → ℕ
  base k = 24 * e.shape.rows * (e.graph.places k + e.graph.ports k + 2)

  base_all : (ks : List ℕ) → sum_by base ks ≡ 24 * e.shape.rows * (sum_by e.graph.places ks + sum_by e.graph.ports ks + 2 * length ks)
  base_all [] = omega arith
  base_all (k ∷ ks) = let h = base_all ks in let a = sum_by-cons base k ks in let p = sum_by-cons e.graph.places k ks in let q = sum_by-cons e.graph.ports k ks in
      rw (p, q) (weigh e.shape.rows (e.graph.places k) (e.graph.ports k) (sum_by e.graph.places ks) (sum_by e.graph.ports ks) (length ks) (sum_by base (k ∷ ks)) (sum_by base ks) a h)
    where
      weigh : (r p q s t n x y : ℕ) → x ≡ 24 * r * (p + q + 2) + y → y ≡ 24 * r * (s + t + 2 * n) → x ≡ 24 * r * ((p + s) + (q + t) + 2 * suc n)
      weigh r p q s t n x y a b = let c : 24 * r * ((p + s) + (q + t) + 2 * suc n) ≡ 24 * r * (p + q + 2) + 24 * r * (s + t + 2 * n) = grind arith in omega (arith, a, b, c)

  parted : (p : List Strike) (xs : List Lived) → sum_by (job_cost e p) xs ≡ sum_by (λ x. base x.key) xs + 4 * sum_by (struck_for p) xs
  parted p [] = omega arith
  parted p (x ∷ xs) = let h = parted p xs in let a = sum_by-cons (job_cost e p) x xs in let b = sum_by-cons (λ (y : Lived). base y.key) x xs in let c = sum_by-cons (struck_for p) x xs in omega (arith, h, a, b, c)

  -- a graph of t tasks with n places
  module _ (t n : ℕ) (rows : e.shape.rows ≡ t + 1) (many : length e.keys ≡ t + 1) (places : sum_by e.graph.places e.keys ≡ n + 1) (ports : sum_by e.graph.ports e.keys ≤ sum_by e.graph.places e.keys) where
    few_places : (k : ℕ) → 0 < count (eqb k) e.keys → e.graph.places k ≤ n + 1
    few_places k here = let a = one_of_sum e.graph.places k e.keys here in omega (arith, a, places)

    few_ports : (k : ℕ) → 0 < count (eqb k) e.keys → e.graph.ports k ≤ n + 1
    few_ports k here = let a = one_of_sum e.graph.ports k e.keys here in omega (arith, a, places, ports)

    base_few : (k : ℕ) → 0 < count (eqb k) e.keys → base k ≤ 24 * ((t + 1) * (2 * n + 4))
    base_few k here = let a = few_places k here in let b = few_ports k here in
        let c : 24 * (t + 1) * (e.graph.places k + e.graph.ports k + 2) ≤ 24 * (t + 1) * (2 * n + 4) = mul-le-mul_left (24 * (t + 1)) (omega (arith, a, b)) in
        let d : 24 * (t + 1) * (2 * n + 4) ≡ 24 * ((t + 1) * (2 * n + 4)) = grind arith in
        let f : base k ≡ 24 * (t + 1) * (e.graph.places k + e.graph.ports k + 2) = ap (λ r. 24 * r * (e.graph.places k + e.graph.ports k + 2)) rows in omega (arith, c, d, f)

    first_few : sum_by base e.keys ≤ 48 * ((t + 1) * (n + t + 2))
    first_few =
        let a = base_all e.keys in
        let b : 24 * (t + 1) * (sum_by e.graph.places e.keys + sum_by e.graph.ports e.keys + 2 * length e.keys) ≤ 24 * (t + 1) * (2 * (n + t + 2)) = mul-le-mul_left (24 * (t + 1)) (omega (arith, places, ports, many)) in
        let c : 24 * (t + 1) * (2 * (n + t + 2)) ≡ 48 * ((t + 1) * (n + t + 2)) = grind arith in
        let d : 24 * e.shape.rows * (sum_by e.graph.places e.keys + sum_by e.graph.ports e.keys + 2 * length e.keys) ≡ 24 * (t + 1) * (sum_by e.graph.places e.keys + sum_by e.graph.ports e.keys + 2 * length e.keys) = ap (λ r. 24 * r * (sum_by e.graph.places e.keys + sum_by e.graph.ports e.keys + 2 * length e.keys)) rows in omega (arith, a, b, c, d)

    -- two replacements that are begun
    pub suspect_twice : (k : ℕ) → Contains e.keys k → e.graph.notify_words k ≤ 17 → 2 * suspect_rest e k + 2 ≤ 20 * (t + 1) * (n + 4)
    suspect_twice k has words = let a = few_ports k (counted_in k e.keys has) in
        let b : (t + 10) * (e.graph.ports k - 0) ≤ (t + 10) * (n + 1) = mul-le-mul_left (t + 10) (omega (arith, a)) in
        let c : (e.graph.ports k - 0) * (e.shape.rows + 9) ≡ (e.graph.ports k - 0) * (t + 1 + 9) = ap (λ r. (e.graph.ports k - 0) * (r + 9)) rows in
        let d : (e.graph.ports k - 0) * (t + 1 + 9) ≡ (t + 10) * (e.graph.ports k - 0) = grind arith in
        let f : (t + 10) * (n + 1) ≡ t * n + t + 10 * n + 10 = grind arith in
        let h : 20 * (t + 1) * (n + 4) ≡ 20 * (t * n) + 80 * t + 20 * n + 80 = grind arith in omega (arith, b, c, d, f, h, words)

    -- what comes of so many kinds once in each life
    pub lives_few : (kinds : ℕ) (rs : List Record) (xs : List Lived) → ((a k l : ℕ) → count (is_lived a k l) xs ≤ 1) → ((a k l : ℕ) → 0 < count (is_lived a k l) xs → (a < kinds) × IsComeTo e.keys rs k l) → length xs ≤ kinds * ((t + 1) + count is_any_replaced rs)
    lives_few kinds rs xs once come = let a = lived_cost kinds 1 (λ k. 1) e.keys rs (λ k here. omega arith) xs once come in let b = length_sum xs in let c = length_sum e.keys in
        let d : kinds * sum_by (λ k. 1) e.keys ≡ kinds * (t + 1) = ap (λ z. kinds * z) (let f : sum_by (λ k. 1) e.keys ≡ t + 1 = omega (arith, c, many) in f) in
        let f : kinds * ((t + 1) + count is_any_replaced rs) ≡ kinds * (t + 1) + kinds * 1 * count is_any_replaced rs = grind arith in omega (arith, a, b, d, f)

    -- both jobs of each life, where the first lives are counted by their places and ports
    pub jobs_fewer : (p : List Strike) (rs : List Record) (xs : List Lived) → ((a k l : ℕ) → count (is_lived a k l) xs ≤ 1) → ((a k l : ℕ) → 0 < count (is_lived a k l) xs → (a < 2) × IsComeTo e.keys rs k l)
        → sum_by (job_cost e p) xs ≤ 160 * ((t + 1) * (n + t + 2)) + count is_any_replaced rs * (80 * ((t + 1) * (2 * n + 4))) + 8 * length p
    jobs_fewer p rs xs once come =
        let a = lived_cost 2 (24 * ((t + 1) * (2 * n + 4))) base e.keys rs base_few xs once come in let b = strikes_few 2 p xs once (λ a k l some. (come a k l some).0) in
        let c = parted p xs in let d = first_few in
        let f : 2 * (24 * ((t + 1) * (2 * n + 4))) * count is_any_replaced rs ≡ count is_any_replaced rs * (48 * ((t + 1) * (2 * n + 4))) = grind arith in
        let h : count is_any_replaced rs * (48 * ((t + 1) * (2 * n + 4))) ≤ count is_any_replaced rs * (80 * ((t + 1) * (2 * n + 4))) = mul-le-mul_left (count is_any_replaced rs) (omega arith) in omega (arith, a, b, c, d, f, h)

    -- without a strike and a replaced life
    pub jobs_calm : (rs : List Record) (xs : List Lived) → count is_any_replaced rs ≡ 0 → ((a k l : ℕ) → count (is_lived a k l) xs ≤ 1) → ((a k l : ℕ) → 0 < count (is_lived a k l) xs → (a < 2) × IsComeTo e.keys rs k l)
        → sum_by (job_cost e []) xs ≤ 96 * ((t + 1) * (n + t + 2))
    jobs_calm rs xs none once come =
        let a = lived_cost 2 (24 * ((t + 1) * (2 * n + 4))) base e.keys rs base_few xs once come in let b = strikes_few 2 [] xs once (λ a k l some. (come a k l some).0) in
        let c = parted [] xs in let d = first_few in
        let f : 2 * (24 * ((t + 1) * (2 * n + 4))) * count is_any_replaced rs ≡ 0 = ap (λ r. 2 * (24 * ((t + 1) * (2 * n + 4))) * r) none ∙ omega arith in omega (arith, a, b, c, d, f)
