-- A graph is accepted by what its tasks say, however their formulas lie in memory.
use Rattle.std.proofs.Common.{◌≡◌, ◌∙◌, ◌==◌, ℕ, zero, suc, ◌+◌, ◌<◌, ◌≤◌, List, [], ◌∷◌, ◌++◌, length, map, get_or, All, Contains, count_by, cond, refl, sym, subst, ap, arith}
use Rattle.std.specs.Prelude.{◌&&◌, Option}
use Rattle.std.specs.List.{sum_by}
use Rattle.std.specs.Option.{option_map_or}
use Rattle.std.proofs.lemmas.List.Elements.{All-nil, All-cons, All-head, All-tail}
use Rattle.std.proofs.lemmas.List.Sums.{sum_by-cons}
use Rattle.formula_text.specs.Formulas.{tree}
use Rattle.formula_text.specs.Trees.{HasInputs}
use Rattle.raw_graph.specs.Graph.{Task, task_of}
use Rattle.raw_graph.specs.declared.raw.RawTask.{RawTask}
use Rattle.audit_checks.specs.Tasks.{key_of, keys_of, places_of, succ_count, IsBefore, writes, Writes}
use Rattle.audit_checks.specs.Accepted.{IsAccepted}

-- the tasks say the same, one after the other
abbrev pub AreAlike : List RawTask → List RawTask → Type 0
AreAlike ts us = map task_of ts ≡ map task_of us

-- ---- single tasks
same_key : (t u : RawTask) → task_of t ≡ task_of u → key_of t ≡ key_of u
same_key t u e = ap (λ (x : Task). x.key) e

same_places : (t u : RawTask) → task_of t ≡ task_of u → places_of t ≡ places_of u
same_places t u e = ap (λ (x : Task). x.inputs ++ x.after) e

same_inputs : (t u : RawTask) → task_of t ≡ task_of u → HasInputs (tree t.formula) (length t.inputs) → HasInputs (tree u.formula) (length u.inputs)
same_inputs t u e has = subst (λ (x : Task). HasInputs x.tree (length x.inputs)) e has

-- ---- a task that says the same stands in the other list
record HasTwin (ts : List RawTask) (u : RawTask) : Type 0 where
  task : RawTask
  stands : Contains ts task
  same : task_of task ≡ task_of u

twin_at : (ts us : List RawTask) → AreAlike ts us → (i : ℕ) (u : RawTask) → i < length us → get_or us i u ≡ u → HasTwin ts u
twin_at [] [] alike i u inside is = absurd (omega (arith, inside))
twin_at (t ∷ ts) [] alike i u inside is = absurd (omega (arith, inside))
twin_at [] (v ∷ us) alike i u inside is = absurd (cc)
twin_at (t ∷ ts) (v ∷ us) alike zero u inside is = let first : task_of t ≡ task_of v = cc in record { task = t; stands = (0, omega arith, refl); same = first ∙ ap task_of is }
twin_at (t ∷ ts) (v ∷ us) alike (suc i) u inside is =
    let rest : AreAlike ts us = cc in
    let found = twin_at ts us rest i u (omega (arith, inside)) is in
    record { task = found.task; stands = (suc found.stands.0, (let low : found.stands.0 < length ts = found.stands.1 in omega (arith, low)), found.stands.2); same = found.same }

twin : (ts us : List RawTask) → AreAlike ts us → (u : RawTask) → Contains us u → HasTwin ts u
twin ts us alike u has = twin_at ts us alike has.0 u has.1 has.2

-- what holds of each task by what it says
all_alike : (P Q : RawTask → Type 0) → ((t u : RawTask) → task_of t ≡ task_of u → P t → Q u) → (ts us : List RawTask) → AreAlike ts us → All P ts → All Q us
all_alike P Q to [] [] alike all = All-nil Q
all_alike P Q to (t ∷ ts) [] alike all = All-nil Q
all_alike P Q to [] (u ∷ us) alike all = absurd (cc)
all_alike P Q to (t ∷ ts) (u ∷ us) alike all =
    let first : task_of t ≡ task_of u = cc in
    let rest : AreAlike ts us = cc in
    All-cons Q u us (to t u first (All-head P t ts all)) (all_alike P Q to ts us rest (All-tail P t ts all))

-- ---- sums and keys
sum_of : (f : Task → ℕ) (ts : List RawTask) → sum_by (λ t. f (task_of t)) ts ≡ sum_by f (map task_of ts)
sum_of f [] = refl
sum_of f (t ∷ ts) = sum_by-cons (λ t. f (task_of t)) t ts ∙ ap (λ n. f (task_of t) + n) (sum_of f ts) ∙ sym (sum_by-cons f (task_of t) (map task_of ts))

sum_alike : (f : Task → ℕ) (ts us : List RawTask) → AreAlike ts us → sum_by (λ t. f (task_of t)) ts ≡ sum_by (λ t. f (task_of t)) us
sum_alike f ts us alike = sum_of f ts ∙ ap (sum_by f) alike ∙ sym (sum_of f us)

keys_in : (ts : List RawTask) → keys_of ts ≡ map (λ (x : Task). x.key) (map task_of ts)
keys_in [] = refl
keys_in (t ∷ ts) = ap (λ ks. key_of t ∷ ks) (keys_in ts)

keys_alike : (ts us : List RawTask) → AreAlike ts us → keys_of ts ≡ keys_of us
keys_alike ts us alike = keys_in ts ∙ ap (map (λ (x : Task). x.key)) alike ∙ sym (keys_in us)

key_count : (ts us : List RawTask) → AreAlike ts us → (k : ℕ) → count_by (λ t. key_of t == k) ts ≡ count_by (λ t. key_of t == k) us
key_count ts us alike k = sum_alike (λ x. cond (x.key == k) 1 0) ts us alike

writer_count : (ts us : List RawTask) → AreAlike ts us → (b v : ℕ) → count_by (writes b v) ts ≡ count_by (writes b v) us
writer_count ts us alike b v = sum_alike (λ x. cond (option_map_or (λ w. (w.0 == b) && (w.1 == v)) x.block Rattle.std.specs.Prelude.false) 1 0) ts us alike

edges_alike : (ts us : List RawTask) → AreAlike ts us → (sink k : ℕ) → succ_count ts sink k ≡ succ_count us sink k
edges_alike ts us alike sink k = ap (λ n. n + cond (k == sink) 1 0) (sum_alike (λ x. count_by (λ p. p == k) (x.inputs ++ x.after)) ts us alike)

-- ---- edges and versions
before_alike : (ts us : List RawTask) → AreAlike ts us → (p k : ℕ) → IsBefore us p k → IsBefore ts p k
before_alike ts us alike p k is =
    let t = twin ts us alike is.task is.stands in
    record { task = t.task; stands = t.stands; key = same_key t.task is.task t.same ∙ is.key; names = subst (λ ps. Contains ps p) (sym (same_places t.task is.task t.same)) is.names }

record HasWriter (ts : List RawTask) (u : RawTask) (b v : ℕ) : Type 0 where
  task : RawTask
  writes : Writes ts task b v
  same : task_of task ≡ task_of u

writer : (ts us : List RawTask) → AreAlike ts us → (u : RawTask) (b v : ℕ) → Writes us u b v → HasWriter ts u b v
writer ts us alike u b v is =
    let t = twin ts us alike u is.stands in
    record { task = t.task; writes = record { stands = t.stands; place = ap (λ (x : Task). x.block) t.same ∙ is.place }; same = t.same }

-- ---- the whole
pub accepted_alike : (ts us : List RawTask) (sink : ℕ) → AreAlike ts us → IsAccepted ts sink → IsAccepted us sink
accepted_alike ts us sink alike is =
    let keys = keys_alike ts us alike in
    record {
      distinct = λ k. omega (arith, is.distinct k, key_count ts us alike k);
      known = all_alike (λ t. All (Contains (keys_of ts)) (places_of t)) (λ t. All (Contains (keys_of us)) (places_of t))
          (λ t u e all. subst (λ ks. All (Contains ks) (places_of u)) keys (subst (λ ps. All (Contains (keys_of ts)) ps) (same_places t u e) all)) ts us alike is.known;
      sink_task = subst (λ ks. Contains ks sink) keys is.sink_task;
      places = all_alike (λ t. length (places_of t) ≤ 40) (λ t. length (places_of t) ≤ 40) (λ t u e few. subst (λ (ps : List ℕ). length ps ≤ 40) (same_places t u e) few) ts us alike is.places;
      edges = all_alike (λ t. succ_count ts sink (key_of t) ≤ 640) (λ t. succ_count us sink (key_of t) ≤ 640)
          (λ t u e few. subst (λ n. n ≤ 640) (edges_alike ts us alike sink (key_of u)) (subst (λ k. succ_count ts sink k ≤ 640) (same_key t u e) few)) ts us alike is.edges;
      acyclic = record { number = is.acyclic.number; rises = λ p k before. is.acyclic.rises p k (before_alike ts us alike p k before) };
      once = λ b v. omega (arith, is.once b v, writer_count ts us alike b v);
      whole = λ u b v w has some less.
          let t = writer ts us alike u b v has in
          let found = is.whole t.task b v w t.writes some less in
          let back = writer us ts (sym alike) found.0 b w found.1 in
          (back.task, back.writes);
      ordered = λ s u b v first second.
          let a = writer ts us alike s b v first in
          let z = writer ts us alike u b (v + 1) second in
          subst (λ k. Contains (places_of u) k) (same_key a.task s a.same) (subst (λ ps. Contains ps (key_of a.task)) (same_places z.task u z.same) (is.ordered a.task z.task b v a.writes z.writes));
      read = λ s u r b v first second stands reads other.
          let a = writer ts us alike s b v first in
          let z = writer ts us alike u b (v + 1) second in
          let q = twin ts us alike r stands in
          let reading : Contains q.task.inputs (key_of a.task) = subst (λ (k : ℕ). Contains q.task.inputs k) (sym (same_key a.task s a.same)) (subst (λ (ks : List ℕ). Contains ks (key_of s)) (sym (ap (λ (x : Task). x.inputs) q.same)) reads) in
          let apart : key_of q.task ≡ key_of z.task → ⊥ = λ e. other (sym (same_key q.task r q.same) ∙ e ∙ same_key z.task u z.same) in
          subst (λ k. Contains (places_of u) k) (same_key q.task r q.same) (subst (λ ps. Contains ps (key_of q.task)) (same_places z.task u z.same) (is.read a.task z.task q.task b v a.writes z.writes q.stands reading apart));
      given = all_alike (λ t. HasInputs (tree t.formula) (length t.inputs)) (λ t. HasInputs (tree t.formula) (length t.inputs)) same_inputs ts us alike is.given;
    }
