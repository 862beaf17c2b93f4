-- What the maps of a rooted graph give at the root, at a task and at any other key.
use Rattle.std.proofs.Common.{◌≡◌, ◌≢◌, ◌⊎◌, ◌∙◌, ℕ, suc, ◌+◌, ◌<◌, ◌≤◌, Bool, true, false, cond, eqb, nat_lt, List, [], ◌∷◌, length, slice_index_or, ⊎_elim, inl, inr, sym, ap, refl, arith}
use Rattle.std.proofs.lemmas.Bool.{eq-eqb, ne_eqb, eqb-true, lt-ltb, cases_Bool}
use Rattle.std.proofs.lemmas.List.Folds.{list_any_at}
use Rattle.std.proofs.lemmas.Map.Views.{Contains-from_any}
use mathlib.Core.Bool.{true≢false}
use Rattle.std.proofs.lemmas.Bool.Decides.{eqb_tells, leb_tells}
use Rattle.std.proofs.lemmas.Option.{get_or_from_slice_get}
use Rattle.graph_model.specs.Graph.{Graph as TaskGraph, IsTask, IsPred, IsSucc}
use Rattle.graph_model.specs.Serial.{Outcome, serial}
use Rattle.core_state.specs.Shapes.{edges_of}
use Rattle.core_state.specs.Rooted.{has_task, by_key, edge_of, successor_of, rooted}

-- ---- the test for a task

pub task_found : (g : TaskGraph) (k : ℕ) → IsTask g k → has_task g k ≡ true
task_found g k has = list_any_at (eqb k) g.keys has.0 k has.1 (eq-eqb k (slice_index_or g.keys has.0 k) (sym has.2))

-- the test finds the tasks, and only them
pub task_tells : (g : TaskGraph) (k : ℕ) → ((has_task g k ≡ true) × IsTask g k) ⊎ ((has_task g k ≡ false) × (IsTask g k → ⊥))
task_tells g k = ⊎_elim (λ e. inl (e, Contains-from_any eqb-true k g.keys e)) (λ e. inr (e, λ has. true≢false (sym (task_found g k has) ∙ e))) (cases_Bool (has_task g k))

-- ---- an entry of a list

past_entry : (xs : List (ℕ × ℕ)) (d : ℕ × ℕ) → slice_index_or xs (length xs) d ≡ d
past_entry [] d = refl
past_entry (x ∷ xs) d = past_entry xs d

module _ (root : ℕ) (g : TaskGraph) where
  pub by_root : {X : Type 0} (k : ℕ) (a b c : X) → k ≡ root → by_key root g k a b c ≡ a
  by_root k a b c is = ap (λ t. cond t a (cond (has_task g k) b c)) (eq-eqb k root is)

  pub by_task : {X : Type 0} (k : ℕ) (a b c : X) → k ≢ root → IsTask g k → by_key root g k a b c ≡ b
  by_task k a b c ne has = ap (λ t. cond t a (cond (has_task g k) b c)) (ne_eqb k root ne) ∙ ap (λ t. cond t b c) (task_found g k has)

  pub by_none : {X : Type 0} (k : ℕ) (a b c : X) → k ≢ root → (IsTask g k → ⊥) → by_key root g k a b c ≡ c
  by_none k a b c ne lacks = ap (λ t. cond t a (cond (has_task g k) b c)) (ne_eqb k root ne) ∙ ap (λ t. cond t b c) (⊎_elim (λ z. absurd (lacks z.1)) (λ z. z.0) (task_tells g k))

  -- a key is the root, a task, or neither
  pub which : (k : ℕ) → (k ≡ root) ⊎ (((k ≢ root) × IsTask g k) ⊎ ((k ≢ root) × (IsTask g k → ⊥)))
  which k = ⊎_elim (λ z. inl z.1) (λ n. inr (⊎_elim (λ t. inl (n.1, t.1)) (λ t. inr (n.1, t.1)) (task_tells g k))) (eqb_tells k root)

  -- a number below that of a key is below the root's or a task's
  pub below_by : (k i a b : ℕ) → i < by_key root g k a b 0 → ((k ≡ root) × (i < a)) ⊎ (((k ≢ root) × IsTask g k) × (i < b))
  below_by k i a b low = ⊎_elim (λ is. inl (is, let e = by_root k a b 0 is in omega (arith, e, low)))
      (⊎_elim (λ t. inr (t, let e = by_task k a b 0 t.0 t.1 in omega (arith, e, low))) (λ n. absurd (let e = by_none k a b 0 n.0 n.1 in omega (arith, e, low))))
      (which k)

module _ (root : ℕ) (g : TaskGraph) (outcome : Outcome) where
  pub place_of_key : (k j : ℕ) → j < (rooted root g outcome).places k → ((k ≡ root) × (j ≡ 0)) ⊎ (((k ≢ root) × IsTask g k) × (j < length (g.preds k)))
  place_of_key k j low = ⊎_elim (λ z. inl (z.0, let l = z.1 in omega (arith, l))) (λ z. inr z) (below_by root g k j 1 (length (g.preds k)) low)

  pub port_of_key : (p q : ℕ) → q < (rooted root g outcome).ports p → ((p ≢ root) × IsTask g p) × (((p ≡ g.sink) × (q ≡ length (g.succs p))) ⊎ (q < length (g.succs p)))
  port_of_key p q low = ⊎_elim (λ z. absurd (let l = z.1 in omega (arith, l))) (λ z. (z.0, last z.1)) (below_by root g p q 0 (edges_of g p) low)
    where
      last : q < edges_of g p → ((p ≡ g.sink) × (q ≡ length (g.succs p))) ⊎ (q < length (g.succs p))
      last l = ⊎_elim
          (λ e. ⊎_elim (λ a. inl (e.1, a.1)) (λ a. inr (let w : edges_of g p ≡ length (g.succs p) + 1 = ap (λ (t : Bool). cond t (length (g.succs p) + 1) (length (g.succs p))) e.0 in let n = a.1 in omega (arith, w, l, n))) (eqb_tells q (length (g.succs p))))
          (λ e. inr (let w : edges_of g p ≡ length (g.succs p) = ap (λ (t : Bool). cond t (length (g.succs p) + 1) (length (g.succs p))) e.0 in omega (arith, w, l)))
          (eqb_tells p g.sink)

  -- the root has the sink at its one place, and waits at the port behind the sink's last
  pub pred_root : (k j : ℕ) → k ≡ root → (rooted root g outcome).pred k j ≡ record { task = g.sink; port = length (g.succs g.sink) }
  pred_root k j is = ap (λ (t : Bool). edge_of (cond t (g.sink, length (g.succs g.sink)) (slice_index_or (g.preds k) j (g.sink, 0)))) (eq-eqb k root is)

  pub succ_root : (p q : ℕ) → q ≡ length (g.succs p) → (rooted root g outcome).succ p q ≡ record { task = root; place = 0 }
  succ_root p q is = ap (λ x. successor_of (slice_index_or (g.succs p) x (root, 0))) is ∙ ap successor_of (past_entry (g.succs p) (root, 0))

  -- a task has its own edges
  pub pred_task : (k j p q : ℕ) → k ≢ root → IsPred g k j p q → (rooted root g outcome).pred k j ≡ record { task = p; port = q }
  pred_task k j p q ne at = ap (λ (t : Bool). edge_of (cond t (g.sink, length (g.succs g.sink)) (slice_index_or (g.preds k) j (g.sink, 0)))) (ne_eqb k root ne) ∙ ap edge_of (get_or_from_slice_get (g.preds k) j (p, q) (g.sink, 0) at)

  pub succ_task : (p q k j : ℕ) → IsSucc g p q k j → (rooted root g outcome).succ p q ≡ record { task = k; place = j }
  succ_task p q k j at = ap successor_of (get_or_from_slice_get (g.succs p) q (k, j) (root, 0) at)

  pub rank_root : (k : ℕ) → k ≡ root → (rooted root g outcome).rank k ≡ g.rank g.sink + 1
  rank_root k is = ap (λ (t : Bool). cond t (g.rank g.sink + 1) (g.rank k)) (eq-eqb k root is)

  pub rank_task : (k : ℕ) → k ≢ root → (rooted root g outcome).rank k ≡ g.rank k
  rank_task k ne = ap (λ (t : Bool). cond t (g.rank g.sink + 1) (g.rank k)) (ne_eqb k root ne)

  -- a version of a block: the root's, or one of the graph's
  pub version_of_block : (b v : ℕ) → 0 < v → v ≤ (rooted root g outcome).versions b → ((b ≡ g.block_count) × (v ≡ 1)) ⊎ ((b < g.block_count) × (v ≤ g.versions b))
  version_of_block b v some low = ⊎_elim
      (λ z. inl (z.1, let e = versions_at z.0 in omega (arith, some, low, e)))
      (λ z. ⊎_elim (λ l. inr (l.1, let e = versions_of z.0 l.0 in omega (arith, low, e))) (λ l. absurd (let e = versions_of z.0 l.0 in omega (arith, some, low, e))) (leb_tells (suc b) g.block_count))
      (eqb_tells b g.block_count)
    where
      versions_at : eqb b g.block_count ≡ true → (rooted root g outcome).versions b ≡ 1
      versions_at e = ap (λ (t : Bool). cond t 1 (cond (nat_lt b g.block_count) (g.versions b) 0)) e

      versions_of : {t : Bool} → eqb b g.block_count ≡ false → nat_lt b g.block_count ≡ t → (rooted root g outcome).versions b ≡ cond t (g.versions b) 0
      versions_of e l = ap (λ (t : Bool). cond t 1 (cond (nat_lt b g.block_count) (g.versions b) 0)) e ∙ ap (λ (t : Bool). cond t (g.versions b) 0) l

  pub versions_root : (b : ℕ) → b ≡ g.block_count → (rooted root g outcome).versions b ≡ 1
  versions_root b is = ap (λ (t : Bool). cond t 1 (cond (nat_lt b g.block_count) (g.versions b) 0)) (eq-eqb b g.block_count is)

  pub versions_task : (b : ℕ) → b < g.block_count → (rooted root g outcome).versions b ≡ g.versions b
  versions_task b low = ap (λ (t : Bool). cond t 1 (cond (nat_lt b g.block_count) (g.versions b) 0)) (ne_eqb b g.block_count (λ e. omega (arith, e, low))) ∙ ap (λ (t : Bool). cond t (g.versions b) 0) (lt-ltb b g.block_count low)

  pub writer_root : (b v : ℕ) → b ≡ g.block_count → (rooted root g outcome).writer b v ≡ root
  writer_root b v is = ap (λ (t : Bool). cond t root (g.writer b v)) (eq-eqb b g.block_count is)

  pub writer_task : (b v : ℕ) → b < g.block_count → (rooted root g outcome).writer b v ≡ g.writer b v
  writer_task b v low = ap (λ (t : Bool). cond t root (g.writer b v)) (ne_eqb b g.block_count (λ e. omega (arith, e, low)))

  -- the root has the sink's serial value, and each task its own
  pub value_root : (k : ℕ) → k ≡ root → (rooted root g outcome).value k ≡ serial g outcome g.sink
  value_root k is = ap (λ (t : Bool). serial g outcome (cond t g.sink k)) (eq-eqb k root is)

  pub value_task : (k : ℕ) → k ≢ root → (rooted root g outcome).value k ≡ serial g outcome k
  value_task k ne = ap (λ (t : Bool). serial g outcome (cond t g.sink k)) (ne_eqb k root ne)

  -- the root's block has the cells of the sink's block, and every other has its own
  pub cells_root : (b : ℕ) → b ≡ g.block_count → (rooted root g outcome).cells b ≡ g.cells (g.block g.sink)
  cells_root b is = ap (λ (t : Bool). g.cells (cond t (g.block g.sink) b)) (eq-eqb b g.block_count is)

  pub cells_task : (b : ℕ) → b ≢ g.block_count → (rooted root g outcome).cells b ≡ g.cells b
  cells_task b ne = ap (λ (t : Bool). g.cells (cond t (g.block g.sink) b)) (ne_eqb b g.block_count ne)
