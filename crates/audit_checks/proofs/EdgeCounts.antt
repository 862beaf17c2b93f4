-- The ports of a task are its successor edges.
use Rattle.std.proofs.Common.{◌≡◌, ◌∙◌, ℕ, ◌+◌, ◌<◌, ◌≤◌, true, false, List, length, get_or, take, ap, sym, subst, arith, Vec}
use Rattle.std.specs.Prelude.{◌==◌, count_by}
use Rattle.std.specs.declared.alloc.Global.{Global}
use Rattle.std.proofs.lemmas.Bool.{eq-eqb, ne_eqb}
use Rattle.std.proofs.lemmas.List.{take_all, get_or_default}
use Rattle.std.proofs.lemmas.List.Sums.{sum_by_more}
use Rattle.raw_graph.specs.declared.raw.RawTask.{RawTask}
use Rattle.audit_checks.specs.Tasks.{IsAscending, key_of, keys_of, places_of, edge_count, succ_count}
use Rattle.audit_checks.specs.Faults.{IsLeast, HasTask, HasManyEdges}
use Rattle.audit_checks.specs.Counted.{AreCounted}
use Rattle.audit_checks.proofs.LeastTask.{key_of_at, keys_count, some_task, least_task}
use Rattle.audit_checks.proofs.RowLemmas.{row_at}

pub edge_count_more : (ts : List RawTask) (k key : ℕ) (d : RawTask) → k < length ts
    → edge_count (take (k + 1) ts) key ≡ edge_count (take k ts) key + count_by (λ p. p == key) (places_of (get_or ts k d))
edge_count_more ts k key d inside = sum_by_more (λ t. count_by (λ p. p == key) (places_of t)) ts k d inside

pub edge_count_all : (ts : List RawTask) (k key : ℕ) → length ts ≤ k → edge_count (take k ts) key ≡ edge_count ts key
edge_count_all ts k key all = ap (λ l. edge_count l key) (take_all k ts all)

ports : (ts : List RawTask) (keys : List ℕ) (succs : List (Vec (ℕ × ℕ) Global)) (i : ℕ) (v : Vec (ℕ × ℕ) Global) → AreCounted ts keys succs
    → i < length ts → i < length succs → v ≡ get_or succs i v → length v.items ≡ edge_count ts (get_or keys i 0)
ports ts keys succs i v are inside there here =
    omega (arith, ap length (row_at succs i v there here), are.counted i (omega (arith, keys_count ts keys are.is)))

pub count_sink : (ts : List RawTask) (sink : ℕ) (keys : List ℕ) (succs : List (Vec (ℕ × ℕ) Global)) (i : ℕ) (v : Vec (ℕ × ℕ) Global) → AreCounted ts keys succs
    → i < length ts → i < length succs → v ≡ get_or succs i v → get_or keys i 0 ≡ sink → (d : RawTask) → length v.items + 1 ≡ succ_count ts sink (key_of (get_or ts i d))
count_sink ts sink keys succs i v are inside there here same d =
    let e : (get_or keys i 0 == sink) ≡ true = eq-eqb (get_or keys i 0) sink same in
    rw (key_of_at ts keys i d are.is inside, e) (ap (λ n. n + 1) (ports ts keys succs i v are inside there here))

pub count_other : (ts : List RawTask) (sink : ℕ) (keys : List ℕ) (succs : List (Vec (ℕ × ℕ) Global)) (i : ℕ) (v : Vec (ℕ × ℕ) Global) → AreCounted ts keys succs
    → i < length ts → i < length succs → v ≡ get_or succs i v → (get_or keys i 0 ≡ sink → ⊥) → (d : RawTask) → length v.items ≡ succ_count ts sink (key_of (get_or ts i d))
count_other ts sink keys succs i v are inside there here other d =
    let e : (get_or keys i 0 == sink) ≡ false = ne_eqb (get_or keys i 0) sink other in
    rw (key_of_at ts keys i d are.is inside, e) (omega (arith, ports ts keys succs i v are inside there here))

pub many_fault : (ts : List RawTask) (keys : List ℕ) (sink i count : ℕ) → keys_of ts ≡ keys → IsAscending keys → i < length ts
    → ((d : RawTask) → count ≡ succ_count ts sink (key_of (get_or ts i d))) → 640 < count
    → ((k : ℕ) (d : RawTask) → k < i → succ_count ts sink (key_of (get_or ts k d)) ≤ 640)
    → IsLeast (HasTask ts (HasManyEdges ts sink)) (get_or keys i 0) × (count ≡ succ_count ts sink (get_or keys i 0))
many_fault ts keys sink i count is up inside count_is many before =
    let d = some_task ts (omega arith) in
    let t = get_or ts i d in
    let key : key_of t ≡ get_or keys i 0 = key_of_at ts keys i d is inside in (
      subst (IsLeast (HasTask ts (HasManyEdges ts sink))) key
          (least_task (HasManyEdges ts sink) ts i t (subst IsAscending (sym is) up) inside (get_or_default ts i d t inside)
          (omega (arith, count_is d, many)) (λ k e early over. omega (arith, before k e early, over))),
      count_is d ∙ ap (succ_count ts sink) key,
    )
