-- From what the checks found out, the laws of a graph.
use Rattle.std.proofs.Common.{◌≡◌, ◌∙◌, ℕ, zero, suc, ◌+◌, ◌-◌, ◌<◌, ◌≤◌, ◌==◌, List, [], ◌∷◌, length, get_or, refl, ap, sym, subst, arith, Contains, Some, slice_get, cond, true, length-append}
use Rattle.std.proofs.lemmas.Bool.{eq-eqb}
use Rattle.std.proofs.lemmas.List.{get_or_default}
use Rattle.std.specs.List.Sorted.{IsNonDecreasing, IsNonDecreasingBy}
use Rattle.formula_text.specs.Formulas.{tree}
use Rattle.formula_text.specs.Trees.{HasInputs, Uses}
use Rattle.graph_model.specs.Graph.{IsLawful}
use Rattle.raw_graph.specs.declared.raw.RawTask.{RawTask}
use Rattle.audit_checks.specs.Tasks.{key_of, keys_of, places_of, edge_count, succ_count}
use Rattle.audit_checks.specs.Rows.{row, cell}
use Rattle.audit_cycles.specs.Levels.{level}
use Rattle.audit_checks.specs.Links.{Tells, places_in, succs_in}
use Rattle.audit_cycles.specs.Chains.{below}
use Rattle.audit_checks.specs.ByKey.{number_in, keyed, row_by}
use Rattle.audit_checks.proofs.KeyLaws.{number_at}
use Rattle.audit_checks.proofs.LeastTask.{some_task, key_of_at, keys_count, uses_below}
use Rattle.audit_checks.proofs.RowLemmas.{rows_long}
use Rattle.acyclic_audit.specs.declared.findings.Findings.{Findings}
use Rattle.acyclic_audit.specs.FileGraphs.{IsWhole, graph_of, inputs_in}
use Rattle.acyclic_audit.specs.Found.{IsFound}
use Rattle.acyclic_audit.proofs.Lookups.{inputs_at, tree_in_at}
use Rattle.acyclic_audit.proofs.Reached.{number_inside, number_found, get_map_cases, cell_inside, cell_names}

-- ---- a key, its number and its task

keyed_long : (keys : List ℕ) (es : List (ℕ × ℕ)) → length (keyed keys es) ≡ length es
keyed_long keys [] = refl
keyed_long keys (e ∷ es) = ap suc (keyed_long keys es)

pub get_inside : {X : Type 0} (xs : List X) (y : X) (i : ℕ) → slice_get xs i ≡ Some y → i < length xs
get_inside [] y i e = absurd (cc)
get_inside (z ∷ zs) y zero e = omega arith
get_inside (z ∷ zs) y (suc i) e = omega (arith, get_inside zs y i e)

pub get_is : {X : Type 0} (xs : List X) (y d : X) (i : ℕ) → slice_get xs i ≡ Some y → get_or xs i d ≡ y
get_is [] y d i e = absurd (cc)
get_is (z ∷ zs) y d zero e = cc
get_is (z ∷ zs) y d (suc i) e = get_is zs y d i e

-- the key has a number i, and its task stands there
pub record Stands (keys : List ℕ) (ts : List RawTask) (k : ℕ) : Type 0 where
  pub number : ℕ
  pub is : number ≡ number_in keys k
  pub inside : number < length keys
  pub known : number < length ts
  pub key : get_or keys number 0 ≡ k
  pub task : RawTask
  pub here : task ≡ get_or ts number task
  pub key_is : key_of task ≡ k

pub stands : (keys : List ℕ) (ts : List RawTask) (sink : ℕ) (x : Findings) → IsFound keys ts sink x → (k : ℕ) → Contains keys k → Stands keys ts k
stands keys ts sink x h k has =
    let i = number_in keys k in
    let inside = number_inside keys k has in
    let long = keys_count ts keys h.keys_are in
    let d = some_task ts (omega arith) in
    let u = get_or ts i d in
    let found = number_found keys k inside in
    record {
      number = i;
      is = refl;
      inside = inside;
      known = omega arith;
      key = found;
      task = u;
      here = get_or_default ts i d u (omega arith);
      key_is = key_of_at ts keys i d h.keys_are (omega arith) ∙ found;
    }

row_count : (keys : List ℕ) (rows : List (List (ℕ × ℕ))) (k i : ℕ) → i ≡ number_in keys k → length (row_by keys rows k) ≡ length (row rows i)
row_count keys rows k i is = ap (λ n. length (keyed keys (row rows n))) (sym is) ∙ keyed_long keys (row rows i)

pub tells_at : (keys : List ℕ) (ts : List RawTask) (sink : ℕ) (x : Findings) → IsFound keys ts sink x → (i : ℕ) (u : RawTask) → i < length ts → u ≡ get_or ts i u → Tells keys (places_of u) (row (places_in x.links) i)
tells_at keys ts sink x h i u inside here = subst (λ v. Tells keys (places_of v) (row (places_in x.links) i)) (sym here) (h.named i u inside)

pub places_inside : (keys : List ℕ) (ts : List RawTask) (sink : ℕ) (x : Findings) → IsFound keys ts sink x → (i j : ℕ) (e : ℕ × ℕ) → cell (places_in x.links) i j ≡ Some e → e.0 < length keys
places_inside keys ts sink x h i j e at =
    let places = places_in x.links in
    let inside : i < length ts = omega (arith, cell_inside places i j e at, rows_long x.links.places.items, h.places_len) in
    let d = some_task ts (omega arith) in
    let tells = h.named i d inside in
    let here : get_or (row places i) j (0, 0) ≡ e = get_is (row places i) e (0, 0) j at in
    subst (λ r. r.0 < length keys) here (tells.inside j (omega (arith, get_inside (row places i) e j at, tells.long)))

pub succs_inside : (keys : List ℕ) (ts : List RawTask) (sink : ℕ) (x : Findings) → IsFound keys ts sink x → (i j : ℕ) (e : ℕ × ℕ) → cell (succs_in x.links) i j ≡ Some e → e.0 < length keys
succs_inside keys ts sink x h i j e at =
    omega (arith, cell_inside (places_in x.links) e.0 e.1 (i, j) (h.mirror.back i j e.0 e.1 at), rows_long x.links.places.items, h.places_len, keys_count ts keys h.keys_are)

-- an entry of a row by keys, in the row by numbers
pub entry : (keys : List ℕ) (rows : List (List (ℕ × ℕ))) (k j p q : ℕ) → slice_get (row_by keys rows k) j ≡ Some (p, q)
    → (e : ℕ × ℕ) × (cell rows (number_in keys k) j ≡ Some e) × (get_or keys e.0 0 ≡ p)
entry keys rows k j p q at =
    let f : ℕ × ℕ → ℕ × ℕ = λ e. (get_or keys e.0 0, e.1) in
    let found = get_map_cases f (row rows (number_in keys k)) j (p, q) at in
    (found.0, found.1, ap (λ r. r.0) found.2)

pub stands_key : (keys : List ℕ) (i p : ℕ) → i < length keys → get_or keys i 0 ≡ p → Contains keys p
stands_key keys i p inside is = (i, inside, get_or_default keys i p 0 inside ∙ is)

pub whole_of : (keys : List ℕ) (ts : List RawTask) (sink : ℕ) (x : Findings) → IsFound keys ts sink x → IsWhole keys ts x
whole_of keys ts sink x h =
    let long : length keys ≡ length ts = keys_count ts keys h.keys_are in
    record {
      ascending = h.ascending;
      few = omega (arith, long, h.limits.few_tasks);
      sink = h.sink_inside;
      tasks = omega (arith, long);
      places = omega (arith, long, h.places_len);
      succs = omega (arith, long, h.succs_len);
      levels = omega (arith, h.levels_long);
      blocks = omega (arith, h.numbered.long, long);
      places_inside = places_inside keys ts sink x h;
      succs_inside = succs_inside keys ts sink x h;
      some_level = λ i inside. (h.levels i inside).0;
      given = λ k i has uses.
          let s = stands keys ts sink x h k has in
          let count = inputs_at keys ts k s.number s.task s.is s.known s.here in
          let formula = tree_in_at keys ts k s.number s.task s.is s.known s.here in
          let enough = subst (λ u. HasInputs (tree u.formula) (length u.inputs)) (sym s.here) (h.accepted.given s.number s.task s.known) in
          omega (arith, count, uses_below (tree s.task.formula) (length s.task.inputs) i enough (subst (λ r. Uses r i) formula uses));
    }

few_places : (keys : List ℕ) (ts : List RawTask) (sink : ℕ) (x : Findings) → IsFound keys ts sink x → (k : ℕ) → Contains keys k → length (row_by keys (places_in x.links) k) ≤ 40
few_places keys ts sink x h k has =
    let s = stands keys ts sink x h k has in
    let tells = tells_at keys ts sink x h s.number s.task s.known s.here in
    let few = subst (λ u. length (places_of u) ≤ 40) (sym s.here) (h.accepted.places s.number s.task s.known) in
    omega (arith, row_count keys (places_in x.links) k s.number s.is, tells.long, few)

data_first : (keys : List ℕ) (ts : List RawTask) (sink : ℕ) (x : Findings) → IsFound keys ts sink x → (k : ℕ) → Contains keys k
    → inputs_in keys ts k ≤ length (row_by keys (places_in x.links) k)
data_first keys ts sink x h k has =
    let s = stands keys ts sink x h k has in
    let tells = tells_at keys ts sink x h s.number s.task s.known s.here in
    let count = inputs_at keys ts k s.number s.task s.is s.known s.here in
    omega (arith, row_count keys (places_in x.links) k s.number s.is, tells.long, count, length-append s.task.inputs s.task.after)

ports_of : (keys : List ℕ) (ts : List RawTask) (sink : ℕ) (x : Findings) → IsFound keys ts sink x → (k : ℕ) → Contains keys k → length (row_by keys (succs_in x.links) k) ≡ edge_count ts k
ports_of keys ts sink x h k has =
    let s = stands keys ts sink x h k has in
    row_count keys (succs_in x.links) k s.number s.is ∙ (h.counted s.number s.inside ∙ ap (edge_count ts) s.key)

few_edges : (keys : List ℕ) (ts : List RawTask) (sink : ℕ) (x : Findings) → IsFound keys ts sink x → (k : ℕ) → Contains keys k → succ_count ts sink k ≤ 640
few_edges keys ts sink x h k has =
    let s = stands keys ts sink x h k has in
    subst (λ n. succ_count ts sink n ≤ 640) s.key_is (subst (λ u. succ_count ts sink (key_of u) ≤ 640) (sym s.here) (h.accepted.edges s.number s.task s.known))

few_ports : (keys : List ℕ) (ts : List RawTask) (sink : ℕ) (x : Findings) → IsFound keys ts sink x → (k : ℕ) → Contains keys k → length (row_by keys (succs_in x.links) k) ≤ 640
few_ports keys ts sink x h k has = omega (arith, ports_of keys ts sink x h k has, few_edges keys ts sink x h k has)

sink_ports : (keys : List ℕ) (ts : List RawTask) (sink : ℕ) (x : Findings) → IsFound keys ts sink x → Contains keys sink → length (row_by keys (succs_in x.links) sink) ≤ 639
sink_ports keys ts sink x h has =
    let e : (sink == sink) ≡ true = eq-eqb sink sink refl in
    let few : edge_count ts sink + 1 ≤ 640 = subst (λ b. edge_count ts sink + cond b 1 0 ≤ 640) e (few_edges keys ts sink x h sink has) in
    omega (arith, ports_of keys ts sink x h sink has, few)

falls : (keys : List ℕ) (ts : List RawTask) (sink : ℕ) (x : Findings) → IsFound keys ts sink x → (k j p q : ℕ) → Contains keys k → slice_get (row_by keys (places_in x.links) k) j ≡ Some (p, q)
    → level x.levels.items (number_in keys p) - 1 < level x.levels.items (number_in keys k) - 1
falls keys ts sink x h k j p q has at =
    let places = places_in x.links in
    let i = number_in keys k in
    let found = entry keys places k j p q at in
    let e = found.0 in
    let low = places_inside keys ts sink x h i j e found.1 in
    let number : number_in keys p ≡ e.0 = number_at keys e.0 p h.ascending low found.2 in
    let below_it = (h.levels e.0 low).1 in
    let here = (h.levels i (number_inside keys k has)).1 in
    let longer = here.longest (suc (level x.levels.items e.0 - 1)) (below i e.0 (level x.levels.items e.0 - 1) (cell_names (row places i) j e found.1) below_it.chain) in
    subst (λ n. level x.levels.items n - 1 < level x.levels.items i - 1) (sym number) (omega (arith, longer))

small_keys : (keys : List ℕ) (ts : List RawTask) (sink : ℕ) (x : Findings) → IsFound keys ts sink x → (k : ℕ) → Contains keys k → k < 9223372036854775808
small_keys keys ts sink x h k has =
    let s = stands keys ts sink x h k has in
    subst (λ n. n < 9223372036854775808) s.key_is (subst (λ u. key_of u < 9223372036854775808) (sym s.here) (h.limits.small_keys s.number s.task s.known))

pub lawful_of : (keys : List ℕ) (ts : List RawTask) (sink : ℕ) (x : Findings) → IsFound keys ts sink x → IsLawful (graph_of keys ts x)
lawful_of keys ts sink x h =
    let places = places_in x.links in
    let succs = succs_in x.links in
    let long : length keys ≡ length ts = keys_count ts keys h.keys_are in
    let sink_task = stands_key keys x.sink sink h.sink_inside h.sink_is in
    record {
      ascending = λ k next. h.ascending.rises k (k + 1) (omega arith) next;
      small_keys = small_keys keys ts sink x h;
      few_tasks = omega (arith, long, h.limits.few_tasks);
      few_blocks = h.laws.few_blocks;
      sink = ∣ stands_key keys x.sink (get_or keys x.sink 0) h.sink_inside refl ∣₁;
      few_places = few_places keys ts sink x h;
      data_first = data_first keys ts sink x h;
      few_ports = few_ports keys ts sink x h;
      sink_ports = subst (λ n. length (row_by keys succs n) ≤ 639) (sym h.sink_is) (sink_ports keys ts sink x h sink_task);
      pred_task = λ k j p q has at.
          let found = entry keys places k j p q at in
          ∣ stands_key keys found.0.0 p (places_inside keys ts sink x h (number_in keys k) j found.0 found.1) found.2 ∣₁;
      succ_task = λ p q k j has at.
          let found = entry keys succs p q k j at in
          ∣ stands_key keys found.0.0 k (succs_inside keys ts sink x h (number_in keys p) q found.0 found.1) found.2 ∣₁;
      forth = h.reverse.forth;
      back = h.reverse.back;
      falls = falls keys ts sink x h;
      block_inside = h.laws.block_inside;
      version_inside = h.laws.version_inside;
      writes = h.laws.writes;
      writer_task = h.laws.writer_task;
      one_writer = h.laws.one_writer;
      ordered = h.laws.ordered;
      read_before = h.laws.read_before;
    }

-- ---- the sort

-- keys rise where tasks do by their keys
pub keys_up : (ts : List RawTask) → IsNonDecreasingBy key_of ts → IsNonDecreasing (keys_of ts)
keys_up ts up i j d le inside =
    let long = keys_count ts (keys_of ts) refl in
    let t = some_task ts (omega arith) in
    let low = key_of_at ts (keys_of ts) i t refl (omega arith) in
    let high = key_of_at ts (keys_of ts) j t refl (omega arith) in
    omega (arith, up i j t le (omega arith), low, high, get_or_default (keys_of ts) i d 0 (omega arith), get_or_default (keys_of ts) j d 0 inside)
