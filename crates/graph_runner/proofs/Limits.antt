-- What a reader gives is within the limits that the audit asks.
use Rattle.std.proofs.Common.{◌≡◌, ℕ, ◌<◌, ◌≤◌, ◌^◌, List, [], ◌∷◌, length, map, All, Option, Some, None, refl, ap, arith}
use Rattle.std.specs.Option.{IfSome}
use Rattle.std.proofs.lemmas.List.Elements.{All-nil, All-cons, All-head, All-tail, All-append}
use Rattle.raw_graph.specs.Graph.{graph_of, task_of}
use Rattle.raw_graph.specs.Limits.{IsGraphWithin, IsTaskWithin, IsBlock}
use Rattle.raw_graph.specs.declared.raw.RawGraph.{RawGraph}
use Rattle.raw_graph.specs.declared.raw.RawTask.{RawTask}
use Rattle.audit_checks.specs.Tasks.{key_of, places_of}
use Rattle.acyclic_audit.specs.Meaning.{IsInLimits}

back : {X Y : Type 0} (P : Y → Type 0) (f : X → Y) (xs : List X) → All P (map f xs) → All (λ x. P (f x)) xs
back P f [] all = All-nil (λ x. P (f x))
back P f (x ∷ xs) all = All-cons (λ x. P (f x)) x xs (All-head P (f x) (map f xs) all) (back P f xs (All-tail P (f x) (map f xs) all))

same_length : {X Y : Type 0} (f : X → Y) (xs : List X) → length (map f xs) ≡ length xs
same_length f [] = refl
same_length f (x ∷ xs) = ap (λ n. n) (omega (arith, same_length f xs))

versions : (b : Option (ℕ × ℕ)) → IfSome b IsBlock → IfSome b (λ w. (1 ≤ w.1) × (w.1 ≤ 16384))
versions None is = is
versions (Some b) is = (is.1, is.2)

weaker : (P : RawTask → Type 0) → ((t : RawTask) → IsTaskWithin (task_of t) → P t) → (ts : List RawTask) → All (λ t. IsTaskWithin (task_of t)) ts → All P ts
weaker P more ts all = λ i d inside. more _ (all i d inside)

pub in_limits : (raw : RawGraph) → IsGraphWithin (graph_of raw) → IsInLimits raw.tasks.items raw.sink.0
in_limits raw is =
    let each : All (λ t. IsTaskWithin (task_of t)) raw.tasks.items = back IsTaskWithin task_of raw.tasks.items is.tasks in
    let few : length (map task_of raw.tasks.items) ≤ 16384 = is.few in
    record {
      few_tasks = omega (arith, same_length task_of raw.tasks.items);
      small_sink = is.sink;
      small_keys = weaker (λ t. key_of t < 2 ^ 63) (λ t within. within.key) raw.tasks.items each;
      small_places = weaker (λ t. All (λ p. p < 2 ^ 63) (places_of t)) (λ t within. All-append (λ p. p < 2 ^ 63) t.inputs t.after within.inputs within.after) raw.tasks.items each;
      versions = weaker (λ t. IfSome t.block (λ w. (1 ≤ w.1) × (w.1 ≤ 16384))) (λ t within. versions t.block within.block) raw.tasks.items each;
    }
