use Rattle.std.proofs.Common.{◌≡◌, ℕ, ◌+◌, ◌%◌, ◌<◌, List, [], Some, length, map, slice_get}
use Rattle.graph_model.specs.Graph.{Graph}
use Rattle.core_state.specs.Graph.{Setting}
use Rattle.core_state.specs.declared.views.View.{View}
use Rattle.worker_pool.specs.Pooling.{WorkersHold}
use Rattle.worker_pool.specs.Sharing.{all_hints}
use Rattle.worker_pool.proofs.pool.hint_for.Given as goal

-- no work and no hint has changed, each worker holds what it held, and none of those that were asked had a hint
abbrev pub invariant-loop-i : goal.invariant-loop-i
invariant-loop-i l = record {
  count : length l.workers.items ≡ length l.fn.workers.items;
  works : map (λ w. w.work) l.workers.items ≡ map (λ w. w.work) l.fn.workers.items;
  holds : (g : Graph) (e : Setting) (vs : List View) → WorkersHold g e vs l.fn.workers.items → WorkersHold g e vs l.workers.items;
  hints : all_hints l.workers.items ≡ all_hints l.fn.workers.items;
  none : (j : ℕ) → j < l.i → (hints : List ℕ) → slice_get (all_hints l.fn.workers.items) ((l.worker + j) % length l.fn.workers.items) ≡ Some hints → hints ≡ [];
}
