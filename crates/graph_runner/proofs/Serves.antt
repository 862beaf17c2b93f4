-- How many tasks a graph has, and what that makes of the lines of `check`.
use Rattle.std.proofs.Common.{◌≡◌, ◌∙◌, ℕ, length, ap}
use Rattle.std.proofs.lemmas.List.Sorted.{length_permutation}
use Rattle.raw_graph.specs.declared.raw.RawGraph.{RawGraph}
use Rattle.audit_checks.specs.Tasks.{keys_of, key_of}
use Rattle.acyclic_audit.specs.Views.{graph}
use Rattle.acyclic_audit.specs.declared.graph.FileGraph.{FileGraph}
use Rattle.graph_runner.specs.Accepting.{IsAcceptedAs}
use Rattle.graph_runner.specs.Serving.{check_text}
use Rattle.graph_runner.proofs.Valuing.{map_long}

-- a graph has as many keys as there are tasks
pub task_count : (raw : RawGraph) (g : FileGraph) → IsAcceptedAs raw g → length (graph g).keys ≡ length raw.tasks.items
task_count raw g told = length_permutation (keys_of raw.tasks.items) (graph g).keys told.is.keys ∙ map_long key_of raw.tasks.items

pub same_lines : (tasks tasks' reachable blocks blocks' faults faults' : ℕ) → tasks ≡ tasks' → blocks ≡ blocks' → faults ≡ faults'
    → check_text tasks reachable blocks faults ≡ check_text tasks' reachable blocks' faults'
same_lines tasks tasks' reachable blocks blocks' faults faults' t b f =
    ap (λ n. check_text n reachable blocks faults) t ∙ ap (λ n. check_text tasks' reachable n faults) b ∙ ap (λ n. check_text tasks' reachable blocks' n) f
