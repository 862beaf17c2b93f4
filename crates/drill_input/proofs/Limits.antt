-- The numbers of the tasks are within the limits of a file.
use Rattle.std.proofs.Common.{◌≡◌, ℕ, ◌<◌, ◌≤◌, ◌^◌, List, get_or, refl, arith, inl, inr, Option, Some, None}
use Rattle.std.specs.Prelude.{IfSome}
use Rattle.std.proofs.lemmas.Bool.{cases_lt}
use Rattle.raw_graph.specs.Graph.{task_of}
use Rattle.raw_graph.specs.declared.raw.RawTask.{RawTask}
use Rattle.audit_checks.specs.Tasks.{key_of, places_of}
use Rattle.acyclic_audit.specs.Meaning.{IsInLimits}
use Rattle.drill_input.proofs.Places.{IsKeyAt, key_row, places_row}
use Rattle.drill_input.proofs.Blocks.{block_row}
use Rattle.drill_input.proofs.Accepting.{Makes, length_made, row_of}

key_small : (i k : ℕ) → IsKeyAt i k → i < 8257 → k < 2 ^ 63
key_small i k at inside = elim (cases_lt i 8192) [
  | inl low ↦ omega (arith, at.low low)
  | inr high ↦ elim (cases_lt i 8256) [ inl middle ↦ omega (arith, at.middle high middle) | inr top ↦ omega (arith, at.top (omega arith)) ]
]

version_small : (i : ℕ) (block : Option (ℕ × ℕ)) → ((b v : ℕ) → block ≡ Some (b, v) → (1 ≤ v) × (v ≤ 64)) → IfSome block (λ w. (1 ≤ w.1) × (w.1 ≤ 16384))
version_small i None few = tt
version_small i (Some w) few = let h = few w.0 w.1 refl in (h.0, omega (arith, h.1))

pub in_limits : (number : ℕ) (ts : List RawTask) → Makes number ts → IsInLimits ts 20000
in_limits number ts made = record {
  few_tasks = omega (arith, length_made number ts made);
  small_sink = omega arith;
  small_keys = λ i d inside. key_small i (key_of (get_or ts i d)) (key_row number i (task_of (get_or ts i d)) (row_of number ts made i d inside)) (omega (arith, length_made number ts made));
  small_places = λ i d inside j e low.
      let at = (places_row number i (task_of (get_or ts i d)) (row_of number ts made i d inside)).back j e low in
      key_small at.place (get_or (places_of (get_or ts i d)) j e) at.key (omega (arith, at.before, length_made number ts made));
  versions = λ i d inside. version_small i (get_or ts i d).block (λ b v is.
      let at = block_row number i b v (task_of (get_or ts i d)) (row_of number ts made i d inside) is in (at.some, at.few));
}
