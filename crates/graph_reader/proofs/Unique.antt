-- Bytes stand for one file.
use Rattle.std.proofs.Common.{◌≡◌, ℕ, List, Result, Ok, Err, MatchResult, sym, ap, ◌∙◌, inl, inr}
use Rattle.serde_json.specs.Data.{Data}
use Rattle.graph_model.specs.declared.plan.Strike.{Strike}
use Rattle.raw_graph.specs.Graph.{File, file_with}
use Rattle.raw_graph.specs.declared.raw.RawGraph.{RawGraph}
use Rattle.graph_reader.specs.Answers.{IsJson, StandsFor, Fails, ReadsGraph}
use Rattle.graph_reader.specs.Content.{file_in}
use Rattle.graph_reader.specs.Format.{file_check}
use Rattle.graph_reader.specs.declared.fault.TextFault.{TextFault}
use Rattle.graph_reader.specs.declared.fault.TextFault.TheVariants.{OutOfMemory}

same_value : (bytes : List ℕ) (d e : Data) → IsJson bytes d → IsJson bytes e → d ≡ e
same_value bytes d e p q = cc (p.value, q.value)

same_file : (bytes : List ℕ) (f g : File) → StandsFor bytes f → StandsFor bytes g → f ≡ g
same_file bytes f g p q = sym p.holds ∙ (ap file_in (same_value bytes p.value q.value p.json q.json) ∙ q.holds)

no_fault : (bytes : List ℕ) (f : File) (e : TextFault) → StandsFor bytes f → Fails bytes e → ⊥
no_fault bytes f e p q = cc (ap file_check (same_value bytes p.value q.value p.json q.json), p.passes, q.fails)

-- what is read of bytes that stand for a file is this file
pub only_reads : (bytes : List ℕ) (f : File) → StandsFor bytes f → (answer : Result (RawGraph × List Strike) TextFault) → ReadsGraph bytes answer
    → MatchResult answer (λ r. file_with r.0 r.1 ≡ f) (λ e. e ≡ OutOfMemory)
only_reads bytes f stands (Ok r) reads = same_file bytes (file_with r.0 r.1) f reads stands
only_reads bytes f stands (Err e) (inl memory) = memory
only_reads bytes f stands (Err e) (inr (inl none)) = absurd (none.1 stands.value stands.json)
only_reads bytes f stands (Err e) (inr (inr fails)) = absurd (no_fault bytes f e stands fails)
