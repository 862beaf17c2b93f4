-- The words that tell faults of texts, graphs and matrices.
use Rattle.std.specs.Prelude.{ℕ, List, [], ◌++◌, codes}
use Rattle.text_lines.specs.Fields.{field_text}
use Rattle.graph_model.specs.declared.key.Key.{Key}
use Rattle.graph_model.specs.declared.record.Cause.{Cause}
use Rattle.run_records.specs.Text.{cause_text}
use Rattle.formula_text.specs.declared.fault.FormulaFault.{FormulaFault}
use Rattle.formula_text.specs.declared.fault.FormulaFault.TheVariants as formula
use Rattle.graph_reader.specs.declared.fault.TextFault.{TextFault}
use Rattle.graph_reader.specs.declared.fault.TextFault.TheVariants as text
use Rattle.audit_checks.specs.declared.fault.AuditFault.{AuditFault}
use Rattle.audit_checks.specs.declared.fault.AuditFault.TheVariants as audit
use Rattle.apsp_graph.specs.declared.fault.MatrixFault.{MatrixFault}
use Rattle.apsp_graph.specs.declared.fault.MatrixFault.TheVariants as matrix

-- what is wrong with a formula, with the byte position where there is one
abbrev pub formula_text : FormulaFault → List ℕ
formula_text (formula.Char place) = field_text (codes ": unexpected character at ") place
formula_text formula.End = codes ": ends too early"
formula_text (formula.Extra place) = field_text (codes ": unexpected rest at ") place
formula_text (formula.Number place) = field_text (codes ": number too large at ") place
formula_text (formula.Input place) = field_text (codes ": bad input at ") place
formula_text formula.Deep = codes ": nested deeper than 64"
formula_text formula.Long = codes ": longer than 4096 bytes"
formula_text formula.OutOfMemory = codes ": out of memory"

-- why bytes are no graph file
abbrev pub shown_fault : TextFault → List ℕ
shown_fault text.NotJson = codes "not JSON"
shown_fault (text.Shape path) = codes "bad shape at " ++ path
shown_fault (text.Range path) = codes "out of range at " ++ path
shown_fault (text.Formula task fault) = field_text (codes "formula of task ") task.0 ++ formula_text fault
shown_fault text.TooManyTasks = codes "more than 16384 tasks"
shown_fault text.Version = codes "unknown version"
shown_fault text.OutOfMemory = codes "out of memory"

-- words round a number
abbrev pub round_text : List ℕ → ℕ → List ℕ → List ℕ
round_text words number end = field_text words number ++ end

-- a fault of a task, and one of a block's version
abbrev pub task_text : ℕ → List ℕ → ℕ → List ℕ → List ℕ
task_text task words number end = field_text (codes "task ") task ++ round_text words number end

abbrev pub block_text : ℕ → List ℕ → ℕ → List ℕ → List ℕ
block_text block words version end = field_text (codes "block ") block ++ round_text words version end

-- why a graph is not accepted
abbrev pub audit_text : AuditFault → List ℕ
audit_text (audit.DuplicateKey k) = round_text (codes "task ") k.0 (codes " stands twice")
audit_text (audit.UnknownKey t k) = task_text t.0 (codes " names unknown task ") k.0 []
audit_text (audit.NoSink k) = round_text (codes "sink ") k.0 (codes " is no task")
audit_text (audit.TooManyPreds t n) = task_text t.0 (codes " has ") n (codes " predecessors")
audit_text (audit.TooManySuccs t n) = task_text t.0 (codes " has ") n (codes " successors")
audit_text (audit.Cycle k) = round_text (codes "cycle through task ") k.0 []
audit_text (audit.VersionTwice b v) = block_text b (codes " has version ") v (codes " twice")
audit_text (audit.VersionGap b v) = block_text b (codes " has no version ") v []
audit_text (audit.VersionOrder b v) = block_text b (codes ": the writer of version ") v (codes " is not before the next")
audit_text (audit.ReaderNotBefore r w) = task_text r.0 (codes " reads what task ") w.0 (codes " overwrites and is not before it")
audit_text (audit.InputCount t i) = task_text t.0 (codes " has no input ") i []
audit_text audit.OutOfMemory = codes "out of memory"

-- why a text is no matrix
abbrev pub matrix_text : MatrixFault → List ℕ
matrix_text matrix.Head = codes "bad first line"
matrix_text matrix.Size = codes "bad size"
matrix_text (matrix.Line line) = field_text (codes "bad line ") line
matrix_text (matrix.Weight line) = field_text (codes "weight too large in line ") line
matrix_text (matrix.Fault line) = field_text (codes "bad fault in line ") line
matrix_text matrix.OutOfMemory = codes "out of memory"

-- which life of a task was the last, and what ended it
abbrev pub spent_text : Key → ℕ → Cause → List ℕ
spent_text key life cause = task_text key.0 (codes " has no life after ") life (codes ": ") ++ cause_text cause
