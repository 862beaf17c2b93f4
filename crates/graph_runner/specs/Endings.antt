-- The status and the message of each ending.
use Rattle.std.specs.Prelude.{ℕ, List, [], ◌∷◌, ◌++◌, codes}
use Rattle.graph_reader.specs.declared.fault.TextFault.{TextFault}
use Rattle.graph_reader.specs.declared.fault.TextFault.TheVariants as text
use Rattle.audit_checks.specs.declared.fault.AuditFault.{AuditFault}
use Rattle.audit_checks.specs.declared.fault.AuditFault.TheVariants as audit
use Rattle.worker_pool.specs.declared.end.Why.{Why}
use Rattle.worker_pool.specs.declared.end.Why.TheVariants as why
use Rattle.apsp_graph.specs.declared.fault.MatrixFault.{MatrixFault}
use Rattle.apsp_graph.specs.declared.fault.MatrixFault.TheVariants as matrix
use Rattle.graph_runner.specs.Messages.{shown_fault, audit_text, matrix_text, round_text, spent_text}
use Rattle.graph_runner.specs.declared.ending.Ending.{Ending}
use Rattle.graph_runner.specs.declared.ending.Ending.TheVariants.{Done, Usage, ReadFault, WriteFault, Text, Audit, Matrix, LivesSpent, ScheduleShort, OutOfMemory, TooLong}

-- what a fault of the text comes to, one of the graph, and one of a matrix: want of memory is the same wherever it is met
abbrev pub text_ending : TextFault → Ending
text_ending text.OutOfMemory = OutOfMemory
text_ending text.NotJson = Text text.NotJson
text_ending (text.Shape path) = Text (text.Shape path)
text_ending (text.Range path) = Text (text.Range path)
text_ending (text.Formula task fault) = Text (text.Formula task fault)
text_ending text.TooManyTasks = Text text.TooManyTasks
text_ending text.Version = Text text.Version

abbrev pub audit_ending : AuditFault → Ending
audit_ending audit.OutOfMemory = OutOfMemory
audit_ending (audit.DuplicateKey k) = Audit (audit.DuplicateKey k)
audit_ending (audit.UnknownKey t k) = Audit (audit.UnknownKey t k)
audit_ending (audit.NoSink k) = Audit (audit.NoSink k)
audit_ending (audit.TooManyPreds t n) = Audit (audit.TooManyPreds t n)
audit_ending (audit.TooManySuccs t n) = Audit (audit.TooManySuccs t n)
audit_ending (audit.Cycle k) = Audit (audit.Cycle k)
audit_ending (audit.VersionTwice b v) = Audit (audit.VersionTwice b v)
audit_ending (audit.VersionGap b v) = Audit (audit.VersionGap b v)
audit_ending (audit.VersionOrder b v) = Audit (audit.VersionOrder b v)
audit_ending (audit.ReaderNotBefore r w) = Audit (audit.ReaderNotBefore r w)
audit_ending (audit.InputCount t i) = Audit (audit.InputCount t i)

abbrev pub matrix_ending : MatrixFault → Ending
matrix_ending matrix.OutOfMemory = OutOfMemory
matrix_ending matrix.Head = Matrix matrix.Head
matrix_ending matrix.Size = Matrix matrix.Size
matrix_ending (matrix.Line line) = Matrix (matrix.Line line)
matrix_ending (matrix.Weight line) = Matrix (matrix.Weight line)
matrix_ending (matrix.Fault line) = Matrix (matrix.Fault line)

-- what the end of a run without the value comes to
abbrev pub run_ending : Why → Ending
run_ending why.OutOfMemory = OutOfMemory
run_ending (why.LivesSpent k l c) = LivesSpent k l c
run_ending (why.ScheduleShort pending) = ScheduleShort pending

-- the status that the program ends with
abbrev pub status_of : Ending → ℕ
status_of Done = 0
status_of Usage = 2
status_of ReadFault = 3
status_of WriteFault = 4
status_of (Text fault) = 5
status_of (Audit fault) = 6
status_of (Matrix fault) = 5
status_of (LivesSpent k l c) = 7
status_of (ScheduleShort pending) = 10
status_of OutOfMemory = 8
status_of TooLong = 9

-- a line ends with a newline
abbrev pub line : List ℕ → List ℕ
line words = words ++ 10 ∷ []

-- the line that says what was wrong, if anything was; it is empty where memory ran out
abbrev pub message_of : Ending → List ℕ
message_of Done = []
message_of Usage = line (codes "usage: run, replay, paths, drill NUMBER, check or print, with the options of the manual")
message_of ReadFault = line (codes "input could not be read")
message_of WriteFault = line (codes "output could not be written")
message_of (Text fault) = line (shown_fault fault)
message_of (Audit fault) = line (audit_text fault)
message_of (Matrix fault) = line (matrix_text fault)
message_of (LivesSpent k l c) = line (spent_text k l c)
message_of (ScheduleShort pending) = line (round_text (codes "schedule ended with ") pending (codes " pending"))
message_of OutOfMemory = []
message_of TooLong = line (codes "input is longer than 67108864 bytes")
