-- A source that has what a command is for is refused for want of memory alone.
use Rattle.std.proofs.Common.{◌≡◌, ◌∙◌, ℕ, List, [], ◌++◌, length, Option, Some, None, Ok, Err, refl, sym, subst, ap, arith, append-nil, length-append}
use Rattle.io_edge.specs.Bytes.{Took, IsAtEnd}
use Rattle.io_edge.specs.Causes.{Rose}
use Rattle.graph_model.specs.declared.plan.Strike.{Strike}
use Rattle.raw_graph.specs.Graph.{File, file_with}
use Rattle.raw_graph.specs.declared.raw.RawGraph.{RawGraph}
use Rattle.graph_reader.specs.Answers.{StandsFor}
use Rattle.graph_reader.specs.declared.fault.TextFault.{TextFault}
use Rattle.graph_reader.proofs.Unique.{only_reads}
use Rattle.audit_checks.specs.Accepted.{IsAccepted}
use Rattle.acyclic_audit.proofs.Refusing.{refuses}
use Rattle.apsp_graph.specs.Reading.{reading}
use Rattle.apsp_graph.proofs.MatrixLaws.{is_read}
use Rattle.graph_runner.specs.Complete.{Offers, OffersFile, OffersGraph, OffersMatrix}
use Rattle.graph_runner.specs.Loading.{Input, Gave, IsFlooded, IsNoFile, FailsToLoad}
use Rattle.graph_runner.specs.Opening.{FailsToAccept}
use Rattle.graph_runner.specs.Solving.{FailsToRead}
use Rattle.graph_runner.specs.declared.ending.Ending.{Ending}
use Rattle.graph_runner.specs.declared.ending.Ending.TheVariants.{Done, Usage, ReadFault, WriteFault, Text, Audit, Matrix, LivesSpent, ScheduleShort, OutOfMemory, TooLong}
use Rattle.graph_runner.proofs.Alike.{accepted_alike}

-- ---- bytes

-- what was taken is a front of what there was
record IsFront (after : Option (List ℕ)) (bytes taken : List ℕ) : Type 0 where
  rest : List ℕ
  after_is : after ≡ Some rest
  whole : bytes ≡ taken ++ rest

front : (left after : Option (List ℕ)) (bytes taken : List ℕ) → left ≡ Some bytes → Took left after taken → IsFront after bytes taken
front left None bytes taken is took = absurd (cc)
front left (Some rest) bytes taken is took = record { rest = rest; after_is = refl; whole = cc }

not_flooded : (input : Input) (bytes : List ℕ) → Offers input bytes → IsFlooded input → ⊥
not_flooded input bytes offers flooded =
    let f = front input.left input.left_after bytes flooded.bytes offers.left flooded.took in
    omega (arith, offers.few, flooded.many, ap length f.whole, length-append flooded.bytes f.rest)

gave_all : (input : Input) (bytes given : List ℕ) → Offers input bytes → Gave input given → bytes ≡ given
gave_all input bytes given offers gave =
    let f = front input.left input.left_after bytes given offers.left gave.took in
    let over : f.rest ≡ [] = subst IsAtEnd f.after_is gave.at_end in
    f.whole ∙ ap (λ rest. given ++ rest) over ∙ append-nil given

-- ---- files
no_fault : (input : Input) (bytes : List ℕ) (file : File) (fault : TextFault) → Offers input bytes → StandsFor bytes file → IsNoFile input fault → ⊥
no_fault input bytes file fault offers stands none =
    let same = gave_all input bytes none.bytes offers none.gave in
    none.memory (only_reads none.bytes file (subst (λ bs. StandsFor bs file) same stands) (Err fault) none.fails)

pub only_memory_loads : (input : Input) (e : Ending) → OffersFile input → (Rose input.faults input.faults_after → ⊥) → FailsToLoad input e → e ≡ OutOfMemory
only_memory_loads input ReadFault offers calm fails = absurd (calm fails.rose)
only_memory_loads input TooLong offers calm fails = absurd (not_flooded input offers.bytes offers.offers fails)
only_memory_loads input (Text fault) offers calm fails = absurd (no_fault input offers.bytes offers.file fault offers.offers offers.stands fails)
only_memory_loads input OutOfMemory offers calm fails = refl
only_memory_loads input Done offers calm fails = absurd fails
only_memory_loads input Usage offers calm fails = absurd fails
only_memory_loads input WriteFault offers calm fails = absurd fails
only_memory_loads input (Audit fault) offers calm fails = absurd fails
only_memory_loads input (Matrix fault) offers calm fails = absurd fails
only_memory_loads input (LivesSpent k l c) offers calm fails = absurd fails
only_memory_loads input (ScheduleShort pending) offers calm fails = absurd fails

-- ---- accepted graphs
abbrev file_in : (input : Input) → OffersGraph input → OffersFile input
file_in input offers = record { bytes = offers.bytes; offers = offers.offers; file = file_with offers.raw offers.plan; stands = offers.stands }

-- what was loaded says the same as the graph that the source has
accepted : (input : Input) (raw : RawGraph) (plan : List Strike) (bytes : List ℕ) → (offers : OffersGraph input) → Gave input bytes → StandsFor bytes (file_with raw plan) → IsAccepted raw.tasks.items raw.sink.0
accepted input raw plan bytes offers gave stands =
    let same = gave_all input offers.bytes bytes offers.offers gave in
    let files : file_with raw plan ≡ file_with offers.raw offers.plan = only_reads bytes (file_with offers.raw offers.plan) (subst (λ bs. StandsFor bs (file_with offers.raw offers.plan)) same offers.stands) (Ok (raw, plan)) stands in
    let tasks = ap (λ (f : File). f.graph.tasks) (sym files) in
    let sinks : offers.raw.sink.0 ≡ raw.sink.0 = ap (λ (f : File). f.graph.sink) (sym files) in
    subst (IsAccepted raw.tasks.items) sinks (accepted_alike offers.raw.tasks.items raw.tasks.items offers.raw.sink.0 tasks offers.accepted)

pub only_memory_accepts : (input : Input) (e : Ending) → OffersGraph input → (Rose input.faults input.faults_after → ⊥) → FailsToAccept input e → e ≡ OutOfMemory
only_memory_accepts input (Audit fault) offers calm fails =
    absurd (refuses fails.raw.tasks.items fails.raw.sink.0 fault fails.stands fails.memory (accepted input fails.raw fails.plan fails.loaded.bytes offers fails.loaded.gave fails.loaded.stands))
only_memory_accepts input ReadFault offers calm fails = only_memory_loads input ReadFault (file_in input offers) calm fails
only_memory_accepts input TooLong offers calm fails = only_memory_loads input TooLong (file_in input offers) calm fails
only_memory_accepts input (Text fault) offers calm fails = only_memory_loads input (Text fault) (file_in input offers) calm fails
only_memory_accepts input OutOfMemory offers calm fails = refl
only_memory_accepts input Done offers calm fails = absurd fails
only_memory_accepts input Usage offers calm fails = absurd fails
only_memory_accepts input WriteFault offers calm fails = absurd fails
only_memory_accepts input (Matrix fault) offers calm fails = absurd fails
only_memory_accepts input (LivesSpent k l c) offers calm fails = absurd fails
only_memory_accepts input (ScheduleShort pending) offers calm fails = absurd fails

-- ---- matrices
pub only_memory_reads : (input : Input) (e : Ending) → OffersMatrix input → (Rose input.faults input.faults_after → ⊥) → FailsToRead input e → e ≡ OutOfMemory
only_memory_reads input (Matrix fault) offers calm fails =
    let same = gave_all input offers.bytes fails.bytes offers.offers fails.gave in
    let found = ap reading (sym same) ∙ is_read offers.bytes offers.matrix offers.stands in
    let first = fails.first in
    absurd (cc)
only_memory_reads input ReadFault offers calm fails = absurd (calm fails.rose)
only_memory_reads input TooLong offers calm fails = absurd (not_flooded input offers.bytes offers.offers fails)
only_memory_reads input OutOfMemory offers calm fails = refl
only_memory_reads input Done offers calm fails = absurd fails
only_memory_reads input Usage offers calm fails = absurd fails
only_memory_reads input WriteFault offers calm fails = absurd fails
only_memory_reads input (Text fault) offers calm fails = absurd fails
only_memory_reads input (Audit fault) offers calm fails = absurd fails
only_memory_reads input (LivesSpent k l c) offers calm fails = absurd fails
only_memory_reads input (ScheduleShort pending) offers calm fails = absurd fails
