-- A fault but want of memory is none of an accepted graph.
use Rattle.std.proofs.Common.{◌∙◌, All, ℕ, ◌<◌, ◌≤◌, List, length, refl, sym, subst, arith, Contains}
use Rattle.formula_text.specs.Formulas.{tree}
use Rattle.formula_text.specs.Trees.{HasInputs}
use Rattle.raw_graph.specs.declared.raw.RawTask.{RawTask}
use Rattle.std.proofs.lemmas.List.Elements.{All-contains}
use Rattle.audit_checks.specs.Tasks.{key_of, keys_of, places_of, succ_count, Leads, last, step}
use Rattle.audit_checks.specs.Accepted.{IsAcyclic}
use Rattle.audit_checks.specs.Faults.{IsFault}
use Rattle.audit_checks.specs.declared.fault.AuditFault.{AuditFault}
use Rattle.audit_checks.specs.declared.fault.AuditFault.TheVariants.{DuplicateKey, UnknownKey, NoSink, TooManyPreds, TooManySuccs, Cycle, VersionTwice, VersionGap, VersionOrder, ReaderNotBefore, InputCount, OutOfMemory}
use Rattle.audit_checks.proofs.LeastTask.{known_apart, uses_below}
use Rattle.acyclic_audit.specs.Refusals.{Refuses}

leads_rises : (ts : List RawTask) → (is : IsAcyclic ts) → (p k : ℕ) → Leads ts p k → is.number p < is.number k
leads_rises ts is p k (last _ _ before) = is.rises p k before
leads_rises ts is p k (step _ q _ before more) = omega (arith, is.rises p q before, leads_rises ts is q k more)

pub refuses : (ts : List RawTask) (sink : ℕ) (e : AuditFault) → IsFault ts sink e → Refuses ts sink e
refuses ts sink (DuplicateKey k) fault other is = omega (arith, fault.holds, is.distinct k.0)
refuses ts sink (UnknownKey t k) fault other is =
    let at = fault.2 in
    known_apart (keys_of ts) at.task (All-contains (λ task. All (Contains (keys_of ts)) (places_of task)) ts at.task is.known at.stands) k.0 at.holds
refuses ts sink (NoSink k) fault other is = fault.3 is.sink_task
refuses ts sink (TooManyPreds t n) fault other is =
    let at = fault.1.holds in
    omega (arith, at.holds, All-contains (λ task. length (places_of task) ≤ 40) ts at.task is.places at.stands)
refuses ts sink (TooManySuccs t n) fault other is =
    let at = fault.2.holds in
    omega (arith, at.holds, All-contains (λ task. succ_count ts sink (key_of task) ≤ 640) ts at.task is.edges at.stands)
refuses ts sink (Cycle k) fault other is = omega (arith, leads_rises ts is.acyclic k.0 k.0 fault.1.holds)
refuses ts sink (VersionTwice b v) fault other is = omega (arith, fault.2.holds, is.once b v)
refuses ts sink (VersionGap b v) fault other is =
    let gap = fault.3.holds in
    let found = is.whole gap.task b gap.above v gap.written gap.some gap.below in
    gap.lacks found.0 found.1
refuses ts sink (VersionOrder b v) fault other is =
    let at = fault.1.holds in
    at.apart (is.ordered at.first at.second b v at.writes_first at.writes_second)
refuses ts sink (ReaderNotBefore r w) fault other is =
    let at = fault.3.holds in
    at.apart (subst (Contains (places_of at.second)) at.reader_key
    (is.read at.first at.second at.task at.block at.version at.writes_first at.writes_second at.stands at.reads (λ same. at.other (sym at.reader_key ∙ (same ∙ at.writer_key)))))
refuses ts sink (InputCount t i) fault other is =
    let at = fault.4 in
    let lacks = at.holds.holds in
    omega (arith, lacks.1, uses_below (tree at.task.formula) (length at.task.inputs) i (All-contains (λ task. HasInputs (tree task.formula) (length task.inputs)) ts at.task is.given at.stands) lacks.0)
refuses ts sink OutOfMemory fault other is = other refl
