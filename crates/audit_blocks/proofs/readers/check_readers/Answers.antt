use Rattle.std.proofs.Common.{◌<◌, length, refl, subst, arith}
use Rattle.std.proofs.lemmas.List.{length-append}
use Rattle.std.proofs.lemmas.Option.{slice_get_read}
use Rattle.audit_checks.specs.Links.{places_in}
use Rattle.audit_checks.specs.Tasks.{keys_of}
use Rattle.audit_blocks.specs.Readers.{IsFirstOf, IsFirstLate}
use Rattle.audit_blocks.proofs.ReaderLaws.{IsTold, told_of, has_readers, reader_fault, inside_of, late_inside}
use Rattle.audit_blocks.proofs.readers.check_readers.Goals as goal

pub first_late-requires-clause-places : goal.first_late-requires-clause-places
first_late-requires-clause-places c = λ i t here. omega (arith, (c.requires.tells.tells i t here).long, length-append t.inputs t.after)

pub first_late-requires-clause-inside : goal.first_late-requires-clause-inside
first_late-requires-clause-inside c =
    let told : IsTold c.args.tasks.now (keys_of c.args.tasks.now) c.args.written.now (places_in c.args.links.now) c.as_slice.result.now
    = told_of c.args.tasks.now c.args.written.now (places_in c.args.links.now) c.in-Ok.nexts.items c.as_slice.result.now c.requires.written c.requires.rising c.requires.whole c.requires.tells
    c.as_slice.ensures.value c.in-Ok.ensures.nexts in
    inside_of c.args.tasks.now (keys_of c.args.tasks.now) c.args.written.now (places_in c.args.links.now) c.as_slice.result.now told
    (omega (arith, c.as_slice.ensures.len, c.in-Ok.ensures.len))

pub returns-in_default-first_late-clause-ok : goal.returns-in_default-first_late-clause-ok
returns-in_default-first_late-clause-ok c =
    let told : IsTold c.args.tasks.now (keys_of c.args.tasks.now) c.args.written.now (places_in c.args.links.now) c.as_slice.result.now
    = told_of c.args.tasks.now c.args.written.now (places_in c.args.links.now) c.in-Ok.nexts.items c.as_slice.result.now c.requires.written c.requires.rising c.requires.whole c.requires.tells
    c.as_slice.ensures.value c.in-Ok.ensures.nexts in
    has_readers c.args.tasks.now (keys_of c.args.tasks.now) c.args.written.now (places_in c.args.links.now) c.as_slice.result.now told
    (subst (IsFirstOf c.args.tasks.now (places_in c.args.links.now) c.as_slice.result.now (length c.args.tasks.now)) c.in_default-first_late.is c.first_late.ensures)

pub bounds-tasks-late-2 : goal.bounds-tasks-late-2
bounds-tasks-late-2 c =
    let told : IsTold c.args.tasks.now (keys_of c.args.tasks.now) c.args.written.now (places_in c.args.links.now) c.as_slice.result.now
    = told_of c.args.tasks.now c.args.written.now (places_in c.args.links.now) c.in-Ok.nexts.items c.as_slice.result.now c.requires.written c.requires.rising c.requires.whole c.requires.tells
    c.as_slice.ensures.value c.in-Ok.ensures.nexts in
    late_inside c.args.tasks.now (keys_of c.args.tasks.now) c.args.written.now (places_in c.args.links.now) c.as_slice.result.now c.in-Some.late told
    (omega (arith, c.as_slice.ensures.len, c.in-Ok.ensures.len))
    (subst (IsFirstOf c.args.tasks.now (places_in c.args.links.now) c.as_slice.result.now (length c.args.tasks.now)) c.in-Some.is c.first_late.ensures)

pub returns-clause-err : goal.returns-clause-err
returns-clause-err c = λ sink versions ordered.
    let told : IsTold c.args.tasks.now (keys_of c.args.tasks.now) c.args.written.now (places_in c.args.links.now) c.as_slice.result.now
    = told_of c.args.tasks.now c.args.written.now (places_in c.args.links.now) c.in-Ok.nexts.items c.as_slice.result.now c.requires.written c.requires.rising c.requires.whole c.requires.tells
    c.as_slice.ensures.value c.in-Ok.ensures.nexts in
    let first : IsFirstLate c.args.tasks.now (places_in c.args.links.now) c.as_slice.result.now (length c.args.tasks.now) c.in-Some.late
    = subst (IsFirstOf c.args.tasks.now (places_in c.args.links.now) c.as_slice.result.now (length c.args.tasks.now)) c.in-Some.is c.first_late.ensures in
    let low : c.in-Some.late.writer < length c.args.tasks.now = late_inside c.args.tasks.now (keys_of c.args.tasks.now) c.args.written.now (places_in c.args.links.now) c.as_slice.result.now
    c.in-Some.late told (omega (arith, c.as_slice.ensures.len, c.in-Ok.ensures.len)) first in
    let fault = reader_fault c.args.tasks.now (keys_of c.args.tasks.now) c.args.written.now (places_in c.args.links.now) c.as_slice.result.now c.in-Some.late
    c.index-tasks-late.result c.index-tasks-late-2.result told first
    (slice_get_read c.args.tasks.now (length c.args.tasks.now) c.in-Some.late.reader c.index-tasks-late.result refl first.early c.index-tasks-late.is)
    (slice_get_read c.args.tasks.now (length c.args.tasks.now) c.in-Some.late.writer c.index-tasks-late-2.result refl low c.index-tasks-late-2.is) in
    (versions, ordered, fault.0, fault.1)
