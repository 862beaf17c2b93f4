use Rattle.std.proofs.Common.{◌≡◌, length, subst, arith}
use Rattle.audit_blocks.specs.Names.{AreNamesTo}
use Rattle.audit_blocks.proofs.NameLemmas.{names_none, names_push, names_same}
use Rattle.audit_blocks.proofs.numbering.block_names.Goals.{then-i-eq0+in_ok-push, then-i-eq0-via-then-i-eq0, then-i-eq0-via-else-i-eq0+then-written-i, else-i-eq0+else-written-i}
use Rattle.audit_blocks.proofs.numbering.block_names.Goals as goal

pub loop-i-init : goal.loop-i-init
loop-i-init c = rw c.new-names.ensures.items (names_none c.args.written.now)

pub loop-i-preserved : goal.loop-i-preserved
loop-i-preserved c = elim c.if-i-eq0.branch [
  | then-i-eq0+in_ok-push w ↦ rw (w.names-is, w.in_ok-push.ensures.items)
      (names_push c.args.written.now c.loop-i.i c.loop-i.names.items c.requires (omega arith) c.loop-i.invariant (λ low same. elim w.then-i-eq0.branch [
        | then-i-eq0-via-then-i-eq0 x ↦ omega (arith, x.if-i-eq0.true)
        | then-i-eq0-via-else-i-eq0+then-written-i x ↦ x.if-written-i.true same
      ]))
  | else-i-eq0+else-written-i w ↦ rw w.names-is (names_same c.args.written.now c.loop-i.i c.loop-i.names.items c.loop-i.invariant (omega (arith, w.if-i-eq0.false)) w.if-written-i.false)
]

pub returns : goal.returns
returns c =
    let e : c.loop-i.i ≡ length c.args.written.now = omega arith in
    subst (λ n. AreNamesTo c.args.written.now n c.loop-i.names.items) e c.loop-i.invariant
