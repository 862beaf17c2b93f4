use Rattle.audit_checks.proofs.Keys.{missing}
use Rattle.audit_checks.proofs.index.KeyIndex.find.Goals as goal

pub returns-in-Err : goal.returns-in-Err
returns-in-Err c = missing c.args.keys.now c.args.key c.in-Err.field-0 c.requires c.in-Err.ensures.position
