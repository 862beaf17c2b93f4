use Rattle.audit_checks.proofs.Keys.{missing}
use Rattle.audit_blocks.proofs.numbering.find_name.Goals as goal

pub returns-in-Err : goal.returns-in-Err
returns-in-Err c = missing c.args.names.now c.args.name c.in-Err.field-0 c.requires c.in-Err.ensures.position
