use Rattle.std.proofs.Common.{◌∷◌, refl}
use Rattle.task_table.specs.Passes.{numbers}
use Rattle.task_table.proofs.Sitting.{sure_seated}
use Rattle.task_table.proofs.seat.TableSeatSteps.reserve.Goals as goal

pub returns-clause-table : goal.returns-clause-table
returns-clause-table g c = let same = c.reserve.ensures.same in record {
  same_setting = refl;
  same_lender = λ j. (same.0 j).parts ∷ same.2 j ∷ numbers (same.1 j);
  same_others = refl;
  sure = sure_seated g.C.Course.setting _ c.reserve.ensures.pass.seated;
}
