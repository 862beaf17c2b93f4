use Rattle.std.proofs.Common.{[], ◌∷◌, codes}
use Rattle.graph_runner.specs.Messages.{round_text}
use Rattle.graph_runner.proofs.Pieces.{two_pieces}
use Rattle.graph_runner.proofs.ending.Ending.put.Goals as goal

pub returns-in_ok-put_round-in-ScheduleShort : goal.returns-in_ok-put_round-in-ScheduleShort
returns-in_ok-put_round-in-ScheduleShort c =
    rw c.in-ScheduleShort.is
    (two_pieces c.put-in-ScheduleShort.result _ _ _ (round_text (codes "schedule ended with ") c.in-ScheduleShort.pending (codes " pending")) (10 ∷ []) (c.in_ok-put_round-in-ScheduleShort).ensures c.put-in-ScheduleShort.ensures)
