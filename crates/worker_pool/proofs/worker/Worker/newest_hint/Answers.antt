use Rattle.worker_pool.proofs.Sharing.Hints.{newest_taken}
use Rattle.worker_pool.proofs.worker.Worker.newest_hint.Goals as goal

pub returns-clause-taken : goal.returns-clause-taken
returns-clause-taken c = let before = c.args.self.now.hints in let now = c.pop_back.new.self in newest_taken before.items now.items before.len now.len before.ok.0 now.ok.0 c.pop_back.result c.pop_back.ensures.items c.pop_back.ensures.cases
