use Rattle.std.proofs.Common.{◌<◌, ℕ, All, List, subst, sym}
use Rattle.std.proofs.lemmas.List.Elements.{All-drop}
use Rattle.worker_pool.proofs.Sharing.Hints.{oldest_taken}
use Rattle.worker_pool.proofs.worker.Worker.oldest_hint.Goals as goal

pub returns-clause-hints : goal.returns-clause-hints
returns-clause-hints c = λ rows all. subst (All (λ row. row < rows)) (sym {A = List ℕ} c.pop_front.ensures.rest) (All-drop (λ row. row < rows) 1 c.args.self.now.hints.items all)

pub returns-clause-taken : goal.returns-clause-taken
returns-clause-taken c = let before = c.args.self.now.hints in let now = c.pop_front.new.self in oldest_taken before.items now.items before.len now.len before.ok.0 now.ok.0 c.pop_front.result c.pop_front.ensures.items c.pop_front.ensures.cases
