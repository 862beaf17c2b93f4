use Rattle.core_state.specs.Rooted.{setting_of}
use Rattle.worker_pool.specs.Calling.{first_outcome}
use Rattle.worker_pool.proofs.threads.run_graph.Given as goal

-- the setting of the run: its graph, what its kernels make, its plan and its greatest life
abbrev pub ghosts-run_all : goal.ghosts-run_all
ghosts-run_all g a = record { setting = setting_of (g.G.TaskGraph.graph a.terms.now.graph.now) (first_outcome g.Ke.Kernel.outcome a.kernels.now.items) a.terms.now.plan.now a.terms.now.lives }
