use Rattle.table_tests.specs.Sitting.{setting_for}
use Rattle.table_tests.proofs.two_seats.run_text.Given as goal

-- the setting of the run: its graph and its plan
abbrev pub ghosts-run : goal.ghosts-run
ghosts-run a = record { setting = setting_for a.graph.now a.plan.now }
