use Rattle.std.proofs.Common.{arith}
use Rattle.std.proofs.lemmas.Grind.{common_steps}
use Rattle.raw_graph.specs.Graph.{task_of}
use Rattle.graph_reader.specs.Written.{task_data}
use Rattle.graph_reader.proofs.Built.{twice_mapped}
use Rattle.graph_reader.proofs.data.tasks_value.Goals as goal

pub returns : goal.returns
returns c = rw (← twice_mapped task_data task_of c.args.tasks.now) (grind (arith, common_steps))
