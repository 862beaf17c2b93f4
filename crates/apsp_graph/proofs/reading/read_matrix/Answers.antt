use Rattle.std.proofs.Common.{Result, subst}
use Rattle.apsp_graph.specs.Matrices.{Matrix}
use Rattle.apsp_graph.specs.Views.{matrix_of}
use Rattle.apsp_graph.specs.declared.fault.MatrixFault.{MatrixFault}
use Rattle.apsp_graph.specs.Reading.{Gives}
use Rattle.apsp_graph.proofs.MatrixLaws.{is_read, found}
use Rattle.apsp_graph.proofs.reading.read_matrix.Goals as goal

pub returns-clause-found : goal.returns-clause-found
returns-clause-found c = found (λ r. matrix_of r.0 r.1) c.args.bytes.now c.read_lines.result c.read_lines.ensures

pub returns-clause-accepted : goal.returns-clause-accepted
returns-clause-accepted c = λ m is. subst (λ (read : Result Matrix MatrixFault). Gives (λ r. matrix_of r.0 r.1) c.read_lines.result read) (is_read c.args.bytes.now m is) c.read_lines.ensures
