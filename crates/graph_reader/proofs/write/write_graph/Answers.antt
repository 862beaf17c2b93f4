use Rattle.std.proofs.Common.{◌∙◌}
use Rattle.raw_graph.specs.Graph.{file_with}
use Rattle.graph_reader.specs.Written.{file_data}
use Rattle.graph_reader.proofs.Again.{are_readable, file_again}
use Rattle.graph_reader.proofs.Depth.{file_within}
use Rattle.graph_reader.proofs.Fits.{file_fits}
use Rattle.graph_reader.proofs.Floats.{file_plain}
use Rattle.graph_reader.proofs.Unique.{only_reads}
use Rattle.graph_reader.proofs.write.write_graph.Goals as goal

pub returns-clause-text : goal.returns-clause-text
returns-clause-text c =
    let file = file_with c.args.raw.now c.args.plan.now in
    let text = rw c.in_ok-value.ensures at c.in_ok-to_vec.ensures.text in
    c.from_vec.ensures ∙ text (file_plain file)

pub returns-clause-stands : goal.returns-clause-stands
returns-clause-stands c =
    let file = file_with c.args.raw.now c.args.plan.now in
    let readable = are_readable c.args.raw.now.tasks.items in
    let reads_back = rw c.in_ok-value.ensures at c.in_ok-to_vec.ensures.reads_back in
    rw c.from_vec.ensures
    (record {
      value = file_data file;
      json = record { text = c.in_ok-to_vec.ensures.utf8; value = reads_back (file_within file) };
      passes = file_fits file c.requires readable;
      holds = file_again file readable;
    })

pub returns-clause-back : goal.returns-clause-back
returns-clause-back c answer reads = only_reads _ (file_with c.args.raw.now c.args.plan.now) (returns-clause-stands c) answer reads
