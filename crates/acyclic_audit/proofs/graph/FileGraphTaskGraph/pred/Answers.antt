use Rattle.std.proofs.Common.{◌<◌, length, arith}
use Rattle.acyclic_audit.proofs.Lookups.{cell_at, edge_at, row_length, inputs_at}
use Rattle.acyclic_audit.proofs.graph.FileGraphTaskGraph.pred.Goals as goal

pub returns-then-is_data : goal.returns-then-is_data
returns-then-is_data c =
    let t = c.args.self.now in
    let w = c.args.self.now.whole in
    let row = c.index.result.now in
    let inside : c.number-k.result < length t.found.links.places.items = omega arith in
    let long = row_length t.keys.items t.found.links.places.items c.args.key.0 c.number-k.result row c.number-k.ensures.is inside c.index.ensures in
    let stands = cell_at t.found.links.places.items c.number-k.result c.args.j row c.index-2.result.now inside c.index.ensures (omega (arith, long, c.requires.place)) c.index-2.ensures in
    let count = inputs_at t.keys.items t.tasks.items c.args.key.0 c.number-k.result c.index-3.result.now c.number-k.ensures.is (omega arith) c.index-3.ensures in
    record {
      pred = edge_at t.keys.items t.found.links.places.items c.args.key.0 c.number-k.result c.args.j c.index-2.result.now c.index-4.result.now c.number-k.ensures.is stands
          (w.places_inside c.number-k.result c.args.j c.index-2.result.now stands) c.index-4.ensures;
      kind = omega (arith, count);
    }

pub returns-else-is_data : goal.returns-else-is_data
returns-else-is_data c =
    let t = c.args.self.now in
    let w = c.args.self.now.whole in
    let row = c.index.result.now in
    let inside : c.number-k.result < length t.found.links.places.items = omega arith in
    let long = row_length t.keys.items t.found.links.places.items c.args.key.0 c.number-k.result row c.number-k.ensures.is inside c.index.ensures in
    let stands = cell_at t.found.links.places.items c.number-k.result c.args.j row c.index-2.result.now inside c.index.ensures (omega (arith, long, c.requires.place)) c.index-2.ensures in
    let count = inputs_at t.keys.items t.tasks.items c.args.key.0 c.number-k.result c.index-3.result.now c.number-k.ensures.is (omega arith) c.index-3.ensures in
    record {
      pred = edge_at t.keys.items t.found.links.places.items c.args.key.0 c.number-k.result c.args.j c.index-2.result.now c.index-4.result.now c.number-k.ensures.is stands
          (w.places_inside c.number-k.result c.args.j c.index-2.result.now stands) c.index-4.ensures;
      kind = omega (arith, count);
    }
