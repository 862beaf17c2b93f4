use Rattle.std.proofs.Common.{◌≡◌, ◌*◌, ◌+◌, ◌<◌, ◌∙◌, sym, ap, inl, inr, Some, None, slice_index_or, length, w64, arith}
use Rattle.std.proofs.lemmas.Int.{to_z-of_z}
use Rattle.std.proofs.lemmas.List.{get_or_default}
use Rattle.std.proofs.lemmas.Nat.{mul-add-lt}
use Rattle.apsp_graph.specs.Blocked.{as_weight}
use Rattle.apsp_graph.proofs.CellLemmas.{edge_within, edge_self, edge_none}
use Rattle.apsp_graph.proofs.graph.PathGraph.edge.Goals as goal
use Rattle.apsp_graph.proofs.graph.PathGraph.edge.Goals.{else-from-self-via-then-from-self+else-to-self, else-from-self-via-else-from-self}

pub returns-in-Some : goal.returns-in-Some
returns-in-Some c =
    let s = c.args.self.now in
    let place = c.args.from * s.n + c.args.to in
    let inside : place < length s.weights.items = omega (arith, s.square, mul-add-lt c.args.from s.n c.args.to s.n c.if-from-self.true c.if-to-self.true) in
    let item : slice_index_or s.weights.items place None ≡ Some c.in-Some.weight = get_or_default s.weights.items place None c.index.result.now inside ∙ sym c.index.ensures ∙ c.in-Some.is in
    to_z-of_z w64 c.from.result (record { sfits = c.from.type_inv }) ∙ c.from.ensures
    ∙ sym (edge_within s.n s.weights.items c.args.from c.args.to c.if-from-self.true c.if-to-self.true ∙ ap as_weight item)

pub returns-in-None : goal.returns-in-None
returns-in-None c =
    let s = c.args.self.now in
    let place = c.args.from * s.n + c.args.to in
    let inside : place < length s.weights.items = omega (arith, s.square, mul-add-lt c.args.from s.n c.args.to s.n c.if-from-self.true c.if-to-self.true) in
    let item : slice_index_or s.weights.items place None ≡ None = get_or_default s.weights.items place None c.index.result.now inside ∙ sym c.index.ensures ∙ c.in-None.is in
    sym (edge_within s.n s.weights.items c.args.from c.args.to c.if-from-self.true c.if-to-self.true ∙ ap as_weight item)

pub returns-then-from-to : goal.returns-then-from-to
returns-then-from-to c =
    let s = c.args.self.now in
    elim c.else-from-self.branch [
      | else-from-self-via-then-from-self+else-to-self w ↦ sym (edge_self s.n s.weights.items c.args.from c.args.to (inr (omega arith)) c.if-from-to.true)
      | else-from-self-via-else-from-self w ↦ sym (edge_self s.n s.weights.items c.args.from c.args.to (inl (omega arith)) c.if-from-to.true)
    ]

pub returns-else-from-to : goal.returns-else-from-to
returns-else-from-to c =
    let s = c.args.self.now in
    elim c.else-from-self.branch [
      | else-from-self-via-then-from-self+else-to-self w ↦ sym (edge_none s.n s.weights.items c.args.from c.args.to (inr (omega arith)) c.if-from-to.false)
      | else-from-self-via-else-from-self w ↦ sym (edge_none s.n s.weights.items c.args.from c.args.to (inl (omega arith)) c.if-from-to.false)
    ]
