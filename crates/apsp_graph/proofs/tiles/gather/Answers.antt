use Rattle.std.proofs.Common.{◌≡◌, ◌+◌, ◌*◌, ◌-◌, ◌<◌, ◌≤◌, ◌∙◌, ap, sym, pos, length, take, drop, get_or, refl, arith, ℤ, List}
use Rattle.std.proofs.Math.Nat.{mul-le-mul_right}
use Rattle.std.proofs.lemmas.List.{get_or-take, get_or-drop}
use Rattle.std.proofs.lemmas.List.FromFn.{fill_by_all}
use Rattle.apsp_graph.specs.Blocked.{beside_at}
use Rattle.apsp_graph.proofs.Filling.{filled_more}
use Rattle.apsp_graph.proofs.CellLemmas.{beside_place}
use Rattle.apsp_graph.proofs.tiles.gather.Goals as goal

pub loop-tile-preserved : goal.loop-tile-preserved
loop-tile-preserved c =
    let b = c.args.b in
    let side = c.args.side in
    let lists = c.args.inputs.now.lists in
    let row = c.loop-row.row in
    let place = c.loop-tile.tile in
    let base = row * (b * side) + place * side in
    let cells = c.input-cells.result.now in
    let ys = c.copy_from_slice.new.self in
    let size = row * side + side - row * side in
    let piece : ys ≡ take size (drop (row * side) cells) = c.copy_from_slice.ensures.after in
    let long : length ys ≡ side = omega arith in
    let rows : (row + 1) * (b * side) ≤ side * (b * side) = mul-le-mul_right (b * side) (omega arith) in
    let columns : (place + 1) * side ≤ b * side = mul-le-mul_right side (omega arith) in
    filled_more (beside_at b side lists) c.loop-tile.out ys base (base + side - base) base (row * (b * side) + (place + 1) * side) refl (omega arith) (omega arith) c.loop-tile.invariant
    (λ q lt.
    let near : q < size = omega arith in
    ap (λ (xs : List ℤ). get_or xs q (pos 0)) piece ∙ get_or-take size (drop (row * side) cells) q (pos 0) near ∙ get_or-drop (row * side) cells q (pos 0)
    ∙ ap (λ (xs : List ℤ). get_or xs (row * side + q) (pos 0)) c.input-cells.ensures.value
    ∙ sym (beside_place b side lists row place q c.loop-tile-test.true (omega arith)))

pub returns : goal.returns
returns c =
    let b = c.args.b in
    let side = c.args.side in
    let all : c.loop-row.row ≡ side = omega arith in
    let wide : c.loop-row.row * (b * side) ≡ side * (b * side) = ap (λ v. v * (b * side)) all in
    fill_by_all (beside_at b side c.args.inputs.now.lists) c.loop-row.out (side * (b * side)) (pos 0) (omega arith) (λ k lt. c.loop-row.invariant k (omega arith))
