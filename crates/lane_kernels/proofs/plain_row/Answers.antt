use Rattle.std.proofs.Common.{◌≡◌, ◌<◌, ◌+◌, ◌*◌, ℕ, length, set, arith, ap, sym, ◌∙◌, add-one, subst, w64, to_z, of_z}
use Rattle.std.proofs.lemmas.Grind.{common_steps}
use Rattle.std.proofs.lemmas.Nat.{rows}
use Rattle.std.proofs.lemmas.Int.{ints, to_z-of_z}
use Rattle.std.specs.Int.{int_min}
use Rattle.lane_kernels.specs.MinPlus.{RowUpdated, cell, least}
use Rattle.lane_kernels.proofs.Lanes.{plus_read}
use Rattle.lane_kernels.proofs.Rows.{none_done, part_more, cell_written}
use Rattle.lane_kernels.proofs.plain_row.Goals as goal

pub loop-j-init : goal.loop-j-init
loop-j-init c = none_done _ _ _ _ _ _

pub loop-k-init : goal.loop-k-init
loop-k-init c = omega (arith, ints)

pub loop-k-preserved : goal.loop-k-preserved
loop-k-preserved c =
    let a = c.args.a.now in
    let b = c.args.b.now in
    let side = c.args.side in
    let i = c.args.i in
    let j = c.loop-j.j in
    let k = c.loop-k.k in
    let old = cell c.loop-j.out side i j in
    let way = c.plus-way.result in
    let way_is = to_z-of_z w64 way (record { sfits = c.plus-way.type_inv }) ∙ c.plus-way.ensures
    ∙ plus_read (cell a side i k) (cell b side k j) (c.requires.first (i * side + k)) (c.requires.second (k * side + j)) in
    to_z-of_z w64 c.min-weight.result (record { sfits = c.min-weight.type_inv })
    ∙ c.min-weight.ensures.value
    ∙ ap (λ v. int_min v (to_z w64 (of_z w64 way))) c.loop-k.invariant
    ∙ ap (int_min (least a b side i j old k)) way_is
    ∙ ap (least a b side i j old) (sym (add-one k))

pub loop-j-preserved : goal.loop-j-preserved
loop-j-preserved c =
    let side = c.args.side in
    let i = c.args.i in
    let j = c.loop-j.j in
    let out = c.loop-j.out in
    let all : c.loop-k.k ≡ side = omega arith in
    let room : i * side + j < length out = grind (arith, common_steps, rows) in
    let is = c.loop-k.invariant ∙ ap (least c.args.a.now c.args.b.now side i j (cell out side i j)) all in
    part_more c.args.out.now c.args.a.now c.args.b.now out (set out (i * side + j) (to_z w64 c.loop-k.weight-bits)) side i c.args.from j (j + 1) (omega arith) (omega arith)
    c.loop-j.invariant (cell_written out c.args.a.now c.args.b.now side i j (to_z w64 c.loop-k.weight-bits) room is)

pub returns : goal.returns
returns c =
    let all : c.loop-j.j ≡ c.args.side = omega arith in
    subst (λ (n : ℕ). RowUpdated c.args.out.now c.args.a.now c.args.b.now c.loop-j.out c.args.side c.args.i c.args.from n) all c.loop-j.invariant
