use Rattle.std.proofs.Common.{◌≡◌, ◌+◌, ◌*◌, ◌/◌, ◌%◌, ◌-◌, ◌<◌, ◌≤◌, ◌∙◌, ap, sym, subst, pos, length, refl, arith, ℕ}
use Rattle.std.proofs.Math.Nat.{mul-le-mul_right}
use Rattle.std.proofs.lemmas.Nat.{div-mul-add, mod-mul-add}
use Rattle.std.proofs.lemmas.List.FromFn.{fill_by_all}
use Rattle.lane_kernels.specs.MinPlus.{tile}
use Rattle.apsp_graph.specs.Blocked.{edge}
use Rattle.apsp_graph.proofs.Filling.{filled_more}
use Rattle.apsp_graph.proofs.tiles.load.Goals as goal

pub loop-p-preserved : goal.loop-p-preserved
loop-p-preserved c =
    let side = c.side-side.result in
    let s = c.args.graph.now in
    let p = c.loop-p.p in
    let base = p * side in
    let ys = c.load_row.new.out in
    let f : ℕ → _ = λ k. edge s.n s.weights.items (c.args.row * side + k / side) (c.args.column * side + k % side) in
    let square : side * side ≡ s.side * s.side = ap (λ v. v * v) c.side-side.ensures in
    let rows : (p + 1) * side ≤ side * side = mul-le-mul_right side (omega arith) in
    let long : length ys ≡ side = omega arith in
    filled_more f c.loop-p.out ys base (base + side - base) base ((p + 1) * side) refl (omega arith) (omega arith) c.loop-p.invariant
    (λ q lt.
    let near : q < side = omega arith in
    c.load_row.ensures q lt
    ∙ ap (λ v. edge s.n s.weights.items (c.args.row * side + v) (c.args.column * side + q)) (sym (div-mul-add p side q near))
    ∙ ap (λ v. edge s.n s.weights.items (c.args.row * side + (base + q) / side) (c.args.column * side + v)) (sym (mod-mul-add p side q near)))

pub returns : goal.returns
returns c =
    let s = c.args.graph.now in
    let all : c.loop-p.p ≡ c.side-side.result = omega arith in
    let side = c.side-side.result in
    let square : side * side ≡ s.side * s.side = ap (λ v. v * v) c.side-side.ensures in
    let done : c.loop-p.p * side ≡ side * side = ap (λ v. v * side) all in
    subst (λ (d : ℕ). c.loop-p.out ≡ tile d (λ p q. edge s.n s.weights.items (c.args.row * d + p) (c.args.column * d + q))) c.side-side.ensures
    (fill_by_all (λ k. edge s.n s.weights.items (c.args.row * side + k / side) (c.args.column * side + k % side)) c.loop-p.out (side * side) (pos 0) (omega arith) (λ k lt. c.loop-p.invariant k (omega arith)))
