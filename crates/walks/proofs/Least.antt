-- The tiles of a matrix after all rounds hold the least weights of its walks.
use Rattle.std.proofs.Common.{negsuc, inl, inr, ap, ◌≢◌, ◌≡◌, ℕ, ◌+◌, ◌*◌, ◌<◌, ◌≤◌, ℤ, pos, ◌≤ℤ◌, List, [], ◌∷◌, length, Option, sym, subst, arith}
use Rattle.std.specs.List.{range_with_len}
use Rattle.std.proofs.lemmas.Bool.{cases_eq}
use Rattle.std.proofs.lemmas.Int.{ints}
use Rattle.std.proofs.lemmas.List.FromFn.{length-range_with_len}
use Rattle.lane_kernels.specs.MinPlus.{none as no_way}
use Rattle.path_tasks.specs.Paths.{tiles_of}
use Rattle.apsp_graph.specs.Blocked.{edge}
use Rattle.apsp_graph.specs.Matrices.{Matrix, IsMatrix}
use Rattle.apsp_graph.proofs.WritingLemmas.{wide_enough}
use Rattle.walks.specs.Floyd.{floyd}
use Rattle.walks.specs.Walks.{weight_or_zero, LeadsTo, walk_weight, IsLeast, HasLeast}
use Rattle.walks.proofs.Edges.{AreItems, edges_are, step_is}
use Rattle.walks.proofs.Items.{items_are, sized}
use Rattle.walks.proofs.Shorter.{IsIn, EachOf, in_numbers, shorten}
use Rattle.walks.proofs.Ways.{reached, no_longer}
use Rattle.walks.proofs.Whole.{closure_is}

-- each vertex behind the first is one of the n
all_inside : (n : ℕ) (ws : List (Option ℕ)) (u v : ℕ) (xs : List ℕ) → LeadsTo n ws u xs v → EachOf (λ x. IsIn x (range_with_len 0 n)) xs
all_inside n ws u v [] leads = tt
all_inside n ws u v (x ∷ xs) ((w, e), leads) =
    let step = step_is n ws u x w e in
    (in_numbers 0 n x (omega arith) (omega (arith, step.to)), all_inside n ws x v xs leads)

-- a walk of few edges is light
light_walk : (n : ℕ) (ws : List (Option ℕ)) (u v : ℕ) (xs : List ℕ) → AreItems n ws → LeadsTo n ws u xs v → walk_weight n ws u xs ≤ length xs * 2147483647
light_walk n ws u v [] items leads = omega arith
light_walk n ws u v (x ∷ xs) items ((w, e), leads) =
    let step = step_is n ws u x w e in
    let light : w ≤ 2147483647 = items.light (u * n + x) w step.item in
    let rest = light_walk n ws x v xs items leads in
    let weight : walk_weight n ws u (x ∷ xs) ≡ w + walk_weight n ws x xs = ap (λ o. weight_or_zero o + walk_weight n ws x xs) e in
    omega (arith, light, rest, weight)

too_light : (z : ℤ) (w : ℕ) → z ≡ no_way → z ≤ℤ pos w → w < 1099511627776 → ⊥
too_light z w e le lt = grind (arith, ints, e)

none_else : (z : ℤ) → (z ≢ no_way → ⊥) → z ≡ no_way
none_else (pos n) h = elim (cases_eq n 9223372036854775807) [
  | inl e ↦ ap pos e
  | inr ne ↦ absurd (h (λ e. ne (cc)))
]
none_else (negsuc n) h = absurd (h (λ e. cc))

pub is_least : (n : ℕ) (ws : List (Option ℕ)) (m u v : ℕ) → AreItems n ws → n ≤ 512 → n ≤ m → u < n → IsLeast n ws u v (floyd (edge n ws) m u v)
is_least n ws m u v items few wide lu =
    let h = edges_are n ws items in
    let z = floyd (edge n ws) m u v in
    record {
      reached = reached n ws m u v h;
      least = λ xs leads. no_longer n ws m u v xs h wide leads;
      no_walk = (
        λ e xs leads.
            let long = length-range_with_len 0 n in
            let short = shorten n ws n (range_with_len 0 n) u v xs (omega (arith, long)) (in_numbers 0 n u (omega arith) (omega arith)) (all_inside n ws u v xs leads) leads in
            let fewer : length short.0 < n = short.2 in
            let light = light_walk n ws u v short.0 items short.1 in
            too_light z (walk_weight n ws u short.0) e (no_longer n ws m u v short.0 h wide short.1) (omega (arith, light, fewer)),
        λ none. none_else z (λ ne. let way = reached n ws m u v h ne in none way.0 way.1),
      );
    }

pub has_least : (text : List ℕ) (m : Matrix) → IsMatrix text m → HasLeast m
has_least text m is i j li lj =
    let items = items_are text m is in
    let size = sized m.n m.side is.size in
    let enough = wide_enough m.n m.side size.wide in
    let whole = tiles_of m.n m.side * m.side in
    subst (IsLeast m.n m.weights i j) (sym (closure_is m.n m.side m.weights i j size.wide (edges_are m.n m.weights items) (omega (arith, enough)) (omega (arith, enough))))
    (is_least m.n m.weights whole i j items size.few enough li)
