-- Values of the formulas, which do not wrap here.
use Rattle.std.proofs.Common.{◌≡◌, ◌∙◌, ℕ, ◌+◌, ◌-◌, ◌^◌, ◌<◌, ◌≤◌, ℤ, pos, List, [], ◌∷◌, ◌++◌, map, refl, ap, sym, arith}
use Rattle.std.specs.List.{flat_map}
use Rattle.std.specs.Int.{w64, int_wrapping_add, int_wrapping_sub}
use Rattle.std.proofs.lemmas.Int.{ints}
use Rattle.formula_text.specs.Trees.{value_of}
use Rattle.drill_input.specs.Drill.{later_tree, next_tree, last_tree}

pub add_small : (a b : ℕ) → a + b < 2 ^ 63 → int_wrapping_add w64 (pos a) (pos b) ≡ pos (a + b)
add_small a b small = omega (arith, ints)

pub sub_small : (a b : ℕ) → b ≤ a → a < 2 ^ 63 → int_wrapping_sub w64 (pos a) (pos b) ≡ pos (a - b)
sub_small a b le small = omega (arith, ints)

pub last_sum : (a b v : ℕ) → a + b < 2 ^ 63 → v ≡ a + b → value_of last_tree (pos a ∷ pos b ∷ []) ≡ pos v
last_sum a b v small e = add_small a b small ∙ ap pos (sym e)

pub next_sum : (a v : ℕ) → a + 1 < 2 ^ 63 → v ≡ a + 1 → value_of next_tree (pos a ∷ []) ≡ pos v
next_sum a v small e = add_small a 1 small ∙ ap pos (sym e)

pub later_sum : (a b c d e v : ℕ) → a + b + d < 2 ^ 62 → c + e ≤ a + b + 1 + d → c ≤ a + b → v + e + c ≡ a + b + 1 + d → value_of (later_tree d e) (pos a ∷ pos b ∷ pos c ∷ []) ≡ pos v
later_sum a b c d e v small low first is =
    rw (add_small a b (omega arith), sub_small (a + b) c first (omega arith), add_small (a + b - c) 1 (omega arith), add_small (a + b - c + 1) d (omega arith), sub_small (a + b - c + 1 + d) e (omega arith) (omega arith))
    (ap pos (let h : a + b - c + 1 + d - e ≡ v = omega arith in h))

-- ---- the cells of lists of one

pub cells_one : (W : ℕ → List ℤ) (a : ℕ) (x : ℤ) → W a ≡ x ∷ [] → flat_map (λ (cells : List ℤ). cells) (map W (a ∷ [])) ≡ x ∷ []
cells_one W a x at_a = rw at_a refl

pub cells_two : (W : ℕ → List ℤ) (a b : ℕ) (x y : ℤ) → W a ≡ x ∷ [] → W b ≡ y ∷ [] → flat_map (λ (cells : List ℤ). cells) (map W (a ∷ b ∷ [])) ≡ x ∷ y ∷ []
cells_two W a b x y at_a at_b = ap (λ (l : List ℤ). l ++ (W b ++ [])) at_a ∙ ap (λ (l : List ℤ). x ∷ (l ++ [])) at_b

pub cells_three : (W : ℕ → List ℤ) (a b c : ℕ) (x y z : ℤ) → W a ≡ x ∷ [] → W b ≡ y ∷ [] → W c ≡ z ∷ [] → flat_map (λ (cells : List ℤ). cells) (map W (a ∷ b ∷ c ∷ [])) ≡ x ∷ y ∷ z ∷ []
cells_three W a b c x y z at_a at_b at_c =
    ap (λ (l : List ℤ). l ++ (W b ++ (W c ++ []))) at_a ∙ (ap (λ (l : List ℤ). x ∷ (l ++ (W c ++ []))) at_b ∙ ap (λ (l : List ℤ). x ∷ y ∷ (l ++ [])) at_c)
