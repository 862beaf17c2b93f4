-- The widest of the first tasks of a graph.
use Rattle.std.proofs.Common.{◌≡◌, ◌∙◌, ℕ, zero, suc, ◌+◌, ◌<◌, ◌≤◌, max, List, [], ◌∷◌, length, Option, Some, None, slice_get, slice_index_or, ◌++◌, sym, ap, subst, refl, arith, Vec, Global, length-append}
use Rattle.std.proofs.lemmas.Option.{slice_get_within, get_or_from_slice_get}
use mathlib.Core.Logic.{dite}
use native.Mathlib.Decide.{ℕ_discrete}
use Rattle.graph_model.specs.Graph.{Graph, IsTask, IsLawful}
use Rattle.graph_model.proofs.Members.{is_member}
use Rattle.core_state.specs.Shapes.{IsWidest, IsLayoutOf, words_of}

-- the number is the least that is at least 1 and at least what each of the first i tasks needs
pub record WidestOf (g : Graph) (i n : ℕ) : Type 0 where
  pub some_word : 1 ≤ n
  pub enough : (j k : ℕ) → j < i → slice_get g.keys j ≡ Some k → words_of g k ≤ n
  pub least : (m : ℕ) → 1 ≤ m → ((k : ℕ) → IsTask g k → words_of g k ≤ m) → n ≤ m

same_some : (x y : ℕ) → Some x ≡ Some y → x ≡ y
same_some x y e = ap inside e
  where
    inside : Option ℕ → ℕ
    inside None = x
    inside (Some z) = z

task_here : (xs : List ℕ) (i k : ℕ) → i < length xs → slice_index_or xs i k ≡ k → slice_get xs i ≡ Some k
task_here [] i k low at = absurd (omega (arith, low))
task_here (x ∷ xs) zero k low at = ap Some at
task_here (x ∷ xs) (suc i) k low at = task_here xs i k (omega (arith, low)) at

-- what stands at a place of the list is a task
pub is_task : (g : Graph) (i k : ℕ) → slice_get g.keys i ≡ Some k → IsTask g k
is_task g i k at = (i, slice_get_within g.keys i k at, get_or_from_slice_get g.keys i k k at)

-- the first task needs no more than one word, and each needs what the next step finds
pub widest_none : (g : Graph) → WidestOf g 0 1
widest_none g = record { some_word = omega arith; enough = λ j k low at. absurd (omega (arith, low)); least = λ m some all. some }

pub widest_more : (g : Graph) (i n k w : ℕ) → slice_get g.keys i ≡ Some k → w ≡ words_of g k → WidestOf g i n → WidestOf g (i + 1) (max w n)
widest_more g i n k w at is old = record {
  some_word = let a = old.some_word in omega (arith, a);
  enough = λ j x low here. dite (ℕ_discrete j i)
      (λ e. let y : x ≡ k = same_some x k (sym here ∙ ap (slice_get g.keys) e ∙ at) in let a = ap (words_of g) y in omega (arith, a, is))
      (λ ne. let a = old.enough j x (omega (arith, low, ne)) here in omega (arith, a));
  least = λ m some all. let a = old.least m some all in let b = all k (is_task g i k at) in omega (arith, a, b, is);
}

-- all tasks were met
pub widest_whole : (g : Graph) (n : ℕ) → WidestOf g (length g.keys) n → IsWidest g n
widest_whole g n all = record {
  some_word = all.some_word;
  enough = λ k has. all.enough has.0 k has.1 (task_here g.keys has.0 k has.1 has.2);
  least = all.least;
}

-- the sink is a task
pub sink_task : (g : Graph) (k : ℕ) → k ≡ g.sink → IsLawful g → IsTask g k
sink_task g k is laws = subst (IsTask g) (sym is) (is_member g.keys g.sink laws.sink)

pushed_before : (xs : List ℕ) (x b : ℕ) → b < length xs → slice_get (xs ++ x ∷ []) b ≡ slice_get xs b
pushed_before [] x b low = absurd (omega (arith, low))
pushed_before (y ∷ xs) x zero low = refl
pushed_before (y ∷ xs) x (suc b) low = pushed_before xs x b (omega (arith, low))

-- a list of the cells so far, and the root's
pub pushed : (xs : List ℕ) (x n b : ℕ) (f : ℕ → ℕ) → length xs ≡ n → ((i : ℕ) → i < n → slice_get xs i ≡ Some (f i)) → b < n → slice_get (xs ++ x ∷ []) b ≡ Some (f b)
pushed xs x n b f is all low = pushed_before xs x b (omega (arith, is, low)) ∙ all b low

pub pushed_last : (xs : List ℕ) (x n : ℕ) → length xs ≡ n → slice_get (xs ++ x ∷ []) n ≡ Some x
pushed_last [] x n is = ap (slice_get (x ∷ [])) (sym is)
pushed_last (y ∷ xs) x zero is = absurd (omega (arith, is))
pushed_last (y ∷ xs) x (suc n) is = pushed_last xs x n (omega (arith, is))

-- all parts of a layout are there
pub filled : (g : Graph) (rows n blocks root : ℕ) (cells : List ℕ) (all : Vec ℕ Global) → rows ≡ length g.keys → IsWidest g n → blocks ≡ g.block_count → root ≡ g.cells (g.block g.sink)
    → length cells ≡ blocks → ((b : ℕ) → b < blocks → slice_get cells b ≡ Some (g.cells b)) → all.items ≡ cells ++ root ∷ [] → IsLayoutOf g record { rows = rows + 1; words_per_row = n; cells = all }
filled g rows n blocks root cells all row_is wide block_is root_is long each are = record {
  rows = ap (λ x. x + 1) row_is;
  widest = wide;
  blocks = ap length are ∙ length-append cells (root ∷ []) ∙ (let a : length cells ≡ g.block_count = long ∙ block_is in ap (λ x. x + 1) a);
  cells = λ b low. ap (λ xs. slice_get xs b) are ∙ pushed cells root blocks b g.cells long each (subst (λ x. b < x) (sym block_is) low);
  root_cells = ap (λ xs. slice_get xs g.block_count) are ∙ pushed_last cells root g.block_count (long ∙ block_is) ∙ ap Some root_is;
}
