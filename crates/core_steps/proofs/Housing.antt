-- Where the blocks of a plain table are, and how many cells each has.
use Rattle.std.proofs.Common.{◌≡◌, ℕ, ◌+◌, ◌<◌, false, List, [], ◌∷◌, ◌++◌, length, get_or, arith, sym, ap, ◌∙◌, subst, Option, Some, None}
use Rattle.std.proofs.lemmas.List.{get_or_append_left, get_or_push, length_push}
use mathlib.Core.Logic.{dite}
use native.Mathlib.Decide.{ℕ_discrete}
use Rattle.core_state.specs.Graph.{Setting}
use Rattle.core_state.specs.Words.{Shape}
use Rattle.core_state.specs.Counts.{in_hand, total_of}
use Rattle.core_state.specs.Change.{block_of}
use Rattle.core_state.specs.declared.block.BlockCells.{BlockCells}
use Rattle.core_state.specs.declared.views.View.{View}
use Rattle.core_steps.proofs.Growing.{unwritten_more}
use Rattle.core_steps.specs.Seat.{cells_in}
use Rattle.core_steps.specs.Table.{IsHoused, IsFilled, IsUnwritten, home_at}

-- the views have the same blocks in hand as before
pub housed_same : (e : Setting) (h : Shape) (bs : List (Option BlockCells)) (vs us : List View) → ((b : ℕ) → total_of us (in_hand b) ≡ total_of vs (in_hand b)) → ((b : ℕ) → block_of (home_at bs) us b ≡ block_of (home_at bs) vs b) → IsHoused e h bs vs → IsHoused e h bs us
housed_same e h bs vs us hands blocks i = record {
  many = i.many;
  away = λ b low none. let a = i.away b low none in let c = hands b in omega (arith, a, c);
  within = λ b some. i.within b (let c = hands b in omega (arith, c, some));
  sized = λ b low. ap (λ (x : BlockCells). length x.cells) (blocks b) ∙ i.sized b low;
}

-- one block more, with its cells
pub filled_more : (cells : List ℕ) (bs : List (Option BlockCells)) (x : BlockCells) (n : ℕ) → length bs ≡ n → length x.cells ≡ get_or cells n 0 → IsFilled cells bs → IsFilled cells (bs ++ Some x ∷ [])
filled_more cells bs x n long fits all b low = dite (ℕ_discrete b n)
    (λ q. (x, get_or_push bs (Some x) None b (long ∙ sym q), fits ∙ ap (λ m. get_or cells m 0) (sym q)))
    (λ ne. let under : b < length bs = let a : length (bs ++ Some x ∷ []) ≡ length bs + 1 = length_push bs (Some x) in omega (arith, a, low, ne, long) in let old = all b under in (old.0, get_or_append_left bs (Some x ∷ []) None b under ∙ old.1, old.2))

-- one block more that was never written
pub more_blocks : (cells : List ℕ) (bs new : List (Option BlockCells)) (x : BlockCells) (n : ℕ) → new ≡ bs ++ Some x ∷ [] → x.tag ≡ 0 → x.struck ≡ false → length x.cells ≡ get_or cells n 0 → (length bs ≡ n) × IsUnwritten bs × IsFilled cells bs → (length new ≡ n + 1) × IsUnwritten new × IsFilled cells new
more_blocks cells bs new x n is tag struck fits old = (
  ap length is ∙ length_push bs (Some x) ∙ ap (λ m. m + 1) old.0,
  subst IsUnwritten (sym is) (unwritten_more bs x tag struck old.1),
  subst (IsFilled cells) (sym is) (filled_more cells bs x n old.0 fits old.2),
)

-- all blocks are at home, with the cells of the graph
pub housed_first : (e : Setting) (h : Shape) (cells : List ℕ) (bs : List (Option BlockCells)) (vs : List View) → length bs ≡ h.blocks → IsFilled cells bs → ((b : ℕ) → b < length bs → get_or cells b 0 ≡ e.graph.cells b) → ((b : ℕ) → total_of vs (in_hand b) ≡ 0)
    → ((b : ℕ) → block_of (home_at bs) vs b ≡ home_at bs b) → IsHoused e h bs vs
housed_first e h cells bs vs many filled is free here = record {
  many = many;
  away = λ b low none. let x = filled b (omega (arith, low, many)) in absurd (let q : None ≡ Some x.0 = sym none ∙ x.1 in cc);
  within = λ b some. absurd (let a = free b in omega (arith, a, some));
  sized = λ b low. let under : b < length bs = omega (arith, low, many) in let x = filled b under in ap (λ (y : BlockCells). length y.cells) (here b ∙ ap cells_in x.1) ∙ x.2 ∙ is b under;
}
