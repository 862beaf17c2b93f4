-- What the last pass of a shared table leaves.
use Rattle.std.proofs.Common.{◌≡◌, ◌≢◌, ℕ, zero, suc, ◌+◌, ◌<◌, ◌≤◌, ◌&&◌, Bool, true, false, cond, eqb, eq-eqb, ne_eqb, List, [], ◌∷◌, ◌++◌, length, length-set, get_or, get_or-set_same, get_or-set_other, set, arith, sym, ap, refl, ◌∙◌, subst, Option, Some, None}
use Rattle.std.proofs.lemmas.Bool.{lt-ltb}
use Rattle.std.proofs.lemmas.List.{get_or_append_left, get_or_default, get_or_past, get_or_push, length-map, same_lists}
use mathlib.Core.Logic.{dite}
use native.Mathlib.Decide.{ℕ_discrete, dec_lt}
use mathlib.Core.Option.{some, some-injective, some-ne-none}
use lib.ListN.{get_elem?}
use Rattle.atomic_table.specs.Table.{Final, Seen}
use Rattle.core_state.specs.Graph.{Setting}
use Rattle.core_state.specs.Words.{place_of, turn}
use Rattle.core_state.specs.Counts.{in_hand, noted, total_of}
use Rattle.core_state.specs.Views.{all_parts, blank}
use Rattle.core_state.specs.declared.block.BlockCells.{BlockCells}
use Rattle.core_state.specs.declared.views.View.{View}
use Rattle.graph_model.specs.declared.record.Record.{Record}
use Rattle.core_state.proofs.Base.Words.{read_at}
use Rattle.core_state.proofs.Seats.Lists.{only_seat}
use Rattle.core_steps.specs.Table.{FitsCells, IsClosing, Keeps, Stored, home_at, is_kept, is_root_replaced}
use Rattle.core_steps.proofs.Rooting.{root_fits}
use Rattle.task_table.specs.Kept.{Board, Kept, blocks_in, plain_of}
use Rattle.task_table.specs.Ends.{IsLast}
use Rattle.task_table.proofs.Boards.{at_or, home_there}

-- sums over views of which only one adds
none_total : (vs : List View) (f : View → ℕ) → ((j : ℕ) (w : View) → get_elem? vs j ≡ some w → f w ≡ 0) → total_of vs f ≡ 0
unfolding total_of
none_total [] f none = refl
none_total (v ∷ vs) f none = let a = none 0 v refl in let b = none_total vs f (λ j w there. none (suc j) w there) in omega (arith, a, b)

pub only_total : (vs : List View) (i : ℕ) (v : View) (f : View → ℕ) → get_elem? vs i ≡ some v → ((j : ℕ) (w : View) → j ≢ i → get_elem? vs j ≡ some w → f w ≡ 0) → total_of vs f ≡ f v
unfolding total_of
only_total [] i v f here none = absurd (some-ne-none v (sym here))
only_total (x ∷ xs) zero v f here none = let a : f x ≡ f v = ap f (some-injective x v here) in let b = none_total xs f (λ j w there. none (suc j) w (λ q. absurd (omega (arith, q))) there) in omega (arith, a, b)
only_total (x ∷ xs) (suc i) v f here none = let a = none 0 x (λ q. absurd (omega (arith, q))) refl in let b = only_total xs i v f here (λ j w apart there. none (suc j) w (λ q. apart (omega (arith, q))) there) in omega (arith, a, b)

-- a table at its end: some table that kept its rule had these words, and its seat this view
pub record IsEnd (e : Setting) (v : View) (ws : List ℕ) (slots : List (Option BlockCells)) : Type 0 where
  pub board : Board
  pub kept : Kept e board
  pub seat : ℕ
  pub here : get_elem? board.views seat ≡ some v
  pub words_are : board.words ≡ ws
  pub many : length board.homes ≡ length slots
  pub at_home : (b : ℕ) (x : Option BlockCells) → get_elem? board.homes b ≡ some (some x) → get_elem? slots b ≡ some x

pub end_of : (e : Setting) (id : ℕ) (v : View) (ws : List ℕ) (slots : List (Option BlockCells)) → Final (Seen (Kept e) id v) ws slots → IsEnd e v ws slots
end_of e id v ws slots f = record { board = f.0; kept = f.1.0; seat = id; here = f.1.1; words_are = f.2; many = f.3; at_home = f.4 }

module _ (e : Setting) (v : View) (ws : List ℕ) (slots : List (Option BlockCells)) (end : IsEnd e v ws slots) where
  s : Board
  s = end.board

  abbrev bs : List (Option BlockCells)
  bs = blocks_in end.board.homes

  -- the blocks that are read by their turn words are those at home
  module _ (turns : ℕ) (is_turn : turns ≡ place_of e.shape (turn 0)) (found : List (Option BlockCells)) (long : length found ≡ length slots) (each : (b : ℕ) → b < length slots → get_or found b None ≡ cond (eqb (get_or ws (turns + b) 0) 0) (get_or slots b None) None) where
    homes_many : length slots ≡ e.shape.blocks
    homes_many = sym end.many ∙ sym (length-map end.board.homes Rattle.task_table.specs.Kept.at_rest) ∙ end.kept.sound.housed.many

    turn_word : (b : ℕ) → b < e.shape.blocks → get_or ws (turns + b) 0 ≡ total_of end.board.views (in_hand b)
    turn_word b low = let a : turns + b ≡ place_of e.shape (turn b) = omega (arith, is_turn) in
        ap (λ n. get_or ws n 0) a ∙ ap (λ o. get_or o (place_of e.shape (turn b)) 0) (sym end.words_are) ∙ sym (read_at e.shape end.board.words (turn b) (lt-ltb b e.shape.blocks low)) ∙ (end.kept.sound.holds.blocks.each b low).taken

    each_home : (b : ℕ) → b < length slots → get_or found b None ≡ get_or (blocks_in end.board.homes) b None
    each_home b low = by (get_or (blocks_in end.board.homes) b None) refl
      where
        under : b < e.shape.blocks
        under = let a = homes_many in omega (arith, a, low)

        by : (y : Option BlockCells) → get_or (blocks_in end.board.homes) b None ≡ y → get_or found b None ≡ y
        by None q = each b low ∙ ap (λ (t : Bool). cond t (get_or slots b None) None) (ne_eqb (get_or ws (turns + b) 0) 0 (λ z. let a = end.kept.sound.housed.away b under q in let f = turn_word b under in omega (arith, a, f, z)))
        by (Some x) q = each b low ∙ ap (λ (t : Bool). cond t (get_or slots b None) None) (eq-eqb (get_or ws (turns + b) 0) 0 (turn_word b under ∙ end.kept.sound.at_home b x q)) ∙ at_or slots b (Some x) None (end.at_home b (Some x) (home_there end.board.homes b x q))

    pub found_homes : found ≡ blocks_in end.board.homes
    found_homes = same_lists found (blocks_in end.board.homes) (long ∙ sym end.many ∙ sym (length-map end.board.homes Rattle.task_table.specs.Kept.at_rest))
        (λ b d low. get_or_default found b d None low ∙ each_home b (subst (λ n. b < n) long low) ∙ get_or_default (blocks_in end.board.homes) b None d (let a = length-map end.board.homes Rattle.task_table.specs.Kept.at_rest in let f = end.many in omega (arith, a, f, long, low)))

    -- the last block is the root's, and fits the room
    pub last_is : length found ≡ e.graph.block e.graph.root + 1
    last_is = let a = homes_many in let b = end.kept.sound.root_last in omega (arith, a, b, long)

    pub root_room : (room : ℕ) → room ≡ e.graph.cells (e.graph.block e.graph.root) → FitsCells (home_at found (e.graph.block e.graph.root)) room
    root_room room is = subst (λ (o : List (Option BlockCells) × ℕ). FitsCells (home_at o.0 (e.graph.block e.graph.root)) o.1) (λ j. (sym found_homes j, sym is j)) (root_fits e (plain_of e end.board) end.kept.sound)

    -- the views of the table are such views
    module _ (whole : v.parts ≡ all_parts) (store : Stored) (rs : List Record) (keeps : Keeps e.graph.root (v ∷ []) (store ∷ []) rs) where
      alone : (i : ℕ) (w : View) → i ≢ end.seat → get_elem? end.board.views i ≡ some w → w ≡ blank
      alone i w apart there = only_seat end.board.views end.kept.seats end.seat v end.here whole i w apart there

      all_noted : (t : Record → Bool) → total_of end.board.views (noted t) ≡ noted t v
      all_noted t = only_total end.board.views end.seat v (noted t) end.here (λ i w apart there. ap (noted t) (alone i w apart there))

      others_kept : (q : Record → Bool) → Rattle.core_state.specs.Counts.count q store.records ≡ total_of end.board.views (noted (λ x. q x && is_kept e.graph.root x))
      unfolding total_of
      others_kept q = let a = keeps.others q in let b = all_noted (λ x. q x && is_kept e.graph.root x) in omega (arith, a, b)

      replaced_kept : (q : Record → Bool) → Rattle.core_state.specs.Counts.count q rs ≡ total_of end.board.views (noted (λ x. q x && is_root_replaced e.graph.root x))
      unfolding total_of
      replaced_kept q = let a = keeps.replaced q in let b = all_noted (λ x. q x && is_root_replaced e.graph.root x) in omega (arith, a, b)

      pub closes : IsLast e v ws found store.records rs
      closes = record {
        views = end.board.views;
        alone = record { seat = end.seat; here = end.here; others = alone };
        closing = subst (λ (o : List ℕ × List (Option BlockCells)). IsClosing e end.board.views o.0 o.1 store.records rs) (λ j. (end.words_are j, sym found_homes j)) record {
          setting = end.kept.sound.setting;
          fits = end.kept.sound.fits;
          holds = end.kept.sound.holds;
          passed = end.kept.sound.passed;
          prevented = end.kept.sound.prevented;
          at_home = end.kept.sound.at_home;
          housed = end.kept.sound.housed;
          others = others_kept;
          replaced = replaced_kept;
        };
      }

-- the words and blocks that were copied of a closed table
pub record IsCopied (e : Setting) (v : View) (ws : List ℕ) (found : List (Option BlockCells)) : Type 0 where
  pub last : length found ≡ e.graph.block e.graph.root + 1
  pub room : (n : ℕ) → n ≡ e.graph.cells (e.graph.block e.graph.root) → FitsCells (home_at found (e.graph.block e.graph.root)) n
  pub views : v.parts ≡ all_parts → (store : Stored) (rs : List Record) → Keeps e.graph.root (v ∷ []) (store ∷ []) rs → IsLast e v ws found store.records rs

module _ (e : Setting) (id : ℕ) (v : View) (xs : List ℕ) (slots : List (Option BlockCells)) (f : Final (Seen (Kept e) id v) xs slots) (turns : ℕ) (is_turn : turns ≡ place_of e.shape (turn 0)) where
  end : IsEnd e v xs slots
  end = end_of e id v xs slots f

  -- the turn words are words of the table
  pub turns_fit : (n : ℕ) → length slots ≡ n → turns + n ≤ length xs
  turns_fit n many = let a = end.kept.sound.fits in let b = ap length end.words_are in let c = length-map end.board.homes Rattle.task_table.specs.Kept.at_rest in let d = end.kept.sound.housed.many in let g = end.many in omega (arith, a, b, c, d, g, many, is_turn)

  pub copied_of : (found : List (Option BlockCells)) (n : ℕ) → length slots ≡ n → length found ≡ n → (ws : List ℕ) → ws ≡ xs → ((b : ℕ) → b < n → get_or found b None ≡ cond (eqb (get_or ws (turns + b) 0) 0) (get_or slots b None) None) → IsCopied e v ws found
  copied_of found n many long ws same each = subst (λ o. IsCopied e v o found) (sym same)
      (let all : (b : ℕ) → b < length slots → get_or found b None ≡ cond (eqb (get_or xs (turns + b) 0) 0) (get_or slots b None) None = λ b low. each b (subst (λ m. b < m) many low) ∙ ap (λ (o : List ℕ). cond (eqb (get_or o (turns + b) 0) 0) (get_or slots b None) None) same in
      let as_many : length found ≡ length slots = long ∙ sym many in record {
        last = last_is e v xs slots end turns is_turn found as_many all;
        room = root_room e v xs slots end turns is_turn found as_many all;
        views = closes e v xs slots end turns is_turn found as_many all;
      })

-- one slot more was emptied
pub left_more : (fs gs : List Bool) (i n m : ℕ) → gs ≡ set fs i false → m ≡ n → ((k : ℕ) → i ≤ k → k < n → get_or fs k false ≡ true) → (k : ℕ) → i + 1 ≤ k → k < m → get_or gs k false ≡ true
left_more fs gs i n m is same all k low high = ap (λ xs. get_or xs k false) is ∙ get_or-set_other fs i k false false (λ q. absurd (omega (arith, q, low))) ∙ all k (omega (arith, low)) (omega (arith, high, same))

pub gone_more : (fs gs : List Bool) (i : ℕ) → gs ≡ set fs i false → ((k : ℕ) → k < i → get_or fs k false ≡ false) → (k : ℕ) → k < i + 1 → get_or gs k false ≡ false
gone_more fs gs i is all k low = ap (λ xs. get_or xs k false) is ∙ dite (ℕ_discrete k i)
    (λ q. ap (λ n. get_or (set fs i false) n false) q ∙ dite (dec_lt i (length fs)) (λ l. get_or-set_same fs i false false l) (λ m. get_or_past (set fs i false) i false (let a = length-set fs i false in omega (arith, a, m))))
    (λ ne. get_or-set_other fs i k false false ne ∙ all k (omega (arith, low, ne)))

-- and one block more was read
pub home_more : (ws : List ℕ) (turns i : ℕ) (old new slots more : List (Option BlockCells)) (x : Option BlockCells) → new ≡ old ++ cond (eqb (get_or ws (turns + i) 0) 0) x None ∷ [] → length old ≡ i → more ≡ slots → get_elem? slots i ≡ some x → ((b : ℕ) → b < i → get_or old b None ≡ cond (eqb (get_or ws (turns + b) 0) 0) (get_or slots b None) None)
    → (b : ℕ) → b < i + 1 → get_or new b None ≡ cond (eqb (get_or ws (turns + b) 0) 0) (get_or more b None) None
home_more ws turns i old new slots more x is long same there all b low = ap (λ (xs : List (Option BlockCells)). get_or xs b None) is ∙ dite (ℕ_discrete b i)
    (λ q. subst (λ (n : ℕ). get_or (old ++ cond (eqb (get_or ws (turns + i) 0) 0) x None ∷ []) n None ≡ cond (eqb (get_or ws (turns + n) 0) 0) (get_or more n None) None) (sym q)
    (get_or_push old (cond (eqb (get_or ws (turns + i) 0) 0) x None) None i long ∙ ap (λ (y : Option BlockCells). cond (eqb (get_or ws (turns + i) 0) 0) y None) (sym (ap (λ (xs : List (Option BlockCells)). get_or xs i None) same ∙ at_or slots i x None there))))
    (λ ne. get_or_append_left old (cond (eqb (get_or ws (turns + i) 0) 0) x None ∷ []) None b (omega (arith, low, ne, long)) ∙ all b (omega (arith, low, ne)) ∙ ap (λ (xs : List (Option BlockCells)). cond (eqb (get_or ws (turns + b) 0) 0) (get_or xs b None) None) (sym same))

-- one word more was copied
pub words_more : (ws xs : List ℕ) (i n : ℕ) → i < length ws → get_elem? xs i ≡ some n → ((k : ℕ) → k < i → get_or ws k 0 ≡ get_or xs k 0) → (k : ℕ) → k < i + 1 → get_or (set ws i n) k 0 ≡ get_or xs k 0
words_more ws xs i n within there all k low = dite (ℕ_discrete k i)
    (λ q. subst (λ m. get_or (set ws i n) m 0 ≡ get_or xs m 0) (sym q) (get_or-set_same ws i n 0 within ∙ sym (at_or xs i n 0 there)))
    (λ ne. get_or-set_other ws i k n 0 ne ∙ all k (omega (arith, low, ne)))
