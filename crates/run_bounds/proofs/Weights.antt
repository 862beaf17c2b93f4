-- No step lets the suspects among the lines weigh less, but for an election.
use Rattle.std.proofs.Common.{◌≡◌, ℕ, ◌+◌, ◌≤◌, Bool, true, false, cond, ◌&&◌, eqb, List, [], ◌∷◌, arith, refl, ap, subst, sym}
use Rattle.graph_model.specs.declared.record.Cause.TheVariants as cause
use Rattle.core_state.specs.Effects.{blamed_items, claim_of, loaded_items, moved_items, read_items, registered_of, skipped_items, told_of}
use Rattle.core_state.specs.Events.{Event}
use Rattle.core_state.specs.Events.Event.{claim, look, load_descriptor, load_notify, load_recovery, register, spend, close, elect, renew_notify, renew_descriptor, finish, post, take, drop_credit, give_read, give_written}
use Rattle.core_state.specs.Graph.{Graph, Plan, Setting}
use Rattle.core_state.specs.Lines.{Line, change_first, claimed_lines, credit, dropped, flat, looked_lines, of, onto, registered_lines, told_lines}
use Rattle.core_state.specs.Outcome.{lines_left}
use Rattle.core_state.specs.Words.{closed_bit, life_of, mark_of}
use Rattle.core_state.specs.declared.answers.Claim.{Claim}
use Rattle.core_state.specs.declared.answers.Claim.TheVariants as claimed
use Rattle.core_state.specs.declared.answers.Registered.{Registered}
use Rattle.core_state.specs.declared.answers.Registered.TheVariants as registered
use Rattle.core_state.specs.declared.answers.Told.{Told}
use Rattle.core_state.specs.declared.answers.Told.TheVariants as told
use Rattle.core_state.specs.declared.block.BlockCells.{BlockCells}
use Rattle.core_state.specs.declared.views.Item.{Item as Piece}
use Rattle.core_state.specs.declared.views.Item.TheVariants as line
use Rattle.core_state.specs.declared.views.Known.{Known}
use Rattle.core_state.specs.declared.views.View.{View}
use Rattle.run_bounds.specs.Light.{lines_weight, piece_weight, pieces_weight}
use Rattle.run_bounds.proofs.Storm.Sorts.{Plain}

module _ (e : Setting) where
  onto_weighs : (xs : List Piece) (b : List Line) → lines_weight e (onto xs b) ≡ pieces_weight e xs + lines_weight e b
  onto_weighs [] b = omega arith
  onto_weighs (x ∷ xs) b = let a = onto_weighs xs b in omega (arith, a)

  -- what becomes of the first item weighs no less
  abbrev Keeps : (List Piece → List Piece) → Type 0
  Keeps f = (x : Piece) → piece_weight e x ≤ pieces_weight e (f (x ∷ []))

  pub first_more : (f : List Piece → List Piece) → Keeps f → (ls : List Line) → lines_weight e ls ≤ lines_weight e (change_first f ls)
  first_more f keeps [] = omega arith
  first_more f keeps (credit ∷ b) = let a = onto_weighs (f []) (credit ∷ b) in omega (arith, a)
  first_more f keeps (of x ∷ b) = let a = onto_weighs (f (x ∷ [])) b in let c = keeps x in omega (arith, a, c)

  -- a choice of two that weigh no less
  either_more : (n : ℕ) (b : Bool) (xs ys : List Piece) → n ≤ pieces_weight e xs → n ≤ pieces_weight e ys → n ≤ pieces_weight e (cond b xs ys)
  either_more n true xs ys a c = a
  either_more n false xs ys a c = c

  pub moved_keeps : (g : Graph) → Keeps (moved_items g)
  moved_keeps g (line.Suspect k l c waits) = omega arith
  moved_keeps g x = omega arith

  skipped_keeps : (g : Graph) (rows r : ℕ) (known : List Known) → Keeps (skipped_items g rows r known)
  skipped_keeps g rows r known (line.Suspect k l c waits) = omega arith
  skipped_keeps g rows r known x = omega arith

  loaded_keeps : (g : Graph) (p : Plan) (made : List ℕ) (k n : ℕ) → Keeps (loaded_items g p made k n)
  loaded_keeps g p made k n (line.Suspect a l c waits) = omega arith
  loaded_keeps g p made k n x = omega arith

  blamed_keeps : (g : Graph) (k n : ℕ) → Keeps (blamed_items g k n)
  blamed_keeps g k n (line.Suspect a l (cause.Block b v f) waits) =
      either_more (piece_weight e (line.Suspect a l (cause.Block b v f) waits)) (eqb k (g.writer b v) && cond (eqb k a) false true)
      (cond (eqb (mark_of n) 1) (line.Suspect k (life_of n) cause.Notify false ∷ line.Suspect a l (cause.Block b v f) waits ∷ []) (cond (eqb (closed_bit n) 1) (line.Suspect k (life_of n) (cause.Block b v f) true ∷ line.Suspect a l (cause.Block b v f) waits ∷ []) (line.Suspect a l (cause.Block b v f) waits ∷ [])))
      (line.Suspect a l (cause.Block b v f) waits ∷ [])
      (either_more (piece_weight e (line.Suspect a l (cause.Block b v f) waits)) (eqb (mark_of n) 1) (line.Suspect k (life_of n) cause.Notify false ∷ line.Suspect a l (cause.Block b v f) waits ∷ [])
      (cond (eqb (closed_bit n) 1) (line.Suspect k (life_of n) (cause.Block b v f) true ∷ line.Suspect a l (cause.Block b v f) waits ∷ []) (line.Suspect a l (cause.Block b v f) waits ∷ []))
      (omega arith)
      (either_more (piece_weight e (line.Suspect a l (cause.Block b v f) waits)) (eqb (closed_bit n) 1) (line.Suspect k (life_of n) (cause.Block b v f) true ∷ line.Suspect a l (cause.Block b v f) waits ∷ []) (line.Suspect a l (cause.Block b v f) waits ∷ []) (omega arith) (omega arith)))
      (omega arith)
  blamed_keeps g k n x = omega arith

  read_keeps : (g : Graph) (b : ℕ) (was : BlockCells) → Keeps (read_items g b was)
  read_keeps g b was (line.Suspect k l c waits) = omega arith
  read_keeps g b was x = omega arith

  -- a credit weighs nothing
  dropped_weighs : (starts : Bool) (ls : List Line) → lines_weight e (dropped starts ls) ≡ lines_weight e ls
  dropped_weighs starts [] = refl
  dropped_weighs true (credit ∷ b) = refl
  dropped_weighs false (credit ∷ b) = dropped_weighs true b
  dropped_weighs starts (of x ∷ b) = ap (λ (n : ℕ). piece_weight e x + n) (dropped_weighs false b)

  claimed_weighs : (k : ℕ) (c : Claim) (ls : List Line) → lines_weight e (claimed_lines k c ls) ≡ lines_weight e ls
  claimed_weighs k claimed.Made ls = omega arith
  claimed_weighs k claimed.Found ls = omega arith
  claimed_weighs k (claimed.Other key) ls = omega arith

  looked_more : (rows r n : ℕ) (known : List Known) (ls : List Line) → lines_weight e ls ≤ lines_weight e (looked_lines e.graph rows r n known ls)
  looked_more rows r n known ls = by (eqb n 0)
    where
      by : (b : Bool) → lines_weight e ls ≤ lines_weight e (cond b (change_first (skipped_items e.graph rows r known) ls) ls)
      by true = first_more (skipped_items e.graph rows r known) (skipped_keeps e.graph rows r known) ls
      by false = omega arith

  registered_more : (p : ℕ) (x : Registered) (ls : List Line) → lines_weight e ls ≤ lines_weight e (registered_lines p x (change_first (moved_items e.graph) ls) ls)
  registered_more p (registered.Waiting m) ls = first_more (moved_items e.graph) (moved_keeps e.graph) ls
  registered_more p (registered.Closed m) ls = omega arith
  registered_more p (registered.Struck m) ls = omega arith

  told_more : (k : ℕ) (t : Told) (ls : List Line) → lines_weight e ls ≤ lines_weight e (told_lines k t (change_first (moved_items e.graph) ls))
  told_more k (told.Spent l) ls = first_more (moved_items e.graph) (moved_keeps e.graph) ls
  told_more k (told.Last l) ls = let a = first_more (moved_items e.graph) (moved_keeps e.graph) ls in omega (arith, a)
  told_more k (told.Already l) ls = first_more (moved_items e.graph) (moved_keeps e.graph) ls
  told_more k (told.Struck l) ls = let a = first_more (moved_items e.graph) (moved_keeps e.graph) ls in omega (arith, a)

  -- a step that serves
  pub serving_more : (v u w : View) (n : ℕ) (falls : Type 0) (x : Event) → Plain e v u w n falls x → lines_weight e (flat u.stacks) ≤ lines_weight e (lines_left e x n u (flat u.stacks))
  serving_more v u w n falls (claim r k) is = let a = claimed_weighs k (claim_of k n) (flat u.stacks) in omega (arith, a)
  serving_more v u w n falls (look r) is = looked_more e.shape.rows r n u.known (flat u.stacks)
  serving_more v u w n falls (load_descriptor r k) is = first_more (loaded_items e.graph e.plan u.strikes k n) (loaded_keeps e.graph e.plan u.strikes k n) (flat u.stacks)
  serving_more v u w n falls (load_notify r k m) is = first_more (blamed_items e.graph k n) (blamed_keeps e.graph k n) (flat u.stacks)
  serving_more v u w n falls (load_recovery r k) is = absurd is
  serving_more v u w n falls (register r k q) is = registered_more k (registered_of n) (flat u.stacks)
  serving_more v u w n falls (spend r k j) is = told_more k (told_of (e.graph.places k) j n) (flat u.stacks)
  serving_more v u w n falls (close r k l m seen) is = absurd is
  serving_more v u w n falls (elect r k l c waits) is = absurd is
  serving_more v u w n falls (renew_notify r k l d) is = absurd is
  serving_more v u w n falls (renew_descriptor r k l) is = absurd is
  serving_more v u w n falls (finish r k l) is = absurd is
  serving_more v u w n falls (post r i k l) is = absurd is
  serving_more v u w n falls (take r i k) is = absurd is
  serving_more v u w n falls drop_credit is = let a = dropped_weighs true (flat u.stacks) in omega (arith, a)
  serving_more v u w n falls (give_read b was) is = first_more (read_items e.graph b was) (read_keeps e.graph b was) (flat u.stacks)
  serving_more v u w n falls (give_written k l b was now) is = let top : flat u.stacks ≡ of (line.Compute k l is.0 is.1 is.2) ∷ is.3 = is.4 in
      subst (λ ls. lines_weight e ls ≤ lines_weight e (change_first (λ xs. line.Close k l 0 ∷ Rattle.core_state.specs.Views.without_first xs) ls)) (sym top) (omega arith)
  serving_more v u w n falls x is = omega arith
