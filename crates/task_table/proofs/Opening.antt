-- A shared table as it is made keeps its rule.
use Rattle.std.proofs.Common.{◌≡◌, ℕ, zero, suc, ◌+◌, ◌<◌, ◌^◌, ◌&&◌, Bool, true, false, cond, eqb, List, [], ◌∷◌, map, length, get_or, arith, sym, ap, refl, ◌∙◌, subst, Option, Some, None}
use mathlib.Core.Option.{some, some-injective, some-ne-none}
use lib.ListN.{get_elem?}
use Rattle.atomic_table.specs.Seated.{TableId}
use Rattle.atomic_table.specs.Table.{opening}
use Rattle.core_state.specs.Graph.{Setting, Sound}
use Rattle.core_state.specs.Counts.{bump, total_of}
use Rattle.core_state.specs.Views.{key_of}
use Rattle.core_state.specs.declared.block.BlockCells.{BlockCells}
use Rattle.graph_model.specs.declared.record.Record.{Record}
use Rattle.graph_model.specs.declared.record.Record.TheVariants as record_of
use Rattle.core_state.proofs.Base.Counting.{eqb_here}
use Rattle.core_state.proofs.Credit.JobView.{and_false}
use Rattle.core_state.proofs.Seats.Lists.{first_seat}
use Rattle.core_steps.specs.Table.{IsFilled, IsSound, IsUnwritten, Keeps, Stored, first_views, first_words, no_store}
use Rattle.core_steps.proofs.First.{sound_first}
use Rattle.task_table.specs.Kept.{Kept, blocks_in, first_view, plain_of}
use Rattle.task_table.specs.Moments.{Mine, Seated, emptied}
use Rattle.task_table.specs.Passes.{IsPass}
use Rattle.task_table.proofs.Boards.{restored}

blocks_opening : (xs : List (Option BlockCells)) → blocks_in (map some xs) ≡ xs
blocks_opening [] = refl
blocks_opening (x ∷ xs) = ap (λ ys. x ∷ ys) (blocks_opening xs)

slot_opening : (xs : List (Option BlockCells)) (b : ℕ) (x : Option BlockCells) → get_elem? (map some xs) b ≡ some (some x) → (b < length xs) × (get_or xs b None ≡ x)
slot_opening [] b x e = absurd (some-ne-none (some x) (sym e))
slot_opening (y ∷ ys) zero x e = (omega arith, some-injective y x (some-injective (some y) (some x) e))
slot_opening (y ∷ ys) (suc b) x e = let r = slot_opening ys b x e in let a = r.0 in (omega (arith, a), r.1)

module _ (e : Setting) (fit : Sound e) (blocks : List (Option BlockCells)) (unwritten : IsUnwritten blocks) (root_is : e.graph.root ≡ 2 ^ 63) (cells : List ℕ) (filled : IsFilled cells blocks) (many : length blocks ≡ e.shape.blocks) (graph_cells : (b : ℕ) → b < length blocks → get_or cells b 0 ≡ e.graph.cells b) (last : e.graph.block e.graph.root + 1 ≡ e.shape.blocks) where
  first_sound : IsSound e (plain_of e (opening (first_words e) blocks (first_view e)))
  first_sound = subst (λ bs. IsSound e (record (plain_of e (opening (first_words e) blocks (first_view e))) { blocks = bs })) (sym (blocks_opening blocks))
      (restored e (record { words = first_words e; views = first_views e 1; blocks = blocks; stores = no_store ∷ []; root_replaced = []; shape = e.shape; root_room = e.graph.cells (e.graph.block e.graph.root); replaced_room = 0 })
      (sound_first e fit 1 blocks unwritten root_is (no_store ∷ []) cells (e.graph.cells (e.graph.block e.graph.root)) 0 many filled graph_cells (λ p. refl) refl (omega arith) last refl))

  first_kept : Kept e (opening (first_words e) blocks (first_view e))
  first_kept = record {
    sound = first_sound;
    seats = first_seat (first_view e) refl;
    full = λ b x there none. let r = slot_opening blocks b x there in let f = filled b r.0 in absurd (let q : None ≡ Some f.0 = sym none ∙ sym r.1 ∙ f.1 in cc);
  }

  pub opens : (ws : List ℕ) → ws ≡ first_words e → Kept e (opening ws blocks (first_view e))
  opens ws is = subst (λ o. Kept e (opening o blocks (first_view e))) (sym is) first_kept

  pub first_seated : Seated e (first_view e)
  first_seated = record { board = opening (first_words e) blocks (first_view e); kept = first_kept; seat = 0; here = refl }

-- of the record that the first view has nothing is kept
pub first_keeps : (e : Setting) (s : Stored) (rs : List Record) → s.records ≡ [] → rs ≡ [] → Keeps e.graph.root (first_view e ∷ []) (s ∷ []) rs
unfolding total_of
first_keeps e s rs none replaced = record {
  others = λ q. let x : Record = record_of.Created (key_of e.graph.root) in
      let a : bump (q (record_of.Created (key_of e.graph.root)) && cond (eqb e.graph.root e.graph.root) false true) 0 ≡ 0 = ap (λ (b : Bool). bump (q x && cond b false true) 0) (eqb_here e.graph.root) ∙ ap (λ (b : Bool). bump b 0) (and_false (q x)) in
      let b : Rattle.core_state.specs.Counts.count q s.records ≡ 0 = ap (Rattle.core_state.specs.Counts.count q) none in omega (arith, a, b);
  replaced = λ q. let x : Record = record_of.Created (key_of e.graph.root) in
      let a : bump (q (record_of.Created (key_of e.graph.root)) && (eqb e.graph.root e.graph.root && false)) 0 ≡ 0 = ap (λ (b : Bool). bump (q x && (b && false)) 0) (eqb_here e.graph.root) ∙ ap (λ (b : Bool). bump b 0) (and_false (q x)) in
      let b : Rattle.core_state.specs.Counts.count q rs ≡ 0 = ap (Rattle.core_state.specs.Counts.count q) replaced in omega (arith, a, b);
}

-- the first pass
pub first_pass : (e : Setting) → Seated e (first_view e) → (me : Mine) → me ≡ (first_view e, []) → (s : Stored) (rs : List Record) → s.records ≡ [] → rs ≡ [] → (z : TableId) (id m : ℕ)
    → (me.1 ≡ emptied me.0.hands) × IsPass e (record { table = z; seat = id; view = me.0; store = s; root_replaced = rs; replaced_room = m })
first_pass e seated me is s rs none empty z id m = subst (λ (o : Mine). (o.1 ≡ emptied o.0.hands) × IsPass e (record { table = z; seat = id; view = o.0; store = s; root_replaced = rs; replaced_room = m })) (sym is)
    (refl, record { live = omega arith; keeps = first_keeps e s rs none empty; seated = seated })
