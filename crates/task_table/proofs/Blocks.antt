-- Taking a block, giving it back and making a result keep the rule of a shared table.
use Rattle.std.proofs.Common.{◌≡◌, ◌≢◌, ℕ, ◌<◌, ◌^◌, true, false, List, ⊎_elim, length, get_or, set, sym, refl, ◌∙◌, subst, Option, Some, None}
use mathlib.Core.Option.{some, none, some-injective, some-ne-none}
use mathlib.Core.Option.{Option as Home}
use lib.ListN.{get_elem?}
use Rattle.atomic_table.proofs.Lists.{at_set}
use Rattle.core_state.specs.Graph.{Setting}
use Rattle.core_state.specs.Words.{place_of, turn}
use Rattle.core_state.specs.Effects.{after_computed}
use Rattle.core_state.specs.Events.{Event, after, Can}
use Rattle.core_state.specs.Events.Event.{take_turn}
use Rattle.core_state.specs.Guards.{CanCompute, CanTakeTurn}
use Rattle.core_state.specs.Outcome.{entries}
use Rattle.core_state.specs.Tests.{is_any_computed}
use Rattle.core_state.specs.Views.{key_of}
use Rattle.core_state.specs.declared.block.BlockCells.{BlockCells}
use Rattle.core_state.specs.declared.views.View.{View}
use Rattle.graph_model.specs.declared.record.Record.{Record}
use Rattle.graph_model.specs.declared.record.Record.TheVariants as record_of
use Rattle.core_state.proofs.Lines.Entries.{OneAtMost, one_entry}
use Rattle.core_state.proofs.Seats.Lists.{step_seats}
use Rattle.core_state.proofs.Seats.Shares.{parts_kept}
use Rattle.core_steps.specs.Kinds.{block_event, gives}
use Rattle.core_steps.specs.Table.{IsSound, as_list, computed_by, entered, given_by, home_at, taken_by, view_at}
use Rattle.core_steps.specs.declared.kinds.BlockKind.{BlockKind}
use Rattle.core_steps.proofs.BlocksGiven.{sound_given}
use Rattle.core_steps.proofs.BlocksTaken.{home_good, home_is, home_sized, sound_taken}
use Rattle.core_steps.proofs.Resulting.{sound_computed}
use Rattle.task_table.specs.Kept.{Board, Kept, blocks_in, plain_of}
use Rattle.task_table.proofs.Boards.{blocks_set, home_there, restored}
use Rattle.task_table.proofs.Standing.{is_view, low}

-- at most one record, as one that may be
as_one : (xs : List Record) → OneAtMost is_any_computed false xs → (y : Option Record) × (xs ≡ as_list y)
as_one xs one = ⊎_elim (λ q. (None, q)) (λ q. (Some q.0, q.1)) one

-- a slot at home has its block, where one slot more or less is
full_set : (hs : List (Home (Option BlockCells))) (b : ℕ) (y : Home (Option BlockCells)) → ((x : Option BlockCells) → y ≡ some x → x ≢ None) → ((d : ℕ) (x : Option BlockCells) → get_elem? hs d ≡ some (some x) → x ≢ None) → (d : ℕ) (x : Option BlockCells) → get_elem? (set hs b y) d ≡ some (some x) → x ≢ None
full_set hs b y new old d x there = ⊎_elim (λ q. new x q.1) (λ q. old d x q.1) (at_set hs b d y (some x) there)

module _ {e : Setting} {s : Board} (kept : Kept e s) (id : ℕ) (v : View) (here : get_elem? s.views id ≡ some v) where
  as_seen : (x : Event) → Can e v x → Can e (view_at (plain_of e s) id) x
  as_seen x can = subst (λ u. Can e u x) (sym (is_view kept id v here)) can

  module _ (b : ℕ) (can : CanTakeTurn e v b) (free : get_or s.words (place_of e.shape (turn b)) 0 ≡ 0) where
    seen : CanTakeTurn e (view_at (plain_of e s) id) b
    seen = subst (λ u. CanTakeTurn e u b) (sym (is_view kept id v here)) can

    -- the block lies in its slot
    pub home_slot : get_elem? s.homes b ≡ some (some (Some (home_at (blocks_in s.homes) b)))
    home_slot = home_there s.homes b (home_at (blocks_in s.homes) b) (home_is e (plain_of e s) id (low kept id v here) kept.sound b seen free)

    pub taken_sized : length (home_at (blocks_in s.homes) b).cells ≡ e.graph.cells b
    taken_sized = home_sized e (plain_of e s) id (low kept id v here) kept.sound b seen free

    pub taken_good : (home_at (blocks_in s.homes) b).struck ≡ false → 0 < (home_at (blocks_in s.homes) b).tag → (home_at (blocks_in s.homes) b).cells ≡ e.graph.value (e.graph.writer b (home_at (blocks_in s.homes) b).tag)
    taken_good = home_good e (plain_of e s) id (low kept id v here) kept.sound b seen free

    abbrev taken_board : View → Board
    taken_board u = record { words = set s.words (place_of e.shape (turn b)) 1; homes = set s.homes b none; views = set s.views id (after e (take_turn b (home_at (blocks_in s.homes) b)) 0 u) }

    pub take_kept : 0 < v.parts → Kept e (record { words = set s.words (place_of e.shape (turn b)) 1; homes = set s.homes b none; views = set s.views id (after e (take_turn b (home_at (blocks_in s.homes) b)) 0 v) })
    take_kept live = record {
      sound = subst (λ u. IsSound e (plain_of e (taken_board u))) (is_view kept id v here)
          (subst (λ bs. IsSound e (record (plain_of e (taken_board (view_at (plain_of e s) id))) { blocks = bs })) (sym (blocks_set s.homes b none))
          (restored e (taken_by e (plain_of e s) id b) (sound_taken e (plain_of e s) id (low kept id v here) kept.sound b seen free)));
      seats = step_seats s.views kept.seats id v here (after e (take_turn b (home_at (blocks_in s.homes) b)) 0 v) (parts_kept e (take_turn b (home_at (blocks_in s.homes) b)) 0 v) live;
      full = full_set s.homes b none (λ x q. absurd (some-ne-none x (sym q))) kept.full;
    }

  module _ (kind : BlockKind) (b : ℕ) (x : BlockCells) (given : gives kind ≡ true) (can : Can e v (block_event v kind b x)) where
    abbrev found : ℕ
    found = get_or s.words (place_of e.shape (turn b)) 0

    abbrev given_board : View → Board
    given_board u = record { words = set s.words (place_of e.shape (turn b)) 0; homes = set s.homes b (some (Some x)); views = set s.views id (after e (block_event u kind b x) (get_or s.words (place_of e.shape (turn b)) 0) u) }

    given_sound : Can e (view_at (plain_of e s) id) (block_event (view_at (plain_of e s) id) kind b x) → IsSound e (plain_of e (given_board (view_at (plain_of e s) id)))
    given_sound c = let y = as_one (entries e (block_event (view_at (plain_of e s) id) kind b x) found) (one_entry e (block_event (view_at (plain_of e s) id) kind b x) found) in
        subst (λ bs. IsSound e (record (plain_of e (given_board (view_at (plain_of e s) id))) { blocks = bs })) (sym (blocks_set s.homes b (some (Some x))))
        (restored e (entered (2 ^ 63) id y.0 (given_by e (plain_of e s) id kind b x)) (sound_given e (plain_of e s) id (low kept id v here) kept.sound kind b x y.0 given c y.1))

    pub give_kept : 0 < v.parts → Kept e (record { words = set s.words (place_of e.shape (turn b)) 0; homes = set s.homes b (some (Some x)); views = set s.views id (after e (block_event v kind b x) (get_or s.words (place_of e.shape (turn b)) 0) v) })
    give_kept live = record {
      sound = subst (λ u. Can e u (block_event u kind b x) → IsSound e (plain_of e (given_board u))) (is_view kept id v here) given_sound can;
      seats = step_seats s.views kept.seats id v here (after e (block_event v kind b x) found v) (parts_kept e (block_event v kind b x) found v) live;
      full = full_set s.homes b (some (Some x)) (λ y q none. absurd (let r : Some x ≡ None = some-injective (Some x) y q ∙ none in cc)) kept.full;
    }

  module _ (k l : ℕ) (can : CanCompute e v k l) where
    abbrev made_board : View → Board
    made_board u = record { words = s.words; homes = s.homes; views = set s.views id (after_computed k l u) }

    made_sound : CanCompute e (view_at (plain_of e s) id) k l → IsSound e (plain_of e (made_board (view_at (plain_of e s) id)))
    made_sound c = let y : Option Record = Some (record_of.Computed (key_of k) l) in
        restored e (entered (2 ^ 63) id y (computed_by (plain_of e s) id k l)) (sound_computed e (plain_of e s) id (low kept id v here) kept.sound k l c y refl)

    pub make_kept : 0 < v.parts → Kept e (record { words = s.words; homes = s.homes; views = set s.views id (after_computed k l v) })
    make_kept live = record {
      sound = subst (λ u. CanCompute e u k l → IsSound e (plain_of e (made_board u))) (is_view kept id v here) made_sound can;
      seats = step_seats s.views kept.seats id v here (after_computed k l v) refl live;
      full = kept.full;
    }
