-- Giving a block home keeps a plain table sound.
use Rattle.std.proofs.Common.{◌≡◌, ◌≢◌, ℕ, ◌<◌, ◌^◌, Bool, true, cond, ne_eqb, ◌++◌, length, get_or, set, get_or-set_same, arith, sym, ap, refl, ◌∙◌, subst, Option, Some, None}
use Rattle.std.proofs.lemmas.List.{length-map}
use mathlib.Core.Option.{some}
use Rattle.core_state.specs.Graph.{Setting}
use Rattle.core_state.specs.Words.{place_of, turn}
use Rattle.core_state.specs.Counts.{hit, count, in_hand, total_of}
use Rattle.core_state.specs.Tests.{is_hand}
use Rattle.core_state.specs.Change.{block_of, cells_or, held_in, no_cells}
use Rattle.core_state.specs.Guards.{InHand, flipped}
use Rattle.core_state.specs.Events.{Event, at, left, after, Can, block_left, block_was}
use Rattle.core_state.specs.Events.Event.{give_read, give_written, give_struck}
use Rattle.core_state.specs.Outcome.{entries}
use Rattle.core_state.specs.Views.{blank, without_first}
use Rattle.core_state.specs.declared.block.BlockCells.{BlockCells}
use Rattle.core_state.specs.declared.views.View.{View}
use Rattle.graph_model.specs.declared.record.Record.{Record}
use Rattle.core_state.proofs.Base.Counting.{eqb_here, not_here}
use Rattle.core_state.proofs.Lines.Entries.{records_entered}
use Rattle.core_state.proofs.Blocks.Home.{hand_left}
use Rattle.core_state.proofs.Base.Sums.{total_set}
use Rattle.core_steps.proofs.AnyBlock.{hand_some, held_once, value_sized}
use Rattle.core_steps.proofs.AtPlain.{at_plain}
use Rattle.core_steps.proofs.BlocksMoved.{held_one, turn_stands}
use Rattle.core_steps.proofs.Changing.{elem_at}
use Rattle.core_steps.proofs.Inside.{held_low}
use Rattle.core_steps.proofs.Rooting.{none_held}
use Rattle.core_steps.proofs.Sounding.{Stands, sound_entered}
use Rattle.core_steps.proofs.TableSteps.{table_step}
use Rattle.core_steps.specs.Kinds.{block_event, gives}
use Rattle.core_steps.specs.Seat.{cells_in, hand_of}
use Rattle.core_steps.specs.Table.{Plain, view_at, home_at, as_list, entered, given_by, IsSound, IsTableStep, IsWordAt}
use Rattle.core_steps.specs.declared.kinds.BlockKind.{BlockKind}
use Rattle.core_steps.specs.declared.kinds.Touched.{Touched}
use Rattle.core_steps.specs.declared.kinds.BlockKind.TheVariants.{TakeTurn, GiveRead, GiveWritten, GiveStruck}

-- a block in hand is what the view has in hand of it
pub hand_is : (b : ℕ) (x : BlockCells) (v : View) → InHand v b x → hand_of v b ≡ x
hand_is b x v hand = ap (λ hs. cells_or no_cells (held_in b hs)) hand.hands_are ∙ ap (λ (y : Bool). cells_or no_cells (cond y (some x) (held_in b hand.others))) (eqb_here b)

module _ (e : Setting) (p : Plain) (i : ℕ) (low : i < length p.views) (s : IsSound e p) (b : ℕ) (was : BlockCells) (hand : InHand (view_at p i) b was) where
  pub hand_low : b < p.shape.blocks
  hand_low = held_low e p i b low s (hand_some b was (view_at p i) hand)

  in_one_hand : total_of p.views (in_hand b) ≡ 1
  in_one_hand = held_once (at_plain e p i low s) b was hand (subst (λ h. b < h.blocks) s.shape_is hand_low)

  -- the table has the block as it was taken
  pub was_is : block_of (home_at p.blocks) p.views b ≡ was
  unfolding block_of
  was_is = ap (cells_or (home_at p.blocks b)) (held_one b p.views i (view_at p i) was (elem_at p.views i blank low)
      (ap (held_in b) hand.hands_are ∙ ap (λ (y : Bool). cond y (some was) (held_in b hand.others)) (eqb_here b)) (let a = in_one_hand in let f = hand_some b was (view_at p i) hand in omega (arith, a, f)))

  pub was_sized : length was.cells ≡ e.graph.cells b
  was_sized = sym (ap (λ (x : BlockCells). length x.cells) was_is) ∙ s.housed.sized b hand_low

  -- the view gives its last block back, which holds this now
  module _ (w : View) (now : BlockCells) (gone : w.hands ≡ without_first (view_at p i).hands) where
    pub none_has : total_of (set p.views i w) (in_hand b) ≡ 0
    none_has = let a = total_set p.views i (view_at p i) w (in_hand b) (elem_at p.views i blank low) in let f = in_one_hand in let g = hand_left b b was (view_at p i) hand in let h = ap hit (eqb_here b) in
        let o : in_hand b w ≡ count (is_hand b) (without_first (view_at p i).hands) = ap (count (is_hand b)) gone in omega (arith, a, f, g, h, o)

    pub now_is : block_of (home_at (set p.blocks b (Some now))) (set p.views i w) b ≡ now
    unfolding block_of
    now_is = ap (cells_or (home_at (set p.blocks b (Some now)) b)) (none_held b (set p.views i w) none_has) ∙ ap cells_in (get_or-set_same p.blocks b (Some now) None (let a = s.housed.many in let f = hand_low in omega (arith, a, f)))

    pub others : (d : ℕ) → d ≢ b → (held_in d w.hands ≡ held_in d (view_at p i).hands) × (in_hand d w ≡ in_hand d (view_at p i))
    others d ne = (
      ap (held_in d) (gone ∙ ap without_first hand.hands_are) ∙ sym (ap (held_in d) hand.hands_are ∙ ap (λ (y : Bool). cond y (some was) (held_in d hand.others)) (ne_eqb d b ne)),
      let a = hand_left d b was (view_at p i) hand in let f = not_here d b ne in let o : in_hand d w ≡ count (is_hand d) (without_first (view_at p i).hands) = ap (count (is_hand d)) gone in omega (arith, a, f, o),
    )

    -- an event that gives the block
    pub given_stands : (x : Event) (n : ℕ) → at x ≡ turn b → get_or p.words (place_of p.shape (turn b)) 0 ≡ n → left e x n ≡ 0 → w ≡ after e x n (view_at p i) → Can e (view_at p i) x → length now.cells ≡ e.graph.cells b
        → block_was e x n (block_of (home_at p.blocks) p.views b) ≡ was → block_left e x (block_of (home_at p.blocks) p.views b) ≡ now
        → Stands e p i w (set p.words (place_of p.shape (turn b)) 0) (set p.blocks b (Some now))
    given_stands x n spot is zero after_is can fits held put = turn_stands e p i low s b hand_low w (Some now) others x n 0 spot is zero after_is can
        record { at_home = λ y q. none_has; away = λ q. absurd cc; sized = ap (λ (y : BlockCells). length y.cells) now_is ∙ fits } (was_is ∙ sym held) (now_is ∙ sym put)

-- the number of a turn word, as each giving finds it
abbrev turn_number : Plain → ℕ → ℕ
turn_number p b = get_or p.words (place_of p.shape (turn b)) 0

-- each way in which a block goes home
pub sound_given : (e : Setting) (p : Plain) (i : ℕ) (low : i < length p.views) (s : IsSound e p) (kind : BlockKind) (b : ℕ) (x : BlockCells) (y : Option Record) → gives kind ≡ true → Can e (view_at p i) (block_event (view_at p i) kind b x)
    → entries e (block_event (view_at p i) kind b x) (turn_number p b) ≡ as_list y → IsSound e (entered (2 ^ 63) i y (given_by e p i kind b x))
sound_given e p i low s TakeTurn b x y given can is = absurd cc
sound_given e p i low s GiveRead b x y given can is = let v : View = view_at p i in let n : ℕ = turn_number p b in let w : View = after e (give_read b x) n v in
    sound_entered e p i w (set p.words (place_of p.shape (turn b)) 0) (set p.blocks b (Some x)) s low
    (given_stands e p i low s b x can w x refl (give_read b x) n refl refl refl refl can (was_sized e p i low s b x can) refl (was_is e p i low s b x can))
    y (records_entered e (give_read b x) n v w refl ∙ ap (λ rs. rs ++ v.records) is)
sound_given e p i low s (GiveWritten k l) b x y given can is = let v : View = view_at p i in let n : ℕ = turn_number p b in let was : BlockCells = hand_of v b in let w : View = after e (give_written k l b was x) n v in
    sound_entered e p i w (set p.words (place_of p.shape (turn b)) 0) (set p.blocks b (Some x)) s low
    (given_stands e p i low s b was can.hand w x refl (give_written k l b was x) n refl refl refl refl can (value_sized (at_plain e p i low s) b k l was x can) refl refl)
    y (records_entered e (give_written k l b was x) n v w refl ∙ ap (λ rs. rs ++ v.records) is)
sound_given e p i low s (GiveStruck k l) b x y given can is = let v : View = view_at p i in let n : ℕ = turn_number p b in let was : BlockCells = hand_of v b in let w : View = after e (give_struck k l b was x) n v in
    sound_entered e p i w (set p.words (place_of p.shape (turn b)) 0) (set p.blocks b (Some x)) s low
    (given_stands e p i low s b was can.hand w x refl (give_struck k l b was x) n refl refl refl refl can (ap length can.cells_are ∙ length-map was.cells flipped ∙ was_sized e p i low s b was can.hand) refl refl)
    y (records_entered e (give_struck k l b was x) n v w refl ∙ ap (λ rs. rs ++ v.records) is)

-- and what it is as a step
pub given_step : (e : Setting) (p : Plain) (i : ℕ) (kind : BlockKind) (b : ℕ) (x : BlockCells) (y : Option Record) (t : Touched) → gives kind ≡ true → i < length p.views → Can e (view_at p i) (block_event (view_at p i) kind b x) → IsWordAt p (turn b) t → IsSound e p
    → IsSound e (entered (2 ^ 63) i y (given_by e p i kind b x)) → IsTableStep e i (block_event (view_at p i) kind b x) t p (entered (2 ^ 63) i y (given_by e p i kind b x))
given_step e p i TakeTurn b x y t given low can word s now = absurd cc
given_step e p i GiveRead b x y t given low can word s now = table_step e i (block_event (view_at p i) GiveRead b x) t p (entered (2 ^ 63) i y (given_by e p i GiveRead b x)) low can word s now (λ j. set p.words (sym word.at_is j) 0)
    (λ j. set p.views i (after e (block_event (view_at p i) GiveRead b x) (sym (word.found_is ∙ ap (λ m. get_or p.words m 0) word.at_is) j) (view_at p i)))
given_step e p i (GiveWritten k l) b x y t given low can word s now = table_step e i (block_event (view_at p i) (GiveWritten k l) b x) t p (entered (2 ^ 63) i y (given_by e p i (GiveWritten k l) b x)) low can word s now (λ j. set p.words (sym word.at_is j) 0)
    (λ j. set p.views i (after e (block_event (view_at p i) (GiveWritten k l) b x) (sym (word.found_is ∙ ap (λ m. get_or p.words m 0) word.at_is) j) (view_at p i)))
given_step e p i (GiveStruck k l) b x y t given low can word s now = table_step e i (block_event (view_at p i) (GiveStruck k l) b x) t p (entered (2 ^ 63) i y (given_by e p i (GiveStruck k l) b x)) low can word s now (λ j. set p.words (sym word.at_is j) 0)
    (λ j. set p.views i (after e (block_event (view_at p i) (GiveStruck k l) b x) (sym (word.found_is ∙ ap (λ m. get_or p.words m 0) word.at_is) j) (view_at p i)))
