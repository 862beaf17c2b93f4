-- Each kind of step keeps a plain table sound.
use Rattle.std.proofs.Common.{◌≡◌, ℕ, ◌<◌, Bool, false, cond, List, [], ◌++◌, ◌∷◌, ◌^◌, length, get_or, set, length-set, arith, sym, ap, refl, ◌∙◌, subst, Option, Some, None}
use Rattle.core_state.specs.Graph.{Setting}
use Rattle.core_state.specs.Words.{place_of}
use Rattle.core_state.specs.Counts.{count, in_hand, total_of}
use Rattle.core_state.specs.Tests.{is_hand}
use Rattle.core_state.specs.Change.{Sums}
use Rattle.core_state.specs.Cover.{Passed}
use Rattle.core_state.specs.Invariant.{Invariant}
use Rattle.core_state.specs.Prevented.{Prevented}
use Rattle.core_state.specs.Events.{Event, at, left, after, Can, Happens, block_left, block_was}
use Rattle.core_state.specs.Events.Event.{claim, look, load_descriptor, load_notify, load_recovery, load_pending, load_stop, register, spend, close, elect, renew_notify, renew_descriptor, finish, strike_descriptor, strike_notify, post, take, buy, drop_credit, take_turn, give_read, give_written, give_struck, halt}
use Rattle.core_state.specs.Outcome.{entries, hands_left}
use Rattle.core_state.specs.Views.{blank}
use Rattle.core_state.specs.declared.block.BlockCells.{BlockCells}
use Rattle.core_state.specs.declared.views.View.{View}
use Rattle.graph_model.specs.declared.record.Record.{Record}
use Rattle.core_state.proofs.Lines.Entries.{records_entered}
use Rattle.core_state.proofs.Whole.EachEvent.{kept_event}
use Rattle.core_state.proofs.Lines.Outcomes.{leaves}
use Rattle.core_state.proofs.Base.Tables.{state_sums}
use Rattle.core_state.proofs.Base.Sums.{total_set}
use Rattle.core_steps.proofs.Changing.{elem_at, blocks_same, change_of}
use Rattle.core_steps.proofs.Housing.{housed_same}
use Rattle.core_steps.proofs.Inside.{spot_inside}
use Rattle.core_steps.proofs.Noting.{same_keeps, entered_keeps}
use Rattle.core_steps.specs.Kinds.{event_of, moves_block}
use Rattle.core_steps.specs.Table.{Plain, Stored, IsHoused, Keeps, IsSound, IsWordAt, as_list, core_by, entered, home_at, kept_list, kept_room, kept_store, no_store, stepped_by, view_at, word_count}
use Rattle.core_steps.specs.declared.kinds.Kind.{Kind}
use Rattle.core_steps.specs.declared.kinds.Touched.{Touched}

-- sums over the views of a table
pub sums_of : (p : Plain) → Sums (core_by p.shape p.words p.blocks p.views)
sums_of p = state_sums {S = BlockCells} p.shape (λ _. home_at p.blocks) (record { words = p.words; homes = []; views = p.views })

-- The words, the blocks at home and the view of a worker change: what has to hold then.
module _ (e : Setting) (p : Plain) (i : ℕ) (w : View) (ws : List ℕ) (bs : List (Option BlockCells)) where
  pub record Stands : Type 0 where
    pub fits : length ws ≡ word_count p.shape
    pub kept : Invariant e (core_by p.shape ws bs (set p.views i w)) × Passed e (core_by p.shape ws bs (set p.views i w)) × Prevented e (core_by p.shape ws bs (set p.views i w))
    pub at_home : (b : ℕ) (x : BlockCells) → get_or bs b None ≡ Some x → total_of (set p.views i w) (in_hand b) ≡ 0
    pub housed : IsHoused e p.shape bs (set p.views i w)

  module _ (s : IsSound e p) (low : i < length p.views) (z : Stands) where
    -- the records may be kept in any way
    pub sound_with : (ss : List Stored) (rs : List Record) (room : ℕ) → length ss ≡ length p.stores → Keeps e.graph.root (set p.views i w) ss rs
        → IsSound e (record p { words = ws; views = set p.views i w; blocks = bs; stores = ss; root_replaced = rs; replaced_room = room })
    sound_with ss rs room many noted_all = record {
      setting = s.setting;
      shape_is = s.shape_is;
      root_is = s.root_is;
      fits = z.fits;
      holds = z.kept.0;
      passed = z.kept.1;
      prevented = z.kept.2;
      keeps = noted_all;
      workers = many ∙ s.workers ∙ sym (length-set p.views i w);
      at_home = z.at_home;
      housed = z.housed;
      root_last = s.root_last;
      room_is = s.room_is;
    }

    -- nothing is recorded
    pub sound_quiet : w.records ≡ (view_at p i).records → IsSound e (record p { words = ws; views = set p.views i w; blocks = bs })
    sound_quiet recs = sound_with p.stores p.root_replaced p.replaced_room refl (same_keeps e p i low s w recs)

    -- or one record, of which is kept what is to be kept
    pub sound_entered : (y : Option Record) → w.records ≡ as_list y ++ (view_at p i).records → IsSound e (entered (2 ^ 63) i y (record p { words = ws; views = set p.views i w; blocks = bs }))
    sound_entered y recs = subst (λ root. IsSound e (entered root i y (record p { words = ws; views = set p.views i w; blocks = bs }))) s.root_is
        (sound_with (set p.stores i (kept_store e.graph.root y (get_or p.stores i no_store))) (kept_list e.graph.root y p.root_replaced) (kept_room e.graph.root y p.replaced_room)
        (length-set p.stores i (kept_store e.graph.root y (get_or p.stores i no_store))) (entered_keeps e p i low s y w recs))

-- what an event leaves alone that moves no block: the hands, and the block whose turn it may be
pub record LeavesBlocks (e : Setting) (x : Event) (n : ℕ) : Type 0 where
  pub hands : (v : View) → hands_left e x n v ≡ v.hands
  pub was : (y : BlockCells) → block_was e x n y ≡ y
  pub now : (y : BlockCells) → block_left e x y ≡ y

pub leaves_blocks : (e : Setting) (x : Event) (n : ℕ) → moves_block x n ≡ false → LeavesBlocks e x n
leaves_blocks e (claim r k) n calm = record { hands = λ v. refl; was = λ y. refl; now = λ y. refl }
leaves_blocks e (look r) n calm = record { hands = λ v. refl; was = λ y. refl; now = λ y. refl }
leaves_blocks e (load_descriptor r k) n calm = record { hands = λ v. refl; was = λ y. refl; now = λ y. refl }
leaves_blocks e (load_notify r k w) n calm = record { hands = λ v. refl; was = λ y. refl; now = λ y. refl }
leaves_blocks e (load_recovery r k) n calm = record { hands = λ v. refl; was = λ y. refl; now = λ y. refl }
leaves_blocks e load_pending n calm = record { hands = λ v. refl; was = λ y. refl; now = λ y. refl }
leaves_blocks e load_stop n calm = record { hands = λ v. refl; was = λ y. refl; now = λ y. refl }
leaves_blocks e (register r p q) n calm = record { hands = λ v. refl; was = λ y. refl; now = λ y. refl }
leaves_blocks e (spend r k j) n calm = record { hands = λ v. refl; was = λ y. refl; now = λ y. refl }
leaves_blocks e (close r k l w seen) n calm = record { hands = λ v. refl; was = λ y. refl; now = λ y. refl }
leaves_blocks e (elect r k l c waits) n calm = record { hands = λ v. refl; was = λ y. refl; now = λ y. refl }
leaves_blocks e (renew_notify r k l w) n calm = record { hands = λ v. refl; was = λ y. refl; now = λ y. refl }
leaves_blocks e (renew_descriptor r k l) n calm = record { hands = λ v. refl; was = λ y. refl; now = λ y. refl }
leaves_blocks e (finish r k l) n calm = record { hands = λ v. refl; was = λ y. refl; now = λ y. refl }
leaves_blocks e (strike_descriptor r k l) n calm = record { hands = λ v. refl; was = λ y. refl; now = λ y. refl }
leaves_blocks e (strike_notify r k l w) n calm = record { hands = λ v. refl; was = λ y. refl; now = λ y. refl }
leaves_blocks e (post r i k l) n calm = record { hands = λ v. refl; was = λ y. refl; now = λ y. refl }
leaves_blocks e (take r i k) n calm = record { hands = λ v. refl; was = λ y. refl; now = λ y. refl }
leaves_blocks e buy n calm = record { hands = λ v. refl; was = λ y. refl; now = λ y. refl }
leaves_blocks e drop_credit n calm = record { hands = λ v. refl; was = λ y. refl; now = λ y. refl }
leaves_blocks e (take_turn b x) n calm = record { hands = λ v. ap (λ (o : Bool). cond o (record { block = b; held = x } ∷ v.hands) v.hands) calm; was = λ y. ap (λ (o : Bool). cond o x y) calm; now = λ y. refl }
leaves_blocks e (give_read b x) n calm = absurd cc
leaves_blocks e (give_written k l b x y) n calm = absurd cc
leaves_blocks e (give_struck k l b x y) n calm = absurd cc
leaves_blocks e halt n calm = record { hands = λ v. refl; was = λ y. refl; now = λ y. refl }

-- a step that moves no block
module _ (e : Setting) (p : Plain) (i : ℕ) (low : i < length p.views) (s : IsSound e p) (x : Event) (can : Can e (view_at p i) x) where
  abbrev found : ℕ
  found = get_or p.words (place_of p.shape (at x)) 0

  abbrev next : View
  next = after e x (get_or p.words (place_of p.shape (at x)) 0) (view_at p i)

  module _ (calm : moves_block x (get_or p.words (place_of p.shape (at x)) 0) ≡ false) where
    same_hands : next.hands ≡ (view_at p i).hands
    same_hands = (leaves e x found (view_at p i) next refl).hands_are ∙ (leaves_blocks e x found calm).hands (view_at p i)

    same_blocks : (b : ℕ) → (core_by p.shape (set p.words (place_of p.shape (at x)) (left e x found)) p.blocks (set p.views i next)).block b ≡ (core_by p.shape p.words p.blocks p.views).block b
    same_blocks b = blocks_same (home_at p.blocks) b p.views i (view_at p i) next (elem_at p.views i blank low) same_hands

    happens : Happens e x (core_by p.shape p.words p.blocks p.views) (core_by p.shape (set p.words (place_of p.shape (at x)) (left e x found)) p.blocks (set p.views i next)) found (view_at p i) next
    happens = record {
      change = change_of p i (at x) (left e x found) next low s.fits (spot_inside e p i low s x can) same_hands;
      found_block = λ b is. sym ((leaves_blocks e x found calm).was ((core_by p.shape p.words p.blocks p.views).block b));
      left_block = λ b is. same_blocks b ∙ sym ((leaves_blocks e x found calm).now ((core_by p.shape p.words p.blocks p.views).block b));
    }

    same_total : (b : ℕ) → total_of (set p.views i next) (in_hand b) ≡ total_of p.views (in_hand b)
    same_total b = let a = total_set p.views i (view_at p i) next (in_hand b) (elem_at p.views i blank low) in let c : in_hand b next ≡ in_hand b (view_at p i) = ap (count (is_hand b)) same_hands in omega (arith, a, c)

    pub stands : Stands e p i next (set p.words (place_of p.shape (at x)) (left e x found)) p.blocks
    stands = record {
      fits = length-set p.words (place_of p.shape (at x)) (left e x found) ∙ s.fits;
      kept = kept_event e s.setting (core_by p.shape p.words p.blocks p.views) (core_by p.shape (set p.words (place_of p.shape (at x)) (left e x found)) p.blocks (set p.views i next)) (sums_of p) x found (view_at p i) can happens (s.holds, s.passed, s.prevented);
      at_home = λ b y home. same_total b ∙ s.at_home b y home;
      housed = housed_same e p.shape p.blocks p.views (set p.views i next) same_total same_blocks s.housed;
    }

    -- of which nothing is recorded
    pub quiet_step : entries e x found ≡ [] → IsSound e (record p { words = set p.words (place_of p.shape (at x)) (left e x found); views = set p.views i next })
    quiet_step none = sound_quiet e p i next (set p.words (place_of p.shape (at x)) (left e x found)) p.blocks s low stands (records_entered e x found (view_at p i) next refl ∙ ap (λ rs. rs ++ (view_at p i).records) none)

    -- with its record, if there is one
    pub sound_step : (y : Option Record) → entries e x found ≡ as_list y → IsSound e (entered (2 ^ 63) i y (record p { words = set p.words (place_of p.shape (at x)) (left e x found); views = set p.views i next }))
    sound_step y is = sound_entered e p i next (set p.words (place_of p.shape (at x)) (left e x found)) p.blocks s low stands y (records_entered e x found (view_at p i) next refl ∙ ap (λ rs. rs ++ (view_at p i).records) is)

-- the same by the word that a worker touched
module _ (e : Setting) (p : Plain) (i : ℕ) (low : i < length p.views) (s : IsSound e p) (k : Kind) (t : Touched) (m : ℕ) (can : Can e (view_at p i) (event_of (view_at p i) k)) (word : IsWordAt p (at (event_of (view_at p i) k)) t) (left_is : m ≡ left e (event_of (view_at p i) k) t.found) (calm : moves_block (event_of (view_at p i) k) t.found ≡ false) where
  abbrev x : Event
  x = event_of (view_at p i) k

  number : t.found ≡ get_or p.words (place_of p.shape (at (event_of (view_at p i) k))) 0
  number = word.found_is ∙ ap (λ n. get_or p.words n 0) word.at_is

  pub quiet_touched : entries e (event_of (view_at p i) k) t.found ≡ [] → IsSound e (stepped_by e p i k t.at t.found m)
  quiet_touched none = subst (IsSound e) (λ j. stepped_by e p i k (sym word.at_is j) (sym number j) (sym (left_is ∙ ap (left e x) number) j)) (quiet_step e p i low s x can (ap (moves_block x) (sym number) ∙ calm) (ap (entries e x) (sym number) ∙ none))

  pub sound_touched : (y : Option Record) → entries e (event_of (view_at p i) k) t.found ≡ as_list y → IsSound e (entered (2 ^ 63) i y (stepped_by e p i k t.at t.found m))
  sound_touched y is = subst (λ q. IsSound e (entered (2 ^ 63) i y q)) (λ j. stepped_by e p i k (sym word.at_is j) (sym number j) (sym (left_is ∙ ap (left e x) number) j)) (sound_step e p i low s x can (ap (moves_block x) (sym number) ∙ calm) y (ap (entries e x) (sym number) ∙ is))
