-- What each step of a seat keeps and tells, in the words of the table of atomic words.
use Rattle.std.proofs.Common.{◌≡◌, ◌≢◌, ℕ, ◌<◌, Bool, true, false, cond, eqb, ne_eqb, List, ◌∷◌, get_or, set, sym, ap, refl, ◌∙◌, subst, Option, Some}
use Rattle.std.specs.Prelude.{◌==◌}
use Rattle.std.proofs.lemmas.List.{set-get_or}
use mathlib.Core.Option.{some, none}
use mathlib.Core.Logic.{dite}
use native.Mathlib.Decide.{ℕ_discrete}
use prog.Atomic.{either}
use lib.ListN.{get_elem?}
use Rattle.atomic_table.specs.Seated.{TableId}
use Rattle.atomic_table.specs.Table.{Act, Allows, Valid, carried_after, keeps, takes, gives, put_back, rest, stepped}
use Rattle.atomic_table.proofs.Lists.{set_again}
use Rattle.core_state.specs.Graph.{Setting}
use Rattle.core_state.specs.Words.{place_of, turn}
use Rattle.core_state.specs.Change.{no_cells}
use Rattle.core_state.specs.Effects.{after_computed}
use Rattle.core_state.specs.Events.{Event, after, at, left, Can}
use Rattle.core_state.specs.Events.Event.{take_turn}
use Rattle.core_state.specs.Guards.{CanCompute, CanTakeTurn}
use Rattle.core_state.specs.declared.block.BlockCells.{BlockCells}
use Rattle.core_state.specs.declared.views.View.{View}
use Rattle.core_steps.specs.Kinds.{block_event, moves_block}
use Rattle.core_steps.specs.Kinds.{gives as is_given}
use Rattle.core_steps.specs.Table.{home_at}
use Rattle.core_steps.specs.declared.kinds.BlockKind.{BlockKind}
use Rattle.core_steps.specs.declared.kinds.BlockKind.TheVariants.{TakeTurn, GiveRead, GiveWritten, GiveStruck}
use Rattle.core_steps.proofs.AnyBlock.{turn_one}
use Rattle.core_steps.proofs.AtPlain.{core_at}
use Rattle.task_table.specs.Kept.{Board, Kept, blocks_in, plain_of}
use Rattle.task_table.specs.Moments.{Did, Glance, IsReady, Looked, Made, Mine, Took}
use Rattle.task_table.proofs.Blocks.{give_kept, home_slot, make_kept, take_kept, taken_good, taken_sized}
use Rattle.task_table.proofs.Standing.{calm_kept, place_low, spot_here, viewed, word_here}

-- the word on which a seat is ready to step is one of the table's
pub ready_low : (e : Setting) (z : TableId) (v : View) (x : Event) (word : ℕ) → IsReady e z v x word → word < z.words
ready_low e z v x word r = subst (λ o. o < z.words) (sym r.word_is) (subst (λ m. place_of e.shape (at x) < m) (sym r.wide.0) (place_low r.seated.kept r.seated.seat v r.seated.here x r.can))

module _ (e : Setting) (slots id : ℕ) (me : Mine) where
  -- what a seat sees of a word
  seen : (s : Board) (kept : Kept e s) → get_elem? s.views id ≡ some me.0 → (word : ℕ) → get_or s.words word 0 < 18446744073709551616 → Glance e word me.0 (get_or s.words word 0)
  seen s kept here word small = record { seated = record { board = s; kept = kept; seat = id; here = here }; found_is = refl; few = small }

  -- a look that is no step
  pub look_allowed : (word : ℕ) → Allows (Kept e) slots id me word (λ n. n) (Looked e word me)
  look_allowed word s kept len here small = (
    me.0,
    keeps,
    tt,
    subst (Kept e) (λ j. record { words = sym (set-get_or s.words word 0) j; homes = s.homes; views = sym (set_again s.views id me.0 here) j }) kept,
    record { same = refl; glance = seen s kept here word small },
  )

  module _ (live : 0 < me.0.parts) where
    -- a step that moves no block, and leaves this of each number that it can find
    pub calm_allowed : (x : Event) (can : Can e me.0 x) (word : ℕ) (f : ℕ → ℕ) → word ≡ place_of e.shape (at x) → ((n : ℕ) → moves_block x n ≡ false) → ((n : ℕ) → Glance e word me.0 n → left e x n ≡ f n)
        → Allows (Kept e) slots id me word f (Did e x me.1 me.0)
    calm_allowed x can word f is calm leaves = subst (λ o. ((n : ℕ) → Glance e o me.0 n → left e x n ≡ f n) → Allows (Kept e) slots id me o f (Did e x me.1 me.0)) (sym is) here_allowed leaves
      where
        here_allowed : ((n : ℕ) → Glance e (place_of e.shape (at x)) me.0 n → left e x n ≡ f n) → Allows (Kept e) slots id me (place_of e.shape (at x)) f (Did e x me.1 me.0)
        here_allowed leaves s kept len here small =
            let n : ℕ = get_or s.words (place_of e.shape (at x)) 0 in let w : View = after e x (get_or s.words (place_of e.shape (at x)) 0) me.0 in
            let same : left e x (get_or s.words (place_of e.shape (at x)) 0) ≡ f (get_or s.words (place_of e.shape (at x)) 0) = leaves n (seen s kept here (place_of e.shape (at x)) small) in
            let k : Kept e (record { words = set s.words (place_of e.shape (at x)) (f (get_or s.words (place_of e.shape (at x)) 0)); homes = s.homes; views = set s.views id (after e x (get_or s.words (place_of e.shape (at x)) 0) me.0) }) =
            subst (λ m. Kept e (record { words = set s.words (place_of e.shape (at x)) m; homes = s.homes; views = set s.views id w })) same (calm_kept kept id me.0 here x can live (calm n)) in (
              w,
              keeps,
              tt,
              k,
              record {
                view_is = refl;
                slots_are = refl;
                moment = record {
                  before = s;
                  now = record { words = set s.words (place_of e.shape (at x)) (f n); homes = s.homes; views = set s.views id w };
                  seat = id;
                  kept_before = kept;
                  kept_now = k;
                  was = here;
                  views_are = refl;
                  words_are = record { within = spot_here kept id me.0 here x can; found_is = refl; words_are = ap (set s.words (place_of e.shape (at x))) (sym same) };
                };
              },
            )

    -- a result that is made
    pub make_allowed : (k l : ℕ) → CanCompute e me.0 k l → Allows (Kept e) slots id me 0 (λ n. n) (λ n. Made e k l me)
    make_allowed k l can s kept len here small =
        let w : View = after_computed k l me.0 in let o = make_kept kept id me.0 here k l can live in (
          w,
          keeps,
          tt,
          subst (Kept e) (λ j. record { words = sym (set-get_or s.words 0 0) j; homes = s.homes; views = set s.views id w }) o,
          record { view_is = refl; slots_are = refl; seated = record { board = record { words = s.words; homes = s.homes; views = set s.views id w }; kept = o; seat = id; here = Rattle.atomic_table.proofs.Lists.set_here s.views id w (Rattle.task_table.proofs.Standing.low kept id me.0 here) } },
        )

    -- what is to be shown of a table where the seat is to take block b
    abbrev TakesHere : ℕ → Board → Type 0
    TakesHere b s = (w : View) × (a : Act (Option BlockCells)) × Valid s.homes me.1 a
        × Kept e (stepped s (place_of e.shape (turn b)) (either (get_or s.words (place_of e.shape (turn b)) 0 == 0) 1 (get_or s.words (place_of e.shape (turn b)) 0)) id me.1 w a)
        × Took e b me (get_or s.words (place_of e.shape (turn b)) 0) (w, carried_after me.1 a)

    -- a block that is taken, or that another has
    pub take_allowed : (b : ℕ) → CanTakeTurn e me.0 b → (word : ℕ) → word ≡ place_of e.shape (turn b) → Allows (Kept e) slots id me word (λ n. either (n == 0) 1 n) (Took e b me)
    take_allowed b can word is = subst (λ o. Allows (Kept e) slots id me o (λ n. either (n == 0) 1 n) (Took e b me)) (sym is) (λ s kept len here small. dite (ℕ_discrete (get_or s.words (place_of e.shape (turn b)) 0) 0) (free s kept here) (held s kept here small))
      where
        free : (s : Board) (kept : Kept e s) → get_elem? s.views id ≡ some me.0 → get_or s.words (place_of e.shape (turn b)) 0 ≡ 0 → TakesHere b s
        free s kept here z =
            let x : BlockCells = home_at (blocks_in s.homes) b in let w : View = after e (take_turn b (home_at (blocks_in s.homes) b)) 0 me.0 in
            let one : either (get_or s.words (place_of e.shape (turn b)) 0 == 0) 1 (get_or s.words (place_of e.shape (turn b)) 0) ≡ 1 = ap (λ (o : ℕ). either (o == 0) 1 o) z in
            let k : Kept e (record { words = set s.words (place_of e.shape (turn b)) (either (get_or s.words (place_of e.shape (turn b)) 0 == 0) 1 (get_or s.words (place_of e.shape (turn b)) 0)); homes = set s.homes b none; views = set s.views id (after e (take_turn b (home_at (blocks_in s.homes) b)) 0 me.0) }) =
            subst (λ m. Kept e (record { words = set s.words (place_of e.shape (turn b)) m; homes = set s.homes b none; views = set s.views id w })) (sym one) (take_kept kept id me.0 here b can z live) in (
              w,
              takes b (Some x),
              home_slot kept id me.0 here b can z,
              k,
              record {
                taken = λ q. record {
                  block = x;
                  did = record {
                    view_is = refl;
                    slots_are = refl;
                    moment = record {
                      before = s;
                      now = record { words = set s.words (place_of e.shape (turn b)) (either (get_or s.words (place_of e.shape (turn b)) 0 == 0) 1 (get_or s.words (place_of e.shape (turn b)) 0)); homes = set s.homes b none; views = set s.views id w };
                      seat = id;
                      kept_before = kept;
                      kept_now = k;
                      was = here;
                      views_are = refl;
                      words_are = record { within = spot_here kept id me.0 here (take_turn b x) can; found_is = sym z; words_are = ap (set s.words (place_of e.shape (turn b))) one };
                    };
                  };
                  sized = taken_sized kept id me.0 here b can z;
                  good = taken_good kept id me.0 here b can z;
                };
                refused = λ ne. absurd (ne z);
              },
            )

        held : (s : Board) (kept : Kept e s) → get_elem? s.views id ≡ some me.0 → get_or s.words (place_of e.shape (turn b)) 0 < 18446744073709551616 → get_or s.words (place_of e.shape (turn b)) 0 ≢ 0 → TakesHere b s
        held s kept here small ne =
            let n : ℕ = get_or s.words (place_of e.shape (turn b)) 0 in let x : Event = take_turn b no_cells in let w : View = after e (take_turn b no_cells) (get_or s.words (place_of e.shape (turn b)) 0) me.0 in
            let other : eqb (get_or s.words (place_of e.shape (turn b)) 0) 0 ≡ false = ne_eqb n 0 ne in
            let same : left e (take_turn b no_cells) (get_or s.words (place_of e.shape (turn b)) 0) ≡ either (get_or s.words (place_of e.shape (turn b)) 0 == 0) 1 (get_or s.words (place_of e.shape (turn b)) 0) = ap (λ (o : Bool). cond o 1 n) other ∙ sym (ap (λ (o : Bool). either o 1 n) other) in
            let k : Kept e (record { words = set s.words (place_of e.shape (turn b)) (either (get_or s.words (place_of e.shape (turn b)) 0 == 0) 1 (get_or s.words (place_of e.shape (turn b)) 0)); homes = s.homes; views = set s.views id (after e (take_turn b no_cells) (get_or s.words (place_of e.shape (turn b)) 0) me.0) }) =
            subst (λ m. Kept e (record { words = set s.words (place_of e.shape (turn b)) m; homes = s.homes; views = set s.views id w })) same (calm_kept kept id me.0 here x can live other) in (
              w,
              keeps,
              tt,
              k,
              record {
                taken = λ z. absurd (ne z);
                refused = λ q. (
                  sym (word_here kept id me.0 here x can) ∙ turn_one e (core_at (plain_of e s)) kept.sound.holds b can.low (λ z. ne (sym (word_here kept id me.0 here x can) ∙ z)),
                  record {
                    view_is = refl;
                    slots_are = refl;
                    moment = record {
                      before = s;
                      now = record { words = set s.words (place_of e.shape (turn b)) (either (get_or s.words (place_of e.shape (turn b)) 0 == 0) 1 (get_or s.words (place_of e.shape (turn b)) 0)); homes = s.homes; views = set s.views id w };
                      seat = id;
                      kept_before = kept;
                      kept_now = k;
                      was = here;
                      views_are = refl;
                      words_are = record { within = spot_here kept id me.0 here x can; found_is = refl; words_are = ap (set s.words (place_of e.shape (turn b))) (sym same) };
                    };
                  },
                );
              },
            )

    -- a block that goes home
    pub give_allowed : (kind : BlockKind) (b : ℕ) (x : BlockCells) (others : List (ℕ × Option BlockCells)) → is_given kind ≡ true → Can e me.0 (block_event me.0 kind b x) → me.1 ≡ (b, Some x) ∷ others → (word : ℕ) → word ≡ place_of e.shape (at (block_event me.0 kind b x))
        → Allows (Kept e) slots id me word (λ n. 0) (Did e (block_event me.0 kind b x) (rest me.1) me.0)
    give_allowed kind b x others given can lies word is = subst (λ o. Allows (Kept e) slots id me o (λ n. 0) (Did e (block_event me.0 kind b x) (rest me.1) me.0)) (sym (is ∙ ap (place_of e.shape) (give_spot kind))) here_allowed
      where
        give_spot : (kind : BlockKind) → at (block_event me.0 kind b x) ≡ turn b
        give_spot TakeTurn = refl
        give_spot GiveRead = refl
        give_spot (GiveWritten k l) = refl
        give_spot (GiveStruck k l) = refl

        none_left : (kind : BlockKind) → is_given kind ≡ true → (n : ℕ) → left e (block_event me.0 kind b x) n ≡ 0
        none_left TakeTurn q n = absurd cc
        none_left GiveRead q n = refl
        none_left (GiveWritten k l) q n = refl
        none_left (GiveStruck k l) q n = refl

        here_allowed : Allows (Kept e) slots id me (place_of e.shape (turn b)) (λ n. 0) (Did e (block_event me.0 kind b x) (rest me.1) me.0)
        here_allowed s kept len here small =
            let n : ℕ = get_or s.words (place_of e.shape (turn b)) 0 in let w : View = after e (block_event me.0 kind b x) (get_or s.words (place_of e.shape (turn b)) 0) me.0 in
            let k : Kept e (record { words = set s.words (place_of e.shape (turn b)) 0; homes = put_back s.homes me.1; views = set s.views id (after e (block_event me.0 kind b x) (get_or s.words (place_of e.shape (turn b)) 0) me.0) }) =
            subst (λ (c : List (ℕ × Option BlockCells)). Kept e (record { words = set s.words (place_of e.shape (turn b)) 0; homes = put_back s.homes c; views = set s.views id w })) (sym lies) (give_kept kept id me.0 here kind b x given can live) in (
              w,
              gives,
              tt,
              k,
              record {
                view_is = refl;
                slots_are = refl;
                moment = record {
                  before = s;
                  now = record { words = set s.words (place_of e.shape (turn b)) 0; homes = put_back s.homes me.1; views = set s.views id w };
                  seat = id;
                  kept_before = kept;
                  kept_now = k;
                  was = here;
                  views_are = refl;
                  words_are = record { within = spot_here kept id me.0 here (block_event me.0 kind b x) can; found_is = ap (λ o. get_or s.words (place_of e.shape o) 0) (sym (give_spot kind)); words_are = λ j. set s.words (place_of e.shape (sym (give_spot kind) j)) (sym (none_left kind given n) j) };
                };
              },
            )
