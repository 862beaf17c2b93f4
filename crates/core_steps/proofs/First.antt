-- A table as it is made is sound.
use Rattle.std.proofs.Common.{◌≡◌, ◌≢◌, ℕ, zero, suc, ◌+◌, ◌-◌, ◌*◌, ◌^◌, ◌%◌, ◌<◌, ◌≤◌, ◌&&◌, Bool, true, false, cond, eqb, List, [], ◌∷◌, ◌++◌, length, replicate, get_or, set, length-set, arith, sym, ap, refl, ◌∙◌, subst, Option, Some, None}
use Rattle.std.proofs.lemmas.List.{length-replicate, get_or-replicate}
use mathlib.Core.Logic.{dite}
use native.Mathlib.Decide.{ℕ_discrete, dec_lt}
use Rattle.std.proofs.lemmas.Bool.{lt-ltb}
use Rattle.std.proofs.lemmas.Nat.{mod_below}
use Rattle.core_state.specs.Graph.{Setting, Sound}
use Rattle.core_state.specs.Words.{Shape, Spot, pending, stop, key, descriptor, notify, recovery, posted, turn, place_of, inside, read}
use Rattle.core_state.specs.Counts.{bump, in_hand, noted, total_of}
use Rattle.core_state.specs.Change.{block_of, held_by, cells_or}
use Rattle.core_state.specs.Invariant.{Invariant, Opening, first_word}
use Rattle.core_state.specs.Views.{bare, opener, all_parts, key_of}
use Rattle.core_state.specs.declared.block.BlockCells.{BlockCells}
use Rattle.core_state.specs.declared.views.View.{View}
use Rattle.graph_model.specs.declared.record.Record.{Record}
use Rattle.graph_model.specs.declared.record.Record.TheVariants as record_of
use Rattle.core_state.proofs.Base.Counting.{eqb_here}
use Rattle.core_state.proofs.Credit.JobView.{and_false}
use Rattle.core_state.proofs.Start.Keeps.{opening, opening_passed, opening_prevented}
use Rattle.core_state.proofs.Base.Words.{read_here, read_else}
use Rattle.core_steps.specs.Table.{Stored, IsSound, IsFilled, IsUnwritten, IsBare, first_words, first_views, word_count, core_by, home_at, is_kept, is_root_replaced}
use Rattle.core_steps.proofs.Changing.{low_place}
use Rattle.core_steps.proofs.Housing.{housed_first}

zero_there : (n i : ℕ) → ◌≡◌ {A = ℕ} (get_or (replicate n 0) i 0) 0
zero_there n i = dite (dec_lt i n) (λ l. get_or-replicate n i 0 0 l) (λ m. beyond n i m)
  where
    beyond : (n i : ℕ) → (i < n → ⊥) → ◌≡◌ {A = ℕ} (get_or (replicate n 0) i 0) 0
    beyond zero i m = refl
    beyond (suc n) zero m = refl
    beyond (suc n) (suc i) m = beyond n i (λ l. m (omega (arith, l)))

read_zero : (h : Shape) (n : ℕ) (a : Spot) → read h (replicate n 0) a ≡ 0
unfolding read
read_zero h n a = by (inside h a)
  where
    by : (t : Bool) → ◌≡◌ {A = ℕ} (cond t (get_or (replicate n 0) (place_of h a) 0) 0) 0
    by true = zero_there n (place_of h a)
    by false = refl

none_more : (n : ℕ) (f : View → ℕ) → f (bare 1 []) ≡ 0 → total_of (replicate n (bare 1 [])) f ≡ 0
unfolding total_of
none_more zero f z = refl
none_more (suc n) f z = let a = none_more n f z in omega (arith, a, z)

none_held : (n b : ℕ) → held_by b (replicate n (bare 1 [])) ≡ mathlib.Core.Option.none
none_held zero b = refl
none_held (suc n) b = none_held n b

-- the last entry of a list that has this length
pub last_fits : (xs ys : List ℕ) (b : ℕ) (cells : ℕ → ℕ) → xs ≡ ys → b + 1 ≡ length ys → ((n : ℕ) → n < length ys → get_or ys n 0 ≡ cells n) → get_or xs (length xs - 1) 0 ≡ cells b
last_fits xs ys b cells same long is = ap (λ zs. get_or zs (length zs - 1) 0) same ∙ ap (λ n. get_or ys n 0) (let a : length ys - 1 ≡ b = omega (arith, long) in a) ∙ is b (omega (arith, long))

module _ (e : Setting) (fit : Sound e) (workers : ℕ) (blocks : List (Option BlockCells)) (unwritten : IsUnwritten blocks) (root_is : e.graph.root ≡ 2 ^ 63) where
  row : ℕ
  row = e.graph.root % e.shape.rows

  row_low : e.graph.root % e.shape.rows < e.shape.rows
  row_low = mod_below e.graph.root e.shape.rows fit.some_row

  total_first : (f : View → ℕ) → ((q : ℕ) → f (bare q []) ≡ 0) → total_of (first_views e workers) f ≡ f (opener (all_parts - (workers - 1)) e.graph.root (e.graph.root % e.shape.rows))
  unfolding total_of
  total_first f z = let a = none_more (workers - 1) f (z 1) in omega (arith, a)

  with_pending : List ℕ
  with_pending = set (replicate (word_count e.shape) 0) 0 1

  long : length {A = ℕ} (set (replicate (word_count e.shape) 0) 0 1) ≡ word_count e.shape
  long = length-set (replicate (word_count e.shape) 0) 0 1 ∙ length-replicate (word_count e.shape) 0

  key_inside : inside e.shape (key (e.graph.root % e.shape.rows)) ≡ true
  key_inside = lt-ltb (e.graph.root % e.shape.rows) e.shape.rows row_low

  other_word : (a : Spot) → a ≢ key (e.graph.root % e.shape.rows) → a ≢ pending → read e.shape (first_words e) a ≡ 0
  other_word a x y = read_else e.shape (set (replicate (word_count e.shape) 0) 0 1) (key (e.graph.root % e.shape.rows)) a (e.graph.root + 1) key_inside x
      ∙ read_else e.shape (replicate (word_count e.shape) 0) pending a 1 refl y ∙ read_zero e.shape (word_count e.shape) a

  words_first : (a : Spot) → read e.shape (first_words e) a ≡ first_word e (core_by e.shape (first_words e) blocks (first_views e workers)) a
  words_first pending = read_else e.shape (set (replicate (word_count e.shape) 0) 0 1) (key (e.graph.root % e.shape.rows)) pending (e.graph.root + 1) key_inside (λ q. cc)
      ∙ read_here e.shape (replicate (word_count e.shape) 0) pending 1 refl (let a : length {A = ℕ} (replicate (word_count e.shape) 0) ≡ word_count e.shape = length-replicate (word_count e.shape) 0 in omega (arith, a))
  words_first stop = other_word stop (λ q. cc) (λ q. cc)
  words_first (key r) = dite (ℕ_discrete r (e.graph.root % e.shape.rows))
      (λ z. subst (λ x. read e.shape (first_words e) (key x) ≡ cond (eqb x (e.graph.root % e.shape.rows)) (suc e.graph.root) 0) (sym z)
      (read_here e.shape (set (replicate (word_count e.shape) 0) 0 1) (key (e.graph.root % e.shape.rows)) (e.graph.root + 1) key_inside (let a = low_place e.shape (key (e.graph.root % e.shape.rows)) key_inside in let b = long in omega (arith, a, b))
      ∙ (let one : e.graph.root + 1 ≡ suc e.graph.root = omega arith in one) ∙ sym (ap (λ (t : Bool). cond t (suc e.graph.root) 0) (eqb_here (e.graph.root % e.shape.rows)))))
      (λ ne. other_word (key r) (λ q. ne cc) (λ q. cc) ∙ sym (ap (λ (t : Bool). cond t (suc e.graph.root) 0) (Rattle.std.proofs.Common.ne_eqb r (e.graph.root % e.shape.rows) ne)))
  words_first (descriptor r) = other_word (descriptor r) (λ q. cc) (λ q. cc)
  words_first (notify r w) = other_word (notify r w) (λ q. cc) (λ q. cc)
  words_first (recovery r) = other_word (recovery r) (λ q. cc) (λ q. cc)
  words_first (posted j r) = other_word (posted j r) (λ q. cc) (λ q. cc)
  words_first (turn b) = other_word (turn b) (λ q. cc) (λ q. cc)

  block_first : (b : ℕ) → (core_by e.shape (first_words e) blocks (first_views e workers)).block b ≡ home_at blocks b
  unfolding block_of
  block_first b = ap (cells_or (home_at blocks b)) (none_held (workers - 1) b)

  pub opens : Opening e (core_by e.shape (first_words e) blocks (first_views e workers))
  opens = record {
    parts_of = all_parts - (workers - 1);
    words = words_first;
    views = total_first;
    never_written = λ b. subst (λ x. (x.tag ≡ 0) × (x.struck ≡ false)) (sym (block_first b)) (unwritten b);
  }

  holds_first : Invariant e (core_by e.shape (first_words e) blocks (first_views e workers))
  holds_first = opening e (core_by e.shape (first_words e) blocks (first_views e workers)) fit opens

  pub sound_first : (stores : List Stored) (cells : List ℕ) (room slots : ℕ) → length blocks ≡ e.shape.blocks → IsFilled cells blocks → ((b : ℕ) → b < length blocks → get_or cells b 0 ≡ e.graph.cells b) → IsBare stores → length stores ≡ workers → 1 ≤ workers → e.graph.block e.graph.root + 1 ≡ e.shape.blocks → room ≡ e.graph.cells (e.graph.block e.graph.root)
      → IsSound e (record { words = first_words e; views = first_views e workers; blocks = blocks; stores = stores; root_replaced = []; shape = e.shape; root_room = room; replaced_room = slots })
  sound_first stores cells room slots as_many filled graph_cells bares many least last fits = record {
    setting = fit;
    shape_is = refl;
    root_is = root_is;
    fits = length-set (set (replicate (word_count e.shape) 0) 0 1) (place_of e.shape (key (e.graph.root % e.shape.rows))) (e.graph.root + 1) ∙ long;
    holds = holds_first;
    passed = opening_passed e (core_by e.shape (first_words e) blocks (first_views e workers)) fit opens;
    prevented = opening_prevented e (core_by e.shape (first_words e) blocks (first_views e workers)) fit opens;
    keeps = record {
      others = λ q. bares q ∙ sym (total_first (noted (λ x. q x && is_kept e.graph.root x)) (λ y. refl) ∙ none (q (record_of.Created (key_of e.graph.root))) (λ (b : Bool). cond b false true) (eqb_here e.graph.root) refl);
      replaced = λ q. sym (total_first (noted (λ x. q x && is_root_replaced e.graph.root x)) (λ y. refl) ∙ none (q (record_of.Created (key_of e.graph.root))) (λ (b : Bool). b && false) (eqb_here e.graph.root) refl);
    };
    workers = let a = length-replicate (workers - 1) (bare 1 []) in let b : length (first_views e workers) ≡ workers = omega (arith, a, least) in many ∙ sym b;
    at_home = λ b x home. total_first (in_hand b) (λ y. refl);
    housed = housed_first e e.shape cells blocks (first_views e workers) as_many filled graph_cells (λ b. total_first (in_hand b) (λ y. refl)) block_first;
    root_last = last;
    room_is = fits;
  }
    where
      none : (a : Bool) (f : Bool → Bool) {x : Bool} → x ≡ true → f true ≡ false → bump (a && f x) 0 ≡ 0
      none a f is falls = ap (λ (b : Bool). bump (a && b) 0) (ap f is ∙ falls) ∙ ap (λ (b : Bool). bump b 0) (and_false a)

  pub sound_new : (stores : List Stored) (cells ys : List ℕ) (ws : List ℕ) (vs : List View) (rs : List Record) (h : Shape) (room slots : ℕ) → cells ≡ ys → length ys ≡ e.shape.blocks → length blocks ≡ length cells → IsFilled cells blocks → ((b : ℕ) → b < length ys → get_or ys b 0 ≡ e.graph.cells b) → IsBare stores → length stores ≡ workers → 1 ≤ workers → e.graph.block e.graph.root + 1 ≡ e.shape.blocks → room ≡ e.graph.cells (e.graph.block e.graph.root) → ws ≡ first_words e → vs ≡ first_views e workers → rs ≡ [] → h ≡ e.shape
      → IsSound e (record { words = ws; views = vs; blocks = blocks; stores = stores; root_replaced = rs; shape = h; root_room = room; replaced_room = slots })
  sound_new stores cells ys ws vs rs h room slots same shape_is as_many filled graph_cells bares many least last fits a b c d = subst (IsSound e) (λ j. record { words = sym a j; views = sym b j; blocks = blocks; stores = stores; root_replaced = sym c j; shape = sym d j; root_room = room; replaced_room = slots }) (sound_first stores cells room slots (as_many ∙ ap length same ∙ shape_is) filled (λ b low. ap (λ zs. get_or zs b 0) same ∙ graph_cells b (let a = ap length same in omega (arith, a, as_many, low))) bares many least last fits)
