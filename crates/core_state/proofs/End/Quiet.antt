-- With pending at 0 nobody has work left, and each key in a row has closed all its words: one that has not has a place whose predecessor has not either, and its rank is lower.
use Rattle.std.proofs.Common.{◌≡◌, ◌⊎◌, ℕ, zero, suc, ◌/◌, ◌<◌, Bool, true, eqb, List, [], ◌∷◌, length, ⊎_elim, inl, inr, arith, sym, ap, refl, ◌∙◌, subst}
use mathlib.Core.Logic.{dite}
use native.Mathlib.Decide.{ℕ_discrete}
use Rattle.core_state.specs.Graph.{Setting, Sound, Edge, Reached}
use Rattle.core_state.specs.Graph.Reached.{itself, through}
use Rattle.core_state.specs.Words.{Spot, descriptor, recovery, posted, life_of, standing_life, replacing}
use Rattle.core_state.specs.Counts.{hit, in_stacks, items, in_hand, stack_count}
use Rattle.core_state.specs.Tests.{two, explores, is_owed, carries, notifies, reenters, is_renew, is_renew_of, is_suspect, is_of, is_spent, is_computed, is_written, is_version, is_closed, is_closing}
use Rattle.core_state.specs.Change.{Core, Sums, many}
use Rattle.core_state.specs.Laws.{AllClosed}
use Rattle.core_state.specs.Rows.{HasKey, HasRow}
use Rattle.core_state.specs.Work.{posted_count}
use Rattle.core_state.specs.Blocks.{Holds}
use Rattle.core_state.specs.Cover.{covers_self, covers_edge, works, Needs, Waiting}
use Rattle.core_state.specs.Invariant.{Invariant, IsQuiet, Finished}
use Rattle.core_state.specs.declared.block.BlockCells.{BlockCells}
use Rattle.core_state.specs.declared.job.Job.{Job}
use Rattle.core_state.specs.declared.job.Job.TheVariants.{Explore, Compute}
use Rattle.core_state.specs.declared.views.Item.{Item}
use Rattle.core_state.specs.declared.views.Stack.{Stack}
use Rattle.core_state.specs.declared.views.View.{View}
use Rattle.graph_model.specs.declared.record.Record.{Record}
use Rattle.graph_model.specs.declared.record.Record.TheVariants as record_of
use Rattle.core_state.proofs.Base.Counting.{not_here, two_here, two_tells}
use Rattle.core_state.proofs.Blocks.Versions.{many_some, reached_writing, version_written, writes_version}

none_items : (p : Item → Bool) (ss : List Stack) → length ss ≡ 0 → in_stacks p ss ≡ 0
none_items p [] z = refl
none_items p (x ∷ xs) z = absurd (omega (arith, z))

none_posted : (w : Spot → ℕ) (n : ℕ) → posted_count w n ≡ 0 → (j : Job) (r : ℕ) → r < n → w (posted j r) ≡ 0
none_posted w zero z j r low = absurd (omega (arith, low))
none_posted w (suc n) z j r low = dite (ℕ_discrete r n) (λ q. subst (λ x. w (posted j x) ≡ 0) (sym q) (last j)) (λ ne. none_posted w n (omega (arith, z)) j r (omega (arith, low, ne)))
  where
    last : (j : Job) → w (posted j n) ≡ 0
    last Explore = omega (arith, z)
    last Compute = omega (arith, z)

-- either all of the first n numbers are above 0, or one is 0
pub all_or_one : (f : ℕ → ℕ) (n : ℕ) → ((j : ℕ) → j < n → 0 < f j) ⊎ ((j : ℕ) × (j < n) × (f j ≡ 0))
all_or_one f zero = inl (λ j low. absurd (omega (arith, low)))
all_or_one f (suc n) = ⊎_elim
    (λ all. dite (ℕ_discrete (f n) 0) (λ z. inr (n, omega arith, z)) (λ ne. inl (λ j low. dite (ℕ_discrete j n) (λ q. let a = ap f q in omega (arith, a, ne)) (λ other. all j (omega (arith, low, other))))))
    (λ one. inr (one.0, (let a = one.1 in omega (arith, a)), one.2)) (all_or_one f n)

module _ (e : Setting) (fit : Sound e) (s : Core) (sums : Sums s) (i : Invariant e s) (quiet : IsQuiet e s) where
  idle : (f : View → ℕ) → ((v : View) → stack_count v ≡ 0 → f v ≡ 0) → s.total f ≡ 0
  idle f h = sums.none stack_count f h (let a = i.work.credits.sum in omega (arith, a, quiet))

  pub no_items : (p : Item → Bool) → s.total (items p) ≡ 0
  no_items p = idle (items p) (λ v z. none_items p v.stacks z)

  not_posted : (j : Job) (r l n : ℕ) → r < e.shape.rows → l ≡ life_of n → hit (eqb l (s.word (posted j r))) ≡ 0
  not_posted j r l n low is = not_here l (s.word (posted j r)) (λ q. let a = none_posted s.word e.shape.rows (let b = i.work.credits.sum in omega (arith, b, quiet)) j r low in omega (arith, a, q, is))

  no_self : (k l j : ℕ) → s.total (covers_self k l j) ≡ 0
  no_self k l j = idle (covers_self k l j) (λ v z. let a = none_items (explores k l j) v.stacks z in let b = none_items (is_owed Explore k l) v.stacks z in let c = none_items (is_suspect k l) v.stacks z in omega (arith, a, b, c))

  no_edge : (p q : ℕ) → s.total (covers_edge p q) ≡ 0
  no_edge p q = idle (covers_edge p q) (λ v z. let a = none_items (notifies p q) v.stacks z in let b = none_items (is_renew p) v.stacks z in let c = none_items (reenters p q) v.stacks z in omega (arith, a, b, c))

  no_works : (k l : ℕ) → s.total (works k l) ≡ 0
  no_works k l = idle (works k l) (λ v z. let a = none_items (is_owed Compute k l) v.stacks z in let b = none_items (carries Compute k l) v.stacks z in let c = none_items (is_suspect k l) v.stacks z in
      let d = none_items (is_renew_of k l) v.stacks z in omega (arith, a, b, c, d))

  -- no life is being replaced
  pub stands : (r k : ℕ) → HasKey e s r k → replacing (s.word (recovery r)) ≡ 0
  stands r k has = sym (i.lives.each r k has).renewing ∙ no_items (is_renew k)

  -- the life that stands
  abbrev pub life_in : ℕ → ℕ
  life_in r = standing_life (s.word (recovery r))

  shown : (r k : ℕ) → HasKey e s r k → life_of (s.word (descriptor r)) ≡ life_in r
  shown r k has = ((i.lives.each r k has).standing (stands r k has)).descriptor_life

  abbrev pub Done : ℕ → ℕ → Type 0
  Done k l = AllClosed e.graph e.plan (many s) k l

  module _ (r k : ℕ) (has : HasKey e s r k) where
    needs : (j : ℕ) → many s (is_spent k (life_of (s.word (descriptor r))) j) ≡ 0 → Needs e s r k (life_of (s.word (descriptor r))) j
    needs j none = record { has_key = has; stands = stands r k has; life_stands = sym (shown r k has); life_shown = refl; unspent = none }

    spent_self : many s (is_spent k (life_of (s.word (descriptor r))) 40) ≡ 0 → ⊥
    spent_self none = let a = i.cover.self_place r k (life_of (s.word (descriptor r))) (needs 40 none) in let b = no_self k (life_of (s.word (descriptor r))) 40 in
        let c = not_posted Explore r (life_of (s.word (descriptor r))) (s.word (descriptor r)) has.0 refl in omega (arith, a, b, c)

    -- the word at which an unspent place waits is open, so its task has not closed all words
    spent_place : ((t p : ℕ) → e.graph.rank p < e.graph.rank k → HasKey e s t p → Done p (life_in t)) → (j : ℕ) → j < e.graph.places k → many s (is_spent k (life_of (s.word (descriptor r))) j) ≡ 0 → ⊥
    spent_place below j low none = let x : Edge = e.graph.pred k j in ⊎_elim
        (λ z. let a = no_self k (life_of (s.word (descriptor r))) j in let b = no_edge x.task x.port in let c = not_posted Explore r (life_of (s.word (descriptor r))) (s.word (descriptor r)) has.0 refl in omega (arith, a, b, c, z))
        (λ (z : Waiting e s x.task x.port). let fits = fit.lawful.enough_words x.task x.port (fit.lawful.back k j low).0 in
        let closed = below z.row x.task (fit.lawful.falls k j low) z.has_key (x.port / 40) fits in
        let same = ((i.lives.each z.row x.task z.has_key).standing (stands z.row x.task z.has_key)).notify_life (x.port / 40) fits in
        let open_word = z.open_word in let b = ap (λ y. many s (is_closed x.task y (x.port / 40))) same in omega (arith, closed, open_word, b))
        (i.cover.places r k (life_of (s.word (descriptor r))) j (needs j none) low)

    turn : ((t p : ℕ) → e.graph.rank p < e.graph.rank k → HasKey e s t p → Done p (life_in t)) → Done k (life_in r)
    turn below = subst (Done k) (shown r k has) (⊎_elim
        (λ all. ⊎_elim
        (λ z. absurd (let a = no_works k (life_of (s.word (descriptor r))) in let c = not_posted Compute r (life_of (s.word (descriptor r))) (s.word (descriptor r)) has.0 refl in omega (arith, a, c, z)))
        (λ z. z)
        (i.activity.each r k has (λ j place. ⊎_elim (all j) (λ q. let a = ap (λ y. many s (is_spent k (life_of (s.word (descriptor r))) y)) q in
        dite (ℕ_discrete (many s (is_spent k (life_of (s.word (descriptor r))) 40)) 0) (λ z. absurd (spent_self z)) (λ ne. omega (arith, a, ne))) place)))
        (λ one. absurd (spent_place below one.0 one.1 one.2))
        (all_or_one (λ j. many s (is_spent k (life_of (s.word (descriptor r))) j)) (e.graph.places k)))

  by_rank : (fuel r k : ℕ) → e.graph.rank k < fuel → HasKey e s r k → Done k (life_in r)
  by_rank zero r k low has = absurd (omega (arith, low))
  by_rank (suc fuel) r k low has = turn r k has (λ t p less it. by_rank fuel t p (omega (arith, low, less)) it)

  pub all_closed : (r k : ℕ) → HasKey e s r k → Done k (life_in r)
  all_closed r k has = by_rank (suc (e.graph.rank k)) r k (omega arith) has

  -- such a key has written and made its result, and spent its places
  pub has_written : (r k : ℕ) → HasKey e s r k → 0 < many s (is_written k (life_in r))
  has_written r k has = i.records.computed.closed_written k (life_in r) 0 (all_closed r k has 0 (fit.lawful.some_word k))

  pub has_computed : (r k : ℕ) → HasKey e s r k → 0 < many s (is_computed k (life_in r))
  has_computed r k has = i.records.computed.written_computed k (life_in r) (has_written r k has)

  -- the key of a record has a row
  pub row_named : (k l : ℕ) → 0 < many s (is_of k l) → HasRow e s k
  row_named k l z = i.keys.of_created k (let a = i.records.lives.created_once k l z in omega (arith, a))

  closing_row : (p w : ℕ) → 0 < many s (is_closing p w) → HasRow e s p
  closing_row p w z = let r = many_some e fit s sums i.records (is_closing p w) z in of r.0 r.1 r.2
    where
      of : (x : Record) → is_closing p w x ≡ true → ((q : Record → Bool) → q x ≡ true → 0 < many s q) → HasRow e s p
      of (record_of.Closed a m u) t tests = ⊎_elim (λ z. absurd cc) (λ z. row_named p m (tests (is_of p m) (ap (λ y. two y m a.0 m) z.1 ∙ two_here a.0 m))) (two_tells p w a.0 u)
      of x t tests = absurd cc

  -- each predecessor of a key in a row has a row, and so has each key that can be reached
  pub pred_row : (r k j : ℕ) → HasKey e s r k → j < e.graph.places k → HasRow e s (e.graph.pred k j).task
  pred_row r k j has low = closing_row (e.graph.pred k j).task ((e.graph.pred k j).port / 40) (i.records.edges.closed k (life_in r) j low (i.records.computed.computed_ready k (life_in r) j (has_computed r k has) (inl low)))

  pub reached_row : (k : ℕ) → Reached e.graph k → HasRow e s k
  reached_row _ itself = i.keys.of_root
  reached_row _ (through k j r low) = let x = reached_row k r in pred_row x.0 k j x.1 low

  root_version : 0 < many s (is_version (e.graph.block e.graph.root) 1)
  root_version = let x = i.keys.of_root in subst (λ y. 0 < many s (is_version (e.graph.block e.graph.root) y)) fit.lawful.root_block.0.1 (writes_version e fit s sums i.records e.graph.root (life_in x.0) (has_written x.0 e.graph.root x.1))

  root_holds : Holds e s (e.graph.block e.graph.root) (s.block (e.graph.block e.graph.root))
  root_holds = (i.blocks.each (e.graph.block e.graph.root) (fit.blocks_fit e.graph.root itself)).holds

  root_full : 0 < (s.block (e.graph.block e.graph.root)).tag
  root_full = let b : ℕ = e.graph.block e.graph.root in let x : BlockCells = s.block b in dite (ℕ_discrete x.tag 0)
      (λ z. absurd (let a = root_holds.twice 1 (omega (arith, z)) root_version in
      let w = version_written e fit s sums i.records b x.tag (omega (arith, a)) in let from = (fit.lawful.from_one (e.graph.writer b x.tag) (reached_writing e fit s sums i.records (e.graph.writer b x.tag) w.0 w.1)).0 in
      let is = w.3 in omega (arith, from, is, z)))
      (λ ne. omega (arith, ne))

  root_writer : (e.graph.writer (e.graph.block e.graph.root) (s.block (e.graph.block e.graph.root)).tag ≡ e.graph.root) × (e.graph.version (e.graph.writer (e.graph.block e.graph.root) (s.block (e.graph.block e.graph.root)).tag) ≡ (s.block (e.graph.block e.graph.root)).tag)
  root_writer = let b : ℕ = e.graph.block e.graph.root in let x : BlockCells = s.block b in let w = version_written e fit s sums i.records b x.tag (root_holds.written root_full) in (fit.lawful.root_block.1 (e.graph.writer b x.tag) w.2, w.3)

  root_tag : (s.block (e.graph.block e.graph.root)).tag ≡ 1
  root_tag = sym root_writer.1 ∙ ap e.graph.version root_writer.0 ∙ fit.lawful.root_block.0.1

  -- nobody has it in hand
  pub root_home : s.total (in_hand (e.graph.block e.graph.root)) ≡ 0
  root_home = dite (ℕ_discrete (s.total (in_hand (e.graph.block e.graph.root))) 0) (λ z. z) (λ ne. absurd (let a = i.work.root.unwritten (omega (arith, ne)) in let b = root_tag in omega (arith, a, b)))

  -- a quiet core is finished
  pub finished : Finished e s
  finished = let x = i.keys.of_root in let p = fit.lawful.root_places in
      let y : HasRow e s e.graph.sink = subst (HasRow e s) p.2 (pred_row x.0 e.graph.root 0 x.1 (let a = p.0 in omega (arith, a))) in record {
        row = y.0;
        has_key = y.1;
        stands = stands y.0 e.graph.sink y.1;
        closed = all_closed y.0 e.graph.sink y.1;
        root_tag = root_tag;
        root_cells = root_holds.good (root_holds.root refl) root_full ∙ ap e.graph.value root_writer.0 ∙ fit.lawful.root_value;
      }
