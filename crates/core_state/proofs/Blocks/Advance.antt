-- A computing goes on: its item becomes the next one of the same job, and perhaps a record of its result comes. The parts that read neither.
use Rattle.std.proofs.Common.{◌≡◌, ◌≢◌, ◌⊎◌, ℕ, ◌+◌, ◌-◌, ◌/◌, ◌≤◌, ◌<◌, Bool, false, cond, ◌&&◌, eqb, nat_lt, min, List, ◌∷◌, ⊎_elim, arith, sym, ap, refl, ◌∙◌}
use Rattle.core_state.specs.Graph.{Setting}
use Rattle.core_state.specs.Words.{Spot, pending, stop, key, descriptor, notify, recovery, posted, turn, spot_of, life_shown, mark_shown, standing_life, replacing}
use Rattle.core_state.specs.Counts.{hit, count, items, in_stacks, owed, held, ended, begun, came, facts, struck_by, struck_idly, struck_upto, stack_count, spare, too_many}
use Rattle.core_state.specs.Tests.{is_at, is_owed, is_owe, carries, explores, is_notify, is_renew, is_renew_at, is_renew_of, is_suspect, is_suspect_for, is_any_suspect, suspects_block, notifies, reenters, is_row, is_idle, is_stopped, is_stops, is_seen_life, is_seen_mark, is_seen_closed, waits_at, strikes_upto, job_of, is_created, is_spent, is_computed, is_closed, is_closing, is_struck, is_struck_version, is_struck_upto, is_misstruck, is_replaced, is_replaced_for, is_of, is_version}
use Rattle.core_state.specs.Change.{Core, Change, Shift, many}
use Rattle.core_state.specs.Laws.{ComputedOnce}
use Rattle.core_state.specs.Rows.{Keys, Empty, Lives, Content, Facts}
use Rattle.core_state.specs.Work.{Credits, Jobs}
use Rattle.core_state.specs.Blocks.{Holds}
use Rattle.core_state.specs.Records.{Records, Causes, Strikes}
use Rattle.core_state.specs.Cover.{covers_self, covers_edge, works, Cover, Activity}
use Rattle.core_state.specs.Invariant.{Invariant}
use Rattle.graph_model.specs.declared.record.Cause.{Cause}
use Rattle.graph_model.specs.declared.record.Hit.{Hit}
use Rattle.graph_model.specs.declared.record.Record.{Record}
use Rattle.core_state.specs.declared.block.BlockCells.{BlockCells}
use Rattle.core_state.specs.declared.job.Job.{Job}
use Rattle.core_state.specs.declared.job.Job.TheVariants.{Explore, Compute}
use Rattle.core_state.specs.declared.views.Item.{Item}
use Rattle.core_state.specs.declared.views.Item.TheVariants as item
use Rattle.core_state.specs.declared.views.Known.{Known}
use Rattle.core_state.specs.declared.views.Stack.{Stack}
use Rattle.core_state.specs.declared.views.Word.{Word}
use Rattle.core_state.specs.declared.views.View.{View}
use Rattle.core_state.specs.Views.{on_top}
use Rattle.core_state.proofs.Base.Counting.{bump_is}
use Rattle.core_state.proofs.Base.Frame.{had, keys_stay, frame_empty, posted_same}
use Rattle.core_state.proofs.Base.ItemMoves.{swapped}
use Rattle.core_state.proofs.Base.RecordFrame.{wide_content}
use Rattle.core_state.proofs.Base.WeakFrame.{wide_lives, wide_jobs, wide_causes, wide_strikes, wide_facts, wide_cover, wide_activity, wide_holds}

-- one view changes, and no word but turn words
pub record Onward (s t : Core) (v w : View) : Type 0 where
  pub words : (a : Spot) → ((b : ℕ) → turn b ≢ a) → t.word a ≡ s.word a
  pub sums : (f : View → ℕ) → t.total f + f v ≡ s.total f + f w
  pub within : (f : View → ℕ) → f v ≤ s.total f

pub shift_onward : (s t : Core) (v w : View) → Shift s t v w → Onward s t v w
shift_onward s t v w c = record { words = λ a ne. c.words a; sums = c.sums; within = c.within }

pub turn_onward : (s t : Core) (b n m : ℕ) (v w : View) → Change s t (turn b) n m v w → Onward s t v w
turn_onward s t b n m v w c = record { words = λ a ne. c.others a (λ q. ne b (sym q)); sums = c.sums; within = c.within }

-- a test that no item of a computing passes
pub record Beside (p : Item → Bool) : Type 0 where
  pub compute : (k l n : ℕ) (a b : Bool) → p (item.Compute k l a n b) ≡ false
  pub close : (k l w : ℕ) → p (item.Close k l w) ≡ false

-- the item x of a computing became y
pub record Advance (x y : Item) (v w : View) : Type 0 where
  pub its : (p : Item → Bool) → items p w + hit (p x) ≡ items p v + hit (p y)
  pub before : (p : Item → Bool) → Beside p → p x ≡ false
  pub after : (p : Item → Bool) → Beside p → p y ≡ false
  pub same_key : (m : ℕ) → is_at m y ≡ is_at m x
  pub same_job : (i : Job) (m l : ℕ) → carries i m l y ≡ carries i m l x
  pub comes : (i : Job) (m l : ℕ) → came i m l w ≡ came i m l v
  pub stacks_as_many : stack_count w ≡ stack_count v
  pub spare_same : spare w ≡ spare v
  pub ended_are : w.ended ≡ v.ended
  pub known_are : w.known ≡ v.known

-- records of results alone come
pub record Results (s t : Core) : Type 0 where
  pub more : (p : Record → Bool) → many s p ≤ many t p
  pub created : (m : ℕ) → many t (is_created m) ≡ many s (is_created m)
  pub spent : (m l j : ℕ) → many t (is_spent m l j) ≡ many s (is_spent m l j)
  pub closed : (m l d : ℕ) → many t (is_closed m l d) ≡ many s (is_closed m l d)
  pub struck : (m l : ℕ) (h : Hit) → many t (is_struck m l h) ≡ many s (is_struck m l h)
  pub struck_upto : (m l : ℕ) (h : Hit) → many t (is_struck_upto m l h) ≡ many s (is_struck_upto m l h)
  pub misstruck : (g : Rattle.core_state.specs.Graph.Graph) → many t (is_misstruck g) ≡ many s (is_misstruck g)
  pub replaced : (m l : ℕ) → many t (is_replaced m l) ≡ many s (is_replaced m l)
  pub replaced_for : (m l : ℕ) (d : Cause) → many t (is_replaced_for m l d) ≡ many s (is_replaced_for m l d)

-- the topmost item x becomes y
pub advanced_items : (p : Item → Bool) (f : List Item → List Item) (ss rest : List Stack) (u : Stack) (x y : Item) (xs : List Item) → ss ≡ u ∷ rest → u.items ≡ x ∷ xs → f (x ∷ xs) ≡ y ∷ xs → in_stacks p (on_top f ss) + hit (p x) ≡ in_stacks p ss + hit (p y)
advanced_items p f ss rest u x y xs is has gives = let a = swapped p f ss rest u x xs (y ∷ xs) is has gives in let b = bump_is (p y) (count p xs) in omega (arith, a, b)

module _ (e : Setting) (s t : Core) (x y : Item) (v w : View) (c : Onward s t v w) (u : Advance x y v w) (n : Results s t) (inv : Invariant e s) where
  eq : (f : View → ℕ) → f w ≡ f v → t.total f ≡ s.total f
  eq f q = let a = c.sums f in omega (arith, a, q)

  pub beside : (p : Item → Bool) → Beside p → items p w ≡ items p v
  beside p q = let a = u.its p in let b = ap hit (u.before p q) in let d = ap hit (u.after p q) in omega (arith, a, b, d)

  pub it : (p : Item → Bool) → Beside p → t.total (items p) ≡ s.total (items p)
  it p q = eq (items p) (beside p q)

  pub fact : (p : Known → Bool) → t.total (facts p) ≡ s.total (facts p)
  fact p = eq (facts p) (ap (count p) u.known_are)

  pub holds_same : (i : Job) (m l : ℕ) → held i m l w ≡ held i m l v
  holds_same i m l = let a = u.its (carries i m l) in let b = ap hit (u.same_job i m l) in omega (arith, a, b)

  pub ends_same : (i : Job) (m l : ℕ) → ended i m l w ≡ ended i m l v
  ends_same i m l = ap (count (Rattle.core_state.specs.Tests.is_ended i m l)) u.ended_are

  pub begins_same : (i : Job) (m l : ℕ) → begun i m l w ≡ begun i m l v
  begins_same i m l = let a = holds_same i m l in let b = ends_same i m l in omega (arith, a, b)

  pub keys_same : (r : ℕ) → t.word (key r) ≡ s.word (key r)
  keys_same r = c.words (key r) (λ b q. cc)

  pub recovery_same : (r : ℕ) → t.word (recovery r) ≡ s.word (recovery r)
  recovery_same r = c.words (recovery r) (λ b q. cc)

  pub word_same : (r : ℕ) (z : Word) → t.word (spot_of r z) ≡ s.word (spot_of r z)
  word_same r Rattle.core_state.specs.declared.views.Word.TheVariants.Descriptor = c.words (descriptor r) (λ b q. cc)
  word_same r (Rattle.core_state.specs.declared.views.Word.TheVariants.Notify d) = c.words (notify r d) (λ b q. cc)
  word_same r Rattle.core_state.specs.declared.views.Word.TheVariants.Recovery = c.words (recovery r) (λ b q. cc)

  pub shown : (r : ℕ) (z : Word) → (life_shown z (t.word (spot_of r z)) ≡ life_shown z (s.word (spot_of r z))) × (mark_shown z (t.word (spot_of r z)) ≡ mark_shown z (s.word (spot_of r z)))
  shown r z = (ap (life_shown z) (word_same r z), ap (mark_shown z) (word_same r z))

  pub post_same : (i : Job) (r l : ℕ) → hit (eqb l (t.word (posted i r))) ≡ hit (eqb l (s.word (posted i r)))
  post_same i r l = ap (λ o. hit (eqb l o)) (c.words (posted i r) (λ b q. cc))

  pub owes_same : (i : Job) (m l : ℕ) → t.total (owed i m l) ≡ s.total (owed i m l)
  owes_same i m l = it (is_owed i m l) record { compute = λ k l n a b. refl; close = λ k l w. refl }

  pub advance_keys : Keys e t
  advance_keys = keys_stay e s t keys_same (λ r m z. inv.keys.known r m (let a = fact (is_row r m) in omega (arith, a, z)))
      (λ m z. inv.keys.of_item m (let a = eq (items (is_at m)) (let b = u.its (is_at m) in let d = ap hit (u.same_key m) in omega (arith, b, d)) in omega (arith, a, z)))
      (λ i m l z. inv.keys.of_ended i m l (let a = eq (ended i m l) (ends_same i m l) in omega (arith, a, z))) (λ p l q z. inv.keys.of_waiting p l q (let a = fact (waits_at p l q) in omega (arith, a, z)))
      (λ p q z. inv.keys.of_notify p q (let a = it (notifies p q) record { compute = λ k l n a b. refl; close = λ k l w. refl } in omega (arith, a, z)))
      (λ b d z. inv.keys.of_cause b d (let a = it (suspects_block b d) record { compute = λ k l n a b. refl; close = λ k l w. refl } in omega (arith, a, z))) n.created inv.keys

  pub advance_empty : Empty e t
  advance_empty = frame_empty e s t keys_same (λ r. c.words (descriptor r) (λ b q. cc)) (λ r d. c.words (notify r d) (λ b q. cc)) recovery_same (λ i r. c.words (posted i r) (λ b q. cc)) inv.empty

  pub advance_lives : Lives e t
  advance_lives = wide_lives e s t keys_same recovery_same shown (λ m. it (is_renew m) record { compute = λ k l n a b. refl; close = λ k l w. refl }) (λ m l d. it (is_renew_at m l d) record { compute = λ k l n a b. refl; close = λ k l w. refl })
      (λ r m l old z. (inv.lives.each r m old).suspected l (let a = it (is_suspect m l) record { compute = λ k l n a b. refl; close = λ k l w. refl } in omega (arith, a, z))) inv.lives

  pub advance_content : Content e t
  advance_content = wide_content e s t keys_same (λ r. c.words (descriptor r) (λ b q. cc)) (λ r d. c.words (notify r d) (λ b q. cc)) n.spent n.closed n.struck (λ m l q. fact (waits_at m l q)) inv.content

  pub advance_facts : Facts e t
  advance_facts = wide_facts e s t keys_same shown n.more (λ r m l z old some. inv.facts.life r m l z old (let a = fact (is_seen_life m z l) in omega (arith, a, some))) (λ r m l z old some. inv.facts.mark r m l z old (let a = fact (is_seen_mark m z l) in omega (arith, a, some)))
      (λ m l z some. inv.facts.row_of_life m l z (let a = fact (is_seen_life m z l) in omega (arith, a, some))) (λ m l z some. inv.facts.row_of_mark m l z (let a = fact (is_seen_mark m z l) in omega (arith, a, some))) (λ m l d some. inv.facts.closed m l d (let a = fact (is_seen_closed m l d) in omega (arith, a, some)))
      (λ z. c.words pending (λ b q. cc) ∙ inv.facts.idle (let a = fact is_idle in omega (arith, a, z))) (λ z. c.words stop (λ b q. cc) ∙ inv.facts.stopped (let a = fact is_stopped in omega (arith, a, z))) (c.words stop (λ b q. cc) ∙ inv.facts.stops ∙ ap (min 1) (sym (fact is_stops)))

  pub advance_credits : Credits e t
  advance_credits = record {
    sum = let a = posted_same s.word t.word e.shape.rows (λ i r. c.words (posted i r) (λ b q. cc)) in let b = eq stack_count u.stacks_as_many in let d = eq spare u.spare_same in let f = c.words pending (λ b q. cc) in let g = inv.work.credits.sum in omega (arith, a, b, d, f, g);
    few_spare = let a = c.sums too_many in let b = beside is_owe record { compute = λ k l n a b. refl; close = λ k l w. refl } in let d = u.spare_same in let f : too_many w ≡ too_many v = omega (arith, b, d) in let g = inv.work.credits.few_spare in omega (arith, a, f, g);
  }

  pub job_same : (i : Job) (r m l : ℕ) → Rattle.core_state.specs.Work.job_count e t i r m l ≡ Rattle.core_state.specs.Work.job_count e s i r m l
  job_same i r m l = let a = owes_same i m l in let b = eq (held i m l) (holds_same i m l) in let d = eq (ended i m l) (ends_same i m l) in let f = post_same i r l in omega (arith, a, b, d, f)

  pub advance_jobs : Jobs e t
  advance_jobs = wide_jobs e s t keys_same shown recovery_same (λ i r m l old some. job_same i r m l)
      (λ i m. let a = owes_same i m 0 in let b = eq (held i m 0) (holds_same i m 0) in let d = eq (ended i m 0) (ends_same i m 0) in let f = inv.work.jobs.some_life i m in omega (arith, a, b, d, f))
      (λ i m l. let a = eq (came i m l) (u.comes i m l) in let b = eq (begun i m l) (begins_same i m l) in let d = inv.work.jobs.came i m l in omega (arith, a, b, d)) n.more inv.work.jobs

  pub advance_causes : Causes e t
  advance_causes = wide_causes e s t n.more n.replaced_for (λ m l d z. inv.causes.suspected m l d (let a = it (is_suspect_for m l d) record { compute = λ k l n a b. refl; close = λ k l w. refl } in omega (arith, a, z))) inv.causes

  pub advance_strikes : w.strikes ≡ v.strikes → Strikes e t
  advance_strikes q = wide_strikes e s t keys_same shown n.more (λ d. eq (struck_by d) (ap (count (eqb d)) q))
      (λ d z. let a = eq (struck_idly d z) (ap (λ o. cond (eqb o 0) (struck_by z w) 0) (begins_same (job_of d.point) d.key.0 d.life) ∙ ap (λ o. cond (eqb (begun (job_of d.point) d.key.0 d.life v) 0) (count (eqb z) o) 0) q) in omega (arith, a))
      (λ m l h. eq (struck_upto e.plan m l h) (ap (count (strikes_upto e.plan m l h)) q)) n.struck_upto inv.strikes

  pub advance_cover : Cover e t
  advance_cover = wide_cover e s t keys_same shown recovery_same (λ m l i z. sym (n.spent m l i) ∙ z) (λ m l d z. n.closed m l d ∙ z) (λ m l q z. let a = fact (waits_at m l q) in omega (arith, a, z))
      (λ r m l i old some. let a = c.sums (covers_self m l i) in let b = beside (explores m l i) record { compute = λ k l n a b. refl; close = λ k l w. refl } in let d = beside (is_owed Explore m l) record { compute = λ k l n a b. refl; close = λ k l w. refl } in
      let f = beside (is_suspect m l) record { compute = λ k l n a b. refl; close = λ k l w. refl } in let g = post_same Explore r l in omega (arith, a, b, d, f, g))
      (λ p q. let a = c.sums (covers_edge p q) in let b = beside (notifies p q) record { compute = λ k l n a b. refl; close = λ k l w. refl } in let d = beside (is_renew p) record { compute = λ k l n a b. refl; close = λ k l w. refl } in
      let f = beside (reenters p q) record { compute = λ k l n a b. refl; close = λ k l w. refl } in omega (arith, a, b, d, f)) inv.cover

  pub advance_activity : Activity e t
  advance_activity = wide_activity e s t keys_same shown n.more (λ m l i z. let a = n.spent m l i in omega (arith, a, z))
      (λ r m l old some. let a = c.sums (works m l) in let b = beside (is_owed Compute m l) record { compute = λ k l n a b. refl; close = λ k l w. refl } in let d = holds_same Compute m l in let f = beside (is_suspect m l) record { compute = λ k l n a b. refl; close = λ k l w. refl } in
      let g = beside (is_renew_of m l) record { compute = λ k l n a b. refl; close = λ k l w. refl } in let h = post_same Compute r l in omega (arith, a, b, d, f, g, h)) inv.activity

  -- the new record is of a life of which a record stands
  pub advance_records : ((m l : ℕ) → (many t (is_of m l) ≡ many s (is_of m l)) ⊎ (0 < many s (is_of m l))) → ComputedOnce e.graph (many t) → Records e t
  advance_records of computed = record {
    spent = record { once = λ m l i. let a = n.spent m l i in let b = inv.records.spent.once m l i in omega (arith, a, b); is_place = λ m l i z. inv.records.spent.is_place m l i (let a = n.spent m l i in omega (arith, a, z)) };
    computed = computed;
    lives = record {
      replaced_before = λ m l later z. let a = inv.records.lives.replaced_before m l later (before m l z) in let b = n.more (is_replaced m (l - 1)) in omega (arith, a, b);
      created_once = λ m l z. n.created m ∙ inv.records.lives.created_once m l (before m l z);
      reached = λ m l z. inv.records.lives.reached m l (before m l z);
    };
    edges = record { closed = λ m l i low z. let a = inv.records.edges.closed m l i low (let b = n.spent m l i in omega (arith, b, z)) in let d = n.more (is_closing (e.graph.pred m i).task ((e.graph.pred m i).port / 40)) in omega (arith, a, d) };
    some_life = λ m. let z = inv.records.some_life m in ⊎_elim (λ q. q ∙ z) (λ q. absurd (omega (arith, q, z))) (of m 0);
    replaced = λ r m l it'. n.replaced m l ∙ inv.records.replaced r m l (had e s t keys_same r m it') ∙ ap (λ o. hit (nat_lt 0 l && nat_lt l (standing_life o + replacing o))) (sym (recovery_same r));
    names_own = n.misstruck e.graph ∙ inv.records.names_own;
  }
    where
      before : (m l : ℕ) → 0 < many t (is_of m l) → 0 < many s (is_of m l)
      before m l z = ⊎_elim (λ q. omega (arith, q, z)) (λ q. q) (of m l)

  -- a block of which no version was written now
  pub advance_holds : (b : ℕ) (o : BlockCells) → ((d : ℕ) → many t (is_version b d) ≡ many s (is_version b d)) → Holds e s b o → Holds e t b o
  advance_holds b o same i = wide_holds e s t n.more b same o i
