-- Loading a descriptor keeps every part, also where computing is loaded or dropped, a port is passed over, or a suspect comes.
use Rattle.std.proofs.Common.{◌≡◌, ◌≢◌, ◌⊎◌, ℕ, ◌+◌, ◌<◌, ◌≤◌, Bool, true, false, cond, ◌&&◌, eqb, List, ◌∷◌, ⊎_elim, inl, inr, arith, sym, ap, refl, ◌∙◌, subst}
use mathlib.Core.Logic.{dite}
use native.Mathlib.Decide.{ℕ_discrete, dec_lt}
use Rattle.std.specs.Int.{bit_at}
use Rattle.std.proofs.lemmas.Bool.{lt-ltb}
use Rattle.core_state.specs.Graph.{Setting, Sound, Edge}
use Rattle.core_state.specs.Words.{descriptor, recovery, life_of, mark_of, standing_life, replacing}
use Rattle.core_state.specs.Counts.{bump, count, items, held, in_hand}
use Rattle.core_state.specs.Tests.{two, explores, is_owed, is_owe, is_ended, carries, is_at, is_renew, is_renew_of, is_renew_at, is_unmade, is_compute, is_made, is_made_any, is_close, is_close_from, is_notify, notifies, reenters, is_suspect, is_suspect_for, is_any_suspect, suspects_block, is_struck, is_spent, is_computed, is_replaced, is_seen_closed, is_row, waits_at, is_idle, is_stopped, is_stops}
use Rattle.core_state.specs.Change.{Core, Change, Sums, many}
use Rattle.core_state.specs.Laws.{Shown, Grounded}
use Rattle.core_state.specs.Laws.Shown.{descriptor as by_descriptor}
use Rattle.core_state.specs.Rows.{HasKey, Shows}
use Rattle.core_state.specs.Work.{is_made_early}
use Rattle.core_state.specs.Cover.{covers_self, covers_edge, works, Needs}
use Rattle.core_state.specs.Invariant.{Invariant}
use Rattle.core_state.specs.Guards.{KnowsRow}
use Rattle.core_state.specs.Effects.{loaded_items, after_load_descriptor}
use Rattle.graph_model.specs.declared.record.Cause.{Cause}
use Rattle.graph_model.specs.declared.record.Cause.TheVariants as cause
use Rattle.graph_model.specs.declared.record.Hit.TheVariants as hit_of
use Rattle.core_state.specs.declared.job.Job.TheVariants.{Explore, Compute}
use Rattle.core_state.specs.declared.views.Item.{Item}
use Rattle.core_state.specs.declared.views.Item.TheVariants as item
use Rattle.core_state.specs.declared.views.Word.TheVariants as word
use Rattle.core_state.specs.declared.views.View.{View}
use Rattle.core_state.proofs.Base.Counting.{not_two, two_here, two_tells}
use Rattle.core_state.proofs.Credit.JobView.{and_false}
use Rattle.core_state.proofs.Load.DescriptorItems.Loading.{drops}
use Rattle.core_state.proofs.Load.DescriptorItems.{Loading, Loaded, goes, comes, loaded_view, same_before, fewer_before, keeps_suspects, held_ends, ends_here, at_key, works_else, works_here, port_goes, made_goes}
use Rattle.core_state.proofs.Load.Recovery.{life_any, mark_any, same_spot, no_turn, row_is, at_row, all_words}
use Rattle.core_state.proofs.Load.SameWord.{LookView, look_keeps}
use Rattle.core_state.proofs.Base.Tops.{push_came, push_length}
use Rattle.core_state.proofs.Spend.View.{seen_other}
use Rattle.core_state.proofs.Replace.Suspects.{descriptor_low, none_struck}

module _ (e : Setting) (fit : Sound e) (s t : Core) (sums : Sums s) (r k n : ℕ) (v : View) (can : KnowsRow e v r k) (c : Change s t (descriptor r) n n v (after_load_descriptor e.graph e.plan k n v)) (inv : Invariant e s) where
  abbrev w : View
  w = after_load_descriptor e.graph e.plan k n v

  my_row : HasKey e s r k
  my_row = row_is e s t r k n word.Descriptor v w can c inv

  here : (z m : ℕ) → HasKey e s z m → m ≡ k → z ≡ r
  here = at_row e s t r k n word.Descriptor v w can c inv

  shows : Shows e s k n
  shows = subst (Shows e s k) c.found_is (inv.content.descriptors r k my_row)

  shown_low : life_of n ≤ standing_life (s.word (recovery r)) + replacing (s.word (recovery r))
  shown_low = let a = descriptor_low e s r k (s.word (recovery r)) (inv.lives.each r k my_row) in let f = ap life_of c.found_is in omega (arith, a, f)

  -- the row's descriptor shows the life that was found
  shown_is : (z m : ℕ) → HasKey e s z m → m ≡ k → life_of (s.word (descriptor z)) ≡ life_of n
  shown_is z m old q = ap (λ o. life_of (s.word (descriptor o))) (here z m old q) ∙ ap life_of c.found_is

  load : Loaded e.graph k n v w
  load = loaded_view e.graph k n e.plan v

  same : (p : Item → Bool) → ((l read : ℕ) (b m : Bool) → p (item.Compute k l b read m) ≡ false) → (mark_of n ≡ 1 → p (item.Suspect k (life_of n) cause.Descriptor false) ≡ false) → ((a l q : ℕ) (qs : List ℕ) → p (item.Reenter a l qs) ≡ p (item.Reenter a l (q ∷ qs))) → items p w ≡ items p v
  same p a b d = let x = load.items_are p in let y = same_before e.graph k n p a b d load.kind load.is in omega (arith, x, y)

  less : (p : Item → Bool) → ((l read : ℕ) (m : Bool) → p (item.Compute k l true read m) ≡ p (item.Compute k l false read m)) → p (item.Suspect k (life_of n) cause.Descriptor false) ≡ false → ((a l q : ℕ) (qs : List ℕ) → p (item.Reenter a l qs) ≡ p (item.Reenter a l (q ∷ qs))) → items p w ≤ items p v
  less p a b d = let x = load.items_are p in let y = fewer_before e.graph k n p a b d load.kind in omega (arith, x, y)

  -- suspects of other lives stay, and those of the life shown may rise
  suspects_up : (m l : ℕ) → items (is_suspect m l) v ≤ items (is_suspect m l) w
  suspects_up m l = let x = load.items_are (is_suspect m l) in let y = keeps_suspects e.graph k n m l load.kind in omega (arith, x, y)

  -- no result of the root goes
  root_made : items (is_made_any e.graph.root) w ≡ items (is_made_any e.graph.root) v
  root_made = ⊎_elim (λ q. let x = load.items_are (is_made_any e.graph.root) in omega (arith, x, q)) (λ q. absurd (⊎_elim (λ marked. let a = shows.root (sym q.0) in omega (arith, a, marked)) (λ over. never (sym q.0) over.0 over.1 over.2 over.3) q.1)) (made_goes e.graph k n e.graph.root load.kind load.is)
    where
      never : k ≡ e.graph.root → (l read : ℕ) → life_of n ≢ l → load.kind ≡ drops l read true → ⊥
      never is l read ne drop = let now : ℕ = s.word (recovery r) in let held_is : 0 < s.total (held Compute k l) = was_there (carries Compute k l) (two_here k l) in
          let some : 0 < l = dite (ℕ_discrete l 0) (λ z. absurd (let a = inv.work.jobs.some_life Compute k in let b : 0 < s.total (held Compute k 0) = subst (λ o. 0 < s.total (held Compute k o)) z held_is in omega (arith, a, b))) (λ o. omega (arith, o)) in
          let below : l < life_of n = dite (dec_lt (life_of n) l) (λ later. absurd (let a = inv.work.jobs.not_computed r k l my_row (subst (λ o. life_of o < l) (sym c.found_is) later) in omega (arith, a, held_is))) (λ o. omega (arith, o, ne)) in
          let made_is = (inv.work.computings.each r k l my_row some).made (was_there (is_made k l) (ap (λ (o : Bool). o && true) (two_here k l))) in
          let gone : many s (is_replaced k l) ≡ 1 = inv.records.replaced r k l my_row ∙ (let a = shown_low in rw (lt-ltb 0 l some, lt-ltb l (standing_life now + replacing now) (omega (arith, below, a))) refl) in
          let none = subst (λ o. (0 < s.total (items (is_suspect o l)) + many s (is_replaced o l)) → many s (is_computed o l) ≡ 0) (sym is) (λ z. (inv.work.root.given_up l z).1) (omega (arith, gone)) in omega (arith, made_is, none)
        where
          was_there : (p : Item → Bool) → p (item.Compute k l false read true) ≡ true → 0 < s.total (items p)
          was_there p z = let a = c.within (items p) in let x : items p w + bump (p (item.Compute k l false read true)) 0 ≡ items p v + 0 = subst (λ (o : Loading). items p w + count p (goes e.graph k n o) ≡ items p v + count p (comes e.graph k n o)) drop (load.items_are p) in
              let y : bump (p (item.Compute k l false read true)) 0 ≡ 1 = ap (λ (o : Bool). bump o 0) z in omega (arith, a, x, y)

  load_view : LookView e s r k n word.Descriptor v w
  load_view = record {
    records_are = refl;
    hands_are = refl;
    strikes_are = refl;
    stacks_as_many = push_length (loaded_items e.graph e.plan v.strikes k n) v.stacks;
    spare_same = refl;
    comes = λ i m l. push_came i m l (loaded_items e.graph e.plan v.strikes k n) v.stacks;
    life_known = λ m l z. life_any word.Descriptor m l z k n v.known;
    mark_known = λ m l z. mark_any word.Descriptor m l z k n v.known;
    closed_known = λ m l d some. inl (seen_other (is_seen_closed m l d) k word.Descriptor n v.known (λ l. refl) (λ l. refl));
    row_known = λ m d. seen_other (is_row m d) k word.Descriptor n v.known (λ l. refl) (λ l. refl);
    waits_known = λ m l q. seen_other (waits_at m l q) k word.Descriptor n v.known (λ l. refl) (λ l. refl);
    idle_known = seen_other is_idle k word.Descriptor n v.known (λ l. refl) (λ l. refl);
    stopped_known = seen_other is_stopped k word.Descriptor n v.known (λ l. refl) (λ l. refl);
    stops_known = seen_other is_stops k word.Descriptor n v.known (λ l. refl) (λ l. refl);
    owes = λ i m l. same (is_owed i m l) (λ l read b m. refl) (λ z. refl) (λ a l q qs. refl);
    begins = λ i m l. let a = load.items_are (carries i m l) in let b = load.ended_are (is_ended i m l) in let d = held_ends e.graph k n i m l load.kind in omega (arith, a, b, d);
    ends = λ i m l. ⊎_elim (λ q. inl (let b = load.ended_are (is_ended i m l) in omega (arith, b, q))) (λ q. inr q) (ends_here e.graph k n i m l load.kind);
    ends_up = λ i m l. let b = load.ended_are (is_ended i m l) in omega (arith, b);
    few = let a = same is_owe (λ l read b m. refl) (λ z. refl) (λ a l q qs. refl) in omega (arith, a);
    wrong = λ b. let a = ap (λ x. cond (eqb x 0) (in_hand b v) 0) root_made in omega (arith, a);
    at = λ m. let a = load.items_are (is_at m) in let b = at_key e.graph k n m load.kind in omega (arith, a, b);
    renews = λ m. same (is_renew m) (λ l read b m. refl) (λ z. refl) (λ a l q qs. refl);
    renew_ats = λ m l d. same (is_renew_at m l d) (λ l read b m. refl) (λ z. refl) (λ a l q qs. refl);
    unmade = λ m l. less (is_unmade m l) (λ l read m. refl) refl (λ a l q qs. refl);
    computes = λ m l. less (is_compute m l) (λ l read m. refl) refl (λ a l q qs. refl);
    made = λ m l. less (is_made m l) (λ l read m. refl) refl (λ a l q qs. refl);
    early = let a = less (is_made_early e.graph) (λ l read m. refl) refl (λ a l q qs. refl) in let b = inv.work.computings.none_early in let d = c.within (items (is_made_early e.graph)) in omega (arith, a, b, d);
    closes = λ m l. let a = same (is_close m l) (λ l read b m. refl) (λ z. refl) (λ a l q qs. refl) in omega (arith, a);
    closes_from = λ m l d. let a = same (is_close_from m l d) (λ l read b m. refl) (λ z. refl) (λ a l q qs. refl) in omega (arith, a);
    tells_word = λ m l d. let a = same (is_notify m l d) (λ l read b m. refl) (λ z. refl) (λ a l q qs. refl) in omega (arith, a);
    tells = λ p q. let a = same (notifies p q) (λ l read b m. refl) (λ z. refl) (λ a l q qs. refl) in omega (arith, a);
    blames = λ b d. inl (let a = same (suspects_block b d) (λ l read b m. refl) (λ z. refl) (λ a l q qs. refl) in omega (arith, a));
    suspected = λ m l. ⊎_elim (λ q. inl (let a = same (is_suspect m l) (λ l read b m. refl) (λ z. q) (λ a l q qs. refl) in omega (arith, a))) (λ q. inr (q.1, (let a = q.2 in omega (arith, a)), (let a = q.2 in let b = shown_low in omega (arith, a, b)))) (two_tells m l k (life_of n));
    root_clear = λ l. let a = same (is_suspect e.graph.root l) (λ l read b m. refl) (λ z. not_two e.graph.root l k (life_of n) (λ q. let a = shows.root (sym q.0) in omega (arith, a, z))) (λ a l q qs. refl) in omega (arith, a);
    caused = λ m l d. caused m l d;
    no_suspect = λ unstruck. let a = same is_any_suspect (λ l read b m. refl) (λ z. absurd (let a = shows.struck z in let b = none_struck s sums unstruck k (life_of n) hit_of.Descriptor in omega (arith, a, b))) (λ a l q qs. refl) in omega (arith, a);
    selfs = λ z m l i needs at. let a = same (explores m l i) (λ l read b m. refl) (λ z. refl) (λ a l q qs. refl) in let b = same (is_owed Explore m l) (λ l read b m. refl) (λ z. refl) (λ a l q qs. refl) in let d = suspects_up m l in omega (arith, a, b, d);
    edges = edges;
    working = working;
  }
    where
      caused : (m l : ℕ) (d : Cause) → (items (is_suspect_for m l d) w ≤ items (is_suspect_for m l d) v) ⊎ Shown e.graph (many s) (Grounded e.graph (many s)) m l d
      caused m l cause.Descriptor = ⊎_elim (λ q. inl (let a = same (is_suspect_for m l cause.Descriptor) (λ l read b m. refl) (λ z. ap (λ (o : Bool). o && true) q) (λ a l q qs. refl) in omega (arith, a)))
          (λ q. dite (ℕ_discrete (mark_of n) 1) (λ marked. inr (by_descriptor (subst (λ o. 0 < many s (is_struck o l hit_of.Descriptor)) (sym q.1) (subst (λ o. 0 < many s (is_struck k o hit_of.Descriptor)) (sym q.2) (shows.struck marked)))))
          (λ ne. inl (let a = same (is_suspect_for m l cause.Descriptor) (λ l read b m. refl) (λ z. absurd (ne z)) (λ a l q qs. refl) in omega (arith, a)))) (two_tells m l k (life_of n))
      caused m l cause.Notify = inl (let a = same (is_suspect_for m l cause.Notify) (λ l read b m. refl) (λ z. and_false (two m l k (life_of n))) (λ a l q qs. refl) in omega (arith, a))
      caused m l (cause.Block b d f) = inl (let a = same (is_suspect_for m l (cause.Block b d f)) (λ l read b m. refl) (λ z. and_false (two m l k (life_of n))) (λ a l q qs. refl) in omega (arith, a))

      -- a port that leaves isn't needed, or the suspect covers its place
      edges : (z m l i : ℕ) → Needs e s z m l i → i < e.graph.places m → (covers_edge (e.graph.pred m i).task (e.graph.pred m i).port v ≤ covers_edge (e.graph.pred m i).task (e.graph.pred m i).port w) ⊎ (0 < covers_self m l i w)
      edges z m l i needs low = let x : Edge = e.graph.pred m i in let back = fit.lawful.back m i low in
          ⊎_elim (λ f. inl (let a = same (notifies x.task x.port) (λ l read b m. refl) (λ z. refl) (λ a l q qs. refl) in let b = same (is_renew x.task) (λ l read b m. refl) (λ z. refl) (λ a l q qs. refl) in let d = load.items_are (reenters x.task x.port) in omega (arith, a, b, d, f)))
          (λ f. let at : m ≡ k = sym back.1 ∙ f.0 in let life : l ≡ life_of n = sym needs.life_shown ∙ shown_is z m needs.has_key at in
          ⊎_elim (λ some. inr (let a : 0 < items (is_suspect m l) w = subst (λ o. 0 < items (is_suspect o l) w) (sym at) (subst (λ o. 0 < items (is_suspect k o) w) (sym life) (let b = load.items_are (is_suspect k (life_of n)) in let d = keeps_suspects e.graph k n k (life_of n) load.kind in omega (arith, b, d, some))) in omega (arith, a)))
          (λ spent. absurd (let a = shows.spent spent.0 i (let b = fit.lawful.few_places m in omega (arith, b, low)) in let b : bit_at n i ≡ 1 = ap (bit_at n) (sym back.2) ∙ spent.1 in let d : many s (is_spent k (life_of n) i) ≡ 0 = subst (λ o. many s (is_spent k o i) ≡ 0) life (subst (λ o. many s (is_spent o l i) ≡ 0) at needs.unspent) in omega (arith, a, b, d))) f.1)
          (port_goes e.graph k n x.task x.port load.kind load.is)

      working : (z m : ℕ) → HasKey e s z m → works m (life_of (s.word (descriptor z))) v ≤ works m (life_of (s.word (descriptor z))) w
      working z m old = dite (ℕ_discrete m k) (λ q. subst (λ o. works m o v ≤ works m o w) (sym (shown_is z m old q)) (subst (λ o. works o (life_of n) v ≤ works o (life_of n) w) (sym q) shown_works))
          (λ ne. let l : ℕ = life_of (s.word (descriptor z)) in let a = still m l in let b = load.items_are (carries Compute m l) in let d = works_else e.graph k n m l ne load.kind in let f = suspects_up m l in omega (arith, a, b, d, f))
        where
          still : (m l : ℕ) → items (is_owed Compute m l) w + items (is_renew_of m l) w ≡ items (is_owed Compute m l) v + items (is_renew_of m l) v
          still m l = let a = same (is_owed Compute m l) (λ l read b m. refl) (λ z. refl) (λ a l q qs. refl) in let b = same (is_renew_of m l) (λ l read b m. refl) (λ z. refl) (λ a l q qs. refl) in omega (arith, a, b)

          shown_works : works k (life_of n) v ≤ works k (life_of n) w
          shown_works = let l : ℕ = life_of n in let a = still k l in let b = load.items_are (carries Compute k l) in let d = load.items_are (is_suspect k l) in let f = keeps_suspects e.graph k n k l load.kind in let g = works_here e.graph k n load.kind load.is in omega (arith, a, b, d, f, g)

  pub keeps_load_descriptor : Invariant e t
  keeps_load_descriptor = look_keeps e s t r k n word.Descriptor v w c my_row here load_view (all_words e s t r k n word.Descriptor v w can c inv (same_spot r word.Descriptor)) (λ b. c.blocks b (no_turn r word.Descriptor b)) inv
