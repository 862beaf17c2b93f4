-- What all threads of a run come to, from what each came to.
use Rattle.std.proofs.Common.{◌≡◌, ◌∙◌, ℕ, zero, suc, ◌-◌, ◌<◌, ◌≤◌, All, Bool, List, [], ◌∷◌, ◌++◌, Option, Some, None, length, slice_index, ap, subst, sym, refl, arith}
use mathlib.Core.Logic.{dite}
use native.Mathlib.Decide.{dec_lt}
use Rattle.std.proofs.lemmas.List.{get_or-append_right, get_or_append_left, get_or-map, length-map, map-append}
use Rattle.std.proofs.lemmas.List.Elements.{All-append, All-map, All-nil}
use Rattle.std.proofs.lemmas.Option.{none-some, same_Some}
use Rattle.atomic_table.specs.Seated.{TableId}
use Rattle.graph_model.specs.declared.record.Cause.{Cause}
use Rattle.graph_model.specs.declared.record.Record.{Record}
use Rattle.core_state.specs.Counts.{facts, items, total_of}
use Rattle.core_state.specs.Graph.{Setting}
use Rattle.core_state.specs.Sure.{IsSure}
use Rattle.core_state.specs.Tests.{is_idle as is_seen_idle, is_suspect_for}
use Rattle.core_state.specs.Views.{blank}
use Rattle.core_state.specs.Words.{pending}
use Rattle.core_state.proofs.Base.Words.{read_at}
use Rattle.core_state.specs.declared.block.BlockCells.{BlockCells}
use Rattle.core_state.specs.declared.views.Known.{Known}
use Rattle.core_state.specs.declared.views.View.{View}
use Rattle.core_state.proofs.Seats.View.{count_both}
use Rattle.core_steps.specs.Table.{view_in}
use Rattle.compute_notify.specs.Tasks.{some_list}
use Rattle.task_table.specs.Passes.{Passing}
use Rattle.worker_pool.specs.Joining.{AddsUp, AreOf, HaveAll, HaveEnded, NoHands, views_of}
use Rattle.worker_pool.specs.Pooling.{IsLastLife, StopTells}
use Rattle.worker_pool.specs.Threads.{AllTell, AreHome, EndsWell, IsOf, either_ending, stop_of, view_of}
use Rattle.worker_pool.specs.Closing.{IsQuietStop}
use Rattle.worker_pool.specs.declared.pool.Stop.{Stop}
use Rattle.worker_pool.specs.declared.slot.Ending.{Ending}
use Rattle.worker_pool.specs.declared.slot.Ending.TheVariants as ending
use Rattle.worker_pool.specs.declared.worker.Spent.{Spent}
use Rattle.worker_pool.proofs.Threading.Turned.{all_put}

-- one element alone
all_one : {X : Type 0} (P : X → Type 0) (x : X) → P x → All P (x ∷ [])
all_one P x holds zero d low = holds
all_one P x holds (suc i) d low = absurd (omega (arith, low))

more_home : (vs : List View) (v : View) → AreHome vs → v.hands ≡ [] → AreHome (vs ++ v ∷ [])
more_home vs v all here = All-append (λ u. u.hands ≡ []) vs (v ∷ []) all (all_one (λ u. u.hands ≡ []) v here)

module _ (e : Setting) (vs : List View) (v : View) where
  -- the last life of one of these views is that of one of more views
  last_before : (k l : ℕ) (c : Cause) → IsLastLife e vs k l c → IsLastLife e (vs ++ v ∷ []) k l c
  last_before k l c last = record {
    worker = last.worker;
    greatest = last.greatest;
    suspected = dite (dec_lt last.worker (length vs))
        (λ low. subst (λ u. 0 < items (is_suspect_for k l c) u) (sym (get_or_append_left vs (v ∷ []) blank last.worker low)) last.suspected)
        (λ high. let none : view_in vs last.worker ≡ blank = past vs last.worker (omega (arith, high)) in let a : items (is_suspect_for k l c) (view_in vs last.worker) ≡ 0 = ap (items (is_suspect_for k l c)) none in absurd (omega (arith, a, last.suspected)));
  }
    where
      past : (us : List View) (i : ℕ) → length us ≤ i → view_in us i ≡ blank
      past [] i high = refl
      past (u ∷ us) zero high = absurd (omega (arith, high))
      past (u ∷ us) (suc i) high = past us i (omega (arith, high))

  last_here : (s : Spent) → EndsWell e v (ending.Spent s) → IsLastLife e (vs ++ v ∷ []) s.key.0 s.life s.cause
  last_here s well = record { worker = length vs; greatest = well.1.0; suspected = subst (λ u. 0 < items (is_suspect_for s.key.0 s.life s.cause) u) (sym (get_or-append_right vs (v ∷ []) (length vs) (length vs) blank refl (omega arith) ∙ ap (λ n. view_in (v ∷ []) n) {x = length vs - length vs} {y = 0} (omega arith))) well.1.1 }

  -- one thread more
  pub tell_more : (a x : Ending) → AllTell e vs a → EndsWell e v x → AllTell e (vs ++ v ∷ []) (either_ending a x)
  tell_more ending.Over ending.Over all well = (more_home vs v all.0 well.0, All-append (λ u. 0 < facts is_seen_idle u) vs (v ∷ []) all.1 (all_one (λ u. 0 < facts is_seen_idle u) v well.1))
  tell_more ending.Over ending.Stopped all well = more_home vs v all.0 well
  tell_more ending.Over ending.Refused all well = tt
  tell_more ending.Over (ending.Spent s) all well = (more_home vs v all.0 well.0, last_here s well)
  tell_more ending.Stopped ending.Over all well = more_home vs v all well.0
  tell_more ending.Stopped ending.Stopped all well = more_home vs v all well
  tell_more ending.Stopped ending.Refused all well = tt
  tell_more ending.Stopped (ending.Spent s) all well = (more_home vs v all well.0, last_here s well)
  tell_more ending.Refused x all well = tt
  tell_more (ending.Spent s) ending.Over all well = (more_home vs v all.0 well.0, last_before s.key.0 s.life s.cause all.1)
  tell_more (ending.Spent s) ending.Stopped all well = (more_home vs v all.0 well, last_before s.key.0 s.life s.cause all.1)
  tell_more (ending.Spent s) ending.Refused all well = tt
  tell_more (ending.Spent s) (ending.Spent t) all well = (more_home vs v all.0 well.0, last_before s.key.0 s.life s.cause all.1)

-- no thread has ended
pub tell_none : (e : Setting) → AllTell e [] ending.Over
tell_none e = (All-nil (λ (v : View). v.hands ≡ []), All-nil (λ (v : View). 0 < facts is_seen_idle v))

-- the views of passes keep what the invariant says of each
pub views_sure : (e : Setting) (ps : List Passing) → All (λ p. IsSure e p.view) ps → All (IsSure e) (views_of ps)
views_sure e ps all = All-map (IsSure e) (λ p. p.view) ps all

-- passes whose views have no block in hand
pub no_hands : (ps : List Passing) → AreHome (views_of ps) → NoHands ps
no_hands ps home i p low = subst (λ (v : View). v.hands ≡ []) (get_or-map (λ (q : Passing). q.view) ps i p p.view low)
    (home i p.view (let a = length-map ps (λ (q : Passing). q.view) in omega (arith, a, low)))

-- what a view knows adds up
pub facts_adds : (t : Known → Bool) → AddsUp (facts t)
facts_adds t = (refl, λ v w. let a = count_both t w.known v.known in omega (arith, a))

-- some of these views know that nothing is pending, so those know it that have all
pub idle_known : (vs us : List View) → 1 ≤ length vs → All (λ v. 0 < facts is_seen_idle v) vs → HaveAll vs us → 0 < total_of us (facts is_seen_idle)
unfolding total_of
idle_known vs us some all have = let a = have (facts is_seen_idle) (facts_adds is_seen_idle) in let b = first vs some all in omega (arith, a, b)
  where
    first : (ws : List View) → 1 ≤ length ws → All (λ v. 0 < facts is_seen_idle v) ws → 0 < total_of ws (facts is_seen_idle)
    first [] none known = absurd (omega (arith, none))
    first (w ∷ ws) more known = let a = known 0 w (omega arith) in omega (arith, a)

-- Nothing is pending where each thread saw so.
pub nothing_left : (e : Setting) (vs : List View) (ws : List ℕ) (bs : List (Option BlockCells)) (records root : List Record) → 1 ≤ length vs → All (λ v. 0 < facts is_seen_idle v) vs → HaveEnded e vs ws bs records root → slice_index ws 0 ≡ 0
nothing_left e vs ws bs records root some all ended = sym (read_at e.shape ws pending refl) ∙ ended.closing.holds.facts.idle (idle_known vs ended.views some all ended.all)

-- What ended the turns, by what the run ends by.
module _ (e : Setting) (vs : List View) where
  pub stop_tells : (x : Ending) (s : Stop) → stop_of x ≡ Some s → AllTell e vs x → StopTells e vs s
  stop_tells ending.Over s is all = subst (StopTells e vs) (same_Some _ _ is) tt
  stop_tells ending.Stopped s is all = subst (StopTells e vs) (same_Some _ _ is) tt
  stop_tells ending.Refused s is all = absurd (none-some s is)
  stop_tells (ending.Spent t) s is all = subst (StopTells e vs) (same_Some _ _ is) all.1

  pub home_of : (x : Ending) (s : Stop) → stop_of x ≡ Some s → AllTell e vs x → AreHome vs
  home_of ending.Over s is all = all.0
  home_of ending.Stopped s is all = all
  home_of ending.Refused s is all = absurd (none-some s is)
  home_of (ending.Spent t) s is all = all.0

  pub quiet_of : (ws : List ℕ) (bs : List (Option BlockCells)) (records root : List Record) (left : ℕ) → 1 ≤ length vs → HaveEnded e vs ws bs records root → left ≡ slice_index ws 0 → (x : Ending) (s : Stop) → stop_of x ≡ Some s → AllTell e vs x → IsQuietStop s left
  quiet_of ws bs records root left some ended at ending.Over s is all = subst (λ t. IsQuietStop t left) (same_Some _ _ is) (at ∙ nothing_left e vs ws bs records root some all.1 ended)
  quiet_of ws bs records root left some ended at ending.Stopped s is all = subst (λ t. IsQuietStop t left) (same_Some _ _ is) tt
  quiet_of ws bs records root left some ended at ending.Refused s is all = absurd (none-some s is)
  quiet_of ws bs records root left some ended at (ending.Spent t) s is all = subst (λ u. IsQuietStop u left) (same_Some _ _ is) tt

-- A slot's pass, put behind others.
module _ (z : TableId) (ps more : List Passing) where
  pub put_view : (o : Option Passing) → IsOf z o → more ≡ ps ++ some_list o → views_of more ≡ views_of ps ++ view_of o ∷ []
  put_view None of_table put = absurd of_table
  put_view (Some p) of_table put = ap views_of put ∙ map-append (λ (q : Passing). q.view) ps (p ∷ [])

  pub put_table : (o : Option Passing) → IsOf z o → more ≡ ps ++ some_list o → AreOf z ps → AreOf z more
  put_table None of_table put all = absurd of_table
  put_table (Some p) of_table put all = all_put (λ (q : Passing). q.table ≡ z) ps more p put all of_table
