-- What the steps of an election and of a renewal ask, and what they come to.
use Rattle.std.proofs.Common.{◌≡◌, ℕ, ◌+◌, ◌-◌, ◌<◌, ◌≤◌, Bool, true, false, cond, ne_eqb, eq-eqb, lt-ltb, le-ltb, List, [], ◌∷◌, arith, sym, ap, refl, ◌∙◌, subst}
use mathlib.Core.Logic.{dite}
use native.Mathlib.Decide.{ℕ_discrete}
use Rattle.graph_model.specs.Graph.{Graph as TaskGraph}
use Rattle.core_state.specs.Guards.{AtWork, CanElect, CanFinish, CanRenewDescriptor, CanRenewNotify}
use Rattle.core_state.specs.Counts.{known_key}
use Rattle.core_state.specs.Tests.{is_suspect}
use Rattle.core_state.specs.Effects.{all_ports, elected_of}
use Rattle.core_state.specs.Graph.{Setting, greatest_life}
use Rattle.core_state.specs.Events.{after}
use Rattle.core_state.specs.Events.Event.{elect, renew_notify, renew_descriptor, finish}
use Rattle.core_state.specs.Lines.{Line, HasLines, of, elected_lines}
use Rattle.core_state.specs.Sure.{IsSure}
use Rattle.core_state.specs.Views.{top_items}
use Rattle.core_state.specs.declared.answers.Elected.{Elected}
use Rattle.core_state.specs.declared.answers.Elected.TheVariants as elected
use Rattle.core_state.specs.declared.job.Job.TheVariants as job
use Rattle.core_state.specs.declared.views.Item.{Item}
use Rattle.core_state.specs.declared.views.Item.TheVariants as item
use Rattle.core_state.specs.declared.views.View.{View}
use Rattle.core_state.proofs.Lines.After.{line_stands, elects, renewing_low, renews_notify, renews_descriptor, finishes}
use Rattle.core_state.proofs.Base.Counting.{two_here}
use Rattle.core_state.proofs.Lines.Counts.{top_passes}
use Rattle.core_state.proofs.Lines.Top.{at_work}
use Rattle.core_steps.specs.Serving.{life_at, first_life, first_waits, work_life, work_waits}
use Rattle.recovery.specs.Happening.{phase_event, turn_event}
use Rattle.recovery.specs.Memory.{KnowsKey, IsOnTop}
use Rattle.recovery.specs.Recovering.{recover_lines, phase_lines, phase_credits, turn_lines, Fits, FitsPhase, Recovers, TurnTells}
use Rattle.recovery.specs.declared.owe.Owe.{Owe}
use Rattle.recovery.specs.declared.recover.Phase.{Phase}
use Rattle.recovery.specs.declared.recover.Phase.TheVariants as phase
use Rattle.recovery.specs.declared.recover.Recover.{Recover}
use Rattle.recovery.specs.declared.reenter.Reenter.{Reenter}
use Rattle.recovery.specs.declared.reenter.Way.TheVariants as way
use Rattle.recovery.specs.declared.turn.Turn.{Turn}
use Rattle.recovery.specs.declared.turn.Turn.TheVariants as turn
use Rattle.recovery.proofs.Knowing.{row_here, known_is, remembers_apart, key_stays}
use Rattle.recovery.proofs.Phases.{moves, lines_in, rests_in, credits_kept}

life_is : (v : View) (x : Item) → AtWork v x → work_life v ≡ life_at x
life_is v x w = ap (λ ss. first_life (top_items ss)) w.stacks_are ∙ ap first_life w.items_are

waits_is : (v : View) (x : Item) → AtWork v x → work_waits v ≡ first_waits (x ∷ [])
waits_is v x w = ap (λ ss. first_waits (top_items ss)) w.stacks_are ∙ ap first_waits w.items_are ∙ by x
  where
    by : (y : Item) → first_waits (y ∷ w.below) ≡ first_waits (y ∷ [])
    by (item.Explore a b c) = refl
    by (item.Compute a b c d f) = refl
    by (item.Close a b c) = refl
    by (item.Notify a b c d) = refl
    by (item.Suspect a b c d) = refl
    by (item.Renew a b c) = refl
    by (item.Reenter a b c) = refl
    by (item.Owe a b c) = refl

module _ (e : Setting) (v : View) (r : Recover) (knows : KnowsKey e v r.row r.key.0) where
  renew_work : (done : ℕ) (b : List Line) → HasLines e v (of (item.Renew r.key.0 r.life done) ∷ b) → AtWork v (item.Renew r.key.0 r.life done)
  renew_work done b lines = at_work v (item.Renew r.key.0 r.life done) b (line_stands e v (item.Renew r.key.0 r.life done) b refl lines)

  same_renew : (done : ℕ) → AtWork v (item.Renew r.key.0 r.life done) → AtWork v (item.Renew (known_key r.row v) (work_life v) done)
  same_renew done w = subst (λ k. AtWork v (item.Renew k (work_life v) done)) (sym (known_is e v r.row r.key.0 knows)) (subst (λ l. AtWork v (item.Renew r.key.0 l done)) (sym (life_is v (item.Renew r.key.0 r.life done) w)) w)

  -- what the steps ask
  pub may_renew_notify : (done : ℕ) → r.phase ≡ phase.Renew done → done < e.graph.notify_words r.key.0 → IsOnTop e v (recover_lines e.graph r) → CanRenewNotify e v r.row (known_key r.row v) (work_life v) done
  may_renew_notify done is low top = record {
    row = row_here e v r.row r.key.0 knows;
    word_in = subst (λ k. done < e.graph.notify_words k) (sym (known_is e v r.row r.key.0 knows)) low;
    at_work = same_renew done (renew_work done top.below (lines_in e v r (phase.Renew done) top.below is top.lines_are));
  }

  pub may_renew_descriptor : (done : ℕ) → r.phase ≡ phase.Renew done → done ≡ e.graph.notify_words r.key.0 → IsOnTop e v (recover_lines e.graph r) → CanRenewDescriptor e v r.row (known_key r.row v) (work_life v)
  may_renew_descriptor done is all top = record {
    row = row_here e v r.row r.key.0 knows;
    at_work = subst (λ m. AtWork v (item.Renew (known_key r.row v) (work_life v) m)) (all ∙ ap e.graph.notify_words (sym (known_is e v r.row r.key.0 knows)))
        (same_renew done (renew_work done top.below (lines_in e v r (phase.Renew done) top.below is top.lines_are)));
  }

  pub may_finish : r.phase ≡ phase.Finish → IsOnTop e v (recover_lines e.graph r) → CanFinish e v r.row (known_key r.row v) (work_life v)
  may_finish is top = record {
    row = row_here e v r.row r.key.0 knows;
    at_work = subst (λ k. AtWork v (item.Renew (known_key r.row v) (work_life v) (e.graph.notify_words k + 1))) (sym (known_is e v r.row r.key.0 knows))
        (same_renew (e.graph.notify_words r.key.0 + 1) (renew_work (e.graph.notify_words r.key.0 + 1) top.below (lines_in e v r phase.Finish top.below is top.lines_are)));
  }

  suspect_work : (b : List Line) → HasLines e v (of (item.Suspect r.key.0 r.life r.cause r.wait) ∷ b) → AtWork v (item.Suspect r.key.0 r.life r.cause r.wait)
  suspect_work b lines = at_work v (item.Suspect r.key.0 r.life r.cause r.wait) b (line_stands e v (item.Suspect r.key.0 r.life r.cause r.wait) b refl lines)

  pub may_elect : r.phase ≡ phase.Suspect → r.life < r.lives → r.lives ≡ greatest_life e r.key.0 → IsOnTop e v (recover_lines e.graph r) → CanElect e v r.row (known_key r.row v) r.life r.cause (work_waits v)
  may_elect is below lives top = let w = suspect_work top.below (lines_in e v r phase.Suspect top.below is top.lines_are) in record {
    row = row_here e v r.row r.key.0 knows;
    at_work = subst (λ k. AtWork v (item.Suspect k r.life r.cause (work_waits v))) (sym (known_is e v r.row r.key.0 knows)) (subst (λ x. AtWork v (item.Suspect r.key.0 r.life r.cause x)) (sym (waits_is v (item.Suspect r.key.0 r.life r.cause r.wait) w)) w);
    not_last = subst (λ k. r.life < greatest_life e k) (sym (known_is e v r.row r.key.0 knows)) (subst (λ m. r.life < m) lives below);
  }

-- the event of a renewal, by the words that are left
module _ (e : Setting) (v : View) (r : Recover) (done : ℕ) (is : r.phase ≡ phase.Renew done) where
  pub renews_word : done < e.graph.notify_words r.key.0 → renew_notify r.row (known_key r.row v) (work_life v) done ≡ turn_event e v r
  renews_word low = ap (λ (b : Bool). cond b (renew_notify r.row (known_key r.row v) (work_life v) done) (renew_descriptor r.row (known_key r.row v) (work_life v))) (sym (lt-ltb done (e.graph.notify_words r.key.0) low)) ∙ ap (phase_event e v r) (sym is)

  pub renews_last : e.graph.notify_words r.key.0 ≤ done → renew_descriptor r.row (known_key r.row v) (work_life v) ≡ turn_event e v r
  renews_last high = ap (λ (b : Bool). cond b (renew_notify r.row (known_key r.row v) (work_life v) done) (renew_descriptor r.row (known_key r.row v) (work_life v))) (sym (le-ltb done (e.graph.notify_words r.key.0) high)) ∙ ap (phase_event e v r) (sym is)

-- a suspect on top is of a life up to the greatest
pub life_low : (e : Setting) (v : View) (r : Recover) → IsSure e v → r.phase ≡ phase.Suspect → r.lives ≡ greatest_life e r.key.0 → IsOnTop e v (recover_lines e.graph r) → r.life ≤ r.lives
life_low e v r sure is lives top = let here = line_stands e v (item.Suspect r.key.0 r.life r.cause r.wait) top.below refl (lines_in e v r phase.Suspect top.below is top.lines_are) in
    let low = (sure.lives r.key.0 r.life (top_passes (is_suspect r.key.0 r.life) v (item.Suspect r.key.0 r.life r.cause r.wait) top.below here (two_here r.key.0 r.life))).1 in omega (arith, low, lives)

-- What an election comes to, by its answer.
module _ (g : TaskGraph) (e : Setting) (v w : View) (n : ℕ) (r : Recover) (fits : Fits g e v r) (is : r.phase ≡ phase.Suspect) (none : v.spare ≡ 0) (told : Elected) (t : told ≡ elected_of r.life n) (view : w ≡ after e (elect r.row (known_key r.row v) r.life r.cause (work_waits v)) n v) where
  electing : (b : List Line) → HasLines e v (recover_lines e.graph r b) → HasLines e w (elected_lines r.key.0 r.life r.wait told (of (item.Suspect r.key.0 r.life r.cause r.wait) ∷ b))
  electing b lines = let here = lines_in e v r phase.Suspect b is lines in let work = suspect_work e v r fits.known b here in
      elects e v w n r.key.0 r.life r.cause r.wait told b (line_stands e v (item.Suspect r.key.0 r.life r.cause r.wait) b refl here) t
      (subst (λ x. w ≡ after e (elect 0 r.key.0 r.life r.cause x) n v) (waits_is v (item.Suspect r.key.0 r.life r.cause r.wait) work)
      (subst (λ k. w ≡ after e (elect 0 k r.life r.cause (work_waits v)) n v) (known_is e v r.row r.key.0 fits.known) view))

  elected_as : (x : Elected) → told ≡ x → (b : List Line) → HasLines e v (recover_lines e.graph r b) → HasLines e w (elected_lines r.key.0 r.life r.wait x (of (item.Suspect r.key.0 r.life r.cause r.wait) ∷ b))
  elected_as x same b lines = subst (λ y. HasLines e w (elected_lines r.key.0 r.life r.wait y (of (item.Suspect r.key.0 r.life r.cause r.wait) ∷ b))) same (electing b lines)

  unspent : w.spare ≡ 0
  unspent = credits_kept e (elect r.row (known_key r.row v) r.life r.cause (work_waits v)) n 0 v w view refl none

  next_is : (next : Phase) (now : Recover) (turned : Turn) (t : Turn) → now ≡ record r { phase = next } → turned ≡ t → ((b : List Line) → HasLines e v (recover_lines e.graph r b) → HasLines e w (turn_lines t (phase_lines e.graph r.key.0 r.life r.cause r.wait next b)))
      → FitsPhase g e w r.key.0 r.life r.lives next → TurnTells g e w next t → w.spare ≡ phase_credits next → Recovers g e v w r now turned
  next_is next now turned t same is_t = moves g e v w r fits (remembers_apart e (elect r.row (known_key r.row v) r.life r.cause (work_waits v)) n v w refl view) next now t turned same is_t

  pub goes_yes : (now : Recover) (turned : Turn) → r.life < r.lives → told ≡ elected.Yes → now ≡ record r { phase = phase.Renew 0 } → turned ≡ turn.Going → Recovers g e v w r now turned
  goes_yes now turned below yes_is same goes = next_is (phase.Renew 0) now turned turn.Going same goes (elected_as elected.Yes yes_is) (below, omega arith) refl unspent

  pub goes_replaced : (m : ℕ) (now : Recover) (turned : Turn) → told ≡ elected.Replaced m → now ≡ record r { phase = phase.Over } → turned ≡ turn.Done → Recovers g e v w r now turned
  goes_replaced m now turned told_is same goes = next_is phase.Over now turned turn.Done same goes (elected_as (elected.Replaced m) told_is) tt refl unspent

  -- an earlier life is being replaced
  pub goes_again : (m : ℕ) (now : Recover) (turned : Turn) → told ≡ elected.Renewing m → m < r.life → now ≡ record r { phase = phase.Suspect } → turned ≡ turn.Going → Recovers g e v w r now turned
  goes_again m now turned told_is early same goes = next_is phase.Suspect now turned turn.Going same goes
      (λ b lines. subst (λ c. HasLines e w (cond c (cond r.wait (of (item.Suspect r.key.0 r.life r.cause r.wait) ∷ b) b) (of (item.Suspect r.key.0 r.life r.cause r.wait) ∷ b))) (ne_eqb m r.life (λ z. omega (arith, z, early))) (elected_as (elected.Renewing m) told_is b lines)) tt refl unspent

  -- this life is
  renewed : (m : ℕ) (x : Bool) → told ≡ elected.Renewing m → (m < r.life → ⊥) → r.wait ≡ x → (b : List Line) → HasLines e v (recover_lines e.graph r b) → HasLines e w (cond x (of (item.Suspect r.key.0 r.life r.cause r.wait) ∷ b) b)
  renewed m x told_is late waits b lines = let low = renewing_low r.life m n (sym told_is ∙ t) in
      subst (λ c. HasLines e w (cond c (of (item.Suspect r.key.0 r.life r.cause r.wait) ∷ b) b)) waits
      (subst (λ c. HasLines e w (cond c (cond r.wait (of (item.Suspect r.key.0 r.life r.cause r.wait) ∷ b) b) (of (item.Suspect r.key.0 r.life r.cause r.wait) ∷ b))) (eq-eqb m r.life (same low)) (elected_as (elected.Renewing m) told_is b lines))
    where
      same : m ≤ r.life → m ≡ r.life
      same low = dite (ℕ_discrete m r.life) (λ z. z) (λ ne. absurd (late (omega (arith, low, ne))))

  pub goes_waiting : (m : ℕ) (now : Recover) (turned : Turn) → told ≡ elected.Renewing m → (m < r.life → ⊥) → r.wait ≡ true → now ≡ record r { phase = phase.Suspect } → turned ≡ turn.Going → Recovers g e v w r now turned
  goes_waiting m now turned told_is late waits same goes = next_is phase.Suspect now turned turn.Going same goes (renewed m true told_is late waits) tt refl unspent

  pub goes_away : (m : ℕ) (now : Recover) (turned : Turn) → told ≡ elected.Renewing m → (m < r.life → ⊥) → r.wait ≡ false → now ≡ record r { phase = phase.Over } → turned ≡ turn.Done → Recovers g e v w r now turned
  goes_away m now turned told_is late waits same goes = next_is phase.Over now turned turn.Done same goes (renewed m false told_is late waits) tt refl unspent

-- What the renewal of a word comes to.
module _ (g : TaskGraph) (e : Setting) (v w : View) (n : ℕ) (r : Recover) (fits : Fits g e v r) (none : v.spare ≡ 0) where
  renewed_life : (done : ℕ) (b : List Line) → HasLines e v (of (item.Renew r.key.0 r.life done) ∷ b) → work_life v ≡ r.life
  renewed_life done b lines = life_is v (item.Renew r.key.0 r.life done) (renew_work e v r fits.known done b lines)

  module _ (done : ℕ) (is : r.phase ≡ phase.Renew done) where
    pub goes_renewed : (now : Recover) (turned : Turn) → done < e.graph.notify_words r.key.0 → w ≡ after e (renew_notify r.row (known_key r.row v) (work_life v) done) n v → now ≡ record r { phase = phase.Renew (done + 1) } → turned ≡ turn.Going → Recovers g e v w r now turned
    goes_renewed now turned low view same goes = let rests = rests_in g e v r (phase.Renew done) is fits in
        moves g e v w r fits (remembers_apart e (renew_notify r.row (known_key r.row v) (work_life v) done) n v w refl view) (phase.Renew (done + 1)) now turn.Going turned same goes
        (λ b lines. let here = lines_in e v r (phase.Renew done) b is lines in
        renews_notify e v w n r.key.0 r.life done b (line_stands e v (item.Renew r.key.0 r.life done) b refl here)
        (subst (λ l. w ≡ after e (renew_notify 0 r.key.0 l done) n v) (renewed_life done b here) (subst (λ k. w ≡ after e (renew_notify 0 k (work_life v) done) n v) (known_is e v r.row r.key.0 fits.known) view)))
        (rests.0, omega (arith, low)) refl (credits_kept e (renew_notify r.row (known_key r.row v) (work_life v) done) n 0 v w view refl none)

    pub goes_all : (now : Recover) (turned : Turn) → w ≡ after e (renew_descriptor r.row (known_key r.row v) (work_life v)) n v → now ≡ record r { phase = phase.Finish } → turned ≡ turn.Going → Recovers g e v w r now turned
    goes_all now turned view same goes = let rests = rests_in g e v r (phase.Renew done) is fits in
        moves g e v w r fits (remembers_apart e (renew_descriptor r.row (known_key r.row v) (work_life v)) n v w refl view) phase.Finish now turn.Going turned same goes
        (λ b lines. let here = lines_in e v r (phase.Renew done) b is lines in
        renews_descriptor e v w n r.key.0 r.life done b (line_stands e v (item.Renew r.key.0 r.life done) b refl here)
        (subst (λ l. w ≡ after e (renew_descriptor 0 r.key.0 l) n v) (renewed_life done b here) (subst (λ k. w ≡ after e (renew_descriptor 0 k (work_life v)) n v) (known_is e v r.row r.key.0 fits.known) view)))
        rests.0 refl (credits_kept e (renew_descriptor r.row (known_key r.row v) (work_life v)) n 0 v w view refl none)

  -- the end of it
  pub goes_finished : (owe : Owe) (behind : Reenter) (now : Recover) (turned : Turn) → r.phase ≡ phase.Finish → owe ≡ record { row = r.row; key = r.key; job = job.Explore; life = r.life + 1; bought = false } → behind ≡ record { port = 0; way = way.Start }
      → w ≡ after e (finish r.row (known_key r.row v) (work_life v)) n v → now ≡ record r { phase = phase.Owe owe behind } → turned ≡ turn.Going → Recovers g e v w r now turned
  goes_finished owe behind now turned is owe_is behind_is view same goes = let first : Owe = record { row = r.row; key = r.key; job = job.Explore; life = r.life + 1; bought = false } in let start : Reenter = record { port = 0; way = way.Start } in
      let next : phase.Owe owe behind ≡ phase.Owe first start = ap (λ o. phase.Owe o behind) owe_is ∙ ap (λ x. phase.Owe first x) behind_is in
      let more = remembers_apart e (finish r.row (known_key r.row v) (work_life v)) n v w refl view in
      moves g e v w r fits more (phase.Owe first start) now turn.Going turned (same ∙ ap (λ p. record r { phase = p }) next) goes
      (λ b lines. let here = lines_in e v r phase.Finish b is lines in
      subst (λ m. HasLines e w (of (item.Owe r.key.0 job.Explore (r.life + 1)) ∷ of (item.Reenter r.key.0 (r.life + 1) (all_ports 0 m)) ∷ b)) (let a : e.graph.ports r.key.0 ≡ e.graph.ports r.key.0 - 0 = omega arith in a)
      (finishes e v w n r.key.0 r.life (e.graph.notify_words r.key.0 + 1) b (line_stands e v (item.Renew r.key.0 r.life (e.graph.notify_words r.key.0 + 1)) b refl here)
      (subst (λ l. w ≡ after e (finish 0 r.key.0 l) n v) (renewed_life (e.graph.notify_words r.key.0 + 1) b here) (subst (λ k. w ≡ after e (finish 0 k (work_life v)) n v) (known_is e v r.row r.key.0 fits.known) view))))
      (record { is_key = fits.is_key; known = key_stays e v w r.row r.key.0 more fits.known }, tt) refl (credits_kept e (finish r.row (known_key r.row v) (work_life v)) n 0 v w view refl none)
