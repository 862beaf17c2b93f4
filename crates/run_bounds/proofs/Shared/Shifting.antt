-- What the other steps of an item pay: those that serve, elections, steps of a renewal and posts.
use Rattle.std.proofs.Common.{◌≡◌, ◌≢◌, ℕ, ◌+◌, ◌-◌, ◌*◌, ◌/◌, ◌<◌, ◌≤◌, Bool, true, false, cond, ◌&&◌, not, nat_lt, eqb, eq-eqb, List, [], ◌∷◌, length, Some, ⊎_elim, inl, inr, arith, refl, ap, sym, ◌∙◌, subst}
use mathlib.Core.Logic.{dite}
use native.Mathlib.Decide.{ℕ_discrete}
use Rattle.std.proofs.lemmas.Bool.{eqb-true, lt-ltb, ltb-true, ne_eqb}
use Rattle.graph_model.specs.Graph.{Graph as TaskGraph}
use Rattle.graph_model.specs.declared.key.Key.{Key}
use Rattle.graph_model.specs.declared.plan.Strike.{Strike}
use Rattle.graph_model.specs.declared.record.Cause.{Cause}
use Rattle.graph_model.specs.declared.record.Cause.TheVariants as cause
use Rattle.core_state.specs.Asked.{IsCoreKey}
use Rattle.core_state.specs.Change.{Core}
use Rattle.core_state.specs.Counts.{count, ended, held, hit, noted}
use Rattle.core_state.specs.Effects.{elect_left, elected_of}
use Rattle.core_state.specs.Events.{Event}
use Rattle.core_state.specs.Events.Event.{elect, finish, give_read, load_descriptor, post, register, renew_descriptor, renew_notify, spend, take_turn}
use Rattle.core_state.specs.Graph.{Setting, greatest_life}
use Rattle.core_state.specs.Guards.{KnowsRow}
use Rattle.core_state.specs.Lines.{Line, HasLines, elected_lines, drop_first, flat, of}
use Rattle.core_state.specs.Outcome.{elected_entries, lines_left}
use Rattle.core_state.specs.Rows.{HasKey}
use Rattle.core_state.specs.Tests.{is_any_replaced}
use Rattle.core_state.specs.Words.{inside, life_of, notify, posted, recovery, replacing, standing_life, turn}
use Rattle.core_state.specs.declared.answers.Elected.{Elected}
use Rattle.core_state.specs.declared.answers.Elected.TheVariants as elected
use Rattle.core_state.specs.declared.job.Job.{Job}
use Rattle.core_state.specs.declared.job.Job.TheVariants as job
use Rattle.core_state.specs.declared.views.Item.TheVariants as line
use Rattle.core_state.specs.declared.views.View.{View}
use Rattle.core_state.specs.declared.views.Word.TheVariants as word
use Rattle.core_state.proofs.Base.Counting.{eqb_here, both}
use Rattle.core_state.proofs.Lines.After.{line_stands}
use Rattle.core_state.proofs.Lines.Entries.{noted_entered}
use Rattle.core_state.proofs.Lines.Leaves.{HasLine, stepped}
use Rattle.core_state.proofs.Load.Recovery.{same_spot}
use Rattle.core_state.proofs.Start.Asked.{reached_is_key}
use Rattle.recovery.specs.Recovering.{is_last, is_over as is_passed, makes_step, phase_lines}
use Rattle.recovery.specs.Resting.{lets_go}
use Rattle.recovery.specs.declared.recover.Phase.TheVariants as phase
use Rattle.recovery.specs.declared.recover.Recover.{Recover}
use Rattle.compute_notify.specs.Items.{Stands}
use Rattle.compute_notify.specs.Resting.{Excuses, LeavesAbove, LetsFall, job_rest, suspect_rest}
use Rattle.compute_notify.specs.Resting.Excuses.{awaited, bad, given, marked_descriptor, marked_place, marked_port, marked_word, moved, taken}
use Rattle.compute_notify.specs.Running.{Runs}
use Rattle.compute_notify.specs.Tasks.{IsNext, few_left, task_items, task_rest}
use Rattle.compute_notify.specs.Working.{FitsTop}
use Rattle.compute_notify.specs.declared.item.Item.{Item}
use Rattle.compute_notify.specs.declared.item.Item.TheVariants as item
use Rattle.compute_notify.specs.declared.task.Task.{Task}
use Rattle.compute_notify.proofs.JobRests.{job_few as job_rest_few}
use Rattle.run_bounds.specs.Doing.Doing.{works}
use Rattle.run_bounds.specs.Light.{lines_weight, suspect_light, task_light}
use Rattle.run_bounds.specs.Shared.{Charge, IsLoser, IsPart, IsPlain, IsQuiet, IsTopped, IsWinner, KeepsWords, StandsSeen}
use Rattle.run_bounds.specs.Storm.{job_cost, job_kind}
use Rattle.run_bounds.specs.Struck.{IsBlamed, IsMade, by_mark}
use Rattle.run_bounds.proofs.Entered.{post_begins}
use Rattle.run_bounds.proofs.Light.{lines_weigh}
use Rattle.run_bounds.proofs.Weights.{serving_more}
use Rattle.run_bounds.proofs.Shared.Balancing.{Paid, cost_some, falls, lost_falls, pays, plain_renews, seen_next, stalls}
use Rattle.run_bounds.proofs.Shared.Meeting.{MaySee, descriptor_life, keeps_all, keeps_apart, keeps_marked, notify_life, same_turn, wins_next}
use Rattle.run_bounds.proofs.Shared.Parts.{job_few, job_life, job_row, known_row, life}
use Rattle.run_bounds.proofs.Shared.Weighing.{behind_plain, descriptor_weighs, elected_lines_are, finish_weighs, loaded_weighs, posted_weighs, registered_blames, registered_weighs, spent_blames, spent_weighs, suspect_weighs, won_weighs, word_weighs}
use Rattle.run_bounds.proofs.Storm.Preparing.{Prepared}
use Rattle.run_bounds.proofs.Storm.Sorts.{Plain, Renews}

-- an election that is not won leaves its word
lost_leaves : (l n : ℕ) → elected_of l n ≢ elected.Yes → elect_left l n ≡ n
lost_leaves l n lost = by (eqb n (2 * (l - 1))) refl
  where
    by : (f : Bool) → eqb n (2 * (l - 1)) ≡ f → elect_left l n ≡ n
    by true is = absurd (lost (rw is))
    by false is = rw is

-- a life that stands and is not being replaced wins
standing_wins : (l n : ℕ) → standing_life n ≡ l → replacing n ≡ 0 → elected_of l n ≡ elected.Yes
standing_wins l n same none = let is : n ≡ 2 * (l - 1) = omega (arith, same, none) in rw (eq-eqb n (2 * (l - 1)) is)

-- a suspect goes only where its life has come
goes_low : (l n : ℕ) (waits : Bool) → lets_go l waits (elected_of l n) ≡ true → l ≤ standing_life n
goes_low l n waits goes = by (eqb n (2 * (l - 1))) (nat_lt l (standing_life n)) refl goes
  where
    by : (a b : Bool) → nat_lt l (standing_life n) ≡ b → lets_go l waits (cond a elected.Yes (cond b (elected.Replaced (standing_life n)) (elected.Renewing (standing_life n)))) ≡ true → l ≤ standing_life n
    by true b low is = absurd cc
    by false true low is = let a = ltb-true l (standing_life n) low in omega (arith, a)
    by false false low is = let a = eqb-true (standing_life n) l (both (eqb (standing_life n) l) (not waits) is).0 in omega (arith, a)

-- a step of a renewal is never excused
abbrev MayExcuse : Event → Type 0
MayExcuse (renew_notify r k l d) = ⊥
MayExcuse (renew_descriptor r k l) = ⊥
MayExcuse (finish r k l) = ⊥
MayExcuse _ = Unit {0}

may_excuse : (e : Setting) (p : List Strike) (x : Event) (n rise : ℕ) → Excuses e p x n rise → MayExcuse x
may_excuse e p x n rise (taken b was m one) = tt
may_excuse e p x n rise (moved r k l i seen m z told) = tt
may_excuse e p x n rise (awaited r k l c waits m z) = tt
may_excuse e p x n rise (marked_descriptor r k m marked) = tt
may_excuse e p x n rise (marked_place r k j m marked) = tt
may_excuse e p x n rise (marked_port r k q m marked) = tt
may_excuse e p x n rise (marked_word r k l i seen m marked) = tt
may_excuse e p x n rise (bad k j m was low wrong) = tt
may_excuse e p x n rise (given r k l m i key some same) = tt

module _ (e : Setting) (s t : Core) (v w : View) (p : List Strike) (most : ℕ) (few : (k : ℕ) → 2 * suspect_rest e k + 2 ≤ most) (part : IsPart e s v) (task now : Task) (hints left : List ℕ) (before : task_rest e p task ≡ task_light e p task + lines_weight e (flat v.stacks)) (later : task_rest e p now ≡ task_light e p now + lines_weight e (flat w.stacks)) where
  -- a step that serves
  module _ (same_hints : length left ≡ length hints) (topped : IsTopped v) (plain : IsPlain v) (not_seen : StandsSeen e p s (works task) → ⊥) (u : View) (ready : Prepared e v u) where
    has_line : HasLine u
    has_line = ready.line_on (record { first = plain.first; rest = plain.below; lines_are = plain.top })

    -- a turn in vain
    in_vain : v.hands ≡ [] → KeepsWords e s t → task_light e p now ≤ task_light e p task → (IsQuiet e s → IsWinner e t w) → Paid e s t v w p most task now hints left
    in_vain free words less then = stalls e s t v w p most task now hints left before later same_hints less free (plain_renews v plain) not_seen words (λ quiet. inl (plain, inl (then quiet)))

    -- a mark was seen
    saw : (r k l : ℕ) → KnowsRow e v r k → v.hands ≡ [] → KeepsWords e s t → IsBlamed w k l → (IsQuiet e s → HasKey e s r k → l ≡ standing_life (s.word (recovery r))) → lines_weight e (flat u.stacks) + suspect_rest e k ≤ lines_weight e (flat w.stacks) → task_rest e p now ≤ task_rest e p task + suspect_rest e k → Paid e s t v w p most task now hints left
    saw r k l row free words blamed lives more low = in_vain free words (let a = ready.weighs in omega (arith, a, more, low, before, later)) (λ quiet. wins_next words r k l has blamed (lives quiet has))
      where
        has : HasKey e s r k
        has = known_row part r k row.row_known

    -- a computing at work has not ended
    none_ended : (k l : ℕ) → 0 < held job.Compute k l v → s.total (ended job.Compute k l) ≡ 0
    none_ended k l some = let row = job_row part job.Compute k l (omega (arith, some)) in let h = part.within (held job.Compute k l) in
        let first = (job_life part.sound part.holds row.0 k row.1 job.Compute l (omega (arith, h, some))).0 in
        let a = job_few part row.0 k row.1 job.Compute l first in omega (arith, a, h, some)

    module _ (x : Event) (n : ℕ) (step : IsMade e x n s t u w) (is : Plain e v u w n (task_rest e p now + 1 ≤ task_rest e p task) x) where
      heavier : lines_weight e (flat v.stacks) ≤ lines_weight e (flat w.stacks)
      heavier = let a = ready.weighs in let b = serving_more e v u w n (task_rest e p now + 1 ≤ task_rest e p task) x is in let c = lines_weigh e w (lines_left e x n u (flat u.stacks)) (stepped e x n u w (λ z. has_line) step.view_is) in omega (arith, a, b, c)

      fell : task_rest e p now + 1 ≤ task_rest e p task → Paid e s t v w p most task now hints left
      fell = falls e s t v w p most task now hints left before later same_hints heavier

    excused : (x : Event) (n rise : ℕ) → Excuses e p x n rise → (MaySee x → v.hands ≡ []) → IsMade e x n s t u w → Plain e v u w n (task_rest e p now + 1 ≤ task_rest e p task) x → task_rest e p now ≤ task_rest e p task + rise → Paid e s t v w p most task now hints left
    excused x n rise (taken b was m one) free step is low = in_vain (sym ready.same_hands ∙ is.0) (keeps_all (take_turn b was) n step here (ap Rattle.core_state.specs.Effects.turn_left one ∙ sym one) (same_turn b)) (let a = heavier (take_turn b was) n step is in omega (arith, a, low, before, later))
        (λ quiet. absurd (let a = quiet.none_taken b is.1 in let c = step.found_is here in omega (arith, a, c, one)))
      where
        here : inside e.shape (turn b) ≡ true
        here = lt-ltb b e.shape.blocks is.1
    excused x n rise (moved r k l i m_seen m z told) free step is low = absurd is
    excused x n rise (awaited r k l c waits m z) free step is low = absurd is
    excused x n rise (marked_descriptor r k m marked) free step is low = let row : KnowsRow e v r k = is.0 in
        saw r k (life_of n) row (free tt) (keeps_apart (load_descriptor r k) n step r refl) (is.1 marked) (λ quiet has. descriptor_life part quiet r k has n (step.found_is (lt-ltb r e.shape.rows row.low)))
        (loaded_weighs e n r k u w (ready.topped_on topped) marked (is.1 marked) step.view_is (ready.plain_on plain)) low
    excused x n rise (marked_place r k j m marked) free step is low = let row : KnowsRow e v r k = is in
        saw r k (life_of n) row (free tt) (keeps_apart (spend r k j) n step r refl) (spent_blames e n r k j u w has_line marked step.view_is) (λ quiet has. descriptor_life part quiet r k has n (step.found_is (lt-ltb r e.shape.rows row.low)))
        (spent_weighs e n r k j u w has_line marked step.view_is) low
    excused x n rise (marked_port r k q m marked) free step is low = let row : KnowsRow e v r k = is.0 in let here = lt-ltb r e.shape.rows row.low in let there = lt-ltb (q / 40) e.shape.notify_words is.1 in let within : inside e.shape (notify r (q / 40)) ≡ true = rw (here, there) in
        saw r k (life_of n) row (free tt) (keeps_marked (register r k q) n step r (q / 40) refl within marked) (registered_blames e n r k q u w has_line marked step.view_is) (λ quiet has. notify_life part quiet r k has (q / 40) n (step.found_is within) marked)
        (registered_weighs e n r k q u w has_line marked step.view_is) low
    excused x n rise (marked_word r k l i m_seen m marked) free step is low = absurd is
    excused x n rise (bad k j m was low_input wrong) free step is low = let heavy = heavier (give_read (e.graph.block (e.graph.pred k j).task) was) n step is in let a = few (e.graph.pred k j).task in let b = few k in
        ⊎_elim (λ less. fell (give_read (e.graph.block (e.graph.pred k j).task) was) n step is less)
        (λ other. ⊎_elim
        (λ it. pays e s t v w p most task now hints left before later most (Charge.reads it.key it.life (none_ended it.key it.life it.held_before) it.ended_now it.suspects_now) (omega (arith, heavy, a, b, low, same_hints, before, later)))
        (λ one. pays e s t v w p most task now hints left before later (2 * most) (Charge.misses (omega (arith, one))) (omega (arith, heavy, a, b, low, same_hints, before, later)))
        other) is
    excused x n rise (given r k l m i key some same) free step is low = absurd is

    -- a step that serves
    pub serves_pays : (x : Event) (n : ℕ) → (MaySee x → v.hands ≡ []) → IsMade e x n s t u w → Plain e v u w n (task_rest e p now + 1 ≤ task_rest e p task) x → LetsFall e p x n (task_rest e p task) (task_rest e p now) → Paid e s t v w p most task now hints left
    serves_pays x n free step is lets = ⊎_elim (λ less. fell x n step is (let a = cost_some x in omega (arith, a, less))) (λ more. excused x n more.0 more.1 free step is more.2) lets

  -- a step of a renewal
  pub renews_pays : length left ≡ length hints → (x : Event) (r k l d : ℕ) (b : List Line) (n : ℕ) → Renews x r k l d → flat v.stacks ≡ of (line.Renew k l d) ∷ b → IsMade e x n s t v w → LetsFall e p x n (task_rest e p task) (task_rest e p now) → Paid e s t v w p most task now hints left
  renews_pays same_hints x r k l d b n renews top step lets = ⊎_elim (λ is. word_paid (subst (λ z. IsMade e z n s t v w) is step) (subst (λ z. LetsFall e p z n (task_rest e p task) (task_rest e p now)) is lets))
      (λ other. ⊎_elim (λ is. descriptor_paid (subst (λ z. IsMade e z n s t v w) is step) (subst (λ z. LetsFall e p z n (task_rest e p task) (task_rest e p now)) is lets))
      (λ is. end_paid (subst (λ z. IsMade e z n s t v w) is step) (subst (λ z. LetsFall e p z n (task_rest e p task) (task_rest e p now)) is lets)) other) renews
    where
      word_paid : IsMade e (renew_notify r k l d) n s t v w → LetsFall e p (renew_notify r k l d) n (task_rest e p task) (task_rest e p now) → Paid e s t v w p most task now hints left
      word_paid made rest = ⊎_elim (λ less. falls e s t v w p most task now hints left before later same_hints (word_weighs e v w n r k l d b top d made.view_is) less) (λ more. absurd (may_excuse e p (renew_notify r k l d) n more.0 more.1)) rest

      descriptor_paid : IsMade e (renew_descriptor r k l) n s t v w → LetsFall e p (renew_descriptor r k l) n (task_rest e p task) (task_rest e p now) → Paid e s t v w p most task now hints left
      descriptor_paid made rest = ⊎_elim (λ less. falls e s t v w p most task now hints left before later same_hints (descriptor_weighs e v w n r k l d b top made.view_is) less) (λ more. absurd (may_excuse e p (renew_descriptor r k l) n more.0 more.1)) rest

      end_paid : IsMade e (finish r k l) n s t v w → LetsFall e p (finish r k l) n (task_rest e p task) (task_rest e p now) → Paid e s t v w p most task now hints left
      end_paid made rest = ⊎_elim (λ less. falls e s t v w p most task now hints left before later same_hints (finish_weighs e v w n r k l d b top made.view_is) less) (λ more. absurd (may_excuse e p (finish r k l) n more.0 more.1)) rest

  -- a post, whose hint is worth three
  module _ (g : TaskGraph) (lives : ℕ) (runs : Runs g p lives e) (one_hint : length left ≡ length hints + 1) (r : ℕ) (i : Job) (k l : ℕ) (b : List Line) (n : ℕ) (row : KnowsRow e v r k) (top : flat v.stacks ≡ of (line.Owe k i l) ∷ b) (step : IsMade e (post r i k l) n s t v w) where
    same_weight : lines_weight e (flat w.stacks) ≡ lines_weight e (flat v.stacks)
    same_weight = posted_weighs e v w n r i k l b top step.view_is

    comes : (key : Key) → n ≢ 0 → key.0 ≡ k → task_rest e p now ≤ task_rest e p task + job_rest e p (record { row = r; key = key; life = n }) i → Paid e s t v w p most task now hints left
    comes key some same more = pays e s t v w p most task now hints left before later (job_cost e p (record { kind = job_kind i; key = k; life = n })) (Charge.begins i k n none
        (let a = post_begins e n v w r k l (n - 1) i (omega (arith, some)) (b, top) step.view_is in omega (arith, a)))
        (let is_key : IsCoreKey g key.0 = subst (IsCoreKey g) (sym same) (reached_is_key g runs.serves.outcome e.graph k runs.laws runs.serves.graph (part.holds.keys.reached r k has)) in
        let h = job_rest_few g p lives e runs (record { row = r; key = key; life = n }) is_key i in
        let j : few_left e p key n ≡ job_cost e p (record { kind = job_kind i; key = k; life = n }) = ap (λ m. few_left e p (record { 0 = m }) n) same in
        let a = same_weight in omega (arith, a, h, j, more, one_hint, before, later))
      where
        has : HasKey e s r k
        has = known_row part r k row.row_known

        found : s.word (posted i r) ≡ n
        found = step.found_is (lt-ltb r e.shape.rows row.low)

        none : s.total (held i k n) + s.total (ended i k n) ≡ 0
        none = let a = job_few part r k has i n (omega (arith, some)) in let c : hit (eqb n (s.word (posted i r))) ≡ 1 = ap (λ m. hit (eqb n m)) found ∙ ap hit (eqb_here n) in omega (arith, a, c)

    pub posts_pays : LetsFall e p (post r i k l) n (task_rest e p task) (task_rest e p now) → Paid e s t v w p most task now hints left
    posts_pays lets = ⊎_elim (λ less. pays e s t v w p most task now hints left before later 0 Charge.nothing (let a = same_weight in omega (arith, a, less, one_hint, before, later))) (λ more. by more.0 more.1 more.2) lets
      where
        by : (rise : ℕ) → Excuses e p (post r i k l) n rise → task_rest e p now ≤ task_rest e p task + rise → Paid e s t v w p most task now hints left
        by rise (given a d f h j key some same) low = comes key some same low

  -- an election
  module _ (same_hints : length left ≡ length hints) (topped : IsTopped v) (g : TaskGraph) (others : List Item) (m : Recover) (next : IsNext e.graph p (task_items task) others (Some (item.Recover m))) (it : Stands g e v (item.Recover m)) (hand : FitsTop e v task.hand (item.Recover m)) (suspects : m.phase ≡ phase.Suspect)
      (r k l : ℕ) (c : Cause) (waits : Bool) (b : List Line) (n : ℕ) (row : KnowsRow e v r k) (top : flat v.stacks ≡ of (line.Suspect k l c waits) ∷ b) (step : IsMade e (elect r k l c waits) n s t v w) (again : LeavesAbove e.graph p n (item.Recover m) others (task_items now)) where
    has : HasKey e s r k
    has = known_row part r k row.row_known

    within : inside e.shape (recovery r) ≡ true
    within = lt-ltb r e.shape.rows row.low

    found : s.word (recovery r) ≡ n
    found = step.found_is within

    -- the item is that of the first line
    same_line : of (line.Suspect k l c waits) ∷ b ≡ of (line.Suspect m.key.0 m.life m.cause m.wait) ∷ it.top.below
    same_line = sym top ∙ line_stands e v (line.Suspect m.key.0 m.life m.cause m.wait) it.top.below refl (subst (λ q. HasLines e v (phase_lines e.graph m.key.0 m.life m.cause m.wait q it.top.below)) suspects it.top.lines_are)

    key_is : m.key.0 ≡ k
    key_is = let z = same_line in cc

    life_is : m.life ≡ l
    life_is = let z = same_line in cc

    waits_is : m.wait ≡ waits
    waits_is = let z = same_line in cc

    heavy : lines_weight e (flat v.stacks) + suspect_light c ≡ lines_weight e b + suspect_rest e k
    heavy = suspect_weighs e v w n r k l c waits b top step.view_is

    -- a turn in vain
    elects_vain : KeepsWords e s t → task_light e p now ≤ task_light e p task → (IsQuiet e s → IsLoser e s v × IsPlain w) → Paid e s t v w p most task now hints left
    elects_vain words less then = stalls e s t v w p most task now hints left before later same_hints less hand.0
        (λ a z. let same : of (line.Suspect k l c waits) ∷ b ≡ of (line.Renew a z.life z.done) ∷ z.below = sym top ∙ z.top in cc)
        (λ seen. let same = seen_next e p s task others (item.Recover m) next seen in cc) words (λ quiet. inr (then quiet))

    -- the election is won
    won : elected_of l n ≡ elected.Yes → task_rest e p now ≤ task_rest e p task → Paid e s t v w p most task now hints left
    won told low = pays e s t v w p most task now hints left before later most (Charge.replaces replaced)
        (let a = won_weighs e v w n r k l c waits b top step.view_is told in let d = heavy in let f = few k in omega (arith, a, d, f, low, same_hints, before, later))
      where
        replaced : noted is_any_replaced v + 1 ≤ noted is_any_replaced w
        replaced = let a = noted_entered e is_any_replaced (elect r k l c waits) n v w step.view_is in let d = ap (λ x. count is_any_replaced (elected_entries k l c x)) told in omega (arith, a, d)

    module _ (not_won : elected_of l n ≢ elected.Yes) where
      words_stay : KeepsWords e s t
      words_stay = keeps_all (elect r k l c waits) n step within (lost_leaves l n not_won) (same_spot r word.Recovery)

      -- the suspect goes
      goes_away : lets_go l waits (elected_of l n) ≡ true → HasLines e w b → Paid e s t v w p most task now hints left
      goes_away goes lines = by c refl
        where
          -- its life is not the greatest
          not_last : l < greatest_life e k
          not_last = let low = goes_low l n waits goes in let most_lives = (life part r k has).at_most in let a = ap standing_life found in let d = ap replacing found in
              dite (ℕ_discrete (replacing n) 0)
              (λ none. dite (ℕ_discrete (standing_life n) l) (λ same. absurd (not_won (standing_wins l n same none))) (λ ne. omega (arith, low, most_lives, a, d, ne)))
              (λ ne. omega (arith, low, most_lives, a, d, ne))

          makes : makes_step m ≡ true
          makes = ap (λ q. not (is_passed q) && not (is_last q m.life m.lives)) suspects ∙ ap not (ne_eqb m.life m.lives (λ same. let a = it.fits.lives_are in let d = ap (greatest_life e) key_is in let f = not_last in let h = life_is in omega (arith, a, d, f, h, same)))

          fallen : task_rest e p now + suspect_rest e k ≤ task_rest e p task
          fallen = let a = lost_falls e p n task now others m next again suspects makes (ap (λ z. lets_go z m.wait (elected_of z n)) life_is ∙ ap (λ z. lets_go l z (elected_of l n)) waits_is ∙ goes) in let d = ap (suspect_rest e) key_is in omega (arith, a, d)

          lighter : task_light e p now + suspect_light c ≤ task_light e p task
          lighter = let a = lines_weigh e w b lines in let d = heavy in let f = fallen in omega (arith, a, d, f, before, later)

          loses : by_mark c ≡ true → IsQuiet e s → IsLoser e s v × IsPlain w
          loses marked quiet = (
            record {
              row = r;
              life = l;
              suspect = record { key = k; has_key = has; cause = c; waits = waits; below = b; marked = marked; top = top };
              replaced = λ same. not_won (standing_wins l n (sym (ap standing_life found) ∙ same) (sym (ap replacing found) ∙ quiet.none_replaced r row.low));
            },
            behind_plain e v w (line.Suspect k l c waits) b top topped lines,
          )

          vain : by_mark c ≡ true → Paid e s t v w p most task now hints left
          vain marked = elects_vain words_stay (let a = lighter in omega (arith, a)) (loses marked)

          by : (z : Cause) → z ≡ c → Paid e s t v w p most task now hints left
          by cause.Descriptor same = vain (ap by_mark (sym same))
          by cause.Notify same = vain (ap by_mark (sym same))
          by (cause.Block a d f) same = pays e s t v w p most task now hints left before later 0 Charge.nothing (let z = lighter in let y = ap suspect_light same in omega (arith, z, y, same_hints))

      -- or waits
      stays_on : HasLines e w (of (line.Suspect k l c waits) ∷ b) → LetsFall e p (elect r k l c waits) n (task_rest e p task) (task_rest e p now) → Paid e s t v w p most task now hints left
      stays_on lines lets = ⊎_elim (λ less. falls e s t v w p most task now hints left before later same_hints (omega (arith, same)) less) (λ more. by more.0 more.1 more.2) lets
        where
          same : lines_weight e (flat w.stacks) ≡ lines_weight e (flat v.stacks)
          same = lines_weigh e w (of (line.Suspect k l c waits) ∷ b) lines ∙ sym (ap (lines_weight e) top)

          by : (rise : ℕ) → Excuses e p (elect r k l c waits) n rise → task_rest e p now ≤ task_rest e p task + rise → Paid e s t v w p most task now hints left
          by rise (awaited a d f h o z replaced) low = elects_vain words_stay (let i = same in omega (arith, i, low, before, later)) (λ quiet. absurd (let i = quiet.none_replaced r row.low in let j = ap replacing found in omega (arith, i, j, replaced)))

    pub elects_pays : LetsFall e p (elect r k l c waits) n (task_rest e p task) (task_rest e p now) → Paid e s t v w p most task now hints left
    elects_pays lets = by (elected_of l n) refl
      where
        lines_are : (x : Elected) → elected_of l n ≡ x → HasLines e w (elected_lines k l waits x (of (line.Suspect k l c waits) ∷ b))
        lines_are = elected_lines_are e v w n r k l c waits b top step.view_is

        unrisen : (rise : ℕ) → Excuses e p (elect r k l c waits) n rise → task_rest e p now ≤ task_rest e p task + rise → task_rest e p now ≤ task_rest e p task
        unrisen rise (awaited a d f h o z replaced) low = omega (arith, low)

        renewing : (x : ℕ) → elected_of l n ≡ elected.Renewing x → (f h : Bool) → eqb x l ≡ f → waits ≡ h → Paid e s t v w p most task now hints left
        renewing x told true false same still = goes_away (λ z. let y : elected.Yes ≡ elected.Renewing x = sym z ∙ told in cc) (ap (lets_go l waits) told ∙ ap (λ a. a && not waits) same ∙ ap not still)
            (subst (λ a. HasLines e w (cond true (cond a (of (line.Suspect k l c waits) ∷ b) (drop_first (of (line.Suspect k l c waits) ∷ b))) (of (line.Suspect k l c waits) ∷ b))) still
            (subst (λ a. HasLines e w (cond a (cond waits (of (line.Suspect k l c waits) ∷ b) (drop_first (of (line.Suspect k l c waits) ∷ b))) (of (line.Suspect k l c waits) ∷ b))) same (lines_are (elected.Renewing x) told)))
        renewing x told true true same still = stays_on (λ z. let y : elected.Yes ≡ elected.Renewing x = sym z ∙ told in cc)
            (subst (λ a. HasLines e w (cond true (cond a (of (line.Suspect k l c waits) ∷ b) (drop_first (of (line.Suspect k l c waits) ∷ b))) (of (line.Suspect k l c waits) ∷ b))) still
            (subst (λ a. HasLines e w (cond a (cond waits (of (line.Suspect k l c waits) ∷ b) (drop_first (of (line.Suspect k l c waits) ∷ b))) (of (line.Suspect k l c waits) ∷ b))) same (lines_are (elected.Renewing x) told))) lets
        renewing x told false h same still = stays_on (λ z. let y : elected.Yes ≡ elected.Renewing x = sym z ∙ told in cc)
            (subst (λ a. HasLines e w (cond a (cond waits (of (line.Suspect k l c waits) ∷ b) (drop_first (of (line.Suspect k l c waits) ∷ b))) (of (line.Suspect k l c waits) ∷ b))) same (lines_are (elected.Renewing x) told)) lets

        by : (x : Elected) → elected_of l n ≡ x → Paid e s t v w p most task now hints left
        by elected.Yes told = won told (⊎_elim (λ less. omega (arith, less)) (λ more. unrisen more.0 more.1 more.2) lets)
        by (elected.Replaced x) told = goes_away (λ z. let y : elected.Yes ≡ elected.Replaced x = sym z ∙ told in cc) (ap (lets_go l waits) told) (lines_are (elected.Replaced x) told)
        by (elected.Renewing x) told = renewing x told (eqb x l) waits refl refl
