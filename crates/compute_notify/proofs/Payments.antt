-- The turn of a job that is owed, and that of the end of a stack: what it leaves, and how much is left.
use Rattle.std.proofs.Common.{◌≡◌, ◌≢◌, ℕ, Bool, true, false, not, ◌&&◌, cond, eqb, List, ◌∷◌, Some, None, inl, inr, ap, arith, refl, sym, ◌∙◌, subst}
use Rattle.std.proofs.lemmas.Bool.{eq-eqb}
use Rattle.graph_model.specs.Graph.{Graph as TaskGraph}
use Rattle.graph_model.specs.declared.key.Key.{Key}
use Rattle.graph_model.specs.declared.plan.Strike.{Strike}
use Rattle.core_state.specs.Counts.{known_key}
use Rattle.core_state.specs.Graph.{Setting}
use Rattle.core_state.specs.Events.{after}
use Rattle.core_state.specs.Events.Event.{buy, drop_credit, post}
use Rattle.core_state.specs.Lines.{Line, HasLines, begins, credit, of, settled}
use Rattle.core_state.specs.declared.job.Job.{Job}
use Rattle.core_state.specs.declared.job.Job.TheVariants as job
use Rattle.core_state.specs.declared.views.View.{View}
use Rattle.core_state.proofs.Lines.After.{drops}
use Rattle.core_state.proofs.Lines.Counts.{drop_spares}
use Rattle.core_state.proofs.Lines.Outcomes.{leaves}
use Rattle.recovery.specs.Happening.{owe_event}
use Rattle.recovery.specs.Memory.{IsOnTop, KnowsKey, Remembers}
use Rattle.recovery.specs.Owing.{GivenFresh, is_bought, is_given_life, owe_lines, paid_credits, paid_lines}
use Rattle.recovery.specs.Reentering.{IsTold}
use Rattle.recovery.specs.Resting.{owe_rest}
use Rattle.recovery.specs.declared.owe.Owe.{Owe}
use Rattle.recovery.specs.declared.owe.Paid.{Paid}
use Rattle.recovery.specs.declared.owe.Paid.TheVariants as paid
use Rattle.recovery.proofs.Knowing.{known_is}
use Rattle.recovery.proofs.Paying.{posted_some}
use Rattle.recovery.proofs.Phases.{told_stays}
use Rattle.compute_notify.specs.Items.{Goes, item_lines, job_item}
use Rattle.compute_notify.specs.Resting.{Excuses, LetsFall, after_rest, item_rest, job_rest, step_cost}
use Rattle.compute_notify.specs.Resting.Excuses.{given}
use Rattle.compute_notify.specs.declared.item.After.{After}
use Rattle.compute_notify.specs.declared.item.Came.TheVariants as came
use Rattle.compute_notify.specs.declared.item.Item.{Item}
use Rattle.compute_notify.specs.declared.item.Item.TheVariants as item
use Rattle.compute_notify.proofs.Beginning.{SameJob, begun_credits, begun_fits, begun_lines, begun_rest, same_job}

-- The end of a stack.
module _ (g : TaskGraph) (e : Setting) (v w : View) (n : ℕ) (top : IsOnTop e v (λ b. credit ∷ b)) (none : v.spare ≡ 0) (is : w ≡ after e drop_credit n v) where
  pub goes_up : (now : After) → now ≡ record { left = None; came = came.Nothing } → Goes g e v w (item_lines e.graph item.Credit) now
  goes_up now left = subst (Goes g e v w (item_lines e.graph item.Credit)) (sym left) (record {
    lines = λ b lines. drops e v w n b lines.lines_are is;
    left = tt;
    came = tt;
    credits = (leaves e drop_credit n v w is).spare_is ∙ drop_spares e v top.below top.lines_are.lines_are ∙ none;
  })

pub falls_up : (e : Setting) (p : List Strike) (n : ℕ) (now : After) → now ≡ record { left = None; came = came.Nothing } → LetsFall e p drop_credit n 1 (after_rest e p None now)
falls_up e p n now is = inl (let a = ap (after_rest e p None) is in omega (arith, a))

unbought : (b : Bool) → true ≡ not b → b ≡ false
unbought true is = cc
unbought false is = refl

was_bought : (b : Bool) → false ≡ not b → b ≡ true
was_bought true is = refl
was_bought false is = cc

pub some_number : (b : Bool) (n : ℕ) → true ≡ (b && not (eqb n 0)) → n ≢ 0
some_number true n is z = let f : eqb n 0 ≡ true = eq-eqb n 0 z in let h : true ≡ not (eqb n 0) = is in let t : true ≡ false = h ∙ ap not f in absurd cc
some_number false n is z = absurd cc

-- What the step for the job comes to.
module _ (g : TaskGraph) (e : Setting) (v w : View) (o : Owe) (told : IsTold g e v o.row o.key.0) (more : Remembers v w) (answer : Paid)
    (lines : (b : List Line) → HasLines e v (owe_lines o b) → HasLines e w (paid_lines answer o b)) (credits : w.spare ≡ paid_credits answer) where
  pub goes_bought : (later : Owe) (now : After) → answer ≡ paid.Bought → later ≡ record o { bought = true } → now ≡ record { left = Some (item.Owe later); came = came.Nothing } → Goes g e v w (item_lines e.graph (item.Owe o)) now
  goes_bought later now paid_is later_is is = subst (Goes g e v w (item_lines e.graph (item.Owe o))) (sym (is ∙ ap (λ x. record { left = Some (item.Owe x); came = came.Nothing }) later_is)) (record {
    lines = λ b old. subst (λ x. HasLines e w (paid_lines x o b)) paid_is (lines b old);
    left = told_stays g e v w o.row o.key.0 more told;
    came = tt;
    credits = credits ∙ ap paid_credits paid_is;
  })

  pub goes_posted : (now : After) → answer ≡ paid.Posted → now ≡ record { left = None; came = came.Nothing } → Goes g e v w (item_lines e.graph (item.Owe o)) now
  goes_posted now paid_is is = subst (Goes g e v w (item_lines e.graph (item.Owe o))) (sym is) (record {
    lines = λ b old. subst (λ x. HasLines e w (paid_lines x o b)) paid_is (lines b old);
    left = tt;
    came = tt;
    credits = credits ∙ ap paid_credits paid_is;
  })

  pub goes_given : (life : ℕ) (now : After) → answer ≡ paid.Given life → GivenFresh e w o answer → now ≡ record { left = None; came = came.Stack (job_item (record { row = o.row; key = o.key; life = life }) o.job) } → Goes g e v w (item_lines e.graph (item.Owe o)) now
  goes_given life now paid_is fresh is = subst (Goes g e v w (item_lines e.graph (item.Owe o))) (sym is) (record {
    lines = λ b old. subst (HasLines e w) (sym (begun_lines e.graph (record { row = o.row; key = o.key; life = life }) o.job (credit ∷ b))) (subst (λ x. HasLines e w (paid_lines x o b)) paid_is (lines b old));
    left = tt;
    came = (begun_fits g e w (record { row = o.row; key = o.key; life = life }) o.job (told_stays g e v w o.row o.key.0 more told) (subst (GivenFresh e w o) paid_is fresh), tt);
    credits = credits ∙ ap paid_credits paid_is ∙ sym (begun_credits (record { row = o.row; key = o.key; life = life }) o.job);
  })

-- How much is left then.
pub owe_cost : (v : View) (o : Owe) → step_cost (owe_event v o) ≡ cond o.bought 4 1
owe_cost v o = by o.bought
  where
    by : (b : Bool) → step_cost (cond b (post o.row o.job (known_key o.row v) o.life) buy) ≡ cond b 4 1
    by true = refl
    by false = refl

-- a job that came is the one whose number the word held
module _ (e : Setting) (v w : View) (o : Owe) (knows : KnowsKey e v o.row o.key.0) (n life : ℕ) (b c : List Line) (old : HasLines e v (owe_lines o b)) (is : w ≡ after e (post o.row o.job (known_key o.row v) o.life) n v) (some : n ≢ 0) where
  pub same_given : (i : Job) (k : ℕ) → HasLines e w (of (begins i k life) ∷ c) → SameJob i o.job k o.key.0 life n
  same_given i k lines = same_job i o.job k o.key.0 life n c (credit ∷ b) (first i k life c ∙ sym lines.lines_are ∙ (posted_some e v o.key.0 o.life o.job b old w n o.row n knows is refl some).lines_are ∙ sym (first o.job o.key.0 n (credit ∷ b)))
    where
      first : (j : Job) (m l : ℕ) (d : List Line) → of (begins j m l) ∷ d ≡ settled e.graph e.plan w.strikes (of (begins j m l) ∷ d)
      first job.Explore m l d = refl
      first job.Compute m l d = refl

module _ (e : Setting) (p : List Strike) (v : View) (o : Owe) (n : ℕ) (answer : Paid) (bought : is_bought answer ≡ not o.bought) where
  pub falls_bought : (later : Owe) (now : After) → answer ≡ paid.Bought → later ≡ record o { bought = true } → now ≡ record { left = Some (item.Owe later); came = came.Nothing } → LetsFall e p (owe_event v o) n (item_rest e p None (item.Owe o)) (after_rest e p None now)
  falls_bought later now paid_is later_is is = inl (
      let free = unbought o.bought (sym (ap is_bought paid_is) ∙ bought) in
      let a : step_cost (owe_event v o) ≡ 1 = owe_cost v o ∙ ap (λ (b : Bool). cond b 4 1) free in
      let c : owe_rest o ≡ 6 = ap (λ (b : Bool). cond b 5 6) free in
      let d : after_rest e p None now ≡ 5 = ap (after_rest e p None) is ∙ ap owe_rest later_is in omega (arith, a, c, d))

  pub falls_posted : (now : After) → answer ≡ paid.Posted → now ≡ record { left = None; came = came.Nothing } → LetsFall e p (owe_event v o) n (item_rest e p None (item.Owe o)) (after_rest e p None now)
  falls_posted now paid_is is = inl (
      let done = was_bought o.bought (sym (ap is_bought paid_is) ∙ bought) in
      let a : step_cost (owe_event v o) ≡ 4 = owe_cost v o ∙ ap (λ (b : Bool). cond b 4 1) done in
      let c : owe_rest o ≡ 5 = ap (λ (b : Bool). cond b 5 6) done in
      let d : after_rest e p None now ≡ 0 = ap (after_rest e p None) is in omega (arith, a, c, d))

  module _ (w : View) (top : IsOnTop e v (owe_lines o)) (knows : KnowsKey e v o.row o.key.0) (is_given : is_given_life answer ≡ (o.bought && not (eqb n 0))) (lines : (b : List Line) → HasLines e v (owe_lines o b) → HasLines e w (paid_lines answer o b)) (step : w ≡ after e (owe_event v o) n v) where
    pub falls_given : (life : ℕ) (now : After) → answer ≡ paid.Given life → now ≡ record { left = None; came = came.Stack (job_item (record { row = o.row; key = o.key; life = life }) o.job) } → LetsFall e p (owe_event v o) n (item_rest e p None (item.Owe o)) (after_rest e p None now)
    falls_given life now paid_is is =
        let done = was_bought o.bought (sym (ap is_bought paid_is) ∙ bought) in
        let some : n ≢ 0 = some_number o.bought n (sym (ap is_given_life paid_is) ∙ is_given) in
        let event : post o.row o.job (known_key o.row v) o.life ≡ owe_event v o = ap (λ (b : Bool). cond b (post o.row o.job (known_key o.row v) o.life) buy) (sym done) in
        let same = same_given e v w o knows n life top.below (credit ∷ top.below) top.lines_are (subst (λ x. w ≡ after e x n v) (sym event) step) some o.job o.key.0 (subst (λ x. HasLines e w (paid_lines x o top.below)) paid_is (lines top.below top.lines_are)) in
        let rest = begun_rest e p (record { row = o.row; key = o.key; life = life }) (record { row = o.row; key = o.key; life = n }) o.job refl same.lives in
        inr (
          job_rest e p (record { row = o.row; key = o.key; life = n }) o.job,
          subst (λ x. Excuses e p x n (job_rest e p (record { row = o.row; key = o.key; life = n }) o.job)) event (given o.row (known_key o.row v) o.life n o.job o.key some (sym (known_is e v o.row o.key.0 knows))),
          (let d = ap (after_rest e p None) is in omega (arith, rest, d)),
        )

-- the job that came, by the answers of the calls that make it an item
pub given_as : (o later : Owe) (life row : ℕ) (key : Key) (i : Job) (x : Item) (now : After) → later ≡ record o { bought = true } → row ≡ later.row → key ≡ later.key → i ≡ later.job → x ≡ job_item (record { row = row; key = key; life = life }) i → now ≡ record { left = None; came = came.Stack x }
    → now ≡ record { left = None; came = came.Stack (job_item (record { row = o.row; key = o.key; life = life }) o.job) }
given_as o later life row key i x now later_is row_is key_is job_is item_is now_is = now_is ∙ ap (λ (z : Item). record { left = None; came = came.Stack z }) (item_is
    ∙ ap (λ r. job_item (record { row = r; key = key; life = life }) i) (row_is ∙ ap (λ (y : Owe). y.row) later_is)
    ∙ ap (λ k. job_item (record { row = o.row; key = k; life = life }) i) (key_is ∙ ap (λ (y : Owe). y.key) later_is)
    ∙ ap (job_item (record { row = o.row; key = o.key; life = life })) (job_is ∙ ap (λ (y : Owe). y.job) later_is))
