-- The charges of a run that begins with several workers: the first is to explore the root, the others have nothing to do.
use Rattle.std.proofs.Common.{◌≡◌, ℕ, ◌+◌, ◌-◌, ◌<◌, ◌≤◌, Bool, eqb, List, [], ◌∷◌, length, slice_get, Some, inl, inr, arith, refl, ap, sym, ◌∙◌, subst}
use mathlib.Core.Logic.{dite}
use native.Mathlib.Decide.{ℕ_discrete, dec_lt}
use Rattle.std.specs.List.{sum_by}
use Rattle.std.proofs.lemmas.List.Sums.{sum_by-cons}
use Rattle.std.proofs.lemmas.Option.{same_Some}
use Rattle.graph_model.specs.Graph.{Graph as TaskGraph}
use Rattle.graph_model.specs.declared.plan.Strike.{Strike}
use Rattle.graph_model.specs.declared.record.Record.{Record}
use Rattle.core_state.specs.Change.{Core}
use Rattle.core_state.specs.Counts.{count, ended, held, hit, noted}
use Rattle.core_state.specs.Graph.{Setting, Sound}
use Rattle.core_state.specs.Invariant.{Invariant}
use Rattle.core_state.specs.Lines.{flat}
use Rattle.core_state.specs.Rooted.{root_key}
use Rattle.core_state.specs.Rows.{HasKey}
use Rattle.core_state.specs.Tests.{is_created, is_replaced, is_spent, two}
use Rattle.core_state.specs.Views.{opener}
use Rattle.core_state.specs.Words.{key, posted}
use Rattle.core_state.specs.declared.job.Job.{Job}
use Rattle.core_state.specs.declared.job.Job.TheVariants as job
use Rattle.core_state.specs.declared.views.View.{View}
use Rattle.core_state.proofs.Base.Counting.{bump_is, eqb_here, some_one, two_here}
use Rattle.compute_notify.specs.Items.{job_item}
use Rattle.compute_notify.specs.Tasks.{IsNew, task_items}
use Rattle.compute_notify.specs.declared.task.Task.{Task}
use Rattle.compute_notify.proofs.JobRests.{new_few}
use Rattle.run_bounds.specs.Doing.Doing.{idle, works}
use Rattle.run_bounds.specs.Shared.{Actor, BehindPlain, IsPart, IsTopped, Shares, actor_left, asked_of, doing_light, fresh_of}
use Rattle.run_bounds.specs.Storm.{IsStormRun, Lived, job_cost, job_kind, most_cost}
use Rattle.run_bounds.specs.Struck.{lives_of}
use Rattle.run_bounds.proofs.Hinting.{hints_none}
use Rattle.run_bounds.proofs.Light.{items_are}
use Rattle.run_bounds.proofs.Shared.Ledger.{each_more, once_more, part_after}
use Rattle.run_bounds.proofs.Shared.Parts.{job_few, job_high, low_replaced}
use Rattle.run_bounds.proofs.Lists.{first_sum}

-- a worker that has nothing, and nothing to do
pub record IsFree (a : Actor) : Type 0 where
  pub rests : a.doing ≡ idle
  pub no_hints : a.hints ≡ []
  pub no_stacks : a.view.stacks ≡ []
  pub no_records : a.view.records ≡ []

module _ (g : TaskGraph) (p : List Strike) (e : Setting) (run : IsStormRun g p e) (s : Core) (sound : Sound e) (holds : Invariant e s) (crew : List Actor) (all : (f : View → ℕ) → s.total f ≡ sum_by (λ c. f c.view) crew) (a : Actor) (parts row : ℕ) (at : slice_get crew 0 ≡ Some a) (is : a.view ≡ opener parts root_key row) (others : (i : ℕ) (c : Actor) → 0 < i → slice_get crew i ≡ Some c → IsFree c) where
  abbrev first_job : Lived
  first_job = record { kind = 0; key = root_key; life = 1 }

  part : IsPart e s a.view
  part = part_after crew sound holds all 0 a at

  root_held : 0 < s.total (held job.Explore root_key 1)
  root_held = let low = part.within (held job.Explore root_key 1) in let b = ap (held job.Explore root_key 1) is in let c = bump_is (two root_key 1 root_key 1) 0 in let d = ap hit (two_here root_key 1) in omega (arith, low, b, c, d)

  -- the first worker's record is the only one
  noted_first : (test : Record → Bool) → s.total (noted test) ≡ noted test (opener parts root_key row)
  noted_first test = all (noted test) ∙ first_sum (λ c. noted test c.view) crew a at (λ i c later here. ap (count test) (others i c later here).no_records) ∙ ap (noted test) is

  -- the root alone has a row
  key_is_root : (r k : ℕ) → HasKey e s r k → k ≡ root_key
  key_is_root r k has = let one = holds.keys.created r k has in let b = noted_first (is_created k) in some_one k root_key (omega (arith, one, b))

  -- no life was replaced
  first_life : (r k : ℕ) → HasKey e s r k → lives_of s r ≤ 1
  first_life r k has = dite (dec_lt 1 (lives_of s r)) (λ more. absurd (let b = low_replaced sound holds r k has 1 (omega arith) more in let c = noted_first (is_replaced k 1) in omega (arith, b, c))) (λ few. omega (arith, few))

  none_posted : (i : Job) (r k : ℕ) → HasKey e s r k → s.word (posted i r) ≡ 0
  none_posted i r k has = dite (ℕ_discrete (s.word (posted i r)) 0) (λ z. z) (λ ne. absurd (
      let here = ap hit (eqb_here (s.word (posted i r))) in
      let high = job_high sound holds r k has i (s.word (posted i r)) (omega (arith, here)) in let first = first_life r k has in let one : s.word (posted i r) ≡ 1 = omega (arith, high, first, ne) in by i one))
    where
      by : (i : Job) → s.word (posted i r) ≡ 1 → ⊥
      by job.Explore one = let b = job_few part r k has job.Explore 1 (omega arith) in let c = ap (λ m. hit (eqb 1 m)) one in let d = ap (λ m. s.total (held job.Explore m 1)) (key_is_root r k has) in let f = root_held in omega (arith, b, c, d, f)
      by job.Compute one = let c = ap (λ m. hit (eqb 1 m)) one in let spent = holds.work.jobs.ready r k 1 40 has (omega arith) (omega (arith, c)) (inr refl) in let d = noted_first (is_spent k 1 40) in omega (arith, spent, d)

  no_job : (i : Job) (r : ℕ) → r < e.shape.rows → s.word (posted i r) ≡ 0
  no_job i r low = dite (ℕ_discrete (s.word (key r)) 0) (λ none. holds.empty.no_job i r none) (λ ne. none_posted i r (s.word (key r) - 1) (low, omega (arith, ne)))

  nothing_left : (i : ℕ) (c : Actor) → 0 < i → slice_get crew i ≡ Some c → actor_left e p c ≡ 0
  nothing_left i c later here = let free = others i c later here in let x = ap (doing_light e p) free.rests in let y = ap (length {A = ℕ}) free.no_hints in omega (arith, x, y)

  topped_first : (i : ℕ) (c : Actor) → slice_get crew i ≡ Some c → IsTopped c.view
  topped_first i c here = dite (ℕ_discrete i 0)
      (λ first. let same : c ≡ a = same_Some c a (sym here ∙ ap (slice_get crew) first ∙ at) in subst (λ (v : View). IsTopped v) (sym (ap (λ (d : Actor). d.view) same ∙ is)) (refl, tt))
      (λ later. subst (λ ss. BehindPlain (flat ss)) (sym (others i c (omega (arith, later)) here).no_stacks) tt)

  -- nothing was done, and all that is left is the root's exploring
  pub shares_begin : (task : Task) → a.doing ≡ works task → IsNew task (job_item (record { row = row; key = record { 0 = root_key }; life = 1 }) job.Explore) → a.hints ≡ [] → Shares e p (most_cost g) s crew 0
  shares_begin task busy new no_hints = record {
    sound = sound;
    holds = holds;
    all = all;
    jobs = first_job ∷ [];
    bads = [];
    paid = let x = new_few g p run.lives e run.runs (record { row = row; key = record { 0 = root_key }; life = 1 }) (inl refl) job.Explore task new in let y = items_are e p task.hand (task_items task) [] in
        let c = sum_by-cons (job_cost e p) first_job [] in let d = first_sum (actor_left e p) crew a at nothing_left in let f = ap (doing_light e p) busy in let h = ap (length {A = ℕ}) no_hints in omega (arith, x, y, c, d, f, h);
    jobs_once = once_more first_job [] (λ h k l. omega arith) refl;
    jobs_begun = each_more (λ h k l. (i : Job) × (h ≡ job_kind i) × (0 < s.total (held i k l) + s.total (ended i k l))) first_job [] (λ h k l some. absurd (omega (arith, some))) (job.Explore, refl, let b = root_held in omega (arith, b));
    bads_once = λ h k l. omega arith;
    bad = λ h k l some. absurd (omega (arith, some));
    faulted = λ some. absurd (omega (arith, some));
    topped = topped_first;
    hinted = λ r low. hints_none (sum_by (fresh_of r) crew) (sum_by (asked_of r) crew) (s.word (posted job.Explore r)) (s.word (posted job.Compute r)) (no_job job.Explore r low) (no_job job.Compute r low);
  }
