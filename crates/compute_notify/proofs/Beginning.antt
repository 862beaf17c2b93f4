-- A job that has come as an item: its line, its facts, its credits.
use Rattle.std.proofs.Common.{◌≡◌, ℕ, ◌+◌, List, ◌∷◌, None, ap, arith, refl, ◌∙◌}
use Rattle.graph_model.specs.Graph.{Graph as TaskGraph}
use Rattle.graph_model.specs.declared.plan.Point.TheVariants as point
use Rattle.graph_model.specs.declared.plan.Strike.{Strike}
use Rattle.core_state.specs.Graph.{Graph, Setting}
use Rattle.core_state.specs.Lines.{Line, begins, of}
use Rattle.core_state.specs.Sure.{IsFresh}
use Rattle.core_state.specs.declared.job.Job.{Job}
use Rattle.core_state.specs.declared.job.Job.TheVariants as job
use Rattle.core_state.specs.declared.views.Item.TheVariants as line
use Rattle.core_state.specs.declared.views.View.{View}
use Rattle.recovery.specs.Reentering.{IsTold}
use Rattle.compute_notify.specs.Items.{FitsItem, item_credits, item_lines, job_item}
use Rattle.compute_notify.specs.Resting.{item_rest, job_rest}
use Rattle.compute_notify.specs.declared.duty.Duty.{Duty}
use Rattle.compute_notify.proofs.Fitting.{fits_fresh}

pub begun_lines : (g : Graph) (duty : Duty) (i : Job) (b : List Line) → item_lines g (job_item duty i) b ≡ of (begins i duty.key.0 duty.life) ∷ b
begun_lines g duty job.Explore b = refl
begun_lines g duty job.Compute b = refl

pub begun_credits : (duty : Duty) (i : Job) → item_credits (job_item duty i) ≡ 0
begun_credits duty job.Explore = refl
begun_credits duty job.Compute = refl

-- no strike of the job was made
pub begun_fits : (g : TaskGraph) (e : Setting) (w : View) (duty : Duty) (i : Job) → IsTold g e w duty.row duty.key.0 → IsFresh e w i duty.key.0 duty.life → FitsItem g e w (job_item duty i)
begun_fits g e w duty job.Explore told fresh = record {
  duty = record { is_key = told.is_key; known = told.known };
  place = omega arith;
  reaching = tt;
  strikes = fits_fresh e w point.Explored duty.key.0 duty.life job.Explore refl fresh;
  none_made = λ low. refl;
}
begun_fits g e w duty job.Compute told fresh = record {
  duty = record { is_key = told.is_key; known = told.known };
  in_phase = fits_fresh e w point.Ready duty.key.0 duty.life job.Compute refl fresh;
  computed = fits_fresh e w point.Computed duty.key.0 duty.life job.Compute refl fresh;
  notified = fits_fresh e w point.Notified duty.key.0 duty.life job.Compute refl fresh;
}

-- how much of it is left doesn't depend on the row
pub begun_rest : (e : Setting) (p : List Strike) (duty other : Duty) (i : Job) → duty.key ≡ other.key → duty.life ≡ other.life → item_rest e p None (job_item duty i) + 1 ≡ job_rest e p other i
begun_rest e p duty other job.Explore key life = ap (λ k. job_rest e p (record { row = duty.row; key = k; life = duty.life }) job.Explore) key ∙ ap (λ l. job_rest e p (record { row = duty.row; key = other.key; life = l }) job.Explore) life
begun_rest e p duty other job.Compute key life = ap (λ k. job_rest e p (record { row = duty.row; key = k; life = duty.life }) job.Compute) key ∙ ap (λ l. job_rest e p (record { row = duty.row; key = other.key; life = l }) job.Compute) life

-- the first lines tell the job
pub record SameJob (i j : Job) (k m l n : ℕ) : Type 0 where
  pub jobs : i ≡ j
  pub keys : k ≡ m
  pub lives : l ≡ n

abbrev key_first : List Line → ℕ
key_first (of (line.Explore k l j) ∷ b) = k
key_first (of (line.Compute k l loaded read made) ∷ b) = k
key_first _ = 0

abbrev life_first : List Line → ℕ
life_first (of (line.Explore k l j) ∷ b) = l
life_first (of (line.Compute k l loaded read made) ∷ b) = l
life_first _ = 0

pub same_job : (i j : Job) (k m l n : ℕ) (b c : List Line) → of (begins i k l) ∷ b ≡ of (begins j m n) ∷ c → SameJob i j k m l n
same_job job.Explore job.Explore k m l n b c is = record { jobs = refl; keys = ap key_first is; lives = ap life_first is }
same_job job.Compute job.Compute k m l n b c is = record { jobs = refl; keys = ap key_first is; lives = ap life_first is }
same_job job.Explore job.Compute k m l n b c is = absurd cc
same_job job.Compute job.Explore k m l n b c is = absurd cc

abbrev pub suspect_first : List Line → ℕ
suspect_first (of (line.Suspect k l c waits) ∷ b) = k
suspect_first _ = 0
