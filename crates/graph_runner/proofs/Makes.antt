-- From what a command makes on its way to what it makes.
use Rattle.std.proofs.Common.{◌≡◌, ◌≢◌, ◌∙◌, ℕ, Bool, false, List, Option, Result, refl, ap, subst}
use Rattle.graph_model.specs.Graph.{Graph}
use Rattle.graph_model.specs.declared.plan.Strike.{Strike}
use Rattle.graph_model.specs.Notes.{Note}
use Rattle.graph_model.specs.declared.record.Record.{Record}
use Rattle.command_words.specs.Meaning.{Asked, asked, run, replay, paths, drill, check, print}
use Rattle.command_words.specs.declared.command.Command.{Command}
use Rattle.command_words.specs.declared.command.Command.TheVariants.{Run, Replay, Paths, Drill, Check, Print}
use Rattle.graph_runner.specs.Commands.{Makes, Shows}
use Rattle.graph_runner.specs.Files.{Runs}
use Rattle.graph_runner.specs.Loading.{Input}
use Rattle.graph_runner.specs.Running.{IsIdle}
use Rattle.graph_runner.specs.Solving.{Solves}
use Rattle.graph_runner.specs.Terms.{AreTerms, HasTerms, HasTurns, IsNeverOver, MayBeOver, MayEnd, by_workers}
use Rattle.graph_runner.specs.declared.ending.Ending.{Ending}
use Rattle.graph_runner.specs.declared.terms.Pace.{Pace}
use Rattle.graph_runner.specs.declared.terms.Pace.TheVariants.{Threads, Turns}
use Rattle.graph_runner.specs.declared.terms.Terms.{Terms}

as_said : (input : Input) (t : Terms) (Over : Graph → List Strike → List Record → Type 0) (workers lives : ℕ) (detail : Bool) (records : List Record) (news : List (List Note)) (made : Result (List ℕ) Ending)
    → AreTerms t workers lives detail → MayEnd workers t.pace ≡ Over → Runs input (MayEnd t.workers t.pace) t.lives t.detail records news made → Runs input Over lives detail records news made
as_said input t Over workers lives detail records news made are same runs =
    subst (λ (P : Graph → List Strike → List Record → Type 0). Runs input P lives detail records news made) (ap (λ n. MayEnd n t.pace) are.workers_are ∙ same)
    (subst (λ n. Runs input (MayEnd t.workers t.pace) n detail records news made) are.lives_are
    (subst (λ b. Runs input (MayEnd t.workers t.pace) t.lives b records news made) are.detail_is runs))

pub never_over : (workers : ℕ) (pace : Pace) → pace ≡ Threads → MayEnd workers pace ≡ IsNeverOver
never_over workers pace is = ap (MayEnd workers) is

may_be_over : (workers : ℕ) (pace : Pace) (schedule : List ℕ) (turns : Option ℕ) → HasTurns pace schedule turns → MayEnd workers pace ≡ MayBeOver workers schedule turns
may_be_over workers Threads schedule turns has = absurd has
may_be_over workers (Turns named many) schedule turns has = ap (λ ns. MayBeOver workers ns many) has.0 ∙ ap (MayBeOver workers schedule) has.1

-- a file's graph by workers on its terms
pub on_terms : (command : Command) (t : Terms) (input : Input) (records : List Record) (news : List (List Note)) (made : Result (List ℕ) Ending) → HasTerms (asked command) t
    → ((number workers : ℕ) → command ≢ Drill number workers) → ((workers lives : ℕ) → command ≢ Paths workers lives) → Runs input (MayEnd t.workers t.pace) t.lives t.detail records news made
    → Makes (asked command) input records news made
on_terms (Run workers lives detail) t input records news made has no_drill no_paths runs =
    as_said input t IsNeverOver workers lives detail records news made has.0 (never_over workers t.pace has.1) runs
on_terms (Replay workers lives detail schedule turns) t input records news made has no_drill no_paths runs =
    as_said input t (MayBeOver workers schedule.items turns) workers lives detail records news made has.0 (may_be_over workers t.pace schedule.items turns has.1) runs
on_terms (Paths workers lives) t input records news made has no_drill no_paths runs = absurd (no_paths workers lives refl)
on_terms (Drill number workers) t input records news made has no_drill no_paths runs = absurd (no_drill number workers refl)
on_terms Check t input records news made has no_drill no_paths runs = absurd has
on_terms Print t input records news made has no_drill no_paths runs = absurd has

-- a matrix by workers on its terms
pub on_paths : (workers lives : ℕ) (t : Terms) (input : Input) (records : List Record) (news : List (List Note)) (made : Result (List ℕ) Ending) → HasTerms (paths workers lives) t
    → Solves input t.lives records news made → Makes (paths workers lives) input records news made
on_paths workers lives t input records news made has solves = subst (λ n. Solves input n records news made) has.0.lives_are solves

-- without a run
pub without_run : (command : Asked) (input : Input) (records : List Record) (news : List (List Note)) (made : Result (List ℕ) Ending)
    → by_workers command ≡ false → IsIdle records news → Shows command input made → Makes command input records news made
without_run (run workers lives detail) input records news made none idle shows = absurd (cc)
without_run (replay workers lives detail schedule turns) input records news made none idle shows = absurd (cc)
without_run (paths workers lives) input records news made none idle shows = absurd (cc)
without_run (drill number workers) input records news made none idle shows = absurd (cc)
without_run check input records news made none idle shows = (shows, idle)
without_run print input records news made none idle shows = (shows, idle)
