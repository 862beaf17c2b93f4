-- From the run of a number's graph to what it comes to.
use Rattle.std.proofs.Common.{◌≡◌, ◌∙◌, ℕ, ◌+◌, ◌<◌, ◌^◌, ℤ, pos, List, [], ◌∷◌, Ok, Err, subst}
use Rattle.graph_model.specs.Graph.{Graph}
use Rattle.graph_model.specs.Notes.{Note}
use Rattle.graph_model.specs.Serial.{Outcome}
use Rattle.graph_model.specs.declared.record.Record.{Record}
use Rattle.graph_model.specs.declared.plan.Strike.{Strike}
use Rattle.acyclic_audit.specs.Reaching.{IsReachedCount}
use Rattle.drill_input.proofs.Reaching.{count_reached}
use Rattle.drill_input.proofs.Serially.{serial_sink}
use Rattle.worker_pool.specs.declared.end.Why.{Why}
use Rattle.graph_runner.specs.Drilling.{Drills, HoldsDrill, IsDrilled, IsDrillText}
use Rattle.graph_runner.specs.Endings.{run_ending}
use Rattle.graph_runner.specs.Running.{LacksRoom}
use Rattle.graph_runner.specs.Terms.{IsNeverOver}
use Rattle.graph_runner.specs.Workers.{IsDue, RunComes}
use Rattle.graph_runner.specs.declared.ending.Ending.TheVariants as ending
use Rattle.graph_runner.proofs.Outcomes.{run_to, short, untold}

pub drill_whole : (number : ℕ) (g : Graph) (outcome : Outcome) (plan : List Strike) (lives : ℕ) (value : List ℤ) (tasks : ℕ) (records : List Record) (news : List (List Note)) (text : List ℕ) → number < 2 ^ 32
    → HoldsDrill number plan g outcome → RunComes g outcome plan lives (Ok value) records news → IsReachedCount g tasks → IsDrillText value tasks text → IsDrilled number records news text
drill_whole number g outcome plan lives value tasks records news text small holds comes counted says =
    let is : value ≡ pos (number + 8256) ∷ [] = comes.tells.value_is ∙ serial_sink number g outcome holds.is small in
    record {
      ran = run_to (HoldsDrill number) g outcome plan lives value (pos (number + 8256) ∷ []) records news holds comes is;
      says = subst (λ (v : List ℤ). IsDrillText v 8257 text) is (subst (λ n. IsDrillText value n text) (count_reached number g outcome holds.is tasks counted) says);
    }

pub drill_short : (number : ℕ) (g : Graph) (outcome : Outcome) (plan : List Strike) (reason : Why) (records : List Record) (news : List (List Note))
    → HoldsDrill number plan g outcome → RunComes g outcome plan 65535 (Err reason) records news → IsDue IsNeverOver g plan records reason → Drills number records news (Err (run_ending reason))
drill_short number g outcome plan reason records news holds comes due = short (HoldsDrill number) (λ e. e ≡ ending.OutOfMemory) IsNeverOver g outcome plan 65535 reason records news holds comes due

-- room was refused for the lines
pub drill_untold : (number : ℕ) (g : Graph) (outcome : Outcome) (plan : List Strike) (lives : ℕ) (value : List ℤ) (records : List Record) (news : List (List Note))
    → HoldsDrill number plan g outcome → RunComes g outcome plan lives (Ok value) records news → LacksRoom (HoldsDrill number) (λ e. e ≡ ending.OutOfMemory) records news
drill_untold number g outcome plan lives value records news holds comes = untold (HoldsDrill number) (λ e. e ≡ ending.OutOfMemory) g outcome plan lives value records news holds comes
