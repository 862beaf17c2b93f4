-- Which statuses are left where the source has what the command is for.
use Rattle.std.proofs.Common.{◌≡◌, ℕ, suc, ◌<◌, List, [], ◌∷◌, length, Contains, Result, Ok, Err, inl, inr, refl, sym, subst, arith}
use Rattle.io_edge.specs.Causes.{Rose}
use Rattle.graph_model.specs.Graph.{Graph}
use Rattle.graph_model.specs.Notes.{Note}
use Rattle.graph_model.specs.Serial.{Outcome}
use Rattle.graph_model.specs.declared.plan.Strike.{Strike}
use Rattle.graph_model.specs.declared.record.Record.{Record}
use Rattle.command_words.specs.Meaning.{Asked, run, replay, paths, drill, check, print}
use Rattle.command_words.proofs.MeaningLaws.{one_command}
use Rattle.graph_runner.specs.Commands as commands
use Rattle.graph_runner.specs.Commands.{ChecksCome, Comes, Makes, Shows, WordsMake, WordsShow}
use Rattle.graph_runner.specs.Complete.{ChecksComplete, Completes, IsUndisturbed, Suits, statuses_of}
use Rattle.graph_runner.specs.Drilling.{HoldsDrill}
use Rattle.graph_runner.specs.Endings.{status_of}
use Rattle.graph_runner.specs.Files.{HoldsFile}
use Rattle.graph_runner.specs.Loading.{Input}
use Rattle.graph_runner.specs.Opening.{FailsToAccept}
use Rattle.graph_runner.specs.Running.{Fails}
use Rattle.graph_runner.specs.Solving.{FailsToRead, HoldsText}
use Rattle.graph_runner.specs.Terms.{IsNeverOver, MayBeOver}
use Rattle.graph_runner.specs.Writing.{Output, Delivers, Finishes}
use Rattle.graph_runner.specs.declared.ending.Ending.{Ending}
use Rattle.graph_runner.specs.declared.ending.Ending.TheVariants.{Done, Usage, ReadFault, WriteFault, Text, Audit, Matrix, LivesSpent, ScheduleShort, OutOfMemory, TooLong}
use Rattle.graph_runner.proofs.Makes.{without_run}
use Rattle.graph_runner.proofs.Suiting.{only_memory_accepts, only_memory_loads, only_memory_reads}

-- ---- statuses
here : (x : ℕ) (xs : List ℕ) → Contains (x ∷ xs) x
here x xs = (0, omega arith, refl)

there : (x y : ℕ) (xs : List ℕ) → Contains xs x → Contains (y ∷ xs) x
there x y xs has = (suc has.0, (let low : has.0 < length xs = has.1 in omega (arith, low)), has.2)

done : (command : Asked) → Contains (statuses_of command) 0
done (run workers lives detail) = here 0 (7 ∷ 8 ∷ [])
done (replay workers lives detail schedule turns) = here 0 (7 ∷ 8 ∷ 10 ∷ [])
done (paths workers lives) = here 0 (7 ∷ 8 ∷ [])
done (drill number workers) = here 0 (7 ∷ 8 ∷ [])
done check = here 0 (8 ∷ [])
done print = here 0 (8 ∷ [])

-- 8 in the three lists
after_run : Contains {X = ℕ} (0 ∷ 7 ∷ 8 ∷ []) 8
after_run = there 8 0 (7 ∷ 8 ∷ []) (there 8 7 (8 ∷ []) (here 8 []))

after_replay : Contains {X = ℕ} (0 ∷ 7 ∷ 8 ∷ 10 ∷ []) 8
after_replay = there 8 0 (7 ∷ 8 ∷ 10 ∷ []) (there 8 7 (8 ∷ 10 ∷ []) (here 8 (10 ∷ [])))

after_check : Contains {X = ℕ} (0 ∷ 8 ∷ []) 8
after_check = there 8 0 (8 ∷ []) (here 8 [])

refused : (command : Asked) → Contains (statuses_of command) 8
refused (run workers lives detail) = after_run
refused (replay workers lives detail schedule turns) = after_replay
refused (paths workers lives) = after_run
refused (drill number workers) = after_run
refused check = after_check
refused print = after_check

-- ---- endings
delivered : (command : Asked) (output : Output) (text : List ℕ) (end : Ending) → (Rose output.faults output.faults_after → ⊥) → Delivers output text end → Contains (statuses_of command) (status_of end)
delivered command output text Done calm is = done command
delivered command output text WriteFault calm is = absurd (calm is.rose)
delivered command output text OutOfMemory calm is = refused command
delivered command output text Usage calm is = absurd is
delivered command output text ReadFault calm is = absurd is
delivered command output text (Text fault) calm is = absurd is
delivered command output text (Audit fault) calm is = absurd is
delivered command output text (Matrix fault) calm is = absurd is
delivered command output text (LivesSpent k l c) calm is = absurd is
delivered command output text (ScheduleShort pending) calm is = absurd is
delivered command output text TooLong calm is = absurd is

-- the ending of a command that made no text is told, or room for its message was refused
untold : (command : Asked) (output : Output) (made end : Ending) → Finishes output (Err made) end → Contains (statuses_of command) (status_of made) → Contains (statuses_of command) (status_of end)
untold command output made end finishes has = elim finishes.0 [
  | inl same ↦ subst (λ e. Contains (statuses_of command) (status_of e)) (sym same) has
  | inr memory ↦ subst (λ e. Contains (statuses_of command) (status_of e)) (sym memory) (refused command)
]

lacking : (command : Asked) (made : Ending) → made ≡ OutOfMemory → Contains (statuses_of command) (status_of made)
lacking command made is = subst (λ e. Contains (statuses_of command) (status_of e)) (sym is) (refused command)

-- why there is no value, where a source is refused for want of memory alone
failed : (Holds : List Strike → Graph → Outcome → Type 0) (Refuses : Ending → Type 0) (Over : Graph → List Strike → List Record → Type 0) (lives : ℕ) (records : List Record) (news : List (List Note)) (statuses : List ℕ) (e : Ending)
    → ((e : Ending) → Refuses e → e ≡ OutOfMemory) → Contains statuses 7 → Contains statuses 8 → ((g : Graph) (strikes : List Strike) → Over g strikes records → Contains statuses 10)
    → Fails Holds Refuses Over lives records news e → Contains statuses (status_of e)
failed Holds Refuses Over lives records news statuses (LivesSpent k l c) only seven eight ten fails = seven
failed Holds Refuses Over lives records news statuses (ScheduleShort pending) only seven eight ten fails = ten fails.graph fails.plan fails.due
failed Holds Refuses Over lives records news statuses OutOfMemory only seven eight ten fails = eight
failed Holds Refuses Over lives records news statuses ReadFault only seven eight ten fails = let e = only ReadFault fails.0 in absurd (cc)
failed Holds Refuses Over lives records news statuses TooLong only seven eight ten fails = let e = only TooLong fails.0 in absurd (cc)
failed Holds Refuses Over lives records news statuses (Text fault) only seven eight ten fails = let e = only (Text fault) fails.0 in absurd (cc)
failed Holds Refuses Over lives records news statuses (Audit fault) only seven eight ten fails = let e = only (Audit fault) fails.0 in absurd (cc)
failed Holds Refuses Over lives records news statuses (Matrix fault) only seven eight ten fails = let e = only (Matrix fault) fails.0 in absurd (cc)
failed Holds Refuses Over lives records news statuses Done only seven eight ten fails = absurd fails
failed Holds Refuses Over lives records news statuses Usage only seven eight ten fails = absurd fails
failed Holds Refuses Over lives records news statuses WriteFault only seven eight ten fails = absurd fails

-- ---- commands
unmade : (command : Asked) (input : Input) (records : List Record) (news : List (List Note)) (e : Ending) → (Rose input.faults input.faults_after → ⊥) → Suits command input
    → Makes command input records news (Err e) → Contains (statuses_of command) (status_of e)
unmade (run workers lives detail) input records news e calm suits makes =
    failed (HoldsFile input) (FailsToAccept input) IsNeverOver lives records news (0 ∷ 7 ∷ 8 ∷ []) e (λ d fails. only_memory_accepts input d suits calm fails) (there 7 0 (7 ∷ 8 ∷ []) (here 7 (8 ∷ []))) after_run
    (λ g strikes over. absurd over) makes
unmade (replay workers lives detail schedule turns) input records news e calm suits makes =
    failed (HoldsFile input) (FailsToAccept input) (MayBeOver workers schedule turns) lives records news (0 ∷ 7 ∷ 8 ∷ 10 ∷ []) e (λ d fails. only_memory_accepts input d suits calm fails)
    (there 7 0 (7 ∷ 8 ∷ 10 ∷ []) (here 7 (8 ∷ 10 ∷ []))) after_replay
    (λ g strikes over. there 10 0 (7 ∷ 8 ∷ 10 ∷ []) (there 10 7 (8 ∷ 10 ∷ []) (there 10 8 (10 ∷ []) (here 10 [])))) makes
unmade (paths workers lives) input records news e calm suits makes =
    failed (HoldsText input) (FailsToRead input) IsNeverOver lives records news (0 ∷ 7 ∷ 8 ∷ []) e (λ d fails. only_memory_reads input d suits calm fails) (there 7 0 (7 ∷ 8 ∷ []) (here 7 (8 ∷ []))) after_run
    (λ g strikes over. absurd over) makes
unmade (drill number workers) input records news e calm suits makes =
    failed (HoldsDrill number) (λ d. d ≡ OutOfMemory) IsNeverOver 65535 records news (0 ∷ 7 ∷ 8 ∷ []) e (λ d is. is) (there 7 0 (7 ∷ 8 ∷ []) (here 7 (8 ∷ []))) after_run (λ g strikes over. absurd over) makes.1
unmade check input records news e calm suits makes = lacking check e (only_memory_accepts input e suits calm makes.0)
unmade print input records news e calm suits makes = lacking print e (only_memory_loads input e suits calm makes.0)

made : (command : Asked) (input : Input) (output : Output) (records : List Record) (news : List (List Note)) (text : Result (List ℕ) Ending) (end : Ending) → Suits command input → IsUndisturbed input output
    → Makes command input records news text → Finishes output text end → Contains (statuses_of command) (status_of end)
made command input output records news (Ok text) end suits calm makes finishes = delivered command output text end calm.sink finishes
made command input output records news (Err e) end suits calm makes finishes = untold command output e end finishes (unmade command input records news e calm.source suits makes)

unread : (command : Asked) (output : Output) (text : Result (List ℕ) Ending) (end : Ending) → text ≡ Err OutOfMemory → Finishes output text end → Contains (statuses_of command) (status_of end)
unread command output text end is finishes = untold command output OutOfMemory end (subst (λ (t : Result (List ℕ) Ending). Finishes output t end) is finishes) (refused command)

-- ---- words
served : (words : List (List ℕ)) (input : Input) (output : Output) (records : List Record) (news : List (List Note)) (text : Result (List ℕ) Ending) (end : Ending)
    → WordsMake words input records news text → Finishes output text end → Completes words input output (status_of end)
served words input output records news text end (commands.WordsMake.refused nothing idle is) finishes command stands suits calm = unread command output text end is finishes
served words input output records news text end (commands.WordsMake.misused none idle misuse) finishes command stands suits calm = absurd (none command stands)
served words input output records news text end (commands.WordsMake.served other means makes) finishes command stands suits calm =
    made command input output records news text end suits calm (subst (λ c. Makes c input records news text) (one_command words other command means stands) makes) finishes

pub completes : (words : List (List ℕ)) (input : Input) (output : Output) (records : List Record) (news : List (List Note)) (end : Ending)
    → Comes words input output records news end → Completes words input output (status_of end)
completes words input output records news end comes = served words input output records news comes.made end comes.makes comes.finishes

shown : (words : List (List ℕ)) (input : Input) (output : Output) (text : Result (List ℕ) Ending) (end : Ending)
    → WordsShow words input text → Finishes output text end → ChecksComplete words input output (status_of end)
shown words input output text end (commands.WordsShow.refused nothing is) finishes command unrun stands suits calm = unread command output text end is finishes
shown words input output text end (commands.WordsShow.misused none misuse) finishes command unrun stands suits calm = absurd (none command stands)
shown words input output text end (commands.WordsShow.shown other means shows) finishes command unrun stands suits calm =
    let same = subst (λ c. Shows c input text) (one_command words other command means stands) shows in
    made command input output [] [] text end suits calm (without_run command input [] [] text unrun (record { unrecorded = refl; untold = refl }) same) finishes

pub checks_complete : (words : List (List ℕ)) (input : Input) (output : Output) (end : Ending) → ChecksCome words input output end → ChecksComplete words input output (status_of end)
checks_complete words input output end comes = shown words input output comes.made end comes.shows comes.finishes
