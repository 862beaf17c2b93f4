-- What probes are told.
use Rattle.std.proofs.Common.{◌≡◌, suc, ◌<◌, ℤ, List, [], ◌∷◌, ◌++◌, map, Option, Some, None, Result, Ok, Err, refl, sym, subst, ap, arith, append-nil}
use Rattle.std.specs.Option.{option_map}
use Rattle.graph_model.specs.Graph.{Graph}
use Rattle.graph_model.specs.Notes.{Note}
use Rattle.graph_model.specs.declared.record.Record.{Record}
use Rattle.worker_pool.specs.Calling.{AddCalls, all_calls, calls_for}
use Rattle.worker_pool.specs.Ends.{HasAllRecords, RunCalls}
use Rattle.worker_pool.specs.declared.end.Why.{Why}
use Rattle.worker_pool.specs.declared.end.Why.TheVariants as why
use Rattle.graph_runner.specs.Notes.{AreRecorded, Told}
use Rattle.graph_runner.specs.Workers.{IsNeeded}

known_same : (known : Option (List Note)) → known ≡ option_map (λ ns. ns ++ []) known
known_same None = refl
known_same (Some ns) = ap Some (sym (append-nil ns))

-- no probe is told anything
abbrev pub no_news : {P : Type 0} → List P → List (List Note)
no_news [] = []
no_news (p ∷ ps) = [] ∷ no_news ps

pub told_none : {P : Type 0} (notes : P → Option (List Note)) (ps : List P) → Told notes ps ps (no_news ps)
told_none notes [] = tt
told_none notes (p ∷ ps) = (known_same (notes p), told_none notes ps)

pub calls-no_news : {P : Type 0} (ps : List P) → all_calls (no_news ps) ≡ []
calls-no_news [] = refl
calls-no_news (p ∷ ps) = calls-no_news ps

-- some probes are told these notes, and those behind them nothing
pub told_front : {P : Type 0} (notes : P → Option (List Note)) (ps qs rest : List P) (news : List (List Note)) → Told notes ps qs news
    → Told notes (ps ++ rest) (qs ++ rest) (news ++ no_news rest)
told_front notes [] [] rest [] told = told_none notes rest
told_front notes [] [] rest (new ∷ news) told = absurd told
told_front notes [] (q ∷ qs) rest news told = absurd told
told_front notes (p ∷ ps) [] rest news told = absurd told
told_front notes (p ∷ ps) (q ∷ qs) rest [] told = absurd told
told_front notes (p ∷ ps) (q ∷ qs) rest (new ∷ news) told = (told.0, told_front notes ps qs rest news told.1)

pub calls-front : {P : Type 0} (rest : List P) (news : List (List Note)) → all_calls (news ++ no_news rest) ≡ all_calls news
calls-front rest [] = calls-no_news rest
calls-front rest (new ∷ news) = ap (λ ns. new ++ ns) (calls-front rest news)

-- calls that are added are notes that are told
pub told_by : (before now : List (Option (List Note))) (news : List (List Note)) → AddCalls before now news → Told (λ n. n) before now news
told_by [] [] [] adds = tt
told_by [] [] (new ∷ news) adds = absurd (omega (arith, adds.news_count))
told_by [] (k ∷ now) news adds = absurd (omega (arith, adds.same_count))
told_by (b ∷ before) [] news adds = absurd (omega (arith, adds.same_count))
told_by (b ∷ before) (k ∷ now) [] adds = absurd (omega (arith, adds.news_count))
told_by (b ∷ before) (k ∷ now) (new ∷ news) adds = (
  adds.each 0 (omega arith),
  told_by before now news (record { same_count = omega (arith, adds.same_count); news_count = omega (arith, adds.news_count); each = λ i inside. adds.each (suc i) (omega arith) }),
)

-- what stands in lists of notes is what the probes were told that have them
told_of : {P : Type 0} (notes : P → Option (List Note)) (ps qs : List P) (news : List (List Note)) → Told (λ n. n) (map notes ps) (map notes qs) news → Told notes ps qs news
told_of notes [] [] [] told = tt
told_of notes [] [] (new ∷ news) told = absurd told
told_of notes [] (q ∷ qs) news told = absurd told
told_of notes (p ∷ ps) [] news told = absurd told
told_of notes (p ∷ ps) (q ∷ qs) [] told = absurd told
told_of notes (p ∷ ps) (q ∷ qs) (new ∷ news) told = (told.0, told_of notes ps qs news told.1)

-- all probes, before and after a run of kernels with the first of them
pub told_whole : {P : Type 0} (notes : P → Option (List Note)) (before after rest : List (Option (List Note))) (ps qs : List P) (news : List (List Note)) → before ++ rest ≡ map notes ps
    → map notes qs ≡ after ++ rest → AddCalls before after news → Told notes ps qs (news ++ no_news rest)
told_whole notes before after rest ps qs news was is adds =
    told_of notes ps qs (news ++ no_news rest)
    (subst (λ xs. Told (λ n. n) xs (map notes qs) (news ++ no_news rest)) was
    (subst (λ xs. Told (λ n. n) (before ++ rest) xs (news ++ no_news rest)) (sym is) (told_front (λ n. n) before after rest news (told_by before after news adds))))

-- the calls of kernels: with no record missing just what is recorded, and where room was refused of tasks alone that the sink needs
pub run_told : (g : Graph) (before now : List (Option (List Note))) (made : Result (List ℤ) Why) (records : List Record) → RunCalls g before now made records
    → (news : List (List Note)) × AddCalls before now news × (HasAllRecords made → AreRecorded news records) × IsNeeded g made news
run_told g before now (Ok value) records calls = (calls.news, calls.calls, (λ all. calls.as_often), tt)
run_told g before now (Err why.OutOfMemory) records calls = (calls.news, calls.calls, (λ none. absurd none), calls.needed)
run_told g before now (Err (why.LivesSpent k l c)) records calls = (calls.news, calls.calls, (λ all. calls.as_often), tt)
run_told g before now (Err (why.ScheduleShort pending)) records calls = (calls.news, calls.calls, (λ all. calls.as_often), tt)

-- probes behind those of the kernels are told nothing
pub needed_front : {P : Type 0} (g : Graph) (rest : List P) (made : Result (List ℤ) Why) (news : List (List Note)) → IsNeeded g made news → IsNeeded g made (news ++ no_news rest)
needed_front g rest (Ok value) news needed = tt
needed_front g rest (Err why.OutOfMemory) news needed = λ k l told. needed k l (subst (λ (ns : List Note). 0 < calls_for k l ns) (calls-front rest news) told)
needed_front g rest (Err (why.LivesSpent k l c)) news needed = tt
needed_front g rest (Err (why.ScheduleShort pending)) news needed = tt
