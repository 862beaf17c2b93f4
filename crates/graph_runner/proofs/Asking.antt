-- The terms that words give are within their limits.
use Rattle.std.proofs.Common.{◌≡◌, ◌≢◌, ℕ, ◌-◌, ◌<◌, ◌≤◌, Bool, false, List, [], ◌∷◌, length, All, Option, None, Some, sym, ap, subst, arith}
use Rattle.std.proofs.lemmas.List.Elements.{All-nil, All-cons}
use Rattle.command_words.specs.Options.{Text}
use Rattle.command_words.specs.Numbers.{HasValue, HasSchedule, IsList, last, more}
use Rattle.command_words.specs.Meaning.{Asked, run, replay, paths, drill, check, print, StandsFor}
use Rattle.graph_runner.specs.Terms.{AreTerms, AreWithin, HasTerms, HasTurns, IsPaceWithin}
use Rattle.graph_runner.specs.declared.terms.Pace.{Pace}
use Rattle.graph_runner.specs.declared.terms.Pace.TheVariants.{Threads, Turns}
use Rattle.graph_runner.specs.declared.terms.Terms.{Terms}

value_within : (least most default : ℕ) (slot : Option Text) (n : ℕ) → least ≤ default → default ≤ most → HasValue least most default slot n → (least ≤ n) × (n ≤ most)
value_within least most default None n low high is = (omega arith, omega arith)
value_within least most default (Some text) n low high is = (is.at_least, is.at_most)

all_named : (most : ℕ) (text : Text) (ns : List ℕ) → IsList most text ns → All (λ i. i ≤ most) ns
all_named most text ns (last t n is) = All-cons (λ i. i ≤ most) n [] is.at_most (All-nil (λ i. i ≤ most))
all_named most text ns (more t first rest n others is listed joined) = All-cons (λ i. i ≤ most) n others is.at_most (all_named most rest others listed)

named_below : (workers : ℕ) (ns : List ℕ) → 1 ≤ workers → All (λ i. i ≤ workers - 1) ns → All (λ i. i < workers) ns
named_below workers ns some all = λ i d inside. let below = all i d inside in omega arith

-- what the schedule asks
record IsFit (workers : ℕ) (ns : List ℕ) : Type 0 where
  some_turn : ns ≢ []
  few : length ns ≤ 4096
  named : All (λ i. i < workers) ns

alone : (workers : ℕ) → 1 ≤ workers → IsFit workers (0 ∷ [])
alone workers some = record { some_turn = λ e. cc; few = omega arith; named = All-cons (λ i. i < workers) 0 [] (omega arith) (All-nil (λ i. i < workers)) }

schedule_within : (workers : ℕ) (slot : Option Text) (ns : List ℕ) → 1 ≤ workers → HasSchedule workers slot ns → IsFit workers ns
schedule_within workers None ns some is = subst (IsFit workers) (sym is) (alone workers some)
schedule_within workers (Some text) ns some is = record {
  some_turn = λ e. (let low : is.with_zero.0 < length ns = is.with_zero.1 in omega (arith, ap length e));
  few = is.few;
  named = named_below workers ns some (all_named (workers - 1) text ns is.listed);
}

turns_within : (pace : Pace) (workers : ℕ) (schedule : List ℕ) (turns : Option ℕ) → HasTurns pace schedule turns → IsFit workers schedule → IsPaceWithin workers pace
turns_within Threads workers schedule turns has is = absurd has
turns_within (Turns named many) workers schedule turns has is =
    subst (λ (ns : List ℕ). (ns ≢ []) × (length ns ≤ 4096) × All (λ i. i < workers) ns) (sym has.0) (is.some_turn, is.few, is.named)

fit : (t : Terms) (workers lives : ℕ) (detail : Bool) → AreTerms t workers lives detail → (1 ≤ workers) × (workers ≤ 64) → (1 ≤ lives) × (lives ≤ 65535) → IsPaceWithin workers t.pace → AreWithin t
fit t workers lives detail are many most pace = record {
  workers = (omega (arith, are.workers_are, many.0), omega (arith, are.workers_are, many.1));
  lives = (omega (arith, are.lives_are, most.0), omega (arith, are.lives_are, most.1));
  pace = subst (λ n. IsPaceWithin n t.pace) (sym are.workers_are) pace;
}

threads_within : (pace : Pace) (workers : ℕ) → pace ≡ Threads → IsPaceWithin workers pace
threads_within pace workers is = subst (IsPaceWithin workers) (sym is) tt

pub within : (words : List Text) (command : Asked) (t : Terms) → StandsFor words command → HasTerms command t → AreWithin t
within words (run workers lives detail) t stands has =
    let many = value_within 1 64 4 stands.given.workers workers (omega arith) (omega arith) stands.values.0 in
    let most = value_within 1 65535 65535 stands.given.lives lives (omega arith) (omega arith) stands.values.1 in
    fit t workers lives detail has.0 many most (threads_within t.pace workers has.1)
within words (replay workers lives detail schedule turns) t stands has =
    let many = value_within 1 64 1 stands.given.workers workers (omega arith) (omega arith) stands.values.0 in
    let most = value_within 1 65535 65535 stands.given.lives lives (omega arith) (omega arith) stands.values.1 in
    fit t workers lives detail has.0 many most (turns_within t.pace workers schedule turns has.1 (schedule_within workers stands.given.schedule schedule many.0 stands.values.3))
within words (paths workers lives) t stands has =
    let many = value_within 1 64 4 stands.given.workers workers (omega arith) (omega arith) stands.values.0 in
    let most = value_within 1 65535 65535 stands.given.lives lives (omega arith) (omega arith) stands.values.1 in
    fit t workers lives false has.0 many most (threads_within t.pace workers has.1)
within words (drill number workers) t stands has =
    let many = value_within 1 64 4 stands.given.workers workers (omega arith) (omega arith) stands.values.1 in
    fit t workers 65535 false has.0 many (omega arith, omega arith) (threads_within t.pace workers has.1)
within words check t stands has = absurd has
within words print t stands has = absurd has

pub few_workers : (t : Terms) (n : ℕ) → AreWithin t → n ≡ 64 → t.workers ≤ n
few_workers t n is are = omega (arith, is.workers.1)
