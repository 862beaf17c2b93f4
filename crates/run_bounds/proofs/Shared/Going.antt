-- A run of several workers goes on: its moves stay paid, and some worker is to move soon.
use Rattle.std.proofs.Common.{◌≡◌, ◌≢◌, ◌⊎◌, ℕ, ◌+◌, ◌*◌, ◌%◌, ◌<◌, ◌≤◌, List, [], ◌∷◌, length, set, length-set, Some, slice_get, slice_index, ⊎_elim, inl, arith, sym, ap, ◌∙◌, subst}
use mathlib.Core.Logic.{dite}
use native.Mathlib.Decide.{ℕ_discrete}
use Rattle.std.specs.List.{sum_by}
use Rattle.std.proofs.lemmas.Nat.{mod_below}
use Rattle.std.proofs.lemmas.Option.{slice_get_within}
use Rattle.graph_model.specs.declared.plan.Strike.{Strike}
use Rattle.core_state.specs.Change.{Core}
use Rattle.core_state.specs.Counts.{noted}
use Rattle.core_state.specs.Graph.{Setting}
use Rattle.core_state.specs.Invariant.{Invariant}
use Rattle.core_state.specs.Tests.{is_any_struck}
use Rattle.core_state.specs.Words.{pending}
use Rattle.core_state.specs.declared.views.View.{View}
use Rattle.run_bounds.specs.Doing.Doing.{idle}
use Rattle.run_bounds.specs.Hinting.{HintTaken}
use Rattle.run_bounds.specs.Moving.{IsListed}
use Rattle.run_bounds.specs.Shared.{Actor, ActorTurn, AreHeld, AreNamed, IsOn, IsPaced, Moves, Shares, Stall, Vain, hints_of}
use Rattle.run_bounds.specs.Shared.Moves.{looks, serves, works_on}
use Rattle.run_bounds.specs.Shared.Vain.{holds, loses, plain, renews, seen, wins}
use Rattle.run_bounds.proofs.Moving.{due_few}
use Rattle.run_bounds.proofs.Shared.Ledger.{shares_handed, shares_on}
use Rattle.run_bounds.proofs.Shared.Vain.{mover_begun, mover_idles, mover_moved, mover_stalled}
use Rattle.run_bounds.proofs.Lists.{same_member, set_else, set_here, set_sums, set_tells}

-- who is named stays so where a worker changes that is named
named_on : (schedule : List ℕ) (crew : List Actor) (i : ℕ) (b : Actor) → IsListed schedule i → AreNamed schedule crew → AreNamed schedule (set crew i b)
named_on schedule crew i b listed named j c at = ⊎_elim
    (λ here. inl (subst (IsListed schedule) (sym here.0) listed))
    (λ other. named j c other.1)
    (set_tells crew i j b c at)

-- a worker that has a hint is named
hinted_named : (schedule : List ℕ) (crew : List Actor) (j row : ℕ) (c : Actor) (left : List ℕ) → AreNamed schedule crew → slice_get crew j ≡ Some c → HintTaken c.hints row left → IsListed schedule j
hinted_named schedule crew j row c left named at taken = ⊎_elim
    (λ l. l)
    (λ rest. absurd (let x = taken.one_less in let y = ap length rest.1 in omega (arith, x, y)))
    (named j c at)

-- other hints in its list leave a worker as it is
vain_as : {e : Setting} {p : List Strike} {s : Core} {c : Actor} {vain : ℕ} (hints : List ℕ) → Vain e p s c vain → Vain e p s (record c { hints = hints }) vain
vain_as hints (renews k it) = renews k it
vain_as hints (holds it) = holds it
vain_as hints (wins quiet it) = wins quiet it
vain_as hints (seen quiet it) = seen quiet it
vain_as hints (plain quiet it) = plain quiet it
vain_as hints (loses quiet it) = loses quiet it

moves_as : {e : Setting} {p : List Strike} {s : Core} {c : Actor} {before now vain : ℕ} (hints : List ℕ) → now ≡ before → Moves e p s before c vain → Moves e p s now (record c { hints = hints }) vain
moves_as hints same (works_on task vain is it) = works_on task vain is (vain_as hints it)
moves_as hints same (serves row key j is) = serves row key j is
moves_as hints same (looks is some) = looks is (omega (arith, some, same))

-- a hint passes from one list to another
mover_handed : {e : Setting} {p : List Strike} {schedule : List ℕ} {s : Core} {crew : List Actor} {turns moves : ℕ} → IsPaced e p schedule s crew turns moves → (i j row : ℕ) (a c : Actor) (left : List ℕ) → i ≢ j → slice_get crew i ≡ Some a → slice_get crew j ≡ Some c → HintTaken c.hints row left → IsPaced e p schedule s (set (set crew j (record c { hints = left })) i (record a { hints = row ∷ a.hints })) turns moves
mover_handed {e} {p} {schedule} {s} {crew} {turns} {moves} paced i j row a c left apart at_i at_j taken = dite (ℕ_discrete paced.worker i)
    (λ here. place (record a { hints = row ∷ a.hints }) (ap (slice_get handed) here ∙ set_here given i a (record a { hints = row ∷ a.hints }) given_i) (moves_as (row ∷ a.hints) still (as_it_is i a here at_i)))
    (λ not_i. dite (ℕ_discrete paced.worker j)
    (λ here. place (record c { hints = left }) (set_else given i paced.worker (record a { hints = row ∷ a.hints }) not_i ∙ ap (slice_get given) here ∙ set_here crew j c (record c { hints = left }) at_j) (moves_as left still (as_it_is j c here at_j)))
    (λ not_j. place paced.actor (set_else given i paced.worker (record a { hints = row ∷ a.hints }) not_i ∙ set_else crew j paced.worker (record c { hints = left }) not_j ∙ paced.at) (moves_as paced.actor.hints still paced.mover)))
  where
    given : List Actor
    given = set crew j (record c { hints = left })

    handed : List Actor
    handed = set given i (record a { hints = row ∷ a.hints })

    given_i : slice_get given i ≡ Some a
    given_i = set_else crew j i (record c { hints = left }) apart ∙ at_i

    -- all together have as many hints as before
    still : sum_by hints_of handed ≡ sum_by hints_of crew
    still = let x = set_sums hints_of crew j c (record c { hints = left }) at_j in let y = set_sums hints_of given i a (record a { hints = row ∷ a.hints }) given_i in let z = taken.one_less in omega (arith, x, y, z)

    as_it_is : (k : ℕ) (b : Actor) → paced.worker ≡ k → slice_get crew k ≡ Some b → Moves e p s (sum_by hints_of crew) b paced.vain
    as_it_is k b here at = subst (λ (d : Actor). Moves e p s (sum_by hints_of crew) d paced.vain) (same_member crew paced.worker k paced.actor b here paced.at at) paced.mover

    place : (b : Actor) → slice_get handed paced.worker ≡ Some b → Moves e p s (sum_by hints_of handed) b paced.vain → IsPaced e p schedule s handed turns moves
    place b at mover = record {
      worker = paced.worker;
      actor = b;
      at = at;
      vain = paced.vain;
      few = paced.few;
      mover = mover;
      due = paced.due;
      calm = λ one none. paced.calm (let x = length-set crew j (record c { hints = left }) in let y = length-set given i (record a { hints = row ∷ a.hints }) in omega (arith, one, x, y)) none;
    }

pub begun_on : {e : Setting} {p : List Strike} {most : ℕ} {schedule : List ℕ} {s : Core} {crew : List Actor} → Shares e p most s crew 0 → AreHeld crew → 0 < length crew → s.word pending ≢ 0 → IsListed schedule 0 → AreNamed schedule crew → IsOn e p most schedule s crew 0
begun_on shares held some pends first named = record { moves = 0; shares = shares; named = named; paced = mover_begun shares held some pends first named }

module _ {e : Setting} {p : List Strike} {most : ℕ} {schedule : List ℕ} {s : Core} {crew : List Actor} {turns : ℕ} (on : IsOn e p most schedule s crew turns) where
  -- a worker has had its turn, of which the ledger says whether it was a move
  ledger_on : {t : Core} (i : ℕ) (a b : Actor) → slice_get crew i ≡ Some a → slice_index schedule (turns % length schedule) ≡ i → ((f : View → ℕ) → t.total f ≡ sum_by (λ c. f c.view) (set crew i b)) → ActorTurn e p most s t a b → AreHeld (set crew i b) → t.word pending ≢ 0 → IsListed schedule 0 → 0 < length schedule → Shares e p most t (set crew i b) (on.moves + 1) ⊎ (Shares e p most t (set crew i b) on.moves × Stall e p s t a b) → IsOn e p most schedule t (set crew i b) (turns + 1)
  ledger_on {t} i a b at turn_of totals turn held pends first some = ⊎_elim
      (λ shares. record { moves = on.moves + 1; shares = shares; named = named; paced = mover_moved on.paced shares held (let x = slice_get_within crew i a at in let y = length-set crew i b in omega (arith, x, y)) (length-set crew i b) pends first named struck })
      (λ stalled. record { moves = on.moves; shares = stalled.0; named = named; paced = mover_stalled on.paced on.shares.holds i a b at turn_of stalled.1 struck })
    where
      named : AreNamed schedule (set crew i b)
      named = named_on schedule crew i b (turns % length schedule, mod_below turns (length schedule) some, turn_of) on.named

      struck : s.total (noted is_any_struck) ≤ t.total (noted is_any_struck)
      struck = let x = on.shares.all (noted is_any_struck) in let y = totals (noted is_any_struck) in let z = set_sums (λ (c : Actor). noted is_any_struck c.view) crew i a b at in let g = turn.grows.struck_on in omega (arith, x, y, z, g)

  -- it finds no hint
  pub idled_on : (i : ℕ) (a : Actor) → slice_get crew i ≡ Some a → slice_index schedule (turns % length schedule) ≡ i → a.doing ≡ idle → ((j : ℕ) (c : Actor) → slice_get crew j ≡ Some c → c.hints ≡ []) → IsOn e p most schedule s crew (turns + 1)
  idled_on i a at turn_of rests none = record { moves = on.moves; shares = on.shares; named = on.named; paced = mover_idles on.paced i a at turn_of rests none }

  -- the turns by the moves
  pub moves_on : turns ≤ length schedule * (3 * (on.moves + 1))
  moves_on = due_few schedule turns on.moves on.paced.worker on.paced.vain on.paced.due

  pub calm_on : length crew ≡ 1 → s.total (noted is_any_struck) ≡ 0 → turns ≤ 2 * on.moves + 1
  calm_on one none = let x = on.paced.calm one none in omega (arith, x)

  -- a worker has its turn
  pub turned_on : {t : Core} (i : ℕ) (a b : Actor) → slice_get crew i ≡ Some a → slice_index schedule (turns % length schedule) ≡ i → Invariant e t → ((f : View → ℕ) → t.total f ≡ sum_by (λ c. f c.view) (set crew i b)) → ActorTurn e p most s t a b → AreHeld (set crew i b) → t.word pending ≢ 0 → IsListed schedule 0 → 0 < length schedule → IsOn e p most schedule t (set crew i b) (turns + 1)
  turned_on i a b at turn_of inv totals turn held pends first some = ledger_on i a b at turn_of totals turn held pends first some (shares_on on.shares i a b at inv totals turn)

  -- it takes a hint of another
  pub handed_on : (i j row : ℕ) (a c : Actor) (left : List ℕ) → i ≢ j → slice_get crew i ≡ Some a → slice_get crew j ≡ Some c → HintTaken c.hints row left → IsListed schedule i → IsOn e p most schedule s (set (set crew j (record c { hints = left })) i (record a { hints = row ∷ a.hints })) turns
  handed_on i j row a c left apart at_i at_j taken listed = record {
    moves = on.moves;
    shares = shares_handed on.shares i j row a c left apart at_i at_j taken;
    named = named_on schedule (set crew j (record c { hints = left })) i (record a { hints = row ∷ a.hints }) listed (named_on schedule crew j (record c { hints = left }) (hinted_named schedule crew j row c left on.named at_j taken) on.named);
    paced = mover_handed on.paced i j row a c left apart at_i at_j taken;
  }
