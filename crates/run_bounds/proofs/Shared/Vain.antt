-- Whoever is to move soon stays so: a turn in vain of another changes nothing for it, and its own brings it nearer. After a move some worker is to move soon again.
use Rattle.std.proofs.Common.{◌≡◌, ◌≢◌, ℕ, ◌+◌, ◌*◌, ◌%◌, ◌<◌, ◌≤◌, List, [], ◌∷◌, length, set, length-set, Bool, true, Some, slice_get, slice_index, ⊎_elim, arith, sym, ap, ◌∙◌, subst}
use mathlib.Core.Logic.{dite}
use native.Mathlib.Decide.{ℕ_discrete}
use Rattle.std.specs.List.{sum_by}
use Rattle.std.proofs.lemmas.Nat.{mul-le}
use Rattle.graph_model.specs.declared.plan.Strike.{Strike}
use Rattle.core_state.specs.Change.{Core}
use Rattle.core_state.specs.Counts.{noted}
use Rattle.core_state.specs.Graph.{Setting}
use Rattle.core_state.specs.Invariant.{Invariant}
use Rattle.core_state.specs.Lines.{Line, of}
use Rattle.core_state.specs.Rows.{HasKey}
use Rattle.core_state.specs.Tests.{is_any_struck}
use Rattle.core_state.specs.Words.{mark_of, pending, recovery, replacing, standing_life}
use Rattle.core_state.specs.declared.views.Item.TheVariants as line
use Rattle.core_state.specs.declared.views.View.{View}
use Rattle.run_bounds.specs.Doing.{Doing}
use Rattle.run_bounds.specs.Doing.Doing.{idle}
use Rattle.run_bounds.specs.Moving.{IsDue, IsListed}
use Rattle.run_bounds.specs.Shared.{Actor, AreHeld, AreNamed, IsLoser, IsMarked, IsPaced, IsPlain, IsQuiet, IsWinner, KeepsWords, Moves, Shares, Stall, StandsSeen, Vain, hints_of, is_plain}
use Rattle.run_bounds.specs.Shared.Moves.{looks, serves, works_on}
use Rattle.run_bounds.specs.Shared.Vain.{holds, loses, plain, renews, seen, wins}
use Rattle.run_bounds.proofs.Moving.{due_moved, due_other, due_own, first_due, named_within}
use Rattle.run_bounds.proofs.Shared.Found.{IsMover, mover_found}
use Rattle.run_bounds.proofs.Lists.{alone, none_sum, same_member, set_else, set_here, set_sums}
use Rattle.run_bounds.proofs.Shared.Topping.{marked_first}

-- what the first line is
abbrev first_plain : List Line → Bool
first_plain [] = true
first_plain (y ∷ b) = is_plain y

abbrev first_key : List Line → ℕ
first_key (of (line.Suspect k l c waits) ∷ b) = k
first_key _ = 0

abbrev first_life : List Line → ℕ
first_life (of (line.Suspect k l c waits) ∷ b) = l
first_life _ = 0

-- a suspect of a mark isn't plain
marked_plain : {e : Setting} {s : Core} {v : View} {row life : ℕ} → IsMarked e s v row life → IsPlain v → ⊥
marked_plain {life = life} m it = marked_first m.key life m.cause m.waits m.marked (sym (ap first_plain m.top) ∙ ap first_plain it.top ∙ it.plain)

-- where its life stands it wasn't replaced
wins_loses : {e : Setting} {s : Core} {v : View} → Invariant e s → IsWinner e s v → IsLoser e s v → ⊥
wins_loses {e} {s} inv it other = other.replaced (sym (ap (λ (r : ℕ). standing_life (s.word (recovery r))) same_row) ∙ it.stands ∙ same_life)
  where
    same_key : it.suspect.key ≡ other.suspect.key
    same_key = sym (ap first_key it.suspect.top) ∙ ap first_key other.suspect.top

    same_life : it.life ≡ other.life
    same_life = sym (ap first_life it.suspect.top) ∙ ap first_life other.suspect.top

    same_row : it.row ≡ other.row
    same_row = inv.keys.one_row it.row other.row other.suspect.key (subst (HasKey e s it.row) same_key it.suspect.has_key) other.suspect.has_key

module _ {e : Setting} {s t : Core} (words : KeepsWords e s t) where
  quiet_stays : IsQuiet e s → IsQuiet e t
  quiet_stays quiet = record {
    none_replaced = λ r low. ap replacing (words.recovery_stays r) ∙ quiet.none_replaced r low;
    none_taken = λ b low. words.turns_stay b ∙ quiet.none_taken b low;
  }

  marked_stays : {v : View} {row life : ℕ} → IsMarked e s v row life → IsMarked e t v row life
  marked_stays {row = row} m = record { key = m.key; has_key = words.keys_on row m.key m.has_key; cause = m.cause; waits = m.waits; below = m.below; marked = m.marked; top = m.top }

module _ {e : Setting} {p : List Strike} {s t : Core} (words : KeepsWords e s t) where
  seen_stays : {d : Doing} → StandsSeen e p s d → StandsSeen e p t d
  seen_stays it = record {
    task = it.task;
    doing_is = it.doing_is;
    left = it.left;
    close = it.close;
    items_are = it.items_are;
    inside = it.inside;
    seen = it.seen;
    seen_is = it.seen_is;
    no_strike = it.no_strike;
    stands = words.unmarked_stays it.close.duty.row it.close.word (ap mark_of it.stands ∙ it.unmarked) ∙ it.stands;
    unmarked = it.unmarked;
  }

  -- a turn in vain of another leaves the worker as it is
  others_vain : {a : Actor} {vain : ℕ} → Vain e p s a vain → Vain e p t a vain
  others_vain (renews k it) = renews k it
  others_vain (holds it) = holds it
  others_vain (wins quiet it) = wins (quiet_stays words quiet) (record { row = it.row; life = it.life; suspect = marked_stays words it.suspect; stands = ap standing_life (words.recovery_stays it.row) ∙ it.stands })
  others_vain (seen quiet it) = seen (quiet_stays words quiet) (seen_stays it)
  others_vain (plain quiet it) = plain (quiet_stays words quiet) it
  others_vain (loses quiet it) = loses (quiet_stays words quiet) (record { row = it.row; life = it.life; suspect = marked_stays words it.suspect; replaced = λ is. it.replaced (sym (ap standing_life (words.recovery_stays it.row)) ∙ is) })

-- its own turn in vain brings it nearer
own_vain : {e : Setting} {p : List Strike} {s t : Core} {a b : Actor} {vain : ℕ} → Invariant e s → Stall e p s t a b → Vain e p s a vain → (left : ℕ) × (left + 1 ≤ vain) × Vain e p t b left
own_vain inv stall (renews k it) = absurd (stall.none_renewed k it)
own_vain inv stall (holds it) = absurd (it stall.free)
own_vain inv stall (seen quiet it) = absurd (stall.not_seen it)
own_vain inv stall (wins quiet it) = absurd (⊎_elim (λ next. marked_plain it.suspect next.0) (λ next. wins_loses inv it next.0) (stall.next quiet))
own_vain inv stall (plain quiet it) = ⊎_elim
    (λ next. ⊎_elim (λ won. (0, omega arith, wins (quiet_stays stall.words quiet) won)) (λ was. (0, omega arith, seen (quiet_stays stall.words quiet) was)) next.1)
    (λ next. absurd (marked_plain next.0.suspect it))
    (stall.next quiet)
own_vain inv stall (loses quiet it) = ⊎_elim
    (λ next. absurd (marked_plain it.suspect next.0))
    (λ next. (1, omega arith, plain (quiet_stays stall.words quiet) next.1))
    (stall.next quiet)

-- who is to move within more turns than need be
due_low : (schedule : List ℕ) (turns moves worker less vain : ℕ) → less ≤ vain → IsDue schedule turns moves worker vain → IsDue schedule turns moves worker less
due_low schedule turns moves worker less vain low due = record {
  others = due.others;
  named = due.named;
  in_time = let a = due.in_time in let b : less * length schedule ≤ vain * length schedule = mul-le less (length schedule) vain (length schedule) low (omega arith) in omega (arith, a, b);
}

-- with no hints in any list there are none together
hintless : (crew : List Actor) → ((j : ℕ) (c : Actor) → slice_get crew j ≡ Some c → c.hints ≡ []) → sum_by hints_of crew ≡ 0
hintless crew none = none_sum hints_of crew (λ j c at. ap length (none j c at))

-- the schedule names whoever is to move
listed : {e : Setting} {p : List Strike} {s : Core} {crew : List Actor} (schedule : List ℕ) → IsListed schedule 0 → AreNamed schedule crew → (m : IsMover e p s crew) → IsListed schedule m.worker
listed schedule first named m = ⊎_elim
    (λ z. subst (IsListed schedule) (sym z) first)
    (λ busy. ⊎_elim (λ l. l) (λ rest. absurd (busy rest.0)) (named m.worker m.actor m.at))
    m.first_or_busy

module _ {e : Setting} {p : List Strike} {schedule : List ℕ} where
  -- a run begins
  pub mover_begun : {most : ℕ} {s : Core} {crew : List Actor} → Shares e p most s crew 0 → AreHeld crew → 0 < length crew → s.word pending ≢ 0 → IsListed schedule 0 → AreNamed schedule crew → IsPaced e p schedule s crew 0 0
  mover_begun shares held some pends first named = let m = mover_found shares held some pends in let l = listed schedule first named m in let n = named_within schedule 0 m.worker l.0 l.1 l.2 in record {
    worker = m.worker;
    actor = m.actor;
    at = m.at;
    vain = m.vain;
    few = m.few;
    mover = m.mover;
    due = first_due schedule m.worker m.vain n.0 n.1 m.few;
    calm = λ one none. let c = m.calm none in omega (arith, c);
  }

  module _ {s : Core} {crew : List Actor} {turns moves : ℕ} (paced : IsPaced e p schedule s crew turns moves) where
    -- after a move some worker is to move soon again
    pub mover_moved : {most : ℕ} {t : Core} {later : List Actor} → Shares e p most t later (moves + 1) → AreHeld later → 0 < length later → length later ≡ length crew → t.word pending ≢ 0 → IsListed schedule 0 → AreNamed schedule later → s.total (noted is_any_struck) ≤ t.total (noted is_any_struck) → IsPaced e p schedule t later (turns + 1) (moves + 1)
    mover_moved shares held some same pends first named struck = let m = mover_found shares held some pends in let l = listed schedule first named m in let n = named_within schedule (turns + 1) m.worker l.0 l.1 l.2 in record {
      worker = m.worker;
      actor = m.actor;
      at = m.at;
      vain = m.vain;
      few = m.few;
      mover = m.mover;
      due = due_moved schedule turns moves paced.worker paced.vain m.worker m.vain n.0 paced.due n.1 m.few;
      calm = λ one none. let c = m.calm none in let old = paced.calm (omega (arith, one, same)) (omega (arith, struck, none)) in omega (arith, c, old);
    }

    -- a turn in vain
    pub mover_stalled : {t : Core} → Invariant e s → (i : ℕ) (a b : Actor) → slice_get crew i ≡ Some a → slice_index schedule (turns % length schedule) ≡ i → Stall e p s t a b → s.total (noted is_any_struck) ≤ t.total (noted is_any_struck) → IsPaced e p schedule t (set crew i b) (turns + 1) moves
    mover_stalled {t} inv i a b at turn_of stall struck = dite (ℕ_discrete paced.worker i) own other
      where
        still : sum_by hints_of (set crew i b) ≡ sum_by hints_of crew
        still = let x = set_sums hints_of crew i a b at in let y = stall.same_hints in omega (arith, x, y)

        same_length : length (set crew i b) ≡ length crew
        same_length = length-set crew i b

        other : paced.worker ≢ i → IsPaced e p schedule t (set crew i b) (turns + 1) moves
        other ne = record {
          worker = paced.worker;
          actor = paced.actor;
          at = set_else crew i paced.worker b ne ∙ paced.at;
          vain = paced.vain;
          few = paced.few;
          mover = by paced.mover;
          due = due_other schedule turns moves paced.worker paced.vain paced.due (λ named. ne (sym named ∙ turn_of));
          calm = λ one none. absurd (ne (alone crew paced.worker i paced.actor a (omega (arith, one, same_length)) paced.at at));
        }
          where
            by : {c : Actor} {vain : ℕ} → Moves e p s (sum_by hints_of crew) c vain → Moves e p t (sum_by hints_of (set crew i b)) c vain
            by (works_on task vain is it) = works_on task vain is (others_vain stall.words it)
            by (serves row key j is) = serves row key j is
            by (looks is some) = looks is (omega (arith, some, still))

        own : paced.worker ≡ i → IsPaced e p schedule t (set crew i b) (turns + 1) moves
        own same = let it = by (subst (λ (c : Actor). Moves e p s (sum_by hints_of crew) c paced.vain) actor_is paced.mover) in nearer it.0 it.1 it.2
          where
            actor_is : paced.actor ≡ a
            actor_is = same_member crew paced.worker i paced.actor a same paced.at at

            nearer : (left : ℕ) → left + 1 ≤ paced.vain → Vain e p t b left → IsPaced e p schedule t (set crew i b) (turns + 1) moves
            nearer left low it = record {
              worker = i;
              actor = b;
              at = set_here crew i a b at;
              vain = left;
              few = let x = paced.few in omega (arith, x, low);
              mover = works_on stall.task left stall.works_on it;
              due = due_own schedule turns moves i left (due_low schedule turns moves i (left + 1) paced.vain low (subst (λ (w : ℕ). IsDue schedule turns moves w paced.vain) same paced.due));
              calm = λ one none. let old = paced.calm (omega (arith, one, same_length)) (omega (arith, struck, none)) in omega (arith, old, low);
            }

            by : {vain : ℕ} → Moves e p s (sum_by hints_of crew) a vain → (left : ℕ) × (left + 1 ≤ vain) × Vain e p t b left
            by (works_on task vain is it) = own_vain inv stall it
            by (serves row key j is) = absurd (let x = is in let y = stall.worked_on in cc)
            by (looks is some) = absurd (let x = is in let y = stall.worked_on in cc)

    -- a worker without a task finds no hint
    pub mover_idles : (i : ℕ) (a : Actor) → slice_get crew i ≡ Some a → slice_index schedule (turns % length schedule) ≡ i → a.doing ≡ idle → ((j : ℕ) (c : Actor) → slice_get crew j ≡ Some c → c.hints ≡ []) → IsPaced e p schedule s crew (turns + 1) moves
    mover_idles i a at turn_of rests none = record {
      worker = paced.worker;
      actor = paced.actor;
      at = paced.at;
      vain = paced.vain;
      few = paced.few;
      mover = paced.mover;
      due = due_other schedule turns moves paced.worker paced.vain paced.due (λ named. other (sym named ∙ turn_of));
      calm = λ one clean. absurd (other (alone crew paced.worker i paced.actor a one paced.at at));
    }
      where
        other : paced.worker ≢ i
        other same = by (subst (λ (c : Actor). Moves e p s (sum_by hints_of crew) c paced.vain) (same_member crew paced.worker i paced.actor a same paced.at at) paced.mover)
          where
            by : {vain : ℕ} → Moves e p s (sum_by hints_of crew) a vain → ⊥
            by (works_on task vain is it) = let x = is in let y = rests in cc
            by (serves row key j is) = let x = is in let y = rests in cc
            by (looks is some) = let z = hintless crew none in omega (arith, z, some)
