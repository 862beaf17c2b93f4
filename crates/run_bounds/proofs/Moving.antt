-- Where some worker is to move at any time, the moves are a third of the turns of each entry of the schedule.
use Rattle.std.proofs.Common.{◌≡◌, ℕ, zero, suc, ◌+◌, ◌-◌, ◌*◌, ◌/◌, ◌%◌, ◌<◌, ◌≤◌, List, length, slice_index, arith, ap, sym, ◌∙◌, subst}
use mathlib.Core.Logic.{dite}
use native.Mathlib.Decide.{dec_lt}
use Rattle.std.proofs.lemmas.Nat.{div-add-mod', mod-mul-add, mod_below, mul-le}
use Rattle.run_bounds.specs.Moving.{IsDue, IsNamed}

-- what stands before the end of m, and m more, is the same part of it
before_end : (m q i n : ℕ) → i < m → n ≡ q * m + i → n % m ≡ i
before_end m q i n low is = ap (λ (z : ℕ). z % m) is ∙ mod-mul-add q m i low

module _ (schedule : List ℕ) where
  -- whoever has an entry has a turn within the schedule's length
  pub named_within : (turns worker i : ℕ) → i < length schedule → slice_index schedule i ≡ worker → (others : ℕ) × IsNamed schedule turns worker others
  named_within turns worker i low here = dite (dec_lt i (turns % length schedule)) (λ past. later past) (λ still. sooner (omega (arith, still)))
    where
      part : turns / length schedule * length schedule + turns % length schedule ≡ turns
      part = div-add-mod' turns (length schedule)

      inside : turns % length schedule < length schedule
      inside = mod_below turns (length schedule) (omega (arith, low))

      at : (others : ℕ) → (turns + others) % length schedule ≡ i → slice_index schedule ((turns + others) % length schedule) ≡ worker
      at others is = ap (slice_index schedule) is ∙ here

      sooner : turns % length schedule ≤ i → (others : ℕ) × IsNamed schedule turns worker others
      sooner less = (
        i - turns % length schedule,
        record {
          within = omega (arith, low, less);
          named = at (i - turns % length schedule) (before_end (length schedule) (turns / length schedule) i (turns + (i - turns % length schedule)) low (let p = part in omega (arith, p, less)));
        },
      )

      later : i < turns % length schedule → (others : ℕ) × IsNamed schedule turns worker others
      later more = (
        i + length schedule - turns % length schedule,
        record {
          within = let a = inside in omega (arith, more, a);
          named = at (i + length schedule - turns % length schedule) (before_end (length schedule) (turns / length schedule + 1) i (turns + (i + length schedule - turns % length schedule)) low
              (let p = part in let a = inside in let b : (turns / length schedule + 1) * length schedule ≡ turns / length schedule * length schedule + length schedule = grind arith in omega (arith, p, a, b, more)));
        },
      )

  -- the turn of another brings it nearer
  nearer : (turns worker others : ℕ) → IsNamed schedule turns worker (others + 1) → IsNamed schedule (turns + 1) worker others
  nearer turns worker others named = record {
    within = let a = named.within in omega (arith, a);
    named = let is : turns + 1 + others ≡ turns + (others + 1) = omega arith in ap (λ (n : ℕ). slice_index schedule (n % length schedule)) is ∙ named.named;
  }

  -- once it has had its turn, it has one again behind all others
  again : (turns worker : ℕ) → IsNamed schedule turns worker 0 → IsNamed schedule (turns + 1) worker (length schedule - 1)
  again turns worker named = record {
    within = let a = named.within in omega (arith, a);
    named = ap (slice_index schedule) round ∙ named.named;
  }
    where
      some : 0 < length schedule
      some = let a = named.within in omega (arith, a)

      round : (turns + 1 + (length schedule - 1)) % length schedule ≡ (turns + 0) % length schedule
      round = let p = div-add-mod' turns (length schedule) in let here : turns + 0 ≡ turns = omega arith in
          before_end (length schedule) (turns / length schedule + 1) (turns % length schedule) (turns + 1 + (length schedule - 1)) (mod_below turns (length schedule) some)
          (let b : (turns / length schedule + 1) * length schedule ≡ turns / length schedule * length schedule + length schedule = grind arith in let s = some in omega (arith, p, b, s)) ∙ ap (λ (n : ℕ). n % length schedule) (sym here)

  -- a run begins
  pub first_due : (worker vain others : ℕ) → IsNamed schedule 0 worker others → vain ≤ 2 → IsDue schedule 0 0 worker vain
  first_due worker vain others named few = record {
    others = others;
    named = named;
    in_time = let a = named.within in let b : vain * length schedule ≤ 2 * length schedule = mul-le vain (length schedule) 2 (length schedule) few (omega arith) in omega (arith, a, b);
  }

  -- a move, after which another may be the one to move
  pub due_moved : (turns moves worker vain next spare others : ℕ) → IsDue schedule turns moves worker vain → IsNamed schedule (turns + 1) next others → spare ≤ 2 → IsDue schedule (turns + 1) (moves + 1) next spare
  due_moved turns moves worker vain next spare others due named few = record {
    others = others;
    named = named;
    in_time = let a = named.within in let b : spare * length schedule ≤ 2 * length schedule = mul-le spare (length schedule) 2 (length schedule) few (omega arith) in let c = due.in_time in
        let d : 3 * length schedule * (moves + 1 + 1) ≡ 3 * length schedule * (moves + 1) + 3 * length schedule = grind arith in omega (arith, a, b, c, d);
  }

  -- a turn in vain of another worker
  pub due_other : (turns moves worker vain : ℕ) → IsDue schedule turns moves worker vain → (slice_index schedule (turns % length schedule) ≡ worker → ⊥) → IsDue schedule (turns + 1) moves worker vain
  due_other turns moves worker vain due other = by due.others due.named due.in_time
    where
      by : (others : ℕ) → IsNamed schedule turns worker others → turns + others + vain * length schedule + 1 ≤ 3 * length schedule * (moves + 1) → IsDue schedule (turns + 1) moves worker vain
      by zero named low = absurd (other (let here : turns ≡ turns + 0 = omega arith in ap (λ (n : ℕ). slice_index schedule (n % length schedule)) here ∙ named.named))
      by (suc others) named low = let is : suc others ≡ others + 1 = omega arith in record {
        others = others;
        named = nearer turns worker others (subst (IsNamed schedule turns worker) is named);
        in_time = omega (arith, low);
      }

  -- a turn in vain of its own
  pub due_own : (turns moves worker vain : ℕ) → IsDue schedule turns moves worker (vain + 1) → IsDue schedule (turns + 1) moves worker vain
  due_own turns moves worker vain due = by due.others due.named due.in_time
    where
      by : (others : ℕ) → IsNamed schedule turns worker others → turns + others + (vain + 1) * length schedule + 1 ≤ 3 * length schedule * (moves + 1) → IsDue schedule (turns + 1) moves worker vain
      by zero named low = record {
        others = length schedule - 1;
        named = again turns worker named;
        in_time = let a = named.within in let b : (vain + 1) * length schedule ≡ vain * length schedule + length schedule = grind arith in omega (arith, low, a, b);
      }
      by (suc others) named low = let is : suc others ≡ others + 1 = omega arith in record {
        others = others;
        named = nearer turns worker others (subst (IsNamed schedule turns worker) is named);
        in_time = let b : (vain + 1) * length schedule ≡ vain * length schedule + length schedule = grind arith in omega (arith, low, b);
      }

  -- the turns by the moves
  pub due_few : (turns moves worker vain : ℕ) → IsDue schedule turns moves worker vain → turns ≤ length schedule * (3 * (moves + 1))
  due_few turns moves worker vain due = let a = due.in_time in let b : length schedule * (3 * (moves + 1)) ≡ 3 * length schedule * (moves + 1) = grind arith in omega (arith, a, b)
