-- What answers tell beside the word that was found: of a job that came, of a closing and of an election.
use Rattle.std.proofs.Common.{◌≡◌, ℕ, ◌+◌, ◌-◌, ◌*◌, ◌%◌, ◌^◌, ◌≤◌, ◌<◌, Bool, true, false, cond, eqb, nat_eq, nat_lt, arith, sym, ap, refl, ◌∙◌, subst}
use mathlib.Core.Logic.{dite}
use native.Mathlib.Decide.{ℕ_discrete, dec_lt}
use Rattle.std.specs.Prelude.{◌==◌}
use Rattle.std.specs.Int.{bit_at}
use Rattle.std.proofs.lemmas.Bool.{eqb-true, eqb-false, ltb-false, le-ltb}
use Rattle.std.proofs.lemmas.Nat.Bits.{bit_at-lt, bit_at_above, bit_at_cat_low}
use Rattle.core_state.specs.Graph.{Setting}
use Rattle.core_state.specs.Words.{descriptor, notify, recovery, posted, life_of, mark_of, closed_bit, standing_life, replacing}
use Rattle.core_state.specs.Packed.{notify_of}
use Rattle.core_state.specs.Counts.{hit, held, ended, begun, items, knows_row, waits, struck_by, struck_idly}
use Rattle.core_state.specs.Tests.{carries, is_closed, is_close_from, is_suspect, job_of}
use Rattle.core_state.specs.Change.{Core, many}
use Rattle.core_state.specs.Rows.{HasKey, Lists}
use Rattle.core_state.specs.Invariant.{Invariant}
use Rattle.core_state.specs.Guards.{KnowsRow, CanClose, CanElect, CanPost}
use Rattle.core_state.specs.Effects.{closing_of, elected_of}
use Rattle.core_state.specs.Events.{after}
use Rattle.core_state.specs.Events.Event.{post, take}
use Rattle.core_state.specs.Sure.{IsFresh, MovedTells, PortsTell, IsReplacing}
use Rattle.core_state.specs.declared.answers.Closing.TheVariants as closing
use Rattle.core_state.specs.declared.answers.Elected.TheVariants as elected
use Rattle.core_state.specs.declared.job.Job.{Job}
use Rattle.core_state.specs.declared.job.Job.TheVariants.{Compute}
use Rattle.core_state.specs.declared.views.View.{View}
use Rattle.graph_model.specs.declared.record.Cause.{Cause}
use Rattle.core_state.proofs.Base.Bits.{low_bits}
use Rattle.core_state.proofs.Base.Counting.{eqb_here, two_here, three_here}
use Rattle.core_state.proofs.Close.View.{at_top}
use Rattle.core_state.proofs.Replace.Lost.{taken}
use Rattle.core_state.proofs.Replace.Suspects.{notify_high}
use Rattle.core_state.proofs.Own.Sure.{job_once, row_known}

module _ (e : Setting) (s : Core) (inv : Invariant e s) (v : View) (within : (f : View → ℕ) → f v ≤ s.total f) where
  -- A job that stands in a job word was begun by nobody, so the view has made no strike at its points.
  pub fresh_of : (r : ℕ) (i : Job) (k l : ℕ) → 0 < knows_row r k v → s.word (posted i r) ≡ l → 0 < l → IsFresh e v i k l
  fresh_of r i k l row is some n low key life point =
      let a = job_once e s inv i r k l (row_known e s inv v within r k row) some in let b = ap (λ o. hit (eqb l o)) is in let c = ap hit (eqb_here l) in let d = within (held i k l) in let f = within (ended i k l) in
      let none : begun i k l v ≡ 0 = omega (arith, a, b, c, d, f) in
      let idle : begun (job_of (e.plan.strike n).point) (e.plan.strike n).key.0 (e.plan.strike n).life v ≡ 0 = subst (λ o. begun o (e.plan.strike n).key.0 (e.plan.strike n).life v ≡ 0) (sym point) (subst (λ o. begun i o (e.plan.strike n).life v ≡ 0) (sym key) (subst (λ o. begun i k o v ≡ 0) (sym life) none)) in
      let g : struck_idly (e.plan.strike n) n v ≡ struck_by n v = ap (λ o. cond (eqb o 0) (struck_by n v) 0) idle in
      let h = within (struck_idly (e.plan.strike n) n) in let y = (inv.strikes.each n low).by_its_job in omega (arith, g, h, y)

  -- so it is when posting or taking has brought it
  pub fresh_post : (r : ℕ) (i : Job) (k l n : ℕ) → CanPost e v r i k l → s.word (posted i r) ≡ n → 0 < n → IsFresh e (after e (post r i k l) n v) i k n
  fresh_post r i k l n can is some m low key life point = fresh_of r i k n can.row.row_known is some m low key life point

  pub fresh_take : (r : ℕ) (i : Job) (k n : ℕ) → KnowsRow e v r k → s.word (posted i r) ≡ n → 0 < n → IsFresh e (after e (take r i k) n v) i k n
  fresh_take r i k n can is some m low key life point = fresh_of r i k n can.row_known is some m low key life point

  -- Closing word w of life l of k, which showed the number n.
  module _ (r k l w seen n : ℕ) (can : CanClose e v r k l w seen) (is : s.word (notify r w) ≡ n) where
    has : HasKey e s r k
    has = row_known e s inv v within r k can.row.row_known

    lists : Lists e s k w n
    lists = subst (Lists e s k w) is (inv.content.notify_words r k w has can.word_in)

    holds : 0 < s.total (held Compute k l)
    holds = let a = within (held Compute k l) in let b = at_top k l w n v can.at_work (carries Compute k l) in let c = ap hit (two_here k l) in omega (arith, a, b, c)

    some_life : 0 < l
    some_life = dite (ℕ_discrete l 0) (λ z. absurd (let a = subst (λ o. 0 < s.total (held Compute k o)) z holds in let b = inv.work.jobs.some_life Compute k in omega (arith, a, b))) (λ ne. omega (arith, ne))

    -- no word of the key shows an earlier life than one that is computed
    not_before : l ≤ life_of n
    not_before = let a = notify_high e s r k (s.word (recovery r)) (inv.lives.each r k has) w can.word_in in let b = ap life_of is in dite (dec_lt (life_of (s.word (descriptor r))) l)
        (λ z. absurd (let c = inv.work.jobs.not_computed r k l has z in let d = holds in omega (arith, c, d)))
        (λ low. omega (arith, a, b, low))

    -- the word that comes next was not closed in this life
    none_closed : many s (is_closed k l w) ≡ 0
    none_closed = let a = within (items (is_close_from k l w)) in let b = at_top k l w n v can.at_work (is_close_from k l w) in let c = three_here k l w in
        (inv.work.computings.each r k l has some_life).closing w w (omega (arith, a, b, c)) ∙ ap hit (le-ltb w w (omega arith))

    open_still : mark_of n ≡ 0 → life_of n ≡ l → closed_bit n ≡ 0
    open_still plain same = lists.closing plain ∙ ap (λ o. many s (is_closed k o w)) same ∙ none_closed

    -- a word that has moved may be closed as it is now
    pub moved_of : MovedTells l (closing_of l seen n)
    moved_of = by (nat_eq n seen) (nat_eq (mark_of n) 1) (nat_lt l (life_of n)) refl refl
      where
        by : (a b d : Bool) → nat_eq (mark_of n) 1 ≡ b → nat_lt l (life_of n) ≡ d → MovedTells l (cond a (closing.Edges (n % 2 ^ 40)) (cond b (closing.Struck (life_of n)) (cond d (closing.Stale (life_of n)) (closing.Moved (notify_of n)))))
        by true b d f g = tt
        by false true d f g = tt
        by false false true f g = tt
        by false false false f g = let a = bit_at-lt n 41 in let b = eqb-false (mark_of n) 1 f in let c = ltb-false l (life_of n) g in let low = not_before in
            let plain : mark_of n ≡ 0 = omega (arith, a, b) in let same : life_of n ≡ l = omega (arith, c, low) in
            record { life_is = same; unstruck = ap (λ (m : ℕ). m == 1) plain; open_still = ap (λ (m : ℕ). m == 1) (open_still plain same) }

    -- the word was as seen: of this life, with neither the mark nor the closed bit
    as_seen : n ≡ seen → (j : ℕ) → 40 ≤ j → j < 48 → bit_at n j ≡ 0
    as_seen z j high low = ap (λ o. bit_at o j) (z ∙ can.seen_is) ∙ bit_at_cat_low (l - 1) 48 can.ports j low ∙ bit_at_above can.ports 40 j can.small high

    -- the ports that it tells are ports of its task
    pub ports_of : PortsTell (e.graph.ports k) w (closing_of l seen n)
    ports_of = by (nat_eq n seen) (nat_eq (mark_of n) 1) (nat_lt l (life_of n)) refl
      where
        by : (a b d : Bool) → nat_eq n seen ≡ a → PortsTell (e.graph.ports k) w (cond a (closing.Edges (n % 2 ^ 40)) (cond b (closing.Struck (life_of n)) (cond d (closing.Stale (life_of n)) (closing.Moved (notify_of n)))))
        by true b d f = λ i low set. let z = eqb-true n seen f in let a = lists.waiting (as_seen z 41 (omega arith) (omega arith)) (as_seen z 40 (omega arith) (omega arith)) i low in let c = low_bits 40 n i low in
            (inv.keys.of_waiting k (life_of n) (40 * w + i) (omega (arith, a, c, set))).0
        by false true d f = tt
        by false false true f = tt
        by false false false f = tt

  -- An election finds the own life standing, or a later one, or one that is being replaced.
  pub replacing_of : (r k l n : ℕ) (c : Cause) (waits : Bool) → CanElect e v r k l c waits → s.word (recovery r) ≡ n → IsReplacing (elected_of l n) n
  replacing_of r k l n c waits can is = by (nat_eq n (2 * (l - 1))) (nat_lt l (standing_life n)) refl refl
    where
      shown : (0 < l) × (l ≤ standing_life n + replacing n)
      shown = subst (λ o. (0 < l) × (l ≤ standing_life o + replacing o)) is ((inv.lives.each r k (row_known e s inv v within r k can.row.row_known)).suspected l
          (let a = within (items (is_suspect k l)) in let b = taken k l c waits v can.at_work (is_suspect k l) in let d = ap hit (two_here k l) in omega (arith, a, b, d)))

      by : (a b : Bool) → nat_eq n (2 * (l - 1)) ≡ a → nat_lt l (standing_life n) ≡ b → IsReplacing (cond a elected.Yes (cond b (elected.Replaced (standing_life n)) (elected.Renewing (standing_life n)))) n
      by true b f g = tt
      by false true f g = tt
      by false false f g = let a = eqb-false n (2 * (l - 1)) f in let d = ltb-false l (standing_life n) g in let x = shown.0 in let y = shown.1 in omega (arith, a, d, x, y)
