-- The charges of several workers after a step of one of them: those that there were, and one more where a bad block was read or a job began.
use Rattle.std.proofs.Common.{◌≡◌, ◌≢◌, ◌⊎◌, ℕ, ◌+◌, ◌-◌, ◌*◌, ◌<◌, ◌≤◌, List, ◌∷◌, length, slice_get, set, Some, ⊎_elim, inl, inr, arith, refl, sym, subst, ◌∙◌}
use mathlib.Core.Logic.{dite}
use native.Mathlib.Decide.{ℕ_discrete}
use Rattle.std.specs.List.{sum_by}
use Rattle.std.proofs.Math.Nat.{mul-le-mul_left}
use Rattle.std.proofs.lemmas.List.Sums.{sum_by-cons}
use Rattle.graph_model.specs.declared.plan.Strike.{Strike}
use Rattle.core_state.specs.Change.{Core}
use Rattle.core_state.specs.Counts.{begun, count, ended, held, noted}
use Rattle.core_state.specs.Graph.{Setting, Sound}
use Rattle.core_state.specs.Invariant.{Invariant}
use Rattle.core_state.specs.Tests.{is_any_replaced, is_any_struck, three}
use Rattle.core_state.specs.Words.{posted}
use Rattle.core_state.specs.declared.job.Job.{Job}
use Rattle.core_state.specs.declared.job.Job.TheVariants as job
use Rattle.core_state.specs.declared.views.View.{View}
use Rattle.core_state.proofs.Base.Counting.{bump_is, three_else}
use Rattle.run_bounds.specs.Hinting.{HasHints, HintTaken, times}
use Rattle.run_bounds.specs.Shared.{Actor, ActorTurn, Charge, Grows, IsPart, IsTopped, Pays, Shares, Stall, actor_left, asked_of, fresh_of, strikes_of}
use Rattle.run_bounds.specs.Shared.Charge.{begins, misses, nothing, reads, replaces}
use Rattle.run_bounds.specs.Shared.Pays.{moves as moved, stalls}
use Rattle.run_bounds.specs.Storm.{Lived, is_lived, job_cost, job_kind}
use Rattle.run_bounds.proofs.Hinting.{hints_as}
use Rattle.run_bounds.proofs.Shared.Parts.{suspected_struck}
use Rattle.run_bounds.proofs.Lists.{member_low, set_else, set_here, set_sums, set_tells}

-- one more of a list
pub once_more : (y : Lived) (xs : List Lived) → ((a k l : ℕ) → count (is_lived a k l) xs ≤ 1) → count (is_lived y.kind y.key y.life) xs ≡ 0 → (a k l : ℕ) → count (is_lived a k l) (y ∷ xs) ≤ 1
once_more y xs once none a k l = let many = bump_is (three a k l y.kind y.key y.life) (count (is_lived a k l) xs) in let few = once a k l in
    ⊎_elim (λ apart. omega (arith, many, few, apart))
    (λ same. let z : count (is_lived a k l) xs ≡ 0 = subst (λ q. count (is_lived q k l) xs ≡ 0) (sym same.0) (subst (λ q. count (is_lived y.kind q l) xs ≡ 0) (sym same.1) (subst (λ q. count (is_lived y.kind y.key q) xs ≡ 0) (sym same.2) none)) in
    let one = Rattle.core_state.proofs.Base.Counting.hit_le (three a k l y.kind y.key y.life) in omega (arith, many, z, one))
    (three_else a k l y.kind y.key y.life)

pub each_more : (P : ℕ → ℕ → ℕ → Type 0) (y : Lived) (xs : List Lived) → ((a k l : ℕ) → 0 < count (is_lived a k l) xs → P a k l) → P y.kind y.key y.life → (a k l : ℕ) → 0 < count (is_lived a k l) (y ∷ xs) → P a k l
each_more P y xs old new a k l some = let many = bump_is (three a k l y.kind y.key y.life) (count (is_lived a k l) xs) in
    ⊎_elim (λ apart. old a k l (omega (arith, many, apart, some)))
    (λ same. subst (λ q. P q k l) (sym same.0) (subst (λ q. P y.kind q l) (sym same.1) (subst (λ q. P y.kind y.key q) (sym same.2) new)))
    (three_else a k l y.kind y.key y.life)

-- each worker's view is a part
pub part_after : {e : Setting} {t : Core} (later : List Actor) → Sound e → Invariant e t → ((f : View → ℕ) → t.total f ≡ sum_by (λ c. f c.view) later) → (i : ℕ) (b : Actor) → slice_get later i ≡ Some b → IsPart e t b.view
part_after later sound holds all i b at = record { sound = sound; holds = holds; within = λ f. let x = member_low (λ c. f c.view) later i b at in let y = all f in omega (arith, x, y) }

pub part_at : {e : Setting} {p : List Strike} {most : ℕ} {s : Core} {crew : List Actor} {moves : ℕ} → Shares e p most s crew moves → (i : ℕ) (a : Actor) → slice_get crew i ≡ Some a → IsPart e s a.view
part_at {crew = crew} shares i a at = part_after crew shares.sound shares.holds shares.all i a at

module _ {e : Setting} {p : List Strike} {most : ℕ} {s t : Core} {crew : List Actor} {moves : ℕ} (shares : Shares e p most s crew moves) (i : ℕ) (a b : Actor) (at : slice_get crew i ≡ Some a) (holds : Invariant e t) (all : (f : View → ℕ) → t.total f ≡ sum_by (λ c. f c.view) (set crew i b)) (grows : Grows a.view b.view) where
  -- what has changed in all views together has changed in the worker's
  total_on : (f : View → ℕ) → t.total f + f a.view ≡ s.total f + f b.view
  total_on f = let x = set_sums (λ c. f c.view) crew i a b at in let y = all f in let z = shares.all f in omega (arith, x, y, z)

  begun_still : (h k l : ℕ) → 0 < count (is_lived h k l) shares.jobs → (j : Job) × (h ≡ job_kind j) × (0 < t.total (held j k l) + t.total (ended j k l))
  begun_still h k l some = let old = shares.jobs_begun h k l some in (old.0, old.1, let z = old.2 in let more = grows.begun_on old.0 k l in let x = total_on (held old.0 k l) in let y = total_on (ended old.0 k l) in omega (arith, z, more, x, y))

  bad_still : (h k l : ℕ) → 0 < count (is_lived h k l) shares.bads → (h ≡ 0) × (0 < t.total (ended job.Compute k l))
  bad_still h k l some = let old = shares.bad h k l some in (old.0, let z = old.1 in let more = grows.ended_on k l in let x = total_on (ended job.Compute k l) in omega (arith, z, more, x))

  faulted_still : 0 < length shares.bads → 0 < t.total (noted is_any_struck)
  faulted_still some = let z = shares.faulted some in let more = grows.struck_on in let x = total_on (noted is_any_struck) in omega (arith, z, more, x)

  -- what is charged `most` in all
  abbrev Times : Core → ℕ → ℕ
  Times u bads = u.total (noted is_any_replaced) + bads + 2 * u.total strikes_of

  times_on : (bads more : ℕ) → Times s (length shares.bads) + more ≤ Times t bads → most * Times s (length shares.bads) + more * most ≤ most * Times t bads
  times_on bads more up = let x : most * (Times s (length shares.bads) + more) ≤ most * Times t bads = mul-le-mul_left most up in
      let y : most * (Times s (length shares.bads) + more) ≡ most * Times s (length shares.bads) + more * most = grind arith in omega (arith, x, y)

  left_on : sum_by (actor_left e p) (set crew i b) + actor_left e p a ≡ sum_by (actor_left e p) crew + actor_left e p b
  left_on = set_sums (actor_left e p) crew i a b at

  module _ (topped : IsTopped b.view) (hinted : (r fresh asked : ℕ) → r < e.shape.rows → HasHints (fresh + fresh_of r a) (asked + asked_of r a) (s.word (posted job.Explore r)) (s.word (posted job.Compute r)) → HasHints (fresh + fresh_of r b) (asked + asked_of r b) (t.word (posted job.Explore r)) (t.word (posted job.Compute r))) where
    topped_still : (j : ℕ) (c : Actor) → slice_get (set crew i b) j ≡ Some c → IsTopped c.view
    topped_still j c here = ⊎_elim (λ same. subst (λ (d : Actor). IsTopped d.view) (sym same.1) topped) (λ old. shares.topped j c old.1) (set_tells crew i j b c here)

    hinted_still : (r : ℕ) → r < e.shape.rows → HasHints (sum_by (fresh_of r) (set crew i b)) (sum_by (asked_of r) (set crew i b)) (t.word (posted job.Explore r)) (t.word (posted job.Compute r))
    hinted_still r low =
        let fresh : ℕ = sum_by (fresh_of r) crew - fresh_of r a in let asked : ℕ = sum_by (asked_of r) crew - asked_of r a in
        let x = member_low (fresh_of r) crew i a at in let y = member_low (asked_of r) crew i a at in let z = set_sums (fresh_of r) crew i a b at in let w = set_sums (asked_of r) crew i a b at in
        hints_as (sum_by (fresh_of r) (set crew i b)) (sum_by (asked_of r) (set crew i b)) (omega (arith, x, z)) (omega (arith, y, w))
        (hinted r (sum_by (fresh_of r) crew - fresh_of r a) (sum_by (asked_of r) crew - asked_of r a) low (hints_as (sum_by (fresh_of r) crew - fresh_of r a + fresh_of r a) (sum_by (asked_of r) crew - asked_of r a + asked_of r a) (omega (arith, x)) (omega (arith, y)) (shares.hinted r low)))

    -- no job and no bad block is charged
    keep : (now : ℕ) → now + sum_by (actor_left e p) (set crew i b) ≤ sum_by (job_cost e p) shares.jobs + most * Times t (length shares.bads) → Shares e p most t (set crew i b) now
    keep now paid = record { sound = shares.sound; holds = holds; all = all; jobs = shares.jobs; bads = shares.bads; paid = paid; jobs_once = shares.jobs_once; jobs_begun = begun_still; bads_once = shares.bads_once; bad = bad_still; faulted = faulted_still; topped = topped_still; hinted = hinted_still }

    -- a job began
    with_job : (j : Job) (k l : ℕ) → s.total (held j k l) + s.total (ended j k l) ≡ 0 → 0 < begun j k l b.view → actor_left e p b + 1 ≤ actor_left e p a + job_cost e p (record { kind = job_kind j; key = k; life = l }) → Shares e p most t (set crew i b) (moves + 1)
    with_job j k l none some less = let y : Lived = record { kind = job_kind j; key = k; life = l } in record {
      sound = shares.sound;
      holds = holds;
      all = all;
      jobs = y ∷ shares.jobs;
      bads = shares.bads;
      paid = let r = grows.replaced_on in let u = grows.strikes_on in let rs = total_on (noted is_any_replaced) in let us = total_on strikes_of in
          let more = times_on (length shares.bads) 0 (omega (arith, r, u, rs, us)) in let c = sum_by-cons (job_cost e p) y shares.jobs in let old = shares.paid in let left = left_on in omega (arith, more, c, old, left, less);
      jobs_once = once_more y shares.jobs shares.jobs_once (dite (ℕ_discrete (count (is_lived (job_kind j) k l) shares.jobs) 0) (λ z. z) (λ ne. absurd (let old = shares.jobs_begun (job_kind j) k l (omega (arith, ne)) in let same = same_kind j old.0 old.1 in
          let z : 0 < s.total (held j k l) + s.total (ended j k l) = subst (λ h. 0 < s.total (held h k l) + s.total (ended h k l)) (sym same) old.2 in omega (arith, z, none))));
      jobs_begun = each_more (λ h q m. (j : Job) × (h ≡ job_kind j) × (0 < t.total (held j q m) + t.total (ended j q m))) y shares.jobs begun_still (j, refl, let x = total_on (held j k l) in let z = total_on (ended j k l) in let f = (part_at shares i a at).within (held j k l) in let g = (part_at shares i a at).within (ended j k l) in omega (arith, x, z, f, g, none, some));
      bads_once = shares.bads_once;
      bad = bad_still;
      faulted = faulted_still;
      topped = topped_still;
      hinted = hinted_still;
    }
      where
        same_kind : (i j : Job) → job_kind i ≡ job_kind j → i ≡ j
        same_kind job.Explore job.Explore is = refl
        same_kind job.Compute job.Compute is = refl
        same_kind job.Explore job.Compute is = absurd (omega (arith, is))
        same_kind job.Compute job.Explore is = absurd (omega (arith, is))

    -- a bad block was read
    with_bad : (k l : ℕ) → s.total (ended job.Compute k l) ≡ 0 → 0 < ended job.Compute k l b.view → 0 < t.total (noted is_any_struck) → actor_left e p b + 1 ≤ actor_left e p a + most → Shares e p most t (set crew i b) (moves + 1)
    with_bad k l none some struck less = let y : Lived = record { kind = 0; key = k; life = l } in record {
      sound = shares.sound;
      holds = holds;
      all = all;
      jobs = shares.jobs;
      bads = y ∷ shares.bads;
      paid = let r = grows.replaced_on in let u = grows.strikes_on in let rs = total_on (noted is_any_replaced) in let us = total_on strikes_of in
          let more = times_on (length shares.bads + 1) 1 (omega (arith, r, u, rs, us)) in let old = shares.paid in let left = left_on in omega (arith, more, old, left, less);
      jobs_once = shares.jobs_once;
      jobs_begun = begun_still;
      bads_once = once_more y shares.bads shares.bads_once (dite (ℕ_discrete (count (is_lived 0 k l) shares.bads) 0) (λ z. z) (λ ne. absurd (let old = (shares.bad 0 k l (omega (arith, ne))).1 in omega (arith, old, none))));
      bad = each_more (λ h q m. (h ≡ 0) × (0 < t.total (ended job.Compute q m))) y shares.bads bad_still (refl, let x = total_on (ended job.Compute k l) in let f = (part_at shares i a at).within (ended job.Compute k l) in omega (arith, x, f, none, some));
      faulted = λ z. struck;
      topped = topped_still;
      hinted = hinted_still;
    }

    by_charge : (cost : ℕ) → Charge e p most s t a.view b.view cost → actor_left e p b + 1 ≤ actor_left e p a + cost → Shares e p most t (set crew i b) (moves + 1)
    by_charge _ nothing less = keep (moves + 1) (let r = grows.replaced_on in let u = grows.strikes_on in let rs = total_on (noted is_any_replaced) in let us = total_on strikes_of in
        let more = times_on (length shares.bads) 0 (omega (arith, r, u, rs, us)) in let old = shares.paid in let left = left_on in omega (arith, more, old, left, less))
    by_charge _ (begins j k l none some) less = with_job j k l none some less
    by_charge _ (replaces one) less = keep (moves + 1) (let u = grows.strikes_on in let rs = total_on (noted is_any_replaced) in let us = total_on strikes_of in
        let more = times_on (length shares.bads) 1 (omega (arith, one, u, rs, us)) in let old = shares.paid in let left = left_on in omega (arith, more, old, left, less))
    by_charge _ (reads k l none some suspect) less = with_bad k l none some (suspected_struck (part_after (set crew i b) shares.sound holds all i b (set_here crew i a b at)) suspect) less
    by_charge _ (misses one) less = keep (moves + 1) (let r = grows.replaced_on in let rs = total_on (noted is_any_replaced) in let us = total_on strikes_of in
        let more = times_on (length shares.bads) 2 (omega (arith, r, one, rs, us)) in let old = shares.paid in let left = left_on in omega (arith, more, old, left, less))

    by_pays : Pays e p most s t a b → Shares e p most t (set crew i b) (moves + 1) ⊎ (Shares e p most t (set crew i b) moves × Stall e p s t a b)
    by_pays (moved cost made less) = inl (by_charge cost made less)
    by_pays (stalls less stall) = inr (
      keep moves (let r = grows.replaced_on in let u = grows.strikes_on in let rs = total_on (noted is_any_replaced) in let us = total_on strikes_of in
          let more = times_on (length shares.bads) 0 (omega (arith, r, u, rs, us)) in let old = shares.paid in let left = left_on in omega (arith, more, old, left, less)),
      stall,
    )

-- a turn of one worker is one move more, or one in vain
pub shares_on : {e : Setting} {p : List Strike} {most : ℕ} {s t : Core} {crew : List Actor} {moves : ℕ} → Shares e p most s crew moves → (i : ℕ) (a b : Actor) → slice_get crew i ≡ Some a → Invariant e t → ((f : View → ℕ) → t.total f ≡ sum_by (λ c. f c.view) (set crew i b)) → ActorTurn e p most s t a b
    → Shares e p most t (set crew i b) (moves + 1) ⊎ (Shares e p most t (set crew i b) moves × Stall e p s t a b)
shares_on shares i a b at holds all turn = by_pays shares i a b at holds all turn.grows turn.topped turn.hinted turn.pays

module _ {e : Setting} {p : List Strike} {most : ℕ} {s : Core} {crew : List Actor} {moves : ℕ} (shares : Shares e p most s crew moves) (i j row : ℕ) (a c : Actor) (left : List ℕ) (apart : i ≢ j) (at_a : slice_get crew i ≡ Some a) (at_c : slice_get crew j ≡ Some c) (taken : HintTaken c.hints row left) where
  abbrev taker : Actor
  taker = record a { hints = row ∷ a.hints }

  abbrev giver : Actor
  giver = record c { hints = left }

  -- the sums of both, where what the giver has less the taker has more
  sums_same : (f : Actor → ℕ) → f taker + f giver ≡ f a + f c → sum_by f (set (set crew j giver) i taker) ≡ sum_by f crew
  sums_same f same = let x = set_sums f crew j c giver at_c in let y = set_sums f (set crew j giver) i a taker (set_else crew j i giver apart ∙ at_a) in omega (arith, x, y, same)

  -- a hint passes from one list into another
  pub shares_handed : Shares e p most s (set (set crew j giver) i taker) moves
  shares_handed = record {
    sound = shares.sound;
    holds = shares.holds;
    all = λ f. let x = shares.all f in let y = sums_same (λ d. f d.view) refl in omega (arith, x, y);
    jobs = shares.jobs;
    bads = shares.bads;
    paid = let old = shares.paid in let y = sums_same (actor_left e p) (let one = taken.one_less in omega (arith, one)) in omega (arith, old, y);
    jobs_once = shares.jobs_once;
    jobs_begun = shares.jobs_begun;
    bads_once = shares.bads_once;
    bad = shares.bad;
    faulted = shares.faulted;
    topped = λ k d here. ⊎_elim (λ same. subst (λ (u : Actor). IsTopped u.view) (sym same.1) (shares.topped i a at_a)) (λ old. ⊎_elim (λ same. subst (λ (u : Actor). IsTopped u.view) (sym same.1) (shares.topped j c at_c)) (λ older. shares.topped k d older.1) (set_tells crew j k giver d old.1)) (set_tells (set crew j giver) i k taker d here);
    hinted = λ r low. hints_as (sum_by (fresh_of r) (set (set crew j giver) i taker)) (sum_by (asked_of r) (set (set crew j giver) i taker))
        (sums_same (fresh_of r) (let one = taken.the_row r in let more = bump_is (Rattle.std.specs.Prelude.eqb r row) (times r a.hints) in omega (arith, one, more)))
        (sums_same (asked_of r) refl) (shares.hinted r low);
  }
