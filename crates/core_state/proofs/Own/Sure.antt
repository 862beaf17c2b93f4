-- What the invariant knows of one view by itself, whatever the others hold.
use Rattle.std.proofs.Common.{◌≡◌, ℕ, ◌+◌, ◌≤◌, ◌<◌, Bool, true, arith, sym, subst}
use mathlib.Core.Logic.{dite}
use native.Mathlib.Decide.{ℕ_discrete, dec_lt}
use Rattle.core_state.specs.Graph.{Setting, greatest_life}
use Rattle.core_state.specs.Words.{recovery, standing_life}
use Rattle.core_state.specs.Counts.{items, owed, held, ended, begun, knows_row, struck_idly, noted}
use Rattle.core_state.specs.Tests.{is_at, is_owed, is_suspect, is_computed, is_of, carries, notifies}
use Rattle.core_state.specs.Change.{Core}
use Rattle.core_state.specs.Rows.{HasKey, HasRow}
use Rattle.core_state.specs.Work.{job_count}
use Rattle.core_state.specs.Invariant.{Invariant}
use Rattle.core_state.specs.Sure.{IsSure}
use Rattle.core_state.specs.declared.job.Job.{Job}
use Rattle.core_state.specs.declared.job.Job.TheVariants.{Explore, Compute}
use Rattle.core_state.specs.declared.views.Item.{Item}
use Rattle.core_state.specs.declared.views.View.{View}
use Rattle.graph_model.specs.declared.record.Record.{Record}
use Rattle.graph_model.specs.declared.record.Record.TheVariants as record_of
use Rattle.core_state.proofs.Blocks.Versions.{count_some}
use Rattle.core_state.proofs.Row.View.{fewer_items}
use Rattle.core_state.proofs.Row.Made.{carries_at, owed_at, suspect_at}

of_computed : (k l : ℕ) (x : Record) → is_computed k l x ≡ true → is_of k l x ≡ true
of_computed k l (record_of.Computed a m) z = z
of_computed k l (record_of.Created a) z = absurd cc
of_computed k l (record_of.Spent a b c) z = absurd cc
of_computed k l (record_of.Written a b c d) z = absurd cc
of_computed k l (record_of.Closed a b c) z = absurd cc
of_computed k l (record_of.Struck a b c) z = absurd cc
of_computed k l (record_of.Replaced a b c) z = absurd cc

module _ (e : Setting) (s : Core) (inv : Invariant e s) where
  -- a job of a life exists at most once
  pub job_once : (i : Job) (r k l : ℕ) → HasKey e s r k → 0 < l → job_count e s i r k l ≤ 1
  job_once Explore r k l has some = dite (dec_lt (standing_life (s.word (recovery r))) l)
      (λ above. let a = inv.work.jobs.not_explored r k l has above in omega (arith, a))
      (λ low. let a = inv.work.jobs.explored r k l has some (omega (arith, low)) in omega (arith, a))
  job_once Compute r k l has some = inv.work.jobs.computed r k l has some

  module _ (v : View) (within : (f : View → ℕ) → f v ≤ s.total f) where
    -- a row that the view knows is that of the key
    pub row_known : (r k : ℕ) → 0 < knows_row r k v → HasKey e s r k
    row_known r k z = inv.keys.known r k (let a = within (knows_row r k) in omega (arith, a, z))

    -- an item of the view is of a key that has a row
    pub row_of : (k : ℕ) (p : Item → Bool) → ((x : Item) → p x ≡ true → is_at k x ≡ true) → 0 < items p v → HasRow e s k
    row_of k p h z = inv.keys.of_item k (dite (ℕ_discrete (items (is_at k) v) 0)
        (λ q. absurd (let a = fewer_items (is_at k) p h v.stacks q in omega (arith, a, z)))
        (λ ne. let a = within (items (is_at k)) in omega (arith, a, ne)))

    -- and so is a job that is owed, held or ended
    job_row : (i : Job) (k l : ℕ) → 0 < owed i k l v + begun i k l v → HasRow e s k
    job_row i k l z = dite (ℕ_discrete (owed i k l v) 0)
        (λ q. dite (ℕ_discrete (held i k l v) 0)
        (λ y. inv.keys.of_ended i k l (let a = within (ended i k l) in omega (arith, a, q, y, z)))
        (λ ne. row_of k (carries i k l) (carries_at i k l) (omega (arith, ne))))
        (λ ne. row_of k (is_owed i k l) (owed_at i k l) (omega (arith, ne)))

    pub once : (i : Job) (k l : ℕ) → owed i k l v + begun i k l v ≤ 1
    once i k l = let a = within (owed i k l) in let b = within (held i k l) in let c = within (ended i k l) in dite (ℕ_discrete l 0)
        (λ z. let d = subst (λ o. s.total (owed i k o) + s.total (held i k o) + s.total (ended i k o) ≡ 0) (sym z) (inv.work.jobs.some_life i k) in omega (arith, a, b, c, d))
        (λ some. dite (ℕ_discrete (owed i k l v + begun i k l v) 0) (λ z. omega (arith, z))
        (λ ne. let row = job_row i k l (omega (arith, ne)) in let d = job_once i row.0 k l row.1 (omega (arith, some)) in omega (arith, a, b, c, d)))

    suspect_lives : (k l : ℕ) → 0 < items (is_suspect k l) v → (0 < l) × (l ≤ greatest_life e k)
    suspect_lives k l z = let row = row_of k (is_suspect k l) (suspect_at k l) z in let life = inv.lives.each row.0 k row.1 in
        let a = life.suspected l (let b = within (items (is_suspect k l)) in omega (arith, b, z)) in (a.0, let b = a.1 in let c = life.at_most in omega (arith, b, c))

    pub sure_of : IsSure e v
    sure_of = record {
      once = once;
      by_its_job = λ n low. let a = within (struck_idly (e.plan.strike n) n) in let b = (inv.strikes.each n low).by_its_job in omega (arith, a, b);
      lives = suspect_lives;
      ports = λ p q z. (inv.keys.of_notify p q (let a = within (items (notifies p q)) in omega (arith, a, z))).0;
      computed = λ k l z. let r = count_some (is_computed k l) v.records z in let a = r.2 (is_of k l) (of_computed k l r.0 r.1) in let b = within (noted (is_of k l)) in inv.records.lives.reached k l (omega (arith, a, b));
    }
