-- Pending stays far below what its word can hold: each stack and each spare credit stands for a job of one life of one row.
use Rattle.std.proofs.Common.{◌≡◌, ℕ, zero, suc, ◌+◌, ◌-◌, ◌*◌, ◌^◌, ◌<◌, ◌≤◌, Bool, true, false, cond, ◌&&◌, eqb, List, [], ◌∷◌, length, arith, sym, ap, refl, ◌∙◌, subst}
use mathlib.Core.Logic.{dite}
use native.Mathlib.Decide.{ℕ_discrete, dec_lt}
use Rattle.core_state.specs.Graph.{Setting, Sound, greatest_life}
use Rattle.core_state.specs.Words.{Spot, pending, key, descriptor, recovery, posted, life_of, standing_life, replacing}
use Rattle.core_state.specs.Counts.{hit, bump, count, items, in_stacks, owed, held, ended, begun, came, stack_count, spare, too_many}
use Rattle.core_state.specs.Tests.{two, same_job, is_at, is_owe, is_owed, carries, came_with}
use Rattle.core_state.specs.Change.{Core, Sums}
use Rattle.core_state.specs.Rows.{HasKey, HasRow}
use Rattle.core_state.specs.Work.{job_count, posted_count}
use Rattle.core_state.specs.Invariant.{Invariant}
use Rattle.core_state.specs.declared.job.Job.{Job}
use Rattle.core_state.specs.declared.job.Job.TheVariants.{Explore, Compute}
use Rattle.core_state.specs.declared.views.Item.{Item}
use Rattle.core_state.specs.declared.views.Item.TheVariants as item
use Rattle.core_state.specs.declared.views.Stack.{Stack}
use Rattle.core_state.specs.declared.views.View.{View}
use Rattle.core_state.proofs.Base.Counting.{bump_is, eqb_here, two_here}
use Rattle.core_state.proofs.Row.View.{fewer_items}
use Rattle.core_state.proofs.Row.Made.{carries_at, owed_at}
use Rattle.core_steps.proofs.Changing.{all_count}

sum_upto : ℕ → (ℕ → ℕ) → ℕ
sum_upto zero f = 0
sum_upto (suc n) f = sum_upto n f + f n

sum_more : (n : ℕ) (f g h : ℕ → ℕ) → ((c : ℕ) → f c + g c ≤ h c) → sum_upto n f + sum_upto n g ≤ sum_upto n h
unfolding sum_upto
sum_more zero f g h m = omega arith
sum_more (suc n) f g h m = let a = sum_more n f g h m in let b = m n in omega (arith, a, b)

sum_at : (n x : ℕ) (f : ℕ → ℕ) → x < n → f x ≤ sum_upto n f
unfolding sum_upto
sum_at zero x f l = absurd (omega (arith, l))
sum_at (suc n) x f l = dite (ℕ_discrete x n) (λ e. subst (λ y. f y ≤ sum_upto n f + f n) (sym e) (omega arith)) (λ ne. let a = sum_at n x f (omega (arith, l, ne)) in omega (arith, a))

sum_most : (n m : ℕ) (f : ℕ → ℕ) → ((c : ℕ) → c < n → f c ≤ m) → sum_upto n f ≤ n * m
unfolding sum_upto
sum_most zero m f h = omega arith
sum_most (suc n) m f h = let a = sum_most n m f (λ c l. h c (omega (arith, l))) in let b = h n (omega arith) in omega (arith, a, b)

-- a sum of sums over views
sum_total : (s : Core) → Sums s → (n : ℕ) (f : ℕ → View → ℕ) → s.total (λ v. sum_upto n (λ c. f c v)) ≡ sum_upto n (λ c. s.total (f c))
unfolding sum_upto
sum_total s sums zero f = dite (ℕ_discrete (s.total (λ v. 0)) 0) (λ z. z) (λ ne. absurd (let a = (sums.some (λ v. 0) (omega (arith, ne))).1 in omega (arith, a)))
sum_total s sums (suc n) f = sums.add (λ v. sum_upto n (λ c. f c v)) (f n) ∙ ap (λ m. m + s.total (f n)) (sum_total s sums n f)

module _ (rows lives : ℕ) where
  grid : (ℕ → ℕ → ℕ) → ℕ
  grid f = sum_upto rows (λ r. sum_upto lives (f r))

  grid_more : (f g h : ℕ → ℕ → ℕ) → ((r l : ℕ) → f r l + g r l ≤ h r l) → grid f + grid g ≤ grid h
  unfolding grid
  grid_more f g h m = sum_more rows (λ r. sum_upto lives (f r)) (λ r. sum_upto lives (g r)) (λ r. sum_upto lives (h r)) (λ r. sum_more lives (f r) (g r) (h r) (m r))

  grid_at : (f : ℕ → ℕ → ℕ) (r l : ℕ) → r < rows → l < lives → f r l ≤ grid f
  unfolding grid
  grid_at f r l a b = let x = sum_at lives l (f r) b in let y = sum_at rows r (λ c. sum_upto lives (f c)) a in omega (arith, x, y)

  grid_most : (f : ℕ → ℕ → ℕ) (m : ℕ) → ((r l : ℕ) → f r l ≤ m) → grid f ≤ rows * (lives * m)
  unfolding grid
  grid_most f m h = sum_most rows (lives * m) (λ r. sum_upto lives (f r)) (λ r low. sum_most lives m (f r) (λ l low. h r l))

  grid_total : (s : Core) → Sums s → (f : ℕ → ℕ → View → ℕ) → s.total (λ v. grid (λ r l. f r l v)) ≡ grid (λ r l. s.total (f r l))
  unfolding grid
  grid_total s sums f = sum_total s sums rows (λ r v. sum_upto lives (λ l. f r l v)) ∙ (λ j. sum_upto rows (λ r. sum_total s sums lives (f r) j))

  module _ (key_in : ℕ → ℕ) where
    -- the key has a row, and the life is one of a row
    abbrev Good : ℕ → ℕ → Type 0
    Good k l = (r : ℕ) × (r < rows) × (key_in r ≡ k) × (l < lives)

    one_good : (f : Job → ℕ → ℕ → ℕ) (j : Job) (k l : ℕ) → f j k l ≡ 1 → Good k l → 1 ≤ grid (λ r m. f Explore (key_in r) m + f Compute (key_in r) m)
    one_good f Explore k l one good = let a = grid_at (λ r m. f Explore (key_in r) m + f Compute (key_in r) m) good.0 l good.1 good.3 in let b : f Explore (key_in good.0) l ≡ 1 = ap (λ x. f Explore x l) good.2 ∙ one in omega (arith, a, b)
    one_good f Compute k l one good = let a = grid_at (λ r m. f Explore (key_in r) m + f Compute (key_in r) m) good.0 l good.1 good.3 in let b : f Compute (key_in good.0) l ≡ 1 = ap (λ x. f Compute x l) good.2 ∙ one in omega (arith, a, b)

    -- the things of one list
    listed : {A : Type 0} (is : A → Bool) (test : Job → ℕ → ℕ → A → Bool) → ((x : A) → is x ≡ true → (j : Job) × ((k : ℕ) × ((l : ℕ) × (test j k l x ≡ true)))) → (xs : List A) → ((j : Job) (k l : ℕ) → 0 < count (test j k l) xs → Good k l)
        → count is xs ≤ grid (λ r l. count (test Explore (key_in r) l) xs + count (test Compute (key_in r) l) xs)
    listed is test names [] good = omega arith
    listed {A} is test names (x ∷ xs) good = by (listed is test names xs (λ j k l z. good j k l (let a = bump_is (test j k l x) (count (test j k l) xs) in omega (arith, a, z)))) (is x) refl
      where
        more : grid (λ r l. hit (test Explore (key_in r) l x) + hit (test Compute (key_in r) l x)) + grid (λ r l. count (test Explore (key_in r) l) xs + count (test Compute (key_in r) l) xs) ≤ grid (λ r l. count (test Explore (key_in r) l) (x ∷ xs) + count (test Compute (key_in r) l) (x ∷ xs))
        more = grid_more (λ r l. hit (test Explore (key_in r) l x) + hit (test Compute (key_in r) l x)) (λ r l. count (test Explore (key_in r) l) xs + count (test Compute (key_in r) l) xs) (λ r l. count (test Explore (key_in r) l) (x ∷ xs) + count (test Compute (key_in r) l) (x ∷ xs))
            (λ r l. let a = bump_is (test Explore (key_in r) l x) (count (test Explore (key_in r) l) xs) in let b = bump_is (test Compute (key_in r) l x) (count (test Compute (key_in r) l) xs) in omega (arith, a, b))

        by : count is xs ≤ grid (λ r l. count (test Explore (key_in r) l) xs + count (test Compute (key_in r) l) xs) → (b : Bool) → is x ≡ b → bump b (count is xs) ≤ grid (λ r l. count (test Explore (key_in r) l) (x ∷ xs) + count (test Compute (key_in r) l) (x ∷ xs))
        by ih true e = let n = names x e in let one = one_good (λ j k l. hit (test j k l x)) n.0 n.1.0 n.1.1.0 (ap hit n.1.1.1) (good n.0 n.1.0 n.1.1.0 (let a = bump_is (test n.0 n.1.0 n.1.1.0 x) (count (test n.0 n.1.0 n.1.1.0) xs) in let b = ap hit n.1.1.1 in omega (arith, a, b))) in
            let b = more in omega (arith, ih, b, one)
        by ih false e = let b = more in omega (arith, ih, b)

    owed_in : (ss : List Stack) → ((j : Job) (k l : ℕ) → 0 < in_stacks (is_owed j k l) ss → Good k l) → in_stacks is_owe ss ≤ grid (λ r l. in_stacks (is_owed Explore (key_in r) l) ss + in_stacks (is_owed Compute (key_in r) l) ss)
    owed_in [] good = omega arith
    owed_in (s ∷ ss) good = let a = listed is_owe is_owed names_owed s.items (λ j k l z. good j k l (omega (arith, z))) in let b = owed_in ss (λ j k l z. good j k l (omega (arith, z))) in
        let c = grid_more (λ r l. count (is_owed Explore (key_in r) l) s.items + count (is_owed Compute (key_in r) l) s.items) (λ r l. in_stacks (is_owed Explore (key_in r) l) ss + in_stacks (is_owed Compute (key_in r) l) ss) (λ r l. in_stacks (is_owed Explore (key_in r) l) (s ∷ ss) + in_stacks (is_owed Compute (key_in r) l) (s ∷ ss)) (λ r l. omega arith) in omega (arith, a, b, c)
      where
        names_owed : (x : Item) → is_owe x ≡ true → (j : Job) × ((k : ℕ) × ((l : ℕ) × (is_owed j k l x ≡ true)))
        names_owed (item.Owe k Explore l) e = (Explore, (k, (l, two_here k l)))
        names_owed (item.Owe k Compute l) e = (Compute, (k, (l, two_here k l)))
        names_owed x e = absurd cc

    stacks_in : (ss : List Stack) → ((j : Job) (k l : ℕ) → 0 < count (came_with j k l) ss → Good k l) → length ss ≤ grid (λ r l. count (came_with Explore (key_in r) l) ss + count (came_with Compute (key_in r) l) ss)
    stacks_in ss good = let a = listed (λ _. true) came_with (λ s e. (s.job, (s.key, (s.life, itself s.job s.key s.life)))) ss good in let b = all_count ss in omega (arith, a, b)
      where
        itself : (j : Job) (k l : ℕ) → (same_job j j && two k l k l) ≡ true
        itself Explore k l = two_here k l
        itself Compute k l = two_here k l

    module _ (s : Core) (sums : Sums s) where
      -- the same over all views
      over : (f : View → ℕ) (n : Job → ℕ → ℕ → View → ℕ) → ((v : View) → ((j : Job) (k l : ℕ) → 0 < n j k l v → Good k l) → f v ≤ grid (λ r l. n Explore (key_in r) l v + n Compute (key_in r) l v))
          → ((j : Job) (k l : ℕ) → 0 < s.total (n j k l) → Good k l) → s.total f ≤ grid (λ r l. s.total (n Explore (key_in r) l) + s.total (n Compute (key_in r) l))
      over f n each good = let g : View → ℕ = λ v. grid (λ r l. n Explore (key_in r) l v + n Compute (key_in r) l v) in let more : View → ℕ = λ v. f v - g v in
          let a = sums.below f (λ v. g v + more v) (λ v. omega arith) in let b = sums.add g more in
          let none : s.total more ≡ 0 = dite (ℕ_discrete (s.total more) 0) (λ z. z) (λ ne. absurd (let w = sums.some more (omega (arith, ne)) in let y = w.1 in let d = each w.0 (λ j k l z. good j k l (let u = w.2 (n j k l) in omega (arith, u, z))) in omega (arith, y, d))) in
          let c : s.total g ≡ grid (λ r l. s.total (n Explore (key_in r) l) + s.total (n Compute (key_in r) l)) = grid_total s sums (λ r l v. n Explore (key_in r) l v + n Compute (key_in r) l v) ∙ (λ j. grid (λ r l. sums.add (n Explore (key_in r) l) (n Compute (key_in r) l) j)) in
          omega (arith, a, b, c, none)

      few_owed : ((j : Job) (k l : ℕ) → 0 < s.total (owed j k l) → Good k l) → ((j : Job) (k l : ℕ) → s.total (owed j k l) ≤ 1) → s.total (items is_owe) ≤ rows * (lives * 2)
      few_owed good once = let a = over (items is_owe) owed (λ v g. owed_in v.stacks g) good in let b = grid_most (λ r l. s.total (owed Explore (key_in r) l) + s.total (owed Compute (key_in r) l)) 2 (λ r l. let x = once Explore (key_in r) l in let y = once Compute (key_in r) l in omega (arith, x, y)) in omega (arith, a, b)

      few_stacks : ((j : Job) (k l : ℕ) → 0 < s.total (came j k l) → Good k l) → ((j : Job) (k l : ℕ) → s.total (came j k l) ≤ 1) → s.total stack_count ≤ rows * (lives * 2)
      few_stacks good once = let a = over stack_count came (λ v g. stacks_in v.stacks g) good in let b = grid_most (λ r l. s.total (came Explore (key_in r) l) + s.total (came Compute (key_in r) l)) 2 (λ r l. let x = once Explore (key_in r) l in let y = once Compute (key_in r) l in omega (arith, x, y)) in omega (arith, a, b)

few_posted : (w : Spot → ℕ) (n : ℕ) → posted_count w n ≤ 2 * n
few_posted w zero = omega arith
few_posted w (suc n) = let a = few_posted w n in omega (arith, a)

module _ (e : Setting) (fit : Sound e) (s : Core) (sums : Sums s) (i : Invariant e s) where
  row_of : (k : ℕ) (p : Item → Bool) → ((x : Item) → p x ≡ true → is_at k x ≡ true) → 0 < s.total (items p) → HasRow e s k
  row_of k p h z = dite (ℕ_discrete (s.total (items (is_at k))) 0)
      (λ none. absurd (let a = sums.none (items (is_at k)) (items p) (λ u y. fewer_items (is_at k) p h u.stacks y) none in omega (arith, a, z)))
      (λ some. i.keys.of_item k (omega (arith, some)))

  begun_is : (j : Job) (k l : ℕ) → s.total (begun j k l) ≡ s.total (held j k l) + s.total (ended j k l)
  begun_is j k l = sums.add (held j k l) (ended j k l)

  begun_row : (j : Job) (k l : ℕ) → 0 < s.total (begun j k l) → HasRow e s k
  begun_row j k l z = dite (ℕ_discrete (s.total (held j k l)) 0)
      (λ none. i.keys.of_ended j k l (let a = begun_is j k l in omega (arith, a, z, none)))
      (λ some. row_of k (carries j k l) (carries_at j k l) (omega (arith, some)))

  pub greatest : (k : ℕ) → greatest_life e k ≤ 65535
  greatest k = by (eqb k e.graph.root)
    where
      by : (b : Bool) → cond b 65535 e.lives ≤ 65535
      by true = omega arith
      by false = fit.some_life.1

  module _ (r k l : ℕ) (has : HasKey e s r k) where
    shown_most : life_of (s.word (descriptor r)) ≤ 65535
    shown_most = let n : ℕ = s.word (recovery r) in let life = i.lives.each r k has in let a = life.at_most in let b = greatest k in dite (ℕ_discrete (replacing n) 0)
        (λ z. let c = (life.standing z).descriptor_life in omega (arith, a, b, c))
        (λ ne. let one : replacing n ≡ 1 = omega (arith, ne) in let f = life.being_replaced one in let g = f.at_most in dite (ℕ_discrete f.done (e.graph.notify_words k + 1))
        (λ q. let c = f.descriptor_after q in omega (arith, a, b, c, one))
        (λ q. let c = f.descriptor_before (omega (arith, q, g)) in omega (arith, a, b, c)))

    job_life : (j : Job) → 0 < job_count e s j r k l → l ≤ 65535
    job_life Explore z = dite (dec_lt (standing_life (s.word (recovery r))) l)
        (λ above. absurd (let a = i.work.jobs.not_explored r k l has above in omega (arith, a, z)))
        (λ low. let a = (i.lives.each r k has).at_most in let b = greatest k in omega (arith, a, b, low))
    job_life Compute z = dite (dec_lt (life_of (s.word (descriptor r))) l)
        (λ above. absurd (let a = i.work.jobs.not_computed r k l has above in omega (arith, a, z)))
        (λ low. let a = shown_most in omega (arith, a, low))

    job_once : (j : Job) → 0 < l → job_count e s j r k l ≤ 1
    job_once Explore some = dite (dec_lt (standing_life (s.word (recovery r))) l)
        (λ above. let a = i.work.jobs.not_explored r k l has above in omega (arith, a))
        (λ low. let a = i.work.jobs.explored r k l has some (omega (arith, low)) in omega (arith, a))
    job_once Compute some = i.work.jobs.computed r k l has some

  -- a job in a job word is of a life that its row has
  pub posted_low : (r k : ℕ) (j : Job) → HasKey e s r k → s.word (posted j r) ≤ 65535
  posted_low r k j has = dite (ℕ_discrete (s.word (posted j r)) 0) (λ z. omega (arith, z))
      (λ some. job_life r k (s.word (posted j r)) has j (let a = ap hit (eqb_here (s.word (posted j r))) in omega (arith, a)))

  no_life : (j : Job) (k l : ℕ) → l ≡ 0 → (s.total (owed j k l) ≡ 0) × (s.total (begun j k l) ≡ 0)
  no_life j k l z = subst (λ x. (s.total (owed j k x) ≡ 0) × (s.total (begun j k x) ≡ 0)) (sym z) (let a = i.work.jobs.some_life j k in let b = begun_is j k 0 in (omega (arith, a), omega (arith, a, b)))

  once : (j : Job) (k l : ℕ) → s.total (owed j k l) + s.total (begun j k l) ≤ 1
  once j k l = dite (ℕ_discrete l 0) (λ z. let a = no_life j k l z in let x = a.0 in let y = a.1 in omega (arith, x, y))
      (λ some. dite (ℕ_discrete (s.total (owed j k l)) 0)
      (λ no. dite (ℕ_discrete (s.total (begun j k l)) 0) (λ none. omega (arith, no, none))
      (λ has. let row = begun_row j k l (omega (arith, has)) in let a = job_once row.0 k l row.1 j (omega (arith, some)) in let b = begun_is j k l in omega (arith, a, b, no)))
      (λ has. let row = row_of k (Rattle.core_state.specs.Tests.is_owed j k l) (owed_at j k l) (omega (arith, has)) in let a = job_once row.0 k l row.1 j (omega (arith, some)) in let b = begun_is j k l in omega (arith, a, b)))

  abbrev GoodKey : ℕ → ℕ → Type 0
  GoodKey k l = (r : ℕ) × (r < e.shape.rows) × (s.word (key r) - 1 ≡ k) × (l < 65536)

  good_row : (k l : ℕ) (row : HasRow e s k) → l ≤ 65535 → GoodKey k l
  good_row k l row low = let a = row.1.1 in (row.0, row.1.0, omega (arith, a), omega (arith, low))

  good_owed : (j : Job) (k l : ℕ) → 0 < s.total (owed j k l) → GoodKey k l
  good_owed j k l z = let row = row_of k (Rattle.core_state.specs.Tests.is_owed j k l) (owed_at j k l) z in good_row k l row (job_life row.0 k l row.1 j (omega (arith, z)))

  good_came : (j : Job) (k l : ℕ) → 0 < s.total (came j k l) → GoodKey k l
  good_came j k l z = let a = i.work.jobs.came j k l in let some : 0 < s.total (begun j k l) = omega (arith, a, z) in let row = begun_row j k l some in good_row k l row (job_life row.0 k l row.1 j (let b = begun_is j k l in omega (arith, some, b)))

  -- a computing that a view holds is of a life that its row has
  pub held_life : (r k l : ℕ) → HasKey e s r k → 0 < s.total (held Compute k l) → (0 < l) × (l ≤ 65535)
  held_life r k l has z = (dite (ℕ_discrete l 0) (λ q. absurd (let a = (no_life Compute k l q).1 in let b = begun_is Compute k l in omega (arith, a, b, z))) (λ ne. omega (arith, ne)), job_life r k l has Compute (omega (arith, z)))

  once_owed : (j : Job) (k l : ℕ) → s.total (owed j k l) ≤ 1
  once_owed j k l = let a = once j k l in omega (arith, a)

  once_came : (j : Job) (k l : ℕ) → s.total (came j k l) ≤ 1
  once_came j k l = let a = once j k l in let b = i.work.jobs.came j k l in omega (arith, a, b)

  pub pending_few : s.word pending < 2 ^ 63
  pending_few = let a = few_stacks e.shape.rows 65536 (λ r. s.word (key r) - 1) s sums good_came once_came in let b = few_owed e.shape.rows 65536 (λ r. s.word (key r) - 1) s sums good_owed once_owed in
      let c = i.work.credits.sum in let d = i.work.credits.few_spare in
      let f = sums.below spare (λ v. too_many v + items is_owe v) (λ v. omega arith) in let g = sums.add too_many (items is_owe) in
      let h = few_posted s.word e.shape.rows in let r = fit.small.0 in omega (arith, a, b, c, d, f, g, h, r)
