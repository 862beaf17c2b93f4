-- The strike of the plan that a view makes next: the view holds the job of its point, no view has made it, and no word shows an earlier life than it names.
use Rattle.std.proofs.Common.{◌≡◌, ◌⊎◌, ℕ, zero, suc, ◌+◌, ◌<◌, ◌≤◌, Bool, true, false, cond, ◌&&◌, nat_lt, nat_eq, eqb, List, [], ◌∷◌, ⊎_elim, arith, sym, ap, refl, ◌∙◌, subst}
use mathlib.Core.Option.{some, none, some-injective, some-ne-none}
use mathlib.Core.Logic.{dite}
use native.Mathlib.Decide.{ℕ_discrete, dec_lt}
use Rattle.core_state.specs.Graph.{Setting, Graph, Plan}
use Rattle.core_state.specs.Words.{descriptor, notify, recovery, life_of, standing_life, replacing}
use Rattle.core_state.specs.Counts.{hit, bump, count, items, held, ended, begun, struck_by, struck_idly}
use Rattle.core_state.specs.Tests.{two, is_at, is_in, carries, is_close, same_point, job_of}
use Rattle.core_state.specs.Change.{Core, Sums}
use Rattle.core_state.specs.Rows.{HasKey, HasRow}
use Rattle.core_state.specs.Work.{job_count}
use Rattle.core_state.specs.Invariant.{Invariant}
use Rattle.core_state.specs.Guards.{AtWork}
use Rattle.core_state.specs.Views.{has_word, is_left, first_of, next_strike, strike_at, strike_next, strike_of, top_items}
use Rattle.graph_model.specs.declared.plan.Strike.{Strike}
use Rattle.graph_model.specs.declared.plan.Point.{Point}
use Rattle.graph_model.specs.declared.plan.Point.TheVariants as point
use Rattle.core_state.specs.declared.job.Job.{Job}
use Rattle.core_state.specs.declared.job.Job.TheVariants.{Explore, Compute}
use Rattle.core_state.specs.declared.views.Item.{Item}
use Rattle.core_state.specs.declared.views.Item.TheVariants as item
use Rattle.core_state.specs.declared.views.Stack.{Stack}
use Rattle.core_state.specs.declared.views.View.{View}
use Rattle.core_state.proofs.Base.Counting.{two_here, two_tells, both}
use Rattle.core_state.proofs.Row.Made.{carries_at}
use Rattle.core_state.proofs.Replace.Suspects.{descriptor_low, descriptor_high, notify_high}
use Rattle.core_state.proofs.Blocks.AtWork.{at_work}

first_of_is : (p : ℕ → Bool) (i m n : ℕ) → first_of p i m ≡ some n → (p n ≡ true) × (n < i + m)
first_of_is p i zero n z = absurd (some-ne-none n (sym z))
first_of_is p i (suc m) n z = by (first_of_is p (i + 1) m n) (p i) refl z
  where
    by : (first_of p (i + 1) m ≡ some n → (p n ≡ true) × (n < i + 1 + m)) → (b : Bool) → p i ≡ b → cond b (some i) (first_of p (i + 1) m) ≡ some n → (p n ≡ true) × (n < i + suc m)
    by r true q z = let same : i ≡ n = some-injective i n z in (subst (λ x. p x ≡ true) same q, omega (arith, same))
    by r false q z = let o = r z in (o.0, let a = o.1 in omega (arith, a))

same_point_is : (a b : Point) → same_point a b ≡ true → a ≡ b
same_point_is point.Explored point.Explored z = refl
same_point_is point.Ready point.Ready z = refl
same_point_is point.Computed point.Computed z = refl
same_point_is point.Notified point.Notified z = refl
same_point_is a b z = absurd cc

not_in : (n : ℕ) (xs : List ℕ) → cond (is_in n xs) false true ≡ true → count (eqb n) xs ≡ 0
not_in n [] z = refl
not_in n (x ∷ xs) z = by (not_in n xs) (eqb n x) z
  where
    by : (cond (is_in n xs) false true ≡ true → count (eqb n) xs ≡ 0) → (b : Bool) → cond (cond b true (is_in n xs)) false true ≡ true → bump b (count (eqb n) xs) ≡ 0
    by r true z = absurd cc
    by r false z = r z

-- the strike n is the next one of a point
record Left (g : Graph) (p : Plan) (at : Point) (k l : ℕ) (made : List ℕ) (n : ℕ) : Type 0 where
  low : n < p.count
  of_point : at ≡ (p.strike n).point
  of_key : k ≡ (p.strike n).key.0
  of_life : l ≡ (p.strike n).life
  word : has_word g (p.strike n).key.0 (p.strike n).target ≡ true
  fresh : count (eqb n) made ≡ 0

left_is : (g : Graph) (p : Plan) (at : Point) (k l : ℕ) (made : List ℕ) (n : ℕ) → next_strike g p at k l made ≡ some n → Left g p at k l made n
left_is g p at k l made n z = let r = first_of_is (is_left g p at k l made) 0 p.count n z in let x : Strike = p.strike n in
    let a = both (same_point at (p.strike n).point) (two k l (p.strike n).key.0 (p.strike n).life && (has_word g k (p.strike n).target && cond (is_in n made) false true)) r.0 in
    let b = both (two k l (p.strike n).key.0 (p.strike n).life) (has_word g k (p.strike n).target && cond (is_in n made) false true) a.1 in
    let c = both (has_word g k (p.strike n).target) (cond (is_in n made) false true) b.1 in
    let d : (k ≡ (p.strike n).key.0) × (l ≡ (p.strike n).life) = ⊎_elim (λ q. absurd (let f : true ≡ false = sym b.0 ∙ q in cc)) (λ q. (q.1, q.2)) (two_tells k l (p.strike n).key.0 (p.strike n).life) in record {
      low = let f = r.1 in omega (arith, f);
      of_point = same_point_is at (p.strike n).point a.0;
      of_key = d.0;
      of_life = d.1;
      word = subst (λ y. has_word g y (p.strike n).target ≡ true) d.0 c.0;
      fresh = not_in n made c.1;
    }

-- the strike n is the next one of the view: its topmost item carries the job of the strike's point
pub record NextStrike (e : Setting) (v : View) (n : ℕ) : Type 0 where
  pub low : n < e.plan.count
  pub at : Item
  pub work : AtWork v at
  pub carried : carries (job_of (e.plan.strike n).point) (e.plan.strike n).key.0 (e.plan.strike n).life at ≡ true
  pub closing : ((e.plan.strike n).point ≡ point.Computed) ⊎ ((e.plan.strike n).point ≡ point.Notified) → is_close (e.plan.strike n).key.0 (e.plan.strike n).life at ≡ true
  pub word : has_word e.graph (e.plan.strike n).key.0 (e.plan.strike n).target ≡ true
  pub fresh : struck_by n v ≡ 0

module _ (e : Setting) (v : View) (n : ℕ) where
  abbrev x : Strike
  x = e.plan.strike n

  -- of an item of exploring, of one that is ready, or of closing
  of_left : (at : Point) (k l : ℕ) (y : Item) → AtWork v y → carries (job_of at) k l y ≡ true → ((at ≡ point.Computed) ⊎ (at ≡ point.Notified) → is_close k l y ≡ true) → Left e.graph e.plan at k l v.strikes n → NextStrike e v n
  of_left at k l y work carried closing i = record {
    low = i.low;
    at = y;
    work = work;
    carried = subst (λ (o : Point). carries (job_of o) (e.plan.strike n).key.0 (e.plan.strike n).life y ≡ true) i.of_point (subst (λ o. carries (job_of at) o (e.plan.strike n).life y ≡ true) i.of_key (subst (λ o. carries (job_of at) k o y ≡ true) i.of_life carried));
    closing = λ q. subst (λ o. is_close o (e.plan.strike n).life y ≡ true) i.of_key (subst (λ o. is_close k o y ≡ true) i.of_life (closing (subst (λ (o : Point). (o ≡ point.Computed) ⊎ (o ≡ point.Notified)) (sym i.of_point) q)));
    word = i.word;
    fresh = i.fresh;
  }

  of_item : (y : Item) (ys : List Item) → AtWork v y → strike_of e.graph e.plan v.strikes (y ∷ ys) ≡ some n → NextStrike e v n
  of_item (item.Explore k l j) ys work z = by (nat_lt j (e.graph.places k)) z
    where
      by : (b : Bool) → strike_at e.graph e.plan v.strikes (cond b none (some (record { at = point.Explored; key = k; life = l }))) ≡ some n → NextStrike e v n
      by true z = absurd (some-ne-none n (sym z))
      by false z = of_left point.Explored k l (item.Explore k l j) work (two_here k l) (λ q. ⊎_elim (λ f. absurd cc) (λ f. absurd cc) q) (left_is e.graph e.plan point.Explored k l v.strikes n z)
  of_item (item.Compute k l loaded read made) ys work z = by loaded z
    where
      by : (b : Bool) → strike_at e.graph e.plan v.strikes (cond b none (some (record { at = point.Ready; key = k; life = l }))) ≡ some n → NextStrike e v n
      by true z = absurd (some-ne-none n (sym z))
      by false z = of_left point.Ready k l (item.Compute k l loaded read made) work (two_here k l) (λ q. ⊎_elim (λ f. absurd cc) (λ f. absurd cc) q) (left_is e.graph e.plan point.Ready k l v.strikes n z)
  of_item (item.Close k l w) ys work z = by (nat_eq w 0) (nat_lt w (e.graph.notify_words k)) z
    where
      by : (b d : Bool) → strike_at e.graph e.plan v.strikes (cond b (some (record { at = point.Computed; key = k; life = l })) (cond d none (some (record { at = point.Notified; key = k; life = l })))) ≡ some n → NextStrike e v n
      by true d z = of_left point.Computed k l (item.Close k l w) work (two_here k l) (λ q. two_here k l) (left_is e.graph e.plan point.Computed k l v.strikes n z)
      by false true z = absurd (some-ne-none n (sym z))
      by false false z = of_left point.Notified k l (item.Close k l w) work (two_here k l) (λ q. two_here k l) (left_is e.graph e.plan point.Notified k l v.strikes n z)
  of_item y ys work z = absurd (some-ne-none n (sym z))

  pub next_strike_is : strike_next e.graph e.plan v ≡ some n → NextStrike e v n
  next_strike_is = of v.stacks refl
    where
      items_of : (u : Stack) (rest : List Stack) → v.stacks ≡ u ∷ rest → (ys : List Item) → u.items ≡ ys → strike_of e.graph e.plan v.strikes ys ≡ some n → NextStrike e v n
      items_of u rest is [] has z = absurd (some-ne-none n (sym z))
      items_of u rest is (y ∷ ys) has z = of_item y ys record { stack = u; others = rest; below = ys; stacks_are = is; items_are = has } z

      of : (ss : List Stack) → v.stacks ≡ ss → strike_of e.graph e.plan v.strikes (top_items ss) ≡ some n → NextStrike e v n
      of [] is z = absurd (some-ne-none n (sym z))
      of (u ∷ rest) is z = items_of u rest is u.items refl z

module _ (e : Setting) (s : Core) (sums : Sums s) (v : View) (n : ℕ) (within : (f : View → ℕ) → f v ≤ s.total f) (inv : Invariant e s) (next : NextStrike e v n) where
  abbrev job : Job
  job = job_of (e.plan.strike n).point

  abbrev at_key : ℕ
  at_key = (e.plan.strike n).key.0

  abbrev at_life : ℕ
  at_life = (e.plan.strike n).life

  pub strike_row : HasRow e s at_key
  strike_row = inv.keys.of_item at_key (let a = at_work (is_at at_key) v next.at next.work in let b = ap hit (carries_at job at_key at_life next.at next.carried) in let d = within (items (is_at at_key)) in omega (arith, a, b, d))

  pub holds_job : 0 < begun job at_key at_life v
  holds_job = let a = at_work (carries job at_key at_life) v next.at next.work in let b = ap hit next.carried in omega (arith, a, b)

  held_some : 0 < s.total (held job at_key at_life)
  held_some = let a = at_work (carries job at_key at_life) v next.at next.work in let b = ap hit next.carried in let d = within (held job at_key at_life) in omega (arith, a, b, d)

  pub strike_life : 0 < at_life
  strike_life = dite (ℕ_discrete at_life 0) (λ z. absurd (let a = inv.work.jobs.some_life job at_key in let b = held_some in let d = ap (λ y. s.total (held job at_key y)) z in omega (arith, a, b, d))) (λ ne. omega (arith, ne))

  job_once : (i : Job) (r k l : ℕ) → HasKey e s r k → 0 < l → job_count e s i r k l ≤ 1
  job_once Explore r k l has life = dite (dec_lt (standing_life (s.word (recovery r))) l) (λ later. let a = inv.work.jobs.not_explored r k l has later in omega (arith, a)) (λ low. let a = inv.work.jobs.explored r k l has life (omega (arith, low)) in omega (arith, a))
  job_once Compute r k l has life = inv.work.jobs.computed r k l has life

  begun_once : s.total (begun job at_key at_life) ≤ 1
  begun_once = let a = job_once job strike_row.0 at_key at_life strike_row.1 strike_life in let b = sums.add (held job at_key at_life) (ended job at_key at_life) in omega (arith, a, b)

  -- no view has made it: who makes a strike holds or has ended the job of its point, and this view alone does
  pub not_made : ((f g : View → ℕ) → ((u : View) → g u ≡ 0 → f u ≡ 0) → s.total g ≤ g v → s.total f ≡ f v) → s.total (struck_by n) ≡ 0
  not_made alone = let busy = alone (λ u. cond (eqb (begun job at_key at_life u) 0) 0 (struck_by n u)) (begun job at_key at_life) (λ u z. ap (λ o. cond (eqb o 0) 0 (struck_by n u)) z) (let a = begun_once in let b = holds_job in omega (arith, a, b)) in
      let below = sums.below (struck_by n) (λ u. cond (eqb (begun job at_key at_life u) 0) 0 (struck_by n u) + struck_idly (e.plan.strike n) n u) (λ u. parts (eqb (begun job at_key at_life u) 0) (struck_by n u)) in
      let add = sums.add (λ u. cond (eqb (begun job at_key at_life u) 0) 0 (struck_by n u)) (struck_idly (e.plan.strike n) n) in let idly = (inv.strikes.each n next.low).by_its_job in
      let mine = most (eqb (begun job at_key at_life v) 0) (struck_by n v) in let fresh = next.fresh in omega (arith, busy, below, add, idly, mine, fresh)
    where
      parts : (b : Bool) (m : ℕ) → m ≤ cond b 0 m + cond b m 0
      parts true m = omega arith
      parts false m = omega arith

      most : (b : Bool) (m : ℕ) → cond b 0 m ≤ m
      most true m = omega arith
      most false m = omega arith

  life_low : (i : Job) (r : ℕ) → HasKey e s r at_key → 0 < s.total (held i at_key at_life) → at_life ≤ life_of (s.word (descriptor r))
  life_low Explore r has there = let a = descriptor_high e s r at_key (s.word (recovery r)) (inv.lives.each r at_key has) in dite (dec_lt (standing_life (s.word (recovery r))) at_life) (λ less. absurd (let b = inv.work.jobs.not_explored r at_key at_life has less in omega (arith, b, there))) (λ high. omega (arith, a, high))
  life_low Compute r has there = dite (dec_lt (life_of (s.word (descriptor r))) at_life) (λ less. absurd (let b = inv.work.jobs.not_computed r at_key at_life has less in omega (arith, b, there))) (λ high. omega (arith, high))

  -- no word shows an earlier life than the strike names
  pub strike_low : (r : ℕ) → HasKey e s r (e.plan.strike n).key.0 → (e.plan.strike n).life ≤ life_of (s.word (descriptor r))
  strike_low r has = life_low job r has held_some

  pub strike_low_at : (r w : ℕ) → HasKey e s r (e.plan.strike n).key.0 → w < e.graph.notify_words (e.plan.strike n).key.0 → (e.plan.strike n).life ≤ life_of (s.word (notify r w))
  strike_low_at r w has inside = let a = strike_low r has in let b = notify_high e s r at_key (s.word (recovery r)) (inv.lives.each r at_key has) w inside in omega (arith, a, b)

  pub strike_top : (r : ℕ) → HasKey e s r (e.plan.strike n).key.0 → (e.plan.strike n).life ≤ standing_life (s.word (recovery r)) + replacing (s.word (recovery r))
  strike_top r has = let a = strike_low r has in let b = descriptor_low e s r at_key (s.word (recovery r)) (inv.lives.each r at_key has) in omega (arith, a, b)
