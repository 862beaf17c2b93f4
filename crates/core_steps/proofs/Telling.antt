-- What claims and looks tell a caller of the key words, and what they keep.
use Rattle.std.proofs.Common.{◌≡◌, ◌≢◌, ℕ, zero, suc, ◌+◌, ◌-◌, ◌%◌, ◌*◌, ◌/◌, ◌<◌, Bool, true, false, cond, ◌&&◌, eqb, ne_eqb, eq-eqb, lt-ltb, le-ltb, List, [], ◌∷◌, arith, sym, ap, refl, ◌∙◌, subst, Option, Some, None}
use mathlib.Core.Logic.{dite}
use native.Mathlib.Decide.{ℕ_discrete, dec_lt}
use native.Mathlib.Nat.{div-add-mod', add-mul}
use Rattle.std.proofs.lemmas.Nat.{mod_below, mod-mul-add}
use Rattle.core_state.specs.Graph.{Setting}
use Rattle.core_state.specs.Words.{key}
use Rattle.core_state.specs.Change.{Core}
use Rattle.core_state.specs.Counts.{count, items, knows_row, word_in}
use Rattle.core_state.specs.Tests.{is_exploring, notifies, suspects_block, is_row}
use Rattle.core_state.specs.Rows.{HasKey, HasRow}
use Rattle.core_state.specs.Events.{after, at}
use Rattle.core_state.specs.Guards.{CanClaim}
use Rattle.core_state.specs.Effects.{claim_of, claim_left, after_claim, after_look, skipped_items, is_other, others_before, distance}
use Rattle.core_state.specs.Views.{settle, change_top, key_of}
use Rattle.core_state.specs.declared.answers.Claim.TheVariants as claim
use Rattle.core_state.specs.declared.job.Job.{Job}
use Rattle.core_state.specs.declared.job.Job.TheVariants.{Explore}
use Rattle.core_state.specs.declared.views.Item.{Item}
use Rattle.core_state.specs.declared.views.Item.TheVariants as item
use Rattle.core_state.specs.declared.views.Known.TheVariants as known
use Rattle.core_state.specs.declared.views.View.{View}
use Rattle.core_state.proofs.Base.Counting.{eqb_here}
use Rattle.core_state.proofs.Row.View.{word_known}
use Rattle.core_state.proofs.Credit.JobView.{and_false}
use Rattle.core_state.proofs.Base.Tops.{push_none}
use Rattle.core_state.proofs.Base.Paths.{reaches, distance_below, at_distance}
use Rattle.core_state.proofs.Settle.Keeps.{fails}
use Rattle.core_state.proofs.Settle.View.{settled_same}
use Rattle.core_state.proofs.Row.Look.{tops_same}
use Rattle.key_table.specs.Path.{path_row, HasPassed, IsNext}
use Rattle.key_table.specs.Rules.{HasRules, ClaimTells, SeenTells, claimed_key, Learns}
use Rattle.key_table.specs.declared.words.Claim.{Claim}
use Rattle.key_table.specs.declared.words.Claim.TheVariants.{Made, Found, Other}
use Rattle.key_table.specs.declared.words.Seen.{Seen}
use Rattle.key_table.specs.declared.words.Seen.TheVariants.{Empty, Holds}
use Rattle.core_steps.specs.Seat.{Explores, Awaits, known_of, key_in, key_event}
use Rattle.core_steps.specs.Seat.Awaits.{by_port, by_block}
use Rattle.core_steps.proofs.AnyCore.{IsViewOf, explored_reached}

-- a row of a key's path, as the core counts it
path_is : (k rows i : ℕ) → i < rows → path_row k rows i ≡ (k + i) % rows
path_is k n i l =
    let a : ℕ = k % n in let q : ℕ = k / n in let whole : q * n + a ≡ k = div-add-mod' k n in let small : a < n = mod_below k n (omega (arith, l)) in
    dite (dec_lt (a + i) n)
    (λ m. let x : q * n + (a + i) ≡ k + i = omega (arith, whole) in ap (λ (b : Bool). cond b (a + i) (a + i - n)) (lt-ltb (a + i) n m) ∙ sym (ap (λ (u : ℕ). u % n) (sym x) ∙ mod-mul-add q n (a + i) m))
    (λ m. let c : ℕ = a + i - n in let y : (q + 1) * n ≡ q * n + 1 * n = add-mul q 1 n in let x : (q + 1) * n + c ≡ k + i = omega (arith, y, whole, m) in
    ap (λ (b : Bool). cond b (a + i) (a + i - n)) (le-ltb (a + i) n (omega (arith, m))) ∙ sym (ap (λ (u : ℕ). u % n) (sym x) ∙ mod-mul-add (q + 1) n c (omega (arith, small, l, m))))

holds_in : Option ℕ → ℕ → Type 0
holds_in None k = ⊥
holds_in (Some a) k = a ≡ k

pub number_of : (n k : ℕ) → key_in n ≡ Some k → n ≡ k + 1
unfolding holds_in
number_of zero k e = absurd (subst (λ o. holds_in o k) (sym e) refl)
number_of (suc n) k e = let same : n ≡ k = subst (λ o. holds_in o k) (sym e) refl in omega (arith, same)

pub key_in-suc : (n k : ℕ) → n ≡ k + 1 → key_in n ≡ Some k
key_in-suc n k e = let same : n ≡ suc k = omega (arith, e) in ap key_in same

other_word : (n k : ℕ) → 0 < n → n ≢ k + 1 → is_other k n ≡ true
other_word n k full ne = ap (λ (b : Bool). cond b false (cond (eqb n (k + 1)) false true)) (ne_eqb n 0 (λ z. omega (arith, z, full))) ∙ ap (λ (b : Bool). cond b false true) (ne_eqb n (k + 1) ne)

-- the rows before the one that is next are known to hold other keys
pub passed_before : (v : View) (rows k d : ℕ) → d < rows → HasPassed (known_of v) k rows d → others_before rows k v.known d ≡ true
passed_before v rows k zero l passed = refl
passed_before v rows k (suc d) l passed = let o = passed.others d (omega arith) in let at = path_is k rows d (omega (arith, l)) in let n : ℕ = word_in ((k + d) % rows) v.known in
    let one : n ≡ o.other + 1 = number_of n o.other (subst (λ y. known_of v y ≡ Some o.other) at o.is) in
    ap (λ (b : Bool). b && is_other k n) (passed_before v rows k d (omega (arith, l)) (record { others = λ step m. passed.others step (omega (arith, m)) })) ∙ other_word n k (omega (arith, one)) (λ q. o.differs (omega (arith, one, q)))

-- those before a row that lies on the path behind them too
pub passed_upto : (v : View) (rows k d r : ℕ) → d < rows → r < rows → r ≡ path_row k rows d → HasPassed (known_of v) k rows d → others_before rows k v.known (distance rows k r) ≡ true
passed_upto v rows k d r l low here passed = subst (λ x. others_before rows k v.known x ≡ true) (at_distance rows k r d low l (here ∙ path_is k rows d l)) (passed_before v rows k d l passed)

module _ {e : Setting} {s : Core} {v : View} (x : IsViewOf e s v) where
  key_known : (r k : ℕ) → known_of v r ≡ Some k → HasKey e s r k
  key_known r k is = let n : ℕ = word_in r v.known in let one : n ≡ k + 1 = number_of n k is in
      let a = x.within (knows_row r (n - 1)) in let b : 0 < count (is_row r (n - 1)) v.known = word_known r v.known (omega (arith, one)) in
      let has = x.holds.keys.known r (n - 1) (omega (arith, a, b)) in (has.0, let c = has.1 in omega (arith, c, one))

  -- the number of a row's key word
  pub number_known : (r k : ℕ) → known_of v r ≡ Some k → s.word (key r) ≡ k + 1
  number_known r k is = let a = (key_known r k is).1 in omega (arith, a)

  awaited : (k : ℕ) → Awaits e v k → HasRow e s k
  awaited k (by_port a q z to) = subst (HasRow e s) to ((x.holds.keys.of_notify a q (let y = x.within (items (notifies a q)) in omega (arith, y, z))).1)
  awaited k (by_block b u z to) = subst (HasRow e s) to (x.holds.keys.of_cause b u (let y = x.within (items (suspects_block b u)) in omega (arith, y, z)))

  pub rules_of : HasRules e.shape.rows e.keys (Explores e v) (Awaits e v) (known_of v)
  rules_of = record {
    few = x.fit.few_keys;
    may_listed = λ k y. x.fit.listed k (explored_reached x k y);
    stands_listed = λ k y. let row = awaited k y in x.fit.listed k (x.holds.keys.reached row.0 k row.1);
    known_listed = λ r k is. x.fit.listed k (x.holds.keys.reached r k (key_known r k is));
    one_row = λ r o k a b. x.holds.keys.one_row r o k (key_known r k a) (key_known o k b);
  }

  -- a key that stands is not next at an empty word
  pub standing_of : (k r : ℕ) → Awaits e v k → IsNext (known_of v) k e.shape.rows r → s.word (key r) ≢ 0
  standing_of k r y next empty = let rows : ℕ = e.shape.rows in let row = awaited k y in let t : ℕ = row.0 in let has = row.1 in let d : ℕ = distance rows k t in let less : d < rows = distance_below rows k t has.0 in let to = reaches rows k t has.0 in
      let here : r ≡ (k + next.step) % rows = sym next.at ∙ path_is k rows next.step next.within in
      let full = has.1 in
      dite (dec_lt d next.step)
      (λ l. let o = next.passed.others d l in let q : known_of v t ≡ Some o.other = subst (λ z. known_of v z ≡ Some o.other) (path_is k rows d less ∙ sym to) o.is in
      o.differs (let a = number_known t o.other q in omega (arith, a, full)))
      (λ l. dite (dec_lt next.step d)
      (λ m. let a = x.holds.keys.path t k d next.step has less to m in let c = ap (λ z. s.word (key z)) here in omega (arith, a, c, empty))
      (λ m. let z : d ≡ next.step = omega (arith, l, m) in let w : t ≡ r = to ∙ ap (λ z. (k + z) % rows) z ∙ sym here in let c = ap (λ z. s.word (key z)) w in omega (arith, c, full, empty)))

pub can_of : (e : Setting) (v : View) (r k : ℕ) → r < e.shape.rows → Explores e v k → IsNext (known_of v) k e.shape.rows r → CanClaim e v r k
can_of e v r k l x next = record {
  explorer = x.explorer;
  life = x.life;
  place = x.place;
  low = l;
  exploring = x.exploring;
  is_place = x.is_place;
  names = x.names;
  path = passed_upto v e.shape.rows k next.step r next.within l (sym next.at) next.passed;
}

-- a test of items that no claim, no look and no settling changes the count of
record Lasting (q : Item → Bool) : Type 0 where
  owed : (k l : ℕ) (j : Job) → q (item.Owe k j l) ≡ false
  entered : (k l : ℕ) (ports : List ℕ) → q (item.Reenter k l ports) ≡ false
  told : (k l w : ℕ) → q (item.Notify k l w []) ≡ false
  closing : (k l w : ℕ) → q (item.Close k l w) ≡ false

exploring_lasts : (a l j : ℕ) → Lasting (is_exploring a l j)
exploring_lasts a l j = record { owed = λ k m o. refl; entered = λ k m ps. refl; told = λ k m w. refl; closing = λ k m w. refl }

notifying_lasts : (a q : ℕ) → Lasting (notifies a q)
notifying_lasts a q = record { owed = λ k m o. refl; entered = λ k m ps. refl; told = λ k m w. and_false (eqb a k); closing = λ k m w. refl }

blaming_lasts : (b u : ℕ) → Lasting (suspects_block b u)
blaming_lasts b u = record { owed = λ k m o. refl; entered = λ k m ps. refl; told = λ k m w. refl; closing = λ k m w. refl }

-- what a claim or a look leaves as it was, and the number that the row is known by
record Effect (v w : View) (row left : ℕ) : Type 0 where
  its : (q : Item → Bool) → Lasting q → items q w ≡ items q v
  knows : (x : ℕ) → x ≢ row → word_in x w.known ≡ word_in x v.known
  here : word_in row w.known ≡ left

told_effect : (v : View) (row m : ℕ) → Effect v (record v { known = known.Row row m ∷ v.known }) row (m + 1)
told_effect v row m = record {
  its = λ q u. refl;
  knows = λ x ne. ap (λ (b : Bool). cond b (m + 1) (word_in x v.known)) (ne_eqb x row ne);
  here = ap (λ (b : Bool). cond b (m + 1) (word_in row v.known)) (eqb_here row);
}

made_effect : (v : View) (row k : ℕ) → Effect v (after_claim row k claim.Made v) row (k + 1)
made_effect v row k = record {
  its = λ q u. push_none q (item.Owe k Explore 1) v.stacks (u.owed k 1 Explore);
  knows = λ x ne. ap (λ (b : Bool). cond b (k + 1) (word_in x v.known)) (ne_eqb x row ne);
  here = ap (λ (b : Bool). cond b (k + 1) (word_in row v.known)) (eqb_here row);
}

module _ (e : Setting) (v : View) where
  settled : (w : View) (row left : ℕ) → Effect v w row left → Effect v (settle e.graph e.plan w) row left
  settled w row left x = record {
    its = λ q u. settled_same e.graph e.plan q w (fails e.graph e.plan w.strikes q (record { notify = u.told; reenter = λ k l. u.entered k l []; close = u.closing })) ∙ x.its q u;
    knows = x.knows;
    here = x.here;
  }

  claim_effect : (row k n : ℕ) → Effect v (settle e.graph e.plan (after_claim row k (claim_of k n) v)) row (claim_left k n)
  claim_effect row k n = dite (ℕ_discrete n 0)
      (λ z. subst (λ m. Effect v (settle e.graph e.plan (after_claim row k (claim_of k m) v)) row (claim_left k m)) (sym z) (settled (after_claim row k claim.Made v) row (k + 1) (made_effect v row k)))
      (λ full. let w : View = record v { known = known.Row row (n - 1) ∷ v.known } in
      subst (λ u. Effect v (settle e.graph e.plan u) row (claim_left k n)) (sym (found row k n full))
      (subst (Effect v (settle e.graph e.plan w) row) (let a : n - 1 + 1 ≡ n = omega (arith, full) in a ∙ sym (ap (λ (b : Bool). cond b (k + 1) n) (ne_eqb n 0 full))) (settled w row (n - 1 + 1) (told_effect v row (n - 1)))))
    where
      found : (r k n : ℕ) → n ≢ 0 → after_claim r k (claim_of k n) v ≡ record v { known = known.Row r (n - 1) ∷ v.known }
      found r k n full = ap (λ (b : Bool). after_claim r k (cond b claim.Made (cond (eqb n (k + 1)) claim.Found (claim.Other (key_of (n - 1))))) v) (ne_eqb n 0 full) ∙ dite (ℕ_discrete n (k + 1))
          (λ y. ap (λ (b : Bool). after_claim r k (cond b claim.Found (claim.Other (key_of (n - 1)))) v) (eq-eqb n (k + 1) y) ∙ ap (λ m. record v { known = known.Row r m ∷ v.known }) (let a : k ≡ n - 1 = omega (arith, y) in a))
          (λ y. ap (λ (b : Bool). after_claim r k (cond b claim.Found (claim.Other (key_of (n - 1)))) v) (ne_eqb n (k + 1) y))

  look_full : (row n : ℕ) → n ≢ 0 → Effect v (settle e.graph e.plan (after_look e.graph e.shape.rows row n v)) row n
  look_full row n full = let w : View = record v { known = known.Row row (n - 1) ∷ v.known } in
      subst (λ u. Effect v (settle e.graph e.plan u) row n) (sym (ap (λ (b : Bool). cond b (change_top (skipped_items e.graph e.shape.rows row v.known) v) (record v { known = known.Row row (n - 1) ∷ v.known })) (ne_eqb n 0 full)))
      (subst (Effect v (settle e.graph e.plan w) row) (let a : n - 1 + 1 ≡ n = omega (arith, full) in a) (settled w row (n - 1 + 1) (told_effect v row (n - 1))))

  -- a look at an empty row takes at most a port that was to be entered again
  look_empty : (row : ℕ) → Effect v (settle e.graph e.plan (after_look e.graph e.shape.rows row 0 v)) row (word_in row v.known)
  look_empty row = settled (change_top (skipped_items e.graph e.shape.rows row v.known) v) row (word_in row v.known) (record {
    its = λ q u. tops_same e.graph e.shape.rows row v.known q (λ a l y ys. u.entered a l ys ∙ sym (u.entered a l (y ∷ ys))) v.stacks;
    knows = λ x ne. refl;
    here = refl;
  })

  look_effect : (row n : ℕ) → Effect v (settle e.graph e.plan (after_look e.graph e.shape.rows row n v)) row (cond (eqb n 0) (word_in row v.known) n)
  look_effect row n = dite (ℕ_discrete n 0)
      (λ z. subst (λ m. Effect v (settle e.graph e.plan (after_look e.graph e.shape.rows row m v)) row (cond (eqb m 0) (word_in row v.known) m)) (sym z) (look_empty row))
      (λ full. subst (Effect v (settle e.graph e.plan (after_look e.graph e.shape.rows row n v)) row) (sym (ap (λ (b : Bool). cond b (word_in row v.known) n) (ne_eqb n 0 full))) (look_full row n full))

  -- the number that the row is known by after a claim or a look
  left_of : Option ℕ → ℕ → ℕ → ℕ
  left_of None row n = cond (eqb n 0) (word_in row v.known) n
  left_of (Some k) row n = claim_left k n

  any_effect : (row : ℕ) (claimed : Option ℕ) (n : ℕ) → Effect v (after e (key_event row claimed) n v) row (left_of claimed row n)
  unfolding left_of
  any_effect row None n = look_effect row n
  any_effect row (Some k) n = claim_effect row k n

  left_full : (claimed : Option ℕ) (row n : ℕ) → n ≢ 0 → left_of claimed row n ≡ n
  unfolding left_of
  left_full None row n full = ap (λ (b : Bool). cond b (word_in row v.known) n) (ne_eqb n 0 full)
  left_full (Some k) row n full = ap (λ (b : Bool). cond b (k + 1) n) (ne_eqb n 0 full)

-- a claim and a look are on the row's key word
key_spot : (row : ℕ) (claimed : Option ℕ) → at (key_event row claimed) ≡ key row
key_spot row None = refl
key_spot row (Some k) = refl

-- a view before a claim or a look that found the number n, and after it
module _ (e : Setting) (row : ℕ) (claimed : Option ℕ) (n : ℕ) (v w : View) (after_is : w ≡ after e (key_event row claimed) n v) where
  effect : Effect v w row (left_of e v claimed row n)
  effect = subst (λ u. Effect v u row (left_of e v claimed row n)) (sym after_is) (any_effect e v row claimed n)

  pub may_stays : (k : ℕ) → Explores e v k → Explores e w k
  may_stays k y = record { explorer = y.explorer; life = y.life; place = y.place; exploring = let a = effect.its (is_exploring y.explorer y.life y.place) (exploring_lasts y.explorer y.life y.place) in let b = y.exploring in omega (arith, a, b); is_place = y.is_place; names = y.names }

  pub may_back : (k : ℕ) → Explores e w k → Explores e v k
  may_back k y = record { explorer = y.explorer; life = y.life; place = y.place; exploring = let a = effect.its (is_exploring y.explorer y.life y.place) (exploring_lasts y.explorer y.life y.place) in let b = y.exploring in omega (arith, a, b); is_place = y.is_place; names = y.names }

  pub stands_stays : (k : ℕ) → Awaits e v k → Awaits e w k
  stands_stays k (by_port a b z to) = by_port a b (let y = effect.its (notifies a b) (notifying_lasts a b) in omega (arith, y, z)) to
  stands_stays k (by_block a b z to) = by_block a b (let y = effect.its (suspects_block a b) (blaming_lasts a b) in omega (arith, y, z)) to

  pub stands_back : (k : ℕ) → Awaits e w k → Awaits e v k
  stands_back k (by_port a b z to) = by_port a b (let y = effect.its (notifies a b) (notifying_lasts a b) in omega (arith, y, z)) to
  stands_back k (by_block a b z to) = by_block a b (let y = effect.its (suspects_block a b) (blaming_lasts a b) in omega (arith, y, z)) to

  known_now : (k : ℕ) → left_of e v claimed row n ≡ k + 1 → known_of w row ≡ Some k
  known_now k is = key_in-suc (word_in row w.known) k (effect.here ∙ is)

  full_now : (k : ℕ) → n ≡ k + 1 → known_of w row ≡ Some k
  full_now k is = known_now k (left_full e v claimed row n (λ z. omega (arith, z, is)) ∙ is)

  pub learnt : (a : Seen) → SeenTells a n → Learns a (known_of w row)
  learnt Empty t = tt
  learnt (Holds k) t = full_now k.0 t

  pub claimed_now : (k : ℕ) (a : Claim) → claimed ≡ Some k → ClaimTells a k n → known_of w row ≡ Some (claimed_key a k)
  unfolding left_of
  claimed_now k Made of t = known_now k (ap (λ o. left_of e v o row n) of ∙ ap (claim_left k) t)
  claimed_now k Found of t = full_now k t
  claimed_now k (Other o) of t = full_now o.0 t.0

  -- where the key word of a core held the number
  module _ {s : Core} (x : IsViewOf e s v) (found : s.word (at (key_event row claimed)) ≡ n) where
    key_found : s.word (key row) ≡ n
    key_found = sym (ap s.word (key_spot row claimed)) ∙ found

    pub stays : (k : ℕ) → known_of v row ≡ Some k → n ≡ k + 1
    stays k is = sym key_found ∙ number_known x row k is

    pub known_stays : (r k : ℕ) → known_of v r ≡ Some k → known_of w r ≡ Some k
    known_stays r k is = dite (ℕ_discrete r row)
        (λ z. let one : n ≡ k + 1 = stays k (subst (λ y. known_of v y ≡ Some k) z is) in
        ap (λ y. known_of w y) z ∙ key_in-suc (word_in row w.known) k (effect.here ∙ left_full e v claimed row n (λ y. omega (arith, y, one)) ∙ one))
        (λ ne. ap key_in (effect.knows r ne) ∙ is)

    pub standing : (k : ℕ) → Awaits e v k → IsNext (known_of v) k e.shape.rows row → n ≢ 0
    standing k a next z = standing_of x k row a next (key_found ∙ z)
