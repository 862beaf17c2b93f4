-- Each of some strikes that landed gets a strike of the plan of its own: those of the latest lives come last, when no others than of their word have taken what fits them.
use Rattle.std.proofs.Common.{◌≡◌, ◌≢◌, ◌⊎◌, ◌∙◌, ℕ, zero, suc, ◌+◌, ◌<◌, ◌≤◌, Bool, true, false, cond, eqb, ◌&&◌, nat_le, nat_lt, List, [], ◌∷◌, length, ⊎_elim, inl, inr, ap, subst, sym, refl, arith}
use Rattle.std.proofs.lemmas.Bool.{and_from, eq-eqb, eqb-true, le-leb, le-ltb, lt-ltb, ne_eqb}
use mathlib.Core.Logic.{dite}
use native.Mathlib.Decide.{ℕ_discrete, dec_lt}
use Rattle.graph_model.specs.declared.record.Hit.{Hit}
use Rattle.graph_model.specs.declared.record.Record.{Record}
use Rattle.core_state.specs.Counts.{bump, count, hit}
use Rattle.core_state.specs.Graph.{Graph, Plan}
use Rattle.core_state.specs.Laws.{Planned}
use Rattle.core_state.specs.Tests.{is_struck_upto, names_hit, same_hit, strikes_upto, two}
use Rattle.core_state.proofs.Base.Counting.{bump_is, eqb_here, hit_le, two_tells, both}
use Rattle.worker_pool.specs.Completing.{IsOwn}
use Rattle.worker_pool.proofs.Landing.{IsWord, Landing, in_life, names_one, on_word, on_word_upto, planned_below, same_hit_here}
use Rattle.worker_pool.proofs.Places.{below, count_or, few_below, fresh}

-- a strike of the latest life, and the others
record Latest {xs : List Record} (ds : List (Landing xs)) : Type 0 where
  top : Landing xs
  rest : List (Landing xs)
  same : (q : Landing xs → Bool) → count q ds ≡ bump (q top) (count q rest)
  long : length ds ≡ length rest + 1
  last : count (λ d. nat_lt top.life d.life) rest ≡ 0

swapped : (a b : Bool) (n : ℕ) → bump a (bump b n) ≡ bump b (bump a n)
swapped a b n = let c = bump_is a (bump b n) in let d = bump_is b n in let e = bump_is b (bump a n) in let f = bump_is a n in omega (arith, c, d, e, f)

none_above : {xs : List Record} (m n : ℕ) (ds : List (Landing xs)) → n ≤ m → count (λ d. nat_lt n d.life) ds ≡ 0 → count (λ d. nat_lt m d.life) ds ≡ 0
none_above m n [] low none = refl
none_above m n (d ∷ ds) low none = let a = bump_is (nat_lt n d.life) (count (λ x. nat_lt n x.life) ds) in let r = none_above m n ds low (omega (arith, a, none)) in
    dite (dec_lt m d.life)
    (λ more. absurd (let b = ap hit (lt-ltb n d.life (omega (arith, low, more))) in omega (arith, a, b, none)))
    (λ less. ap (λ b. bump b (count (λ x. nat_lt m x.life) ds)) (le-ltb m d.life (omega (arith, less))) ∙ r)

latest : {xs : List Record} (d : Landing xs) (ds : List (Landing xs)) → Latest (d ∷ ds)
latest d [] = record { top = d; rest = []; same = λ q. refl; long = refl; last = refl }
latest d (x ∷ ds) = by (latest x ds)
  where
    by : Latest (x ∷ ds) → Latest (d ∷ (x ∷ ds))
    by r = dite (dec_lt d.life r.top.life)
        (λ less. record {
          top = r.top;
          rest = d ∷ r.rest;
          same = λ q. ap (bump (q d)) (r.same q) ∙ swapped (q d) (q r.top) (count q r.rest);
          long = let a = r.long in omega (arith, a);
          last = ap (λ b. bump b (count (λ y. nat_lt r.top.life y.life) r.rest)) (le-ltb r.top.life d.life (omega (arith, less))) ∙ r.last;
        })
        (λ more. record {
          top = d;
          rest = r.top ∷ r.rest;
          same = λ q. ap (bump (q d)) (r.same q);
          long = let a = r.long in omega (arith, a);
          last = ap (λ b. bump b (count (λ y. nat_lt d.life y.life) r.rest)) (le-ltb d.life r.top.life (omega (arith, more))) ∙ none_above d.life r.top.life r.rest (omega (arith, more)) r.last;
        })

-- Places of the plan for these strikes: each fits its own, and no two are the same.
pub record Assigned (p : Plan) {xs : List Record} (ds : List (Landing xs)) : Type 0 where
  pub place : ℕ → ℕ → ℕ
  pub used : List ℕ
  pub each : (k l : ℕ) → 0 < count (in_life k l) ds → IsOwn p (λ q. count q xs) k l (place k l)
  pub taken : (k l : ℕ) → 0 < count (in_life k l) ds → 0 < count (eqb (place k l)) used
  pub apart : (k l m n : ℕ) → 0 < count (in_life k l) ds → 0 < count (in_life m n) ds → place k l ≡ place m n → (k ≡ m) × (l ≡ n)
  pub long : length used ≡ length ds
  pub once : (i : ℕ) → count (eqb i) used ≤ 1
  pub low : (i : ℕ) → 0 < count (eqb i) used → i < p.count
  -- what fits a word was taken for that word
  pub few : (k l : ℕ) (h : Hit) → IsWord h → count (strikes_upto p k l h) used ≤ count (on_word k h) ds

module _ (g : Graph) (p : Plan) (xs : List Record) (plays : Planned g p (λ q. count q xs)) where
  module _ (ds : List (Landing xs)) (r : Latest ds) (upto : (k l : ℕ) (h : Hit) → count (on_word_upto k l h) ds ≤ count (is_struck_upto k l h) xs) (rest : Assigned p r.rest) where
    abbrev d : Landing xs
    d = r.top

    -- the latest of its word is one more than those before it
    late_too : (x : Landing xs) → on_word d.key d.on x ≡ true → (on_word_upto d.key d.life d.on x ≡ true) ⊎ (nat_lt d.life x.life ≡ true)
    late_too x z = let o = both (eqb d.key x.key) (same_hit d.on x.on) z in dite (dec_lt d.life x.life) (λ more. inr (lt-ltb d.life x.life more))
        (λ less. inl (and_from (eqb d.key x.key) (nat_le x.life d.life && same_hit d.on x.on) o.0 (and_from (nat_le x.life d.life) (same_hit d.on x.on) (le-leb x.life d.life (omega (arith, less))) o.1)))

    top_too : on_word_upto d.key d.life d.on d ≡ true
    top_too = and_from (eqb d.key d.key) (nat_le d.life d.life && same_hit d.on d.on) (eqb_here d.key) (and_from (nat_le d.life d.life) (same_hit d.on d.on) (le-leb d.life d.life (omega arith)) (same_hit_here d.on))

    room : count (strikes_upto p d.key d.life d.on) rest.used < below (strikes_upto p d.key d.life d.on) p.count
    room = let a = rest.few d.key d.life d.on d.is_word in let b = count_or (on_word d.key d.on) (on_word_upto d.key d.life d.on) (λ x. nat_lt d.life x.life) late_too r.rest in let c = r.last in
        let e = r.same (on_word_upto d.key d.life d.on) in let f = ap (λ t. bump t (count (on_word_upto d.key d.life d.on) r.rest)) top_too in let h = upto d.key d.life d.on in
        let i = plays.few d.key d.life d.on in let j = planned_below g p (λ q. count q xs) d.key d.life d.on p.count in omega (arith, a, b, c, e, f, h, i, j)

    new : (i : ℕ) × (i < p.count) × (strikes_upto p d.key d.life d.on i ≡ true) × (count (eqb i) rest.used ≡ 0)
    new = fresh (strikes_upto p d.key d.life d.on) p.count rest.used room

    place : ℕ → ℕ → ℕ
    place k l = cond (two k l d.key d.life) new.0 (rest.place k l)

    -- this life gets the new place, and any other keeps its own
    which : (k l : ℕ) → ((k ≡ d.key) × (l ≡ d.life) × (place k l ≡ new.0)) ⊎ ((place k l ≡ rest.place k l) × (0 < count (in_life k l) ds → 0 < count (in_life k l) r.rest))
    unfolding place
    which k l = ⊎_elim
        (λ z. inr (ap (λ b. cond b new.0 (rest.place k l)) z, λ some. let a = r.same (in_life k l) in let b = ap (λ t. bump t (count (in_life k l) r.rest)) z in omega (arith, a, b, some)))
        (λ z. inl (z.1, z.2, ap (λ b. cond b new.0 (rest.place k l)) z.0)) (two_tells k l d.key d.life)

    own_new : IsOwn p (λ q. count q xs) d.key d.life new.0
    own_new = record { hit = d.on; planned = new.2; landed = d.landed }

    each : (k l : ℕ) → 0 < count (in_life k l) ds → IsOwn p (λ q. count q xs) k l (place k l)
    each k l some = ⊎_elim
        (λ z. subst (IsOwn p (λ q. count q xs) k l) (sym z.2) (subst (λ a. IsOwn p (λ q. count q xs) a l new.0) (sym z.0) (subst (λ b. IsOwn p (λ q. count q xs) d.key b new.0) (sym z.1) own_new)))
        (λ z. subst (IsOwn p (λ q. count q xs) k l) (sym z.0) (rest.each k l (z.1 some))) (which k l)

    taken : (k l : ℕ) → 0 < count (in_life k l) ds → 0 < count (eqb (place k l)) (new.0 ∷ rest.used)
    taken k l some = let o = bump_is (eqb (place k l) new.0) (count (eqb (place k l)) rest.used) in ⊎_elim
        (λ z. let a = ap hit (eq-eqb (place k l) new.0 z.2) in omega (arith, o, a))
        (λ z. let a = rest.taken k l (z.1 some) in let b = ap (λ i. count (eqb i) rest.used) z.0 in omega (arith, o, a, b)) (which k l)

    -- the new place is none of the others
    other_place : (k l : ℕ) → 0 < count (in_life k l) r.rest → new.0 ≢ rest.place k l
    other_place k l some is = let a = rest.taken k l some in let b = ap (λ i. count (eqb i) rest.used) is in let c = new.3 in omega (arith, a, b, c)

    apart : (k l m n : ℕ) → 0 < count (in_life k l) ds → 0 < count (in_life m n) ds → place k l ≡ place m n → (k ≡ m) × (l ≡ n)
    apart k l m n a b is = ⊎_elim
        (λ y. ⊎_elim (λ z. (y.0 ∙ sym z.0, y.1 ∙ sym z.1)) (λ z. absurd (other_place m n (z.1 b) (sym y.2 ∙ is ∙ z.0))) (which m n))
        (λ y. ⊎_elim (λ z. absurd (other_place k l (y.1 a) (sym z.2 ∙ sym is ∙ y.0))) (λ z. rest.apart k l m n (y.1 a) (z.1 b) (sym y.0 ∙ is ∙ z.0)) (which m n)) (which k l)

    once : (i : ℕ) → count (eqb i) (new.0 ∷ rest.used) ≤ 1
    once i = let o = bump_is (eqb i new.0) (count (eqb i) rest.used) in let a = rest.once i in let b = hit_le (eqb i new.0) in
        dite (ℕ_discrete i new.0) (λ is. let c = ap (λ j. count (eqb j) rest.used) is in let e = new.3 in omega (arith, o, b, c, e)) (λ ne. let c = ap hit (ne_eqb i new.0 ne) in omega (arith, o, a, c))

    low : (i : ℕ) → 0 < count (eqb i) (new.0 ∷ rest.used) → i < p.count
    low i some = dite (ℕ_discrete i new.0) (λ is. let a = new.1 in omega (arith, is, a)) (λ ne. let o = bump_is (eqb i new.0) (count (eqb i) rest.used) in let c = ap hit (ne_eqb i new.0 ne) in rest.low i (omega (arith, o, c, some)))

    -- a place that fits a word and the new one's is of that very word
    word_of : (k l : ℕ) (h : Hit) → IsWord h → strikes_upto p k l h new.0 ≡ true → on_word k h d ≡ true
    word_of k l h word z =
        let s = p.strike new.0 in
        let a = both (nat_lt new.0 p.count) (eqb k s.key.0 && (nat_le s.life l && names_hit s.target h)) z in let b = both (eqb k s.key.0) (nat_le s.life l && names_hit s.target h) a.1 in let c = both (nat_le s.life l) (names_hit s.target h) b.1 in
        let e = both (nat_lt new.0 p.count) (eqb d.key s.key.0 && (nat_le s.life d.life && names_hit s.target d.on)) new.2 in let f = both (eqb d.key s.key.0) (nat_le s.life d.life && names_hit s.target d.on) e.1 in let i = both (nat_le s.life d.life) (names_hit s.target d.on) f.1 in
        let is : h ≡ d.on = names_one s.target h d.on word d.is_word c.1 i.1 in
        and_from (eqb k d.key) (same_hit h d.on) (eq-eqb k d.key (eqb-true k s.key.0 b.0 ∙ sym (eqb-true d.key s.key.0 f.0))) (ap (same_hit h) (sym is) ∙ same_hit_here h)

    few : (k l : ℕ) (h : Hit) → IsWord h → count (strikes_upto p k l h) (new.0 ∷ rest.used) ≤ count (on_word k h) ds
    few k l h word = let a = bump_is (strikes_upto p k l h new.0) (count (strikes_upto p k l h) rest.used) in let b = bump_is (on_word k h d) (count (on_word k h) r.rest) in let c = r.same (on_word k h) in let e = rest.few k l h word in
        let f = by (strikes_upto p k l h new.0) refl in omega (arith, a, b, c, e, f)
      where
        by : (t : Bool) → strikes_upto p k l h new.0 ≡ t → hit (strikes_upto p k l h new.0) ≤ hit (on_word k h d)
        by true z = let a = ap hit z in let b = ap hit (word_of k l h word z) in omega (arith, a, b)
        by false z = let a = ap hit z in omega (arith, a)

    one_more : Assigned p ds
    one_more = record {
      place = place;
      used = new.0 ∷ rest.used;
      each = each;
      taken = taken;
      apart = apart;
      long = let a = rest.long in let b = r.long in omega (arith, a, b);
      once = once;
      low = low;
      few = few;
    }

  none_assigned : Assigned p {xs = xs} []
  none_assigned = record {
    place = λ k l. 0;
    used = [];
    each = λ k l some. absurd (omega (arith, some));
    taken = λ k l some. absurd (omega (arith, some));
    apart = λ k l m n some other is. absurd (omega (arith, some));
    long = refl;
    once = λ i. omega arith;
    low = λ i some. absurd (omega (arith, some));
    few = λ k l h word. omega arith;
  }

  -- where no more of the strikes are of any word than landed on it, each gets a place of its own
  assigned_of : (n : ℕ) (ds : List (Landing xs)) → length ds ≡ n → ((k l : ℕ) (h : Hit) → count (on_word_upto k l h) ds ≤ count (is_struck_upto k l h) xs) → Assigned p ds
  assigned_of n [] is upto = none_assigned
  assigned_of zero (d ∷ ds) is upto = absurd (omega (arith, is))
  assigned_of (suc n) (d ∷ ds) is upto = let r = latest d ds in one_more (d ∷ ds) r upto
      (assigned_of n r.rest (let a = r.long in omega (arith, a, is)) (λ k l h. let a = upto k l h in let b = r.same (on_word_upto k l h) in let c = bump_is (on_word_upto k l h r.top) (count (on_word_upto k l h) r.rest) in omega (arith, a, b, c)))

  pub assigned : (ds : List (Landing xs)) → ((k l : ℕ) (h : Hit) → count (on_word_upto k l h) ds ≤ count (is_struck_upto k l h) xs) → Assigned p ds
  assigned ds upto = assigned_of (length ds) ds refl upto

  -- so they are no more than the plan's strikes
  pub few_assigned : (ds : List (Landing xs)) → Assigned p ds → length ds ≤ p.count
  few_assigned ds a = let b = few_below p.count a.used a.once a.low in let c = a.long in omega (arith, b, c)
