-- Where the causes are strikes on words, each life that was replaced has a strike of the plan of its own, and a life that is suspected is no greater than the plan is long.
use Rattle.std.proofs.Common.{◌≡◌, ◌≢◌, ◌∙◌, ℕ, zero, suc, ◌<◌, ◌≤◌, Bool, true, false, eqb, List, [], ◌∷◌, ◌++◌, length, ⊎_elim, ap, subst, sym, refl, arith}
use Rattle.graph_model.specs.declared.plan.Target.TheVariants as target
use Rattle.graph_model.specs.declared.record.Cause.{Cause}
use Rattle.graph_model.specs.declared.record.Hit.{Hit}
use Rattle.graph_model.specs.declared.record.Record.{Record}
use Rattle.graph_model.specs.declared.record.Record.TheVariants as record_of
use Rattle.core_state.specs.Counts.{bump, count, hit}
use Rattle.core_state.specs.Graph.{Graph, Lawful, Plan, Reached}
use Rattle.core_state.specs.Graph.Reached.{itself}
use Rattle.core_state.specs.Laws.{IsGrounded, Planned, Shown, SixLaws}
use Rattle.core_state.specs.Tests.{is_any_replaced, is_of, is_replaced, is_struck, key_named, same_hit, two}
use Rattle.core_state.proofs.Base.Counting.{bump_is, hit_le, two_here, two_tells, both}
use Rattle.core_state.proofs.Row.Made.{struck_of}
use Rattle.core_state.proofs.Row.View.{count_below}
use Rattle.core_state.proofs.Seats.View.{count_both}
use Rattle.core_laws.specs.Lists.{AreOfTasks, RootReplaced, RootShown}
use Rattle.worker_pool.specs.Completing.{OwnStrikes}
use Rattle.worker_pool.proofs.Closing.{root_unreplaced}
use Rattle.worker_pool.proofs.Assigning.{assigned, few_assigned}
use Rattle.worker_pool.proofs.Landing.{Landing, in_life, upto_struck}
use Rattle.worker_pool.proofs.WordCauses.{landing, replaced_landing}

not_replaced : (x : Record) (k l : ℕ) → is_any_replaced x ≡ false → is_replaced k l x ≡ false
not_replaced (record_of.Replaced key life c) k l z = absurd cc
not_replaced x k l z = refl

-- the strikes by which the lives of some records were replaced
record Landings (xs ys : List Record) : Type 0 where
  list : List (Landing xs)
  lives : (k l : ℕ) → count (in_life k l) list ≡ count (is_replaced k l) ys
  long : length list ≡ count is_any_replaced ys

-- the strikes of all lives of a key up to one
record Chain (xs : List Record) (l : ℕ) : Type 0 where
  list : List (Landing xs)
  long : length list ≡ l
  once : (i j : ℕ) → count (in_life i j) list ≤ 1
  none : (i j : ℕ) → l < j → count (in_life i j) list ≡ 0

module _ (g : Graph) (p : Plan) (lawful : Lawful g) (words : (n : ℕ) → n < p.count → (p.strike n).target ≢ target.Block) (first : (k : ℕ) → Reached g k → g.version k ≡ 1) (xs : List Record) (six : SixLaws g xs) (plays : Planned g p (λ q. count q xs)) where
  landings : (ys : List Record) → ((q : Record → Bool) → count q ys ≤ count q xs) → Landings xs ys
  landings [] within = record { list = []; lives = λ k l. refl; long = refl }
  landings (x ∷ ys) within = by x (landings ys (λ q. let a = within q in let b = bump_is (q x) (count q ys) in omega (arith, a, b))) within (is_any_replaced x) refl
    where
      by : (x : Record) → Landings xs ys → ((q : Record → Bool) → count q (x ∷ ys) ≤ count q xs) → (t : Bool) → is_any_replaced x ≡ t → Landings xs (x ∷ ys)
      by x r within false z = record {
        list = r.list;
        lives = λ k l. r.lives k l ∙ ap (λ b. bump b (count (is_replaced k l) ys)) (sym (not_replaced x k l z));
        long = r.long ∙ ap (λ b. bump b (count is_any_replaced ys)) (sym z);
      }
      by (record_of.Replaced key life c) r within true z = let d = replaced_landing g p lawful words first xs six plays key.0 life (let a = within (is_replaced key.0 life) in let b = bump_is (two key.0 life key.0 life) (count (is_replaced key.0 life) ys) in let e = ap hit (two_here key.0 life) in omega (arith, a, b, e)) in record {
        list = d.0 ∷ r.list;
        lives = λ k l. ap (λ i. bump (two k l i d.0.life) (count (in_life k l) r.list)) d.1 ∙ ap (λ i. bump (two k l key.0 i) (count (in_life k l) r.list)) d.2 ∙ ap (bump (two k l key.0 life)) (r.lives k l);
        long = let a = r.long in omega (arith, a);
      }
      by x r within true z = absurd cc

  -- a strike for each of so many lives
  few_of : (ds : List (Landing xs)) → ((k l : ℕ) → count (in_life k l) ds ≤ 1) → length ds ≤ p.count
  few_of ds once = few_assigned g p xs plays ds (assigned g p xs plays ds (upto_struck ds once))

  -- each replaced life has a strike of its own
  pub own_strikes : OwnStrikes p (λ q. count q xs)
  own_strikes =
      let r = landings xs (λ q. omega arith) in
      let once : (k l : ℕ) → count (in_life k l) r.list ≤ 1 = (λ k l. let a = r.lives k l in let b = six.replaced.once k l in omega (arith, a, b)) in
      let a = assigned g p xs plays r.list (upto_struck r.list once) in record {
        place = a.place;
        each = λ k l some. a.each k l (let b = r.lives k l in omega (arith, b, some));
        apart = λ k l m n some more. a.apart k l m n (let b = r.lives k l in omega (arith, b, some)) (let b = r.lives m n in omega (arith, b, more));
        few = let b = few_of r.list once in let c = r.long in omega (arith, b, c);
      }

  -- one life more
  longer : (l : ℕ) (d : Landing xs) → d.life ≡ suc l → Chain xs l → Chain xs (suc l)
  longer l d is r = record {
    list = d ∷ r.list;
    long = let a = r.long in omega (arith, a);
    once = λ i j. let a = bump_is (two i j d.key d.life) (count (in_life i j) r.list) in let b = hit_le (two i j d.key d.life) in let c = r.once i j in
        ⊎_elim (λ z. let e = ap hit z in omega (arith, a, c, e)) (λ z. let e = r.none i j (omega (arith, is, z.2)) in omega (arith, a, b, e)) (two_tells i j d.key d.life);
    none = λ i j high. let a = bump_is (two i j d.key d.life) (count (in_life i j) r.list) in let c = r.none i j (omega (arith, high)) in
        ⊎_elim (λ z. let e = ap hit z in omega (arith, a, c, e)) (λ z. absurd (omega (arith, is, z.2, high))) (two_tells i j d.key d.life);
  }

  -- a strike in a life of a key, and one in each life before it
  chain : (k m : ℕ) (d : Landing xs) → d.key ≡ k → d.life ≡ suc m → Chain xs (suc m)
  chain k zero d at is = longer zero d is (record { list = []; long = refl; once = λ i j. omega arith; none = λ i j high. refl })
  chain k (suc m) d at is = let e = before in longer (suc m) d is (chain k m e.0 e.1 e.2)
    where
      here : 0 < count (is_of k (suc (suc m))) xs
      here = subst (λ i. 0 < count (is_of i (suc (suc m))) xs) at (subst (λ j. 0 < count (is_of d.key j) xs) is (let a = count_below (is_struck d.key d.life d.on) (is_of d.key d.life) (struck_of d.key d.life d.on) xs in let b = d.landed in omega (arith, a, b)))

      before : (e : Landing xs) × (e.key ≡ k) × (e.life ≡ suc m)
      before = replaced_landing g p lawful words first xs six plays k (suc m) (subst (λ j. 0 < count (is_replaced k j) xs) (omega arith) (six.lives.replaced_before k (suc (suc m)) (omega arith) here))

  -- a life that is suspected is at most as many as the plan has strikes
  pub lives_few : (k l : ℕ) (c : Cause) → Reached g k → Shown g (λ q. count q xs) (IsGrounded g xs) k l c → l ≤ p.count
  lives_few k zero c reached shown = omega arith
  lives_few k (suc m) c reached shown = let d = landing g p lawful words first xs six plays k (suc m) c reached shown in let r = chain k m d.0 d.1 d.2 in let a = few_of r.list r.once in let b = r.long in omega (arith, a, b)

  -- nothing of the root was struck, so its cause is never shown
  struck_names : (k l : ℕ) (h : Hit) (x : Record) → is_struck k l h x ≡ true → eqb k (key_named x) ≡ true
  struck_names k l h (record_of.Struck key life on) z = (both (eqb k key.0) (eqb l life) (both (two k l key.0 life) (same_hit h on) z).0).0
  struck_names k l h x z = absurd cc

  pub root_not_shown : (l : ℕ) (c : Cause) → AreOfTasks g xs → Shown g (λ q. count q xs) (IsGrounded g xs) g.root l c → ⊥
  root_not_shown l c tasks shown = let d = landing g p lawful words first xs six plays g.root l c itself shown in let a = count_below (is_struck d.0.key d.0.life d.0.on) (λ x. eqb d.0.key (key_named x)) (struck_names d.0.key d.0.life d.0.on) xs in
      let b = d.0.landed in let e = ap (λ k. count (λ x. eqb k (key_named x)) xs) d.1 in omega (arith, a, b, e, tasks)

  -- with the root's list behind the records the same lives were replaced
  pub own_with_root : (rs : List Record) → AreOfTasks g xs → RootReplaced g rs → RootShown g xs rs → OwnStrikes p (λ q. count q (xs ++ rs))
  own_with_root rs tasks root causes = let o = own_strikes in record {
    place = o.place;
    each = λ k l some. let a = o.each k l (fewer_replaced k l some) in record { hit = a.hit; planned = a.planned; landed = let b = a.landed in let c = count_both (is_struck k l a.hit) xs rs in omega (arith, b, c) };
    apart = λ k l m n some more. o.apart k l m n (fewer_replaced k l some) (fewer_replaced m n more);
    few = let a = o.few in let b = count_both is_any_replaced xs rs in let c = root_unreplaced g xs rs (λ l c. root_not_shown l c tasks) root causes in omega (arith, a, b, c);
  }
    where
      any : (k l : ℕ) (x : Record) → is_replaced k l x ≡ true → is_any_replaced x ≡ true
      any k l (record_of.Replaced key life c) z = cc
      any k l x z = absurd cc

      fewer_replaced : (k l : ℕ) → 0 < count (is_replaced k l) (xs ++ rs) → 0 < count (is_replaced k l) xs
      fewer_replaced k l some = let a = count_both (is_replaced k l) xs rs in let b = count_below (is_replaced k l) is_any_replaced (any k l) rs in let c = root_unreplaced g xs rs (λ l c. root_not_shown l c tasks) root causes in omega (arith, a, b, c, some)
