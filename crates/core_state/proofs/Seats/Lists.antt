-- A table of lists whose seats are cut in two or joined: the views are dealt anew as `Split` and `Join` say, and the seats' shares still add up.
use Rattle.std.proofs.Common.{◌≡◌, ◌≢◌, ℕ, zero, suc, ◌<◌, List, [], ◌∷◌, ◌++◌, set, ⊎_elim, sym, ap, refl, ◌∙◌, arith}
use mathlib.Core.Option.{Option, some, none, some-injective, some-ne-none}
use lib.ListN.{get_elem?}
use Rattle.atomic_table.specs.Table.{State}
use Rattle.atomic_table.proofs.Lists.{at_set, at_snoc}
use Rattle.core_state.specs.Words.{Shape}
use Rattle.core_state.specs.Counts.{total_of, parts}
use Rattle.core_state.specs.Change.{Split, Join, core_of, held_in, held_by, or_else, block_of, cells_or}
use Rattle.core_state.specs.Invariant.{Seats}
use Rattle.core_state.specs.Views.{all_parts, less_one, newcomer, joined, blank}
use Rattle.core_state.specs.declared.block.BlockCells.{BlockCells}
use Rattle.core_state.specs.declared.views.View.{View}
use Rattle.core_state.proofs.Base.Sums.{total_set, total_within, total_snoc, total_two}

-- a view that has a block in hand as another had it stands in for it
held_set : (b : ℕ) (vs : List View) (i : ℕ) (v w : View) → get_elem? vs i ≡ some v → held_in b w.hands ≡ held_in b v.hands → held_by b (set vs i w) ≡ held_by b vs
held_set b [] i v w at same = absurd (some-ne-none v (sym at))
held_set b (x ∷ xs) zero v w at same = ap (λ o. or_else o (held_by b xs)) (same ∙ ap (λ (o : View). held_in b o.hands) (sym (some-injective x v at)))
held_set b (x ∷ xs) (suc i) v w at same = ap (or_else (held_in b x.hands)) (held_set b xs i v w at same)

held_snoc : (b : ℕ) (vs : List View) (v : View) → held_in b v.hands ≡ none → held_by b (vs ++ v ∷ []) ≡ held_by b vs
held_snoc b [] v free = ap (λ o. or_else o none) free
held_snoc b (x ∷ xs) v free = ap (or_else (held_in b x.hands)) (held_snoc b xs v free)

there_before : (vs : List View) (i j : ℕ) (u w : View) → j ≢ i → get_elem? (set vs i u) j ≡ some w → get_elem? vs j ≡ some w
there_before vs i j u w apart there = ⊎_elim (λ q. absurd (apart q.0)) (λ q. q.1) (at_set vs i j u w there)

module _ {S : Type 0} (h : Shape) (home : List (Option S) → ℕ → BlockCells) where
  pub split_change : (s : State S View) (id : ℕ) (v : View) → get_elem? s.views id ≡ some v
      → Split (core_of h home s) (core_of h home (record { words = s.words; homes = s.homes; views = set s.views id (less_one v) ++ newcomer v ∷ [] })) v (less_one v) (newcomer v)
  unfolding block_of
  split_change s id v at = record {
    words = λ a. refl;
    sums = λ f. let a = total_set s.views id v (less_one v) f at in let b = total_snoc (set s.views id (less_one v)) (newcomer v) f in omega (arith, a, b);
    within = λ f. total_within s.views id v f at;
    blocks = λ b. ap (cells_or (home s.homes b)) (held_snoc b (set s.views id (less_one v)) (newcomer v) refl ∙ held_set b s.views id v (less_one v) at refl);
  }

  -- a seat that is taken in has no block in hand
  pub join_change : (s : State S View) (id other : ℕ) (v w : View) → get_elem? s.views id ≡ some v → other ≢ id → get_elem? (set s.views id (joined v w)) other ≡ some w → w.hands ≡ []
      → Join (core_of h home s) (core_of h home (record { words = s.words; homes = s.homes; views = set (set s.views id (joined v w)) other blank })) v w (joined v w) blank
  unfolding block_of
  join_change s id other v w at apart there free = record {
    words = λ a. refl;
    sums = λ f. let a = total_set s.views id v (joined v w) f at in let b = total_set (set s.views id (joined v w)) other w blank f there in omega (arith, a, b);
    within = λ f. total_two s.views id other v w f at (there_before s.views id other (joined v w) w apart there) apart;
    blocks = λ b. ap (cells_or (home s.homes b)) (held_set b (set s.views id (joined v w)) other w blank there (sym (ap (held_in b) free)) ∙ held_set b s.views id v (joined v w) at (ap (λ o. held_in b (o ++ v.hands)) free));
  }

-- the first seat has all parts
pub first_seat : (v : View) → v.parts ≡ all_parts → Seats (v ∷ [])
unfolding total_of
first_seat v whole = record { all = omega (arith, whole); spent = λ i u here z. absurd (let a = ap parts (only_one i u here) in omega (arith, a, z, whole)) }
  where
    only_one : (i : ℕ) (u : View) → get_elem? (v ∷ []) i ≡ some u → v ≡ u
    only_one zero u here = some-injective v u here
    only_one (suc i) u here = absurd (some-ne-none u (sym here))

module _ (vs : List View) (seats : Seats vs) (id : ℕ) (v : View) (at : get_elem? vs id ≡ some v) where
  -- a seat that makes a step keeps its parts
  pub step_seats : (w : View) → w.parts ≡ v.parts → 0 < v.parts → Seats (set vs id w)
  step_seats w same has = record {
    all = let a = total_set vs id v w parts at in let b = seats.all in omega (arith, a, b, same);
    spent = λ i u here z. ⊎_elim (λ q. absurd (let a = ap parts q.1 in omega (arith, a, z, same, has))) (λ q. seats.spent i u q.1 z) (at_set vs id i w u here);
  }

  -- a seat that gives away one of several parts
  pub split_seats : 1 < v.parts → Seats (set vs id (less_one v) ++ newcomer v ∷ [])
  split_seats several = record {
    all = let a = total_set vs id v (less_one v) parts at in let b = total_snoc (set vs id (less_one v)) (newcomer v) parts in let d = seats.all in omega (arith, a, b, d, several);
    spent = λ i u here z. ⊎_elim
        (λ q. ⊎_elim (λ o. absurd (let a = ap parts o.1 in omega (arith, a, z, several))) (λ o. seats.spent i u o.1 z) (at_set vs id i (less_one v) u q))
        (λ q. absurd (let a = ap parts q in omega (arith, a, z))) (at_snoc (set vs id (less_one v)) (newcomer v) u i here);
  }

  -- a seat that takes in another
  pub join_seats : (other : ℕ) (w : View) → other ≢ id → get_elem? (set vs id (joined v w)) other ≡ some w → Seats (set (set vs id (joined v w)) other blank)
  join_seats other w apart there = record {
    all = let a = total_set vs id v (joined v w) parts at in let b = total_set (set vs id (joined v w)) other w blank parts there in let d = seats.all in omega (arith, a, b, d);
    spent = λ i u here z. ⊎_elim (λ q. sym q.1)
        (λ q. ⊎_elim (λ o. let a = ap parts o.1 in let left : v ≡ blank = seats.spent id v at (omega (arith, a, z)) in let right : w ≡ blank = seats.spent other w (there_before vs id other (joined v w) w apart there) (omega (arith, a, z)) in
        sym o.1 ∙ ap (λ y. joined y w) left ∙ ap (joined blank) right) (λ o. seats.spent i u o.1 z) (at_set vs id i (joined v w) u q.1)) (at_set (set vs id (joined v w)) other i blank u here);
  }

  -- who has all parts is the only one that has anything
  pub only_seat : v.parts ≡ all_parts → (other : ℕ) (w : View) → other ≢ id → get_elem? vs other ≡ some w → w ≡ blank
  only_seat whole other w apart there = seats.spent other w there (let a = total_two vs id other v w parts at there apart in let b = seats.all in omega (arith, a, b, whole))
