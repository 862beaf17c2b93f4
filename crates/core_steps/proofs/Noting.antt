-- What the stores keep where a step records one more, or nothing.
use Rattle.std.proofs.Common.{◌≡◌, ℕ, ◌+◌, ◌<◌, ◌++◌, ◌&&◌, Bool, true, false, cond, eqb, List, [], ◌∷◌, length, get_or, set, arith, ap, refl, ◌∙◌, Option, Some, None}
use Rattle.core_state.specs.Graph.{Setting}
use Rattle.core_state.specs.Counts.{hit, bump, count, noted}
use Rattle.core_state.specs.Tests.{key_named}
use Rattle.core_state.specs.Views.{blank}
use Rattle.core_state.specs.declared.views.View.{View}
use Rattle.graph_model.specs.declared.record.Record.{Record}
use Rattle.core_state.proofs.Base.Counting.{bump_is}
use Rattle.core_state.proofs.Credit.JobView.{and_false}
use Rattle.core_state.proofs.Base.Sums.{total_set}
use Rattle.core_steps.proofs.Changing.{elem_at}
use Rattle.core_steps.proofs.Growing.{stored_set}
use Rattle.core_steps.specs.Table.{Plain, Stored, view_at, as_list, kept_store, kept_list, is_kept, is_root_replaced, no_store, with_record, Keeps, IsSound}

and_true : (b : Bool) → (b && true) ≡ b
and_true true = refl
and_true false = refl

count_more : (q : Record → Bool) (xs : List Record) (x : Record) → count q (xs ++ x ∷ []) ≡ count q xs + hit (q x)
count_more q [] x = let a = bump_is (q x) 0 in omega (arith, a)
count_more q (y ∷ xs) x = let a = count_more q xs x in let b = bump_is (q y) (count q (xs ++ x ∷ [])) in let c = bump_is (q y) (count q xs) in omega (arith, a, b, c)

-- a store has one record more, where it is kept
pub store_more : (root : ℕ) (q : Record → Bool) (y : Option Record) (s : Stored) → count q (kept_store root y s).records ≡ count q s.records + count (λ x. q x && is_kept root x) (as_list y)
store_more root q None s = omega arith
store_more root q (Some x) s = by (eqb root (key_named x)) refl
  where
    by : (b : Bool) → eqb root (key_named x) ≡ b → count q (cond b s (with_record s x)).records ≡ count q s.records + bump (q x && is_kept root x) 0
    by true is = let g : (q x && is_kept root x) ≡ false = ap (λ (b : Bool). q x && cond b false true) is ∙ and_false (q x) in let c = bump_is (q x && is_kept root x) 0 in let h = ap hit g in omega (arith, c, h)
    by false is = let g : (q x && is_kept root x) ≡ q x = ap (λ (b : Bool). q x && cond b false true) is ∙ and_true (q x) in let a = count_more q s.records x in let c = bump_is (q x && is_kept root x) 0 in let h = ap hit g in omega (arith, a, c, h)

-- and so has the list of the root's replacements
pub list_more : (root : ℕ) (q : Record → Bool) (y : Option Record) (xs : List Record) → count q (kept_list root y xs) ≡ count q xs + count (λ x. q x && is_root_replaced root x) (as_list y)
list_more root q None xs = omega arith
list_more root q (Some x) xs = by (is_root_replaced root x) refl
  where
    by : (b : Bool) → is_root_replaced root x ≡ b → count q (cond b (xs ++ x ∷ []) xs) ≡ count q xs + bump (q x && is_root_replaced root x) 0
    by true is = let g : (q x && is_root_replaced root x) ≡ q x = ap (λ (b : Bool). q x && b) is ∙ and_true (q x) in let a = count_more q xs x in let c = bump_is (q x && is_root_replaced root x) 0 in let h = ap hit g in omega (arith, a, c, h)
    by false is = let g : (q x && is_root_replaced root x) ≡ false = ap (λ (b : Bool). q x && b) is ∙ and_false (q x) in let c = bump_is (q x && is_root_replaced root x) 0 in let h = ap hit g in omega (arith, c, h)

pub noted_more : (t : Record → Bool) (y : Option Record) (xs : List Record) → count t (as_list y ++ xs) ≡ count t (as_list y) + count t xs
noted_more t None xs = omega arith
noted_more t (Some x) xs = let a = bump_is (t x) (count t xs) in let b = bump_is (t x) 0 in omega (arith, a, b)

module _ (e : Setting) (p : Plain) (i : ℕ) (low : i < length p.views) (s : IsSound e p) where
  -- a view with the same records
  pub same_keeps : (w : View) → w.records ≡ (view_at p i).records → Keeps e.graph.root (set p.views i w) p.stores p.root_replaced
  same_keeps w recs = record {
    others = λ q. let f : View → ℕ = noted (λ x. q x && is_kept e.graph.root x) in let a = total_set p.views i (view_at p i) w f (elem_at p.views i blank low) in let b = s.keeps.others q in
        let c : f w ≡ f (view_at p i) = ap (count (λ x. q x && is_kept e.graph.root x)) recs in omega (arith, a, b, c);
    replaced = λ q. let f : View → ℕ = noted (λ x. q x && is_root_replaced e.graph.root x) in let a = total_set p.views i (view_at p i) w f (elem_at p.views i blank low) in let b = s.keeps.replaced q in
        let c : f w ≡ f (view_at p i) = ap (count (λ x. q x && is_root_replaced e.graph.root x)) recs in omega (arith, a, b, c);
  }

  -- a view with one record more, or none
  pub entered_keeps : (y : Option Record) (w : View) → w.records ≡ as_list y ++ (view_at p i).records
      → Keeps e.graph.root (set p.views i w) (set p.stores i (kept_store e.graph.root y (get_or p.stores i no_store))) (kept_list e.graph.root y p.root_replaced)
  entered_keeps y w recs = record {
    others = λ q. let t : Record → Bool = λ x. q x && is_kept e.graph.root x in let a = total_set p.views i (view_at p i) w (noted t) (elem_at p.views i blank low) in let b = s.keeps.others q in
        let c = stored_set q p.stores i (kept_store e.graph.root y (get_or p.stores i no_store)) no_store (let many = s.workers in omega (arith, many, low)) in let d = store_more e.graph.root q y (get_or p.stores i no_store) in
        let f = ap (count t) recs in let g = noted_more t y (view_at p i).records in omega (arith, a, b, c, d, f, g);
    replaced = λ q. let t : Record → Bool = λ x. q x && is_root_replaced e.graph.root x in let a = total_set p.views i (view_at p i) w (noted t) (elem_at p.views i blank low) in let b = s.keeps.replaced q in
        let d = list_more e.graph.root q y p.root_replaced in let f = ap (count t) recs in let g = noted_more t y (view_at p i).records in omega (arith, a, b, d, f, g);
  }
