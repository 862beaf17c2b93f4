-- A pass that is cut for workers.
use Rattle.std.proofs.Common.{◌≡◌, ◌∙◌, ℕ, zero, suc, ◌+◌, ◌-◌, ◌%◌, ◌<◌, ◌≤◌, length, List, [], ◌∷◌, ◌++◌, replicate, ap, sym, subst, refl, arith}
use Rattle.std.specs.List.{insert}
use Rattle.std.proofs.lemmas.List.{map-append, replicate-append-replicate}
use Rattle.std.proofs.lemmas.List.Elements.{All-cons, All-push}
use Rattle.atomic_table.specs.Seated.{TableId}
use Rattle.core_state.specs.Counts.{total_of}
use Rattle.core_state.specs.Graph.{Setting}
use Rattle.core_state.specs.Sure.{IsSure}
use Rattle.core_state.specs.Views.{all_parts, bare, less_one, newcomer, opener}
use Rattle.core_state.specs.declared.views.Known.{Known}
use Rattle.core_state.specs.declared.views.View.{View}
use Rattle.core_steps.specs.Table.{view_in}
use Rattle.task_table.specs.Passes.{Passing}
use Rattle.worker_pool.specs.Joining.{AreOf, begun_views, parts_of, root_known, views_of}

-- the parts of views that begin
one_part : (knows : List Known) (count : ℕ) → parts_of (replicate count (bare 1 knows)) ≡ count
unfolding total_of
one_part knows zero = refl
one_part knows (suc count) = let a = one_part knows count in omega (arith, a)

pub begun_parts : (e : Setting) (knows : List Known) (workers : ℕ) → 1 ≤ workers → workers ≤ 64 → parts_of (begun_views e knows workers) ≡ all_parts
unfolding total_of
begun_parts e knows workers some few = let a = one_part knows (workers - 1) in omega (arith, a, some, few)

-- views of which each has kept its parts
pub parts_stay : (vs us : List View) → length us ≡ length vs → ((i : ℕ) → i < length vs → (view_in us i).parts ≡ (view_in vs i).parts) → parts_of us ≡ parts_of vs
unfolding total_of
parts_stay [] [] same each = refl
parts_stay [] (u ∷ us) same each = absurd (omega (arith, same))
parts_stay (v ∷ vs) [] same each = absurd (omega (arith, same))
parts_stay (v ∷ vs) (u ∷ us) same each = let a = each 0 (omega arith) in let b = parts_stay vs us (omega (arith, same)) (λ i low. each (suc i) (omega (arith, low))) in omega (arith, a, b)

-- so many passes there are: one that goes on with what the first pass had, and the others
pub record IsCut (e : Setting) (z : TableId) (count : ℕ) (first : Passing) (ps : List Passing) : Type 0 where
  pub some : 1 ≤ count
  pub of_table : first.table ≡ z
  pub opens : first.view ≡ opener (all_parts - (count - 1)) e.graph.root (e.graph.root % e.shape.rows)
  pub others : AreOf z ps
  pub views : views_of ps ≡ replicate (count - 1) (bare 1 (root_known e))

-- one more was cut off
pub cut_more : (e : Setting) (z : TableId) (count : ℕ) (first : Passing) (ps : List Passing) → IsCut e z count first ps → (left other : Passing) → left.table ≡ z → other.table ≡ z → left.view ≡ less_one first.view → other.view ≡ newcomer first.view → (qs : List Passing) → qs ≡ ps ++ other ∷ [] → IsCut e z (count + 1) left qs
cut_more e z count first ps old left other left_of other_of less new qs is = let s = old.some in record {
  some = omega (arith, s);
  of_table = left_of;
  opens = less ∙ ap less_one old.opens ∙ ap (λ (n : ℕ). opener n e.graph.root (e.graph.root % e.shape.rows)) (omega (arith, s));
  others = subst (AreOf z) (sym is) (All-push (λ p. p.table ≡ z) ps other old.others other_of);
  views = ap views_of is ∙ map-append (λ (p : Passing). p.view) ps (other ∷ []) ∙ (λ j. old.views j ++ (new ∙ ap newcomer old.opens) j ∷ []) ∙ replicate-append-replicate (count - 1) 1 (bare 1 (root_known e)) ∙ ap (λ (n : ℕ). replicate n (bare 1 (root_known e))) (omega (arith, s));
}

insert_first : {X : Type 0} (xs : List X) (x : X) → insert xs 0 x ≡ x ∷ xs
insert_first [] x = refl
insert_first (y ∷ ys) x = refl

module _ (e : Setting) (z : TableId) (count : ℕ) (first : Passing) (ps : List Passing) (cut : IsCut e z count first ps) (qs : List Passing) (is : qs ≡ insert ps 0 first) where
  all_are : qs ≡ first ∷ ps
  all_are = is ∙ insert_first ps first

  pub cut_tables : AreOf z qs
  cut_tables = subst (AreOf z) (sym all_are) (All-cons (λ p. p.table ≡ z) first ps cut.of_table cut.others)

  pub cut_views : (workers : ℕ) → count ≡ workers → views_of qs ≡ begun_views e (root_known e) workers
  cut_views workers all = ap views_of all_are ∙ (λ j. cut.opens j ∷ cut.views j) ∙ ap (begun_views e (root_known e)) all

  pub cut_sure : IsSure e first.view → IsSure e (view_in (views_of qs) 0)
  cut_sure sure = subst (λ (os : List Passing). IsSure e (view_in (views_of os) 0)) (sym all_are) sure
