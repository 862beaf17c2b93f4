-- Jobs as the lines of a view have them: what is finished takes its job along, and a change of the first item that keeps its jobs keeps all.
use Rattle.std.proofs.Common.{◌≡◌, ℕ, ◌+◌, ◌≤◌, Bool, true, false, cond, List, [], ◌∷◌, arith, refl, ap}
use Rattle.core_state.specs.Counts.{count, hit}
use Rattle.core_state.specs.Graph.{Graph, Plan}
use Rattle.core_state.specs.Lines.{Line, change_first, counted, credit, first_ended, of, onto, settled, settled_ended}
use Rattle.core_state.specs.Tests.{carries, is_ended}
use Rattle.core_state.specs.Views.{ends_with, is_finished}
use Rattle.core_state.specs.declared.job.Job.{Job}
use Rattle.core_state.specs.declared.views.Ended.{Ended}
use Rattle.core_state.specs.declared.views.Item.{Item}
use Rattle.core_state.proofs.Base.Counting.{bump_is}
use Rattle.core_state.proofs.Settle.View.{ends_carry}

counted_onto : (p : Item → Bool) (xs : List Item) (b : List Line) → counted p (onto xs b) ≡ count p xs + counted p b
counted_onto p [] b = omega arith
counted_onto p (x ∷ xs) b = let h = counted_onto p xs b in let a = bump_is (p x) (counted p (onto xs b)) in let c = bump_is (p x) (count p xs) in omega (arith, h, a, c)

module _ (i : Job) (k l : ℕ) where
  -- jobs that are held or have ended
  abbrev pub all_begun : List Line → List Ended → ℕ
  all_begun ls es = counted (carries i k l) ls + count (is_ended i k l) es

  -- there are no fewer of them
  abbrev pub Grow : List Line → List Ended → List Line → List Ended → Type 0
  Grow ls es now now_es = all_begun ls es ≤ all_begun now now_es

  -- what is finished takes its job along
  module _ (g : Graph) (p : Plan) (made : List ℕ) where
    pub settled_begun : (ls : List Line) (es : List Ended) → all_begun (settled g p made ls) (settled_ended g p made ls es) ≡ all_begun ls es
    settled_begun [] es = refl
    settled_begun (credit ∷ b) es = refl
    settled_begun (of x ∷ b) es = by (settled_begun b (ends_with x es)) (is_finished g p made x)
      where
        by : all_begun (settled g p made b) (settled_ended g p made b (ends_with x es)) ≡ all_begun b (ends_with x es) → (c : Bool) → all_begun (cond c (settled g p made b) (of x ∷ b)) (cond c (settled_ended g p made b (ends_with x es)) es) ≡ all_begun (of x ∷ b) es
        by h true = let a = ends_carry g p made i k l x es in let d = bump_is (carries i k l x) (counted (carries i k l) b) in omega (arith, h, a, d)
        by h false = refl

  -- a change of the first item that keeps its jobs
  pub record Keeps (f : List Item → List Item) (h : List Item → List Ended → List Ended) : Type 0 where
    pub carried : (x : Item) (es : List Ended) → hit (carries i k l x) + count (is_ended i k l) es ≤ count (carries i k l) (f (x ∷ [])) + count (is_ended i k l) (h (x ∷ []) es)
    pub nothing : (es : List Ended) → h [] es ≡ es

  -- none ends
  abbrev pub none_ends : List Item → List Ended → List Ended
  none_ends xs es = es

  pub change_grows : (f : List Item → List Item) (h : List Item → List Ended → List Ended) → Keeps f h → (ls : List Line) (es : List Ended) → Grow ls es (change_first f ls) (first_ended h ls es)
  change_grows f h keeps [] es = let a = ap (count (is_ended i k l)) (keeps.nothing es) in omega (arith, a)
  change_grows f h keeps (credit ∷ b) es = let a = ap (count (is_ended i k l)) (keeps.nothing es) in let c = counted_onto (carries i k l) (f []) (credit ∷ b) in omega (arith, a, c)
  change_grows f h keeps (of x ∷ b) es = let c = counted_onto (carries i k l) (f (x ∷ [])) b in let m = bump_is (carries i k l x) (counted (carries i k l) b) in let y = keeps.carried x es in omega (arith, c, m, y)

  -- an item that stays
  pub one_here : (x : Item) (es : List Ended) → hit (carries i k l x) + count (is_ended i k l) es ≤ count (carries i k l) (x ∷ []) + count (is_ended i k l) es
  one_here x es = let a = bump_is (carries i k l x) 0 in omega (arith, a)
