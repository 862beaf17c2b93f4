-- What the tables of a graph say of a key.
use Rattle.std.proofs.Common.{◌≡◌, ◌∙◌, ℕ, zero, suc, ◌<◌, List, [], ◌∷◌, length, get_or, map, refl, ap, sym, subst, arith, Vec, All, Some, slice_get, pos, inl, inr}
use Rattle.std.proofs.lemmas.List.{get_or_default}
use Rattle.std.specs.declared.alloc.Global.{Global}
use Rattle.formula_text.specs.Formulas.{tree}
use Rattle.formula_text.specs.Trees.{Tree, Number, Input, Minus, Two, HasInputs, Uses}
use Rattle.raw_graph.specs.declared.raw.RawTask.{RawTask}
use Rattle.audit_checks.specs.Rows.{rows_of, row, cell, IsWithin}
use Rattle.audit_checks.specs.ByKey.{number_in, keyed, row_by}
use Rattle.audit_checks.proofs.RowLemmas.{row_at}
use Rattle.acyclic_audit.specs.FileGraphs.{inputs_in, tree_in, trees_of, input_counts}

pub get_some : {X : Type 0} (xs : List X) (i : ℕ) (x : X) → i < length xs → x ≡ get_or xs i x → slice_get xs i ≡ Some x
get_some [] i x inside here = absurd (omega arith)
get_some (y ∷ ys) zero x inside here = ap Some (sym here)
get_some (y ∷ ys) (suc i) x inside here = get_some ys i x (omega arith) here

pub get_map : {X Y : Type 0} (f : X → Y) (xs : List X) (i : ℕ) (x : X) → slice_get xs i ≡ Some x → slice_get (map f xs) i ≡ Some (f x)
get_map f [] i x e = absurd (cc)
get_map f (y ∷ ys) zero x e = cc
get_map f (y ∷ ys) (suc i) x e = get_map f ys i x e

pub map_at : {X Y : Type 0} (f : X → Y) (xs : List X) (i : ℕ) (x : X) (d : Y) → i < length xs → x ≡ get_or xs i x → get_or (map f xs) i d ≡ f x
map_at f [] i x d inside here = absurd (omega arith)
map_at f (y ∷ ys) zero x d inside here = ap f (sym here)
map_at f (y ∷ ys) (suc i) x d inside here = map_at f ys i x d (omega arith) here

-- what stands at place j of the row with number i
pub cell_at : (rows : List (Vec (ℕ × ℕ) Global)) (i j : ℕ) (v : Vec (ℕ × ℕ) Global) (e : ℕ × ℕ) → i < length rows → v ≡ get_or rows i v
    → j < length v.items → e ≡ get_or v.items j e → cell (rows_of rows) i j ≡ Some e
cell_at rows i j v e inside here low there = ap (λ l. slice_get l j) (row_at rows i v inside here) ∙ get_some v.items j e low there

pub edge_at : (keys : List ℕ) (rows : List (Vec (ℕ × ℕ) Global)) (k i j : ℕ) (e : ℕ × ℕ) (x : ℕ) → i ≡ number_in keys k → cell (rows_of rows) i j ≡ Some e
    → e.0 < length keys → x ≡ get_or keys e.0 x → slice_get (row_by keys (rows_of rows) k) j ≡ Some (x, e.1)
edge_at keys rows k i j e x is stands known key =
    let f : ℕ × ℕ → ℕ × ℕ = λ r. (get_or keys r.0 0, r.1) in
    ap (λ n. slice_get (keyed keys (row (rows_of rows) n)) j) (sym is) ∙ (get_map f (row (rows_of rows) i) j e stands
    ∙ ap (λ n. Some (n, e.1)) (sym (get_or_default keys e.0 x 0 known) ∙ sym key))

pub row_length : (keys : List ℕ) (rows : List (Vec (ℕ × ℕ) Global)) (k i : ℕ) (v : Vec (ℕ × ℕ) Global) → i ≡ number_in keys k → i < length rows → v ≡ get_or rows i v
    → length (row_by keys (rows_of rows) k) ≡ length v.items
row_length keys rows k i v is inside here =
    ap (λ n. length (keyed keys (row (rows_of rows) n))) (sym is) ∙ (long (row (rows_of rows) i) ∙ ap length (row_at rows i v inside here))
  where
    long : (es : List (ℕ × ℕ)) → length (keyed keys es) ≡ length es
    long [] = refl
    long (e ∷ es) = ap suc (long es)

pub inputs_at : (keys : List ℕ) (ts : List RawTask) (k i : ℕ) (t : RawTask) → i ≡ number_in keys k → i < length ts → t ≡ get_or ts i t → inputs_in keys ts k ≡ length t.inputs
inputs_at keys ts k i t is inside here =
    ap (λ n. get_or (input_counts ts) n 0) (sym is) ∙ map_at (λ (u : RawTask). length u.inputs) ts i t 0 inside here

pub tree_in_at : (keys : List ℕ) (ts : List RawTask) (k i : ℕ) (t : RawTask) → i ≡ number_in keys k → i < length ts → t ≡ get_or ts i t → tree_in keys ts k ≡ tree t.formula
tree_in_at keys ts k i t is inside here =
    ap (λ n. get_or (trees_of ts) n (Number (pos 0))) (sym is) ∙ map_at (λ (u : RawTask). tree u.formula) ts i t (Number (pos 0)) inside here

-- a formula whose inputs are below n has n inputs
pub inputs_below : (t : Tree) (n : ℕ) → ((i : ℕ) → Uses t i → i < n) → HasInputs t n
inputs_below (Number k) n below = tt
inputs_below (Input i) n below = below i refl
inputs_below (Minus a) n below = inputs_below a n below
inputs_below (Two op a b) n below = (inputs_below a n (λ i uses. below i (inl uses)), inputs_below b n (λ i uses. below i (inr uses)))

pub given_at : (keys : List ℕ) (ts : List RawTask) (k i : ℕ) (t : RawTask) → i ≡ number_in keys k → i < length ts → t ≡ get_or ts i t
    → ((j : ℕ) → Uses (tree_in keys ts k) j → j < inputs_in keys ts k) → HasInputs (tree t.formula) (inputs_in keys ts k)
given_at keys ts k i t is inside here given =
    subst (λ r. HasInputs r (inputs_in keys ts k)) (tree_in_at keys ts k i t is inside here) (inputs_below (tree_in keys ts k) (inputs_in keys ts k) given)

-- ---- rows

within_cells : (n : ℕ) (es : List (ℕ × ℕ)) → ((j : ℕ) (e : ℕ × ℕ) → slice_get es j ≡ Some e → e.0 < n) → IsWithin n es
within_cells n [] all = tt
within_cells n (e ∷ es) all = (all 0 e refl, within_cells n es (λ j f at. all (suc j) f at))

row_default : {X : Type 0} (rows : List (List X)) (i : ℕ) (d : List X) → i < length rows → get_or rows i d ≡ row rows i
row_default rows i d inside = get_or_default rows i d [] inside

pub all_within : (rows : List (Vec (ℕ × ℕ) Global)) (n : ℕ) → ((i j : ℕ) (e : ℕ × ℕ) → cell (rows_of rows) i j ≡ Some e → e.0 < n) → All (IsWithin n) (rows_of rows)
all_within rows n all i d inside =
    subst (IsWithin n) (sym (row_default (rows_of rows) i d inside)) (within_cells n (row (rows_of rows) i) (λ j e at. all i j e at))
