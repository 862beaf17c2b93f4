-- What the findings on tasks in ascending order of keys mean.
use Rattle.std.proofs.Common.{◌≡◌, ◌∙◌, ℕ, zero, suc, ◌+◌, ◌-◌, ◌<◌, ◌≤◌, List, [], ◌∷◌, length, get_or, take, map, refl, ap, sym, subst, arith, All, Some, slice_get, Bool, true, false, cond}
use Rattle.std.specs.Prelude.{◌&&◌, nat_lt, IfSome}
use Rattle.std.proofs.lemmas.Bool.Decides.{nat_tests}
use Rattle.std.proofs.lemmas.List.{get_or_default}
use Rattle.std.proofs.lemmas.List.Sums.{sum_by-cons}
use Rattle.std.proofs.lemmas.List.Sorted.{IsPermutation-refl}
use Rattle.std.specs.List.Sorted.{IsPermutation}
use Rattle.formula_text.specs.Formulas.{tree}
use Rattle.graph_model.specs.declared.graph.Place.{Place}
use Rattle.raw_graph.specs.declared.raw.RawTask.{RawTask}
use Rattle.audit_checks.specs.Tasks.{IsAscending, key_of, keys_of, places_of, IsBefore}
use Rattle.audit_checks.specs.Rows.{row, Names}
use Rattle.audit_cycles.specs.Levels.{level}
use Rattle.audit_checks.specs.Links.{Tells, places_in}
use Rattle.audit_cycles.specs.Chains.{IsChain, start, below}
use Rattle.audit_checks.specs.ByKey.{number_in, keyed}
use Rattle.audit_checks.proofs.Keys.{ascending-≤}
use Rattle.audit_checks.proofs.KeyLaws.{number_at}
use Rattle.audit_checks.proofs.LeastTask.{key_of_at, keys_count, some_task}
use Rattle.audit_blocks.specs.Versions.{HasFileVersions}
use Rattle.audit_blocks.specs.Numbering.{HasPlace, is_own, own_count, block_in, version_in}
use Rattle.acyclic_audit.specs.declared.findings.Findings.{Findings}
use Rattle.acyclic_audit.specs.FileGraphs.{graph_of, tree_in}
use Rattle.acyclic_audit.specs.Found.{IsFound}
use Rattle.acyclic_audit.specs.Meaning.{IsInLimits, IsGraphOf, HasBlocks, IsDepth, HasChain, own_before}
use Rattle.acyclic_audit.specs.Meaning as meaning
use Rattle.acyclic_audit.proofs.Lookups.{get_some, map_at, inputs_at, tree_in_at}
use Rattle.acyclic_audit.proofs.Reached.{named_cell, cell_names}
use Rattle.acyclic_audit.proofs.Laws.{get_is, places_inside, stands_key}
use Rattle.acyclic_audit.proofs.Ports.{succs_of}

-- ---- the task with number i

pub here_at : (ts : List RawTask) (i : ℕ) (d : RawTask) → i < length ts → get_or ts i d ≡ get_or ts i (get_or ts i d)
here_at ts i d inside = get_or_default ts i d (get_or ts i d) inside

pub number_of_task : (keys : List ℕ) (ts : List RawTask) (i : ℕ) (d : RawTask) → keys_of ts ≡ keys → IsAscending keys → i < length ts → i ≡ number_in keys (key_of (get_or ts i d))
number_of_task keys ts i d is up inside =
    sym (number_at keys i (key_of (get_or ts i d)) up (omega (arith, keys_count ts keys is)) (sym (key_of_at ts keys i d is inside)))

names_told : (keys names : List ℕ) (es : List (ℕ × ℕ)) → Tells keys names es → map (λ e. e.0) (keyed keys es) ≡ names
names_told keys [] [] tells = refl
names_told keys [] (e ∷ es) tells = absurd (omega (arith, tells.long))
names_told keys (n ∷ ns) [] tells = absurd (omega (arith, tells.long))
names_told keys (n ∷ ns) (e ∷ es) tells =
    let first : get_or keys e.0 0 ≡ n = tells.named 0 (omega arith) in
    let rest = names_told keys ns es (record {
      long = omega (arith, tells.long);
      inside = λ j low. tells.inside (suc j) (omega arith);
      named = λ j low. tells.named (suc j) (omega arith);
    }) in
    ap (λ m. m ∷ map (λ r. r.0) (keyed keys es)) first ∙ ap (λ l. n ∷ l) rest

-- ---- chains by numbers and by keys

before_from : (keys : List ℕ) (ts : List RawTask) (sink : ℕ) (x : Findings) → IsFound keys ts sink x → (k p : ℕ) → k < length ts → Names (row (places_in x.links) k) p
    → IsBefore ts (get_or keys p 0) (get_or keys k 0)
before_from keys ts sink x h k p inside names =
    let d = some_task ts (omega arith) in
    let t = get_or ts k d in
    let r = row (places_in x.links) k in
    let tells = h.named k d inside in
    let at = named_cell r p names in
    let j = at.0 in
    let low : j < length (places_of t) = omega (arith, tells.long, cell_low r j (p, at.1) at.2) in
    let same : get_or r j (0, 0) ≡ (p, at.1) = get_is r (p, at.1) (0, 0) j at.2 in
    let name : get_or (places_of t) j 0 ≡ get_or keys p 0 = sym (tells.named j low) ∙ ap (λ e. get_or keys e.0 0) same in
    record {
      task = t;
      stands = (k, inside, sym (here_at ts k d inside));
      key = key_of_at ts keys k d h.keys_are inside;
      names = (j, low, get_or_default (places_of t) j (get_or keys p 0) 0 low ∙ name);
    }
  where
    cell_low : (es : List (ℕ × ℕ)) (j : ℕ) (e : ℕ × ℕ) → slice_get es j ≡ Some e → j < length es
    cell_low [] j e is = absurd (cc)
    cell_low (r ∷ es) zero e is = omega arith
    cell_low (r ∷ es) (suc j) e is = omega (arith, cell_low es j e is)

chain_by_key : (keys : List ℕ) (ts : List RawTask) (sink : ℕ) (x : Findings) → IsFound keys ts sink x → (k n : ℕ) → k < length ts → IsChain (places_in x.links) k n → HasChain ts (get_or keys k 0) n
chain_by_key keys ts sink x h k n inside (start _) = meaning.start (get_or keys k 0)
chain_by_key keys ts sink x h k n inside (below _ p m names chain) =
    let at = named_cell (row (places_in x.links) k) p names in
    let low : p < length ts = omega (arith, places_inside keys ts sink x h k at.0 (p, at.1) at.2, keys_count ts keys h.keys_are) in
    meaning.below (get_or keys k 0) (get_or keys p 0) m (before_from keys ts sink x h k p inside names) (chain_by_key keys ts sink x h p m low chain)

-- p is named by the task with the key k: what this is by numbers
pub record IsNamedBy (keys : List ℕ) (places : List (List (ℕ × ℕ))) (p k : ℕ) : Type 0 where
  pub names : Names (row places (number_in keys k)) (number_in keys p)
  pub inside : number_in keys p < length keys

before_to : (keys : List ℕ) (ts : List RawTask) (sink : ℕ) (x : Findings) → IsFound keys ts sink x → (p k : ℕ) → IsBefore ts p k → IsNamedBy keys (places_in x.links) p k
before_to keys ts sink x h p k is =
    let m = is.stands.0 in
    let inside = is.stands.1 in
    let t = is.task in
    let r = row (places_in x.links) m in
    let tells : Tells keys (places_of t) r = subst (λ u. Tells keys (places_of u) r) is.stands.2 (h.named m t inside) in
    let key : get_or keys m 0 ≡ k = sym (key_of_at ts keys m t h.keys_are inside) ∙ (ap key_of is.stands.2 ∙ is.key) in
    let number : number_in keys k ≡ m = number_at keys m k h.ascending (omega (arith, keys_count ts keys h.keys_are)) key in
    let j = is.names.0 in
    let low = is.names.1 in
    let e = get_or r j (0, 0) in
    let name : get_or keys e.0 0 ≡ p = tells.named j low ∙ (get_or_default (places_of t) j 0 p low ∙ is.names.2) in
    let other : number_in keys p ≡ e.0 = number_at keys e.0 p h.ascending (tells.inside j low) name in
    let at : slice_get r j ≡ Some e = get_some r j e (omega (arith, tells.long)) (get_or_default r j (0, 0) e (omega (arith, tells.long))) in
    record {
      names = subst (λ i. Names (row (places_in x.links) i) (number_in keys p)) (sym number) (subst (Names r) (sym other) (cell_names r j e at));
      inside = subst (λ i. i < length keys) (sym other) (tells.inside j low);
    }

chain_by_number : (keys : List ℕ) (ts : List RawTask) (sink : ℕ) (x : Findings) → IsFound keys ts sink x → (k n : ℕ) → HasChain ts k n → IsChain (places_in x.links) (number_in keys k) n
chain_by_number keys ts sink x h k n (meaning.start _) = start (number_in keys k)
chain_by_number keys ts sink x h k n (meaning.below _ p m before chain) =
    below (number_in keys k) (number_in keys p) m (before_to keys ts sink x h p k before).names (chain_by_number keys ts sink x h p m chain)

depth_of : (keys : List ℕ) (ts : List RawTask) (sink : ℕ) (x : Findings) → IsFound keys ts sink x → (i : ℕ) (d : RawTask) → i < length ts
    → IsDepth ts (key_of (get_or ts i d)) (level x.levels.items (number_in keys (key_of (get_or ts i d))) - 1)
depth_of keys ts sink x h i d inside =
    let k = key_of (get_or ts i d) in
    let number = number_of_task keys ts i d h.keys_are h.ascending inside in
    let rank = (h.levels i (omega (arith, keys_count ts keys h.keys_are))).1 in
    let depth : IsDepth ts k (level x.levels.items i - 1) = record {
      chain = subst (λ n. HasChain ts n (level x.levels.items i - 1)) (sym (key_of_at ts keys i d h.keys_are inside)) (chain_by_key keys ts sink x h i (level x.levels.items i - 1) inside rank.chain);
      longest = λ n chain. rank.longest n (subst (λ m. IsChain (places_in x.links) m n) (sym number) (chain_by_number keys ts sink x h k n chain));
    } in
    subst (λ m. IsDepth ts k (level x.levels.items m - 1)) number depth

-- ---- blocks

no_own : (t : RawTask) (n : ℕ) → n ≤ key_of t → (is_own t && nat_lt (key_of t) n) ≡ false
no_own t n high = let e : nat_lt (key_of t) n ≡ false = grind (arith, nat_tests) in rw e (and_false (is_own t))
  where
    and_false : (b : Bool) → (b && false) ≡ false
    and_false true = refl
    and_false false = refl

own_still : (t : RawTask) (n : ℕ) → key_of t < n → (is_own t && nat_lt (key_of t) n) ≡ is_own t
own_still t n low = let e : nat_lt (key_of t) n ≡ true = grind (arith, nat_tests) in rw e (and_true (is_own t))
  where
    and_true : (b : Bool) → (b && true) ≡ b
    and_true true = refl
    and_true false = refl

own_count_before : (ts : List RawTask) (i n : ℕ) → ((j : ℕ) → j < i → j < length ts → get_or (keys_of ts) j 0 < n) → ((j : ℕ) → i ≤ j → j < length ts → n ≤ get_or (keys_of ts) j 0)
    → own_count (take i ts) ≡ own_before ts n
own_count_before [] zero n low high = refl
own_count_before [] (suc i) n low high = refl
own_count_before (t ∷ ts) zero n low high =
    let rest : own_count (take 0 ts) ≡ own_before ts n = own_count_before ts 0 n (λ j early inside. absurd (omega arith)) (λ j late inside. high (suc j) (omega arith) (omega arith)) in
    let none : own_count (take 0 ts) ≡ 0 = no_take ts in
    rw (sum_by-cons (λ (u : RawTask). cond (is_own u && nat_lt (key_of u) n) 1 0) t ts, no_own t n (high 0 (omega arith) (omega arith))) (omega (arith, rest, none))
  where
    no_take : (us : List RawTask) → own_count (take 0 us) ≡ 0
    no_take [] = refl
    no_take (u ∷ us) = refl
own_count_before (t ∷ ts) (suc i) n low high =
    let rest : own_count (take i ts) ≡ own_before ts n = own_count_before ts i n (λ j early inside. low (suc j) (omega arith) (omega arith)) (λ j late inside. high (suc j) (omega arith) (omega arith)) in
    rw (sum_by-cons (λ (u : RawTask). cond (is_own u && nat_lt (key_of u) n) 1 0) t ts, own_still t n (low 0 (omega arith) (omega arith)), sum_by-cons (λ (u : RawTask). cond (is_own u) 1 0) t (take i ts))
    (ap (λ m. cond (is_own t) 1 0 + m) rest)

own_at : (keys : List ℕ) (ts : List RawTask) (i : ℕ) (d : RawTask) → keys_of ts ≡ keys → IsAscending keys → i < length ts → own_count (take i ts) ≡ own_before ts (key_of (get_or ts i d))
own_at keys ts i d is up inside =
    let up' : IsAscending (keys_of ts) = subst IsAscending (sym is) up in
    let long = keys_count ts (keys_of ts) refl in
    let key : key_of (get_or ts i d) ≡ get_or (keys_of ts) i 0 = key_of_at ts (keys_of ts) i d refl inside in
    own_count_before ts i (key_of (get_or ts i d))
    (λ j early low. omega (arith, up'.rises j i early (omega arith), key))
    (λ j late low. omega (arith, ascending-≤ (keys_of ts) up' i j late (omega (arith, long, low)), key))

-- ---- the blocks of keys

abbrev place : ℕ → ℕ → Place
place b v = record { block = b; version = v }

same_place : (p : Place) (b v : ℕ) → p.block ≡ b → p.version ≡ v → p ≡ place b v
same_place p b v blocks versions = ap (λ m. place m p.version) blocks ∙ ap (λ m. place b m) versions

place_of : (keys : List ℕ) (ts : List RawTask) (sink : ℕ) (x : Findings) → (h : IsFound keys ts sink x) → (i : ℕ) (d : RawTask) → i < length ts
    → HasPlace h.numbered.names (length h.numbered.names + own_before ts (key_of (get_or ts i d))) (get_or ts i d).block
    (place (block_in keys x.blocks.places.items (key_of (get_or ts i d))) (version_in keys x.blocks.places.items (key_of (get_or ts i d))))
place_of keys ts sink x h i d inside =
    let n = h.numbered in
    let places = x.blocks.places.items in
    let t = get_or ts i d in
    let low : i < length places = omega (arith, n.long) in
    let p = get_or places i (place 0 0) in
    let here : p ≡ get_or places i p = get_or_default places i (place 0 0) p low in
    let number = number_of_task keys ts i d h.keys_are h.ascending inside in
    let block : p.block ≡ block_in keys places (key_of t) = sym (map_at (λ (q : Place). q.block) places i p 0 low here) ∙ ap (λ m. get_or (map (λ (q : Place). q.block) places) m 0) number in
    let version : p.version ≡ version_in keys places (key_of t) = sym (map_at (λ (q : Place). q.version) places i p 0 low here) ∙ ap (λ m. get_or (map (λ (q : Place). q.version) places) m 0) number in
    let each = n.each i t p (get_some ts i t inside (here_at ts i d inside)) (get_some places i p low here) in
    subst (HasPlace n.names (length n.names + own_before ts (key_of t)) t.block) (same_place p (block_in keys places (key_of t)) (version_in keys places (key_of t)) block version)
    (subst (λ m. HasPlace n.names (length n.names + m) t.block p) (own_at keys ts i d h.keys_are h.ascending inside) each)

blocks_of : (keys : List ℕ) (ts : List RawTask) (sink : ℕ) (x : Findings) → IsFound keys ts sink x → HasBlocks ts (graph_of keys ts x)
blocks_of keys ts sink x h = record {
  names = h.numbered.names;
  ascending = h.numbered.ascending;
  stated = h.numbered.stated;
  only = h.numbered.only;
  count_is = h.numbered.count_is;
  each = place_of keys ts sink x h;
}

-- ---- the whole

pub meaning_of : (keys : List ℕ) (ts : List RawTask) (sink : ℕ) (x : Findings) → IsFound keys ts sink x → IsGraphOf ts sink (graph_of keys ts x)
meaning_of keys ts sink x h = record {
  ascending = λ k next. h.ascending.rises k (k + 1) (omega arith) next;
  keys = subst (IsPermutation (keys_of ts)) h.keys_are (IsPermutation-refl (keys_of ts));
  sink_is = h.sink_is;
  preds = λ i d inside.
      ap (λ m. map (λ e. e.0) (keyed keys (row (places_in x.links) m))) (sym (number_of_task keys ts i d h.keys_are h.ascending inside))
      ∙ names_told keys (places_of (get_or ts i d)) (row (places_in x.links) i) (h.named i d inside);
  succs = λ i d inside.
      succs_of keys ts sink x h (key_of (get_or ts i d))
      (stands_key keys i (key_of (get_or ts i d)) (omega (arith, keys_count ts keys h.keys_are)) (sym (key_of_at ts keys i d h.keys_are inside)));
  inputs = λ i d inside. inputs_at keys ts (key_of (get_or ts i d)) i (get_or ts i d) (number_of_task keys ts i d h.keys_are h.ascending inside) inside (here_at ts i d inside);
  blocks = blocks_of keys ts sink x h;
  cells = λ b. refl;
  ranks = depth_of keys ts sink x h;
}

pub trees_told : (keys : List ℕ) (ts : List RawTask) (sink : ℕ) (x : Findings) → IsFound keys ts sink x → All (λ t. tree_in keys ts (key_of t) ≡ tree t.formula) ts
trees_told keys ts sink x h i d inside =
    tree_in_at keys ts (key_of (get_or ts i d)) i (get_or ts i d) (number_of_task keys ts i d h.keys_are h.ascending inside) inside (here_at ts i d inside)

-- the limits give what the blocks ask
pub file_versions : (ts : List RawTask) (sink : ℕ) → IsInLimits ts sink → HasFileVersions ts
file_versions ts sink limits i t b v at is =
    let here : get_or ts i t ≡ t = get_is ts t t i at in
    let some = subst (λ u. IfSome u.block (λ w. (1 ≤ w.1) × (w.1 ≤ 16384))) here (limits.versions i t (inside ts i t at)) in
    subst (λ o. IfSome o (λ w. (1 ≤ w.1) × (w.1 ≤ 16384))) is some
  where
    inside : (us : List RawTask) (j : ℕ) (u : RawTask) → slice_get us j ≡ Some u → j < length us
    inside [] j u e = absurd (cc)
    inside (w ∷ us) zero u e = omega arith
    inside (w ∷ us) (suc j) u e = omega (arith, inside us j u e)
