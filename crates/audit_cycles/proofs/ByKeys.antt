-- From edges by number to edges by key, and back.
use Rattle.std.proofs.Common.{◌≡◌, ◌∙◌, ℕ, suc, ◌-◌, ◌<◌, inl, inr, List, [], ◌∷◌, length, get_or, ap, sym, subst, arith, All}
use Rattle.std.proofs.lemmas.Bool.{cases_lt}
use Rattle.std.proofs.lemmas.List.{get_or_default}
use Rattle.raw_graph.specs.declared.raw.RawTask.{RawTask}
use Rattle.audit_checks.specs.Tasks.{IsAscending, key_of, keys_of, places_of, IsBefore, Leads, last, step}
use Rattle.audit_checks.specs.Accepted.{IsAcyclic}
use Rattle.audit_checks.specs.Faults.{IsLeast}
use Rattle.audit_checks.specs.Rows.{row, Names, IsWithin}
use Rattle.audit_checks.specs.Links.{Tells, places_in}
use Rattle.audit_checks.specs.declared.links.Links.{Links}
use Rattle.audit_checks.proofs.RowLemmas.{rows_long}
use Rattle.audit_checks.specs.ByKey.{number_in}
use Rattle.audit_cycles.specs.Levels.{level}
use Rattle.audit_cycles.specs.Chains.{IsChain, below}
use Rattle.audit_checks.proofs.KeyLaws.{number_at}
use Rattle.audit_checks.proofs.Keys.{same_key, ascending-≤}
use Rattle.audit_checks.proofs.LeastTask.{some_task, keys_count, key_of_at, contains_at}
use Rattle.audit_cycles.specs.Ancestors.{Reaches, here, up, IsFirstOnCycle, AreLevels}
use Rattle.audit_cycles.proofs.Searching.{named_at, place_of}
use Rattle.audit_cycles.proofs.CycleLaws.{row_inside}

-- the rows name by number what the tasks name by key
pub record AreLinked (ts : List RawTask) (keys : List ℕ) (places : List (List (ℕ × ℕ))) : Type 0 where
  pub is : keys_of ts ≡ keys
  pub rising : IsAscending keys
  pub long : length places ≡ length ts
  pub named : (i : ℕ) (d : RawTask) → i < length ts → Tells keys (places_of (get_or ts i d)) (row places i)

pub linked : (ts : List RawTask) (keys : List ℕ) (links : Links) → keys_of ts ≡ keys → IsAscending keys → length links.places.items ≡ length ts
    → ((i : ℕ) (d : RawTask) → i < length ts → Tells keys (places_of (get_or ts i d)) (row (places_in links) i)) → AreLinked ts keys (places_in links)
linked ts keys links is rising long named = record {
  is = is;
  rising = rising;
  long = omega (arith, rows_long links.places.items, long);
  named = named;
}

within_from : (n : ℕ) (es : List (ℕ × ℕ)) → ((j : ℕ) → j < length es → (get_or es j (0, 0)).0 < n) → IsWithin n es
within_from n [] all = tt
within_from n (e ∷ es) all = (all 0 (omega arith), within_from n es (λ j low. all (suc j) (omega arith)))

pub rows_within : (ts : List RawTask) (keys : List ℕ) (places : List (List (ℕ × ℕ))) → AreLinked ts keys places → (n : ℕ) → n ≡ length ts → All (IsWithin n) places
rows_within ts keys places are n n_is k d inside =
    let t = some_task ts (omega (arith, are.long)) in
    let tells = are.named k t (omega (arith, are.long)) in
    subst (IsWithin n) (get_or_default places k [] d inside)
    (within_from n (row places k) (λ j low. omega (arith, tells.inside j (omega (arith, tells.long)), keys_count ts keys are.is)))

-- the numbers of an edge
record IsEdge (keys : List ℕ) (places : List (List (ℕ × ℕ))) (p k : ℕ) : Type 0 where
  pub task : ℕ
  pub pred : ℕ
  pub task_in : task < length keys
  pub pred_in : pred < length keys
  pub task_key : get_or keys task 0 ≡ k
  pub pred_key : get_or keys pred 0 ≡ p
  pub names : Names (row places task) pred

edge_of : (ts : List RawTask) (keys : List ℕ) (places : List (List (ℕ × ℕ))) → AreLinked ts keys places → (p k : ℕ) → IsBefore ts p k → IsEdge keys places p k
edge_of ts keys places are p k before =
    let i = before.stands.0 in
    let j = before.names.0 in
    let t = before.task in
    let tells : Tells keys (places_of t) (row places i) = subst (λ u. Tells keys (places_of u) (row places i)) before.stands.2 (are.named i t before.stands.1) in
    record {
      task = i;
      pred = (get_or (row places i) j (0, 0)).0;
      task_in = omega (arith, before.stands.1, keys_count ts keys are.is);
      pred_in = tells.inside j before.names.1;
      task_key = sym (key_of_at ts keys i t are.is before.stands.1) ∙ (ap key_of before.stands.2 ∙ before.key);
      pred_key = tells.named j before.names.1 ∙ (get_or_default (places_of t) j 0 p before.names.1 ∙ before.names.2);
      names = named_at (row places i) j (omega (arith, tells.long, before.names.1));
    }

before_of : (ts : List RawTask) (keys : List ℕ) (places : List (List (ℕ × ℕ))) → AreLinked ts keys places → (k p : ℕ) → Names (row places k) p
    → IsBefore ts (get_or keys p 0) (get_or keys k 0)
before_of ts keys places are k p names =
    let inside : k < length ts = omega (arith, row_inside places k p names, are.long) in
    let d = some_task ts (omega arith) in
    let t = get_or ts k d in
    let tells = are.named k d inside in
    let at = place_of (row places k) p names in
    let there : at.0 < length (places_of t) = omega (arith, at.1, tells.long) in
    record {
      task = t;
      stands = (k, inside, get_or_default ts k t d inside);
      key = key_of_at ts keys k d are.is inside;
      names = contains_at (places_of t) at.0 (get_or keys p 0) (there, sym (tells.named at.0 there) ∙ ap (λ m. get_or keys m 0) at.2);
    }

leads_of : (ts : List RawTask) (keys : List ℕ) (places : List (List (ℕ × ℕ))) → AreLinked ts keys places → (j q : ℕ) → Names (row places j) q
    → (i : ℕ) → Reaches places q i → Leads ts (get_or keys i 0) (get_or keys j 0)
leads_of ts keys places are j q first _ here = last (get_or keys q 0) (get_or keys j 0) (before_of ts keys places are j q first)
leads_of ts keys places are j q first _ (up k p reaches names) =
    step (get_or keys p 0) (get_or keys k 0) (get_or keys j 0) (before_of ts keys places are k p names) (leads_of ts keys places are j q first k reaches)

-- the numbers of a chain
record IsLed (keys : List ℕ) (places : List (List (ℕ × ℕ))) (a b : ℕ) : Type 0 where
  pub from : ℕ
  pub by : ℕ
  pub to : ℕ
  pub from_in : from < length keys
  pub to_in : to < length keys
  pub from_key : get_or keys from 0 ≡ a
  pub to_key : get_or keys to 0 ≡ b
  pub names : Names (row places to) by
  pub reaches : Reaches places by from

led : (ts : List RawTask) (keys : List ℕ) (places : List (List (ℕ × ℕ))) → AreLinked ts keys places → (a b : ℕ) → Leads ts a b → IsLed keys places a b
led ts keys places are _ _ (last p k before) =
    let e = edge_of ts keys places are p k before in
    record { from = e.pred; by = e.pred; to = e.task; from_in = e.pred_in; to_in = e.task_in; from_key = e.pred_key; to_key = e.task_key; names = e.names; reaches = here }
led ts keys places are _ _ (step p q k before leads) =
    let e = edge_of ts keys places are p q before in
    let w = led ts keys places are q k leads in
    let same : e.task ≡ w.from = same_key keys are.rising e.task w.from e.task_in w.from_in (e.task_key ∙ sym w.from_key) in
    record {
      from = e.pred;
      by = w.by;
      to = w.to;
      from_in = e.pred_in;
      to_in = w.to_in;
      from_key = e.pred_key;
      to_key = w.to_key;
      names = w.names;
      reaches = up w.from e.pred w.reaches (subst (λ m. Names (row places m) e.pred) same e.names);
    }

-- the first task on a cycle has the least key on one
pub least_key : (ts : List RawTask) (keys : List ℕ) (places : List (List (ℕ × ℕ))) (k : ℕ) → AreLinked ts keys places → IsFirstOnCycle places k
    → IsLeast (λ key. Leads ts key key) (get_or keys k 0)
least_key ts keys places k are is = record {
  holds = leads_of ts keys places are k is.on.by is.on.names k is.on.back;
  least = λ m low leads.
      let w = led ts keys places are m m leads in
      let same : w.from ≡ w.to = same_key keys are.rising w.from w.to w.from_in w.to_in (w.from_key ∙ sym w.to_key) in
      elim (cases_lt w.to k) [
        | inl early ↦ is.first w.to early (record { by = w.by; names = w.names; back = subst (Reaches places w.by) same w.reaches })
        | inr late ↦ omega (arith, ascending-≤ keys are.rising k w.to late w.to_in, w.to_key, low)
      ];
}

-- levels rise along each edge
pub acyclic : (ts : List RawTask) (keys : List ℕ) (places : List (List (ℕ × ℕ))) (levels : List ℕ) → AreLinked ts keys places → AreLevels places levels → IsAcyclic ts
acyclic ts keys places levels are of = record {
  number = λ key. level levels (number_in keys key);
  rises = λ p k before.
      let e = edge_of ts keys places are p k before in
      let n : length keys ≡ length places = omega (arith, keys_count ts keys are.is, are.long) in
      let task_in : e.task < length places = omega (arith, e.task_in, n) in
      let pred_in : e.pred < length places = omega (arith, e.pred_in, n) in
      let chain : IsChain places e.task (suc (level levels e.pred - 1)) = below e.task e.pred (level levels e.pred - 1) e.names (of.ranks e.pred pred_in).chain in
      omega (
        arith,
        ap (level levels) (number_at keys e.task k are.rising e.task_in e.task_key),
        ap (level levels) (number_at keys e.pred p are.rising e.pred_in e.pred_key),
        (of.ranks e.task task_in).longest (suc (level levels e.pred - 1)) chain,
        of.some e.pred pred_in,
        of.some e.task task_in,
      );
}
