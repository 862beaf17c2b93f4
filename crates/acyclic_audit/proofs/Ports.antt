-- The successor edges that the findings tell are all places that name the task, in ascending order.
use Rattle.std.proofs.Common.{◌≡◌, ◌∙◌, ℕ, ◌<◌, List, length, get_or, ap, sym, subst, arith, Contains, Some, slice_get}
use Rattle.std.proofs.lemmas.List.{get_or_default}
use Rattle.std.proofs.lemmas.List.Sorted.{IsPermutation-sym, Contains-permutation}
use Rattle.std.specs.List.Sorted.{IsPermutation}
use Rattle.raw_graph.specs.declared.raw.RawTask.{RawTask}
use Rattle.audit_checks.specs.Tasks.{key_of, places_of}
use Rattle.audit_checks.specs.Rows.{row, cell}
use Rattle.audit_checks.specs.Links.{Tells, places_in, succs_in}
use Rattle.audit_checks.specs.ByKey.{number_in, keyed, row_by}
use Rattle.audit_checks.proofs.KeyLaws.{number_at}
use Rattle.audit_checks.proofs.LeastTask.{key_of_at, keys_count}
use Rattle.acyclic_audit.specs.declared.findings.Findings.{Findings}
use Rattle.acyclic_audit.specs.Found.{IsFound}
use Rattle.acyclic_audit.specs.Meaning.{NamesAt, AreSuccs}
use Rattle.acyclic_audit.proofs.Lookups.{get_some, get_map}
use Rattle.acyclic_audit.proofs.Laws.{get_inside, get_is, stands, tells_at, entry, succs_inside, stands_key}

-- what stands at a place is named there
named_from : (keys : List ℕ) (ts : List RawTask) (sink : ℕ) (x : Findings) → IsFound keys ts sink x → (k j p q : ℕ) → Contains keys k
    → slice_get (row_by keys (places_in x.links) k) j ≡ Some (p, q) → NamesAt ts k j p
named_from keys ts sink x h k j p q has at =
    let places = places_in x.links in
    let s = stands keys ts sink x h k has in
    let names = places_of s.task in
    let r = row places s.number in
    let tells : Tells keys names r = tells_at keys ts sink x h s.number s.task s.known s.here in
    let found = entry keys places k j p q at in
    let e = found.0 in
    let there : slice_get r j ≡ Some e = ap (λ n. cell places n j) s.is ∙ found.1 in
    let low : j < length names = omega (arith, tells.long, get_inside r e j there) in
    let name : get_or names j 0 ≡ p = sym (tells.named j low) ∙ (ap (λ t. get_or keys t.0 0) (get_is r e (0, 0) j there) ∙ found.2) in
    record {
      task = s.task;
      stands = (s.number, s.known, sym s.here);
      key = s.key_is;
      names = get_some names j p low (sym name ∙ get_or_default names j 0 p low);
    }

-- a place that names p, by numbers
pub record HasCell (keys : List ℕ) (places : List (List (ℕ × ℕ))) (k j p : ℕ) : Type 0 where
  pub key : Contains keys k
  pub port : ℕ
  pub at : slice_get (row_by keys places k) j ≡ Some (p, port)

named_to : (keys : List ℕ) (ts : List RawTask) (sink : ℕ) (x : Findings) → IsFound keys ts sink x → (k j p : ℕ) → NamesAt ts k j p → HasCell keys (places_in x.links) k j p
named_to keys ts sink x h k j p is =
    let places = places_in x.links in
    let m = is.stands.0 in
    let inside = is.stands.1 in
    let names = places_of is.task in
    let r = row places m in
    let known : m < length keys = omega (arith, keys_count ts keys h.keys_are, inside) in
    let tells : Tells keys names r = subst (λ u. Tells keys (places_of u) r) is.stands.2 (h.named m is.task inside) in
    let key : get_or keys m 0 ≡ k = sym (key_of_at ts keys m is.task h.keys_are inside) ∙ (ap key_of is.stands.2 ∙ is.key) in
    let number : number_in keys k ≡ m = number_at keys m k h.ascending known key in
    let low : j < length names = get_inside names p j is.names in
    let e = get_or r j (0, 0) in
    let there : slice_get r j ≡ Some e = get_some r j e (omega (arith, tells.long)) (get_or_default r j (0, 0) e (omega (arith, tells.long))) in
    let name : get_or keys e.0 0 ≡ p = tells.named j low ∙ get_is names p 0 j is.names in
    let by : ℕ × ℕ → ℕ × ℕ = λ t. (get_or keys t.0 0, t.1) in
    record {
      key = stands_key keys m k known key;
      port = e.1;
      at = ap (λ n. slice_get (keyed keys (row places n)) j) number ∙ (get_map by r j e there ∙ ap (λ n. Some (n, e.1)) name);
    }

pub succs_of : (keys : List ℕ) (ts : List RawTask) (sink : ℕ) (x : Findings) → IsFound keys ts sink x → (p : ℕ) → Contains keys p → AreSuccs ts p (row_by keys (succs_in x.links) p)
succs_of keys ts sink x h p has =
    let succs = succs_in x.links in
    let es = row_by keys succs p in
    record {
      ascending = h.ascending_ports p;
      only = λ k j within.
          let q = within.0 in
          let at : slice_get es q ≡ Some (k, j) = get_some es q (k, j) within.1 (sym within.2) in
          let found = entry keys succs p q k j at in
          let key : Contains keys k = stands_key keys found.0.0 k (succs_inside keys ts sink x h (number_in keys p) q found.0 found.1) found.2 in
          named_from keys ts sink x h k j p q key (h.reverse.back p q k j has at);
      each = λ k j names.
          let there = named_to keys ts sink x h k j p names in
          let at : slice_get es there.port ≡ Some (k, j) = h.reverse.forth k j p there.port there.key there.at in
          (there.port, get_inside es (k, j) there.port at, get_is es (k, j) (k, j) there.port at);
    }

-- ---- in each order of the tasks

names_moved : (ts us : List RawTask) (k j p : ℕ) → IsPermutation ts us → NamesAt ts k j p → NamesAt us k j p
names_moved ts us k j p moved is =
    record { task = is.task; stands = Contains-permutation ts us is.task moved is.stands; key = is.key; names = is.names }

pub succs_moved : (ts us : List RawTask) (p : ℕ) (es : List (ℕ × ℕ)) → IsPermutation ts us → AreSuccs ts p es → AreSuccs us p es
succs_moved ts us p es moved is = record {
  ascending = is.ascending;
  only = λ k j within. names_moved ts us k j p moved (is.only k j within);
  each = λ k j names. is.each k j (names_moved us ts k j p (IsPermutation-sym ts us moved) names);
}
