-- What is said of a list of tasks is said of it in each order.
use Rattle.std.proofs.Common.{◌≡◌, ◌∙◌, ◌==◌, ℕ, ◌+◌, ◌<◌, ◌≤◌, ◌^◌, List, length, map, ap, sym, subst, arith, All, Contains, count_by, get_or, cond, Bool}
use Rattle.std.specs.Prelude.{◌&&◌, nat_lt, IfSome}
use Rattle.std.specs.List.Sorted.{IsPermutation}
use Rattle.std.proofs.lemmas.List.Sorted.{IsPermutation-sym, IsPermutation-map, IsPermutation-trans, length_permutation, All-permutation, Contains-permutation, sum_by-IsPermutation}
use Rattle.formula_text.specs.Formulas.{tree}
use Rattle.formula_text.specs.Trees.{HasInputs}
use Rattle.raw_graph.specs.declared.raw.RawTask.{RawTask}
use Rattle.audit_checks.specs.Tasks.{key_of, keys_of, places_of, succ_count, IsBefore, Leads, last, step, writes, Writes}
use Rattle.audit_checks.specs.Accepted.{HasDistinctKeys, NamesTasks, HasFewPlaces, HasFewEdges, IsAcyclic, HasOneWriter, HasAllVersions, HasOrderedWriters, HasReadersBefore, HasGivenInputs, IsAccepted}
use Rattle.audit_checks.specs.Faults.{IsLeast, IsLeastPair, IsFirstUnknown, HasTask, StandsTwice, HasUnknown, HasManyPlaces, HasManyEdges, HasTwoWriters, LacksVersion, LacksOrder, ReadsLate, LacksInput, HasNames, HasSizes, HasVersions, IsFault}
use Rattle.graph_model.specs.Graph.{Graph}
use Rattle.audit_blocks.specs.Numbering.{HasPlace, is_own}
use Rattle.acyclic_audit.specs.Meaning.{IsInLimits, IsGraphOf, AreSuccs, HasBlocks, IsDepth, HasChain, start, below, own_before}
use Rattle.acyclic_audit.proofs.Ports.{succs_moved}
use Rattle.audit_checks.specs.declared.fault.AuditFault.{AuditFault}
use Rattle.audit_checks.specs.declared.fault.AuditFault.TheVariants.{DuplicateKey, UnknownKey, NoSink, TooManyPreds, TooManySuccs, Cycle, VersionTwice, VersionGap, VersionOrder, ReaderNotBefore, InputCount, OutOfMemory}

-- ---- facts of single tasks

pub keys_moved : (ts us : List RawTask) → IsPermutation ts us → IsPermutation (keys_of ts) (keys_of us)
keys_moved ts us moved = IsPermutation-map key_of ts us moved

pub key_moved : (ts us : List RawTask) (k : ℕ) → IsPermutation ts us → Contains (keys_of ts) k → Contains (keys_of us) k
key_moved ts us k moved has = Contains-permutation (keys_of ts) (keys_of us) k (keys_moved ts us moved) has

pub key_back : (ts us : List RawTask) (k : ℕ) → IsPermutation ts us → Contains (keys_of us) k → Contains (keys_of ts) k
key_back ts us k moved has = key_moved us ts k (IsPermutation-sym ts us moved) has

pub count_moved : (ts us : List RawTask) (p : RawTask → Bool) → IsPermutation ts us → count_by p us ≡ count_by p ts
count_moved ts us p moved = sum_by-IsPermutation (λ t. cond (p t) 1 0) ts us moved

pub succ_count_moved : (ts us : List RawTask) (sink key : ℕ) → IsPermutation ts us → succ_count us sink key ≡ succ_count ts sink key
succ_count_moved ts us sink key moved =
    ap (λ n. n + cond (key == sink) 1 0) (sum_by-IsPermutation (λ t. count_by (λ p. p == key) (places_of t)) ts us moved)

pub before_moved : (ts us : List RawTask) (p k : ℕ) → IsPermutation ts us → IsBefore ts p k → IsBefore us p k
before_moved ts us p k moved is =
    record { task = is.task; stands = Contains-permutation ts us is.task moved is.stands; key = is.key; names = is.names }

leads_moved : (ts us : List RawTask) (p k : ℕ) → IsPermutation ts us → Leads ts p k → Leads us p k
leads_moved ts us p k moved (last _ _ is) = last p k (before_moved ts us p k moved is)
leads_moved ts us p k moved (step _ q _ is more) = step p q k (before_moved ts us p q moved is) (leads_moved ts us q k moved more)

pub writes_moved : (ts us : List RawTask) (t : RawTask) (b v : ℕ) → IsPermutation ts us → Writes ts t b v → Writes us t b v
writes_moved ts us t b v moved is = record { stands = Contains-permutation ts us t moved is.stands; place = is.place }

-- ---- what holds of accepted graphs

pub distinct_moved : (ts us : List RawTask) → IsPermutation ts us → HasDistinctKeys ts → HasDistinctKeys us
distinct_moved ts us moved all k = omega (arith, count_moved ts us (λ t. key_of t == k) moved, all k)

pub known_moved : (ts us : List RawTask) → IsPermutation ts us → NamesTasks ts → NamesTasks us
known_moved ts us moved all i d inside =
    let named = All-permutation (λ t. All (Contains (keys_of ts)) (places_of t)) ts us moved all i d inside in
    λ j e low. key_moved ts us _ moved (named j e low)

pub places_moved : (ts us : List RawTask) → IsPermutation ts us → HasFewPlaces ts → HasFewPlaces us
places_moved ts us moved all = All-permutation (λ t. length (places_of t) ≤ 40) ts us moved all

pub edges_moved : (ts us : List RawTask) (sink : ℕ) → IsPermutation ts us → HasFewEdges ts sink → HasFewEdges us sink
edges_moved ts us sink moved all i d inside =
    let few = All-permutation (λ t. succ_count ts sink (key_of t) ≤ 640) ts us moved all i d inside in
    subst (λ n. n ≤ 640) (sym (succ_count_moved ts us sink _ moved)) few

pub acyclic_moved : (ts us : List RawTask) → IsPermutation ts us → IsAcyclic ts → IsAcyclic us
acyclic_moved ts us moved is =
    let back = IsPermutation-sym ts us moved in
    record { number = is.number; rises = λ p k before. is.rises p k (before_moved us ts p k back before) }

pub once_moved : (ts us : List RawTask) → IsPermutation ts us → HasOneWriter ts → HasOneWriter us
once_moved ts us moved all b v = omega (arith, count_moved ts us (writes b v) moved, all b v)

pub whole_moved : (ts us : List RawTask) → IsPermutation ts us → HasAllVersions ts → HasAllVersions us
whole_moved ts us moved all t b v w is some less =
    let found = all t b v w (writes_moved us ts t b v (IsPermutation-sym ts us moved) is) some less in
    (found.0, writes_moved ts us found.0 b w moved found.1)

pub ordered_moved : (ts us : List RawTask) → IsPermutation ts us → HasOrderedWriters ts → HasOrderedWriters us
ordered_moved ts us moved all s t b v first second =
    let back = IsPermutation-sym ts us moved in
    all s t b v (writes_moved us ts s b v back first) (writes_moved us ts t b (v + 1) back second)

pub read_moved : (ts us : List RawTask) → IsPermutation ts us → HasReadersBefore ts → HasReadersBefore us
read_moved ts us moved all s t r b v first second stands reads other =
    let back = IsPermutation-sym ts us moved in
    all s t r b v (writes_moved us ts s b v back first) (writes_moved us ts t b (v + 1) back second) (Contains-permutation us ts r back stands) reads other

pub given_moved : (ts us : List RawTask) → IsPermutation ts us → HasGivenInputs ts → HasGivenInputs us
given_moved ts us moved all = All-permutation (λ t. HasInputs (tree t.formula) (length t.inputs)) ts us moved all

pub names_moved : (ts us : List RawTask) (sink : ℕ) → IsPermutation ts us → HasNames ts sink → HasNames us sink
names_moved ts us sink moved is = record {
  distinct = distinct_moved ts us moved is.distinct;
  known = known_moved ts us moved is.known;
  sink_task = key_moved ts us sink moved is.sink_task;
}

pub sizes_moved : (ts us : List RawTask) (sink : ℕ) → IsPermutation ts us → HasSizes ts sink → HasSizes us sink
sizes_moved ts us sink moved is = record {
  names = names_moved ts us sink moved is.names;
  places = places_moved ts us moved is.places;
  edges = edges_moved ts us sink moved is.edges;
}

pub versions_moved : (ts us : List RawTask) (sink : ℕ) → IsPermutation ts us → HasVersions ts sink → HasVersions us sink
versions_moved ts us sink moved is = record {
  sizes = sizes_moved ts us sink moved is.sizes;
  acyclic = acyclic_moved ts us moved is.acyclic;
  once = once_moved ts us moved is.once;
  whole = whole_moved ts us moved is.whole;
}

-- ---- faults

least_moved : (P Q : ℕ → Type 0) (n : ℕ) → ((m : ℕ) → P m → Q m) → ((m : ℕ) → Q m → P m) → IsLeast P n → IsLeast Q n
least_moved P Q n to back is = record { holds = to n is.holds; least = λ m low has. is.least m low (back m has) }

pair_moved : (P Q : ℕ → ℕ → Type 0) (b v : ℕ) → ((c w : ℕ) → P c w → Q c w) → ((c w : ℕ) → Q c w → P c w) → IsLeastPair P b v → IsLeastPair Q b v
pair_moved P Q b v to back is = record {
  holds = to b v is.holds;
  least_block = λ c w low has. is.least_block c w low (back c w has);
  least_version = λ w low has. is.least_version w low (back b w has);
}

task_moved : (ts us : List RawTask) (P Q : RawTask → Type 0) (key : ℕ) → IsPermutation ts us → ((t : RawTask) → P t → Q t) → HasTask ts P key → HasTask us Q key
task_moved ts us P Q key moved to is =
    record { task = is.task; stands = Contains-permutation ts us is.task moved is.stands; key_is = is.key_is; holds = to is.task is.holds }

least_task_moved : (ts us : List RawTask) (P Q : RawTask → Type 0) (key : ℕ) → IsPermutation ts us → ((t : RawTask) → P t → Q t) → ((t : RawTask) → Q t → P t)
    → IsLeast (HasTask ts P) key → IsLeast (HasTask us Q) key
least_task_moved ts us P Q key moved to back is =
    least_moved (HasTask ts P) (HasTask us Q) key (λ m. task_moved ts us P Q m moved to) (λ m. task_moved us ts Q P m (IsPermutation-sym ts us moved) back) is

first_unknown_moved : (keys others names : List ℕ) (name : ℕ) → IsPermutation keys others → IsFirstUnknown keys names name → IsFirstUnknown others names name
first_unknown_moved keys others names name moved is = record {
  place = is.place;
  inside = is.inside;
  named = is.named;
  unknown = λ has. is.unknown (Contains-permutation others keys name (IsPermutation-sym keys others moved) has);
  known = λ i early. Contains-permutation keys others _ moved (is.known i early);
}

unknown_moved : (ts us : List RawTask) (t : RawTask) → IsPermutation ts us → HasUnknown ts t → HasUnknown us t
unknown_moved ts us t moved is = (is.0, first_unknown_moved (keys_of ts) (keys_of us) (places_of t) is.0 (keys_moved ts us moved) is.1)

twice_moved : (ts us : List RawTask) (k : ℕ) → IsPermutation ts us → StandsTwice ts k → StandsTwice us k
twice_moved ts us k moved is = omega (arith, count_moved ts us (λ t. key_of t == k) moved, is)

two_writers_moved : (ts us : List RawTask) (b v : ℕ) → IsPermutation ts us → HasTwoWriters ts b v → HasTwoWriters us b v
two_writers_moved ts us b v moved is = omega (arith, count_moved ts us (writes b v) moved, is)

many_edges_moved : (ts us : List RawTask) (sink : ℕ) (t : RawTask) → IsPermutation ts us → HasManyEdges ts sink t → HasManyEdges us sink t
many_edges_moved ts us sink t moved is = omega (arith, succ_count_moved ts us sink (key_of t) moved, is)

gap_moved : (ts us : List RawTask) (b v : ℕ) → IsPermutation ts us → LacksVersion ts b v → LacksVersion us b v
gap_moved ts us b v moved is = record {
  some = is.some;
  task = is.task;
  above = is.above;
  written = writes_moved ts us is.task b is.above moved is.written;
  below = is.below;
  lacks = λ t has. is.lacks t (writes_moved us ts t b v (IsPermutation-sym ts us moved) has);
}

order_moved : (ts us : List RawTask) (b v : ℕ) → IsPermutation ts us → LacksOrder ts b v → LacksOrder us b v
order_moved ts us b v moved is = record {
  first = is.first;
  second = is.second;
  writes_first = writes_moved ts us is.first b v moved is.writes_first;
  writes_second = writes_moved ts us is.second b (v + 1) moved is.writes_second;
  apart = is.apart;
}

late_moved : (ts us : List RawTask) (reader writer : ℕ) → IsPermutation ts us → ReadsLate ts reader writer → ReadsLate us reader writer
late_moved ts us reader writer moved is = record {
  first = is.first;
  second = is.second;
  task = is.task;
  block = is.block;
  version = is.version;
  writes_first = writes_moved ts us is.first is.block is.version moved is.writes_first;
  writes_second = writes_moved ts us is.second is.block (is.version + 1) moved is.writes_second;
  stands = Contains-permutation ts us is.task moved is.stands;
  reads = is.reads;
  reader_key = is.reader_key;
  writer_key = is.writer_key;
  other = is.other;
  apart = is.apart;
}

-- a fault of the tasks in one order is their fault in another
pub fault_moved : (ts us : List RawTask) (sink : ℕ) (e : AuditFault) → IsPermutation ts us → IsFault ts sink e → IsFault us sink e
fault_moved ts us sink (DuplicateKey k) moved is =
    let back = IsPermutation-sym ts us moved in
    least_moved (StandsTwice ts) (StandsTwice us) k.0 (λ m. twice_moved ts us m moved) (λ m. twice_moved us ts m back) is
fault_moved ts us sink (UnknownKey t k) moved is =
    let back = IsPermutation-sym ts us moved in (
      distinct_moved ts us moved is.0,
      least_task_moved ts us (HasUnknown ts) (HasUnknown us) t.0 moved (λ task. unknown_moved ts us task moved) (λ task. unknown_moved us ts task back) is.1,
      task_moved ts us (λ task. IsFirstUnknown (keys_of ts) (places_of task) k.0) (λ task. IsFirstUnknown (keys_of us) (places_of task) k.0) t.0 moved
          (λ task. first_unknown_moved (keys_of ts) (keys_of us) (places_of task) k.0 (keys_moved ts us moved)) is.2,
    )
fault_moved ts us sink (NoSink k) moved is =
    (distinct_moved ts us moved is.0, known_moved ts us moved is.1, is.2, λ has. is.3 (key_back ts us sink moved has))
fault_moved ts us sink (TooManyPreds t n) moved is = (
  names_moved ts us sink moved is.0,
  least_task_moved ts us HasManyPlaces HasManyPlaces t.0 moved (λ task has. has) (λ task has. has) is.1,
  task_moved ts us (λ task. n ≡ length (places_of task)) (λ task. n ≡ length (places_of task)) t.0 moved (λ task has. has) is.2,
)
fault_moved ts us sink (TooManySuccs t n) moved is =
    let back = IsPermutation-sym ts us moved in (
      names_moved ts us sink moved is.0,
      places_moved ts us moved is.1,
      least_task_moved ts us (HasManyEdges ts sink) (HasManyEdges us sink) t.0 moved (λ task. many_edges_moved ts us sink task moved) (λ task. many_edges_moved us ts sink task back) is.2,
      is.3 ∙ sym (succ_count_moved ts us sink t.0 moved),
    )
fault_moved ts us sink (Cycle k) moved is =
    let back = IsPermutation-sym ts us moved in (
      sizes_moved ts us sink moved is.0,
      least_moved (λ key. Leads ts key key) (λ key. Leads us key key) k.0 (λ m. leads_moved ts us m m moved) (λ m. leads_moved us ts m m back) is.1,
    )
fault_moved ts us sink (VersionTwice b v) moved is =
    let back = IsPermutation-sym ts us moved in (
      sizes_moved ts us sink moved is.0,
      acyclic_moved ts us moved is.1,
      pair_moved (HasTwoWriters ts) (HasTwoWriters us) b v (λ c w. two_writers_moved ts us c w moved) (λ c w. two_writers_moved us ts c w back) is.2,
    )
fault_moved ts us sink (VersionGap b v) moved is =
    let back = IsPermutation-sym ts us moved in (
      sizes_moved ts us sink moved is.0,
      acyclic_moved ts us moved is.1,
      once_moved ts us moved is.2,
      pair_moved (LacksVersion ts) (LacksVersion us) b v (λ c w. gap_moved ts us c w moved) (λ c w. gap_moved us ts c w back) is.3,
    )
fault_moved ts us sink (VersionOrder b v) moved is =
    let back = IsPermutation-sym ts us moved in (
      versions_moved ts us sink moved is.0,
      pair_moved (LacksOrder ts) (LacksOrder us) b v (λ c w. order_moved ts us c w moved) (λ c w. order_moved us ts c w back) is.1,
    )
fault_moved ts us sink (ReaderNotBefore r w) moved is =
    let back = IsPermutation-sym ts us moved in (
      versions_moved ts us sink moved is.0,
      ordered_moved ts us moved is.1,
      least_moved (λ writer. (reader : ℕ) × ReadsLate ts reader writer) (λ writer. (reader : ℕ) × ReadsLate us reader writer) w.0
          (λ m has. (has.0, late_moved ts us has.0 m moved has.1)) (λ m has. (has.0, late_moved us ts has.0 m back has.1)) is.2,
      least_moved (λ reader. ReadsLate ts reader w.0) (λ reader. ReadsLate us reader w.0) r.0
          (λ m. late_moved ts us m w.0 moved) (λ m. late_moved us ts m w.0 back) is.3,
    )
fault_moved ts us sink (InputCount t i) moved is = (
  versions_moved ts us sink moved is.0,
  ordered_moved ts us moved is.1,
  read_moved ts us moved is.2,
  least_task_moved ts us (λ task. (j : ℕ) × LacksInput task j) (λ task. (j : ℕ) × LacksInput task j) t.0 moved (λ task has. has) (λ task has. has) is.3,
  task_moved ts us (λ task. IsLeast (LacksInput task) i) (λ task. IsLeast (LacksInput task) i) t.0 moved (λ task has. has) is.4,
)
fault_moved ts us sink OutOfMemory moved is = tt

pub accepted_moved : (ts us : List RawTask) (sink : ℕ) → IsPermutation ts us → IsAccepted ts sink → IsAccepted us sink
accepted_moved ts us sink moved is = record {
  distinct = distinct_moved ts us moved is.distinct;
  known = known_moved ts us moved is.known;
  sink_task = key_moved ts us sink moved is.sink_task;
  places = places_moved ts us moved is.places;
  edges = edges_moved ts us sink moved is.edges;
  acyclic = acyclic_moved ts us moved is.acyclic;
  once = once_moved ts us moved is.once;
  whole = whole_moved ts us moved is.whole;
  ordered = ordered_moved ts us moved is.ordered;
  read = read_moved ts us moved is.read;
  given = given_moved ts us moved is.given;
}

-- ---- limits, and what a graph means

pub limits_moved : (ts us : List RawTask) (sink : ℕ) → IsPermutation ts us → IsInLimits ts sink → IsInLimits us sink
limits_moved ts us sink moved is = record {
  few_tasks = omega (arith, length_permutation ts us moved, is.few_tasks);
  small_sink = is.small_sink;
  small_keys = All-permutation (λ t. key_of t < 2 ^ 63) ts us moved is.small_keys;
  small_places = All-permutation (λ t. All (λ p. p < 2 ^ 63) (places_of t)) ts us moved is.small_places;
  versions = All-permutation (λ t. IfSome t.block (λ w. (1 ≤ w.1) × (w.1 ≤ 16384))) ts us moved is.versions;
}

chain_moved : (ts us : List RawTask) (k n : ℕ) → IsPermutation ts us → HasChain ts k n → HasChain us k n
chain_moved ts us k n moved (start _) = start k
chain_moved ts us k n moved (below _ p m before chain) = below k p m (before_moved ts us p k moved before) (chain_moved ts us p m moved chain)

depth_moved : (ts us : List RawTask) (k r : ℕ) → IsPermutation ts us → IsDepth ts k r → IsDepth us k r
depth_moved ts us k r moved is = record {
  chain = chain_moved ts us k r moved is.chain;
  longest = λ n chain. is.longest n (chain_moved us ts k n (IsPermutation-sym ts us moved) chain);
}

blocks_moved : (ts us : List RawTask) (g : Graph) → IsPermutation ts us → HasBlocks ts g → HasBlocks us g
blocks_moved ts us g moved is =
    let back = IsPermutation-sym ts us moved in
    record {
      names = is.names;
      ascending = is.ascending;
      stated = λ t b v states. is.stated t b v (writes_moved us ts t b v back states);
      only = λ b has. let found = is.only b has in (found.0, found.1, writes_moved ts us found.0 b found.1 moved found.2);
      count_is = is.count_is ∙ ap (λ n. length is.names + n) (sym (count_moved ts us is_own moved));
      each = λ i d inside.
          let placed = All-permutation (λ t. HasPlace is.names (length is.names + own_before ts (key_of t)) t.block (record { block = g.block (key_of t); version = g.version (key_of t) })) ts us moved is.each i d inside in
          let u = get_or us i d in
          subst (λ n. HasPlace is.names (length is.names + n) u.block (record { block = g.block (key_of u); version = g.version (key_of u) }))
          (sym (count_moved ts us (λ t. is_own t && nat_lt (key_of t) (key_of u)) moved)) placed;
    }

pub meaning_moved : (ts us : List RawTask) (sink : ℕ) (g : Graph) → IsPermutation ts us → IsGraphOf ts sink g → IsGraphOf us sink g
meaning_moved ts us sink g moved is = record {
  ascending = is.ascending;
  keys = IsPermutation-trans (keys_of us) (keys_of ts) g.keys (keys_moved us ts (IsPermutation-sym ts us moved)) is.keys;
  sink_is = is.sink_is;
  preds = All-permutation (λ t. map (λ e. e.0) (g.preds (key_of t)) ≡ places_of t) ts us moved is.preds;
  succs = λ i d inside.
      let k = key_of (get_or us i d) in
      succs_moved ts us k (g.succs k) moved (All-permutation (λ t. AreSuccs ts (key_of t) (g.succs (key_of t))) ts us moved is.succs i d inside);
  inputs = All-permutation (λ t. g.inputs (key_of t) ≡ length t.inputs) ts us moved is.inputs;
  blocks = blocks_moved ts us g moved is.blocks;
  cells = is.cells;
  ranks = λ i d inside. depth_moved ts us (key_of (get_or us i d)) (g.rank (key_of (get_or us i d))) moved (All-permutation (λ t. IsDepth ts (key_of t) (g.rank (key_of t))) ts us moved is.ranks i d inside);
}
