-- What passes its checks is within the limits.
use Rattle.std.proofs.Common.{◌≡◌, ℕ, suc, ◌≤◌, List, [], ◌∷◌, length, All, Bool, true, false, cond, nat_le, Option, None, Some, IfSome, option_map, option_and_then, unwrap_or, codes, decimal, refl, ap, arith}
use Rattle.std.proofs.lemmas.Bool.Decides.{nat_tests}
use Rattle.std.proofs.lemmas.List.Elements.{All-nil, All-cons}
use Rattle.std.specs.Str.{bytes_eq}
use Rattle.serde_json.specs.Data.{Data, null, boolean, number, string, array, object, Items, no_items, item}
use Rattle.serde_json.specs.Events.{items_len}
use Rattle.serde_json.specs.Find.{get, as_str, as_array}
use Rattle.graph_model.specs.declared.plan.Target.{Target}
use Rattle.graph_model.specs.declared.plan.Target.TheVariants.{Descriptor, Notify, Block}
use Rattle.raw_graph.specs.Graph.{Task, File, keys_of}
use Rattle.raw_graph.specs.Limits.{IsKey, IsBlock, IsTaskWithin, IsTargetWithin, IsStrikeWithin, IsWithinLimits}
use Rattle.graph_reader.specs.Checks.{Check, of_kind, unsigned_of, limits, number_check, each, object_check, names_check, field, needed, optional}
use Rattle.graph_reader.specs.Content.{number_in, every, items_in, keys_in, block_in, task_in, target_in, with_word, strike_in, tasks_in, file_in}
use Rattle.graph_reader.specs.Faults.{shape, range, within, first}
use Rattle.graph_reader.specs.Format.{key_check, keys_check, formula_check, pair_check, block_check, point_check, target_check, word_check, task_key_check, version_check, counted, task_check, strike_check, tasks_check, strikes_check, is_among, file_check}
use Rattle.graph_reader.specs.Names.{whole_names, task_names, strike_names, target_of}
use Rattle.graph_reader.specs.declared.fault.TextFault.{TextFault}
use Rattle.graph_reader.specs.declared.fault.TextFault.TheVariants.{TooManyTasks}
use Rattle.graph_reader.proofs.Among.{contained-among}
use Rattle.graph_reader.proofs.Order.{or_none}

-- ---- parts

within_none : (part : List ℕ) (fault : Option TextFault) → within part fault ≡ None → fault ≡ None
within_none part None none = refl
within_none part (Some e) none = absurd (cc)

two_pass : (a b : Option TextFault) → first (a ∷ b ∷ []) ≡ None → (a ≡ None) × (b ≡ None)
two_pass None None none = (refl, refl)
two_pass None (Some e) none = absurd (cc)
two_pass (Some e) b none = absurd (cc)

pub six_pass : (a b c d f g : Option TextFault) → first (a ∷ b ∷ c ∷ d ∷ f ∷ g ∷ []) ≡ None → (a ≡ None) × (b ≡ None) × (c ≡ None) × (d ≡ None) × (f ≡ None) × (g ≡ None)
six_pass a b c d f g none =
    let p = or_none a (first (b ∷ c ∷ d ∷ f ∷ g ∷ [])) none in
    let q = or_none b (first (c ∷ d ∷ f ∷ g ∷ [])) p.1 in
    let r = or_none c (first (d ∷ f ∷ g ∷ [])) q.1 in
    let s = or_none d (first (f ∷ g ∷ [])) r.1 in
    let t = two_pass f g s.1 in
    (p.0, q.0, r.0, s.0, t.0, t.1)

seven_pass : (a b c d f g h : Option TextFault) → first (a ∷ b ∷ c ∷ d ∷ f ∷ g ∷ h ∷ []) ≡ None → (a ≡ None) × (b ≡ None) × (c ≡ None) × (d ≡ None) × (f ≡ None) × (g ≡ None) × (h ≡ None)
seven_pass a b c d f g h none =
    let p = or_none a (first (b ∷ c ∷ d ∷ f ∷ g ∷ h ∷ [])) none in
    let q = six_pass b c d f g h p.1 in
    (p.0, q.0, q.1, q.2, q.3, q.4, q.5)

needed_pass : (name : List ℕ) (check : Check Data) (d : Data) → needed name check d ≡ None → check (field name d) ≡ None
needed_pass name check d none = within_none name (check (field name d)) none

-- ---- numbers and keys

limits_pass : (low high n : ℕ) → limits low high n ≡ None → (low ≤ n) × (n ≤ high)
limits_pass low high n none = (grind (arith, nat_tests), grind (arith, nat_tests))

of_number : (low high : ℕ) (o : Option ℕ) → of_kind (limits low high) o ≡ None → (low ≤ unwrap_or o 0) × (unwrap_or o 0 ≤ high)
of_number low high None none = absurd (cc)
of_number low high (Some n) none = limits_pass low high n none

number_pass : (low high : ℕ) (d : Data) → number_check low high d ≡ None → (low ≤ number_in d) × (number_in d ≤ high)
number_pass low high d none = of_number low high (unsigned_of d) none

key_pass : (d : Data) → key_check d ≡ None → IsKey (number_in d)
key_pass d none = let p = number_pass 0 9223372036854775807 d none in omega (arith, p.1)

each_pass : {X : Type 0} (check : Check Data) (content : Data → X) (P : X → Type 0) → ((d : Data) → check d ≡ None → P (content d))
    → (k : ℕ) (ds : Items) → each check k ds ≡ None → All P (every content ds)
each_pass check content P one k no_items none = All-nil P
each_pass check content P one k (item d ds) none =
    let p = or_none (within (decimal k) (check d)) (each check (suc k) ds) none in
    All-cons P (content d) (every content ds) (one d (within_none (decimal k) (check d) p.0)) (each_pass check content P one (suc k) ds p.1)

of_keys : (o : Option Items) → of_kind (each key_check 0) o ≡ None → All IsKey (every number_in (unwrap_or o no_items))
of_keys None none = absurd (cc)
of_keys (Some ds) none = each_pass key_check number_in IsKey key_pass 0 ds none

keys_pass : (name : List ℕ) (o : Option Data) → option_and_then (λ found. within name (keys_check found)) o ≡ None → All IsKey (keys_in (unwrap_or o null))
keys_pass name None none = All-nil IsKey
keys_pass name (Some d) none = of_keys (as_array d) (within_none name (keys_check d) none)

-- ---- tasks

pair_pass : (ds : Items) → pair_check ds ≡ None → IsBlock (block_in (array ds))
pair_pass no_items none = absurd (cc)
pair_pass (item name no_items) none = absurd (cc)
pair_pass (item name (item version no_items)) none =
    let p = two_pass (within (codes "0") (number_check 0 4294967295 name)) (within (codes "1") (number_check 1 16384 version)) none in
    let q = number_pass 0 4294967295 name (within_none (codes "0") (number_check 0 4294967295 name) p.0) in
    let r = number_pass 1 16384 version (within_none (codes "1") (number_check 1 16384 version) p.1) in
    (omega (arith, q.1), r.0, r.1)
pair_pass (item name (item version (item more ds))) none = absurd (cc)

block_pass : (d : Data) → block_check d ≡ None → IsBlock (block_in d)
block_pass null none = absurd (cc)
block_pass (boolean b) none = absurd (cc)
block_pass (number n) none = absurd (cc)
block_pass (string s) none = absurd (cc)
block_pass (array ds) none = pair_pass ds none
block_pass (object ms) none = absurd (cc)

stated_pass : (name : List ℕ) (o : Option Data) → option_and_then (λ found. within name (block_check found)) o ≡ None → IfSome (option_map block_in o) IsBlock
stated_pass name None none = tt
stated_pass name (Some d) none = block_pass d (within_none name (block_check d) none)

pub task_pass : (d : Data) → task_check d ≡ None → IsTaskWithin (task_in d)
task_pass d none =
    let p = seven_pass (object_check d) (names_check task_names d) (needed (codes "key") key_check d) (needed (codes "formula") (formula_check (number_in (field (codes "key") d))) d)
    (optional (codes "inputs") keys_check d) (optional (codes "after") keys_check d) (optional (codes "block") block_check d) none in
    record {
      key = key_pass (field (codes "key") d) (needed_pass (codes "key") key_check d p.2);
      inputs = keys_pass (codes "inputs") (get (codes "inputs") d) p.4;
      after = keys_pass (codes "after") (get (codes "after") d) p.5;
      block = stated_pass (codes "block") (get (codes "block") d) p.6;
    }

-- ---- strikes

named_pass : (a b c : Bool) → IsTargetWithin (unwrap_or (cond a (Some Descriptor) (cond b (Some (Notify 0)) (cond c (Some Block) None))) Descriptor)
named_pass true b c = tt
named_pass false true c = omega arith
named_pass false false true = tt
named_pass false false false = tt

of_target : (o : Option (List ℕ)) → IsTargetWithin (unwrap_or (option_and_then target_of o) Descriptor)
of_target None = tt
of_target (Some name) = named_pass (bytes_eq name (codes "descriptor")) (bytes_eq name (codes "notify")) (bytes_eq name (codes "block"))

target_within : (d : Data) → IsTargetWithin (target_in d)
target_within d = of_target (as_str d)

word_pass : (name : List ℕ) (target : Target) (o : Option Data) → IsTargetWithin target → option_and_then (λ found. within name (word_check target found)) o ≡ None → IsTargetWithin (with_word o target)
word_pass name target None before none = before
word_pass name Descriptor (Some d) before none = tt
word_pass name (Notify word) (Some d) before none = let p = number_pass 0 15 d (within_none name (number_check 0 15 d) none) in p.1
word_pass name Block (Some d) before none = tt

known_pass : (b : Bool) → (cond b None (Some shape)) ≡ None → b ≡ true
known_pass true none = refl
known_pass false none = absurd (cc)

task_key_pass : (is_task : ℕ → Bool) (d : Data) → task_key_check is_task d ≡ None → is_task (number_in d) ≡ true
task_key_pass is_task d none = known_pass (is_task (number_in d)) (two_pass (key_check d) (cond (is_task (number_in d)) None (Some shape)) none).1

pub strike_pass : (tasks : List Task) (d : Data) → strike_check (is_among (keys_of tasks)) d ≡ None → IsStrikeWithin tasks (strike_in d)
strike_pass tasks d none =
    let is_task = is_among (keys_of tasks) in
    let named = field (codes "target") d in
    let p = seven_pass (object_check d) (names_check strike_names d) (needed (codes "task") (task_key_check is_task) d) (needed (codes "life") (number_check 1 65535) d)
    (needed (codes "point") point_check d) (needed (codes "target") target_check d) (optional (codes "word") (word_check (target_in named)) d) none in
    let life = number_pass 1 65535 (field (codes "life") d) (needed_pass (codes "life") (number_check 1 65535) d p.3) in
    record {
      task = contained-among (keys_of tasks) (number_in (field (codes "task") d)) (task_key_pass is_task (field (codes "task") d) (needed_pass (codes "task") (task_key_check is_task) d p.2));
      first = life.0;
      last = life.1;
      target = word_pass (codes "word") (target_in named) (get (codes "word") d) (target_within named) p.6;
    }

-- ---- the whole

every_length : {X : Type 0} (content : Data → X) (ds : Items) → length (every content ds) ≡ items_len ds
every_length content no_items = refl
every_length content (item d ds) = ap suc (every_length content ds)

counted_pass : {X : Type 0} (most : ℕ) (fault : TextFault) (check : Check Data) (content : Data → X) (P : X → Type 0) → ((d : Data) → check d ≡ None → P (content d))
    → (ds : Items) (b : Bool) → nat_le (items_len ds) most ≡ b → cond b (each check 0 ds) (Some fault) ≡ None → (length (every content ds) ≤ most) × All P (every content ds)
counted_pass most fault check content P one ds true few none =
    let small : items_len ds ≤ most = grind (arith, nat_tests) in
    (omega (arith, every_length content ds), each_pass check content P one 0 ds none)
counted_pass most fault check content P one ds false few none = absurd (cc)

of_array : {X : Type 0} (most : ℕ) (fault : TextFault) (check : Check Data) (content : Data → X) (P : X → Type 0) → ((d : Data) → check d ≡ None → P (content d))
    → (o : Option Items) → of_kind (counted most fault check) o ≡ None → (length (every content (unwrap_or o no_items)) ≤ most) × All P (every content (unwrap_or o no_items))
of_array most fault check content P one None none = absurd (cc)
of_array most fault check content P one (Some ds) none = counted_pass most fault check content P one ds (nat_le (items_len ds) most) refl none

faults_pass : (name : List ℕ) (tasks : List Task) (o : Option Data) → option_and_then (λ found. within name (strikes_check (is_among (keys_of tasks)) found)) o ≡ None
    → (length (every strike_in (items_in (unwrap_or o null))) ≤ 4096) × All (IsStrikeWithin tasks) (every strike_in (items_in (unwrap_or o null)))
faults_pass name tasks None none = (omega arith, All-nil (IsStrikeWithin tasks))
faults_pass name tasks (Some d) none =
    of_array 4096 range (strike_check (is_among (keys_of tasks))) strike_in (IsStrikeWithin tasks) (strike_pass tasks) (as_array d) (within_none name (strikes_check (is_among (keys_of tasks)) d) none)

pub file_pass : (d : Data) → file_check d ≡ None → IsWithinLimits (file_in d)
file_pass d none =
    let tasks = tasks_in (field (codes "tasks") d) in
    let p = six_pass (object_check d) (needed (codes "version") version_check d) (names_check whole_names d) (needed (codes "sink") key_check d) (needed (codes "tasks") tasks_check d)
    (optional (codes "faults") (strikes_check (is_among (keys_of tasks))) d) none in
    let all = of_array 16384 TooManyTasks task_check task_in IsTaskWithin task_pass (as_array (field (codes "tasks") d)) (needed_pass (codes "tasks") tasks_check d p.4) in
    let strikes = faults_pass (codes "faults") tasks (get (codes "faults") d) p.5 in
    record {
      graph = record { sink = key_pass (field (codes "sink") d) (needed_pass (codes "sink") key_check d p.3); few = all.0; tasks = all.1 };
      few = strikes.0;
      strikes = strikes.1;
    }

-- the same of what was read
pub file_is_within : (d : Data) (file : File) → (file_check d ≡ None) × (file ≡ file_in d) → IsWithinLimits file
file_is_within d file read = rw read.1 (file_pass d read.0)
