-- The room for records, and what is kept where only that changes.
use Rattle.std.proofs.Common.{◌≡◌, ℕ, ◌+◌, ◌-◌, ◌<◌, ◌≤◌, min, Bool, true, false, cond, eqb, List, [], ◌∷◌, zero, suc, length, length-set, get_or, set, get_or-set_same, arith, sym, ap, refl, ◌∙◌, subst, Option, Some, None}
use Rattle.core_state.specs.Graph.{Setting}
use Rattle.graph_model.specs.declared.record.Record.{Record}
use Rattle.std.proofs.Math.Nat.{min-eq_left, min-eq_right, min-le_left, min-le_right}
use mathlib.Core.Logic.{dite}
use native.Mathlib.Decide.{dec_lt}
use Rattle.core_state.specs.Counts.{count}
use Rattle.core_state.specs.Tests.{key_named}
use Rattle.core_steps.specs.Table.{spare_of, stored, Plain, Stored, no_store, with_record, as_list, kept_store, kept_room, is_root_replaced, entered, IsSound}

pub one_at_most : (y : Option Record) → length (as_list y) ≤ 1
one_at_most None = omega arith
one_at_most (Some x) = omega arith

-- what is kept of a record takes no more room than one
store_room_falls : (root : ℕ) (y : Option Record) (s : Stored) → (s.room ≤ (kept_store root y s).room + length (as_list y)) × ((kept_store root y s).room ≤ s.room)
store_room_falls root None s = (omega arith, omega arith)
store_room_falls root (Some x) s = by (eqb root (key_named x))
  where
    by : (b : Bool) → (s.room ≤ (cond b s (with_record s x)).room + 1) × ((cond b s (with_record s x)).room ≤ s.room)
    by true = (omega arith, omega arith)
    by false = (omega arith, omega arith)

list_room_falls : (root : ℕ) (y : Option Record) (n : ℕ) → (n ≤ kept_room root y n + length (as_list y)) × (kept_room root y n ≤ n)
list_room_falls root None n = (omega arith, omega arith)
list_room_falls root (Some x) n = by (is_root_replaced root x)
  where
    by : (b : Bool) → (n ≤ cond b (n - 1) n + 1) × (cond b (n - 1) n ≤ n)
    by true = (omega arith, omega arith)
    by false = (omega arith, omega arith)

min_falls : (a b c d n : ℕ) → a ≤ b + n → c ≤ d + n → min a c ≤ min b d + n
min_falls a b c d n l m = dite (dec_lt b d)
    (λ o. let x : min b d ≡ b = min-eq_left (omega (arith, o)) in let z = min-le_left a c in omega (arith, x, z, l))
    (λ o. let x : min b d ≡ d = min-eq_right (omega (arith, o)) in let z = min-le_right a c in omega (arith, x, z, m))

-- what is entered takes as much room as there are records of it at most
pub entered_room : (root i : ℕ) (y : Option Record) (p : Plain) → i < length p.stores → spare_of p i ≤ spare_of (entered root i y p) i + length (as_list y)
entered_room root i y p low = let s : Stored = get_or p.stores i no_store in let t : Stored = kept_store root y s in
    let is : (get_or (set p.stores i t) i no_store).room ≡ t.room = ap (λ (x : Stored). x.room) (get_or-set_same p.stores i t no_store low) in let a = (store_room_falls root y s).0 in
    min_falls s.room (get_or (set p.stores i t) i no_store).room p.replaced_room (kept_room root y p.replaced_room) (length (as_list y)) (omega (arith, a, is)) (list_room_falls root y p.replaced_room).0

-- who has room for any record has it in the own store, and in the list of the root's replacements
pub store_room : (p : Plain) (i : ℕ) → 0 < spare_of p i → 0 < (get_or p.stores i no_store).room
store_room p i l = let a = min-le_left (get_or p.stores i no_store).room p.replaced_room in omega (arith, a, l)

pub list_room : (p : Plain) (i : ℕ) → 0 < spare_of p i → 0 < p.replaced_room
list_room p i l = let a = min-le_right (get_or p.stores i no_store).room p.replaced_room in omega (arith, a, l)

-- room that grows
pub min_grows : (a b c d : ℕ) → a ≤ b → c ≤ d → min a c ≤ min b d
min_grows a b c d l m = dite (dec_lt b d)
    (λ o. let x : min b d ≡ b = min-eq_left (omega (arith, o)) in let z = min-le_left a c in omega (arith, x, z, l))
    (λ o. let x : min b d ≡ d = min-eq_right (omega (arith, o)) in let z = min-le_right a c in omega (arith, x, z, m))

pub min_least : (n a b : ℕ) → n ≤ a → n ≤ b → n ≤ min a b
min_least n a b l m = dite (dec_lt a b)
    (λ o. let x : min a b ≡ a = min-eq_left (omega (arith, o)) in omega (arith, x, l))
    (λ o. let x : min a b ≡ b = min-eq_right (omega (arith, o)) in omega (arith, x, m))

-- more room in the list of the root's replacements
pub sound_roomed : (e : Setting) (p : Plain) (rs : List Record) (n : ℕ) → rs ≡ p.root_replaced → IsSound e p → IsSound e (record p { root_replaced = rs; replaced_room = n })
sound_roomed e p rs n same s = subst (λ xs. IsSound e (record p { root_replaced = xs; replaced_room = n })) (sym same) record {
  setting = s.setting;
  shape_is = s.shape_is;
  root_is = s.root_is;
  fits = s.fits;
  holds = s.holds;
  passed = s.passed;
  prevented = s.prevented;
  keeps = s.keeps;
  workers = s.workers;
  at_home = s.at_home;
  housed = s.housed;
  root_last = s.root_last;
  room_is = s.room_is;
}

stored_kept : (q : Record → Bool) (x : Stored) (ss : List Stored) (j : ℕ) → x.records ≡ (get_or ss j no_store).records → stored q (set ss j x) ≡ stored q ss
stored_kept q x [] j same = refl
stored_kept q x (y ∷ ys) zero same = let a = ap (count q) same in omega (arith, a)
stored_kept q x (y ∷ ys) (suc j) same = let a = stored_kept q x ys j same in omega (arith, a)

-- more room
pub sound_reserved : (e : Setting) (p : Plain) (i : ℕ) (x : Stored) → IsSound e p → x.records ≡ (get_or p.stores i no_store).records → IsSound e (record p { stores = set p.stores i x })
sound_reserved e p i x s same = record {
  setting = s.setting;
  shape_is = s.shape_is;
  root_is = s.root_is;
  fits = s.fits;
  holds = s.holds;
  passed = s.passed;
  prevented = s.prevented;
  keeps = record { others = λ q. stored_kept q x p.stores i same ∙ s.keeps.others q; replaced = s.keeps.replaced };
  workers = length-set p.stores i x ∙ s.workers;
  at_home = s.at_home;
  housed = s.housed;
  root_last = s.root_last;
  room_is = s.room_is;
}
