-- Parts of a table that grow one by one.
use Rattle.std.proofs.Common.{◌≡◌, ℕ, zero, suc, ◌+◌, ◌<◌, ◌≤◌, Bool, false, List, [], ◌∷◌, ◌++◌, length, get_or, set, length-set, get_or-set_same, take, arith, sym, ap, refl, ◌∙◌, subst, Option, Some}
use Rattle.core_state.specs.Counts.{count}
use Rattle.core_state.proofs.Base.Counting.{bump_is}
use Rattle.core_state.specs.declared.block.BlockCells.{BlockCells}
use Rattle.graph_model.specs.declared.record.Record.{Record}
use Rattle.core_state.specs.Counts.{total_of}
use Rattle.core_state.specs.Graph.{Setting}
use Rattle.core_state.specs.Cover.{Passed}
use Rattle.core_state.specs.Invariant.{Invariant}
use Rattle.core_state.specs.Prevented.{Prevented}
use Rattle.core_state.specs.declared.views.View.{View}
use Rattle.core_steps.proofs.Changing.{all_count}
use Rattle.core_steps.specs.Table.{Plain, Stored, stored, no_store, core_by, word_count, any_record, IsUnwritten, IsBare, IsAll, IsGathered, HasRoom, IsClosing, IsHoused, IsSound}

pub unwritten_more : (bs : List (Option BlockCells)) (x : BlockCells) → x.tag ≡ 0 → x.struck ≡ false → IsUnwritten bs → IsUnwritten (bs ++ Some x ∷ [])
unwritten_more [] x t s all zero = (t, s)
unwritten_more [] x t s all (suc b) = (refl, refl)
unwritten_more (y ∷ ys) x t s all zero = all zero
unwritten_more (y ∷ ys) x t s all (suc b) = unwritten_more ys x t s (λ c. all (suc c)) b

pub stored_last : (p : Record → Bool) (ss : List Stored) (x : Stored) → stored p (ss ++ x ∷ []) ≡ stored p ss + count p x.records
stored_last p [] x = omega arith
stored_last p (y ∷ ys) x = let a = stored_last p ys x in omega (arith, a)

pub bare_more : (ss : List Stored) (x : Stored) → x.records ≡ [] → IsBare ss → IsBare (ss ++ x ∷ [])
bare_more ss x none all p = let a = stored_last p ss x in let b = all p in let c : count p x.records ≡ 0 = ap (count p) none in omega (arith, a, b, c)

count_append : (p : Record → Bool) (xs ys : List Record) → count p (xs ++ ys) ≡ count p xs + count p ys
count_append p [] ys = omega arith
count_append p (x ∷ xs) ys = let a = count_append p xs ys in let b = bump_is (p x) (count p (xs ++ ys)) in let c = bump_is (p x) (count p xs) in omega (arith, a, b, c)

stored_take : (p : Record → Bool) (ss : List Stored) (i : ℕ) (d : Stored) → i < length ss → stored p (take (i + 1) ss) ≡ stored p (take i ss) + count p (get_or ss i d).records
stored_take p [] i d l = absurd (omega (arith, l))
stored_take p (s ∷ ss) zero d l = omega arith
stored_take p (s ∷ ss) (suc i) d l = let a = stored_take p ss i d (omega (arith, l)) in let b : suc i + 1 ≡ suc (i + 1) = omega arith in let c = ap (λ n. stored p (take n (s ∷ ss))) b in omega (arith, a, c)

pub all_more : (ss : List Stored) (i : ℕ) (d : Stored) (all more : List Record) → i < length ss → more ≡ (get_or ss i d).records → ((p : Record → Bool) → count p all ≡ stored p (take i ss)) → (p : Record → Bool) → count p (all ++ more) ≡ stored p (take (i + 1) ss)
all_more ss i d all more l is h p = let a = count_append p all more in let b = stored_take p ss i d l in let c = h p in let f = ap (count p) is in omega (arith, a, b, c, f)

-- one store of those that have none
pub stored_set : (p : Record → Bool) (ss : List Stored) (j : ℕ) (x d : Stored) → j < length ss → stored p (set ss j x) + count p (get_or ss j d).records ≡ stored p ss + count p x.records
stored_set p [] j x d l = absurd (omega (arith, l))
stored_set p (y ∷ ys) zero x d l = omega arith
stored_set p (y ∷ ys) (suc j) x d l = let a = stored_set p ys j x d (omega (arith, l)) in omega (arith, a)

stored_one : (p : Record → Bool) (ss : List Stored) (x : Stored) → 0 < length ss → IsBare ss → stored p (set ss 0 x) ≡ count p x.records
stored_one p ss x l none = let a = stored_set p ss 0 x no_store l in let b = none p in let c = first_none ss l (none p) in omega (arith, a, b, c)
  where
    first_none : (ss : List Stored) → 0 < length ss → stored p ss ≡ 0 → count p (get_or ss 0 no_store).records ≡ 0
    first_none [] l z = absurd (omega (arith, l))
    first_none (s ∷ ss) l z = omega (arith, z)

pub gathered_all : (ss olds : List Stored) (x : Stored) → 0 < length ss → IsBare ss → IsAll x.records olds → (p : Record → Bool) → stored p (set ss 0 x) ≡ stored p olds
gathered_all ss olds x l none all p = stored_one p ss x l none ∙ all p

pub gathered_is : (ss : List Stored) (x : Stored) → 0 < length ss → IsBare ss → IsGathered (set ss 0 x)
gathered_is ss x l none p = stored_one p ss x l none ∙ ap (λ (s : Stored). count p s.records) (sym (get_or-set_same ss 0 x no_store l))

pub sound_gathered : (e : Setting) (p : Plain) (ss : List Stored) (x : Stored) → IsSound e p → 0 < length ss → length ss ≡ length p.stores → IsBare ss → IsAll x.records p.stores → IsSound e (record p { stores = set ss 0 x })
sound_gathered e p ss x s l many none all = record {
  setting = s.setting;
  shape_is = s.shape_is;
  root_is = s.root_is;
  fits = s.fits;
  holds = s.holds;
  passed = s.passed;
  prevented = s.prevented;
  keeps = record { others = λ q. gathered_all ss p.stores x l none all q ∙ s.keeps.others q; replaced = s.keeps.replaced };
  workers = length-set ss 0 x ∙ many ∙ s.workers;
  at_home = s.at_home;
  housed = s.housed;
  root_last = s.root_last;
  room_is = s.room_is;
}

pub some_worker : (e : Setting) (p : Plain) → IsSound e p → 0 < length p.stores
unfolding total_of
some_worker e p s = let a = s.holds.keys.of_root in let b = s.holds.keys.created a.0 e.graph.root a.1 in let c = by p.views (Rattle.core_state.specs.Counts.noted (Rattle.core_state.specs.Tests.is_created e.graph.root)) b in let d = s.workers in omega (arith, c, d)
  where
    by : (vs : List View) (f : View → ℕ) → total_of vs f ≡ 1 → 0 < length vs
    by [] f e = absurd (omega (arith, e))
    by (v ∷ vs) f e = omega arith

-- the words, blocks and records that a table leaves
pub closing : (e : Setting) (p : Plain) (rs : List Record) → IsSound e p → IsAll rs p.stores → IsClosing e p.views p.words p.blocks rs p.root_replaced
closing e p rs s all = record {
  setting = s.setting;
  fits = subst (λ h. length p.words ≡ word_count h) s.shape_is s.fits;
  holds = subst (λ h. Invariant e (core_by h p.words p.blocks p.views)) s.shape_is s.holds;
  passed = subst (λ h. Passed e (core_by h p.words p.blocks p.views)) s.shape_is s.passed;
  prevented = subst (λ h. Prevented e (core_by h p.words p.blocks p.views)) s.shape_is s.prevented;
  at_home = s.at_home;
  housed = subst (λ h. IsHoused e h p.blocks p.views) s.shape_is s.housed;
  others = λ q. all q ∙ s.keeps.others q;
  replaced = s.keeps.replaced;
}

pub gathered_room : (ss : List Stored) → IsGathered ss → HasRoom ss
gathered_room ss all = let a = all any_record in omega (arith, a)

taken_falls : (p : Record → Bool) (ss : List Stored) (i : ℕ) → stored p (take i ss) ≤ stored p ss
taken_falls p ss zero = omega arith
taken_falls p [] (suc i) = omega arith
taken_falls p (s ∷ ss) (suc i) = let a = taken_falls p ss i in omega (arith, a)

-- the records of the stores so far stand at one that had room for all
abbrev pub IsJoined : List Stored → List Stored → ℕ → Stored → Type 0
IsJoined ss rest i x = ((p : Record → Bool) → stored p ss ≡ count p (get_or ss 0 no_store).records + stored p rest) × ((p : Record → Bool) → count p x.records ≡ count p (get_or ss 0 no_store).records + stored p (take i rest)) × (stored any_record ss ≤ count any_record x.records + x.room)

pub joined_room : (ss rest : List Stored) (i : ℕ) (x d : Stored) → i < length rest → IsJoined ss rest i x → length (get_or rest i d).records ≤ x.room
joined_room ss rest i x d l all = let a = all.0 any_record in let b = all.1 any_record in let c = all.2 in let f = stored_take any_record rest i d l in let g = taken_falls any_record rest (i + 1) in let h : count any_record (get_or rest i d).records ≡ length (get_or rest i d).records = all_count (get_or rest i d).records in omega (arith, a, b, c, f, g, h)

pub joined_more : (ss rest : List Stored) (i : ℕ) (x y d : Stored) (more : List Record) → i < length rest → more ≡ (get_or rest i d).records → y.records ≡ x.records ++ more → x.room ≤ y.room + length more → IsJoined ss rest i x → IsJoined ss rest (i + 1) y
joined_more ss rest i x y d more l is grown room all = (
  all.0,
  (λ p. let a = ap (count p) grown in let b = count_append p x.records more in let c = all.1 p in let f = stored_take p rest i d l in let g = ap (count p) is in omega (arith, a, b, c, f, g)),
  let a = ap (count any_record) grown in let b = count_append any_record x.records more in let c = all.2 in let f : count any_record more ≡ length more = all_count more in omega (arith, a, b, c, f, room),
)

pub more_stores : (ss new : List Stored) (x : Stored) (n : ℕ) → new ≡ ss ++ x ∷ [] → x.records ≡ [] → (length ss ≡ n) × IsBare ss → (length new ≡ n + 1) × IsBare new
more_stores ss new x n is none old = (ap length is ∙ one_more ss x ∙ ap (λ m. m + 1) old.0, λ p. ap (stored p) is ∙ bare_more ss x none old.1 p)
  where
    one_more : (ss : List Stored) (x : Stored) → length (ss ++ x ∷ []) ≡ length ss + 1
    one_more [] x = refl
    one_more (s ∷ ss) x = let a = one_more ss x in omega (arith, a)
