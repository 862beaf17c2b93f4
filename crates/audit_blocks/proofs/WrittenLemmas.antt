-- The list of stated versions grows with the tasks, and is sorted.
use Rattle.std.proofs.Common.{◌≡◌, ◌∙◌, ℕ, zero, suc, ◌+◌, ◌<◌, ◌≤◌, true, false, cond, List, [], ◌∷◌, ◌++◌, length, get_or, take, refl, ap, sym, subst, arith, Contains, Some, None, inl, inr, ◌⊎◌}
use Rattle.std.specs.Prelude.{◌==◌, ◌&&◌}
use Rattle.std.specs.Fn.{Called, ComputesKey}
use Rattle.std.specs.Ordering.{is_lt, ordering_then, nat_cmp}
use Rattle.std.proofs.lemmas.Fn.{always_returns_same}
use denote.Param.Members.{Mut}
use denote.Ref.{Bor}
use Rattle.std.specs.List.Sorted.{IsPermutation, IsSortedByKey}
use Rattle.std.proofs.lemmas.Bool.{cases_order, cases_lt, le-ltb, lt-ltb, eq-eqb}
use Rattle.std.proofs.lemmas.List.{get_or_default, take_more, length-append, length-take}
use Rattle.std.proofs.lemmas.List.Elements.{All-nil, All-push, All-weaker, Contains-append_left, Contains-push}
use Rattle.std.proofs.lemmas.List.Sorted.{All-permutation, Contains-permutation, sum_by-IsPermutation, length_permutation}
use Rattle.std.proofs.lemmas.List.Sums.{sum_by_push}
use Rattle.raw_graph.specs.declared.raw.RawTask.{RawTask}
use Rattle.audit_checks.specs.Tasks.{writes}
use Rattle.audit_blocks.specs.declared.written.Written.{Written}
use Rattle.audit_blocks.specs.Versions.{entry, at, IsStated, tells, AreWritten, UpTo, IsOrdered}
use Rattle.audit_blocks.proofs.Counts.{get_push, get_left, get_push_cases, same_pair}

pub at_read : (ws : List Written) (i : ℕ) (w : Written) → i < length ws → w ≡ get_or ws i w → at ws i ≡ w
at_read ws i w inside here = get_or_default ws i (entry 0 0 0) w inside ∙ sym here

pub written_none : AreWritten [] []
written_none = record {
  sound = All-nil (IsStated []);
  complete = λ i t b v stands states. absurd (cc);
  counted = λ b v. refl;
  few = omega arith;
}

stated_left : (ts us : List RawTask) (w : Written) → IsStated ts w → IsStated (ts ++ us) w
stated_left ts us w s = record { task = s.task; stands = get_left ts us w.writer s.task s.stands; states = s.states }

same_entry : (b v i c w j : ℕ) → b ≡ c → v ≡ w → i ≡ j → entry b v i ≡ entry c w j
same_entry b v i c w j x y z = cc

pub written_push : (ts : List RawTask) (ws : List Written) (t : RawTask) (b v : ℕ) → AreWritten ts ws → t.block ≡ Some (b, v) → AreWritten (ts ++ t ∷ []) (ws ++ entry b v (length ts) ∷ [])
written_push ts ws t b v are states = record {
  sound = All-push (IsStated (ts ++ t ∷ [])) ws (entry b v (length ts)) (All-weaker (IsStated ts) (IsStated (ts ++ t ∷ [])) (stated_left ts (t ∷ [])) ws are.sound)
      (record { task = t; stands = get_push ts t; states = states });
  complete = λ i u c w stands said. elim (get_push_cases ts t i u stands) [
    | inl old ↦ Contains-append_left ws (entry b v (length ts) ∷ []) (entry c w i) (are.complete i u c w old said)
    | inr new ↦
        let both : Some (b, v) ≡ Some (c, w) = sym states ∙ (ap (λ x. x.block) new.1 ∙ said) in
        let same = same_pair (b, v) (c, w) both in
        subst (Contains (ws ++ entry b v (length ts) ∷ [])) (same_entry b v (length ts) c w i same.0 same.1 (sym new.0)) (Contains-push ws (entry b v (length ts)))
  ];
  counted = λ c w. rw (sum_by_push (λ x. cond (tells c w x) 1 0) ws (entry b v (length ts)), sum_by_push (λ x. cond (writes c w x) 1 0) ts t, states)
      (ap (λ n. n + cond ((b == c) && (v == w)) 1 0) (are.counted c w));
  few = omega (arith, length-append ws (entry b v (length ts) ∷ []), length-append ts (t ∷ []), are.few);
}

pub written_skip : (ts : List RawTask) (ws : List Written) (t : RawTask) → AreWritten ts ws → t.block ≡ None → AreWritten (ts ++ t ∷ []) ws
written_skip ts ws t are none_stated = record {
  sound = All-weaker (IsStated ts) (IsStated (ts ++ t ∷ [])) (stated_left ts (t ∷ [])) ws are.sound;
  complete = λ i u c w stands said. elim (get_push_cases ts t i u stands) [
    | inl old ↦ are.complete i u c w old said
    | inr new ↦ let both : None ≡ Some (c, w) = sym none_stated ∙ (ap (λ x. x.block) new.1 ∙ said) in absurd (cc)
  ];
  counted = λ c w. rw (sum_by_push (λ x. cond (writes c w x) 1 0) ts t, none_stated) (omega (arith, are.counted c w));
  few = omega (arith, length-append ts (t ∷ []), are.few);
}

pub written_more : (ts : List RawTask) (ws : List Written) (i : ℕ) (t : RawTask) (b v : ℕ) → i < length ts → t ≡ get_or ts i t → t.block ≡ Some (b, v)
    → AreWritten (take i ts) ws → AreWritten (take (i + 1) ts) (ws ++ entry b v i ∷ [])
written_more ts ws i t b v inside here states are =
    let long : length (take i ts) ≡ i = omega (arith, length-take i ts) in
    subst (λ l. AreWritten l (ws ++ entry b v i ∷ [])) (ap (λ x. take i ts ++ x ∷ []) here ∙ sym (take_more ts i t inside))
    (subst (λ n. AreWritten (take i ts ++ t ∷ []) (ws ++ entry b v n ∷ [])) long (written_push (take i ts) ws t b v are states))

pub written_same : (ts : List RawTask) (ws : List Written) (i : ℕ) (t : RawTask) → i < length ts → t ≡ get_or ts i t → t.block ≡ None
    → AreWritten (take i ts) ws → AreWritten (take (i + 1) ts) ws
written_same ts ws i t inside here none_stated are =
    subst (λ l. AreWritten l ws) (ap (λ x. take i ts ++ x ∷ []) here ∙ sym (take_more ts i t inside)) (written_skip (take i ts) ws t are none_stated)

pub written_moved : (ts : List RawTask) (ws vs : List Written) → IsPermutation ws vs → AreWritten ts ws → AreWritten ts vs
written_moved ts ws vs moved are = record {
  sound = All-permutation (IsStated ts) ws vs moved are.sound;
  complete = λ i t b v stands states. Contains-permutation ws vs (entry b v i) moved (are.complete i t b v stands states);
  counted = λ b v. sum_by-IsPermutation (λ x. cond (tells b v x) 1 0) ws vs moved ∙ are.counted b v;
  few = omega (arith, length_permutation ws vs moved, are.few);
}

compared : (a b : ℕ) → is_lt (nat_cmp a b) ≡ false → b ≤ a
compared a b e = elim (cases_lt a b) [
  | inl less ↦ let l = lt-ltb a b less in let f : is_lt (nat_cmp a b) ≡ true = rw l refl in absurd (cc)
  | inr more ↦ more
]

pub pair_up : (a b c d : ℕ) → is_lt (ordering_then (nat_cmp a b) (nat_cmp c d)) ≡ false → (b < a) ⊎ ((b ≡ a) × (d ≤ c))
pair_up a b c d e = elim (cases_order a b) [
  | inl same ↦
      let l = le-ltb a b (omega arith) in
      let q = eq-eqb a b same in
      let f : is_lt (ordering_then (nat_cmp a b) (nat_cmp c d)) ≡ is_lt (nat_cmp c d) = rw (l, q) refl in
      inr (sym same, compared c d (sym f ∙ e))
  | inr apart ↦ elim apart [
    | inl less ↦
        let l = lt-ltb a b less in
        let f : is_lt (ordering_then (nat_cmp a b) (nat_cmp c d)) ≡ true = rw l refl in
        absurd (cc)
    | inr more ↦ inl more
  ]
]

up_to_trans : (x y z : Written) → UpTo x y → UpTo y z → UpTo x z
up_to_trans x y z a b = grind arith

up_far : (ws : List Written) → ((k : ℕ) → k + 1 < length ws → UpTo (at ws k) (at ws (k + 1))) → (i j : ℕ) → i ≤ j → j < length ws → UpTo (at ws i) (at ws j)
up_far ws near i zero le inside = let e : i ≡ 0 = omega arith in subst (λ n. UpTo (at ws n) (at ws 0)) (sym e) (inr (refl, omega arith))
up_far ws near i (suc j) le inside = elim (cases_lt j i) [
  | inl top ↦ let e : i ≡ suc j = omega arith in subst (λ n. UpTo (at ws n) (at ws (suc j))) (sym e) (inr (refl, omega arith))
  | inr low ↦
      let e : j + 1 ≡ suc j = omega arith in
      up_to_trans (at ws i) (at ws j) (at ws (suc j)) (up_far ws near i j low (omega arith)) (subst (λ n. UpTo (at ws j) (at ws n)) e (near j (omega arith)))
]

pub ordered_from_near : (ws : List Written) → ((k : ℕ) → k + 1 < length ws → UpTo (at ws k) (at ws (k + 1))) → IsOrdered ws
ordered_from_near ws near = record { up = up_far ws near }

pub ordered_from_sort : {F : Type 0} {g : Mut F (Bor Written × Unit {0}) (ℕ × ℕ)} {f : F} (ws : List Written)
    → ((key : Written → ℕ × ℕ) → ComputesKey g key f → IsSortedByKey key (λ x y. ordering_then (nat_cmp x.0 y.0) (nat_cmp x.1 y.1)) ws)
    → ((a : Bor Written × Unit {0}) (r : ℕ × ℕ) (h : F) → Called g f a r h → (r ≡ (a.0.now.block, a.0.now.version)) × (h ≡ f)) → IsOrdered ws
ordered_from_sort {g = g} {f = f} ws sorted calls =
    let up = sorted (λ (w : Written). (w.block, w.version)) (always_returns_same g (λ a r. r ≡ (a.0.now.block, a.0.now.version)) f calls) in
    ordered_from_near ws (λ k inside. pair_up (at ws (k + 1)).block (at ws k).block (at ws (k + 1)).version (at ws k).version (up k (entry 0 0 0) (omega arith) inside))
