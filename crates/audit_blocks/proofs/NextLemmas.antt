-- The writers of the next versions, by task.
use Rattle.std.proofs.Common.{◌≡◌, ◌∙◌, ◌≢◌, ℕ, ◌+◌, ◌-◌, ◌<◌, ◌≤◌, List, length, set, replicate, refl, ap, sym, subst, arith, Option, Some, None, slice_get, inl, inr}
use Rattle.std.proofs.lemmas.Bool.{cases_lt, cases_eq}
use Rattle.std.proofs.lemmas.List.{get_or-set_same, get_or-set_other, get_or_past, get_or-replicate, length-replicate}
use Rattle.raw_graph.specs.declared.raw.RawTask.{RawTask}
use Rattle.audit_blocks.specs.declared.written.Written.{Written}
use Rattle.audit_blocks.specs.Versions.{at, AreWritten, IsRising, SameBlock}
use Rattle.audit_blocks.specs.Readers.{HasOwnWriters, next_of, AreNexts}
use Rattle.audit_blocks.proofs.Counts.{same_pair}
use Rattle.audit_blocks.proofs.Places.{stated_at}
use Rattle.audit_blocks.proofs.Once.{not_below_itself}

pub some_same : (s t : RawTask) → Some s ≡ Some t → s ≡ t
some_same s t e = cc

pub number_same : (m n : ℕ) → Some m ≡ Some n → m ≡ n
number_same m n e = cc

pub own_writers : (ts : List RawTask) (ws : List Written) → AreWritten ts ws → IsRising ws → HasOwnWriters ws
own_writers ts ws are up = record {
  apart = λ i j i_in j_in same.
      let s = stated_at ts ws i are i_in in
      let t = stated_at ts ws j are j_in in
      let tasks : s.task ≡ t.task = some_same s.task t.task (sym s.stands ∙ (ap (λ n. slice_get ts n) same ∙ t.stands)) in
      let places = same_pair ((at ws i).block, (at ws i).version) ((at ws j).block, (at ws j).version) (sym s.states ∙ (ap (λ x. x.block) tasks ∙ t.states)) in
      elim (cases_lt i j) [
        | inl less ↦ absurd (not_below_itself (at ws i) (at ws j) (at ws j).block (at ws j).version (up.rises i j less j_in) places.0 places.1 refl refl)
        | inr late ↦ elim (cases_lt j i) [
          | inl more ↦ absurd (not_below_itself (at ws j) (at ws i) (at ws j).block (at ws j).version (up.rises j i more i_in) refl refl places.0 places.1)
          | inr here ↦ omega arith
        ]
      ];
}

no_next : (n p : ℕ) → next_of (replicate n None) p ≡ None
no_next n p = elim (cases_lt p n) [
  | inl inside ↦ get_or-replicate n p None None inside
  | inr past ↦ get_or_past (replicate n None) p None (omega (arith, length-replicate {A = Option ℕ}))
]

pub next_none : (ws : List Written) (n : ℕ) (nexts : List (Option ℕ)) → nexts ≡ replicate n None → AreNexts ws 1 nexts
next_none ws n nexts is = record {
  sound = λ p w here. let e : None ≡ Some w = sym (no_next n p) ∙ (sym (ap (λ l. next_of l p) is) ∙ here) in absurd (cc);
  complete = λ i early same. absurd (omega (arith, same.0));
}

pub next_same : (ws : List Written) (i : ℕ) (nexts : List (Option ℕ)) → AreNexts ws i nexts → (SameBlock ws i → ⊥) → AreNexts ws (i + 1) nexts
next_same ws i nexts are apart = record {
  sound = are.sound;
  complete = λ j early same. elim (cases_lt j i) [
    | inl less ↦ are.complete j less same
    | inr late ↦ let e : j ≡ i = omega arith in absurd (apart (subst (SameBlock ws) e same))
  ];
}

pub next_more : (ws : List Written) (i : ℕ) (nexts : List (Option ℕ)) → HasOwnWriters ws → AreNexts ws i nexts → i < length ws → SameBlock ws i
    → (at ws (i - 1)).writer < length nexts → AreNexts ws (i + 1) (set nexts (at ws (i - 1)).writer (Some (at ws i).writer))
next_more ws i nexts own are inside same low =
    let q = (at ws (i - 1)).writer in
    let after = set nexts q (Some (at ws i).writer) in
    let here : next_of after q ≡ Some (at ws i).writer = get_or-set_same nexts q (Some (at ws i).writer) None low in record {
      sound = λ p w is. elim (cases_eq p q) [
        | inl e ↦
            let both : Some (at ws i).writer ≡ Some w = sym here ∙ (sym (ap (λ n. next_of after n) e) ∙ is) in
            record { place = i; inside = inside; same = same; first = sym e; second = number_same (at ws i).writer w both }
        | inr other ↦ are.sound p w (sym (get_or-set_other nexts q p (Some (at ws i).writer) None other) ∙ is)
      ];
      complete = λ j early there. elim (cases_lt j i) [
        | inl less ↦
            let other : (at ws (j - 1)).writer ≢ q = λ e. omega (arith, own.apart (j - 1) (i - 1) (omega arith) (omega arith) e, there.0) in
            get_or-set_other nexts q (at ws (j - 1)).writer (Some (at ws i).writer) None other ∙ are.complete j less there
        | inr late ↦
            let e : i ≡ j = omega arith in
            subst (λ n. next_of after (at ws (n - 1)).writer ≡ Some (at ws n).writer) e here
      ];
    }

-- the places past the end are none
pub next_all : (ws : List Written) (n : ℕ) (nexts : List (Option ℕ)) → AreNexts ws n nexts → length ws ≤ n → AreNexts ws (length ws) nexts
next_all ws n nexts are all = record {
  sound = are.sound;
  complete = λ i early same. are.complete i (omega arith) same;
}
