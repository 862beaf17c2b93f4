-- Edges that are added task by task and place by place stand in ascending order at the ports.
use Rattle.std.proofs.Common.{◌≡◌, ◌∙◌, ℕ, ◌+◌, ◌<◌, inl, inr, List, length, get_or, ap, sym, subst, arith}
use Rattle.audit_checks.specs.Tasks.{IsAscending}
use Rattle.audit_checks.specs.Rows.{row}
use Rattle.audit_checks.specs.ByKey.{number_in, row_by}
use Rattle.audit_checks.specs.Links.{IsReverse}
use Rattle.audit_checks.specs.Ports.{IsEarlier, AreAscending, StandBefore}
use Rattle.audit_checks.proofs.KeyLaws.{get_map_cases, cell_inside}
use Rattle.audit_checks.proofs.Mirror.{pushed, cell_cases, get_inside}

earlier_next : (e : ℕ × ℕ) (k j : ℕ) → IsEarlier e (k, j) → IsEarlier e (k, j + 1)
earlier_next e k j is = elim is [ inl lower ↦ inl lower | inr same ↦ inr (same.0, omega (arith, same.1)) ]

-- one edge more at the end of a row
pub stand_pushed : (succs : List (List (ℕ × ℕ))) (p k j : ℕ) → p < length succs → StandBefore succs k j → StandBefore (pushed succs p (k, j)) k (j + 1)
stand_pushed succs p k j inside stand = record {
  ascending = λ i. record {
    rises = λ q r e f less here there. elim (cell_cases succs p i r (k, j) f inside there) [
      | inl kept ↦ elim (cell_cases succs p i q (k, j) e inside here) [
        | inl before ↦ (stand.ascending i).rises q r e f less before kept
        | inr last ↦ absurd (omega (arith, less, last.1, get_inside (row succs i) f r kept, ap (λ n. length (row succs n)) last.0))
      ]
      | inr new ↦ elim (cell_cases succs p i q (k, j) e inside here) [
        | inl before ↦ subst (IsEarlier e) new.2 (stand.earlier i q e before)
        | inr last ↦ absurd (omega (arith, less, last.1, new.1))
      ]
    ];
  };
  earlier = λ i q e here. elim (cell_cases succs p i q (k, j) e inside here) [
    | inl before ↦ earlier_next e k j (stand.earlier i q e before)
    | inr last ↦ inr (sym (ap (λ r. r.0) last.2), omega (arith, ap (λ r. r.1) last.2))
  ];
}

-- a task with a higher number begins
pub stand_next : (succs : List (List (ℕ × ℕ))) (k j : ℕ) → StandBefore succs k j → StandBefore succs (k + 1) 0
stand_next succs k j stand = record {
  ascending = stand.ascending;
  earlier = λ p q e here. inl (elim (stand.earlier p q e here) [ inl lower ↦ omega (arith, lower) | inr same ↦ omega (arith, same.0) ]);
}

-- the order by numbers is the order by keys
pub ascending_by_key : (keys : List ℕ) (places succs : List (List (ℕ × ℕ))) → IsAscending keys → length places ≡ length keys → IsReverse places succs
    → ((p : ℕ) → AreAscending (row succs p)) → (k : ℕ) → AreAscending (row_by keys succs k)
ascending_by_key keys places succs up long reverse rows k = record {
  rises = λ q r e f less here there.
      let p = number_in keys k in
      let by : ℕ × ℕ → ℕ × ℕ = λ t. (get_or keys t.0 0, t.1) in
      let a = get_map_cases by (row succs p) q e here in
      let b = get_map_cases by (row succs p) r f there in
      let inside : b.0.0 < length keys = omega (arith, cell_inside places b.0.0 b.0.1 (p, r) (reverse.back p r b.0.0 b.0.1 b.1), long) in
      elim ((rows p).rises q r a.0 b.0 less a.1 b.1) [
        | inl lower ↦ inl (omega (arith, ap (λ t. t.0) a.2, ap (λ t. t.0) b.2, up.rises a.0.0 b.0.0 lower inside))
        | inr same ↦ inr (sym (ap (λ t. t.0) a.2) ∙ (ap (λ n. get_or keys n 0) same.0 ∙ ap (λ t. t.0) b.2), omega (arith, ap (λ t. t.1) a.2, ap (λ t. t.1) b.2, same.1))
      ];
}
