-- The places of one task, one by one.
use Rattle.std.proofs.Common.{◌≡◌, ◌∙◌, ◌≢◌, ℕ, zero, suc, ◌+◌, ◌*◌, ◌<◌, ◌≤◌, inl, inr, List, [], ◌∷◌, ◌++◌, length, get_or, refl, ap, sym, subst, arith, replicate, Some, slice_get, take, length-append}
use Rattle.std.proofs.lemmas.Bool.{cases_eq, cases_lt}
use Rattle.std.proofs.lemmas.List.{length-set, get_or_at, get_or_append_left}
use Rattle.audit_checks.specs.Tasks.{IsAscending}
use Rattle.audit_checks.proofs.Keys.{times, same_key, times_take_yes, times_take_no}
use Rattle.audit_checks.specs.Rows.{row}
use Rattle.audit_checks.specs.Links.{IsReverse, Tells}
use Rattle.audit_checks.specs.Ports.{StandBefore}
use Rattle.audit_checks.proofs.Mirror.{pushed, row_pushed, row_unpushed, reverse_pushed}
use Rattle.audit_checks.proofs.PortOrder.{stand_pushed}

pub record IsAdding (keys names : List ℕ) (places succs before base : List (List (ℕ × ℕ))) (n k j : ℕ) : Type 0 where
  pub reverse : IsReverse places succs
  pub stand : StandBefore succs k j
  pub places_long : length places ≡ n
  pub succs_long : length succs ≡ n
  pub few : (p : ℕ) → length (row succs p) ≤ 40 * k + j
  pub here : length (row places k) ≡ j
  pub inside : (i : ℕ) → i < j → (get_or (row places k) i (0, 0)).0 < length keys
  pub named : (i : ℕ) → i < j → get_or keys (get_or (row places k) i (0, 0)).0 0 ≡ get_or names i 0
  pub rest : (i : ℕ) → i ≢ k → row places i ≡ row before i
  pub counted : (r : ℕ) → r < length keys → length (row succs r) ≡ length (row base r) + times (get_or keys r 0) (take j names)

at_pushed : (es : List (ℕ × ℕ)) (e : ℕ × ℕ) (j : ℕ) → length es ≡ j → get_or (es ++ e ∷ []) j (0, 0) ≡ e
at_pushed es e j long = get_or_at es e [] (0, 0) j long

pub add_more : (keys names : List ℕ) (places succs before base : List (List (ℕ × ℕ))) (n k j p q : ℕ) → IsAdding keys names places succs before base n k j
    → IsAscending keys → j < length names → k < n → p < n → p < length keys → get_or keys p 0 ≡ get_or names j 0 → q ≡ length (row succs p)
    → IsAdding keys names (pushed places k (p, q)) (pushed succs p (k, j)) before base n k (j + 1)
add_more keys names places succs before base n k j p q adding up more k_in p_in p_key is q_is =
    let k_in' : k < length places = omega (arith, adding.places_long) in
    let p_in' : p < length succs = omega (arith, adding.succs_long) in
    let now : row (pushed places k (p, q)) k ≡ row places k ++ (p, q) ∷ [] = row_pushed places k (p, q) k_in' in
    record {
      reverse = reverse_pushed places succs k p j q k_in' p_in' (sym adding.here) q_is adding.reverse;
      stand = stand_pushed succs p k j p_in' adding.stand;
      places_long = length-set places k (row places k ++ (p, q) ∷ []) ∙ adding.places_long;
      succs_long = length-set succs p (row succs p ++ (k, j) ∷ []) ∙ adding.succs_long;
      few = λ r. elim (cases_eq r p) [
        | inl same ↦ omega (arith, ap (λ s. length (row (pushed succs p (k, j)) s)) same, ap length (row_pushed succs p (k, j) p_in'), length-append (row succs p) ((k, j) ∷ []), adding.few p)
        | inr apart ↦ omega (arith, ap length (row_unpushed succs p r (k, j) apart), adding.few r)
      ];
      here = omega (arith, ap length now, length-append (row places k) ((p, q) ∷ []), adding.here);
      inside = λ i low. elim (cases_lt i j) [
        | inl early ↦ subst (λ e. e.0 < length keys) (sym (ap (λ es. get_or es i (0, 0)) now ∙ get_or_append_left (row places k) ((p, q) ∷ []) (0, 0) i (omega (arith, adding.here)))) (adding.inside i early)
        | inr late ↦ let e : j ≡ i = omega arith in
            subst (λ m. (get_or (row (pushed places k (p, q)) k) m (0, 0)).0 < length keys) e
            (subst (λ e. e.0 < length keys) (sym (ap (λ es. get_or es j (0, 0)) now ∙ at_pushed (row places k) (p, q) j adding.here)) p_key)
      ];
      named = λ i low. elim (cases_lt i j) [
        | inl early ↦ ap (λ e. get_or keys e.0 0) (ap (λ es. get_or es i (0, 0)) now ∙ get_or_append_left (row places k) ((p, q) ∷ []) (0, 0) i (omega (arith, adding.here))) ∙ adding.named i early
        | inr late ↦ let e : j ≡ i = omega arith in
            subst (λ m. get_or keys (get_or (row (pushed places k (p, q)) k) m (0, 0)).0 0 ≡ get_or names m 0) e
            (ap (λ e. get_or keys e.0 0) (ap (λ es. get_or es j (0, 0)) now ∙ at_pushed (row places k) (p, q) j adding.here) ∙ is)
      ];
      rest = λ i apart. row_unpushed places k i (p, q) apart ∙ adding.rest i apart;
      counted = λ r low. elim (cases_eq r p) [
        | inl same ↦ omega (
          arith,
          ap (λ s. length (row (pushed succs p (k, j)) s)) same,
          ap length (row_pushed succs p (k, j) p_in'),
          length-append (row succs p) ((k, j) ∷ []),
          adding.counted p p_key,
          ap (λ s. length (row base s)) same,
          ap (λ s. times (get_or keys s 0) (take (j + 1) names)) same,
          times_take_yes (get_or keys p 0) names j more (sym is),
        )
        | inr apart ↦ omega (
          arith,
          ap length (row_unpushed succs p r (k, j) apart),
          adding.counted r low,
          times_take_no (get_or keys r 0) names j more (λ e. apart (same_key keys up r p low p_key (sym e ∙ sym is))),
        )
      ];
    }

pub added : (keys names : List ℕ) (places succs before base : List (List (ℕ × ℕ))) (n k j : ℕ) → IsAdding keys names places succs before base n k j
    → j ≡ length names → Tells keys names (row places k)
added keys names places succs before base n k j adding all = record {
  long = adding.here ∙ all;
  inside = λ i low. adding.inside i (omega (arith, all));
  named = λ i low. adding.named i (omega (arith, all));
}

empty_row : {X : Type 0} (n i : ℕ) → row {X = X} (replicate n []) i ≡ []
empty_row zero i = refl
empty_row (suc n) zero = refl
empty_row (suc n) (suc i) = empty_row n i

pub no_edges : (n : ℕ) → IsReverse (replicate n []) (replicate n [])
no_edges n = record {
  forth = λ c d a b e. absurd (let h : slice_get [] d ≡ Some (a, b) = ap (λ l. slice_get l d) (sym (empty_row n c)) ∙ e in cc);
  back = λ c d a b e. absurd (let h : slice_get [] d ≡ Some (a, b) = ap (λ l. slice_get l d) (sym (empty_row n c)) ∙ e in cc);
}

pub no_ports : (n : ℕ) → StandBefore (replicate n []) 0 0
no_ports n = record {
  ascending = λ p. record {
    rises = λ q r e f less here there. absurd (let h : slice_get [] q ≡ Some e = ap (λ l. slice_get l q) (sym (empty_row n p)) ∙ here in cc);
  };
  earlier = λ p q e here. absurd (let h : slice_get [] q ≡ Some e = ap (λ l. slice_get l q) (sym (empty_row n p)) ∙ here in cc);
}
