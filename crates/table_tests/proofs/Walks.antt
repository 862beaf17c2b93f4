-- A walk of claims or looks keeps the share of its seat.
use Rattle.std.proofs.Common.{◌≡◌, ℕ, zero, suc, Bool, true, false, MatchBool, ap, sym, ◌∙◌, Option}
use Rattle.core_state.specs.declared.views.View.{View}
use Rattle.key_table.specs.Path.{path_row}
use Rattle.key_table.specs.Walk.{IsWalk, Walked}

module _ {S : Type 0} (did : S → ℕ → Option ℕ → S → Type 0) (view : S → View) (k rows : ℕ) (claimed : Option ℕ) where
  parts_walked : (n : ℕ) (s t : S) → Walked did k rows claimed n s t → ((s t : S) (row : ℕ) → did s row claimed t → (view t).parts ≡ (view s).parts) → (view t).parts ≡ (view s).parts
  parts_walked zero s t same stays = ap (λ u. (view u).parts) (sym same)
  parts_walked (suc n) s t w stays = stays w.0 t (path_row k rows n) w.2 ∙ parts_walked n s w.0 w.1 stays

  pub parts_walk : (made : S → ℕ) (s t : S) → IsWalk did made k rows claimed s t → ((s t : S) (row : ℕ) → did s row claimed t → (view t).parts ≡ (view s).parts) → (view t).parts ≡ (view s).parts
  parts_walk made s t w stays = parts_walked w.count s t w.steps stays

-- what the answer of a claim says of the number that was found
pub made_last : (b : Bool) (n : ℕ) → b ≡ true → MatchBool b (n ≡ 0) (n ≡ 2) → n ≡ 0
made_last true n e m = m
made_last false n e m = absurd cc

pub found_last : (b : Bool) (n : ℕ) → b ≡ false → MatchBool b (n ≡ 0) (n ≡ 2) → n ≡ 2
found_last true n e m = absurd cc
found_last false n e m = m
