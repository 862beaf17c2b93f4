-- Texts that are written in two pieces.
use Rattle.std.proofs.Common.{◌≡◌, ◌∙◌, ℕ, List, ◌++◌, OnOk, Result, Ok, Err, ap, append_assoc}
use Rattle.std.specs.Prelude.{⊤}

pub two_pieces : {E : Type 0} (r : Result ⊤ E) (old middle new front back : List ℕ) → middle ≡ old ++ front → OnOk r (new ≡ middle ++ back) → OnOk r (new ≡ old ++ (front ++ back))
two_pieces (Ok x) old middle new front back first second = second ∙ ap (λ bs. bs ++ back) first ∙ append_assoc old front back
two_pieces (Err e) old middle new front back first second = second
