-- What stands where a call succeeded.
use Rattle.std.proofs.Common.{◌≡◌, Result, Ok, Err, refl}
use Rattle.std.specs.Prelude.{IsOk, if◌then◌else◌}
use Rattle.std.specs.Result.{is_ok}

pub chosen : {T E X : Type 0} (r : Result T E) (xs ys : X) → IsOk r → (if is_ok r then xs else ys) ≡ xs
chosen (Ok x) xs ys ok = refl
chosen (Err e) xs ys ok = absurd (cc)
