-- Sums of weights that stop at none, and the lesser of two.
use Rattle.std.proofs.Common.{◌≡◌, ℤ, pos, ◌≤ℤ◌, ◌⊎◌, arith}
use Rattle.std.specs.Int.{int_min}
use Rattle.std.proofs.lemmas.Int.{ints}
use Rattle.lane_kernels.specs.MinPlus.{plus, IsWeight}

pub at_most_itself : (x : ℤ) → x ≤ℤ x
at_most_itself x = omega (arith, ints)

pub at_most_both : (x y z : ℤ) → x ≤ℤ y → y ≤ℤ z → x ≤ℤ z
at_most_both x y z p q = omega (arith, ints)

pub same_from_both : (x y : ℤ) → x ≤ℤ y → y ≤ℤ x → x ≡ y
same_from_both x y p q = grind (arith, ints)

pub min_first : (x y : ℤ) → int_min x y ≤ℤ x
min_first x y = grind (arith, ints)

pub min_second : (x y : ℤ) → int_min x y ≤ℤ y
min_second x y = grind (arith, ints)

pub min_greatest : (x y z : ℤ) → z ≤ℤ x → z ≤ℤ y → z ≤ℤ int_min x y
min_greatest x y z p q = grind (arith, ints)

pub min_weight : (x y : ℤ) → IsWeight x → IsWeight y → IsWeight (int_min x y)
min_weight x y p q = record { from_zero = grind (arith, ints, p.from_zero, q.from_zero); to_none = grind (arith, ints, p.to_none, q.to_none) }

pub plus_weight : (x y : ℤ) → IsWeight x → IsWeight y → IsWeight (plus x y)
plus_weight x y p q = record { from_zero = grind (arith, ints, p.from_zero, q.from_zero); to_none = grind (arith, ints) }

pub plus_grows : (x y a b : ℤ) → x ≤ℤ a → y ≤ℤ b → plus x y ≤ℤ plus a b
plus_grows x y a b p q = grind (arith, ints)

pub plus_three : (x y z : ℤ) → IsWeight x → IsWeight y → IsWeight z → plus (plus x y) z ≡ plus x (plus y z)
plus_three x y z p q r = grind (arith, ints, p.from_zero, p.to_none, q.from_zero, q.to_none, r.from_zero, r.to_none)

pub plus_zero : (x : ℤ) → IsWeight x → plus x (pos 0) ≡ x
plus_zero x p = grind (arith, ints, p.from_zero, p.to_none)

pub zero_plus : (x : ℤ) → IsWeight x → plus (pos 0) x ≡ x
zero_plus x p = grind (arith, ints, p.from_zero, p.to_none)

pub plus_first : (x y : ℤ) → IsWeight x → IsWeight y → x ≤ℤ plus x y
plus_first x y p q = grind (arith, ints, p.from_zero, p.to_none, q.from_zero, q.to_none)

pub plus_second : (x y : ℤ) → IsWeight x → IsWeight y → y ≤ℤ plus x y
plus_second x y p q = grind (arith, ints, p.from_zero, p.to_none, q.from_zero, q.to_none)

pub min_is : (x y : ℤ) → (int_min x y ≡ x) ⊎ (int_min x y ≡ y)
min_is x y = grind (arith, ints)
