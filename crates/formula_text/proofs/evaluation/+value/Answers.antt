use Rattle.std.proofs.Common.{ℕ, ◌<◌, ◌^◌, ℤ, ◌∙◌, rules, w64, to_z, of_z, FitsSigned}
use Rattle.std.proofs.lemmas.Int.{to_z-of_z, to_z_pos}
use Rattle.formula_text.specs.declared.code.Head.TheVariants as heads
use Rattle.formula_text.proofs.HeadLaws.{behind_first, trees_by, two_value, minus_value, digit_value}
use Rattle.formula_text.proofs.evaluation.+value.Goals as goal

pub returns-in-Two-clause-value : goal.returns-in-Two-clause-value
returns-in-Two-clause-value t c =
    let code = c.args.code.now in
    let whole = trees_by code (heads.Two c.in-Two.op) c.of.result c.in-len1-up.len_at_least c.of.ensures c.in-Two.is in
    let a_fits : FitsSigned w64 c.value-a.result.0 = search rules in
    let b_fits : FitsSigned w64 c.value-b.result.0 = search rules in
    let fits : FitsSigned w64 c.apply.result = search rules in
    let left = to_z-of_z w64 c.value-a.result.0 a_fits ∙ c.value-a.ensures.value in
    let right = to_z-of_z w64 c.value-b.result.0 b_fits ∙ c.value-b.ensures.value in
    to_z-of_z w64 c.apply.result fits
    ∙ two_value code (behind_first code) c.value-a.result.1.now c.in-Two.op c.args.inputs.now _ _ c.apply.result whole c.value-a.ensures.rest left right c.apply.ensures

pub returns-in-Minus-clause-value : goal.returns-in-Minus-clause-value
returns-in-Minus-clause-value t c =
    let code = c.args.code.now in
    let whole = trees_by code heads.Minus c.of.result c.in-len1-up.len_at_least c.of.ensures c.in-Minus.is in
    let a_fits : FitsSigned w64 c.value-a-in-Minus.result.0 = search rules in
    let fits : FitsSigned w64 c.wrapping_neg.result = search rules in
    let of = to_z-of_z w64 c.value-a-in-Minus.result.0 a_fits ∙ c.value-a-in-Minus.ensures.value in
    to_z-of_z w64 c.wrapping_neg.result fits
    ∙ minus_value code (behind_first code) c.args.inputs.now _ c.wrapping_neg.result whole of c.wrapping_neg.ensures

pub returns-in-Digit-clause-value : goal.returns-in-Digit-clause-value
returns-in-Digit-clause-value t c =
    let code = c.args.code.now in
    let whole = trees_by code (heads.Digit c.in-Digit.d) c.of.result c.in-len1-up.len_at_least c.of.ensures c.in-Digit.is in
    digit_value (λ (z : ℤ). to_z w64 (of_z w64 z)) code (behind_first code) c.in-Digit.d c.args.inputs.now c.value-n.result.0 c.from-in-Digit.result (λ (m : ℕ) (h : m < 2 ^ 63). to_z_pos w64 m h) whole c.requires.writable c.value-n.ensures.value c.from-in-Digit.ensures
