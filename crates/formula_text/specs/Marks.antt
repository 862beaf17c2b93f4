-- What a byte of a formula can be.
use Rattle.std.specs.Prelude.{ℕ, ◌-◌, ◌^◌, ◌==◌, nat_lt, if◌then◌else◌, List, [], ◌∷◌}
use Rattle.formula_text.specs.declared.node.Op.TheVariants.{Plus, Less, Times, Over, Rest}
use Rattle.formula_text.specs.declared.mark.Mark.{Mark}
use Rattle.formula_text.specs.declared.mark.Mark.TheVariants.{End, Space, Digit, Dollar, Sum, Product, Open, Close, Comma, Other}
use Rattle.formula_text.specs.declared.mark.Kind.{Kind}
use Rattle.formula_text.specs.declared.mark.Kind.TheVariants as kinds

-- a digit, or any other byte
abbrev pub digit_or_other : ℕ → Mark
digit_or_other b = if nat_lt b 48 then Other b else if nat_lt b 58 then Digit (b - 48) else Other b

-- what a byte can be
abbrev pub mark_of : ℕ → Mark
mark_of b =
    if b == 32 then Space
    else if b == 36 then Dollar
    else if b == 43 then Sum Plus
    else if b == 45 then Sum Less
    else if b == 42 then Product Times
    else if b == 47 then Product Over
    else if b == 37 then Product Rest
    else if b == 40 then Open
    else if b == 41 then Close
    else if b == 44 then Comma
    else digit_or_other b

-- the mark at the front of a text
abbrev pub mark_at : List ℕ → Mark
mark_at [] = End
mark_at (b ∷ bytes) = mark_of b

-- the largest number that digits may write
abbrev pub limit : Kind → ℕ
limit kinds.Number = 2 ^ 63 - 1
limit kinds.Input = 39
