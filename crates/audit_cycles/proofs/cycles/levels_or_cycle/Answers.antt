use Rattle.std.proofs.Common.{◌<◌, ℕ, length, sym, subst, arith}
use Rattle.audit_checks.specs.Rows.{rows_of}
use Rattle.audit_cycles.specs.Levels.{level}
use Rattle.audit_checks.proofs.RowLemmas.{rows_long, within_rows}
use Rattle.audit_cycles.specs.Ancestors.{HasNoCycleBefore}
use Rattle.audit_cycles.proofs.CycleLaws.{all_levels}
use Rattle.audit_cycles.proofs.cycles.levels_or_cycle.Goals as goal

pub returns-in-None : goal.returns-in-None
returns-in-None c =
    let places = rows_of c.args.places.now in
    let levels = c.in_ok-levels.levels.items in
    let none : HasNoCycleBefore places (length c.args.places.now) = rw c.in-None.is at c.in_ok-k.ensures in
    let some : (k : ℕ) → k < length places → 0 < level levels k =
    all_levels places levels c.in_ok-levels.ensures.levels (within_rows c.args.places.now c.requires.inside) (subst (HasNoCycleBefore places) (sym (rows_long c.args.places.now)) none) in
    record {
      long = c.in_ok-levels.ensures.levels.long;
      some = some;
      ranks = λ k inside. c.in_ok-levels.ensures.ranks k (omega (arith, rows_long c.args.places.now)) (some k inside);
    }
