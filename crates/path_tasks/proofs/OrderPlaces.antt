-- The order predecessors of who overwrites a version: its other readers, ascending by key.
use Rattle.std.proofs.Common.{◌≡◌, ℕ, zero, suc, ◌-◌, refl, sym, arith, subst}
use Rattle.path_tasks.specs.Tasks.{part, inputs, reader_row, reader_column, read_place, OrderIsReaders, OrderAscends}
use Rattle.path_tasks.proofs.Parts.{is_part, reader_reads}
use Rattle.path_tasks.proofs.Edges.{pred_data, pred_order, input_some, read_some, same_tile}
use Rattle.path_tasks.proofs.Order.{Before, readers_ordered, key_before}

pub order_is_readers : (b : ℕ) → OrderIsReaders b
order_is_readers b zero i j n lr li lj far lt = absurd (omega arith)
order_is_readers b (suc r) i j n lr li lj far lt =
    let q = part (suc r) i j in
    let m = n - inputs (part (suc (suc r)) i j) in
    let x = reader_row b r q i m in
    let y = reader_column b r q j m in
    let some = input_some (suc r) i j (part (suc (suc r)) i j) (is_part (suc r) i j) in
    let reads = reader_reads b r i j m q (is_part r i j) li lj (omega arith) (omega arith) in
    let later = read_some b r i j m q (is_part r i j) (omega arith) in
    let source = pred_data b r x y (read_place q) (omega arith) reads.within in
    rw (pred_order b (suc r) i j n x y (omega arith) far refl refl)
    (record {
      row = x;
      column = y;
      tile = refl;
      other = reads.other;
      place = read_place q;
      input = reads.within;
      reads = rw source (same_tile (suc r) _ _ (suc r) i j refl reads.source_row_is reads.source_column_is);
    })

pub order_ascends : (b : ℕ) → OrderAscends b
order_ascends b zero i j n lr li lj far lt = absurd (omega arith)
order_ascends b (suc r) i j n lr li lj far lt =
    let q = part (suc r) i j in
    let p = part (suc (suc r)) i j in
    let m = n - inputs p in
    let some = input_some (suc r) i j p (is_part (suc r) i j) in
    let e : suc n - inputs p ≡ suc m = omega arith in
    let reads = reader_reads b r i j m q (is_part r i j) li lj (omega arith) (omega arith) in
    let order : Before (reader_row b r q i m) (reader_column b r q j m) (reader_row b r q i (suc n - inputs p)) (reader_column b r q j (suc n - inputs p)) =
    subst (λ (v : ℕ). Before (reader_row b r q i m) (reader_column b r q j m) (reader_row b r q i v) (reader_column b r q j v)) (sym e)
    (readers_ordered b r i j m q (is_part r i j) (omega arith) (omega arith) (omega arith)) in
    rw (pred_order b (suc r) i j n _ _ (omega arith) far refl refl, pred_order b (suc r) i j (suc n) _ _ (omega arith) (omega arith) refl refl)
    (key_before b (suc r) _ _ _ _ reads.column_in order)
