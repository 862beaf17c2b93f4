use Rattle.std.proofs.Common.{◌≡◌, ◌<◌, ◌≤◌, ◌+◌, ◌∙◌, length, sym, ap, arith, subst}
use Rattle.audit_checks.specs.Rows.{rows_of, row, Names, IsWithin}
use Rattle.audit_cycles.specs.Levels.{level}
use Rattle.audit_checks.proofs.RowLemmas.{row_at, rows_long, within_at}
use Rattle.audit_cycles.proofs.LevelSteps.{give_seen, give_fits, give_rest, hold, hold_here, hold_rest, zero_read}
use Rattle.audit_cycles.proofs.levels.Levelling.settle.Goals as goal

pub greatest-requires : goal.greatest-requires
greatest-requires c =
    let r : c.as_slice-2.result.now ≡ row (rows_of c.args.places.now) c.args.k = c.as_slice-2.ensures.value ∙ sym (row_at c.args.places.now c.args.k c.index-places-k.result c.requires.task c.index-places-k.is) in
    let n : length c.args.places.now ≡ length c.as_slice.result.now = omega (arith, ap length c.as_slice.ensures.value, c.requires.sound.long, rows_long c.args.places.now) in
    subst (λ m. IsWithin m c.as_slice-2.result.now) n (subst (IsWithin (length c.args.places.now)) (sym r) (within_at c.args.places.now (length c.args.places.now) c.args.k c.requires.task c.requires.inside))

pub overflow_add-most : goal.overflow_add-most
overflow_add-most c =
    let places = rows_of c.args.places.now in
    let levels = c.args.self.now.levels.items in
    let waiting = rows_of c.args.self.now.waiting.items in
    let ready = c.args.self.now.ready.items in
    let inside : c.args.k < length places = omega (arith, rows_long c.args.places.now, c.requires.task) in
    let zero_here : level levels c.args.k ≡ 0 = zero_read levels c.args.k c.index.result.now (omega (arith, c.requires.sound.long)) c.index.ensures c.if-index-ne0.false in
    let r : c.as_slice-2.result.now ≡ row places c.args.k = c.as_slice-2.ensures.value ∙ sym (row_at c.args.places.now c.args.k c.index-places-k.result c.requires.task c.index-places-k.is) in
    let within : IsWithin (length places) (row places c.args.k) = subst (λ n. IsWithin n (row places c.args.k)) (sym (rows_long c.args.places.now)) (within_at c.args.places.now (length c.args.places.now) c.args.k c.requires.task c.requires.inside) in
    let fits : c.in-Ok.most + 1 ≤ length places = give_fits places levels waiting ready c.args.k c.in-Ok.most c.as_slice.result.now c.as_slice-2.result.now c.requires.sound inside zero_here within
    c.as_slice.ensures.value r c.in-Ok.ensures.all c.in-Ok.ensures.most in
    omega (arith, fits, rows_long c.args.places.now, c.requires.few)

pub returns-in_ok-push-in-Ok-clause-sound : goal.returns-in_ok-push-in-Ok-clause-sound
returns-in_ok-push-in-Ok-clause-sound c =
    let places = rows_of c.args.places.now in
    let levels = c.args.self.now.levels.items in
    let waiting = rows_of c.args.self.now.waiting.items in
    let ready = c.args.self.now.ready.items in
    let inside : c.args.k < length places = omega (arith, rows_long c.args.places.now, c.requires.task) in
    let zero_here : level levels c.args.k ≡ 0 = zero_read levels c.args.k c.index.result.now (omega (arith, c.requires.sound.long)) c.index.ensures c.if-index-ne0.false in
    let r : c.as_slice-2.result.now ≡ row places c.args.k = c.as_slice-2.ensures.value ∙ sym (row_at c.args.places.now c.args.k c.index-places-k.result c.requires.task c.index-places-k.is) in
    let within : IsWithin (length places) (row places c.args.k) = subst (λ n. IsWithin n (row places c.args.k)) (sym (rows_long c.args.places.now)) (within_at c.args.places.now (length c.args.places.now) c.args.k c.requires.task c.requires.inside) in
    give_seen places levels waiting ready c.push.new.self.items c.args.k c.in-Ok.most c.as_slice.result.now c.as_slice-2.result.now c.requires.sound inside zero_here within
    c.as_slice.ensures.value r c.in-Ok.ensures.all c.in-Ok.ensures.most c.in_ok-push-in-Ok.ensures.items

pub returns-in_ok-push-in-Ok-clause-rest : goal.returns-in_ok-push-in-Ok-clause-rest
returns-in_ok-push-in-Ok-clause-rest c = λ i settled.
    let places = rows_of c.args.places.now in
    let levels = c.args.self.now.levels.items in
    let waiting = rows_of c.args.self.now.waiting.items in
    let ready = c.args.self.now.ready.items in
    let inside : c.args.k < length places = omega (arith, rows_long c.args.places.now, c.requires.task) in
    rw c.in_ok-push-in-Ok.ensures.items (give_rest places levels waiting ready c.args.k c.in-Ok.most i (omega (arith, c.requires.sound.long, inside)) settled)

pub returns-in_ok-push_at-in-Err-clause-sound : goal.returns-in_ok-push_at-in-Err-clause-sound
returns-in_ok-push_at-in-Err-clause-sound c =
    let places = rows_of c.args.places.now in
    let levels = c.args.self.now.levels.items in
    let waiting = rows_of c.args.self.now.waiting.items in
    let ready = c.args.self.now.ready.items in
    let inside : c.args.k < length places = omega (arith, rows_long c.args.places.now, c.requires.task) in
    let there : c.in-Err.p < length waiting = omega (arith, c.in-Err.ensures.inside, ap length c.as_slice.ensures.value, c.requires.sound.long, c.requires.sound.lists) in
    rw c.in_ok-push_at-in-Err.ensures.ok (hold places levels waiting ready c.args.k c.in-Err.p c.requires.sound inside (omega (arith, there, c.requires.sound.lists)))

pub returns-in_ok-push_at-in-Err-clause-here : goal.returns-in_ok-push_at-in-Err-clause-here
returns-in_ok-push_at-in-Err-clause-here c =
    let places = rows_of c.args.places.now in
    let levels = c.args.self.now.levels.items in
    let waiting = rows_of c.args.self.now.waiting.items in
    let ready = c.args.self.now.ready.items in
    let inside : c.args.k < length places = omega (arith, rows_long c.args.places.now, c.requires.task) in
    let there : c.in-Err.p < length waiting = omega (arith, c.in-Err.ensures.inside, ap length c.as_slice.ensures.value, c.requires.sound.long, c.requires.sound.lists) in
    let r : c.as_slice-2.result.now ≡ row places c.args.k = c.as_slice-2.ensures.value ∙ sym (row_at c.args.places.now c.args.k c.index-places-k.result c.requires.task c.index-places-k.is) in
    let named : Names (row places c.args.k) c.in-Err.p = subst (λ es. Names es c.in-Err.p) r c.in-Err.ensures.named in
    let open_one : level levels c.in-Err.p ≡ 0 = subst (λ l. level l c.in-Err.p ≡ 0) c.as_slice.ensures.value c.in-Err.ensures.none_yet in
    rw c.in_ok-push_at-in-Err.ensures.ok (hold_here places levels waiting ready c.args.k c.in-Err.p there named open_one)

pub returns-in_ok-push_at-in-Err-clause-rest : goal.returns-in_ok-push_at-in-Err-clause-rest
returns-in_ok-push_at-in-Err-clause-rest c = λ i settled.
    let places = rows_of c.args.places.now in
    let levels = c.args.self.now.levels.items in
    let waiting = rows_of c.args.self.now.waiting.items in
    let ready = c.args.self.now.ready.items in
    let inside : c.args.k < length places = omega (arith, rows_long c.args.places.now, c.requires.task) in
    let there : c.in-Err.p < length waiting = omega (arith, c.in-Err.ensures.inside, ap length c.as_slice.ensures.value, c.requires.sound.long, c.requires.sound.lists) in
    rw c.in_ok-push_at-in-Err.ensures.ok (hold_rest places levels waiting ready c.args.k c.in-Err.p i there settled)
