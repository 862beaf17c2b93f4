use Rattle.std.proofs.Common.{◌≡◌, ◌≤◌, ◌-◌, length, get_or, sym, subst, arith}
use Rattle.std.specs.Prelude.{Contains}
use Rattle.std.proofs.lemmas.Bool.{eqb-false}
use Rattle.command_words.proofs.ListLaws.{one_list}
use Rattle.command_words.proofs.numbers.schedule_in.Goals as goal
use Rattle.command_words.proofs.numbers.schedule_in.Goals.{else-len-le4096-via-then-len-le4096+else-contains, else-len-le4096-via-else-len-le4096}

pub returns : goal.returns
returns c = λ ns h.
    let same : ns ≡ c.in-Some.numbers.items = one_list (c.args.workers - 1) c.args.text.now ns c.in-Some.numbers.items h.listed (rw c.in-Some.is at c.in_ok-numbers.ensures) in
    let few : length c.in-Some.numbers.items ≤ 4096 = subst (λ l. length l ≤ 4096) same h.few in
    let zero : Contains c.in-Some.numbers.items 0 = subst (λ l. Contains l 0) same h.with_zero in
    elim c.else-len-le4096.branch [
      | else-len-le4096-via-then-len-le4096+else-contains w ↦
          let there : Contains w.deref.result.now 0 = subst (λ l. Contains l 0) (sym w.deref.ensures.value) zero in
          absurd (eqb-false (get_or w.deref.result.now there.0 0) 0 ((w.if-contains.ensures).cases there.0 0 (omega arith) there.1) there.2)
      | else-len-le4096-via-else-len-le4096 w ↦ absurd (omega (arith, few, c.len.ensures, w.if-len-le4096.false))
    ]
