-- The first store has the records of all, and the others none.
use Rattle.std.proofs.Common.{◌<◌, length, set, ap, sym, ◌∙◌, arith}
use Rattle.core_state.specs.Counts.{count}
use Rattle.core_steps.specs.Table.{Plain, IsAll, stored}
use Rattle.core_steps.proofs.Growing.{gathered_all, gathered_is, gathered_room, sound_gathered}
use Rattle.core_steps.proofs.plain.PlainTable.gather.Goals as goal

pub invariant_of-self : goal.invariant_of-self
invariant_of-self g c = let low : 0 < length c.in_ok-stores.stores.items = let a = c.in_ok-stores.ensures.length in let b = c.worker_count-workers.ensures.some in omega (arith, a, b) in
    let all : IsAll c.of.result.records c.self.inside.stores.items = λ p. ap (count p) c.of.ensures ∙ c.in_ok-all.ensures p ∙ ap (stored p) c.as_slice.ensures.value in
    sound_gathered g.C.Course.setting _ c.in_ok-stores.stores.items c.of.result c.self.invariant low (c.in_ok-stores.ensures.length ∙ c.worker_count-workers.ensures.count ∙ sym (ap (λ (p : Plain). length p.stores) c.self.view_is)) c.in_ok-stores.ensures.bare all

pub returns-clause-records : goal.returns-clause-records
returns-clause-records g c p = let low : 0 < length c.in_ok-stores.stores.items = let a = c.in_ok-stores.ensures.length in let b = c.worker_count-workers.ensures.some in omega (arith, a, b) in
    let all : IsAll c.of.result.records c.self.inside.stores.items = λ q. ap (count q) c.of.ensures ∙ c.in_ok-all.ensures q ∙ ap (stored q) c.as_slice.ensures.value in
    gathered_all c.in_ok-stores.stores.items c.self.inside.stores.items c.of.result low c.in_ok-stores.ensures.bare all p ∙ ap (λ (t : Plain). stored p t.stores) c.self.view_is

pub returns-clause-ok : goal.returns-clause-ok
returns-clause-ok g c = let low : 0 < length c.in_ok-stores.stores.items = let a = c.in_ok-stores.ensures.length in let b = c.worker_count-workers.ensures.some in omega (arith, a, b) in
    gathered_is c.in_ok-stores.stores.items c.of.result low c.in_ok-stores.ensures.bare

pub returns-clause-room : goal.returns-clause-room
returns-clause-room g c = let low : 0 < length c.in_ok-stores.stores.items = let a = c.in_ok-stores.ensures.length in let b = c.worker_count-workers.ensures.some in omega (arith, a, b) in
    gathered_room (set c.in_ok-stores.stores.items 0 c.of.result) (gathered_is c.in_ok-stores.stores.items c.of.result low c.in_ok-stores.ensures.bare)
