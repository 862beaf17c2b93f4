use Rattle.std.proofs.Common.{ap, inl, sym, ◌∙◌, ◌<◌, subst, Contains}
use Rattle.core_state.specs.Graph.{Setting}
use Rattle.key_table.specs.Seeking.{next_row}
use Rattle.key_table.specs.declared.search.Sought.TheVariants as sought
use Rattle.recovery.proofs.Seeking.{goes_on, goes_at, goes_by, look_is, look_low, looks_make, moves_on, moves_at, spends}
use Rattle.recovery.proofs.reenter.Reenter.seek.Goals as goal

pub returns-in-Going-clause-goes : goal.returns-in-Going-clause-goes
returns-in-Going-clause-goes g c = λ p place port. let s = c.args.search in let t = c.in-Going.ensures in let v = g.T.Steps.view c.args.steps.now in let w = g.T.Steps.view c.turn.new.words in
    goes_on (g.T.Steps.setting c.args.steps.now) v w (g.T.KeyWords.last c.turn.new.words).1 p place (g.T.KeyWords.known c.turn.new.words) s c.args.self.now c.requires.search port (λ k is. t.stays k (g.met.T.Steps.known_is c.args.steps.now _ ∙ is)) (λ r. g.met.T.Steps.known_is c.turn.new.words r)
    (look_is s c.requires.search.looks (g.met.T.Steps.key_step _ _ _ _ t.did)) c.turn.new.self t.search t.tells

pub returns-in-At-clause-goes : goal.returns-in-At-clause-goes
returns-in-At-clause-goes g c = λ p place port. let s = c.args.search in let t = c.in-At.ensures in let v = g.T.Steps.view c.args.steps.now in let w = g.T.Steps.view c.turn.new.words in
    goes_at (g.T.Steps.setting c.args.steps.now) v w (g.T.KeyWords.last c.turn.new.words).1 p place (g.T.KeyWords.known c.turn.new.words) s c.args.self.now c.requires.search port (λ k is. t.stays k (g.met.T.Steps.known_is c.args.steps.now _ ∙ is)) (λ r. g.met.T.Steps.known_is c.turn.new.words r)
    (look_is s c.requires.search.looks (g.met.T.Steps.key_step _ _ _ _ t.did)) c.in-At.row c.in-At.made t.tells

pub returns-in-Absent-clause-goes : goal.returns-in-Absent-clause-goes
returns-in-Absent-clause-goes g c = λ p place port. let s = c.args.search in let t = c.in-Absent.ensures in let v = g.T.Steps.view c.args.steps.now in let w = g.T.Steps.view c.turn.new.words in let e = g.T.Steps.setting c.args.steps.now in
    let step = g.met.T.Steps.key_step c.args.steps.now c.turn.new.words _ _ t.did in
    let same = step.1.table.same_setting in
    goes_by e v w (g.T.KeyWords.last c.turn.new.words).1 p place (g.T.KeyWords.known c.turn.new.words) s c.args.self.now c.requires.search port (λ k is. t.stays k (g.met.T.Steps.known_is c.args.steps.now _ ∙ is)) (λ r. g.met.T.Steps.known_is c.turn.new.words r)
    (look_is s c.requires.search.looks step)
    _ _ _ _ t.rules (g.met.T.Steps.rows_are c.turn.new.words ∙ ap (λ (x : Setting). x.shape.rows) same ∙ sym c.requires.search.rows_are)
    (subst (λ ks. Contains ks s.key) (sym (g.met.T.Steps.keys_are c.turn.new.words ∙ ap (λ (x : Setting). x.keys) same)) c.requires.listed)
    (subst (λ m. next_row s < m) (sym c.requires.search.rows_are) (look_low s c.requires.search.looks step)) c.leave.new.self c.leave.ensures t.tells

pub returns-in-Going-clause-step : goal.returns-in-Going-clause-step
returns-in-Going-clause-step g c = let t = c.in-Going.ensures in let step = g.met.T.Steps.key_step c.args.steps.now c.turn.new.words _ _ t.did in
    looks_make c.args.search c.requires.search.looks step g.T.KeyWords.spare (spends sought.Going _ _ t.room) (λ k is. t.stays k (g.met.T.Steps.known_is c.args.steps.now _ ∙ is))

pub returns-in-Going-clause-moves : goal.returns-in-Going-clause-moves
returns-in-Going-clause-moves g c = let t = c.in-Going.ensures in moves_on _ (g.T.Steps.view c.args.steps.now) c.args.search c.requires.search c.args.self.now c.requires.way c.turn.new.self t.search

pub returns-in-At-clause-step : goal.returns-in-At-clause-step
returns-in-At-clause-step g c = let t = c.in-At.ensures in let step = g.met.T.Steps.key_step c.args.steps.now c.turn.new.words _ _ t.did in
    looks_make c.args.search c.requires.search.looks step g.T.KeyWords.spare (spends (sought.At c.in-At.row c.in-At.made) _ _ t.room) (λ k is. t.stays k (g.met.T.Steps.known_is c.args.steps.now _ ∙ is))

pub returns-in-At-clause-moves : goal.returns-in-At-clause-moves
returns-in-At-clause-moves g c = moves_at _ (g.T.Steps.view c.args.steps.now) c.args.search c.requires.search c.args.self.now c.requires.way c.in-At.row

pub returns-in-Absent-clause-step : goal.returns-in-Absent-clause-step
returns-in-Absent-clause-step g c = let t = c.in-Absent.ensures in let step = g.met.T.Steps.key_step c.args.steps.now c.turn.new.words _ _ t.did in
    looks_make c.args.search c.requires.search.looks step g.T.KeyWords.spare (spends sought.Absent _ _ t.room) (λ k is. t.stays k (g.met.T.Steps.known_is c.args.steps.now _ ∙ is))

pub returns-in-Absent-clause-moves : goal.returns-in-Absent-clause-moves
returns-in-Absent-clause-moves g c = inl c.leave.ensures
