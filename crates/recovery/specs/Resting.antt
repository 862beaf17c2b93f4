-- How much of a replacement is left to do, as a number, and that each turn lets it fall.
use Rattle.std.specs.Prelude.{◌≡◌, ◌⊎◌, ℕ, ◌+◌, ◌-◌, ◌*◌, ◌<◌, ◌≤◌, Bool, true, false, ◌&&◌, not, cond, eqb}
use Rattle.core_state.specs.Effects.{elected_of}
use Rattle.core_state.specs.Graph.{Setting}
use Rattle.core_state.specs.Words.{standing_life, replacing}
use Rattle.core_state.specs.declared.answers.Elected.{Elected}
use Rattle.core_state.specs.declared.answers.Elected.TheVariants as elected
use Rattle.recovery.specs.declared.owe.Owe.{Owe}
use Rattle.recovery.specs.declared.recover.Phase.{Phase}
use Rattle.recovery.specs.declared.recover.Phase.TheVariants as phase
use Rattle.recovery.specs.declared.recover.Recover.{Recover}
use Rattle.recovery.specs.declared.reenter.Reached.{Reached}
use Rattle.recovery.specs.declared.reenter.Reached.TheVariants as reached
use Rattle.recovery.specs.declared.reenter.Reenter.{Reenter}
use Rattle.recovery.specs.declared.reenter.Way.{Way}
use Rattle.recovery.specs.declared.reenter.Way.TheVariants as way
use Rattle.recovery.specs.declared.turn.Turn.{Turn}
use Rattle.recovery.specs.declared.turn.Turn.TheVariants as turn

-- a whole port, in a table of so many rows
abbrev pub port_rest : ℕ → ℕ
port_rest rows = rows + 9

-- what is left of the port at hand
abbrev pub way_rest : ℕ → Way → ℕ
way_rest rows way.Start = rows + 9
way_rest rows (way.Seek s) = (rows - s.passed) + 9
way_rest rows (way.Load at) = 9
way_rest rows (way.Register at) = 8
way_rest rows (way.Spend at) = 7

-- the ports of k from one on, none of which was begun
abbrev pub ports_rest : Setting → ℕ → ℕ → ℕ
ports_rest e k q = (e.graph.ports k - q) * port_rest e.shape.rows

-- a job that is owed; its post leaves a hint, which weighs 3
abbrev pub owe_rest : Owe → ℕ
owe_rest o = cond o.bought 5 6

-- what is left of the replacement of a life of k
abbrev pub phase_rest : Setting → ℕ → Phase → ℕ
phase_rest e k phase.Suspect = e.graph.notify_words k + 9 + ports_rest e k 0
phase_rest e k (phase.Renew done) = (e.graph.notify_words k - done) + 8 + ports_rest e k 0
phase_rest e k phase.Finish = 7 + ports_rest e k 0
phase_rest e k (phase.Owe owe behind) = owe_rest owe + ports_rest e k behind.port
phase_rest e k (phase.Reenter reenter) = way_rest e.shape.rows reenter.way + ports_rest e k (reenter.port + 1)
phase_rest e k phase.Passed = 1
phase_rest e k phase.Over = 0

-- the same of the whole replacement
abbrev pub recover_rest : Setting → Recover → ℕ
recover_rest e r = phase_rest e r.key.0 r.phase

-- how much a turn lets it fall: a post by three more, for its hint
abbrev pub turn_cost : Phase → ℕ
turn_cost (phase.Owe owe behind) = cond owe.bought 4 1
turn_cost _ = 1

-- The election met a life that is being replaced: an earlier one, or this one where its end is awaited.
pub record IsAwaited (r : Recover) (n : ℕ) : Type 0 where
  pub elects : r.phase ≡ phase.Suspect
  pub is_replaced : replacing n ≡ 1
  pub life : (standing_life n < r.life) ⊎ ((standing_life n ≡ r.life) × (r.wait ≡ true))

-- A turn that goes on lets the rest fall, or met such a life. The number is the one that its step's word held.
abbrev pub Rests : Setting → Recover → Recover → Turn → ℕ → Type 0
Rests e before now turn.Going n = (recover_rest e now + turn_cost before.phase ≤ recover_rest e before) ⊎ (IsAwaited before n × (now ≡ before))
Rests e before now turn.Done n = recover_rest e now ≡ 0
Rests e before now (turn.Met row k l c) n = recover_rest e now ≤ recover_rest e before
Rests e before now (turn.Given row k i l) n = recover_rest e now + turn_cost before.phase ≤ recover_rest e before
Rests e before now (turn.LivesSpent k l c) n = Unit {0}

-- an election lets the suspect go: its life was replaced, or another worker replaces it and the end is not awaited
abbrev pub lets_go : ℕ → Bool → Elected → Bool
lets_go l waits elected.Yes = false
lets_go l waits (elected.Replaced m) = true
lets_go l waits (elected.Renewing m) = eqb m l && not waits

-- then nothing is left to do
abbrev pub LetsGo : Recover → Recover → ℕ → Type 0
LetsGo before now n = lets_go before.life before.wait (elected_of before.life n) ≡ true → now ≡ record before { phase = phase.Over }

-- the port is left, and the next one begins
abbrev pub HasLeft : Reenter → Reenter → Type 0
HasLeft before now = now ≡ record { port = before.port + 1; way = way.Start }

-- A step on a port leaves it or comes nearer to its successor; the mark of the port's own task alone lets it stay.
abbrev pub ReenterRests : ℕ → Reenter → Reenter → Reached → Type 0
ReenterRests rows before now reached.Going = HasLeft before now ⊎ ((now.port ≡ before.port) × (way_rest rows now.way + 1 ≤ way_rest rows before.way))
ReenterRests rows before now (reached.Last r k l) = HasLeft before now
ReenterRests rows before now (reached.Mark r k l c) = HasLeft before now ⊎ (now ≡ before)
