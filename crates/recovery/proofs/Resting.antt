-- That a turn of a replacement lets its rest fall, by what the turn comes to.
use Rattle.std.proofs.Common.{◌≡◌, ◌⊎◌, ℕ, zero, suc, ◌+◌, ◌-◌, ◌*◌, ◌<◌, ◌≤◌, nat_eq, nat_lt, Bool, true, false, cond, not, inl, inr, ⊎_elim, arith, sym, ap, refl, ◌∙◌, subst}
use mathlib.Core.Logic.{dite}
use native.Mathlib.Decide.{ℕ_discrete}
use native.Mathlib.Nat.{add-mul, mul-add}
use Rattle.graph_model.specs.Graph.{Graph as TaskGraph}
use Rattle.core_state.specs.Asked.{IsCoreKey}
use Rattle.core_state.specs.Effects.{elected_of}
use Rattle.core_state.specs.Graph.{Setting}
use Rattle.core_state.specs.Sure.{IsReplacing}
use Rattle.core_state.specs.Words.{standing_life}
use Rattle.core_state.specs.declared.answers.Elected.{Elected}
use Rattle.core_state.specs.declared.answers.Elected.TheVariants as elected
use Rattle.core_state.proofs.Lines.After.{renewing_low}
use Rattle.recovery.specs.Owing.{is_bought}
use Rattle.recovery.specs.Recovering.{IsOnward, going, is_over}
use Rattle.recovery.specs.Resting.{HasLeft, ReenterRests, Rests, owe_rest, phase_rest, ports_rest, recover_rest, turn_cost, way_rest}
use Rattle.recovery.specs.Serving.{Serves}
use Rattle.recovery.specs.declared.owe.Owe.{Owe}
use Rattle.recovery.specs.declared.owe.Paid.{Paid}
use Rattle.recovery.specs.declared.owe.Paid.TheVariants as paid
use Rattle.recovery.specs.declared.recover.Phase.{Phase}
use Rattle.recovery.specs.declared.recover.Phase.TheVariants as phase
use Rattle.recovery.specs.declared.recover.Recover.{Recover}
use Rattle.recovery.specs.declared.reenter.Reached.TheVariants as reached
use Rattle.recovery.specs.declared.reenter.Reenter.{Reenter}
use Rattle.recovery.specs.declared.reenter.Way.{Way}
use Rattle.recovery.specs.declared.reenter.Way.TheVariants as way
use Rattle.recovery.specs.declared.turn.Turn.{Turn}
use Rattle.recovery.specs.declared.turn.Turn.TheVariants as turn

-- a way weighs at least a post and at most a whole port
pub way_some : (rows : ℕ) (y : Way) → 7 ≤ way_rest rows y
way_some rows way.Start = omega arith
way_some rows (way.Seek s) = omega arith
way_some rows (way.Load at) = omega arith
way_some rows (way.Register at) = omega arith
way_some rows (way.Spend at) = omega arith

pub way_whole : (rows : ℕ) (y : Way) → way_rest rows y ≤ rows + 9
way_whole rows way.Start = omega arith
way_whole rows (way.Seek s) = omega arith
way_whole rows (way.Load at) = omega arith
way_whole rows (way.Register at) = omega arith
way_whole rows (way.Spend at) = omega arith

-- one port more
pub one_port : (e : Setting) (k q : ℕ) → q < e.graph.ports k → ports_rest e k q ≡ (e.shape.rows + 9) + ports_rest e k (q + 1)
one_port e k q low = let c : ℕ = e.shape.rows + 9 in let m : ℕ = e.graph.ports k - (q + 1) in
    let more : e.graph.ports k - q ≡ m + 1 = omega (arith, low) in
    let split : (m + 1) * c ≡ m * c + 1 * c = add-mul m 1 c in
    let all : (e.graph.ports k - q) * c ≡ (m + 1) * c = ap (λ z. z * c) more in omega (arith, all, split)

-- the re-entering at a port, where the port is there
hand_below : (e : Setting) (k : ℕ) (y : Reenter) → y.port < e.graph.ports k → phase_rest e k (phase.Reenter y) ≤ ports_rest e k y.port
hand_below e k y low = let a = one_port e k y.port low in let b = way_whole e.shape.rows y.way in omega (arith, a, b)

-- what comes after a step on the ports
onward_low : (e : Setting) (k : ℕ) (y : Reenter) (end next : Phase) → IsOnward (e.graph.ports k) y end next → phase_rest e k end ≤ 1 → phase_rest e k next ≤ 1 + ports_rest e k y.port
onward_low e k y end next onward small = ⊎_elim
    (λ o. let a = ap (phase_rest e k) o.0 in let b = hand_below e k y o.1 in omega (arith, a, b))
    (λ o. let a = ap (phase_rest e k) o.0 in omega (arith, a, small))
    onward

onward_hand : (e : Setting) (k : ℕ) (y : Reenter) (end next : Phase) → IsOnward (e.graph.ports k) y end next → phase_rest e k end ≤ 1 → phase_rest e k next ≤ phase_rest e k (phase.Reenter y)
onward_hand e k y end next onward small = ⊎_elim
    (λ o. let a = ap (phase_rest e k) o.0 in omega (arith, a))
    (λ o. let a = ap (phase_rest e k) o.0 in let b = way_some e.shape.rows y.way in omega (arith, a, b, small))
    onward

module _ (e : Setting) (before : Recover) (n : ℕ) where
  -- the rest falls by the cost of the turn, or nothing is left
  falls : (next : Phase) → phase_rest e before.key.0 next + turn_cost before.phase ≤ recover_rest e before → Rests e before (record before { phase = next }) (going next) n
  falls phase.Suspect low = inl low
  falls (phase.Renew done) low = inl low
  falls phase.Finish low = inl low
  falls (phase.Owe owe behind) low = inl low
  falls (phase.Reenter reenter) low = inl low
  falls phase.Passed low = inl low
  falls phase.Over low = refl

  pub rests_by : (next : Phase) (now : Recover) (told : Turn) → now ≡ record before { phase = next } → told ≡ going next → phase_rest e before.key.0 next + turn_cost before.phase ≤ recover_rest e before → Rests e before now told n
  rests_by next now told is tells low = subst (λ x. Rests e before x told n) (sym is) (subst (λ t. Rests e before (record before { phase = next }) t n) (sym tells) (falls next low))

  -- the same, where the phase and its rest are known
  pub rests_from : (here : Phase) → before.phase ≡ here → (next : Phase) (now : Recover) (told : Turn) → now ≡ record before { phase = next } → told ≡ going next → phase_rest e before.key.0 next + turn_cost here ≤ phase_rest e before.key.0 here → Rests e before now told n
  rests_from here at next now told is tells low = rests_by next now told is tells (subst (λ p. phase_rest e before.key.0 next + turn_cost p ≤ phase_rest e before.key.0 p) (sym at) low)

-- Elections.
renewing_is : (l m n : ℕ) → elected.Renewing m ≡ elected_of l n → m ≡ standing_life n
renewing_is l m n is = by (nat_eq n (2 * (l - 1))) (nat_lt l (standing_life n)) is
  where
    by : (a c : Bool) → elected.Renewing m ≡ cond a elected.Yes (cond c (elected.Replaced (standing_life n)) (elected.Renewing (standing_life n))) → m ≡ standing_life n
    by true c told = absurd cc
    by false true told = absurd cc
    by false false told = cc

-- What an election that met a replacement comes to.
module _ (e : Setting) (r : Recover) (n m : ℕ) (at : r.phase ≡ phase.Suspect) (told : Elected) (renews : told ≡ elected.Renewing m) (t : told ≡ elected_of r.life n) (replaced : IsReplacing told n) (now : Recover) (turned : Turn) (same : now ≡ record r { phase = phase.Suspect }) (goes : turned ≡ turn.Going) where
  awaited : (standing_life n < r.life) ⊎ ((standing_life n ≡ r.life) × (r.wait ≡ true)) → Rests e r now turned n
  awaited life = subst (λ u. Rests e r now u n) (sym goes) (inr (record { elects = at; is_replaced = subst (λ a. IsReplacing a n) renews replaced; life = life }, same ∙ ap (λ p. record r { phase = p }) (sym at)))

  pub rests_early : m < r.life → Rests e r now turned n
  rests_early early = let is = renewing_is r.life m n (sym renews ∙ t) in awaited (inl (omega (arith, is, early)))

  pub rests_awaited : (m < r.life → ⊥) → r.wait ≡ true → Rests e r now turned n
  rests_awaited late waits = let is = renewing_is r.life m n (sym renews ∙ t) in let low = renewing_low r.life m n (sym renews ∙ t) in
      awaited (inr (dite (ℕ_discrete (standing_life n) r.life) (λ z. z) (λ ne. absurd (late (omega (arith, is, low, ne)))), waits))

module _ (e : Setting) (r : Recover) (n : ℕ) (now : Recover) (turned : Turn) where
  pub rests_yes : r.phase ≡ phase.Suspect → now ≡ record r { phase = phase.Renew 0 } → turned ≡ turn.Going → Rests e r now turned n
  rests_yes at is goes = rests_from e r n phase.Suspect at (phase.Renew 0) now turned is goes (omega arith)

  pub rests_over : now ≡ record r { phase = phase.Over } → turned ≡ turn.Done → Rests e r now turned n
  rests_over is goes = subst (λ u. Rests e r now u n) (sym goes) (ap (recover_rest e) is)

  -- the renewal of a word
  pub rests_renewed : (done : ℕ) → r.phase ≡ phase.Renew done → done < e.graph.notify_words r.key.0 → now ≡ record r { phase = phase.Renew (done + 1) } → turned ≡ turn.Going → Rests e r now turned n
  rests_renewed done at low is goes = rests_from e r n (phase.Renew done) at (phase.Renew (done + 1)) now turned is goes (omega (arith, low))

  pub rests_all : (done : ℕ) → r.phase ≡ phase.Renew done → now ≡ record r { phase = phase.Finish } → turned ≡ turn.Going → Rests e r now turned n
  rests_all done at is goes = rests_from e r n (phase.Renew done) at phase.Finish now turned is goes (omega arith)

  pub rests_finished : (owe : Owe) (behind : Reenter) → r.phase ≡ phase.Finish → owe.bought ≡ false → behind ≡ record { port = 0; way = way.Start } → now ≡ record r { phase = phase.Owe owe behind } → turned ≡ turn.Going → Rests e r now turned n
  rests_finished owe behind at free from is goes = rests_from e r n phase.Finish at (phase.Owe owe behind) now turned is goes
      (let a : owe_rest owe ≡ 6 = ap (λ (b : Bool). cond b 5 6) free in let c = ap (λ (y : Reenter). ports_rest e r.key.0 y.port) from in omega (arith, a, c))

-- What a step on the ports comes to.
module _ (e : Setting) (r : Recover) (n : ℕ) (x y : Reenter) (at : r.phase ≡ phase.Reenter x) where
  left_at : HasLeft x y → ports_rest e r.key.0 y.port ≡ ports_rest e r.key.0 (x.port + 1)
  left_at left = ap (λ (z : Reenter). ports_rest e r.key.0 z.port) left

  pub rests_past : (next : Phase) (now : Recover) (told : Turn) → ReenterRests e.shape.rows x y reached.Going → IsOnward (e.graph.ports r.key.0) y phase.Over next → now ≡ record r { phase = next } → told ≡ going next → Rests e r now told n
  rests_past next now told moves onward is tells = rests_from e r n (phase.Reenter x) at next now told is tells (⊎_elim
      (λ left. let a = onward_low e r.key.0 y phase.Over next onward (omega arith) in let b = left_at left in let c = way_some e.shape.rows x.way in omega (arith, a, b, c))
      (λ stays. let a = onward_hand e r.key.0 y phase.Over next onward (omega arith) in let b = ap (λ q. ports_rest e r.key.0 (q + 1)) stays.0 in let c = stays.1 in omega (arith, a, b, c))
      moves)

  pub rests_owing : (owe : Owe) (now : Recover) (told : Turn) → HasLeft x y → owe.bought ≡ false → now ≡ record r { phase = phase.Owe owe y } → told ≡ turn.Going → Rests e r now told n
  rests_owing owe now told left free is tells = rests_from e r n (phase.Reenter x) at (phase.Owe owe y) now told is tells
      (let a : owe_rest owe ≡ 6 = ap (λ (b : Bool). cond b 5 6) free in let b = left_at left in let c = way_some e.shape.rows x.way in omega (arith, a, b, c))

  pub rests_met : (next : Phase) (now : Recover) → HasLeft x y ⊎ (y ≡ x) → IsOnward (e.graph.ports r.key.0) y phase.Passed next → now ≡ record r { phase = next } → recover_rest e now ≤ recover_rest e r
  rests_met next now moves onward is = let h : recover_rest e now ≡ phase_rest e r.key.0 next = ap (recover_rest e) is in let f : recover_rest e r ≡ phase_rest e r.key.0 (phase.Reenter x) = ap (phase_rest e r.key.0) at in ⊎_elim
      (λ left. let a = onward_low e r.key.0 y phase.Passed next onward (omega arith) in let b = left_at left in let c = way_some e.shape.rows x.way in omega (arith, a, b, c, h, f))
      (λ stays. let a = onward_hand e r.key.0 y phase.Passed next onward (omega arith) in let b = ap (λ z. phase_rest e r.key.0 (phase.Reenter z)) stays in omega (arith, a, b, h, f))
      moves

-- What the step for the job that is owed comes to.
unbought : (b : Bool) → true ≡ not b → b ≡ false
unbought true is = cc
unbought false is = refl

was_bought : (b : Bool) → false ≡ not b → b ≡ true
was_bought true is = refl
was_bought false is = cc

module _ (e : Setting) (r : Recover) (n : ℕ) (owe : Owe) (behind : Reenter) (at : r.phase ≡ phase.Owe owe behind) (answer : Paid) (bought : is_bought answer ≡ not owe.bought) where
  pub rests_bought : (now : Recover) (told : Turn) (later : Owe) → answer ≡ paid.Bought → later ≡ record owe { bought = true } → now ≡ record r { phase = phase.Owe later behind } → told ≡ turn.Going → Rests e r now told n
  rests_bought now told later is_paid later_is is tells = rests_from e r n (phase.Owe owe behind) at (phase.Owe later behind) now told is tells
      (let free = unbought owe.bought (sym (ap is_bought is_paid) ∙ bought) in let a : owe_rest later ≡ 5 = ap owe_rest later_is in let b : owe_rest owe ≡ 6 = ap (λ (z : Bool). cond z 5 6) free in let c : turn_cost (phase.Owe owe behind) ≡ 1 = ap (λ (z : Bool). cond z 4 1) free in omega (arith, a, b, c))

  costs : is_bought answer ≡ false → (owe_rest owe ≡ 5) × (turn_cost (phase.Owe owe behind) ≡ 4)
  costs is_paid = let done = was_bought owe.bought (sym is_paid ∙ bought) in (ap (λ (z : Bool). cond z 5 6) done, ap (λ (z : Bool). cond z 4 1) done)

  pub rests_posted : (next : Phase) (now : Recover) (told : Turn) → answer ≡ paid.Posted → IsOnward (e.graph.ports r.key.0) behind phase.Over next → now ≡ record r { phase = next } → told ≡ going next → Rests e r now told n
  rests_posted next now told is_paid onward is tells = rests_from e r n (phase.Owe owe behind) at next now told is tells
      (let a = onward_low e r.key.0 behind phase.Over next onward (omega arith) in let b = (costs (ap is_bought is_paid)).0 in let c = (costs (ap is_bought is_paid)).1 in omega (arith, a, b, c))

  pub rests_given : (life : ℕ) (next : Phase) (now : Recover) → answer ≡ paid.Given life → IsOnward (e.graph.ports r.key.0) behind phase.Passed next → now ≡ record r { phase = next } → recover_rest e now + turn_cost r.phase ≤ recover_rest e r
  rests_given life next now is_paid onward is = let h : recover_rest e now ≡ phase_rest e r.key.0 next = ap (recover_rest e) is in let f : recover_rest e r ≡ phase_rest e r.key.0 (phase.Owe owe behind) = ap (phase_rest e r.key.0) at in let t : turn_cost r.phase ≡ turn_cost (phase.Owe owe behind) = ap turn_cost at in
      let a = onward_low e r.key.0 behind phase.Passed next onward (omega arith) in let b = (costs (ap is_bought is_paid)).0 in let c = (costs (ap is_bought is_paid)).1 in omega (arith, a, b, c, h, f, t)

-- The rest of a new replacement.
grows : (r s : ℕ) → 0 < r → s * (r + 9) + s + 10 ≤ 20 * r * (s + 3)
grows r zero some = omega (arith, some)
grows r (suc s) some = let h = grows r s some in
    let a : (s + 1) * (r + 9) ≡ s * (r + 9) + 1 * (r + 9) = add-mul s 1 (r + 9) in
    let b : 20 * r * ((s + 3) + 1) ≡ 20 * r * (s + 3) + 20 * r * 1 = mul-add (20 * r) (s + 3) 1 in
    omega (arith, h, a, b, some)

-- a task or the root has at most one notify word more than ports
few_words : (g : TaskGraph) (e : Setting) (k : ℕ) → Serves g e → IsCoreKey g k → e.graph.notify_words k ≤ e.graph.ports k + 1
few_words g e k serves key = ⊎_elim
    (λ root. let is : k ≡ e.graph.root = root ∙ sym serves.graph.root in let a = ap e.graph.notify_words is ∙ serves.graph.at_root.notify_words in omega (arith, a))
    (λ task. let t = serves.graph.at_task k task in let a = t.ports in let b = t.notify_words in omega (arith, a, b)) key

pub new_rest : (g : TaskGraph) (e : Setting) (k : ℕ) → Serves g e → IsCoreKey g k → 0 < e.shape.rows → phase_rest e k phase.Suspect ≤ 20 * e.shape.rows * (e.graph.ports k + 3)
new_rest g e k serves key some = let a = few_words g e k serves key in let b = grows e.shape.rows (e.graph.ports k) some in
    let whole : e.graph.ports k - 0 ≡ e.graph.ports k = omega arith in let c : ports_rest e k 0 ≡ e.graph.ports k * (e.shape.rows + 9) = ap (λ m. m * (e.shape.rows + 9)) whole in omega (arith, a, b, c)
