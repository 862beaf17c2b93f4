-- That the closing of a word lets the rest fall, by the answer.
use Rattle.std.proofs.Common.{◌≡◌, ℕ, ◌+◌, ◌-◌, ◌*◌, ◌^◌, ◌<◌, ◌≤◌, Bool, false, cond, ne_eqb, List, Option, Some, None, inl, inr, arith, ap, sym, subst}
use mathlib.Core.Logic.{dite}
use native.Mathlib.Decide.{ℕ_discrete}
use native.Mathlib.Nat.{add-mul}
use Rattle.std.specs.Prelude.{count_ones}
use Rattle.std.specs.Int.{bit_at}
use Rattle.std.proofs.lemmas.Bool.{eq-eqb}
use Rattle.std.proofs.lemmas.Nat.{mod_below, mul-le}
use Rattle.graph_model.specs.declared.plan.Point.TheVariants as point
use Rattle.graph_model.specs.declared.plan.Strike.{Strike}
use Rattle.graph_model.specs.declared.record.Cause.TheVariants as cause
use Rattle.core_state.specs.Counts.{known_key}
use Rattle.core_state.specs.Effects.{closing_of}
use Rattle.core_state.specs.Graph.{Setting}
use Rattle.core_state.specs.Events.Event.{close}
use Rattle.core_state.specs.Sure.{PortsTell}
use Rattle.core_state.specs.declared.answers.Closing.TheVariants as closing
use Rattle.core_state.specs.declared.views.View.{View}
use Rattle.core_state.specs.declared.words.NotifyWord.{NotifyWord}
use Rattle.compute_notify.specs.Items.{close_from, notify_of, replaces}
use Rattle.compute_notify.specs.Resting.{LetsFall, after_rest, close_rest, close_strikes, notify_rest, seen_rest, strikes_rest, suspect_rest}
use Rattle.compute_notify.specs.Resting.Excuses.{marked_word, moved}
use Rattle.compute_notify.specs.declared.close.Close.{Close}
use Rattle.compute_notify.specs.declared.item.After.{After}
use Rattle.compute_notify.specs.declared.item.Came.TheVariants as came
use Rattle.compute_notify.specs.declared.item.Item.TheVariants as item
use Rattle.compute_notify.proofs.Closing.{edges_are, struck_marked}
use Rattle.compute_notify.proofs.LowestPorts.{few_ports}
use Rattle.compute_notify.proofs.Telling.{fresh_rest}

seen_small : (o : Option NotifyWord) → seen_rest o ≤ 1
seen_small None = omega arith
seen_small (Some x) = omega arith

module _ (e : Setting) (p : List Strike) (c : Close) where
  -- the strikes from the next word on
  later_strikes : (0 < c.word → c.made ≡ 0) → close_strikes e p (close_from c.duty (c.word + 1)) ≤ close_strikes e p c
  later_strikes between =
      let a : close_strikes e p (close_from c.duty (c.word + 1)) ≡ strikes_rest p point.Notified c.duty 0 = ap (λ (b : Bool). cond b (strikes_rest p point.Computed c.duty 0 + strikes_rest p point.Notified c.duty 0) (strikes_rest p point.Notified c.duty 0)) (ne_eqb (c.word + 1) 0 (λ z. omega (arith, z))) in
      dite (ℕ_discrete c.word 0)
      (λ z. let b : close_strikes e p c ≡ strikes_rest p point.Computed c.duty c.made + strikes_rest p point.Notified c.duty 0 = ap (λ (x : Bool). cond x (strikes_rest p point.Computed c.duty c.made + strikes_rest p point.Notified c.duty 0) (strikes_rest p point.Notified c.duty c.made)) (eq-eqb c.word 0 z) in omega (arith, a, b))
      (λ ne. let b : close_strikes e p c ≡ strikes_rest p point.Notified c.duty c.made = ap (λ (x : Bool). cond x (strikes_rest p point.Computed c.duty c.made + strikes_rest p point.Notified c.duty 0) (strikes_rest p point.Notified c.duty c.made)) (ne_eqb c.word 0 ne) in
      let d : strikes_rest p point.Notified c.duty c.made ≡ strikes_rest p point.Notified c.duty 0 = ap (strikes_rest p point.Notified c.duty) (between (omega (arith, ne))) in omega (arith, a, b, d))

  -- the ports of the word that was closed and those of the later words are among those that were left
  ports_apart : (ports : ℕ) → ports < 2 ^ 40 → ((b : ℕ) → b < 40 → bit_at ports b ≡ 1 → 40 * c.word + b < e.graph.ports c.duty.key.0) → count_ones ports + (e.graph.ports c.duty.key.0 - 40 * (c.word + 1)) ≤ e.graph.ports c.duty.key.0 - 40 * c.word
  ports_apart ports small inside = let few = few_ports ports (e.graph.ports c.duty.key.0 - 40 * c.word) small (λ b low set. let a = inside b low set in omega (arith, a)) in
      let a = few.0 in let b = few.1 in omega (arith, a, b)

  module _ (inside : c.word < e.graph.notify_words c.duty.key.0) where
    rest_edges : (ports : ℕ) → ports < 2 ^ 40 → ((b : ℕ) → b < 40 → bit_at ports b ≡ 1 → 40 * c.word + b < e.graph.ports c.duty.key.0) → (0 < c.word → c.made ≡ 0)
        → notify_rest e (notify_of c.duty.key c.duty.life c.word ports) + close_rest e p None (close_from c.duty (c.word + 1)) + 1 ≤ close_rest e p None c
    rest_edges ports small among between =
        let cost : ℕ = e.shape.rows + 7 in let later : ℕ = e.graph.ports c.duty.key.0 - 40 * (c.word + 1) in let left : ℕ = e.graph.ports c.duty.key.0 - 40 * c.word in
        let few : count_ones ports + later ≤ left = ports_apart ports small among in
        let whole : (count_ones ports + later) * cost ≤ left * cost = mul-le (count_ones ports + later) cost left cost few (omega arith) in
        let parts : (count_ones ports + later) * cost ≡ count_ones ports * cost + later * cost = add-mul (count_ones ports) later cost in
        let told : notify_rest e (notify_of c.duty.key c.duty.life c.word ports) ≤ count_ones ports * cost = fresh_rest e c.duty.key c.duty.life c.word ports in
        let strikes = later_strikes between in let once = seen_small c.seen in
        omega (arith, whole, parts, told, strikes, once, inside)

    module _ (v : View) (n seen_as : ℕ) where
      pub falls_edges : (ports : ℕ) (now : After) → closing.Edges ports ≡ closing_of c.duty.life seen_as n → known_key c.duty.row v ≡ c.duty.key.0 → PortsTell (e.graph.ports (known_key c.duty.row v)) c.word (closing.Edges ports) → (0 < c.word → c.made ≡ 0)
          → now ≡ record { left = Some (item.Close (close_from c.duty (c.word + 1))); came = came.Above (item.Notify (notify_of c.duty.key c.duty.life c.word ports)) }
          → LetsFall e p (close c.duty.row (known_key c.duty.row v) c.duty.life c.word seen_as) n (close_rest e p None c) (after_rest e p None now)
      falls_edges ports now told known tells between left = let bits = edges_are c.duty.life seen_as n ports told in let low = mod_below n (2 ^ 40) (omega arith) in
          let a = rest_edges ports (omega (arith, bits, low)) (subst (λ k. (b : ℕ) → b < 40 → bit_at ports b ≡ 1 → 40 * c.word + b < e.graph.ports k) known tells) between in let b = ap (after_rest e p None) left in inl (omega (arith, a, b))

      pub falls_stale : (now : After) → now ≡ record { left = None; came = came.Nothing } → LetsFall e p (close c.duty.row (known_key c.duty.row v) c.duty.life c.word seen_as) n (close_rest e p None c) (after_rest e p None now)
      falls_stale now left = let b = ap (after_rest e p None) left in let once = seen_small c.seen in inl (omega (arith, b, once, inside))

      pub falls_struck : (m lives : ℕ) (now : After) → closing.Struck m ≡ closing_of c.duty.life seen_as n → known_key c.duty.row v ≡ c.duty.key.0
          → now ≡ record { left = None; came = came.Above (item.Recover (replaces (record { row = c.duty.row; key = c.duty.key; life = m }) cause.Notify false lives)) }
          → LetsFall e p (close c.duty.row (known_key c.duty.row v) c.duty.life c.word seen_as) n (close_rest e p None c) (after_rest e p None now)
      falls_struck m lives now told known left = inr (
        suspect_rest e (known_key c.duty.row v),
        marked_word c.duty.row (known_key c.duty.row v) c.duty.life c.word seen_as n (struck_marked c.duty.life seen_as n m told),
        (let a = ap (suspect_rest e) known in let b = ap (after_rest e p None) left in omega (arith, a, b)),
      )

      pub falls_moved : (x : NotifyWord) (now : After) → closing.Moved x ≡ closing_of c.duty.life seen_as n → now ≡ record { left = Some (item.Close (record c { seen = Some x })); came = came.Nothing }
          → LetsFall e p (close c.duty.row (known_key c.duty.row v) c.duty.life c.word seen_as) n (close_rest e p None c) (after_rest e p None now)
      falls_moved x now told left = inr (0, moved c.duty.row (known_key c.duty.row v) c.duty.life c.word seen_as n x (sym told), (let b = ap (after_rest e p None) left in let once = seen_small c.seen in omega (arith, b, once)))
