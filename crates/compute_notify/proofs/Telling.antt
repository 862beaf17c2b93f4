-- The telling of a word's ports: what its step asks, and what it comes to.
use Rattle.std.proofs.Common.{◌≡◌, ◌≢◌, ℕ, ◌+◌, ◌-◌, ◌*◌, ◌/◌, ◌<◌, ◌≤◌, Bool, cond, ne_eqb, List, ◌∷◌, Option, Some, arith, ap, sym, refl, ◌∙◌, subst}
use mathlib.Core.Logic.{dite}
use native.Mathlib.Decide.{ℕ_discrete}
use native.Mathlib.Nat.{add-mul}
use Rattle.std.specs.Prelude.{count_ones}
use Rattle.std.specs.Int.{trailing_zeros, w64}
use Rattle.std.proofs.lemmas.Bool.{eq-eqb}
use Rattle.std.proofs.lemmas.Nat.{zero_from_ones}
use Rattle.graph_model.specs.Graph.{Graph as TaskGraph}
use Rattle.graph_model.specs.declared.key.Key.{Key}
use Rattle.core_state.specs.Guards.{CanSpend, KnowsClosed}
use Rattle.core_state.specs.Guards.Spends.{notifying}
use Rattle.core_state.specs.Counts.{facts, known_key}
use Rattle.core_state.specs.Tests.{is_seen_closed}
use Rattle.core_state.specs.Effects.{ports_from, told_of}
use Rattle.core_state.specs.Graph.{Setting, Successor, greatest_life}
use Rattle.core_state.specs.Events.{after}
use Rattle.core_state.specs.Events.Event.{look, spend}
use Rattle.core_state.specs.Lines.{Line, HasLines, of, flat}
use Rattle.core_state.specs.declared.answers.Told.{Told}
use Rattle.core_state.specs.declared.views.Item.TheVariants as line
use Rattle.core_state.specs.declared.views.View.{View}
use Rattle.core_state.proofs.Lines.After.{line_stands, looked_full, notified_spends}
use Rattle.core_state.proofs.Lines.Counts.{notifier_on_top}
use Rattle.core_state.proofs.Lines.Top.{at_work, first_strike}
use Rattle.core_steps.specs.Seat.{Awaits, known_of}
use Rattle.core_steps.specs.Seat.Awaits.{by_port}
use Rattle.key_table.specs.Seeking.{Seeking, next_row, turned, TurnTells}
use Rattle.key_table.specs.declared.search.Sought.TheVariants as sought
use Rattle.recovery.specs.Happening.{first_search}
use Rattle.recovery.specs.Memory.{IsOnTop, KnowsKey, Remembers}
use Rattle.recovery.specs.Reentering.{IsSearch, IsTold}
use Rattle.recovery.proofs.Knowing.{known_is, row_known}
use Rattle.recovery.proofs.Seeking.{found_number, passed_by, passed_full}
use Rattle.compute_notify.specs.Eventing.{notify_event}
use Rattle.compute_notify.specs.Items.{FitsNotify, FitsTelling, Goes, first_port, item_lines, next_ports, notify_of, told_came}
use Rattle.compute_notify.specs.Resting.{notify_rest, notify_way_rest}
use Rattle.compute_notify.specs.Running.{life_limit}
use Rattle.compute_notify.specs.declared.item.After.{After}
use Rattle.compute_notify.specs.declared.item.Came.TheVariants as came
use Rattle.compute_notify.specs.declared.item.Item.TheVariants as item
use Rattle.compute_notify.specs.declared.notify.Notify.{Notify}
use Rattle.compute_notify.specs.declared.notify.Way.{Way}
use Rattle.compute_notify.specs.declared.notify.Way.TheVariants as telling
use Rattle.compute_notify.proofs.Coming.{told_above, told_credits, told_fits}
use Rattle.compute_notify.proofs.LowestPorts.{IsLowest, lowest, next_among, next_small, ones_next, ports_split}

-- the ports behind the lowest
abbrev pub behind : Notify → List ℕ
behind n = ports_from n.word (next_ports n.ports) 0 40

module _ (g : TaskGraph) (e : Setting) (v : View) (n : Notify) (some : n.ports ≢ 0) (fits : FitsNotify g e v n) where
  pub lowest_here : IsLowest n.ports (trailing_zeros w64 n.ports)
  lowest_here = lowest n.ports some fits.ports

  pub port_there : first_port n < e.graph.ports n.key.0
  port_there = fits.are_ports (trailing_zeros w64 n.ports) lowest_here.low lowest_here.set

  port_word : first_port n / 40 ≡ n.word
  port_word = let a = lowest_here.low in omega (arith, a)

  port_closed : KnowsClosed e v n.key.0 (first_port n)
  port_closed = record { life = n.life; closed_known = subst (λ m. 0 < facts (is_seen_closed n.key.0 n.life m) v) (sym port_word) fits.closed }

  split : ports_from n.word n.ports 0 40 ≡ first_port n ∷ behind n
  split = ports_split n.ports (trailing_zeros w64 n.ports) lowest_here n.word

  -- the port on top is the first line
  pub port_top : (b : List Line) → HasLines e v (item_lines e.graph (item.Notify n) b) → flat v.stacks ≡ of (line.Notify n.key.0 n.life n.word (first_port n ∷ behind n)) ∷ b
  port_top b lines = line_stands e v (line.Notify n.key.0 n.life n.word (first_port n ∷ behind n)) b refl (subst (λ qs. HasLines e v (of (line.Notify n.key.0 n.life n.word qs) ∷ b)) split lines)

  again : (w : View) (b : List Line) → HasLines e w (of (line.Notify n.key.0 n.life n.word (first_port n ∷ behind n)) ∷ b) → HasLines e w (item_lines e.graph (item.Notify n) b)
  again w b lines = subst (λ qs. HasLines e w (of (line.Notify n.key.0 n.life n.word qs) ∷ b)) (sym split) lines

  module _ (top : IsOnTop e v (item_lines e.graph (item.Notify n))) where
    -- the view is to tell the port, so its successor stands in the table
    pub awaits_successor : Awaits e v (e.graph.succ n.key.0 (first_port n)).task
    awaits_successor = by_port n.key.0 (first_port n) (notifier_on_top v n.key.0 n.life n.word (first_port n) (behind n) top.below (port_top top.below top.lines_are)) refl

    -- what the spending of the successor's place asks
    pub may_spend : (r k place : ℕ) → e.graph.succ n.key.0 (first_port n) ≡ record { task = k; place = place } → KnowsKey e v r k → CanSpend e v r (known_key r v) place
    may_spend r k place at knows = let stands = port_top top.below top.lines_are in let x = line.Notify n.key.0 n.life n.word (first_port n ∷ behind n) in
        subst (λ m. CanSpend e v r m place) (sym (known_is e v r k knows)) (record {
          row = row_known e v r k knows;
          edge = notifying n.key.0 n.life n.word (first_port n) (behind n) (at_work v x top.below stands) port_there (ap (λ (s : Successor). s.task) at) (ap (λ (s : Successor). s.place) at) port_closed;
          order = record { no_strike = first_strike e.graph e.plan v x top.below stands };
        })

  module _ (w : View) (more : Remembers v w) (credits : w.spare ≡ 0) where
    still_closed : 0 < facts (is_seen_closed n.key.0 n.life n.word) w
    still_closed = let a = more.facts_stay (is_seen_closed n.key.0 n.life n.word) in let b = fits.closed in omega (arith, a, b)

    -- the port stays
    pub stays : (next : Way) (now : After) → now ≡ record { left = Some (item.Notify (record n { way = next })); came = came.Nothing } → ((b : List Line) → HasLines e v (item_lines e.graph (item.Notify n) b) → HasLines e w (item_lines e.graph (item.Notify n) b))
        → FitsTelling e w (record n { way = next }) next → Goes g e v w (item_lines e.graph (item.Notify n)) now
    stays next now is lines rests = subst (λ a. Goes g e v w (item_lines e.graph (item.Notify n)) a) (sym is) (record {
      lines = lines;
      left = record { is_key = fits.is_key; word = fits.word; ports = fits.ports; are_ports = fits.are_ports; closed = still_closed; telling = rests };
      came = tt;
      credits = credits;
    })

    -- its successor's place was spent
    pub spends : (m x row : ℕ) (key : Key) (lives : ℕ) (t : Told) (left : Notify) (now : After) → left ≡ notify_of n.key n.life n.word (next_ports n.ports) → now ≡ record { left = Some (item.Notify left); came = told_came t row key lives }
        → t ≡ told_of (e.graph.places key.0) x m → w ≡ after e (spend row (known_key row v) x) m v → KnowsKey e v row key.0 → IsTold g e w row key.0 → life_limit key.0 lives ≡ greatest_life e key.0 → Goes g e v w (item_lines e.graph (item.Notify n)) now
    spends m x row key lives t left now left_is is told_is step knows told limit = let rest : Notify = notify_of n.key n.life n.word (next_ports n.ports) in
        subst (λ a. Goes g e v w (item_lines e.graph (item.Notify n)) a) (sym (is ∙ ap (λ y. record { left = Some (item.Notify y); came = told_came t row key lives }) left_is)) (record {
          lines = λ b lines. subst (HasLines e w) (sym (told_above e.graph t row key lives (item_lines e.graph (item.Notify rest) b)))
              (notified_spends e v w m key.0 x n.key.0 n.life n.word (first_port n) (behind n) t b (port_top b lines) told_is (subst (λ k. w ≡ after e (spend 0 k x) m v) (known_is e v row key.0 knows) step));
          left = record { is_key = fits.is_key; word = fits.word; ports = next_small n.ports fits.ports; are_ports = λ b low set. fits.are_ports b low (next_among n.ports b set); closed = still_closed; telling = tt };
          came = told_fits g e w t row key lives (Some (item.Notify rest)) tt told limit;
          credits = credits ∙ sym (told_credits t row key lives (Some (item.Notify rest)) refl);
        })

-- What a look for the successor comes to, by the answer of the search.
module _ (g : TaskGraph) (e : Setting) (v w : View) (m : ℕ) (n : Notify) (some : n.ports ≢ 0) (fits : FitsNotify g e v n) (more : Remembers v w) (credits : w.spare ≡ 0)
    (s : Seeking) (search : IsSearch e v (e.graph.succ n.key.0 (first_port n)).task s) (known : ℕ → Option ℕ) (stays_known : (k : ℕ) → known_of v (next_row s) ≡ Some k → m ≡ k + 1) (later : (r : ℕ) → known r ≡ known_of w r) (is : w ≡ after e (look (next_row s)) m v) where
  own : IsSearch e v s.key s
  own = record { key_is = refl; rows_are = search.rows_are; looks = search.looks; within = search.within; passed = search.passed }

  seen_lines : m ≢ 0 → (b : List Line) → HasLines e v (item_lines e.graph (item.Notify n) b) → HasLines e w (item_lines e.graph (item.Notify n) b)
  seen_lines full b lines = again g e v n some fits w b (looked_full e v w m (next_row s) (of (line.Notify n.key.0 n.life n.word (first_port n ∷ behind n))) b (port_top g e v n some fits b lines) full is)

  pub goes_on : (t : Seeking) (now : After) → t ≡ turned sought.Going s → TurnTells sought.Going s known m → now ≡ record { left = Some (item.Notify (record n { way = telling.Seek t })); came = came.Nothing } → Goes g e v w (item_lines e.graph (item.Notify n)) now
  goes_on t now next tells left = let passed = passed_by known (known_of w) s.key s.rows (s.passed + 1) later tells.1 in
      stays g e v n some fits w more credits (telling.Seek t) now left (seen_lines (passed_full e v w m s own is stays_known (passed.others s.passed (omega arith))))
      (some, subst (IsSearch e w (e.graph.succ n.key.0 (first_port n)).task) (sym next) (record { key_is = search.key_is; rows_are = search.rows_are; looks = search.looks; within = tells.0; passed = passed }))

  pub goes_at : (row : ℕ) (made : Bool) (now : After) → TurnTells (sought.At row made) s known m → now ≡ record { left = Some (item.Notify (record n { way = telling.Spend row })); came = came.Nothing } → Goes g e v w (item_lines e.graph (item.Notify n)) now
  goes_at row made now tells left = let found = found_number s.makes made m s.key search.looks tells.3 in
      stays g e v n some fits w more credits (telling.Spend row) now left (seen_lines (λ z. omega (arith, found, z)))
      (some, subst (KnowsKey e w row) search.key_is (record { low = subst (λ z. row < z) search.rows_are tells.1; key_is = sym (later row) ∙ tells.2 }))

-- The event of a step, by the way to the successor.
module _ (e : Setting) (v : View) (n : Notify) (here : Way) where
  pub start_event : (s : Seeking) (successor rows : ℕ) → here ≡ telling.Start → s ≡ first_search successor rows → rows ≡ e.shape.rows → (e.graph.succ n.key.0 (first_port n)).task ≡ successor → look (next_row s) ≡ notify_event e v n here
  start_event s successor rows is begins all task = ap (λ (x : Seeking). look (next_row x)) (begins ∙ ap (first_search successor) all ∙ ap (λ k. first_search k e.shape.rows) (sym task)) ∙ ap (notify_event e v n) (sym is)

  pub spend_event : (at successor place : ℕ) → here ≡ telling.Spend at → e.graph.succ n.key.0 (first_port n) ≡ record { task = successor; place = place } → spend at (known_key at v) place ≡ notify_event e v n here
  spend_event at successor place is there = ap (λ (x : Successor). spend at (known_key at v) x.place) (sym there) ∙ ap (notify_event e v n) (sym is)

-- Ports of which none was begun weigh a place each.
pub fresh_rest : (e : Setting) (key : Key) (life word x : ℕ) → notify_rest e (notify_of key life word x) ≤ count_ones x * (e.shape.rows + 7)
fresh_rest e key life word x = dite (ℕ_discrete x 0)
    (λ z. let a : notify_rest e (notify_of key life word x) ≡ 0 = ap (λ (b : Bool). cond b 0 ((e.shape.rows + 7) + (count_ones x - 1) * (e.shape.rows + 7))) (eq-eqb x 0 z) in omega (arith, a))
    (λ ne. let c : ℕ = e.shape.rows + 7 in
    let a : notify_rest e (notify_of key life word x) ≡ c + (count_ones x - 1) * c = ap (λ (b : Bool). cond b 0 (c + (count_ones x - 1) * c)) (ne_eqb x 0 ne) in
    let some_one : 0 < count_ones x = dite (ℕ_discrete (count_ones x) 0) (λ z. absurd (ne (zero_from_ones x z))) (λ o. omega (arith, o)) in
    let sum : ((count_ones x - 1) + 1) * c ≡ (count_ones x - 1) * c + 1 * c = add-mul (count_ones x - 1) 1 c in
    let same : ((count_ones x - 1) + 1) * c ≡ count_ones x * c = ap (λ z. z * c) (let d : (count_ones x - 1) + 1 ≡ count_ones x = omega (arith, some_one) in d) in
    omega (arith, a, sum, same))

-- The ports behind the lowest weigh a place less.
pub behind_rest : (g : TaskGraph) (e : Setting) (v : View) (n : Notify) (left : Notify) (row : ℕ) → n.ports ≢ 0 → FitsNotify g e v n → n.way ≡ telling.Spend row → left ≡ notify_of n.key n.life n.word (next_ports n.ports) → notify_rest e left + 7 ≤ notify_rest e n
behind_rest g e v n left row some fits at is =
    let ones = ones_next n.ports (trailing_zeros w64 n.ports) (lowest_here g e v n some fits) in
    let c : ℕ = e.shape.rows + 7 in let m : ℕ = count_ones (next_ports n.ports) in
    let whole : notify_rest e n ≡ notify_way_rest e.shape.rows n.way + (count_ones n.ports - 1) * c = ap (λ (b : Bool). cond b 0 (notify_way_rest e.shape.rows n.way + (count_ones n.ports - 1) * c)) (ne_eqb n.ports 0 some) in
    let here = ap (notify_way_rest e.shape.rows) at in
    let fewer : (count_ones n.ports - 1) * c ≡ m * c = ap (λ z. z * c) (let a : count_ones n.ports - 1 ≡ m = omega (arith, ones) in a) in
    let rest : notify_rest e left ≤ m * c = subst (λ y. notify_rest e y ≤ m * c) (sym is) (fresh_rest e n.key n.life n.word (next_ports n.ports)) in
    omega (arith, whole, here, fewer, rest)

-- What the successor at the port is, as the graph answered it.
module _ (e : Setting) (v : View) (n : Notify) (row k place : ℕ) (at : e.graph.succ n.key.0 (first_port n) ≡ record { task = k; place = place }) (way : n.way ≡ telling.Spend row) (telling_fits : FitsTelling e v n n.way) where
  pub knows_successor : KnowsKey e v row k
  knows_successor = subst (KnowsKey e v row) (ap (λ (s : Successor). s.task) at) (subst (FitsTelling e v n) way telling_fits).1
