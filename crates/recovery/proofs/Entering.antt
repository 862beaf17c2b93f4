-- What the steps for the ports of a task ask, and what they leave of the lines.
use Rattle.std.proofs.Common.{◌≡◌, ℕ, ◌+◌, ◌-◌, ◌<◌, ◌≤◌, Bool, true, false, eqb, List, ◌∷◌, arith, sym, ap, refl, ◌∙◌, subst}
use Rattle.std.specs.Int.{bit_at}
use Rattle.graph_model.specs.Graph.{Graph as TaskGraph}
use Rattle.core_state.specs.Asked.{IsCoreKey}
use Rattle.core_state.specs.Guards.{CanRegister, CanSpend}
use Rattle.core_state.specs.Guards.Registers.{reentering as registers}
use Rattle.core_state.specs.Guards.Spends.{reentering as spends}
use Rattle.core_state.specs.Counts.{known_key}
use Rattle.core_state.specs.Effects.{all_ports, registered_of, told_of}
use Rattle.core_state.specs.Graph.{Graph, Lawful, Setting, Successor}
use Rattle.core_state.specs.Events.{after}
use Rattle.core_state.specs.Events.Event.{load_descriptor, look, register, spend}
use Rattle.core_state.specs.Lines.{Line, HasLines, of, flat, entered_lines, registered_lines, told_lines}
use Rattle.core_state.specs.Packed.{descriptor_of}
use Rattle.core_state.specs.Words.{life_of, mark_of}
use Rattle.core_state.specs.declared.answers.Registered.{Registered}
use Rattle.core_state.specs.declared.answers.Registered.TheVariants as registered
use Rattle.core_state.specs.declared.answers.Told.{Told}
use Rattle.core_state.specs.declared.answers.Told.TheVariants as told
use Rattle.core_state.specs.declared.words.Descriptor.{Descriptor}
use Rattle.graph_model.specs.declared.key.Key.{Key}
use Rattle.core_state.specs.declared.views.Item.TheVariants as item
use Rattle.core_state.specs.declared.views.View.{View}
use Rattle.graph_model.specs.declared.record.Cause.TheVariants as cause
use Rattle.core_state.proofs.Lines.After.{line_stands, loaded_successor, reentered_registers, reentered_spends}
use Rattle.core_state.proofs.Base.Bits.{low_bits}
use Rattle.core_state.proofs.Lines.Learns.{register_closes}
use Rattle.core_state.proofs.Lines.Ports.{ports_onward}
use Rattle.core_state.proofs.Lines.Top.{at_work, first_strike}
use Rattle.key_table.specs.Seeking.{Seeking, next_row}
use Rattle.recovery.specs.Happening.{first_search, way_event}
use Rattle.recovery.specs.Memory.{KnowsKey}
use Rattle.recovery.specs.Serving.{IsPort}
use Rattle.recovery.specs.Reentering.{port_lines, reached_lines, FitsWay, IsAbout, IsPortWork, IsTold, MaySpend, ReachedTells, Reenters}
use Rattle.recovery.specs.declared.reenter.Reached.{Reached}
use Rattle.recovery.specs.declared.reenter.Reached.TheVariants as reached
use Rattle.recovery.specs.declared.reenter.Reenter.{Reenter}
use Rattle.recovery.specs.declared.reenter.Way.{Way}
use Rattle.recovery.specs.declared.reenter.Way.TheVariants as way
use Rattle.recovery.proofs.Knowing.{row_known, known_is, key_stays, remembers_apart}

-- the ports behind one
abbrev pub behind : Graph → ℕ → ℕ → List ℕ
behind g p q = all_ports (q + 1) (g.ports p - (q + 1))

split : (g : Graph) (p l q : ℕ) (b : List Line) → q < g.ports p → port_lines g p l q b ≡ of (item.Reenter p l (q ∷ behind g p q)) ∷ b
split g p l q b low = ap (λ qs. of (item.Reenter p l qs) ∷ b) (ports_onward q (g.ports p) low)

-- the port on top is the first line
pub port_top : (e : Setting) (v : View) (p l q : ℕ) (b : List Line) → q < e.graph.ports p → HasLines e v (port_lines e.graph p l q b) → flat v.stacks ≡ of (item.Reenter p l (q ∷ behind e.graph p q)) ∷ b
port_top e v p l q b low lines = line_stands e v (item.Reenter p l (q ∷ behind e.graph p q)) b refl (subst (HasLines e v) (split e.graph p l q b low) lines)

pub again : (e : Setting) (w : View) (p l q : ℕ) (b : List Line) → q < e.graph.ports p → HasLines e w (of (item.Reenter p l (q ∷ behind e.graph p q)) ∷ b) → HasLines e w (port_lines e.graph p l q b)
again e w p l q b low lines = subst (HasLines e w) (sym (split e.graph p l q b low)) lines

module _ (e : Setting) (v w : View) (p : ℕ) where
  -- the port is left, and the next one begins
  pub leaves_port : (before now : Reenter) (told : Reached) → now ≡ record { port = before.port + 1; way = way.Start } → ((l : ℕ) (b : List Line) → HasLines e v (port_lines e.graph p l before.port b) → HasLines e w (reached_lines told (port_lines e.graph p l (before.port + 1) b))) → Reenters e v w p before now told
  leaves_port before now told is lines = subst (λ x. Reenters e v w p before x told) (sym is) (record { lines = lines; way = tt })

  -- the port stays
  pub stays_at : (before : Reenter) (next : Way) (told : Reached) → ((l : ℕ) (b : List Line) → HasLines e v (port_lines e.graph p l before.port b) → HasLines e w (reached_lines told (port_lines e.graph p l before.port b))) → FitsWay e w p before.port next → Reenters e v w p before (record before { way = next }) told
  stays_at before next told lines fits = record { lines = lines; way = fits }

module _ (e : Setting) (v w : View) (n p q r k place : ℕ) (port : IsPort e.graph p q k place) (knows : KnowsKey e v r k) where
  -- the load of the successor's descriptor
  loaded : (struck spent : Bool) → struck ≡ eqb (mark_of n) 1 → spent ≡ eqb (bit_at n place) 1 → w ≡ after e (load_descriptor r (known_key r v)) n v → (l : ℕ) (b : List Line) → HasLines e v (port_lines e.graph p l q b)
      → HasLines e w (entered_lines struck spent k (life_of n) (item.Reenter p l (q ∷ behind e.graph p q)) (item.Reenter p l (behind e.graph p q)) b)
  loaded struck spent s t is l b lines = let rest : List ℕ = behind e.graph p q in
      subst (λ m. HasLines e w (entered_lines struck spent m (life_of n) (item.Reenter p l (q ∷ rest)) (item.Reenter p l rest) b)) port.task_is
      (loaded_successor e v w n p l q rest struck spent b (port_top e v p l q b port.low lines) s (t ∙ ap (λ m. eqb (bit_at n m) 1) (sym port.place_is))
      (subst (λ m. w ≡ after e (load_descriptor 0 m) n v) (known_is e v r k knows ∙ sym port.task_is) is))

  module _ (is : w ≡ after e (load_descriptor r (known_key r v)) n v) (l : ℕ) (b : List Line) (lines : HasLines e v (port_lines e.graph p l q b)) where
    pub loaded_marked : eqb (mark_of n) 1 ≡ true → HasLines e w (of (item.Suspect k (life_of n) cause.Descriptor false) ∷ port_lines e.graph p l (q + 1) b)
    loaded_marked marked = loaded true (eqb (bit_at n place) 1) (sym marked) refl is l b lines

    pub loaded_spent : eqb (mark_of n) 1 ≡ false → eqb (bit_at n place) 1 ≡ true → HasLines e w (port_lines e.graph p l (q + 1) b)
    loaded_spent unmarked spent = loaded false true (sym unmarked) (sym spent) is l b lines

    pub loaded_unspent : eqb (mark_of n) 1 ≡ false → eqb (bit_at n place) 1 ≡ false → HasLines e w (port_lines e.graph p l q b)
    loaded_unspent unmarked unspent = again e w p l q b port.low (loaded false false (sym unmarked) (sym unspent) is l b lines)

  -- the spending of its place
  pub spent_lines : (told : Told) → told ≡ told_of (e.graph.places k) place n → w ≡ after e (spend r (known_key r v) place) n v → (l : ℕ) (b : List Line) → HasLines e v (port_lines e.graph p l q b) → HasLines e w (told_lines k told (port_lines e.graph p l (q + 1) b))
  spent_lines told t is l b lines = reentered_spends e v w n k place p l q (behind e.graph p q) told b (port_top e v p l q b port.low lines) t (subst (λ m. w ≡ after e (spend 0 m place) n v) (known_is e v r k knows) is)

-- what the spending asks
pub may_spend : (e : Setting) (v : View) (q r k place : ℕ) → KnowsKey e v r k → MaySpend e v q k place → CanSpend e v r (known_key r v) place
may_spend e v q r k place knows may = subst (λ m. CanSpend e v r m place) (sym (known_is e v r k knows)) (record {
  row = row_known e v r k knows;
  edge = let p = may.task in let l = may.work.life in let top = may.work.top in
      spends p l q (behind e.graph p q) (at_work v (item.Reenter p l (q ∷ behind e.graph p q)) top.below (port_top e v p l q top.below may.port.low top.lines_are)) may.port.low may.port.task_is may.port.place_is may.closed;
  order = let p = may.task in let l = may.work.life in let top = may.work.top in
      record { no_strike = first_strike e.graph e.plan v (item.Reenter p l (q ∷ behind e.graph p q)) top.below (port_top e v p l q top.below may.port.low top.lines_are) };
})

module _ (e : Setting) (v : View) (p q r at : ℕ) (low : q < e.graph.ports p) (knows : KnowsKey e v r p) where
  -- what the registering asks
  pub may_register : KnowsKey e v at (e.graph.succ p q).task → IsPortWork e v p q → CanRegister e v r (known_key r v) q
  may_register there work = subst (λ m. CanRegister e v r m q) (sym (known_is e v r p knows)) (record {
    row = row_known e v r p knows;
    edge = let top = work.top in registers work.life at (behind e.graph p q) (at_work v (item.Reenter p work.life (q ∷ behind e.graph p q)) top.below (port_top e v p work.life q top.below low top.lines_are)) low (row_known e v at (e.graph.succ p q).task there).row_known;
  })

  module _ (w : View) (n : ℕ) (told : Registered) (t : told ≡ registered_of n) (is : w ≡ after e (register r (known_key r v) q) n v) where
    pub registering : w ≡ after e (register r p q) n v
    registering = subst (λ m. w ≡ after e (register r m q) n v) (known_is e v r p knows) is

    pub register_lines : (l : ℕ) (b : List Line) → HasLines e v (port_lines e.graph p l q b) → HasLines e w (registered_lines p told (port_lines e.graph p l (q + 1) b) (port_lines e.graph p l q b))
    register_lines l b lines = subst (λ ls. HasLines e w (registered_lines p told (port_lines e.graph p l (q + 1) b) ls)) (sym (split e.graph p l q b low))
        (reentered_registers e v w n p l q (behind e.graph p q) told b (port_top e v p l q b low lines) t registering)

-- What the load of the successor's descriptor comes to, by what it shows.
module _ (e : Setting) (v w : View) (n p place r : ℕ) (key : Key) (before : Reenter) (port : IsPort e.graph p before.port key.0 place) (knows : KnowsKey e v r key.0) (d : Descriptor) (shows : d ≡ descriptor_of n) (is : w ≡ after e (load_descriptor r (known_key r v)) n v) where
  mark_is : eqb (mark_of n) 1 ≡ d.struck
  mark_is = sym (ap (λ (x : Descriptor). x.struck) shows)

  spent_is : (spent : Bool) → place ≤ 40 → spent ≡ eqb (bit_at d.spent place) 1 → eqb (bit_at n place) 1 ≡ spent
  spent_is spent small has = ap (λ m. eqb m 1) (sym (low_bits 41 n place (omega (arith, small)))) ∙ ap (λ (x : Descriptor). eqb (bit_at x.spent place) 1) (sym shows) ∙ sym has

  pub goes_marked : (now : Reenter) → now ≡ record { port = before.port + 1; way = way.Start } → d.struck ≡ true → Reenters e v w p before now (reached.Mark r key d.life cause.Descriptor)
  goes_marked now left marked = leaves_port e v w p before now (reached.Mark r key d.life cause.Descriptor) left (λ l b lines.
      subst (λ m. HasLines e w (of (item.Suspect key.0 m cause.Descriptor false) ∷ port_lines e.graph p l (before.port + 1) b)) (sym (ap (λ (x : Descriptor). x.life) shows))
      (loaded_marked e v w n p before.port r key.0 place port knows is l b lines (mark_is ∙ marked)))

  pub goes_spent : (now : Reenter) (spent : Bool) → now ≡ record { port = before.port + 1; way = way.Start } → d.struck ≡ false → place ≤ 40 → spent ≡ eqb (bit_at d.spent place) 1 → spent ≡ true → Reenters e v w p before now reached.Going
  goes_spent now spent left unmarked small has done = leaves_port e v w p before now reached.Going left (λ l b lines. loaded_spent e v w n p before.port r key.0 place port knows is l b lines (mark_is ∙ unmarked) (spent_is spent small has ∙ done))

  pub goes_unspent : (spent : Bool) → d.struck ≡ false → place ≤ 40 → spent ≡ eqb (bit_at d.spent place) 1 → spent ≡ false → Reenters e v w p before (record before { way = way.Register r }) reached.Going
  goes_unspent spent unmarked small has not_yet = stays_at e v w p before (way.Register r) reached.Going (λ l b lines. loaded_unspent e v w n p before.port r key.0 place port knows is l b lines (mark_is ∙ unmarked) (spent_is spent small has ∙ not_yet))
      (subst (KnowsKey e w r) (sym port.task_is) (key_stays e v w r key.0 (remembers_apart e (load_descriptor r (known_key r v)) n v w refl is) knows))

-- What the registering comes to, by its answer.
module _ (e : Setting) (v w : View) (n r at : ℕ) (key : Key) (before : Reenter) (low : before.port < e.graph.ports key.0) (knows : KnowsKey e v r key.0) (told : Registered) (t : told ≡ registered_of n) (is : w ≡ after e (register r (known_key r v) before.port) n v) where
  come : (x : Registered) → told ≡ x → (l : ℕ) (b : List Line) → HasLines e v (port_lines e.graph key.0 l before.port b) → HasLines e w (registered_lines key.0 x (port_lines e.graph key.0 l (before.port + 1) b) (port_lines e.graph key.0 l before.port b))
  come x same = subst (λ y. (l : ℕ) (b : List Line) → HasLines e v (port_lines e.graph key.0 l before.port b) → HasLines e w (registered_lines key.0 y (port_lines e.graph key.0 l (before.port + 1) b) (port_lines e.graph key.0 l before.port b))) same
      (register_lines e v key.0 before.port r at low knows w n told t is)

  pub goes_waiting : (m : ℕ) (now : Reenter) → now ≡ record { port = before.port + 1; way = way.Start } → told ≡ registered.Waiting m → Reenters e v w key.0 before now reached.Going
  goes_waiting m now left same = leaves_port e v w key.0 before now reached.Going left (come (registered.Waiting m) same)

  pub goes_closed : (m : ℕ) → KnowsKey e v at (e.graph.succ key.0 before.port).task → told ≡ registered.Closed m → Reenters e v w key.0 before (record before { way = way.Spend at }) reached.Going
  goes_closed m there same = stays_at e v w key.0 before (way.Spend at) reached.Going (come (registered.Closed m) same) (
    key_stays e v w at (e.graph.succ key.0 before.port).task (remembers_apart e (register r (known_key r v) before.port) n v w refl is) there,
    register_closes e n v w r key.0 before.port m (sym same ∙ t) (registering e v key.0 before.port r at low knows w n told t is),
  )

  pub goes_struck : (m : ℕ) → before.way ≡ way.Register at → KnowsKey e v at (e.graph.succ key.0 before.port).task → told ≡ registered.Struck m → Reenters e v w key.0 before before (reached.Mark r key m cause.Notify)
  goes_struck m here there same = record {
    lines = come (registered.Struck m) same;
    way = subst (FitsWay e w key.0 before.port) (sym here) (key_stays e v w at (e.graph.succ key.0 before.port).task (remembers_apart e (register r (known_key r v) before.port) n v w refl is) there);
  }

-- What the spending comes to, by its answer.
module _ (e : Setting) (v w : View) (n p place preds r : ℕ) (key : Key) (before now : Reenter) (left : now ≡ record { port = before.port + 1; way = way.Start }) (port : IsPort e.graph p before.port key.0 place) (knows : KnowsKey e v r key.0) (answer : Told) (all : preds ≡ e.graph.places key.0) (t : answer ≡ told_of preds place n) (is : w ≡ after e (spend r (known_key r v) place) n v) where
  come_spent : (x : Told) → answer ≡ x → (l : ℕ) (b : List Line) → HasLines e v (port_lines e.graph p l before.port b) → HasLines e w (told_lines key.0 x (port_lines e.graph p l (before.port + 1) b))
  come_spent x same l b lines = subst (λ y. HasLines e w (told_lines key.0 y (port_lines e.graph p l (before.port + 1) b))) same
      (spent_lines e v w n p before.port r key.0 place port knows answer (t ∙ ap (λ m. told_of m place n) all) is l b lines)

  pub goes_told : (m : ℕ) → answer ≡ told.Spent m → Reenters e v w p before now reached.Going
  goes_told m same = leaves_port e v w p before now reached.Going left (come_spent (told.Spent m) same)

  pub goes_already : (m : ℕ) → answer ≡ told.Already m → Reenters e v w p before now reached.Going
  goes_already m same = leaves_port e v w p before now reached.Going left (come_spent (told.Already m) same)

  pub goes_last : (m : ℕ) → answer ≡ told.Last m → Reenters e v w p before now (reached.Last r key m)
  goes_last m same = leaves_port e v w p before now (reached.Last r key m) left (come_spent (told.Last m) same)

  pub goes_mark : (m : ℕ) → answer ≡ told.Struck m → Reenters e v w p before now (reached.Mark r key m cause.Descriptor)
  goes_mark m same = leaves_port e v w p before now (reached.Mark r key m cause.Descriptor) left (come_spent (told.Struck m) same)

told_known : (g : TaskGraph) (e : Setting) (w : View) (r row : ℕ) (k key : Key) → r ≡ row → k ≡ key → IsCoreKey g key.0 → KnowsKey e w row key.0 → IsTold g e w r k.0
told_known g e w r row k key same_row same_key is_key knows = subst (λ y. IsTold g e w y k.0) (sym same_row) (subst (λ y. IsTold g e w row y.0) (sym same_key) (record { is_key = is_key; known = knows }))

-- what a step tells of a task or the root that the view knows
pub tells_about : (g : TaskGraph) (e : Setting) (w : View) (told : Reached) (row : ℕ) (key : Key) → IsAbout told row key → IsCoreKey g key.0 → KnowsKey e w row key.0 → ReachedTells g e w told
tells_about g e w reached.Going row key about is_key knows = tt
tells_about g e w (reached.Last r k l) row key about is_key knows = told_known g e w r row k key about.0 about.1 is_key knows
tells_about g e w (reached.Mark r k l c) row key about is_key knows = told_known g e w r row k key about.0 about.1 is_key knows

-- The event of a step on a port, by the way to the successor.
module _ (e : Setting) (v : View) (r k q : ℕ) (here : Way) where
  pub start_event : (s : Seeking) (successor rows : ℕ) → here ≡ way.Start → s ≡ first_search successor rows → rows ≡ e.shape.rows → (e.graph.succ k q).task ≡ successor → look (next_row s) ≡ way_event e v r k q here
  start_event s successor rows is begins all task = ap (λ (x : Seeking). look (next_row x)) (begins ∙ ap (first_search successor) all ∙ ap (λ m. first_search m e.shape.rows) (sym task)) ∙ ap (way_event e v r k q) (sym is)

  pub spend_event : (at successor place : ℕ) → here ≡ way.Spend at → e.graph.succ k q ≡ record { task = successor; place = place } → spend at (known_key at v) place ≡ way_event e v r k q here
  spend_event at successor place is there = ap (λ (x : Successor). spend at (known_key at v) x.place) (sym there) ∙ ap (way_event e v r k q) (sym is)

-- a port's place serves a predecessor
pub place_low : (g : Graph) (p q successor place : ℕ) → Lawful g → q < g.ports p → g.succ p q ≡ record { task = successor; place = place } → place < 40
place_low g p q successor place laws low is = let a = (laws.forth p q low).0 in let b = laws.few_places (g.succ p q).task in let c : (g.succ p q).place ≡ place = ap (λ (x : Successor). x.place) is in omega (arith, a, b, c)
