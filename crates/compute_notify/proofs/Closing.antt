-- The closing of a word: what its step asks, and what it comes to.
use Rattle.std.proofs.Common.{◌≡◌, ℕ, ◌+◌, ◌*◌, ◌%◌, ◌^◌, ◌<◌, nat_eq, nat_lt, Bool, true, false, cond, List, [], ◌∷◌, Option, Some, None, arith, ap, sym, refl, ◌∙◌, subst}
use mathlib.Core.Logic.{dite}
use native.Mathlib.Decide.{ℕ_discrete, dec_lt}
use Rattle.std.proofs.lemmas.Bool.{eqb-true, le-ltb}
use Rattle.std.proofs.lemmas.Nat.{mod_below}
use Rattle.graph_model.specs.Graph.{Graph as TaskGraph}
use Rattle.graph_model.specs.declared.plan.Point.{Point}
use Rattle.graph_model.specs.declared.plan.Point.TheVariants as point
use Rattle.graph_model.specs.declared.plan.Strike.{Strike}
use Rattle.graph_model.specs.declared.record.Cause.TheVariants as cause
use Rattle.core_state.specs.Guards.{CanClose}
use Rattle.core_state.specs.Counts.{count, known_key}
use Rattle.core_state.specs.Tests.{is_seen_closed}
use Rattle.core_state.specs.Effects.{closing_of, ports_from, seen}
use Rattle.core_state.specs.Graph.{Graph, Setting, greatest_life}
use Rattle.core_state.specs.Events.{after}
use Rattle.core_state.specs.Events.Event.{close}
use Rattle.core_state.specs.Lines.{Line, HasLines, of, flat, closed_lines}
use Rattle.core_state.specs.Outcome.{closed_known}
use Rattle.core_state.specs.Packed.{notify_of as shown_word, notify_word}
use Rattle.core_state.specs.Sure.{MovedTells, PortsTell}
use Rattle.core_state.specs.Words.{empty_word, life_of, mark_of}
use Rattle.core_state.specs.Views.{strike_next}
use Rattle.core_state.specs.declared.answers.Closing.{Closing}
use Rattle.core_state.specs.declared.answers.Closing.TheVariants as closing
use Rattle.core_state.specs.declared.block.BlockCells.{BlockCells}
use Rattle.core_state.specs.declared.views.Item.TheVariants as line
use Rattle.core_state.specs.declared.views.Known.TheVariants as known
use Rattle.core_state.specs.declared.views.View.{View}
use Rattle.core_state.specs.declared.views.Word.TheVariants as word
use Rattle.core_state.specs.declared.words.NotifyWord.{NotifyWord}
use Rattle.core_state.proofs.Lines.After.{close_goes_on, closes, line_stands}
use Rattle.core_state.proofs.Base.Counting.{bump_is, three_here}
use Rattle.core_state.proofs.Lines.Learns.{learns}
use Rattle.core_state.proofs.Lines.Outcomes.{leaves}
use Rattle.core_state.proofs.Lines.Ports.{ports_low}
use Rattle.core_state.proofs.Lines.Top.{at_work}
use Rattle.recovery.specs.Memory.{IsOnTop, Remembers}
use Rattle.recovery.proofs.Knowing.{key_stays, known_is, remembers_apart, row_known}
use Rattle.recovery.proofs.Phases.{credits_kept}
use Rattle.compute_notify.specs.Items.{FitsClose, FitsDuty, FitsSeen, Goes, close_from, is_over, item_lines, notify_of, replaces}
use Rattle.compute_notify.specs.Running.{Runs, life_limit}
use Rattle.compute_notify.specs.Striking.{FitsHand, FitsStrikes, close_left, seen_word, strike_left}
use Rattle.compute_notify.specs.declared.close.Close.{Close}
use Rattle.compute_notify.specs.declared.item.After.{After}
use Rattle.compute_notify.specs.declared.item.Came.TheVariants as came
use Rattle.compute_notify.specs.declared.item.Item.TheVariants as item
use Rattle.compute_notify.proofs.Fitting.{fits_same}
use Rattle.compute_notify.proofs.Striking.Points.{at_computed, close_none, word_none}

-- A closing that is not over and has no strike left has a word left.
pub word_there : (g : Graph) (p : List Strike) (c : Close) → is_over g p (item.Close c) ≡ false → strike_left g p (item.Close c) ≡ None → c.word < g.notify_words c.duty.key.0
word_there g p c left none = dite (dec_lt c.word (g.notify_words c.duty.key.0)) (λ low. low) (λ past. absurd (
    let over : is_over g p (item.Close c) ≡ true = rw (none, le-ltb c.word (g.notify_words c.duty.key.0) (omega (arith, past))) in
    let clash : true ≡ false = sym over ∙ left in cc))

-- How the word is taken to be: open, of the life.
pub record IsTaken (l : ℕ) (x : NotifyWord) : Type 0 where
  pub life_is : x.life ≡ l
  pub small : x.ports < 2 ^ 40
  pub word_is : notify_word x ≡ empty_word l + x.ports

pub taken_open : (l : ℕ) (o : Option NotifyWord) → FitsSeen l o → IsTaken l (seen_word l o)
taken_open l None fits = record { life_is = refl; small = omega arith; word_is = omega arith }
taken_open l (Some x) fits = record {
  life_is = fits.0.life_is;
  small = fits.1;
  word_is = by x.life x.struck x.closed fits.0.life_is fits.0.unstruck fits.0.open_still;
}
  where
    by : (life : ℕ) (struck closed : Bool) → life ≡ l → struck ≡ false → closed ≡ false → notify_word (record { life = life; struck = struck; closed = closed; ports = x.ports }) ≡ empty_word l + x.ports
    by life false false same a b = let z : empty_word life ≡ empty_word l = ap empty_word same in omega (arith, z)
    by life true closed same a b = absurd cc
    by life false true same a b = absurd cc

-- What the answers tell of the number that the word held.
module _ (l m n : ℕ) where
  pub edges_are : (ports : ℕ) → closing.Edges ports ≡ closing_of l m n → ports ≡ n % 2 ^ 40
  edges_are ports is = by (nat_eq n m) (nat_eq (mark_of n) 1) (nat_lt l (life_of n)) is
    where
      by : (a b d : Bool) → closing.Edges ports ≡ cond a (closing.Edges (n % 2 ^ 40)) (cond b (closing.Struck (life_of n)) (cond d (closing.Stale (life_of n)) (closing.Moved (shown_word n)))) → ports ≡ n % 2 ^ 40
      by true b d told = cc
      by false true d told = absurd cc
      by false false true told = absurd cc
      by false false false told = absurd cc

  moved_is : (x : NotifyWord) → closing.Moved x ≡ closing_of l m n → x ≡ shown_word n
  moved_is x is = by (nat_eq n m) (nat_eq (mark_of n) 1) (nat_lt l (life_of n)) is
    where
      by : (a b d : Bool) → closing.Moved x ≡ cond a (closing.Edges (n % 2 ^ 40)) (cond b (closing.Struck (life_of n)) (cond d (closing.Stale (life_of n)) (closing.Moved (shown_word n)))) → x ≡ shown_word n
      by true b d told = absurd cc
      by false true d told = absurd cc
      by false false true told = absurd cc
      by false false false told = cc

  pub struck_marked : (o : ℕ) → closing.Struck o ≡ closing_of l m n → mark_of n ≡ 1
  struck_marked o is = by (nat_eq n m) (nat_eq (mark_of n) 1) (nat_lt l (life_of n)) refl is
    where
      by : (a b d : Bool) → nat_eq (mark_of n) 1 ≡ b → closing.Struck o ≡ cond a (closing.Edges (n % 2 ^ 40)) (cond b (closing.Struck (life_of n)) (cond d (closing.Stale (life_of n)) (closing.Moved (shown_word n)))) → mark_of n ≡ 1
      by true b d marked told = absurd cc
      by false true d marked told = eqb-true (mark_of n) 1 marked
      by false false true marked told = absurd cc
      by false false false marked told = absurd cc

abbrev pub closing_line : Close → Rattle.core_state.specs.declared.views.Item.Item
closing_line c = line.Close c.duty.key.0 c.duty.life c.word

module _ (g : TaskGraph) (e : Setting) (v : View) (c : Close) (fits : FitsClose g e v c) (inside : c.word < e.graph.notify_words c.duty.key.0) where
  -- the closing on top is the first line
  pub close_top : (b : List Line) → HasLines e v (item_lines e.graph (item.Close c) b) → flat v.stacks ≡ of (closing_line c) ∷ b
  close_top b lines = line_stands e v (closing_line c) b (close_goes_on e.graph e.plan v.strikes c.duty.key.0 c.duty.life c.word inside) lines

  module _ (strikes : List Strike) (lives : ℕ) (runs : Runs g strikes lives e) (top : IsOnTop e v (item_lines e.graph (item.Close c))) (none_left : close_left e.graph strikes c ≡ None) where
    no_strike : strike_next e.graph e.plan v ≡ mathlib.Core.Option.none
    no_strike = let work = at_work v (closing_line c) top.below (close_top top.below top.lines_are) in dite (ℕ_discrete c.word 0)
        (λ z. close_none g strikes lives e v runs c point.Computed (at_computed g strikes lives e v runs c z) (fits.before z).0 work none_left)
        (λ ne. word_none g strikes lives e v runs c work (omega (arith, ne)) inside)

    -- no block was taken for a strike
    pub free_hand : (h : Option BlockCells) → FitsHand e v c.duty.key.0 c.duty.life h → (v.hands ≡ []) × (h ≡ None)
    free_hand None free = (free, refl)
    free_hand (Some x) taken = absurd (let makes = taken.2 in let same : mathlib.Core.Option.none ≡ mathlib.Core.Option.some makes.strike = sym no_strike ∙ makes.is_next in cc)

    -- what the exchange of the word asks
    pub can_close : (x : NotifyWord) → x ≡ seen_word c.duty.life c.seen → CanClose e v c.duty.row (known_key c.duty.row v) c.duty.life c.word (notify_word x)
    can_close x is = let k : ℕ = c.duty.key.0 in let knows = fits.duty.known in let taken = taken_open c.duty.life c.seen fits.seen in
        subst (λ m. CanClose e v c.duty.row m c.duty.life c.word (notify_word x)) (sym (known_is e v c.duty.row k knows)) (record {
          row = row_known e v c.duty.row k knows;
          word_in = inside;
          at_work = at_work v (closing_line c) top.below (close_top top.below top.lines_are);
          ports = (seen_word c.duty.life c.seen).ports;
          small = taken.small;
          seen_is = ap notify_word is ∙ taken.word_is;
          order = record { no_strike = no_strike };
        })

module _ (g : TaskGraph) (e : Setting) (v w : View) (n seen_as : ℕ) (c : Close) (fits : FitsClose g e v c) (inside : c.word < e.graph.notify_words c.duty.key.0) (credits : v.spare ≡ 0)
    (answer : Closing) (t : answer ≡ closing_of c.duty.life seen_as n) (is : w ≡ after e (close c.duty.row (known_key c.duty.row v) c.duty.life c.word seen_as) n v) where
  here : w ≡ after e (close c.duty.row c.duty.key.0 c.duty.life c.word seen_as) n v
  here = subst (λ m. w ≡ after e (close c.duty.row m c.duty.life c.word seen_as) n v) (known_is e v c.duty.row c.duty.key.0 fits.duty.known) is

  come : (x : Closing) → answer ≡ x → (b : List Line) → HasLines e v (item_lines e.graph (item.Close c) b) → HasLines e w (closed_lines c.duty.key.0 c.duty.life c.word n x (of (closing_line c) ∷ b))
  come x same b lines = subst (λ y. HasLines e w (closed_lines c.duty.key.0 c.duty.life c.word n y (of (closing_line c) ∷ b))) same (closes e v w n c.duty.key.0 c.duty.life c.word seen_as answer b (close_top g e v c fits inside b lines) t here)

  more : Remembers v w
  more = remembers_apart e (close c.duty.row (known_key c.duty.row v) c.duty.life c.word seen_as) n v w refl is

  unstruck : w.strikes ≡ v.strikes
  unstruck = (leaves e (close c.duty.row (known_key c.duty.row v) c.duty.life c.word seen_as) n v w is).strikes_are

  pub no_hand : v.hands ≡ [] → w.hands ≡ []
  no_hand none = (leaves e (close c.duty.row (known_key c.duty.row v) c.duty.life c.word seen_as) n v w is).hands_are ∙ none

  unspent : w.spare ≡ 0
  unspent = credits_kept e (close c.duty.row (known_key c.duty.row v) c.duty.life c.word seen_as) n 0 v w is refl credits

  duty_stays : FitsDuty g e w c.duty
  duty_stays = record { is_key = fits.duty.is_key; known = key_stays e v w c.duty.row c.duty.key.0 more fits.duty.known }

  strikes_stay : (at : Point) (m : ℕ) → FitsStrikes e v at c.duty.key.0 c.duty.life m → FitsStrikes e w at c.duty.key.0 c.duty.life m
  strikes_stay at m old = fits_same e v at c.duty.key.0 c.duty.life w m unstruck old

  -- the strikes behind the last word, while a word is left
  unmade : FitsStrikes e v point.Notified c.duty.key.0 c.duty.life 0
  unmade = dite (ℕ_discrete c.word 0) (λ z. (fits.before z).1)
      (λ ne. let later : 0 < c.word = omega (arith, ne) in subst (FitsStrikes e v point.Notified c.duty.key.0 c.duty.life) (fits.between later inside) (fits.behind later))

  -- the closing goes on with the next word, below the telling of this one
  pub goes_edges : (ports : ℕ) (now : After) → answer ≡ closing.Edges ports → PortsTell (e.graph.ports (known_key c.duty.row v)) c.word answer
      → now ≡ record { left = Some (item.Close (close_from c.duty (c.word + 1))); came = came.Above (item.Notify (notify_of c.duty.key c.duty.life c.word ports)) } → Goes g e v w (item_lines e.graph (item.Close c)) now
  goes_edges ports now same tells left = let bits = edges_are c.duty.life seen_as n ports (sym same ∙ t) in
      subst (λ a. Goes g e v w (item_lines e.graph (item.Close c)) a) (sym left) (record {
        lines = λ b lines. subst (λ qs. HasLines e w (of (line.Notify c.duty.key.0 c.duty.life c.word qs) ∷ of (line.Close c.duty.key.0 c.duty.life (c.word + 1)) ∷ b))
            (sym (ports_low c.word n) ∙ ap (λ m. ports_from c.word m 0 40) (sym bits)) (come (closing.Edges ports) same b lines);
        left = record { duty = duty_stays; word = omega (arith, inside); seen = tt; before = λ z. absurd (omega (arith, z)); between = λ later low. refl; behind = λ later. strikes_stay point.Notified 0 unmade };
        came = (
          record {
            is_key = fits.duty.is_key;
            word = inside;
            ports = let a = mod_below n (2 ^ 40) (omega arith) in omega (arith, a, bits);
            are_ports = subst (λ k. (b : ℕ) → b < 40 → Rattle.std.specs.Int.bit_at ports b ≡ 1 → 40 * c.word + b < e.graph.ports k) (known_is e v c.duty.row c.duty.key.0 fits.duty.known) (subst (PortsTell (e.graph.ports (known_key c.duty.row v)) c.word) same tells);
            closed = learns e n v w (close c.duty.row c.duty.key.0 c.duty.life c.word seen_as) (is_seen_closed c.duty.key.0 c.duty.life c.word) here
                (subst (λ x. 0 < count (is_seen_closed c.duty.key.0 c.duty.life c.word) (closed_known c.duty.key.0 c.duty.life c.word x (seen c.duty.key.0 (word.Notify c.word) n []))) (sym same ∙ t)
                (let a = bump_is (is_seen_closed c.duty.key.0 c.duty.life c.word (known.Closed c.duty.key.0 c.duty.life c.word)) (count (is_seen_closed c.duty.key.0 c.duty.life c.word) (seen c.duty.key.0 (word.Notify c.word) n [])) in
                let d = three_here c.duty.key.0 c.duty.life c.word in omega (arith, a, d)));
            telling = tt;
          },
          omega arith,
        );
        credits = unspent;
      })

  pub goes_stale : (m : ℕ) (now : After) → answer ≡ closing.Stale m → now ≡ record { left = None; came = came.Nothing } → Goes g e v w (item_lines e.graph (item.Close c)) now
  goes_stale m now same left = subst (λ a. Goes g e v w (item_lines e.graph (item.Close c)) a) (sym left) (record { lines = come (closing.Stale m) same; left = tt; came = tt; credits = unspent })

  pub goes_struck : (m lives : ℕ) (now : After) → answer ≡ closing.Struck m → life_limit c.duty.key.0 lives ≡ greatest_life e c.duty.key.0
      → now ≡ record { left = None; came = came.Above (item.Recover (replaces (record { row = c.duty.row; key = c.duty.key; life = m }) cause.Notify false lives)) } → Goes g e v w (item_lines e.graph (item.Close c)) now
  goes_struck m lives now same limit left = subst (λ a. Goes g e v w (item_lines e.graph (item.Close c)) a) (sym left) (record {
    lines = come (closing.Struck m) same;
    left = tt;
    came = (record { is_key = fits.duty.is_key; known = duty_stays.known; lives_are = limit; in_phase = tt }, tt);
    credits = unspent;
  })

  pub goes_moved : (x : NotifyWord) (now : After) → answer ≡ closing.Moved x → MovedTells c.duty.life answer → now ≡ record { left = Some (item.Close (record c { seen = Some x })); came = came.Nothing } → Goes g e v w (item_lines e.graph (item.Close c)) now
  goes_moved x now same tells left = subst (λ a. Goes g e v w (item_lines e.graph (item.Close c)) a) (sym left) (record {
    lines = come (closing.Moved x) same;
    left = record {
      duty = duty_stays;
      word = fits.word;
      seen = (subst (MovedTells c.duty.life) same tells, (let shown = ap (λ (y : NotifyWord). y.ports) (moved_is c.duty.life seen_as n x (sym same ∙ t)) in let a = mod_below n (2 ^ 40) (omega arith) in omega (arith, a, shown)));
      before = λ z. let old = fits.before z in (strikes_stay point.Computed c.made old.0, strikes_stay point.Notified 0 old.1);
      between = fits.between;
      behind = λ later. strikes_stay point.Notified c.made (fits.behind later);
    };
    came = tt;
    credits = unspent;
  })
