-- What items below others rest on stays, whatever the step of the topmost one does.
use Rattle.std.proofs.Common.{◌≡◌, ℕ, zero, suc, ◌+◌, ◌/◌, ◌-◌, ◌<◌, ◌≤◌, Bool, true, false, cond, ◌&&◌, nat_lt, eqb, List, [], ◌∷◌, refl, ap, sym, ◌∙◌, arith}
use mathlib.Core.Option.{some, none}
use mathlib.Core.Option as core
use Rattle.graph_model.specs.Graph.{Graph as TaskGraph}
use Rattle.graph_model.specs.declared.plan.Point.{Point}
use Rattle.graph_model.specs.declared.plan.Point.TheVariants as point
use Rattle.core_state.specs.Counts.{hit}
use Rattle.core_state.specs.Tests.{carries, is_seen_closed, job_of, is_in, same_point, two}
use Rattle.core_state.specs.Effects.{all_ports, ports_from}
use Rattle.core_state.specs.Graph.{Graph, Plan, Setting}
use Rattle.core_state.specs.Lines.{Line, of, counted, flat}
use Rattle.core_state.specs.Sure.{IsSure}
use Rattle.core_state.specs.Views.{Passing, first_of, has_word, is_left, next_strike, passing, strike_at, strike_next}
use Rattle.core_state.specs.declared.views.Item.{Item as Carried}
use Rattle.core_state.specs.declared.views.Item.TheVariants as line
use Rattle.core_state.specs.declared.views.View.{View}
use Rattle.core_state.proofs.Base.Counting.{bump_is, two_here}
use Rattle.core_state.proofs.Lines.Counts.{items_counted}
use Rattle.core_state.proofs.Lines.Top.{first_strike}
use Rattle.core_steps.specs.Seat.{known_of}
use Rattle.key_table.proofs.Paths.{passed_stays}
use Rattle.recovery.specs.Memory.{Remembers}
use Rattle.recovery.specs.Recovering.{phase_lines}
use Rattle.recovery.specs.declared.recover.Phase.{Phase as Replacing}
use Rattle.recovery.specs.declared.recover.Phase.TheVariants as replacing
use Rattle.recovery.specs.declared.recover.Recover.{Recover}
use Rattle.recovery.proofs.Knowing.{key_stays}
use Rattle.recovery.proofs.Phases.{fits_stays}
use Rattle.compute_notify.specs.Items.{FitsItem, FitsReaching, FitsTelling, FitsDuty, IsBelow, item_lines, first_port, compute_lines}
use Rattle.compute_notify.specs.Striking.{FitsStrikes, names}
use Rattle.compute_notify.specs.Tasks.{FitsAll, stacked}
use Rattle.compute_notify.specs.declared.compute.Phase.{Phase}
use Rattle.compute_notify.specs.declared.compute.Phase.TheVariants as phase
use Rattle.compute_notify.specs.declared.duty.Duty.{Duty}
use Rattle.compute_notify.specs.declared.explore.Way.{Way as Reaching}
use Rattle.compute_notify.specs.declared.explore.Way.TheVariants as reaching
use Rattle.compute_notify.specs.declared.item.Item.{Item}
use Rattle.compute_notify.specs.declared.item.Item.TheVariants as item
use Rattle.compute_notify.specs.declared.notify.Notify.{Notify}
use Rattle.compute_notify.specs.declared.notify.Way.{Way as Telling}
use Rattle.compute_notify.specs.declared.notify.Way.TheVariants as telling
use Rattle.compute_notify.proofs.Fitting.{fits_apart, fits_same, named_is}

-- the strikes of a life are made as before, if some line of these carries its job
abbrev pub KeepsStrikes : Setting → View → View → List Line → Type 0
KeepsStrikes e v w b = (at : Point) (k l m : ℕ) → 0 < counted (carries (job_of at) k l) b → FitsStrikes e v at k l m → FitsStrikes e w at k l m

-- Facts of rows and of closed words.
module _ (g : TaskGraph) (e : Setting) (v w : View) (more : Remembers v w) where
  pub duty_stays : (duty : Duty) → FitsDuty g e v duty → FitsDuty g e w duty
  duty_stays duty fits = record { is_key = fits.is_key; known = key_stays e v w duty.row duty.key.0 more fits.known }

  pub reaching_stays : (k j : ℕ) (way : Reaching) → FitsReaching e v k j way → FitsReaching e w k j way
  reaching_stays k j reaching.Start fits = tt
  reaching_stays k j (reaching.Seek s) fits = let f = fits.1 in (fits.0, record { key_is = f.key_is; rows_are = f.rows_are; makes_row = f.makes_row; within = f.within; passed = passed_stays (known_of v) (known_of w) s.key s.rows s.passed more.rows_stay f.passed })
  reaching_stays k j (reaching.Register r) fits = (fits.0, key_stays e v w r (e.graph.pred k j).task more fits.1)
  reaching_stays k j reaching.Spend fits = let q = (e.graph.pred k j).port in
      (fits.0, record { life = fits.1.life; closed_known = let a = more.facts_stay (is_seen_closed (e.graph.pred k j).task fits.1.life (q / 40)) in let b = fits.1.closed_known in omega (arith, a, b) })

  pub telling_stays : (n : Notify) (way : Telling) → FitsTelling e v n way → FitsTelling e w n way
  telling_stays n telling.Start fits = tt
  telling_stays n (telling.Seek s) fits = let f = fits.1 in (fits.0, record { key_is = f.key_is; rows_are = f.rows_are; looks = f.looks; within = f.within; passed = passed_stays (known_of v) (known_of w) s.key s.rows s.passed more.rows_stay f.passed })
  telling_stays n (telling.Spend r) fits = (fits.0, key_stays e v w r (e.graph.succ n.key.0 (first_port n)).task more fits.1)

  -- an item that stands below others
  pub item_stays : (x : Item) (b : List Line) → IsBelow x → KeepsStrikes e v w (item_lines e.graph x b) → FitsItem g e v x → FitsItem g e w x
  item_stays item.Credit b low keeps fits = tt
  item_stays (item.Explore x) b low keeps fits = record {
    duty = duty_stays x.duty fits.duty;
    place = fits.place;
    reaching = reaching_stays x.duty.key.0 x.place x.way fits.reaching;
    strikes = keeps point.Explored x.duty.key.0 x.duty.life x.made (let a = bump_is (two x.duty.key.0 x.duty.life x.duty.key.0 x.duty.life) (counted (carries (job_of point.Explored) x.duty.key.0 x.duty.life) b) in let c = ap hit (two_here x.duty.key.0 x.duty.life) in omega (arith, a, c)) fits.strikes;
    none_made = fits.none_made;
  }
  item_stays (item.Compute c) b low keeps fits = absurd low
  item_stays (item.Close c) b low keeps fits = record {
    duty = duty_stays c.duty fits.duty;
    word = fits.word;
    seen = fits.seen;
    before = λ z. absurd (let q : 0 < c.word = low in omega (arith, z, q));
    between = fits.between;
    behind = λ later. keeps point.Notified c.duty.key.0 c.duty.life c.made (let a = bump_is (two c.duty.key.0 c.duty.life c.duty.key.0 c.duty.life) (counted (carries (job_of point.Notified) c.duty.key.0 c.duty.life) b) in let d = ap hit (two_here c.duty.key.0 c.duty.life) in omega (arith, a, d)) (fits.behind later);
  }
  item_stays (item.Notify n) b low keeps fits = record {
    is_key = fits.is_key;
    word = fits.word;
    ports = fits.ports;
    are_ports = fits.are_ports;
    closed = let a = more.facts_stay (is_seen_closed n.key.0 n.life n.word) in let c = fits.closed in omega (arith, a, c);
    telling = telling_stays n n.way fits.telling;
  }
  item_stays (item.Look x) b low keeps fits = absurd low
  item_stays (item.Owe o) b low keeps fits = absurd low
  item_stays (item.Recover r) b low keeps fits = fits_stays g e v w r more fits

-- Lines come on top of others.
module _ (g : Graph) (p : Carried → Bool) where
  phase_more : (duty : Duty) (y : Phase) (b : List Line) → counted p b ≤ counted p (compute_lines g duty y b)
  phase_more duty (phase.Ready made) b = let a = bump_is (p (line.Compute duty.key.0 duty.life false 0 false)) (counted p b) in omega (arith, a)
  phase_more duty (phase.Reading input) b = let a = bump_is (p (line.Compute duty.key.0 duty.life true input false)) (counted p b) in omega (arith, a)
  phase_more duty phase.Writing b = let a = bump_is (p (line.Compute duty.key.0 duty.life true (g.inputs duty.key.0) true)) (counted p b) in omega (arith, a)

  one_more : (x : Carried) (b : List Line) → counted p b ≤ counted p (of x ∷ b)
  one_more x b = let a = bump_is (p x) (counted p b) in omega (arith, a)

  replaced_more : (r : Recover) (y : Replacing) (b : List Line) → counted p b ≤ counted p (phase_lines g r.key.0 r.life r.cause r.wait y b)
  replaced_more r replacing.Suspect b = one_more (line.Suspect r.key.0 r.life r.cause r.wait) b
  replaced_more r (replacing.Renew done) b = one_more (line.Renew r.key.0 r.life done) b
  replaced_more r replacing.Finish b = one_more (line.Renew r.key.0 r.life (g.notify_words r.key.0 + 1)) b
  replaced_more r (replacing.Owe owe behind) b =
      let x : Carried = line.Reenter r.key.0 (r.life + 1) (all_ports behind.port (g.ports r.key.0 - behind.port)) in
      let a = one_more x b in let c = one_more (line.Owe owe.key.0 owe.job owe.life) (of x ∷ b) in omega (arith, a, c)
  replaced_more r (replacing.Reenter reenter) b = one_more (line.Reenter r.key.0 (r.life + 1) (all_ports reenter.port (g.ports r.key.0 - reenter.port))) b
  replaced_more r replacing.Passed b = one_more (line.Reenter r.key.0 (r.life + 1) []) b
  replaced_more r replacing.Over b = omega arith

  pub item_more : (x : Item) (b : List Line) → counted p b ≤ counted p (item_lines g x b)
  item_more item.Credit b = omega arith
  item_more (item.Explore x) b = one_more (line.Explore x.duty.key.0 x.duty.life x.place) b
  item_more (item.Compute c) b = phase_more c.duty c.phase b
  item_more (item.Close c) b = one_more (line.Close c.duty.key.0 c.duty.life c.word) b
  item_more (item.Notify n) b = one_more (line.Notify n.key.0 n.life n.word (ports_from n.word n.ports 0 40)) b
  item_more (item.Look k) b = one_more (line.Suspect k.duty.key.0 k.duty.life k.cause false) b
  item_more (item.Owe o) b = one_more (line.Owe o.key.0 o.job o.life) b
  item_more (item.Recover r) b = replaced_more r r.phase b

  pub stacked_more : (xs : List Item) (b : List Line) → counted p b ≤ counted p (stacked g xs b)
  stacked_more [] b = omega arith
  stacked_more (x ∷ xs) b = let a = item_more x b in let c = stacked_more xs (item_lines g x b) in omega (arith, a, c)

-- all of these stand below others
abbrev pub AllLow : List Item → Type 0
AllLow [] = Unit {0}
AllLow (x ∷ xs) = IsBelow x × AllLow xs

-- all items that stand below the topmost
pub all_stay : (g : TaskGraph) (e : Setting) (v w : View) → Remembers v w → (xs : List Item) (b : List Line) → AllLow xs → KeepsStrikes e v w (stacked e.graph xs b) → FitsAll g e v xs → FitsAll g e w xs
all_stay g e v w more [] b low keeps fits = tt
all_stay g e v w more (x ∷ xs) b low keeps fits = (
  item_stays g e v w more x b low.0 (λ at k l m some. keeps at k l m (let a = stacked_more e.graph (carries (job_of at) k l) xs (item_lines e.graph x b) in omega (arith, a, some))) fits.0,
  all_stay g e v w more xs (item_lines e.graph x b) low.1 keeps fits.1,
)

-- What a strike that is made names.
found_passes : (p : ℕ → Bool) (i c n : ℕ) → first_of p i c ≡ some n → p n ≡ true
found_passes p i zero n is = absurd cc
found_passes p i (suc c) n is = by (found_passes p (i + 1) c n) (p i) refl is
  where
    by : (first_of p (i + 1) c ≡ some n → p n ≡ true) → (b : Bool) → p i ≡ b → cond b (some i) (first_of p (i + 1) c) ≡ some n → p n ≡ true
    by later true here z = let same : i ≡ n = cc in ap p (sym same) ∙ here
    by later false here z = later z

parts_name : (a b c : Bool) → (a && (b && c)) ≡ true → (a && b) ≡ true
parts_name true true c is = refl
parts_name true false c is = absurd cc
parts_name false b c is = absurd cc

pub next_named : (g : Graph) (p : Plan) (at : Point) (k l n : ℕ) (made : List ℕ) → next_strike g p at k l made ≡ some n → names at k l (p.strike n) ≡ true
next_named g p at k l n made is = let s = p.strike n in parts_name (same_point at s.point) (two k l s.key.0 s.life) (has_word g k s.target && cond (is_in n made) false true) (found_passes (is_left g p at k l made) 0 p.count n is)

-- the item at work carries the job at whose point it stands
abbrev Carries : Carried → core.Option Passing → Type 0
Carries x none = Unit {0}
Carries x (some y) = carries (job_of y.at) y.key y.life x ≡ true

passing_carries : (g : Graph) (x : Carried) → Carries x (passing g x)
passing_carries g (line.Explore k l j) = by (nat_lt j (g.places k))
  where
    by : (b : Bool) → Carries (line.Explore k l j) (cond b none (some (record { at = point.Explored; key = k; life = l })))
    by true = tt
    by false = two_here k l
passing_carries g (line.Compute k l loaded r made) = by loaded
  where
    by : (b : Bool) → Carries (line.Compute k l loaded r made) (cond b none (some (record { at = point.Ready; key = k; life = l })))
    by true = tt
    by false = two_here k l
passing_carries g (line.Close k l w) = by (eqb w 0) (nat_lt w (g.notify_words k))
  where
    by : (a b : Bool) → Carries (line.Close k l w) (cond a (some (record { at = point.Computed; key = k; life = l })) (cond b none (some (record { at = point.Notified; key = k; life = l }))))
    by true b = two_here k l
    by false true = tt
    by false false = two_here k l
passing_carries g (line.Notify k l w qs) = tt
passing_carries g (line.Suspect k l c waits) = tt
passing_carries g (line.Renew k l done) = tt
passing_carries g (line.Reenter k l qs) = tt
passing_carries g (line.Owe k i l) = tt

-- Below the item that makes a strike no line carries the job of its point.
module _ (e : Setting) (v : View) (sure : IsSure e v) (x : Carried) (b : List Line) (top : flat v.stacks ≡ of x ∷ b) where
  pub strike_apart : (n : ℕ) → strike_next e.graph e.plan v ≡ some n → (at : Point) (k l : ℕ) → 0 < counted (carries (job_of at) k l) b → names at k l (e.plan.strike n) ≡ false
  strike_apart n next at k l below = by (passing e.graph x) (passing_carries e.graph x) (sym (first_strike e.graph e.plan v x b top) ∙ next)
    where
      none_twice : (y : Passing) → carries (job_of y.at) y.key y.life x ≡ true → job_of y.at ≡ job_of at → y.key ≡ k → y.life ≡ l → ⊥
      none_twice y carried job key life =
          let here : carries (job_of at) k l x ≡ true = ap (λ i. carries i k l x) (sym job) ∙ ap (λ i. carries (job_of y.at) i l x) (sym key) ∙ ap (λ i. carries (job_of y.at) y.key i x) (sym life) ∙ carried in
          let a = items_counted (carries (job_of at) k l) v ∙ ap (counted (carries (job_of at) k l)) top in
          let c = bump_is (carries (job_of at) k l x) (counted (carries (job_of at) k l) b) in
          let d = ap hit here in let o = sure.once (job_of at) k l in omega (arith, a, c, d, o, below)

      by : (o : core.Option Passing) → Carries x o → strike_at e.graph e.plan v.strikes o ≡ some n → names at k l (e.plan.strike n) ≡ false
      by none carried is = absurd cc
      by (some y) carried is = of_name (names at k l (e.plan.strike n)) refl
        where
          of_name : (q : Bool) → names at k l (e.plan.strike n) ≡ q → q ≡ false
          of_name false named = refl
          of_name true named =
              let a = named_is at k l (e.plan.strike n) named in
              let c = named_is y.at y.key y.life (e.plan.strike n) (next_named e.graph e.plan y.at y.key y.life n v.strikes is) in
              absurd (none_twice y carried (ap job_of (c.of_point ∙ sym a.of_point)) (sym c.of_key ∙ a.of_key) (sym c.of_life ∙ a.of_life))

  -- so a step that makes it leaves their strikes as they were
  pub keeps_below : (w : View) (n : ℕ) → strike_next e.graph e.plan v ≡ some n → w.strikes ≡ n ∷ v.strikes → KeepsStrikes e v w b
  keeps_below w n next made at k l m below fits = fits_apart e v at k l w m n made (strike_apart n next at k l below) fits

pub keeps_same : (e : Setting) (v w : View) (b : List Line) → w.strikes ≡ v.strikes → KeepsStrikes e v w b
keeps_same e v w b same at k l m below fits = fits_same e v at k l w m same fits
