-- The search for a successor's row, as looks of a view on whose lines its port is on top.
use Rattle.std.proofs.Common.{◌≡◌, ◌≢◌, ◌⊎◌, ℕ, zero, suc, ◌+◌, ◌-◌, ◌<◌, ◌≤◌, Bool, true, false, List, ◌∷◌, inr, ⊎_elim, arith, sym, ap, refl, ◌∙◌, subst, Option, Some, None, Contains}
use Rattle.std.specs.Prelude.{MatchBool, if◌then◌else◌}
use Rattle.core_state.specs.Counts.{word_in}
use Rattle.core_state.specs.Effects.{others_before, distance}
use Rattle.core_state.specs.Graph.{Setting}
use Rattle.core_state.specs.Events.{Event, after, Can}
use Rattle.core_state.specs.Events.Event.{look}
use Rattle.core_state.specs.Lines.{Line, HasLines, of}
use Rattle.core_state.specs.declared.views.Item.TheVariants as item
use Rattle.core_state.specs.declared.views.View.{View}
use Rattle.core_state.proofs.Lines.After.{looked_full, looked_absent}
use Rattle.core_state.proofs.Lines.Outcomes.{leaves}
use Rattle.core_state.proofs.Lines.Remembers.{IsRight, right_here}
use Rattle.core_steps.specs.Seat.{known_of, key_in, key_event, IsStep}
use Rattle.core_steps.proofs.Telling.{passed_upto}
use Rattle.key_table.specs.Path.{path_row, HasPassed, IsOther}
use Rattle.key_table.specs.Rules.{HasRules}
use Rattle.key_table.specs.Seeking.{Seeking, next_row, claimed, turned, TurnSpends, TurnTells}
use Rattle.key_table.specs.declared.search.Sought.{Sought}
use Rattle.key_table.specs.declared.search.Sought.TheVariants as sought
use Rattle.key_table.proofs.Paths.{no_room}
use Rattle.recovery.specs.Memory.{KnowsKey, MakesStep}
use Rattle.recovery.specs.Serving.{IsPort}
use Rattle.recovery.specs.Reentering.{port_lines, IsSearch, Reenters}
use Rattle.recovery.specs.Resting.{ReenterRests, way_rest}
use Rattle.recovery.specs.declared.reenter.Reached.TheVariants as reached
use Rattle.recovery.specs.declared.reenter.Reenter.{Reenter}
use Rattle.recovery.specs.declared.reenter.Way.TheVariants as way
use Rattle.recovery.proofs.Noting.{makes}
use Rattle.recovery.proofs.Entering.{port_top, again, behind, leaves_port, stays_at}

-- a row that was passed
pub passed_by : (known later : ℕ → Option ℕ) (key rows count : ℕ) → ((r : ℕ) → known r ≡ later r) → HasPassed known key rows count → HasPassed later key rows count
passed_by known later key rows count same passed = record { others = λ step low. let o = passed.others step low in record { other = o.other; is = sym (same (path_row key rows step)) ∙ o.is; differs = o.differs } }

-- the number by which a row is known, where it is known
known_number : (m n : ℕ) → 0 < m → ((k : ℕ) → key_in m ≡ Some k → n ≡ k + 1) → m ≡ n
known_number zero n some stays = omega (arith, some)
known_number (suc k) n some stays = let a = stays k refl in omega (arith, a)

-- room for at most one record goes
pub spends : (t : Sought) (n m : ℕ) → TurnSpends t n m → n ≤ m + 1
spends (sought.At row true) n m is = is
spends (sought.At row false) n m is = omega (arith, is)
spends sought.Going n m is = omega (arith, is)
spends sought.Absent n m is = omega (arith, is)

-- a search that makes nothing finds a word that holds the key
pub found_number : (makes made : Bool) (n key : ℕ) → makes ≡ false → MatchBool made ((n ≡ 0) × (makes ≡ true)) (n ≡ key + 1) → n ≡ key + 1
found_number makes true n key looks found = absurd (let a = found.1 in cc)
found_number makes false n key looks found = found

module _ (e : Setting) (v w : View) (n : ℕ) (s : Seeking) (search : IsSearch e v s.key s) (is : w ≡ after e (look (next_row s)) n v) (stays : (k : ℕ) → known_of v (next_row s) ≡ Some k → n ≡ k + 1) where
  -- a look at an empty word teaches nothing
  same_known : n ≡ 0 → w.known ≡ v.known
  same_known empty = (leaves e (look (next_row s)) n v w is).known_is ∙ ap (λ m. Rattle.std.proofs.Common.◌++◌ (Rattle.core_state.specs.Outcome.learned e (look (next_row s)) m) v.known) empty

  -- a row that another key is known of was not empty
  pub passed_full : IsOther (known_of w (next_row s)) s.key → n ≢ 0
  passed_full other empty = let a = stays other.other (ap (λ ks. key_in (word_in (next_row s) ks)) (sym (same_known empty)) ∙ other.is) in omega (arith, a, empty)

  module _ (p q place : ℕ) (port : IsPort e.graph p q s.key place) (l : ℕ) (b : List Line) (lines : HasLines e v (port_lines e.graph p l q b)) where
    pub seen_lines : n ≢ 0 → HasLines e w (port_lines e.graph p l q b)
    seen_lines full = again e w p l q b port.low (looked_full e v w n (next_row s) (of (item.Reenter p l (q ∷ behind e.graph p q))) b (port_top e v p l q b port.low lines) full is)

    pub unseen_lines : s.passed < s.rows → next_row s < s.rows → n ≡ 0 → HasLines e w (port_lines e.graph p l (q + 1) b)
    unseen_lines within low empty = looked_absent e v w n (next_row s) p l q (behind e.graph p q) b (port_top e v p l q b port.low lines) empty
        (let others = passed_upto v s.rows s.key s.passed (next_row s) within low refl search.passed in
        let here = subst (λ m. others_before m s.key v.known (distance m s.key (next_row s)) ≡ true) search.rows_are others in
        subst (λ k. others_before e.shape.rows k v.known (distance e.shape.rows k (next_row s)) ≡ true) (sym port.task_is) here) is

-- the step of a search that makes nothing is a look
module _ (s : Seeking) (looks : s.makes ≡ false) where
  no_key : claimed s ≡ None
  no_key = ap (λ b. if b then Some s.key else None) looks

  pub look_event : key_event (next_row s) (claimed s) ≡ look (next_row s)
  look_event = ap (key_event (next_row s)) no_key

-- so it found what the view knows of the row, and the number is the one that is told of the look
module _ {S : Type 0} {setting : S → Setting} {view : S → View} {made : S → ℕ} {last shown : S → ℕ × ℕ} {happened : S → Event → ℕ → S → Type 0} {lender : S → List ℕ} {others : S → List View} {before after_it : S} (s : Seeking) (looks : s.makes ≡ false) (step : Can (setting before) (view before) (key_event (next_row s) (claimed s)) × IsStep setting view made last shown happened lender others (key_event (next_row s) (claimed s)) before after_it) where
  pub look_step : IsStep setting view made last shown happened lender others (look (next_row s)) before after_it
  look_step = subst (λ x. IsStep setting view made last shown happened lender others x before after_it) (look_event s looks) step.1

  pub look_low : next_row s < (setting before).shape.rows
  look_low = (subst (λ x. Can (setting before) (view before) x) (look_event s looks) step.0).low

  told_is : (last after_it).1 ≡ (shown after_it).1
  told_is = ap (λ (x : ℕ × ℕ). x.1) look_step.last_is

  pub look_is : view after_it ≡ after (setting before) (look (next_row s)) (last after_it).1 (view before)
  look_is = look_step.view_is ∙ ap (λ n. after (setting before) (look (next_row s)) n (view before)) (sym told_is)

  pub look_right : ((k : ℕ) → known_of (view before) (next_row s) ≡ Some k → (last after_it).1 ≡ k + 1) → IsRight (view before) (look (next_row s)) (shown after_it).1
  look_right stays = right_here (view before) (look (next_row s)) (shown after_it).1 (next_row s) refl (λ some. known_number (word_in (next_row s) (view before).known) (shown after_it).1 some (λ k is. sym told_is ∙ stays k is))

  -- it is a step of a replacement
  pub looks_make : (spare : S → ℕ) → spare before ≤ spare after_it + 1 → ((k : ℕ) → known_of (view before) (next_row s) ≡ Some k → (last after_it).1 ≡ k + 1) → MakesStep setting view made spare last shown happened lender others (look (next_row s)) before after_it
  looks_make spare room stays = makes spare look_step room refl refl refl (look_right stays)

-- A look that goes on comes nearer to the end of the path, and one that finds the row comes to its word.
module _ (e : Setting) (v : View) (s : Seeking) (search : IsSearch e v s.key s) (before : Reenter) (left : way_rest e.shape.rows before.way ≡ (e.shape.rows - s.passed) + 9) where
  pub moves_on : (t : Seeking) → t ≡ turned sought.Going s → ReenterRests e.shape.rows before (record before { way = way.Seek t }) reached.Going
  moves_on t next = inr (refl, (let a = search.within in let b = search.rows_are in let c : t.passed ≡ s.passed + 1 = ap (λ (x : Seeking). x.passed) next in omega (arith, a, b, c, left)))

  pub moves_at : (row : ℕ) → ReenterRests e.shape.rows before (record before { way = way.Load row }) reached.Going
  moves_at row = inr (refl, (let a = search.within in let b = search.rows_are in omega (arith, a, b, left)))

-- What a look comes to, by the answer of the search.
module _ (e : Setting) (v w : View) (n p place : ℕ) (known : ℕ → Option ℕ) (s : Seeking) (before : Reenter) (search : IsSearch e v s.key s) (port : IsPort e.graph p before.port s.key place) (stays : (k : ℕ) → known_of v (next_row s) ≡ Some k → n ≡ k + 1) (later : (r : ℕ) → known r ≡ known_of w r) (is : w ≡ after e (look (next_row s)) n v) where
  pub goes_on : (t : Seeking) → t ≡ turned sought.Going s → TurnTells sought.Going s known n → Reenters e v w p before (record before { way = way.Seek t }) reached.Going
  goes_on t next tells = let passed = passed_by known (known_of w) s.key s.rows (s.passed + 1) later tells.1 in
      stays_at e v w p before (way.Seek t) reached.Going (λ l b lines. seen_lines e v w n s search is stays p before.port place port l b lines (passed_full e v w n s search is stays (passed.others s.passed (omega arith))))
      (subst (IsSearch e w (e.graph.succ p before.port).task) (sym next) (record { key_is = sym port.task_is; rows_are = search.rows_are; looks = search.looks; within = tells.0; passed = passed }))

  pub goes_at : (row : ℕ) (made : Bool) → TurnTells (sought.At row made) s known n → Reenters e v w p before (record before { way = way.Load row }) reached.Going
  goes_at row made tells = let found = found_number s.makes made n s.key search.looks tells.3 in
      stays_at e v w p before (way.Load row) reached.Going (λ l b lines. seen_lines e v w n s search is stays p before.port place port l b lines (λ z. omega (arith, found, z)))
      (subst (KnowsKey e w row) (sym port.task_is) (record { low = subst (λ m. row < m) search.rows_are tells.1; key_is = sym (later row) ∙ tells.2 }))

  module _ (rows : ℕ) (keys : List ℕ) (may stands : ℕ → Type 0) (rules : HasRules rows keys may stands known) (many : rows ≡ s.rows) (listed : Contains keys s.key) (low : next_row s < s.rows) where
    pub goes_by : (now : Reenter) → now ≡ record { port = before.port + 1; way = way.Start } → TurnTells sought.Absent s known n → Reenters e v w p before now reached.Going
    goes_by now left tells = leaves_port e v w p before now reached.Going left (λ l b lines. unseen_lines e v w n s search is stays p before.port place port l b lines search.within low empty)
      where
        empty : n ≡ 0
        empty = ⊎_elim (λ z. z) (λ passed. absurd (no_room s.rows keys may stands known s.key (let a = search.within in omega (arith, a)) (subst (λ m. HasRules m keys may stands known) many rules) passed listed)) tells.1
