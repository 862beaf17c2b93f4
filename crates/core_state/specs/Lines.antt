-- The stacks of a view as one list of lines, and what the answers of events leave of the lines.
use Rattle.std.specs.Prelude.{◌≡◌, ℕ, zero, suc, ◌+◌, Bool, true, false, cond, eqb, List, [], ◌∷◌}
use Rattle.core_state.specs.Graph.{Graph, Plan, Setting}
use Rattle.core_state.specs.Counts.{bump}
use Rattle.core_state.specs.Views.{is_finished, without_first, ends_with}
use Rattle.core_state.specs.Effects.{skipped_items, ports_from}
use Rattle.graph_model.specs.declared.record.Cause.{Cause}
use Rattle.graph_model.specs.declared.record.Cause.TheVariants as cause
use Rattle.core_state.specs.declared.job.Job.{Job}
use Rattle.core_state.specs.declared.job.Job.TheVariants as job
use Rattle.core_state.specs.declared.views.Item.{Item}
use Rattle.core_state.specs.declared.views.Item.TheVariants as item
use Rattle.core_state.specs.declared.views.Ended.{Ended}
use Rattle.core_state.specs.declared.views.Known.{Known}
use Rattle.core_state.specs.declared.views.Stack.{Stack}
use Rattle.core_state.specs.declared.views.View.{View}
use Rattle.core_state.specs.declared.answers.Claim.{Claim}
use Rattle.core_state.specs.declared.answers.Claim.TheVariants as claim
use Rattle.core_state.specs.declared.answers.Registered.{Registered}
use Rattle.core_state.specs.declared.answers.Registered.TheVariants as registered
use Rattle.core_state.specs.declared.answers.Told.{Told}
use Rattle.core_state.specs.declared.answers.Told.TheVariants as told
use Rattle.core_state.specs.declared.answers.Closing.{Closing}
use Rattle.core_state.specs.declared.answers.Closing.TheVariants as closing
use Rattle.core_state.specs.declared.answers.Elected.{Elected}
use Rattle.core_state.specs.declared.answers.Elected.TheVariants as elected

-- a line is an item, or the credit with which a stack ends
pub data Line : Type 0 where
  of : Item → Line
  credit : Line

-- items above what stands below them
abbrev pub onto : List Item → List Line → List Line
onto [] b = b
onto (x ∷ xs) b = of x ∷ onto xs b

-- each stack's items, the topmost first, and then its credit
abbrev pub flat : List Stack → List Line
flat [] = []
flat (s ∷ ss) = onto s.items (credit ∷ flat ss)

-- how many lines are of items that pass a test
abbrev pub counted : (Item → Bool) → List Line → ℕ
counted p [] = 0
counted p (credit ∷ b) = counted p b
counted p (of x ∷ b) = bump (p x) (counted p b)

-- the lines without the finished items on top
abbrev pub settled : Graph → Plan → List ℕ → List Line → List Line
settled g p made [] = []
settled g p made (credit ∷ b) = credit ∷ b
settled g p made (of x ∷ b) = cond (is_finished g p made x) (settled g p made b) (of x ∷ b)

-- nothing stands on top that is finished
abbrev pub stands : Graph → Plan → List ℕ → List Line → Bool
stands g p made [] = true
stands g p made (credit ∷ b) = true
stands g p made (of x ∷ b) = cond (is_finished g p made x) false true

-- the jobs that have ended, once the finished items on top have gone
abbrev pub settled_ended : Graph → Plan → List ℕ → List Line → List Ended → List Ended
settled_ended g p made [] es = es
settled_ended g p made (credit ∷ b) es = es
settled_ended g p made (of x ∷ b) es = cond (is_finished g p made x) (settled_ended g p made b (ends_with x es)) es

-- the jobs that have ended, with the one that ends by what becomes of the first item
abbrev pub first_ended : (List Item → List Ended → List Ended) → List Line → List Ended → List Ended
first_ended f [] es = f [] es
first_ended f (credit ∷ b) es = f [] es
first_ended f (of x ∷ b) es = f (x ∷ []) es

-- other items stand in the place of the first one
abbrev pub change_first : (List Item → List Item) → List Line → List Line
change_first f [] = []
change_first f (credit ∷ b) = onto (f []) (credit ∷ b)
change_first f (of x ∷ b) = onto (f (x ∷ [])) b

-- another item stands in the place of the first one
abbrev pub swap_first : Item → List Line → List Line
swap_first x ls = change_first (λ xs. x ∷ without_first xs) ls

-- the first item goes
abbrev pub drop_first : List Line → List Line
drop_first ls = change_first without_first ls

-- the first credit goes that no item of its stack stands above; the test says that a stack begins here
abbrev pub dropped : Bool → List Line → List Line
dropped starts [] = []
dropped true (credit ∷ b) = b
dropped false (credit ∷ b) = credit ∷ dropped true b
dropped starts (of x ∷ b) = of x ∷ dropped false b

-- the item with which a job begins
abbrev pub begins : Job → ℕ → ℕ → Item
begins job.Explore k l = item.Explore k l 0
begins job.Compute k l = item.Compute k l false 0 false

-- a stack that came, if one came, with the job of the life that was found
abbrev pub came_lines : Job → ℕ → ℕ → List Line → List Line
came_lines i k zero ls = ls
came_lines i k (suc n) ls = of (begins i k (suc n)) ∷ credit ∷ ls

-- The lines by the answers.
-- who made the row owes the exploring of life 1
abbrev pub claimed_lines : ℕ → Claim → List Line → List Line
claimed_lines k claim.Made ls = of (item.Owe k job.Explore 1) ∷ ls
claimed_lines k claim.Found ls = ls
claimed_lines k (claim.Other key) ls = ls

-- a row that was found empty may let a port be skipped
abbrev pub looked_lines : Graph → ℕ → ℕ → ℕ → List Known → List Line → List Line
looked_lines g rows r n known ls = cond (eqb n 0) (change_first (skipped_items g rows r known) ls) ls

-- a port that waits lets the item go on, and a mark makes the life suspect; the lines where the item goes on, and where it stays
abbrev pub registered_lines : ℕ → Registered → List Line → List Line → List Line
registered_lines p (registered.Waiting m) on ls = on
registered_lines p (registered.Closed m) on ls = ls
registered_lines p (registered.Struck m) on ls = of (item.Suspect p m cause.Notify false) ∷ ls

-- what the telling of a place brings above the item that went on
abbrev pub told_lines : ℕ → Told → List Line → List Line
told_lines k (told.Spent l) ls = ls
told_lines k (told.Last l) ls = of (item.Owe k job.Compute l) ∷ ls
told_lines k (told.Already l) ls = ls
told_lines k (told.Struck l) ls = of (item.Suspect k l cause.Descriptor false) ∷ ls

-- a closed word is to be told before the next one is closed; a later life ends the closing, and so does a mark
abbrev pub closed_lines : ℕ → ℕ → ℕ → ℕ → Closing → List Line → List Line
closed_lines k l w n (closing.Edges ports) ls = of (item.Notify k l w (ports_from w n 0 40)) ∷ swap_first (item.Close k l (w + 1)) ls
closed_lines k l w n (closing.Stale m) ls = drop_first ls
closed_lines k l w n (closing.Struck m) ls = of (item.Suspect k m cause.Notify false) ∷ drop_first ls
closed_lines k l w n (closing.Moved m) ls = ls

-- the suspect is renewed, goes, or waits
abbrev pub elected_lines : ℕ → ℕ → Bool → Elected → List Line → List Line
elected_lines k l waits elected.Yes ls = swap_first (item.Renew k l 0) ls
elected_lines k l waits (elected.Replaced m) ls = drop_first ls
elected_lines k l waits (elected.Renewing m) ls = cond (eqb m l) (cond waits ls (drop_first ls)) ls

-- The lines by what a word that is loaded shows: the mark first.
-- computing begins where the descriptor shows its life, and else it goes
abbrev pub ready_lines : Bool → Bool → ℕ → ℕ → Item → List Line → List Line
ready_lines struck same k m x b = cond struck (of (item.Suspect k m cause.Descriptor false) ∷ b) (cond same (of x ∷ b) b)

-- a successor whose place is spent is not entered again; the item with this port and the item without it
abbrev pub entered_lines : Bool → Bool → ℕ → ℕ → Item → Item → List Line → List Line
entered_lines struck spent k m x y b = cond struck (of (item.Suspect k m cause.Descriptor false) ∷ of y ∷ b) (cond spent (of y ∷ b) (of x ∷ b))

-- the writer of a bad block is suspected where it shows the mark or is closed
abbrev pub blamed_lines : Bool → Bool → ℕ → ℕ → Cause → Item → List Line → List Line
blamed_lines struck shut k m c x b = cond struck (of (item.Suspect k m cause.Notify false) ∷ of x ∷ b) (cond shut (of (item.Suspect k m c true) ∷ of x ∷ b) (of x ∷ b))

-- the view's lines are these, without the finished ones on top
pub record HasLines (e : Setting) (v : View) (ls : List Line) : Type 0 where
  pub lines_are : flat v.stacks ≡ settled e.graph e.plan v.strikes ls
