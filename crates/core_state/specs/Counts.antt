-- Every fact about all views is a count: of a number that each view has, added over the views.
use Rattle.std.specs.Prelude.{ℕ, ◌+◌, ◌-◌, Bool, true, false, cond, eqb, List, [], ◌∷◌, length}
use Rattle.core_state.specs.Graph.{Plan}
use Rattle.graph_model.specs.declared.plan.Strike.{Strike}
use Rattle.core_state.specs.declared.job.Job.{Job}
use Rattle.graph_model.specs.declared.record.Hit.{Hit}
use Rattle.graph_model.specs.declared.record.Record.{Record}
use Rattle.core_state.specs.declared.views.Item.{Item}
use Rattle.core_state.specs.declared.views.Stack.{Stack}
use Rattle.core_state.specs.declared.views.Known.{Known}
use Rattle.core_state.specs.declared.views.Known.TheVariants as known
use Rattle.core_state.specs.declared.views.View.{View}
use Rattle.core_state.specs.Tests.{is_owed, is_owe, carries, is_ended, came_with, is_hand, is_made_any, job_of, strikes_upto, is_row, waits_at}

-- 1 where the test holds, and else 0
abbrev pub hit : Bool → ℕ
hit true = 1
hit false = 0

-- one more where the test holds; it computes to n where the test computes to false
abbrev pub bump : Bool → ℕ → ℕ
bump true n = n + 1
bump false n = n

-- how many elements pass a test
abbrev pub count : {A : Type 0} → (A → Bool) → List A → ℕ
count p [] = 0
count p (x ∷ xs) = bump (p x) (count p xs)

-- a number of each view, added over the views
unfoldable pub total_of : List View → (View → ℕ) → ℕ
total_of [] f = 0
total_of (v ∷ vs) f = f v + total_of vs f

-- Records.

-- how many of a view's records pass a test
abbrev pub noted : (Record → Bool) → View → ℕ
noted p v = count p v.records

-- Items.

-- how many items of all these stacks pass a test
abbrev pub in_stacks : (Item → Bool) → List Stack → ℕ
in_stacks p [] = 0
in_stacks p (s ∷ ss) = count p s.items + in_stacks p ss

-- how many of a view's items pass a test
abbrev pub items : (Item → Bool) → View → ℕ
items p v = in_stacks p v.stacks

-- Jobs: still owed, held as an item, or ended. A stack came with one.

-- how often the view owes the job of the life
abbrev pub owed : Job → ℕ → ℕ → View → ℕ
owed j k l v = items (is_owed j k l) v

-- how often the view holds the job of the life as an item
abbrev pub held : Job → ℕ → ℕ → View → ℕ
held j k l v = items (carries j k l) v

-- how often the job of the life ended in the view
abbrev pub ended : Job → ℕ → ℕ → View → ℕ
ended j k l v = count (is_ended j k l) v.ended

-- how many of the view's stacks came with the job of the life
abbrev pub came : Job → ℕ → ℕ → View → ℕ
came j k l v = count (came_with j k l) v.stacks

-- a job that is held or has ended
abbrev pub begun : Job → ℕ → ℕ → View → ℕ
begun j k l v = held j k l v + ended j k l v

-- Credits.

-- the stacks of a view
abbrev pub stack_count : View → ℕ
stack_count v = length v.stacks

-- the spare credits of a view
abbrev pub spare : View → ℕ
spare v = v.spare

-- the spare credits beyond one for each job that is owed
abbrev pub too_many : View → ℕ
too_many v = v.spare - items is_owe v

-- a view's share in the table
abbrev pub parts : View → ℕ
parts v = v.parts

-- Blocks in hand.

-- how often the block is in the hand of the view
abbrev pub in_hand : ℕ → View → ℕ
in_hand b v = count (is_hand b) v.hands

-- the block in the hand of a view that has not made the result of the key
abbrev pub in_wrong_hand : ℕ → ℕ → View → ℕ
in_wrong_hand b k v = cond (eqb (items (is_made_any k) v) 0) (in_hand b v) 0

-- Strikes of the plan that were made.

-- how often the view made the strike at this place of the plan
abbrev pub struck_by : ℕ → View → ℕ
struck_by n v = count (eqb n) v.strikes

-- the strike was made by a view that neither holds the job of its point nor has ended it
abbrev pub struck_idly : Strike → ℕ → View → ℕ
struck_idly s n v = cond (eqb (begun (job_of s.point) s.key.0 s.life v) 0) (struck_by n v) 0

-- how many strikes of a view were on that target of the key with a life of at most l
abbrev pub struck_upto : Plan → ℕ → ℕ → Hit → View → ℕ
struck_upto p k l h v = count (strikes_upto p k l h) v.strikes

-- Facts.

-- how many of a view's facts pass a test
abbrev pub facts : (Known → Bool) → View → ℕ
facts p v = count p v.known

-- how often the view knows that the row is that of the key
abbrev pub knows_row : ℕ → ℕ → View → ℕ
knows_row r k v = facts (is_row r k) v

-- how often the view knows that the port was registered in the life
abbrev pub waits : ℕ → ℕ → ℕ → View → ℕ
waits k l q v = facts (waits_at k l q) v

-- what a view knows of the key word of a row: its number, or 0
abbrev pub word_in : ℕ → List Known → ℕ
word_in r [] = 0
word_in r (known.Row row key ∷ xs) = cond (eqb r row) (key + 1) (word_in r xs)
word_in r (_ ∷ xs) = word_in r xs

-- what the view knows of the key word of a row: its number, or 0
unfoldable pub known_word : ℕ → View → ℕ
known_word r v = word_in r v.known

-- the key that the view knows of a row, where it knows one
unfoldable pub known_key : ℕ → View → ℕ
known_key r v = known_word r v - 1
