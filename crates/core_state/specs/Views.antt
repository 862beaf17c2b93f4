-- What the parts of an event do to a view. Each is one change of fields at the top, so that a count which reads no changed field computes to what it was.
use Rattle.std.specs.Prelude.{ℕ, zero, suc, ◌+◌, ◌-◌, Bool, true, false, cond, ◌&&◌, nat_lt, nat_eq, eqb, List, [], ◌∷◌, ◌++◌}
use mathlib.Core.Option.{Option, some, none}
use Rattle.core_state.specs.Graph.{Graph, Plan}
use Rattle.graph_model.specs.declared.plan.Strike.{Strike}
use Rattle.core_state.specs.Tests.{is_in, same_point, two}
use Rattle.graph_model.specs.declared.key.Key.{Key}
use Rattle.core_state.specs.declared.job.Job.{Job}
use Rattle.core_state.specs.declared.job.Job.TheVariants as job
use Rattle.graph_model.specs.declared.plan.Point.{Point}
use Rattle.graph_model.specs.declared.plan.Point.TheVariants as point
use Rattle.graph_model.specs.declared.plan.Target.{Target}
use Rattle.graph_model.specs.declared.plan.Target.TheVariants as target
use Rattle.graph_model.specs.declared.record.Record.{Record}
use Rattle.graph_model.specs.declared.record.Record.TheVariants as record_of
use Rattle.core_state.specs.declared.views.Item.{Item}
use Rattle.core_state.specs.declared.views.Item.TheVariants as item
use Rattle.core_state.specs.declared.views.Stack.{Stack}
use Rattle.core_state.specs.declared.views.Ended.{Ended}
use Rattle.core_state.specs.declared.views.Known.{Known}
use Rattle.core_state.specs.declared.views.Known.TheVariants as known
use Rattle.core_state.specs.declared.views.View.{View}

-- a number as a key
abbrev pub key_of : ℕ → Key
key_of k = record { 0 = k }

-- the view has one more record
abbrev pub note : Record → View → View
note x v = record v { records = x ∷ v.records }

-- the view has one more fact
abbrev pub learn : Known → View → View
learn x v = record v { known = x ∷ v.known }

-- the view has made the strike
abbrev pub strike_made : ℕ → View → View
strike_made n v = record v { strikes = n ∷ v.strikes }

-- The stack that came last, and its items.
abbrev pub on_top : (List Item → List Item) → List Stack → List Stack
on_top f [] = []
on_top f (s ∷ ss) = record s { items = f s.items } ∷ ss

-- the items of the stack that came last are changed
abbrev pub change_top : (List Item → List Item) → View → View
change_top f v = record v { stacks = on_top f v.stacks }

-- the items of the stack that came last
abbrev pub top_items : List Stack → List Item
top_items [] = []
top_items (s ∷ ss) = s.items

-- a list without its first element
abbrev pub without_first : {A : Type 0} → List A → List A
without_first [] = []
without_first (x ∷ xs) = xs

-- new items above the others
abbrev pub push : Item → View → View
push x v = change_top (λ xs. x ∷ xs) v

-- the topmost item goes
abbrev pub drop_top : View → View
drop_top v = change_top without_first v

-- another item stands in its place
abbrev pub swap_top : Item → View → View
swap_top x v = change_top (λ xs. x ∷ without_first xs) v

-- a stack that comes with a job; the number 0 stands for none
abbrev pub fresh : Job → ℕ → ℕ → Stack
fresh job.Explore k l = record { job = job.Explore; key = k; life = l; items = item.Explore k l 0 ∷ [] }
fresh job.Compute k l = record { job = job.Compute; key = k; life = l; items = item.Compute k l false 0 false ∷ [] }

-- the stacks with the one that came, if one came
abbrev pub arrived : Job → ℕ → ℕ → List Stack → List Stack
arrived i k found ss = cond (eqb found 0) ss (fresh i k found ∷ ss)

-- the view with the stack that came, if one came
abbrev pub arrive : Job → ℕ → ℕ → View → View
arrive i k found v = record v { stacks = arrived i k found v.stacks }

-- the first place below n that passes a test
abbrev pub first_of : (ℕ → Bool) → ℕ → ℕ → Option ℕ
first_of p i zero = none
first_of p i (suc n) = cond (p i) (some i) (first_of p (i + 1) n)

-- A strike of the plan is left to a view at a point of a life where the point names it, the view has not made it, and the task has its word.
abbrev pub has_word : Graph → ℕ → Target → Bool
has_word g k (target.Notify w) = nat_lt w (g.notify_words k)
has_word g k _ = true

-- the strike at this place of the plan is of this point and life, was not made by the view, and the task has its word
abbrev pub is_left : Graph → Plan → Point → ℕ → ℕ → List ℕ → ℕ → Bool
is_left g p at k l made n = let s : Strike = p.strike n in same_point at s.point && (two k l s.key.0 s.life && (has_word g k s.target && cond (is_in n made) false true))

-- the next one, in the order of the plan
abbrev pub next_strike : Graph → Plan → Point → ℕ → ℕ → List ℕ → Option ℕ
next_strike g p at k l made = first_of (is_left g p at k l made) 0 p.count

-- no strike is left at this point of the life
abbrev pub none_left : Graph → Plan → Point → ℕ → ℕ → List ℕ → Bool
none_left g p at k l made = nothing (next_strike g p at k l made)
  where
    nothing : Option ℕ → Bool
    nothing none = true
    nothing (some n) = false

-- the point that an item has come to, with its key and life
pub record Passing : Type 0 where
  pub at : Point
  pub key : ℕ
  pub life : ℕ

-- closing passes a point before its first word, and one past its last
abbrev pub close_point : Graph → ℕ → ℕ → ℕ → Option Passing
close_point g k l w = cond (nat_eq w 0) (some (record { at = point.Computed; key = k; life = l })) (cond (nat_lt w (g.notify_words k)) none (some (record { at = point.Notified; key = k; life = l })))

-- the point that an item is at, if it is at one
abbrev pub passing : Graph → Item → Option Passing
passing g (item.Explore k l j) = cond (nat_lt j (g.places k)) none (some (record { at = point.Explored; key = k; life = l }))
passing g (item.Compute k l loaded read made) = cond loaded none (some (record { at = point.Ready; key = k; life = l }))
passing g (item.Close k l w) = close_point g k l w
passing g _ = none

-- the next strike at a point, if there is a point
abbrev pub strike_at : Graph → Plan → List ℕ → Option Passing → Option ℕ
strike_at g p made none = none
strike_at g p made (some x) = next_strike g p x.at x.key x.life made

-- the next strike at the point of the topmost item
abbrev pub strike_of : Graph → Plan → List ℕ → List Item → Option ℕ
strike_of g p made [] = none
strike_of g p made (x ∷ xs) = strike_at g p made (passing g x)

-- the strike that the view makes next
abbrev pub strike_next : Graph → Plan → View → Option ℕ
strike_next g p v = strike_of g p v.strikes (top_items v.stacks)

-- the view makes it
abbrev pub strike_done : Option ℕ → View → View
strike_done none v = v
strike_done (some n) v = strike_made n v

-- Items of which nothing is left: no port to tell or to enter again, and a closing past its last word whose strikes are made.
abbrev pub is_finished : Graph → Plan → List ℕ → Item → Bool
is_finished g p made (item.Notify k l w []) = true
is_finished g p made (item.Reenter k l []) = true
is_finished g p made (item.Close k l w) = cond (nat_lt w (g.notify_words k)) false (none_left g p point.Notified k l made)
is_finished g p made _ = false

-- the items without the finished ones on top
abbrev pub unfinished : Graph → Plan → List ℕ → List Item → List Item
unfinished g p made [] = []
unfinished g p made (x ∷ xs) = cond (is_finished g p made x) (unfinished g p made xs) (x ∷ xs)

-- the jobs that end with an item that goes
abbrev pub ends_with : Item → List Ended → List Ended
ends_with (item.Explore k l j) es = record { job = job.Explore; key = k; life = l } ∷ es
ends_with (item.Compute k l loaded read made) es = record { job = job.Compute; key = k; life = l } ∷ es
ends_with (item.Close k l w) es = record { job = job.Compute; key = k; life = l } ∷ es
ends_with _ es = es

-- the jobs that end with these
abbrev pub ends_finished : Graph → Plan → List ℕ → List Item → List Ended → List Ended
ends_finished g p made [] es = es
ends_finished g p made (x ∷ xs) es = cond (is_finished g p made x) (ends_finished g p made xs (ends_with x es)) es

-- finished items leave the top of the stack that came last
abbrev pub settle : Graph → Plan → View → View
settle g p v = record v { stacks = on_top (unfinished g p v.strikes) v.stacks; ended = ends_finished g p v.strikes (top_items v.stacks) v.ended }

-- A seat at the beginning, one that is cut off, and one that has taken in another.
abbrev pub all_parts : ℕ
all_parts = 64

-- a view that only knows something
abbrev pub bare : ℕ → List Known → View
bare parts known = record { parts = parts; stacks = []; spare = 0; records = []; hands = []; strikes = []; ended = []; known = known }

-- a seat that was joined away
abbrev pub blank : View
blank = bare 0 []

-- the first seat: it is to explore the root, whose row it knows
abbrev pub opener : ℕ → ℕ → ℕ → View
opener parts root row = record {
  parts = parts;
  stacks = fresh job.Explore root 1 ∷ [];
  spare = 0;
  records = record_of.Created (key_of root) ∷ [];
  hands = [];
  strikes = [];
  ended = [];
  known = known.Row row root ∷ [];
}

-- the view that gave away one part
abbrev pub less_one : View → View
less_one v = record v { parts = v.parts - 1 }

-- the view of a seat that is cut off: it knows what the other knows, and has nothing else
abbrev pub newcomer : View → View
newcomer v = bare 1 v.known

-- what the second has comes to the first; its stacks come after the first one's
abbrev pub joined : View → View → View
joined v w = record {
  parts = v.parts + w.parts;
  stacks = w.stacks ++ v.stacks;
  spare = v.spare + w.spare;
  records = w.records ++ v.records;
  hands = w.hands ++ v.hands;
  strikes = w.strikes ++ v.strikes;
  ended = w.ended ++ v.ended;
  known = w.known ++ v.known;
}
