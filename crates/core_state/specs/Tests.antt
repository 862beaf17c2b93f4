-- Tests of a record, of an item and of a fact.
use Rattle.std.specs.Prelude.{ℕ, Bool, true, false, cond, ◌&&◌, nat_le, nat_lt, eqb, List, [], ◌∷◌}
use Rattle.core_state.specs.Graph.{Graph, Plan}
use Rattle.graph_model.specs.declared.plan.Strike.{Strike}
use Rattle.core_state.specs.declared.job.Job.{Job}
use Rattle.core_state.specs.declared.job.Job.TheVariants as job
use Rattle.graph_model.specs.declared.record.Hit.{Hit}
use Rattle.graph_model.specs.declared.record.Hit.TheVariants as hit_of
use Rattle.graph_model.specs.declared.record.Found.{Found}
use Rattle.graph_model.specs.declared.record.Found.TheVariants as found
use Rattle.graph_model.specs.declared.record.Cause.{Cause}
use Rattle.graph_model.specs.declared.record.Cause.TheVariants as cause
use Rattle.graph_model.specs.declared.record.Record.{Record}
use Rattle.graph_model.specs.declared.record.Record.TheVariants as record_of
use Rattle.graph_model.specs.declared.plan.Point.{Point}
use Rattle.graph_model.specs.declared.plan.Point.TheVariants as point
use Rattle.graph_model.specs.declared.plan.Target.{Target}
use Rattle.graph_model.specs.declared.plan.Target.TheVariants as target
use Rattle.core_state.specs.declared.views.Word.{Word}
use Rattle.core_state.specs.declared.views.Word.TheVariants as word
use Rattle.core_state.specs.declared.views.Item.{Item}
use Rattle.core_state.specs.declared.views.Item.TheVariants as item
use Rattle.core_state.specs.declared.views.Stack.{Stack}
use Rattle.core_state.specs.declared.views.Hand.{Hand}
use Rattle.core_state.specs.declared.views.Ended.{Ended}
use Rattle.core_state.specs.declared.views.Known.{Known}
use Rattle.core_state.specs.declared.views.Known.TheVariants as known

-- two numbers are the same, pair by pair
abbrev pub two : ℕ → ℕ → ℕ → ℕ → Bool
two a b x y = eqb a x && eqb b y

-- three numbers are the same, pair by pair
abbrev pub three : ℕ → ℕ → ℕ → ℕ → ℕ → ℕ → Bool
three a b c x y z = eqb a x && (eqb b y && eqb c z)

-- two jobs are the same
abbrev pub same_job : Job → Job → Bool
same_job job.Explore job.Explore = true
same_job job.Compute job.Compute = true
same_job _ _ = false

-- two hits are the same
abbrev pub same_hit : Hit → Hit → Bool
same_hit hit_of.Descriptor hit_of.Descriptor = true
same_hit (hit_of.Notify w) (hit_of.Notify w') = eqb w w'
same_hit (hit_of.Block b v) (hit_of.Block b' v') = two b v b' v'
same_hit _ _ = false

-- two findings are the same
abbrev pub same_found : Found → Found → Bool
same_found (found.Struck v) (found.Struck v') = eqb v v'
same_found (found.Other v) (found.Other v') = eqb v v'
same_found _ _ = false

-- two causes are the same
abbrev pub same_cause : Cause → Cause → Bool
same_cause cause.Descriptor cause.Descriptor = true
same_cause cause.Notify cause.Notify = true
same_cause (cause.Block b v f) (cause.Block b' v' f') = two b v b' v' && same_found f f'
same_cause _ _ = false

-- two words of a row are the same
abbrev pub same_word : Word → Word → Bool
same_word word.Descriptor word.Descriptor = true
same_word (word.Notify w) (word.Notify w') = eqb w w'
same_word word.Recovery word.Recovery = true
same_word _ _ = false

-- two points are the same
abbrev pub same_point : Point → Point → Bool
same_point point.Explored point.Explored = true
same_point point.Ready point.Ready = true
same_point point.Computed point.Computed = true
same_point point.Notified point.Notified = true
same_point _ _ = false

-- the number is in the list
abbrev pub is_in : ℕ → List ℕ → Bool
is_in x [] = false
is_in x (y ∷ ys) = cond (eqb x y) true (is_in x ys)

-- Tests of a record.

-- a row was made for the key
abbrev pub is_created : ℕ → Record → Bool
is_created k (record_of.Created key) = eqb k key.0
is_created k _ = false

-- the place was spent in the life
abbrev pub is_spent : ℕ → ℕ → ℕ → Record → Bool
is_spent k l j (record_of.Spent key life place) = three k l j key.0 life place
is_spent k l j _ = false

-- the result was made in the life
abbrev pub is_computed : ℕ → ℕ → Record → Bool
is_computed k l (record_of.Computed key life) = two k l key.0 life
is_computed k l _ = false

-- the result of some task was made
abbrev pub is_any_computed : Record → Bool
is_any_computed (record_of.Computed key life) = true
is_any_computed _ = false

-- the result was written in the life
abbrev pub is_written : ℕ → ℕ → Record → Bool
is_written k l (record_of.Written key life block version) = two k l key.0 life
is_written k l _ = false

-- a version of a block was written
abbrev pub is_version : ℕ → ℕ → Record → Bool
is_version b v (record_of.Written key life block version) = two b v block version
is_version b v _ = false

-- a version above v of the block was written
abbrev pub is_later_version : ℕ → ℕ → Record → Bool
is_later_version b v (record_of.Written key life block version) = eqb b block && nat_lt v version
is_later_version b v _ = false

-- the key wrote in some life
abbrev pub is_writing : ℕ → Record → Bool
is_writing k (record_of.Written key life block version) = eqb k key.0
is_writing k _ = false

-- a Written that names another place than that of its key
abbrev pub is_miswritten : Graph → Record → Bool
is_miswritten g (record_of.Written key life block version) = cond (two (g.block key.0) (g.version key.0) block version) false true
is_miswritten g _ = false

-- the word was closed in the life
abbrev pub is_closed : ℕ → ℕ → ℕ → Record → Bool
is_closed k l w (record_of.Closed key life word) = three k l w key.0 life word
is_closed k l w _ = false

-- the word was closed in some life
abbrev pub is_closing : ℕ → ℕ → Record → Bool
is_closing k w (record_of.Closed key life word) = two k w key.0 word
is_closing k w _ = false

-- some strike landed
abbrev pub is_any_struck : Record → Bool
is_any_struck (record_of.Struck key life hit) = true
is_any_struck _ = false

-- a strike on this hit of the key landed at this life
abbrev pub is_struck : ℕ → ℕ → Hit → Record → Bool
is_struck k l h (record_of.Struck key life hit) = two k l key.0 life && same_hit h hit
is_struck k l h _ = false

-- a strike on this hit of the key landed at this life or a later one
abbrev pub is_struck_from : ℕ → ℕ → Hit → Record → Bool
is_struck_from k l h (record_of.Struck key life hit) = eqb k key.0 && (nat_le l life && same_hit h hit)
is_struck_from k l h _ = false

-- a strike on this hit of the key landed at this life or an earlier one
abbrev pub is_struck_upto : ℕ → ℕ → Hit → Record → Bool
is_struck_upto k l h (record_of.Struck key life hit) = eqb k key.0 && (nat_le life l && same_hit h hit)
is_struck_upto k l h _ = false

-- a version of a block was struck
abbrev pub is_struck_version : ℕ → ℕ → Record → Bool
is_struck_version b v (record_of.Struck key life hit) = same_hit (hit_of.Block b v) hit
is_struck_version b v _ = false

-- a Struck of a block that names another place than that of its key
abbrev pub is_misstruck : Graph → Record → Bool
is_misstruck g (record_of.Struck key life (hit_of.Block b v)) = cond (two (g.block key.0) (g.version key.0) b v) false true
is_misstruck g _ = false

-- the life was replaced
abbrev pub is_replaced : ℕ → ℕ → Record → Bool
is_replaced k l (record_of.Replaced key life cause) = two k l key.0 life
is_replaced k l _ = false

-- the life was replaced for this cause
abbrev pub is_replaced_for : ℕ → ℕ → Cause → Record → Bool
is_replaced_for k l c (record_of.Replaced key life cause) = two k l key.0 life && same_cause c cause
is_replaced_for k l c _ = false

-- some life was replaced
abbrev pub is_any_replaced : Record → Bool
is_any_replaced (record_of.Replaced key life cause) = true
is_any_replaced _ = false

-- some life was replaced, or the place of a predecessor was spent
abbrev pub is_replaced_or_told : Record → Bool
is_replaced_or_told (record_of.Replaced key life cause) = true
is_replaced_or_told (record_of.Spent key life place) = nat_lt place 40
is_replaced_or_told _ = false

-- the writer of a lower version of a block was replaced
abbrev pub is_replaced_below : Graph → ℕ → ℕ → Record → Bool
is_replaced_below g b v (record_of.Replaced key life cause) = eqb b (g.block key.0) && nat_lt (g.version key.0) v
is_replaced_below g b v _ = false

-- the key of a record
abbrev pub key_named : Record → ℕ
key_named (record_of.Created key) = key.0
key_named (record_of.Spent key life place) = key.0
key_named (record_of.Computed key life) = key.0
key_named (record_of.Written key life block version) = key.0
key_named (record_of.Closed key life word) = key.0
key_named (record_of.Struck key life hit) = key.0
key_named (record_of.Replaced key life cause) = key.0

-- the life of a record, which is 1 for Created
abbrev pub life_named : Record → ℕ
life_named (record_of.Created key) = 1
life_named (record_of.Spent key life place) = life
life_named (record_of.Computed key life) = life
life_named (record_of.Written key life block version) = life
life_named (record_of.Closed key life word) = life
life_named (record_of.Struck key life hit) = life
life_named (record_of.Replaced key life cause) = life

-- the record is of this key and life
abbrev pub is_of : ℕ → ℕ → Record → Bool
is_of k l x = two k l (key_named x) (life_named x)

-- Tests of an item.

-- the key of an item
abbrev pub key_at : Item → ℕ
key_at (item.Explore key life place) = key
key_at (item.Compute key life loaded read made) = key
key_at (item.Close key life word) = key
key_at (item.Notify key life word ports) = key
key_at (item.Suspect key life cause waits) = key
key_at (item.Renew key life done) = key
key_at (item.Reenter key life ports) = key
key_at (item.Owe key job life) = key

-- the item is of this key
abbrev pub is_at : ℕ → Item → Bool
is_at k x = eqb k (key_at x)

-- the job of this life is to be posted
abbrev pub is_owed : Job → ℕ → ℕ → Item → Bool
is_owed j k l (item.Owe key j' life) = same_job j j' && two k l key life
is_owed j k l _ = false

-- some job is to be posted
abbrev pub is_owe : Item → Bool
is_owe (item.Owe key j life) = true
is_owe _ = false

-- the item that carries a job of a life: Explore, or else Compute or Close
abbrev pub carries : Job → ℕ → ℕ → Item → Bool
carries job.Explore k l (item.Explore key life place) = two k l key life
carries job.Compute k l (item.Compute key life loaded read made) = two k l key life
carries job.Compute k l (item.Close key life word) = two k l key life
carries j k l _ = false

-- the life is being computed, its result not yet written
abbrev pub is_compute : ℕ → ℕ → Item → Bool
is_compute k l (item.Compute key life loaded read made) = two k l key life
is_compute k l _ = false

-- the life is being computed, and its result was made
abbrev pub is_made : ℕ → ℕ → Item → Bool
is_made k l (item.Compute key life loaded read made) = two k l key life && made
is_made k l _ = false

-- the life is being computed, and its result was not made yet
abbrev pub is_unmade : ℕ → ℕ → Item → Bool
is_unmade k l (item.Compute key life loaded read made) = two k l key life && cond made false true
is_unmade k l _ = false

-- the life is being computed, and its descriptor was loaded
abbrev pub is_loaded : ℕ → ℕ → Item → Bool
is_loaded k l (item.Compute key life loaded read made) = two k l key life && loaded
is_loaded k l _ = false

-- the words of the life are being closed
abbrev pub is_close : ℕ → ℕ → Item → Bool
is_close k l (item.Close key life word) = two k l key life
is_close k l _ = false

-- the words of the life are being closed, and w comes next
abbrev pub is_close_from : ℕ → ℕ → ℕ → Item → Bool
is_close_from k l w (item.Close key life word) = three k l w key life word
is_close_from k l w _ = false

-- the ports of this closed word of the life are being told
abbrev pub is_notify : ℕ → ℕ → ℕ → Item → Bool
is_notify k l w (item.Notify key life word ports) = three k l w key life word
is_notify k l w _ = false

-- it has a port to tell
abbrev pub notifies : ℕ → ℕ → Item → Bool
notifies k q (item.Notify key life word ports) = eqb k key && is_in q ports
notifies k q _ = false

-- the life is to be replaced
abbrev pub is_suspect : ℕ → ℕ → Item → Bool
is_suspect k l (item.Suspect key life cause waits) = two k l key life
is_suspect k l _ = false

-- the life is to be replaced for this cause
abbrev pub is_suspect_for : ℕ → ℕ → Cause → Item → Bool
is_suspect_for k l c (item.Suspect key life cause waits) = two k l key life && same_cause c cause
is_suspect_for k l c _ = false

-- some life is to be replaced
abbrev pub is_any_suspect : Item → Bool
is_any_suspect (item.Suspect key life cause waits) = true
is_any_suspect _ = false

-- its cause names the version of a block
abbrev pub suspects_block : ℕ → ℕ → Item → Bool
suspects_block b v (item.Suspect key life (cause.Block block version found) waits) = two b v block version
suspects_block b v _ = false

-- some life of the key is being renewed
abbrev pub is_renew : ℕ → Item → Bool
is_renew k (item.Renew key life done) = eqb k key
is_renew k _ = false

-- this life of the key is being renewed
abbrev pub is_renew_of : ℕ → ℕ → Item → Bool
is_renew_of k l (item.Renew key life done) = two k l key life
is_renew_of k l _ = false

-- this life of the key is being renewed, and n words are done
abbrev pub is_renew_at : ℕ → ℕ → ℕ → Item → Bool
is_renew_at k l n (item.Renew key life done) = three k l n key life done
is_renew_at k l n _ = false

-- the successor at the port is to be entered again
abbrev pub reenters : ℕ → ℕ → Item → Bool
reenters k q (item.Reenter key life ports) = eqb k key && is_in q ports
reenters k q _ = false

-- exploring that has still to come to place j
abbrev pub explores : ℕ → ℕ → ℕ → Item → Bool
explores k l j (item.Explore key life place) = two k l key life && nat_le place j
explores k l j _ = false

-- exploring that has come to this very place
abbrev pub is_exploring : ℕ → ℕ → ℕ → Item → Bool
is_exploring k l j (item.Explore key life place) = three k l j key life place
is_exploring k l j _ = false

-- Jobs: still owed, held as an item, or ended. A stack came with one.

-- the job of this life ended
abbrev pub is_ended : Job → ℕ → ℕ → Ended → Bool
is_ended j k l e = same_job j e.job && two k l e.key e.life

-- the stack came with this job of the life
abbrev pub came_with : Job → ℕ → ℕ → Stack → Bool
came_with j k l s = same_job j s.job && two k l s.key s.life

-- Blocks in hand.

-- the block is the one in hand
abbrev pub is_hand : ℕ → Hand → Bool
is_hand b x = eqb b x.block

-- some life of the key is being computed, and its result was made
abbrev pub is_made_any : ℕ → Item → Bool
is_made_any k (item.Compute key life loaded read made) = eqb k key && made
is_made_any k _ = false

-- Strikes of the plan that were made.

-- the job to which a point belongs
abbrev pub job_of : Point → Job
job_of point.Explored = job.Explore
job_of point.Ready = job.Compute
job_of point.Computed = job.Compute
job_of point.Notified = job.Compute

-- a strike's target names what a hit names
abbrev pub names_hit : Target → Hit → Bool
names_hit target.Descriptor hit_of.Descriptor = true
names_hit (target.Notify w) (hit_of.Notify w') = eqb w w'
names_hit target.Block (hit_of.Block b v) = true
names_hit _ _ = false

-- the strike at this place of the plan is on that hit of the key and names a life of at most l
abbrev pub strikes_upto : Plan → ℕ → ℕ → Hit → ℕ → Bool
strikes_upto p k l h n = let s : Strike = p.strike n in nat_lt n p.count && (eqb k s.key.0 && (nat_le s.life l && names_hit s.target h))

-- Facts.

-- pending was seen at 0
abbrev pub is_idle : Known → Bool
is_idle known.Idle = true
is_idle _ = false

-- stop was seen at 1
abbrev pub is_stopped : Known → Bool
is_stopped known.Stopped = true
is_stopped _ = false

-- this view set stop
abbrev pub is_stops : Known → Bool
is_stops known.Stops = true
is_stops _ = false

-- the row is that of the key
abbrev pub is_row : ℕ → ℕ → Known → Bool
is_row r k (known.Row row key) = two r k row key
is_row r k _ = false

-- the word of the key showed this life
abbrev pub is_seen_life : ℕ → Word → ℕ → Known → Bool
is_seen_life k w l (known.Life key word life) = two k l key life && same_word w word
is_seen_life k w l _ = false

-- the word of the key showed this life and the mark
abbrev pub is_seen_mark : ℕ → Word → ℕ → Known → Bool
is_seen_mark k w l (known.Mark key word life) = two k l key life && same_word w word
is_seen_mark k w l _ = false

-- the word of the key was seen closed in this life
abbrev pub is_seen_closed : ℕ → ℕ → ℕ → Known → Bool
is_seen_closed k l w (known.Closed key life word) = three k l w key life word
is_seen_closed k l w _ = false

-- the port was registered in this life
abbrev pub waits_at : ℕ → ℕ → ℕ → Known → Bool
waits_at k l q (known.Waits key life port) = three k l q key life port
waits_at k l q _ = false
