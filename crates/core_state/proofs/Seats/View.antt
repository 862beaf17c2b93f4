-- Counts of a view that has taken in another, and of one that was cut off.
use Rattle.std.proofs.Common.{◌≡◌, ℕ, ◌+◌, ◌≤◌, Bool, cond, eqb, List, [], ◌∷◌, ◌++◌, length, ⊎_elim, refl, ap, ◌∙◌, arith}
use mathlib.Core.Logic.{dite}
use native.Mathlib.Decide.{ℕ_discrete}
use Rattle.std.proofs.lemmas.Bool.{eq-eqb}
use Rattle.std.proofs.lemmas.Bool.Decides.{eqb_tells}
use Rattle.graph_model.specs.declared.plan.Strike.{Strike}
use Rattle.core_state.specs.Counts.{count, in_stacks, items, noted, facts, ended, begun, came, stack_count, too_many, in_hand, in_wrong_hand, struck_by, struck_idly}
use Rattle.core_state.specs.Tests.{came_with, is_owe, is_made_any, job_of, is_ended, is_hand}
use Rattle.core_state.specs.Views.{joined, newcomer}
use Rattle.core_state.specs.declared.views.Item.{Item}
use Rattle.core_state.specs.declared.job.Job.{Job}
use Rattle.core_state.specs.declared.views.Known.{Known}
use Rattle.graph_model.specs.declared.record.Record.{Record}
use Rattle.core_state.specs.declared.views.Stack.{Stack}
use Rattle.core_state.specs.declared.views.View.{View}
use Rattle.core_state.proofs.Base.Counting.{bump_is}

pub count_both : {A : Type 0} (p : A → Bool) (xs ys : List A) → count p (xs ++ ys) ≡ count p xs + count p ys
count_both p [] ys = omega arith
count_both p (x ∷ xs) ys = let a = count_both p xs ys in let b = bump_is (p x) (count p (xs ++ ys)) in let c = bump_is (p x) (count p xs) in omega (arith, a, b, c)

pub stacks_both : (p : Item → Bool) (xs ys : List Stack) → in_stacks p (xs ++ ys) ≡ in_stacks p xs + in_stacks p ys
stacks_both p [] ys = omega arith
stacks_both p (x ∷ xs) ys = let a = stacks_both p xs ys in omega (arith, a)

pub length_both : (xs ys : List Stack) → length (xs ++ ys) ≡ length xs + length ys
length_both [] ys = omega arith
length_both (x ∷ xs) ys = let a = length_both xs ys in omega (arith, a)

-- the fields of which a count is the sum of both
pub joined_items : (p : Item → Bool) (v w : View) → items p (joined v w) ≡ items p v + items p w
joined_items p v w = let a = stacks_both p w.stacks v.stacks in omega (arith, a)

pub joined_records : (p : Record → Bool) (v w : View) → noted p (joined v w) ≡ noted p v + noted p w
joined_records p v w = let a = count_both p w.records v.records in omega (arith, a)

pub joined_facts : (p : Known → Bool) (v w : View) → facts p (joined v w) ≡ facts p v + facts p w
joined_facts p v w = let a = count_both p w.known v.known in omega (arith, a)

pub joined_ended : (i : Job) (k l : ℕ) (v w : View) → ended i k l (joined v w) ≡ ended i k l v + ended i k l w
joined_ended i k l v w = let a = count_both (is_ended i k l) w.ended v.ended in omega (arith, a)

pub joined_begun : (i : Job) (k l : ℕ) (v w : View) → begun i k l (joined v w) ≡ begun i k l v + begun i k l w
joined_begun i k l v w = let a = stacks_both (Rattle.core_state.specs.Tests.carries i k l) w.stacks v.stacks in let b = count_both (is_ended i k l) w.ended v.ended in omega (arith, a, b)

pub joined_came : (i : Job) (k l : ℕ) (v w : View) → came i k l (joined v w) ≡ came i k l v + came i k l w
joined_came i k l v w = let a = count_both (came_with i k l) w.stacks v.stacks in omega (arith, a)

pub joined_stacks : (v w : View) → stack_count (joined v w) ≡ stack_count v + stack_count w
joined_stacks v w = let a = length_both w.stacks v.stacks in omega (arith, a)

pub joined_hands : (b : ℕ) (v w : View) → in_hand b (joined v w) ≡ in_hand b v + in_hand b w
joined_hands b v w = let a = count_both (is_hand b) w.hands v.hands in omega (arith, a)

pub joined_strikes : (n : ℕ) (v w : View) → struck_by n (joined v w) ≡ struck_by n v + struck_by n w
joined_strikes n v w = let a = count_both (eqb n) w.strikes v.strikes in omega (arith, a)

-- those that may only fall
pub joined_too_many : (v w : View) → too_many (joined v w) ≤ too_many v + too_many w
joined_too_many v w = let a = stacks_both is_owe w.stacks v.stacks in omega (arith, a)

at_zero : (b x : ℕ) → (b ≡ 0 → ⊥) → cond (eqb b 0) x 0 ≡ 0
at_zero b x f = ⊎_elim (λ z. absurd (f z.1)) (λ z. ap (λ (u : Bool). cond u x 0) z.0) (eqb_tells b 0)

is_zero : (b x : ℕ) → b ≡ 0 → cond (eqb b 0) x 0 ≡ x
is_zero b x z = ap (λ (u : Bool). cond u x 0) (eq-eqb b 0 z)

-- what stands only where a count is 0 stands for no more, when both grow
falls : (a b x y : ℕ) → cond (eqb (a + b) 0) (x + y) 0 ≤ cond (eqb a 0) x 0 + cond (eqb b 0) y 0
falls a b x y = dite (ℕ_discrete (a + b) 0)
    (λ z. let p = is_zero (a + b) (x + y) z in let q = is_zero a x (omega (arith, z)) in let r = is_zero b y (omega (arith, z)) in omega (arith, p, q, r))
    (λ z. let p = at_zero (a + b) (x + y) z in omega (arith, p))

pub joined_idly : (s : Strike) (n : ℕ) (v w : View) → struck_idly s n (joined v w) ≤ struck_idly s n v + struck_idly s n w
joined_idly s n v w = let a = falls (begun (job_of s.point) s.key.0 s.life v) (begun (job_of s.point) s.key.0 s.life w) (struck_by n v) (struck_by n w) in
    let b : struck_idly s n (joined v w) ≡ cond (eqb (begun (job_of s.point) s.key.0 s.life v + begun (job_of s.point) s.key.0 s.life w) 0) (struck_by n v + struck_by n w) 0 =
    ap (λ x. cond (eqb x 0) (struck_by n (joined v w)) 0) (joined_begun (job_of s.point) s.key.0 s.life v w) ∙ ap (λ x. cond (eqb (begun (job_of s.point) s.key.0 s.life v + begun (job_of s.point) s.key.0 s.life w) 0) x 0) (joined_strikes n v w) in omega (arith, a, b)

pub joined_wrong : (b k : ℕ) (v w : View) → in_wrong_hand b k (joined v w) ≤ in_wrong_hand b k v + in_wrong_hand b k w
joined_wrong b k v w = let a = falls (items (is_made_any k) v) (items (is_made_any k) w) (in_hand b v) (in_hand b w) in
    let d : in_wrong_hand b k (joined v w) ≡ cond (eqb (items (is_made_any k) v + items (is_made_any k) w) 0) (in_hand b v + in_hand b w) 0 =
    ap (λ x. cond (eqb x 0) (in_hand b (joined v w)) 0) (joined_items (is_made_any k) v w) ∙ ap (λ x. cond (eqb (items (is_made_any k) v + items (is_made_any k) w) 0) x 0) (joined_hands b v w) in omega (arith, a, d)

-- a view that is cut off has the facts alone, and the old one keeps all but a part
pub newcomer_items : (p : Item → Bool) (v : View) → items p (newcomer v) ≡ 0
newcomer_items p v = refl

pub newcomer_records : (p : Record → Bool) (v : View) → noted p (newcomer v) ≡ 0
newcomer_records p v = refl

pub newcomer_facts : (p : Known → Bool) (v : View) → facts p (newcomer v) ≡ facts p v
newcomer_facts p v = refl
