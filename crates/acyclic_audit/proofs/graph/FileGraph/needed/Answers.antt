use Rattle.std.proofs.Common.{◌≡◌, ℕ, List, length, sym, subst, arith, All, ap}
use Rattle.std.specs.Prelude.{Vec, Result, Ok, Err, IfOk}
use Rattle.std.specs.declared.alloc.Global.{Global}
use Rattle.audit_checks.specs.Rows.{rows_of, IsWithin}
use Rattle.audit_cycles.specs.Ancestors.{Reaches}
use Rattle.acyclic_audit.proofs.Lookups.{all_within}
use Rattle.acyclic_audit.proofs.Reached.{flags_of}
use Rattle.acyclic_audit.proofs.graph.FileGraph.needed.Goals as goal

pub ancestors-requires-clause-inside : goal.ancestors-requires-clause-inside
ancestors-requires-clause-inside c =
    let t = c.args.self.now in
    let P : List (Vec (ℕ × ℕ) Global) → Type 0 = λ rows. All (IsWithin (length rows)) (rows_of rows) in
    let long : length t.keys.items ≡ length t.found.links.places.items = omega (arith, c.args.self.now.whole.places) in
    subst P (sym c.as_slice.ensures.value)
    (all_within t.found.links.places.items (length t.found.links.places.items) (λ i j e at. omega (arith, long, c.args.self.now.whole.places_inside i j e at)))

joined : {T E : Type 0} (A B C D : T → Type 0) (r : Result T E) → IfOk r A → IfOk r B → IfOk r C → ((x : T) → A x → B x → C x → D x) → IfOk r D
joined A B C D (Ok x) a b c all = all x a b c
joined A B C D (Err e) a b c all = a

pub returns : goal.returns
returns c =
    let t = c.args.self.now in
    let same = c.as_slice.ensures.value in
    joined _ _ _ _ c.ancestors.result c.ancestors.ensures.long c.ancestors.ensures.sound c.ancestors.ensures.complete
    (λ seen long sound complete.
    flags_of t.keys.items t.tasks.items t.found t.whole seen.items (omega (arith, long, ap length same, t.whole.places))
    (λ i. (
      (λ yes. subst (λ rows. Reaches (rows_of rows) t.found.sink i) same (sound i yes)),
      (λ reaches. complete i (subst (λ rows. Reaches (rows_of rows) t.found.sink i) (sym same) reaches)),
    )))
