-- Kernels with the first of some probes.
use Rattle.std.proofs.Common.{◌≡◌, ◌∙◌, ◌<◌, List, [], ◌∷◌, ◌++◌, length, map, get_or, Option, sym, ap, arith, append_assoc}
use Rattle.std.specs.List.{insert, remove}
use Rattle.std.proofs.lemmas.List.{map-append}
use Rattle.graph_model.specs.Notes.{Note}

-- one kernel more has the first of the probes that were left
pub one_taken : {K P : Type 0} (calls : K → Option (List Note)) (notes : P → Option (List Note)) (kernels : List K) (kernel : K) (probes : List P) (all : List (Option (List Note))) (probe : P)
    → 0 < length probes → probe ≡ get_or probes 0 probe → calls kernel ≡ notes probe → map calls kernels ++ map notes probes ≡ all
    → map calls (kernels ++ kernel ∷ []) ++ map notes (remove probes 0) ≡ all
one_taken calls notes kernels kernel [] all probe some is has front = absurd (omega arith)
one_taken calls notes kernels kernel (p ∷ probes) all probe some is has front =
    ap (λ ns. ns ++ map notes probes) (map-append calls kernels (kernel ∷ []))
    ∙ append_assoc (map calls kernels) (calls kernel ∷ []) (map notes probes)
    ∙ ap (λ n. map calls kernels ++ n ∷ map notes probes) (has ∙ ap notes is)
    ∙ front

-- the probe of the last kernel stands before the others
pub one_given : {K P : Type 0} (calls : K → Option (List Note)) (notes : P → Option (List Note)) (kernels before : List K) (kernel : K) (probes : List P) (probe : P)
    → before ≡ kernels ++ kernel ∷ [] → notes probe ≡ calls kernel → map calls kernels ++ map notes (insert probes 0 probe) ≡ map calls before ++ map notes probes
one_given calls notes kernels before kernel probes probe is has =
    ap (λ n. map calls kernels ++ n ∷ map notes probes) has
    ∙ sym (append_assoc (map calls kernels) (calls kernel ∷ []) (map notes probes))
    ∙ ap (λ ns. ns ++ map notes probes) (sym (map-append calls kernels (kernel ∷ [])) ∙ ap (map calls) (sym is))
