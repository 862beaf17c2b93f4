use Rattle.std.proofs.Common.{◌+◌, ◌==◌, ◌∙◌, option_map, slice_get, refl}
use Rattle.graph_model.specs.Plans.{code_in}
use Rattle.graph_model.proofs.Index.{target_found, none_past, some_read, chosen}
use Rattle.graph_model.proofs.plan.target_at.Goals as goal

pub returns-in-None : goal.returns-in-None
returns-in-None c =
    let first = c.places_before-first.result in
    let found = target_found c.args.strikes.now c.args.places.now c.args.code first c.args.i c.requires.index c.places_before-first.ensures.point c.places_before-first.ensures.inside in
    rw (found, none_past c.args.places.now (first + c.args.i) c.in-None.ensures.lookup.3) refl

pub returns-in-Some : goal.returns-in-Some
returns-in-Some c =
    let strikes = c.args.strikes.now in
    let first = c.places_before-first.result in
    let place = c.in-Some.place.now in
    let found = target_found strikes c.args.places.now c.args.code first c.args.i c.requires.index c.places_before-first.ensures.point c.places_before-first.ensures.inside in
    let h = c.in-Some.ensures.lookup in
    rw (found, some_read c.args.places.now (first + c.args.i) place h.3.0 h.1)
    (c.target_of.ensures ∙ chosen (λ p. option_map (λ strike. strike.target) (slice_get strikes p)) place (code_in strikes place == c.args.code))
