use Rattle.audit_checks.specs.Links.{places_in, succs_in}
use Rattle.audit_blocks.specs.Edges.{TellsPlaces}
use Rattle.audit_blocks.proofs.PlaceLaws.{has_laws, tells_places}
use Rattle.audit_blocks.proofs.blocks.blocks_of.Goals as goal

pub returns-clause-laws : goal.returns-clause-laws
returns-clause-laws c =
    let tells : TellsPlaces c.args.tasks.now c.args.keys.now (places_in c.args.links.now)
    = tells_places c.args.tasks.now c.args.keys.now c.args.links.now c.requires.keys c.requires.ascending c.requires.places_len c.requires.named in
    has_laws c.args.keys.now c.args.tasks.now c.in-Ok-numbered_blocks.blocks.places.items c.in-Ok-numbered_blocks.blocks.count (places_in c.args.links.now) (succs_in c.args.links.now)
    tells c.requires.reverse c.in-Ok-numbered_blocks.ensures
    (record {
      given = c.requires.versions;
      once = c.in_ok-check_versions.ensures.once;
      whole = c.in_ok-check_versions.ensures.whole;
      ordered = c.in_ok-check_versions.ensures.ordered;
      read = c.in_ok-check_versions.ensures.read;
    })
    c.requires.tasks
