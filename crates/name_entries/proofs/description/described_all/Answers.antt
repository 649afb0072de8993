use Rattle.acpi_names.specs.Shown.{all_shown}
use Rattle.name_entries.specs.Placed.{no_places, placed_all}
use Rattle.name_entries.proofs.description.described_all.Goals as goal

pub places_of-requires : goal.places_of-requires
places_of-requires g c = (c.requires.0.agrees, c.requires.1)

pub returns-clause-each : goal.returns-clause-each
returns-clause-each g c nodes flagged = c.in_ok-said.ensures.each (placed_all (all_shown c.args.facts.now.index.paths c.args.mentions.now) no_places) c.in_ok-places.ensures.placed nodes flagged
