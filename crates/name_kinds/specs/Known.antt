-- What is known of the names of a block, with its terms.
use Rattle.std.specs.Prelude.{◌≡◌, []}
use Rattle.asl_tree.specs.View.{trees_of}
use Rattle.asl_meaning.specs.Declarations.{nothing_declared}
use Rattle.acpi_names.specs.Mentions.{block_mentions}
use Rattle.acpi_names.specs.Shown.{all_shown}
use Rattle.name_kinds.specs.Facts.{Knows}
use Rattle.name_kinds.specs.Seen.{seen}
use Rattle.name_kinds.specs.declared.known.Known.{Known}

-- the mentions are those of the terms, and the facts are what these say
pub record KnowsItsTerms (known : Known) : Type 0 where
  pub mentions : all_shown known.facts.index.paths known.mentions.items ≡ block_mentions (trees_of known.terms.now) [] nothing_declared
  pub facts : Knows known.facts (seen (block_mentions (trees_of known.terms.now) [] nothing_declared))
