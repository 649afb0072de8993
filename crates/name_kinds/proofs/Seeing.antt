-- A block, and its mentions.
use Rattle.std.proofs.Common.{◌≡◌, true, [], sym, ap, ◌∙◌}
use Rattle.asl_tree.specs.Tree.{Trees}
use Rattle.asl_meaning.specs.Declarations.{declarations, is_named, called, nothing_declared}
use Rattle.acpi_names.specs.Errors.{whole_of}
use Rattle.acpi_names.specs.Mentions.{block_mentions, calls_in}
use Rattle.acpi_names.specs.Terms.{are_terms}
use Rattle.acpi_names.proofs.Mentions.{after_block}
use Rattle.acpi_names.proofs.MentionErrors.{block_calls}
use Rattle.name_kinds.specs.Seen.{known_with, seen}

-- the mentions of a block say what is known of it
pub block_seen : (terms : Trees) → are_terms terms ≡ true → seen (block_mentions terms [] nothing_declared) ≡ whole_of terms
block_seen terms are =
    ap (λ all. known_with all (called (calls_in (is_named all) (block_mentions terms [] nothing_declared)))) (after_block terms [] nothing_declared)
    ∙ ap (λ calls. known_with (declarations terms) (called calls)) (sym (block_calls (is_named (declarations terms)) terms are [] nothing_declared))
