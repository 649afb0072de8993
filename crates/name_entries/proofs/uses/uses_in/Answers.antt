use Rattle.std.proofs.Common.{[], ap, ◌∙◌}
use Rattle.asl_tree.specs.View.{trees_of}
use Rattle.asl_meaning.specs.Declarations.{declarations, is_named, nothing_declared}
use Rattle.acpi_names.specs.Shown.{all_shown}
use Rattle.acpi_names.proofs.Mentions.{after_block}
use Rattle.name_entries.specs.Uses.{denoted_at, uses_after}
use Rattle.name_entries.proofs.uses.uses_in.Goals as goal

pub returns : goal.returns
returns c node =
    let known = c.args.known.now in
    let program = trees_of known.terms.now in
    let d = declarations program in
    c.in_ok-uses.ensures d (λ path. c.requires.facts.agrees path ∙ ap (λ e. is_named e path) (after_block program [] nothing_declared)) node
    ∙ ap (λ ms. denoted_at (is_named d) (uses_after ms []) node) (ap (all_shown known.facts.index.paths) c.deref.ensures.value ∙ c.requires.mentions)
