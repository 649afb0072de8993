use Rattle.std.proofs.Common.{ap, ◌∙◌, subst}
use Rattle.acpi_state.specs.Outcomes.{choose}
use Rattle.asl_tree.specs.View.{trees_of}
use Rattle.acpi_names.specs.Errors.{whole_of}
use Rattle.name_kinds.specs.Facts.{Knows}
use Rattle.name_kinds.proofs.Seeing.{block_seen}
use Rattle.name_entries.specs.declared.kind.ObjectType.TheVariants as N
use Rattle.type_checks.specs.Names.{kind_known}
use Rattle.type_checks.proofs.Naming.{led}
use Rattle.type_checks.proofs.names.all_named.Goals as goal

pub named_each-requires : goal.named_each-requires
named_each-requires c = subst (Knows c.args.known.now.facts) (block_seen (trees_of c.args.known.now.terms.now) c.requires.terms) c.requires.known.facts

pub returns : goal.returns
returns c node =
    let known = c.args.known.now in
    let program = trees_of known.terms.now in
    let kind = kind_known (whole_of program) in
    c.in_ok-all.ensures node ∙ ap (λ uses. led known.facts.index.paths kind uses node) c.deref.ensures.value
    ∙ ap (λ o. choose o N.Data kind) (c.in_ok-uses.ensures node)
