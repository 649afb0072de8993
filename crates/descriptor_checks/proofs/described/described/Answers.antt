use Rattle.std.proofs.Common.{refl, sym, subst}
use Rattle.acpi_names.specs.Shown.{all_shown}
use Rattle.asl_tree.specs.View.{trees_of}
use Rattle.term_plans.specs.Plans.{plans_of}
use Rattle.descriptor_fields.specs.Nodes.{SaysAt, named_from}
use Rattle.descriptor_checks.proofs.Naming.{declared_seen, mentions_are, table_is}
use Rattle.descriptor_checks.proofs.described.described.Goals as goal

pub descriptors-requires : goal.descriptors-requires
descriptors-requires c =
    (declared_seen c.args.index.now.paths c.args.index.now.named.items (trees_of c.args.terms.now) (all_shown c.args.index.now.paths c.args.mentions.now) c.requires.names c.requires.told, refl)

pub returns : goal.returns
returns c =
    let ps = plans_of c.args.terms.now in
    table_is c.args.index.now.paths _ ps (all_shown c.args.index.now.paths c.args.mentions.now) (mentions_are (trees_of c.args.terms.now) ps _ c.requires.numbers c.requires.told)
    (c.in_ok-descriptors.ensures (named_from 0 ps) (subst (λ t. SaysAt t (named_from 0 ps)) (sym c.deref.ensures.value) c.in_ok-named.ensures))
