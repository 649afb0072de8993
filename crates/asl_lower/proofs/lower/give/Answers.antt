use Rattle.std.proofs.Common.{sym, ap, ◌∙◌}
use Rattle.asl_tree.specs.View.{tree_of}
use Rattle.acpi_names.proofs.Folds.{at_of}
use Rattle.asl_lower.specs.Nodes.{given}
use Rattle.asl_lower.proofs.Lowered.{given_omitted, given_other}
use Rattle.asl_lower.proofs.lower.give.Goals as goal

pub returns-in-Omitted : goal.returns-in-Omitted
returns-in-Omitted c =
    let at = at_of c.args.node.now in c.bare.ensures at ∙ given_omitted at c.new.result c.new.ensures.items ∙ ap (λ t. given (tree_of at t)) (sym c.in-Omitted.is)

pub returns-in_default : goal.returns-in_default
returns-in_default c = given_other (at_of c.args.node.now) c.args.node.now.term c.in_default.not-Omitted
