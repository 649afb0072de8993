use Rattle.std.proofs.Common.{Vec, Global, refl, ap, ◌∙◌}
use Rattle.acpi_values.specs.declared.width.Width.{Width}
use Rattle.acpi_values.specs.Revisions.{width_of}
use Rattle.asl_tree.specs.Tree.{Trees}
use Rattle.asl_tree.specs.View.{trees_of}
use Rattle.asl_tree.specs.declared.term.Node.{Node}
use Rattle.asl_fold.specs.Folds.{folded_where}
use Rattle.asl_lower.specs.Nodes.{named_all}
use Rattle.asl_prints.specs.Forms.{formed_all}
use Rattle.hidden_locals.specs.Switches.{without_switches}
use Rattle.term_plans.specs.Plans.{plans_of}
use Rattle.source_pieces.specs.Places.{core_places}
use Rattle.asl_tables.proofs.compile.lowered.Goals as goal

pub returns-clause-terms : goal.returns-clause-terms
returns-clause-terms c =
    let lowered : Width → Vec Node Global → Trees = λ width terms. folded_where c.args.style.fold width (named_all (without_switches (formed_all (trees_of terms.items)))) in
    c.in_ok-core.ensures.terms
    ∙ ap (λ w. lowered w c.replace-terms.result) c.of_revision.ensures
    ∙ ap (lowered (width_of c.args.block.revision)) c.replace-terms.ensures.value

pub returns-clause-places : goal.returns-clause-places
returns-clause-places c = c.in_ok-core.ensures.places ∙ ap (λ (ts : Vec Node Global). core_places (plans_of ts.items)) c.replace-terms.ensures.value

pub returns-clause-fields : goal.returns-clause-fields
returns-clause-fields c = refl
