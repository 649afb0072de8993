use Rattle.std.proofs.Common.{◌≡◌, ◌++◌, List, ap, ◌∙◌}
use Rattle.acpi_values.specs.declared.width.Width.TheVariants.{W64}
use Rattle.asl_tree.specs.declared.term.Node.{Node}
use Rattle.asl_words.specs.declared.operator.Parameter.{Parameter}
use Rattle.asl_words.specs.Operators.{block_parameters}
use Rattle.asl_shape.specs.declared.around.Around.{Around}
use Rattle.asl_shape.specs.Around.{outside}
use Rattle.asl_shape.specs.AtRaw.{arguments_in_at}
use Rattle.asl_shape.specs.Forms.{args_in, terms_in}
use Rattle.term_plans.specs.Plans.{Plans, plans_of, join}
use Rattle.asl_terms.specs.Terms.{Shaped}
use Rattle.asl_shape.proofs.Units.{inside_told}
use Rattle.asl_shape.proofs.unit.inside.Goals as goal

pub returns-clause-faults : goal.returns-clause-faults
returns-clause-faults c =
    let place = c.args.place in
    let raws = c.args.args.now in
    let old = c.args.work.now.faults.items in
    let same : arguments_in_at c.block_parameters.result.now place c.outside-around.result raws ≡ args_in place raws =
    ap (λ (ps : List Parameter). arguments_in_at ps place c.outside-around.result raws) c.block_parameters.ensures ∙ ap (λ (around : Around). arguments_in_at block_parameters place around raws) c.outside-around.ensures in
    inside_told place raws c.args.body.now c.args.nodes.now.items c.arguments.new.nodes.items old c.arguments.new.work.faults.items c.block_terms.new.work.faults.items c.requires
    (c.in_ok-arguments.ensures.made ∙ ap (λ (s : Shaped Plans). join (plans_of c.args.nodes.now.items) s.made) same)
    (c.in_ok-arguments.ensures.faults ∙ ap (λ (s : Shaped Plans). old ++ s.faults) same)
    (c.in_ok-block_terms.ensures.faults ∙ ap (λ (nodes : List Node). c.arguments.new.work.faults.items ++ (terms_in (plans_of nodes) c.args.body.now).faults) c.deref.ensures.value)
