use Rattle.std.proofs.Common.{arith}
use Rattle.std.proofs.lemmas.Result.{IfOk-weaker}
use Rattle.asl_tree.specs.View.{trees_of}
use Rattle.term_plans.specs.Plans.{plans_of}
use Rattle.asl_numbers.specs.Numbers.{nodes}
use Rattle.asl_tables.proofs.Early.{told_early}
use Rattle.asl_tables.proofs.compile.copy_errors.Goals as goal

pub returns : goal.returns
returns c = λ block is.
    let terms = trees_of c.args.terms.now in
    let plans = plans_of c.args.terms.now in
    let weight = c.steps_weight.result in
    IfOk-weaker c.copies_told.result _ _ (λ told e. told_early c.args.fold block terms plans c.args.size weight told c.requires.formed c.requires.near is c.steps_weight.ensures e)
    (c.copies_told.ensures (nodes plans) weight is.nodes (omega (arith, c.steps_weight.type_inv)))
