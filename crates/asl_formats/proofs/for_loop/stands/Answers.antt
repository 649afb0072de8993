use Rattle.asl_tree.specs.View.{trees_of}
use Rattle.term_plans.specs.Plans.{plans_of}
use Rattle.asl_prints.specs.Numbers.{numbers_of}
use Rattle.asl_formats.proofs.Shown.{loop_shown, loop_third}
use Rattle.asl_formats.proofs.StepNumbers.{loop_numbers}
use Rattle.asl_formats.proofs.PlanFors as L
use Rattle.asl_formats.proofs.for_loop.stands.Goals as goal

pub returns-in_ok-made-in-Form-clause-trees : goal.returns-in_ok-made-in-Form-clause-trees
returns-in_ok-made-in-Form-clause-trees c =
    loop_shown c.args.keep c.args.node.now c.in-Form.op c.in-Form.args c.in-Form.body c.deref.result.now c.deref-in-Form.result.now (trees_of c.in_ok-made-in-Form.made.items) c.in-Form.is c.deref.ensures.value c.deref-in-Form.ensures.value c.requires c.in_ok-made-in-Form.ensures.trees

pub returns-in_ok-made-in-Form-clause-plans : goal.returns-in_ok-made-in-Form-clause-plans
returns-in_ok-made-in-Form-clause-plans c =
    L.loop_made c.args.node.now c.in-Form.op c.in-Form.args c.in-Form.body c.deref.result.now c.deref-in-Form.result.now (plans_of c.in_ok-made-in-Form.made.items) c.in-Form.is c.deref.ensures.value c.deref-in-Form.ensures.value c.requires
    c.in_ok-made-in-Form.ensures.plans

pub returns-in_ok-made-in-Form-clause-numbers : goal.returns-in_ok-made-in-Form-clause-numbers
returns-in_ok-made-in-Form-clause-numbers c keep plain =
    let third = loop_third c.args.node.now.term c.in-Form.op c.in-Form.args c.in-Form.body c.deref.result.now c.in-Form.is c.deref.ensures.value plain in
    loop_numbers c.args.id c.args.node.now c.in-Form.op c.in-Form.args c.in-Form.body c.deref.result.now c.deref-in-Form.result.now (numbers_of c.in_ok-made-in-Form.made.items) c.in-Form.is c.deref.ensures.value c.deref-in-Form.ensures.value c.requires (c.in_ok-made-in-Form.ensures.numbers keep third)
