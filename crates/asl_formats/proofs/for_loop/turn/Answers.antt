use Rattle.std.proofs.Common.{[], ◌∷◌, ◌∙◌}
use Rattle.asl_tree.specs.View.{trees_of}
use Rattle.term_plans.specs.Plans.{plans_of}
use Rattle.asl_prints.specs.Forms.{followed, stepped_all}
use Rattle.asl_prints.specs.Numbers.{Step, numbers_of, stepped_nodes}
use Rattle.asl_formats.proofs.Shown.{same_shown, turn_shown}
use Rattle.asl_formats.proofs.StepNumbers.{advance}
use Rattle.asl_formats.proofs.for_loop.turn.Goals as goal

pub returns-clause-trees : goal.returns-clause-trees
returns-clause-trees c may =
    let steps = trees_of c.args.steps.now in
    let front = trees_of c.in_ok-front.front.items in
    let made = trees_of c.in_ok-made.made.items in
    turn_shown c.args.copies.now.keep steps front (stepped_all steps (trees_of c.args.body.now)) made (c.in_ok-front.ensures.trees may)
    (same_shown c.with_steps.new.copies.keep c.args.copies.now.keep (plans_of c.args.steps.now) made (followed front steps) c.in_ok-front.ensures.keep may c.in_ok-made.ensures.trees)

pub returns-clause-numbers : goal.returns-clause-numbers
returns-clause-numbers c k =
    advance (numbers_of c.args.steps.now) c.args.copies.now c.with_steps.new.copies c.put_steps.new.copies (stepped_nodes c.args.body.now) (Step ∷ []) [] (numbers_of c.in_ok-front.front.items) (numbers_of c.in_ok-made.made.items) (c.in_ok-front.ensures.numbers k)
    (c.in_ok-made.ensures.numbers (c.in_ok-front.ensures.keep ∙ k))
