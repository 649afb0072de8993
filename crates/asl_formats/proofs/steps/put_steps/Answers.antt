use Rattle.std.proofs.Common.{sym, ◌∙◌}
use Rattle.asl_tree.specs.View.{trees_of}
use Rattle.term_plans.specs.Plans.{plans_of}
use Rattle.asl_prints.specs.Forms.{followed}
use Rattle.asl_prints.specs.Numbers.{numbers_of}
use Rattle.asl_formats.proofs.Shown.{kept_shown, put_renewed}
use Rattle.asl_formats.proofs.StepNumbers.{put_kept, put_anew}
use Rattle.asl_formats.proofs.steps.put_steps.Goals as goal

pub returns-then-keeps-clause-trees : goal.returns-then-keeps-clause-trees
returns-then-keeps-clause-trees c may = kept_shown c.args.copies.now.keep _ _ c.in_ok-all.ensures.trees

pub returns-then-keeps-clause-numbers : goal.returns-then-keeps-clause-numbers
returns-then-keeps-clause-numbers c k =
    put_kept (numbers_of c.args.steps.now) c.args.copies.now (numbers_of c.args.front.items) _ k (sym c.keeps.ensures ∙ c.if-keeps.true) c.in_ok-all.ensures.numbers

pub returns-clause-trees : goal.returns-clause-trees
returns-clause-trees c may =
    put_renewed c.args.copies.now.keep c.args.copies.now.again (plans_of c.args.steps.now) _ (followed (trees_of c.args.front.items) (trees_of c.args.steps.now)) (sym c.keeps.ensures ∙ c.if-keeps.false) may c.in_ok-all-2.ensures.trees

pub returns-clause-numbers : goal.returns-clause-numbers
returns-clause-numbers c k =
    put_anew (numbers_of c.args.steps.now) c.args.copies.now (numbers_of c.args.front.items) _ c.append_renewed.new.next (sym c.keeps.ensures ∙ c.if-keeps.false) c.in_ok-all-2.ensures.numbers c.in_ok-all-2.ensures.next
