use Rattle.std.proofs.Common.{◌≡◌, ap, ◌∙◌, arith}
use Rattle.asl_tree.specs.View.{trees_of}
use Rattle.asl_prints.specs.Forms.{followed, stepped_all}
use Rattle.term_plans.specs.Plans.{join, plan_of, plans_of}
use Rattle.asl_formats.specs.Plain.{is_plain}
use Rattle.asl_prints.specs.Plans as P
use Rattle.asl_formats.specs.Bare.{shown}
use Rattle.asl_formats.specs.Steps.{for_parts}
use Rattle.asl_prints.specs.Numbers.{numbers_of}
use Rattle.asl_formats.proofs.Shown.{keeps_none, keeps_shown, may_renew, parts_shown}
use Rattle.asl_formats.proofs.Fors.{few_made, many_made}
use Rattle.asl_formats.proofs.StepNumbers.{parts_numbers}
use Rattle.asl_formats.proofs.PlanFors as L
use Rattle.asl_formats.proofs.for_loop.parts.Goals as goal

pub returns-in_ok-push-in-len3-clause-trees : goal.returns-in_ok-push-in-len3-clause-trees
returns-in_ok-push-in-len3-clause-trees c =
    let may = may_renew c.args.keep c.keeps-all.result c.step-item.result (plans_of c.as_slice.result.now) c.keeps-all.ensures (ap plans_of c.as_slice.ensures.value ∙ c.in_ok-steps-in-len3.ensures.plans) in
    keeps_shown c.args.keep c.keeps-all.result (is_plain (plan_of c.step-item.result.term)) (trees_of c.push.new.self.items) (for_parts (trees_of c.args.args.now) (trees_of c.args.body.now)) c.keeps-all.ensures
    (parts_shown c.keeps-all.result c.start-item.result c.test-item.result c.step-item.result c.in_ok-turns-in-len3.field-0 c.args.args.now c.in_ok-steps-in-len3.steps.items c.in_ok-made-in-len3.made.items c.push.new.self.items (trees_of c.args.body.now) (trees_of c.in_ok-body-in-len3.body.items)
    c.in-len3.len_at_least c.in-len3.len_below c.start-item.is c.test-item.is c.step-item.is c.in_ok-steps-in-len3.ensures.trees
    (c.in_ok-body-in-len3.ensures.trees may ∙ ap (λ ns. shown c.keeps-all.result (followed (stepped_all (trees_of ns) (trees_of c.args.body.now)) (trees_of ns))) c.as_slice.ensures.value) c.in_ok-turns-in-len3.ensures.tree c.in_ok-made-in-len3.ensures.trees c.in_ok-push-in-len3.ensures.items)

pub returns-in_ok-push-in-len3-clause-plans : goal.returns-in_ok-push-in-len3-clause-plans
returns-in_ok-push-in-len3-clause-plans c =
    L.parts_of_three c.args.place c.start-item.result c.test-item.result c.step-item.result c.in_ok-turns-in-len3.field-0 c.args.args.now c.in_ok-steps-in-len3.steps.items c.in_ok-made-in-len3.made.items c.push.new.self.items (plans_of c.args.body.now) (plans_of c.in_ok-body-in-len3.body.items)
    c.in-len3.len_at_least c.in-len3.len_below c.start-item.is c.test-item.is c.step-item.is c.in_ok-steps-in-len3.ensures.plans
    (c.in_ok-body-in-len3.ensures.plans ∙ ap (λ ns. join (P.stepped_all (plans_of ns) (plans_of c.args.body.now)) (plans_of ns)) c.as_slice.ensures.value) c.in_ok-turns-in-len3.ensures.plan c.in_ok-made-in-len3.ensures.plans c.in_ok-push-in-len3.ensures.items

pub returns-in_ok-push-in-len3-clause-numbers : goal.returns-in_ok-push-in-len3-clause-numbers
returns-in_ok-push-in-len3-clause-numbers c keep plain =
    let none = keeps_none c.args.keep c.keeps-all.result c.start-item.result c.test-item.result c.step-item.result c.args.args.now c.in-len3.len_at_least c.in-len3.len_below c.start-item.is c.test-item.is c.step-item.is c.keeps-all.ensures keep plain in
    parts_numbers c.args.id c.turn.new.copies c.start-item.result c.test-item.result c.step-item.result c.in_ok-turns-in-len3.field-0 c.args.args.now c.as_slice.result.now c.in_ok-made-in-len3.made.items c.push.new.self.items c.args.body.now c.in_ok-body-in-len3.body.items
    c.in-len3.len_at_least c.in-len3.len_below c.start-item.is c.test-item.is c.step-item.is (ap numbers_of c.as_slice.ensures.value ∙ c.in_ok-steps-in-len3.ensures.numbers) (c.in_ok-body-in-len3.ensures.numbers none) c.in_ok-turns-in-len3.ensures.numbers c.in_ok-made-in-len3.ensures.numbers
    c.in_ok-push-in-len3.ensures.items

pub returns-in_default-clause-trees : goal.returns-in_default-clause-trees
returns-in_default-clause-trees c =
    let none : trees_of c.new.result.items ≡ for_parts (trees_of c.args.args.now) (trees_of c.args.body.now) = grind (arith, few_made, many_made) in ap (shown c.args.keep) none
