use Rattle.std.proofs.Common.{[], sym, ◌∙◌}
use Rattle.term_plans.specs.Plans.{plan_of, plans_of}
use Rattle.switch_checks.specs.Repeats.{first_members, case_values}
use Rattle.switch_checks.specs.Values.{values_in}
use Rattle.switch_checks.proofs.Terms.{case_members, other_members, no_members}
use Rattle.switch_checks.proofs.Notes.{none_noted, noted_as}
use Rattle.switch_checks.proofs.repeat.note_case.Goals as goal

pub returns-in_ok-note_first-in-Form : goal.returns-in_ok-note_first-in-Form
returns-in_ok-note_first-in-Form c =
    noted_as (first_members c.args.width (plans_of c.deref.result.now)) (case_values c.args.width c.args.node.now.place (plan_of c.args.node.now.term)) (values_in c.args.seen.now) (values_in c.note_first.new.seen) c.args.out.now c.note_first.new.out
    (case_members c.args.width c.args.node.now.place c.args.node.now.term c.in-Form.op c.in-Form.args c.in-Form.body c.deref.result.now c.in-Form.is c.deref.ensures.value (sym c.is_case.ensures ∙ c.if-is_case.true)) c.in_ok-note_first-in-Form.ensures

pub returns-else-is_case : goal.returns-else-is_case
returns-else-is_case c =
    noted_as [] (case_values c.args.width c.args.node.now.place (plan_of c.args.node.now.term)) (values_in c.args.seen.now) (values_in c.args.seen.now) c.args.out.now c.args.out.now
    (other_members c.args.width c.args.node.now.place c.args.node.now.term c.in-Form.op c.in-Form.args c.in-Form.body c.in-Form.is (sym c.is_case.ensures ∙ c.if-is_case.false)) (none_noted (values_in c.args.seen.now) c.args.out.now)

pub returns-in_default : goal.returns-in_default
returns-in_default c =
    noted_as [] (case_values c.args.width c.args.node.now.place (plan_of c.args.node.now.term)) (values_in c.args.seen.now) (values_in c.args.seen.now) c.args.out.now c.args.out.now
    (no_members c.args.width c.args.node.now.place c.args.node.now.term c.in_default.not-Form) (none_noted (values_in c.args.seen.now) c.args.out.now)
