use Rattle.std.proofs.Common.{sym, ◌∙◌}
use Rattle.term_plans.specs.Plans.{plan_of, plans_of}
use Rattle.switch_checks.specs.Repeats.{found_in, value_at, members_at}
use Rattle.switch_checks.specs.Values.{values_in}
use Rattle.switch_checks.proofs.Terms.{package_members, form_alone_members, alone_members}
use Rattle.switch_checks.proofs.Notes.{noted_as}
use Rattle.switch_checks.proofs.repeat.note_members.Goals as goal

pub returns-in_ok-note_values-in-Form : goal.returns-in_ok-note_values-in-Form
returns-in_ok-note_values-in-Form c =
    noted_as (found_in (value_at c.args.width) (plans_of c.deref.result.now)) (members_at c.args.width c.args.node.now.place (plan_of c.args.node.now.term)) (values_in c.args.seen.now) (values_in c.note_values.new.seen) c.args.out.now c.note_values.new.out
    (package_members c.args.width c.args.node.now.place c.args.node.now.term c.in-Form.op c.in-Form.args c.in-Form.body c.deref.result.now c.in-Form.is c.deref.ensures.value (sym c.is_package.ensures ∙ c.if-is_package.true)) c.in_ok-note_values-in-Form.ensures

pub returns-in_ok-note_value-in-Form : goal.returns-in_ok-note_value-in-Form
returns-in_ok-note_value-in-Form c =
    noted_as (value_at c.args.width c.args.node.now.place (plan_of c.args.node.now.term)) (members_at c.args.width c.args.node.now.place (plan_of c.args.node.now.term)) (values_in c.args.seen.now) (values_in c.note_value.new.seen) c.args.out.now c.note_value.new.out
    (form_alone_members c.args.width c.args.node.now.place c.args.node.now.term c.in-Form.op c.in-Form.args c.in-Form.body c.in-Form.is (sym c.is_package.ensures ∙ c.if-is_package.false)) c.in_ok-note_value-in-Form.ensures

pub returns-in_ok-note_value-in_default : goal.returns-in_ok-note_value-in_default
returns-in_ok-note_value-in_default c =
    noted_as (value_at c.args.width c.args.node.now.place (plan_of c.args.node.now.term)) (members_at c.args.width c.args.node.now.place (plan_of c.args.node.now.term)) (values_in c.args.seen.now) (values_in c.note_value-in_default.new.seen) c.args.out.now c.note_value-in_default.new.out
    (alone_members c.args.width c.args.node.now.place c.args.node.now.term c.in_default.not-Form) c.in_ok-note_value-in_default.ensures
