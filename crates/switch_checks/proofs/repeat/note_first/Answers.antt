use Rattle.std.proofs.Common.{[], sym}
use Rattle.term_plans.specs.Plans.{plan_of, plans_of}
use Rattle.switch_checks.specs.Repeats.{members_at, first_members}
use Rattle.switch_checks.specs.Values.{values_in}
use Rattle.switch_checks.proofs.Notes.{none_noted, noted_as, first_none, first_there}
use Rattle.switch_checks.proofs.repeat.note_first.Goals as goal

pub returns-in_ok-note_members-in-Some : goal.returns-in_ok-note_members-in-Some
returns-in_ok-note_members-in-Some c =
    noted_as (members_at c.args.width c.in-Some.node.now.place (plan_of c.in-Some.node.now.term)) (first_members c.args.width (plans_of c.args.args.now)) (values_in c.args.seen.now) (values_in c.note_members.new.seen) c.args.out.now c.note_members.new.out
    (first_there c.args.width c.args.args.now c.in-Some.node.now (sym c.in-Some.ensures)) c.in_ok-note_members-in-Some.ensures

pub returns-in-None : goal.returns-in-None
returns-in-None c =
    noted_as [] (first_members c.args.width (plans_of c.args.args.now)) (values_in c.args.seen.now) (values_in c.args.seen.now) c.args.out.now c.args.out.now (first_none c.args.width c.args.args.now (sym c.in-None.ensures)) (none_noted (values_in c.args.seen.now) c.args.out.now)
