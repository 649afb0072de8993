use Rattle.std.proofs.Common.{◌≡◌, ◌++◌, append-nil, ap, sym, subst, ◌∙◌, OnOk}
use Rattle.std.proofs.lemmas.Result.{on_ok_weaker}
use Rattle.asl_terms.specs.Terms.{refused}
use Rattle.term_plans.specs.Plans.{plans_of, with_last}
use Rattle.asl_terms.proofs.Last.{last_stays}
use Rattle.asl_terms.proofs.Outcomes.{come_stays, come_number, come_fault}
use Rattle.term_plans.proofs.Terms.{integer_term, omitted_term}
use Rattle.asl_terms.proofs.work.evaluate.Goals as goal

pub returns-in-Stays-clause-faults : goal.returns-in-Stays-clause-faults
returns-in-Stays-clause-faults c =
    sym (append-nil c.args.work.now.faults.items)
    ∙ ap (λ y. c.args.work.now.faults.items ++ y.faults) (sym (come_stays c.args.width c.args.slot c.args.place c.outcome_of.result _ _ c.last_term.ensures c.in-Stays.is (c.outcome_of.ensures c.args.place)))

pub returns-in-Stays-clause-made : goal.returns-in-Stays-clause-made
returns-in-Stays-clause-made c =
    sym (last_stays (plans_of c.args.nodes.now.items))
    ∙ ap (λ y. with_last y.made (plans_of c.args.nodes.now.items)) (sym (come_stays c.args.width c.args.slot c.args.place c.outcome_of.result _ _ c.last_term.ensures c.in-Stays.is (c.outcome_of.ensures c.args.place)))

pub returns-in-Number-clause-faults : goal.returns-in-Number-clause-faults
returns-in-Number-clause-faults c =
    sym (append-nil c.args.work.now.faults.items)
    ∙ ap (λ y. c.args.work.now.faults.items ++ y.faults) (sym (come_number c.args.width c.args.slot c.args.place c.outcome_of.result _ _ c.in-Number.number c.last_term.ensures c.in-Number.is (c.outcome_of.ensures c.args.place)))

pub returns-in-Number-clause-made : goal.returns-in-Number-clause-made
returns-in-Number-clause-made c =
    c.put_last.ensures ∙ ap (λ p. with_last p (plans_of c.args.nodes.now.items)) (integer_term c.in-Number.number)
    ∙ ap (λ y. with_last y.made (plans_of c.args.nodes.now.items)) (sym (come_number c.args.width c.args.slot c.args.place c.outcome_of.result _ _ c.in-Number.number c.last_term.ensures c.in-Number.is (c.outcome_of.ensures c.args.place)))

pub returns-in-Fault-clause-faults : goal.returns-in-Fault-clause-faults
returns-in-Fault-clause-faults c =
    subst (λ y. OnOk c.tell.result (c.tell.new.work.faults.items ≡ c.args.work.now.faults.items ++ y.faults)) (sym (come_fault c.args.width c.args.slot c.args.place c.outcome_of.result _ _ c.in-Fault.number c.last_term.ensures c.in-Fault.is (c.outcome_of.ensures c.args.place))) c.tell.ensures

pub returns-in-Fault-clause-made : goal.returns-in-Fault-clause-made
returns-in-Fault-clause-made c =
    on_ok_weaker c.tell.result
    (λ (e : c.tell.new.work.faults.items ≡ c.args.work.now.faults.items ++ (refused c.in-Fault.number c.args.place).faults).
    c.put_last-in-Fault.ensures ∙ ap (λ p. with_last p (plans_of c.args.nodes.now.items)) omitted_term
    ∙ ap (λ y. with_last y.made (plans_of c.args.nodes.now.items)) (sym (come_fault c.args.width c.args.slot c.args.place c.outcome_of.result _ _ c.in-Fault.number c.last_term.ensures c.in-Fault.is (c.outcome_of.ensures c.args.place))))
    c.tell.ensures
