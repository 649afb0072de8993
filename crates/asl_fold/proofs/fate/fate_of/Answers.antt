use Rattle.std.proofs.Common.{◌∙◌, ap, sym, true, false, ◌∷◌, []}
use Rattle.asl_tree.specs.View.{trees_of}
use Rattle.asl_fold.specs.Folds.{result_on}
use Rattle.asl_fold.specs.Nodes.{term_seen, seen_value}
use Rattle.asl_fold.proofs.Sights.{taking, nodes_none, nodes_unary, nodes_single, nodes_binary}
use Rattle.asl_fold.proofs.fate.fate_of.Goals as goal

pub returns-in_default : goal.returns-in_default
returns-in_default c = nodes_none c.args.width c.args.statement c.args.op c.args.args.now c.in_default.ensures

pub returns-then-is_unary : goal.returns-then-is_unary
returns-then-is_unary c =
    let value = c.value_of-value.ensures.value ∙ ap (seen_value c.args.width) c.seen_as.ensures in
    c.fate_by.ensures
    ∙ ap (taking c.args.width c.args.statement c.args.op (trees_of c.in-Some.rest.now)) (c.on_one.ensures ∙ ap (λ v. result_on c.args.width c.args.op true (v ∷ [])) value)
    ∙ nodes_unary c.args.width c.args.statement c.args.op c.args.args.now c.in-Some.rest.now c.in-Some.first.now c.in-Some.ensures (sym c.is_unary.ensures ∙ c.if-is_unary.true)

pub returns-in_default-parts : goal.returns-in_default-parts
returns-in_default-parts c =
    nodes_single c.args.width c.args.statement c.args.op c.args.args.now c.in-Some.rest.now c.in-Some.first.now c.in-Some.ensures c.in_default-parts.ensures (sym c.is_unary.ensures ∙ c.if-is_unary.false)

pub returns : goal.returns
returns c =
    let value = c.value_of-value.ensures.value ∙ ap (seen_value c.args.width) c.seen_as.ensures in
    let other = c.value_of-other.ensures.value ∙ ap (seen_value c.args.width) c.seen_as-2.ensures in
    c.fate_by-2.ensures
    ∙ ap (taking c.args.width c.args.statement c.args.op (trees_of c.in-Some-parts.targets.now))
    (c.on_two.ensures ∙ ap (λ v. result_on c.args.width c.args.op false (v ∷ c.value_of-other.result ∷ [])) value
    ∙ ap (λ v. result_on c.args.width c.args.op false (seen_value c.args.width (term_seen c.in-Some.first.now.term) ∷ v ∷ [])) other)
    ∙ nodes_binary c.args.width c.args.statement c.args.op c.args.args.now c.in-Some.rest.now c.in-Some-parts.targets.now c.in-Some.first.now c.in-Some-parts.second.now c.in-Some.ensures c.in-Some-parts.ensures
    (sym c.is_unary.ensures ∙ c.if-is_unary.false)
