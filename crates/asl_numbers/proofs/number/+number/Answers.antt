use Rattle.std.proofs.Common.{◌≡◌, ◌+◌, ◌^◌, ◌<◌, ◌≤◌, length, suc, get_or, Vec, Global, refl, sym, ap, ◌∙◌, arith}
use Rattle.asl_tree.specs.declared.term.Node.{Node}
use Rattle.asl_tree.specs.declared.term.Term as D
use Rattle.asl_tree.specs.declared.term.Term.TheVariants as V
use Rattle.asl_tree.specs.View.{trees_of}
use Rattle.term_plans.specs.Plans.{plan_of, plans_of}
use Rattle.asl_numbers.specs.Numbers.{inside, nodes, numbered_all}
use Rattle.asl_numbers.proofs.Loops.{none_numbered, inside_smaller, none_counted, none_trees, all_numbered, all_counted, node_numbered, front_only, needed, where_none}
use Rattle.asl_numbers.proofs.Trees.{none_inside, alone_numbered, call_inside, call_numbered, call_plan, form_inside, form_numbered, form_plan}
use Rattle.asl_numbers.proofs.number.+number.Goals as goal

-- ---- nodes one after another

pub number_nodes-loop-node-init : goal.number_nodes-loop-node-init
number_nodes-loop-node-init t c = none_numbered c.args.first c.deref_mut-node-items.result.now

pub number_nodes-number_node-requires : goal.number_nodes-number_node-requires
number_nodes-number_node-requires t c =
    let less : inside (plan_of (get_or c.loop-node.node-items c.loop-node.node-index c.node-item.result).term) < nodes (plans_of c.deref_mut-node-items.result.now) =
    inside_smaller c.deref_mut-node-items.result.now c.loop-node.node-items c.loop-node.node-index c.node-item.result (omega (arith, c.loop-node-test.true, c.loop-node.invariant.size)) c.node-item.is c.loop-node.invariant.rest in
    omega (arith, c.decreases, less, ap (λ ns. nodes (plans_of ns)) c.deref_mut-node-items.ensures.value)

pub number_nodes-loop-node-preserved : goal.number_nodes-loop-node-preserved
number_nodes-loop-node-preserved t c =
    node_numbered c.args.first c.deref_mut-node-items.result.now c.loop-node.node-items c.loop-node.node-index c.loop-node.next c.in_ok-next.next c.node-item.result c.number_node.new.node
    (omega (arith, c.loop-node-test.true, c.loop-node.invariant.size)) c.node-item.is c.loop-node.invariant
    c.in_ok-next.ensures.id c.in_ok-next.ensures.place c.in_ok-next.ensures.tree c.in_ok-next.ensures.next c.in_ok-next.ensures.plan

pub number_nodes-returns-in_err-next-clause-none : goal.number_nodes-returns-in_err-next-clause-none
number_nodes-returns-in_err-next-clause-none t c =
    let more = needed c.args.first c.deref_mut-node-items.result.now c.loop-node.node-items c.loop-node.node-index c.loop-node.next c.node-item.result (omega (arith, c.loop-node-test.true, c.loop-node.invariant.size)) c.node-item.is c.loop-node.invariant in
    let full : 2 ^ 32 ≤ c.args.first + nodes (plans_of c.args.nodes.now.items) = omega (arith, more, c.in_err-next.ensures.none, ap (λ ns. nodes (plans_of ns)) c.deref_mut-node-items.ensures.value) in
    where_none c.from_residual.result _ full

pub number_nodes-returns-clause-next : goal.number_nodes-returns-clause-next
number_nodes-returns-clause-next t c =
    all_counted c.args.first c.deref_mut-node-items.result.now c.loop-node.node-items c.loop-node.node-index c.loop-node.next (omega (arith, c.loop-node-test.false, c.loop-node.invariant.size)) c.loop-node.invariant
    ∙ ap (λ ns. c.args.first + nodes (plans_of ns)) c.deref_mut-node-items.ensures.value

pub number_nodes-returns-clause-trees : goal.number_nodes-returns-clause-trees
number_nodes-returns-clause-trees t c =
    ap trees_of (front_only c.loop-node.node-items _ c.args.nodes.now.len (omega (arith, c.deref_mut-node-items.ensures.len, c.loop-node.auto.node-items)))
    ∙ all_numbered c.args.first c.deref_mut-node-items.result.now c.loop-node.node-items c.loop-node.node-index c.loop-node.next (omega (arith, c.loop-node-test.false, c.loop-node.invariant.size)) c.loop-node.invariant
    ∙ ap (λ ns. numbered_all c.args.first (plans_of ns)) c.deref_mut-node-items.ensures.value

pub number_nodes-returns-clause-plans : goal.number_nodes-returns-clause-plans
number_nodes-returns-clause-plans t c =
    ap plans_of (front_only c.loop-node.node-items _ c.args.nodes.now.len (omega (arith, c.deref_mut-node-items.ensures.len, c.loop-node.auto.node-items)))
    ∙ c.loop-node.invariant.plans ∙ ap plans_of c.deref_mut-node-items.ensures.value

-- ---- what stands in braces

pub number_within-number_nodes-requires : goal.number_within-number_nodes-requires
number_within-number_nodes-requires t c = omega (arith, c.decreases)

pub number_within-returns-then-is_empty-clause-next : goal.number_within-returns-then-is_empty-clause-next
number_within-returns-then-is_empty-clause-next t c =
    let none : length c.args.body.now.items ≡ 0 = grind (arith, c.is_empty.ensures, c.if-is_empty.true) in omega (arith, none_counted c.args.body.now.items none)

pub number_within-returns-then-is_empty-clause-trees : goal.number_within-returns-then-is_empty-clause-trees
number_within-returns-then-is_empty-clause-trees t c =
    let none : length c.args.body.now.items ≡ 0 = grind (arith, c.is_empty.ensures, c.if-is_empty.true) in none_trees c.args.first c.args.body.now.items none

-- ---- a node

pub number_node-number_nodes-requires : goal.number_node-number_nodes-requires
number_node-number_nodes-requires t c =
    let size = call_inside c.args.node.now.term c.in-Call.path _ c.in-Call.is in omega (arith, c.decreases, size, ap (λ (v : Vec Node Global). nodes (plans_of v.items)) c.in-Call.args-is)

pub number_node-number_nodes-requires-in-Form : goal.number_node-number_nodes-requires-in-Form
number_node-number_nodes-requires-in-Form t c =
    let size = form_inside c.args.node.now.term c.in-Form.op _ _ c.in-Form.is in omega (arith, c.decreases, size, ap (λ (v : Vec Node Global). nodes (plans_of v.items)) c.in-Form.args-is)

pub number_node-number_within-requires : goal.number_node-number_within-requires
number_node-number_within-requires t c =
    let size = form_inside c.args.node.now.term c.in-Form.op _ _ c.in-Form.is in omega (arith, c.decreases, size, ap (λ (v : Vec Node Global). nodes (plans_of v.items)) c.in-Form.body-is)

-- ---- a call

pub number_node-returns-in_ok-next-in-Call-clause-next : goal.number_node-returns-in_ok-next-in-Call-clause-next
number_node-returns-in_ok-next-in-Call-clause-next t c =
    let first : c.in_ok-first.first ≡ suc c.args.number = omega (arith, c.in_ok-first.ensures.1) in
    let size = call_inside c.args.node.now.term c.in-Call.path _ c.in-Call.is in
    omega (arith, first, size, ap (λ (v : Vec Node Global). nodes (plans_of v.items)) c.in-Call.args-is, c.in_ok-next-in-Call.ensures.next)

pub number_node-returns-in_ok-next-in-Call-clause-tree : goal.number_node-returns-in_ok-next-in-Call-clause-tree
number_node-returns-in_ok-next-in-Call-clause-tree t c at =
    let first : c.in_ok-first.first ≡ suc c.args.number = omega (arith, c.in_ok-first.ensures.1) in
    let rolled = V.rolls-Call c.in-Call.path c.in-Call.args in
    rw (c.in-Call.is ∙ sym rolled, D.out-roll-Term (D.Term-F.Call c.in-Call.path c.in-Call.args), rolled)
    (call_numbered at (suc c.args.number) (D.Call c.in-Call.path c.in-Call.args) c.in-Call.path c.in-Call.args c.number_nodes.new.nodes refl
    (c.in_ok-next-in-Call.ensures.trees ∙ ap (λ (v : Vec Node Global). numbered_all c.in_ok-first.first (plans_of v.items)) c.in-Call.args-is ∙ ap (λ n. numbered_all n (plans_of c.in-Call.args.items)) first))

pub number_node-returns-in_ok-next-in-Call-clause-plan : goal.number_node-returns-in_ok-next-in-Call-clause-plan
number_node-returns-in_ok-next-in-Call-clause-plan t c =
    let rolled = V.rolls-Call c.in-Call.path c.in-Call.args in
    rw (c.in-Call.is ∙ sym rolled, D.out-roll-Term (D.Term-F.Call c.in-Call.path c.in-Call.args), rolled)
    (call_plan (D.Call c.in-Call.path c.in-Call.args) c.in-Call.path c.in-Call.args c.number_nodes.new.nodes refl
    (c.in_ok-next-in-Call.ensures.plans ∙ ap (λ (v : Vec Node Global). plans_of v.items) c.in-Call.args-is))

pub number_node-returns-in_err-next-in-Call-clause-none : goal.number_node-returns-in_err-next-in-Call-clause-none
number_node-returns-in_err-next-in-Call-clause-none t c =
    let first : c.in_ok-first.first ≡ suc c.args.number = omega (arith, c.in_ok-first.ensures.1) in
    let size = call_inside c.args.node.now.term c.in-Call.path _ c.in-Call.is in
    let full : 2 ^ 32 ≤ suc c.args.number + inside (plan_of c.args.node.now.term) = omega (arith, first, size, ap (λ (v : Vec Node Global). nodes (plans_of v.items)) c.in-Call.args-is, c.in_err-next-in-Call.ensures.none) in
    where_none c.from_residual-in_err-next-in-Call.result _ full

-- ---- a form

pub number_node-returns-in_ok-next-in-Form-2-clause-next : goal.number_node-returns-in_ok-next-in-Form-2-clause-next
number_node-returns-in_ok-next-in-Form-2-clause-next t c =
    let first : c.in_ok-first.first ≡ suc c.args.number = omega (arith, c.in_ok-first.ensures.1) in
    let size = form_inside c.args.node.now.term c.in-Form.op _ _ c.in-Form.is in
    omega (
      arith,
      first,
      size,
      ap (λ (v : Vec Node Global). nodes (plans_of v.items)) c.in-Form.args-is,
      ap (λ (v : Vec Node Global). nodes (plans_of v.items)) c.in-Form.body-is,
      c.in_ok-next-in-Form.ensures.next,
      c.in_ok-next-in-Form-2.ensures.next,
    )

pub number_node-returns-in_ok-next-in-Form-2-clause-tree : goal.number_node-returns-in_ok-next-in-Form-2-clause-tree
number_node-returns-in_ok-next-in-Form-2-clause-tree t c at =
    let first : c.in_ok-first.first ≡ suc c.args.number = omega (arith, c.in_ok-first.ensures.1) in
    let next : c.in_ok-next-in-Form.next ≡ suc c.args.number + nodes (plans_of c.in-Form.args.items) =
    omega (arith, first, ap (λ (v : Vec Node Global). nodes (plans_of v.items)) c.in-Form.args-is, c.in_ok-next-in-Form.ensures.next) in
    let rolled = V.rolls-Form c.in-Form.op c.in-Form.args c.in-Form.body in
    rw (c.in-Form.is ∙ sym rolled, D.out-roll-Term (D.Term-F.Form c.in-Form.op c.in-Form.args c.in-Form.body), rolled)
    (form_numbered at (suc c.args.number) c.in_ok-next-in-Form.next (D.Form c.in-Form.op c.in-Form.args c.in-Form.body) c.in-Form.op c.in-Form.args c.in-Form.body c.number_nodes-in-Form.new.nodes c.number_within.new.body refl
    (c.in_ok-next-in-Form.ensures.trees ∙ ap (λ (v : Vec Node Global). numbered_all c.in_ok-first.first (plans_of v.items)) c.in-Form.args-is ∙ ap (λ n. numbered_all n (plans_of c.in-Form.args.items)) first) next
    (c.in_ok-next-in-Form-2.ensures.trees ∙ ap (λ (v : Vec Node Global). numbered_all c.in_ok-next-in-Form.next (plans_of v.items)) c.in-Form.body-is))

pub number_node-returns-in_ok-next-in-Form-2-clause-plan : goal.number_node-returns-in_ok-next-in-Form-2-clause-plan
number_node-returns-in_ok-next-in-Form-2-clause-plan t c =
    let rolled = V.rolls-Form c.in-Form.op c.in-Form.args c.in-Form.body in
    rw (c.in-Form.is ∙ sym rolled, D.out-roll-Term (D.Term-F.Form c.in-Form.op c.in-Form.args c.in-Form.body), rolled)
    (form_plan (D.Form c.in-Form.op c.in-Form.args c.in-Form.body) c.in-Form.op c.in-Form.args c.in-Form.body c.number_nodes-in-Form.new.nodes c.number_within.new.body refl
    (c.in_ok-next-in-Form.ensures.plans ∙ ap (λ (v : Vec Node Global). plans_of v.items) c.in-Form.args-is)
    (c.in_ok-next-in-Form-2.ensures.plans ∙ ap (λ (v : Vec Node Global). plans_of v.items) c.in-Form.body-is))

pub number_node-returns-in_err-next-in-Form-clause-none : goal.number_node-returns-in_err-next-in-Form-clause-none
number_node-returns-in_err-next-in-Form-clause-none t c =
    let first : c.in_ok-first.first ≡ suc c.args.number = omega (arith, c.in_ok-first.ensures.1) in
    let size = form_inside c.args.node.now.term c.in-Form.op _ _ c.in-Form.is in
    let full : 2 ^ 32 ≤ suc c.args.number + inside (plan_of c.args.node.now.term) = omega (arith, first, size, ap (λ (v : Vec Node Global). nodes (plans_of v.items)) c.in-Form.args-is, c.in_err-next-in-Form.ensures.none) in
    where_none c.from_residual-in_err-next-in-Form.result _ full

pub number_node-returns-in_err-next-in-Form-2-clause-none : goal.number_node-returns-in_err-next-in-Form-2-clause-none
number_node-returns-in_err-next-in-Form-2-clause-none t c =
    let first : c.in_ok-first.first ≡ suc c.args.number = omega (arith, c.in_ok-first.ensures.1) in
    let size = form_inside c.args.node.now.term c.in-Form.op _ _ c.in-Form.is in
    let full : 2 ^ 32 ≤ suc c.args.number + inside (plan_of c.args.node.now.term) =
    omega (
      arith,
      first,
      size,
      ap (λ (v : Vec Node Global). nodes (plans_of v.items)) c.in-Form.args-is,
      ap (λ (v : Vec Node Global). nodes (plans_of v.items)) c.in-Form.body-is,
      c.in_ok-next-in-Form.ensures.next,
      c.in_err-next-in-Form-2.ensures.none,
    ) in
    where_none c.from_residual-in_err-next-in-Form-2.result _ full

-- ---- a term with no nodes inside

pub number_node-returns-in_default-clause-next : goal.number_node-returns-in_default-clause-next
number_node-returns-in_default-clause-next t c =
    let none = none_inside c.args.node.now.term c.in_default.not-Call c.in_default.not-Form in omega (arith, c.in_ok-first.ensures.1, none)

pub number_node-returns-in_default-clause-tree : goal.number_node-returns-in_default-clause-tree
number_node-returns-in_default-clause-tree t c at = alone_numbered c.args.node.now.term at (suc c.args.number) c.in_default.not-Call c.in_default.not-Form
