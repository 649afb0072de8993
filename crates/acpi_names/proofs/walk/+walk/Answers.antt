use Rattle.std.proofs.Common.{[], ◌∷◌, ◌++◌, ◌+◌, get_or, drop, refl, sym, ap, ◌∙◌, arith}
use Rattle.asl_tree.specs.View.{trees_of}
use Rattle.asl_operators.specs.Letters.{letters_as}
use Rattle.acpi_names.specs.Mentions.{Used', mentions, mentions_all, element_mentions}
use Rattle.acpi_names.specs.Walked.{value_mentions, optional_mentions, argument_mentions, node_tree, OfName, OfCall, OfForm, Another}
use Rattle.acpi_names.specs.Shown.{asked_as, spot_as}
use Rattle.acpi_names.proofs.Trees.{node_smaller}
use Rattle.acpi_names.proofs.Telling.{cond_two, cond_few, cond_many, cond_name, cond_other, used_name, used_other, not_named, argument_next, tells_none, tells_one, tells_then, tells_as, tells_shape, tells_call, remains_next, remains_none, assign_two, assign_few, assign_many}
use Rattle.acpi_names.proofs.walk.+walk.Goals as goal

pub values-value-requires : goal.values-value-requires
values-value-requires t c = omega (arith, c.decreases, node_smaller c.args.nodes.now c.loop-node.node-index c.node-item.result c.loop-node-test.true c.node-item.is)

pub values-loop-node-preserved : goal.values-loop-node-preserved
values-loop-node-preserved t c =
    remains_next c.args.nodes.now c.loop-node.node-index c.node-item.result c.args.out.now.items c.loop-node.out.items c.value.new.out.items (λ ps. mentions c.args.asked (node_tree c.node-item.result) (get_or ps c.args.scope [])) (λ ps ts. mentions_all c.args.asked ts (get_or ps c.args.scope [])) (λ ps ts. mentions_all c.args.asked ts (get_or ps c.args.scope []))
    (λ ps. mentions_all c.args.asked (trees_of c.args.nodes.now) (get_or ps c.args.scope [])) c.loop-node-test.true c.node-item.is (λ ps ts. refl) c.loop-node.invariant c.in_ok-value.ensures

pub values-returns : goal.values-returns
values-returns t c =
    remains_none c.args.nodes.now c.loop-node.node-index c.args.out.now.items c.loop-node.out.items (λ ps ts. mentions_all c.args.asked ts (get_or ps c.args.scope [])) (λ ps. mentions_all c.args.asked (trees_of c.args.nodes.now) (get_or ps c.args.scope [])) c.loop-node-test.false (λ ps. refl) c.loop-node.invariant

pub elements-value-requires : goal.elements-value-requires
elements-value-requires t c = omega (arith, c.decreases, node_smaller c.args.nodes.now c.loop-node.node-index c.node-item.result c.loop-node-test.true c.node-item.is)

pub elements-loop-node-preserved : goal.elements-loop-node-preserved
elements-loop-node-preserved t c =
    remains_next c.args.nodes.now c.loop-node.node-index c.node-item.result c.args.out.now.items c.loop-node.out.items c.value.new.out.items (λ ps. mentions c.asks_element.result (node_tree c.node-item.result) (get_or ps c.args.scope [])) (λ ps ts. element_mentions c.args.asked ts (get_or ps c.args.scope [])) (λ ps ts. element_mentions c.args.asked ts (get_or ps c.args.scope []))
    (λ ps. element_mentions c.args.asked (trees_of c.args.nodes.now) (get_or ps c.args.scope [])) c.loop-node-test.true c.node-item.is (λ ps ts. ap (λ b. mentions b (node_tree c.node-item.result) (get_or ps c.args.scope []) ++ element_mentions c.args.asked ts (get_or ps c.args.scope [])) (sym c.asks_element.ensures)) c.loop-node.invariant c.in_ok-value.ensures

pub elements-returns : goal.elements-returns
elements-returns t c =
    remains_none c.args.nodes.now c.loop-node.node-index c.args.out.now.items c.loop-node.out.items (λ ps ts. element_mentions c.args.asked ts (get_or ps c.args.scope [])) (λ ps. element_mentions c.args.asked (trees_of c.args.nodes.now) (get_or ps c.args.scope [])) c.loop-node-test.false (λ ps. refl) c.loop-node.invariant

pub spot-returns : goal.spot-returns
spot-returns t c =
    tells_as c.args.out.now.items c.value.new.out.items _ _ (λ ps. ap (λ b. mentions b (node_tree c.args.node.now) (get_or ps c.args.scope [])) c.asks_spot.ensures) c.in_ok-value.ensures

pub value-returns-in_ok-push-in-Name : goal.value-returns-in_ok-push-in-Name
value-returns-in_ok-push-in-Name t c =
    tells_shape c.args.asked c.args.node.now c.spot_of-at.result c.args.scope (OfName c.in-Name.name.now) c.args.out.now.items c.push.new.self.items c.spot_of-at.ensures c.in-Name.ensures.shape
    (tells_as c.args.out.now.items c.push.new.self.items _ _ (λ ps. ap (λ asked. Used' asked (spot_as c.spot_of-at.result) c.in-Name.name.now (get_or ps c.args.scope []) ∷ []) c.asked_value.ensures) (tells_one c.args.out.now.items c.push.new.self.items _ c.in_ok-push-in-Name.ensures.items))

pub value-returns-in_ok-values-in-Call : goal.value-returns-in_ok-values-in-Call
value-returns-in_ok-values-in-Call t c =
    tells_shape c.args.asked c.args.node.now c.spot_of-at.result c.args.scope (OfCall c.in-Call.name.now (trees_of c.in-Call.args.now)) c.args.out.now.items c.values.new.out.items c.spot_of-at.ensures c.in-Call.ensures.shape
    (tells_call c.args.asked _ c.in-Call.name.now c.in-Call.args.now _ c.args.scope c.args.out.now.items c.push-in-Call.new.self.items c.values.new.out.items refl (tells_one c.args.out.now.items c.push-in-Call.new.self.items _ c.in_ok-push-in-Call.ensures.items) c.in_ok-values-in-Call.ensures)

pub value-returns-in_ok-form-in-Form : goal.value-returns-in_ok-form-in-Form
value-returns-in_ok-form-in-Form t c =
    tells_shape c.args.asked c.args.node.now c.spot_of-at.result c.args.scope (OfForm c.in-Form.op (trees_of c.in-Form.args.now) (trees_of c.in-Form.body.now)) c.args.out.now.items c.form.new.out.items c.spot_of-at.ensures c.in-Form.ensures.shape c.in_ok-form-in-Form.ensures

pub value-returns-in-Other : goal.value-returns-in-Other
value-returns-in-Other t c =
    tells_shape c.args.asked c.args.node.now c.spot_of-at.result c.args.scope Another c.args.out.now.items c.args.out.now.items c.spot_of-at.ensures c.in-Other.ensures.shape (tells_none c.args.out.now.items)

pub form-sought-requires : goal.form-sought-requires
form-sought-requires t c = omega (arith, c.decreases, node_smaller c.args.args.now 0 c.place-item.result (omega (arith, c.in-len2.len_at_least)) c.place-item.is)

pub form-spot-requires : goal.form-spot-requires
form-spot-requires t c = omega (arith, c.decreases, node_smaller c.args.args.now 1 c.target-item.result (omega (arith, c.in-len2.len_at_least)) c.target-item.is)

pub form-returns-in_ok-spot-in-len2 : goal.form-returns-in_ok-spot-in-len2
form-returns-in_ok-spot-in-len2 t c =
    tells_as c.args.out.now.items c.spot.new.out.items _ _ (λ ps.
    sym (cond_two c.args.asked c.args.args.now c.place-item.result c.target-item.result (get_or ps c.args.scope []) c.in-len2.len_at_least c.in-len2.len_below c.place-item.is c.target-item.is)
    ∙ ap (λ f. value_mentions f c.args.asked (trees_of c.args.args.now) (trees_of c.args.body.now) (get_or ps c.args.scope [])) (sym c.in-CondRefOf.is ∙ c.value_form_for.ensures))
    (tells_then c.args.out.now.items c.sought.new.out.items c.spot.new.out.items _ _ c.in_ok-sought-in-len2.ensures c.in_ok-spot-in-len2.ensures)

pub form-returns-in_default : goal.form-returns-in_default
form-returns-in_default t c =
    tells_as c.args.out.now.items c.args.out.now.items _ _ (λ ps.
    sym (cond_few c.args.asked c.args.args.now (get_or ps c.args.scope []) c.in_default.len_below)
    ∙ ap (λ f. value_mentions f c.args.asked (trees_of c.args.args.now) (trees_of c.args.body.now) (get_or ps c.args.scope [])) (sym c.in-CondRefOf.is ∙ c.value_form_for.ensures))
    (tells_none c.args.out.now.items)

pub form-returns-in_default-2 : goal.form-returns-in_default-2
form-returns-in_default-2 t c =
    tells_as c.args.out.now.items c.args.out.now.items _ _ (λ ps.
    sym (cond_many c.args.asked c.args.args.now (get_or ps c.args.scope []) c.in_default.len_at_least)
    ∙ ap (λ f. value_mentions f c.args.asked (trees_of c.args.args.now) (trees_of c.args.body.now) (get_or ps c.args.scope [])) (sym c.in-CondRefOf.is ∙ c.value_form_for.ensures))
    (tells_none c.args.out.now.items)

pub assignment-value-requires : goal.assignment-value-requires
assignment-value-requires t c = omega (arith, c.decreases, node_smaller c.args.args.now 1 c.given-item.result (omega (arith, c.in-len2.len_at_least)) c.given-item.is)

pub assignment-spot-requires : goal.assignment-spot-requires
assignment-spot-requires t c = omega (arith, c.decreases, node_smaller c.args.args.now 0 c.target-item.result (omega (arith, c.in-len2.len_at_least)) c.target-item.is)

pub assignment-returns-in_ok-spot-in-len2 : goal.assignment-returns-in_ok-spot-in-len2
assignment-returns-in_ok-spot-in-len2 t c =
    tells_as c.args.out.now.items c.spot.new.out.items _ _ (λ ps.
    sym (assign_two c.args.asked c.args.args.now c.target-item.result c.given-item.result (get_or ps c.args.scope []) c.in-len2.len_at_least c.in-len2.len_below c.target-item.is c.given-item.is))
    (tells_then c.args.out.now.items c.value.new.out.items c.spot.new.out.items _ _ c.in_ok-value-in-len2.ensures c.in_ok-spot-in-len2.ensures)

pub assignment-returns-in_default : goal.assignment-returns-in_default
assignment-returns-in_default t c =
    tells_as c.args.out.now.items c.args.out.now.items _ _ (λ ps. sym (assign_few c.args.asked c.args.args.now (get_or ps c.args.scope []) c.in_default.len_below)) (tells_none c.args.out.now.items)

pub assignment-returns-in_default-2 : goal.assignment-returns-in_default-2
assignment-returns-in_default-2 t c =
    tells_as c.args.out.now.items c.args.out.now.items _ _ (λ ps. sym (assign_many c.args.asked c.args.args.now (get_or ps c.args.scope []) c.in_default.len_at_least)) (tells_none c.args.out.now.items)

pub operands-argument-requires : goal.operands-argument-requires
operands-argument-requires t c = omega (arith, c.decreases, node_smaller c.args.nodes.now c.loop-index.index c.index-nodes-index.result c.loop-index-test.true c.index-nodes-index.is)

pub operands-loop-index-preserved : goal.operands-loop-index-preserved
operands-loop-index-preserved t c =
    remains_next c.args.nodes.now c.loop-index.index c.index-nodes-index.result c.args.out.now.items c.loop-index.out.items c.argument.new.out.items (λ ps. optional_mentions c.args.asked (asked_as c.args.uses) c.letter_at.result (node_tree c.index-nodes-index.result) (get_or ps c.args.scope []))
    (λ ps ts. argument_mentions c.args.asked (asked_as c.args.uses) (drop c.loop-index.index (letters_as c.args.letters.now)) ts (get_or ps c.args.scope [])) (λ ps ts. argument_mentions c.args.asked (asked_as c.args.uses) (drop (c.loop-index.index + 1) (letters_as c.args.letters.now)) ts (get_or ps c.args.scope []))
    (λ ps. argument_mentions c.args.asked (asked_as c.args.uses) (letters_as c.args.letters.now) (trees_of c.args.nodes.now) (get_or ps c.args.scope [])) c.loop-index-test.true c.index-nodes-index.is
    (λ ps ts. argument_next c.args.asked (asked_as c.args.uses) c.args.letters.now c.loop-index.index (node_tree c.index-nodes-index.result) ts (get_or ps c.args.scope [])
    ∙ ap (λ o. optional_mentions c.args.asked (asked_as c.args.uses) o (node_tree c.index-nodes-index.result) (get_or ps c.args.scope []) ++ argument_mentions c.args.asked (asked_as c.args.uses) (drop (c.loop-index.index + 1) (letters_as c.args.letters.now)) ts (get_or ps c.args.scope [])) (sym c.letter_at.ensures)) c.loop-index.invariant c.in_ok-argument.ensures

pub operands-returns : goal.operands-returns
operands-returns t c =
    remains_none c.args.nodes.now c.loop-index.index c.args.out.now.items c.loop-index.out.items (λ ps ts. argument_mentions c.args.asked (asked_as c.args.uses) (drop c.loop-index.index (letters_as c.args.letters.now)) ts (get_or ps c.args.scope []))
    (λ ps. argument_mentions c.args.asked (asked_as c.args.uses) (letters_as c.args.letters.now) (trees_of c.args.nodes.now) (get_or ps c.args.scope [])) c.loop-index-test.false (λ ps. refl) c.loop-index.invariant

pub sought-returns-in_ok-push-in-Name : goal.sought-returns-in_ok-push-in-Name
sought-returns-in_ok-push-in-Name t c =
    tells_as c.args.out.now.items c.push.new.self.items _ _ (λ ps. cond_name c.args.asked c.args.node.now c.spot_of-at.result c.in-Name.name.now (get_or ps c.args.scope []) c.spot_of-at.ensures c.in-Name.ensures.shape) (tells_one c.args.out.now.items c.push.new.self.items _ c.in_ok-push-in-Name.ensures.items)

pub sought-returns-in_ok-spot-in_default : goal.sought-returns-in_ok-spot-in_default
sought-returns-in_ok-spot-in_default t c =
    tells_as c.args.out.now.items c.spot.new.out.items _ _ (λ ps. cond_other c.args.asked c.args.node.now (get_or ps c.args.scope []) (λ name e. not_named c.shape_of.result name c.in_default.not-Name (c.shape_of.ensures.shape ∙ e))) c.in_ok-spot-in_default.ensures

pub used-returns-in_ok-push-in-Name : goal.used-returns-in_ok-push-in-Name
used-returns-in_ok-push-in-Name t c =
    tells_as c.args.out.now.items c.push.new.self.items _ _ (λ ps. used_name (asked_as c.args.uses) c.args.node.now c.spot_of-at.result c.in-Name.name.now (get_or ps c.args.scope []) c.spot_of-at.ensures c.in-Name.ensures.shape) (tells_one c.args.out.now.items c.push.new.self.items _ c.in_ok-push-in-Name.ensures.items)

pub used-returns-in_ok-value-in_default : goal.used-returns-in_ok-value-in_default
used-returns-in_ok-value-in_default t c =
    tells_as c.args.out.now.items c.value.new.out.items _ _ (λ ps. used_other (asked_as c.args.uses) c.args.node.now (get_or ps c.args.scope []) (λ name e. not_named c.shape_of.result name c.in_default.not-Name (c.shape_of.ensures.shape ∙ e))) c.in_ok-value-in_default.ensures
