use Rattle.std.proofs.Common.{◌≡◌, ◌+◌, ◌*◌, ◌++◌, drop, None, false}
use Rattle.asl_words.specs.declared.operator.Slot.TheVariants as slot
use Rattle.term_plans.specs.Plans.{plans_of, join}
use Rattle.asl_syntax.specs.Sizes.{size_at, sizes_at, size_in_at}
use Rattle.asl_shape.specs.Shapes.{begin}
use Rattle.asl_shape.specs.AtRaw.{operands_at, arguments_in_at, members_at, terms_at, elements_at, cases_at}
use Rattle.asl_shape.proofs.tree.+shape.Given as goal

abbrev pub decreases-add_bare : goal.decreases-add_bare
decreases-add_bare l = 16 * (size_at l.raw.now)

abbrev pub decreases-add : goal.decreases-add
decreases-add l = 16 * (size_at l.raw.now) + 1

abbrev pub decreases-read_term : goal.decreases-read_term
decreases-read_term l = 16 * (size_at l.raw.now) + 2

abbrev pub decreases-operands : goal.decreases-operands
decreases-operands l = 16 * (sizes_at l.args.now) + 5

abbrev pub decreases-arguments : goal.decreases-arguments
decreases-arguments l = 16 * (sizes_at l.args.now) + 5

abbrev pub decreases-members : goal.decreases-members
decreases-members l = 16 * (sizes_at l.raws.now) + 5

abbrev pub decreases-terms : goal.decreases-terms
decreases-terms l = 16 * (sizes_at l.raws.now) + 5

abbrev pub decreases-elements : goal.decreases-elements
decreases-elements l = 16 * (sizes_at l.raws.now) + 6

abbrev pub decreases-contents_of : goal.decreases-contents_of
decreases-contents_of l = 16 * (sizes_at l.raws.now) + 7

abbrev pub decreases-contents : goal.decreases-contents
decreases-contents l = 16 * (size_in_at l.raws.now) + 8

abbrev pub decreases-add_call : goal.decreases-add_call
decreases-add_call l = 16 * (size_in_at l.args.now) + 8

abbrev pub decreases-add_form : goal.decreases-add_form
decreases-add_form l = 16 * (sizes_at l.args.now + size_in_at l.body.now) + 9

abbrev pub decreases-add_symbol : goal.decreases-add_symbol
decreases-add_symbol l = 16 * sizes_at l.args.now + 10

abbrev pub decreases-add_reading : goal.decreases-add_reading
decreases-add_reading l = 16 * (size_in_at l.args.now + size_in_at l.body.now) + 10

abbrev pub decreases-add_item : goal.decreases-add_item
decreases-add_item l = 16 * (size_in_at l.args.now + size_in_at l.body.now) + 11

abbrev pub invariant-operands-loop-raw : goal.invariant-operands-loop-raw
invariant-operands-loop-raw l = record {
  faults : l.work.faults.items ++ (operands_at slot.Expression l.inside (drop l.raw-index l.args)).faults ≡ l.fn.work.faults.items ++ (operands_at slot.Expression l.inside l.args).faults;
  made : join (plans_of l.nodes.items) (operands_at slot.Expression l.inside (drop l.raw-index l.args)).made ≡ join (plans_of l.fn.nodes.items) (operands_at slot.Expression l.inside l.args).made;
}

abbrev pub invariant-members-loop-raw : goal.invariant-members-loop-raw
invariant-members-loop-raw l = record {
  faults : l.work.faults.items ++ (members_at l.slot l.inside (drop l.raw-index l.raws)).faults ≡ l.fn.work.faults.items ++ (members_at l.slot l.inside l.raws).faults;
  made : join (plans_of l.nodes.items) (members_at l.slot l.inside (drop l.raw-index l.raws)).made ≡ join (plans_of l.fn.nodes.items) (members_at l.slot l.inside l.raws).made;
}

abbrev pub invariant-terms-loop-raw : goal.invariant-terms-loop-raw
invariant-terms-loop-raw l = record {
  faults : l.work.faults.items ++ (terms_at l.inside l.run (drop l.raw-index l.raws)).faults ≡ l.fn.work.faults.items ++ (terms_at l.inside None l.raws).faults;
  made : join (plans_of l.nodes.items) (terms_at l.inside l.run (drop l.raw-index l.raws)).made ≡ join (plans_of l.fn.nodes.items) (terms_at l.inside None l.raws).made;
}

abbrev pub invariant-arguments-loop-i : goal.invariant-arguments-loop-i
invariant-arguments-loop-i l = record {
  faults : l.work.faults.items ++ (arguments_in_at (drop l.i l.parameters) l.place l.inside (drop l.i l.args)).faults ≡ l.fn.work.faults.items ++ (arguments_in_at l.fn.parameters l.place l.inside l.fn.args).faults;
  made : join (plans_of l.nodes.items) (arguments_in_at (drop l.i l.parameters) l.place l.inside (drop l.i l.args)).made ≡ join (plans_of l.fn.nodes.items) (arguments_in_at l.fn.parameters l.place l.inside l.fn.args).made;
}

abbrev pub decreases-add_argument : goal.decreases-add_argument
decreases-add_argument l = 16 * sizes_at l.args.now + 4

abbrev pub decreases-add_member : goal.decreases-add_member
decreases-add_member l = 16 * size_at l.raw.now + 4

abbrev pub decreases-add_element : goal.decreases-add_element
decreases-add_element l = 16 * (size_in_at l.args.now) + 8

abbrev pub decreases-field_list : goal.decreases-field_list
decreases-field_list l = 16 * (sizes_at l.raws.now) + 6

abbrev pub decreases-field_elements : goal.decreases-field_elements
decreases-field_elements l = 16 * (sizes_at l.raws.now) + 5

abbrev pub decreases-add_part : goal.decreases-add_part
decreases-add_part l = 16 * size_at l.raw.now + 4

abbrev pub decreases-begin_element : goal.decreases-begin_element
decreases-begin_element l = 16 * size_at l.raw.now + 3

abbrev pub decreases-add_bits : goal.decreases-add_bits
decreases-add_bits l = 16 * size_at l.raw.now + 3

abbrev pub invariant-field_elements-loop-raw : goal.invariant-field_elements-loop-raw
invariant-field_elements-loop-raw l = record {
  faults : l.work.faults.items ++ (elements_at l.due l.unit l.inside (drop l.raw-index l.raws)).faults ≡ l.fn.work.faults.items ++ (elements_at begin None l.inside l.raws).faults;
  made : join (plans_of l.nodes.items) (elements_at l.due l.unit l.inside (drop l.raw-index l.raws)).made ≡ join (plans_of l.fn.nodes.items) (elements_at begin None l.inside l.raws).made;
}

abbrev pub decreases-add_macro : goal.decreases-add_macro
decreases-add_macro l = 16 * (size_in_at l.args.now) + 8

abbrev pub decreases-add_template : goal.decreases-add_template
decreases-add_template l = 16 * (size_in_at l.body.now) + 9

abbrev pub decreases-add_descriptor : goal.decreases-add_descriptor
decreases-add_descriptor l = 16 * (size_in_at l.args.now + size_in_at l.body.now) + 9

abbrev pub decreases-cases : goal.decreases-cases
decreases-cases l = 16 * (sizes_at l.raws.now) + 5

abbrev pub invariant-cases-loop-raw : goal.invariant-cases-loop-raw
invariant-cases-loop-raw l = record {
  faults : l.work.faults.items ++ (cases_at l.inside l.defaulted (drop l.raw-index l.raws)).faults ≡ l.fn.work.faults.items ++ (cases_at l.inside false l.raws).faults;
  made : join (plans_of l.nodes.items) (cases_at l.inside l.defaulted (drop l.raw-index l.raws)).made ≡ join (plans_of l.fn.nodes.items) (cases_at l.inside false l.raws).made;
}
