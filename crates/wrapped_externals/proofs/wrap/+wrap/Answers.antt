use Rattle.std.proofs.Common.{refl, ap, sym, ◌∙◌, ◌++◌, ◌∷◌, [], Vec, Global, arith, subst}
use Rattle.std.specs.Prelude.{not}
use Rattle.asl_tree.specs.View.{trees_of}
use Rattle.asl_tree.specs.declared.term.Node.{Node}
use Rattle.acpi_names.proofs.Trees.{call_smaller, form_smaller}
use Rattle.named_sessions.specs.Shaped.{AreShaped}
use Rattle.asl_lower.specs.Nests.{joined}
use Rattle.asl_lower.proofs.Lowered.{popped_size}
use Rattle.term_places.specs.Places.{places_of}
use Rattle.wrapped_externals.specs.declared.kind.TermRole.TheVariants as Kind
use Rattle.wrapped_externals.specs.Wraps.{in_if}
use Rattle.wrapped_externals.specs.Starts.{with_ifs}
use Rattle.wrapped_externals.proofs.Nodes.{each_none, each_next, each_all, next_external, next_branch, next_other, put_behind_trees, turned, turned_size, list_none, list_next, list_all, other_wrapped, call_wrapped, term_wrapped}
use Rattle.wrapped_externals.proofs.Places.{external_counts, external_placed, branch_placed, other_placed, put_behind_placed, no_run_alone, first_shaped, rest_shaped, all_none, all_next, all_all, form_placed, call_placed, other_flat_placed}
use Rattle.wrapped_externals.proofs.wrap.+wrap.Goals as goal

-- ---- terms each by itself

pub wrap_each-loop-node-init : goal.wrap_each-loop-node-init
wrap_each-loop-node-init t c = record {
  trees = each_none c.args.nodes.items c.new-made.result.items c.new-made.ensures.items;
  size = omega arith;
}

pub wrap_each-wrap_node-requires : goal.wrap_each-wrap_node-requires
wrap_each-wrap_node-requires t c =
    let size = popped_size c.loop-node.left.items c.pop.new.self.items c.in-Some.node c.in-Some.ensures.items in omega (arith, c.decreases, c.loop-node.invariant.size, size)

pub wrap_each-loop-node-preserved : goal.wrap_each-loop-node-preserved
wrap_each-loop-node-preserved t c =
    let size = popped_size c.loop-node.left.items c.pop.new.self.items c.in-Some.node c.in-Some.ensures.items in record {
      trees = each_next c.args.nodes.items c.loop-node.left.items c.pop.new.self.items c.loop-node.made.items c.push.new.self.items c.in-Some.node c.in_ok-wrap_node.field-0 c.in-Some.ensures.items c.in_ok-push.ensures.items c.in_ok-wrap_node.ensures.tree c.loop-node.invariant.trees;
      size = omega (arith, c.loop-node.invariant.size, size);
    }

pub wrap_each-returns : goal.wrap_each-returns
wrap_each-returns t c =
    ap trees_of c.reverse.ensures.items ∙ each_all c.loop-node.left.items c.loop-node.made.items (omega (arith, c.in_default.ensures.cases.0)) ∙ c.loop-node.invariant.trees

-- ---- a run, and then another term

pub put_behind-returns-clause-trees : goal.put_behind-returns-clause-trees
put_behind-returns-clause-trees t c =
    put_behind_trees c.args.made.now.items c.put_run.new.made.items c.push.new.self.items c.args.run.now.items c.args.node c.in_ok-wrapped.wrapped c.args.kept
    (c.in_ok-put_run.ensures.trees ∙ ap (λ (run : Vec Node Global). joined (trees_of c.args.made.now.items) (in_if (trees_of run.items) c.args.kept)) c.replace-externals.ensures.value) c.in_ok-wrapped.ensures.tree c.in_ok-push.ensures.items

pub put_behind-returns-clause-places : goal.put_behind-returns-clause-places
put_behind-returns-clause-places t c shaped =
    put_behind_placed c.args.made.now.items c.put_run.new.made.items c.push.new.self.items c.args.run.now.items c.args.node c.in_ok-wrapped.wrapped c.args.kept
    (c.in_ok-put_run.ensures.places ∙ ap (λ (run : Vec Node Global). places_of c.args.made.now.items ++ with_ifs (not c.args.kept ∷ []) (places_of run.items)) c.replace-externals.ensures.value) (c.in_ok-wrapped.ensures.places shaped) c.in_ok-push.ensures.items

-- ---- a list

pub wrap-loop-node-init : goal.wrap-loop-node-init
wrap-loop-node-init t c =
    let size = turned_size c.args.terms.items c.reverse.new.self.items c.reverse.ensures.items in record {
      trees = list_none c.args.terms.items c.reverse.new.self.items c.new-made.result.items c.new-run.result.items c.reverse.ensures.items c.new-made.ensures.items c.new-run.ensures.items;
      size = omega (arith, size);
      alone = no_run_alone c.new-run.result.items c.new-run.ensures.items;
      shaped = λ h. subst AreShaped (sym (turned c.args.terms.items c.reverse.new.self.items c.reverse.ensures.items)) h;
      places = λ h. all_none c.args.terms.items c.reverse.new.self.items c.new-made.result.items c.new-run.result.items c.reverse.ensures.items c.new-made.ensures.items c.new-run.ensures.items;
    }

pub wrap-wrap_next-requires : goal.wrap-wrap_next-requires
wrap-wrap_next-requires t c =
    let size = popped_size c.loop-node.left.items c.pop.new.self.items c.in-Some.node c.in-Some.ensures.items in (omega (arith, c.decreases, c.loop-node.invariant.size, size), c.loop-node.invariant.alone)

pub wrap-loop-node-preserved : goal.wrap-loop-node-preserved
wrap-loop-node-preserved t c =
    let size = popped_size c.loop-node.left.items c.pop.new.self.items c.in-Some.node c.in-Some.ensures.items in record {
      trees = list_next c.args.terms.items c.loop-node.left.items c.pop.new.self.items c.loop-node.made.items c.wrap_next.new.made.items c.loop-node.run.items c.wrap_next.new.run.items c.in-Some.node c.in-Some.ensures.items c.in_ok-wrap_next.ensures.trees c.loop-node.invariant.trees;
      size = omega (arith, c.loop-node.invariant.size, size);
      alone = c.in_ok-wrap_next.ensures.alone;
      shaped = λ h. rest_shaped c.loop-node.left.items c.pop.new.self.items c.in-Some.node c.in-Some.ensures.items (c.loop-node.invariant.shaped h);
      places = λ h. all_next c.args.terms.items c.loop-node.left.items c.pop.new.self.items c.loop-node.made.items c.wrap_next.new.made.items c.loop-node.run.items c.wrap_next.new.run.items c.in-Some.node c.in-Some.ensures.items
          (c.in_ok-wrap_next.ensures.places (first_shaped c.loop-node.left.items c.pop.new.self.items c.in-Some.node c.in-Some.ensures.items (c.loop-node.invariant.shaped h))) (c.loop-node.invariant.places h);
    }

pub wrap-returns-clause-trees : goal.wrap-returns-clause-trees
wrap-returns-clause-trees t c =
    list_all c.args.terms.items c.loop-node.left.items c.loop-node.made.items c.put_run.new.made.items c.loop-node.run.items (omega (arith, c.in_default.ensures.cases.0)) c.in_ok-put_run.ensures.trees c.loop-node.invariant.trees

pub wrap-returns-clause-places : goal.wrap-returns-clause-places
wrap-returns-clause-places t c h =
    all_all c.args.terms.items c.loop-node.left.items c.loop-node.made.items c.put_run.new.made.items c.loop-node.run.items (omega (arith, c.in_default.ensures.cases.0)) c.loop-node.invariant.alone c.in_ok-put_run.ensures.places (c.loop-node.invariant.places h)

-- ---- its next term

pub wrap_next-returns-in_ok-push-in-External-clause-alone : goal.wrap_next-returns-in_ok-push-in-External-clause-alone
wrap_next-returns-in_ok-push-in-External-clause-alone t c =
    external_counts c.args.run.now.items c.push.new.self.items c.args.node Kind.External c.in_ok-push-in-External.ensures.items c.in-External.ensures refl c.requires.alone

pub wrap_next-returns-in_ok-push-in-External-clause-trees : goal.wrap_next-returns-in_ok-push-in-External-clause-trees
wrap_next-returns-in_ok-push-in-External-clause-trees t c ts =
    next_external c.args.made.now.items c.args.run.now.items c.push.new.self.items c.args.node Kind.External ts c.in_ok-push-in-External.ensures.items c.in-External.ensures refl

pub wrap_next-returns-in_ok-push-in-External-clause-places : goal.wrap_next-returns-in_ok-push-in-External-clause-places
wrap_next-returns-in_ok-push-in-External-clause-places t c shaped ts ps =
    external_placed c.args.made.now.items c.args.run.now.items c.push.new.self.items c.args.node Kind.External ts ps c.in_ok-push-in-External.ensures.items c.in-External.ensures refl

pub wrap_next-returns-in_ok-put_behind-in-Branch-clause-alone : goal.wrap_next-returns-in_ok-put_behind-in-Branch-clause-alone
wrap_next-returns-in_ok-put_behind-in-Branch-clause-alone t c = no_run_alone c.put_behind.new.run.items c.in_ok-put_behind-in-Branch.ensures.empty

pub wrap_next-returns-in_ok-put_behind-in-Branch-clause-trees : goal.wrap_next-returns-in_ok-put_behind-in-Branch-clause-trees
wrap_next-returns-in_ok-put_behind-in-Branch-clause-trees t c ts =
    next_branch c.args.made.now.items c.args.run.now.items c.put_behind.new.made.items c.put_behind.new.run.items c.args.node Kind.Branch ts c.in_ok-put_behind-in-Branch.ensures.empty c.in_ok-put_behind-in-Branch.ensures.trees c.in-Branch.ensures refl

pub wrap_next-returns-in_ok-put_behind-in-Branch-clause-places : goal.wrap_next-returns-in_ok-put_behind-in-Branch-clause-places
wrap_next-returns-in_ok-put_behind-in-Branch-clause-places t c shaped ts ps =
    branch_placed c.args.made.now.items c.args.run.now.items c.put_behind.new.made.items c.put_behind.new.run.items c.args.node Kind.Branch ts ps c.in_ok-put_behind-in-Branch.ensures.empty c.requires.alone shaped c.in-Branch.ensures refl (c.in_ok-put_behind-in-Branch.ensures.places shaped)

pub wrap_next-returns-in_ok-put_behind-in-Other-clause-alone : goal.wrap_next-returns-in_ok-put_behind-in-Other-clause-alone
wrap_next-returns-in_ok-put_behind-in-Other-clause-alone t c = no_run_alone c.put_behind-in-Other.new.run.items c.in_ok-put_behind-in-Other.ensures.empty

pub wrap_next-returns-in_ok-put_behind-in-Other-clause-trees : goal.wrap_next-returns-in_ok-put_behind-in-Other-clause-trees
wrap_next-returns-in_ok-put_behind-in-Other-clause-trees t c ts =
    next_other c.args.made.now.items c.args.run.now.items c.put_behind-in-Other.new.made.items c.put_behind-in-Other.new.run.items c.args.node Kind.Other ts c.in_ok-put_behind-in-Other.ensures.empty c.in_ok-put_behind-in-Other.ensures.trees c.in-Other.ensures refl

pub wrap_next-returns-in_ok-put_behind-in-Other-clause-places : goal.wrap_next-returns-in_ok-put_behind-in-Other-clause-places
wrap_next-returns-in_ok-put_behind-in-Other-clause-places t c shaped ts ps =
    other_placed c.args.made.now.items c.args.run.now.items c.put_behind-in-Other.new.made.items c.put_behind-in-Other.new.run.items c.args.node Kind.Other ts ps c.in_ok-put_behind-in-Other.ensures.empty c.requires.alone shaped c.in-Other.ensures refl (c.in_ok-put_behind-in-Other.ensures.places shaped)

-- ---- a term

pub wrap_term-wrap_each-requires : goal.wrap_term-wrap_each-requires
wrap_term-wrap_each-requires t c = omega (arith, c.decreases, call_smaller c.args.term c.in-Call.path c.in-Call.args c.in-Call.args.items c.in-Call.is refl)

pub wrap_term-wrap_each-requires-in-Form : goal.wrap_term-wrap_each-requires-in-Form
wrap_term-wrap_each-requires-in-Form t c = omega (arith, c.decreases, form_smaller c.args.term c.in-Form.op c.in-Form.args c.in-Form.body c.in-Form.args.items c.in-Form.body.items c.in-Form.is refl refl)

pub wrap_term-wrap_body-requires : goal.wrap_term-wrap_body-requires
wrap_term-wrap_body-requires t c = omega (arith, c.decreases, form_smaller c.args.term c.in-Form.op c.in-Form.args c.in-Form.body c.in-Form.args.items c.in-Form.body.items c.in-Form.is refl refl)

pub wrap_term-returns-in_ok-args-in-Call-clause-tree : goal.wrap_term-returns-in_ok-args-in-Call-clause-tree
wrap_term-returns-in_ok-args-in-Call-clause-tree t c at = call_wrapped at c.args.term c.in-Call.path c.in-Call.args _ c.in-Call.is c.in_ok-args-in-Call.ensures

pub wrap_term-returns-in_ok-args-in-Call-clause-places : goal.wrap_term-returns-in_ok-args-in-Call-clause-places
wrap_term-returns-in_ok-args-in-Call-clause-places t c at shaped = call_placed at c.args.term c.in-Call.path c.in-Call.args _ c.in-Call.is

pub wrap_term-returns-in_ok-body-in-Form-clause-tree : goal.wrap_term-returns-in_ok-body-in-Form-clause-tree
wrap_term-returns-in_ok-body-in-Form-clause-tree t c at = term_wrapped at c.args.term c.in-Form.op c.in-Form.args c.in-Form.body _ _ c.in-Form.is c.in_ok-args-in-Form.ensures c.in_ok-body-in-Form.ensures.trees

pub wrap_term-returns-in_ok-body-in-Form-clause-places : goal.wrap_term-returns-in_ok-body-in-Form-clause-places
wrap_term-returns-in_ok-body-in-Form-clause-places t c at shaped = form_placed at c.args.term c.in-Form.op c.in-Form.args c.in-Form.body _ _ c.in-Form.is shaped c.in_ok-body-in-Form.ensures.places

pub wrap_term-returns-in_default : goal.wrap_term-returns-in_default
wrap_term-returns-in_default t c = record {
  tree = λ at. other_wrapped at c.args.term c.in_default.not-Call c.in_default.not-Form;
  places = λ at shaped. other_flat_placed at c.args.term c.in_default.not-Call c.in_default.not-Form;
}
