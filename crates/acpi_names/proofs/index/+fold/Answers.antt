use Rattle.std.proofs.Common.{[], true, false, suc, get_or, arith, refl, sym, ap, ◌∙◌, ◌≡◌}
use Rattle.asl_tree.specs.View.{trees_of}
use Rattle.asl_meaning.specs.Declarations.{As}
use Rattle.acpi_names.specs.Mentions as M
use Rattle.acpi_names.specs.Mentions.{mentions, mentions_all, block_mentions, term_mentions}
use Rattle.acpi_names.specs.Parts.{object_of, part_of}
use Rattle.acpi_names.specs.Shown.{named_as, spot_as}
use Rattle.acpi_names.specs.Walked.{term_shape, first_trees, later_trees, node_tree, part_mentions}
use Rattle.acpi_names.specs.declared.part.NameRole.TheVariants as P
use Rattle.acpi_names.proofs.Closed.{extends_then}
use Rattle.acpi_names.proofs.Trees.{node_smaller}
use Rattle.acpi_names.proofs.Folds.{leads_none, leads_next, leads_whole, at_of}
use Rattle.acpi_names.proofs.Telling.{tells_one}
use Rattle.acpi_names.proofs.FoldTelling.{told_none, told_next, told_whole, told_value, told_as, told_no_more, leads_as, leads_here, led_by, told_by, shape_declares, shape_mentions_form, not_formed, plain_declares}
use Rattle.acpi_names.proofs.FoldTelling.{plain_mentions, is_form_shape, around, declared_leads, opened_leads, declared_tells, opened_tells, undeclared_part, untold_part, scope_leads, scope_tells, scope_undeclared, scope_untold}
use Rattle.acpi_names.proofs.index.+fold.Goals as goal

pub fold-fold_term-requires : goal.fold-fold_term-requires
fold-fold_term-requires t c =
    (omega (arith, c.decreases, node_smaller c.args.nodes.now c.loop-node.node-index c.node-item.result c.loop-node-test.true c.node-item.is), (omega (arith, c.requires.scope_in, c.loop-node.invariant.others.longer), c.loop-node.invariant.size))

pub fold-loop-node-init : goal.fold-loop-node-init
fold-loop-node-init t c = record {
  size = c.requires.all;
  others = record { longer = omega arith; same = λ n lt. refl };
  names = leads_none c.args.index.now.paths c.args.index.now.named.items c.args.nodes.now (get_or c.args.index.now.paths c.args.scope []);
  told = told_none c.args.index.now.paths c.args.index.now.named.items c.args.out.now.items c.args.nodes.now (get_or c.args.index.now.paths c.args.scope []);
}

pub fold-loop-node-preserved : goal.fold-loop-node-preserved
fold-loop-node-preserved t c =
    let now = c.in_ok-fold_term.ensures in record {
      size = now.size;
      others = extends_then c.args.index.now.paths c.loop-node.index.paths c.fold_term.new.index.paths c.loop-node.invariant.others now.others;
      names = leads_next c.args.index.now.paths c.loop-node.index.paths c.fold_term.new.index.paths c.args.index.now.named.items c.loop-node.index.named.items c.fold_term.new.index.named.items c.args.nodes.now c.loop-node.node-index c.node-item.result
          (get_or c.args.index.now.paths c.args.scope []) (get_or c.loop-node.index.paths c.args.scope []) c.loop-node-test.true c.node-item.is
          (c.loop-node.invariant.others.same c.args.scope c.requires.scope_in) c.loop-node.invariant.names now.names;
      told = told_next c.args.index.now.paths c.loop-node.index.paths c.fold_term.new.index.paths c.args.index.now.named.items c.loop-node.index.named.items c.args.out.now.items c.loop-node.out.items c.fold_term.new.out.items c.args.nodes.now c.loop-node.node-index c.node-item.result
          (get_or c.args.index.now.paths c.args.scope []) (get_or c.loop-node.index.paths c.args.scope []) c.loop-node-test.true c.node-item.is
          (c.loop-node.invariant.others.same c.args.scope c.requires.scope_in) now.others c.loop-node.invariant.names c.loop-node.invariant.told now.told;
    }

pub fold-returns-clause-names : goal.fold-returns-clause-names
fold-returns-clause-names t c =
    leads_whole c.args.index.now.paths c.loop-node.index.paths c.args.index.now.named.items c.loop-node.index.named.items c.args.nodes.now c.loop-node.node-index (get_or c.args.index.now.paths c.args.scope []) (omega (arith, c.loop-node-test.false)) c.loop-node.invariant.names

pub fold-returns-clause-told : goal.fold-returns-clause-told
fold-returns-clause-told t c =
    told_whole c.args.index.now.paths c.loop-node.index.paths c.args.index.now.named.items c.args.out.now.items c.loop-node.out.items c.args.nodes.now c.loop-node.node-index (get_or c.args.index.now.paths c.args.scope []) (omega (arith, c.loop-node-test.false)) c.loop-node.invariant.told

pub fold_declared-returns-in_ok-fold-in-Some-clause-names : goal.fold_declared-returns-in_ok-fold-in-Some-clause-names
fold_declared-returns-in_ok-fold-in-Some-clause-names t c =
    let now = c.in_ok-inner-in-Some.ensures in
    led_by c.args.index.now.paths c.fold.new.index.paths c.args.index.now.named.items c.fold.new.index.named.items (P.Declares c.args.place c.args.what true) _ (trees_of c.args.args.now) (trees_of c.args.body.now) (get_or c.args.index.now.paths c.args.scope []) (ap (λ b. P.Declares c.args.place c.args.what b) (sym c.if-opens.true))
    (opened_leads c.args.index.now.paths c.declared.new.index.paths c.fold.new.index.paths c.args.index.now.named.items c.declared.new.index.named.items c.fold.new.index.named.items c.args.place c.args.what (trees_of c.args.args.now) (trees_of c.args.body.now) (get_or c.args.index.now.paths c.args.scope []) (get_or c.declared.new.index.paths c.in_ok-inner-in-Some.inner [])
    (named_as c.in-Some.found) (sym c.in-Some.ensures) now.names now.path c.in_ok-fold-in-Some.ensures.names)

pub fold_declared-returns-in_ok-fold-in-Some-clause-told : goal.fold_declared-returns-in_ok-fold-in-Some-clause-told
fold_declared-returns-in_ok-fold-in-Some-clause-told t c here op =
    let now = c.in_ok-inner-in-Some.ensures in
    let m = named_as c.in-Some.found in
    told_by c.args.index.now.paths c.fold.new.index.paths c.args.index.now.named.items c.args.out.now.items c.fold.new.out.items (P.Declares c.args.place c.args.what true) _ here op (trees_of c.args.args.now) (trees_of c.args.body.now) (get_or c.args.index.now.paths c.args.scope []) (ap (λ b. P.Declares c.args.place c.args.what b) (sym c.if-opens.true))
    (opened_tells c.args.index.now.paths c.declared.new.index.paths c.fold.new.index.paths c.args.index.now.named.items c.declared.new.index.named.items c.args.out.now.items c.values-in-Some.new.out.items c.fold.new.out.items c.args.place c.args.what (trees_of c.args.args.now) (trees_of c.args.body.now) c.args.scope (get_or c.declared.new.index.paths c.in_ok-inner-in-Some.inner [])
    (spot_as here) op m c.requires.scope_in now.others c.in_ok-fold-in-Some.ensures.others (sym c.in-Some.ensures) now.names now.path
    (around c.args.out.now.items c.values.new.out.items c.push.new.self.items c.values-in-Some.new.out.items c.args.scope (first_trees c.args.place (trees_of c.args.args.now)) (later_trees (suc c.args.place) (trees_of c.args.args.now)) c.first_nodes.result.now c.later_nodes.result.now
    (λ s. M.Declares m.0 m.1 (As (object_of c.args.what)) s) c.first_nodes.ensures c.later_nodes.ensures c.in_ok-values-in-Some.ensures (tells_one c.values.new.out.items c.push.new.self.items _ c.in_ok-push-in-Some.ensures.items) c.in_ok-values-in-Some-2.ensures)
    c.in_ok-fold-in-Some.ensures.told)

pub fold_declared-returns-else-opens-clause-names : goal.fold_declared-returns-else-opens-clause-names
fold_declared-returns-else-opens-clause-names t c =
    let now = c.in_ok-inner-in-Some.ensures in
    led_by c.args.index.now.paths c.declared.new.index.paths c.args.index.now.named.items c.declared.new.index.named.items (P.Declares c.args.place c.args.what false) _ (trees_of c.args.args.now) (trees_of c.args.body.now) (get_or c.args.index.now.paths c.args.scope []) (ap (λ b. P.Declares c.args.place c.args.what b) (sym c.if-opens.false))
    (declared_leads c.args.index.now.paths c.declared.new.index.paths c.args.index.now.named.items c.declared.new.index.named.items c.args.place c.args.what (trees_of c.args.args.now) (trees_of c.args.body.now) (get_or c.args.index.now.paths c.args.scope []) (named_as c.in-Some.found) (sym c.in-Some.ensures) now.names)

pub fold_declared-returns-else-opens-clause-told : goal.fold_declared-returns-else-opens-clause-told
fold_declared-returns-else-opens-clause-told t c here op =
    let now = c.in_ok-inner-in-Some.ensures in
    let m = named_as c.in-Some.found in
    told_by c.args.index.now.paths c.declared.new.index.paths c.args.index.now.named.items c.args.out.now.items c.values-in-Some.new.out.items (P.Declares c.args.place c.args.what false) _ here op (trees_of c.args.args.now) (trees_of c.args.body.now) (get_or c.args.index.now.paths c.args.scope []) (ap (λ b. P.Declares c.args.place c.args.what b) (sym c.if-opens.false))
    (declared_tells c.args.index.now.paths c.declared.new.index.paths c.args.index.now.named.items c.args.out.now.items c.values-in-Some.new.out.items c.args.place c.args.what (trees_of c.args.args.now) (trees_of c.args.body.now) c.args.scope (spot_as here) op m c.requires.scope_in now.others (sym c.in-Some.ensures)
    (around c.args.out.now.items c.values.new.out.items c.push.new.self.items c.values-in-Some.new.out.items c.args.scope (first_trees c.args.place (trees_of c.args.args.now)) (later_trees (suc c.args.place) (trees_of c.args.args.now)) c.first_nodes.result.now c.later_nodes.result.now
    (λ s. M.Declares m.0 m.1 (As (object_of c.args.what)) s) c.first_nodes.ensures c.later_nodes.ensures c.in_ok-values-in-Some.ensures (tells_one c.values.new.out.items c.push.new.self.items _ c.in_ok-push-in-Some.ensures.items) c.in_ok-values-in-Some-2.ensures))

pub fold_declared-returns-in-None-clause-names : goal.fold_declared-returns-in-None-clause-names
fold_declared-returns-in-None-clause-names t c =
    leads_as c.args.index.now.paths c.args.index.now.paths c.args.index.now.named.items c.args.index.now.named.items _ _ (λ d. undeclared_part c.args.place c.args.what c.args.opens (trees_of c.args.args.now) (trees_of c.args.body.now) (get_or c.args.index.now.paths c.args.scope []) d (sym c.in-None.ensures)) (leads_here c.args.index.now.paths c.args.index.now.named.items)

pub fold_declared-returns-in-None-clause-told : goal.fold_declared-returns-in-None-clause-told
fold_declared-returns-in-None-clause-told t c here op =
    told_as c.args.index.now.paths c.args.index.now.paths c.args.index.now.named.items c.args.out.now.items c.args.out.now.items _ _
    (λ d agrees. untold_part c.args.place c.args.what c.args.opens (trees_of c.args.args.now) (trees_of c.args.body.now) (get_or c.args.index.now.paths c.args.scope []) (spot_as here) op d (sym c.in-None.ensures)) (told_no_more c.args.index.now.paths c.args.index.now.named.items c.args.out.now.items)

pub fold_scope-returns-in_ok-fold-in-Some-clause-names : goal.fold_scope-returns-in_ok-fold-in-Some-clause-names
fold_scope-returns-in_ok-fold-in-Some-clause-names t c =
    let now = c.in_ok-inner-in-Some.ensures in
    scope_leads c.args.index.now.paths c.opened_scope.new.index.paths c.fold.new.index.paths c.args.index.now.named.items c.opened_scope.new.index.named.items c.fold.new.index.named.items (trees_of c.args.args.now) (trees_of c.args.body.now) (get_or c.args.index.now.paths c.args.scope []) (get_or c.opened_scope.new.index.paths c.in_ok-inner-in-Some.inner [])
    (named_as c.in-Some.found) (sym c.in-Some.ensures) now.names now.path c.in_ok-fold-in-Some.ensures.names

pub fold_scope-returns-in_ok-fold-in-Some-clause-told : goal.fold_scope-returns-in_ok-fold-in-Some-clause-told
fold_scope-returns-in_ok-fold-in-Some-clause-told t c op =
    let now = c.in_ok-inner-in-Some.ensures in
    scope_tells c.args.index.now.paths c.opened_scope.new.index.paths c.fold.new.index.paths c.args.index.now.named.items c.opened_scope.new.index.named.items c.args.out.now.items c.push.new.self.items c.fold.new.out.items (trees_of c.args.args.now) (trees_of c.args.body.now) c.args.scope c.in_ok-inner-in-Some.inner (spot_as c.args.here) op
    (named_as c.in-Some.found) c.requires.scope_in now.within now.others c.in_ok-fold-in-Some.ensures.others (sym c.in-Some.ensures) now.names now.path (tells_one c.args.out.now.items c.push.new.self.items _ c.in_ok-push-in-Some.ensures.items) c.in_ok-fold-in-Some.ensures.told

pub fold_scope-returns-in-None-clause-names : goal.fold_scope-returns-in-None-clause-names
fold_scope-returns-in-None-clause-names t c =
    leads_as c.args.index.now.paths c.args.index.now.paths c.args.index.now.named.items c.args.index.now.named.items _ _ (λ d. scope_undeclared (trees_of c.args.args.now) (trees_of c.args.body.now) (get_or c.args.index.now.paths c.args.scope []) d (sym c.in-None.ensures)) (leads_here c.args.index.now.paths c.args.index.now.named.items)

pub fold_scope-returns-in-None-clause-told : goal.fold_scope-returns-in-None-clause-told
fold_scope-returns-in-None-clause-told t c op =
    told_as c.args.index.now.paths c.args.index.now.paths c.args.index.now.named.items c.args.out.now.items c.args.out.now.items _ _ (λ d agrees. scope_untold (trees_of c.args.args.now) (trees_of c.args.body.now) (get_or c.args.index.now.paths c.args.scope []) (spot_as c.args.here) op d (sym c.in-None.ensures)) (told_no_more c.args.index.now.paths c.args.index.now.named.items c.args.out.now.items)

pub fold_form-returns-in_ok-fold_declared-in-Declares-clause-names : goal.fold_form-returns-in_ok-fold_declared-in-Declares-clause-names
fold_form-returns-in_ok-fold_declared-in-Declares-clause-names t c =
    led_by c.args.index.now.paths c.fold_declared.new.index.paths c.args.index.now.named.items c.fold_declared.new.index.named.items (P.Declares c.in-Declares.name c.in-Declares.what c.in-Declares.opens) _ (trees_of c.args.args.now) (trees_of c.args.body.now) (get_or c.args.index.now.paths c.args.scope []) c.in-Declares.ensures (c.in_ok-fold_declared-in-Declares.ensures.names)

pub fold_form-returns-in_ok-fold_declared-in-Declares-clause-told : goal.fold_form-returns-in_ok-fold_declared-in-Declares-clause-told
fold_form-returns-in_ok-fold_declared-in-Declares-clause-told t c =
    told_by c.args.index.now.paths c.fold_declared.new.index.paths c.args.index.now.named.items c.args.out.now.items c.fold_declared.new.out.items (P.Declares c.in-Declares.name c.in-Declares.what c.in-Declares.opens) _ c.args.here c.args.op (trees_of c.args.args.now) (trees_of c.args.body.now)
    (get_or c.args.index.now.paths c.args.scope []) c.in-Declares.ensures (c.in_ok-fold_declared-in-Declares.ensures.told c.args.here c.args.op)

pub fold_form-returns-in_ok-fold_alias-in-Alias-clause-names : goal.fold_form-returns-in_ok-fold_alias-in-Alias-clause-names
fold_form-returns-in_ok-fold_alias-in-Alias-clause-names t c =
    led_by c.args.index.now.paths c.fold_alias.new.index.paths c.args.index.now.named.items c.fold_alias.new.index.named.items P.Alias _ (trees_of c.args.args.now) (trees_of c.args.body.now) (get_or c.args.index.now.paths c.args.scope []) c.in-Alias.ensures (c.in_ok-fold_alias-in-Alias.ensures.names (trees_of c.args.body.now))

pub fold_form-returns-in_ok-fold_alias-in-Alias-clause-told : goal.fold_form-returns-in_ok-fold_alias-in-Alias-clause-told
fold_form-returns-in_ok-fold_alias-in-Alias-clause-told t c =
    told_by c.args.index.now.paths c.fold_alias.new.index.paths c.args.index.now.named.items c.args.out.now.items c.fold_alias.new.out.items P.Alias _ c.args.here c.args.op (trees_of c.args.args.now) (trees_of c.args.body.now) (get_or c.args.index.now.paths c.args.scope []) c.in-Alias.ensures (c.in_ok-fold_alias-in-Alias.ensures.told c.args.here c.args.op (trees_of c.args.body.now))

pub fold_form-returns-in_ok-fold_external-in-External-clause-names : goal.fold_form-returns-in_ok-fold_external-in-External-clause-names
fold_form-returns-in_ok-fold_external-in-External-clause-names t c =
    led_by c.args.index.now.paths c.fold_external.new.index.paths c.args.index.now.named.items c.fold_external.new.index.named.items (P.External c.in-External.object c.in-External.parameters) _ (trees_of c.args.args.now) (trees_of c.args.body.now) (get_or c.args.index.now.paths c.args.scope []) c.in-External.ensures (c.in_ok-fold_external-in-External.ensures.names (trees_of c.args.body.now))

pub fold_form-returns-in_ok-fold_external-in-External-clause-told : goal.fold_form-returns-in_ok-fold_external-in-External-clause-told
fold_form-returns-in_ok-fold_external-in-External-clause-told t c =
    told_by c.args.index.now.paths c.fold_external.new.index.paths c.args.index.now.named.items c.args.out.now.items c.fold_external.new.out.items (P.External c.in-External.object c.in-External.parameters) _ c.args.here c.args.op (trees_of c.args.args.now) (trees_of c.args.body.now)
    (get_or c.args.index.now.paths c.args.scope []) c.in-External.ensures (c.in_ok-fold_external-in-External.ensures.told c.args.op (trees_of c.args.body.now))

pub fold_form-returns-in_ok-fold_scope-in-Scope-clause-names : goal.fold_form-returns-in_ok-fold_scope-in-Scope-clause-names
fold_form-returns-in_ok-fold_scope-in-Scope-clause-names t c =
    led_by c.args.index.now.paths c.fold_scope.new.index.paths c.args.index.now.named.items c.fold_scope.new.index.named.items P.Scope _ (trees_of c.args.args.now) (trees_of c.args.body.now) (get_or c.args.index.now.paths c.args.scope []) c.in-Scope.ensures (c.in_ok-fold_scope-in-Scope.ensures.names)

pub fold_form-returns-in_ok-fold_scope-in-Scope-clause-told : goal.fold_form-returns-in_ok-fold_scope-in-Scope-clause-told
fold_form-returns-in_ok-fold_scope-in-Scope-clause-told t c =
    told_by c.args.index.now.paths c.fold_scope.new.index.paths c.args.index.now.named.items c.args.out.now.items c.fold_scope.new.out.items P.Scope _ c.args.here c.args.op (trees_of c.args.args.now) (trees_of c.args.body.now) (get_or c.args.index.now.paths c.args.scope []) c.in-Scope.ensures (c.in_ok-fold_scope-in-Scope.ensures.told c.args.op)

pub fold_term-returns-in_ok-fold_form-in-Form-clause-names : goal.fold_term-returns-in_ok-fold_form-in-Form-clause-names
fold_term-returns-in_ok-fold_form-in-Form-clause-names t c =
    leads_as c.args.index.now.paths c.fold_form.new.index.paths c.args.index.now.named.items c.fold_form.new.index.named.items _ _ (λ d. sym (shape_declares (at_of c.args.node.now) c.args.node.now.term c.in-Form.op (trees_of c.in-Form.args.now) (trees_of c.in-Form.body.now) (get_or c.args.index.now.paths c.args.scope []) d c.in-Form.ensures.shape)) c.in_ok-fold_form-in-Form.ensures.names

pub fold_term-returns-in_ok-fold_form-in-Form-clause-told : goal.fold_term-returns-in_ok-fold_form-in-Form-clause-told
fold_term-returns-in_ok-fold_form-in-Form-clause-told t c =
    told_as c.args.index.now.paths c.fold_form.new.index.paths c.args.index.now.named.items c.args.out.now.items c.fold_form.new.out.items _ _ (λ d agrees.
    ap (λ at. part_mentions (part_of c.in-Form.op (trees_of c.in-Form.args.now) (trees_of c.in-Form.body.now)) at c.in-Form.op (trees_of c.in-Form.args.now) (trees_of c.in-Form.body.now) (get_or c.args.index.now.paths c.args.scope []) d) (ap spot_as c.spot_of.ensures)
    ∙ sym (shape_mentions_form (at_of c.args.node.now) c.args.node.now.term c.in-Form.op (trees_of c.in-Form.args.now) (trees_of c.in-Form.body.now) (get_or c.args.index.now.paths c.args.scope []) d c.in-Form.ensures.shape)) c.in_ok-fold_form-in-Form.ensures.told

pub fold_term-returns-in_ok-value-in_default-clause-names : goal.fold_term-returns-in_ok-value-in_default-clause-names
fold_term-returns-in_ok-value-in_default-clause-names t c =
    let flat : is_form_shape (term_shape c.args.node.now.term) ≡ false = ap is_form_shape (sym c.shape_of.ensures.shape) ∙ not_formed c.shape_of.result c.in_default.not-Form in
    leads_as c.args.index.now.paths c.args.index.now.paths c.args.index.now.named.items c.args.index.now.named.items _ _ (λ d. sym (plain_declares (at_of c.args.node.now) c.args.node.now.term (get_or c.args.index.now.paths c.args.scope []) d flat)) (leads_here c.args.index.now.paths c.args.index.now.named.items)

pub fold_term-returns-in_ok-value-in_default-clause-told : goal.fold_term-returns-in_ok-value-in_default-clause-told
fold_term-returns-in_ok-value-in_default-clause-told t c =
    let flat : is_form_shape (term_shape c.args.node.now.term) ≡ false = ap is_form_shape (sym c.shape_of.ensures.shape) ∙ not_formed c.shape_of.result c.in_default.not-Form in
    told_as c.args.index.now.paths c.args.index.now.paths c.args.index.now.named.items c.args.out.now.items c.value.new.out.items _ _ (λ d agrees. sym (plain_mentions (at_of c.args.node.now) c.args.node.now.term (get_or c.args.index.now.paths c.args.scope []) d flat))
    (told_value c.args.index.now.paths c.args.index.now.named.items c.args.out.now.items c.value.new.out.items c.args.scope (λ s. mentions true (node_tree c.args.node.now) s) c.requires.scope_in c.in_ok-value-in_default.ensures)

pub fold_form-returns-in_ok-fold_field-in-Units-clause-told : goal.fold_form-returns-in_ok-fold_field-in-Units-clause-told
fold_form-returns-in_ok-fold_field-in-Units-clause-told t c =
    told_by c.args.index.now.paths c.fold_field.new.index.paths c.args.index.now.named.items c.args.out.now.items c.fold_field.new.out.items (P.Units c.in-Units.over) _ c.args.here c.args.op (trees_of c.args.args.now) (trees_of c.args.body.now) (get_or c.args.index.now.paths c.args.scope []) c.in-Units.ensures (c.in_ok-fold_field-in-Units.ensures.told c.args.op)
