-- A program whose constants are folded has Locals enough where it had them.
use Rattle.std.proofs.Common.{Bool, true, false, [], ◌++◌, refl}
use Rattle.acpi_values.specs.declared.operator.Plain.{Plain}
use Rattle.acpi_values.specs.declared.width.Width.{Width}
use Rattle.asl_tree.specs.Tree.{Tree, Call, Apply, Operated, Assigned, AssignedBy, Buffer, Package, VarPackage, CondRefOf, Return, Name, Method, Container', Scope, If, ElseIf, Else, While, For, Print, Switch, Case, Default, OperationRegion, BankField, CreateField, Trees, no_trees, tree}
use Rattle.asl_fold.specs.Folds.{reduced, sized, folded, folded_args, folded_all, folded_where}
use Rattle.asl_fold.proofs.Values.{sized_as, reduced_as, Targets, NoTarget, OneTarget, LastTarget}
use Rattle.hidden_locals.specs.Locals.{locals, locals_all}
use Rattle.hidden_locals.specs.Switches.{HaveLocals}
use Rattle.hidden_locals.proofs.Steady.{Fewer, fewer_none, fewer_join, fewer_left, fewer_right, fewer_both, Steady, SteadyAll, same_term, same_terms, steady_more, have_enough, steady_if, steady_else_if, steady_else, steady_while, steady_for, steady_switch, steady_case, steady_default, steady_container, steady_scope, steady_method}

target_fewer : (ts : Trees) (t : Tree) → Targets ts t → Fewer (locals t) (locals_all ts)
target_fewer _ _ NoTarget = fewer_none []
target_fewer _ _ (OneTarget t) = fewer_left (locals t) (locals t) [] (λ i e. e)
target_fewer _ _ (LastTarget t) = fewer_left (locals t) (locals t) [] (λ i e. e)

module _ (width : Width) where
  -- what an operator becomes
  reduced_steady : (statement : Bool) (op : Plain) (args targets : Trees) → Fewer (locals_all (folded_args width args)) (locals_all args) → Fewer (locals_all (folded_args width targets)) (locals_all targets)
      → Steady (reduced width statement op (folded_args width args) (folded_args width targets)) (Apply op args targets)
  reduced_steady statement op args targets h k =
      reduced_as (λ t. Steady t (Apply op args targets)) width statement op (folded_args width args) (folded_args width targets)
      (record { same_depth = refl; same_crossed = refl; same_continue = refl; fewer = fewer_both (locals_all (folded_args width args)) (locals_all args) (locals_all (folded_args width targets)) (locals_all targets) (h) (k); has = λ k. tt })
      (λ n le all given. record { same_depth = refl; same_crossed = refl; same_continue = refl; fewer = fewer_none (locals_all args ++ locals_all targets); has = λ k. tt })
      (λ n target le all given. record {
        same_depth = refl;
        same_crossed = refl;
        same_continue = refl;
        fewer = fewer_join (locals target ++ []) [] (locals_all args ++ locals_all targets)
            (fewer_join (locals target) [] (locals_all args ++ locals_all targets) (fewer_right (locals target) (locals_all args) (locals_all targets) (λ i e. k i (target_fewer (folded_args width targets) target given i e))) (fewer_none (locals_all args ++ locals_all targets)))
            (fewer_none (locals_all args ++ locals_all targets));
        has = λ k. tt;
      })

  sized_steady : (size : Tree) (elements : Trees) → Fewer (locals (folded width false size)) (locals size) → Fewer (locals_all (folded_args width elements)) (locals_all elements)
      → Steady (sized (folded width false size) (folded_args width elements)) (VarPackage size elements)
  sized_steady size elements h k =
      sized_as (λ t. Steady t (VarPackage size elements)) (folded width false size) (folded_args width elements)
      (λ n e lt. record { same_depth = refl; same_crossed = refl; same_continue = refl; fewer = fewer_right (locals_all (folded_args width elements)) (locals size) (locals_all elements) k; has = λ k. tt })
      (record { same_depth = refl; same_crossed = refl; same_continue = refl; fewer = fewer_both (locals (folded width false size)) (locals size) (locals_all (folded_args width elements)) (locals_all elements) (h) (k); has = λ k. tt })

  mutual
    steady : (statement : Bool) (t : Tree) → Steady (folded width statement t) t
    steady statement (Call at name args) = record { same_depth = refl; same_crossed = refl; same_continue = refl; fewer = args_fewer args; has = λ k. tt }
    steady statement (Buffer size bytes) = record { same_depth = refl; same_crossed = refl; same_continue = refl; fewer = (steady false size).fewer; has = λ k. tt }
    steady statement (Package n elements) = record { same_depth = refl; same_crossed = refl; same_continue = refl; fewer = args_fewer elements; has = λ k. tt }
    steady statement (CondRefOf place target) = record { same_depth = refl; same_crossed = refl; same_continue = refl; fewer = fewer_both (locals (folded width false place)) (locals place) (locals (folded width false target)) (locals target) ((steady false place).fewer) ((steady false target).fewer); has = λ k. tt }
    steady statement (Return value) = record { same_depth = refl; same_crossed = refl; same_continue = refl; fewer = (steady false value).fewer; has = λ k. tt }
    steady statement (Name at name value) = record { same_depth = refl; same_crossed = refl; same_continue = refl; fewer = (steady false value).fewer; has = λ k. tt }
    steady statement (OperationRegion at name space args) = record { same_depth = refl; same_crossed = refl; same_continue = refl; fewer = args_fewer args; has = λ k. tt }
    steady statement (BankField here from region to bank value flags items) = record { same_depth = refl; same_crossed = refl; same_continue = refl; fewer = (steady false value).fewer; has = λ k. tt }
    steady statement (CreateField form args at name) = record { same_depth = refl; same_crossed = refl; same_continue = refl; fewer = args_fewer args; has = λ k. tt }
    steady statement (Method at name flags body) = steady_method at name flags (folded_all width body) body (all_steady body)
    steady statement (Container' kind at name body) = steady_container kind at name (folded_all width body) body (all_steady body)
    steady statement (Scope here at name body) = steady_scope here at name (folded_all width body) body (all_steady body)
    steady statement (If test body) = steady_if (folded width false test) test (folded_all width body) body ((steady false test).fewer) (all_steady body)
    steady statement (ElseIf test body) = steady_else_if (folded width false test) test (folded_all width body) body ((steady false test).fewer) (all_steady body)
    steady statement (While test body) = steady_while (folded width false test) test (folded_all width body) body ((steady false test).fewer) (all_steady body)
    steady statement (For start test step body) = steady_for (folded width false start) start (folded width false test) test (folded width false step) step (folded_all width body) body ((steady false start).fewer) ((steady false test).fewer) ((steady false step).fewer) (all_steady body)
    steady statement (Print place format args) = record { same_depth = refl; same_crossed = refl; same_continue = refl; fewer = fewer_both (locals (folded width false place)) (locals place) (locals_all (folded_args width args)) (locals_all args) ((steady false place).fewer) (args_fewer args); has = λ k. tt }
    steady statement (Else body) = steady_else (folded_all width body) body (all_steady body)
    steady statement (Switch value cases) = steady_switch (folded width false value) value (folded_all width cases) cases ((steady false value).fewer) (all_steady cases)
    steady statement (Case value body) = steady_case (folded width false value) value (folded_all width body) body ((steady false value).fewer) (all_steady body)
    steady statement (Default body) = steady_default (folded_all width body) body (all_steady body)
    steady statement (Apply op args targets) = reduced_steady statement op args targets (args_fewer args) (args_fewer targets)
    steady statement (VarPackage size elements) = sized_steady size elements (steady false size).fewer (args_fewer elements)
    steady statement (Operated op args) = record { same_depth = refl; same_crossed = refl; same_continue = refl; fewer = args_fewer args; has = λ k. tt }
    steady statement (Assigned target value) = record { same_depth = refl; same_crossed = refl; same_continue = refl; fewer = fewer_both (locals (folded width false target)) (locals target) (locals (folded width false value)) (locals value) ((steady false target).fewer) ((steady false value).fewer); has = λ k. tt }
    steady statement (AssignedBy op target value) = record { same_depth = refl; same_crossed = refl; same_continue = refl; fewer = fewer_both (locals (folded width false target)) (locals target) (locals (folded width false value)) (locals value) ((steady false target).fewer) ((steady false value).fewer); has = λ k. tt }
    steady statement t = same_term t

    args_fewer : (ts : Trees) → Fewer (locals_all (folded_args width ts)) (locals_all ts)
    args_fewer no_trees = λ i e. e
    args_fewer (tree t ts) = fewer_both (locals (folded width false t)) (locals t) (locals_all (folded_args width ts)) (locals_all ts) (steady false t).fewer (args_fewer ts)

    all_steady : (ts : Trees) → SteadyAll (folded_all width ts) ts
    all_steady no_trees = same_terms no_trees
    all_steady (tree t ts) = steady_more (folded width true t) t (folded_all width ts) ts (steady true t) (all_steady ts)

pub folded_locals : (width : Width) (program : Trees) → HaveLocals program → HaveLocals (folded_all width program)
folded_locals width program h = have_enough (folded_all width program) program (all_steady width program) h

-- whether that is asked for or not
pub where_locals : (asked : Bool) (width : Width) (program : Trees) → HaveLocals program → HaveLocals (folded_where asked width program)
where_locals true width program h = folded_locals width program h
where_locals false width program h = h
