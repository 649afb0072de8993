-- A program whose operators are named has Locals enough where it had them.
use Rattle.std.proofs.Common.{ℕ, zero, suc, List, [], ◌++◌, Option, Some, None, refl}
use Rattle.acpi_values.specs.declared.operator.Plain.{Plain}
use Rattle.acpi_values.specs.Operators.{row_of}
use Rattle.asl_meaning.specs.Meaning.{target_operator}
use Rattle.asl_tree.specs.declared.term.Compound.{Compound}
use Rattle.asl_tree.specs.Symbols.{compound_operator}
use Rattle.asl_tree.specs.Tree.{Tree, Omitted, Call, Apply, Operated, Assigned, AssignedBy, Buffer, Package, VarPackage, CondRefOf, Return, Name, Method, Container', Scope, If, ElseIf, Else, While, For, Print, Switch, Case, Default, OperationRegion, BankField, CreateField, Trees, no_trees, tree}
use Rattle.asl_lower.specs.Nodes.{given, last_target, applied, assigned, assigned_by, named, inner_args, named_all}
use Rattle.hidden_locals.specs.Locals.{locals, locals_all}
use Rattle.hidden_locals.specs.Switches.{HaveLocals}
use Rattle.hidden_locals.proofs.Steady.{Fewer, fewer_none, fewer_join, fewer_left, fewer_right, fewer_both, Steady, SteadyAll, same_term, same_terms, steady_more, have_enough, steady_if, steady_else_if, steady_else, steady_while, steady_for, steady_switch, steady_case, steady_default, steady_container, steady_scope, steady_method}

-- ---- operators

given_fewer : (t : Tree) (ys : List ℕ) → Fewer (locals t) ys → Fewer (locals (given t)) ys
given_fewer Omitted ys h = h
given_fewer t ys h = h

last_fewer : (n : ℕ) (target : Tree) (ys : List ℕ) → Fewer (locals target) ys → Fewer (locals_all (last_target n target)) ys
last_fewer zero target ys h = fewer_none ys
last_fewer (suc zero) target ys h = fewer_join (locals target) [] ys h (fewer_none ys)
last_fewer (suc (suc n)) target ys h = last_fewer (suc n) target ys h

applied_fewer : (op : Plain) (args : Trees) (target : Tree) (ys : List ℕ) → Fewer (locals_all args) ys → Fewer (locals target) ys → Fewer (locals (applied op args target)) ys
applied_fewer op args target ys h k = fewer_join (locals_all args) (locals_all (last_target (row_of op).targets target)) ys h (last_fewer (row_of op).targets target ys k)

pair_fewer : (a b : Tree) (ys : List ℕ) → Fewer (locals a) ys → Fewer (locals b) ys → Fewer (locals_all (tree a (tree b no_trees))) ys
pair_fewer a b ys h k = fewer_join (locals a) (locals b ++ []) ys h (fewer_join (locals b) [] ys k (fewer_none ys))

stored_fewer : (args : Trees) (target value : Tree) (ys : List ℕ) → Fewer (locals target) ys → Fewer (locals value) ys → Fewer (locals (assigned None args target value)) ys
stored_fewer args target value ys h k = fewer_join (locals_all (tree (given value) (tree target no_trees))) [] ys (pair_fewer (given value) target ys (given_fewer value ys k) h) (fewer_none ys)

by_fewer : (op : Compound) (target value : Tree) → Fewer (locals (named target)) (locals target) → Fewer (locals (named value)) (locals value) → Fewer (locals (assigned_by op (named target) (named value))) (locals target ++ locals value)
by_fewer op target value h k =
    let all : List ℕ = locals target ++ locals value in
    let first : Fewer (locals (named target)) all = fewer_left (locals (named target)) (locals target) (locals value) h in
    let second : Fewer (locals (named value)) all = fewer_right (locals (named value)) (locals target) (locals value) k in
    applied_fewer (compound_operator op) (tree (given (named target)) (tree (given (named value)) no_trees)) (named target) all
    (pair_fewer (given (named target)) (given (named value)) all (given_fewer (named target) all first) (given_fewer (named value) all second)) first

assigned_fewer : (target value : Tree) → Fewer (locals (named target)) (locals target) → Fewer (locals (named value)) (locals value) → Fewer (locals_all (inner_args value)) (locals value)
    → Fewer (locals (assigned (target_operator value) (inner_args value) (named target) (named value))) (locals target ++ locals value)
assigned_fewer target value h k inner = by (target_operator value)
  where
    by : (o : Option Plain) → Fewer (locals (assigned o (inner_args value) (named target) (named value))) (locals target ++ locals value)
    by None = stored_fewer (inner_args value) (named target) (named value) (locals target ++ locals value) (fewer_left (locals (named target)) (locals target) (locals value) h) (fewer_right (locals (named value)) (locals target) (locals value) k)
    by (Some op) = applied_fewer op (inner_args value) (named target) (locals target ++ locals value) (fewer_right (locals_all (inner_args value)) (locals target) (locals value) inner) (fewer_left (locals (named target)) (locals target) (locals value) h)

-- ---- terms

mutual
  steady : (t : Tree) → Steady (named t) t
  steady (Call at name args) = record { same_depth = refl; same_crossed = refl; same_continue = refl; fewer = (all_steady args).fewer; has = λ k. tt }
  steady (Buffer size bytes) = record { same_depth = refl; same_crossed = refl; same_continue = refl; fewer = (steady size).fewer; has = λ k. tt }
  steady (Package n elements) = record { same_depth = refl; same_crossed = refl; same_continue = refl; fewer = (all_steady elements).fewer; has = λ k. tt }
  steady (CondRefOf place target) = record { same_depth = refl; same_crossed = refl; same_continue = refl; fewer = fewer_both (locals (named place)) (locals place) (locals (named target)) (locals target) ((steady place).fewer) ((steady target).fewer); has = λ k. tt }
  steady (Return value) = record { same_depth = refl; same_crossed = refl; same_continue = refl; fewer = (steady value).fewer; has = λ k. tt }
  steady (Name at name value) = record { same_depth = refl; same_crossed = refl; same_continue = refl; fewer = (steady value).fewer; has = λ k. tt }
  steady (OperationRegion at name space args) = record { same_depth = refl; same_crossed = refl; same_continue = refl; fewer = (all_steady args).fewer; has = λ k. tt }
  steady (BankField here from region to bank value flags items) = record { same_depth = refl; same_crossed = refl; same_continue = refl; fewer = (steady value).fewer; has = λ k. tt }
  steady (CreateField form args at name) = record { same_depth = refl; same_crossed = refl; same_continue = refl; fewer = (all_steady args).fewer; has = λ k. tt }
  steady (Method at name flags body) = steady_method at name flags (named_all body) body (all_steady body)
  steady (Container' kind at name body) = steady_container kind at name (named_all body) body (all_steady body)
  steady (Scope here at name body) = steady_scope here at name (named_all body) body (all_steady body)
  steady (If test body) = steady_if (named test) test (named_all body) body ((steady test).fewer) (all_steady body)
  steady (ElseIf test body) = steady_else_if (named test) test (named_all body) body ((steady test).fewer) (all_steady body)
  steady (While test body) = steady_while (named test) test (named_all body) body ((steady test).fewer) (all_steady body)
  steady (For start test step body) = steady_for (named start) start (named test) test (named step) step (named_all body) body ((steady start).fewer) ((steady test).fewer) ((steady step).fewer) (all_steady body)
  steady (Print place format args) = record { same_depth = refl; same_crossed = refl; same_continue = refl; fewer = fewer_both (locals (named place)) (locals place) (locals_all (named_all args)) (locals_all args) ((steady place).fewer) (all_steady args).fewer; has = λ k. tt }
  steady (Else body) = steady_else (named_all body) body (all_steady body)
  steady (Switch value cases) = steady_switch (named value) value (named_all cases) cases ((steady value).fewer) (all_steady cases)
  steady (Case value body) = steady_case (named value) value (named_all body) body ((steady value).fewer) (all_steady body)
  steady (Default body) = steady_default (named_all body) body (all_steady body)
  steady (Apply op args targets) = record { same_depth = refl; same_crossed = refl; same_continue = refl; fewer = fewer_both (locals_all (named_all args)) (locals_all args) (locals_all (named_all targets)) (locals_all targets) (all_steady args).fewer (all_steady targets).fewer; has = λ k. tt }
  steady (VarPackage size elements) = record { same_depth = refl; same_crossed = refl; same_continue = refl; fewer = fewer_both (locals (named size)) (locals size) (locals_all (named_all elements)) (locals_all elements) ((steady size).fewer) (all_steady elements).fewer; has = λ k. tt }
  steady (Operated op args) = record { same_depth = refl; same_crossed = refl; same_continue = refl; fewer = applied_fewer op (named_all args) Omitted (locals_all args) (all_steady args).fewer (fewer_none (locals_all args)); has = λ k. tt }
  steady (Assigned target value) = record { same_depth = refl; same_crossed = refl; same_continue = refl; fewer = assigned_fewer target value (steady target).fewer (steady value).fewer (inner_fewer value); has = λ k. tt }
  steady (AssignedBy op target value) = record { same_depth = refl; same_crossed = refl; same_continue = refl; fewer = by_fewer op target value (steady target).fewer (steady value).fewer; has = λ k. tt }
  steady t = same_term t

  inner_fewer : (value : Tree) → Fewer (locals_all (inner_args value)) (locals value)
  inner_fewer (Operated op args) = (all_steady args).fewer
  inner_fewer value = fewer_none (locals value)

  all_steady : (ts : Trees) → SteadyAll (named_all ts) ts
  all_steady no_trees = same_terms no_trees
  all_steady (tree t ts) = steady_more (named t) t (named_all ts) ts (steady t) (all_steady ts)

pub named_locals : (program : Trees) → HaveLocals program → HaveLocals (named_all program)
named_locals program h = have_enough (named_all program) program (all_steady program) h
