-- A program declares the same with loops for its Switches, if each Default stands last.
use Rattle.std.proofs.Common.{◌≡◌, ℕ, suc, Bool, true, false, [], refl, ap, ◌∙◌}
use Rattle.acpi_values.specs.Paths.{AbsolutePath}
use Rattle.acpi_state.specs.Objects.{MethodObject, ContainerObject}
use Rattle.asl_tree.specs.Names.{declared_path}
use Rattle.asl_tree.specs.Tree.{Tree, Method, Container', Scope, If, ElseIf, Else, While, Switch, Case, Default, Break, Continue, Trees, no_trees, tree}
use Rattle.asl_meaning.specs.Declarations.{As, Declarations, nothing_declared, scope_path, with_declared, declare, declare_all, declarations}
use Rattle.hidden_locals.specs.Crossing.{have_continue}
use Rattle.hidden_locals.specs.Turns.{Plan, value_local, then_trees, loop_of, loop_terms, continue_terms}
use Rattle.hidden_locals.specs.Switches.{plan_of, opened, unswitched, unswitched_all, links, default_link, without_switches, HasDefaultsLast, HaveDefaultsLast, EndWithDefault}

-- one list behind another
pub then_declares : (ts us : Trees) (scope : AbsolutePath) (d : Declarations) → declare_all (then_trees ts us) scope d ≡ declare_all us scope (declare_all ts scope d)
then_declares no_trees us scope d = refl
then_declares (tree t ts) us scope d = then_declares ts us scope (declare t scope d)

loop_declares : (plan : Plan) (crossed inside : Bool) (value l : Tree) (chain rest : Trees) (scope : AbsolutePath) (d : Declarations) → declare_all (loop_terms plan crossed inside (loop_of value l chain) rest) scope d ≡ declare_all rest scope (declare_all chain scope d)
loop_declares plan false inside value l chain rest scope d = ap (declare_all rest scope) (then_declares chain (tree Break no_trees) scope d)
loop_declares plan true false value l chain rest scope d = ap (declare_all rest scope) (then_declares chain (tree Break no_trees) scope d)
loop_declares plan true true value l chain rest scope d = ap (declare_all rest scope) (then_declares chain (tree Break no_trees) scope d)

continue_declares : (plan : Plan) (inside : Bool) (rest : Trees) (scope : AbsolutePath) (d : Declarations) → declare_all (continue_terms plan inside rest) scope d ≡ declare_all rest scope d
continue_declares plan false rest scope d = refl
continue_declares plan true rest scope d = refl

opened_declares : (ts : Trees) (scope : AbsolutePath) (d : Declarations) → declare_all (opened ts) scope d ≡ declare_all ts scope d
opened_declares (tree (ElseIf test body) rest) scope d = refl
opened_declares (tree (Else body) no_trees) scope d = refl
opened_declares ts scope d = refl

mutual
  pub term_declares : (t : Tree) → HasDefaultsLast t → (plan : Plan) (level : ℕ) (inside : Bool) (scope : AbsolutePath) (d : Declarations) → declare (unswitched plan level inside t) scope d ≡ declare t scope d
  term_declares (If test body) h plan level inside scope d = all_declare body h plan level inside scope d
  term_declares (ElseIf test body) h plan level inside scope d = all_declare body h plan level inside scope d
  term_declares (Else body) h plan level inside scope d = all_declare body h plan level inside scope d
  term_declares (While test body) h plan level inside scope d = all_declare body h plan level false scope d
  term_declares (Container' kind at name body) h plan level inside scope d = all_declare body h plan level inside (declared_path name scope) (with_declared (declared_path name scope) (As (ContainerObject kind)) d)
  term_declares (Scope here at name body) h plan level inside scope d = all_declare body h plan level inside (scope_path d name scope) d
  term_declares (Method at name flags body) h plan level inside scope d = all_declare body h (plan_of body) 0 false (declared_path name scope) (with_declared (declared_path name scope) (As (MethodObject flags)) d)
  term_declares t h plan level inside scope d = refl

  pub links_declare : (cases : Trees) → EndWithDefault cases → (plan : Plan) (level : ℕ) (scope : AbsolutePath) (d : Declarations) → declare_all (links plan level cases (default_link plan level cases)) scope d ≡ declare_all cases scope d
  links_declare no_trees h plan level scope d = refl
  links_declare (tree (Case value body) cases) h plan level scope d =
      links_declare cases h.1 plan level scope (declare_all (unswitched_all plan (suc level) true body) scope d) ∙ ap (declare_all cases scope) (all_declare body h.0 plan (suc level) true scope d)
  links_declare (tree (Default body) no_trees) h plan level scope d = all_declare body h plan (suc level) true scope d
  links_declare (tree (Default body) (tree t ts)) h plan level scope d = absurd h
  links_declare (tree t cases) h plan level scope d = absurd h

  pub all_declare : (ts : Trees) → HaveDefaultsLast ts → (plan : Plan) (level : ℕ) (inside : Bool) (scope : AbsolutePath) (d : Declarations) → declare_all (unswitched_all plan level inside ts) scope d ≡ declare_all ts scope d
  all_declare no_trees h plan level inside scope d = refl
  all_declare (tree (Switch value cases) rest) h plan level inside scope d =
      loop_declares plan (have_continue cases) inside value (value_local plan level) (opened (links plan level cases (default_link plan level cases))) (unswitched_all plan level inside rest) scope d
      ∙ (ap (declare_all (unswitched_all plan level inside rest) scope) (opened_declares (links plan level cases (default_link plan level cases)) scope d ∙ links_declare cases h.0 plan level scope d) ∙ all_declare rest h.1 plan level inside scope (declare_all cases scope d))
  all_declare (tree Continue rest) h plan level inside scope d = continue_declares plan inside (unswitched_all plan level inside rest) scope d ∙ all_declare rest h.1 plan level inside scope d
  all_declare (tree t rest) h plan level inside scope d =
      ap (declare_all (unswitched_all plan level inside rest) scope) (term_declares t h.0 plan level inside scope d) ∙ all_declare rest h.1 plan level inside scope (declare t scope d)

pub chain_declares : (cases : Trees) → EndWithDefault cases → (plan : Plan) (level : ℕ) (scope : AbsolutePath) (d : Declarations) → declare_all (opened (links plan level cases (default_link plan level cases))) scope d ≡ declare_all cases scope d
chain_declares cases h plan level scope d = opened_declares (links plan level cases (default_link plan level cases)) scope d ∙ links_declare cases h plan level scope d

pub same_declarations : (program : Trees) → HaveDefaultsLast program → declarations (without_switches program) ≡ declarations program
same_declarations program h = all_declare program h (plan_of program) 0 false [] nothing_declared
