-- A program declares the same with what stands for its Printf, Fprintf and For.
use Rattle.std.proofs.Common.{◌≡◌, Bool, true, false, [], refl, ap, ◌∙◌, arith}
use Rattle.std.specs.Prelude.{if◌then◌else◌, ◌&&◌, not}
use Rattle.acpi_values.specs.Paths.{AbsolutePath}
use Rattle.acpi_state.specs.Objects.{MethodObject, ContainerObject}
use Rattle.asl_tree.specs.Names.{declared_path}
use Rattle.asl_tree.specs.Tree.{Tree, Omitted, Name, Alias, External, Method, Mutex, Event, Container', Scope, If, ElseIf, Else, While, Continue, For, Print, Switch, Case, Default, OperationRegion, Field, IndexField, BankField, CreateField, Trees, no_trees, tree}
use Rattle.asl_meaning.specs.Declarations.{As, Declarations, nothing_declared, scope_path, with_declared, declare, declare_all, declarations}
use Rattle.asl_prints.specs.Forms.{followed, optional, stepped, stepped_all, while_tree, for_trees, print_tree, is_expression, is_steppable, is_filled, have_far_continue, spread, formed, formed_all}
use Rattle.asl_formats.proofs.Loops.{first_true}

-- an expression declares nothing
quiet : (t : Tree) → is_expression t ≡ true → (scope : AbsolutePath) (d : Declarations) → declare t scope d ≡ d
quiet (Name at name value) e scope d = absurd (grind arith)
quiet (Alias from source at name) e scope d = absurd (grind arith)
quiet (External here at name type parameters) e scope d = absurd (grind arith)
quiet (Method at name flags body) e scope d = absurd (grind arith)
quiet (Mutex at name level) e scope d = absurd (grind arith)
quiet (Event at name) e scope d = absurd (grind arith)
quiet (Container' kind at name body) e scope d = absurd (grind arith)
quiet (Scope here at name body) e scope d = absurd (grind arith)
quiet (If test body) e scope d = absurd (grind arith)
quiet (ElseIf test body) e scope d = absurd (grind arith)
quiet (Else body) e scope d = absurd (grind arith)
quiet (While test body) e scope d = absurd (grind arith)
quiet (For start test step body) e scope d = absurd (grind arith)
quiet (Switch value cases) e scope d = absurd (grind arith)
quiet (Case value body) e scope d = absurd (grind arith)
quiet (Default body) e scope d = absurd (grind arith)
quiet (OperationRegion at name space args) e scope d = absurd (grind arith)
quiet (Field here from region flags items) e scope d = absurd (grind arith)
quiet (IndexField here from index to register flags items) e scope d = absurd (grind arith)
quiet (BankField here from region to bank value flags items) e scope d = absurd (grind arith)
quiet (CreateField form args at name) e scope d = absurd (grind arith)
quiet t e scope d = refl

quiet_optional : (t : Tree) → is_expression t ≡ true → (scope : AbsolutePath) (d : Declarations) → declare_all (optional t) scope d ≡ d
quiet_optional Omitted e scope d = refl
quiet_optional t e scope d = quiet t e scope d

pub followed_declares : (ts us : Trees) (scope : AbsolutePath) (d : Declarations) → declare_all (followed ts us) scope d ≡ declare_all us scope (declare_all ts scope d)
followed_declares no_trees us scope d = refl
followed_declares (tree t ts) us scope d = followed_declares ts us scope (declare t scope d)

-- terms with steps that declare nothing before each Continue
module _ (steps : Trees) (silent : (scope : AbsolutePath) (d : Declarations) → declare_all steps scope d ≡ d) where
  mutual
    stepped_declares : (t : Tree) (scope : AbsolutePath) (d : Declarations) → declare (stepped steps t) scope d ≡ declare t scope d
    stepped_declares (If test body) scope d = stepped_all_declare body scope d
    stepped_declares (ElseIf test body) scope d = stepped_all_declare body scope d
    stepped_declares (Else body) scope d = stepped_all_declare body scope d
    stepped_declares (Switch value cases) scope d = stepped_all_declare cases scope d
    stepped_declares (Case value body) scope d = stepped_all_declare body scope d
    stepped_declares (Default body) scope d = stepped_all_declare body scope d
    stepped_declares t scope d = refl

    stepped_all_declare : (ts : Trees) (scope : AbsolutePath) (d : Declarations) → declare_all (stepped_all steps ts) scope d ≡ declare_all ts scope d
    stepped_all_declare no_trees scope d = refl
    stepped_all_declare (tree Continue ts) scope d =
        followed_declares steps (tree Continue (stepped_all steps ts)) scope d ∙ ap (declare_all (stepped_all steps ts) scope) (silent scope d) ∙ stepped_all_declare ts scope d
    stepped_all_declare (tree t ts) scope d =
        ap (declare_all (stepped_all steps ts) scope) (stepped_declares t scope d) ∙ stepped_all_declare ts scope (declare t scope d)

second_true : (a b : Bool) → (a && b) ≡ true → b ≡ true
second_true true b h = h
second_true false b h = absurd (grind arith)

-- what stands for a For declares what its body does
loop_declares : (start test step : Tree) (body rest : Trees) → is_steppable start step body ≡ true → (scope : AbsolutePath) (d : Declarations) → declare_all (followed (for_trees start test step body) rest) scope d ≡ declare_all rest scope (declare_all body scope d)
loop_declares start test step body rest e scope d =
    let one = first_true (is_expression start) (is_expression step && not (have_far_continue body)) e in
    let two = first_true (is_expression step) (not (have_far_continue body)) (second_true (is_expression start) (is_expression step && not (have_far_continue body)) e) in
    let silent : (scope : AbsolutePath) (d : Declarations) → declare_all (optional step) scope d ≡ d = λ scope d. quiet_optional step two scope d in
    followed_declares (for_trees start test step body) rest scope d
    ∙ ap (declare_all rest scope)
    (followed_declares (optional start) (tree (while_tree test (optional step) body) no_trees) scope d
    ∙ ap (declare_all (tree (while_tree test (optional step) body) no_trees) scope) (quiet_optional start one scope d)
    ∙ followed_declares (stepped_all (optional step) body) (optional step) scope d
    ∙ silent scope (declare_all (stepped_all (optional step) body) scope d)
    ∙ stepped_all_declare (optional step) silent body scope d)

spread_declares : (t : Tree) (rest : Trees) (scope : AbsolutePath) (d : Declarations) → declare_all (spread t rest) scope d ≡ declare_all rest scope (declare t scope d)
spread_declares (For start test step body) rest scope d = by_fit (is_steppable start step body) refl
  where
    by_fit : (c : Bool) → is_steppable start step body ≡ c → declare_all (if c then followed (for_trees start test step body) rest else tree (For start test step body) rest) scope d ≡ declare_all rest scope (declare_all body scope d)
    by_fit true e = loop_declares start test step body rest e scope d
    by_fit false e = refl
spread_declares (Print place format args) rest scope d = by_fit (is_filled format args)
  where
    by_fit : (c : Bool) → declare_all (if c then tree (print_tree place format args) rest else tree (Print place format args) rest) scope d ≡ declare_all rest scope d
    by_fit true = refl
    by_fit false = refl
spread_declares t rest scope d = refl

mutual
  pub formed_declares : (t : Tree) (scope : AbsolutePath) (d : Declarations) → declare (formed t) scope d ≡ declare t scope d
  formed_declares (Method at name flags body) scope d = all_declare body (declared_path name scope) (with_declared (declared_path name scope) (As (MethodObject flags)) d)
  formed_declares (Container' kind at name body) scope d = all_declare body (declared_path name scope) (with_declared (declared_path name scope) (As (ContainerObject kind)) d)
  formed_declares (Scope here at name body) scope d = all_declare body (scope_path d name scope) d
  formed_declares (If test body) scope d = all_declare body scope d
  formed_declares (ElseIf test body) scope d = all_declare body scope d
  formed_declares (Else body) scope d = all_declare body scope d
  formed_declares (While test body) scope d = all_declare body scope d
  formed_declares (For start test step body) scope d = all_declare body scope d
  formed_declares (Switch value cases) scope d = all_declare cases scope d
  formed_declares (Case value body) scope d = all_declare body scope d
  formed_declares (Default body) scope d = all_declare body scope d
  formed_declares t scope d = refl

  pub all_declare : (ts : Trees) (scope : AbsolutePath) (d : Declarations) → declare_all (formed_all ts) scope d ≡ declare_all ts scope d
  all_declare no_trees scope d = refl
  all_declare (tree t ts) scope d =
      spread_declares (formed t) (formed_all ts) scope d ∙ ap (declare_all (formed_all ts) scope) (formed_declares t scope d) ∙ all_declare ts scope (declare t scope d)

-- the declarations of a program are those of the program with what stands for its Printf, Fprintf and For
pub same_declarations : (program : Trees) → declarations (formed_all program) ≡ declarations program
same_declarations program = all_declare program [] nothing_declared
