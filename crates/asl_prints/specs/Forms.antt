-- What stands for a Printf, an Fprintf and a For: a Store of what Concatenates join, and a While that ends with the step.
use Rattle.std.specs.Prelude.{ℕ, Bool, true, false, not, ◌&&◌, ◌||◌, if◌then◌else◌, List, [], ◌∷◌}
use Rattle.acpi_values.specs.declared.operator.Plain.{Plain}
use Rattle.acpi_values.specs.declared.operator.DataOp.TheVariants as DataOp
use Rattle.asl_tree.specs.Formats.{cut}
use Rattle.asl_tree.specs.Tree.{Tree, Integer, Constant, String, InSlot, Debug, Omitted, Use, Call, Apply, Operated, Assigned}
use Rattle.asl_tree.specs.Tree.{AssignedBy, Buffer, Package, VarPackage, CondRefOf, Return, Name, Method, Container', Scope, If, ElseIf}
use Rattle.asl_tree.specs.Tree.{Else, While, Switch, Case, Default, Continue, For, Print, OperationRegion, BankField, CreateField, Trees}
use Rattle.asl_tree.specs.Tree.{no_trees, tree}
use Rattle.asl_meaning.specs.Continues.{have_continue}

-- some terms and others behind them
abbrev pub followed : Trees → Trees → Trees
followed no_trees us = us
followed (tree t ts) us = tree t (followed ts us)

abbrev pub concatenated : Tree → Tree → Tree
concatenated a b = Apply (Plain.Data DataOp.Concatenate) (tree a (tree b no_trees)) (tree Omitted no_trees)

-- a text is joined to what stands before it; an empty one is not
abbrev pub with_text : Tree → List ℕ → Tree
with_text t [] = t
with_text t (c ∷ text) = concatenated t (String (c ∷ text))

-- arguments, each with the text of a format behind it, are joined to what stands before them
abbrev pub with_arguments : Tree → List (List ℕ) → Trees → Tree
with_arguments t (text ∷ texts) (tree arg args) = with_arguments (with_text (concatenated t arg) text) texts args
with_arguments t texts args = t

abbrev pub print_tree : Tree → List ℕ → Trees → Tree
print_tree place format args =
    Apply (Plain.Data DataOp.Store) (tree (with_arguments (String (cut format).0) (cut format).1 args) (tree place no_trees)) no_trees

-- as many arguments as texts behind them
abbrev pub are_filled : List (List ℕ) → Trees → Bool
are_filled [] no_trees = true
are_filled (text ∷ texts) (tree arg args) = are_filled texts args
are_filled texts args = false

-- whether a term is there, and not left out
abbrev pub is_given : Tree → Bool
is_given Omitted = false
is_given term = true

abbrev pub are_given : Trees → Bool
are_given no_trees = true
are_given (tree arg args) = is_given arg && are_given args

-- a format has as many arguments as it asks for, and none is left out
abbrev pub is_filled : List ℕ → Trees → Bool
is_filled format args = are_given args && are_filled (cut format).1 args

-- a term that may be left out
abbrev pub optional : Tree → Trees
optional Omitted = no_trees
optional t = tree t no_trees

module _ (steps : Trees) where
  abbrev mutual
    -- the body of a For, in which each Continue that belongs to it has the step before it
    pub stepped : Tree → Tree
    stepped (If test body) = If test (stepped_all body)
    stepped (ElseIf test body) = ElseIf test (stepped_all body)
    stepped (Else body) = Else (stepped_all body)
    stepped (Switch value cases) = Switch value (stepped_all cases)
    stepped (Case value body) = Case value (stepped_all body)
    stepped (Default body) = Default (stepped_all body)
    stepped term = term

    pub stepped_all : Trees → Trees
    stepped_all no_trees = no_trees
    stepped_all (tree Continue terms) = followed steps (tree Continue (stepped_all terms))
    stepped_all (tree term terms) = tree (stepped term) (stepped_all terms)

abbrev pub while_tree : Tree → Trees → Trees → Tree
while_tree test steps body = While test (followed (stepped_all steps body) steps)

-- what stands for a For
abbrev pub for_trees : Tree → Tree → Tree → Trees → Trees
for_trees start test step body = followed (optional start) (tree (while_tree test (optional step) body) no_trees)

-- an expression, or a term that is left out
abbrev pub is_expression : Tree → Bool
is_expression (Integer number) = true
is_expression (Constant literal) = true
is_expression (String text) = true
is_expression (InSlot slot) = true
is_expression Debug = true
is_expression Omitted = true
is_expression (Use at name) = true
is_expression (Call at name args) = true
is_expression (Apply op args targets) = true
is_expression (Operated op args) = true
is_expression (Assigned target value) = true
is_expression (AssignedBy op target value) = true
is_expression (Buffer size bytes) = true
is_expression (Package count elements) = true
is_expression (VarPackage count elements) = true
is_expression (CondRefOf place target) = true
is_expression _ = false

-- whether a Continue that leaves a term stands in the braces of a Device, a Scope or another container, where names lead elsewhere
abbrev mutual
  pub has_far_continue : Tree → Bool
  has_far_continue (Container' kind at name body) = have_continue body
  has_far_continue (Scope here at name body) = have_continue body
  has_far_continue (If test body) = have_far_continue body
  has_far_continue (ElseIf test body) = have_far_continue body
  has_far_continue (Else body) = have_far_continue body
  has_far_continue (Switch value cases) = have_far_continue cases
  has_far_continue (Case value body) = have_far_continue body
  has_far_continue (Default body) = have_far_continue body
  has_far_continue _ = false

  pub have_far_continue : Trees → Bool
  have_far_continue no_trees = false
  have_far_continue (tree term terms) = has_far_continue term || have_far_continue terms

-- a For that may be written as a While: its step may stand before each of its Continues
abbrev pub is_steppable : Tree → Tree → Trees → Bool
is_steppable start step body = is_expression start && (is_expression step && not (have_far_continue body))

-- a term before those behind it: what stands for a For and for what prints, where it fits
abbrev pub spread : Tree → Trees → Trees
spread (For start test step body) rest = if is_steppable start step body then followed (for_trees start test step body) rest else
    tree (For start test step body) rest
spread (Print place format args) rest = if is_filled format args then tree (print_tree place format args) rest else
    tree (Print place format args) rest
spread term rest = tree term rest

-- a program with what stands for each For and for what prints, from the inside out
abbrev mutual
  pub formed : Tree → Tree
  formed (Call at name args) = Call at name (formed_args args)
  formed (Apply op args targets) = Apply op (formed_args args) (formed_args targets)
  formed (Operated op args) = Operated op (formed_args args)
  formed (Assigned target value) = Assigned (formed target) (formed value)
  formed (AssignedBy op target value) = AssignedBy op (formed target) (formed value)
  formed (Buffer size bytes) = Buffer (formed size) bytes
  formed (Package n elements) = Package n (formed_args elements)
  formed (VarPackage size elements) = VarPackage (formed size) (formed_args elements)
  formed (CondRefOf place target) = CondRefOf (formed place) (formed target)
  formed (Return value) = Return (formed value)
  formed (Name at name value) = Name at name (formed value)
  formed (Method at name flags body) = Method at name flags (formed_all body)
  formed (Container' kind at name body) = Container' kind at name (formed_all body)
  formed (Scope here at name body) = Scope here at name (formed_all body)
  formed (If test body) = If (formed test) (formed_all body)
  formed (ElseIf test body) = ElseIf (formed test) (formed_all body)
  formed (Else body) = Else (formed_all body)
  formed (While test body) = While (formed test) (formed_all body)
  formed (For start test step body) = For (formed start) (formed test) (formed step) (formed_all body)
  formed (Print place format args) = Print (formed place) format (formed_args args)
  formed (Switch value cases) = Switch (formed value) (formed_all cases)
  formed (Case value body) = Case (formed value) (formed_all body)
  formed (Default body) = Default (formed_all body)
  formed (OperationRegion at name space args) = OperationRegion at name space (formed_args args)
  formed (BankField here from region to bank value flags items) = BankField here from region to bank (formed value) flags items
  formed (CreateField form args at name) = CreateField form (formed_args args) at name
  formed term = term

  -- terms each by itself: arguments, and the elements of a Package
  pub formed_args : Trees → Trees
  formed_args no_trees = no_trees
  formed_args (tree term terms) = tree (formed term) (formed_args terms)

  -- the terms of a list
  pub formed_all : Trees → Trees
  formed_all no_trees = no_trees
  formed_all (tree term terms) = spread (formed term) (formed_all terms)
