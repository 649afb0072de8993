-- A program with its constants folded: an integer operator on constants is its result, which a target takes by a Store. Operators are
-- folded from the leaves up.
use Rattle.std.specs.Prelude.{ℕ, zero, suc, Bool, true, false, if◌then◌else◌, List, [], ◌∷◌, Option, Some, None, Result, Ok, Err}
use Rattle.acpi_values.specs.declared.width.Width.{Width}
use Rattle.acpi_values.specs.declared.fault.Fault.{Fault}
use Rattle.acpi_values.specs.declared.operator.IntOp.{IntOp}
use Rattle.acpi_values.specs.declared.operator.DataOp.TheVariants as DataOp
use Rattle.acpi_values.specs.declared.operator.Plain.{Plain}
use Rattle.acpi_values.specs.Integers.{wrapped, applied}
use Rattle.acpi_values.specs.Operators.{row_of}
use Rattle.acpi_state.specs.Forms.{LocalSlot}
use Rattle.acpi_state.specs.Outcomes.{choose}
use Rattle.asl_tree.specs.Constants.{is_unary}
use Rattle.asl_tree.specs.Literals.{literal_number}
use Rattle.asl_tree.specs.Tree.{Tree, Integer, Constant, InSlot, Omitted, Call, Apply, Buffer, Package, VarPackage, CondRefOf, Return}
use Rattle.asl_tree.specs.Tree.{Name, Method, Container', Scope, If, ElseIf, Else, While, For, Print, OperationRegion, BankField}
use Rattle.asl_tree.specs.Tree.{CreateField, Operated, Assigned, AssignedBy, Trees, no_trees, tree, Switch, Case, Default}
use Rattle.asl_tree.specs.View.{counted}
use Rattle.asl_fold.specs.declared.fate.Fate.{Fate}

-- an integer, or one of the words Zero, One and Ones
abbrev pub constant : Width → Tree → Option ℕ
constant width (Integer number) = Some (wrapped width number)
constant width (Constant literal) = Some (literal_number width literal)
constant width _ = None

abbrev pub constants : Width → Trees → List (Option ℕ)
constants width no_trees = []
constants width (tree t ts) = constant width t ∷ constants width ts

abbrev pub without_fault : Result ℕ Fault → Option ℕ
without_fault (Ok n) = Some n
without_fault (Err f) = None

-- what an operator of one operand, or of two, gives on constants, where it does not fault
abbrev pub result_on : Width → IntOp → Bool → List (Option ℕ) → Option ℕ
result_on width op true (Some a ∷ []) = without_fault (applied op width a 0)
result_on width op false (Some a ∷ Some b ∷ []) = without_fault (applied op width a b)
result_on width op unary values = None

-- With a target, which may be left out: a result is stored into a Local, and in a statement, whose value nobody takes, into any place.
abbrev pub fate_at : Bool → Tree → ℕ → Fate
fate_at statement Omitted n = Fate.Becomes n
fate_at statement (InSlot (LocalSlot index)) n = Fate.Stores n
fate_at statement target n = if statement then Fate.Stores n else Fate.Stays

-- with so many targets; a Divide that has one for the remainder stays
abbrev pub fate_with : Bool → ℕ → Trees → ℕ → Fate
fate_with statement zero no_trees n = Fate.Becomes n
fate_with statement (suc zero) (tree target no_trees) n = fate_at statement target n
fate_with statement (suc (suc zero)) (tree Omitted (tree target no_trees)) n = fate_at statement target n
fate_with statement many targets n = Fate.Stays

-- what becomes of an integer operator
abbrev pub fate_of : Width → Bool → IntOp → Trees → Trees → Fate
fate_of width statement op args targets =
    choose (result_on width op (is_unary op) (constants width args)) Fate.Stays
    (fate_with statement (row_of (Plain.Number op)).targets targets)

abbrev pub last_of : Trees → Trees
last_of no_trees = no_trees
last_of (tree t no_trees) = tree t no_trees
last_of (tree t ts) = last_of ts

-- an operator, by what becomes of it
abbrev pub replaced : Fate → Plain → Trees → Trees → Tree
replaced Fate.Stays op args targets = Apply op args targets
replaced (Fate.Becomes n) op args targets = Integer n
replaced (Fate.Stores n) op args targets = Apply (Plain.Data DataOp.Store) (tree (Integer n) (last_of targets)) no_trees

-- an operator on what is folded
abbrev pub reduced : Width → Bool → Plain → Trees → Trees → Tree
reduced width statement (Plain.Number op) args targets = replaced (fate_of width statement op args targets) (Plain.Number op) args targets
reduced width statement op args targets = Apply op args targets

-- a Package of so many elements: a constant number up to 255 is a byte
abbrev pub sized : Tree → Trees → Tree
sized (Integer n) elements = counted n elements
sized size elements = VarPackage size elements

module _ (width : Width) where
  abbrev mutual
    -- a term, which is a statement or not; of what is written with a symbol the operands alone
    pub folded : Bool → Tree → Tree
    folded statement (Call at name args) = Call at name (folded_args args)
    folded statement (Apply op args targets) = reduced width statement op (folded_args args) (folded_args targets)
    folded statement (Operated op args) = Operated op (folded_args args)
    folded statement (Assigned target value) = Assigned (folded false target) (folded false value)
    folded statement (AssignedBy op target value) = AssignedBy op (folded false target) (folded false value)
    folded statement (Buffer size bytes) = Buffer (folded false size) bytes
    folded statement (Package n elements) = Package n (folded_args elements)
    folded statement (VarPackage size elements) = sized (folded false size) (folded_args elements)
    folded statement (CondRefOf place target) = CondRefOf (folded false place) (folded false target)
    folded statement (Return value) = Return (folded false value)
    folded statement (Name at name value) = Name at name (folded false value)
    folded statement (Method at name flags body) = Method at name flags (folded_all body)
    folded statement (Container' kind at name body) = Container' kind at name (folded_all body)
    folded statement (Scope here at name body) = Scope here at name (folded_all body)
    folded statement (If test body) = If (folded false test) (folded_all body)
    folded statement (ElseIf test body) = ElseIf (folded false test) (folded_all body)
    folded statement (Else body) = Else (folded_all body)
    folded statement (While test body) = While (folded false test) (folded_all body)
    folded statement (For start test step body) = For (folded false start) (folded false test) (folded false step) (folded_all body)
    folded statement (Print place format args) = Print (folded false place) format (folded_args args)
    folded statement (Switch value cases) = Switch (folded false value) (folded_all cases)
    folded statement (Case value body) = Case (folded false value) (folded_all body)
    folded statement (Default body) = Default (folded_all body)
    folded statement (OperationRegion at name space args) = OperationRegion at name space (folded_args args)
    folded statement (BankField here from region to bank value flags items) = BankField here from region to bank (folded false value) flags
        items
    folded statement (CreateField form args at name) = CreateField form (folded_args args) at name
    folded statement term = term

    -- terms each by itself: arguments, targets, and the elements of a Package
    pub folded_args : Trees → Trees
    folded_args no_trees = no_trees
    folded_args (tree term terms) = tree (folded false term) (folded_args terms)

    -- the terms of a list
    pub folded_all : Trees → Trees
    folded_all no_trees = no_trees
    folded_all (tree term terms) = tree (folded true term) (folded_all terms)

-- a program with its constants folded, where that is asked for, and else as it is
abbrev pub folded_where : Bool → Width → Trees → Trees
folded_where true width terms = folded_all width terms
folded_where false width terms = terms
