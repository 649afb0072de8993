-- What the arguments and the braces of forms are: whether a form is an expression, and how a Continue leaves it.
use Rattle.std.specs.Prelude.{ℕ, zero, suc, Bool, true, false, ◌&&◌}
use Rattle.acpi_values.specs.Operators.{row_of}
use Rattle.asl_tree.specs.declared.term.Declaration.TheVariants as Declaration
use Rattle.asl_tree.specs.declared.term.Control.TheVariants as Control
use Rattle.asl_tree.specs.declared.term.Special.TheVariants as Special
use Rattle.asl_tree.specs.declared.term.Symbolic.TheVariants as Symbolic
use Rattle.asl_tree.specs.declared.term.Op.{Op}
use Rattle.asl_tree.specs.Tree.{Tree, Integer, Use, Trees, no_trees, tree}
use Rattle.asl_tree.specs.View.{fits}
use Rattle.asl_meaning.specs.Continues.{have_continue}
use Rattle.asl_prints.specs.Forms.{have_far_continue}
use Rattle.asl_prints.specs.Nodes.{none_in}
use Rattle.asl_prints.specs.declared.leave.Braces.{Braces}
use Rattle.asl_prints.specs.declared.leave.Braces.TheVariants as B

-- so many terms
abbrev pub are : ℕ → Trees → Bool
are zero no_trees = true
are zero (tree t ts) = false
are (suc n) no_trees = false
are (suc n) (tree t ts) = are n ts

abbrev pub is_use : Tree → Bool
is_use (Use at name) = true
is_use _ = false

abbrev pub is_integer : Tree → Bool
is_integer (Integer number) = true
is_integer _ = false

abbrev pub are_integers : Trees → Bool
are_integers no_trees = true
are_integers (tree t ts) = is_integer t && are_integers ts

-- so many integers
abbrev pub integers : ℕ → Trees → Bool
integers zero no_trees = true
integers zero (tree t ts) = false
integers (suc n) (tree (Integer number) ts) = integers n ts
integers (suc n) ts = false

-- a name, and so many integers behind it
abbrev pub is_named_with : ℕ → Trees → Bool
is_named_with n (tree (Use at name) ts) = integers n ts
is_named_with n ts = false

-- whether a form is an expression
abbrev pub expresses : Op → Trees → Trees → Bool
expresses (Op.Plain op) args body = none_in body
expresses (Op.Literal literal) args body = none_in args && none_in body
expresses (Op.Special Special.CondRefOf) args body = are 2 args && none_in body
expresses (Op.Special Special.Buffer) args body = are 1 args
expresses (Op.Special Special.Package) args body = are 1 args
expresses (Op.Symbolic (Symbolic.Operator op)) args body = none_in body && fits (row_of op).operands args
expresses (Op.Symbolic Symbolic.Assign) args body = are 2 args && none_in body
expresses (Op.Symbolic (Symbolic.AssignBy op)) args body = are 2 args && none_in body
expresses _ args body = false

abbrev pub braced : Bool → Braces → Braces
braced true braces = braces
braced false braces = B.Closed

-- what the braces of a form are to a Continue in them
abbrev pub braces_in : Op → Trees → Braces
braces_in (Op.Control Control.If) args = braced (are 1 args) B.Open
braces_in (Op.Control Control.ElseIf) args = braced (are 1 args) B.Open
braces_in (Op.Control Control.Else) args = braced (are 0 args) B.Open
braces_in (Op.Control Control.Switch) args = braced (are 1 args) B.Open
braces_in (Op.Control Control.Case) args = braced (are 1 args) B.Open
braces_in (Op.Control Control.Default) args = braced (are 0 args) B.Open
braces_in (Op.Declaration Declaration.Device) args = braced (is_named_with 0 args) B.Scope
braces_in (Op.Declaration Declaration.ThermalZone) args = braced (is_named_with 0 args) B.Scope
braces_in (Op.Declaration Declaration.Scope) args = braced (is_named_with 0 args) B.Scope
braces_in (Op.Declaration Declaration.PowerResource) args = braced (is_named_with 2 args) B.Scope
braces_in (Op.Declaration Declaration.Processor) args = braced (is_named_with 3 args) B.Scope
braces_in _ args = B.Closed

-- whether a Continue leaves a form with such braces, which may itself be one
abbrev pub leaves : Braces → Bool → Trees → Bool
leaves B.Open itself body = have_continue body
leaves B.Scope itself body = have_continue body
leaves B.Closed itself body = itself

-- whether one leaves it from the braces of a container
abbrev pub leaves_far : Braces → Trees → Bool
leaves_far B.Open body = have_far_continue body
leaves_far B.Scope body = have_continue body
leaves_far B.Closed body = false
