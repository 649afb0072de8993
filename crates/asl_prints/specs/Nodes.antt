-- Nodes as trees: of what a For and what prints are made.
use Rattle.std.specs.Prelude.{◌≡◌, ℕ, suc, ◌+◌, Bool, true, false, List, [], ◌∷◌}
use Rattle.acpi_values.specs.declared.width.Width.{Width}
use Rattle.acpi_values.specs.Paths.{AbsolutePath}
use Rattle.acpi_state.specs.State.{State}
use Rattle.asl_tree.specs.declared.term.Declaration.TheVariants as Declaration
use Rattle.asl_tree.specs.declared.term.Control.TheVariants as Control
use Rattle.asl_tree.specs.declared.term.Op.{Op}
use Rattle.asl_tree.specs.declared.term.Node.{Node}
use Rattle.asl_tree.specs.declared.term.Term.{Term}
use Rattle.asl_tree.specs.declared.term.Term as D
use Rattle.asl_tree.specs.Tree.{Tree, String, Debug, Omitted, Continue, Misshapen, Trees, no_trees, tree}
use Rattle.asl_tree.specs.View.{tree_of, row_trees, plain_of}
use Rattle.acpi_values.specs.declared.operator.Plain.{Plain}
use Rattle.acpi_values.specs.declared.operator.DataOp.{DataOp}
use Rattle.asl_tree.specs.Names.{Known}
use Rattle.asl_meaning.specs.Meaning.{run_all, call_method}
use Rattle.asl_prints.specs.Forms.{is_filled, print_tree}

-- the tree of a node
abbrev pub node_tree : Node → Tree
node_tree node = tree_of (record { id = node.id; place = node.place }) node.term

-- how large terms are, for the order in which they are walked
unfoldable mutual
  pub term_size : Term → ℕ
  term_size (D.Form' op shape args shape' body) = suc (row_size args + row_size body)
  term_size (D.Call' path shape args) = suc (row_size args)
  term_size _ = 0

  pub row_size : {m : _} → D.Row_of-Node m → ℕ
  row_size D.end_of-Node = 0
  row_size (D.more_of-Node id place term rest) = suc (term_size term + row_size rest)

unfoldable pub nodes_size : List Node → ℕ
nodes_size [] = 0
nodes_size (node ∷ nodes) = suc (term_size node.term + nodes_size nodes)

-- whether a Continue in the braces of a form belongs to the loop around it, where the braces are no scope
abbrev pub goes_in : Op → Bool
goes_in (Op.Control Control.If) = true
goes_in (Op.Control Control.ElseIf) = true
goes_in (Op.Control Control.Else) = true
goes_in (Op.Control Control.Switch) = true
goes_in (Op.Control Control.Case) = true
goes_in (Op.Control Control.Default) = true
goes_in _ = false

-- whether terms stand in the braces of a form
abbrev pub has_terms : Op → Bool
has_terms (Op.Declaration Declaration.Method) = true
has_terms (Op.Declaration Declaration.Device) = true
has_terms (Op.Declaration Declaration.ThermalZone) = true
has_terms (Op.Declaration Declaration.PowerResource) = true
has_terms (Op.Declaration Declaration.Processor) = true
has_terms (Op.Declaration Declaration.Scope) = true
has_terms (Op.Control Control.If) = true
has_terms (Op.Control Control.ElseIf) = true
has_terms (Op.Control Control.Else) = true
has_terms (Op.Control Control.While) = true
has_terms (Op.Control Control.For) = true
has_terms (Op.Control Control.Switch) = true
has_terms (Op.Control Control.Case) = true
has_terms (Op.Control Control.Default) = true
has_terms op = false

abbrev pub is_continue : Op → Bool
is_continue (Op.Control Control.Continue) = true
is_continue _ = false

abbrev pub none_in : Trees → Bool
none_in no_trees = true
none_in (tree t ts) = false

-- an operand that is there
abbrev pub IsGiven : Tree → Type 0
IsGiven Omitted = ⊥
IsGiven term = Unit {0}

abbrev pub AreGiven : Trees → Type 0
AreGiven no_trees = Unit {0}
AreGiven (tree term terms) = IsGiven term × AreGiven terms

-- an operator on data with its arguments, none of which is left out
abbrev pub plain_tree : DataOp → Trees → Tree
plain_tree op args = plain_of (Plain.Data op) args

-- a format with as many arguments as it asks for
abbrev pub Prints : List ℕ → Trees → Type 0
Prints format args = (is_filled format args ≡ true) × AreGiven args

-- the arguments of a Printf and of an Fprintf, and what stands for them
abbrev pub CanPrint : Op → Trees → Type 0
CanPrint (Op.Control Control.Printf) (tree (String format) args) = Prints format args
CanPrint (Op.Control Control.Fprintf) (tree place (tree (String format) args)) = Prints format args
CanPrint op args = ⊥

abbrev pub print_parts : Op → Trees → Tree
print_parts (Op.Control Control.Printf) (tree (String format) args) = print_tree Debug format args
print_parts (Op.Control Control.Fprintf) (tree place (tree (String format) args)) = print_tree place format args
print_parts op args = Misshapen

-- a Printf or an Fprintf with a format and as many arguments as it asks for, and with no braces
abbrev pub IsPrint : Term → Type 0
IsPrint (D.Form' op shape args shape' body) = CanPrint op (row_trees args) × (row_trees body ≡ no_trees)
IsPrint _ = ⊥

-- some terms do what others do, wherever they stand, from every state, with every bound
abbrev pub DoTheSame : Trees → Trees → Type 0
DoTheSame terms others =
    (width : Width) (known : Known) (turns depth : ℕ) (scope : AbsolutePath) (due : Bool) (s : State Trees) →
    run_all width known turns (call_method width known turns depth) others scope due s ≡ run_all width known turns
    (call_method width known turns depth) terms scope due s
