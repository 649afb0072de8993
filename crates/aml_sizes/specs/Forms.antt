-- Forms by their nodes, and which of them need no rule.
use Rattle.std.specs.Prelude.{ℕ, Bool, true, false, not, ◌||◌, List, [], ◌++◌, length}
use Rattle.asl_tree.specs.declared.term.Op.{Op}
use Rattle.asl_tree.specs.declared.term.Declaration.TheVariants as Declaration
use Rattle.asl_tree.specs.declared.term.Special.TheVariants as Special
use Rattle.asl_tree.specs.declared.term.Node.{Node}
use Rattle.aml_sizes.specs.declared.style.IntegerStyle.{IntegerStyle}
use Rattle.aml_sizes.specs.Leaves.{leaves_of}
use Rattle.aml_sizes.specs.Codes.{letters_of}
use Rattle.aml_sizes.specs.Items.{written_items}
use Rattle.aml_sizes.specs.TermBytes.{is_package, body_part, whole_form, nodes_bytes}
use Rattle.aml_sizes.specs.PackageLengths.{items_lengths, body_lengths, front_lengths, nodes_lengths}

-- whether the bytes of a form follow a rule of its own
abbrev pub has_own_rule : Op → Bool
has_own_rule (Op.Special Special.Buffer) = true
has_own_rule (Op.Special Special.Package) = true
has_own_rule (Op.Declaration Declaration.External) = true
has_own_rule _ = false

-- whether a form is its opcode, its arguments and its body, one behind another
abbrev pub is_plain : Op → Bool
is_plain op = not (has_own_rule op || is_package op)

module _ (style : IntegerStyle) where
  abbrev pub form_bytes : Op → List Node → List Node → List ℕ
  form_bytes op args body = whole_form style op (leaves_of args) (nodes_bytes style (letters_of op) args) (leaves_of body)
      (nodes_bytes style [] body) (written_items 0 body)

  -- the lengths of its packages
  abbrev pub form_lengths : Op → List Node → List Node → List ℕ
  form_lengths op args body =
      front_lengths style op (leaves_of args) (nodes_bytes style (letters_of op) args) (nodes_lengths style (letters_of op) args)
      (length (leaves_of body)) (length (body_part style op (leaves_of body) (nodes_bytes style [] body) (written_items 0 body)))
      ++ body_lengths op (nodes_lengths style [] body) (items_lengths body)
