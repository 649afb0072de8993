-- The bytes of a node, form by form: an opcode, the arguments, and the body, which may be a package.
use Rattle.std.specs.Prelude.{ℕ, suc, ◌+◌, ◌%◌, Bool, true, false, nat_le, if◌then◌else◌, List, [], ◌∷◌, ◌++◌, length, Option, Some, None}
use Rattle.acpi_values.specs.Integers.{wrapped}
use Rattle.acpi_values.specs.Operators.{Letter}
use Rattle.asl_tree.specs.declared.term.Op.{Op}
use Rattle.asl_tree.specs.declared.term.Declaration.TheVariants as Declaration
use Rattle.asl_tree.specs.declared.term.Control.TheVariants as Control
use Rattle.asl_tree.specs.declared.term.Special.TheVariants as Special
use Rattle.asl_tree.specs.declared.term.Node.{Node}
use Rattle.asl_tree.specs.declared.term.Term.{Term}
use Rattle.asl_tree.specs.declared.term.Term as D
use Rattle.asl_tree.specs.Literals.{word_number}
use Rattle.aml_meaning.specs.Codes.{DebugCode, OmittedCode, StringCode, BufferCode, PackageCode, VarPackageCode, code_bytes}
use Rattle.aml_code.specs.Encoding.{integer_bytes, package_length_bytes}
use Rattle.aml_sizes.specs.declared.style.IntegerStyle.{IntegerStyle}
use Rattle.aml_sizes.specs.Leaves.{Leaf, leaf_of, leaves_of, operand_bytes, first_letter, letters_behind, fill_bytes, is_first_left_out}
use Rattle.aml_sizes.specs.Leaves.{stated_count}
use Rattle.aml_sizes.specs.Codes.{code_of, letters_of}
use Rattle.aml_sizes.specs.Items.{written_name}
use Rattle.aml_sizes.specs.Items.{written_items}

-- whether what follows the opcode is a package
abbrev pub is_package : Op → Bool
is_package (Op.Declaration Declaration.Method) = true
is_package (Op.Declaration Declaration.Device) = true
is_package (Op.Declaration Declaration.ThermalZone) = true
is_package (Op.Declaration Declaration.PowerResource) = true
is_package (Op.Declaration Declaration.Processor) = true
is_package (Op.Declaration Declaration.Scope) = true
is_package (Op.Control Control.If) = true
is_package (Op.Control Control.ElseIf) = true
is_package (Op.Control Control.Else) = true
is_package (Op.Control Control.While) = true
is_package (Op.Declaration Declaration.Field) = true
is_package (Op.Declaration Declaration.IndexField) = true
is_package (Op.Declaration Declaration.BankField) = true
is_package _ = false

-- a form up to its body, which has so many bytes
abbrev pub head_bytes : Op → List ℕ → ℕ → List ℕ
head_bytes op front body = code_of op ++ (if is_package op then package_length_bytes (length front + body) ++ front else front)

-- the number of parameters that an External does not state is 0
abbrev pub missing_bytes : ℕ → List ℕ
missing_bytes (suc (suc (suc n))) = []
missing_bytes _ = 0x00 ∷ []

abbrev pub package_code : Option ℕ → List ℕ
package_code None = code_bytes VarPackageCode
package_code (Some count) = if nat_le count 255 then code_bytes PackageCode else code_bytes VarPackageCode

module _ (style : IntegerStyle) where
  -- an integer constant
  abbrev pub number_bytes : ℕ → List ℕ
  number_bytes number = integer_bytes style.width style.short (wrapped style.width number)

  -- the size of a Buffer, which is that of its bytes where it is left out
  abbrev pub buffer_size : List Leaf → ℕ → List ℕ → List ℕ
  buffer_size args size front = if is_first_left_out args then number_bytes size else front

  -- the number of elements of a Package: a byte where it is a constant and there is room
  abbrev pub count_bytes : Option ℕ → List ℕ → List ℕ
  count_bytes None front = front
  count_bytes (Some count) front = if nat_le count 255 then (count % 256) ∷ [] else number_bytes count

  -- the body of a form, of which a Buffer lists bytes, and a field its units
  abbrev pub body_part : Op → List Leaf → List ℕ → List ℕ → List ℕ
  body_part (Op.Special Special.Buffer) body content items = fill_bytes body
  body_part (Op.Declaration Declaration.External) body content items = []
  body_part (Op.Declaration Declaration.Field) body content items = items
  body_part (Op.Declaration Declaration.IndexField) body content items = items
  body_part (Op.Declaration Declaration.BankField) body content items = items
  body_part op body content items = content

  -- what stands before a body of so many nodes and bytes
  abbrev pub front_part : Op → List Leaf → List ℕ → ℕ → ℕ → List ℕ
  front_part (Op.Special Special.Buffer) args front nodes size =
      let own = buffer_size args size front in code_bytes BufferCode ++ (package_length_bytes (length own + size) ++ own)
  front_part (Op.Special Special.Package) args front nodes size =
      let count = stated_count args nodes in
      let own = count_bytes count front in package_code count ++ (package_length_bytes (length own + size) ++ own)
  front_part (Op.Declaration Declaration.External) args front nodes size = head_bytes (Op.Declaration Declaration.External) front 0
      ++ missing_bytes (length args)
  front_part op args front nodes size = head_bytes op front size

  -- a form by its arguments, their bytes, its body, and the body's bytes as terms and as the list of a field
  abbrev pub whole_form : Op → List Leaf → List ℕ → List Leaf → List ℕ → List ℕ → List ℕ
  whole_form op args front body content items =
      let part = body_part op body content items in front_part op args front (length body) (length part) ++ part

  unfoldable mutual
    pub term_bytes : Term → List ℕ
    term_bytes (D.Integer number) = number_bytes number
    term_bytes (D.Text text) = code_bytes StringCode ++ (text ++ 0x00 ∷ [])
    term_bytes (D.Fill bytes named) = []
    term_bytes (D.Word word) = number_bytes (word_number word)
    term_bytes (D.Local index) = ((0x60 + index) % 256) ∷ []
    term_bytes (D.Arg index) = ((0x68 + index) % 256) ∷ []
    term_bytes D.Debug = code_bytes DebugCode
    term_bytes D.Omitted = code_bytes OmittedCode
    term_bytes (D.Unit segment bits) = []
    term_bytes (D.Skip bits) = []
    term_bytes (D.Offset bytes) = []
    term_bytes (D.Access access attribute count) = []
    term_bytes (D.Name path) = written_name path
    term_bytes (D.Call' path shape args) = written_name path ++ row_bytes [] args
    term_bytes (D.Form' op shape args shape' body) =
        whole_form op (leaves_of (D.items-the_row-Node _ args)) (row_bytes (letters_of op) args) (leaves_of (D.items-the_row-Node _ body))
        (row_bytes [] body) (written_items 0 (D.items-the_row-Node _ body))

    -- the bytes of some nodes, each as its letter asks
    pub row_bytes : List Letter → {m : _} → D.Row_of-Node m → List ℕ
    row_bytes letters D.end_of-Node = []
    row_bytes letters (D.more_of-Node id place term rest) = operand_bytes (first_letter letters) (leaf_of term) (term_bytes term)
        ++ row_bytes (letters_behind letters) rest

  unfoldable pub nodes_bytes : List Letter → List Node → List ℕ
  nodes_bytes letters [] = []
  nodes_bytes letters (node ∷ nodes) = operand_bytes (first_letter letters) (leaf_of node.term) (term_bytes node.term)
      ++ nodes_bytes (letters_behind letters) nodes
