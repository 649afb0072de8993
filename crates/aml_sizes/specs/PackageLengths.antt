-- The lengths of the packages of terms (ACPI Specification 6.4, 20.2.4), in the order of the terms, a package before those inside it.
use Rattle.std.specs.Prelude.{◌≡◌, ℕ, ◌+◌, if◌then◌else◌, List, [], ◌∷◌, ◌++◌, length, reverse, Option, Some, None, Vec}
use Rattle.std.specs.declared.alloc.Global.{Global}
use Rattle.acpi_values.specs.Operators.{Letter}
use Rattle.acpi_values.specs.Operators as L
use Rattle.asl_tree.specs.declared.term.Op.{Op}
use Rattle.asl_tree.specs.declared.term.Declaration.TheVariants as Declaration
use Rattle.asl_tree.specs.declared.term.Control.TheVariants as Control
use Rattle.asl_tree.specs.declared.term.Special.TheVariants as Special
use Rattle.asl_tree.specs.declared.term.Node.{Node}
use Rattle.asl_tree.specs.declared.term.Term.{Term}
use Rattle.asl_tree.specs.declared.term.Term as D
use Rattle.aml_code.specs.Encoding.{package_length_bytes, prefixed_bytes}
use Rattle.aml_sizes.specs.declared.style.IntegerStyle.{IntegerStyle}
use Rattle.aml_sizes.specs.Leaves.{Leaf, leaves_of, first_letter, letters_behind, is_first_left_out, stated_count}
use Rattle.aml_sizes.specs.Codes.{letters_of}
use Rattle.aml_sizes.specs.Items.{written_items}
use Rattle.term_places.specs.Places.{holds_terms}
use Rattle.aml_sizes.specs.TermBytes.{is_package, head_bytes, buffer_size, count_bytes, body_part, row_bytes, nodes_bytes}
use Rattle.aml_sizes.specs.TermLists.{row_terms, row_later, terms_bytes, later_of}

-- a package of so many bytes after its length counts its length's bytes, too
abbrev pub package_length : ℕ → ℕ
package_length content = content + length (package_length_bytes content)

-- in the list of a field, a resource is a Buffer with its size
abbrev pub entry_lengths : Term → List ℕ
entry_lengths (D.Fill bytes named) = package_length (length (prefixed_bytes (length bytes)) + length bytes) ∷ []
entry_lengths _ = []

abbrev pub items_lengths : List Node → List ℕ
items_lengths [] = []
items_lengths (node ∷ nodes) = entry_lengths node.term ++ items_lengths nodes

-- a constant operand has no packages
abbrev pub operand_lengths : Letter → List ℕ → List ℕ
operand_lengths (L.Raw size) own = []
operand_lengths letter own = own

-- where a Package states its number of elements, nothing else is written of its argument
abbrev pub count_lengths : Option ℕ → List ℕ → List ℕ
count_lengths None own = own
count_lengths (Some count) own = []

-- of a form's arguments, given those of them as terms: the size of a Buffer that is left out has none
abbrev pub argument_lengths : Op → List Leaf → ℕ → List ℕ → List ℕ
argument_lengths (Op.Special Special.Buffer) args nodes own = if is_first_left_out args then [] else own
argument_lengths (Op.Special Special.Package) args nodes own = count_lengths (stated_count args nodes) own
argument_lengths op args nodes own = own

-- of a form's body, given those of it as terms and as the list of a field
abbrev pub body_lengths : Op → List ℕ → List ℕ → List ℕ
body_lengths (Op.Special Special.Buffer) content items = []
body_lengths (Op.Declaration Declaration.External) content items = []
body_lengths (Op.Declaration Declaration.Field) content items = items
body_lengths (Op.Declaration Declaration.IndexField) content items = items
body_lengths (Op.Declaration Declaration.BankField) content items = items
body_lengths op content items = content

module _ (style : IntegerStyle) where
  -- of a form that is a package, by its arguments, their bytes, and the number of nodes and of bytes of its body
  abbrev pub own_length : Op → List Leaf → List ℕ → ℕ → ℕ → List ℕ
  own_length (Op.Special Special.Buffer) args front nodes size = package_length (length (buffer_size style args size front) + size) ∷ []
  own_length (Op.Special Special.Package) args front nodes size =
      package_length (length (count_bytes style (stated_count args nodes) front) + size) ∷ []
  own_length op args front nodes size = if is_package op then package_length (length front + size) ∷ [] else []

  abbrev pub front_lengths : Op → List Leaf → List ℕ → List ℕ → ℕ → ℕ → List ℕ
  front_lengths op args front own nodes size = own_length op args front nodes size ++ argument_lengths op args nodes own

  unfoldable mutual
    pub term_lengths : Term → List ℕ
    term_lengths (D.Call' path shape args) = row_lengths [] args
    term_lengths (D.Form' op shape args shape' body) =
        let arg_nodes = D.items-the_row-Node _ args in
        let body_nodes = D.items-the_row-Node _ body in
        let part = body_part style op (leaves_of body_nodes) (row_bytes style [] body) (written_items 0 body_nodes) in
        front_lengths op (leaves_of arg_nodes) (row_bytes style (letters_of op) args) (row_lengths (letters_of op) args)
        (length (leaves_of body_nodes)) (length part) ++ body_lengths op (row_lengths [] body) (items_lengths body_nodes)
    term_lengths _ = []

    -- of some nodes, each as its letter asks
    pub row_lengths : List Letter → {m : _} → D.Row_of-Node m → List ℕ
    row_lengths letters D.end_of-Node = []
    row_lengths letters (D.more_of-Node id place term rest) = operand_lengths (first_letter letters) (term_lengths term)
        ++ row_lengths (letters_behind letters) rest

  unfoldable pub nodes_lengths : List Letter → List Node → List ℕ
  nodes_lengths letters [] = []
  nodes_lengths letters (node ∷ nodes) = operand_lengths (first_letter letters) (term_lengths node.term)
      ++ nodes_lengths (letters_behind letters) nodes

-- of a form that is a package up to its terms, which have so many bytes, before so many of its run: an ElseIf is two, the
-- Else and the If that begins it
abbrev pub head_lengths : Op → List ℕ → ℕ → ℕ → List ℕ
head_lengths (Op.Control Control.ElseIf) front size later =
    package_length (length (head_bytes (Op.Control Control.If) front size) + size + later) ∷ package_length (length front + size) ∷ []
head_lengths op front size later = if is_package op then package_length (length front + size) ∷ [] else []

module _ (style : IntegerStyle) where
  unfoldable mutual
    -- of a term before so many bytes of its run
    pub own_lengths : ℕ → Term → List ℕ
    own_lengths later (D.Form' op shape args shape' body) =
        if holds_terms op
        then head_lengths op (row_bytes style (letters_of op) args) (length (row_terms style body)) later
        ++ (row_lengths style (letters_of op) args ++ row_terms_lengths body)
        else term_lengths style (D.Form' op shape args shape' body)
    own_lengths later term = term_lengths style term

    pub row_terms_lengths : {m : _} → D.Row_of-Node m → List ℕ
    row_terms_lengths D.end_of-Node = []
    row_terms_lengths (D.more_of-Node id place term rest) = own_lengths (row_later style rest) term ++ row_terms_lengths rest

  -- of a list of terms
  unfoldable pub terms_lengths : List Node → List ℕ
  terms_lengths [] = []
  terms_lengths (node ∷ nodes) = own_lengths (later_of style nodes) node.term ++ terms_lengths nodes

  -- of a form whose body is a list of terms
  abbrev pub container_lengths : Op → List Node → List Node → ℕ → List ℕ
  container_lengths op args body later =
      head_lengths op (nodes_bytes style (letters_of op) args) (length (terms_bytes style body)) later
      ++ (nodes_lengths style (letters_of op) args ++ terms_lengths body)

-- lengths that were noted from the last to the first, if any were
abbrev pub in_order : Option (Vec ℕ Global) → Option (List ℕ)
in_order None = None
in_order (Some reversed) = Some (reverse reversed.items)

-- what is noted is these lengths before those that were; once nothing is noted, nothing is
abbrev pub Noted : List ℕ → Option (List ℕ) → Option (List ℕ) → Type 0
Noted lengths (Some before) (Some now) = now ≡ lengths ++ before
Noted lengths None (Some now) = ⊥
Noted lengths before None = Unit {0}
