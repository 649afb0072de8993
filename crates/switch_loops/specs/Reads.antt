-- The Locals that the forms of terms name.
use Rattle.std.specs.Prelude.{◌≡◌, ◌<◌, ℕ, length, Bool, true, false, not, if◌then◌else◌, List, [], ◌∷◌, ◌++◌, filter, set, Option, Some}
use Rattle.std.specs.Prelude.{None, slice_get}
use Rattle.acpi_values.specs.Operators.{row_of}
use Rattle.acpi_values.specs.Operators as L
use Rattle.acpi_state.specs.Outcomes.{choose}
use Rattle.asl_operators.specs.Letters.{letter_as}
use Rattle.asl_operators.specs.declared.letter.Letter.{Letter}
use Rattle.asl_tree.specs.declared.term.Op.{Op}
use Rattle.asl_tree.specs.Tree.{Tree, Trees, no_trees, tree}
use Rattle.acpi_names.specs.declared.part.NameRole.{NameRole}
use Rattle.acpi_names.specs.declared.part.NameRole.TheVariants as P
use Rattle.acpi_names.specs.declared.part.ValueForm.{ValueForm}
use Rattle.acpi_names.specs.declared.part.ValueForm.TheVariants as V
use Rattle.acpi_names.specs.Parts.{is_item_list, part_of}
use Rattle.acpi_names.specs.Walked.{value_form_of}
use Rattle.hidden_locals.specs.Locals.{is_named, locals, locals_all}
use Rattle.switch_loops.specs.declared.locals.Reads.{Reads}

-- ---- eight marks, one for each Local

abbrev pub none_named : List Bool
none_named = false ∷ false ∷ false ∷ false ∷ false ∷ false ∷ false ∷ false ∷ []

abbrev pub marked : List Bool → ℕ → List Bool
marked named i = set named i true

abbrev pub marked_all : List Bool → List ℕ → List Bool
marked_all named [] = named
marked_all named (i ∷ is) = marked_all (marked named i) is

abbrev pub is_marked : List Bool → ℕ → Bool
is_marked named i = choose (slice_get named i) false (λ b. b)

abbrev pub others_of : List Bool → List ℕ
others_of named = filter (λ i. not (is_marked named i)) (0 ∷ 1 ∷ 2 ∷ 3 ∷ 4 ∷ 5 ∷ 6 ∷ 7 ∷ [])

-- what is marked stays so, and the Locals of a list are marked, perhaps with others
pub record Marks (before : List Bool) (ls : List ℕ) (after : List Bool) : Type 0 where
  pub size : length after ≡ length before
  pub kept : (i : ℕ) → is_marked before i ≡ true → is_marked after i ≡ true
  pub named : (i : ℕ) → i < length before → is_named ls i ≡ true → is_marked after i ≡ true

-- ---- what of a form may name Locals

abbrev pub value_reads : ValueForm → Reads
value_reads V.Nothing = Reads.Nothing
value_reads (V.Operator op) = Reads.Operands op
value_reads V.Package = Reads.All
value_reads _ = Reads.Arguments

abbrev pub part_reads : NameRole → Op → Trees → Trees → Reads
part_reads P.Nothing op args body = value_reads (value_form_of op args body)
part_reads (P.Declares n what opens) op args body = if opens then Reads.All else Reads.Arguments
part_reads P.Alias op args body = Reads.Nothing
part_reads (P.External type parameters) op args body = Reads.Nothing
part_reads P.Scope op args body = Reads.All
part_reads P.Within op args body = Reads.All
part_reads P.Returns op args body = Reads.Arguments
part_reads P.Prints op args body = Reads.Arguments
part_reads (P.Units over) op args body = if is_item_list body then Reads.Arguments else Reads.Nothing

abbrev pub reads_of : Op → Trees → Trees → Reads
reads_of op args body = part_reads (part_of op args body) op args body

-- a constant names no Local, whatever is written for it
abbrev pub is_raw : L.Letter → Bool
is_raw (L.Raw size) = true
is_raw letter = false

abbrev pub is_constant : Option Letter → Bool
is_constant None = false
is_constant (Some letter) = is_raw (letter_as letter)

abbrev pub letter_names : Bool → Tree → List ℕ
letter_names constant t = if constant then [] else locals t

abbrev pub operand_locals : List L.Letter → Trees → List ℕ
operand_locals letters no_trees = []
operand_locals [] (tree t ts) = locals t ++ operand_locals [] ts
operand_locals (letter ∷ letters) (tree t ts) = letter_names (is_raw letter) t ++ operand_locals letters ts

abbrev pub form_locals : Reads → Trees → Trees → List ℕ
form_locals Reads.Nothing args body = []
form_locals Reads.Arguments args body = locals_all args
form_locals (Reads.Operands op) args body = operand_locals (row_of op).operands args
form_locals Reads.All args body = locals_all args ++ locals_all body
