-- The texts of a format one after another, as they are read.
use Rattle.std.specs.Prelude.{ℕ, Bool, true, false, if◌then◌else◌, List, [], ◌∷◌, ◌++◌}
use Rattle.asl_tree.specs.Formats.{Cut, cut, is_hole, is_percent}
use Rattle.acpi_values.specs.declared.operator.Plain.{Plain}
use Rattle.acpi_values.specs.declared.operator.DataOp.TheVariants as DataOp
use Rattle.asl_tree.specs.Tree.{Tree, String, Apply, Misshapen, Trees, no_trees, tree}
use Rattle.asl_prints.specs.Forms.{with_arguments}
use Rattle.asl_prints.specs.Nodes.{Prints}
use Rattle.asl_prints.specs.declared.texts.Mark.{Mark}
use Rattle.asl_prints.specs.declared.texts.Mark.TheVariants as M

-- the text before the first argument, and then those behind each argument
abbrev pub all_texts : List ℕ → List (List ℕ)
all_texts format = (cut format).0 ∷ (cut format).1

abbrev pub mark_of : List ℕ → Mark
mark_of [] = M.End
mark_of (c ∷ []) = M.Byte c
mark_of (c ∷ d ∷ format) = if is_hole c d then M.Hole else if is_percent c d then M.Percent else M.Byte c

-- texts that were read, and the begin of one, before those of what is left
abbrev pub texts_with : List (List ℕ) → List ℕ → Cut → List (List ℕ)
texts_with texts text left = texts ++ (text ++ left.0) ∷ left.1

abbrev pub is_text : Tree → Bool
is_text (String text) = true
is_text _ = false

-- a format and its arguments, and what it says with them
abbrev pub CanFill : Trees → Type 0
CanFill (tree (String format) args) = Prints format args
CanFill _ = ⊥

abbrev pub text_tree : Trees → Tree
text_tree (tree (String format) args) = with_arguments (String (cut format).0) (cut format).1 args
text_tree _ = Misshapen

abbrev pub stored_tree : Tree → Tree → Tree
stored_tree value place = Apply (Plain.Data DataOp.Store) (tree value (tree place no_trees)) no_trees
