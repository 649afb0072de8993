-- The laws of folding, whether it is asked for or not.
use Rattle.std.proofs.Common.{◌≡◌, ℕ, Bool, true, false, List, refl}
use Rattle.acpi_values.specs.declared.width.Width.{Width}
use Rattle.acpi_values.specs.Values.{Value}
use Rattle.acpi_state.specs.Objects.{Names}
use Rattle.acpi_state.specs.Sessions.{Request}
use Rattle.asl_tree.specs.FieldItems.{FieldItem}
use Rattle.asl_tree.specs.Names.{Known}
use Rattle.asl_tree.specs.Tree.{Trees, UnitName}
use Rattle.asl_meaning.specs.Declarations.{declarations, externals, known_of}
use Rattle.asl_meaning.specs.SourceSession.{source_session}
use Rattle.acpi_names.specs.Errors.{whole_of, name_errors, type_errors}
use Rattle.named_sessions.specs.Shaped.{AreFormed, AreShaped}
use Rattle.asl_fold.specs.Folds.{folded_where}
use Rattle.asl_fold.proofs.Same.{same_folded}
use Rattle.asl_fold.proofs.Declared.{same_declarations, same_externals, same_known, same_whole}
use Rattle.asl_fold.proofs.Errors.{same_name_errors, same_type_errors}
use Rattle.asl_fold.proofs.Formed.{kept_formed, kept_shaped}

pub where_sessions : (asked : Bool) (width : Width) (known : Known) (terms : Trees) (there : Names) (n : ℕ) (answers : List Value) (requests : List Request)
    → source_session width known (folded_where asked width terms) there n answers requests ≡ source_session width known terms there n answers requests
where_sessions true width known terms there n answers requests = same_folded width known terms there n answers requests
where_sessions false width known terms there n answers requests = refl

pub where_declarations : (asked : Bool) (width : Width) (program : Trees) → declarations (folded_where asked width program) ≡ declarations program
where_declarations true width program = same_declarations width program
where_declarations false width program = refl

pub where_externals : (asked : Bool) (width : Width) (program : Trees) → externals (folded_where asked width program) ≡ externals program
where_externals true width program = same_externals width program
where_externals false width program = refl

pub where_known : (asked : Bool) (width : Width) (program : Trees) → known_of (folded_where asked width program) ≡ known_of program
where_known true width program = same_known width program
where_known false width program = refl

pub where_whole : (asked : Bool) (width : Width) (program : Trees) → whole_of (folded_where asked width program) ≡ whole_of program
where_whole true width program = same_whole width program
where_whole false width program = refl

pub where_name_errors : (asked : Bool) (width : Width) (program : Trees) → name_errors (folded_where asked width program) ≡ name_errors program
where_name_errors true width program = same_name_errors width program
where_name_errors false width program = refl

pub where_type_errors : (asked : Bool) (width : Width) (program : Trees) → type_errors (folded_where asked width program) ≡ type_errors program
where_type_errors true width program = same_type_errors width program
where_type_errors false width program = refl

pub where_formed : (Listed : List (FieldItem UnitName) → Type 0) (Symbols Switches : Type 0) (asked : Bool) (width : Width) (terms : Trees) → AreFormed ⊥ Listed Symbols Switches terms → AreFormed ⊥ Listed Symbols Switches (folded_where asked width terms)
where_formed Listed Symbols Switches true width terms h = kept_formed Listed Symbols Switches width terms h
where_formed Listed Symbols Switches false width terms h = h

pub where_shaped : (asked : Bool) (width : Width) (terms : Trees) → AreShaped terms → AreShaped (folded_where asked width terms)
where_shaped true width terms h = kept_shaped width terms h
where_shaped false width terms h = h
