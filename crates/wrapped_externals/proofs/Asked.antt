-- The laws of Externals in Ifs, whether these are asked for or not.
use Rattle.std.proofs.Common.{◌≡◌, ℕ, Bool, true, false, List, refl}
use Rattle.acpi_values.specs.declared.width.Width.{Width}
use Rattle.acpi_values.specs.Values.{Value}
use Rattle.acpi_state.specs.Objects.{Names}
use Rattle.acpi_state.specs.Sessions.{Request}
use Rattle.asl_tree.specs.Names.{Known}
use Rattle.asl_tree.specs.Tree.{Trees}
use Rattle.asl_meaning.specs.Declarations.{declarations, externals, known_of}
use Rattle.asl_meaning.specs.SourceSession.{source_session}
use Rattle.acpi_names.specs.Errors.{whole_of, name_errors, type_errors}
use Rattle.named_sessions.specs.Shaped.{AreShaped}
use Rattle.wrapped_externals.specs.Wraps.{wrapped_where}
use Rattle.wrapped_externals.proofs.Same.{same_wrapped}
use Rattle.wrapped_externals.proofs.Declared.{same_declarations, same_externals, same_known, same_whole}
use Rattle.wrapped_externals.proofs.Errors.{same_name_errors, same_type_errors}
use Rattle.wrapped_externals.proofs.Formed.{kept_shaped}

pub where_sessions : (asked : Bool) (width : Width) (known : Known) (terms : Trees) (there : Names) (n : ℕ) (answers : List Value) (requests : List Request)
    → source_session width known (wrapped_where asked terms) there n answers requests ≡ source_session width known terms there n answers requests
where_sessions true width known terms there n answers requests = same_wrapped width known terms there n answers requests
where_sessions false width known terms there n answers requests = refl

pub where_declarations : (asked : Bool) (program : Trees) → declarations (wrapped_where asked program) ≡ declarations program
where_declarations true program = same_declarations program
where_declarations false program = refl

pub where_externals : (asked : Bool) (program : Trees) → externals (wrapped_where asked program) ≡ externals program
where_externals true program = same_externals program
where_externals false program = refl

pub where_known : (asked : Bool) (program : Trees) → known_of (wrapped_where asked program) ≡ known_of program
where_known true program = same_known program
where_known false program = refl

pub where_whole : (asked : Bool) (program : Trees) → whole_of (wrapped_where asked program) ≡ whole_of program
where_whole true program = same_whole program
where_whole false program = refl

pub where_name_errors : (asked : Bool) (program : Trees) → name_errors (wrapped_where asked program) ≡ name_errors program
where_name_errors true program = same_name_errors program
where_name_errors false program = refl

pub where_type_errors : (asked : Bool) (program : Trees) → type_errors (wrapped_where asked program) ≡ type_errors program
where_type_errors true program = same_type_errors program
where_type_errors false program = refl

pub where_shaped : (asked : Bool) (terms : Trees) → AreShaped terms → AreShaped (wrapped_where asked terms)
where_shaped true terms h = kept_shaped terms h
where_shaped false terms h = h
