-- What does as a program with what stands for its Printf, Fprintf and For does as the program.
use Rattle.std.proofs.Common.{◌≡◌, ℕ, List, [], sym, ◌∙◌, subst}
use Rattle.acpi_values.specs.declared.width.Width.{Width}
use Rattle.acpi_state.specs.Sessions.{present_ones}
use Rattle.asl_tree.specs.FieldItems.{FieldItem}
use Rattle.asl_tree.specs.Tree.{Trees, UnitName}
use Rattle.asl_meaning.specs.Declarations.{externals, known_of}
use Rattle.acpi_names.specs.Errors.{name_errors, type_errors}
use Rattle.aml_meaning.specs.ByteSession.{IsFaithful}
use Rattle.named_sessions.specs.Shaped.{AreFormed}
use Rattle.asl_prints.specs.Forms.{formed_all}
use Rattle.asl_formats.proofs.Formed.{same_formed}
use Rattle.form_shapes.specs.Near.{AreNear}
use Rattle.form_shapes.proofs.Names.{same_externals, same_known}

pub does_formed : (Listed : List (FieldItem UnitName) → Type 0) (Symbols Switches : Type 0) (program : Trees) → AreFormed (Unit {0}) Listed Symbols Switches program → AreNear program → name_errors program ≡ [] → type_errors program ≡ []
    → (width : Width) (bytes : List ℕ) → IsFaithful width (known_of (formed_all program)) (externals (formed_all program)) (formed_all program) bytes → IsFaithful width (known_of program) (externals program) program bytes
does_formed Listed Symbols Switches program formed near names counts width bytes faithful =
    let made : Trees = formed_all program in
    let known : IsFaithful width (known_of program) (externals made) made bytes
    = subst (λ known. IsFaithful width known (externals made) made bytes) (same_known Listed Symbols Switches program formed near names counts) faithful in
    let both : IsFaithful width (known_of program) (externals program) made bytes
    = subst (λ others. IsFaithful width (known_of program) others made bytes) (same_externals Listed Symbols Switches program formed near names counts) known in
    record {
      same = λ present n answers requests asked. sym (same_formed width (known_of program) program (present_ones (externals program) present) n answers requests) ∙ both.same present n answers requests asked;
      whole = both.whole;
    }
