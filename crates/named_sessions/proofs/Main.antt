-- The bytes of a program without errors do what the program does.
use Rattle.std.proofs.Common.{◌≡◌, ℕ, ◌+◌, ◌<◌, ◌^◌, Bool, List, [], length, ◌∙◌}
use Rattle.acpi_values.specs.Paths.{AbsolutePath}
use Rattle.acpi_values.specs.declared.width.Width.{Width}
use Rattle.acpi_state.specs.Sessions.{present_ones}
use Rattle.asl_meaning.specs.Declarations.{nothing_declared, declarations, externals, known_of}
use Rattle.asl_tree.specs.Tree.{Trees}
use Rattle.aml_meaning.specs.Encoded.{encoded_terms}
use Rattle.aml_meaning.specs.ByteSession.{definition_bytes, width_in, IsFaithful}
use Rattle.aml_sessions.specs.Ready.{AreReady}
use Rattle.aml_sessions.proofs.Nested.{nested_ready}
use Rattle.aml_sessions.proofs.Sessions.{faithful}
use Rattle.acpi_names.specs.Errors.{whole_of, name_errors, type_errors}
use Rattle.named_sessions.specs.Shaped.{AreShaped}
use Rattle.named_sessions.specs.Core.{says_of, core_beside}
use Rattle.named_sessions.proofs.Spelled.{same_source}
use Rattle.named_sessions.proofs.Ready.{within_same, ready_all}
use Rattle.named_sessions.proofs.Settles.{settles, knows_start}

-- a shaped program without errors is ready once its names are spelled
pub is_ready : (shorten : Bool) (also : AbsolutePath → Bool) (program : Trees) → AreShaped program → name_errors program ≡ [] → type_errors program ≡ [] → AreReady (Unit {0}) (known_of program) (core_beside shorten also program) []
is_ready shorten also program shaped names types =
    ready_all shorten also (whole_of program) (says_of program) (settles program names) program [] nothing_declared shaped tt names types (within_same (declarations program))

-- and bytes of that width whose definition is the encoding of that do what the program does
pub is_faithful : (shorten : Bool) (also : AbsolutePath → Bool) (width : Width) (short : Bool) (program : Trees) (bytes : List ℕ) → AreShaped program → name_errors program ≡ [] → type_errors program ≡ [] → width_in bytes ≡ width → length (encoded_terms width short (core_beside shorten also program)) + 4 < 2 ^ 28
    → definition_bytes bytes ≡ encoded_terms width short (core_beside shorten also program) → IsFaithful width (known_of program) (externals program) program bytes
is_faithful shorten also width short program bytes shaped names types wide fits is =
    let h = faithful width (known_of program) short (externals program) (core_beside shorten also program) bytes (knows_start program names) (nested_ready (known_of program) (core_beside shorten also program) [] (is_ready shorten also program shaped names types)) wide fits is in
    record {
      same = λ present n answers requests asked. same_source shorten also width (says_of program) (known_of program) program shaped (present_ones (externals program) present) n answers requests ∙ h.same present n answers requests asked;
      whole = h.whole;
    }
