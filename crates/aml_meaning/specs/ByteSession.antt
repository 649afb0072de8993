-- The session of a table's bytes.
use Rattle.std.specs.Prelude.{◌≡◌, ℕ, ◌-◌, List, [], take, drop, slice_index}
use Rattle.byteorder.specs.Endian.{little_number}
use Rattle.acpi_values.specs.declared.width.Width.{Width}
use Rattle.acpi_values.specs.Revisions.{width_of}
use Rattle.acpi_values.specs.Paths.{AbsolutePath}
use Rattle.acpi_values.specs.Values.{Value}
use Rattle.acpi_state.specs.Objects.{Names}
use Rattle.acpi_state.specs.Asked.{IsAsked}
use Rattle.acpi_state.specs.Sessions.{Report, Request, present_ones, AreWhole, initial, session}
use Rattle.asl_tree.specs.Tree.{Trees}
use Rattle.asl_tree.specs.Names.{Known}
use Rattle.asl_meaning.specs.SourceSession.{source_session}
use Rattle.aml_code.specs.Header.{header_length}
use Rattle.aml_meaning.specs.ByteMeaning.{walk_list, call_method}

-- the bytes from the header's end to the length that the header says
abbrev pub definition_bytes : List ℕ → List ℕ
definition_bytes bytes = take (little_number 4 (drop 4 bytes) - header_length) (drop header_length bytes)

-- the width that the header says: the revision is the byte at 8
abbrev pub width_in : List ℕ → Width
width_in bytes = width_of (slice_index bytes 8)

-- the table is loaded, and then the calls are made, at the width that its header says; `there` are the external objects
-- that are there, `n` bounds turns and nesting, and `answers` are those of the hardware
abbrev pub byte_session : List ℕ → Names → ℕ → List Value → List Request → List Report
byte_session bytes there n answers requests =
    let width = width_in bytes in
    session (walk_list width n (call_method width n n) (definition_bytes bytes) []) (call_method width n n) (initial there answers) requests

-- For every choice of present externals, bound, answers and calls that may be asked, the source and the bytes have
-- the same outcomes, objects, values, events and answers left, and no walk meets bytes that start no term.
pub record IsFaithful (width : Width) (known : Known) (externals : Names) (terms : Trees) (bytes : List ℕ) : Type 0 where
  pub same : (present : List AbsolutePath) (n : ℕ) (answers : List Value) (requests : List Request) → IsAsked width n answers requests →
      source_session width known terms (present_ones externals present) n answers requests ≡ byte_session bytes
      (present_ones externals present) n answers requests
  pub whole : (present : List AbsolutePath) (n : ℕ) (answers : List Value) (requests : List Request) → IsAsked width n answers requests →
      AreWhole (byte_session bytes (present_ones externals present) n answers requests)
