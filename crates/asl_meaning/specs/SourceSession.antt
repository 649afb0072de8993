-- The session of a source.
use Rattle.std.specs.Prelude.{ℕ, false, List, []}
use Rattle.acpi_values.specs.declared.width.Width.{Width}
use Rattle.acpi_values.specs.Values.{Value}
use Rattle.acpi_state.specs.Objects.{Names}
use Rattle.acpi_state.specs.Sessions.{Report, Request, initial, session}
use Rattle.asl_tree.specs.Names.{Known}
use Rattle.asl_tree.specs.Tree.{Trees}
use Rattle.asl_meaning.specs.Meaning.{run_all, call_method}

-- the terms of a block are loaded, and then the calls are made; `known` is what the block's paths are, `there` are
-- the objects of other tables that are there, `n` bounds turns and nesting, and `answers` are those of the hardware
abbrev pub source_session : Width → Known → Trees → Names → ℕ → List Value → List Request → List Report
source_session width known terms there n answers requests =
    session (run_all width known n (call_method width known n n) terms [] false) (call_method width known n n) (initial there answers)
    requests
