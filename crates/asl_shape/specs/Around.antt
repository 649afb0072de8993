-- What a part of a source stands in.
use Rattle.std.specs.Prelude.{true, false}
use Rattle.acpi_values.specs.declared.width.Width.{Width}
use Rattle.asl_shape.specs.declared.around.Around.{Around}

-- no method, in a table of this width
abbrev pub outside : Width → Around
outside width = record { method = false; width = width }

-- a method there
abbrev pub in_method : Around → Around
in_method around = record { method = true; width = around.width }
