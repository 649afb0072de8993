-- The lists of the code.
use Rattle.descriptor_fields.specs.declared.values.Among.{Among as CodeAmong}
use Rattle.descriptor_fields.specs.Values.{Among, Arguments, Contents, OfCall}

abbrev pub among_as : CodeAmong → Among
among_as (CodeAmong.Arguments op) = Arguments op
among_as (CodeAmong.Contents op) = Contents op
among_as CodeAmong.Call = OfCall
