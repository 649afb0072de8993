use Rattle.std.proofs.Common.{List, [], Ok, map, ap, ◌∙◌, append-nil}
use Rattle.acpi_extract.specs.Dump.{Dumped}
use Rattle.acpi_extract.specs.Table.{dumped}
use Rattle.acpi_extract.proofs.Taking.{ended, halts_along, halts_after}
use Rattle.acpi_extract.proofs.dump.Reader.end.Goals as goal

pub returns-in-Ok-clause-tables : goal.returns-in-Ok-clause-tables
returns-in-Ok-clause-tables c =
    ended (map dumped c.args.self.done) c.args.self.unfinished ∙ c.in-Ok.ensures.closed (Ok []) ∙ ap (λ (tables : List Dumped). Ok tables) (append-nil (map dumped c.close.new.self.done))

pub returns-in-Err-clause-refused : goal.returns-in-Err-clause-refused
returns-in-Err-clause-refused c =
    let old = c.args.self in
    halts_along c.in-Err.halt _ _ (ended (map dumped old.done) old.unfinished) (halts_after c.in-Err.halt (map dumped old.done) _ (c.in-Err.ensures.refused (Ok [])))
