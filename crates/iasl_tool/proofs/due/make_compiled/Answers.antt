use Rattle.std.proofs.Common.{ℕ, length, sym, subst}
use Rattle.iasl_tool.specs.Due.{pieces_of_lines}
use Rattle.iasl_options.specs.Shown.{asked_of}
use Rattle.asl_tables.specs.Compiled.{AreWithin, TellsWithin, HasAsciiNames}
use Rattle.iasl_tool.specs.Outputs.{HasTable}
use Rattle.iasl_tool.proofs.Sorting.{both_within}
use Rattle.iasl_tool.proofs.due.make_compiled.Goals as goal

pub make_tables-requires-clause-notes : goal.make_tables-requires-clause-notes
make_tables-requires-clause-notes c =
    let files : ℕ = length c.args.lines.now.files in
    let told : AreWithin files c.in-Made.told = subst (TellsWithin files) c.in-Made.is c.in_ok-tables.ensures.within in
    subst (AreWithin files) (sym c.in_ok-both-in-Made.ensures) (both_within files c.args.notes c.in-Made.told c.requires.notes told)

pub make_tables-requires-clause-some : goal.make_tables-requires-clause-some
make_tables-requires-clause-some c = subst HasTable c.in-Made.is c.in_ok-tables.ensures.some

pub make_tables-requires-clause-own : goal.make_tables-requires-clause-own
make_tables-requires-clause-own c = subst HasAsciiNames c.in-Made.is c.in_ok-tables.ensures.own

pub decide_refusal-requires : goal.decide_refusal-requires
decide_refusal-requires c =
    let files : ℕ = length c.args.lines.now.files in
    let told : AreWithin files c.in-Refused.messages = subst (TellsWithin files) c.in-Refused.is c.in_ok-tables.ensures.within in
    subst (AreWithin files) (sym c.in_ok-both-in-Refused.ensures) (both_within files c.args.notes c.in-Refused.messages c.requires.notes told)

pub returns-in_ok-both-in-Refused-clause-decided : goal.returns-in_ok-both-in-Refused-clause-decided
returns-in_ok-both-in-Refused-clause-decided c = c.decide_refusal.ensures.decided (asked_of c.args.options.now)

pub returns-in_ok-both-in-Refused-clause-made : goal.returns-in_ok-both-in-Refused-clause-made
returns-in_ok-both-in-Refused-clause-made c = c.decide_refusal.ensures.made (pieces_of_lines (asked_of c.args.options.now) c.args.lines.now.list)
