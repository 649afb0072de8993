use Rattle.std.proofs.Common.{Err, subst}
use Rattle.program_shapes.proofs.Kept.{is_kept}
use Rattle.asl_tables.specs.Compiled.{TellsWithin, of_outcome}
use Rattle.asl_tables.specs.Syntax.{at_token}
use Rattle.asl_parser.specs.Parse.{outcome}
use Rattle.asl_tables.proofs.Homes.{items_home, at_token_home}
use Rattle.asl_tables.proofs.Outcomes.{read_is, stop_is, deep_is, read_source, unit_refused, message_refused, unless_memory}
use Rattle.asl_tables.proofs.compile.read_tokens.Goals as goal

pub returns-in-Ok-clause-source : goal.returns-in-Ok-clause-source
returns-in-Ok-clause-source c =
    let unit = c.in-Ok.unit in
    read_source c.read_unit.result (λ v. v.items) c.args.tokens unit.items c.in-Ok.ensures.exact (is_kept unit.items c.args.tokens c.in-Ok.ensures.spelled c.requires.few c.requires.short) c.read_unit.ensures.errors c.read_unit.ensures.reads

pub returns-in-Ok-clause-refused : goal.returns-in-Ok-clause-refused
returns-in-Ok-clause-refused c = unit_refused c.read_unit.result c.args.tokens c.in-Ok.unit.items c.in-Ok.ensures.exact c.read_unit.ensures.refused

pub returns-in-Ok-clause-within : goal.returns-in-Ok-clause-within
returns-in-Ok-clause-within c = λ files main h style lines.
    let items = c.in-Ok.unit.items in
    unless_memory c.read_unit.result (TellsWithin files (of_outcome style lines c.args.tokens (outcome c.args.tokens)))
    (subst (TellsWithin files) (read_is style lines c.args.tokens items c.in-Ok.ensures.exact) (items_home files style lines items (c.in-Ok.ensures.within files h) main))

pub returns-in-Err-Stop-clause-refused : goal.returns-in-Err-Stop-clause-refused
returns-in-Err-Stop-clause-refused c =
    let stops = rw c.in-Err-Stop.field-0-is at c.in-Err-Stop.ensures.exact in let token = c.in-Err-Stop.token in
    message_refused c.refuse_at.result (at_token 6015 c.args.tokens token) c.args.tokens (rw c.in-Err-Stop.token-is at c.refuse_at.ensures) (λ style lines. stop_is style lines c.args.tokens token stops)

pub returns-in-Err-Stop-clause-within : goal.returns-in-Err-Stop-clause-within
returns-in-Err-Stop-clause-within c = λ files main h style lines.
    let stops = rw c.in-Err-Stop.field-0-is at c.in-Err-Stop.ensures.exact in let token = c.in-Err-Stop.token in
    unless_memory {V = Unit {0}} (Err c.refuse_at.result) (TellsWithin files (of_outcome style lines c.args.tokens (outcome c.args.tokens)))
    (subst (TellsWithin files) (stop_is style lines c.args.tokens token stops) (at_token_home files 6015 c.args.tokens token h main))

pub returns-in-Err-TooDeep-clause-refused : goal.returns-in-Err-TooDeep-clause-refused
returns-in-Err-TooDeep-clause-refused c =
    let sinks = rw c.in-Err-TooDeep.field-0-is at c.in-Err-TooDeep.ensures.exact in let token = c.in-Err-TooDeep.token in
    message_refused c.refuse_at-in-Err-TooDeep.result (at_token 6016 c.args.tokens token) c.args.tokens (rw c.in-Err-TooDeep.token-is at c.refuse_at-in-Err-TooDeep.ensures) (λ style lines. deep_is style lines c.args.tokens token sinks)

pub returns-in-Err-TooDeep-clause-within : goal.returns-in-Err-TooDeep-clause-within
returns-in-Err-TooDeep-clause-within c = λ files main h style lines.
    let sinks = rw c.in-Err-TooDeep.field-0-is at c.in-Err-TooDeep.ensures.exact in let token = c.in-Err-TooDeep.token in
    unless_memory {V = Unit {0}} (Err c.refuse_at-in-Err-TooDeep.result) (TellsWithin files (of_outcome style lines c.args.tokens (outcome c.args.tokens)))
    (subst (TellsWithin files) (deep_is style lines c.args.tokens token sinks) (at_token_home files 6016 c.args.tokens token h main))
