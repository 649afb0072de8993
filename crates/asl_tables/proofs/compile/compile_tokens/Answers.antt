use Rattle.std.proofs.Common.{◌≡◌, Err, refl, sym, subst}
use Rattle.std.specs.Prelude.{IfOk}
use Rattle.asl_parser.specs.Parse.{outcome}
use Rattle.asl_shape.proofs.Units.{each_right}
use Rattle.block_outcomes.specs.Joined.{joined}
use Rattle.asl_tables.specs.Compiled.{all_noted, outcomes_in, of_outcome, TellsWithin}
use Rattle.asl_tables.specs.Reads.{items_in}
use Rattle.asl_tables.proofs.Homes.{same_home}
use Rattle.asl_tables.proofs.Items.{each_right_read, items_come, ascii_comes, joined_in_ascii}
use Rattle.asl_tables.proofs.Outcomes.{read_is, refusal_is, refusal_known}
use Rattle.asl_tables.proofs.compile.compile_tokens.Goals as goal

pub compile_items-requires : goal.compile_items-requires
compile_items-requires c =
    let items = items_in (outcome c.args.tokens) in let source = c.in-Ok.ensures.source in
    each_right_read items c.in-Ok.reads.items source.kept (each_right items source.no_errors) source.blocks

pub returns-in-Ok-clause-value : goal.returns-in-Ok-clause-value
returns-in-Ok-clause-value c =
    let items = items_in (outcome c.args.tokens) in let source = c.in-Ok.ensures.source in
    subst (λ it. IfOk c.compile_items.result (λ compiled. compiled ≡ it)) (read_is c.args.style c.args.lines.now c.args.tokens items source.tree)
    (items_come c.args.style c.args.lines.now c.compile_items.result items source.no_errors (c.compile_items.ensures items source.kept (each_right items source.no_errors) source.blocks))

pub returns-in-Ok-clause-own : goal.returns-in-Ok-clause-own
returns-in-Ok-clause-own c =
    let items = items_in (outcome c.args.tokens) in let source = c.in-Ok.ensures.source in
    ascii_comes c.compile_items.result (joined (all_noted items) (outcomes_in c.args.style c.args.lines.now items))
    (joined_in_ascii c.args.style c.args.lines.now items (each_right items source.no_errors) source.kept)
    (c.compile_items.ensures items source.kept (each_right items source.no_errors) source.blocks)

pub returns-in-Ok-clause-within : goal.returns-in-Ok-clause-within
returns-in-Ok-clause-within c = λ files main h.
    same_home files c.compile_items.result (of_outcome c.args.style c.args.lines.now c.args.tokens (outcome c.args.tokens)) (returns-in-Ok-clause-value c) (c.in-Ok.ensures.within files main h c.args.style c.args.lines.now)

pub returns-in_ok-refusal-in-Err-clause-within : goal.returns-in_ok-refusal-in-Err-clause-within
returns-in_ok-refusal-in-Err-clause-within c = λ files main h.
    let stage = c.in-Err.stage in let messages = c.in_ok-refusal-in-Err.field-0 in let style = c.args.style in let lines = c.args.lines.now in
    let it = of_outcome style lines c.args.tokens (outcome c.args.tokens) in
    subst (TellsWithin files) (sym (refusal_is stage messages c.args.tokens style lines c.in_ok-refusal-in-Err.ensures.refused c.in-Err.ensures.refused))
    (refusal_known {V = Unit {0}} (Err stage) stage messages (TellsWithin files it) refl c.in_ok-refusal-in-Err.ensures.refused (c.in-Err.ensures.within files main h style lines))
