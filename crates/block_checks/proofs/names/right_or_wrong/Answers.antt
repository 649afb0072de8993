use Rattle.std.proofs.Common.{◌≡◌, false, length, ap, arith}
use Rattle.asl_tree.specs.View.{trees_of}
use Rattle.name_checks.specs.Messages.{told_errors}
use Rattle.block_checks.proofs.Named.{none_told, stage_named, no_flags}
use Rattle.block_checks.proofs.names.right_or_wrong.Goals as goal

pub returns-in-Ok : goal.returns-in-Ok
returns-in-Ok c =
    let is = c.in-Ok.ensures in
    let none : length c.new.result.items ≡ 0 = ap length c.new.ensures.items in (
      record { size = is.size; sized = is.sized; names = is.names; calls = is.calls; few = omega (arith, none); beside = no_flags _ c.new.result.items c.new.ensures.items; no_names = is.right.0; no_kinds = is.right.1 },
      none_told (trees_of c.args.known.terms.now) is.right.0 is.right.1,
    )

pub returns-in_ok-refusal-in-Err : goal.returns-in_ok-refusal-in-Err
returns-in_ok-refusal-in-Err c =
    let terms = trees_of c.args.known.terms.now in
    stage_named c.in-Err.stage c.in_ok-refusal-in-Err.field-0 (told_errors terms) (λ path. false) terms c.in-Err.ensures.refused c.in_ok-refusal-in-Err.ensures.refused
