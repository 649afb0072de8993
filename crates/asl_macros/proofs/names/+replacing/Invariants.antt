use Rattle.std.proofs.Common.{◌≡◌, ◌++◌, ◌≤◌, map, length, ◌+◌, ◌*◌}
use Rattle.asl_fragments.specs.Fragments.{fragments}
use Rattle.asl_macros.specs.Table.{text_at}
use Rattle.asl_macros.specs.Replacement.{with_values, value_of, text_with_values}
use Rattle.asl_macros.proofs.names.+replacing.Given as goal

abbrev pub decreases-add_value : goal.decreases-add_value
decreases-add_value l = 3 * l.levels

abbrev pub decreases-add_piece : goal.decreases-add_piece
decreases-add_piece l = 3 * l.levels + 1

abbrev pub decreases-add_text : goal.decreases-add_text
decreases-add_text l = 3 * l.levels + 2

abbrev pub invariant-add_text-loop-rest : goal.invariant-add_text-loop-rest
invariant-add_text-loop-rest l =
    let value = value_of l.levels l.rule.within (text_at l.rule.macros.now) (map (λ other. other.now) l.fn.active.items) in
    record {
      added : l.out.items ++ with_values l.rule.within value l.context (fragments l.inside l.rest) ≡ l.fn.out.items ++ text_with_values l.rule.within value l.in_comment l.text;
      active : l.active.items ≡ l.fn.active.items;
      within : length l.out.items ≤ l.rule.limit;
    }

abbrev pub decreases-add_text-loop-rest : goal.decreases-add_text-loop-rest
decreases-add_text-loop-rest l = length l.rest
