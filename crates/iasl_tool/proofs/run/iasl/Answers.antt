use Rattle.std.proofs.Common.{map, string_bytes}
use Rattle.iasl_options.specs.Task.{task_by}
use Rattle.iasl_runs.specs.EndLaws.{ends}
use Rattle.table_outputs.proofs.BoxLaws.{decides, due_then, same_kinds}
use Rattle.iasl_tool.specs.Due.{answer_for, pieces_for, fault_text, memory_text}
use Rattle.iasl_tool.proofs.Calls.{carries_out, leaves_boxes}
use Rattle.iasl_tool.proofs.run.iasl.Goals as goal

pub render-rendered-requires-clause-kinds : goal.render-rendered-requires-clause-kinds
render-rendered-requires-clause-kinds g c = same_kinds (task_by (map string_bytes c.args.words.now)) c.decide-decided.result c.decide-decided.ensures.settled

pub returns-clause-carries_out : goal.returns-clause-carries_out
returns-clause-carries_out g c =
    carries_out (map string_bytes c.args.words.now) c.finish.result _ _
    (ends (answer_for (map string_bytes c.args.words.now)) fault_text memory_text c.finish.result _ _ _ _ _ _ c.lend-made.result
    (decides (answer_for (map string_bytes c.args.words.now)) (pieces_for (map string_bytes c.args.words.now)) (task_by (map string_bytes c.args.words.now)) c.decide-decided.result c.lend-made.result _ _ c.decide-decided.ensures
    (due_then c.decide-decided.result c.render-rendered.result c.lend-made.result c.render-rendered.ensures.rendered c.lend-made.ensures))
    c.finish.ensures)

pub returns-clause-leaves_boxes : goal.returns-clause-leaves_boxes
returns-clause-leaves_boxes g c =
    leaves_boxes (λ b. (goal.Backend-dyn g (b.vtable, b.value)).kind_of b.value) (λ b. (goal.Backend-dyn g (b.vtable, b.value)).pieces b.value) (λ b. (goal.Backend-dyn g (b.vtable, b.value)).finished b.value) (map string_bytes c.args.words.now) c.finish.result _ _
    _ _ _ _ _ _ c.decide-decided.result c.render-rendered.result c.lend-made.result
    c.decide-decided.ensures c.render-rendered.ensures.rendered c.lend-made.ensures c.render-rendered.ensures.boxes c.finish.ensures
