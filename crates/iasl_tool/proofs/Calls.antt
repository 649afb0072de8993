-- What a call carries out follows from how it ends; what it leaves of the boxes, from what it decided and made.
use Rattle.std.proofs.Common.{◌≡◌, ℕ, Bool, false, List, Result, arith, ◌∙◌}
use Rattle.iasl_ports.specs.declared.delivery.Due.{Due}
use Rattle.iasl_ports.specs.declared.delivery.Stop.{Stop}
use Rattle.iasl_messages.specs.declared.place.Piece.{Piece}
use Rattle.iasl_runs.specs.Ends.{FilesSeen, OutputsSeen, ConsoleSeen, World, Ends, Finishes}
use Rattle.iasl_backends.specs.declared.backend.Kind.{Kind}
use Rattle.iasl_options.specs.Task.{task_by}
use Rattle.table_outputs.specs.declared.decision.Decision.{Decision}
use Rattle.table_outputs.specs.declared.outputs.Rendered.{Rendered}
use Rattle.table_outputs.specs.Decision.{Settles, IsDecidedFor, IsRendered, IsDueOfRendered, asks_for_text}
use Rattle.table_outputs.specs.Boxes.{HoldsAsked, AreRendered, ChangesBy}
use Rattle.table_outputs.proofs.BoxLaws.{due_then, boxes_kept, boxes_of_text, boxes_as_before, boxes_rendered}
use Rattle.iasl_tool.specs.Due.{answer_for, pieces_for, fault_text, memory_text}
use Rattle.iasl_tool.specs.Calls.{CarriesOut, LeavesBoxes, kinds_for}
use Rattle.iasl_tool.proofs.Headline.{are_its_files, writes_its_tables, source_is_put, data_is_put}
use Rattle.iasl_tool.proofs.Refusals.{refuses, complete_refusal}
use Rattle.iasl_tool.proofs.Pieces.{no_text_alone, over_its_table, over_its_data}

pub carries_out : (words : List (List ℕ)) (status : ℕ) (before after : World) → Ends (answer_for words) fault_text memory_text status before after → CarriesOut words status before after
carries_out words status before after end = record {
  ends = end;
  due = λ tables told is. are_its_files words told tables.no_text tables.no_template;
  headline = λ zero tables told is.
      writes_its_tables words told before after tables.no_text tables.no_template (end.settled (omega (arith, zero)) told is ∙ zero) ((end.outs told is).ended (omega (arith, zero)));
  complete = λ quiet told is request items source. source_is_put words told request items status before after source (end.quiet told is quiet) (end.outs told is).ended;
  complete_data = λ quiet told is request table text. data_is_put words told request table status before after text (end.quiet told is quiet) (end.outs told is).ended;
  refuses = λ one told is. refuses words status before after told end is one;
  complete_refusal = λ quiet told is request fetched messages refused. complete_refusal words status before after told end is request fetched messages refused quiet;
}

module _ {X : Type 0} (kind_of : X → Kind) (pieces_of : X → List Piece) (is_finished : X → Bool) (words : List (List ℕ)) (status : ℕ) (old new : List X)
    (files now_files : FilesSeen) (put now_put : OutputsSeen) (told now_told : ConsoleSeen) (decided : Result Decision Stop) (rendered : Result Rendered Stop) (made : Result Due Stop)
    (settles : Settles (answer_for words) (pieces_for words) (IsDecidedFor (task_by words)) decided files now_files) (renders : IsRendered decided rendered) (lends : IsDueOfRendered rendered made)
    (changes : ChangesBy kind_of pieces_of is_finished decided rendered old new) (finishes : Finishes fault_text memory_text made status put now_put told now_told) where
  -- the boxes after 0, where preprocessed text alone is not asked for
  rendered_boxes : status ≡ 0 → asks_for_text words ≡ false → HoldsAsked kind_of (kinds_for words) old new × AreRendered pieces_of is_finished (kinds_for words) new (answer_for words) (pieces_for words) files.contents
  rendered_boxes zero no_text =
      boxes_rendered kind_of pieces_of is_finished (task_by words) old new fault_text memory_text status put now_put told now_told (answer_for words) (pieces_for words) files now_files decided rendered made
      settles (due_then decided rendered made renders lends) lends changes finishes zero no_text

  pub leaves_boxes : LeavesBoxes kind_of pieces_of is_finished words files.contents status old new
  leaves_boxes = record {
    boxes = boxes_kept kind_of pieces_of is_finished (task_by words) old new decided rendered settles.settled changes;
    as_before = boxes_as_before kind_of pieces_of is_finished (task_by words) old new fault_text memory_text status put now_put told now_told decided rendered made (due_then decided rendered made renders lends) changes finishes;
    text_alone = boxes_of_text kind_of pieces_of is_finished (task_by words) old new decided rendered settles.settled changes;
    rendered = rendered_boxes;
    over_its_table = λ zero all is request items source.
        let lines = source.named in
        let boxes = (rendered_boxes zero (no_text_alone words all request lines.files lines.lines lines.notes lines.come)).1 in
        over_its_table pieces_of is_finished (kinds_for words) new (answer_for words) words all files.contents is boxes request items source;
    over_its_data = λ zero all is request table text.
        let lines = text.named in
        let boxes = (rendered_boxes zero (no_text_alone words all request lines.files lines.lines lines.notes lines.come)).1 in
        over_its_data pieces_of is_finished (kinds_for words) new (answer_for words) words all files.contents is boxes request table text;
  }
