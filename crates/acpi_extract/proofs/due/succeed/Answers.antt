use Rattle.std.proofs.Common.{◌≡◌, ℕ, List, [], ◌∷◌, ◌++◌, ◌+◌, ◌∙◌, sym, ap, map, cond}
use Rattle.std.proofs.lemmas.List.{map-append}
use Rattle.std.specs.Str.{bytes_eq}
use Rattle.acpi_extract.specs.Table.{dumped}
use Rattle.acpi_extract.specs.Due.{count_of, file_of, line_of}
use Rattle.acpi_extract.specs.Dump.{Dumped, stem_of}
use Rattle.acpi_extract.specs.Asking.{asked_by}
use Rattle.acpi_extract.proofs.Numbering.{count_next, part_next}
use Rattle.acpi_extract.proofs.due.succeed.Goals as goal

pub loop-table-preserved : goal.loop-table-preserved
loop-table-preserved c =
    let table = c.in-Some.table in
    let before : List Dumped = map dumped c.loop-table.yielded in
    let after : List Dumped = map dumped (c.loop-table.yielded ++ table ∷ []) in
    let behind : after ≡ before ++ dumped table ∷ [] = map-append dumped c.loop-table.yielded (table ∷ []) in
    let key = c.deref.result.now in
    let same : key ≡ stem_of table.signature = c.deref.ensures ∙ c.in_ok-stem.ensures ∙ ap stem_of c.as_bytes.ensures in
    let number : c.in_ok-number.number ≡ count_of (stem_of table.signature) before + 1 =
    c.in_ok-number.ensures.number ∙ ap (λ (n : ℕ). n + 1) (c.loop-table.invariant.counted key) ∙ ap (λ (s : List ℕ). count_of s before + 1) same in
    record {
      counted = λ stem.
          c.in_ok-number.ensures.counts stem
          ∙ ap (λ (n : ℕ). n + cond (bytes_eq stem key) 1 0) (c.loop-table.invariant.counted stem)
          ∙ ap (λ (s : List ℕ). count_of stem before + cond (bytes_eq stem s) 1 0) same
          ∙ sym (count_next stem before after (dumped table) behind);
      files = part_next (file_of (asked_by c.args.choice)) _ _ before after c.in_ok-number.number (dumped table) behind number c.in_ok-push_due.ensures.files c.loop-table.invariant.files;
      text = part_next (line_of (asked_by c.args.choice)) _ _ before after c.in_ok-number.number (dumped table) behind number c.in_ok-push_due.ensures.text c.loop-table.invariant.text;
    }
