-- The lines of a template, from the empty writer to the last.
use Rattle.std.proofs.Common.{◌≡◌, ◌+◌, ℕ, List, [], ◌++◌, length, sym, ap, ◌∙◌, append-nil}
use Rattle.data_layout.specs.declared.row.Row.{Row}
use Rattle.data_layout.specs.declared.table.Table.{Table}
use Rattle.data_layout.specs.Layout.{header_rows, fixed_rows}
use Rattle.data_generic.specs.declared.template.Writer.{Writer}
use Rattle.data_generic.specs.Templates.{revision_of, rows_behind, pieces_from, unsealed_pieces}
use Rattle.data_generic.specs.Writing.{told}

-- what three steps add to the empty writer are the pieces of the table
pub three_steps : (table : Table) (w0 w1 w2 w3 : Writer) (header fixed : List Row) (revision : ℕ) → header ≡ header_rows → revision ≡ revision_of table → fixed ≡ fixed_rows table revision → w0.pieces ≡ [] → w0.headings ≡ 0 → w0.table ≡ table → w2.table ≡ table
    → ((more : List Row) → told w0 (header ++ more) ≡ told w1 more) → ((more : List Row) → told w1 (fixed ++ more) ≡ told w2 more) → ((more : List Row) → told w2 (rows_behind w2.table ++ more) ≡ told w3 more)
    → w3.pieces ≡ unsealed_pieces table
three_steps table w0 w1 w2 w3 header fixed revision header_is revision_is fixed_is none zero here there one two three =
    let rows : fixed ≡ fixed_rows table (revision_of table) = fixed_is ∙ ap (fixed_rows table) revision_is in
    let behind : List Row = rows_behind table in
    let last : told w2 behind ≡ told w3 [] = ap (told w2) (sym (append-nil behind)) ∙ ap (λ (t : Table). told w2 (rows_behind t ++ [])) (sym there) ∙ three [] in
    sym (append-nil w3.pieces) ∙ sym last ∙ sym (two behind) ∙ sym (one (fixed ++ behind)) ∙ (λ i. none i ++ pieces_from (here i) (length (none i) + 1) (zero i) (header_is i ++ (rows i ++ behind)))
