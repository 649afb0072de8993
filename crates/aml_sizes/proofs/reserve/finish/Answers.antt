use Rattle.std.proofs.Common.{◌++◌, ◌∷◌, [], ◌+◌, ◌∙◌, length, reverse, sym, ap, arith}
use Rattle.aml_code.specs.Header.{header_length, header_with, checksum_of, fields_of}
use Rattle.aml_sizes.specs.Styles.{style_of}
use Rattle.aml_sizes.specs.TermLists.{terms_bytes}
use Rattle.aml_sizes.specs.Pieces.{nodes_pieces}
use Rattle.aml_sizes.specs.Rooms.{blank, size_of, blanks, sizes}
use Rattle.aml_sizes.specs.PackageLengths.{terms_lengths}
use Rattle.aml_sizes.proofs.NotedLengths.{all_noted}
use Rattle.aml_sizes.proofs.Rooms.{turned}
use Rattle.aml_sizes.proofs.Encodings.{header_size}
use Rattle.aml_sizes.proofs.reserve.finish.Goals as goal

pub returns-in-Some : goal.returns-in-Some
returns-in-Some c =
    let block = c.args.block.now in
    let style = style_of block c.args.short in
    let terms = nodes_pieces style c.args.lines.now block.terms.items in
    let content = terms_bytes style block.terms.items in
    let size = header_length + length content in
    let check = checksum_of (header_with (fields_of block) size 0 ++ content) in
    record {
      pieces = c.from_vec.ensures ∙ c.reverse.ensures.items
          ∙ ap reverse (c.in_ok-push.ensures.items ∙ ap (λ ps. ps ++ c.in_ok-blank.field-0 ∷ []) c.requires.pieces ∙ ap (λ p. blanks terms ++ p ∷ []) c.in_ok-blank.ensures)
          ∙ turned blank terms _;
      spaces = c.from_vec-in-Some.ensures ∙ c.reverse-2.ensures.items
          ∙ ap reverse (c.in_ok-push-2.ensures.items ∙ ap (λ ns. ns ++ c.in_ok-of.field-0 ∷ []) c.requires.spaces ∙ ap (λ n. sizes terms ++ n ∷ []) (c.in_ok-of.ensures ∙ sym (header_size (fields_of block) size check)))
          ∙ turned size_of terms _;
      lengths = all_noted (terms_lengths style block.terms.items) _ _ c.requires.lengths (sym c.into_lengths.ensures ∙ c.in-Some.is);
      within = omega (arith, c.requires.size, c.args.draft.within);
    }
