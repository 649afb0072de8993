use Rattle.std.proofs.Common.{◌≡◌, ◌+◌, ◌++◌, [], ◌∷◌, length, drop, map, sym, ap, ◌∙◌, subst, rules}
use Rattle.aml_code.specs.Header.{header_length, header_with, checksum_of, fields_of}
use Rattle.aml_sizes.specs.Pieces.{joined_pieces}
use Rattle.aml_writer.specs.Fills.{bytes_of, joined_parts, Fills, header_for}
use Rattle.aml_writer.proofs.Fills.{parts_joined, tail_is}
use Rattle.aml_writer.proofs.fill.fill_header.Goals as goal

pub returns : goal.returns
returns c =
    let fields = fields_of c.args.block.now in
    let size = header_length + c.args.filling.now.size in
    let ps = drop (length c.args.filling.now.spaces.items) c.args.filling.now.pieces.items in
    let count : c.len.result ≡ length c.args.filling.now.spaces.items = search rules in
    let told : c.completing_byte-checksum.result ≡ checksum_of (c.header-unchecked.result ++ joined_pieces ps) =
    c.completing_byte-checksum.ensures ∙ ap (λ qs. checksum_of (c.header-unchecked.result ++ joined_pieces qs)) (tail_is c.len.result (length c.args.filling.now.spaces.items) c.deref.result.now c.args.filling.now.pieces.items count c.deref.ensures.value) in
    let check : c.completing_byte-checksum.result ≡ checksum_of (header_with fields size 0 ++ joined_parts (map bytes_of ps)) =
    told ∙ ap (λ bs. checksum_of (bs ++ joined_pieces ps)) c.header-unchecked.ensures ∙ ap (λ bs. checksum_of (header_with fields size 0 ++ bs)) (sym (parts_joined ps)) in
    let same : c.header-whole.result ≡ header_for c.args.block.now c.args.filling.now.size (map bytes_of ps) = c.header-whole.ensures ∙ ap (header_with fields size) check in
    subst (λ bs. Fills (bs ∷ []) c.args.filling.now.spaces.items c.fill_bytes.new.filling.spaces.items c.args.filling.now.pieces.items c.fill_bytes.new.filling.pieces.items) same c.fill_bytes.ensures
